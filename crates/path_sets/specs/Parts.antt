-- What the private functions' contracts say of the words and lists that they pass on, and what is found of a body bit
-- by bit. Rests on sets' Local, on words.Filled and on lower_laws' Joined.
use Rattle.std.specs.Prelude.{◌≡◌, Bool, false, not, ◌&&◌, ◌||◌, List, ℕ, ◌≤◌, ◌<◌, eqb, length, get_or}
use Rattle.laws.specs.Terms.{bit, any}
use Rattle.words.specs.Filled.{Told}
use Rattle.form.specs.declared.Body.{Body}
use Rattle.form.specs.Conflict.{block, assigned}
use Rattle.lower_laws.specs.Joined.{by_way}
use Rattle.sets.specs.declared.Edges.{Edges}
use Rattle.sets.specs.declared.Local.{Local}
use Rattle.sets.specs.declared.Firsts.{Firsts}
use Rattle.sets.specs.declared.Sets.{Sets}
use Rattle.sets.specs.declared.Found.{Found}
use Rattle.sets.specs.Local.{Above}
use Rattle.path_sets.specs.declared.Leads.{Leads}
use Rattle.path_sets.specs.declared.Outcome.{Outcome}
use Rattle.path_sets.specs.declared.Outcome.TheVariants.{Jump, Fall}

-- the way's number in document 01
abbrev pub way_number : Outcome → ℕ
way_number Jump = 1
way_number Fall = 2

-- for each block, those of its set that are edges by one way
abbrev pub by : Outcome → Edges → List ℕ
by Jump edges = edges.jump
by Fall edges = edges.fall

-- ---- clean paths

-- a target for each block by each way, above the block
pub record Ways (jump fall : List ℕ) : Type 0 where
  pub jumps : length jump ≡ 64
  pub falls : length fall ≡ 64
  pub jumps_above : Above jump
  pub falls_above : Above fall

-- P holds for the blocks from which a path leads to s through blocks that do not touch test s
pub record Paths (jump fall touched : List ℕ) (s : ℕ) (P : ℕ → Bool) : Type 0 where
  pub step : (b : ℕ) → b < 64 → P b ≡ (not (bit (get_or touched b 0) s) &&
      (eqb b s || (P (get_or jump b 64) || P (get_or fall b 64))))
  pub top : (b : ℕ) → 64 ≤ b → P b ≡ false

-- what the word of block b has, by the paths to each s
abbrev pub ByPaths : (jump fall touched : List ℕ) → ((ℕ → Bool) → (b s : ℕ) → Bool) → (b x : ℕ) → Type 0
ByPaths jump fall touched f b x = (s : ℕ) (P : ℕ → Bool) → Paths jump fall touched s P → bit x s ≡ f P b s

-- a path from where a way of b leads
abbrev pub led : (targets : List ℕ) → (ℕ → Bool) → (b s : ℕ) → Bool
led targets P b s = P (get_or targets b 64)

-- by either way; or b is s
abbrev pub ahead : (jump fall : List ℕ) → (ℕ → Bool) → (b s : ℕ) → Bool
ahead jump fall P b s = eqb b s || (P (get_or jump b 64) || P (get_or fall b 64))

pub record LeadsOf (jump fall touched : List ℕ) (l : Leads) : Type 0 where
  pub jumps : Told 0 (ByPaths jump fall touched (led jump)) 64 64 l.jump
  pub falls : Told 0 (ByPaths jump fall touched (led fall)) 64 64 l.fall
  pub aheads : Told 0 (ByPaths jump fall touched (ahead jump fall)) 64 64 l.ahead

-- ---- the pairs of the conflict list

-- block f is a first of the edge of s by one way, by the edges that the blocks deny and oppose
abbrev pub pairs : Leads → (denied jumping falling : List ℕ) → (f s : ℕ) → Bool
pairs l denied jumping falling f s =
    (bit (get_or denied f 0) s && bit (get_or l.ahead f 0) s)
    || ((bit (get_or jumping f 0) s && bit (get_or l.jump f 0) s)
    || (bit (get_or falling f 0) s && bit (get_or l.fall f 0) s))

-- those s that have a first below b
abbrev pub ListedAt : Leads → (denied jumping falling : List ℕ) → (b x : ℕ) → Type 0
ListedAt l denied jumping falling b x = (s : ℕ) → bit x s ≡ any b (λ f. pairs l denied jumping falling f s)

-- b put into the words at the numbers of a set
pub record PutAt (rows : List ℕ) (set b : ℕ) (new : List ℕ) : Type 0 where
  pub size : length new ≡ 64
  pub at : (s : ℕ) → s < 64 → (j : ℕ) → bit (get_or new s 0) j ≡ bit (get_or rows s 0) j || (bit set s && eqb j b)

-- the blocks whose words have s, in both rows
abbrev pub BothAt : (one two : List ℕ) → (s x : ℕ) → Type 0
BothAt one two s x = (j : ℕ) → bit x j ≡ bit (get_or one j 0) s && bit (get_or two j 0) s

pub record FirstsOf (l : Leads) (denied jumping falling : List ℕ) (p : Firsts) : Type 0 where
  pub assigned : Told 0 (BothAt denied l.ahead) 64 64 p.assigned
  pub jumps : Told 0 (BothAt jumping l.jump) 64 64 p.jump
  pub falls : Told 0 (BothAt falling l.fall) 64 64 p.fall

-- what blocks say by themselves, and the edges that have a first below each block
abbrev pub sets_with : Local → Edges → Sets
sets_with own x = record {
  targets = own.targets;
  touched = own.touched;
  denied = own.denied;
  jumping = own.jumping;
  falling = own.falling;
  listed = x;
}

abbrev pub Listed : Local → Leads → Edges → Type 0
Listed own l x =
    Told 0 (ListedAt l own.denied.jump own.jumping.jump own.falling.jump) 64 64 x.jump
    × Told 0 (ListedAt l own.denied.fall own.jumping.fall own.falling.fall) 64 64 x.fall

abbrev pub SetsBy : Local → Leads → Sets → Type 0
SetsBy own l r = (r ≡ sets_with own r.listed) × Listed own l r.listed

-- ---- what is found of a body

-- bits of a row b that has a word for each block
abbrev pub Bits : (ℕ → ℕ → Bool) → ℕ → ℕ → Type 0
Bits f b x = (k : ℕ) → bit x k ≡ f b k

-- the firsts of a body's edges by one way, bit by bit
pub record FirstsBy (body : Body) (way : ℕ) (p : Firsts) : Type 0 where
  pub assigned : Told 0 (Bits (λ s j. assigned body j (s, way))) 64 64 p.assigned
  pub jumps : Told 0 (Bits (λ s j. by_way body 1 j (s, way))) 64 64 p.jump
  pub falls : Told 0 (Bits (λ s j. by_way body 2 j (s, way))) 64 64 p.fall

-- what is found of a body for its conflict list
pub record FoundBy (body : Body) (f : Found) : Type 0 where
  pub variables : Told 0 (λ k x. x ≡ (block body k).variable) 64 64 f.variable
  pub jumped : FirstsBy body 1 f.jumped
  pub fallen : FirstsBy body 2 f.fallen
