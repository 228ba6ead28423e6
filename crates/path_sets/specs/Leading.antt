-- The loop that finds clean paths, from the last block down: where it stands, its start, its turn and its end. Rests
-- on Parts.
use Rattle.std.specs.Prelude.{◌≡◌, ◌⊎◌, Bool, not, ◌&&◌, ◌||◌, List, ℕ, ◌+◌, ◌≤◌, ◌<◌, eqb, length, get_or, set}
use Rattle.std.proofs.Common.{sym, ap, ◌∙◌, inl, inr, arith, eqb-true, length-set, get_or-set_same, get_or-set_other}
use Rattle.std.proofs.Math.Bool.{and_comm, or_comm}
use Rattle.std.proofs.lemmas.Bool.{eqb-false}
use Rattle.laws.specs.Terms.{bit}
use Rattle.laws.specs.Tests.{split, eqb_swap}
use Rattle.laws.specs.Sets.{bit_none, below_or_not}
use Rattle.words.specs.Filled.{Told}
use Rattle.lower_laws.specs.Blocks.{within, beyond}
use Rattle.sets.specs.Local.{Above}
use Rattle.path_sets.specs.declared.Leads.{Leads}
use Rattle.path_sets.specs.Parts.{Ways, ByPaths, led, ahead, LeadsOf}

-- a list that tells what it should at the places from i on
pub record ToldFrom (Q : ℕ → ℕ → Type 0) (i : ℕ) (l : List ℕ) : Type 0 where
  pub size : length l ≡ 64
  pub at : (b : ℕ) → i ≤ b → b < 64 → Q b (get_or l b 0)

module _ (Q : ℕ → ℕ → Type 0) where
  from_none : (l : List ℕ) → length l ≡ 64 → ToldFrom Q 64 l
  from_none l e = record { size = e; at = λ b h k. absurd (no b h k) }
    where
      no : (b : ℕ) → 64 ≤ b → b < 64 → ⊥
      no b h k = omega arith

  from_more : (k i : ℕ) (l : List ℕ) (x : ℕ) → i < 64 → k ≡ i + 1 → ToldFrom Q k l → Q i x → ToldFrom Q i (set l i x)
  from_more k i l x h next inv q = record { size = length-set l i x ∙ inv.size; at = at }
    where
      room : i < length l
      room = omega (arith, inv.size)

      at : (b : ℕ) → i ≤ b → b < 64 → Q b (get_or (set l i x) b 0)
      at b m n = split (eqb b i)
          (λ e. let s = eqb-true b i e in rw (s, get_or-set_same l i x 0 room) q)
          (λ e. let d = eqb-false b i e in rw (get_or-set_other l i b x 0 d) (inv.at b (omega arith) n))

  from_end : (i : ℕ) (l : List ℕ) → i ≡ 0 → ToldFrom Q i l → Told 0 Q 64 64 l
  from_end i l none inv = record { size = inv.size; at = λ b k. inv.at b (omega arith) k }

module _ (jump fall touched : List ℕ) where
  abbrev Tells : ((ℕ → Bool) → (b s : ℕ) → Bool) → ℕ → ℕ → Type 0
  Tells f = ByPaths jump fall touched f

  -- a clean path from the block itself
  abbrev here : (ℕ → Bool) → (b s : ℕ) → Bool
  here P b s = P b

  -- the blocks from b on are done
  pub record Leading (b : ℕ) (clean jumps falls aheads : List ℕ) : Type 0 where
    pub clean_from : ToldFrom (Tells here) b clean
    pub jumps_from : ToldFrom (Tells (led jump)) b jumps
    pub falls_from : ToldFrom (Tells (led fall)) b falls
    pub aheads_from : ToldFrom (Tells (ahead jump fall)) b aheads

  pub leading_none : (none : List ℕ) → length none ≡ 64 → Leading 64 none none none none
  leading_none none size = record {
    clean_from = from_none (Tells here) none size;
    jumps_from = from_none (Tells (led jump)) none size;
    falls_from = from_none (Tells (led fall)) none size;
    aheads_from = from_none (Tells (ahead jump fall)) none size;
  }

  pub leading_end : (i : ℕ) (l : Leads) (clean : List ℕ) → i ≡ 0 → Leading i clean l.jump l.fall l.ahead
      → LeadsOf jump fall touched l
  leading_end i l clean none r = record {
    jumps = from_end (Tells (led jump)) i l.jump none r.jumps_from;
    falls = from_end (Tells (led fall)) i l.fall none r.falls_from;
    aheads = from_end (Tells (ahead jump fall)) i l.ahead none r.aheads_from;
  }

  module _ (ways : Ways jump fall) (i b : ℕ) (clean jumps falls aheads : List ℕ) (inside : b < 64)
      (next : i ≡ b + 1) (r : Leading i clean jumps falls aheads) where
    -- a target's word is there already
    by : (targets : List ℕ) → length targets ≡ 64 → Above targets
        → Tells (led targets) b (get_or clean (get_or targets b 0) 0)
    by targets size up s P w =
        ap (λ k. bit (get_or clean k 0) s) (within targets b 0 64 (omega arith))
        ∙ go (below_or_not (get_or targets b 64) 64)
      where
        go : (get_or targets b 64 < 64) ⊎ (64 ≤ get_or targets b 64)
            → bit (get_or clean (get_or targets b 64) 0) s ≡ P (get_or targets b 64)
        go (inl k) = r.clean_from.at (get_or targets b 64) (omega (arith, up b inside)) k s P w
        go (inr k) = ap (λ x. bit x s)
            (beyond clean (get_or targets b 64) 0 (omega (arith, r.clean_from.size))) ∙ bit_none s
            ∙ sym (w.top (get_or targets b 64) k)

    module _ (j f both own cleaned : ℕ)
        (ej : j ≡ get_or clean (get_or jump b 0) 0) (ef : f ≡ get_or clean (get_or fall b 0) 0)
        (is_both : (s : ℕ) → bit both s ≡ bit j s || bit f s) (is_own : (s : ℕ) → bit own s ≡ bit both s || eqb s b)
        (is_clean : (s : ℕ) → bit cleaned s ≡ bit own s && not (bit (get_or touched b 0) s)) where
      by_jump : Tells (led jump) b j
      by_jump s P w = ap (λ x. bit x s) ej ∙ by jump ways.jumps ways.jumps_above s P w

      by_fall : Tells (led fall) b f
      by_fall s P w = ap (λ x. bit x s) ef ∙ by fall ways.falls ways.falls_above s P w

      by_either : Tells (ahead jump fall) b own
      by_either s P w =
          is_own s ∙ ap (λ (a : Bool). a || eqb s b) (is_both s) ∙ or_comm (bit j s || bit f s) (eqb s b)
          ∙ (λ i. eqb_swap s b i || (by_jump s P w i || by_fall s P w i))

      by_clean : Tells here b cleaned
      by_clean s P w =
          is_clean s ∙ and_comm (bit own s) (not (bit (get_or touched b 0) s))
          ∙ ap (λ (a : Bool). not (bit (get_or touched b 0) s) && a) (by_either s P w) ∙ sym (w.step b inside)

      pub leading_more : Leading b (set clean b cleaned) (set jumps b j) (set falls b f) (set aheads b own)
      leading_more = record {
        clean_from = from_more (Tells here) i b clean cleaned inside next r.clean_from by_clean;
        jumps_from = from_more (Tells (led jump)) i b jumps j inside next r.jumps_from by_jump;
        falls_from = from_more (Tells (led fall)) i b falls f inside next r.falls_from by_fall;
        aheads_from = from_more (Tells (ahead jump fall)) i b aheads own inside next r.aheads_from by_either;
      }
