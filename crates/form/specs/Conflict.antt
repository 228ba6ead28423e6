-- Conflicts, after document 01, 'Conflicts and routes': the blocks, effects and edges of a body, conditions, clean
-- paths and the conflict list. Trusted: definitions only. Rests on Relation (when a number meets a relation), on Form's
-- zero_block and on the laws' Terms. Two tests stand beside the statement that they decide (`contradict` and Contradict,
-- `clean` and Clean). The crate lower_laws proves that they say the same (Conditions, ConflictList), and that the list
-- holds exactly what Holds says, in order.
use Rattle.std.specs.Prelude.{◌≡◌, ◌⊎◌, Bool, true, false, not, cond, ◌||◌, ◌&&◌, List, [], ◌∷◌, ◌++◌, ℕ, zero, suc, ◌+◌, ◌≤◌, ◌<◌, eqb, ltb, ℤ, pos, ◌+ℤ◌, ◌-ℤ◌, get_or, take, drop}
use Rattle.std.proofs.Math.Option.{Option, none, some}
use Rattle.std.specs.Int.{w32}
use Rattle.std.proofs.Common.{SFits}
use Rattle.laws.specs.Terms.{Mem, each, any_of, range, pairb}
use Rattle.form.specs.declared.Body.{Body}
use Rattle.form.specs.declared.Block.{Block}
use Rattle.form.specs.declared.Effect.{Effect}
use Rattle.form.specs.Form.{zero_block}
use Rattle.form.specs.Relation.{meets, opposite}

-- ---- blocks, effects and edges

abbrev pub no_block : Block
no_block = zero_block

-- Block b. What stands past the count is no part of the body.
unfoldable pub block : Body → ℕ → Block
block body b = get_or (take body.count body.blocks) b no_block

-- The number of effects of the blocks below b.
unfoldable pub effects_below : Body → ℕ → ℕ
effects_below body zero = 0
effects_below body (suc b) = effects_below body b + (block body b).effects

-- The effects of block b, in order.
unfoldable pub effects_of : Body → ℕ → List Effect
effects_of body b = take (block body b).effects (drop (effects_below body b) body.effects)

-- Block b has an effect, constant or unknown, on variable v.
unfoldable pub touches : Body → ℕ → ℕ → Bool
touches body b v = any_of (λ a. eqb a.variable v) (effects_of body b)

abbrev pub later : Option Effect → Option Effect → Option Effect
later earlier none = earlier
later earlier (some a) = some a

-- The last effect on variable v.
unfoldable pub last_on : ℕ → List Effect → Option Effect
last_on v [] = none
last_on v (a ∷ l) = later (cond (eqb a.variable v) (some a) none) (last_on v l)

-- An edge is a block and the way it is left: 1 by jump or go, 2 by fall.
abbrev pub Edge : Type 0
Edge = ℕ × ℕ

-- Endings: 0 end, 1 go to jump, 2 open branch, 3 test.
abbrev pub exits_by : (ending jump fall : ℕ) → List (ℕ × ℕ)
exits_by zero jump fall = []
exits_by (suc zero) jump fall = (1, jump) ∷ []
exits_by (suc (suc zero)) jump fall = (1, jump) ∷ (2, fall) ∷ []
exits_by (suc (suc (suc zero))) jump fall = (1, jump) ∷ (2, fall) ∷ []
exits_by (suc (suc (suc (suc above)))) jump fall = []

-- The exits of block b: each way with its target, jump before fall.
unfoldable pub exits : Body → ℕ → List (ℕ × ℕ)
exits body b = exits_by (block body b).ending (block body b).jump (block body b).fall

-- Where a way leads; 64, no block's number, where there is no such way.
abbrev pub way_to : (way : ℕ) → List (ℕ × ℕ) → ℕ
way_to way [] = 64
way_to way (o ∷ l) = cond (eqb o.0 way) o.1 (way_to way l)

-- Every target is above its block and is a block.
pub record Onward (body : Body) : Type 0 where
  pub above : (b : ℕ) (o : ℕ × ℕ) → Mem o (exits body b) → b < o.1
  pub inside : (b : ℕ) (o : ℕ × ℕ) → Mem o (exits body b) → o.1 < body.count

-- What the reader sees to in every body that it accepts, as far as routes and conflicts need it (14 to 19).
pub record Sound (body : Body) : Type 0 where
  pub some : 0 < body.count
  pub few : body.count ≤ 64
  pub onward : Onward body
  pub going : (b : ℕ) → suc b < body.count
      → (o : ℕ × ℕ) × Mem o (exits body b)  -- every block but the last has an exit
  pub known : (b : ℕ) → (block body b).relation ≤ 5
  pub fits : (b : ℕ) (a : Effect) → Mem a (effects_of body b) → SFits w32 a.constant

-- ---- conditions

pub record Condition : Type 0 where
  pub variable : ℕ
  pub relation : ℕ
  pub constant : ℤ

abbrev pub met : Condition → ℤ → Bool
met c x = meets c.relation x c.constant

-- Only the edges of a test carry conditions.
unfoldable pub is_test : Body → ℕ → Bool
is_test body b = eqb (block body b).ending 3

-- A test's jump edge carries its relation, the fall edge the opposite one.
unfoldable pub condition : Body → Edge → Condition
condition body e = record {
  variable = (block body e.0).variable;
  relation = cond (eqb e.1 1) (block body e.0).relation (opposite (block body e.0).relation);
  constant = (block body e.0).constant;
}

-- Two conditions conflict: they are on one variable, and no whole number meets both.
pub record Contradict (c d : Condition) : Type 0 where
  pub alike : c.variable ≡ d.variable
  pub none_meets_both : (x : ℤ) → met c x ≡ true → met d x ≡ true → ⊥

-- The test of it tries the whole numbers within 1 of the two constants.
abbrev pub met_about : Condition → Condition → ℤ → Bool
met_about c d x =
    met c (x -ℤ pos 1) && met d (x -ℤ pos 1) || met c x && met d x || met c (x +ℤ pos 1) && met d (x +ℤ pos 1)

unfoldable pub contradict : Condition → Condition → Bool
contradict c d = eqb c.variable d.variable && not (met_about c d c.constant || met_about c d d.constant)

-- Two edges conflict: both carry conditions, and the conditions do.
unfoldable pub opposes : Body → Edge → Edge → Bool
opposes body x e = is_test body x.0 && is_test body e.0 && contradict (condition body x) (condition body e)

-- A constant conflicts with a condition on its variable that it does not meet.
abbrev pub refuses : Option Effect → Condition → Bool
refuses none c = false
refuses (some a) c = eqb a.how 1 && not (met c a.constant)

-- Block b's last effect on e's variable is a constant that conflicts with the edge e.
unfoldable pub denies : Body → ℕ → Edge → Bool
denies body b e =
    is_test body e.0 && refuses (last_on (condition body e).variable (effects_of body b)) (condition body e)

-- ---- the conflict list

-- A path of the graph from b to s; no block of it, b and s included, has an effect on v.
pub data Clean (body : Body) (v : ℕ) : ℕ → ℕ → Type 0 where
  here : {b : ℕ} → touches body b v ≡ false → Clean body v b b
  onward : {b s : ℕ} (o : ℕ × ℕ) → touches body b v ≡ false → Mem o (exits body b) → Clean body v o.1 s
      → Clean body v b s

-- The test of it, for a path of at most n blocks.
unfoldable pub clean : Body → ℕ → ℕ → ℕ → ℕ → Bool
clean body v zero b s = false
clean body v (suc n) b s = not (touches body b v) && (eqb b s || any_of (λ o. clean body v n o.1 s) (exits body b))

-- From b's exit o some path leads to the edge e, with no effect on e's variable between.
abbrev pub leads : Body → ℕ × ℕ → Edge → Bool
leads body o e = clean body (condition body e).variable body.count o.1 e.0

-- Kind (1 assignment, 2 edge), first block, its variable or outcome, second block, its outcome.
pub record Pair : Type 0 where
  pub kind : ℕ
  pub first : ℕ
  pub third : ℕ
  pub second : ℕ
  pub outcome : ℕ

-- The edge that stands second.
abbrev pub second_of : Pair → Edge
second_of p = (p.second, p.outcome)

-- Block b's assignment pairs with e, in e's own block or along a path.
unfoldable pub assigned : Body → ℕ → Edge → Bool
assigned body b e = denies body b e && (eqb b e.0 || any_of (λ o. leads body o e) (exits body b))

-- The edge by b's exit o pairs with e.
unfoldable pub crossed : Body → ℕ → ℕ × ℕ → Edge → Bool
crossed body b o e = opposes body (b, o.0) e && leads body o e

abbrev pub assignment_pair : Body → Edge → ℕ → Pair
assignment_pair body e b =
    record { kind = 1; first = b; third = (condition body e).variable; second = e.0; outcome = e.1 }

abbrev pub edge_pair : Edge → ℕ → ℕ × ℕ → Pair
edge_pair e b o = record { kind = 2; first = b; third = o.0; second = e.0; outcome = e.1 }

-- The pairs with e second: assignments, then edges, by the first block.
unfoldable pub pairs_of : Body → Edge → List Pair
pairs_of body e =
    each (range 0 body.count) (λ b. cond (assigned body b e) (assignment_pair body e b ∷ []) [])
    ++ each (range 0 body.count) (λ b. each (exits body b) (λ o. cond (crossed body b o e) (edge_pair e b o ∷ []) []))

-- The conflict list: by the second block, its outcome, kind, first block, third byte.
unfoldable pub conflicts : Body → List Pair
conflicts body = each (range 0 body.count) (λ s. each (exits body s) (λ o. pairs_of body (s, o.0)))

abbrev pub same : Edge → Edge → Bool
same x e = eqb x.0 e.0 && eqb x.1 e.1

-- The list pairs e as second with a first in a block below b.
unfoldable pub listed : List Pair → ℕ → Edge → Bool
listed list b e = any_of (λ p. same (second_of p) e && ltb p.first b) list

-- Its bytes, 5 for each pair.
unfoldable pub conflict_bytes : Body → List ℕ
conflict_bytes body = each (conflicts body) (λ p. p.kind ∷ p.first ∷ p.third ∷ p.second ∷ p.outcome ∷ [])

-- ---- what the list holds, as document 01 says it

abbrev pub Assigned : Body → ℕ → Edge → Type 0
Assigned body b e =
    (denies body b e ≡ true)
    × ((b ≡ e.0) ⊎ ((o : ℕ × ℕ) × Mem o (exits body b) × Clean body (condition body e).variable o.1 e.0))

abbrev pub Crossed : Body → Edge → Edge → Type 0
Crossed body x e =
    (is_test body x.0 ≡ true) × (is_test body e.0 ≡ true) × Contradict (condition body x) (condition body e)
    × ((t : ℕ) × Mem (x.1, t) (exits body x.0) × Clean body (condition body e).variable t e.0)

abbrev pub Holds : Body → Pair → Type 0
Holds body p =
    ((t : ℕ) × Mem (p.outcome, t) (exits body p.second))
    × (((p.kind ≡ 1) × (p.third ≡ (condition body (second_of p)).variable) × Assigned body p.first (second_of p))
    ⊎ ((p.kind ≡ 2) × Crossed body (p.first, p.third) (second_of p)))

-- Pair p before pair q.
abbrev pub ascends : Pair → Pair → Bool
ascends p q =
    pairb ltb (pairb ltb (pairb ltb (pairb ltb ltb)))
    (p.second, (p.outcome, (p.kind, (p.first, p.third))))
    (q.second, (q.outcome, (q.kind, (q.first, q.third))))
