-- The plan of a body: what the walks need of each block, as 16 words a block in one list of 1,024. What each word is,
-- over form's definitions. The plan is made once of a body; both ways work on it and on nothing else of the body.
use Rattle.std.specs.Prelude.{◌≡◌, false, cond, ◌&&◌, List, [], ◌∷◌, ◌++◌, ℕ, ◌+◌, ◌*◌, ◌<◌, ◌≤◌, ltb, length, get_or}
use Rattle.laws.specs.Terms.{Choice, preferred, bit}
use Rattle.form.specs.declared.Body.{Body}
use Rattle.form.specs.Conflict.{exits, is_test, condition, touches, opposes, denies, listed, conflicts, Sound}
use Rattle.theory.specs.Range.{Range}
use Rattle.theory.specs.Route.{Side}

-- word w of block b
abbrev pub word_at : List ℕ → ℕ → ℕ → ℕ
word_at plan b w = get_or plan (16 * b + w) 0

-- ---- the words of block b; a way, and a side of a set of edges, is 1 (jump or go) or 2 (fall)

-- 0: 1 where the block is a test, else 0
abbrev pub test_at : List ℕ → (b : ℕ) → ℕ
test_at plan b = word_at plan b 0

-- 1 and 2: where the way leads; 64 where there is no such way
abbrev pub target_at : List ℕ → (b way : ℕ) → ℕ
target_at plan b way = word_at plan b way

-- 3: the tests whose variable b has an effect on
abbrev pub touched_at : List ℕ → (b : ℕ) → ℕ
touched_at plan b = word_at plan b 3

-- 4 and 5: the edges that b's last effect on their variable denies
abbrev pub denied_at : List ℕ → (b side : ℕ) → ℕ
denied_at plan b side = word_at plan b (3 + side)

-- 6 to 9: the edges that b's edge by the way conflicts with
abbrev pub against_at : List ℕ → (b way side : ℕ) → ℕ
against_at plan b way side = word_at plan b (3 + 2 * way + side)

-- 10 and 11: the edges that the conflict list pairs, as second, with a first in a block below b
abbrev pub listed_at : List ℕ → (b side : ℕ) → ℕ
listed_at plan b side = word_at plan b (9 + side)

-- 12: what it costs to run b and leave it by a way
abbrev pub cost_at : List ℕ → (b way : ℕ) → ℕ
cost_at plan b way = word_at plan b 12

-- ---- the plan of a body

-- a way with its target, where there is one
abbrev pub exit_by : (way target : ℕ) → List (ℕ × ℕ)
exit_by way target = cond (ltb target 64) ((way, target) ∷ []) []

-- jump or go, or fall
abbrev pub IsWay : ℕ → Type 0
IsWay way = (0 < way) × (way < 3)

-- the plan of a body whose steps cost `cost`
pub record Planned (body : Body) (cost : ℕ → ℕ → ℕ) (plan : List ℕ) : Type 0 where
  pub size : length plan ≡ 1024
  pub tests : (b : ℕ) → b < body.count → test_at plan b ≡ cond (is_test body b) 1 0
  pub ways : (b : ℕ) → b < body.count → exits body b ≡ exit_by 1 (target_at plan b 1) ++ exit_by 2 (target_at plan b 2)
  pub costs : (b way : ℕ) → b < body.count → cost_at plan b way ≡ cost b way
  pub touched : (b k : ℕ) → b < body.count → k < body.count
      → bit (touched_at plan b) k ≡ is_test body k && touches body b (condition body (k, 1)).variable
  pub denied : (b k side : ℕ) → IsWay side → b < body.count → k < body.count
      → bit (denied_at plan b side) k ≡ denies body b (k, side)
  pub against : (b way k side : ℕ) → IsWay way → IsWay side → b < body.count → k < body.count
      → bit (against_at plan b way side) k ≡ opposes body (b, way) (k, side)
  pub listed_are : (b k side : ℕ) → IsWay side → b < body.count → k < body.count
      → bit (listed_at plan b side) k ≡ listed (conflicts body) b (k, side)
  -- no set has a block past the last one
  pub within : (b w k : ℕ) → 2 < w → w < 12 → b < body.count → body.count ≤ k → bit (word_at plan b w) k ≡ false

-- how much all steps of a body may cost together: 64 blocks of 1,000,000
abbrev pub cost_limit : ℕ
cost_limit = 64000000

-- the sides by the plan's cost, which is one for both choices
abbrev pub sides_by : (cost : ℕ → ℕ → ℕ) → Choice → Side
sides_by cost choice = record { prefers = preferred choice; cost = cost }

-- the plan is a sound body's, of `count` blocks, whose costs keep to the limit
pub record PlanOf (plan : List ℕ) (count : ℕ) : Type 0 where
  pub body : Body
  pub cost : ℕ → ℕ → ℕ
  pub planned : Planned body cost plan
  pub sound : Sound body
  pub range : Range body.count cost cost_limit
  pub size : body.count ≡ count
