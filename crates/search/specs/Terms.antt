-- The terms of the full walk's contracts: what its structs say in the theory's terms, and what each turn of the
-- recursion does. Definitions only. Rests on theory's Plan, Walk and Edges, and on entries' Structs.
use Rattle.std.specs.Prelude.{◌≡◌, Bool, true, false, not, cond, ◌||◌, ◌&&◌, List}
use Rattle.std.specs.Prelude.{ℕ, ◌^◌, ◌<◌, ◌≤◌, ltb, Option as Optional, Some, None}
use Rattle.std.proofs.Math.Option.{Option, none, some}
use Rattle.laws.specs.Terms.{Choice, chosen, bit, preferred}
use Rattle.form.specs.declared.Body.{Body}
use Rattle.form.specs.Conflict.{Edge, is_test, Sound}
use Rattle.theory.specs.Route.{best_route, walked}
use Rattle.theory.specs.Row.{Key}
use Rattle.theory.specs.Edges.{has}
use Rattle.theory.specs.Walk.{walk, tally, within}
use Rattle.theory.specs.Forward.{on_machine}
use Rattle.theory.specs.SweepWords.{Words, words_found}
use Rattle.theory.specs.WalkWords.{advance, finish}
use Rattle.theory.specs.Range.{up_to}
use Rattle.theory.specs.Plan.{target_at, touched_at, denied_at, against_at, cost_at, IsWay, Planned, PlanOf}
use Rattle.theory.specs.Ties.{mark}
use Rattle.entries.specs.Structs.{words_in}
use Rattle.search.specs.declared.Banned.{Banned}
use Rattle.search.specs.declared.Left.{Left}
use Rattle.search.specs.declared.Best.{Best}
use Rattle.search.specs.declared.Found.{Found}

-- ---- where the walk stands

abbrev pub banned_at : Banned → Key
banned_at at = (at.jumps, at.falls)

abbrev pub left_at : Left → Key
left_at left = (left.jumped, left.fallen)

-- the blocks left, with a step's block by its way
abbrev pub marked : Edge → Key → Key
marked x left = (mark 1 x left.0, mark 2 x left.1)

-- ---- what is found so far

-- the way of the choice
abbrev pub way_in : Choice → Best → Words
way_in choice best = words_in (chosen choice (best.heaviest, best.lightest))

-- the route kept by the choice
abbrev pub kept_in : Choice → Optional Best → Option Words
kept_in choice None = none
kept_in choice (Some best) = some (way_in choice best)

-- ---- a turn

-- block b is one of the plan's; the weight so far keeps to what the blocks below come to; the budget is not passed
pub record Standing (plan : List ℕ) (count budget b weight walked : ℕ) : Type 0 where
  pub of : PlanOf plan count
  pub inside : b < count
  pub small : weight ≤ up_to of.range.most b
  pub counted : walked ≤ budget
  pub fits : budget < 4294967296

-- only edges of tests are banned
pub record Barred (body : Body) (s : Key) : Type 0 where
  pub tests : (k side : ℕ) → IsWay side → k < body.count → has s (k, side) ≡ true → is_test body k ≡ true
  pub within : (k side : ℕ) → IsWay side → body.count ≤ k → has s (k, side) ≡ false

-- banned after the effects of block b
abbrev pub Entered : List ℕ → (b : ℕ) → (s r : Key) → Type 0
Entered plan b s r = (k side : ℕ) → IsWay side
    → has r (k, side) ≡ (has s (k, side) && not (bit (touched_at plan b) k) || bit (denied_at plan b side) k)

-- banned after block b is left by a way
pub record Barring (plan : List ℕ) (b way : ℕ) (s r : Key) : Type 0 where
  pub edges : (k side : ℕ) → IsWay side → has r (k, side) ≡ (has s (k, side) || bit (against_at plan b way side) k)
  pub small_jumps : r.0 < 2 ^ 64
  pub small_falls : r.1 < 2 ^ 64

-- block b may be left by a way: there is one, its edge is not banned, and the budget is not passed
abbrev pub is_open : (target : ℕ) → (banned : Bool) → (walked budget : ℕ) → Bool
is_open target banned walked budget = (ltb target 64 && not banned) && not (ltb budget walked)

-- where it leads then
abbrev pub open_target : (target : ℕ) → (banned : Bool) → (walked budget : ℕ) → Optional ℕ
open_target target banned walked budget = cond (is_open target banned walked budget) (Some target) None

module _ (choice : Choice) where
  abbrev pub so_far : Found → ℕ × Option Words
  so_far found = (found.walked, kept_in choice found.best)

  -- over the budget, or the count and the route kept
  abbrev pub tallied : (budget : ℕ) → Found → Option (ℕ × Option Words)
  tallied budget found = within budget found.walked (kept_in choice found.best)

  -- one beginning more
  abbrev pub counting : (cost : ℕ → ℕ → ℕ) → (count budget : ℕ) → ℕ × Option Words → ℕ × Words
      → Option (ℕ × Option Words)
  counting cost count budget = tally (preferred choice) (finish cost) count budget

  -- the theory's walk from block b
  abbrev pub walk_from : Body → (cost : ℕ → ℕ → ℕ) → (budget b : ℕ) → Key → Words → ℕ × Option Words
      → Option (ℕ × Option Words)
  walk_from body cost budget b s c a = walk (on_machine body cost) (advance cost)
      (counting cost body.count budget) body.count b s c a

  -- what the recursion owes at block b: of whatever body and costs the plan is, the theory's walk
  abbrev pub Walks : List ℕ → (count budget b : ℕ) → Key → Words → (found r : Found) → Type 0
  Walks plan count budget b s c found r =
      (body : Body) (cost : ℕ → ℕ → ℕ) → Planned body cost plan → Sound body → body.count ≡ count → Barred body s
      → tallied budget r ≡ walk_from body cost budget b s c (so_far found)

  -- what a way of block b comes to, from what is banned in it and carried to it
  pub data Took (plan : List ℕ) (count budget b way : ℕ) (here : Key) (c : Words) (found r : Found) : Type 0 where
    stays : is_open (target_at plan b way) (has here (b, way)) found.walked budget ≡ false → r ≡ found
        → Took plan count budget b way here c found r
    goes : is_open (target_at plan b way) (has here (b, way)) found.walked budget ≡ true → (next : Key)
        → Barring plan b way here next → (on : Words) → on ≡ advance (cost_at plan) (b, way) c
        → Walks plan count budget (target_at plan b way) next on found r → Took plan count budget b way here c found r

  -- from block 0 on: over the budget, or the number of conflict-free beginnings and the first route of the preferred
  -- weight in words
  abbrev pub Searched : List ℕ → (count budget : ℕ) → Found → Type 0
  Searched plan count budget r =
      (body : Body) (cost : ℕ → ℕ → ℕ) → Planned body cost plan → Sound body → body.count ≡ count
      → tallied budget r ≡ within budget (walked body) (words_found body (best_route body cost (preferred choice)))
