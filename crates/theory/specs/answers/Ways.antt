-- What the two ways need of a body. A path may be ruled out, a tail has open edges: whatever these two mean, they are
-- decided by two machines (`Ways`), one that reads tails from their end, its key the open edges, and one that reads
-- paths from their start. The paths that are not ruled out, their number and the best of them, as Route and Row have
-- them for pairs in conflict. The first instance is Pairwise. Rests on Machine, Steps and Edges.
use Rattle.std.specs.Prelude.{◌≡◌, Bool, not, cond, List, map, ℕ, length}
use Rattle.std.proofs.Math.Option.{Option, none, some}
use Rattle.laws.specs.Terms.{only}
use Rattle.form.specs.declared.Body.{Body}
use Rattle.form.specs.Conflict.{Edge}
use Rattle.theory.specs.Route.{Path, paths, beginnings, weighed, best}
use Rattle.theory.specs.Row.{Key}
use Rattle.theory.specs.machines.Machine.{Val, Machine, on_body, read_back, allowed}
use Rattle.theory.specs.pairs.Steps.{Leads}
use Rattle.theory.specs.pairs.Edges.{no_edges}

pub record Ways (body : Body) (ruled_out : Path → Bool) (opens : ℕ → Path → Key) : Type 1 where
  -- a tail is dropped just where it is ruled out, and else its key is its open edges
  pub back : Edge → Key → Option Key
  pub backward : (cost : ℕ → ℕ → ℕ) (b t : ℕ) (p : Path) → Leads body b p t
      → read_back (on_body body cost back no_edges) p ≡ cond (ruled_out p) none (some (opens b p))
  -- no edge is open at block 0
  pub closed : (p : Path) → opens 0 p ≡ no_edges
  -- a path is allowed just where it is not ruled out
  pub State : Type 0
  pub forth : Edge → State → Option State
  pub start : State
  pub forward : (cost : ℕ → ℕ → ℕ) (b t : ℕ) (p : Path) → Leads body b p t
      → allowed (on_body body cost forth start) p start ≡ not (ruled_out p)

module _ (body : Body) {ruled_out : Path → Bool} {opens : ℕ → Path → Key} (W : Ways body ruled_out opens)
    (cost : ℕ → ℕ → ℕ) where
  abbrev pub sweeper : Machine Key
  sweeper = on_body body cost W.back no_edges

  abbrev pub walker : Machine W.State
  walker = on_body body cost W.forth W.start

module _ (body : Body) (ruled_out : Path → Bool) where
  -- the ways from b to the end that are not ruled out
  unfoldable pub tails_by : ℕ → List Path
  tails_by b = only (λ p. not (ruled_out p)) (paths body body.count b)

  -- of those from block 0, the first of the preferred weight
  unfoldable pub best_by : (cost : ℕ → ℕ → ℕ) → (prefers : ℕ → ℕ → Bool) → Option Val
  best_by cost prefers = best prefers (map (weighed body cost) (tails_by 0))

  -- the number of beginnings that are not ruled out
  unfoldable pub walked_by : ℕ
  walked_by = length (only (λ p. not (ruled_out p)) (beginnings body body.count 0))

  -- each tail of b with its open edges and its weight
  unfoldable pub open_tails_by : (opens : ℕ → Path → Key) → (cost : ℕ → ℕ → ℕ) → ℕ → List (Key × Val)
  open_tails_by opens cost b = map (λ p. (opens b p, weighed body cost p)) (tails_by b)
