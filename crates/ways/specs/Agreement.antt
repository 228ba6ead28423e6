-- The two ways agree, from their promises alone, whatever budget, table and bytes are lent: wherever both answer they
-- say the same of each choice, the heaviest and the lightest (`two_ways`), and what the reader and the counter refuse
-- they refuse alike (`refuse_alike`). Rests on Walk and Sweep.
use Rattle.std.specs.Prelude.{◌≡◌, List, ℕ, ◌<◌}
use Rattle.laws.specs.Terms.{Choice}
use Rattle.entries.specs.declared.Entry.{Entry}
use Rattle.walk.specs.Answer as walk
use Rattle.sweep_steps.specs.Answer as sweep
use Rattle.ways.specs.Answered.{Agree, answered_agree, same_early}
use Rattle.ways.specs.Walk.{walk_call, walk_answered}
use Rattle.ways.specs.Sweep.{sweep_call, sweep_answered}

module _ (form : List ℕ) (budget : ℕ) (lent lent' : List ℕ) (table : List Entry) where
  pub two_ways : (choice : Choice) (x : walk.Outcome) (y : sweep.Outcome) → walk.WalkOwed form budget lent x
      → sweep.SweepOwed form lent' table y → x.0.number ≡ 0 → y.values.number ≡ 0
      → Agree choice form x.0 y.values x.1 y.route
  two_ways choice x y o p z z' =
      answered_agree choice form lent lent' x.0 y.values x.1 y.route (walk_answered form budget lent x o z)
      (sweep_answered form lent' table y p z')

  -- 10 to 20, by either way: the other refuses with the same number and place
  pub refuse_alike : (x : walk.Outcome) (y : sweep.Outcome) → walk.WalkOwed form budget lent x
      → sweep.SweepOwed form lent' table y
      → (0 < x.0.number → x.0.number < 40 → (y.values.number ≡ x.0.number) × (y.values.place ≡ x.0.place))
      × (0 < y.values.number → y.values.number < 40
      → (x.0.number ≡ y.values.number) × (x.0.place ≡ y.values.place))
  refuse_alike x y o p = (
    same_early form (walk_call form budget lent) (sweep_call form lent' table) x y o p,
    same_early form (sweep_call form lent' table) (walk_call form budget lent) y x p o,
  )
