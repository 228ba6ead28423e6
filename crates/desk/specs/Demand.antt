-- Demand 3 for the calls that C makes, from their promises alone: no run of at most the answered count of iterations
-- costs more than the answered bound, and no whole run of just the count less than the answered least total
-- (`walk_sound`, `sweep_sound`, `own_sound`); wherever two calls answer they say the same of the heaviest and of the
-- lightest (`calls_agree`, `own_agrees`); and 10 to 20 are refused alike (`refused_alike`). Rests on numbers' Answer
-- and on ways.
use Rattle.std.specs.Prelude.{List, ◌≡◌, ℕ, ◌<◌}
use Rattle.laws.specs.Terms.{Choice}
use Rattle.entries.specs.declared.Entry.{Entry}
use Rattle.walk.specs.Answer.{WalkOwed}
use Rattle.sweep_steps.specs.Answer.{SweepOwed, own_table}
use Rattle.ways.specs.Answered.{Bounds, Agree}
use Rattle.ways.specs.Walk.{walk_bounds}
use Rattle.ways.specs.Sweep.{sweep_bounds}
use Rattle.ways.specs.Agreement.{two_ways, refuse_alike}
use Rattle.numbers.specs.declared.SweepNumbers.{SweepNumbers}
use Rattle.numbers.specs.declared.WalkNumbers.{WalkNumbers}
use Rattle.numbers.specs.Answer.{walk_values, sweep_values, swept_outcome, OwnSweepOwed}

module _ (form lent held : List ℕ) where
  pub walk_sound : (budget : ℕ) (a : WalkNumbers) → WalkOwed form budget lent (walk_values a, held) → a.number ≡ 0
      → Bounds form (walk_values a)
  walk_sound budget a o z = walk_bounds form budget lent (walk_values a, held) o z

  pub sweep_sound : (table rows : List Entry) (a : SweepNumbers) → SweepOwed form lent table (swept_outcome a held rows)
      → a.number ≡ 0 → Bounds form (sweep_values a)
  sweep_sound table rows a o z = sweep_bounds form lent table (swept_outcome a held rows) o z

  pub own_sound : (a : SweepNumbers) → OwnSweepOwed form lent a held → a.number ≡ 0 → Bounds form (sweep_values a)
  own_sound a (rows, o) z = sweep_sound own_table rows a o z

-- ---- agreement, of each choice, whatever was lent to each

module _ (form : List ℕ) (budget : ℕ) (lent held lent' held' : List ℕ) (a : WalkNumbers) (b : SweepNumbers) where
  pub calls_agree : (choice : Choice) (table rows : List Entry) → WalkOwed form budget lent (walk_values a, held)
      → SweepOwed form lent' table (swept_outcome b held' rows) → a.number ≡ 0 → b.number ≡ 0
      → Agree choice form (walk_values a) (sweep_values b) held held'
  calls_agree choice table rows o p y z =
      two_ways form budget lent lent' table choice (walk_values a, held) (swept_outcome b held' rows) o p y z

  pub own_agrees : (choice : Choice) → WalkOwed form budget lent (walk_values a, held) → OwnSweepOwed form lent' b held'
      → a.number ≡ 0 → b.number ≡ 0 → Agree choice form (walk_values a) (sweep_values b) held held'
  own_agrees choice o (rows, p) y z = calls_agree choice own_table rows o p y z

  -- 10 to 20, by either call: the other has the same number and place
  pub refused_alike : (table rows : List Entry) → WalkOwed form budget lent (walk_values a, held)
      → SweepOwed form lent' table (swept_outcome b held' rows)
      → (0 < a.number → a.number < 40 → (b.number ≡ a.number) × (b.place ≡ a.place))
      × (0 < b.number → b.number < 40 → (a.number ≡ b.number) × (a.place ≡ b.place))
  refused_alike table rows o p =
      refuse_alike form budget lent lent' table (walk_values a, held) (swept_outcome b held' rows) o p
