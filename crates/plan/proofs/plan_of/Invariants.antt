-- The loop of `plan_of`: the rows of the blocks below b stand in the plan.
use Rattle.std.proofs.Common.{◌≡◌, length}
use Rattle.plan.specs.Rows.{row_of, Rows}
use Rattle.plan.proofs.plan_of.Given as goal

abbrev pub invariant-loop-b : goal.invariant-loop-b
invariant-loop-b l = Rows (row_of l.sets l.body) l.b l.plan × (length l.plan ≡ 1024)
