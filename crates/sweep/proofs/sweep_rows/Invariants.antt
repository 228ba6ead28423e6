-- `sweep_rows`' loop: where the table, the lengths and kept stand with b blocks to come. Rests on sweep_steps' Drive.
use Rattle.sweep_steps.specs.Drive.{Sweeping}
use Rattle.sweep.proofs.sweep_rows.Given as goal

abbrev pub invariant-loop-b : goal.invariant-loop-b
invariant-loop-b l = Sweeping l.plan l.fn.table l.table l.rows.lengths l.count l.b l.rows.kept
