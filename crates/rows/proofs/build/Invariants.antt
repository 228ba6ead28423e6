-- `rows::build` meets its contract. The outer loop's invariant: with the ways from this one on, the row is the whole
-- one; the inner loop's: with the tails from this one on, it is the row with all tails by this way.
use Prim.Native.Nat.{◌+◌}
use Rattle.std.specs.Prelude.{length}
use Rattle.entries.specs.Entries.{entries_from}
use Rattle.rows.specs.Rows.{tails_of, tails_by, poured, left_from, Filling, AtTail}
use Rattle.rows.proofs.build.Given as goal

abbrev pub invariant-loop-tail : goal.invariant-loop-tail
invariant-loop-tail l =
    AtTail l.step.jumps l.step.falls l.step.cost l.tails (length l.tails)
    (poured l.step.jumps l.step.falls l.step.cost (tails_of l.tails)
    (entries_from l.initial.row 0 l.initial.held)) l.initial.row l.row l.held l.tail-index

abbrev pub invariant-ways : goal.invariant-ways
invariant-ways l =
    let tails = tails_by l.jumps l.falls in
    Filling (left_from l.plan l.b tails (l.way-index + 1))
    (left_from l.plan l.b tails 1 (entries_from l.initial.row 0 l.initial.held)) l.initial.row l.row l.held
