-- `path_sets::put_at` meets its contract. The loop's invariant: b is in the words at the numbers that are not left.
use Rattle.path_sets.specs.Turning.{Putting}
use Rattle.path_sets.proofs.put_at.Given as goal

abbrev pub invariant-loop-s : goal.invariant-loop-s
invariant-loop-s l = Putting l.initial.rows l.set l.b l.s-iterator l.rows
