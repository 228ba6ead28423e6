-- `list_bytes::Second::add_assignments` meets its contract. The loop's invariant: the list has grown by the entries
-- of the blocks below `first`.
use Rattle.laws.specs.Terms.{each, range}
use Rattle.lent.specs.Filled.{Grows}
use Rattle.list_bytes.specs.Growing.{assignments_of}
use Rattle.list_bytes.proofs.Second.add_assignments.Given as goal

abbrev pub invariant-loop-first : goal.invariant-loop-first
invariant-loop-first l = Grows l.initial.out l.out (each (range 0 l.first) (assignments_of l.self l.assigned))
