-- `list_bytes::Second::add_edges` meets its contract. The loop's invariant: the list has grown by the entries of the
-- blocks below `first`.
use Rattle.laws.specs.Terms.{each, range}
use Rattle.lent.specs.Filled.{Grows}
use Rattle.list_bytes.specs.Growing.{edges_of}
use Rattle.list_bytes.proofs.Second.add_edges.Given as goal

abbrev pub invariant-loop-first : goal.invariant-loop-first
invariant-loop-first l = Grows l.initial.out l.out (each (range 0 l.first) (edges_of l.self l.jump l.fall))
