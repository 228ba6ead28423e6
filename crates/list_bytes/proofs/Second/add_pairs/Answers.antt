-- `list_bytes::Second::add_pairs` meets its contract.
use Rattle.std.proofs.Common.{arith}
use Rattle.list_bytes.specs.Laying.{edge_bytes}
use Rattle.lent.specs.Filled.{then}
use Rattle.list_bytes.specs.Growing.{room_first, room_next}
use Rattle.list_bytes.proofs.Second.add_pairs.Goals as goal

pub add_assignments-requires : goal.add_assignments-requires
unfolding edge_bytes
add_assignments-requires c = (omega arith, room_first c.args.out.now _ _ c.requires.1)

pub add_edges-requires : goal.add_edges-requires
unfolding edge_bytes
add_edges-requires c = (omega arith, room_next _ _ c.requires.1 c.add_assignments.ensures)

pub returns : goal.returns
unfolding edge_bytes
returns c = then c.add_assignments.ensures c.add_edges.ensures
