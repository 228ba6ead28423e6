-- `path_sets::blocks_by` meets its contract.
use Rattle.std.proofs.Common.{arith}
use Rattle.path_sets.specs.Turning.{turned_none, turned_end}
use Rattle.path_sets.proofs.blocks_by.Goals as goal

pub loop-b-init : goal.loop-b-init
loop-b-init c = turned_none _ _

pub returns : goal.returns
returns c = turned_end _ _ _ _ (omega arith) c.loop-b-test.false c.loop-b.invariant
