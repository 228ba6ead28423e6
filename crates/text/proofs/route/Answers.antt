-- `route` meets its contract: a turn adds the next block, and at the end none is left. Assumes nothing.
use Rattle.std.proofs.Common.{arith}
use Rattle.lent.specs.Filled.{then}
use Rattle.text.specs.Steps.{turned, ended}
use Rattle.text.proofs.route.Goals as goal

pub loop-block-preserved : goal.loop-block-preserved
loop-block-preserved c = (turned c.loop-block.invariant.0 (omega arith) c.step.ensures.grows, omega arith)

pub returns-clause-grows : goal.returns-clause-grows
returns-clause-grows c = then c.add.ensures (then (ended c.loop-block.invariant.0 (omega arith)) c.add-2.ensures)
