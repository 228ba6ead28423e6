-- `lent::put` meets its contract: the part that is written holds the bytes, and what stands before and past it stays.
use Rattle.std.proofs.Common.{arith}
use Rattle.lent.specs.Adding.{written}
use Rattle.lent.proofs.put.Goals as goal

pub returns : goal.returns
returns c = written _ _ _ _ _ c.copy_from_slice.ensures.after (omega arith) (omega arith)
