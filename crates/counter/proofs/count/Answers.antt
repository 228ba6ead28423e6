-- `counter::count` meets its contract.
use Rattle.std.proofs.Common.{to_z-of_z}
use Rattle.counter.proofs.count.Goals as goal

pub returns : goal.returns
returns c = rw (to_z-of_z c.ranges.initial, to_z-of_z c.ranges.step, to_z-of_z c.ranges.limit) at c.count_of.ensures
