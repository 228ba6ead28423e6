-- `somniaret_count`: what `count` owes, of the numbers that this was asked with.
use Rattle.std.proofs.Common.{to_z-of_z}
use Rattle.desk.proofs.somniaret_count.Goals as goal

pub returns : goal.returns
returns c =
    rw c.into.ensures
    (rw (to_z-of_z c.ranges.initial, to_z-of_z c.ranges.step, to_z-of_z c.ranges.limit) at c.count.ensures)
