-- The measure of `Walk::visit`: the number of blocks left to the end.
use Prim.Native.Nat.{◌-◌}
use Rattle.search.proofs.Walk.+visit.Given as goal

abbrev pub decreases-visit : goal.decreases-visit
decreases-visit l = l.self.now.count - l.b
