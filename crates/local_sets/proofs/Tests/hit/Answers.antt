-- `Tests::hit` meets its contract.
use Rattle.std.proofs.Common.{arith, SFits, rules, to_z-of_z}
use Rattle.std.specs.Int.{w32}
use Rattle.local_sets.proofs.Turns.{hit_is}
use Rattle.local_sets.proofs.Tests.hit.Goals as goal

pub returns : goal.returns
returns c body of =
    let a = c.args.effect in
    let value : SFits w32 a.constant = search rules in
    hit_is body c.args.self.now of a _ c.from.ensures (omega arith) _ _ c.only-set.ensures
    (rw (to_z-of_z value) at c.conflicts-denied.ensures)
