-- `words::MemberIter`'s `next` meets its contract.
use Rattle.std.proofs.Common.{◌^◌, ◌<◌, arith}
use Rattle.words.specs.Sorted.{least_out}
use Rattle.words.proofs.MemberIterIterator.next.Goals as goal

pub returns-clause-steps : goal.returns-clause-steps
returns-clause-steps c =
    let fits : c.self.inside.left < 2 ^ 64 = omega arith in
    let some : 0 < c.self.inside.left = omega (arith, c.if-self-eq0.false) in
    rw (← c.self.view_is) (least_out _ _ _ some fits c.lowest-least.ensures.1 c.rest-self-inside.ensures.0)
