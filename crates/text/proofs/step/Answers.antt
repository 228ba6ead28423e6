-- `step` meets its contract: nothing for a block that is not on the route; else a space, its number and its letter.
-- Assumes nothing.
use borrow.Author.Tests.{ne_eqb}
use Rattle.lent.specs.Filled.{then}
use Rattle.text.proofs.step.Goals as goal

pub returns-clause-grows : goal.returns-clause-grows
returns-clause-grows c =
    let last = rw c.letter.ensures at c.add-2.ensures in
    rw (ne_eqb _ 0 c.if-way-eq0.false) (then c.add.ensures (then c.number.ensures.grows last))
