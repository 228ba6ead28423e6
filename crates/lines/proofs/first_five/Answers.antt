-- `lines::first_five` meets its contract: five lines, one behind the other, with the entries of the form's list.
-- Assumes nothing.
use Rattle.lent.specs.Filled.{then}
use Rattle.lines.proofs.first_five.Goals as goal

pub returns-clause-grows : goal.returns-clause-grows
returns-clause-grows c =
    λ a.
    let listed = rw (c.entries.ensures a) at c.line-3.ensures.grows in
    then c.line.ensures.grows
    (then c.line-2.ensures.grows (then listed (then c.line-4.ensures.grows c.line-5.ensures.grows)))
