-- `line` meets its contract: a word, a number and a line end, one behind the other. Assumes nothing.
use Rattle.lent.specs.Filled.{then}
use Rattle.text.proofs.line.Goals as goal

pub returns-clause-grows : goal.returns-clause-grows
returns-clause-grows c = then c.add.ensures (then c.number.ensures.grows c.add-2.ensures)
