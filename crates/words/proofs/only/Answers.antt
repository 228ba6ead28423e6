-- `words::only` meets its contract.
use Rattle.laws.specs.Sets.{bit_none}
use Rattle.words.proofs.only.Goals as goal

pub returns-then-test : goal.returns-then-test
returns-then-test c j = rw c.if-test.true

pub returns-else-test : goal.returns-else-test
returns-else-test c j = rw c.if-test.false (bit_none j)
