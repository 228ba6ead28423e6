-- `words::both` meets its contract.
use Rattle.laws.specs.Sets.{bit_and_lem}
use Rattle.words.proofs.both.Goals as goal

pub returns : goal.returns
returns c j = bit_and_lem c.args.a c.args.b j
