-- `words::either` meets its contract.
use Rattle.laws.specs.Sets.{bit_or_lem}
use Rattle.words.proofs.either.Goals as goal

pub returns : goal.returns
returns c j = bit_or_lem c.args.a c.args.b j
