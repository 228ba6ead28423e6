-- `words::less` meets its contract.
use Rattle.laws.specs.Sets.{bit_and_not}
use Rattle.words.proofs.less.Goals as goal

pub returns : goal.returns
returns c j = bit_and_not 64 c.args.a c.args.b j c.ranges.a.fits c.ranges.b.fits
