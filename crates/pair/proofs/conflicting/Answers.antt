-- `pair::conflicting` meets its contract.
use Rattle.std.proofs.Common.{◌≡◌, ℤ, arith, of_z, SFits, nat_eq}
use Rattle.std.proofs.lemmas.Int.{ints, to_z-of_z}
use Rattle.std.specs.Int.{w32}
use Rattle.lower_laws.specs.PairTest.{level_with, shares, test_is}
use Rattle.pair.proofs.conflicting.Goals as goal

-- the machine tests equality on bits
same_bits : (a b : ℤ) → SFits w32 a → SFits w32 b → nat_eq (of_z w32 a) (of_z w32 b) ≡ level_with a b
same_bits a b f g = grind (arith, ints)

pub returns : goal.returns
unfolding shares
returns c = grind (arith, to_z-of_z, test_is, same_bits)
