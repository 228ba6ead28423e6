-- `words::rest` meets its contract.
use Rattle.std.proofs.Common.{◌-◌, ◌<◌, arith}
use Rattle.std.proofs.lemmas.Nat.{and_le_r}
use Rattle.laws.specs.Sets.{bit_none, clear_low}
use Rattle.words.proofs.rest.Goals as goal

pub returns-then-x-eq0 : goal.returns-then-x-eq0
returns-then-x-eq0 c =
    let none = c.if-x-eq0.true in
    (λ j. rw none (rw (bit_none j)), λ some. absurd (omega arith))

pub returns-else-x-eq0 : goal.returns-else-x-eq0
returns-else-x-eq0 c =
    let x = c.args.x in
    let some : 0 < x = omega (arith, c.if-x-eq0.false) in
    (λ j. clear_low 64 x j some c.ranges.x.fits, λ _. omega (arith, and_le_r x (x - 1)))
