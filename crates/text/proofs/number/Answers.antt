-- `number` meets its contract: io's digits are those of Text, 20 at most. Assumes nothing.
use Rattle.std.proofs.Common.{◌≡◌, ◌∙◌, take, arith}
use Rattle.text.specs.Text.{decimal}
use Rattle.text.specs.Digits.{decimal_is}
use Rattle.text.proofs.number.Goals as goal

pub returns-clause-grows : goal.returns-clause-grows
returns-clause-grows c =
    let same : take c.decimal-k.result c.decimal-k.new.out ≡ decimal c.args.n =
    c.decimal-k.ensures.digits ∙ decimal_is c.args.n c.decimal-k.result (omega arith) c.decimal-k.ensures.len in
    rw same at c.add.ensures
