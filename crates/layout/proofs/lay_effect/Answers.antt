-- `layout::lay_effect` meets its contract: its head and bytes, and then its constant's.
use Rattle.std.proofs.Common.{rules}
use Rattle.form.specs.Form.{kind_of}
use Rattle.lent.specs.Filled.{then}
use Rattle.layout.proofs.Signed.{signed}
use Rattle.layout.proofs.lay_effect.Goals as goal

pub returns : goal.returns
unfolding kind_of
returns c =
    then c.add.ensures
    (then c.add-2.ensures (signed c.args.effect.constant (search rules) c.to_le_bytes.ensures c.add-3.ensures))
