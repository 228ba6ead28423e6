-- `layout::lay_counter` meets its contract: its head, and then its fields' bytes.
use Rattle.std.proofs.Common.{rules}
use Rattle.form.specs.Form.{kind_of}
use Rattle.lent.specs.Filled.{then}
use Rattle.layout.proofs.Signed.{signed}
use Rattle.layout.proofs.lay_counter.Goals as goal

pub returns : goal.returns
unfolding kind_of
returns c =
    then c.add.ensures
    (then (signed c.args.counter.initial (search rules) c.to_le_bytes.ensures c.add-2.ensures)
    (then (signed c.args.counter.step (search rules) c.to_le_bytes-2.ensures c.add-3.ensures)
    (then c.add-4.ensures (signed c.args.counter.limit (search rules) c.to_le_bytes-3.ensures c.add-5.ensures))))
