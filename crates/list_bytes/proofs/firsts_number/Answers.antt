-- `list_bytes::firsts_number` meets its contract.
use Rattle.std.proofs.Common.{arith}
use Rattle.list_bytes.specs.Listing.{bits_by_row}
use Rattle.list_bytes.proofs.firsts_number.Goals as goal

pub returns : goal.returns
returns c =
    let p = c.args.firsts.now in
    (omega (arith, bits_by_row p.assigned p.jump p.fall), omega arith)
