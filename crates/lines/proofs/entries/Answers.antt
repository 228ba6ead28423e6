-- `lines::entries` meets its contract: the list tells its bytes, five an entry, with room or without (Parts). Assumes
-- nothing.
use Rattle.std.proofs.Common.{arith, rules}
use Rattle.lines.specs.Parts.{all_bytes}
use Rattle.lines.proofs.entries.Goals as goal

pub returns : goal.returns
returns c =
    λ a.
    let n = all_bytes _ _ c.unwrap_or_else-bytes.result c.conflicts.result a c.conflicts.ensures.0 (search rules) in
    omega (arith, n)
