-- `lines::blocks` meets its contract: the body that is read (Parts). Assumes nothing.
use Rattle.std.proofs.Common.{rules}
use Rattle.lines.specs.Parts.{read_blocks}
use Rattle.lines.proofs.blocks.Goals as goal

pub returns : goal.returns
returns c = read_blocks _ c.map_or.result c.read.result c.read.ensures.0 (search rules)
