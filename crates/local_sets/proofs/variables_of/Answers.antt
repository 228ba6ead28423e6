-- `local_sets::variables_of` meets its contract.
use Rattle.std.proofs.Common.{sym, ap, arith}
use Rattle.form.specs.declared.Block.{Block}
use Rattle.form.specs.Conflict.{block}
use Rattle.sets.specs.Local.{local_of}
use Rattle.words.specs.Filled.{filling_none, filling_more, filling_end, told_tabled}
use Rattle.local_sets.proofs.Blocks.{block_at, past}
use Rattle.local_sets.proofs.variables_of.Goals as goal

pub loop-b-init : goal.loop-b-init
loop-b-init c = filling_none 0 _ 64

pub loop-b-preserved : goal.loop-b-preserved
loop-b-preserved c =
    let own = c.blocks_of-block-items.ensures.own in
    filling_more _ _ _ _ _ _ (omega arith) c.loop-b.invariant
    (ap (λ (k : Block). k.variable) (block_at c.args.body.now own c.loop-b.b))

pub returns : goal.returns
unfolding local_of
returns c =
    let body = c.args.body.now in
    let own = c.blocks_of-block-items.ensures.own in
    told_tabled (λ b. (block body b).variable) 0 64 c.loop-b.variables (filling_end _ _ _ c.loop-b.b _
    (λ b h l. sym (ap (λ (k : Block). k.variable) (past body own b (omega arith)))) c.loop-b.invariant)
