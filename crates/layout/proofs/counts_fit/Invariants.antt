-- `layout::counts_fit` meets its contract. The loop's invariant: the blocks' own effects, with what is left of the
-- total, are the total with the own effects of the blocks to come.
use Rattle.std.proofs.Common.{◌≡◌, ◌+◌, take, drop}
use Rattle.form.specs.Form.{sum_own}
use Rattle.layout.proofs.counts_fit.Given as goal

abbrev pub invariant-loop-block : goal.invariant-loop-block
invariant-loop-block l =
    let blocks = take l.body.count l.body.blocks in
    sum_own blocks + l.left ≡ l.body.total + sum_own (drop l.block-index blocks)
