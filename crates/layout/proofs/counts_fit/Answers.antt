-- `layout::counts_fit` meets its contract.
use Rattle.std.proofs.Common.{◌≡◌, sym, ap, ◌∙◌, add-one, arith, [], drop, take}
use Rattle.std.proofs.lemmas.List.{drop_all}
use borrow.Author.Tests.{ne_eqb}
use Rattle.form.specs.Form.{sum_own}
use Rattle.form.specs.Laying.{over_blocks, over_effects, within_counts, sum_step, lacks}
use Rattle.layout.proofs.counts_fit.Goals as goal
use Rattle.layout.proofs.counts_fit.Goals.{then-body-gt-MOST_BLOCKS-via-then-body-gt-MOST_BLOCKS}
use Rattle.layout.proofs.counts_fit.Goals.{then-body-gt-MOST_BLOCKS-via-else-body-gt-MOST_BLOCKS+then-body-gt-MOST_EFFECTS}

pub returns-then-body-gt-MOST_BLOCKS : goal.returns-then-body-gt-MOST_BLOCKS
returns-then-body-gt-MOST_BLOCKS c =
    elim c.then-body-gt-MOST_BLOCKS.branch [
      | then-body-gt-MOST_BLOCKS-via-then-body-gt-MOST_BLOCKS w ↦ over_blocks _ (omega arith)
      | then-body-gt-MOST_BLOCKS-via-else-body-gt-MOST_BLOCKS+then-body-gt-MOST_EFFECTS w ↦ over_effects _ (omega arith)
    ]

pub returns-then-left-block : goal.returns-then-left-block
returns-then-left-block c =
    let body = c.args.body.now in
    let step = sum_step (take body.count body.blocks) c.loop-block.block-index in
    sym
    (within_counts _ (omega arith) (omega arith)
    ∙ ne_eqb (sum_own (take body.count body.blocks)) body.total (λ e. omega (arith, step)))

pub loop-block-preserved : goal.loop-block-preserved
loop-block-preserved c =
    let body = c.args.body.now in
    let step = sum_step (take body.count body.blocks) c.loop-block.block-index in
    rw (add-one c.loop-block.block-index) (omega (arith, step))

pub returns : goal.returns
unfolding sum_own
returns c =
    let body = c.args.body.now in
    let none : drop c.loop-block.block-index (take body.count body.blocks) ≡ [] =
    drop_all c.loop-block.block-index (take body.count body.blocks) (omega arith) in
    lacks (sum_own (take body.count body.blocks)) c.loop-block.left body.total (omega (arith, ap sum_own none))
    ∙ sym (within_counts _ (omega arith) (omega arith))
