-- `Tests::of` meets its contract.
use Rattle.std.proofs.Common.{refl, ap, ◌∙◌, arith}
use Rattle.form.specs.declared.Block.{Block}
use Rattle.form.specs.Conflict.{block, is_test}
use Rattle.lower_laws.specs.Joined.{no_test}
use Rattle.words.specs.Filled.{told_none, told_more}
use Rattle.words.specs.Sorted.{sorted_none, sorted_more, sorted_end}
use Rattle.local_sets.specs.Parts.{asked}
use Rattle.local_sets.proofs.Blocks.{block_at, past, test_at, test_inside}
use Rattle.local_sets.proofs.Tests.of.Goals as goal

pub loop-k-init : goal.loop-k-init
loop-k-init c = record { on = sorted_none 256 _ _; edges = told_none _ _ _ _ refl }

pub loop-k-preserved : goal.loop-k-preserved
loop-k-preserved c =
    let body = c.args.body.now in
    let own = c.blocks_of-block-items.ensures.own in
    let here = block_at body own c.loop-k.k in record {
      on = sorted_more 256 _ (is_test body) c.loop-k.k c.from-variable.result _ _ _ c.loop-k.invariant.on
          (λ _. c.from-variable.ensures ∙ ap (λ (k : Block). k.variable) here) (omega arith)
          (test_at body own c.loop-k.k) c.put.ensures;
      edges = told_more _ _ _ _ _ _ (omega arith) c.loop-k.invariant.edges (c.asked.ensures ∙ ap asked here);
    }

pub returns : goal.returns
returns c =
    let body = c.args.body.now in
    let own = c.blocks_of-block-items.ensures.own in record {
      on = sorted_end 256 (λ k. (block body k).variable) (is_test body) c.loop-k.k _
          (λ k h. no_test body k (past body own k (omega arith))) c.loop-k.invariant.on;
      edges = λ k t. let h = test_inside body own k t in c.loop-k.invariant.edges.at k (omega arith);
    }
