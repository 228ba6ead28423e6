-- `local_sets::targets_of` meets its contract.
use Rattle.std.proofs.Common.{ℕ, ◌≤◌, ◌<◌, sym, ◌∙◌, arith}
use Rattle.form.specs.Conflict.{exits, way_to}
use Rattle.sets.specs.Local.{local_of}
use Rattle.words.specs.Filled.{filling_none, filling_more, filling_end, told_tabled}
use Rattle.local_sets.proofs.Blocks.{way_at, no_way}
use Rattle.local_sets.proofs.targets_of.Goals as goal

pub loop-b-init : goal.loop-b-init
loop-b-init c = record { jumps = filling_none 64 _ 64; falls = filling_none 64 _ 64 }

pub loop-b-preserved : goal.loop-b-preserved
loop-b-preserved c =
    let own = c.blocks_of-block-items.ensures.own in
    let leads = λ (way : ℕ). way_at c.args.body.now own way c.loop-b.b in
    let i = c.loop-b.invariant in record {
      jumps = filling_more _ _ _ _ _ _ (omega arith) i.jumps (c.ways_of-ways.ensures.jump ∙ leads 1);
      falls = filling_more _ _ _ _ _ _ (omega arith) i.falls (c.ways_of-ways.ensures.fall ∙ leads 2);
    }

pub returns : goal.returns
unfolding local_of
returns c =
    let body = c.args.body.now in
    let own = c.blocks_of-block-items.ensures.own in
    let past = λ (way b : ℕ) (h : c.loop-b.b ≤ b) (l : b < 64). sym (no_way body own way b (omega arith)) in
    λ i. record {
      jump = told_tabled (λ b. way_to 1 (exits body b)) 64 64 c.loop-b.targets.jump
          (filling_end _ _ _ c.loop-b.b _ (past 1) c.loop-b.invariant.jumps) i;
      fall = told_tabled (λ b. way_to 2 (exits body b)) 64 64 c.loop-b.targets.fall
          (filling_end _ _ _ c.loop-b.b _ (past 2) c.loop-b.invariant.falls) i;
    }
