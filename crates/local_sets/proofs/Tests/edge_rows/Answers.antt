-- `Tests::edge_rows` meets its contract.
use Rattle.std.proofs.Common.{ℕ, ◌<◌, Bool, ◌&&◌, get_or, ap, ap₂, ◌∙◌, arith}
use Rattle.laws.specs.Terms.{bit}
use Rattle.form.specs.declared.Block.{Block}
use Rattle.form.specs.Conflict.{block}
use Rattle.sets.specs.Local.{local_of}
use Rattle.words.specs.Filled.{filling_none, filling_more}
use Rattle.local_sets.proofs.Blocks.{block_at, test_at, opposed_end}
use Rattle.local_sets.proofs.Turns.{jumping_is, falling_is}
use Rattle.local_sets.proofs.Tests.edge_rows.Goals as goal

pub loop-b-init : goal.loop-b-init
loop-b-init c = record {
  jump_jump = filling_none 0 _ 64;
  jump_fall = filling_none 0 _ 64;
  fall_jump = filling_none 0 _ 64;
  fall_fall = filling_none 0 _ 64;
}

pub loop-b-preserved : goal.loop-b-preserved
loop-b-preserved c =
    let body = c.args.body.now in
    let own = c.blocks_of-block-items.ensures.own in
    let variable = ap (λ (k : Block). k.variable) (block_at body own c.loop-b.b) in
    let small : (block body c.loop-b.b).variable < 256 = omega (arith, variable) in
    let alike =
    λ (k : ℕ). c.only-alike.ensures k ∙ ap₂ (λ (p : Bool) (v : ℕ). p && bit (get_or c.args.self.now.on v 0) k)
    (test_at body own c.loop-b.b) (c.from.ensures ∙ variable) in
    let jumping = jumping_is body c.args.self.now c.requires c.loop-b.b _ alike small _ c.conflicts-by_jump.ensures in
    let falling = falling_is body c.args.self.now c.requires c.loop-b.b _ alike small _ c.conflicts-by_fall.ensures in
    let i = c.loop-b.invariant in record {
      jump_jump = filling_more _ _ _ _ _ _ (omega arith) i.jump_jump jumping.0;
      jump_fall = filling_more _ _ _ _ _ _ (omega arith) i.jump_fall jumping.1;
      fall_jump = filling_more _ _ _ _ _ _ (omega arith) i.fall_jump falling.0;
      fall_fall = filling_more _ _ _ _ _ _ (omega arith) i.fall_fall falling.1;
    }

pub returns-clause-jumping : goal.returns-clause-jumping
unfolding local_of
returns-clause-jumping c =
    let own = c.blocks_of-block-items.ensures in
    opposed_end c.args.body.now own.own own.few c.loop-b-test.false 1 c.loop-b.jumping
    c.loop-b.invariant.jump_jump c.loop-b.invariant.jump_fall

pub returns-clause-falling : goal.returns-clause-falling
unfolding local_of
returns-clause-falling c =
    let own = c.blocks_of-block-items.ensures in
    opposed_end c.args.body.now own.own own.few c.loop-b-test.false 2 c.loop-b.falling
    c.loop-b.invariant.fall_jump c.loop-b.invariant.fall_fall
