-- `Tests::effect_rows` meets its contract.
use Rattle.std.proofs.Common.{List, refl, subst, ◌∙◌, arith}
use Rattle.form.specs.declared.Effect.{Effect}
use Rattle.form.specs.Conflict.{effects_below, touches, denies, condition}
use Rattle.sets.specs.Local.{local_of}
use Rattle.words.specs.Filled.{filling_none, filling_more}
use Rattle.local_sets.specs.Parts.{HitsOf}
use Rattle.local_sets.proofs.Blocks.{own_effects, other_effects, touched_end, denied_end}
use Rattle.local_sets.proofs.Tests.effect_rows.Goals as goal

pub loop-b-init : goal.loop-b-init
unfolding effects_below
loop-b-init c = record {
  passed = refl;
  touched = filling_none 0 _ 64;
  jumps = filling_none 0 _ 64;
  falls = filling_none 0 _ 64;
}

pub loop-b-preserved : goal.loop-b-preserved
unfolding touches denies condition
loop-b-preserved c =
    let body = c.args.body.now in
    let own = c.blocks_of-block-items.ensures.own in
    let i = c.loop-b.invariant in
    let these =
    c.split_at.ensures.front ∙ own_effects body own c.loop-b.b c.min.result _ i.passed c.min.ensures in
    let all = c.hits-hits.ensures body c.requires in
    let hits = subst (λ (l : List Effect). HitsOf body l c.hits-hits.result) these all in record {
      passed =
          c.split_at.ensures.back ∙ other_effects body own c.loop-b.b c.min.result _ i.passed c.min.ensures;
      touched = filling_more _ _ _ _ _ _ (omega arith) i.touched hits.touched;
      jumps = filling_more _ _ _ _ _ _ (omega arith) i.jumps hits.jump;
      falls = filling_more _ _ _ _ _ _ (omega arith) i.falls hits.fall;
    }

pub returns-clause-touched : goal.returns-clause-touched
unfolding local_of
returns-clause-touched c =
    let own = c.blocks_of-block-items.ensures in
    touched_end c.args.body.now own.own own.few c.loop-b-test.false c.loop-b.touched c.loop-b.invariant.touched

pub returns-clause-denied : goal.returns-clause-denied
unfolding local_of
returns-clause-denied c =
    let own = c.blocks_of-block-items.ensures in
    denied_end c.args.body.now own.own own.few c.loop-b-test.false c.loop-b.denied c.loop-b.invariant.jumps
    c.loop-b.invariant.falls
