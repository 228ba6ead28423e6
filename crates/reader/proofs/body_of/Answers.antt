-- `reader::body_of` meets its contract.
use Rattle.std.proofs.Common.{◌≡◌, eqb, set, refl, ap, sym, ◌∙◌, arith}
use Rattle.form.specs.Said.{Kind}
use Rattle.form.specs.Form.{block_at, effect_at, own_effects, records_from, block_role, effect_role, fill}
use Rattle.form.specs.Filling.{gathering_start, gathering_end, gathering_take, gathering_skip}
use Rattle.form.specs.Filling.{placed, placed_in, placed_past}
use Rattle.form.specs.Records.{next}
use Rattle.form.specs.Zeros.{block_zeros, effect_zeros}
use Rattle.form.specs.Kinds.{no_block, no_effect}
use Rattle.records.specs.declared.Records.{Records}
use Rattle.reader.proofs.body_of.Goals as goal
use Rattle.reader.proofs.body_of.Goals.{then-count-lt-MOST_BLOCKS, else-count-lt-MOST_BLOCKS, then-total-lt-MOST_EFFECTS, else-total-lt-MOST_EFFECTS}

pub loop-record-init : goal.loop-record-init
unfolding fill
loop-record-init c =
    let block = block_zeros _ c.default-blocks.ensures in
    let effect = effect_zeros _ c.default-effects.ensures in
    let start = c.into_iter-record-iterator.ensures.into_iter_gives in
    let at = ap (λ (r : Records). r.at) start ∙ c.of-record-items.ensures.at in
    record {
      form = ap (λ (r : Records). r.form.now) start ∙ c.of-record-items.ensures.form;
      blocks = rw at (gathering_start _ _ _ _ (rw block));
      effects = rw at (gathering_start _ _ _ _ (rw effect));
      few_blocks = omega arith;
      few_effects = omega arith;
    }

pub loop-record-preserved-in-Block : goal.loop-record-preserved-in-Block
loop-record-preserved-in-Block c =
    let loop = c.loop-record.invariant in
    let step = c.in-Some.ensures.steps in
    let s = c.args.s.now in
    let at = c.loop-record.record-iterator.at in
    let inside = rw loop.form at step.inside in
    let form = step.form ∙ loop.form in
    let row = sym (rw (form, step.at) at c.in-Block.ensures) in
    let block = block_at s at (own_effects s (records_from s (next s at))) in
    let put : c.if-count-lt-MOST_BLOCKS.blocks ≡ placed 64 c.loop-record.blocks c.loop-record.count block =
    elim c.if-count-lt-MOST_BLOCKS.branch [
      | then-count-lt-MOST_BLOCKS w ↦
          let after = w.after.ensures.form ∙ form in
          let start = w.after.ensures.at ∙ (λ i. next (form i) (step.at i)) in
          let own = w.own_effects.ensures ∙ (λ i. own_effects (after i) (records_from (after i) (start i))) in
          let is = w.block.ensures ∙ (λ i. block_at (form i) (step.at i) (own i)) in
          placed_in c.loop-record.blocks block w.if-count-lt-MOST_BLOCKS.true
          (w.blocks-is ∙ ap (set c.loop-record.blocks c.loop-record.count) is)
      | else-count-lt-MOST_BLOCKS w ↦ placed_past c.loop-record.blocks block w.if-count-lt-MOST_BLOCKS.false w.blocks-is
    ] in
    record {
      form = step.same ∙ loop.form;
      blocks = rw (step.next, loop.form) (gathering_take _ _ _ _ _ _ _ inside _ _ loop.blocks block _
          (ap (λ (k : Kind). eqb k.role block_role) row) refl put);
      effects = rw (step.next, loop.form) (gathering_skip _ _ _ _ _ _ _ inside _ _ loop.effects
          (ap (λ (k : Kind). eqb k.role effect_role) row));
      few_blocks = omega (arith, step.on);
      few_effects = omega (arith, step.on);
    }

pub loop-record-preserved-in-Effect : goal.loop-record-preserved-in-Effect
loop-record-preserved-in-Effect c =
    let loop = c.loop-record.invariant in
    let step = c.in-Some.ensures.steps in
    let s = c.args.s.now in
    let at = c.loop-record.record-iterator.at in
    let inside = rw loop.form at step.inside in
    let form = step.form ∙ loop.form in
    let row = sym (rw (form, step.at) at c.in-Effect.ensures) in
    let effect = effect_at s at in
    let put : c.if-total-lt-MOST_EFFECTS.effects ≡ placed 256 c.loop-record.effects c.loop-record.total effect =
    elim c.if-total-lt-MOST_EFFECTS.branch [
      | then-total-lt-MOST_EFFECTS w ↦
          let is = w.effect.ensures ∙ (λ i. effect_at (form i) (step.at i)) in
          placed_in c.loop-record.effects effect w.if-total-lt-MOST_EFFECTS.true
          (w.effects-is ∙ ap (set c.loop-record.effects c.loop-record.total) is)
      | else-total-lt-MOST_EFFECTS w ↦ placed_past c.loop-record.effects effect w.if-total-lt-MOST_EFFECTS.false w.effects-is
    ] in
    record {
      form = step.same ∙ loop.form;
      blocks = rw (step.next, loop.form) (gathering_skip _ _ _ _ _ _ _ inside _ _ loop.blocks
          (ap (λ (k : Kind). eqb k.role block_role) row));
      effects = rw (step.next, loop.form) (gathering_take _ _ _ _ _ _ _ inside _ _ loop.effects effect _
          (ap (λ (k : Kind). eqb k.role effect_role) row) refl put);
      few_blocks = omega (arith, step.on);
      few_effects = omega (arith, step.on);
    }

pub loop-record-preserved : goal.loop-record-preserved
loop-record-preserved c =
    let loop = c.loop-record.invariant in
    let step = c.in-Some.ensures.steps in
    let inside = rw loop.form at step.inside in
    let kind = rw (step.form ∙ loop.form, step.at) at c.kind.ensures in
    record {
      form = step.same ∙ loop.form;
      blocks = rw (step.next, loop.form) (gathering_skip _ _ _ _ _ _ _ inside _ _ loop.blocks
          (no_block _ _ kind c.in_default.not-Block));
      effects = rw (step.next, loop.form) (gathering_skip _ _ _ _ _ _ _ inside _ _ loop.effects
          (no_effect _ _ kind c.in_default.not-Effect));
      few_blocks = omega (arith, step.on);
      few_effects = omega (arith, step.on);
    }

pub returns : goal.returns
returns c =
    let loop = c.loop-record.invariant in
    let end = rw loop.form at c.in-None.ensures.steps.0 in
    let blocks = gathering_end _ _ _ _ _ _ _ end _ _ loop.blocks in
    let effects = gathering_end _ _ _ _ _ _ _ end _ _ loop.effects in
    λ i. record {
      counter = c.counter-counter.ensures i;
      count = blocks.0 i;
      blocks = blocks.1 i;
      total = effects.0 i;
      effects = effects.1 i;
    }
