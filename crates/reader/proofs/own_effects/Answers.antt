-- `reader::own_effects` meets its contract.
use Rattle.std.proofs.Common.{sym, ap, ◌∙◌, arith, true≢false, eq-eqb}
use Rattle.form.specs.Said.{Kind}
use Rattle.form.specs.Records.{own_more, own_none, own_end}
use Rattle.form.specs.Kinds.{no_effect}
use Rattle.reader.proofs.own_effects.Goals as goal

pub returns-in_default : goal.returns-in_default
returns-in_default c =
    let loop = c.loop-record.invariant in
    let step = c.in-Some.ensures.steps in
    let kind = rw (step.form ∙ loop.form, step.at) at c.kind.ensures in
    let other = no_effect _ _ kind c.in_default.not-Effect in
    omega (arith, own_none _ _ (rw loop.form at step.inside) (λ e. true≢false (sym (eq-eqb _ _ e) ∙ other)))

pub loop-record-preserved : goal.loop-record-preserved
loop-record-preserved c =
    let loop = c.loop-record.invariant in
    let step = c.in-Some.ensures.steps in
    let row = sym (rw (step.form ∙ loop.form, step.at) at c.in-Effect.ensures) in
    let more = own_more _ _ (rw loop.form at step.inside) (ap (λ (k : Kind). k.role) row) in
    record {
      form = step.same ∙ loop.form;
      all = rw (step.next, loop.form) (omega (arith, more));
      few = omega (arith, step.on);
    }

pub returns : goal.returns
returns c =
    let loop = c.loop-record.invariant in
    omega (arith, own_end _ _ (rw loop.form at c.in-None.ensures.steps.0))
