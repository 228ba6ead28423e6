-- `verdict::judge` meets its contract.
use Rattle.std.proofs.Common.{sym, ap, ◌∙◌, arith}
use Rattle.std.proofs.lemmas.Result.{err_from_is_err_and}
use Rattle.form.specs.Said.{verdict_of}
use Rattle.form.specs.Writing.{judged_as}
use Rattle.form.specs.Records.{rest_leave, rest_pass, records_end, end_none, end_some}
use Rattle.form.specs.Kinds.{block_told, effect_told, counted, at_most_one}
use Rattle.verdict.proofs.Steps.{faulted, faultless}
use Rattle.verdict.proofs.judge.Goals as goal

pub returns-in_err-judge_record : goal.returns-in_err-judge_record
returns-in_err-judge_record c =
    let loop = c.loop-record.invariant in
    let step = c.in-Some.ensures.steps in
    let p = err_from_is_err_and c.from_residual.result c.from_residual.ensures.1 in
    let left = faulted _ _ _ (rw (step.form ∙ loop.form, step.at) at c.in_err-judge_record.ensures) in
    judged_as _ _ (rw (p.1, p.2) (left.1 ∙ rest_leave _ _ (rw loop.form at step.inside) _ _ _ left.0 loop.left))

pub loop-record-preserved : goal.loop-record-preserved
loop-record-preserved c =
    let loop = c.loop-record.invariant in
    let step = c.in-Some.ensures.steps in
    let form = step.form ∙ loop.form in
    let blocks = rw (form, step.at) at (c.from.ensures ∙ counted _ _ (c.eq.ensures ∙ block_told _ _ c.kind.ensures)) in
    let effects = rw (form, step.at) at (c.from-in-loop-record.ensures
    ∙ counted _ _ (c.eq-in-loop-record.ensures ∙ effect_told _ _ c.kind-in-loop-record.ensures)) in
    let none = faultless _ _ (rw (form, step.at) at c.in_ok-judge_record.ensures) in
    let inside = rw loop.form at step.inside in
    record {
      form = step.same ∙ loop.form;
      left = rw (step.next, loop.form, blocks, effects) (rest_pass _ _ inside _ _ _ none loop.left);
      blocks = omega (arith, step.on, at_most_one);
      fewer = omega (arith, inside, at_most_one);
      effects = omega (arith, step.on, at_most_one);
    }

pub returns-then-passed-eq0 : goal.returns-then-passed-eq0
returns-then-passed-eq0 c =
    let loop = c.loop-record.invariant in
    let whole = rw (records_end _ _ (rw loop.form at c.in-None.ensures.steps.0)) at loop.left in
    judged_as _ _ (ap verdict_of c.refused.ensures ∙ sym (end_none _ _ _ c.if-passed-eq0.true) ∙ whole)

pub returns : goal.returns
returns c =
    let loop = c.loop-record.invariant in
    let whole = rw (records_end _ _ (rw loop.form at c.in-None.ensures.steps.0)) at loop.left in
    judged_as _ _ (c.judge_ends.ensures ∙ (sym (end_some _ _ _ c.if-passed-eq0.false loop.fewer) ∙ whole))
