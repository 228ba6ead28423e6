-- `verdict::judge_ends` meets its contract.
use Rattle.std.proofs.Common.{◌∙◌, arith}
use Rattle.std.proofs.lemmas.Result.{err_from_is_err_and}
use Rattle.form.specs.Form.{judge_ends}
use Rattle.form.specs.Records.{ends_leave, ends_pass, records_end}
use Rattle.form.specs.Kinds.{block_told, counted, at_most_one}
use Rattle.verdict.proofs.Steps.{faulted, faultless}
use Rattle.verdict.proofs.judge_ends.Goals as goal

pub returns-in_err-judge_end : goal.returns-in_err-judge_end
returns-in_err-judge_end c =
    let loop = c.loop-record.invariant in
    let step = c.in-Some.ensures.steps in
    let p = err_from_is_err_and c.from_residual.result c.from_residual.ensures.1 in
    let left = faulted _ _ _ (rw (step.form ∙ loop.form, step.at) at c.in_err-judge_end.ensures) in
    rw (p.1, p.2) (left.1 ∙ ends_leave _ _ (rw loop.form at step.inside) _ _ _ left.0 loop.left)

pub loop-record-preserved : goal.loop-record-preserved
loop-record-preserved c =
    let loop = c.loop-record.invariant in
    let step = c.in-Some.ensures.steps in
    let form = step.form ∙ loop.form in
    let more = rw (form, step.at) at (c.from-k.ensures ∙ counted _ _ (c.eq.ensures ∙ block_told _ _ c.kind.ensures)) in
    let none = faultless _ _ (rw (form, step.at) at c.in_ok-judge_end.ensures) in
    record {
      form = step.same ∙ loop.form;
      left = rw (step.next, loop.form, more) (ends_pass _ _ (rw loop.form at step.inside) _ _ _ none loop.left);
      few = omega (arith, step.on, at_most_one);
    }

pub returns : goal.returns
unfolding judge_ends
returns c =
    let loop = c.loop-record.invariant in
    rw (records_end _ _ (rw loop.form at c.in-None.ensures.steps.0)) at loop.left
