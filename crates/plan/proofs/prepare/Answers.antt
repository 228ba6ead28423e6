-- `prepare` meets its contract, from the reader's answer and the counter's.
use Rattle.std.proofs.lemmas.Result.{err_from_is_err_and}
use Rattle.plan.specs.Prepared.{sound_from, uncounted_from}
use Rattle.plan.proofs.prepare.Goals as goal

pub returns-in_err-iterations : goal.returns-in_err-iterations
returns-in_err-iterations c =
    let p = err_from_is_err_and c.from_residual-in_err-iterations.result c.from_residual-in_err-iterations.ensures.1 in
    rw (p.1, p.2)
    (uncounted_from c.args.form.now c.in_ok-body.body c.in_ok-body.ensures _ c.in_err-iterations.ensures)

pub plan_of-requires : goal.plan_of-requires
plan_of-requires c = sound_from c.args.form.now c.in_ok-body.body c.in_ok-body.ensures
