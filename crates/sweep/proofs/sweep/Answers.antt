-- `sweep`: what is refused, and the answer, are what is owed. Rests on plan's Prepared and sweep_steps' Ends.
use Rattle.std.proofs.Common.{arith}
use Rattle.std.proofs.lemmas.Result.{err_from_is_err_and}
use Rattle.form.specs.Form.{body_of}
use Rattle.theory.specs.Route.{side_of}
use Rattle.plan.specs.Prepared.{refusal_owed}
use Rattle.sweep_steps.specs.Answer.{refused, sweep_outcome}
use Rattle.sweep_steps.specs.Ends.{plan_of, count_few, count_some, iterations_few, no_room, room, crowd_owed, light, routes_owed}
use Rattle.sweep.proofs.sweep.Goals as goal

pub returns-in_err-ready : goal.returns-in_err-ready
returns-in_err-ready c =
    let p = err_from_is_err_and c.from_residual.result c.from_residual.ensures.1 in
    let a = c.args in
    rw (p.1, p.2) (refusal_owed a.form.now (refused a.route.now a.table.now)
    (sweep_outcome (body_of a.form.now) (side_of (body_of a.form.now)) a.route.now a.table.now) _ _
    c.in_err-ready.ensures)

pub check_room-requires : goal.check_room-requires
check_room-requires c = count_few c.in_ok-ready.ensures

pub returns-in_err-check_room : goal.returns-in_err-check_room
returns-in_err-check_room c =
    let p = err_from_is_err_and c.from_residual-in_err-check_room.result c.from_residual-in_err-check_room.ensures.1 in
    rw (p.1, p.2)
    (no_room c.in_ok-ready.ensures c.args.table.now c.args.route.now _ c.in_err-check_room.ensures)

pub sweep_rows-requires : goal.sweep_rows-requires
sweep_rows-requires c =
    let s = c.in_ok-ready.ensures in
    (plan_of s, (room s c.args.table.now c.args.route.now c.in_ok-check_room.ensures).1)

pub returns-in_err-rows : goal.returns-in_err-rows
returns-in_err-rows c =
    let p = err_from_is_err_and c.from_residual-in_err-rows.result c.from_residual-in_err-rows.ensures.1 in
    rw (p.1, p.2) (crowd_owed c.in_ok-ready.ensures c.args.table.now c.args.route.now
    c.in_ok-check_room.ensures c.sweep_rows.new.table _ c.in_err-rows.ensures)

pub slice_copy_out-first : goal.slice_copy_out-first
slice_copy_out-first c =
    let s = c.in_ok-ready.ensures in
    omega (
      arith,
      count_some s,
      room s c.args.table.now c.args.route.now c.in_ok-check_room.ensures,
      c.sweep_rows.auto.table,
    )

pub answer-requires : goal.answer-requires
answer-requires c =
    let s = c.in_ok-ready.ensures in
    record {
      count_in_bounds = ((room s c.args.table.now c.args.route.now c.in_ok-check_room.ensures).0, iterations_few s);
      row_bound = light s c.args.table.now c.sweep_rows.new.table c.in_ok-rows.rows c.in_ok-rows.ensures;
    }

pub returns : goal.returns
returns c = routes_owed c.in_ok-ready.ensures c.args.table.now c.args.route.now c.in_ok-check_room.ensures
    c.sweep_rows.new.table c.in_ok-rows.rows c.in_ok-rows.ensures c.answer.result c.answer.new.route c.answer.ensures
