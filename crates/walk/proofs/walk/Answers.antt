-- `walk::walk` meets its contract: the refusal that the start is, or from the start what is owed at each way out.
use Rattle.std.proofs.Common.{refl, arith}
use Rattle.std.proofs.lemmas.Result.{err_from_is_err_and}
use Rattle.laws.specs.Terms.{heaviest, lightest}
use Rattle.form.specs.Form.{body_of}
use Rattle.theory.specs.Route.{side_of}
use Rattle.plan.specs.Prepared.{refusal_owed, start_plan, start_few}
use Rattle.walk.specs.Answer.{refused, walk_outcome}
use Rattle.walk.specs.Ends.{short_owed, over_owed, none_owed, routes_owed, light}
use Rattle.walk.proofs.walk.Goals as goal

pub returns-in_err-start : goal.returns-in_err-start
returns-in_err-start c =
    let a = c.args in
    let body = body_of a.form.now in
    let p = err_from_is_err_and c.from_residual.result c.from_residual.ensures.1 in
    rw (p.1, p.2)
    (refusal_owed a.form.now (refused a.route.now) (walk_outcome body (side_of body) a.budget a.route.now) _ _
    c.in_err-start.ensures)

-- both routes of 64 blocks
pub overflow_mul-room : goal.overflow_mul-room
overflow_mul-room c =
    let of = start_plan _ _ _ _ c.in_ok-start.ensures in
    record { fits = omega (arith, of.sound.few, of.size) }

pub returns-then-route-room : goal.returns-then-route-room
returns-then-route-room c =
    let a = c.args in
    short_owed a.form.now a.budget a.budget a.route.now c.in_ok-start.ensures refl c.if-route-room.true

pub search-found-requires : goal.search-found-requires
search-found-requires c =
    (start_plan _ _ _ _ c.in_ok-start.ensures, omega (arith, c.from-budget.ensures, c.ranges.budget.fits))

pub returns-then-budget-found : goal.returns-then-budget-found
returns-then-budget-found c =
    let a = c.args in
    over_owed a.form.now a.budget c.from-budget.result a.route.now c.in_ok-start.ensures c.from-budget.ensures
    c.if-route-room.false c.search-found.result c.search-found.ensures c.if-budget-found.true

pub returns-in_default : goal.returns-in_default
returns-in_default c =
    let a = c.args in
    none_owed a.form.now a.budget c.from-budget.result a.route.now c.in_ok-start.ensures c.from-budget.ensures
    c.if-route-room.false c.search-found.result c.search-found.ensures c.if-budget-found.false c.in_default.is

pub of-requires : goal.of-requires
of-requires c =
    let a = c.args in
    let light = light a.form.now a.budget c.from-budget.result a.route.now c.in_ok-start.ensures c.from-budget.ensures
    c.if-route-room.false c.search-found.result c.search-found.ensures c.if-budget-found.false c.in-Some.best
    c.in-Some.is in
    record {
      count = start_few _ _ _ _ c.in_ok-start.ensures;
      weights = (light heaviest, light lightest);
    }

pub returns : goal.returns
returns c =
    let a = c.args in
    let first = c.into-first.ensures in
    let second = c.into-second.ensures in
    rw c.of.ensures
    (routes_owed a.form.now a.budget c.from-budget.result a.route.now c.in_ok-start.ensures c.from-budget.ensures
    c.if-route-room.false c.search-found.result c.search-found.ensures c.if-budget-found.false c.in-Some.best
    c.in-Some.is c.write_routes.new.bytes
    (rw (first.0, first.1, second.0, second.1) at c.write_routes.ensures))
