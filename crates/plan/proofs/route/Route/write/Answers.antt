-- `Route::write` meets its contract.
use Rattle.std.proofs.Common.{arith}
use Rattle.plan.specs.RouteWords.{bytes_are}
use Rattle.plan.proofs.route.Route.write.Goals as goal

pub returns : goal.returns
returns c =
    let route = c.args.self in
    bytes_are _ route.jumped route.fallen c.loop-b.bytes (omega arith) (λ b h. c.loop-b.invariant b (omega arith))
