-- The loop of `Route::write`: the bytes of the blocks below b are written.
use Rattle.std.proofs.Common.{◌≡◌, ℕ, ◌<◌, get_or}
use Rattle.plan.specs.RouteWords.{byte_of}
use Rattle.plan.proofs.route.Route.write.Given as goal

abbrev pub invariant-loop-b : goal.invariant-loop-b
invariant-loop-b l = (k : ℕ) → k < l.b → get_or l.bytes k 0 ≡ byte_of l.count l.self.jumped l.self.fallen k
