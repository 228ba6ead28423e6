-- `route` meets its contract. The loop's invariant: the blocks so far are added, with what is to come that is the
-- whole; the end goes up by 22 a block at most. Assumes nothing.
use Rattle.std.proofs.Common.{◌+◌, ◌*◌, ◌≤◌}
use Rattle.text.specs.Steps.{Stepped}
use Rattle.text.proofs.route.Given as goal

abbrev pub invariant-loop-block : goal.invariant-loop-block
invariant-loop-block l =
    Stepped l.initial.out l.out l.ways l.block × (l.out.end ≤ l.initial.out.end + 22 * l.block)
