-- `lines::last_five` meets its contract: five lines, one behind the other. Assumes nothing.
use Rattle.std.proofs.Common.{arith}
use Rattle.lent.specs.Filled.{then}
use Rattle.lines.proofs.last_five.Goals as goal

pub returns : goal.returns
returns c =
    let last = c.walked_line.ensures in
    record {
      walk = last.walk;
      held = last.held;
      owed = last.owed;
      grows = then c.route.ensures.grows (then c.line.ensures.grows (then c.route-2.ensures.grows
          (then c.line-2.ensures.grows last.grows)));
      few = omega arith;
    }
