-- `lines::walked_line` meets its contract, case by case of the walk's answer. Assumes nothing.
use Rattle.std.proofs.Common.{arith}
use Rattle.std.specs.Prelude.{Ok, Err}
use Rattle.lines.proofs.walked_line.Goals as goal

pub returns-in-Ok : goal.returns-in-Ok
returns-in-Ok c = record {
  walk = Ok c.in-Ok.found;
  held = c.walk.new.route;
  owed = c.in-Ok.ensures;
  grows = c.line.ensures.grows;
  few = omega arith;
}

pub returns-in-Err : goal.returns-in-Err
returns-in-Err c = record {
  walk = Err c.in-Err.field-0;
  held = c.walk.new.route;
  owed = c.in-Err.ensures;
  grows = c.add.ensures;
  few = omega arith;
}
