-- `make`: a row begun and built is the row of its targets' rows. Rests on Turn.
use Rattle.std.proofs.Common.{arith}
use Rattle.rows.specs.Rows.{tails_by}
use Rattle.rows.specs.Begun.{begun_with}
use Rattle.sweep_steps.specs.Turn.{made_of}
use Rattle.sweep_steps.proofs.make.Goals as goal

pub returns : goal.returns
returns c =
    let a = c.args in
    made_of a.plan.now a.b (tails_by a.jumps.now a.falls.now) (begun_with a.plan.now a.count a.b)
    c.begin-begun.new.row c.begin-begun.result c.begin-begun.ensures c.build.new.row c.build.result
    c.build.ensures (omega arith)
