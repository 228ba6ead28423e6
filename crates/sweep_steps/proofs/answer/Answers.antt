-- `answer`: the weights of row 0's entry keep to the limit.
use Rattle.std.proofs.Common.{arith}
use Rattle.laws.specs.Terms.{heaviest, lightest}
use Rattle.sweep_steps.proofs.answer.Goals as goal

pub of-requires : goal.of-requires
of-requires c =
    let light = c.requires.row_bound (omega arith) in
    record { count = c.requires.count_in_bounds.1; weights = (light heaviest, light lightest) }
