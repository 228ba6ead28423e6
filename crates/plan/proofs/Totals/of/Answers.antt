-- `Totals::of` meets its contract: both products fit (Accepted).
use Rattle.plan.specs.Accepted.{product}
use Rattle.plan.proofs.Totals.of.Goals as goal

pub overflow_mul-bound : goal.overflow_mul-bound
overflow_mul-bound c = product c.args.iterations c.args.weight c.requires.count c.requires.weights.0

pub overflow_mul-least_total : goal.overflow_mul-least_total
overflow_mul-least_total c = product c.args.iterations c.args.least c.requires.count c.requires.weights.1
