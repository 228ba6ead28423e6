-- `counter::passes` meets its contract.
use Rattle.std.proofs.Common.{◌<◌, arith}
use Rattle.std.proofs.lemmas.Int.{ints, to_z-of_z}
use Rattle.laws.specs.Signed.{diff_fits, neg_fits}
use Rattle.laws.specs.Whole.{dn, up_neg}
use Rattle.lower_laws.specs.Loops.{count_up, count_down}
use Rattle.counter.proofs.passes.Goals as goal

pub returns-then-step-gt0 : goal.returns-then-step-gt0
returns-then-step-gt0 c = grind (arith, ints, to_z-of_z, diff_fits, count_up)

pub returns-then-step-lt0 : goal.returns-then-step-lt0
returns-then-step-lt0 c =
    let falls : 0 < dn c.args.counter.step = grind (arith, ints) in
    grind (arith, to_z-of_z, diff_fits, neg_fits, up_neg, count_down)
