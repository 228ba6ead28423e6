-- `Condition::conflicts_with` meets its contract.
use Rattle.std.proofs.Common.{◌∙◌, SFits, rules, to_z-of_z}
use Rattle.std.specs.Int.{w32}
use Rattle.lower_laws.specs.PairTest.{test_is}
use Rattle.local_sets.proofs.Condition.conflicts_with.Goals as goal

pub returns : goal.returns
returns c =
    let a = c.args.self in
    let o = c.args.other in
    let one : SFits w32 a.constant = search rules in
    let two : SFits w32 o.constant = search rules in
    rw (to_z-of_z one, to_z-of_z two) at c.conflicting.ensures ∙ test_is 0 a.relation a.constant o.relation o.constant
