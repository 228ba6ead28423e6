-- `entries::Choice::is_better` meets its contract.
use Rattle.laws.specs.Orders.{preference}
use Rattle.theory.specs.Ties.{earlier}
use Rattle.entries.specs.Structs.{choice_of}
use Rattle.entries.proofs.Choice.is_better.Goals as goal

pub returns : goal.returns
unfolding earlier
returns c =
    let a = c.args in
    rw (c.if-one-other.false, (preference (choice_of a.self)).order.irr a.other.weight) c.has.ensures
