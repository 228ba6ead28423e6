-- `Tests::hits` meets its contract.
use Rattle.std.proofs.Common.{arith}
use Rattle.std.proofs.lemmas.List.{take_more}
use Rattle.form.specs.Form.{zero_effect}
use Rattle.local_sets.proofs.Turns.{hits_none, hits_more}
use Rattle.local_sets.proofs.Tests.hits.Goals as goal

pub loop-effect-init : goal.loop-effect-init
loop-effect-init c body of =
    let none = c.default-hits.ensures in hits_none body c.default-hits.result none.0 none.1.0 none.1.1

pub loop-effect-preserved : goal.loop-effect-preserved
loop-effect-preserved c body of =
    rw (take_more c.args.effects.now c.loop-effect.effect-index zero_effect (omega arith))
    (hits_more body _ _ _ c.hit.result _ (c.loop-effect.invariant body of) (c.hit.ensures body of) c.then-hits.ensures)
