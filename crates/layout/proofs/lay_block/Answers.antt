-- `layout::lay_block` meets its contract: its head and fields' bytes, and then the effects, one by one.
use Rattle.std.proofs.Common.{rules, arith, refl}
use Rattle.std.proofs.Math.Seq.{take_all}
use Rattle.form.specs.Form.{kind_of}
use Rattle.form.specs.Laying.{effects_next, effects_none}
use Rattle.lent.specs.Filled.{then, nothing}
use Rattle.layout.proofs.Signed.{signed}
use Rattle.layout.proofs.lay_block.Goals as goal

pub loop-effect-init : goal.loop-effect-init
loop-effect-init c = (rw effects_none (nothing _), omega arith)

pub loop-effect-preserved : goal.loop-effect-preserved
loop-effect-preserved c =
    let next = effects_next c.args.effects.now c.loop-effect.effect-index _ (omega arith) refl in (
      rw next at (then c.loop-effect.invariant.0 c.lay_effect.ensures),
      omega (arith, c.lay_effect.ensures.adds.end),
    )

pub returns-clause-grows : goal.returns-clause-grows
unfolding kind_of
returns-clause-grows c =
    let all = take_all c.loop-effect.effect-index c.args.effects.now (omega arith) in
    then c.add.ensures
    (then (rw c.to_le_bytes.ensures at c.add-2.ensures)
    (then c.add-3.ensures
    (then (signed c.args.block.constant (search rules) c.to_le_bytes-2.ensures c.add-4.ensures)
    (rw all at c.loop-effect.invariant.0))))
