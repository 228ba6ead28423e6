-- `layout::lay_block` meets its contract. The loop's invariant: the effects so far are laid out.
use Rattle.std.proofs.Common.{◌≡◌, ◌+◌, ◌*◌, take}
use Rattle.form.specs.Form.{lay_effects}
use Rattle.lent.specs.Filled.{Grows}
use Rattle.layout.proofs.lay_block.Given as goal

abbrev pub invariant-loop-effect : goal.invariant-loop-effect
invariant-loop-effect l =
    Grows l.initial.out l.out (lay_effects (take l.effect-index l.effects))
    × (l.out.end ≡ l.initial.out.end + 10 * l.effect-index)
