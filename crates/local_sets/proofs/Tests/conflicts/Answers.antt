-- `Tests::conflicts` meets its contract.
use Rattle.words.specs.Sorted.{sifted_none, sifted_end}
use Rattle.local_sets.proofs.Tests.conflicts.Goals as goal

pub loop-k-init : goal.loop-k-init
loop-k-init c =
    rw (c.into_iter-k-iterator.ensures.into_iter_gives, c.members-k-items.ensures)
    (record { jumps = sifted_none _ _; falls = sifted_none _ _ })

pub returns : goal.returns
returns c =
    let none = c.in-None.ensures.steps.0 in record {
      jump = sifted_end _ _ _ _ c.loop-k.invariant.jumps none;
      fall = sifted_end _ _ _ _ c.loop-k.invariant.falls none;
    }
