-- `path_sets::put_at` meets its contract.
use Rattle.std.proofs.Common.{◌∙◌, arith}
use Rattle.path_sets.specs.Turning.{putting_none, putting_more, putting_end}
use Rattle.path_sets.proofs.put_at.Goals as goal

pub loop-s-init : goal.loop-s-init
loop-s-init c =
    let whole = c.into_iter-s-iterator.ensures.into_iter_gives ∙ c.members-s-items.ensures in
    rw whole (putting_none _ _ _ (omega arith))

pub loop-s-preserved : goal.loop-s-preserved
loop-s-preserved c = putting_more _ _ _ _ _ _ _ _ c.loop-s.invariant c.in-Some.ensures.steps c.put.ensures

pub returns : goal.returns
returns c = putting_end _ _ _ _ _ c.in-None.ensures.steps.0 c.loop-s.invariant
