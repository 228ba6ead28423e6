-- `plan::plan_of` meets its contract.
use Rattle.std.proofs.Common.{◌≡◌, refl, ap₂, ◌∙◌, ◌+◌, ◌-◌, ◌*◌, arith}
use Rattle.lent.specs.Adding.{written, as_long}
use Rattle.sets.specs.Worded.{worded}
use Rattle.plan.specs.Rows.{row_with, row_of, rows_more, planned_rows}
use Rattle.plan.proofs.plan_of.Goals as goal

pub sets_of-sets-requires : goal.sets_of-sets-requires
sets_of-sets-requires c = worded c.args.body.now c.requires _ c.local_of.ensures

pub loop-b-preserved : goal.loop-b-preserved
loop-b-preserved c =
    let loop = c.loop-b in
    let sets = c.sets_of-sets.result in
    let words = row_with sets loop.b c.from.result c.from-in-loop-b.result in
    let at = 16 * loop.b in
    let adds = written loop.plan c.copy_from_slice.new.self words at (at + 16 - at) c.copy_from_slice.ensures.after
    (omega arith) (omega arith) in (
      rows_more (row_of sets c.args.body.now) loop.b loop.plan _ words adds refl (omega arith)
          (ap₂ (row_with sets loop.b) c.from.ensures c.from-in-loop-b.ensures) loop.invariant.0,
      as_long adds ∙ loop.invariant.1,
    )

pub returns : goal.returns
returns c =
    let all : 64 ≡ c.loop-b.b = omega arith in
    planned_rows c.args.body.now c.requires c.loop-b.plan c.loop-b.invariant.1 c.sets_of-sets.result
    (c.sets_of-sets.ensures c.args.body.now c.requires c.local_of.ensures) (rw all c.loop-b.invariant.0)
