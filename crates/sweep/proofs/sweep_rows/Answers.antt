-- `sweep_rows`: a turn fetches the targets' rows and makes the block's row of them; with a 65th set the block is crowded,
-- else the row is stored. Rests on sweep_steps' Turn and Drive.
use Rattle.std.proofs.Common.{◌*◌, ◌-◌, List, sym, subst, arith}
use Rattle.std.proofs.lemmas.Slice.{put_mid-paste}
use Rattle.std.proofs.lemmas.Result.{err_from_is_err_and}
use Rattle.theory.specs.Row.{Key}
use Rattle.entries.specs.Structs.{Both}
use Rattle.sweep_steps.specs.Turn.{TurnReady, MadeOf, row_from, placed, make_asked, turn_made}
use Rattle.sweep_steps.specs.Drive.{turn_ready, sweeping_start, sweeping_more, sweeping_crowded, sweeping_end}
use Rattle.sweep.proofs.sweep_rows.Goals as goal
use Rattle.sweep.proofs.sweep_rows.Goals.{After-sources, After-make-held}

pub loop-b-init : goal.loop-b-init
loop-b-init c = sweeping_start c.args.plan.now c.args.table.now c.args.count

-- ---- a turn

ready : (c : After-sources) → TurnReady c.args.plan.now c.loop-b.table c.loop-b.rows.lengths (c.loop-b.b - 1)
ready c = turn_ready c.loop-b.invariant c.loop-b-test.true c.requires.0 c.requires.1 c.fits-plan

pub slice_bounds-jumps-end : goal.slice_bounds-jumps-end
slice_bounds-jumps-end c = (placed (ready (goal.at.slice_bounds-jumps-end c).After-sources)
    1 (omega arith, omega arith) c.sources.result.0 c.sources.ensures.jump).room

pub slice_bounds-falls-end : goal.slice_bounds-falls-end
slice_bounds-falls-end c = (placed (ready (goal.at.slice_bounds-falls-end c).After-sources)
    2 (omega arith, omega arith) c.sources.result.1 c.sources.ensures.fall).room

pub make-held-requires : goal.make-held-requires
make-held-requires c = make_asked (ready (goal.at.make-held-requires c).After-sources) c.sources.result.0
    c.sources.result.1 c.sources.ensures.jump c.sources.ensures.fall

-- the row made is the block's
made : (c : After-make-held) → TurnReady c.args.plan.now c.loop-b.table c.loop-b.rows.lengths (c.loop-b.b - 1)
    → MadeOf (row_from c.args.plan.now c.args.count c.loop-b.table c.loop-b.rows.lengths (c.loop-b.b - 1))
    c.make-held.new.made c.make-held.result
made c t = subst (λ (r : List (Key × Both)). MadeOf r c.make-held.new.made c.make-held.result)
    (turn_made t c.sources.result.0 c.sources.result.1 c.sources.ensures.jump c.sources.ensures.fall c.args.count)
    c.make-held.ensures

pub returns-in_err-add : goal.returns-in_err-add
returns-in_err-add c =
    let at = goal.at.returns-in_err-add c in
    let p = err_from_is_err_and c.from_residual.result c.from_residual.ensures.1 in
    rw (p.1, p.2, c.in_err-add.ensures.refusal)
    (sweeping_crowded c.loop-b.invariant c.loop-b-test.true c.requires.0 c.requires.1 c.fits-plan
    ((made at.After-make-held (ready at.After-sources)).over c.in_err-add.ensures.crowded.0))

pub loop-b-preserved : goal.loop-b-preserved
loop-b-preserved c =
    let at = goal.at.loop-b-preserved c in
    rw c.in_ok-add.ensures.complete.1
    (sweeping_more c.loop-b.invariant c.loop-b-test.true c.requires.0 c.requires.1 c.fits-plan
    _ c.make-held.result (record {
      row = c.make-held.new.made;
      holds = (made at.After-make-held (ready at.After-sources)).whole c.in_ok-add.ensures.complete.0;
      table_is = put_mid-paste (64 * (c.loop-b.b - 1)) _ c.loop-b.table c.copy_from_slice.new.self c.make-held.new.made 64
          c.copy_from_slice.ensures.after (omega arith) (sym c.make-held.array_long);
    }))

pub returns : goal.returns
returns c = sweeping_end c.loop-b.rows (omega arith) c.loop-b.invariant
