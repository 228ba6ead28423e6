-- `list_bytes::Second::add_assignments` meets its contract.
use Rattle.std.proofs.Common.{sym, ◌∙◌, arith}
use Rattle.path_sets.specs.Parts.{way_number}
use Rattle.list_bytes.specs.Growing.{grown, as_was, assignment_room, assignment_more, word_done}
use Rattle.list_bytes.proofs.Second.add_assignments.Goals as goal
use Rattle.list_bytes.proofs.Second.add_assignments.Goals.{then-has, else-has}

pub add-requires : goal.add-requires
add-requires c =
    assignment_room c.args.self c.loop-first.first c.loop-first-test.true c.args.assigned c.loop-first.invariant
    c.requires.1 (sym c.has.ensures ∙ c.if-has.true) c.after_assignment.ensures

pub loop-first-preserved : goal.loop-first-preserved
loop-first-preserved c =
    assignment_more c.args.self c.loop-first.first c.loop-first-test.true c.args.assigned c.loop-first.invariant _
    (elim c.if-has.branch [
      | then-has w ↦ grown (sym c.has.ensures ∙ w.if-has.true) w.after_assignment.ensures w.add.ensures w.out-is
      | else-has w ↦ as_was _ (sym c.has.ensures ∙ w.if-has.false) w.out-is
    ])

pub returns : goal.returns
returns c =
    let s = c.args.self in
    word_done 1 c.args.assigned s.variable 0 0 s.block (way_number s.outcome) c.loop-first.first (omega arith)
    c.loop-first.invariant
