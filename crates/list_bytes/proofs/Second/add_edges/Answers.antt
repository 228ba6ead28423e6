-- `list_bytes::Second::add_edges` meets its contract.
use Rattle.std.proofs.Common.{sym, ◌∙◌, arith}
use Rattle.path_sets.specs.Parts.{way_number}
use Rattle.laws.specs.Terms.{bit}
use Rattle.list_bytes.specs.Laying.{entry_bytes}
use Rattle.lent.specs.Filled.{Grows}
use Rattle.list_bytes.specs.Growing.{grown, as_was, jump_room, fall_room, edge_more, word_done}
use Rattle.list_bytes.proofs.Second.add_edges.Goals as goal
use Rattle.list_bytes.proofs.Second.add_edges.Goals.{Joined-has, then-has, else-has, then-has-2, else-has-2}

pub add-requires : goal.add-requires
add-requires c =
    jump_room c.args.self c.loop-first.first c.loop-first-test.true c.args.jump c.args.fall c.loop-first.invariant
    c.requires.1 (sym c.has.ensures ∙ c.if-has.true) c.after_edge.ensures

-- with the entry by the first block's jump
jump_grown : (c : Joined-has) → Grows c.loop-first.out c.if-has.out
    (entry_bytes (bit c.args.jump c.loop-first.first) 2 c.loop-first.first 1 c.args.self.block
    (way_number c.args.self.outcome))
jump_grown c = elim c.if-has.branch [
  | then-has w ↦ grown (sym c.has.ensures ∙ w.if-has.true) w.after_edge.ensures w.add.ensures w.out-is
  | else-has w ↦ as_was _ (sym c.has.ensures ∙ w.if-has.false) w.out-is
]

pub add-requires-then-has-2 : goal.add-requires-then-has-2
add-requires-then-has-2 c =
    fall_room c.args.self c.loop-first.first c.loop-first-test.true c.args.jump c.args.fall c.loop-first.invariant
    c.requires.1 _ (jump_grown (goal.at.add-requires-then-has-2 c).Joined-has)
    (sym c.has-in-loop-first.ensures ∙ c.if-has-2.true) c.after_edge-then-has-2.ensures

pub loop-first-preserved : goal.loop-first-preserved
loop-first-preserved c =
    edge_more c.args.self c.loop-first.first c.loop-first-test.true c.args.jump c.args.fall c.loop-first.invariant
    c.requires.1 _ (jump_grown (goal.at.loop-first-preserved c).Joined-has)
    (elim c.if-has-2.branch [
      | then-has-2 w ↦ grown (sym c.has-in-loop-first.ensures ∙ w.if-has-2.true) w.after_edge-then-has-2.ensures
          w.add-then-has-2.ensures w.out-is
      | else-has-2 w ↦ as_was _ (sym c.has-in-loop-first.ensures ∙ w.if-has-2.false) w.out-is
    ])

pub returns : goal.returns
returns c =
    let s = c.args.self in
    word_done 2 c.args.jump 1 c.args.fall 2 s.block (way_number s.outcome) c.loop-first.first (omega arith)
    c.loop-first.invariant
