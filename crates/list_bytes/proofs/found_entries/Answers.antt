-- `list_bytes::found_entries` meets its contract.
use Rattle.std.proofs.Common.{ap, length, arith, rules}
use Rattle.lent.specs.Filled.{nothing}
use Rattle.list_bytes.specs.Listing.{jump_pairs_room, fall_pairs_room, pairs_more, all_done}
use Rattle.list_bytes.proofs.found_entries.Goals as goal

pub loop-block-init : goal.loop-block-init
loop-block-init c = (omega (arith, ap length c.new-list.ensures.bytes), nothing _)

pub add_pairs-requires : goal.add_pairs-requires
add_pairs-requires c =
    let l = c.loop-block in let below = c.loop-block-test.true in
    (below, jump_pairs_room c.args.found.now l.block l.invariant.1 l.invariant.0 below)

pub add_pairs-requires-in-loop-block : goal.add_pairs-requires-in-loop-block
add_pairs-requires-in-loop-block c =
    let l = c.loop-block in let below = c.loop-block-test.true in
    (below, fall_pairs_room c.args.found.now l.block l.invariant.1 l.invariant.0 below _ c.add_pairs.ensures)

pub loop-block-preserved : goal.loop-block-preserved
loop-block-preserved c =
    let l = c.loop-block in (
      l.invariant.0,
      pairs_more c.args.found.now l.block l.invariant.1 l.invariant.0 c.loop-block-test.true _ c.add_pairs.ensures
          c.add_pairs-in-loop-block.ensures,
    )

pub returns : goal.returns
returns c =
    let l = c.loop-block in
    let start = c.new-list.ensures in
    all_done c.args.found.now l.block (omega arith) l.invariant.1 start.end start.bytes (search rules)
