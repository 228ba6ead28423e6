-- `list_bytes::found_entries` meets its contract. The loop's invariant: the list began with room for all, and has
-- grown by the entries of the blocks below `block`.
use Rattle.laws.specs.Terms.{each, range}
use Rattle.lent.specs.Filled.{Grows}
use Rattle.lent.specs.Filled.{HasRoom}
use Rattle.list_bytes.specs.Listing.{found_bytes, found_block}
use Rattle.list_bytes.proofs.found_entries.Given as goal

abbrev pub invariant-loop-block : goal.invariant-loop-block
invariant-loop-block l =
    HasRoom l.initial.list (found_bytes l.found)
    × Grows l.initial.list l.list (each (range 0 l.block) (found_block l.found))
