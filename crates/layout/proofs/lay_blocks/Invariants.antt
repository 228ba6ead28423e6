-- `layout::lay_blocks` meets its contract. The loop's invariant: what is laid out so far, with the blocks to come, is
-- the whole; the effects that are left are enough for those blocks; and the end goes with both counts.
use Rattle.std.proofs.Common.{List, ℕ, ◌≡◌, ◌++◌, ◌+◌, ◌*◌, ◌≤◌, length, drop}
use Rattle.form.specs.Form.{lay_blocks, sum_own}
use Rattle.lent.specs.Filled.{Grows}
use Rattle.layout.proofs.lay_blocks.Given as goal

abbrev pub invariant-loop-block : goal.invariant-loop-block
invariant-loop-block l = record {
  done : List ℕ;
  laid : Grows l.initial.out l.out done;
  whole : done ++ lay_blocks (drop l.block-index l.blocks) l.rest ≡ lay_blocks l.blocks l.effects;
  enough : sum_own (drop l.block-index l.blocks) ≤ length l.rest;
  end : l.out.end + 10 * sum_own (drop l.block-index l.blocks)
      ≡ l.initial.out.end + (17 * l.block-index + 10 * sum_own l.blocks);
}
