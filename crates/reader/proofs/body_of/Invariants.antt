-- `reader::body_of` meets its contract. The loop's invariant: the blocks and the effects gathered, with those of the
-- records left, are all of the form's, and they are no more than bytes.
use Rattle.std.proofs.Common.{◌≡◌, ◌≤◌}
use Rattle.form.specs.Form.{blocks_in, effects_in, records_from, zero_block, zero_effect}
use Rattle.form.specs.Filling.{Gathering}
use Rattle.reader.proofs.body_of.Given as goal

abbrev pub invariant-loop-record : goal.invariant-loop-record
invariant-loop-record l =
    let all = records_from l.s 0 in
    let left = records_from l.s l.record-iterator.at in
    record {
      form : l.record-iterator.form.now ≡ l.s;
      blocks : Gathering zero_block 64 (blocks_in l.s all) (blocks_in l.s left) l.blocks l.count;
      effects : Gathering zero_effect 256 (effects_in l.s all) (effects_in l.s left) l.effects l.total;
      few_blocks : l.count ≤ l.record-iterator.at;
      few_effects : l.total ≤ l.record-iterator.at;
    }
