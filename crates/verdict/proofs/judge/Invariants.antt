-- `verdict::judge` meets its contract. The loop's invariant: what is left to judge says what the whole does, and no
-- more blocks and effects are passed than bytes.
use Rattle.std.proofs.Common.{◌≡◌, ◌≤◌, length}
use Rattle.form.specs.Form.{judge, judge_records, records_from}
use Rattle.verdict.proofs.judge.Given as goal

abbrev pub invariant-loop-record : goal.invariant-loop-record
invariant-loop-record l = record {
  form : l.record-iterator.form.now ≡ l.s;
  left : judge_records l.s (records_from l.s l.record-iterator.at) l.passed.blocks l.passed.effects ≡ judge l.s;
  blocks : l.passed.blocks ≤ l.record-iterator.at;
  fewer : l.passed.blocks ≤ length l.s;
  effects : l.passed.effects ≤ l.record-iterator.at;
}
