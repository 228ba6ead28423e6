-- `verdict::judge_ends` meets its contract. The loop's invariant: what is left to judge says what the whole does, and
-- no more blocks are passed than bytes.
use Rattle.std.proofs.Common.{◌≡◌, ◌≤◌}
use Rattle.form.specs.Form.{records_from, judge_ends}
use Rattle.verdict.proofs.judge_ends.Given as goal

abbrev pub invariant-loop-record : goal.invariant-loop-record
invariant-loop-record l = record {
  form : l.record-iterator.form.now ≡ l.s;
  left : judge_ends l.s l.n (records_from l.s l.record-iterator.at) l.k ≡ judge_ends l.s l.n (records_from l.s 0) 0;
  few : l.k ≤ l.record-iterator.at;
}
