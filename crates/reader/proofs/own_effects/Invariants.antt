-- `reader::own_effects` meets its contract. The loop's invariant: those counted and those left are all, and they are no
-- more than bytes.
use Rattle.std.proofs.Common.{◌≡◌, ◌+◌, ◌≤◌}
use Rattle.form.specs.Form.{own_effects, records_from}
use Rattle.reader.proofs.own_effects.Given as goal

abbrev pub invariant-loop-record : goal.invariant-loop-record
invariant-loop-record l =
    let s = l.after.form.now in
    record {
      form : l.record-iterator.form.now ≡ s;
      all : l.n + own_effects s (records_from s l.record-iterator.at) ≡ own_effects s (records_from s l.after.at);
      few : l.n ≤ l.record-iterator.at;
    }
