-- What an answer says whose refusal is told by any number, tabled or not: the same words as of the code's own answers.
-- Rests on the answers' definitions.
use Rattle.std.specs.Prelude.{ℕ, Result, Ok, Err, ⊤}
use Rattle.form.specs.Said.{Verdict, Accepted, Refused, Written, Bytes, Unwritten}
use Rattle.listing.specs.Answer.{Listed, Bytes as ListBytes, Refused as Unlisted}
use Rattle.counter.specs.Answer as Counter
use Rattle.plan.specs.Owed.{Values, refusal}
use Rattle.walk.specs.Answer as Walk
use Rattle.walk.specs.declared.Walked.{Walked}
use Rattle.sweep_steps.specs.Answer as Sweep
use Rattle.sweep_steps.specs.declared.Routed.{Routed}
use Rattle.numbers.specs.declared.numbered.Told.{Told}

abbrev pub verdict_told : Result ⊤ Told → Verdict
verdict_told (Ok done) = Accepted
verdict_told (Err told) = Refused told.number told.place

abbrev pub written_told : Result ℕ Told → Written
written_told (Ok count) = Bytes count
written_told (Err told) = Unwritten told.number told.place

abbrev pub counted_told : Result ℕ Told → Counter.Values
counted_told (Ok k) = Counter.count k
counted_told (Err told) = Counter.refusal told.number told.place

abbrev pub listed_told : Result ℕ Told → Listed
listed_told (Ok count) = ListBytes count
listed_told (Err told) = Unlisted told.number told.place

abbrev pub walk_told : Result Walked Told → Values
walk_told (Ok walked) = Walk.said (Ok walked)
walk_told (Err told) = refusal told.number told.place

abbrev pub sweep_told : Result Routed Told → Values
sweep_told (Ok routed) = Sweep.said (Ok routed)
sweep_told (Err told) = refusal told.number told.place
