-- What the exported calls return. Trusted: each number of an answer, from the answers of the layers below; 0 as number
-- is no refusal.
use Rattle.std.specs.Prelude.{List, ℕ, ◌/◌, length, Result}
use Rattle.form.specs.declared.Refusal.{Refusal}
use Rattle.form.specs.Said.{Verdict, Written}
use Rattle.form.specs.Form.{when, judge, body_of, lay}
use Rattle.form.specs.Answer.{accepted, number_of, place_of, written_number, written_place, written, held_after}
use Rattle.counter.specs.Answer as Counter
use Rattle.plan.specs.Owed.{Values}
use Rattle.entries.specs.declared.Entry.{Entry}
use Rattle.sweep_steps.specs.Answer as Sweep
use Rattle.sweep_steps.specs.declared.Routed.{Routed}
use Rattle.numbers.specs.declared.CountAnswer.{CountAnswer}
use Rattle.numbers.specs.declared.FormAnswer.{FormAnswer}
use Rattle.listing.specs.Answer.{Listed}
use Rattle.listing.specs.Answer as Conflict
use Rattle.numbers.specs.declared.ListNumbers.{ListNumbers}
use Rattle.numbers.specs.declared.SweepNumbers.{SweepNumbers}
use Rattle.numbers.specs.declared.WalkNumbers.{WalkNumbers}

abbrev pub form_answer : ℕ → ℕ → FormAnswer
form_answer number place = record { number = number; place = place }

-- The reader's verdict on any bytes
abbrev pub verdict_answer : Verdict → FormAnswer
verdict_answer v = form_answer (number_of v) (place_of v)

-- The writer's answer; with number 0 the place is the number of bytes written
abbrev pub written_answer : Written → FormAnswer
written_answer w = form_answer (written_number w) (written_place w)

-- The form read, and its body written back
abbrev pub rewrite_answer : List ℕ → ℕ → FormAnswer
rewrite_answer form room =
    when (accepted (judge form)) (written_answer (written (body_of form) room)) (verdict_answer (judge form))

abbrev pub rewrite_held : List ℕ → List ℕ → List ℕ
rewrite_held form out =
    when (accepted (judge form)) (held_after (written (body_of form) (length out)) (lay (body_of form)) out) out

-- The counter's answer, as the counter's own definition has it
abbrev pub count_said : Result ℕ Refusal → Counter.Values
count_said answer = Counter.said answer

abbrev pub count_values : CountAnswer → Counter.Values
count_values answer = record { number = answer.number; place = answer.place; iterations = answer.iterations }

-- The full walk's, as its own definition has it
abbrev pub walk_values : WalkNumbers → Values
walk_values answer =
    record {
      number = answer.number;
      place = answer.place;
      iterations = answer.iterations;
      weight = answer.weight;
      bound = answer.bound;
      least = answer.least;
      least_total = answer.least_total;
      kept_or_walked = answer.walked;
    }

-- The conflict list's; an entry has 5 bytes
abbrev pub list_numbers : Listed → ListNumbers
list_numbers r = record { number = Conflict.number_of r; place = Conflict.place_of r; entries = Conflict.bytes_of r / 5 }

-- The sweep's
abbrev pub sweep_said : Result Routed Refusal → Values
sweep_said answer = Sweep.said answer

abbrev pub sweep_values : SweepNumbers → Values
sweep_values answer =
    record {
      number = answer.number;
      place = answer.place;
      iterations = answer.iterations;
      weight = answer.weight;
      bound = answer.bound;
      least = answer.least;
      least_total = answer.least_total;
      kept_or_walked = answer.kept;
    }

abbrev pub swept_outcome : SweepNumbers → (route : List ℕ) → (table : List Entry) → Sweep.Outcome
swept_outcome answer route table = record { values = sweep_values answer; route = route; table = table }

-- The sweep over a table of 1,024 zero entries of its own, whatever that holds afterwards
abbrev pub OwnSweepOwed : (form route : List ℕ) → SweepNumbers → List ℕ → Type 0
OwnSweepOwed form route answer held =
    (table : List Entry) × Sweep.SweepOwed form route Sweep.own_table (swept_outcome answer held table)
