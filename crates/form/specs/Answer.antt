-- The answers of the reader and the writer. Trusted: document 01's number and values for each case of an answer, and
-- what each call answers. A refusal's number is as tabled; 0 stands for none. Rests on Said and Form.
use Rattle.std.specs.Prelude.{Bool, true, false, List, ◌++◌, ◌≡◌, ℕ, ltb, length, drop, Result, Ok, Err}
use Rattle.form.specs.declared.Body.{Body}
use Rattle.form.specs.declared.Refusal.{Refusal}
use Rattle.form.specs.Said.{Reading, Verdict, Accepted, Refused, Written, Bytes, Unwritten, number_of as fault_number}
use Rattle.form.specs.Form.{when, judge, body_of, zero_body, lay, counts_fit}

-- ---- the reader

-- The verdict in document 01's numbers: number 0 is no refusal, and its place is 0
pub record Values : Type 0 where
  pub number : ℕ
  pub place : ℕ

abbrev pub said : Verdict → Values
said Accepted = record { number = 0; place = 0 }
said (Refused number place) = record { number = number; place = place }

abbrev pub number_of : Verdict → ℕ
number_of verdict = (said verdict).number

abbrev pub place_of : Verdict → ℕ
place_of verdict = (said verdict).place

abbrev pub accepted : Verdict → Bool
accepted Accepted = true
accepted (Refused number place) = false

-- What judging owes: the case, and its numbers
abbrev pub Judged : List ℕ → Verdict → Type 0
Judged s verdict = (verdict ≡ judge s) × (said verdict ≡ said (judge s))

-- The reader: the verdict, with the body of an accepted form, and zeros beside a refusal
abbrev pub reading : List ℕ → Reading
reading s = record { verdict = judge s; body = when (accepted (judge s)) (body_of s) zero_body }

-- What the code's answer says: the body of an accepted form, and zeros beside a refusal
abbrev pub reading_of : Result Body Refusal → Reading
reading_of (Ok body) = record { verdict = Accepted; body = body }
reading_of (Err r) = record { verdict = Refused (fault_number r.fault) r.place; body = zero_body }

-- What reading owes: the case with its body, and the case's numbers
abbrev pub ReadAs : List ℕ → Reading → Type 0
ReadAs s answer = (answer ≡ reading s) × (said answer.verdict ≡ said (judge s))

-- ---- the writer

-- Its answer in document 01's numbers: on success the place is 0, and beside it stands how many bytes were written
pub record WrittenValues : Type 0 where
  pub number : ℕ
  pub place : ℕ
  pub bytes : ℕ

abbrev pub said_written : Written → WrittenValues
said_written (Bytes count) = record { number = 0; place = 0; bytes = count }
said_written (Unwritten number place) = record { number = number; place = place; bytes = 0 }

-- The two numbers that the exported call has for it: of a form that is written the second is how many bytes it has.
abbrev pub written_number : Written → ℕ
written_number answer = (said_written answer).number

abbrev pub written_place : Written → ℕ
written_place (Bytes count) = count
written_place (Unwritten number place) = place

abbrev pub as_judged : Verdict → Written → Written
as_judged Accepted rest = rest
as_judged (Refused number place) rest = Unwritten number place

-- The writer: 14 for its counts, then what the reader says of the laid-out bytes, then 42 with the bytes needed; else
-- how many bytes are written
abbrev pub written : Body → ℕ → Written
written body room =
    when (counts_fit body)
    (as_judged (judge (lay body))
    (when (ltb room (length (lay body))) (Unwritten 42 (length (lay body))) (Bytes (length (lay body)))))
    (Unwritten 14 0)

-- What the lent bytes hold after an answer: the form and then what stood there, or all that stood there
abbrev pub held_after : Written → List ℕ → List ℕ → List ℕ
held_after (Bytes count) form out = form ++ drop (length form) out
held_after (Unwritten number place) form out = out

-- What writing owes for a body and the lent bytes `out`: the case, what the lent bytes hold after it, and its numbers
abbrev pub Wrote : Body → (out : List ℕ) → Written → (held : List ℕ) → Type 0
Wrote body out answer held =
    (answer ≡ written body (length out))
    × ((held ≡ held_after answer (lay body) out) × (said_written answer ≡ said_written (written body (length out))))
