-- The answers of the conflict list, in document 01's words, and what the code's answer says in them. Trusted: for each
-- case of the answer document 01's number and place, what is answered for any bytes and any room, and what the lent
-- bytes hold afterwards. A refusal's number is as tabled; 0 stands for none. Rests on form's Said, Form and Conflict.
use Rattle.std.specs.Prelude.{◌≡◌, List, ◌++◌, ℕ, ◌≤◌, ◌<◌, ltb, length, drop, Result, Ok, Err}
use Rattle.form.specs.declared.Body.{Body}
use Rattle.form.specs.declared.Refusal.{Refusal}
use Rattle.form.specs.Said.{Verdict, Accepted, Refused as NoForm, number_of as fault_number}
use Rattle.form.specs.Form.{when, judge, body_of}
use Rattle.form.specs.Conflict.{conflict_bytes}

-- What the conflict list answers: how many bytes it wrote, or the refusal's number and place
pub data Listed : Type 0 where
  Bytes : (count : ℕ) → Listed
  Refused : (number place : ℕ) → Listed

-- What the code's answer says
abbrev pub listed_of : Result ℕ Refusal → Listed
listed_of (Ok count) = Bytes count
listed_of (Err r) = Refused (fault_number r.fault) r.place

-- the refusal's number and place, and how many bytes are written; what an answer does not have is zero
pub record Values : Type 0 where
  pub number : ℕ
  pub place : ℕ
  pub bytes : ℕ

abbrev pub written : (bytes : ℕ) → Values
written bytes = record { number = 0; place = 0; bytes = bytes }

abbrev pub refusal : (number place : ℕ) → Values
refusal number place = record { number = number; place = place; bytes = 0 }

-- what each case of the answer says
abbrev pub said : Listed → Values
said (Bytes count) = written count
said (Refused number place) = refusal number place

abbrev pub number_of : Listed → ℕ
number_of answer = (said answer).number

abbrev pub place_of : Listed → ℕ
place_of answer = (said answer).place

abbrev pub bytes_of : Listed → ℕ
bytes_of answer = (said answer).bytes

-- What is owed for any bytes, in document 01's numbers, and what the lent bytes hold after it: the reader's refusal,
-- or 42 with the bytes needed, and all that stood there; else the list, and then what stood there.
pub data Owed (form before : List ℕ) (answer : Values) (after : List ℕ) : Type 0 where
  no_form : (number place : ℕ) → judge form ≡ NoForm number place → answer ≡ refusal number place → after ≡ before
      → Owed form before answer after
  no_room :
      judge form ≡ Accepted → length before < length (conflict_bytes (body_of form))
      → answer ≡ refusal 42 (length (conflict_bytes (body_of form))) → after ≡ before
      → Owed form before answer after
  listed :
      judge form ≡ Accepted → length (conflict_bytes (body_of form)) ≤ length before
      → answer ≡ written (length (conflict_bytes (body_of form)))
      → after ≡ conflict_bytes (body_of form) ++ drop (length (conflict_bytes (body_of form))) before
      → Owed form before answer after

-- ---- the same by the answer's cases

-- 42 with the bytes needed, else how many bytes are written
abbrev pub listed_in : Body → ℕ → Listed
listed_in body room = when (ltb room (length (conflict_bytes body))) (Refused 42 (length (conflict_bytes body)))
    (Bytes (length (conflict_bytes body)))

-- the reader's refusals come first
abbrev pub as_judged : Verdict → Listed → Listed
as_judged Accepted rest = rest
as_judged (NoForm number place) rest = Refused number place

abbrev pub listing : List ℕ → ℕ → Listed
listing form room = as_judged (judge form) (listed_in (body_of form) room)

-- the list and then what stood there, or all that stood there
abbrev pub held_after : Listed → List ℕ → List ℕ → List ℕ
held_after (Bytes count) list out = list ++ drop (length list) out
held_after (Refused number place) list out = out

-- the call's promise: the case itself, and the same in numbers
abbrev pub Answered : (form before : List ℕ) → Listed → (after : List ℕ) → Type 0
Answered form before r after = (r ≡ listing form (length before))
    × ((after ≡ held_after r (conflict_bytes (body_of form)) before) × Owed form before (said r) after)
