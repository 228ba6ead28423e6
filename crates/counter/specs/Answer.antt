-- What the counter owes for four numbers, in document 01's numbers, and what each of its answers says in them. Trusted:
-- definitions only. Rests on form's Counter and Said.
use Rattle.std.specs.Prelude.{◌≡◌, ℕ, ◌<◌, ◌≤◌, ℤ, Result, Ok, Err}
use Rattle.form.specs.declared.Refusal.{Refusal}
use Rattle.form.specs.Counter.{Count}
use Rattle.form.specs.Said.{number_of}

-- the refusal's number and place, and the loop count; what an answer does not have is zero
pub record Values : Type 0 where
  pub number : ℕ
  pub place : ℕ
  pub iterations : ℕ

abbrev pub count : ℕ → Values
count k = record { number = 0; place = 0; iterations = k }

abbrev pub refusal : (number place : ℕ) → Values
refusal number place = record { number = number; place = place; iterations = 0 }

-- what each case of the answer says
abbrev pub said : Result ℕ Refusal → Values
said (Ok k) = count k
said (Err r) = refusal (number_of r.fault) r.place

-- a relation above 5 is refused with 15 at place 0; else the answer is the count, or 20 at place 0 where no count
-- exists
pub data Owed (initial step : ℤ) (relation : ℕ) (limit : ℤ) (answer : Values) : Type 0 where
  no_relation : 5 < relation → answer ≡ refusal 15 0 → Owed initial step relation limit answer
  no_count : relation ≤ 5 → ((k : ℕ) → Count initial step relation limit k → ⊥) → answer ≡ refusal 20 0
      → Owed initial step relation limit answer
  counted : relation ≤ 5 → (k : ℕ) → Count initial step relation limit k → answer ≡ count k
      → Owed initial step relation limit answer
