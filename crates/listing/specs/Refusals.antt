-- Which refusals the list can give, after document 01: 10 to 19, and 42. Rests on Answer and roundtrip's Refusals.
use Rattle.std.specs.Prelude.{◌≡◌, refl, ◌⊎◌, Bool, true, false, List, ℕ, ltb, length}
use Rattle.std.proofs.Common.{sym, ◌∙◌, inl, inr, arith}
use Rattle.form.specs.Said.{Verdict, Accepted, Refused as NoForm}
use Rattle.form.specs.Form.{when, judge, body_of}
use Rattle.form.specs.Conflict.{conflict_bytes}
use Rattle.roundtrip.specs.Refusals.{ReadersNumber, reader_gives}
use Rattle.listing.specs.Answer.{Listed, Bytes, Refused, Values, Owed, as_judged, Answered}
use Rattle.listing.specs.Answer.Owed.{no_form, no_room, listed}

-- by the case
pub list_refusals : (form before : List ℕ) (r : Listed) (after : List ℕ) → Answered form before r after
    → (number place : ℕ) → r ≡ Refused number place → ReadersNumber number ⊎ (number ≡ 42)
list_refusals form before r after says number place e =
    by (judge form) refl (ltb (length before) (length list)) (sym says.0 ∙ e)
  where
    list : List ℕ
    list = conflict_bytes (body_of form)

    by : (v : Verdict) → judge form ≡ v → (short : Bool)
        → as_judged v (when short (Refused 42 (length list)) (Bytes (length list))) ≡ Refused number place
        → ReadersNumber number ⊎ (number ≡ 42)
    by (NoForm n p) j short q = let same : n ≡ number = cc in inl (rw (← same) (reader_gives form n p j))
    by Accepted j true q = inr (cc)
    by Accepted j false q = let z : ◌≡◌ {A = ℕ} 0 1 = cc in absurd (omega arith)

-- by the number
pub list_numbers_lem : (form before : List ℕ) (answer : Values) (after : List ℕ) → Owed form before answer after
    → (answer.number ≡ 0) ⊎ (ReadersNumber answer.number ⊎ (answer.number ≡ 42))
list_numbers_lem form before answer after (no_form n p j e held) = inr (inl (rw e (reader_gives form n p j)))
list_numbers_lem form before answer after (no_room a h e held) = inr (inr (rw e))
list_numbers_lem form before answer after (listed a h e held) = inl (rw e)
