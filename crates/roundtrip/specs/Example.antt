-- The trainer's body of document 01, with block 1's target t: 173 bytes, a line for each record. As it stands in the
-- document (t is 3) the reader accepts it, so that the theorems of this crate say something of it; with t made 1 it is
-- refused, 16 at 34. Rests on Form.
use Rattle.std.specs.Prelude.{Bool, true, ◌&&◌, List, [], ◌∷◌, ◌≡◌, refl, ℕ, ltb}
use Rattle.std.proofs.Common.{ltb-true}
use Rattle.laws.specs.Tests.{and_out}
use Rattle.form.specs.Said.{Accepted, Refused}
use Rattle.form.specs.Form.{kind_of, starts_for, records_from, bad_field, bad_target, out_of_place, over_limit, payload_fault}
use Rattle.form.specs.Form.{record_fault, end_fault, judge_ends, judge_records, judge, body_of, lay}
use Rattle.roundtrip.specs.laying.Digits.{Each, each_byte}
use Rattle.roundtrip.specs.Sound.{WellFormed, well_formed}
use Rattle.roundtrip.specs.laying.WriteBack.{lay_back}

abbrev pub trainers : ℕ → List ℕ
trainers t =
    17 ∷ 0 ∷ 1 ∷ 0 ∷ 0 ∷ 0 ∷ 0 ∷ 0 ∷ 1 ∷ 0 ∷ 0 ∷ 0 ∷ 2 ∷ 10 ∷ 0 ∷ 0 ∷ 0 ∷
    17 ∷ 0 ∷ 2 ∷ 0 ∷ 7 ∷ 0 ∷ 0 ∷ 0 ∷ 3 ∷ 2 ∷ 1 ∷ 0 ∷ 3 ∷ 40 ∷ 0 ∷ 0 ∷ 0 ∷
    17 ∷ 0 ∷ 2 ∷ 0 ∷ 3 ∷ 0 ∷ 0 ∷ 0 ∷ 1 ∷ t ∷ 0 ∷ 0 ∷ 0 ∷ 0 ∷ 0 ∷ 0 ∷ 0 ∷
    10 ∷ 0 ∷ 3 ∷ 0 ∷ 1 ∷ 1 ∷ 0 ∷ 0 ∷ 0 ∷ 0 ∷
    17 ∷ 0 ∷ 2 ∷ 0 ∷ 11 ∷ 0 ∷ 0 ∷ 0 ∷ 1 ∷ 3 ∷ 0 ∷ 0 ∷ 0 ∷ 0 ∷ 0 ∷ 0 ∷ 0 ∷
    10 ∷ 0 ∷ 3 ∷ 0 ∷ 1 ∷ 1 ∷ 1 ∷ 0 ∷ 0 ∷ 0 ∷
    17 ∷ 0 ∷ 2 ∷ 0 ∷ 2 ∷ 0 ∷ 0 ∷ 0 ∷ 3 ∷ 4 ∷ 5 ∷ 0 ∷ 2 ∷ 20 ∷ 0 ∷ 0 ∷ 0 ∷
    17 ∷ 0 ∷ 2 ∷ 0 ∷ 25 ∷ 0 ∷ 0 ∷ 0 ∷ 1 ∷ 5 ∷ 0 ∷ 0 ∷ 0 ∷ 0 ∷ 0 ∷ 0 ∷ 0 ∷
    17 ∷ 0 ∷ 2 ∷ 0 ∷ 4 ∷ 0 ∷ 0 ∷ 0 ∷ 3 ∷ 7 ∷ 6 ∷ 1 ∷ 0 ∷ 0 ∷ 0 ∷ 0 ∷ 0 ∷
    17 ∷ 0 ∷ 2 ∷ 0 ∷ 18 ∷ 0 ∷ 0 ∷ 0 ∷ 1 ∷ 7 ∷ 0 ∷ 0 ∷ 0 ∷ 0 ∷ 0 ∷ 0 ∷ 0 ∷
    17 ∷ 0 ∷ 2 ∷ 0 ∷ 1 ∷ 0 ∷ 0 ∷ 0 ∷ 0 ∷ 0 ∷ 0 ∷ 0 ∷ 0 ∷ 0 ∷ 0 ∷ 0 ∷ 0 ∷ []

pub accepted : judge (trainers 3) ≡ Accepted
unfolding kind_of starts_for records_from bad_field bad_target out_of_place over_limit payload_fault record_fault end_fault
    judge_ends judge_records judge
accepted = refl

pub refused : judge (trainers 1) ≡ Refused 16 34
unfolding kind_of starts_for records_from bad_field bad_target out_of_place over_limit payload_fault record_fault end_fault
    judge_ends judge_records judge
refused = refl

abbrev bytes : List ℕ → Bool
bytes [] = true
bytes (x ∷ l) = ltb x 256 && bytes l

bytes_each : (l : List ℕ) → bytes l ≡ true → Each l
bytes_each [] h = tt
bytes_each (x ∷ l) h = let (b, more) = and_out (ltb x 256) (bytes l) h in (ltb-true x 256 b, bytes_each l more)

pub trainers_well_formed : WellFormed (body_of (trainers 3))
trainers_well_formed = well_formed (trainers 3) accepted

pub trainers_back : lay (body_of (trainers 3)) ≡ trainers 3
trainers_back = lay_back (trainers 3) accepted (each_byte (trainers 3) (bytes_each (trainers 3) refl))
