-- From the reader's answer to the list's: a refusal as it is, and of an accepted form its body. Rests on Answer and
-- roundtrip.Read.
use Rattle.std.specs.Prelude.{◌≡◌, refl, Bool, true, false, List, ℕ, ltb, length}
use Rattle.std.proofs.Common.{sym, ap, subst, ◌∙◌, ltb-true, ltb-false}
use Rattle.form.specs.declared.Body.{Body}
use Rattle.form.specs.Said.{Reading, Verdict, Accepted, Refused as NoForm}
use Rattle.form.specs.Form.{when, judge, body_of}
use Rattle.form.specs.Answer.{reading}
use Rattle.form.specs.Conflict.{conflict_bytes}
use Rattle.roundtrip.specs.Read.{read_as, read_accepted, read_body}
use Rattle.listing.specs.Answer.{Listed, Bytes, Refused, said, Owed, as_judged, listed_in, listing, held_after, Answered}
use Rattle.listing.specs.Answer.Owed.{no_form, no_room, listed}

-- the same in numbers
pub answered : (form before : List ℕ) (r : Listed) (after : List ℕ) → r ≡ listing form (length before)
    → after ≡ held_after r (conflict_bytes (body_of form)) before → Answered form before r after
answered form before r after e h = (
  e,
  (
    h,
    subst (λ (a : Listed). after ≡ held_after a list before → Owed form before (said a) after) (sym e)
        (by (judge form) refl (ltb (length before) (length list)) refl) h,
  ),
)
  where
    list : List ℕ
    list = conflict_bytes (body_of form)

    by : (v : Verdict) → judge form ≡ v → (short : Bool) → ltb (length before) (length list) ≡ short
        → after ≡ held_after (as_judged v (when short (Refused 42 (length list)) (Bytes (length list)))) list before
        → Owed form before (said (as_judged v (when short (Refused 42 (length list)) (Bytes (length list))))) after
    by (NoForm number place) j short s held = no_form number place j refl held
    by Accepted j true s held = no_room j (ltb-true (length before) (length list) s) refl held
    by Accepted j false s held = listed j (ltb-false (length before) (length list) s) refl held

module _ (s : List ℕ) (r : Reading) (is : r ≡ reading s) where
  pub listed_as : r.verdict ≡ Accepted → (a : Listed) (out after : List ℕ) → a ≡ listed_in r.body (length out)
      → after ≡ held_after a (conflict_bytes r.body) out → Answered s out a after
  listed_as ok a out after p q =
      answered s out a after
      (p ∙ ap (λ (b : Body). listed_in b (length out)) (read_body s r is ok)
      ∙ ap (λ (v : Verdict). as_judged v (listed_in (body_of s) (length out))) (sym (read_accepted s r is ok)))
      (q ∙ ap (λ (b : Body). held_after a (conflict_bytes b) out) (read_body s r is ok))

  pub refused_as : (number place : ℕ) (out : List ℕ) → r.verdict ≡ NoForm number place
      → Answered s out (Refused number place) out
  refused_as number place out e = answered s out (Refused number place) out (is_refused (length out)) refl
    where
      is_refused : (room : ℕ) → Refused number place ≡ listing s room
      is_refused room = ap (λ (v : Verdict). as_judged v (listed_in (body_of s) room))
          (sym (read_as s r is (NoForm number place) e))
