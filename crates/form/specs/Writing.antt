-- Laws of the reader's and the writer's answers: the numbers follow the case; and one law for each way that the writer
-- ends. Rests on Form and Answer.
use Rattle.std.specs.Prelude.{Bool, true, false, List, ◌≡◌, refl, ℕ, ◌≤◌, ◌<◌, ltb, length}
use Rattle.std.proofs.Common.{true≢false, ap, sym, ◌∙◌, lt-ltb, le-ltb}
use Rattle.std.proofs.lemmas.Bool.{false≢true}
use Rattle.form.specs.declared.Body.{Body}
use Rattle.form.specs.Said.{Verdict, Accepted, Refused, Written, Bytes, Unwritten}
use Rattle.form.specs.Form.{when, judge, lay, counts_fit}
use Rattle.form.specs.Answer.{said, accepted, Judged, as_judged, said_written, written, held_after, Wrote}

pub judged_as : (s : List ℕ) (v : Verdict) → v ≡ judge s → Judged s v
judged_as s v e = (e, ap said e)

pub wrote_as :
    (body : Body) (out : List ℕ) (r : Written) (held : List ℕ) → r ≡ written body (length out)
    → held ≡ held_after r (lay body) out
    → Wrote body out r held
wrote_as body out r held e h = (e, (h, ap said_written e))

pub counts_refused : (body : Body) (room : ℕ) → counts_fit body ≡ false → Unwritten 14 0 ≡ written body room
counts_refused body room e = rw e

-- a verdict that refuses decides, and one that accepts leaves it to the room
judged_away : (v : Verdict) (r s : Written) → accepted v ≡ false → as_judged v r ≡ as_judged v s
judged_away Accepted r s e = absurd (true≢false e)
judged_away (Refused number place) r s e = refl

judged_on : (v : Verdict) (r : Written) → accepted v ≡ true → r ≡ as_judged v r
judged_on Accepted r e = refl
judged_on (Refused number place) r e = absurd (false≢true e)

pub held_refused : (v : Verdict) (form out : List ℕ) → accepted v ≡ false
    → out ≡ held_after (as_judged v (Bytes 0)) form out
held_refused Accepted form out e = absurd (true≢false e)
held_refused (Refused number place) form out e = refl

module _ (body : Body) (room : ℕ) (fit : counts_fit body ≡ true) (v : Verdict) (is : v ≡ judge (lay body)) where
  abbrev pick : Bool → Written
  pick short = when short (Unwritten 42 (length (lay body))) (Bytes (length (lay body)))

  abbrev by_room : Written
  by_room = pick (ltb room (length (lay body)))

  whole : as_judged v by_room ≡ written body room
  whole = rw (fit, is)

  pub form_refused : accepted v ≡ false → as_judged v (Bytes 0) ≡ written body room
  form_refused e = judged_away v (Bytes 0) by_room e ∙ whole

  pub room_short : accepted v ≡ true → room < length (lay body) → Unwritten 42 (length (lay body)) ≡ written body room
  room_short e h = sym (ap pick (lt-ltb room (length (lay body)) h)) ∙ (judged_on v by_room e ∙ whole)

  pub room_enough : accepted v ≡ true → length (lay body) ≤ room → Bytes (length (lay body)) ≡ written body room
  room_enough e h = sym (ap pick (le-ltb room (length (lay body)) h)) ∙ (judged_on v by_room e ∙ whole)
