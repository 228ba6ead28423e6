-- What the writer and the list say they have written stands in the lent bytes: so many bytes are there. Rests on form's
-- and listing's Answer.
use Rattle.std.specs.Prelude.{Bool, true, false, List, ◌++◌, ◌≡◌, ℕ, ◌≤◌, ltb, length, take, drop, set, Result, Ok, Err}
use Rattle.std.proofs.Common.{ap, sym, ◌∙◌, arith, length-append, length-set, length-take-le}
use Rattle.io.specs.Counts.{IsPrefixLen}
use Rattle.form.specs.declared.Body.{Body}
use Rattle.form.specs.Said.{Verdict, Accepted, Refused, Written, Bytes as WrittenBytes, Unwritten, written_of}
use Rattle.form.specs.declared.Refusal.{Refusal}
use Rattle.form.specs.Form.{when, judge, body_of, lay, counts_fit}
use Rattle.form.specs.Answer.{written, as_judged as as_written, held_after as held_form}
use Rattle.form.specs.Conflict.{conflict_bytes}
use Rattle.listing.specs.Answer.{Listed, Bytes, Refused as Unlisted, listed_of, listing, as_judged, held_after}

-- bytes that stand first are there
front : (n : ℕ) (bytes rest held : List ℕ) → n ≡ length bytes → held ≡ bytes ++ rest → IsPrefixLen n held
front n bytes rest held e h =
    let least : n ≤ length held = omega (arith, e, ap length h, length-append bytes rest) in
    (least, sym (length-take-le n held least))

written_length :
    (fit : Bool) (verdict : Verdict) (short : Bool) (l n : ℕ)
    → WrittenBytes n ≡ when fit (as_written verdict (when short (Unwritten 42 l) (WrittenBytes l))) (Unwritten 14 0)
    → n ≡ l
written_length true Accepted false l n e = cc
written_length true Accepted true l n e = cc
written_length true (Refused number place) short l n e = cc
written_length false verdict short l n e = cc

pub written_fits :
    (body : Body) (out held : List ℕ) (r : Result ℕ Refusal) (n : ℕ)
    → written_of r ≡ written body (length out) → held ≡ held_form (written_of r) (lay body) out → r ≡ Ok n
    → IsPrefixLen n held
written_fits body out held r n says holds e =
    front n (lay body) (drop (length (lay body)) out) held
    (written_length (counts_fit body) (judge (lay body)) (ltb (length out) (length (lay body)))
    (length (lay body)) n (sym (ap written_of e) ∙ says))
    (holds ∙ ap (λ (w : Result ℕ Refusal). held_form (written_of w) (lay body) out) e)

listed_length :
    (verdict : Verdict) (short : Bool) (l n : ℕ)
    → Bytes n ≡ as_judged verdict (when short (Unlisted 42 l) (Bytes l)) → n ≡ l
listed_length Accepted false l n e = cc
listed_length Accepted true l n e = cc
listed_length (Refused number place) short l n e = cc

pub listed_fits :
    (form out held : List ℕ) (r : Result ℕ Refusal) (n : ℕ)
    → listed_of r ≡ listing form (length out) → held ≡ held_after (listed_of r) (conflict_bytes (body_of form)) out
    → r ≡ Ok n → IsPrefixLen n held
listed_fits form out held r n says holds e =
    front n (conflict_bytes (body_of form)) (drop (length (conflict_bytes (body_of form))) out) held
    (listed_length (judge form) (ltb (length out) (length (conflict_bytes (body_of form))))
    (length (conflict_bytes (body_of form))) n (sym (ap listed_of e) ∙ says))
    (holds ∙ ap (λ (w : Result ℕ Refusal). held_after (listed_of w) (conflict_bytes (body_of form)) out) e)

-- a byte set anew leaves as many
pub kept : (n i v : ℕ) (l : List ℕ) → IsPrefixLen n l → n ≡ length (take n (set l i v))
kept n i v l (least, same) = sym (length-take-le n (set l i v) (omega (arith, length-set l i v)))
