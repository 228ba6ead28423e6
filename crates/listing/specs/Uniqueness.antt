-- What the contract leaves: one answer and one content of the lent bytes. Rests on Answer and form's OneCase.
use Rattle.std.specs.Prelude.{◌≡◌, List, ℕ, length, Result, Ok, Err}
use Rattle.std.proofs.Common.{sym, ap, ◌∙◌}
use Rattle.form.specs.declared.Refusal.{Refusal}
use Rattle.form.specs.Said.{number_of as fault_number}
use Rattle.form.specs.OneCase.{one_refusal}
use Rattle.form.specs.Form.{body_of}
use Rattle.form.specs.Conflict.{conflict_bytes}
use Rattle.listing.specs.Answer.{Listed, listed_of, listing, held_after, Answered}

-- ---- the list: the answer, and the lent bytes after it

module _ (form before : List ℕ) where
  pub one_list : (a b : Listed) (x y : List ℕ)
      → a ≡ listing form (length before) → x ≡ held_after a (conflict_bytes (body_of form)) before
      → b ≡ listing form (length before) → y ≡ held_after b (conflict_bytes (body_of form)) before → (a ≡ b) × (x ≡ y)
  one_list a b x y p u q v =
      (p ∙ sym q, u ∙ ap (λ (r : Listed). held_after r (conflict_bytes (body_of form)) before) (p ∙ sym q) ∙ sym v)

-- ---- what the code's answer says tells it: no two of them say the same
pub one_listed_of : (a b : Result ℕ Refusal) → listed_of a ≡ listed_of b → a ≡ b
one_listed_of (Ok m) (Ok n) e = let same : m ≡ n = cc in ap Ok same
one_listed_of (Ok m) (Err b) e = cc
one_listed_of (Err a) (Ok n) e = cc
one_listed_of (Err a) (Err b) e =
    let fault : fault_number a.fault ≡ fault_number b.fault = cc in
    let place : a.place ≡ b.place = cc in
    ap Err (one_refusal a b fault place)

-- so the call's promise leaves one answer of the code, and one content
pub one_answer : (form before : List ℕ) (a b : Result ℕ Refusal) (x y : List ℕ)
    → Answered form before (listed_of a) x → Answered form before (listed_of b) y → (a ≡ b) × (x ≡ y)
one_answer form before a b x y p q =
    let same = one_list form before (listed_of a) (listed_of b) x y p.0 p.1.0 q.0 q.1.0 in
    (one_listed_of a b same.0, same.1)
