-- What the code's answers say tells them apart: no two of them say the same (Said, and Answer's reading_of). So a
-- promise on what is said leaves one answer of the code. Rests on Said, Answer and Refusals.
use Rattle.std.specs.Prelude.{◌≡◌, List, ℕ, Result, Ok, Err, ⊤, is_ok}
use Rattle.std.proofs.Math.Path.{refl, sym, ap}
use Rattle.std.proofs.Common.{◌∙◌, arith}
use Rattle.form.specs.declared.Body.{Body}
use Rattle.form.specs.declared.Kind.{Kind as KindCase}
use Rattle.form.specs.declared.Kind.TheVariants.{Unknown, Counter, Block, Effect}
use Rattle.form.specs.declared.Refusal.{Refusal}
use Rattle.form.specs.Said.{Refused, Reading, Kind, number_of, verdict_of, written_of, row_of}
use Rattle.form.specs.Answer.{reading_of, accepted, held_after, Judged, ReadAs, Wrote}
use Rattle.form.specs.Form.{lay}
use Rattle.form.specs.Refusals.{one_number}

-- a reason and a place make one refusal
pub one_refusal : (a b : Refusal) → number_of a.fault ≡ number_of b.fault → a.place ≡ b.place → a ≡ b
one_refusal a b f p = λ i. record { fault = one_number a.fault b.fault f i; place = p i }

refused_once : (a b : Refusal) → Refused (number_of a.fault) a.place ≡ Refused (number_of b.fault) b.place → a ≡ b
refused_once a b e =
    let fault : number_of a.fault ≡ number_of b.fault = cc in
    let place : a.place ≡ b.place = cc in
    one_refusal a b fault place

pub one_verdict_of : (a b : Result ⊤ Refusal) → verdict_of a ≡ verdict_of b → a ≡ b
one_verdict_of (Ok x) (Ok y) e = refl
one_verdict_of (Ok x) (Err b) e = cc
one_verdict_of (Err a) (Ok y) e = cc
one_verdict_of (Err a) (Err b) e = ap Err (refused_once a b e)

pub one_written_of : (a b : Result ℕ Refusal) → written_of a ≡ written_of b → a ≡ b
one_written_of (Ok m) (Ok n) e = let same : m ≡ n = cc in ap Ok same
one_written_of (Ok m) (Err b) e = cc
one_written_of (Err a) (Ok n) e = cc
one_written_of (Err a) (Err b) e =
    let fault : number_of a.fault ≡ number_of b.fault = cc in
    let place : a.place ≡ b.place = cc in
    ap Err (one_refusal a b fault place)

pub one_reading_of : (a b : Result Body Refusal) → reading_of a ≡ reading_of b → a ≡ b
one_reading_of (Ok x) (Ok y) e = ap Ok (ap (λ (r : Reading). r.body) e)
one_reading_of (Ok x) (Err b) e = let v = ap (λ (r : Reading). r.verdict) e in cc
one_reading_of (Err a) (Ok y) e = let v = ap (λ (r : Reading). r.verdict) e in cc
one_reading_of (Err a) (Err b) e = ap Err (refused_once a b (ap (λ (r : Reading). r.verdict) e))

pub one_row_of : (a b : KindCase) → row_of a ≡ row_of b → a ≡ b
one_row_of Unknown Unknown e = refl
one_row_of Counter Counter e = refl
one_row_of Block Block e = refl
one_row_of Effect Effect e = refl
one_row_of a b e = absurd (omega (arith, ap (λ (k : Kind). k.role) e))

-- a verdict's case is the code's
pub accepted_ok : (r : Result ⊤ Refusal) → accepted (verdict_of r) ≡ is_ok r
accepted_ok (Ok done) = refl
accepted_ok (Err b) = refl

-- ---- so each promise leaves one answer of the code

pub one_judgement : (s : List ℕ) (a b : Result ⊤ Refusal) → Judged s (verdict_of a) → Judged s (verdict_of b) → a ≡ b
one_judgement s a b p q = one_verdict_of a b (p.0 ∙ sym q.0)

pub one_read : (s : List ℕ) (a b : Result Body Refusal) → ReadAs s (reading_of a) → ReadAs s (reading_of b) → a ≡ b
one_read s a b p q = one_reading_of a b (p.0 ∙ sym q.0)

pub one_write :
    (body : Body) (out : List ℕ) (a b : Result ℕ Refusal) (held kept : List ℕ) → Wrote body out (written_of a) held
    → Wrote body out (written_of b) kept
    → (a ≡ b) × (held ≡ kept)
one_write body out a b held kept p q =
    let said : written_of a ≡ written_of b = p.0 ∙ sym q.0 in
    (one_written_of a b said, p.1.0 ∙ (ap (λ r. held_after r (lay body) out) said ∙ sym q.1.0))
