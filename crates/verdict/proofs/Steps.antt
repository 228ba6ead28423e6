-- A record judged by itself: a refusal of it is that of its fault, and where it is accepted it has none.
use Rattle.std.proofs.Common.{◌≡◌, ℕ, zero, suc, refl, ◌∙◌, arith, Err}
use Rattle.form.specs.declared.Refusal.{Refusal}
use Rattle.form.specs.Said.{Accepted, Refused, verdict_of}
use Rattle.form.specs.Form.{judged}
use Rattle.form.specs.Records.{judged_fault}

pub faulted :
    (r : Refusal) (fault place : ℕ) → verdict_of (Err r) ≡ judged fault place Accepted
    → (fault ≡ 0 → ⊥) × (verdict_of (Err r) ≡ Refused fault place)
faulted r zero place e = cc
faulted r (suc n) place e =
    let some : suc n ≡ 0 → ⊥ = λ z. omega arith in (some, e ∙ judged_fault (suc n) place Accepted some)

pub faultless : (fault place : ℕ) → Accepted ≡ judged fault place Accepted → fault ≡ 0
faultless zero place e = refl
faultless (suc n) place e =
    let refused : judged (suc n) place Accepted ≡ Refused (suc n) place =
    judged_fault (suc n) place Accepted (λ z. omega arith) in cc
