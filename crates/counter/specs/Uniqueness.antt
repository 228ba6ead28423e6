-- What is owed leaves one answer. For each of the three cases of document 01 the values that the answer then has;
-- that any two answers to one question are the same, for each public call; which one it is; and the count's range.
-- Rests on Answer and on lower_laws' Loops.
use Rattle.std.specs.Prelude.{◌≡◌, refl, Bool, ℕ, zero, suc, ◌<◌, ◌≤◌, ℤ, Result, Ok, Err}
use Rattle.std.proofs.Common.{sym, ap, ◌∙◌, arith, SFits}
use Rattle.std.specs.Int.{w32}
use Rattle.form.specs.Relation.{meets}
use Rattle.form.specs.declared.Refusal.{Refusal}
use Rattle.form.specs.declared.Fault.TheVariants.{NoCount}
use Rattle.form.specs.Counter.{Count}
use Rattle.form.specs.Refusals.{one_number}
use Rattle.lower_laws.specs.Steps.{Found}
use Rattle.lower_laws.specs.Loops.{count_of, count_once, count_found, count_few}
use Rattle.counter.specs.Answer.{Values, count, refusal, said, Owed, no_relation, no_count, counted}

-- the answer that the closed form gives: a case of document 01 is decided by computing it
abbrev pub answer_of : ℕ → Result ℕ Refusal
answer_of zero = Err (record { fault = NoCount; place = 0 })
answer_of (suc k) = Ok (suc k)

module _ (initial step : ℤ) (relation : ℕ) (limit : ℤ) where
  too_high : 5 < relation → relation ≤ 5 → ⊥
  too_high h l = omega arith

  -- ---- what each case of document 01 leaves
  pub above_five : 5 < relation → (v : Values) → Owed initial step relation limit v → v ≡ refusal 15 0
  above_five h v (no_relation g e) = e
  above_five h v (no_count l none e) = absurd (too_high h l)
  above_five h v (counted l k c e) = absurd (too_high h l)

  pub without_count : relation ≤ 5 → ((k : ℕ) → Count initial step relation limit k → ⊥) → (v : Values)
      → Owed initial step relation limit v → v ≡ refusal 20 0
  without_count l none v (no_relation h e) = absurd (too_high h l)
  without_count l none v (no_count g n e) = e
  without_count l none v (counted g k c e) = absurd (none k c)

  pub with_count : relation ≤ 5 → (k : ℕ) → Count initial step relation limit k → (v : Values)
      → Owed initial step relation limit v → v ≡ count k
  with_count l k c v (no_relation h e) = absurd (too_high h l)
  with_count l k c v (no_count g none e) = absurd (none k c)
  with_count l k c v (counted g j d e) = e ∙ ap count (count_once 1 initial step relation limit j k d c)

  pub owed_once : (v w : Values) → Owed initial step relation limit v → Owed initial step relation limit w → v ≡ w
  owed_once v w (no_relation h e) o = e ∙ sym (above_five h w o)
  owed_once v w (no_count l none e) o = e ∙ sym (without_count l none w o)
  owed_once v w (counted l k c e) o = e ∙ sym (with_count l k c w o)

  -- ---- the range of a count that is answered
  pub at_least_one : (k : ℕ) → Owed initial step relation limit (count k) → 1 ≤ k
  at_least_one k (no_relation h e) = omega (arith, ap (λ (v : Values). v.number) e)
  at_least_one k (no_count l none e) = omega (arith, ap (λ (v : Values). v.number) e)
  at_least_one k (counted l j c e) = omega (arith, c.enough, ap (λ (v : Values). v.iterations) e)

  pub at_most : SFits w32 initial → (v : Values) → Owed initial step relation limit v → v.iterations ≤ 4294967295
  at_most fits v (no_relation h e) = omega (arith, ap (λ (v : Values). v.iterations) e)
  at_most fits v (no_count l none e) = omega (arith, ap (λ (v : Values). v.iterations) e)
  at_most fits v (counted l k c e) = omega
      (arith, count_few initial fits relation limit step k c, ap (λ (v : Values). v.iterations) e)

  -- ---- `count`, and `count_of` at the numbers of its counter
  mixed : (k number place : ℕ) → count k ≡ refusal number place → Owed initial step relation limit (count k) → ⊥
  mixed k number place e o = omega (arith, at_least_one k o, ap (λ (v : Values). v.iterations) e)

  same : (a b : Result ℕ Refusal) → said a ≡ said b → Owed initial step relation limit (said a)
      → Owed initial step relation limit (said b) → a ≡ b
  same (Ok k) (Ok l) e o p = ap Ok (ap (λ (v : Values). v.iterations) e)
  same (Ok k) (Err r) e o p = absurd (mixed k _ r.place e o)
  same (Err r) (Ok k) e o p = absurd (mixed k _ r.place (sym e) p)
  same (Err r) (Err s) e o p =
      let faults = one_number r.fault s.fault (ap (λ (v : Values). v.number) e) in
      λ i. Err (record { fault = faults i; place = (e i).place })

  pub one_count : (a b : Result ℕ Refusal) → Owed initial step relation limit (said a)
      → Owed initial step relation limit (said b) → a ≡ b
  one_count a b o p = same a b (owed_once (said a) (said b) o p) o p

  pub owes : relation ≤ 5 → (n : ℕ) → Found (Count initial step relation limit) n
      → Owed initial step relation limit (said (answer_of n))
  owes l zero w = no_count l w refl
  owes l (suc k) w = counted l (suc k) w refl

  pub decided : SFits w32 initial → relation ≤ 5 → (a : Result ℕ Refusal) → Owed initial step relation limit (said a)
      → a ≡ answer_of (count_of initial step relation limit)
  decided fits l a o =
      one_count a (answer_of (count_of initial step relation limit)) o
      (owes l (count_of initial step relation limit) (count_found initial fits relation limit step))

-- ---- `meets`
pub one_meets : (relation : ℕ) (value constant : ℤ) (a b : Bool) → a ≡ meets relation value constant
    → b ≡ meets relation value constant → a ≡ b
one_meets relation value constant a b p q = p ∙ sym q
