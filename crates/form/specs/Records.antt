-- Laws of the records of a form: from each place the records are the one that starts there and those after it, up to
-- the end. Rests on Form alone.
use mathlib.Core.Bool.{Bool, true, false}
use Rattle.std.specs.Prelude.{List, [], ◌∷◌, ◌≡◌, refl, ℕ, zero, suc, ◌+◌, ◌≤◌, ◌<◌, ltb, eqb, length}
use Rattle.std.proofs.Common.{ap, sym, ◌∙◌, arith, lit<, lit≤}
use borrow.Author.Tests.{lt-ltb, le-ltb, ltb-true, ltb-false, ne_eqb, eq-eqb}
use Rattle.form.specs.Said.{Kind, Verdict, Refused}
use Rattle.form.specs.Form.{when, kind_number, unknown, counter_role, block_role, effect_role, kind_of, kind_at}
use Rattle.form.specs.Form.{is_block, is_effect, one_if, judged, starts_for, records_from, record_fault, end_fault}
use Rattle.form.specs.Form.{judge_ends, judge_records, own_effects}

-- where the record at `at` ends
abbrev pub next : List ℕ → ℕ → ℕ
next s at = at + (kind_at s at).length

-- a record of any kind has a byte, and at most 17
abbrev pub Sized : Kind → Type 0
Sized k = (0 < k.length) × (k.length ≤ 17)

pub sized : (number : ℕ) → Sized (kind_of number)
unfolding kind_of
sized number = by (eqb number 1) (eqb number 2) (eqb number 3)
  where
    by :
        (a b c : Bool)
        → Sized
        (when a (record { length = 17; role = counter_role })
        (when b (record { length = 17; role = block_role })
        (when c (record { length = 10; role = effect_role }) (record { length = 4; role = unknown }))))
    by true b c = (lit< tt, lit≤ tt)
    by false true c = (lit< tt, lit≤ tt)
    by false false true = (lit< tt, lit≤ tt)
    by false false false = (lit< tt, lit≤ tt)

pub next_above : (s : List ℕ) (at : ℕ) → at < next s at
next_above s at = omega (arith, (sized (kind_number s at)).0)

starts_end : (most : ℕ) (s : List ℕ) (at : ℕ) → length s ≤ at → starts_for most s at ≡ []
unfolding starts_for
starts_end zero s at h = refl
starts_end (suc most) s at h = rw (le-ltb at (length s) h)

starts_step : (most : ℕ) (s : List ℕ) (at : ℕ) → at < length s
    → starts_for (suc most) s at ≡ at ∷ starts_for most s (next s at)
unfolding starts_for
starts_step most s at h = rw (lt-ltb at (length s) h)

-- enough is enough
starts_enough :
    (f g : ℕ) (s : List ℕ) (at : ℕ) → length s ≤ at + f → length s ≤ at + g → starts_for f s at ≡ starts_for g s at
starts_enough zero g s at p q = starts_end zero s at (omega arith) ∙ sym (starts_end g s at (omega arith))
starts_enough (suc f) zero s at p q = starts_end (suc f) s at (omega arith) ∙ sym (starts_end zero s at (omega arith))
starts_enough (suc f) (suc g) s at p q =
    go (ltb at (length s)) refl (starts_enough f g s (next s at) (further f p) (further g q))
  where
    further : (m : ℕ) → length s ≤ at + suc m → length s ≤ next s at + m
    further m h = omega (arith, next_above s at)

    go :
        (b : Bool) → ltb at (length s) ≡ b → starts_for f s (next s at) ≡ starts_for g s (next s at)
        → starts_for (suc f) s at ≡ starts_for (suc g) s at
    go true e ih =
        starts_step f s at (ltb-true _ _ e)
        ∙ (ap (λ (l : List ℕ). at ∷ l) ih ∙ sym (starts_step g s at (ltb-true _ _ e)))
    go false e ih = starts_end (suc f) s at (ltb-false _ _ e) ∙ sym (starts_end (suc g) s at (ltb-false _ _ e))

pub records_end : (s : List ℕ) (at : ℕ) → length s ≤ at → records_from s at ≡ []
unfolding records_from
records_end s at h = starts_end (length s) s at h

pub records_step : (s : List ℕ) (at : ℕ) → at < length s → records_from s at ≡ at ∷ records_from s (next s at)
unfolding records_from
records_step s at h =
    starts_enough (length s) (suc (length s)) s at (omega arith) (omega arith) ∙ starts_step (length s) s at h

-- a fault decides, and without one what follows does
pub judged_fault : (fault place : ℕ) (rest : Verdict) → (fault ≡ 0 → ⊥) → judged fault place rest ≡ Refused fault place
judged_fault fault place rest n = rw (ne_eqb fault 0 n)

pub judged_none : (fault place : ℕ) (rest : Verdict) → fault ≡ 0 → judged fault place rest ≡ rest
judged_none fault place rest e = rw (eq-eqb fault 0 e)

-- Judging goes on at the next record: the loop's turn, as it leaves and as it goes on.
module _ (s : List ℕ) (at : ℕ) (h : at < length s) where
  ends_step :
      (n k : ℕ)
      → judge_ends s n (records_from s at) k
      ≡ judged (end_fault s at n k) at (judge_ends s n (records_from s (next s at)) (k + one_if (is_block s at)))
  unfolding judge_ends
  ends_step n k = rw (records_step s at h)

  pub ends_leave :
      (n k : ℕ) (all : Verdict) → (end_fault s at n k ≡ 0 → ⊥) → judge_ends s n (records_from s at) k ≡ all
      → Refused (end_fault s at n k) at ≡ all
  ends_leave n k all f p = sym (judged_fault (end_fault s at n k) at _ f) ∙ (sym (ends_step n k) ∙ p)

  pub ends_pass :
      (n k : ℕ) (all : Verdict) → end_fault s at n k ≡ 0 → judge_ends s n (records_from s at) k ≡ all
      → judge_ends s n (records_from s (next s at)) (k + one_if (is_block s at)) ≡ all
  ends_pass n k all e p = sym (judged_none (end_fault s at n k) at _ e) ∙ (sym (ends_step n k) ∙ p)

  rest_step :
      (b e : ℕ)
      → judge_records s (records_from s at) b e
      ≡ judged (record_fault s at b e) at
      (judge_records s (records_from s (next s at)) (b + one_if (is_block s at)) (e + one_if (is_effect s at)))
  unfolding judge_records
  rest_step b e = rw (records_step s at h)

  pub rest_leave :
      (b e : ℕ) (all : Verdict) → (record_fault s at b e ≡ 0 → ⊥) → judge_records s (records_from s at) b e ≡ all
      → Refused (record_fault s at b e) at ≡ all
  rest_leave b e all f p = sym (judged_fault (record_fault s at b e) at _ f) ∙ (sym (rest_step b e) ∙ p)

  pub rest_pass :
      (b e : ℕ) (all : Verdict) → record_fault s at b e ≡ 0 → judge_records s (records_from s at) b e ≡ all
      → judge_records s (records_from s (next s at)) (b + one_if (is_block s at)) (e + one_if (is_effect s at)) ≡ all
  rest_pass b e all q p = sym (judged_none (record_fault s at b e) at _ q) ∙ (sym (rest_step b e) ∙ p)

-- At the end of the records: 17 without a block, else the blocks decide.
pub end_none : (s : List ℕ) (b e : ℕ) → b ≡ 0 → judge_records s [] b e ≡ Refused 17 (length s)
unfolding judge_records
end_none s b e h = rw (eq-eqb b 0 h) (cases (eqb (length s) 0))
  where
    cases :
        (t : Bool)
        → judged (when (mathlib.Core.Bool.◌||◌ t true) 17 0) (length s) (judge_ends s b (records_from s 0) 0)
        ≡ Refused 17 (length s)
    cases true = refl
    cases false = refl

pub end_some :
    (s : List ℕ) (b e : ℕ) → (b ≡ 0 → ⊥) → b ≤ length s → judge_records s [] b e ≡ judge_ends s b (records_from s 0) 0
unfolding judge_records
end_some s b e n h = rw (ne_eqb b 0 n, ne_eqb (length s) 0 (λ z. n (omega arith)))

-- A block's effects: one more at an effect, none at any other record and at the end.
module _ (s : List ℕ) (at : ℕ) (h : at < length s) where
  pub own_more : (kind_at s at).role ≡ effect_role
      → own_effects s (records_from s at) ≡ suc (own_effects s (records_from s (next s at)))
  unfolding own_effects
  own_more e = rw (records_step s at h, eq-eqb (kind_at s at).role effect_role e)

  pub own_none : ((kind_at s at).role ≡ effect_role → ⊥) → own_effects s (records_from s at) ≡ 0
  unfolding own_effects
  own_none n = rw (records_step s at h, ne_eqb (kind_at s at).role effect_role n)

pub own_end : (s : List ℕ) (at : ℕ) → length s ≤ at → own_effects s (records_from s at) ≡ 0
unfolding own_effects
own_end s at h = rw (records_end s at h)
