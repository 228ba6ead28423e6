-- What an accepted form's body owes the walks, and that what a call owes leaves one outcome. Rests on Owed, Plan and
-- roundtrip's Sound.
use Rattle.std.specs.Prelude.{◌≡◌, List, ℕ, ◌*◌, ◌<◌, ◌≤◌, Result, Ok, Err}
use Rattle.std.proofs.Common.{sym, ap, subst, ◌∙◌, le_trans, le_of_lt, lt_of_le_of_lt, mul-le-mul_left, mul-le-mul_right, arith, lit<, Fits}
use Rattle.std.specs.Int.{w64}
use Rattle.form.specs.Said.{Accepted}
use Rattle.form.specs.Said.{number_of}
use Rattle.form.specs.Form.{judge, body_of}
use Rattle.form.specs.Conflict.{block}
use Rattle.form.specs.declared.Counter.{Counter}
use Rattle.form.specs.declared.Refusal.{Refusal}
use Rattle.counter.specs.Answer.{Values, said, Owed as OwedCount}
use Rattle.counter.specs.Answer.Owed.{no_relation, no_count as without, counted as with_count}
use Rattle.lower_laws.specs.Loops.{count_once}
use Rattle.roundtrip.specs.Acceptance.{refused}
use Rattle.roundtrip.specs.Sound.{sound, well_formed}
use Rattle.theory.specs.Route.{step_cost}
use Rattle.theory.specs.Range.{Range, up_same}
use Rattle.theory.specs.Plan.{cost_limit}
use Rattle.plan.specs.Owed.{CountOf, Owed}
use Rattle.plan.specs.Owed.Owed.{no_form, no_count, counted}

-- ---- the body

pub cheap : (s : List ℕ) → judge s ≡ Accepted → (b : ℕ) → (block (body_of s) b).cost ≤ 1000000
unfolding block
cheap s a b = ((well_formed s a).blocks b).cost

-- ---- one outcome

module _ {A : Type 0} (s : List ℕ) (refused_by : ℕ → ℕ → A) (with : ℕ → A) where
  pub owed_once : (x y : A) → Owed s refused_by with x → Owed s refused_by with y → x ≡ y
  owed_once x y (no_form n p j e) (no_form m q k f) = e ∙ cc (j, k) ∙ sym f
  owed_once x y (no_form n p j e) (no_count k none f) = absurd (refused (sym j ∙ k))
  owed_once x y (no_form n p j e) (counted k m c f) = absurd (refused (sym j ∙ k))
  owed_once x y (no_count j none e) (no_form m q k f) = absurd (refused (sym k ∙ j))
  owed_once x y (no_count j none e) (no_count k never f) = e ∙ sym f
  owed_once x y (no_count j none e) (counted k m c f) = absurd (none m c)
  owed_once x y (counted j n c e) (no_form m q k f) = absurd (refused (sym k ∙ j))
  owed_once x y (counted j n c e) (no_count k none f) = absurd (none n c)
  owed_once x y (counted j n c e) (counted k m d f) =
      e ∙ ap with
      (count_once 1 (body_of s).counter.initial (body_of s).counter.step (body_of s).counter.relation
      (body_of s).counter.limit n m c d) ∙ sym f

-- ---- from the counter's answer

abbrev pub CounterOwed : Counter → Result ℕ Refusal → Type 0
CounterOwed counter answer =
    OwedCount counter.initial counter.step counter.relation counter.limit (said answer)

module _ (s : List ℕ) (a : judge s ≡ Accepted) where
  known : 5 < (body_of s).counter.relation → ⊥
  known h = omega (arith, (well_formed s a).relation)

  pub no_count_owed : (r : Refusal) → CounterOwed (body_of s).counter (Err r)
      → ((k : ℕ) → CountOf (body_of s).counter k → ⊥) × (number_of r.fault ≡ 20) × (r.place ≡ 0)
  no_count_owed r (no_relation h e) = absurd (known h)
  no_count_owed r (without l never e) =
      (never, ap (λ (v : Values). v.number) e, ap (λ (v : Values). v.place) e)
  no_count_owed r (with_count l k c e) =
      absurd (omega (arith, c.enough, ap (λ (v : Values). v.iterations) e))

  pub count_owed : (k : ℕ) → CounterOwed (body_of s).counter (Ok k) → CountOf (body_of s).counter k
  count_owed k (no_relation h e) = absurd (known h)
  count_owed k (without l never e) = absurd (omega (arith, ap (λ (v : Values). v.number) e))
  count_owed k (with_count l j c e) = subst (CountOf (body_of s).counter) (sym (ap (λ (v : Values). v.iterations) e)) c

-- ---- how large weights are

-- 64 blocks of 1,000,000 at most
pub cost_range : (s : List ℕ) → judge s ≡ Accepted → Range (body_of s).count (step_cost (body_of s)) cost_limit
cost_range s a = record {
  most = λ _. 1000000;
  each = λ b way h. cheap s a b;
  all = rw (up_same 1000000 (body_of s).count) (omega (arith, (sound s a).few));
}

-- the bound fits a word
pub product : (count weight : ℕ) → count < 4294967296 → weight ≤ cost_limit → Fits w64 (count * weight)
product count weight h l =
    record {
      fits =
          lt_of_le_of_lt (le_trans (mul-le-mul_right weight (le_of_lt h)) (mul-le-mul_left 4294967296 l)) (lit< tt);
    }
