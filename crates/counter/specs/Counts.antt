-- The counts of document 01, 'The trainer's cases', as one table under one claim: for each question the one answer
-- that is owed. The largest stands among them. Rests on Uniqueness.
use Rattle.std.specs.Prelude.{◌≡◌, refl, List, [], ◌∷◌, ℕ, ◌≤◌, ℤ, pos, negsuc, Result}
use Rattle.std.proofs.Common.{ap, ◌∙◌, arith, SFits}
use Rattle.std.specs.Int.{w32}
use Rattle.std.proofs.Math.Facts.{sfits_lit}
use Rattle.form.specs.declared.Refusal.{Refusal}
use Rattle.lower_laws.specs.Steps.{later, first, within}
use Rattle.lower_laws.specs.Loops.{count_of}
use Rattle.counter.specs.Answer.{said, Owed}
use Rattle.counter.specs.Uniqueness.{answer_of, decided}

-- four numbers and the count, 0 for refusal 20
pub record Question : Type 0 where
  pub initial : ℤ
  pub step : ℤ
  pub relation : ℕ
  pub limit : ℤ
  pub count : ℕ

abbrev asked : ℤ → ℤ → ℕ → ℤ → ℕ → Question
asked initial step relation limit count =
    record { initial = initial; step = step; relation = relation; limit = limit; count = count }

abbrev pub questions : List Question
questions =
    asked (pos 0) (pos 1) 2 (pos 10) 10
    ∷ asked (pos 0) (pos 3) 1 (pos 100) 0
    ∷ asked (pos 0) (pos 3) 1 (pos 99) 33
    ∷ asked (pos 5) (pos 0) 2 (pos 5) 1
    ∷ asked (pos 5) (pos 0) 0 (pos 5) 0
    ∷ asked (pos 7) (pos 1) 0 (pos 8) 2
    ∷ asked (pos 2147483646) (pos 1) 5 (pos 2147483647) 0
    ∷ asked (pos 2147483646) (pos 1) 2 (pos 2147483647) 1
    ∷ asked (negsuc 2147483647) (pos 1) 2 (pos 2147483647) 4294967295
    ∷ []

abbrev pub Claimed : List Question → Type 0
Claimed [] = Unit {0}
Claimed (q ∷ rest) = ((a : Result ℕ Refusal) → Owed q.initial q.step q.relation q.limit (said a)
    → a ≡ answer_of q.count) × Claimed rest

by_computing : (q : Question) → SFits w32 q.initial → q.relation ≤ 5
    → count_of q.initial q.step q.relation q.limit ≡ q.count
    → (a : Result ℕ Refusal) → Owed q.initial q.step q.relation q.limit (said a) → a ≡ answer_of q.count
by_computing q fits known e a o = decided q.initial q.step q.relation q.limit fits known a o ∙ ap answer_of e

pub all_counted : Claimed questions
unfolding count_of within first later
all_counted = (
  by_computing _ (sfits_lit tt) (omega arith) refl,
  (
    by_computing _ (sfits_lit tt) (omega arith) refl,
    (
      by_computing _ (sfits_lit tt) (omega arith) refl,
      (
        by_computing _ (sfits_lit tt) (omega arith) refl,
        (
          by_computing _ (sfits_lit tt) (omega arith) refl,
          (
            by_computing _ (sfits_lit tt) (omega arith) refl,
            (
              by_computing _ (sfits_lit tt) (omega arith) refl,
              (
                by_computing _ (sfits_lit tt) (omega arith) refl,
                (by_computing _ (sfits_lit tt) (omega arith) refl, tt),
              ),
            ),
          ),
        ),
      ),
    ),
  ),
)
