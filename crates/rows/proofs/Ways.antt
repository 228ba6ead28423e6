-- Exits and their numbers: what `==` answers, and the ways that a block's row is made of, in order, each with its own.
use Rattle.std.specs.Prelude.{◌≡◌, cond, List, [], ◌∷◌, ℕ, zero, suc, ◌+◌, ◌<◌, eqb, get_or}
use Rattle.std.proofs.Math.Path.{refl}
use Rattle.std.proofs.Common.{arith}
use denote.Enum.Bare.{sameb}
use Rattle.plan_words.specs.Exits.{code}
use Rattle.plan_words.specs.contracts.Exit.{the_type}
use Rattle.plan_words.specs.declared.Exit.{Exit}
use Rattle.plan_words.specs.declared.Exit.TheVariants.{End, Jump, Fall}

pub same_code : (one other : Exit) → sameb the_type one other ≡ eqb (code one) (code other)
same_code End End = refl
same_code End Jump = refl
same_code End Fall = refl
same_code Jump End = refl
same_code Jump Jump = refl
same_code Jump Fall = refl
same_code Fall End = refl
same_code Fall Jump = refl
same_code Fall Fall = refl

module _ {A : Type 0} (jumps falls : A) (d : Exit × A) where
  abbrev pub ways : List (Exit × A)
  ways = (Jump, jumps) ∷ (Fall, falls) ∷ []

  never : (k : ℕ) → suc (suc k) < 2 → ⊥
  never k h = omega arith

  pub way_code : (k : ℕ) → k < 2 → code (get_or ways k d).0 ≡ k + 1
  way_code zero h = refl
  way_code (suc zero) h = refl
  way_code (suc (suc k)) h = absurd (never k h)

  pub way_own : {B : Type 0} (f : A → B) (k : ℕ) → k < 2
      → f (get_or ways k d).1 ≡ cond (eqb (k + 1) 1) (f jumps) (f falls)
  way_own f zero h = refl
  way_own f (suc zero) h = refl
  way_own f (suc (suc k)) h = absurd (never k h)
