-- Tests as Bool equations (`a ≡ true`, `a ≡ false`): case work, facts out of `&&`, `||` and `not` and back, tests for
-- some number below a bound, and the bridges to the tests of numbers. Rests on Terms.
use Rattle.std.specs.Prelude.{◌≡◌, refl, Bool, true, false, not, ◌||◌, ◌&&◌, ℕ, zero, suc, ◌+◌, ◌<◌, eqb, ltb}
use Rattle.std.proofs.Common.{sym, ◌∙◌, true≢false, arith, ltb-true, ltb-false, eqb-true, lt-ltb, le-ltb, eq-eqb}
use Rattle.std.proofs.Math.Bool.{or_assoc, or_comm, or-true, and-true, and-or_distrib_right}
use Rattle.laws.specs.Terms.{any, before}

-- ---- case work

-- by cases on a test, with the equation in hand
pub split {ℓ} : {C : Type ℓ} (b : Bool) → (b ≡ true → C) → (b ≡ false → C) → C
split true f g = f refl
split false f g = g refl

pub clash {ℓ} : {C : Type ℓ} {b : Bool} → b ≡ true → b ≡ false → C
clash e f = absurd (true≢false (sym e ∙ f))

-- two tests that imply one another
pub both : (a b : Bool) → (a ≡ true → b ≡ true) → (b ≡ true → a ≡ true) → a ≡ b
both true b f g = sym (f refl)
both false true f g = g refl
both false false f g = refl

pub is_false : (b : Bool) → (b ≡ true → ⊥) → b ≡ false
is_false true h = absurd (h refl)
is_false false h = refl

-- ---- and, or, not

pub and_out : (a b : Bool) → (a && b) ≡ true → (a ≡ true) × (b ≡ true)
and_out true b h = (refl, h)
and_out false b h = clash h refl

pub and_in : {a b : Bool} → a ≡ true → b ≡ true → (a && b) ≡ true
and_in h k = rw (h, k)

pub or_out {ℓ} : {C : Type ℓ} (a b : Bool) → (a || b) ≡ true → (a ≡ true → C) → (b ≡ true → C) → C
or_out true b h f g = f refl
or_out false b h f g = g h

pub or_in_left : {a : Bool} (b : Bool) → a ≡ true → (a || b) ≡ true
or_in_left b h = rw h

pub or_in_right : (a : Bool) {b : Bool} → b ≡ true → (a || b) ≡ true
or_in_right a h = rw (h, or-true)

pub or_no : (a b : Bool) → (a || b) ≡ false → (a ≡ false) × (b ≡ false)
or_no true b h = clash refl h
or_no false b h = (refl, h)

pub or_none : {a b : Bool} → a ≡ false → b ≡ false → (a || b) ≡ false
or_none h k = rw (h, k)

pub not_out : (a : Bool) → not a ≡ true → a ≡ false
not_out true h = clash h refl
not_out false h = refl

pub or_left_comm : (a b c : Bool) → (a || (b || c)) ≡ (b || (a || c))
or_left_comm true true c = refl
or_left_comm true false c = refl
or_left_comm false true c = refl
or_left_comm false false c = refl

pub ruleset Or·sort = (or_assoc, or_comm, or_left_comm)

pub four : (a b c d : Bool) → ((a || b) || (c || d)) ≡ ((a || c) || (b || d))
four a b c d = simp Or·sort

-- s, and neither a nor b
pub nor : (s a b : Bool) → (s && not (a || b)) ≡ (s && not a && not b)
nor false a b = refl
nor true true b = refl
nor true false b = refl

pub nor_swap : (s a b : Bool) → (s && not (a || b)) ≡ (s && not b && not a)
nor_swap false a b = refl
nor_swap true true true = refl
nor_swap true true false = refl
nor_swap true false b = sym (and-true (not b))

-- ---- for some i below n

pub any_out : (n : ℕ) (f : ℕ → Bool) → any n f ≡ true → (i : ℕ) × (i < n) × (f i ≡ true)
any_out zero f h = clash h refl
any_out (suc n) f h =
    or_out (f zero) _ h (λ k. (zero, omega arith, k))
    (λ k. let (i, l, e) = any_out n (λ i. f (suc i)) k in (suc i, omega arith, e))

pub any_in : (n : ℕ) (f : ℕ → Bool) (i : ℕ) → i < n → f i ≡ true → any n f ≡ true
any_in zero f i l h = let z : ⊥ = omega arith in absurd z
any_in (suc n) f zero l h = or_in_left _ h
any_in (suc n) f (suc i) l h = or_in_right (f zero) (any_in n (λ i. f (suc i)) i (omega arith) h)

pub any_same : (n : ℕ) (f g : ℕ → Bool) → ((i : ℕ) → f i ≡ g i) → any n f ≡ any n g
any_same zero f g h = refl
any_same (suc n) f g h = rw (h zero, any_same n (λ i. f (suc i)) (λ i. g (suc i)) (λ i. h (suc i)))

pub any_or : (n : ℕ) (f g : ℕ → Bool) → any n (λ i. f i || g i) ≡ (any n f || any n g)
any_or zero f g = refl
any_or (suc n) f g = rw (any_or n (λ i. f (suc i)) (λ i. g (suc i))) (four (f zero) (g zero) _ _)

pub any_none : (n : ℕ) → any n (λ i. false) ≡ false
any_none zero = refl
any_none (suc n) = any_none n

pub any_and : (n : ℕ) (f : ℕ → Bool) (k : Bool) → any n (λ i. f i && k) ≡ (any n f && k)
any_and zero f k = refl
any_and (suc n) f k = rw (any_and n (λ i. f (suc i)) k, and-or_distrib_right)

-- ---- tests of numbers

pub before_out : (i j : ℕ) → before i j ≡ true → i < j
before_out zero zero h = clash h refl
before_out zero (suc j) h = omega arith
before_out (suc i) zero h = clash h refl
before_out (suc i) (suc j) h = omega (arith, before_out i j h)

pub before_in : (i j : ℕ) → i < j → before i j ≡ true
before_in zero zero h = let z : ⊥ = omega arith in absurd z
before_in zero (suc j) h = refl
before_in (suc i) zero h = let z : ⊥ = omega arith in absurd z
before_in (suc i) (suc j) h = before_in i j (omega arith)

pub eqb_same : (n : ℕ) → eqb n n ≡ true
eqb_same n = eq-eqb n n refl

pub eqb_swap : (m n : ℕ) → eqb m n ≡ eqb n m
eqb_swap m n = both _ _ (λ e. eq-eqb n m (sym (eqb-true m n e))) (λ e. eq-eqb m n (sym (eqb-true n m e)))

pub ltb_shift : (c a b : ℕ) → ltb (c + a) (c + b) ≡ ltb a b
ltb_shift c a b =
    split (ltb a b)
    (λ e. rw e (lt-ltb (c + a) (c + b) (omega (arith, ltb-true a b e))))
    (λ e. rw e (le-ltb (c + a) (c + b) (omega (arith, ltb-false a b e))))
