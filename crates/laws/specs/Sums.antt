-- Sums over the numbers below n, the number of bits of a word, and the length of a list made for each number. Rests on
-- Sets.
use Rattle.std.specs.Prelude.{◌≡◌, List, ◌++◌}
use Rattle.std.proofs.Math.Path.{refl, ap}
use Rattle.std.proofs.Common.{sym, ap₂, ◌∙◌, append_assoc, append-nil, pow-suc, add-one, arith}
use Prim.Native.Nat.{ℕ, zero, suc, ◌+◌, ◌/◌, ◌^◌, ◌≤◌, ◌<◌}
use Rattle.std.proofs.Math.ListN.{length, length-append}
use Rattle.std.specs.Int.Count.{ones, ones_step}
use Rattle.std.proofs.lemmas.Nat.{ones-le}
use Rattle.laws.specs.Terms.{digit, bit, each, range}
use Rattle.laws.specs.Sets.{odd_digit, bit_zero, bit_suc}

-- g 0 + g 1 + .. , n of them
unfoldable pub sum : ℕ → (ℕ → ℕ) → ℕ
sum zero g = 0
sum (suc n) g = g 0 + sum n (λ i. g (suc i))

sum_end : (n : ℕ) (g : ℕ → ℕ) → sum (suc n) g ≡ sum n g + g n
unfolding sum
sum_end zero g = omega arith
sum_end (suc n) g = ap (λ x. g 0 + x) (sum_end n (λ i. g (suc i))) ∙ regroup (g 0) (sum n (λ i. g (suc i))) (g (suc n))
  where
    regroup : (a b c : ℕ) → a + (b + c) ≡ a + b + c
    regroup a b c = omega arith

pub sum_last : (n : ℕ) (g : ℕ → ℕ) → sum (n + 1) g ≡ sum n g + g n
sum_last n g = rw (add-one n) (sum_end n g)

pub sum_none : (g : ℕ → ℕ) → sum 0 g ≡ 0
unfolding sum
sum_none g = refl

pub sum_same : (n : ℕ) (g h : ℕ → ℕ) → ((i : ℕ) → i < n → g i ≡ h i) → sum n g ≡ sum n h
unfolding sum
sum_same zero g h e = refl
sum_same (suc n) g h e =
    ap₂ ◌+◌ (e 0 (omega arith)) (sum_same n (λ i. g (suc i)) (λ i. h (suc i)) (λ i l. e (suc i) (omega arith)))

pub sum_add : (n : ℕ) (g h : ℕ → ℕ) → sum n (λ i. g i + h i) ≡ sum n g + sum n h
unfolding sum
sum_add zero g h = refl
sum_add (suc n) g h = ap (λ x. g 0 + h 0 + x) (sum_add n (λ i. g (suc i)) (λ i. h (suc i)))
    ∙ regroup (g 0) (h 0) (sum n (λ i. g (suc i))) (sum n (λ i. h (suc i)))
  where
    regroup : (a b c d : ℕ) → a + b + (c + d) ≡ a + c + (b + d)
    regroup a b c d = omega arith

-- the bits of a word
none_below : (w : ℕ) → w < 1 → ones w ≡ 0
none_below w h = omega (arith, ones-le 0 w h)

pub ones_sum : (n w : ℕ) → w < 2 ^ n → ones w ≡ sum n (λ i. digit (bit w i))
unfolding sum
ones_sum zero w h = none_below w h
ones_sum (suc n) w h =
    ones_step w ∙ ap₂ ◌+◌ (odd_digit w ∙ ap digit (sym (bit_zero w)))
    (ones_sum n (w / 2) (half n w h)
    ∙ sum_same n (λ i. digit (bit (w / 2) i)) (λ i. digit (bit w (suc i))) (λ i l. ap digit (sym (bit_suc w i))))
  where
    half : (n w : ℕ) → w < 2 ^ suc n → w / 2 < 2 ^ n
    half n w h = let e = pow-suc 2 n in omega arith

-- ---- lists made for each number

module _ {A : Type 0} where
  each_from : (f : ℕ → List A) (a n : ℕ) → each (range (suc a) n) f ≡ each (range a n) (λ i. f (suc i))
  each_from f a zero = refl
  each_from f a (suc n) = ap (λ (l : List A). f (suc a) ++ l) (each_from f (suc a) n)

  pub length_each : (n : ℕ) (f : ℕ → List A) → length (each (range 0 n) f) ≡ sum n (λ i. length (f i))
  unfolding sum
  length_each zero f = refl
  length_each (suc n) f = length-append (f 0) (each (range 1 n) f)
      ∙ ap (λ x. length (f 0) + x) (ap length (each_from f 0 n) ∙ length_each n (λ i. f (suc i)))

  each_end : (n : ℕ) (f : ℕ → List A) → each (range 0 (suc n)) f ≡ each (range 0 n) f ++ f n
  each_end zero f = append-nil (f 0)
  each_end (suc n) f =
      ap (λ (l : List A). f 0 ++ l) (each_from f 0 (suc n) ∙ each_end n (λ i. f (suc i)))
      ∙ sym (append_assoc (f 0) (each (range 0 n) (λ i. f (suc i))) (f (suc n)))
      ∙ ap (λ (l : List A). (f 0 ++ l) ++ f (suc n)) (sym (each_from f 0 n))

  pub each_last : (n : ℕ) (f : ℕ → List A) → each (range 0 (n + 1)) f ≡ each (range 0 n) f ++ f n
  each_last n f = rw (add-one n) (each_end n f)

  -- the first ones are no longer than all
  pub each_part : (i n : ℕ) (f : ℕ → List A) → i ≤ n → length (each (range 0 i) f) ≤ length (each (range 0 n) f)
  each_part zero n f h = omega arith
  each_part (suc i) zero f h = absurd (no h)
    where
      no : suc i ≤ 0 → ⊥
      no h = omega arith
  each_part (suc i) (suc n) f h =
      omega (
        arith,
        length-append (f 0) (each (range 1 i) f),
        length-append (f 0) (each (range 1 n) f),
        ap length (each_from f 0 i),
        ap length (each_from f 0 n),
        each_part i n (λ i. f (suc i)) (omega arith),
      )
