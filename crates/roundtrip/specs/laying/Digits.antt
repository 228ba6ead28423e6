-- Numbers and their bytes: the digits of a number in base 256 are the bytes it was read from, and the number read from
-- its digits is that number; a signed number is 32 bits and back. Rests on Form.
use Rattle.std.specs.Prelude.{Bool, true, false, List, [], ◌∷◌, ◌++◌, ◌≡◌, refl, ℕ, zero, suc, ◌+◌, ◌-◌, ◌*◌, ◌/◌, ◌%◌, ◌<◌, ◌≤◌, ◌^◌, ltb, ℤ, pos, negsuc, length, drop}
use Rattle.std.proofs.Common.{ap, sym, ◌∙◌, zero-add, add-zero, arith, ltb-true, ltb-false, lit<, drop-cons, to_z-of_z}
use Rattle.std.proofs.Math.Nat.{div-div-eq-div-mul}
use Rattle.std.specs.Int.{w32}
use mir.Val.{Fits, SFits, to_z, of_z, sel}
use mir.ValLaws.{of_z_fits}
use Rattle.form.specs.Form.{byte_at, number2, number4, signed4, bytes2, bytes4}

-- Every entry is a byte; past the end stands 0, which is one
abbrev pub OfBytes : List ℕ → Type 0
OfBytes s = (i : ℕ) → byte_at s i < 256

-- and so said entry by entry, front first
abbrev pub Each : List ℕ → Type 0
Each [] = Unit {0}
Each (x ∷ l) = (x < 256) × Each l

pub each_append : (l m : List ℕ) → Each l → Each m → Each (l ++ m)
each_append [] m h k = k
each_append (x ∷ l) m h k = (h.0, each_append l m h.1 k)

pub each_byte : (l : List ℕ) → Each l → OfBytes l
each_byte [] h i = lit< tt
each_byte (x ∷ l) h zero = h.0
each_byte (x ∷ l) h (suc i) = each_byte l h.1 i

-- ---- the first bytes, one by one

-- n bytes from place i on, and then the rest
unfoldable pub spread : ℕ → ℕ → List ℕ → List ℕ → List ℕ
spread zero i t rest = rest
spread (suc n) i t rest = byte_at t i ∷ spread n (suc i) t rest

drop_spread : (n i : ℕ) (t : List ℕ) → i + n ≤ length t → spread n i t (drop (i + n) t) ≡ drop i t
unfolding spread
drop_spread zero i t h = ap (λ (k : ℕ). drop k t) (add-zero i)
drop_spread (suc n) i t h =
    step (drop_spread n (suc i) t (omega arith))
  where
    more : i + suc n ≡ suc i + n
    more = omega arith

    step : spread n (suc i) t (drop (suc i + n) t) ≡ drop (suc i) t → spread (suc n) i t (drop (i + suc n) t) ≡ drop i t
    step ih =
        ap (λ (k : ℕ). spread (suc n) i t (drop k t)) more
        ∙ (ap (λ (l : List ℕ). byte_at t i ∷ l) ih ∙ sym (drop-cons t i 0 (omega arith)))

-- what is left from the start on: the first n bytes, and what is left after them
pub spread_all : (n : ℕ) (t : List ℕ) → n ≤ length t → spread n 0 t (drop n t) ≡ t
spread_all n t h = ap (λ (k : ℕ). spread n 0 t (drop k t)) (sym (zero-add n)) ∙ drop_spread n 0 t (omega arith)

-- ---- the digits of a number that was read

module _ (t : List ℕ) (h : OfBytes t) (i : ℕ) where
  pub fits4 : Fits w32 (number4 t i)
  fits4 = record { fits = omega (arith, h i, h (i + 1), h (i + 2), h (i + 2 + 1)) }

  pub two : (n : ℕ) → n ≡ number2 t i → {l m : List ℕ} → l ≡ m → bytes2 n l ≡ byte_at t i ∷ byte_at t (i + 1) ∷ m
  two n e p = λ j. first j ∷ second j ∷ p j
    where
      first : n % 256 ≡ byte_at t i
      first = omega (arith, h i, h (i + 1))

      second : n / 256 % 256 ≡ byte_at t (i + 1)
      second = omega (arith, h i, h (i + 1))

  pub four :
      (n : ℕ) → n ≡ number4 t i → {l m : List ℕ} → l ≡ m
      → bytes4 n l ≡ byte_at t i ∷ byte_at t (i + 1) ∷ byte_at t (i + 2) ∷ byte_at t (i + 2 + 1) ∷ m
  four n e p = λ j. first j ∷ second j ∷ third j ∷ fourth j ∷ p j
    where
      first : n % 256 ≡ byte_at t i
      first = omega (arith, h i, h (i + 1), h (i + 2), h (i + 2 + 1))

      second : n / 256 % 256 ≡ byte_at t (i + 1)
      second = omega (arith, h i, h (i + 1), h (i + 2), h (i + 2 + 1))

      third : n / 65536 % 256 ≡ byte_at t (i + 2)
      third = omega (arith, h i, h (i + 1), h (i + 2), h (i + 2 + 1))

      fourth : n / 16777216 % 256 ≡ byte_at t (i + 2 + 1)
      fourth = omega (arith, h i, h (i + 1), h (i + 2), h (i + 2 + 1))

-- ---- the number read from its digits

digits : (n p q r : ℕ) → p ≡ n / 256 → q ≡ p / 256 → r ≡ q / 256 → r < 256
    → (n % 256 + 256 * (p % 256)) + 65536 * (q % 256 + 256 * (r % 256)) ≡ n
digits n p q r e f g h = omega arith

pub digits4 : (n : ℕ) → n < 2 ^ 32
    → (n % 256 + 256 * (n / 256 % 256)) + 65536 * (n / 65536 % 256 + 256 * (n / 16777216 % 256)) ≡ n
digits4 n h =
    digits n (n / 256) (n / 65536) (n / 16777216) refl (sym (div-div-eq-div-mul n 256 256))
    (sym (div-div-eq-div-mul n 65536 256)) (omega arith)

-- ---- signed numbers

-- the four bytes of a signed number
pub signed_again :
    (z : ℤ) → SFits w32 z
    → to_z w32
    ((of_z w32 z % 256 + 256 * (of_z w32 z / 256 % 256)) + 65536
    * (of_z w32 z / 65536 % 256 + 256 * (of_z w32 z / 16777216 % 256)))
    ≡ z
signed_again z f = ap (to_z w32) (digits4 (of_z w32 z) (of_z_fits w32 z f).fits) ∙ to_z-of_z f

pub zero_fits : SFits w32 (pos 0)
zero_fits = record { sfits = lit< tt }

-- whatever is read is a number of 32 bits
signed_fits : (n : ℕ) → SFits w32 (to_z w32 n)
signed_fits n = go (ltb n (2 ^ 31)) refl
  where
    go : (t : Bool) → ltb n (2 ^ 31) ≡ t → SFits w32 (sel t (pos n) (negsuc (2 ^ 32 - suc n)))
    go true e = record { sfits = ltb-true _ _ e }
    go false e = record { sfits = omega (arith, ltb-false n (2 ^ 31) e) }

pub signed4_fits : (s : List ℕ) (i : ℕ) → SFits w32 (signed4 s i)
signed4_fits s i = signed_fits (number4 s i)
