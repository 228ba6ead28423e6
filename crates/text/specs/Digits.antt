-- A number's digits by io's definition, the fewest that hold it, are those of Text. Rests on Text.
use Rattle.std.specs.Prelude.{Bool, true, false, cond, List, [], ◌∷◌, ◌++◌, ◌≡◌, refl, ℕ, zero, suc, ◌+◌, ◌-◌, ◌/◌, ◌%◌, ◌^◌, ◌≤◌, ◌<◌, ltb, length}
use Rattle.std.proofs.Common.{arith, pow-suc, ltb-true, ltb-false, lt-ltb, lit≤, length-append}
use Rattle.io.specs.Digits.{last_digits, hex_digit_ascii, IsDigitCount}
use Rattle.text.specs.Text.{digits_of, decimal}

glyph_low : (n : ℕ) → hex_digit_ascii (n % 10) ≡ 48 + n % 10
glyph_low n = let h : n % 10 < 10 = omega arith in rw (lt-ltb (n % 10) 10 h)

power : (j : ℕ) → 1 ≤ 10 ^ j
power zero = lit≤ tt
power (suc j) = omega (arith, pow-suc 10 j, power j)

-- one digit alone below 10
alone : (n j : ℕ) → n < 10 → IsDigitCount 10 1 n (suc j) → j ≡ 0
alone n zero h f = refl
alone n (suc i) h (least, below, above) =
    let e : suc (suc i) - 1 ≡ suc i = omega arith in
    let low : 10 ^ suc i ≤ n = rw e at (above (omega arith)) in
    absurd (omega (arith, pow-suc 10 i, power i))

-- from 10 on, all but the last are the fewest of a tenth
tenth : (n j : ℕ) → 10 ≤ n → IsDigitCount 10 1 n (suc j) → IsDigitCount 10 1 (n / 10) j
tenth n zero h (least, below, above) = absurd (omega arith)
tenth n (suc i) h (least, below, above) =
    let e : suc (suc i) - 1 ≡ suc i = omega arith in
    let g : suc i - 1 ≡ i = omega arith in
    let low : 10 ^ suc i ≤ n = rw e at (above (omega arith)) in
    (omega arith, omega (arith, pow-suc 10 (suc i)), λ more. rw g (omega (arith, pow-suc 10 i)))

front : (f n j : ℕ)
    → ((m : ℕ) → m < 10 ^ f → 10 ≤ n → IsDigitCount 10 1 m j → last_digits 10 j m ≡ digits_of f m) → n < 10 ^ suc f
    → IsDigitCount 10 1 n (suc j)
    → (b : Bool) → ltb n 10 ≡ b → last_digits 10 j (n / 10) ≡ cond b [] (digits_of f (n / 10))
front f n j more h w true e = rw (alone n j (ltb-true n 10 e) w)
front f n j more h w false e = let l : 10 ≤ n =
    ltb-false n 10 e in more (n / 10) (omega (arith, pow-suc 10 f)) l (tenth n j l w)

-- as many digits as hold the number, and no more than there may be
pub digits_are : (f n k : ℕ) → n < 10 ^ suc f → IsDigitCount 10 1 n k → last_digits 10 k n ≡ digits_of (suc f) n
unfolding digits_of
digits_are f n zero h (least, below, above) = absurd (omega arith)
digits_are zero n (suc j) h w =
    λ i. front zero n j (λ m l t w. absurd (omega arith)) h w (ltb n 10) refl i ++ (glyph_low n i ∷ [])
digits_are (suc f) n (suc j) h w =
    λ i. front (suc f) n j (λ m l t w. digits_are f m j l w) h w (ltb n 10) refl i ++ (glyph_low n i ∷ [])

few : (b : Bool) (l : List ℕ) (f x : ℕ) → length l ≤ f → length (cond b [] l ++ (x ∷ [])) ≤ suc f
few true l f x h = omega arith
few false l f x h = omega (arith, length-append l (x ∷ []))

pub digits_few : (f n : ℕ) → length (digits_of f n) ≤ f
unfolding digits_of
digits_few zero n = lit≤ tt
digits_few (suc f) n = few (ltb n 10) (digits_of f (n / 10)) f (48 + n % 10) (digits_few f (n / 10))

-- 20 digits hold every number of 64 bits
pub decimal_is : (n k : ℕ) → n < 2 ^ 64 → IsDigitCount 10 1 n k → last_digits 10 k n ≡ decimal n
decimal_is n k h w = digits_are 19 n k (omega arith) w
