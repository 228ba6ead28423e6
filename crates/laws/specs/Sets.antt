-- Sets of small numbers as words: bit k of x for the number k. `bit x k` is that bit, as a Bool, and `set_of n f` the
-- word of the k below n with f k. A contract speaks of bits; two words below 2 ^ n with the same n bits are equal
-- (`ext`). What `&`, `|`, `^`, and-not, single bits, the lowest bit and the order of numbers mean on sets. Rests on
-- Terms and the kit's words.
use Rattle.std.specs.Prelude.{◌≡◌, refl, ◌⊎◌, ◌↔◌, Bool, true, false, not, ◌&&◌, ◌||◌, ℕ, zero, suc, ◌+◌, ◌-◌, ◌*◌, ◌/◌, ◌%◌, ◌^◌, ◌≤◌, ◌<◌, min, max, eqb}
use Rattle.std.proofs.Common.{sym, ap, ap₂, ◌∙◌, subst, inl, inr, true≢false, zero-le, suc-le-suc, le_of_suc-le-suc, not-suc-le-zero, le_refl, zero-lt-suc, div-one, mod-lt, div-add-mod', pow-suc, lt_of_lt_of_le, lt_of_le_of_lt, mul-div_cancel, eq-or-lt_of_le, mod-eq_of_lt, mul_assoc, sub-le, add-zero, one-mul, zero-mul, pos_of_ne-zero, one-add, arith, eqb-true, eq-eqb, ne_eqb, pow_pos, pow_mono, shr-shr}
use Rattle.std.proofs.lemmas.Bool.{false≢true, eqb-false, not-true, not-false}
use Rattle.std.proofs.Math.Bool.{and-true, and-false}
use Rattle.std.proofs.Math.Nat.{div-eq_of_lt, min-le_left, mul-mod_left}
use Rattle.std.proofs.Math.Dec.{eqb-zero-suc, eqb-suc-zero, eqb-suc-suc}
use Rattle.std.proofs.Math.Arith.{lt-one, digits_div, digits_mod, digits_lt}
use Rattle.std.proofs.Math.Pow.{pow-lt}
use Rattle.std.specs.Int.Bits.{bit_and, bit_or, bit_xor, and_step, or_step, xor_step, differ, and_lt, and_self, xor_self}
use Rattle.std.proofs.lemmas.Nat.{and_le_l, and_le_r, or_lt, xor_lt, or_disjoint, trailing_le}
use Rattle.std.specs.Int.Count.{count_trailing_zeros, under, trailing_of_zero}
use Rattle.laws.specs.Terms.{digit, odd, bit, set_of}

-- ---- one digit

two_pos : zero < 2
two_pos = zero-lt-suc 1

digit_lt : (b : Bool) → digit b < 2
digit_lt true = le_refl 2
digit_lt false = zero-lt-suc 1

is_digit : (d : ℕ) → d < 2 → d ≡ digit (eqb d 1)
is_digit zero h = refl
is_digit (suc zero) h = refl
is_digit (suc (suc d)) h = absurd (not-suc-le-zero (le_of_suc-le-suc (le_of_suc-le-suc h)))

digit_is : (b : Bool) → eqb (digit b) 1 ≡ b
digit_is true = refl
digit_is false = refl

pub odd_digit : (x : ℕ) → x % 2 ≡ digit (odd x)
odd_digit x = is_digit (x % 2) (mod-lt x two_pos)

odd_of : (q : ℕ) (b : Bool) → odd (q * 2 + digit b) ≡ b
odd_of q b = ap (λ (d : ℕ). eqb d 1) (digits_mod q (digit_lt b)) ∙ digit_is b

half_of : (q : ℕ) (b : Bool) → (q * 2 + digit b) / 2 ≡ q
half_of q b = digits_div q (digit_lt b)

pub halves : (x : ℕ) → x ≡ x / 2 * 2 + digit (odd x)
halves x = sym (div-add-mod' x 2) ∙ ap (λ (d : ℕ). x / 2 * 2 + d) (odd_digit x)

half_lt : {x : ℕ} (n : ℕ) → x < 2 ^ suc n → x / 2 < 2 ^ n
half_lt {x} n h = let e = pow-suc 2 n in omega arith

-- ---- the bits one by one

pub bit_zero : (x : ℕ) → bit x 0 ≡ odd x
unfolding bit
bit_zero x = ap odd (div-one x)

pub bit_suc : (x k : ℕ) → bit x (suc k) ≡ bit (x / 2) k
unfolding bit
bit_suc x k = ap odd (sym (shr-shr x 1 k ∙ ap (λ (j : ℕ). x / 2 ^ j) (one-add k)))

-- no bit past the top
pub bit_beyond : {x : ℕ} (n k : ℕ) → x < 2 ^ n → n ≤ k → bit x k ≡ false
unfolding bit
bit_beyond n k h l = ap odd (div-eq_of_lt (lt_of_lt_of_le h (pow_mono l)))

pub bit_none : (k : ℕ) → bit 0 k ≡ false
bit_none k = bit_beyond 0 k (le_refl 1) zero-le

-- two words with the same bits are equal
pub ext : (n : ℕ) {x y : ℕ} → x < 2 ^ n → y < 2 ^ n → ((k : ℕ) → k < n → bit x k ≡ bit y k) → x ≡ y
ext zero hx hy same = lt-one hx ∙ sym (lt-one hy)
ext (suc n) {x} {y} hx hy same =
    halves x
    ∙ ap₂ (λ (q : ℕ) (b : Bool). q * 2 + digit b)
    (ext n (half_lt n hx) (half_lt n hy) (λ k l. sym (bit_suc x k) ∙ same (suc k) (suc-le-suc l) ∙ bit_suc y k))
    (sym (bit_zero x) ∙ same 0 (zero-lt-suc n) ∙ bit_zero y)
    ∙ sym (halves y)

-- ---- the word of a test

pub set_of_lt : (n : ℕ) (f : ℕ → Bool) → set_of n f < 2 ^ n
unfolding set_of
set_of_lt zero f = le_refl 1
set_of_lt (suc n) f = rw (pow-suc 2 n) (digits_lt (set_of_lt n (λ k. f (suc k))) (digit_lt (f 0)))

pub bit_set_of : (n : ℕ) (f : ℕ → Bool) (k : ℕ) → k < n → bit (set_of n f) k ≡ f k
unfolding set_of
bit_set_of zero f k h = absurd (not-suc-le-zero h)
bit_set_of (suc n) f zero h = bit_zero (set_of (suc n) f) ∙ odd_of (set_of n (λ k. f (suc k))) (f 0)
bit_set_of (suc n) f (suc k) h =
    bit_suc (set_of (suc n) f) k ∙ ap (λ (x : ℕ). bit x k) (half_of (set_of n (λ k. f (suc k))) (f 0))
    ∙ bit_set_of n (λ k. f (suc k)) k (le_of_suc-le-suc h)

pub bit_set_of_beyond : (n : ℕ) (f : ℕ → Bool) (k : ℕ) → n ≤ k → bit (set_of n f) k ≡ false
bit_set_of_beyond n f k h = bit_beyond n k (set_of_lt n f) h

-- a word is the word of its bits, and of any test that has its bits
pub set_of_is : (n : ℕ) (f : ℕ → Bool) {x : ℕ} → x < 2 ^ n → ((k : ℕ) → k < n → bit x k ≡ f k) → x ≡ set_of n f
set_of_is n f h same = ext n h (set_of_lt n f) (λ k l. same k l ∙ sym (bit_set_of n f k l))

pub set_of_bit : (n x : ℕ) → x < 2 ^ n → set_of n (bit x) ≡ x
set_of_bit n x h = sym (set_of_is n (bit x) h (λ k l. refl))

pub set_of_ext : (n : ℕ) (f g : ℕ → Bool) → ((k : ℕ) → k < n → f k ≡ g k) → set_of n f ≡ set_of n g
set_of_ext n f g same = set_of_is n g (set_of_lt n f) (λ k l. bit_set_of n f k l ∙ same k l)

-- ---- the operations, bit by bit

module _ (op f : ℕ → ℕ → ℕ) (g : Bool → Bool → Bool)
    (step : (x y : ℕ) → op x y ≡ op (x / 2) (y / 2) * 2 + f (x % 2) (y % 2))
    (on_digits : (p q : Bool) → f (digit p) (digit q) ≡ digit (g p q)) where
  op_digits : (x y : ℕ) → op x y ≡ op (x / 2) (y / 2) * 2 + digit (g (odd x) (odd y))
  op_digits x y =
      step x y
      ∙ ap₂ (λ (a b : ℕ). op (x / 2) (y / 2) * 2 + f a b) (odd_digit x) (odd_digit y)
      ∙ ap (λ (d : ℕ). op (x / 2) (y / 2) * 2 + d) (on_digits (odd x) (odd y))

  op_bit : (x y k : ℕ) → bit (op x y) k ≡ g (bit x k) (bit y k)
  op_bit x y zero =
      bit_zero (op x y) ∙ ap odd (op_digits x y) ∙ odd_of (op (x / 2) (y / 2)) (g (odd x) (odd y))
      ∙ ap₂ g (sym (bit_zero x)) (sym (bit_zero y))
  op_bit x y (suc k) =
      bit_suc (op x y) k
      ∙ ap (λ (z : ℕ). bit z k) (ap (λ (z : ℕ). z / 2) (op_digits x y)
      ∙ half_of (op (x / 2) (y / 2)) (g (odd x) (odd y)))
      ∙ op_bit (x / 2) (y / 2) k
      ∙ ap₂ g (sym (bit_suc x k)) (sym (bit_suc y k))

-- p and q differ
abbrev pub unlike : Bool → Bool → Bool
unlike true q = not q
unlike false q = q

-- p without q
abbrev pub without : Bool → Bool → Bool
without p q = p && not q

and_digits : (p q : Bool) → min (digit p) (digit q) ≡ digit (p && q)
and_digits true true = refl
and_digits true false = refl
and_digits false true = refl
and_digits false false = refl

or_digits : (p q : Bool) → max (digit p) (digit q) ≡ digit (p || q)
or_digits true true = refl
or_digits true false = refl
or_digits false true = refl
or_digits false false = refl

xor_digits : (p q : Bool) → differ (digit p) (digit q) ≡ digit (unlike p q)
xor_digits true true = refl
xor_digits true false = refl
xor_digits false true = refl
xor_digits false false = refl

sub_digits : (p q : Bool) → digit p - min (digit p) (digit q) ≡ digit (without p q)
sub_digits true true = refl
sub_digits true false = refl
sub_digits false true = refl
sub_digits false false = refl

pub bit_and_lem : (x y k : ℕ) → bit (bit_and x y) k ≡ bit x k && bit y k
bit_and_lem = op_bit bit_and min (λ p q. p && q) and_step and_digits

pub bit_or_lem : (x y k : ℕ) → bit (bit_or x y) k ≡ bit x k || bit y k
bit_or_lem = op_bit bit_or max (λ p q. p || q) or_step or_digits

pub bit_xor_lem : (x y k : ℕ) → bit (bit_xor x y) k ≡ unlike (bit x k) (bit y k)
bit_xor_lem = op_bit bit_xor differ unlike xor_step xor_digits

-- `x - (x & y)`
minus : ℕ → ℕ → ℕ
minus x y = x - bit_and x y

sub_step : (x y : ℕ) → minus x y ≡ minus (x / 2) (y / 2) * 2 + (x % 2 - min (x % 2) (y % 2))
unfolding minus
sub_step x y =
    ap (λ (z : ℕ). x - z) (and_step x y)
    ∙ go (bit_and (x / 2) (y / 2)) (min (x % 2) (y % 2)) (and_le_l (x / 2) (y / 2)) (min-le_left (x % 2) (y % 2))
  where
    go : (a m : ℕ) → a ≤ x / 2 → m ≤ x % 2 → x - (a * 2 + m) ≡ (x / 2 - a) * 2 + (x % 2 - m)
    go a m ha hm = omega arith

pub bit_minus : (x y k : ℕ) → bit (x - bit_and x y) k ≡ bit x k && not (bit y k)
unfolding minus
bit_minus = op_bit minus (λ a b. a - min a b) without sub_step sub_digits

-- `!x`
flip_odd : (b : Bool) → 1 - digit b ≡ digit (not b)
flip_odd true = refl
flip_odd false = refl

not_step : (n x : ℕ) → x < 2 ^ suc n → (2 ^ suc n - 1) - x ≡ ((2 ^ n - 1) - x / 2) * 2 + digit (not (odd x))
not_step n x h =
    let e = pow-suc 2 n in
    let b : 2 ^ suc n - 1 - x ≡ ((2 ^ n - 1) - x / 2) * 2 + (1 - x % 2) = omega arith in
    b ∙ ap (λ (d : ℕ). ((2 ^ n - 1) - x / 2) * 2 + (1 - d)) (odd_digit x)
    ∙ ap (λ (d : ℕ). ((2 ^ n - 1) - x / 2) * 2 + d) (flip_odd (odd x))

pub bit_not : (n x k : ℕ) → x < 2 ^ n → k < n → bit ((2 ^ n - 1) - x) k ≡ not (bit x k)
bit_not zero x k h l = absurd (not-suc-le-zero l)
bit_not (suc n) x zero h l =
    bit_zero ((2 ^ suc n - 1) - x) ∙ ap odd (not_step n x h) ∙ odd_of ((2 ^ n - 1) - x / 2) (not (odd x))
    ∙ ap not (sym (bit_zero x))
bit_not (suc n) x (suc k) h l =
    bit_suc ((2 ^ suc n - 1) - x) k
    ∙ ap (λ (z : ℕ). bit z k) (ap (λ (z : ℕ). z / 2) (not_step n x h) ∙ half_of ((2 ^ n - 1) - x / 2) (not (odd x)))
    ∙ bit_not n (x / 2) k (half_lt n h) (le_of_suc-le-suc l)
    ∙ ap not (sym (bit_suc x k))

-- below n, or not
pub below_or_not : (k n : ℕ) → (k < n) ⊎ (n ≤ k)
below_or_not k zero = inr zero-le
below_or_not zero (suc n) = inl (zero-lt-suc n)
below_or_not (suc k) (suc n) = up (below_or_not k n)
  where
    up : (k < n) ⊎ (n ≤ k) → (suc k < suc n) ⊎ (suc n ≤ suc k)
    up (inl l) = inl (suc-le-suc l)
    up (inr l) = inr (suc-le-suc l)

-- `x & !y`, of words of n bits
pub bit_and_not : (n x y k : ℕ) → x < 2 ^ n → y < 2 ^ n → bit (bit_and x ((2 ^ n - 1) - y)) k ≡ bit x k && not (bit y k)
bit_and_not n x y k hx hy = bit_and_lem x ((2 ^ n - 1) - y) k ∙ go (below_or_not k n)
  where
    go : (k < n) ⊎ (n ≤ k) → bit x k && bit ((2 ^ n - 1) - y) k ≡ bit x k && not (bit y k)
    go (inl l) = ap (λ (b : Bool). bit x k && b) (bit_not n y k hy l)
    go (inr l) = rw (bit_beyond n k hx l)

-- `1 << k`
pub bit_pow : (k j : ℕ) → bit (2 ^ k) j ≡ eqb j k
bit_pow zero zero = bit_zero 1
bit_pow zero (suc j) = bit_suc 1 j ∙ bit_none j ∙ sym (eqb-suc-zero j)
bit_pow (suc k) zero = bit_zero (2 ^ suc k)
    ∙ ap (λ (d : ℕ). eqb d 1) (ap (λ (z : ℕ). z % 2) (pow-suc 2 k) ∙ mul-mod_left (2 ^ k) 2) ∙ sym (eqb-zero-suc k)
bit_pow (suc k) (suc j) =
    bit_suc (2 ^ suc k) j ∙ ap (λ (z : ℕ). bit z j)
    (ap (λ (z : ℕ). z / 2) (pow-suc 2 k) ∙ mul-div_cancel (2 ^ k) two_pos)
    ∙ bit_pow k j ∙ sym (eqb-suc-suc j k)

pub shl_one : (n k : ℕ) → k < n → (1 * 2 ^ k) % 2 ^ n ≡ 2 ^ k
shl_one n k h = let e : 1 * 2 ^ k ≡ 2 ^ k = omega arith in ap (λ (z : ℕ). z % 2 ^ n) e ∙ mod-eq_of_lt (pow-lt h)

-- `x | 1 << k`
pub bit_with : (x k j : ℕ) → bit (bit_or x (2 ^ k)) j ≡ bit x j || eqb j k
bit_with x k j = bit_or_lem x (2 ^ k) j ∙ ap (λ (b : Bool). bit x j || b) (bit_pow k j)

-- ---- empty

pub no_bits : (n : ℕ) {x : ℕ} → x < 2 ^ n → ((k : ℕ) → k < n → bit x k ≡ false) → x ≡ 0
no_bits n h none = ext n h (pow_pos n) (λ k l. none k l ∙ sym (bit_none k))

pub zero_bits : {x : ℕ} → x ≡ 0 → (k : ℕ) → bit x k ≡ false
zero_bits e k = ap (λ (z : ℕ). bit z k) e ∙ bit_none k

pub set_of_zero : (n : ℕ) (f : ℕ → Bool) → (set_of n f ≡ 0) ↔ ((k : ℕ) → k < n → f k ≡ false)
set_of_zero n f = (
  λ e k l. sym (bit_set_of n f k l) ∙ zero_bits e k,
  λ none. no_bits n (set_of_lt n f) (λ k l. bit_set_of n f k l ∙ none k l),
)

and_opp : (b : Bool) → b && not b ≡ false
and_opp true = refl
and_opp false = refl

and_self_not : (n x : ℕ) → x < 2 ^ n → bit_and x ((2 ^ n - 1) - x) ≡ 0
and_self_not n x h =
    no_bits n (lt_of_le_of_lt (and_le_l x ((2 ^ n - 1) - x)) h) (λ k l. bit_and_not n x x k h h ∙ and_opp (bit x k))

-- `x + 2 ^ k` where bit k is not there
pub with_sum : (n : ℕ) {x k : ℕ} → x < 2 ^ n → k < n → bit x k ≡ false → bit_or x (2 ^ k) ≡ x + 2 ^ k
with_sum n {x} {k} h l e =
    or_disjoint x (2 ^ k) (no_bits n (and_lt n x (2 ^ k) h (pow-lt l))
    (λ j lj. bit_and_lem x (2 ^ k) j ∙ ap (λ (b : Bool). bit x j && b) (bit_pow k j) ∙ go j (eqb j k) refl))
  where
    go : (j : ℕ) (b : Bool) → eqb j k ≡ b → bit x j && b ≡ false
    go j true q = ap (λ (i : ℕ). bit x i && true) (eqb-true j k q) ∙ ap (λ (b : Bool). b && true) e
    go j false q = and-false (bit x j)

-- the word of a test, with one more in front: the sum of powers
pub set_of_top : (n : ℕ) (f : ℕ → Bool) → set_of (suc n) f ≡ set_of n f + digit (f n) * 2 ^ n
unfolding set_of
set_of_top zero f = go (f 0)
  where
    go : (b : Bool) → 0 * 2 + digit b ≡ 0 + digit b * 1
    go true = refl
    go false = refl
set_of_top (suc n) f =
    ap (λ (z : ℕ). z * 2 + digit (f 0)) (set_of_top n (λ k. f (suc k)))
    ∙ go (set_of n (λ k. f (suc k))) (digit (f (suc n))) (digit (f 0))
  where
    go : (a d b : ℕ) → (a + d * 2 ^ n) * 2 + b ≡ a * 2 + b + d * 2 ^ suc n
    go a d b = let e : d * 2 ^ suc n ≡ d * 2 ^ n * 2 = ap (λ (z : ℕ). d * z) (pow-suc 2 n)
        ∙ sym (mul_assoc d (2 ^ n) 2) in omega arith

pub set_of_and : (n : ℕ) (f g : ℕ → Bool) → bit_and (set_of n f) (set_of n g) ≡ set_of n (λ k. f k && g k)
set_of_and n f g =
    set_of_is n (λ k. f k && g k) (and_lt n (set_of n f) (set_of n g) (set_of_lt n f) (set_of_lt n g))
    (λ k l. bit_and_lem (set_of n f) (set_of n g) k ∙ ap₂ (λ (p q : Bool). p && q) (bit_set_of n f k l) (bit_set_of n g k l))

pub set_of_or : (n : ℕ) (f g : ℕ → Bool) → bit_or (set_of n f) (set_of n g) ≡ set_of n (λ k. f k || g k)
set_of_or n f g =
    set_of_is n (λ k. f k || g k) (or_lt n (set_of n f) (set_of n g) (set_of_lt n f) (set_of_lt n g))
    (λ k l. bit_or_lem (set_of n f) (set_of n g) k ∙ ap₂ (λ (p q : Bool). p || q) (bit_set_of n f k l) (bit_set_of n g k l))

pub set_of_minus : (n : ℕ) (f g : ℕ → Bool)
    → set_of n f - bit_and (set_of n f) (set_of n g) ≡ set_of n (λ k. f k && not (g k))
set_of_minus n f g =
    set_of_is n (λ k. f k && not (g k))
    (lt_of_le_of_lt (sub-le (set_of n f) (bit_and (set_of n f) (set_of n g))) (set_of_lt n f))
    (λ k l. bit_minus (set_of n f) (set_of n g) k
    ∙ ap₂ (λ (p q : Bool). p && not q) (bit_set_of n f k l) (bit_set_of n g k l))

pub set_of_and_not : (n : ℕ) (f g : ℕ → Bool)
    → bit_and (set_of n f) ((2 ^ n - 1) - set_of n g) ≡ set_of n (λ k. f k && not (g k))
set_of_and_not n f g =
    set_of_is n (λ k. f k && not (g k)) (lt_of_le_of_lt (and_le_l (set_of n f) ((2 ^ n - 1) - set_of n g)) (set_of_lt n f))
    (λ k l. bit_and_not n (set_of n f) (set_of n g) k (set_of_lt n f) (set_of_lt n g)
    ∙ ap₂ (λ (p q : Bool). p && not q) (bit_set_of n f k l) (bit_set_of n g k l))

-- ---- the lowest bit

trailing_odd : (n x : ℕ) → odd x ≡ true → count_trailing_zeros (suc n) x ≡ 0
unfolding count_trailing_zeros
trailing_odd n x e = ap (λ (d : ℕ). under d (count_trailing_zeros n (x / 2))) (odd_digit x ∙ ap digit e)

trailing_even : (n x : ℕ) → odd x ≡ false → count_trailing_zeros (suc n) x ≡ suc (count_trailing_zeros n (x / 2))
unfolding count_trailing_zeros
trailing_even n x e = ap (λ (d : ℕ). under d (count_trailing_zeros n (x / 2))) (odd_digit x ∙ ap digit e)

-- the bits below the lowest are not there
pub trailing_below : (n x j : ℕ) → j < count_trailing_zeros n x → bit x j ≡ false
unfolding count_trailing_zeros
trailing_below zero x j h = absurd (not-suc-le-zero h)
trailing_below (suc n) x zero h = bit_zero x ∙ go (odd x) refl
  where
    go : (b : Bool) → odd x ≡ b → b ≡ false
    go true e = absurd (not-suc-le-zero (subst (λ (t : ℕ). 0 < t) (trailing_odd n x e) h))
    go false e = refl
trailing_below (suc n) x (suc j) h = bit_suc x j ∙ trailing_below n (x / 2) j (go (odd x) refl)
  where
    go : (b : Bool) → odd x ≡ b → j < count_trailing_zeros n (x / 2)
    go true e = absurd (not-suc-le-zero (subst (λ (t : ℕ). suc j < t) (trailing_odd n x e) h))
    go false e = le_of_suc-le-suc (subst (λ (t : ℕ). suc j < t) (trailing_even n x e) h)

-- the lowest is there
pub trailing_at : (n x : ℕ) → count_trailing_zeros n x < n → bit x (count_trailing_zeros n x) ≡ true
trailing_at zero x h = absurd (not-suc-le-zero h)
trailing_at (suc n) x h = go (odd x) refl (trailing_at n (x / 2))
  where
    go : (b : Bool) → odd x ≡ b → (count_trailing_zeros n (x / 2) < n → bit (x / 2) (count_trailing_zeros n (x / 2)) ≡ true)
        → bit x (count_trailing_zeros (suc n) x) ≡ true
    go true e ih = ap (bit x) (trailing_odd n x e) ∙ bit_zero x ∙ e
    go false e ih =
        ap (bit x) (trailing_even n x e) ∙ bit_suc x (count_trailing_zeros n (x / 2))
        ∙ ih (le_of_suc-le-suc (subst (λ (t : ℕ). t < suc n) (trailing_even n x e) h))

pub trailing_lt : (n : ℕ) {x : ℕ} → x < 2 ^ n → 0 < x → count_trailing_zeros n x < n
trailing_lt n {x} h p = go (eq-or-lt_of_le (trailing_le n x))
  where
    go : (count_trailing_zeros n x ≡ n) ⊎ (count_trailing_zeros n x < n) → count_trailing_zeros n x < n
    go (inl e) =
        let z : x ≡ 0 = no_bits n h (λ k l. trailing_below n x k (subst (λ (t : ℕ). k < t) (sym e) l)) in
        absurd (omega arith)
    go (inr l) = l

-- `x & (0 - x)`, as a power
pub low_bit : (n x : ℕ) → 0 < x → x < 2 ^ n → bit_and x (2 ^ n - x) ≡ 2 ^ count_trailing_zeros n x
low_bit zero x p h = absurd (omega arith)
low_bit (suc n) x p h = go (odd x) refl (low_bit n (x / 2))
  where
    go : (b : Bool) → odd x ≡ b → (0 < x / 2 → x / 2 < 2 ^ n
        → bit_and (x / 2) (2 ^ n - x / 2) ≡ 2 ^ count_trailing_zeros n (x / 2))
        → bit_and x (2 ^ suc n - x) ≡ 2 ^ count_trailing_zeros (suc n) x
    go true e ih =
        let d : x % 2 ≡ 1 = odd_digit x ∙ ap digit e in
        let w = pow-suc 2 n in
        let s : 2 ^ suc n - x ≡ ((2 ^ n - 1) - x / 2) * 2 + 1 = omega arith in
        ap (bit_and x) s
        ∙ and_step x (((2 ^ n - 1) - x / 2) * 2 + 1)
        ∙ ap₂ (λ (a b : ℕ). bit_and (x / 2) a * 2 + b) (half_of ((2 ^ n - 1) - x / 2) true)
        (ap₂ min d (digits_mod ((2 ^ n - 1) - x / 2) (digit_lt true)))
        ∙ ap (λ (a : ℕ). a * 2 + 1) (and_self_not n (x / 2) (half_lt n h))
        ∙ ap (λ (t : ℕ). 2 ^ t) (sym (trailing_odd n x e))
    go false e ih =
        let d : x % 2 ≡ 0 = odd_digit x ∙ ap digit e in
        let w = pow-suc 2 n in
        let s : 2 ^ suc n - x ≡ (2 ^ n - x / 2) * 2 + 0 = omega arith in
        ap (bit_and x) s
        ∙ and_step x ((2 ^ n - x / 2) * 2 + 0)
        ∙ ap₂ (λ (a b : ℕ). bit_and (x / 2) a * 2 + b) (half_of (2 ^ n - x / 2) false)
        (ap₂ min d (digits_mod (2 ^ n - x / 2) (digit_lt false)))
        ∙ ap (λ (a : ℕ). a * 2 + 0) (ih (omega arith) (half_lt n h))
        ∙ add-zero (2 ^ count_trailing_zeros n (x / 2) * 2)
        ∙ sym (pow-suc 2 (count_trailing_zeros n (x / 2)))
        ∙ ap (λ (t : ℕ). 2 ^ t) (sym (trailing_even n x e))

-- ---- the order of words is that of their highest different bits

pub less : (n m : ℕ) {x y : ℕ} → x < 2 ^ n → y < 2 ^ n → ((k : ℕ) → m < k → k < n → bit x k ≡ bit y k) → bit x m ≡ false
    → bit y m ≡ true → x < y
less zero m hx hy same fx fy = absurd (true≢false (sym fy ∙ bit_beyond 0 m hy zero-le))
less (suc n) zero {x} {y} hx hy same fx fy =
    let e : x / 2 ≡ y / 2 = ext n (half_lt n hx) (half_lt n hy)
    (λ k l. sym (bit_suc x k) ∙ same (suc k) (zero-lt-suc k) (suc-le-suc l) ∙ bit_suc y k) in
    let a : x % 2 ≡ 0 = odd_digit x ∙ ap digit (sym (bit_zero x) ∙ fx) in
    let b : y % 2 ≡ 1 = odd_digit y ∙ ap digit (sym (bit_zero y) ∙ fy) in
    omega arith
less (suc n) (suc m) {x} {y} hx hy same fx fy =
    let l : x / 2 < y / 2 =
    less n m (half_lt n hx) (half_lt n hy)
    (λ k h l. sym (bit_suc x k) ∙ same (suc k) (suc-le-suc h) (suc-le-suc l) ∙ bit_suc y k)
    (sym (bit_suc x m) ∙ fx) (sym (bit_suc y m) ∙ fy) in
    omega arith

-- the highest different bit of two words in order
pub less_only : (n : ℕ) {x y : ℕ} → y < 2 ^ n → x < y
    → (m : ℕ) × (m < n) × ((k : ℕ) → m < k → bit x k ≡ bit y k) × (bit x m ≡ false) × (bit y m ≡ true)
less_only zero hy l = absurd (omega arith)
less_only (suc n) {x} {y} hy l = go (below_or_not (x / 2) (y / 2)) (less_only n {x = x / 2} {y = y / 2} (half_lt n hy))
  where
    go : (x / 2 < y / 2) ⊎ (y / 2 ≤ x / 2)
        → (x / 2 < y / 2 → (m : ℕ) × (m < n) × ((k : ℕ) → m < k → bit (x / 2) k ≡ bit (y / 2) k)
        × (bit (x / 2) m ≡ false) × (bit (y / 2) m ≡ true))
        → (m : ℕ) × (m < suc n) × ((k : ℕ) → m < k → bit x k ≡ bit y k) × (bit x m ≡ false) × (bit y m ≡ true)
    go (inl h) ih =
        let t = ih h in
        (suc t.0, suc-le-suc t.1, above t.0 t.2, bit_suc x t.0 ∙ t.3, bit_suc y t.0 ∙ t.4)
      where
        above : (m : ℕ) → ((k : ℕ) → m < k → bit (x / 2) k ≡ bit (y / 2) k) → (k : ℕ) → suc m < k → bit x k ≡ bit y k
        above m s zero h = absurd (not-suc-le-zero h)
        above m s (suc k) h = bit_suc x k ∙ s k (le_of_suc-le-suc h) ∙ sym (bit_suc y k)
    go (inr h) ih =
        let e : x / 2 ≡ y / 2 = omega arith in
        let a : x % 2 ≡ 0 = omega arith in
        let b : y % 2 ≡ 1 = omega arith in
        (0, zero-lt-suc n, above e, bit_zero x ∙ ap (λ (d : ℕ). eqb d 1) a, bit_zero y ∙ ap (λ (d : ℕ). eqb d 1) b)
      where
        above : x / 2 ≡ y / 2 → (k : ℕ) → 0 < k → bit x k ≡ bit y k
        above e zero h = absurd (not-suc-le-zero h)
        above e (suc k) h = bit_suc x k ∙ ap (λ (z : ℕ). bit z k) e ∙ sym (bit_suc y k)

-- the test of one bit by a mask
pub and_pow : (x k : ℕ) → bit_and x (2 ^ k) ≡ digit (bit x k) * 2 ^ k
and_pow x k =
    ext (suc k) (lt_of_le_of_lt (and_le_r x (2 ^ k)) (pow-lt (le_refl (suc k)))) (right (bit x k))
    (λ j l. bit_and_lem x (2 ^ k) j ∙ ap (λ (b : Bool). bit x j && b) (bit_pow k j) ∙ go j (eqb j k) refl (bit x k) refl)
  where
    right : (b : Bool) → digit b * 2 ^ k < 2 ^ suc k
    right true = let w = pow-suc 2 k in let p = pow_pos k in omega arith
    right false = rw (zero-mul (2 ^ k)) (pow_pos (suc k))

    go : (j : ℕ) (b : Bool) → eqb j k ≡ b → (v : Bool) → bit x k ≡ v → bit x j && b ≡ bit (digit v * 2 ^ k) j
    go j b q true e = rw (one-mul (2 ^ k), bit_pow k j, q) (here j b q)
      where
        here : (j : ℕ) (b : Bool) → eqb j k ≡ b → bit x j && b ≡ b
        here j true q = ap (λ (i : ℕ). bit x i && true) (eqb-true j k q) ∙ ap (λ (b : Bool). b && true) e
        here j false q = and-false (bit x j)
    go j true q false e = ap (λ (i : ℕ). bit x i && true) (eqb-true j k q) ∙ ap (λ (b : Bool). b && true) e
        ∙ sym (zero_bits (zero-mul (2 ^ k)) j)
    go j false q false e = and-false (bit x j) ∙ sym (zero_bits (zero-mul (2 ^ k)) j)

-- ---- the lowest bit in which two words differ

-- m is below n, the words agree below m, and at m the first has v and the second has not
pub record First (n x y : ℕ) (v : Bool) : Type 0 where
  pub at : ℕ
  pub below : at < n
  pub agree : (j : ℕ) → j < at → bit x j ≡ bit y j
  pub mine : bit x at ≡ v
  pub theirs : bit y at ≡ not v

like : (p q : Bool) → unlike p q ≡ false → p ≡ q
like true true e = refl
like true false e = absurd (true≢false e)
like false true e = absurd (true≢false e)
like false false e = refl

unlike_not : (p q : Bool) → unlike p q ≡ true → q ≡ not p
unlike_not true true e = absurd (false≢true e)
unlike_not true false e = refl
unlike_not false true e = refl
unlike_not false false e = absurd (false≢true e)

pub xor_zero : (n : ℕ) {x y : ℕ} → x < 2 ^ n → y < 2 ^ n → bit_xor x y ≡ 0 → x ≡ y
xor_zero n {x} {y} hx hy e = ext n hx hy (λ k l. like (bit x k) (bit y k) (sym (bit_xor_lem x y k) ∙ zero_bits e k))

pub first : (n : ℕ) {x y : ℕ} → x < 2 ^ n → y < 2 ^ n → 0 < bit_xor x y
    → First n x y (bit x (count_trailing_zeros n (bit_xor x y)))
first n {x} {y} hx hy p =
    let l = trailing_lt n (xor_lt n x y hx hy) p in
    record {
      at = count_trailing_zeros n (bit_xor x y);
      below = l;
      agree = λ j h. like (bit x j) (bit y j) (sym (bit_xor_lem x y j) ∙ trailing_below n (bit_xor x y) j h);
      mine = refl;
      theirs = unlike_not (bit x (count_trailing_zeros n (bit_xor x y))) (bit y (count_trailing_zeros n (bit_xor x y)))
          (sym (bit_xor_lem x y (count_trailing_zeros n (bit_xor x y))) ∙ trailing_at n (bit_xor x y) l);
    }

-- the lowest bit in which they differ is known by what it has
pub lowest_bit : (n m : ℕ) {x y : ℕ} (v : Bool) → x < 2 ^ n → y < 2 ^ n → ((j : ℕ) → j < m → bit x j ≡ bit y j)
    → bit x m ≡ v → bit y m ≡ not v → bit x (count_trailing_zeros n (bit_xor x y)) ≡ v
unfolding first
lowest_bit n m {x} {y} v hx hy same mine theirs = by (below_or_not d m) (below_or_not m d)
  where
    d : ℕ
    d = count_trailing_zeros n (bit_xor x y)

    not_like : (b : Bool) → b ≡ not b → ⊥
    not_like true e = true≢false e
    not_like false e = false≢true e

    apart : unlike v (not v) ≡ true
    apart = go v
      where
        go : (v : Bool) → unlike v (not v) ≡ true
        go true = refl
        go false = refl

    some : 0 < bit_xor x y
    some = pos_of_ne-zero (λ e. true≢false (sym (bit_xor_lem x y m ∙ ap₂ unlike mine theirs ∙ apart) ∙ zero_bits e m))

    f : First n x y (bit x d)
    f = first n hx hy some

    by : (d < m) ⊎ (m ≤ d) → (m < d) ⊎ (d ≤ m) → bit x d ≡ v
    by (inl l) k = absurd (not_like (bit x d) (same d l ∙ f.theirs))
    by (inr l) (inl k) = absurd (not_like v (sym mine ∙ f.agree m k ∙ theirs))
    by (inr l) (inr k) = let e : d ≡ m = omega arith in ap (bit x) e ∙ mine

-- equal words differ in no bit below n
pub no_lowest : (n x : ℕ) → x < 2 ^ n → bit x (count_trailing_zeros n (bit_xor x x)) ≡ false
no_lowest n x h = rw (xor_self x, trailing_of_zero n) (bit_beyond n n h (le_refl n))

-- ---- tests of a word against 0, as the code makes them

pub test_true : {d : ℕ} → not (eqb d 0) ≡ true → 0 < d
test_true {d} e = pos_of_ne-zero (eqb-false d 0 (not-true (eqb d 0) e))

pub test_false : {d : ℕ} → not (eqb d 0) ≡ false → d ≡ 0
test_false {d} e = eqb-true d 0 (not-false (eqb d 0) e)

-- `(x >> k) % 2 == 1`, as a branch hands it over
pub shr_true : (x k : ℕ) → x / 2 ^ k % 2 ≡ 1 → bit x k ≡ true
unfolding bit
shr_true x k e = eq-eqb (x / 2 ^ k % 2) 1 e

pub shr_false : (x k : ℕ) → (x / 2 ^ k % 2 ≡ 1 → ⊥) → bit x k ≡ false
unfolding bit
shr_false x k e = ne_eqb (x / 2 ^ k % 2) 1 e

-- and where it is a part of a chain of `||` or `&&`, or a bool in a local
pub shr_flag : (x k : ℕ) {b : Bool} → eqb (x / 2 ^ k % 2) 1 ≡ b → bit x k ≡ b
unfolding bit
shr_flag x k e = e

-- `x & m != 0` where m is the power 2 ^ k
pub pow_test : (x k : ℕ) → not (eqb (bit_and x (2 ^ k)) 0) ≡ bit x k
pow_test x k = ap (λ (z : ℕ). not (eqb z 0)) (and_pow x k) ∙ go (bit x k)
  where
    go : (b : Bool) → not (eqb (digit b * 2 ^ k) 0) ≡ b
    go true = let p = pow_pos k in ap not (ne_eqb (1 * 2 ^ k) 0 (λ e. omega arith))
    go false = ap (λ (z : ℕ). not (eqb z 0)) (zero-mul (2 ^ k))

-- `x & (1 << k) != 0`, at words of n bits
pub mask_test : (n x k : ℕ) → k < n → not (eqb (bit_and x ((1 * 2 ^ k) % 2 ^ n)) 0) ≡ bit x k
mask_test n x k h = ap (λ (z : ℕ). not (eqb (bit_and x z) 0)) (shl_one n k h) ∙ pow_test x k

-- a word that is not 0 has a bit
pub some_bit : (n : ℕ) {x : ℕ} → x < 2 ^ n → 0 < x → (k : ℕ) × (k < n) × (bit x k ≡ true)
some_bit n {x} h p = let l = trailing_lt n h p in (count_trailing_zeros n x, l, trailing_at n x l)

-- `x & (x - 1)`: x without its lowest bit
pub clear_low : (n x j : ℕ) → 0 < x → x < 2 ^ n → bit (bit_and x (x - 1)) j ≡ bit x j && not (eqb j (count_trailing_zeros n x))
clear_low zero x j p h = absurd (omega arith)
clear_low (suc n) x j p h = go (odd x) refl j (clear_low n (x / 2))
  where
    go : (b : Bool) → odd x ≡ b → (j : ℕ)
        → ((j : ℕ) → 0 < x / 2 → x / 2 < 2 ^ n
        → bit (bit_and (x / 2) (x / 2 - 1)) j ≡ bit (x / 2) j && not (eqb j (count_trailing_zeros n (x / 2))))
        → bit (bit_and x (x - 1)) j ≡ bit x j && not (eqb j (count_trailing_zeros (suc n) x))
    go true e j ih =
        let d : x % 2 ≡ 1 = odd_digit x ∙ ap digit e in
        let s : x - 1 ≡ x / 2 * 2 + 0 = omega arith in
        let w : bit_and x (x - 1) ≡ x / 2 * 2 + digit false =
        ap (bit_and x) s ∙ and_step x (x / 2 * 2 + 0)
        ∙ ap₂ (λ (a b : ℕ). bit_and (x / 2) a * 2 + b) (half_of (x / 2) false)
        (ap₂ min d (digits_mod (x / 2) (digit_lt false)))
        ∙ ap (λ (a : ℕ). a * 2 + 0) (and_self (x / 2)) in
        ap (λ (z : ℕ). bit z j) w ∙ bits j ∙ ap (λ (t : ℕ). bit x j && not (eqb j t)) (sym (trailing_odd n x e))
      where
        bits : (j : ℕ) → bit (x / 2 * 2 + digit false) j ≡ bit x j && not (eqb j 0)
        bits zero = bit_zero (x / 2 * 2 + digit false) ∙ odd_of (x / 2) false ∙ sym (and-false (bit x 0))
        bits (suc j) =
            bit_suc (x / 2 * 2 + digit false) j ∙ ap (λ (z : ℕ). bit z j) (half_of (x / 2) false) ∙ sym (bit_suc x j)
            ∙ sym (and-true (bit x (suc j))) ∙ ap (λ (b : Bool). bit x (suc j) && not b) (sym (eqb-suc-zero j))
    go false e j ih =
        let d : x % 2 ≡ 0 = odd_digit x ∙ ap digit e in
        let q : 0 < x / 2 = omega arith in
        let s : x - 1 ≡ (x / 2 - 1) * 2 + 1 = omega arith in
        let w : bit_and x (x - 1) ≡ bit_and (x / 2) (x / 2 - 1) * 2 + digit false =
        ap (bit_and x) s ∙ and_step x ((x / 2 - 1) * 2 + 1)
        ∙ ap₂ (λ (a b : ℕ). bit_and (x / 2) a * 2 + b) (half_of (x / 2 - 1) true)
        (ap₂ min d (digits_mod (x / 2 - 1) (digit_lt true))) in
        ap (λ (z : ℕ). bit z j) w ∙ bits (λ j. ih j q (half_lt n h)) j
        ∙ ap (λ (t : ℕ). bit x j && not (eqb j t)) (sym (trailing_even n x e))
      where
        bits : ((j : ℕ) → bit (bit_and (x / 2) (x / 2 - 1)) j ≡ bit (x / 2) j && not (eqb j (count_trailing_zeros n (x / 2))))
            → (j : ℕ)
            → bit (bit_and (x / 2) (x / 2 - 1) * 2 + digit false) j ≡ bit x j
            && not (eqb j (suc (count_trailing_zeros n (x / 2))))
        bits rest zero =
            bit_zero (bit_and (x / 2) (x / 2 - 1) * 2 + digit false) ∙ odd_of (bit_and (x / 2) (x / 2 - 1)) false
            ∙ ap (λ (b : Bool). b && not (eqb 0 (suc (count_trailing_zeros n (x / 2))))) (sym (bit_zero x ∙ e))
        bits rest (suc j) =
            bit_suc (bit_and (x / 2) (x / 2 - 1) * 2 + digit false) j
            ∙ ap (λ (z : ℕ). bit z j) (half_of (bit_and (x / 2) (x / 2 - 1)) false)
            ∙ rest j
            ∙ ap₂ (λ (b c : Bool). b && not c) (sym (bit_suc x j)) (sym (eqb-suc-suc j (count_trailing_zeros n (x / 2))))
