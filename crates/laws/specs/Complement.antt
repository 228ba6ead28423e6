-- The two's complement of 32 bits: taking a number from -1 turns its sign, which is how a program goes from bits to a
-- signed number and back.
use Rattle.std.specs.Prelude.{◌≡◌, refl, ℕ, zero, suc, ◌-◌, ◌<◌, ◌≤◌, ◌^◌, true, false, T, ℤ, pos, negsuc, ◌-ℤ◌, nat_abs}
use Rattle.std.proofs.Common.{ap, sym, ◌∙◌, zero-add, arith, le-ltb, le-leb, to_z-of_z, of_z, to_z, Fits, SFits}
use Rattle.std.proofs.lemmas.Bool.{false≢true}
use Rattle.std.specs.Int.Signed.{le_z, non_neg, mag}
use Rattle.std.specs.Int.{w32}

pub minus_one_less : (m : ℕ) → negsuc 0 -ℤ pos m ≡ negsuc m
minus_one_less zero = refl
minus_one_less (suc m) = ap (λ (n : ℕ). negsuc (suc n)) (zero-add m)

pub minus_one_less_negative : (m : ℕ) → negsuc 0 -ℤ negsuc m ≡ pos m
minus_one_less_negative m =
    let small : 1 ≤ suc m = omega arith in
    let rest : suc m - 1 ≡ m = omega arith in
    rw (le-ltb (suc m) 1 small) (ap pos rest)

-- a number that is not negative is its bits
pub natural_bits :
    (z : ℤ) → SFits w32 z → le_z (pos 0) z ≡ true → (T (non_neg z) × Fits w32 (nat_abs z)) × (nat_abs z ≡ of_z w32 z)
natural_bits (pos n) f e = ((tt, record { fits = omega (arith, f.sfits) }), refl)
natural_bits (negsuc n) f e = absurd (false≢true e)

-- and a negative one is as far from the largest bits as it is from -1
abbrev pub Complement : ℤ → Type 0
Complement z = (m : ℕ) × (negsuc 0 -ℤ z ≡ pos m) × (m < 2 ^ 31) × (4294967295 - m ≡ of_z w32 z)

pub negative_bits : (z : ℤ) → SFits w32 z → le_z (pos 0) z ≡ false → Complement z
negative_bits (pos n) f e = absurd (false≢true (sym e ∙ le-leb 0 n (omega arith)))
negative_bits (negsuc m) f e = (m, minus_one_less_negative m, f.sfits, omega arith)

-- a signed number that a call gave, as it is held in 32 bits
pub held : {r z : ℤ} → mag r < 2 ^ 31 → r ≡ z → to_z w32 (of_z w32 r) ≡ z
held ok e = to_z-of_z {w = w32} (record { sfits = ok }) ∙ e

-- the bits of a signed number, as a field of a struct hands it to a call
pub field_bits : (z : ℤ) {r : ℕ} → mag z < 2 ^ 31 → r ≡ of_z w32 (to_z w32 (of_z w32 z)) → r ≡ of_z w32 z
field_bits z ok e = e ∙ ap (of_z w32) (to_z-of_z {w = w32} {z = z} (record { sfits = ok }))
