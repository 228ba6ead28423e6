-- Signed numbers of the machine as whole numbers: the range of a width in `up` and `dn`, a number read back from its
-- bits, and what the division asks and gives. Rests on Whole.
use Rattle.std.specs.Prelude.{◌≡◌, ◌+◌, ◌/◌, ◌%◌, ◌^◌, ◌<◌, ◌≤◌, ℤ, pos, negsuc, neg_ℤ, ◌+ℤ◌, ◌-ℤ◌}
use Rattle.std.proofs.Common.{ap, ◌∙◌, div-le_self, arith, to_z-of_z}
use Rattle.std.specs.Int.Signed.{mag, quot_z, rem_z}
use Rattle.std.specs.Int.{Width, w32, w64}
use mir.Val.{SFits, hbits, to_z, of_z}
use Rattle.laws.specs.Whole.{up, dn, no_dn, is_pos, sum_is, diff_is, up_neg, dn_neg}

-- ---- a width's range
pub sfits_up : {w : Width} (x : ℤ) → SFits w x → up x < 2 ^ hbits w
sfits_up {w} (pos n) h = h.sfits
sfits_up {w} (negsuc n) h = omega (arith, h.sfits)

pub sfits_dn : {w : Width} (x : ℤ) → SFits w x → dn x ≤ 2 ^ hbits w
sfits_dn {w} (pos n) h = omega arith
sfits_dn {w} (negsuc n) h = h.sfits

pub sfits_in : (w : Width) (x : ℤ) → up x < dn x + 2 ^ hbits w → dn x ≤ up x + 2 ^ hbits w → SFits w x
sfits_in w (pos n) h k = record { sfits = omega arith }
sfits_in w (negsuc n) h k = record { sfits = omega arith }

-- ---- what 32 bits hold, at 64
module _ (x : ℤ) (f : SFits w32 x) where
  pub neg_fits : SFits w64 (neg_ℤ x)
  neg_fits =
      sfits_in w64 (neg_ℤ x) (omega (arith, up_neg x, dn_neg x, sfits_up x f, sfits_dn x f))
      (omega (arith, up_neg x, dn_neg x, sfits_up x f, sfits_dn x f))

  module _ (y : ℤ) (g : SFits w32 y) where
    pub sum_fits : SFits w64 (x +ℤ y)
    sum_fits =
        sfits_in w64 (x +ℤ y) (omega (arith, sum_is x y, sfits_up x f, sfits_dn x f, sfits_up y g, sfits_dn y g))
        (omega (arith, sum_is x y, sfits_up x f, sfits_dn x f, sfits_up y g, sfits_dn y g))

    pub diff_fits : SFits w64 (x -ℤ y)
    diff_fits =
        sfits_in w64 (x -ℤ y) (omega (arith, diff_is x y, sfits_up x f, sfits_dn x f, sfits_up y g, sfits_dn y g))
        (omega (arith, diff_is x y, sfits_up x f, sfits_dn x f, sfits_up y g, sfits_dn y g))

-- ---- a number read back from its bits
-- a call's result (its `.ok` and what its `ensures` says), as the next call is handed it
pub handed : {r z : ℤ} → mag r < 2 ^ 63 → r ≡ z → to_z w64 (of_z w64 r) ≡ z
handed ok e = to_z-of_z {w = w64} (record { sfits = ok }) ∙ e

-- the same where it is what was read back from a number of 32 bits
pub widened : {r z : ℤ} → SFits w32 z → mag r < 2 ^ 63 → r ≡ to_z w32 (of_z w32 z) → to_z w64 (of_z w64 r) ≡ z
widened f ok e = handed ok (e ∙ to_z-of_z f)

pub widened_diff : {r a b : ℤ} → SFits w32 a → SFits w32 b → mag r < 2 ^ 63
    → r ≡ to_z w32 (of_z w32 a) -ℤ to_z w32 (of_z w32 b) → to_z w64 (of_z w64 r) ≡ a -ℤ b
widened_diff f g ok e = handed ok (e ∙ (λ i. to_z-of_z f i -ℤ to_z-of_z g i))

-- ---- a signed quotient and remainder, of a number that is not negative by a positive one
module _ (a b : ℤ) (fa : SFits w64 a) (fb : SFits w64 b) (not_below : dn a ≡ 0) (above : 0 < up b) where
  read : to_z w64 (of_z w64 a) ≡ pos (up a)
  read = to_z-of_z fa ∙ is_pos a not_below

  read_by : to_z w64 (of_z w64 b) ≡ pos (up b)
  read_by = to_z-of_z fb ∙ is_pos b (no_dn b above)

  quot : quot_z (to_z w64 (of_z w64 a)) (to_z w64 (of_z w64 b)) ≡ pos (up a / up b)
  quot i = quot_z (read i) (read_by i)

  quot_small : SFits w64 (pos (up a / up b))
  quot_small = record { sfits = omega (arith, div-le_self (up a) (up b), sfits_up a fa) }

  pub quot_asks : (0 < of_z w64 b) × SFits w64 (quot_z (to_z w64 (of_z w64 a)) (to_z w64 (of_z w64 b)))
  quot_asks = (rw (is_pos b (no_dn b above)) above, rw quot quot_small)

  pub quot_gives : to_z w64 (of_z w64 (quot_z (to_z w64 (of_z w64 a)) (to_z w64 (of_z w64 b)))) ≡ pos (up a / up b)
  quot_gives = ap (λ (z : ℤ). to_z w64 (of_z w64 z)) quot ∙ to_z-of_z quot_small

  pub rem_gives : rem_z (to_z w64 (of_z w64 a)) (to_z w64 (of_z w64 b)) ≡ pos (up a % up b)
  rem_gives i = rem_z (read i) (read_by i)
