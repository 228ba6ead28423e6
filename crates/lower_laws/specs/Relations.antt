-- Laws of `meets`: what its equality says to `omega`, what its opposite says, and that it speaks of the difference of
-- its two numbers only. Rests on laws.Whole.
use Rattle.std.specs.Prelude.{◌≡◌, refl, Bool, true, false, not, ℕ, zero, suc, ◌+◌, ◌-◌, ◌^◌, ◌<◌, ◌≤◌, eqb, ℤ, pos, negsuc}
use Rattle.std.proofs.Common.{sym, ap, subst, ◌∙◌, arith, eqb-true, eq-eqb, ne_eqb, SFits, of_z}
use Rattle.std.proofs.lemmas.Bool.{eqb-false}
use Rattle.std.specs.Int.Signed.{lt_z, le_z}
use Rattle.std.specs.Int.{w64}
use Rattle.laws.specs.Whole.{up, dn, same_ltb, same_leb, same_eqb, lt_z_is, le_z_is, lt_z_true, lt_z_false, le_le_z, lt_le_z}
use Rattle.form.specs.Relation.{renumbered, eq_z, meets, opposite}

-- ---- the test of equality, as laws.Whole has the tests of order
pub eq_z_is : (a b : ℤ) → eq_z a b ≡ eqb (up a + dn b) (up b + dn a)
eq_z_is (pos a) (pos b) = same_eqb a b (a + 0) (b + 0) (omega arith) (omega arith)
eq_z_is (pos a) (negsuc b) = sym (ne_eqb (a + suc b) (0 + 0) (λ q. omega arith))
eq_z_is (negsuc a) (pos b) = sym (ne_eqb (0 + 0) (b + suc a) (λ q. omega arith))
eq_z_is (negsuc a) (negsuc b) = same_eqb a b (0 + suc b) (0 + suc a) (omega arith) (omega arith)

pub eq_z_true : (a b : ℤ) → eq_z a b ≡ true → up a + dn b ≡ up b + dn a
eq_z_true a b e = eqb-true (up a + dn b) (up b + dn a) (sym (eq_z_is a b) ∙ e)

pub eq_z_false : (a b : ℤ) → eq_z a b ≡ false → up a + dn b ≡ up b + dn a → ⊥
eq_z_false a b e = eqb-false (up a + dn b) (up b + dn a) (sym (eq_z_is a b) ∙ e)

pub eq_eq_z : (a b : ℤ) → up a + dn b ≡ up b + dn a → eq_z a b ≡ true
eq_eq_z a b h = eq_z_is a b ∙ eq-eqb (up a + dn b) (up b + dn a) h

pub ne_eq_z : (a b : ℤ) → (up a + dn b ≡ up b + dn a → ⊥) → eq_z a b ≡ false
ne_eq_z a b h = eq_z_is a b ∙ ne_eqb (up a + dn b) (up b + dn a) h

-- the machine compares bits
pub eq_bits : (a b : ℤ) → SFits w64 a → SFits w64 b → eqb (of_z w64 a) (of_z w64 b) ≡ eq_z a b
eq_bits (pos a) (pos b) f g = refl
eq_bits (pos a) (negsuc b) f g = ne_eqb a (2 ^ 64 - suc b) (λ q. omega (arith, f.sfits, g.sfits))
eq_bits (negsuc a) (pos b) f g = ne_eqb (2 ^ 64 - suc a) b (λ q. omega (arith, f.sfits, g.sfits))
eq_bits (negsuc a) (negsuc b) f g = same_eqb (2 ^ 64 - suc a) (2 ^ 64 - suc b) a b
    (λ q. omega (arith, f.sfits, g.sfits)) (λ q. omega (arith, f.sfits, g.sfits))

-- ---- a number above 5 is some 6 + m
pub above_five : (P : ℕ → Type 0) → ((m : ℕ) → P (suc (suc (suc (suc (suc (suc m))))))) → (relation : ℕ)
    → 5 < relation → P relation
above_five P f relation h = subst P back (f (relation - 6))
  where
    back : suc (suc (suc (suc (suc (suc (relation - 6)))))) ≡ relation
    back = omega arith

-- ---- a relation fails exactly where its opposite holds
not_not : (t : Bool) → t ≡ not (not t)
not_not true = refl
not_not false = refl

le_not_lt : (a b : ℤ) → le_z b a ≡ not (lt_z a b)
le_not_lt a b = go (lt_z a b) refl
  where
    go : (t : Bool) → lt_z a b ≡ t → le_z b a ≡ not t
    go true h = lt_le_z b a (lt_z_true a b h)
    go false h = le_le_z b a (lt_z_false a b h)

lt_not_le : (a b : ℤ) → lt_z a b ≡ not (le_z b a)
lt_not_le a b = not_not (lt_z a b) ∙ sym (ap not (le_not_lt a b))

pub opposite_is : (relation : ℕ) → relation ≤ 5 → (value constant : ℤ)
    → meets (opposite relation) value constant ≡ not (meets relation value constant)
opposite_is zero h a b = refl
opposite_is (suc zero) h a b = not_not (eq_z a b)
opposite_is (suc (suc zero)) h a b = le_not_lt a b
opposite_is (suc (suc (suc zero))) h a b = lt_not_le a b
opposite_is (suc (suc (suc (suc zero)))) h a b = le_not_lt b a
opposite_is (suc (suc (suc (suc (suc zero))))) h a b = lt_not_le b a
opposite_is (suc (suc (suc (suc (suc (suc m)))))) h a b = absurd (too_large h)
  where
    too_large : suc (suc (suc (suc (suc (suc m))))) ≤ 5 → ⊥
    too_large h = omega arith

-- ---- a relation speaks of the difference: the same for a and b as for c and d where a − b is c − d
module _ (a b c d : ℤ) (e : up a + dn b + (up d + dn c) ≡ up b + dn a + (up c + dn d)) where
  lt_z_same : lt_z a b ≡ lt_z c d
  lt_z_same = lt_z_is a b ∙ same_ltb (up a + dn b) (up b + dn a) (up c + dn d) (up d + dn c) e ∙ sym (lt_z_is c d)

  le_z_same : le_z a b ≡ le_z c d
  le_z_same = le_z_is a b ∙ same_leb (up a + dn b) (up b + dn a) (up c + dn d) (up d + dn c) e ∙ sym (le_z_is c d)

  eq_z_same : eq_z a b ≡ eq_z c d
  eq_z_same = eq_z_is a b ∙ same_eqb (up a + dn b) (up b + dn a) (up c + dn d) (up d + dn c) (λ q. omega arith)
      (λ q. omega arith) ∙ sym (eq_z_is c d)

  eq_z_turned : eq_z a b ≡ eq_z d c
  eq_z_turned = eq_z_is a b ∙ same_eqb (up a + dn b) (up b + dn a) (up d + dn c) (up c + dn d) (λ q. omega arith)
      (λ q. omega arith) ∙ sym (eq_z_is d c)

pub shifted : (relation : ℕ) (a b c d : ℤ) → up a + dn b + (up d + dn c) ≡ up b + dn a + (up c + dn d)
    → meets relation a b ≡ meets relation c d
shifted zero a b c d e = eq_z_same a b c d e
shifted (suc zero) a b c d e = ap not (eq_z_same a b c d e)
shifted (suc (suc zero)) a b c d e = lt_z_same a b c d e
shifted (suc (suc (suc zero))) a b c d e = le_z_same b a d c (omega arith)
shifted (suc (suc (suc (suc zero)))) a b c d e = lt_z_same b a d c (omega arith)
shifted (suc (suc (suc (suc (suc zero))))) a b c d e = le_z_same a b c d e
shifted (suc (suc (suc (suc (suc (suc m)))))) a b c d e = refl

-- ---- in the mirror: the relation of −a to −b where a has this relation to b; < and > change places, and ≥ and ≤
abbrev pub mirrored : ℕ → ℕ
mirrored relation = renumbered 0 1 4 5 2 3 relation

-- a − b is d − c
pub turned : (relation : ℕ) (a b c d : ℤ) → up a + dn b + (up c + dn d) ≡ up b + dn a + (up d + dn c)
    → meets relation a b ≡ meets (mirrored relation) c d
turned zero a b c d e = eq_z_turned a b d c e
turned (suc zero) a b c d e = ap not (eq_z_turned a b d c e)
turned (suc (suc zero)) a b c d e = lt_z_same a b d c e
turned (suc (suc (suc zero))) a b c d e = le_z_same b a c d (omega arith)
turned (suc (suc (suc (suc zero)))) a b c d e = lt_z_same b a c d (omega arith)
turned (suc (suc (suc (suc (suc zero))))) a b c d e = le_z_same a b d c e
turned (suc (suc (suc (suc (suc (suc m)))))) a b c d e = refl
