-- Whole numbers for `omega`, which reads naturals only: z is up z − dn z, and each operation and test of the kit's ℤ is
-- a linear fact on these two naturals. At a literal both compute. Rests on the kit alone.
use Rattle.std.specs.Prelude.{◌≡◌, refl, Bool, true, false, cond, ℕ, zero, suc, ◌+◌, ◌-◌, ◌<◌, ◌≤◌, ltb, leb, eqb, ℤ, pos, negsuc, neg_ℤ, ◌+ℤ◌, ◌-ℤ◌}
use Rattle.std.proofs.Common.{sym, ap, ◌∙◌, arith, ltb-true, ltb-false, leb-true, leb-false, eqb-true, lt-ltb, le-ltb, le-leb, eq-eqb, ne_eqb}
use Rattle.std.proofs.lemmas.Bool.{eqb-false, lt-leb}
use Rattle.std.proofs.Math.IntN.{sub_ℕ}
use Rattle.std.specs.Int.Signed.{lt_z, le_z}

abbrev pub up : ℤ → ℕ
up (pos n) = n
up (negsuc n) = 0

abbrev pub dn : ℤ → ℕ
dn (pos n) = 0
dn (negsuc n) = suc n

-- ---- one of the two is 0, and together they tell the number
no : (n : ℕ) → suc n ≡ 0 → ⊥
no n h = omega arith

pub no_dn : (x : ℤ) → 0 < up x → dn x ≡ 0
no_dn (pos n) h = refl
no_dn (negsuc n) h = omega arith

pub no_up : (x : ℤ) → 0 < dn x → up x ≡ 0
no_up (pos n) h = omega arith
no_up (negsuc n) h = refl

pub not_negative : (x : ℤ) → dn x ≤ up x → dn x ≡ 0
not_negative (pos n) h = refl
not_negative (negsuc n) h = omega arith

pub not_positive : (x : ℤ) → up x ≤ dn x → up x ≡ 0
not_positive (pos n) h = omega arith
not_positive (negsuc n) h = refl

pub is_pos : (x : ℤ) → dn x ≡ 0 → x ≡ pos (up x)
is_pos (pos n) h = refl
is_pos (negsuc n) h = absurd (no n h)

pub same_whole : (a b : ℤ) → up a + dn b ≡ up b + dn a → a ≡ b
same_whole (pos a) (pos b) e = ap pos (omega arith)
same_whole (pos a) (negsuc b) e = absurd (no (a + b) (omega arith))
same_whole (negsuc a) (pos b) e = absurd (no (a + b) (omega arith))
same_whole (negsuc a) (negsuc b) e = ap negsuc (omega arith)

-- ---- the operations
subtracted : (a b : ℕ) → up (sub_ℕ a b) + b ≡ dn (sub_ℕ a b) + a
subtracted a b = go (ltb a b) refl
  where
    go : (t : Bool) → ltb a b ≡ t
        → up (cond t (negsuc (b - suc a)) (pos (a - b))) + b ≡ dn (cond t (negsuc (b - suc a)) (pos (a - b))) + a
    go true h = omega (arith, ltb-true a b h)
    go false h = omega (arith, ltb-false a b h)

pub sum_is : (x y : ℤ) → up (x +ℤ y) + (dn x + dn y) ≡ dn (x +ℤ y) + (up x + up y)
sum_is (pos a) (pos b) = omega arith
sum_is (pos a) (negsuc b) = omega (arith, subtracted a (suc b))
sum_is (negsuc a) (pos b) = omega (arith, subtracted b (suc a))
sum_is (negsuc a) (negsuc b) = omega arith

pub up_neg : (x : ℤ) → up (neg_ℤ x) ≡ dn x
up_neg (pos zero) = refl
up_neg (pos (suc n)) = refl
up_neg (negsuc n) = refl

pub dn_neg : (x : ℤ) → dn (neg_ℤ x) ≡ up x
dn_neg (pos zero) = refl
dn_neg (pos (suc n)) = refl
dn_neg (negsuc n) = refl

pub diff_is : (x y : ℤ) → up (x -ℤ y) + (dn x + up y) ≡ dn (x -ℤ y) + (up x + dn y)
diff_is x y = omega (arith, sum_is x (neg_ℤ y), up_neg y, dn_neg y)

pub one_less : (z : ℤ) → 0 < up z → z -ℤ pos 1 ≡ pos (up z - 1)
one_less z h = same_whole (z -ℤ pos 1) (pos (up z - 1)) (omega (arith, diff_is z (pos 1), no_dn z h))

-- ---- two tests of naturals agree
pub same_ltb : (a b c d : ℕ) → a + d ≡ b + c → ltb a b ≡ ltb c d
same_ltb a b c d e = go (ltb a b) refl
  where
    go : (t : Bool) → ltb a b ≡ t → ltb a b ≡ ltb c d
    go true h = h ∙ sym (lt-ltb c d (omega (arith, ltb-true a b h)))
    go false h = h ∙ sym (le-ltb c d (omega (arith, ltb-false a b h)))

pub same_leb : (a b c d : ℕ) → a + d ≡ b + c → leb a b ≡ leb c d
same_leb a b c d e = go (leb a b) refl
  where
    go : (t : Bool) → leb a b ≡ t → leb a b ≡ leb c d
    go true h = h ∙ sym (le-leb c d (omega (arith, leb-true a b h)))
    go false h = h ∙ sym (lt-leb c d (omega (arith, leb-false a b h)))

pub same_eqb : (a b c d : ℕ) → (a ≡ b → c ≡ d) → (c ≡ d → a ≡ b) → eqb a b ≡ eqb c d
same_eqb a b c d f g = go (eqb a b) refl
  where
    go : (t : Bool) → eqb a b ≡ t → eqb a b ≡ eqb c d
    go true h = h ∙ sym (eq-eqb c d (f (eqb-true a b h)))
    go false h = h ∙ sym (ne_eqb c d (λ q. eqb-false a b h (g q)))

-- ---- the tests of whole numbers are tests of naturals
pub lt_z_is : (a b : ℤ) → lt_z a b ≡ ltb (up a + dn b) (up b + dn a)
lt_z_is (pos a) (pos b) = same_ltb a b (a + 0) (b + 0) (omega arith)
lt_z_is (pos a) (negsuc b) = sym (le-ltb (a + suc b) (0 + 0) (omega arith))
lt_z_is (negsuc a) (pos b) = sym (lt-ltb (0 + 0) (b + suc a) (omega arith))
lt_z_is (negsuc a) (negsuc b) = same_ltb b a (0 + suc b) (0 + suc a) (omega arith)

pub le_z_is : (a b : ℤ) → le_z a b ≡ leb (up a + dn b) (up b + dn a)
le_z_is (pos a) (pos b) = same_leb a b (a + 0) (b + 0) (omega arith)
le_z_is (pos a) (negsuc b) = sym (lt-leb (a + suc b) (0 + 0) (omega arith))
le_z_is (negsuc a) (pos b) = sym (le-leb (0 + 0) (b + suc a) (omega arith))
le_z_is (negsuc a) (negsuc b) = same_leb b a (0 + suc b) (0 + suc a) (omega arith)

-- ---- what a test says, for omega's list
pub lt_z_true : (a b : ℤ) → lt_z a b ≡ true → up a + dn b < up b + dn a
lt_z_true a b e = ltb-true (up a + dn b) (up b + dn a) (sym (lt_z_is a b) ∙ e)

pub lt_z_false : (a b : ℤ) → lt_z a b ≡ false → up b + dn a ≤ up a + dn b
lt_z_false a b e = ltb-false (up a + dn b) (up b + dn a) (sym (lt_z_is a b) ∙ e)

pub le_z_true : (a b : ℤ) → le_z a b ≡ true → up a + dn b ≤ up b + dn a
le_z_true a b e = leb-true (up a + dn b) (up b + dn a) (sym (le_z_is a b) ∙ e)

pub le_z_false : (a b : ℤ) → le_z a b ≡ false → up b + dn a < up a + dn b
le_z_false a b e = leb-false (up a + dn b) (up b + dn a) (sym (le_z_is a b) ∙ e)

-- ---- and back
pub lt_lt_z : (a b : ℤ) → up a + dn b < up b + dn a → lt_z a b ≡ true
lt_lt_z a b h = lt_z_is a b ∙ lt-ltb (up a + dn b) (up b + dn a) h

pub le_lt_z : (a b : ℤ) → up b + dn a ≤ up a + dn b → lt_z a b ≡ false
le_lt_z a b h = lt_z_is a b ∙ le-ltb (up a + dn b) (up b + dn a) h

pub le_le_z : (a b : ℤ) → up a + dn b ≤ up b + dn a → le_z a b ≡ true
le_le_z a b h = le_z_is a b ∙ le-leb (up a + dn b) (up b + dn a) h

pub lt_le_z : (a b : ℤ) → up b + dn a < up a + dn b → le_z a b ≡ false
lt_le_z a b h = le_z_is a b ∙ lt-leb (up a + dn b) (up b + dn a) h
