-- The test `contradict` says exactly that two conditions are on one variable and no whole number meets both
-- (`contradict_says`): a number that meets two conditions has a fellow within 1 of one of the two constants that meets
-- both. Rests on Relations and laws.Whole.
use Rattle.std.specs.Prelude.{◌≡◌, refl, ◌↔◌, Bool, true, false, ◌||◌, ◌&&◌, ℕ, zero, suc, ◌+◌, ◌<◌, eqb, ℤ, pos, ◌+ℤ◌, ◌-ℤ◌}
use Rattle.std.proofs.Common.{sym, ap, subst, ◌∙◌, arith}
use Rattle.std.proofs.Math.Bool.{not}
use borrow.Author.Tests.{eqb-true, eq-eqb}
use Rattle.std.specs.Int.Signed.{lt_z}
use Rattle.laws.specs.Whole.{up, dn, same_whole, sum_is, diff_is, lt_z_true, lt_z_false, lt_lt_z, le_lt_z, le_le_z, lt_le_z}
use Rattle.laws.specs.Tests.{clash, and_out, and_in, or_out, or_in_left, or_in_right, not_out, is_false}
use Rattle.form.specs.Relation.{meets}
use Rattle.form.specs.Conflict.{Condition, met, Contradict, met_about, contradict}
use Rattle.lower_laws.specs.Relations.{ne_eq_z}

-- ---- on one side of c, each relation to c says the same

below : (r : ℕ) (x y c : ℤ) → up x + dn c < up c + dn x → up y + dn c < up c + dn y → meets r x c ≡ meets r y c
below zero x y c h k = ne_eq_z x c (λ q. omega arith) ∙ sym (ne_eq_z y c (λ q. omega arith))
below (suc zero) x y c h k = ap not (ne_eq_z x c (λ q. omega arith) ∙ sym (ne_eq_z y c (λ q. omega arith)))
below (suc (suc zero)) x y c h k = lt_lt_z x c h ∙ sym (lt_lt_z y c k)
below (suc (suc (suc zero))) x y c h k = lt_le_z c x (omega arith) ∙ sym (lt_le_z c y (omega arith))
below (suc (suc (suc (suc zero)))) x y c h k = le_lt_z c x (omega arith) ∙ sym (le_lt_z c y (omega arith))
below (suc (suc (suc (suc (suc zero))))) x y c h k = le_le_z x c (omega arith) ∙ sym (le_le_z y c (omega arith))
below (suc (suc (suc (suc (suc (suc m)))))) x y c h k = refl

above : (r : ℕ) (x y c : ℤ) → up c + dn x < up x + dn c → up c + dn y < up y + dn c → meets r x c ≡ meets r y c
above zero x y c h k = ne_eq_z x c (λ q. omega arith) ∙ sym (ne_eq_z y c (λ q. omega arith))
above (suc zero) x y c h k = ap not (ne_eq_z x c (λ q. omega arith) ∙ sym (ne_eq_z y c (λ q. omega arith)))
above (suc (suc zero)) x y c h k = le_lt_z x c (omega arith) ∙ sym (le_lt_z y c (omega arith))
above (suc (suc (suc zero))) x y c h k = le_le_z c x (omega arith) ∙ sym (le_le_z c y (omega arith))
above (suc (suc (suc (suc zero)))) x y c h k = lt_lt_z c x h ∙ sym (lt_lt_z c y k)
above (suc (suc (suc (suc (suc zero))))) x y c h k = lt_le_z x c (omega arith) ∙ sym (lt_le_z y c (omega arith))
above (suc (suc (suc (suc (suc (suc m)))))) x y c h k = refl

-- below c, c itself or above c
pub by_side : {X : Type 0} (x c : ℤ) → (up x + dn c < up c + dn x → X) → (x ≡ c → X)
    → (up c + dn x < up x + dn c → X) → X
by_side {X} x c f g h = go (lt_z x c) (lt_z c x) refl refl
  where
    go : (t u : Bool) → lt_z x c ≡ t → lt_z c x ≡ u → X
    go true u e d = f (lt_z_true x c e)
    go false true e d = h (lt_z_true c x d)
    go false false e d = g (same_whole x c (omega (arith, lt_z_false x c e, lt_z_false c x d)))

pub one_less : (z : ℤ) → up (z -ℤ pos 1) + dn z + 1 ≡ dn (z -ℤ pos 1) + up z
one_less z = omega (arith, diff_is z (pos 1))

pub one_more : (z : ℤ) → up (z +ℤ pos 1) + dn z ≡ dn (z +ℤ pos 1) + up z + 1
one_more z = omega (arith, sum_is z (pos 1))

-- ---- a number that meets both has a fellow by a constant

module _ (c d : Condition) where
  abbrev Meets : ℤ → Type 0
  Meets x = (met c x ≡ true) × (met d x ≡ true)

  at_less : (x : ℤ) → Meets (x -ℤ pos 1) → met_about c d x ≡ true
  at_less x m = or_in_left _ (or_in_left _ (and_in m.0 m.1))

  at_same : (x : ℤ) → Meets x → met_about c d x ≡ true
  at_same x m = or_in_left _ (or_in_right (met c (x -ℤ pos 1) && met d (x -ℤ pos 1)) (and_in m.0 m.1))

  at_more : (x : ℤ) → Meets (x +ℤ pos 1) → met_about c d x ≡ true
  at_more x m = or_in_right (met c (x -ℤ pos 1) && met d (x -ℤ pos 1) || met c x && met d x) (and_in m.0 m.1)

  about_out : (x : ℤ) → met_about c d x ≡ true → (y : ℤ) × Meets y
  about_out x h = or_out (met c (x -ℤ pos 1) && met d (x -ℤ pos 1) || met c x && met d x) _ h
      (λ h. or_out (met c (x -ℤ pos 1) && met d (x -ℤ pos 1)) _ h
      (λ h. (x -ℤ pos 1, and_out (met c (x -ℤ pos 1)) _ h))
      (λ h. (x, and_out (met c x) _ h)))
      (λ h. (x +ℤ pos 1, and_out (met c (x +ℤ pos 1)) _ h))

  abbrev near : Bool
  near = met_about c d c.constant || met_about c d d.constant

  -- y is on x's side of both constants
  moved : (x y : ℤ) → met c x ≡ met c y → met d x ≡ met d y → Meets x → Meets y
  moved x y e f m = (sym e ∙ m.0, sym f ∙ m.1)

  by_c : met_about c d c.constant ≡ true → near ≡ true
  by_c h = or_in_left _ h

  by_d : met_about c d d.constant ≡ true → near ≡ true
  by_d h = or_in_right (met_about c d c.constant) h

  pub fellow : (x : ℤ) → Meets x → near ≡ true
  fellow x m =
      by_side x a
      (λ xa. by_side x b
      (λ xb. by_side a b
      (λ ab. by_c (at_less a (moved x (a -ℤ pos 1) (below r x (a -ℤ pos 1) a xa (omega (arith, one_less a)))
      (below q x (a -ℤ pos 1) b xb (omega (arith, one_less a))) m)))
      (λ e. by_c (at_less a (moved x (a -ℤ pos 1) (below r x (a -ℤ pos 1) a xa (omega (arith, one_less a)))
      (below q x (a -ℤ pos 1) b xb (omega (arith, one_less a, ap up e, ap dn e))) m)))
      (λ ba. by_d (at_less b (moved x (b -ℤ pos 1) (below r x (b -ℤ pos 1) a xa (omega (arith, one_less b)))
      (below q x (b -ℤ pos 1) b xb (omega (arith, one_less b))) m))))
      (λ e. by_d (at_same b (subst Meets e m)))
      (λ bx. by_d (at_more b (moved x (b +ℤ pos 1) (below r x (b +ℤ pos 1) a xa (omega (arith, one_more b)))
      (above q x (b +ℤ pos 1) b bx (omega (arith, one_more b))) m))))
      (λ e. by_c (at_same a (subst Meets e m)))
      (λ ax. by_side x b
      (λ xb. by_c (at_more a (moved x (a +ℤ pos 1) (above r x (a +ℤ pos 1) a ax (omega (arith, one_more a)))
      (below q x (a +ℤ pos 1) b xb (omega (arith, one_more a))) m)))
      (λ e. by_d (at_same b (subst Meets e m)))
      (λ bx. by_side a b
      (λ ab. by_d (at_more b (moved x (b +ℤ pos 1) (above r x (b +ℤ pos 1) a ax (omega (arith, one_more b)))
      (above q x (b +ℤ pos 1) b bx (omega (arith, one_more b))) m)))
      (λ e. by_d (at_more b (moved x (b +ℤ pos 1)
      (above r x (b +ℤ pos 1) a ax (omega (arith, one_more b, ap up e, ap dn e)))
      (above q x (b +ℤ pos 1) b bx (omega (arith, one_more b))) m)))
      (λ ba. by_c (at_more a (moved x (a +ℤ pos 1) (above r x (a +ℤ pos 1) a ax (omega (arith, one_more a)))
      (above q x (a +ℤ pos 1) b bx (omega (arith, one_more a))) m)))))
    where
      a : ℤ
      a = c.constant

      b : ℤ
      b = d.constant

      r : ℕ
      r = c.relation

      q : ℕ
      q = d.relation

  pub contradict_says : (contradict c d ≡ true) ↔ Contradict c d
  unfolding contradict
  contradict_says = (
    λ h. let (e, n) = and_out (eqb c.variable d.variable) _ h in
        record {
          alike = eqb-true c.variable d.variable e;
          none_meets_both = λ x p q. clash (fellow x (p, q)) (not_out near n);
        },
    λ h. and_in (eq-eqb c.variable d.variable h.alike) (ap not (is_false near (λ k.
        or_out (met_about c d c.constant) _ k
        (λ k. let (y, m) = about_out c.constant k in h.none_meets_both y m.0 m.1)
        (λ k. let (y, m) = about_out d.constant k in h.none_meets_both y m.0 m.1)))),
  )
