-- The test of two conditions by comparing their constants, without a difference of the two (`contradict_is`): where a
-- number lies beside a constant, below it, at it or above it, decides whether it meets the relation, so that two
-- conditions share a whole number exactly where a place beside both constants exists that meets both. A constant is a
-- condition too (`equal_is`). Rests on Conditions.
use Rattle.std.specs.Prelude.{◌≡◌, refl, Bool, false, not, ◌||◌, ◌&&◌, ℕ, zero, suc, ◌+◌, ◌<◌, eqb, ℤ, ◌+ℤ◌, ◌-ℤ◌}
use Rattle.std.proofs.Common.{sym, ◌∙◌, arith, eqb-true, eq-eqb, ne_eqb, SFits}
use Rattle.std.proofs.Math.Path.{ap}
use Rattle.std.proofs.Math.Bool.{true}
use Rattle.std.proofs.Math.IntN.{pos}
use Rattle.std.specs.Int.Signed.{lt_z}
use Rattle.laws.specs.Whole.{up, dn, lt_z_true, lt_z_false, lt_lt_z, le_lt_z, le_le_z, lt_le_z}
use Rattle.std.specs.Int.{Width}
use Rattle.laws.specs.Signed.{sfits_up, sfits_dn, sfits_in}
use Rattle.laws.specs.Tests.{clash, both, and_out, and_in, or_out, or_in_left, or_in_right, not_out, is_false, eqb_same}
use Rattle.form.specs.Relation.{meets}
use Rattle.form.specs.Conflict.{Condition, contradict}
use Rattle.lower_laws.specs.Relations.{eq_z_true, eq_eq_z, ne_eq_z}
use Rattle.lower_laws.specs.Conditions.{by_side, one_less, one_more, contradict_says}

-- ---- what meets a relation: the numbers below the constant, the constant, the numbers above it

abbrev pub low : ℕ → Bool
low r = eqb r 1 || (eqb r 2 || eqb r 5)

abbrev pub level : ℕ → Bool
level r = eqb r 0 || (eqb r 3 || eqb r 5)

abbrev pub high : ℕ → Bool
high r = eqb r 1 || (eqb r 3 || eqb r 4)

none_of : (m a b c : ℕ) → a < 6 → b < 6 → c < 6
    → (eqb (suc (suc (suc (suc (suc (suc m)))))) a
    || (eqb (suc (suc (suc (suc (suc (suc m)))))) b || eqb (suc (suc (suc (suc (suc (suc m)))))) c)) ≡ false
none_of m a b c h k l = rw (
  ne_eqb (suc (suc (suc (suc (suc (suc m)))))) a (λ q. omega arith),
  ne_eqb (suc (suc (suc (suc (suc (suc m)))))) b (λ q. omega arith),
  ne_eqb (suc (suc (suc (suc (suc (suc m)))))) c (λ q. omega arith),
)

pub below_is : (r : ℕ) (x c : ℤ) → up x + dn c < up c + dn x → meets r x c ≡ low r
below_is zero x c h = ne_eq_z x c (λ q. omega arith)
below_is (suc zero) x c h = ap not (ne_eq_z x c (λ q. omega arith))
below_is (suc (suc zero)) x c h = lt_lt_z x c h
below_is (suc (suc (suc zero))) x c h = lt_le_z c x h
below_is (suc (suc (suc (suc zero)))) x c h = le_lt_z c x (omega arith)
below_is (suc (suc (suc (suc (suc zero))))) x c h = le_le_z x c (omega arith)
below_is (suc (suc (suc (suc (suc (suc m)))))) x c h = sym (none_of m 1 2 5 (omega arith) (omega arith) (omega arith))

pub at_is : (r : ℕ) (x c : ℤ) → up x + dn c ≡ up c + dn x → meets r x c ≡ level r
at_is zero x c h = eq_eq_z x c h
at_is (suc zero) x c h = ap not (eq_eq_z x c h)
at_is (suc (suc zero)) x c h = le_lt_z x c (omega arith)
at_is (suc (suc (suc zero))) x c h = le_le_z c x (omega arith)
at_is (suc (suc (suc (suc zero)))) x c h = le_lt_z c x (omega arith)
at_is (suc (suc (suc (suc (suc zero))))) x c h = le_le_z x c (omega arith)
at_is (suc (suc (suc (suc (suc (suc m)))))) x c h = sym (none_of m 0 3 5 (omega arith) (omega arith) (omega arith))

pub above_is : (r : ℕ) (x c : ℤ) → up c + dn x < up x + dn c → meets r x c ≡ high r
above_is zero x c h = ne_eq_z x c (λ q. omega arith)
above_is (suc zero) x c h = ap not (ne_eq_z x c (λ q. omega arith))
above_is (suc (suc zero)) x c h = le_lt_z x c (omega arith)
above_is (suc (suc (suc zero))) x c h = le_le_z c x (omega arith)
above_is (suc (suc (suc (suc zero)))) x c h = lt_lt_z c x h
above_is (suc (suc (suc (suc (suc zero))))) x c h = lt_le_z x c h
above_is (suc (suc (suc (suc (suc (suc m)))))) x c h = sym (none_of m 1 3 4 (omega arith) (omega arith) (omega arith))

-- ---- the test

-- one of three, each with its own test
abbrev pub some_of : (p q r x y z : Bool) → Bool
some_of p q r x y z = (p && x) || ((q && y) || (r && z))

some_first : {p x : Bool} (q r y z : Bool) → p ≡ true → x ≡ true → some_of p q r x y z ≡ true
some_first q r y z h k = or_in_left _ (and_in h k)

some_second : {q y : Bool} (p r x z : Bool) → q ≡ true → y ≡ true → some_of p q r x y z ≡ true
some_second p r x z h k = or_in_right (p && x) (or_in_left _ (and_in h k))

some_third : {r z : Bool} (p q x y : Bool) → r ≡ true → z ≡ true → some_of p q r x y z ≡ true
some_third p q x y h k = or_in_right (p && x) (or_in_right (q && y) (and_in h k))

some_out : {C : Type 0} (p q r x y z : Bool) → some_of p q r x y z ≡ true → (p ≡ true → x ≡ true → C)
    → (q ≡ true → y ≡ true → C) → (r ≡ true → z ≡ true → C) → C
some_out p q r x y z h f g k = or_out (p && x) _ h (λ a. let (i, j) = and_out p x a in f i j)
    (λ a. or_out (q && y) _ a (λ b. let (i, j) = and_out q y b in g i j) (λ b. let (i, j) = and_out r z b in k i j))

-- some whole number lies between a and b
abbrev pub apart : ℤ → ℤ → Bool
apart a b = lt_z a (b -ℤ pos 1)

-- a is b: neither is below the other
abbrev pub level_with : ℤ → ℤ → Bool
level_with a b = not (lt_z a b) && not (lt_z b a)

level_in : (a b : ℤ) → up a + dn b ≡ up b + dn a → level_with a b ≡ true
level_in a b h = and_in (ap not (le_lt_z a b (omega arith))) (ap not (le_lt_z b a (omega arith)))

level_out : (a b : ℤ) → level_with a b ≡ true → up a + dn b ≡ up b + dn a
level_out a b h =
    let (x, y) = and_out (not (lt_z a b)) _ h in
    omega (arith, lt_z_false a b (not_out (lt_z a b) x), lt_z_false b a (not_out (lt_z b a) y))

-- some whole number has the relation r to a and the relation q to b
unfoldable pub shares : ℕ → ℤ → ℕ → ℤ → Bool
shares r a q b =
    some_of (low r) (level r) (high r)
    (some_of (low q) (level q) (high q) true (lt_z b a) (apart b a))
    (some_of (low q) (level q) (high q) (lt_z a b) (level_with a b) (lt_z b a))
    (some_of (low q) (level q) (high q) (apart a b) (lt_z a b) true)

module _ (r : ℕ) (a : ℤ) (q : ℕ) (b : ℤ) where
  abbrev Both : ℤ → Type 0
  Both x = (meets r x a ≡ true) × (meets q x b ≡ true)

  less_in : (x y : ℤ) → up x + dn y < up y + dn x → lt_z x y ≡ true
  less_in x y h = lt_lt_z x y h

  between : (x y z : ℤ) → up x + dn y < up y + dn x → up y + dn z < up z + dn y → apart x z ≡ true
  between x y z h k = lt_lt_z x (z -ℤ pos 1) (omega (arith, one_less z))

  pub shares_in : (x : ℤ) → meets r x a ≡ true → meets q x b ≡ true → shares r a q b ≡ true
  unfolding shares
  shares_in x m n =
      by_side x a
      (λ xa. some_first (level r) (high r) _ _ (sym (below_is r x a xa) ∙ m) (by_side x b
      (λ xb. some_first (level q) (high q) _ _ (sym (below_is q x b xb) ∙ n) refl)
      (λ e. some_second (low q) (high q) true _ (sym (at_is q x b (omega (arith, ap up e, ap dn e))) ∙ n)
      (less_in b a (omega (arith, ap up e, ap dn e))))
      (λ bx. some_third (low q) (level q) true _ (sym (above_is q x b bx) ∙ n) (between b x a bx xa))))
      (λ e. some_second (low r) (high r) _ _ (sym (at_is r x a (omega (arith, ap up e, ap dn e))) ∙ m) (by_side x b
      (λ xb. some_first (level q) (high q) _ _ (sym (below_is q x b xb) ∙ n)
      (less_in a b (omega (arith, ap up e, ap dn e))))
      (λ f. some_second (low q) (high q) (lt_z a b) _ (sym (at_is q x b (omega (arith, ap up f, ap dn f))) ∙ n)
      (level_in a b (omega (arith, ap up e, ap dn e, ap up f, ap dn f))))
      (λ bx. some_third (low q) (level q) (lt_z a b) _ (sym (above_is q x b bx) ∙ n)
      (less_in b a (omega (arith, ap up e, ap dn e))))))
      (λ ax. some_third (low r) (level r) _ _ (sym (above_is r x a ax) ∙ m) (by_side x b
      (λ xb. some_first (level q) (high q) _ _ (sym (below_is q x b xb) ∙ n) (between a x b ax xb))
      (λ e. some_second (low q) (high q) (apart a b) _ (sym (at_is q x b (omega (arith, ap up e, ap dn e))) ∙ n)
      (less_in a b (omega (arith, ap up e, ap dn e))))
      (λ bx. some_third (low q) (level q) (apart a b) _ (sym (above_is q x b bx) ∙ n) refl)))

  -- the number before both, after both, a, b, and the one after the lower
  pub shares_out : shares r a q b ≡ true → (x : ℤ) × (meets r x a ≡ true) × (meets q x b ≡ true)
  unfolding shares
  shares_out h =
      some_out (low r) (level r) (high r) _ _ _ h
      (λ i k. some_out (low q) (level q) (high q) true (lt_z b a) (apart b a) k
      (λ j t. by_side a b
      (λ ab. (
        a -ℤ pos 1,
        below_is r (a -ℤ pos 1) a (omega (arith, one_less a)) ∙ i,
        below_is q (a -ℤ pos 1) b (omega (arith, one_less a)) ∙ j,
      ))
      (λ e. (
        a -ℤ pos 1,
        below_is r (a -ℤ pos 1) a (omega (arith, one_less a)) ∙ i,
        below_is q (a -ℤ pos 1) b (omega (arith, one_less a, ap up e, ap dn e)) ∙ j,
      ))
      (λ ba. (
        b -ℤ pos 1,
        below_is r (b -ℤ pos 1) a (omega (arith, one_less b)) ∙ i,
        below_is q (b -ℤ pos 1) b (omega (arith, one_less b)) ∙ j,
      )))
      (λ j t. (b, below_is r b a (lt_z_true b a t) ∙ i, at_is q b b (omega arith) ∙ j))
      (λ j t. (
        b +ℤ pos 1,
        below_is r (b +ℤ pos 1) a (omega (arith, one_more b, one_less a, lt_z_true b (a -ℤ pos 1) t))
            ∙ i,
        above_is q (b +ℤ pos 1) b (omega (arith, one_more b)) ∙ j,
      )))
      (λ i k. some_out (low q) (level q) (high q) (lt_z a b) (level_with a b) (lt_z b a) k
      (λ j t. (a, at_is r a a (omega arith) ∙ i, below_is q a b (lt_z_true a b t) ∙ j))
      (λ j t. (a, at_is r a a (omega arith) ∙ i, at_is q a b (level_out a b t) ∙ j))
      (λ j t. (a, at_is r a a (omega arith) ∙ i, above_is q a b (lt_z_true b a t) ∙ j)))
      (λ i k. some_out (low q) (level q) (high q) (apart a b) (lt_z a b) true k
      (λ j t. (
        a +ℤ pos 1,
        above_is r (a +ℤ pos 1) a (omega (arith, one_more a)) ∙ i,
        below_is q (a +ℤ pos 1) b (omega (arith, one_more a, one_less b, lt_z_true a (b -ℤ pos 1) t)) ∙ j,
      ))
      (λ j t. (b, above_is r b a (lt_z_true a b t) ∙ i, at_is q b b (omega arith) ∙ j))
      (λ j t. by_side a b
      (λ ab. (
        b +ℤ pos 1,
        above_is r (b +ℤ pos 1) a (omega (arith, one_more b)) ∙ i,
        above_is q (b +ℤ pos 1) b (omega (arith, one_more b)) ∙ j,
      ))
      (λ e. (
        b +ℤ pos 1,
        above_is r (b +ℤ pos 1) a (omega (arith, one_more b, ap up e, ap dn e)) ∙ i,
        above_is q (b +ℤ pos 1) b (omega (arith, one_more b)) ∙ j,
      ))
      (λ ba. (
        a +ℤ pos 1,
        above_is r (a +ℤ pos 1) a (omega (arith, one_more a)) ∙ i,
        above_is q (a +ℤ pos 1) b (omega (arith, one_more a)) ∙ j,
      ))))

-- a constant as a condition: a number and the relations that it meets
pub equal_is : (a : ℤ) (q : ℕ) (b : ℤ) → shares 0 a q b ≡ meets q a b
equal_is a q b = both _ _
    (λ h. let (x, m, n) = shares_out 0 a q b h in
    let s = eq_z_true x a m in
    by_side a b
    (λ ab. below_is q a b ab ∙ sym (below_is q x b (omega arith)) ∙ n)
    (λ f. at_is q a b (omega (arith, ap up f, ap dn f)) ∙ sym (at_is q x b (omega (arith, ap up f, ap dn f))) ∙ n)
    (λ ba. above_is q a b ba ∙ sym (above_is q x b (omega arith)) ∙ n))
    (λ n. shares_in 0 a q b a (eq_eq_z a a refl) n)

module _ (c d : Condition) where
  pub contradict_is : contradict c d
      ≡ (eqb c.variable d.variable && not (shares c.relation c.constant d.relation d.constant))
  contradict_is = both _ _
      (λ h. let k = (contradict_says c d).0 h in
      and_in (eq-eqb c.variable d.variable k.alike)
      (ap not (is_false (shares c.relation c.constant d.relation d.constant)
      (λ s. let (x, m, n) = shares_out c.relation c.constant d.relation d.constant s in
      k.none_meets_both x m n))))
      (λ h. let (e, s) = and_out (eqb c.variable d.variable) _ h in
      (contradict_says c d).1 (record {
        alike = eqb-true c.variable d.variable e;
        none_meets_both = λ x m n. clash (shares_in c.relation c.constant d.relation d.constant x m n)
            (not_out (shares c.relation c.constant d.relation d.constant) s);
      }))

-- of two conditions on one variable
pub test_is : (v r : ℕ) (a : ℤ) (q : ℕ) (b : ℤ)
    → contradict (record { variable = v; relation = r; constant = a })
    (record { variable = v; relation = q; constant = b }) ≡ not (shares r a q b)
test_is v r a q b = contradict_is (record { variable = v; relation = r; constant = a })
    (record { variable = v; relation = q; constant = b }) ∙ rw (eqb_same v)

-- ---- where the code takes a predecessor

pub predecessor_fits : (w : Width) (a b : ℤ) → SFits w a → SFits w b → lt_z a b ≡ true → SFits w (b -ℤ pos 1)
predecessor_fits w a b f g h = sfits_in w (b -ℤ pos 1) (omega (arith, one_less b, sfits_up b g))
    (omega (arith, one_less b, sfits_dn a f, lt_z_true a b h))

pub not_apart : (a b : ℤ) → lt_z a b ≡ false → apart a b ≡ false
not_apart a b h = le_lt_z a (b -ℤ pos 1) (omega (arith, one_less b, lt_z_false a b h))
