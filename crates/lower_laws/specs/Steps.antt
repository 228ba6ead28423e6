-- Steps of s up from 0 until a relation to a gap fails: the step after which it first fails, in closed form, and that
-- within a room. Rests on Relations.
use Rattle.std.specs.Prelude.{◌≡◌, Bool, not, cond, T, eqb, ltb, ℤ, pos}
use Rattle.std.proofs.Math.Path.{refl}
use Rattle.std.proofs.Common.{sym, ap, subst, ◌∙◌, mul-one, mul-zero, mul-le-mul_left, le-div_iff_mul-le, arith}
use Rattle.std.proofs.Math.Bool.{true, false}
use Prim.Native.Nat.{ℕ, zero, suc, ◌+◌, ◌-◌, ◌*◌, ◌/◌, ◌%◌, ◌<◌, ◌≤◌}
use Rattle.std.proofs.Math.Nat.{mul_comm, mul-lt-mul_of_pos_left, mul-div-le, lt-mul-div-succ, div-add-mod, mul-mod_right}
use borrow.Author.Tests.{eqb-true, eqb-false, ltb-true, ltb-false, leb-true, leb-false, le-leb, lt-leb}
use Rattle.std.proofs.Math.Dec.{leb}
use Rattle.laws.specs.Whole.{up, dn, no_dn, lt_z_true, le_z_true, lt_lt_z, le_lt_z, le_le_z, lt_le_z}
use Rattle.form.specs.Relation.{meets}
use Rattle.lower_laws.specs.Relations.{eq_z_true, eq_eq_z, ne_eq_z}

-- ---- an answer that is 0 where nothing is as asked, and else is as asked
abbrev pub Found : (ℕ → Type 0) → ℕ → Type 0
Found P zero = (k : ℕ) → P k → ⊥
Found P (suc k) = P (suc k)

pub found_as : (P Q : ℕ → Type 0) → ((k : ℕ) → P k → Q k) → ((k : ℕ) → Q k → P k) → (n : ℕ) → Found P n → Found Q n
found_as P Q f g zero w = λ k q. w k (g k q)
found_as P Q f g (suc k) w = f (suc k) w

pub found_none : (P : ℕ → Type 0) (n : ℕ) → n ≡ 0 → Found P n → (k : ℕ) → P k → ⊥
found_none P n e w = subst (Found P) e w

pub found_some : (P : ℕ → Type 0) (n : ℕ) → (n ≡ 0 → ⊥) → Found P n → P n
found_some P zero h w = absurd (h refl)
found_some P (suc k) h w = w

is_found : (P : ℕ → Type 0) (k : ℕ) → 1 ≤ k → P k → Found P k
is_found P zero h p = omega arith
is_found P (suc k) h p = p

pub not_both {ℓ} : {X : Type ℓ} {t : Bool} → t ≡ true → t ≡ false → X
not_both e f = absurd (subst T (sym e ∙ f) tt)

-- a test that holds from `least` on and then fails does so at one place
pub fails_once : (test : ℕ → Bool) (least k l : ℕ) → least ≤ k → least ≤ l
    → ((j : ℕ) → least ≤ j → j < k → test j ≡ true) → ((j : ℕ) → least ≤ j → j < l → test j ≡ true) → test k ≡ false
    → test l ≡ false → k ≡ l
fails_once test least k l from_k from_l before_k before_l at_k at_l = go (ltb k l) (ltb l k) refl refl
  where
    neither : l ≤ k → k ≤ l → k ≡ l
    neither a b = omega arith

    go : (t u : Bool) → ltb k l ≡ t → ltb l k ≡ u → k ≡ l
    go true u h i = not_both (before_l k from_k (ltb-true k l h)) at_k
    go false true h i = not_both (before_k l from_l (ltb-true l k i)) at_l
    go false false h i = neither (ltb-false k l h) (ltb-false l k i)

-- ---- the closed form
-- the step after which the relation to the gap first fails, where it holds after the first step
unfoldable pub later : (s relation : ℕ) (gap : ℤ) → ℕ
later s zero gap = 2
later s (suc zero) gap = cond (eqb (up gap % s) 0) (up gap / s) 0
later s (suc (suc zero)) gap = (up gap - 1) / s + 1
later s (suc (suc (suc zero))) gap = 0
later s (suc (suc (suc (suc zero)))) gap = 0
later s (suc (suc (suc (suc (suc zero))))) gap = up gap / s + 1
later s (suc (suc (suc (suc (suc (suc m)))))) gap = 0

-- ≥, > and what is no relation never fail later
pub later_never : (s relation : ℕ) (gap : ℤ) → (relation ≡ 0 → ⊥) → (relation ≡ 1 → ⊥) → (relation ≡ 2 → ⊥)
    → (relation ≡ 5 → ⊥) → later s relation gap ≡ 0
unfolding later
later_never s zero gap n0 n1 n2 n5 = absurd (n0 refl)
later_never s (suc zero) gap n0 n1 n2 n5 = absurd (n1 refl)
later_never s (suc (suc zero)) gap n0 n1 n2 n5 = absurd (n2 refl)
later_never s (suc (suc (suc zero))) gap n0 n1 n2 n5 = refl
later_never s (suc (suc (suc (suc zero)))) gap n0 n1 n2 n5 = refl
later_never s (suc (suc (suc (suc (suc zero))))) gap n0 n1 n2 n5 = absurd (n5 refl)
later_never s (suc (suc (suc (suc (suc (suc m)))))) gap n0 n1 n2 n5 = refl

unfoldable pub first : (s relation : ℕ) (gap : ℤ) → ℕ
first s relation gap = cond (meets relation (pos s) gap) (later s relation gap) 1

-- the same where that many steps stay within the room, else 0
unfoldable pub within : (s relation : ℕ) (gap : ℤ) (room : ℕ) → ℕ
within s relation gap room = cond (leb (first s relation gap) (room / s)) (first s relation gap) 0

pub within_room : (s relation : ℕ) (gap : ℤ) (room : ℕ) → first s relation gap ≤ room / s
    → within s relation gap room ≡ first s relation gap
unfolding within
within_room s relation gap room h =
    ap (λ (t : Bool). cond t (first s relation gap) 0) (le-leb (first s relation gap) (room / s) h)

pub beyond_room : (s relation : ℕ) (gap : ℤ) (room : ℕ) → room / s < first s relation gap
    → within s relation gap room ≡ 0
unfolding within
beyond_room s relation gap room h =
    ap (λ (t : Bool). cond t (first s relation gap) 0) (lt-leb (first s relation gap) (room / s) h)

-- ---- what it is the closed form of
pub record First (s relation : ℕ) (gap : ℤ) (k : ℕ) : Type 0 where
  pub once : 1 ≤ k
  pub again : (j : ℕ) → 1 ≤ j → j < k → meets relation (pos (s * j)) gap ≡ true
  pub ends : meets relation (pos (s * k)) gap ≡ false

pub first_once : (s relation : ℕ) (gap : ℤ) (k l : ℕ) → First s relation gap k → First s relation gap l → k ≡ l
first_once s relation gap k l a b =
    fails_once (λ j. meets relation (pos (s * j)) gap) 1 k l a.once b.once a.again b.again a.ends
    b.ends

-- no step stands before the first
pub none_before : (j : ℕ) → 1 ≤ j → j < 1 → ⊥
none_before j h k = omega arith

module _ (s : ℕ) (some : 0 < s) (gap : ℤ) where
  beyond : (j : ℕ) → 1 ≤ j → s ≤ s * j
  beyond j h = omega (arith, mul-le-mul_left s h, mul-one s)

  at_once : (r : ℕ) → meets r (pos s) gap ≡ false → First s r gap 1
  at_once r e = record {
    once = omega arith;
    again = λ j h k. absurd (none_before j h k);
    ends = ap (λ (n : ℕ). meets r (pos n) gap) (mul-one s) ∙ e;
  }

  -- the relation never fails
  never : (r : ℕ) → ((j : ℕ) → 1 ≤ j → meets r (pos (s * j)) gap ≡ true) → (k : ℕ) → First s r gap k → ⊥
  never r f k h = not_both (f k h.once) h.ends

  -- =
  equal_once : meets 0 (pos s) gap ≡ true → First s 0 gap 2
  equal_once e = record {
    once = omega arith;
    again = λ j h k. subst (λ (n : ℕ). meets 0 (pos n) gap ≡ true) (sym (one_step j h k)) e;
    ends = ne_eq_z (pos (s * 2)) gap (λ q. omega (arith, eq_z_true (pos s) gap e));
  }
    where
      is_one : (j : ℕ) → 1 ≤ j → j < 2 → j ≡ 1
      is_one j h k = omega arith

      one_step : (j : ℕ) → 1 ≤ j → j < 2 → s * j ≡ s
      one_step j h k = ap (λ (n : ℕ). s * n) (is_one j h k) ∙ mul-one s

  -- ≠
  not_above : up gap ≡ 0 → (k : ℕ) → First s 1 gap k → ⊥
  not_above h = never 1 (λ j k. ap not (ne_eq_z (pos (s * j)) gap (λ q. omega (arith, beyond j k))))

  no_multiple : eqb (up gap % s) 0 ≡ false → (k : ℕ) → First s 1 gap k → ⊥
  no_multiple e =
      never 1 (λ j k. ap not (ne_eq_z (pos (s * j)) gap
      (λ q. eqb-false (up gap % s) 0 e (ap (λ (n : ℕ). n % s) (is j k q) ∙ mul-mod_right s j))))
    where
      is : (j : ℕ) → 1 ≤ j → s * j + dn gap ≡ up gap + 0 → up gap ≡ s * j
      is j k q = omega (arith, no_dn gap (omega (arith, beyond j k)))

  multiple : (q : ℕ) → s * suc q ≡ up gap → First s 1 gap (suc q)
  multiple q whole =
      let above : dn gap ≡ 0 = no_dn gap (omega (arith, beyond (suc q) (omega arith))) in
      record {
        once = omega arith;
        again = λ j i k. ap not (ne_eq_z (pos (s * j)) gap (λ e. omega (arith, mul-lt-mul_of_pos_left k some)));
        ends = ap not (eq_eq_z (pos (s * suc q)) gap (omega arith));
      }

  exact : Found (First s 1 gap) (cond (eqb (up gap % s) 0) (up gap / s) 0)
  exact = go (eqb (up gap % s) 0) refl
    where
      parts : (q : ℕ) → s * q ≡ up gap → Found (First s 1 gap) q
      parts zero whole = not_above (omega (arith, mul-zero s))
      parts (suc q) whole = multiple q whole

      go : (t : Bool) → eqb (up gap % s) 0 ≡ t → Found (First s 1 gap) (cond t (up gap / s) 0)
      go true e = parts (up gap / s) (omega (arith, div-add-mod (up gap) s, eqb-true (up gap % s) 0 e))
      go false e = no_multiple e

  -- < and ≤: up to the last multiple of s that is at most n
  up_to_last : (n j : ℕ) → j < n / s + 1 → s * j ≤ n
  up_to_last n j h =
      let fewer : j ≤ n / s = omega arith in
      omega (arith, mul-le-mul_left s fewer, mul-div-le n s)

  past_last : (n : ℕ) → n < s * (n / s + 1)
  past_last n = lt-mul-div-succ n some

  below : meets 2 (pos s) gap ≡ true → First s 2 gap ((up gap - 1) / s + 1)
  below e =
      let lt : s + dn gap < up gap + 0 = lt_z_true (pos s) gap e in
      let above : dn gap ≡ 0 = no_dn gap (omega arith) in
      record {
        once = omega arith;
        again = λ j h k. lt_lt_z (pos (s * j)) gap (omega (arith, up_to_last (up gap - 1) j k));
        ends = le_lt_z (pos (s * ((up gap - 1) / s + 1))) gap (omega (arith, past_last (up gap - 1)));
      }

  at_most : meets 5 (pos s) gap ≡ true → First s 5 gap (up gap / s + 1)
  at_most e =
      let le : s + dn gap ≤ up gap + 0 = le_z_true (pos s) gap e in
      let above : dn gap ≡ 0 = no_dn gap (omega arith) in
      record {
        once = omega arith;
        again = λ j h k. le_le_z (pos (s * j)) gap (omega (arith, up_to_last (up gap) j k));
        ends = lt_le_z (pos (s * (up gap / s + 1))) gap (omega (arith, past_last (up gap)));
      }

  -- ≥ and >
  at_least : meets 3 (pos s) gap ≡ true → (k : ℕ) → First s 3 gap k → ⊥
  at_least e = never 3 (λ j h. le_le_z gap (pos (s * j)) (omega (arith, le_z_true gap (pos s) e, beyond j h)))

  above : meets 4 (pos s) gap ≡ true → (k : ℕ) → First s 4 gap k → ⊥
  above e = never 4 (λ j h. lt_lt_z gap (pos (s * j)) (omega (arith, lt_z_true gap (pos s) e, beyond j h)))

  later_found : (r : ℕ) → meets r (pos s) gap ≡ true → Found (First s r gap) (later s r gap)
  unfolding later
  later_found zero e = equal_once e
  later_found (suc zero) e = exact
  later_found (suc (suc zero)) e = is_found (First s 2 gap) ((up gap - 1) / s + 1) (omega arith) (below e)
  later_found (suc (suc (suc zero))) e = at_least e
  later_found (suc (suc (suc (suc zero)))) e = above e
  later_found (suc (suc (suc (suc (suc zero))))) e = is_found (First s 5 gap) (up gap / s + 1) (omega arith) (at_most e)
  later_found (suc (suc (suc (suc (suc (suc m)))))) e = not_both e refl

  pub first_found : (r : ℕ) → Found (First s r gap) (first s r gap)
  unfolding first
  first_found r = go (meets r (pos s) gap) refl
    where
      go : (t : Bool) → meets r (pos s) gap ≡ t → Found (First s r gap) (cond t (later s r gap) 1)
      go true e = later_found r e
      go false e = at_once r e

  pub within_found : (r room : ℕ) → Found (λ k. First s r gap k × (s * k ≤ room)) (within s r gap room)
  unfolding within
  within_found r room = go (first s r gap) (first_found r) (leb (first s r gap) (room / s)) refl
    where
      go : (n : ℕ) → Found (First s r gap) n → (t : Bool) → leb n (room / s) ≡ t
          → Found (λ k. First s r gap k × (s * k ≤ room)) (cond t n 0)
      go zero w true e = λ k p. w k p.0
      go zero w false e = λ k p. w k p.0
      go (suc n) w true e = (w, rw mul_comm ((le-div_iff_mul-le some).0 (leb-true (suc n) (room / s) e)))
      go (suc n) w false e = λ k p.
          let same : k ≡ suc n = first_once s r gap k (suc n) p.0 w in
          let fits : k ≤ room / s = (le-div_iff_mul-le some).1 (rw mul_comm p.1) in
          omega (arith, leb-false (suc n) (room / s) e)
