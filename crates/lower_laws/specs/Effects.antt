-- The effects of a block, one more at a time: what touches a variable, the last effect on it, and the list of a block's
-- own within the body's. Rests on form's Conflict.
use Rattle.std.specs.Prelude.{◌≡◌, refl, ◌⊎◌, Bool, true, false, not, cond, ◌||◌, ◌&&◌, List, [], ◌∷◌, ◌++◌, ℕ, zero, suc, ◌+◌, ◌≤◌, ◌<◌, eqb, length, get_or, take, drop}
use Rattle.std.proofs.Common.{sym, ap, ◌∙◌, inl, inr, add-one, arith, length-drop, take-suc, get_or-drop, take_all}
use Rattle.std.proofs.Math.Bool.{or-false}
use Rattle.std.proofs.Math.Option.{Option, none, some}
use Rattle.std.proofs.Math.Seq.{take-nil}
use Rattle.laws.specs.Terms.{any_of}
use Rattle.form.specs.declared.Effect.{Effect}
use Rattle.form.specs.Conflict.{Condition, met, later, last_on, refuses}

-- from is where `below` entries are passed, as far as the list of n goes
abbrev pub Reached : (n below from : ℕ) → Type 0
Reached n below from = (from ≡ below) ⊎ ((from ≡ n) × (n ≤ below))

-- so many of `own` as the list of n still has
pub record Within (n from own r : ℕ) : Type 0 where
  pub few : r ≤ own
  pub room : from + r ≤ n
  pub all : (r ≡ own) ⊎ (from + r ≡ n)

pub reached_next : (n below from own r : ℕ) → Reached n below from → Within n from own r
    → Reached n (below + own) (from + r)
reached_next n below from own r g w = go g w.all
  where
    go : Reached n below from → (r ≡ own) ⊎ (from + r ≡ n) → Reached n (below + own) (from + r)
    go (inl e) (inl q) = inl (omega arith)
    go (inl e) (inr q) = inr (omega arith, omega (arith, w.few))
    go (inr e) p = inr (omega (arith, w.room, e.0), omega (arith, e.1))

module _ {A : Type 0} where
  pub any_of_last : (f : A → Bool) (l : List A) (x : A) → any_of f (l ++ (x ∷ [])) ≡ (any_of f l || f x)
  any_of_last f [] x = or-false (f x)
  any_of_last f (y ∷ l) x = rw (any_of_last f l x) (assoc (f y) (any_of f l) (f x))
    where
      assoc : (a b c : Bool) → (a || (b || c)) ≡ ((a || b) || c)
      assoc true b c = refl
      assoc false b c = refl

  pub take_next : (l : List A) (from k : ℕ) (z : A) → from + k < length l
      → take (k + 1) (drop from l) ≡ take k (drop from l) ++ (get_or l (from + k) z ∷ [])
  take_next l from k z h = rw (add-one k)
      (take-suc (drop from l) k z (omega (arith, length-drop from l))
      ∙ ap (λ (x : A). take k (drop from l) ++ (x ∷ [])) (get_or-drop from l k z))

  drop_all : (n : ℕ) (l : List A) → length l ≤ n → drop n l ≡ []
  drop_all zero [] h = refl
  drop_all zero (x ∷ l) h = absurd (no h)
    where
      no : suc (length l) ≤ 0 → ⊥
      no h = omega arith
  drop_all (suc n) [] h = refl
  drop_all (suc n) (x ∷ l) h = drop_all n l (omega arith)

  pub own_part : (l : List A) (n below from own r : ℕ) → length l ≡ n → Reached n below from → Within n from own r
      → take r (drop from l) ≡ take own (drop below l)
  own_part l n below from own r size g w = go g w.all
    where
      whole : (a b : ℕ) → length (drop from l) ≤ a → length (drop from l) ≤ b
          → take a (drop from l) ≡ take b (drop from l)
      whole a b h k = take_all a (drop from l) h ∙ sym (take_all b (drop from l) k)

      go : Reached n below from → (r ≡ own) ⊎ (from + r ≡ n) → take r (drop from l) ≡ take own (drop below l)
      go (inl e) (inl q) = rw (← e, q)
      go (inl e) (inr q) =
          rw (← e) (whole r own (omega (arith, length-drop from l)) (omega (arith, length-drop from l, w.few)))
      go (inr e) p =
          rw (
            drop_all from l (omega (arith, e.0)),
            drop_all below l (omega (arith, e.1)),
            take-nil {A = A} r,
            take-nil {A = A} own,
          )

pub last_more : (v : ℕ) (l : List Effect) (a : Effect)
    → last_on v (l ++ (a ∷ [])) ≡ later (last_on v l) (cond (eqb a.variable v) (some a) none)
unfolding last_on
last_more v [] a = by (eqb a.variable v)
  where
    by : (t : Bool) → later (cond t (some a) none) none ≡ later none (cond t (some a) none)
    by true = refl
    by false = refl
last_more v (b ∷ l) a = ap (later (cond (eqb b.variable v) (some b) none)) (last_more v l a)
    ∙ assoc (cond (eqb b.variable v) (some b) none) (last_on v l) (cond (eqb a.variable v) (some a) none)
  where
    assoc : (x y z : Option Effect) → later x (later y z) ≡ later (later x y) z
    assoc x y none = refl
    assoc x y (some e) = refl

-- the last effect is the new one where that is on the variable
refuses_later : (o : Option Effect) (t : Bool) (a : Effect) (c : Condition)
    → refuses (later o (cond t (some a) none)) c
    ≡ ((refuses o c && not t) || (t && (eqb a.how 1 && not (met c a.constant))))
refuses_later o true a c = other (refuses o c) (eqb a.how 1 && not (met c a.constant))
  where
    other : (p q : Bool) → q ≡ ((p && false) || q)
    other true q = refl
    other false q = refl
refuses_later o false a c = other (refuses o c)
  where
    other : (p : Bool) → p ≡ ((p && true) || false)
    other true = refl
    other false = refl

pub refuses_more : (v : ℕ) (l : List Effect) (a : Effect) (c : Condition)
    → refuses (last_on v (l ++ (a ∷ []))) c
    ≡ ((refuses (last_on v l) c && not (eqb a.variable v))
    || (eqb a.variable v && (eqb a.how 1 && not (met c a.constant))))
refuses_more v l a c =
    ap (λ (o : Option Effect). refuses o c) (last_more v l a) ∙ refuses_later (last_on v l) (eqb a.variable v) a c

-- ---- the turn of a loop on words, at one bit: t for a test, r for refused so far, e for an effect on the variable, h
-- for a constant, m for met

pub touch_turn : (t a e : Bool) → ((t && a) || (t && e)) ≡ (t && (a || e))
touch_turn true a e = refl
touch_turn false a e = refl

pub deny_turn : (t r e h m : Bool)
    → (((t && r) && not (t && e)) || ((h && (t && e)) && not m)) ≡ (t && ((r && not e) || (e && (h && not m))))
deny_turn true true true true m = refl
deny_turn true true true false m = refl
deny_turn true true false true m = refl
deny_turn true true false false m = refl
deny_turn true false true true m = refl
deny_turn true false true false m = refl
deny_turn true false false true m = refl
deny_turn true false false false m = refl
deny_turn false r e true m = refl
deny_turn false r e false m = refl
