-- Strict total orders as Bool tests: pairs, lists of numbers at the first place where they part, and the choice between
-- weights (heavier, lighter). Rests on Terms and Tests.
use Rattle.std.specs.Prelude.{◌≡◌, refl, ◌⊎◌, Bool, true, false, List, [], ◌∷◌, ℕ, ◌+◌, ltb}
use Rattle.std.proofs.Common.{ap₂, ◌∙◌, inl, inr, add_comm, arith, ltb-true, ltb-false, lt-ltb, le-ltb}
use Rattle.laws.specs.Terms.{Choice, next, pairb, preferred}
use Rattle.laws.specs.Tests.{split, clash, ltb_shift}

pub record Order {A : Type 0} (lt : A → A → Bool) : Type 0 where
  pub irr : (a : A) → lt a a ≡ false
  pub trans : (a b c : A) → lt a b ≡ true → lt b c ≡ true → lt a c ≡ true
  pub tri : (a b : A) → lt a b ≡ false → lt b a ≡ false → a ≡ b

module _ {A : Type 0} {lt : A → A → Bool} (o : Order lt) where
  pub asym : (a b : A) → lt a b ≡ true → lt b a ≡ false
  asym a b h = split (lt b a) (λ e. clash (o.trans a b a h e) (o.irr a)) (λ e. e)

  -- what is not before is transitive
  pub ntrans : (a b c : A) → lt a b ≡ false → lt b c ≡ false → lt a c ≡ false
  ntrans a b c h k =
      split (lt a c)
      (λ e. split (lt c b) (λ f. clash (o.trans a c b e f) h) (λ f. clash (rw (o.tri b c k f) e) h))
      (λ e. e)

pub ltb_order : Order ltb
ltb_order = record {
  irr = λ a. le-ltb a a (omega arith);
  trans = λ a b c p q. lt-ltb a c (omega (arith, ltb-true a b p, ltb-true b c q));
  tri = λ a b p q. omega (arith, ltb-false a b p, ltb-false b a q);
}

-- the other way round
pub flip_order : {A : Type 0} (lt : A → A → Bool) → Order lt → Order (λ a b. lt b a)
flip_order lt o = record { irr = o.irr; trans = λ a b c p q. o.trans c b a q p; tri = λ a b p q. o.tri a b q p }

-- ---- first by one test, then by another: a before b, b before a, and the rest's test

module _ {A : Type 0} {lt : A → A → Bool} (o : Order lt) where
  next_cases : (a b : A) (x : Bool) → next (lt a b) (lt b a) x ≡ true → (lt a b ≡ true) ⊎ ((a ≡ b) × (x ≡ true))
  next_cases a b x p =
      split (lt a b) inl λ e. split (lt b a) (λ f. clash p (rw (e, f))) λ f. inr (o.tri a b e f, rw (e, f) at p)

  pub next_first : (a b : A) (x : Bool) → lt a b ≡ true → next (lt a b) (lt b a) x ≡ true
  next_first a b x e = rw e

  pub next_same : (a : A) (x : Bool) → next (lt a a) (lt a a) x ≡ x
  next_same a x = rw (o.irr a)

  next_trans : (a b c : A) (x y z : Bool) → (x ≡ true → y ≡ true → z ≡ true)
      → (lt a b ≡ true) ⊎ ((a ≡ b) × (x ≡ true)) → (lt b c ≡ true) ⊎ ((b ≡ c) × (y ≡ true))
      → next (lt a c) (lt c a) z ≡ true
  next_trans a b c x y z f (inl p) (inl q) = next_first a c z (o.trans a b c p q)
  next_trans a b c x y z f (inl p) (inr q) = next_first a c z (rw q.0 at p)
  next_trans a b c x y z f (inr p) (inl q) = next_first a c z (rw p.0 q)
  next_trans a b c x y z f (inr p) (inr q) = rw (p.0, q.0, next_same c z) (f p.1 q.1)

  next_tri : (a b : A) (x y : Bool) → next (lt a b) (lt b a) x ≡ false → next (lt b a) (lt a b) y ≡ false
      → (a ≡ b) × (x ≡ false) × (y ≡ false)
  next_tri a b x y p q =
      split (lt a b) (λ e. clash (next_first a b x e) p) λ e. split (lt b a) (λ f. clash (next_first b a y f) q) λ f.
      (o.tri a b e f, rw (e, f) at p, rw (e, f) at q)

module _ {A B : Type 0} (lt : A → A → Bool) (mt : B → B → Bool) where
  pub pair_order : Order lt → Order mt → Order (pairb lt mt)
  pair_order o w = record {
    irr = λ p. next_same o p.0 _ ∙ w.irr p.1;
    trans = λ p q r h k. next_trans o p.0 q.0 r.0 _ _ _ (w.trans p.1 q.1 r.1) (next_cases o _ _ _ h)
        (next_cases o _ _ _ k);
    tri = λ p q h k. let t = next_tri o p.0 q.0 _ _ h k in λ i. (t.0 i, w.tri p.1 q.1 t.1 t.2 i);
  }

-- two lists at the first place where they part
module _ {A : Type 0} (lt : A → A → Bool) where
  abbrev pub lexb : List A → List A → Bool
  lexb [] [] = false
  lexb [] (y ∷ q) = true
  lexb (x ∷ p) [] = false
  lexb (x ∷ p) (y ∷ q) = next (lt x y) (lt y x) (lexb p q)

  module _ (o : Order lt) where
    lexb_irr : (p : List A) → lexb p p ≡ false
    lexb_irr [] = refl
    lexb_irr (x ∷ p) = next_same o x _ ∙ lexb_irr p

    lexb_trans : (p q r : List A) → lexb p q ≡ true → lexb q r ≡ true → lexb p r ≡ true
    lexb_trans [] [] r h k = k
    lexb_trans [] (y ∷ q) [] h k = k
    lexb_trans [] (y ∷ q) (z ∷ r) h k = refl
    lexb_trans (x ∷ p) [] r h k = clash h refl
    lexb_trans (x ∷ p) (y ∷ q) [] h k = k
    lexb_trans (x ∷ p) (y ∷ q) (z ∷ r) h k =
        next_trans o x y z _ _ _ (lexb_trans p q r) (next_cases o _ _ _ h) (next_cases o _ _ _ k)

    lexb_tri : (p q : List A) → lexb p q ≡ false → lexb q p ≡ false → p ≡ q
    lexb_tri [] [] h k = refl
    lexb_tri [] (y ∷ q) h k = clash refl h
    lexb_tri (x ∷ p) [] h k = clash refl k
    lexb_tri (x ∷ p) (y ∷ q) h k =
        let t = next_tri o x y _ _ h k in
        let e = lexb_tri p q t.1 t.2 in
        λ i. t.0 i ∷ e i

    pub lexb_order : Order lexb
    lexb_order = record { irr = lexb_irr; trans = lexb_trans; tri = lexb_tri }

    -- the same in front of both
    pub lexb_cons : (x : A) (p q : List A) → lexb (x ∷ p) (x ∷ q) ≡ lexb p q
    lexb_cons x p q = next_same o x _

-- ---- which weight is preferred

pub record Preference (prefers : ℕ → ℕ → Bool) : Type 0 where
  pub order : Order prefers
  pub shift : (c a b : ℕ) → prefers (c + a) (c + b) ≡ prefers a b

-- a sum is not preferred where neither part is
pub sum_unpreferred : {prefers : ℕ → ℕ → Bool} → Preference prefers → (a b c d : ℕ) → prefers a b ≡ false
    → prefers c d ≡ false → prefers (a + c) (b + d) ≡ false
sum_unpreferred {prefers} ch a b c d p q =
    ntrans ch.order (a + c) (a + d) (b + d) (ch.shift a c d ∙ q)
    (ap₂ prefers (add_comm a d) (add_comm b d) ∙ ch.shift d a b ∙ p)

-- of either choice
pub preference : (choice : Choice) → Preference (preferred choice)
preference false = record { order = flip_order ltb ltb_order; shift = λ c a b. ltb_shift c b a }
preference true = record { order = ltb_order; shift = ltb_shift }
