-- The laws of lists: membership in `++`, `only`, `each`, `map`, `any_of` and `range`, and of lists in which each entry
-- stands before the later ones. Rests on Terms and Tests.
use Rattle.std.specs.Prelude.{◌≡◌, refl, ◌⊎◌, Bool, true, false, cond, List, [], ◌∷◌, ◌++◌, map, ℕ, zero, suc, ◌+◌, ◌≤◌, ◌<◌, eqb, ltb}
use Rattle.std.proofs.Common.{sym, ap, ◌∙◌, inl, inr, append_assoc, arith, eqb-true, lt-ltb}
use Rattle.std.proofs.lemmas.Bool.{eqb-false}
use Rattle.laws.specs.Terms.{Mem, only, each, any_of, Sorted, range}
use Rattle.laws.specs.Tests.{split, clash, or_out, or_in_left, or_in_right}

-- ---- membership

module _ {A : Type 0} where
  pub mem_left : (x : A) (l r : List A) → Mem x l → Mem x (l ++ r)
  mem_left x [] r m = absurd m
  mem_left x (y ∷ l) r (inl e) = inl e
  mem_left x (y ∷ l) r (inr m) = inr (mem_left x l r m)

  pub mem_right : (x : A) (l r : List A) → Mem x r → Mem x (l ++ r)
  mem_right x [] r m = m
  mem_right x (y ∷ l) r m = inr (mem_right x l r m)

  pub mem_append : (x : A) (l r : List A) → Mem x (l ++ r) → Mem x l ⊎ Mem x r
  mem_append x [] r m = inr m
  mem_append x (y ∷ l) r (inl e) = inl (inl e)
  mem_append x (y ∷ l) r (inr m) = go (mem_append x l r m)
    where
      go : Mem x l ⊎ Mem x r → Mem x (y ∷ l) ⊎ Mem x r
      go (inl a) = inl (inr a)
      go (inr b) = inr b

  pub mem_swap : (z x y : A) (r : List A) → Mem z (x ∷ y ∷ r) → Mem z (y ∷ x ∷ r)
  mem_swap z x y r (inl p) = inr (inl p)
  mem_swap z x y r (inr (inl q)) = inl q
  mem_swap z x y r (inr (inr m)) = inr (inr m)

  -- an entry that stands there by a test
  pub tested_out : (c : Bool) (x y : A) → Mem y (cond c (x ∷ []) []) → (c ≡ true) × (y ≡ x)
  tested_out false x y x3 = elim x3 [ ]
  tested_out true x y (inr x5) = elim x5 [ ]
  tested_out true x y (inl e) = (refl, e)

  pub tested_in : (c : Bool) (x : A) → c ≡ true → Mem x (cond c (x ∷ []) [])
  tested_in c x h = rw h (inl refl)

  -- a member cuts its list
  pub cut : (l : List A) (e : A) → Mem e l → (a : List A) × (b : List A) × (l ≡ a ++ (e ∷ b))
  cut [] e x' = elim x' [ ]
  cut (x ∷ l) e (inl p) = ([], l, rw p)
  cut (x ∷ l) e (inr m) = let (a, b, q) = cut l e m in (x ∷ a, b, ap (λ t. x ∷ t) q)

  only_go : (f : A → Bool) (x y : A) (l : List A) (c : Bool) → f y ≡ c → (Mem x (only f l) → (f x ≡ true) × Mem x l)
      → Mem x (cond c (y ∷ only f l) (only f l)) → (f x ≡ true) × Mem x (y ∷ l)
  only_go f x y l true h g (inl e) = (rw e h, inl e)
  only_go f x y l true h g (inr m) = ((g m).0, inr (g m).1)
  only_go f x y l false h g m = ((g m).0, inr (g m).1)

  pub only_out : (f : A → Bool) (l : List A) (x : A) → Mem x (only f l) → (f x ≡ true) × Mem x l
  only_out f [] x m = absurd m
  only_out f (y ∷ l) x m = only_go f x y l (f y) refl (only_out f l x) m

  only_put : (x y : A) (r : List A) (c : Bool) → Mem x r → Mem x (cond c (y ∷ r) r)
  only_put x y r true m = inr m
  only_put x y r false m = m

  pub only_in : (f : A → Bool) (l : List A) (x : A) → f x ≡ true → Mem x l → Mem x (only f l)
  only_in f [] x h x4 = elim x4 [ ]
  only_in f (y ∷ l) x h (inl e) = let k : f y ≡ true = sym (ap f e) ∙ h in rw k (inl e)
  only_in f (y ∷ l) x h (inr m) = only_put x y (only f l) (f y) (only_in f l x h m)

  pub only_append : (f : A → Bool) (l r : List A) → only f (l ++ r) ≡ only f l ++ only f r
  only_append f [] r = refl
  only_append f (x ∷ l) r = go (f x) (only_append f l r)
    where
      go : (c : Bool) → only f (l ++ r) ≡ only f l ++ only f r
          → cond c (x ∷ only f (l ++ r)) (only f (l ++ r)) ≡ cond c (x ∷ only f l) (only f l) ++ only f r
      go true h = ap (λ t. x ∷ t) h
      go false h = h

  pub any_of_out : (f : A → Bool) (l : List A) → any_of f l ≡ true → (x : A) × Mem x l × (f x ≡ true)
  any_of_out f [] h = clash h refl
  any_of_out f (y ∷ l) h =
      or_out (f y) _ h (λ k. (y, inl refl, k)) (λ k. let (x, m, e) = any_of_out f l k in (x, inr m, e))

  pub any_of_in : (f : A → Bool) (l : List A) (x : A) → Mem x l → f x ≡ true → any_of f l ≡ true
  any_of_in f [] x x4 h = elim x4 [ ]
  any_of_in f (y ∷ l) x (inl e) h = or_in_left _ (sym (ap f e) ∙ h)
  any_of_in f (y ∷ l) x (inr m) h = or_in_right (f y) (any_of_in f l x m h)

module _ {A B : Type 0} where
  pub each_out : (l : List A) (f : A → List B) (y : B) → Mem y (each l f) → (x : A) × Mem x l × Mem y (f x)
  each_out [] f y m = absurd m
  each_out (x ∷ l) f y m = go (each_out l f y) (mem_append y (f x) (each l f) m)
    where
      go : (Mem y (each l f) → (x : A) × Mem x l × Mem y (f x)) → Mem y (f x) ⊎ Mem y (each l f)
          → (z : A) × Mem z (x ∷ l) × Mem y (f z)
      go h (inl n) = (x, inl refl, n)
      go h (inr n) = let (z, k, q) = h n in (z, inr k, q)

  pub each_in : (l : List A) (f : A → List B) (x : A) (y : B) → Mem x l → Mem y (f x) → Mem y (each l f)
  each_in [] f x y x4 m = elim x4 [ ]
  each_in (z ∷ l) f x y (inl e) m = mem_left y (f z) (each l f) (rw e at m)
  each_in (z ∷ l) f x y (inr n) m = mem_right y (f z) (each l f) (each_in l f x y n m)

  pub map_out : (f : A → B) (l : List A) (y : B) → Mem y (map f l) → (x : A) × Mem x l × (y ≡ f x)
  map_out f [] y m = absurd m
  map_out f (x ∷ l) y (inl e) = (x, inl refl, e)
  map_out f (x ∷ l) y (inr m) = let (z, n, e) = map_out f l y m in (z, inr n, e)

  pub map_in : (f : A → B) (l : List A) (x : A) → Mem x l → Mem (f x) (map f l)
  map_in f [] x x3 = elim x3 [ ]
  map_in f (z ∷ l) x (inl e) = inl (ap f e)
  map_in f (z ∷ l) x (inr m) = inr (map_in f l x m)

-- ---- lists with a test

module _ {A : Type 0} where
  pub only_none : (l : List A) → only (λ x. false) l ≡ []
  only_none [] = refl
  only_none (x ∷ l) = only_none l

  -- two tests that agree on the list
  pub only_same : (f g : A → Bool) (l : List A) → ((x : A) → Mem x l → f x ≡ g x) → only f l ≡ only g l
  only_same f g [] h = refl
  only_same f g (x ∷ l) h = rw (h x (inl refl), only_same f g l (λ y m. h y (inr m)))

  -- the order of two tests does not matter
  pub only_swap : (f g : A → Bool) (l : List A) → only f (only g l) ≡ only g (only f l)
  only_swap f g [] = refl
  only_swap f g (x ∷ l) = go (f x) (g x) refl refl (only_swap f g l)
    where
      go : (a b : Bool) → f x ≡ a → g x ≡ b → only f (only g l) ≡ only g (only f l)
          → only f (cond b (x ∷ only g l) (only g l)) ≡ only g (cond a (x ∷ only f l) (only f l))
      go true true p q h = rw (p, q) (ap (λ t. x ∷ t) h)
      go true false p q h = rw q h
      go false true p q h = rw p h
      go false false p q h = h

module _ {A B : Type 0} where
  pub only_map : (f : B → Bool) (g : A → B) (l : List A) → only f (map g l) ≡ map g (only (λ x. f (g x)) l)
  only_map f g [] = refl
  only_map f g (x ∷ l) = go (f (g x)) (only_map f g l)
    where
      go : (c : Bool) → only f (map g l) ≡ map g (only (λ x. f (g x)) l)
          → cond c (g x ∷ only f (map g l)) (only f (map g l))
          ≡ map g (cond c (x ∷ only (λ x. f (g x)) l) (only (λ x. f (g x)) l))
      go true h = ap (λ t. g x ∷ t) h
      go false h = h

  pub map_same : (f g : A → B) (l : List A) → ((x : A) → Mem x l → f x ≡ g x) → map f l ≡ map g l
  map_same f g [] h = refl
  map_same f g (x ∷ l) h = rw (h x (inl refl), map_same f g l (λ y m. h y (inr m)))

  pub each_same : (l : List A) (f g : A → List B) → ((x : A) → Mem x l → f x ≡ g x) → each l f ≡ each l g
  each_same [] f g h = refl
  each_same (x ∷ l) f g h = rw (h x (inl refl), each_same l f g (λ y m. h y (inr m)))

  pub each_append : (l r : List A) (f : A → List B) → each (l ++ r) f ≡ each l f ++ each r f
  each_append [] r f = refl
  each_append (x ∷ l) r f = rw (each_append l r f) (sym (append_assoc (f x) (each l f) (each r f)))

-- ---- ranges

pub range_out : (a n x : ℕ) → Mem x (range a n) → (a ≤ x) × (x < a + n)
range_out a zero x x3 = elim x3 [ ]
range_out a (suc n) x (inl e) = (omega arith, omega arith)
range_out a (suc n) x (inr m) = let h = range_out (suc a) n x m in (omega arith, omega arith)

pub range_in : (a n x : ℕ) → a ≤ x → x < a + n → Mem x (range a n)
range_in a zero x h k = let z : ⊥ = omega arith in absurd z
range_in a (suc n) x h k = split (eqb x a) (λ e. inl (eqb-true x a e))
    (λ e. let d = eqb-false x a e in inr (range_in (suc a) n x (omega arith) (omega arith)))

-- ---- sorted lists

pub range_sorted : (a n : ℕ) → Sorted ltb (range a n)
range_sorted a zero = tt
range_sorted a (suc n) = (λ y m. lt-ltb a y (omega (arith, range_out (suc a) n y m)), range_sorted (suc a) n)

module _ {A : Type 0} (bf : A → A → Bool) where
  pub sorted_append : (l r : List A) → Sorted bf l → Sorted bf r → ((x y : A) → Mem x l → Mem y r → bf x y ≡ true)
      → Sorted bf (l ++ r)
  sorted_append [] r h g c = g
  sorted_append (x ∷ l) r h g c =
      (λ y m. up y (mem_append y l r m), sorted_append l r h.1 g (λ z y m n. c z y (inr m) n))
    where
      up : (y : A) → Mem y l ⊎ Mem y r → bf x y ≡ true
      up y (inl m) = h.0 y m
      up y (inr m) = c x y (inl refl) m

  pub sorted_at : (a b : List A) (x e : A) → Sorted bf (a ++ (e ∷ b)) → Mem x a → bf x e ≡ true
  sorted_at [] b x e h x4 = elim x4 [ ]
  sorted_at (y ∷ a) b x e h (inl p) = rw p (h.0 e (mem_right e a (e ∷ b) (inl refl)))
  sorted_at (y ∷ a) b x e h (inr m) = sorted_at a b x e h.1 m

  pub sorted_after : (a b : List A) (e x : A) → Sorted bf (a ++ (e ∷ b)) → Mem x b → bf e x ≡ true
  sorted_after [] b e x h m = h.0 x m
  sorted_after (y ∷ a) b e x h m = sorted_after a b e x h.1 m

  pub sorted_each : {I : Type 0} (lt : I → I → Bool) (l : List I) (f : I → List A) → Sorted lt l
      → ((i : I) → Mem i l → Sorted bf (f i))
      → ((i j : I) (x y : A) → lt i j ≡ true → Mem x (f i) → Mem y (f j) → bf x y ≡ true) → Sorted bf (each l f)
  sorted_each lt [] f s h c = tt
  sorted_each lt (i ∷ l) f s h c =
      sorted_append (f i) (each l f) (h i (inl refl)) (sorted_each lt l f s.1 (λ j m. h j (inr m)) c)
      (λ x y m n. let (j, k, q) = each_out l f y n in c i j x y (s.0 j k) m q)
