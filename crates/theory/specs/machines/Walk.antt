-- Theorem 2, for any machine read from a path's start, preference and costs: the recursion from block to block visits
-- exactly the beginnings that the machine allows, in order, with what it carries along (`walk_is`); counted against a
-- budget and with the first best kept, it gives their number and the best of the whole paths, or stops as soon as the
-- number exceeds the budget (`walk_from`, `walk_answer`). Rests on Machine and Route.
use Rattle.std.specs.Prelude.{◌≡◌, Bool, true, false, cond, eqb, ltb, length}
use Rattle.std.proofs.Math.Path.{refl, sym, ap}
use Rattle.std.proofs.Common.{ap₂, ◌∙◌, inl, inr, add-zero, zero-add, ltb-false, le-ltb, lt-ltb, ltb-true}
use mathlib.Core.List.{List, [], ◌∷◌, ◌++◌, map, map-append, map-map}
use Rattle.std.proofs.Math.Option.{Option, none, some}
use Prim.Native.Nat.{ℕ, zero, suc, ◌+◌, ◌≤◌, ◌<◌}
use native.Mathlib.Omega.{arith}
use Rattle.std.proofs.lemmas.List.{length-map}
use Rattle.laws.specs.Terms.{Mem, only}
use Rattle.laws.specs.Lists.{only_map}
use Rattle.laws.specs.Orders.{Preference, ntrans}
use Rattle.form.specs.Conflict.{Edge}
use Rattle.theory.specs.Route.{Path, choose, best}
use Rattle.theory.specs.machines.Machine.{Val, grow, Machine, Forward}

-- ---- what is visited

module _ {S : Type 0} (M : Machine S) where
  -- a block, and the beginning that ends in it with what it weighs, that block left by way 0
  abbrev pub arrive : ℕ → ℕ × Val
  arrive b = (b, (M.cost b 0, []))

  abbrev pub extend : ℕ → ℕ → ℕ × Val → ℕ × Val
  extend b way e = (e.0, grow (M.cost b way) (b, way) e.1)

  -- nothing where the step is not allowed
  abbrev pub if_allowed : {A : Type 0} → Option S → (S → List A) → List A
  if_allowed none f = []
  if_allowed (some s) f = f s

  -- by each of the ways os, where R t s are those from t in state s
  abbrev pub visit_by : (ℕ → S → List (ℕ × Val)) → ℕ → S → List (ℕ × ℕ) → List (ℕ × Val)
  visit_by R b s [] = []
  visit_by R b s (o ∷ os) = map (extend b o.0) (if_allowed (M.step (b, o.0) s) (R o.1)) ++ visit_by R b s os

  -- the allowed beginnings of at most n blocks from b in state s; that of b alone is first
  unfoldable pub visits : ℕ → ℕ → S → List (ℕ × Val)
  visits zero b s = []
  visits (suc n) b s = arrive b ∷ visit_by (λ t u. visits n t u) b s (M.outs b)

-- ---- the recursion

module _ {A : Type 0} where
  abbrev pub and_then : {B : Type 0} → Option A → (A → Option B) → Option B
  and_then none f = none
  and_then (some a) f = f a

  abbrev pub fold_m : {E : Type 0} → (A → E → Option A) → A → List E → Option A
  fold_m f a [] = some a
  fold_m f a (e ∷ l) = and_then (f a e) (λ b. fold_m f b l)

module _ {A : Type 0} where
  then_assoc : (o : Option A) (f g : A → Option A) → and_then (and_then o f) g ≡ and_then o (λ a. and_then (f a) g)
  then_assoc none f g = refl
  then_assoc (some a) f g = refl

  then_same : (o : Option A) (f g : A → Option A) → ((a : A) → f a ≡ g a) → and_then o f ≡ and_then o g
  then_same none f g h = refl
  then_same (some a) f g h = h a

  pub fold_m_append : {E : Type 0} (f : A → E → Option A) (a : A) (l r : List E)
      → fold_m f a (l ++ r) ≡ and_then (fold_m f a l) (λ b. fold_m f b r)
  fold_m_append f a [] r = refl
  fold_m_append f a (e ∷ l) r = then_same (f a e) _ _ (λ b. fold_m_append f b l r) ∙ sym (then_assoc (f a e) _ _)

-- what is carried along a path
module _ {C : Type 0} (advance : Edge → C → C) where
  abbrev pub carry : C → Path → C
  carry c [] = c
  carry c (x ∷ p) = carry (advance x c) p

  -- a visit, with what was carried to it
  abbrev pub carried : C → ℕ × Val → ℕ × C
  carried c e = (e.0, carry c e.1.1)

module _ {S : Type 0} (M : Machine S) {C : Type 0} (advance : Edge → C → C) {A : Type 0}
    (visit : A → ℕ × C → Option A) where
  abbrev pub if_step : Option S → (S → A → Option A) → A → Option A
  if_step none f a = some a
  if_step (some s) f a = f s a

  -- by each of the ways os, where W goes on
  abbrev pub branch : (ℕ → S → C → A → Option A) → ℕ → S → C → List (ℕ × ℕ) → A → Option A
  branch W b s c [] a = some a
  branch W b s c (o ∷ os) a =
      and_then (if_step (M.step (b, o.0) s) (λ u. W o.1 u (advance (b, o.0) c)) a) (λ d. branch W b s c os d)

  -- visit the block, then go on by its ways; stop where a visit stops
  unfoldable pub walk : ℕ → ℕ → S → C → A → Option A
  walk zero b s c a = some a
  walk (suc n) b s c a = and_then (visit a (b, c)) (λ d. branch (λ t u e. walk n t u e) b s c (M.outs b) d)

  if_step_lem : (o : Option S) (W : S → A → Option A) (R : S → List (ℕ × Val)) (h : ℕ × Val → ℕ × C)
      → ((u : S) (a : A) → W u a ≡ fold_m visit a (map h (R u))) → (a : A)
      → if_step o W a ≡ fold_m visit a (map h (if_allowed M o R))
  if_step_lem none W R h k a = refl
  if_step_lem (some s) W R h k a = k s a

  branch_is : (W : ℕ → S → C → A → Option A) (R : ℕ → S → List (ℕ × Val))
      → ((t : ℕ) (u : S) (c : C) (a : A) → W t u c a ≡ fold_m visit a (map (carried advance c) (R t u)))
      → (b : ℕ) (s : S) (c : C) (os : List (ℕ × ℕ)) (a : A)
      → branch W b s c os a ≡ fold_m visit a (map (carried advance c) (visit_by M R b s os))
  branch_is W R k b s c [] a = refl
  branch_is W R k b s c (o ∷ os) a =
      ap (λ x. and_then x (λ d. branch W b s c os d))
      (if_step_lem (M.step (b, o.0) s) _ (R o.1) (carried advance (advance (b, o.0) c))
      (λ u d. k o.1 u (advance (b, o.0) c) d) a
      ∙ ap (fold_m visit a) (sym (map-map (carried advance c) (extend M b o.0) l)))
      ∙ then_same (fold_m visit a (map (carried advance c) (map (extend M b o.0) l))) _ _ (branch_is W R k b s c os)
      ∙ sym (fold_m_append visit a (map (carried advance c) (map (extend M b o.0) l))
      (map (carried advance c) (visit_by M R b s os)))
      ∙ ap (fold_m visit a) (sym (map-append (carried advance c) (map (extend M b o.0) l) (visit_by M R b s os)))
    where
      l : List (ℕ × Val)
      l = if_allowed M (M.step (b, o.0) s) (R o.1)

  pub walk_is : (n b : ℕ) (s : S) (c : C) (a : A)
      → walk n b s c a ≡ fold_m visit a (map (carried advance c) (visits M n b s))
  unfolding walk visits
  walk_is zero b s c a = refl
  walk_is (suc n) b s c a =
      then_same (visit a (b, c)) _ _
      (λ d. branch_is (λ t u e. walk n t u e) (λ t u. visits M n t u) (λ t u e d. walk_is n t u e d) b s c
      (M.outs b) d)

-- ---- enough blocks are enough

module _ {S : Type 0} (M : Machine S) where
  if_same : {A : Type 0} (o : Option S) (f g : S → List A) → ((u : S) → f u ≡ g u) → if_allowed M o f ≡ if_allowed M o g
  if_same none f g h = refl
  if_same (some u) f g h = h u

  by_same : (R Q : ℕ → S → List (ℕ × Val)) (b : ℕ) (s : S) (os : List (ℕ × ℕ))
      → ((o : ℕ × ℕ) → Mem o os → (u : S) → R o.1 u ≡ Q o.1 u) → visit_by M R b s os ≡ visit_by M Q b s os
  by_same R Q b s [] h = refl
  by_same R Q b s (o ∷ os) h =
      ap₂ (λ l r. map (extend M b o.0) l ++ r) (if_same (M.step (b, o.0) s) (R o.1) (Q o.1) (h o (inl refl)))
      (by_same R Q b s os (λ q m. h q (inr m)))

  visits_enough : Forward M → (f g b : ℕ) (s : S) → b < M.count → M.count ≤ f + b → M.count ≤ g + b
      → visits M f b s ≡ visits M g b s
  unfolding visits
  visits_enough w zero g b s h p q = let z : ⊥ = omega arith in absurd z
  visits_enough w (suc f) zero b s h p q = let z : ⊥ = omega arith in absurd z
  visits_enough w (suc f) (suc g) b s h p q =
      ap (λ t. arrive M b ∷ t) (by_same (λ t u. visits M f t u) (λ t u. visits M g t u) b s (M.outs b)
      (λ o m u. visits_enough w f g o.1 u (w.inside b o m) (omega (arith, w.on b o m))
      (omega (arith, w.on b o m))))

  -- one turn of the recursion, with no bound on the blocks
  pub walk_eq : Forward M
      → {C A : Type 0} (advance : Edge → C → C) (visit : A → ℕ × C → Option A) (b : ℕ) (s : S) (c : C) (a : A)
      → b < M.count
      → walk M advance visit M.count b s c a
      ≡ and_then (visit a (b, c))
      (λ d. branch M advance visit (λ t u e. walk M advance visit M.count t u e) b s c (M.outs b) d)
  unfolding walk
  walk_eq w advance visit b s c a h =
      walk_is M advance visit M.count b s c a
      ∙ ap (λ l. fold_m visit a (map (carried advance c) l))
      (visits_enough w M.count (suc M.count) b s h (omega arith) (omega arith))
      ∙ sym (walk_is M advance visit (suc M.count) b s c a)

-- ---- counted against a budget, the first best kept

-- over the budget, or the count and what is kept
abbrev pub within : {B : Type 0} → ℕ → ℕ → Option B → Option (ℕ × Option B)
within budget k o = cond (ltb budget k) none (some (k, o))

-- the visits to the last block
abbrev pub whole : {C : Type 0} → ℕ → List (ℕ × C) → List (ℕ × C)
whole count l = only (λ e. eqb (suc e.0) count) l

module _ (prefers : ℕ → ℕ → Bool) {X : Type 0} where
  -- a later one is kept only where it is preferred
  abbrev pub keep_first : Option (ℕ × X) → ℕ × X → Option (ℕ × X)
  keep_first none v = some v
  keep_first (some u) v = some (cond (prefers v.0 u.0) v u)

  abbrev pub keep_all : Option (ℕ × X) → List (ℕ × X) → Option (ℕ × X)
  keep_all o [] = o
  keep_all o (v ∷ l) = keep_all (keep_first o v) l

  -- the tests: the count exceeds the budget, the block is the last
  abbrev pub tally_by : Bool → Bool → ℕ × Option (ℕ × X) → ℕ × X → Option (ℕ × Option (ℕ × X))
  tally_by true last a v = none
  tally_by false true a v = some (suc a.0, keep_first a.1 v)
  tally_by false false a v = some (suc a.0, a.1)

  -- the first kept is the best
  module _ (ch : Preference prefers) where
    either : (x y z : ℕ × X) (a b c : Bool) → prefers y.0 x.0 ≡ a → prefers z.0 y.0 ≡ b
        → prefers z.0 x.0 ≡ c
        → cond (prefers z.0 (cond a y x).0) z (cond a y x) ≡ cond (prefers (cond b z y).0 x.0) (cond b z y) x
    either x y z true true c p q r = rw (q, ch.order.trans z.0 y.0 x.0 q p)
    either x y z true false c p q r = rw (q, p)
    either x y z false true c p q r = rw r
    either x y z false false c p q r = rw (p, ntrans ch.order z.0 y.0 x.0 q p)

    choose_assoc : (x y : ℕ × X) (o : Option (ℕ × X))
        → choose prefers (cond (prefers y.0 x.0) y x) o ≡ choose prefers x (choose prefers y o)
    choose_assoc x y none = refl
    choose_assoc x y (some z) = ap {B = Option (ℕ × X)} some (either x y z _ _ _ refl refl refl)

    keep_some : (l : List (ℕ × X)) (u : ℕ × X) → keep_all (some u) l ≡ choose prefers u (best prefers l)
    unfolding best
    keep_some [] u = refl
    keep_some (v ∷ l) u = keep_some l (cond (prefers v.0 u.0) v u) ∙ choose_assoc u v (best prefers l)

    pub keep_best_lem : (l : List (ℕ × X)) → keep_all none l ≡ best prefers l
    unfolding best
    keep_best_lem [] = refl
    keep_best_lem (v ∷ l) = keep_some l v

-- what is made of what was carried to the last block
module _ (prefers : ℕ → ℕ → Bool) {C X : Type 0} (finish : ℕ × C → ℕ × X) (count budget : ℕ) where
  abbrev pub tally : ℕ × Option (ℕ × X) → ℕ × C → Option (ℕ × Option (ℕ × X))
  tally a e = tally_by prefers (ltb budget (suc a.0)) (eqb (suc e.0) count) a (finish e)

  within_same : (j k : ℕ) (o : Option (ℕ × X)) → j ≡ k → within budget j o ≡ within budget k o
  within_same j k o e = ap (λ i. within budget i o) e

  over : (k n : ℕ) (o : Option (ℕ × X)) → budget < k → within budget (k + n) o ≡ none
  over k n o h = rw (lt-ltb budget (k + n) (omega arith))

  abbrev ends : ℕ × C → Bool
  ends e = eqb (suc e.0) count

  tally_cons : (a : ℕ × Option (ℕ × X)) (e : ℕ × C) (l : List (ℕ × C)) (x y : Bool) → ltb budget (suc a.0) ≡ x
      → ((c : ℕ × Option (ℕ × X)) → c.0 ≤ budget
      → fold_m tally c l ≡ within budget (c.0 + length l) (keep_all prefers c.1 (map finish (whole count l))))
      → and_then (tally_by prefers x y a (finish e)) (λ c. fold_m tally c l)
      ≡ within budget (a.0 + suc (length l))
      (keep_all prefers a.1 (map finish (cond y (e ∷ only ends l) (only ends l))))
  tally_cons a e l true y p h =
      sym (within_same (a.0 + suc (length l)) (suc a.0 + length l) _ (omega arith) ∙ over (suc a.0) (length l) _
      (ltb-true budget (suc a.0) p))
  tally_cons a e l false true p h =
      h (suc a.0, keep_first prefers a.1 (finish e)) (ltb-false budget (suc a.0) p)
      ∙ within_same (suc a.0 + length l) (a.0 + suc (length l)) _ (omega arith)
  tally_cons a e l false false p h =
      h (suc a.0, a.1) (ltb-false budget (suc a.0) p)
      ∙ within_same (suc a.0 + length l) (a.0 + suc (length l)) _ (omega arith)

  tally_is : (l : List (ℕ × C)) (a : ℕ × Option (ℕ × X)) → a.0 ≤ budget
      → fold_m tally a l ≡ within budget (a.0 + length l) (keep_all prefers a.1 (map finish (whole count l)))
  tally_is [] a h = rw (add-zero a.0, le-ltb budget a.0 h)
  tally_is (e ∷ l) a h = tally_cons a e l _ _ refl (λ c k. tally_is l c k)

-- ---- the answer

-- what the whole paths give
abbrev pub given : {C X : Type 0} → (Edge → C → C) → (ℕ × C → ℕ × X) → ℕ → C → List (ℕ × Val) → List (ℕ × X)
given advance finish count c l = map (λ e. finish (carried advance c e)) (whole count l)

module _ {S : Type 0} (M : Machine S) (prefers : ℕ → ℕ → Bool) {C X : Type 0} (advance : Edge → C → C)
    (finish : ℕ × C → ℕ × X) (budget : ℕ) where
  whole_carried : (c : C) (l : List (ℕ × Val))
      → whole M.count (map (carried advance c) l) ≡ map (carried advance c) (whole M.count l)
  whole_carried c l = only_map (λ (e : ℕ × C). eqb (suc e.0) M.count) (carried advance c) l

  -- the recursion from any block, state, count and kept so far
  pub walk_from_lem : (n b : ℕ) (s : S) (c : C) (k : ℕ) (o : Option (ℕ × X)) → k ≤ budget
      → walk M advance (tally prefers finish M.count budget) n b s c (k, o)
      ≡ within budget (k + length (visits M n b s))
      (keep_all prefers o (given advance finish M.count c (visits M n b s)))
  walk_from_lem n b s c k o h =
      walk_is M advance (tally prefers finish M.count budget) n b s c (k, o)
      ∙ tally_is prefers finish M.count budget (map (carried advance c) (visits M n b s)) (k, o) h
      ∙ rw (
        length-map,
        whole_carried c (visits M n b s),
        map-map finish (carried advance c)
            (whole M.count (visits M n b s)),
      )

  -- over the budget, or the number of visits and the best of the whole paths
  pub walk_answer : Preference prefers → (n b : ℕ) (s : S) (c : C)
      → walk M advance (tally prefers finish M.count budget) n b s c (0, none)
      ≡ within budget (length (visits M n b s)) (best prefers (given advance finish M.count c (visits M n b s)))
  walk_answer ch n b s c =
      walk_from_lem n b s c 0 none (omega arith)
      ∙ rw (
        zero-add (length (visits M n b s)),
        keep_best_lem prefers ch
            (given advance finish M.count c (visits M n b s)),
      )
