-- The conflict list holds exactly the pairs that document 01 says (`conflicts_hold`), in the stated order
-- (`conflicts_ascend`); the test of a clean path says exactly that there is one (`clean_says`). Rests on form's
-- Conflict, Conditions, Endings and the laws' Lists.
use Rattle.std.specs.Prelude.{◌≡◌, ◌↔◌, ◌⊎◌, Bool, false, ◌||◌, ◌&&◌, eqb}
use Rattle.std.proofs.Math.Path.{refl, subst}
use Rattle.std.proofs.Common.{sym, ap, ◌∙◌, arith, eqb-true, eq-eqb}
use Rattle.std.proofs.Math.Logic.{inl, inr}
use Rattle.std.proofs.Math.Bool.{true, not, cond}
use mathlib.Core.List.{List, [], ◌∷◌}
use Prim.Native.Nat.{ℕ, zero, suc, ◌+◌, ◌≤◌, ◌<◌}
use Rattle.std.proofs.Math.Dec.{ltb}
use Rattle.laws.specs.Terms.{Mem, each, any_of, range, Sorted, next}
use Rattle.laws.specs.Tests.{clash, and_out, and_in, or_out, or_in_left, or_in_right, not_out}
use Rattle.laws.specs.Orders.{ltb_order, next_first, next_same}
use Rattle.laws.specs.Lists.{mem_left, mem_right, mem_append, each_out, each_in, any_of_out, any_of_in, range_in}
use Rattle.laws.specs.Lists.{range_sorted, sorted_append, sorted_each, tested_out, tested_in}
use Rattle.form.specs.declared.Body.{Body}
use Rattle.form.specs.Conflict.{Edge, block, exits, is_test, condition, touches, opposes, denies, contradict}
use Rattle.form.specs.Conflict.{Onward, Clean, clean, leads, Pair, second_of, assigned, crossed, assignment_pair}
use Rattle.form.specs.Conflict.{edge_pair, pairs_of, conflicts, Assigned, Crossed, Holds, ascends}
use Rattle.form.specs.Conflict.Clean.{here, onward}
use Rattle.lower_laws.specs.Conditions.{contradict_says}
use Rattle.lower_laws.specs.Endings.{by_exits}

-- ---- clean paths

module _ (body : Body) (w : Onward body) (v : ℕ) where
  pub clean_up : (b s : ℕ) → Clean body v b s → b ≤ s
  clean_up b s (here h) = omega arith
  clean_up b s (onward o h m c) = omega (arith, w.above b o m, clean_up o.1 s c)

  pub clean_out : (n b s : ℕ) → clean body v n b s ≡ true → Clean body v b s
  unfolding clean
  clean_out zero b s h = clash h refl
  clean_out (suc n) b s h =
      let (k, r) = and_out (not (touches body b v)) _ h in
      or_out (eqb b s) _ r
      (λ e. subst (Clean body v b) (eqb-true b s e) (here (not_out (touches body b v) k)))
      (λ a. let (o, m, c) = any_of_out (λ (o : ℕ × ℕ). clean body v n o.1 s) (exits body b) a in onward o
      (not_out (touches body b v) k) m (clean_out n o.1 s c))

  clean_in : (n b s : ℕ) → Clean body v b s → s < n + b → clean body v n b s ≡ true
  unfolding clean
  clean_in zero b s c h = let z : ⊥ = omega (arith, clean_up b s c) in absurd z
  clean_in (suc n) b s (here k) h = and_in (ap not k) (or_in_left _ (eq-eqb b b refl))
  clean_in (suc n) b s (onward o k m c) h =
      and_in (ap not k) (or_in_right (eqb b s)
      (any_of_in (λ (o : ℕ × ℕ). clean body v n o.1 s) (exits body b) o m
      (clean_in n o.1 s c (omega (arith, w.above b o m)))))

  -- paths of as many blocks as there are are all
  pub clean_says : (b s : ℕ) → s < body.count → (clean body v body.count b s ≡ true) ↔ Clean body v b s
  clean_says b s h = (clean_out body.count b s, λ c. clean_in body.count b s c (omega arith))

-- ---- what the list holds

module _ (body : Body) (w : Onward body) where
  inside : (b : ℕ) (o : ℕ × ℕ) → Mem o (exits body b) → b < body.count
  inside b o m = omega (arith, w.above b o m, w.inside b o m)

  module _ (e : Edge) (real : e.0 < body.count) where
    abbrev v : ℕ
    v = (condition body e).variable

    pub assigned_says : (b : ℕ) → (assigned body b e ≡ true) ↔ Assigned body b e
    unfolding assigned
    assigned_says b = (out, into)
      where
        out : (denies body b e && (eqb b e.0 || any_of (λ o. leads body o e) (exits body b))) ≡ true
            → Assigned body b e
        out h =
            let (d, r) = and_out (denies body b e) _ h in (
              d,
              or_out (eqb b e.0) _ r (λ q. inl (eqb-true b e.0 q))
                  (λ a. let (o, m, c) = any_of_out (λ (o : ℕ × ℕ). leads body o e) (exits body b) a in inr
                  (o, m, (clean_says body w v o.1 e.0 real).0 c)),
            )

        joined : ((b ≡ e.0) ⊎ ((o : ℕ × ℕ) × Mem o (exits body b) × Clean body v o.1 e.0))
            → (eqb b e.0 || any_of (λ o. leads body o e) (exits body b)) ≡ true
        joined (inl q) = or_in_left _ (eq-eqb b e.0 q)
        joined (inr (o, m, c)) = or_in_right (eqb b e.0)
            (any_of_in (λ (o : ℕ × ℕ). leads body o e) (exits body b) o m
            ((clean_says body w v o.1 e.0 real).1 c))

        into : Assigned body b e → (denies body b e && (eqb b e.0 || any_of (λ o. leads body o e) (exits body b)))
            ≡ true
        into h = and_in h.0 (joined h.1)

    pub crossed_out : (b : ℕ) (o : ℕ × ℕ) → Mem o (exits body b) → crossed body b o e ≡ true → Crossed body (b, o.0) e
    unfolding crossed opposes
    crossed_out b o m h =
        let (p, c) = and_out (is_test body b && is_test body e.0 && contradict (condition body (b, o.0))
        (condition body e)) _ h in
        let (t, k) = and_out (is_test body b && is_test body e.0) _ p in
        let (x, y) = and_out (is_test body b) _ t in (
          x,
          y,
          (contradict_says (condition body (b, o.0)) (condition body e)).0 k,
          (o.1, m, (clean_says body w v o.1 e.0 real).0 c),
        )

    pub crossed_in : (b way : ℕ) (h : Crossed body (b, way) e) → crossed body b (way, h.3.0) e ≡ true
    unfolding crossed opposes
    crossed_in b way (x, y, k, (t, m, c)) =
        and_in (and_in (and_in x y) ((contradict_says (condition body (b, way)) (condition body e)).1 k))
        ((clean_says body w v t e.0 real).1 c)

  abbrev assignments : Edge → ℕ → List Pair
  assignments e b = cond (assigned body b e) (assignment_pair body e b ∷ []) []

  abbrev edges : Edge → ℕ → List Pair
  edges e b = each (exits body b) (λ o. cond (crossed body b o e) (edge_pair e b o ∷ []) [])

  abbrev Held : Edge → Pair → Type 0
  Held e p = ((b : ℕ) × Assigned body b e × (p ≡ assignment_pair body e b)) ⊎
      ((b : ℕ) × (o : ℕ × ℕ) × Mem o (exits body b) × Crossed body (b, o.0) e × (p ≡ edge_pair e b o))

  pairs_out : (e : Edge) → e.0 < body.count → (p : Pair) → Mem p (pairs_of body e) → Held e p
  unfolding pairs_of
  pairs_out e real p m = go (mem_append p (each (range 0 body.count) (assignments e))
      (each (range 0 body.count) (edges e)) m)
    where
      go : Mem p (each (range 0 body.count) (assignments e)) ⊎ Mem p (each (range 0 body.count) (edges e))
          → Held e p
      go (inl n) =
          let (b, i, k) = each_out (range 0 body.count) (assignments e) p n in
          let (h, q) = tested_out (assigned body b e) (assignment_pair body e b) p k in
          inl (b, (assigned_says e real b).0 h, q)
      go (inr n) =
          let (b, i, k) = each_out (range 0 body.count) (edges e) p n in
          let (o, j, l) = each_out (exits body b) (λ o. cond (crossed body b o e) (edge_pair e b o ∷ []) []) p k in
          let (h, q) = tested_out (crossed body b o e) (edge_pair e b o) p l in
          inr (b, o, j, crossed_out e real b o j h, q)

  assignment_in : (e : Edge) → e.0 < body.count → (b : ℕ) → b < body.count → Assigned body b e
      → Mem (assignment_pair body e b) (pairs_of body e)
  unfolding pairs_of
  assignment_in e real b h a =
      mem_left _ (each (range 0 body.count) (assignments e)) (each (range 0 body.count) (edges e))
      (each_in (range 0 body.count) (assignments e) b _ (range_in 0 body.count b (omega arith) (omega arith))
      (tested_in (assigned body b e) (assignment_pair body e b) ((assigned_says e real b).1 a)))

  edge_in : (e : Edge) → e.0 < body.count → (b way : ℕ) → (c : Crossed body (b, way) e)
      → Mem (edge_pair e b (way, c.3.0)) (pairs_of body e)
  unfolding pairs_of
  edge_in e real b way c =
      let o : ℕ × ℕ = (way, c.3.0) in
      mem_right _ (each (range 0 body.count) (assignments e)) (each (range 0 body.count) (edges e))
      (each_in (range 0 body.count) (edges e) b _
      (range_in 0 body.count b (omega arith) (omega (arith, inside b o c.3.1)))
      (each_in (exits body b) (λ o. cond (crossed body b o e) (edge_pair e b o ∷ []) []) o _ c.3.1
      (tested_in (crossed body b o e) (edge_pair e b o) (crossed_in e real b way c))))

  assigned_inside : (b : ℕ) (e : Edge) → e.0 < body.count → Assigned body b e → b < body.count
  assigned_inside b e real a = go a.1
    where
      go : (b ≡ e.0) ⊎ ((o : ℕ × ℕ) × Mem o (exits body b) × Clean body (condition body e).variable o.1 e.0)
          → b < body.count
      go (inl q) = omega arith
      go (inr (o, m, c)) = inside b o m

  held_holds : (e : Edge) (t : ℕ) → Mem (e.1, t) (exits body e.0) → (p : Pair) → Held e p → Holds body p
  held_holds e t m p (inl (b, a, q)) = subst (Holds body) (sym q) ((t, m), inl (refl, refl, a))
  held_holds e t m p (inr (b, o, n, c, q)) = subst (Holds body) (sym q) ((t, m), inr (refl, c))

  into : (p : Pair) (t : ℕ) → Mem (p.outcome, t) (exits body p.second) → Mem p (pairs_of body (second_of p))
      → Mem p (conflicts body)
  unfolding conflicts
  into p t m k =
      each_in (range 0 body.count) (λ s. each (exits body s) (λ o. pairs_of body (s, o.0))) p.second p
      (range_in 0 body.count p.second (omega arith) (omega (arith, inside p.second (p.outcome, t) m)))
      (each_in (exits body p.second) (λ o. pairs_of body (p.second, o.0)) (p.outcome, t) p m k)

  pub conflicts_hold : (p : Pair) → Mem p (conflicts body) ↔ Holds body p
  unfolding conflicts
  conflicts_hold p = (out, λ h. back h.0 h.1)
    where
      out : Mem p (each (range 0 body.count) (λ s. each (exits body s) (λ o. pairs_of body (s, o.0)))) → Holds body p
      out m =
          let (s, i, k) = each_out (range 0 body.count)
          (λ s. each (exits body s) (λ o. pairs_of body (s, o.0))) p m in
          let (o, n, l) = each_out (exits body s) (λ o. pairs_of body (s, o.0)) p k in
          held_holds (s, o.0) o.1 n p (pairs_out (s, o.0) (inside s o n) p l)

      back : ((t : ℕ) × Mem (p.outcome, t) (exits body p.second))
          → ((p.kind ≡ 1) × (p.third ≡ (condition body (second_of p)).variable)
          × Assigned body p.first (second_of p)) ⊎ ((p.kind ≡ 2) × Crossed body (p.first, p.third) (second_of p))
          → Mem p (conflicts body)
      back (t, m) (inl (k, v, a)) =
          let real : p.second < body.count = inside p.second (p.outcome, t) m in
          let same : assignment_pair body (second_of p) p.first
          ≡ p =
          λ i. record {
            kind = sym k i;
            first = p.first;
            third = sym v i;
            second = p.second;
            outcome = p.outcome;
          } in
          into p t m (subst (λ (q : Pair). Mem q (pairs_of body (second_of p))) same
          (assignment_in (second_of p) real p.first (assigned_inside p.first (second_of p) real a) a))
      back (t, m) (inr (k, c)) =
          let real : p.second < body.count = inside p.second (p.outcome, t) m in
          let same : edge_pair (second_of p) p.first (p.third, c.3.0)
          ≡ p =
          λ i. record {
            kind = sym k i;
            first = p.first;
            third = p.third;
            second = p.second;
            outcome = p.outcome;
          } in
          into p t m (subst (λ (q : Pair). Mem q (pairs_of body (second_of p))) same
          (edge_in (second_of p) real p.first p.third c))

-- ---- the order

pub exits_ordered : (body : Body) (b : ℕ) → Sorted (λ o q. ltb o.0 q.0) (exits body b)
unfolding exits
exits_ordered body b =
    let fall = (block body b).fall in
    by_exits (block body b).jump fall (Sorted (λ o q. ltb o.0 q.0)) tt (λ y m. absurd m, tt)
    (only_two fall, (λ y m. absurd m, tt)) (block body b).ending
  where
    only_two : (fall : ℕ) (y : ℕ × ℕ) → Mem y ((2, fall) ∷ []) → ltb 1 y.0 ≡ true
    only_two fall y (inr x') = elim x' [ ]
    only_two fall y (inl e) = rw e

less : (a b : ℕ) (rest : Bool) → ltb a b ≡ true → next (ltb a b) (ltb b a) rest ≡ true
less a b rest h = next_first ltb_order a b rest h

level : (a b : ℕ) (rest : Bool) → a ≡ b → rest ≡ true → next (ltb a b) (ltb b a) rest ≡ true
level a b rest e h = rw e (next_same ltb_order b rest ∙ h)

module _ (body : Body) where
  -- what an entry by a test is
  assignment_is : (e : Edge) (b : ℕ) (p : Pair) → Mem p (cond (assigned body b e) (assignment_pair body e b ∷ []) [])
      → p ≡ assignment_pair body e b
  assignment_is e b p m = by (assigned body b e) m
    where
      by : (c : Bool) → Mem p (cond c (assignment_pair body e b ∷ []) []) → p ≡ assignment_pair body e b
      by false x' = elim x' [ ]
      by true (inr x3) = elim x3 [ ]
      by true (inl q) = q

  edge_is : (e : Edge) (b : ℕ) (o : ℕ × ℕ) (p : Pair) → Mem p (cond (crossed body b o e) (edge_pair e b o ∷ []) [])
      → p ≡ edge_pair e b o
  edge_is e b o p m = by (crossed body b o e) m
    where
      by : (c : Bool) → Mem p (cond c (edge_pair e b o ∷ []) []) → p ≡ edge_pair e b o
      by false x' = elim x' [ ]
      by true (inr x3) = elim x3 [ ]
      by true (inl q) = q

  alone : (c : Bool) (p : Pair) → Sorted ascends (cond c (p ∷ []) [])
  alone true p = (λ q m. absurd m, tt)
  alone false p = tt

  -- the entries of e: those of one first block, of one kind, all
  abbrev Of : Edge → ℕ → ℕ → Pair → Type 0
  Of e kind b p = (p.second ≡ e.0) × (p.outcome ≡ e.1) × (p.kind ≡ kind) × (p.first ≡ b)

  assignment_of : (e : Edge) (b : ℕ) (p : Pair) → Mem p (cond (assigned body b e) (assignment_pair body e b ∷ []) [])
      → Of e 1 b p
  assignment_of e b p m = let q = assignment_is e b p m in (
    ap (λ (p : Pair). p.second) q,
    ap (λ (p : Pair). p.outcome) q,
    ap (λ (p : Pair). p.kind) q,
    ap
        (λ (p : Pair). p.first) q,
  )

  edge_of : (e : Edge) (b : ℕ) (p : Pair)
      → Mem p (each (exits body b) (λ o. cond (crossed body b o e) (edge_pair e b o ∷ []) [])) → Of e 2 b p
  edge_of e b p m =
      let (o, i, k) = each_out (exits body b) (λ o. cond (crossed body b o e) (edge_pair e b o ∷ []) []) p m in
      let q = edge_is e b o p k in (
        ap (λ (p : Pair). p.second) q,
        ap (λ (p : Pair). p.outcome) q,
        ap (λ (p : Pair). p.kind) q,
        ap
            (λ (p : Pair). p.first) q,
      )

  by_first : (e : Edge) (kind b c : ℕ) (p q : Pair) → ltb b c ≡ true → Of e kind b p → Of e kind c q
      → ascends p q ≡ true
  by_first e kind b c p q h (s, o, k, f) (s', o', k', f') =
      level p.second q.second _ (s ∙ sym s')
      (level p.outcome q.outcome _ (o ∙ sym o') (level p.kind q.kind _ (k ∙ sym k')
      (less p.first q.first _ (rw (f, f') h))))

  by_kind : (e : Edge) (b c : ℕ) (p q : Pair) → Of e 1 b p → Of e 2 c q → ascends p q ≡ true
  by_kind e b c p q (s, o, k, f) (s', o', k', f') =
      level p.second q.second _ (s ∙ sym s')
      (level p.outcome q.outcome _ (o ∙ sym o') (less p.kind q.kind _ (rw (k, k') refl)))

  by_third : (e : Edge) (b : ℕ) (o o' : ℕ × ℕ) (p q : Pair) → ltb o.0 o'.0 ≡ true → p ≡ edge_pair e b o
      → q ≡ edge_pair e b o' → ascends p q ≡ true
  by_third e b o o' p q h x y =
      rw (x, y) (level e.0 e.0 _ refl (level e.1 e.1 _ refl (level 2 2 _ refl (level b b _ refl h))))

  edges_ascend : (e : Edge) (b : ℕ)
      → Sorted ascends (each (exits body b) (λ o. cond (crossed body b o e) (edge_pair e b o ∷ []) []))
  edges_ascend e b = sorted_each ascends (λ o q. ltb o.0 q.0) (exits body b)
      (λ o. cond (crossed body b o e) (edge_pair e b o ∷ []) []) (exits_ordered body b)
      (λ o m. alone (crossed body b o e) (edge_pair e b o))
      (λ o o' p q h m n. by_third e b o o' p q h (edge_is e b o p m) (edge_is e b o' q n))

  pairs_ascend : (e : Edge) → Sorted ascends (pairs_of body e)
  unfolding pairs_of
  pairs_ascend e = sorted_append ascends (each all (λ b. cond (assigned body b e) (assignment_pair body e b ∷ []) []))
      (each all (λ b. each (exits body b) (λ o. cond (crossed body b o e) (edge_pair e b o ∷ []) [])))
      (sorted_each ascends ltb all _ (range_sorted 0 body.count)
      (λ b m. alone (assigned body b e) (assignment_pair body e b))
      (λ b c p q h m n. by_first e 1 b c p q h (assignment_of e b p m) (assignment_of e c q n)))
      (sorted_each ascends ltb all _ (range_sorted 0 body.count) (λ b m. edges_ascend e b)
      (λ b c p q h m n. by_first e 2 b c p q h (edge_of e b p m) (edge_of e c q n)))
      (λ p q m n.
      let (b, i, k) = each_out all (λ b. cond (assigned body b e) (assignment_pair body e b ∷ []) []) p m in
      let (c, j, l) = each_out all (λ b. each (exits body b)
      (λ o. cond (crossed body b o e) (edge_pair e b o ∷ []) [])) q n in
      by_kind e b c p q (assignment_of e b p k) (edge_of e c q l))
    where
      all : List ℕ
      all = range 0 body.count

  -- the second of every pair of e is e
  second_is : (e : Edge) (p : Pair) → Mem p (pairs_of body e) → (p.second ≡ e.0) × (p.outcome ≡ e.1)
  unfolding pairs_of
  second_is e p m = go (mem_append p
      (each (range 0 body.count) (λ b. cond (assigned body b e) (assignment_pair body e b ∷ []) [])) _ m)
    where
      go : Mem p (each (range 0 body.count) (λ b. cond (assigned body b e) (assignment_pair body e b ∷ []) []))
          ⊎ Mem p (each (range 0 body.count)
          (λ b. each (exits body b) (λ o. cond (crossed body b o e) (edge_pair e b o ∷ []) [])))
          → (p.second ≡ e.0) × (p.outcome ≡ e.1)
      go (inl n) = let (b, i, k) = each_out (range 0 body.count)
          (λ b. cond (assigned body b e) (assignment_pair body e b ∷ []) []) p n in let q = assignment_of e b p k in
          (q.0, q.1)
      go (inr n) = let (b, i, k) = each_out (range 0 body.count)
          (λ b. each (exits body b) (λ o. cond (crossed body b o e)
          (edge_pair e b o ∷ []) [])) p n in let q = edge_of e b p k in (q.0, q.1)

  by_outcome : (s : ℕ) (o o' : ℕ × ℕ) (p q : Pair) → ltb o.0 o'.0 ≡ true → Mem p (pairs_of body (s, o.0))
      → Mem q (pairs_of body (s, o'.0)) → ascends p q ≡ true
  by_outcome s o o' p q h m n =
      let (x, y) = second_is (s, o.0) p m in
      let (x', y') = second_is (s, o'.0) q n in
      level p.second q.second _ (x ∙ sym x') (less p.outcome q.outcome _ (rw (y, y') h))

  by_second : (s s' : ℕ) (p q : Pair) → ltb s s' ≡ true → Mem p (each (exits body s) (λ o. pairs_of body (s, o.0)))
      → Mem q (each (exits body s') (λ o. pairs_of body (s', o.0))) → ascends p q ≡ true
  by_second s s' p q h m n =
      let (o, i, k) = each_out (exits body s) (λ o. pairs_of body (s, o.0)) p m in
      let (o', j, l) = each_out (exits body s') (λ o. pairs_of body (s', o.0)) q n in
      less p.second q.second _ (rw ((second_is (s, o.0) p k).0, (second_is (s', o'.0) q l).0) h)

  pub conflicts_ascend : Sorted ascends (conflicts body)
  unfolding conflicts
  conflicts_ascend = sorted_each ascends ltb (range 0 body.count)
      (λ s. each (exits body s) (λ o. pairs_of body (s, o.0))) (range_sorted 0 body.count)
      (λ s m. sorted_each ascends (λ o q. ltb o.0 q.0) (exits body s) (λ o. pairs_of body (s, o.0))
      (exits_ordered body s) (λ o n. pairs_ascend (s, o.0)) (by_outcome s))
      by_second
