-- Edges and what the list says of them: which edges there are, that only tests' edges are in conflict, and how clean
-- paths and `listed` can be computed with no fuel and no list: a clean path by the exits of its first block
-- (`clean_step`), what is listed below b by the blocks below b (`listed_is`). Rests on ConflictList.
use Rattle.std.specs.Prelude.{◌≡◌, refl, ◌⊎◌, Bool, true, not, ◌||◌, ◌&&◌, List, [], ◌∷◌, eqb, ltb}
use Rattle.std.proofs.Common.{ap, subst, inr, eqb-true, ltb-true, lt-ltb}
use Rattle.std.proofs.Math.Logic.{inl}
use Prim.Native.Nat.{ℕ, ◌<◌}
use Rattle.laws.specs.Terms.{Mem, any, any_of}
use Rattle.laws.specs.Tests.{both, and_out, and_in, or_out, or_in_left, or_in_right, not_out, any_in, any_out, eqb_same}
use Rattle.laws.specs.Lists.{any_of_out, any_of_in}
use Rattle.form.specs.declared.Body.{Body}
use Rattle.form.specs.Conflict.{Edge, block, exits_by, exits, is_test, condition, touches, contradict, opposes, denies}
use Rattle.form.specs.Conflict.{Onward, Clean, clean, Pair, second_of, same, listed, assigned, crossed, assignment_pair}
use Rattle.form.specs.Conflict.{edge_pair, conflicts, Assigned, Crossed, Holds}
use Rattle.form.specs.Conflict.Clean.{here, onward}
use Rattle.lower_laws.specs.Endings.{by_exits}
use Rattle.lower_laws.specs.ConflictList.{clean_says, assigned_says, crossed_out, crossed_in, conflicts_hold}

-- ---- edges

pub same_refl : (x : Edge) → same x x ≡ true
same_refl x = and_in (eqb_same x.0) (eqb_same x.1)

pub same_eq : (x e : Edge) → same x e ≡ true → x ≡ e
same_eq x e h = let (p, q) = and_out
    (eqb x.0 e.0) _ h in λ i. (eqb-true x.0 e.0 p i, eqb-true x.1 e.1 q i)

abbrev pub Way : ℕ → Type 0
Way w = (w ≡ 1) ⊎ (w ≡ 2)

both_ways : (jump fall v : ℕ) → Way v → (t : ℕ) × Mem (v, t) (exits_by 3 jump fall)
both_ways j f v (inl p) = (j, inl (λ i. (p i, j)))
both_ways j f v (inr p) = (f, inr (inl (λ i. (p i, f))))

module _ (body : Body) where
  pub way_of_lem : (b : ℕ) (o : ℕ × ℕ) → Mem o (exits body b) → Way o.0
  unfolding exits
  way_of_lem b =
      by_exits (block body b).jump (block body b).fall (λ l. (o : ℕ × ℕ) → Mem o l → Way o.0)
      (λ o m. absurd m) one two (block body b).ending
    where
      one : {to : ℕ} (o : ℕ × ℕ) → Mem o ((1, to) ∷ []) → Way o.0
      one {to = to} o (inr x') = elim x' [ ]
      one o (inl p) = inl (ap (λ (q : ℕ × ℕ). q.0) p)

      two : {to next : ℕ} (o : ℕ × ℕ) → Mem o ((1, to) ∷ (2, next) ∷ []) → Way o.0
      two o (inl p) = inl (ap (λ (q : ℕ × ℕ). q.0) p)
      two {to = to} {next = next} o (inr (inr x'')) = elim x'' [ ]
      two o (inr (inl p)) = inr (ap (λ (q : ℕ × ℕ). q.0) p)

  -- an exit of the body
  abbrev pub Real : Edge → Type 0
  Real e = (t : ℕ) × Mem (e.1, t) (exits body e.0)

  -- a test has both
  pub test_exit : (b v : ℕ) → is_test body b ≡ true → Way v → (t : ℕ) × Mem (v, t) (exits body b)
  unfolding is_test exits
  test_exit b v h w = rw (eqb-true (block body b).ending 3 h) (both_ways (block body b).jump (block body b).fall v w)

  -- only tests' edges are denied or opposed
  pub denies_test : (b : ℕ) (e : Edge) → denies body b e ≡ true → is_test body e.0 ≡ true
  unfolding denies
  denies_test b e h = (and_out (is_test body e.0) _ h).0

  pub opposes_out : (x e : Edge) → opposes body x e ≡ true → (is_test body x.0 ≡ true) × (is_test body e.0 ≡ true)
      × (contradict (condition body x) (condition body e) ≡ true)
  unfolding opposes
  opposes_out x e h =
      let (t, k) = and_out (is_test body x.0 && is_test body e.0) _ h in
      let (a, b) = and_out (is_test body x.0) _ t in
      (a, b, k)

module _ (body : Body) (w : Onward body) where
  -- a clean path by the exits of its first block
  pub clean_step : (v b s : ℕ) → s < body.count
      → clean body v body.count b s ≡
      (not (touches body b v) && (eqb b s || any_of (λ o. clean body v body.count o.1 s) (exits body b)))
  clean_step v b s h = both _ _ to from
    where
      says : (c : ℕ) → clean body v body.count c s ≡ true → Clean body v c s
      says c = (clean_says body w v c s h).0

      on : ℕ × ℕ → Bool
      on o = clean body v body.count o.1 s

      by : (c : ℕ) → Clean body v c s → (not (touches body c v) && (eqb c s || any_of on (exits body c))) ≡ true
      by c (here k) = and_in (ap not k) (or_in_left _ (eqb_same c))
      by c (onward o k m d) = and_in (ap not k)
          (or_in_right (eqb c s) (any_of_in on (exits body c) o m ((clean_says body w v o.1 s h).1 d)))

      to : clean body v body.count b s ≡ true
          → (not (touches body b v) && (eqb b s || any_of on (exits body b))) ≡ true
      to k = by b (says b k)

      from : (not (touches body b v) && (eqb b s || any_of on (exits body b))) ≡ true
          → clean body v body.count b s ≡ true
      from k =
          let (n, r) = and_out (not (touches body b v)) _ k in
          let u = not_out (touches body b v) n in
          (clean_says body w v b s h).1 (or_out (eqb b s) _ r
          (λ e. subst (Clean body v b) (eqb-true b s e) (here u))
          (λ a. let (o, m, c) = any_of_out on (exits body b) a in onward o u m (says o.1 c)))

-- ---- what is listed

-- a pair of the list, with its first below b
abbrev pairs : ℕ → Edge → Pair → Bool
pairs b e p = same (second_of p) e && ltb p.first b

pub listed_out : (list : List Pair) (b : ℕ) (e : Edge) → listed list b e ≡ true → (p : Pair) × Mem p list
    × (second_of p ≡ e) × (p.first < b)
unfolding listed
listed_out list b e h =
    let (p, m, k) = any_of_out (pairs b e) list h in
    let (s, l) = and_out (same (second_of p) e) _ k in
    (p, m, same_eq (second_of p) e s, ltb-true p.first b l)

pub listed_in_lem : (list : List Pair) (b : ℕ) (e : Edge) (p : Pair) → Mem p list → second_of p ≡ e → p.first < b
    → listed list b e ≡ true
unfolding listed
listed_in_lem list b e p m q h =
    let s : same (second_of p) e ≡ true = subst (λ (z : Edge). same (second_of p) z ≡ true) q (same_refl (second_of p)) in
    any_of_in (pairs b e) list p m (and_in s (lt-ltb p.first b h))

module _ (body : Body) (w : Onward body) where
  -- some first in block f pairs with e
  abbrev pub first_in : Edge → ℕ → Bool
  first_in e f = assigned body f e || any_of (λ o. crossed body f o e) (exits body f)

  first_out : (e : Edge) → e.0 < body.count → Way e.1 → (b f : ℕ) → f < b → first_in e f ≡ true
      → listed (conflicts body) b e ≡ true
  first_out e real v b f l h = or_out (assigned body f e) _ h
      (λ a. let c = (assigned_says body w e real f).0 a in
      listed_in_lem (conflicts body) b e (assignment_pair body e f)
      ((conflicts_hold body w (assignment_pair body e f)).1
      (test_exit body e.0 e.1 (denies_test body f e c.0) v, inl (refl, refl, c))) refl l)
      (λ a. let (o, m, k) = any_of_out (λ (o : ℕ × ℕ). crossed body f o e) (exits body f) a in
      let c = crossed_out body w e real f o m k in
      listed_in_lem (conflicts body) b e (edge_pair e f o)
      ((conflicts_hold body w (edge_pair e f o)).1 (test_exit body e.0 e.1 c.1 v, inr (refl, c))) refl l)

  first_in_lem : (e : Edge) → e.0 < body.count → (p : Pair) → second_of p ≡ e → Holds body p → first_in e p.first ≡ true
  first_in_lem e real p q (r, inl (k, v, a)) = or_in_left _
      ((assigned_says body w e real p.first).1 (subst (Assigned body p.first) q a))
  first_in_lem e real p q (r, inr (k, c)) =
      let d : Crossed body (p.first, p.third) e = subst (Crossed body (p.first, p.third)) q c in
      or_in_right (assigned body p.first e)
      (any_of_in (λ (o : ℕ × ℕ). crossed body p.first o e) (exits body p.first) (p.third, d.3.0) d.3.1
      (crossed_in body w e real p.first p.third d))

  pub listed_is : (b : ℕ) (e : Edge) → e.0 < body.count → Way e.1 → listed (conflicts body) b e ≡ any b (first_in e)
  listed_is b e real v = both _ _
      (λ h. let (p, m, q, l) = listed_out (conflicts body) b e h in any_in b (first_in e) p.first l
      (first_in_lem e real p q ((conflicts_hold body w p).0 m)))
      (λ h. let (f, l, k) = any_out b (first_in e) h in first_out e real v b f l k)
