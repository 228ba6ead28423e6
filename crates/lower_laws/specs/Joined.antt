-- The conflict list by block and way: clean paths block by block, the firsts of an edge, and the list as one list of
-- pairs for each edge of the 64 blocks (`conflicts_by_edge`); an edge that the list pairs with a first below a block
-- (`listed_way`). Rests on ConflictList, Listed, Endings and PairTest.
use Rattle.std.specs.Prelude.{◌≡◌, ◌⊎◌, Bool, true, false, not, ◌||◌, ◌&&◌, ℕ, zero, suc, ◌+◌, ◌≤◌, ◌<◌, ltb, length, take}
use Rattle.std.proofs.Math.Path.{refl, sym, ap, ap₂}
use Rattle.std.proofs.Common.{subst, ◌∙◌, inl, inr, arith}
use Rattle.std.proofs.Math.Bool.{cond, and-false}
use mathlib.Core.List.{List, [], ◌∷◌, ◌++◌, append-nil}
use borrow.Author.Tests.{eqb-true, ltb-true, ltb-false}
use Rattle.std.proofs.Math.Dec.{eqb}
use Rattle.std.proofs.Math.ListN.{length-take}
use Rattle.laws.specs.Terms.{Mem, each, any_of, any, range}
use Rattle.laws.specs.Tests.{clash, both, split, is_false, or_out, or_in_left, or_in_right, any_in, any_out}
use Rattle.laws.specs.Lists.{mem_left, mem_right, mem_append, each_out, each_in, each_same, range_in}
use Rattle.laws.specs.Lists.{tested_out, tested_in}
use Rattle.form.specs.declared.Body.{Body}
use Rattle.form.specs.declared.Block.{Block}
use Rattle.form.specs.Conflict.{Edge, no_block, block, effects_of, touches, last_on, exits_by, exits, way_to, is_test}
use Rattle.form.specs.Conflict.{opposes, denies, Onward, clean, leads, Pair, assigned, crossed}
use Rattle.form.specs.Conflict.{assignment_pair, edge_pair, pairs_of, conflicts, second_of, listed}
use Rattle.lower_laws.specs.Blocks.{beyond}
use Rattle.lower_laws.specs.Endings.{some_exit}
use Rattle.lower_laws.specs.ConflictList.{clean_up, clean_says}
use Rattle.lower_laws.specs.Listed.{listed_out, listed_in_lem, Way, clean_step as clean_by_exits}

-- ---- lists of nothing, and longer ranges

module _ {A B : Type 0} where
  pub each_nothing : (l : List A) (f : A → List B) → ((x : A) → f x ≡ []) → each l f ≡ []
  each_nothing [] f h = refl
  each_nothing (x ∷ l) f h = rw (h x) (each_nothing l f h)

module _ {B : Type 0} (f : ℕ → List B) where
  none_from : (a m : ℕ) → ((i : ℕ) → a ≤ i → f i ≡ []) → each (range a m) f ≡ []
  none_from a zero h = refl
  none_from a (suc m) h = rw (h a (omega arith)) (none_from (suc a) m (λ i l. h i (omega arith)))

  longer : (a n m : ℕ) → n ≤ m → ((i : ℕ) → a + n ≤ i → f i ≡ []) → each (range a n) f ≡ each (range a m) f
  longer a zero m h none = sym (none_from a m (λ i l. none i (omega arith)))
  longer a (suc n) zero h none = absurd (no h)
    where
      no : suc n ≤ 0 → ⊥
      no h = omega arith
  longer a (suc n) (suc m) h none = ap (λ (l : List B). f a ++ l)
      (longer (suc a) n m (omega arith) (λ i l. none i (omega arith)))

  pub each_longer : (n m : ℕ) → n ≤ m → ((i : ℕ) → n ≤ i → f i ≡ []) → each (range 0 n) f ≡ each (range 0 m) f
  each_longer n m h none = longer 0 n m h (λ i l. none i (omega arith))

-- ---- blocks past the end

module _ (body : Body) where
  pub past_count : (b : ℕ) → body.count ≤ b → block body b ≡ no_block
  unfolding block
  past_count b h = beyond (take body.count body.blocks) b no_block
      (omega (arith, length-take body.count body.blocks))

  pub past_64 : length body.blocks ≡ 64 → (b : ℕ) → 64 ≤ b → block body b ≡ no_block
  unfolding block
  past_64 size b h = beyond (take body.count body.blocks) b no_block
      (omega (arith, length-take body.count body.blocks))

  pub no_test : (b : ℕ) → block body b ≡ no_block → is_test body b ≡ false
  unfolding is_test
  no_test b e = ap (λ (k : Block). eqb k.ending 3) e

  pub no_effects : (b : ℕ) → block body b ≡ no_block → effects_of body b ≡ []
  unfolding effects_of
  no_effects b e = rw e

  pub test_real : (b : ℕ) → is_test body b ≡ true → b < body.count
  test_real b t = split (ltb b body.count) (λ l. ltb-true b body.count l)
      (λ l. clash t (no_test b (past_count b (ltb-false b body.count l))))

  pub denies_none : (b : ℕ) (e : Edge) → block body b ≡ no_block → denies body b e ≡ false
  unfolding denies last_on
  denies_none b e q = rw (no_effects b q) (and-false (is_test body e.0))

  pub denies_test : (b : ℕ) (e : Edge) → is_test body e.0 ≡ false → denies body b e ≡ false
  unfolding denies
  denies_test b e t = rw t

  pub opposes_test : (x e : Edge) → is_test body e.0 ≡ false → opposes body x e ≡ false
  unfolding opposes
  opposes_test x e t = rw (t, and-false (is_test body x.0))

  pub opposes_first : (x e : Edge) → is_test body x.0 ≡ false → opposes body x e ≡ false
  unfolding opposes
  opposes_first x e t = rw t

  -- ---- the firsts of an edge

  -- block b's edge by a way pairs with e
  unfoldable pub by_way : (way b : ℕ) → Edge → Bool
  by_way way b e = crossed body b (way, way_to way (exits body b)) e

  -- the list pairs e as second with a first in block b
  unfoldable pub paired : ℕ → Edge → Bool
  paired b e = assigned body b e || (by_way 1 b e || by_way 2 b e)

  -- the pairs with e second, by the first block of 64
  unfoldable pub edge_pairs : Edge → List Pair
  edge_pairs e =
      each (range 0 64) (λ b. cond (assigned body b e) (assignment_pair body e b ∷ []) [])
      ++ each (range 0 64) (λ b. cond (by_way 1 b e) (edge_pair e b (1, 0) ∷ []) [] ++ cond (by_way 2 b e)
      (edge_pair e b (2, 0) ∷ []) [])

  pub assigned_none : (b : ℕ) (e : Edge) → denies body b e ≡ false → assigned body b e ≡ false
  unfolding assigned
  assigned_none b e d = rw d

  pub crossed_none : (b : ℕ) (o : ℕ × ℕ) (e : Edge) → opposes body (b, o.0) e ≡ false → crossed body b o e ≡ false
  unfolding crossed
  crossed_none b o e d = rw d

  pub way_none : (way b : ℕ) (e : Edge) → opposes body (b, way) e ≡ false → by_way way b e ≡ false
  unfolding by_way
  way_none way b e d = crossed_none b (way, way_to way (exits body b)) e d

  -- an edge of no test is not in the list
  pub edge_none : (e : Edge) → is_test body e.0 ≡ false → edge_pairs e ≡ []
  unfolding edge_pairs
  edge_none e t =
      ap₂ ◌++◌ (each_nothing (range 0 64) (λ b. cond (assigned body b e) (assignment_pair body e b ∷ []) [])
      (λ b. rw (assigned_none b e (denies_test b e t))))
      (each_nothing (range 0 64) (λ b. cond (by_way 1 b e) (edge_pair e b (1, 0) ∷ []) [] ++ cond (by_way 2 b e)
      (edge_pair e b (2, 0) ∷ []) [])
      (λ b. rw (way_none 1 b e (opposes_test (b, 1) e t), way_none 2 b e (opposes_test (b, 2) e t))))

  pub paired_none : (b : ℕ) (e : Edge) → is_test body e.0 ≡ false → paired b e ≡ false
  unfolding paired
  paired_none b e t = rw (
    assigned_none b e (denies_test b e t),
    way_none 1 b e
        (opposes_test (b, 1) e t),
    way_none 2 b e (opposes_test (b, 2) e t),
  )

  -- the pairs of b's edges
  test_ending : (b : ℕ) → is_test body b ≡ true → (block body b).ending ≡ 3
  unfolding is_test
  test_ending b t = eqb-true (block body b).ending 3 t

  crossings : (b : ℕ) (e : Edge)
      → each (exits body b) (λ o. cond (crossed body b o e) (edge_pair e b o ∷ []) []) ≡ cond (by_way 1 b e)
      (edge_pair e b (1, 0) ∷ []) [] ++ cond (by_way 2 b e) (edge_pair e b (2, 0) ∷ []) []
  unfolding exits crossed by_way
  crossings b e = split (is_test body b)
      (λ t. rw (test_ending b t) (ap
      (λ l. cond (opposes body (b, 1) e && leads body (1, (block body b).jump) e)
      (edge_pair e b (1, 0) ∷ []) [] ++ l)
      (append-nil (cond (opposes body (b, 2) e && leads body (2, (block body b).fall) e)
      (edge_pair e b (2, 0) ∷ []) []))))
      (λ t. each_nothing (exits_by (block body b).ending (block body b).jump (block body b).fall) _
      (λ o. rw (opposes_first (b, o.0) e t)) ∙ sym (rw (opposes_first (b, 1) e t, opposes_first (b, 2) e t)))

  -- ---- the list, by the second edge

  module _ (few : body.count ≤ 64) where
    pairs_is : (e : Edge) → pairs_of body e ≡ edge_pairs e
    unfolding pairs_of edge_pairs
    pairs_is e =
        ap₂ ◌++◌
        (each_longer (λ b. cond (assigned body b e) (assignment_pair body e b ∷ []) []) body.count 64 few
        (λ b h. rw (assigned_none b e (denies_none b e (past_count b h)))))
        (each_same (range 0 body.count) _ _ (λ b m. crossings b e)
        ∙ each_longer (λ b. cond (by_way 1 b e) (edge_pair e b (1, 0) ∷ []) [] ++ cond (by_way 2 b e)
        (edge_pair e b (2, 0) ∷ []) []) body.count 64 few
        (λ b h. let t = no_test b (past_count b h) in rw
        (way_none 1 b e (opposes_first (b, 1) e t), way_none 2 b e (opposes_first (b, 2) e t))))

    edges_is : (s : ℕ) → each (exits body s) (λ o. pairs_of body (s, o.0)) ≡ edge_pairs (s, 1) ++ edge_pairs (s, 2)
    unfolding exits
    edges_is s = split (is_test body s)
        (λ t. rw (test_ending s t) (ap₂ ◌++◌ (pairs_is (s, 1)) (append-nil (pairs_of body (s, 2)) ∙ pairs_is (s, 2))))
        (λ t. each_nothing (exits_by (block body s).ending (block body s).jump (block body s).fall) _
        (λ o. pairs_is (s, o.0) ∙ edge_none (s, o.0) t)
        ∙ sym (ap₂ ◌++◌ (edge_none (s, 1) t) (edge_none (s, 2) t)))

    pub conflicts_by_edge : conflicts body ≡ each (range 0 64) (λ s. edge_pairs (s, 1) ++ edge_pairs (s, 2))
    unfolding conflicts
    conflicts_by_edge =
        each_same (range 0 body.count) _ _ (λ s m. edges_is s)
        ∙ each_longer (λ s. edge_pairs (s, 1) ++ edge_pairs (s, 2)) body.count 64 few
        (λ s h. let t = no_test s (past_count s h) in ap₂ ◌++◌ (edge_none (s, 1) t) (edge_none (s, 2) t))

    -- ---- the edges that the list pairs with a first below a block

    abbrev first_assigned : Edge → ℕ → List Pair
    first_assigned e b = cond (assigned body b e) (assignment_pair body e b ∷ []) []

    abbrev first_crossed : Edge → ℕ → List Pair
    first_crossed e b = cond (by_way 1 b e) (edge_pair e b (1, 0) ∷ []) [] ++ cond (by_way 2 b e)
        (edge_pair e b (2, 0) ∷ []) []

    abbrev Of : Edge → Pair → Type 0
    Of e p = (p.second ≡ e.0) × (p.outcome ≡ e.1) × (paired p.first e ≡ true)

    pair_of : (e : Edge) (p : Pair) → Mem p (edge_pairs e) → Of e p
    unfolding edge_pairs paired
    pair_of e p m = go (mem_append p (each (range 0 64) (first_assigned e)) (each (range 0 64) (first_crossed e)) m)
      where
        crossing : (b : ℕ) → Mem p (cond (by_way 1 b e) (edge_pair e b (1, 0) ∷ []) []) ⊎ Mem p (cond (by_way 2 b e)
            (edge_pair e b (2, 0) ∷ []) []) → (p.second ≡ e.0) × (p.outcome ≡ e.1)
            × ((assigned body p.first e || (by_way 1 p.first e || by_way 2 p.first e)) ≡ true)
        crossing b (inl n) = let (h, q) = tested_out (by_way 1 b e) (edge_pair e b (1, 0)) p n in (
          ap (λ (p : Pair). p.second) q,
          ap (λ (p : Pair). p.outcome) q,
          or_in_right (assigned body p.first e)
              (or_in_left _ (ap (λ (p : Pair). by_way 1 p.first e) q ∙ h)),
        )
        crossing b (inr n) = let (h, q) = tested_out (by_way 2 b e) (edge_pair e b (2, 0)) p n in (
          ap (λ (p : Pair). p.second) q,
          ap (λ (p : Pair). p.outcome) q,
          or_in_right (assigned body p.first e)
              (or_in_right (by_way 1 p.first e) (ap (λ (p : Pair). by_way 2 p.first e) q ∙ h)),
        )

        go : Mem p (each (range 0 64) (first_assigned e)) ⊎ Mem p (each (range 0 64) (first_crossed e))
            → (p.second ≡ e.0) × (p.outcome ≡ e.1)
            × ((assigned body p.first e || (by_way 1 p.first e || by_way 2 p.first e)) ≡ true)
        go (inl n) =
            let (b, i, k) = each_out (range 0 64) (first_assigned e) p n in
            let (h, q) = tested_out (assigned body b e) (assignment_pair body e b) p k in (
              ap (λ (p : Pair). p.second) q,
              ap (λ (p : Pair). p.outcome) q,
              or_in_left _
                  (ap (λ (p : Pair). assigned body p.first e) q ∙ h),
            )
        go (inr n) =
            let (b, i, k) = each_out (range 0 64) (first_crossed e) p n in
            crossing b (mem_append p (cond (by_way 1 b e) (edge_pair e b (1, 0) ∷ []) [])
            (cond (by_way 2 b e) (edge_pair e b (2, 0) ∷ []) []) k)

    pair_in : (e : Edge) (f : ℕ) → f < 64 → paired f e ≡ true → (p : Pair) × Mem p (edge_pairs e) × (p.second ≡ e.0)
        × (p.outcome ≡ e.1) × (p.first ≡ f)
    unfolding edge_pairs paired
    pair_in e f l h = or_out (assigned body f e) _ h
        (λ k. (
          assignment_pair body e f,
          mem_left _ (each (range 0 64) (first_assigned e))
              (each (range 0 64) (first_crossed e))
              (each_in (range 0 64) (first_assigned e) f _ here_in (tested_in (assigned body f e) _ k)),
          refl,
          refl,
          refl,
        ))
        (λ k. or_out (by_way 1 f e) _ k
        (λ k. crossed_by 1 (mem_left _ (by 1) (by 2) (tested_in (by_way 1 f e) _ k)))
        (λ k. crossed_by 2 (mem_right _ (by 1) (by 2) (tested_in (by_way 2 f e) _ k))))
      where
        here_in : Mem f (range 0 64)
        here_in = range_in 0 64 f (omega arith) l

        by : ℕ → List Pair
        by way = cond (by_way way f e) (edge_pair e f (way, 0) ∷ []) []

        crossed_by : (way : ℕ) → Mem (edge_pair e f (way, 0)) (first_crossed e f)
            → (p : Pair) × Mem p (each (range 0 64) (first_assigned e) ++ each (range 0 64) (first_crossed e))
            × (p.second ≡ e.0) × (p.outcome ≡ e.1) × (p.first ≡ f)
        crossed_by way m = (
          edge_pair e f (way, 0),
          mem_right _ (each (range 0 64) (first_assigned e)) (each (range 0 64) (first_crossed e))
              (each_in (range 0 64) (first_crossed e) f _ here_in m),
          refl,
          refl,
          refl,
        )

    abbrev both_ways : ℕ → List Pair
    both_ways s = edge_pairs (s, 1) ++ edge_pairs (s, 2)

    firsts_out : (b : ℕ) (e : Edge) → listed (conflicts body) b e ≡ true → any b (λ f. paired f e) ≡ true
    firsts_out b e h =
        let (p, m, q, l) = listed_out (conflicts body) b e h in
        let (s, i, n) = each_out (range 0 64) both_ways p (subst (Mem p) conflicts_by_edge m) in
        any_in b (λ f. paired f e) p.first l (found p s q (mem_append p (edge_pairs (s, 1)) (edge_pairs (s, 2)) n))
      where
        found : (p : Pair) (s : ℕ) → second_of p ≡ e → Mem p (edge_pairs (s, 1)) ⊎ Mem p (edge_pairs (s, 2))
            → paired p.first e ≡ true
        found p s q (inl n) = let (a, o, t) = pair_of (s, 1) p n in subst (λ (d : Edge). paired p.first d ≡ true)
            ((λ i. (sym a i, sym o i)) ∙ q) t
        found p s q (inr n) = let (a, o, t) = pair_of (s, 2) p n in subst (λ (d : Edge). paired p.first d ≡ true)
            ((λ i. (sym a i, sym o i)) ∙ q) t

    firsts_in : (b s way : ℕ) → b ≤ 64 → s < 64 → ((p : Pair) → Mem p (edge_pairs (s, way)) → Mem p (both_ways s))
        → any b (λ f. paired f (s, way)) ≡ true → listed (conflicts body) b (s, way) ≡ true
    firsts_in b s way few_b inside among h =
        let (f, l, k) = any_out b (λ f. paired f (s, way)) h in
        let (p, m, x, y, z) = pair_in (s, way) f (omega arith) k in
        listed_in_lem (conflicts body) b (s, way) p
        (subst (Mem p) (sym conflicts_by_edge)
        (each_in (range 0 64) both_ways s p (range_in 0 64 s (omega arith) inside) (among p m)))
        (λ i. (x i, y i)) (omega arith)

    -- an edge is listed below b: by the list, and by its firsts
    pub listed_way : (b s way : ℕ) → Way way → b ≤ 64 → s < 64
        → any b (λ f. paired f (s, way)) ≡ listed (conflicts body) b (s, way)
    listed_way b s way w h l = both _ _ (firsts_in b s way h l (among way w)) (firsts_out b (s, way))
      where
        among : (way : ℕ) → Way way → (p : Pair) → Mem p (edge_pairs (s, way)) → Mem p (both_ways s)
        among way (inl e) p m = mem_left p (edge_pairs (s, 1)) (edge_pairs (s, 2))
            (subst (λ (v : ℕ). Mem p (edge_pairs (s, v))) e m)
        among way (inr e) p m = mem_right p (edge_pairs (s, 1)) (edge_pairs (s, 2))
            (subst (λ (v : ℕ). Mem p (edge_pairs (s, v))) e m)

    -- an edge of no test is not listed
    pub listed_none : (b : ℕ) (e : Edge) → is_test body e.0 ≡ false → listed (conflicts body) b e ≡ false
    listed_none b e t = is_false (listed (conflicts body) b e)
        (λ h. let (f, l, k) = any_out b (λ f. paired f e) (firsts_out b e h) in clash k (paired_none f e t))

-- ---- clean paths, block by block

module _ (body : Body) (w : Onward body) (v s : ℕ) (real : s < body.count) where
  abbrev pub leads_from : ℕ → Bool
  leads_from b = clean body v body.count b s

  pub clean_top : (b : ℕ) → s < b → leads_from b ≡ false
  clean_top b h = is_false (leads_from b)
      (λ k. let u = clean_up body w v b s ((clean_says body w v b s real).0 k) in no u)
    where
      no : b ≤ s → ⊥
      no u = omega arith

  module _ (few : body.count ≤ 64) where
    none_at_64 : leads_from 64 ≡ false
    none_at_64 = clean_top 64 (omega arith)

    pub some_way : (b : ℕ) → any_of (λ o. leads_from o.1) (exits body b) ≡ (leads_from
        (way_to 1 (exits body b)) || leads_from (way_to 2 (exits body b)))
    unfolding exits
    some_way b = some_exit leads_from none_at_64 (block body b).ending (block body b).jump (block body b).fall

    pub clean_step : (b : ℕ) → leads_from b ≡ (not (touches body b v) &&
        (eqb b s || (leads_from (way_to 1 (exits body b)) || leads_from (way_to 2 (exits body b)))))
    clean_step b = clean_by_exits body w v b s real ∙ ap (λ x. not (touches body b v) && (eqb b s || x)) (some_way b)
