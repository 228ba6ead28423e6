-- A machine's lists and the lists of Route: what the forward reading visits are the beginnings that it allows, and what
-- the backward reading passes are the paths that it does not drop, in the same order. For any machine on a body's
-- graph. Rests on Walk, Machine and Route.
use Rattle.std.specs.Prelude.{◌≡◌, ◌⊎◌, Bool, cond, eqb}
use Rattle.std.proofs.Math.Path.{refl, sym, ap, ap₂}
use Rattle.std.proofs.Common.{subst, ◌∙◌, eqb-true, eq-eqb}
use Rattle.std.proofs.Math.Logic.{inl, inr}
use Rattle.std.proofs.Math.Bool.{true, false}
use mathlib.Core.List.{List, [], ◌∷◌, ◌++◌, map, map-append, map-map}
use Rattle.std.proofs.Math.Option.{Option, none, some}
use Prim.Native.Nat.{ℕ, zero, suc, ◌+◌, ◌≤◌, ◌<◌}
use native.Mathlib.Omega.{arith}
use Rattle.laws.specs.Terms.{Mem, only, each}
use Rattle.laws.specs.Lists.{only_none, only_map, only_append, each_append, mem_append, each_out, map_out, mem_left}
use Rattle.laws.specs.Lists.{mem_right, each_in, map_in}
use Rattle.laws.specs.Rows.{put, ext}
use Rattle.form.specs.declared.Body.{Body}
use Rattle.form.specs.Conflict.{Edge, exits, Onward}
use Rattle.theory.specs.Route.{Path, last_block, paths, beginnings, weight, weighed}
use Rattle.theory.specs.machines.Machine.{Val, grow, Machine, on_body, then_step, read_back, goes_on, allowed, spread}
use Rattle.theory.specs.machines.Machine.{passed}
use Rattle.theory.specs.machines.Walk.{arrive, extend, if_allowed, visit_by, visits, whole}
use Rattle.theory.specs.pairs.Steps.{Leads}

-- ---- the visits of any machine, among those of the machine that allows all

abbrev pub freely : {S : Type 0} → Machine S → Machine (Unit {0})
freely M = record { count = M.count; outs = M.outs; step = λ x s. some tt; cost = M.cost; start = tt }

module _ {S : Type 0} (M : Machine S) where
  abbrev good_for : S → ℕ × Val → Bool
  good_for s e = allowed M e.1.1 s

  if_allowed_lem : (o : Option S) (R : S → List (ℕ × Val)) (l : List (ℕ × Val)) → ((u : S) → R u ≡ only (good_for u) l)
      → if_allowed M o R ≡ only (λ e. goes_on M o (allowed M e.1.1)) l
  if_allowed_lem none R l h = sym (only_none l)
  if_allowed_lem (some u) R l h = h u

  visit_by_lem : (R : ℕ → S → List (ℕ × Val)) (F : ℕ → Unit {0} → List (ℕ × Val))
      → ((t : ℕ) (u : S) → R t u ≡ only (good_for u) (F t tt)) → (b : ℕ) (s : S) (os : List (ℕ × ℕ))
      → visit_by M R b s os ≡ only (good_for s) (visit_by (freely M) F b tt os)
  unfolding allowed
  visit_by_lem R F h b s [] = refl
  visit_by_lem R F h b s (o ∷ os) =
      ap₂ ◌++◌ (ap (map (extend M b o.0)) (if_allowed_lem (M.step (b, o.0) s) (R o.1) (F o.1 tt) (h o.1))
      ∙ sym (only_map (good_for s) (extend M b o.0) (F o.1 tt))) (visit_by_lem R F h b s os)
      ∙ sym (only_append (good_for s) (map (extend M b o.0) (F o.1 tt)) (visit_by (freely M) F b tt os))

  pub visits_are : (n b : ℕ) (s : S) → visits M n b s ≡ only (good_for s) (visits (freely M) n b tt)
  unfolding visits allowed
  visits_are zero b s = refl
  visits_are (suc n) b s =
      ap (λ t. arrive M b ∷ t)
      (visit_by_lem (λ t u. visits M n t u) (λ t u. visits (freely M) n t u) (λ t u. visits_are n t u) b s (M.outs b))

-- ---- on the graph of a body

module _ (body : Body) (cost : ℕ → ℕ → ℕ) where
  abbrev free : Machine (Unit {0})
  free = on_body body cost (λ x s. some tt) tt

  abbrev path_of : ℕ × Val → Path
  path_of e = e.1.1

  begin_by : (R : ℕ → List (ℕ × Val)) (P : ℕ → List Path) → ((t : ℕ) → map path_of (R t) ≡ P t)
      → (b : ℕ) (os : List (ℕ × ℕ))
      → map path_of (visit_by free (λ t u. R t) b tt os) ≡ each os (λ o. map (λ p. (b, o.0) ∷ p) (P o.1))
  begin_by R P h b [] = refl
  begin_by R P h b (o ∷ os) =
      map-append path_of (map (extend free b o.0) (R o.1)) (visit_by free (λ t u. R t) b tt os)
      ∙ ap₂ ◌++◌ (map-map path_of (extend free b o.0) (R o.1) ∙ sym
      (map-map (λ (p : Path). (b, o.0) ∷ p) path_of (R o.1))
      ∙ ap (map (λ (p : Path). (b, o.0) ∷ p)) (h o.1)) (begin_by R P h b os)

  pub visits_begin : (n b : ℕ) → map path_of (visits free n b tt) ≡ beginnings body n b
  unfolding visits beginnings
  visits_begin zero b = refl
  visits_begin (suc n) b =
      ap (λ t. [] ∷ t) (begin_by (λ t. visits free n t tt) (beginnings body n) (visits_begin n) b (exits body b))

  -- the weights and paths of the whole ones
  abbrev pub wholes : List (ℕ × Val) → List Val
  wholes l = map (λ e. e.1) (whole body.count l)

  abbrev ending : ℕ × Val → Bool
  ending e = eqb (suc e.0) body.count

  wholes_append : (l r : List (ℕ × Val)) → wholes (l ++ r) ≡ wholes l ++ wholes r
  wholes_append l r =
      ap (map (λ (e : ℕ × Val). e.1)) (only_append ending l r)
      ∙ map-append (λ (e : ℕ × Val). e.1) (only ending l) (only ending r)

  wholes_extend : (b way : ℕ) (l : List (ℕ × Val))
      → wholes (map (extend free b way) l) ≡ map (grow (cost b way) (b, way)) (wholes l)
  wholes_extend b way l =
      ap (map (λ (e : ℕ × Val). e.1)) (only_map ending (extend free b way) l)
      ∙ map-map (λ (e : ℕ × Val). e.1) (extend free b way) (only ending l)
      ∙ sym (map-map (grow (cost b way) (b, way)) (λ (e : ℕ × Val). e.1) (only ending l))

  weigh_step : (x : Edge) (l : List Path)
      → map (grow (cost x.0 x.1) x) (map (weighed body cost) l) ≡ map (weighed body cost) (map (λ p. x ∷ p) l)
  unfolding weight
  weigh_step x [] = refl
  weigh_step x (p ∷ l) = ap (λ t. (cost x.0 x.1 + weight cost (last_block body) p, x ∷ p) ∷ t) (weigh_step x l)

  whole_by : (R : ℕ → List (ℕ × Val)) (P : ℕ → List Path) → ((t : ℕ) → wholes (R t) ≡ map (weighed body cost) (P t))
      → (b : ℕ) (os : List (ℕ × ℕ))
      → wholes (visit_by free (λ t u. R t) b tt os)
      ≡ map (weighed body cost) (each os (λ o. map (λ p. (b, o.0) ∷ p) (P o.1)))
  whole_by R P h b [] = refl
  whole_by R P h b (o ∷ os) =
      wholes_append (map (extend free b o.0) (R o.1)) (visit_by free (λ t u. R t) b tt os)
      ∙ ap₂ ◌++◌ (wholes_extend b o.0 (R o.1) ∙ ap (map (grow (cost b o.0) (b, o.0))) (h o.1) ∙ weigh_step
      (b, o.0) (P o.1)) (whole_by R P h b os)
      ∙ sym (map-append (weighed body cost) (map (λ (p : Path). (b, o.0) ∷ p) (P o.1))
      (each os (λ o. map (λ p. (b, o.0) ∷ p) (P o.1))))

  ends_in : (b : ℕ) → suc b ≡ body.count → (cost b 0, []) ≡ weighed body cost []
  unfolding weight
  ends_in b e = let d : b ≡ last_block body = omega arith in ap (λ k. (cost k 0, [])) d

  whole_cons : (c : Bool) (b : ℕ) (l : List (ℕ × Val)) (m : List Path) → eqb (suc b) body.count ≡ c
      → wholes l ≡ map (weighed body cost) m
      → map (λ (e : ℕ × Val). e.1) (cond c (arrive free b ∷ only ending l) (only ending l))
      ≡ map (weighed body cost) (cond c ([] ∷ []) [] ++ m)
  whole_cons true b l m h k = λ i. ends_in b (eqb-true (suc b) body.count h) i ∷ k i
  whole_cons false b l m h k = k

  pub visits_whole : (n b : ℕ) → wholes (visits free n b tt) ≡ map (weighed body cost) (paths body n b)
  unfolding visits paths
  visits_whole zero b = refl
  visits_whole (suc n) b =
      whole_cons _ b (visit_by free (λ t u. visits free n t u) b tt (exits body b)) _ refl
      (whole_by (λ t. visits free n t tt) (paths body n) (visits_whole n) b (exits body b))

  -- ---- the paths that a machine passes

  module _ {K : Type 0} (step : Edge → K → Option K) (start : K) where
    abbrev M : Machine K
    M = on_body body cost step start

    -- the path with its key, where it is not dropped
    abbrev keyed : Path → List (K × Val)
    keyed p = put (read_back M p) (weighed body cost p) []

    ext_append : (s : K → Option K) (g : Val → Val) (l r : List (K × Val)) → ext s g (l ++ r) ≡ ext s g l ++ ext s g r
    unfolding ext
    ext_append s g [] r = refl
    ext_append s g (e ∷ l) r = go (s e.0) (ext_append s g l r)
      where
        go : (o : Option K) → ext s g (l ++ r) ≡ ext s g l ++ ext s g r
            → put o (g e.1) (ext s g (l ++ r)) ≡ put o (g e.1) (ext s g l) ++ ext s g r
        go none h = h
        go (some k) h = ap (λ t. (k, g e.1) ∷ t) h

    ext_put : (x : Edge) (p : Path) (o : Option K)
        → ext (step x) (grow (cost x.0 x.1) x) (put o (weighed body cost p) [])
        ≡ put (then_step M x o) (weighed body cost (x ∷ p)) []
    unfolding ext weight
    ext_put x p none = refl
    ext_put x p (some k) = refl

    ext_keyed : (x : Edge) (l : List Path)
        → ext (step x) (grow (cost x.0 x.1) x) (each l keyed) ≡ each (map (λ p. x ∷ p) l) keyed
    unfolding ext read_back
    ext_keyed x [] = refl
    ext_keyed x (p ∷ l) =
        ext_append (step x) (grow (cost x.0 x.1) x) (keyed p) (each l keyed)
        ∙ ap₂ ◌++◌ (ext_put x p (read_back M p)) (ext_keyed x l)

    spread_keyed : (R : ℕ → List (K × Val)) (P : ℕ → List Path) → ((t : ℕ) → R t ≡ each (P t) keyed)
        → (b : ℕ) (os : List (ℕ × ℕ))
        → spread M R b os ≡ each (each os (λ o. map (λ p. (b, o.0) ∷ p) (P o.1))) keyed
    spread_keyed R P h b [] = refl
    spread_keyed R P h b (o ∷ os) =
        ap₂ ◌++◌ (ap (ext (step (b, o.0)) (grow (cost b o.0) (b, o.0))) (h o.1) ∙ ext_keyed (b, o.0)
        (P o.1)) (spread_keyed R P h b os)
        ∙ sym (each_append (map (λ (p : Path). (b, o.0) ∷ p) (P o.1))
        (each os (λ o. map (λ p. (b, o.0) ∷ p) (P o.1))) keyed)

    base_keyed : (c : Bool) (b : ℕ) → eqb (suc b) body.count ≡ c
        → cond c ((start, (cost b 0, [])) ∷ []) [] ≡ each (cond c ([] ∷ []) []) keyed
    unfolding read_back
    base_keyed true b h = ap (λ v. (start, v) ∷ []) (ends_in b (eqb-true (suc b) body.count h))
    base_keyed false b h = refl

    pub passed_are : (n b : ℕ) → passed M n b ≡ each (paths body n b) keyed
    unfolding passed paths
    passed_are zero b = refl
    passed_are (suc n) b =
        ap₂ ◌++◌ (base_keyed _ b refl) (spread_keyed (λ t. passed M n t) (paths body n) (passed_are n) b (exits body b))
        ∙ sym (each_append (cond (eqb (suc b) body.count) ([] ∷ []) [])
        (each (exits body b) (λ o. map (λ p. (b, o.0) ∷ p) (paths body n o.1))) keyed)

-- ---- the listed paths are the walks in the graph

module _ (body : Body) where
  -- by each exit of b, what P has from where it leads
  abbrev pub steps : (P : ℕ → List Path) → ℕ → List Path
  steps P b = each (exits body b) (λ o. map (λ p. (b, o.0) ∷ p) (P o.1))

  pub steps_in : (P : ℕ → List Path) (b u : ℕ) (x : Edge) (p : Path) → x.0 ≡ b → Mem (x.1, u) (exits body b)
      → Mem p (P u) → Mem (x ∷ p) (steps P b)
  steps_in P b u x p e m i =
      each_in (exits body b) (λ o. map (λ p. (b, o.0) ∷ p) (P o.1)) (x.1, u) (x ∷ p) m
      (subst (λ (y : Edge). Mem (y ∷ p) (map (λ (p : Path). (b, x.1) ∷ p) (P u))) (λ j. (sym e j, x.1))
      (map_in (λ (p : Path). (b, x.1) ∷ p) (P u) p i))

  -- what leads on from there leads on from b
  steps_out : (P : ℕ → List Path) (b : ℕ) (p : Path) → Mem p (steps P b)
      → (u : ℕ) × (q : Path) × Mem q (P u) × ((t : ℕ) → Leads body u q t → Leads body b p t)
  steps_out P b p m =
      let (o, i, k) = each_out (exits body b) (λ o. map (λ p. (b, o.0) ∷ p) (P o.1)) p m in
      let (q, j, e) = map_out (λ (p : Path). (b, o.0) ∷ p) (P o.1) p k in
      (o.1, q, j, λ t l. one_more b t o q p i e l)
    where
      one_more : (b t : ℕ) (o : ℕ × ℕ) (q p : Path) → Mem o (exits body b) → p ≡ (b, o.0) ∷ q → Leads body o.1 q t
          → Leads body b p t
      one_more b t o q p m e l = subst (λ (z : Path). Leads body b z t) (sym e) (o.1, refl, m, l)

  pub beginnings_lead : (n b : ℕ) (p : Path) → Mem p (beginnings body n b) → (t : ℕ) × Leads body b p t
  unfolding beginnings
  beginnings_lead zero b p x' = elim x' [ ]
  beginnings_lead (suc n) b p (inl e) = (b, rw e refl)
  beginnings_lead (suc n) b p (inr m) =
      let (u, q, i, on) = steps_out (beginnings body n) b p m in
      let (t, l) = beginnings_lead n u q i in
      (t, on t l)

  ends : (c : Bool) (b : ℕ) (p : Path) → eqb (suc b) body.count ≡ c → Mem p (cond c ([] ∷ []) [])
      → Leads body b p (last_block body)
  ends false b p h x'' = elim x'' [ ]
  ends true b p h (inr x4) = elim x4 [ ]
  ends true b p h (inl e) = let d : suc b ≡ body.count = eqb-true (suc b) body.count h in rw e (omega arith)

  pub paths_lead : (n b : ℕ) (p : Path) → Mem p (paths body n b) → Leads body b p (last_block body)
  unfolding paths
  paths_lead zero b p m = elim m [ ]
  paths_lead (suc n) b p m =
      go (paths_lead n) (mem_append p (cond (eqb (suc b) body.count) ([] ∷ []) []) (steps (paths body n) b) m)
    where
      go : ((t : ℕ) (q : Path) → Mem q (paths body n t) → Leads body t q (last_block body))
          → Mem p (cond (eqb (suc b) body.count) ([] ∷ []) []) ⊎ Mem p (steps (paths body n) b)
          → Leads body b p (last_block body)
      go h (inl m) = ends _ b p refl m
      go h (inr m) = let (u, q, i, on) = steps_out (paths body n) b p m in on (last_block body) (h u q i)

module _ (body : Body) (w : Onward body) where
  -- a walk is a beginning, and one to the last block is a path
  pub leads_begin : (n b t : ℕ) (p : Path) → b < body.count → body.count ≤ n + b → Leads body b p t
      → Mem p (beginnings body n b)
  unfolding beginnings
  leads_begin zero b t p h k l = let z : ⊥ = omega arith in absurd z
  leads_begin (suc n) b t [] h k l = inl refl
  leads_begin (suc n) b t (x ∷ p) h k l =
      inr (steps_in body (beginnings body n) b l.0 x p l.1 l.2
      (leads_begin n l.0 t p (w.inside b (x.1, l.0) l.2) (omega (arith, w.above b (x.1, l.0) l.2))
      l.3))

  pub leads_path : (n b : ℕ) (p : Path) → b < body.count → body.count ≤ n + b → Leads body b p (last_block body)
      → Mem p (paths body n b)
  unfolding paths
  leads_path zero b p h k l = let z : ⊥ = omega arith in absurd z
  leads_path (suc n) b [] h k l =
      mem_left [] (cond (eqb (suc b) body.count) ([] ∷ []) []) (steps body (paths body n) b)
      (subst (λ (c : Bool). Mem {A = Path} [] (cond c ([] ∷ []) [])) (sym (eq-eqb (suc b) body.count (omega arith)))
      (inl refl))
  leads_path (suc n) b (x ∷ p) h k l =
      mem_right (x ∷ p) (cond (eqb (suc b) body.count) ([] ∷ []) []) (steps body (paths body n) b)
      (steps_in body (paths body n) b l.0 x p l.1 l.2
      (leads_path n l.0 p (w.inside b (x.1, l.0) l.2) (omega (arith, w.above b (x.1, l.0) l.2)) l.3))
