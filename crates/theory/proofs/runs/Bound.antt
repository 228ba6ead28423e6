-- Theorem 5: the route of every iteration has no conflict (`iteration_free`), so it is one of the routes, and no whole
-- run costs what is preferred to as many times the best weight (`run_best`). So a whole run of just the count of
-- iterations costs at least the bound of the count and the lightest weight (`run_least`). An iteration that is left
-- early could go on to the end, so every run costs no more than some whole one; and a run of no more iterations than
-- the count costs at most the bound of the count and the heaviest weight (`run_bound`). The same whatever rules paths
-- out, where no iteration takes such a path (`taken_whole`, `taken_least`, `taken_bound`). Rests on RunWide, Steps,
-- Passes, Best and lower_laws.
use Rattle.std.specs.Prelude.{◌≡◌, Bool, true, false, cond, ◌&&◌, List, [], ◌∷◌, map, eqb, ℤ, length}
use Rattle.std.proofs.Math.Path.{refl, ap}
use Rattle.std.proofs.Common.{sym, subst, ◌∙◌, zero-mul, suc-mul, add_comm, le_trans, mul-le-mul_right, eqb-true, ltb-false}
use Rattle.std.proofs.Math.Bool.{not}
use Rattle.std.proofs.Math.Option.{Option, none, some}
use Prim.Native.Nat.{ℕ, suc, ◌+◌, ◌≤◌, ◌<◌}
use native.Mathlib.Omega.{arith}
use Rattle.laws.specs.Terms.{Mem, heavier, lighter, heaviest, lightest}
use Rattle.laws.specs.Tests.{clash, and_out, or_out, is_false, not_out, or_none}
use Rattle.laws.specs.Orders.{Preference, sum_unpreferred, preference}
use Rattle.laws.specs.Lists.{map_in, only_in}
use Rattle.form.specs.declared.Body.{Body}
use Rattle.form.specs.declared.Effect.{Effect}
use Rattle.form.specs.Relation.{meets, opposite}
use Rattle.form.specs.Conflict.{Edge, Condition, block, effects_of, is_test, condition, met, opposes, denies, touches}
use Rattle.form.specs.Conflict.{later, last_on, refuses, Onward, Sound}
use Rattle.lower_laws.specs.Relations.{opposite_is}
use Rattle.lower_laws.specs.Conditions.{contradict_says}
use Rattle.theory.specs.Route.{Path, last_block, paths, conflict, tails, routes, weight, weighed, best_route}
use Rattle.theory.specs.Route.{bound_of}
use Rattle.theory.specs.Run.{State, Does, Do, holds_at, Leaves, Iteration, Beginning, Run, whole, run_cost}
use Rattle.theory.specs.Run.Do.{done, does}
use Rattle.theory.specs.Run.Iteration.{ends, goes}
use Rattle.theory.specs.Run.Beginning.{stops, passes}
use Rattle.theory.specs.Run.Run.{rests, repeats, breaks}
use Rattle.theory.specs.machines.Passes.{leads_path}
use Rattle.theory.specs.answers.Ways.{tails_by, best_by}
use Rattle.theory.specs.answers.Best.{best_most}
use Rattle.theory.proofs.runs.RunWide.{stays, untouched, goes_on_lem}
use Rattle.lower_laws.specs.Listed.{denies_test, opposes_out}
use Rattle.theory.specs.pairs.Steps.{Leads, wipes, against, hit, hit_nil, hit_cons, conflict_nil, conflict_cons}

-- ---- effects

-- the last effect decides
last_of : (c : Bool) (o : Option Effect) (v : ℕ) (b a : Effect) (l : List Effect) (r s t : State)
    → eqb b.variable v ≡ c → last_on v l ≡ o → Does b r s → Do l s t
    → ((e : Effect) → last_on v l ≡ some e → e.how ≡ 1 → t.value v ≡ e.constant)
    → later (cond c (some b) none) o ≡ some a → a.how ≡ 1 → t.value v ≡ a.constant
last_of c (some e) v b a l r s t p q d m f h k = f a (q ∙ h) k
last_of true none v b a l r s t p q d m f h k =
    let e : b ≡ a = cc in
    let w : b.variable ≡ v = eqb-true b.variable v p in
    stays v m (untouched v l q) ∙ ap s.value (sym w) ∙ d.constant (ap (λ (x : Effect). x.how) e ∙ k)
    ∙ ap (λ (x : Effect). x.constant) e
last_of false none v b a l r s t p q d m f h k = let z : ◌≡◌ {A = ℕ} 0 1 = cc in absurd (omega arith)

settled : (v : ℕ) {l : List Effect} {s t : State} → Do l s t → (a : Effect) → last_on v l ≡ some a → a.how ≡ 1
    → t.value v ≡ a.constant
unfolding last_on
settled v done a h k = let z : ◌≡◌ {A = ℕ} 0 1 = cc in absurd (omega arith)
settled v (does {a = b} {l = l} {r = r} {s = s} {t = t} d m) a h k =
    last_of _ (last_on v l) v b a l r s t refl refl d m (settled v m) h k

-- ---- blocks

-- relations are known
abbrev Known : Body → Type 0
Known body = (b : ℕ) → (block body b).relation ≤ 5

module _ (body : Body) where
  -- the condition of e, in the state s
  abbrev met_in : State → Edge → Bool
  met_in s e = met (condition body e) (s.value (condition body e).variable)

  -- what the effects of b deny is not met after them
  refused : (o : Option Effect) (c : Condition) (x : ℤ) → ((a : Effect) → o ≡ some a → a.how ≡ 1 → x ≡ a.constant)
      → refuses o c ≡ true → met c x ≡ false
  refused none c x f h = clash h refl
  refused (some a) c x f h =
      let (k, n) = and_out (eqb a.how 1) _ h in
      ap (met c) (f a refl (eqb-true a.how 1 k)) ∙ not_out (met c a.constant) n

  denied : (b : ℕ) (e : Edge) (s t : State) → Do (effects_of body b) s t → denies body b e ≡ true → met_in t e ≡ false
  unfolding denies
  denied b e s t d h =
      refused (last_on (condition body e).variable (effects_of body b)) (condition body e)
      (t.value (condition body e).variable) (settled (condition body e).variable d)
      (and_out (is_test body e.0) _ h).1

  unwiped : (b : ℕ) (e : Edge) (s t : State) → Do (effects_of body b) s t → wipes body b e ≡ false
      → met_in t e ≡ met_in s e
  unfolding touches
  unwiped b e s t d h = ap (met (condition body e)) (stays (condition body e).variable d h)

  -- a block that tests is left by a way whose condition is met
  left : Known body → (b : ℕ) (s : State) (o : ℕ × ℕ) → Leaves body b s o → is_test body b ≡ true
      → met_in s (b, o.0) ≡ true
  unfolding is_test condition
  left k b s o l h = by (holds_at body b s) refl
    where
      r : ℕ
      r = (block body b).relation

      x : ℤ
      x = s.value (block body b).variable

      at : (w : ℕ) → w ≡ o.0 → meets (cond (eqb w 1) r (opposite r)) x (block body b).constant ≡ true
          → meets (cond (eqb o.0 1) r (opposite r)) x (block body b).constant ≡ true
      at w e g = rw (← e) g

      by : (c : Bool) → holds_at body b s ≡ c
          → meets (cond (eqb o.0 1) r (opposite r)) x (block body b).constant ≡ true
      by true e = at 1 (sym (l.jump (eqb-true (block body b).ending 3 h) e)) e
      by false e =
          at 2 (sym (l.fall (eqb-true (block body b).ending 3 h) e))
          (opposite_is r (k b) x (block body b).constant ∙ ap not e)

  -- edges of tests whose conditions are not met
  abbrev Barred : (Edge → Bool) → State → Type 0
  Barred S s = (e : Edge) → S e ≡ true → (is_test body e.0 ≡ true) × (met_in s e ≡ false)

  -- what the effects of b leave
  still_barred : (S : Edge → Bool) (b : ℕ) (s t : State) → Do (effects_of body b) s t → Barred S s
      → Barred (λ e. S e && not (wipes body b e)) t
  still_barred S b s t d h e k =
      let (p, n) = and_out (S e) _ k in
      let (u, m) = h e p in
      (u, unwiped b e s t d (not_out (wipes body b e) n) ∙ m)

  -- what a step contradicts is not met after it
  now_barred : Known body → (b : ℕ) (s t : State) (o : ℕ × ℕ) → Do (effects_of body b) s t → Leaves body b t o
      → Barred (against body (b, o.0)) t
  now_barred k b s t o d l e h = or_out (opposes body (b, o.0) e) _ h
      (λ p. let (v, w, c) = opposes_out body (b, o.0) e p in
      let r = (contradict_says (condition body (b, o.0)) (condition body e)).0 c in (
        w,
        is_false (met_in t e)
            (λ m. r.none_meets_both (t.value (condition body e).variable)
            (subst (λ x. met (condition body (b, o.0)) (t.value x) ≡ true) r.alike (left k b t o l v)) m),
      ))
      (λ p. (denies_test body b e p, denied b e s t d p))

  -- an iteration takes no barred edge
  no_hit : Known body → (S : Edge → Bool) {b : ℕ} {s t : State} {p : Path} → Iteration body b s p t → Barred S s
      → hit body S p ≡ false
  no_hit k S (ends e d) h = hit_nil body S
  no_hit k S (goes {b = b} {s = s} {t = t} {p = p} o d l r) h =
      hit_cons body S (b, o.0) p
      ∙ or_none (is_false (S (b, o.0) && not (wipes body b (b, o.0)))
      (λ a. let (u, m) = still_barred S b s t d h (b, o.0) a in clash (left k b t o l u) m))
      (no_hit k (λ e. S e && not (wipes body b e)) r (still_barred S b s t d h))

  pub iteration_free : Known body → {b : ℕ} {s t : State} {p : Path} → Iteration body b s p t → conflict body p ≡ false
  iteration_free k (ends e d) = conflict_nil body
  iteration_free k (goes {b = b} {s = s} {t = t} {p = p} o d l r) =
      conflict_cons body (b, o.0) p
      ∙ or_none (is_false (denies body b (b, o.0))
      (λ a. clash (left k b t o l (denies_test body b (b, o.0) a)) (denied b (b, o.0) s t d a)))
      (or_none (no_hit k (against body (b, o.0)) r (now_barred k b s t o d l)) (iteration_free k r))

-- ---- an iteration's path is a route

module _ (body : Body) (w : Onward body) where
  iteration_leads : {b : ℕ} {s t : State} {p : Path} → Iteration body b s p t → Leads body b p (last_block body)
  iteration_leads (ends e d) = omega arith
  iteration_leads (goes o d l r) = (o.1, refl, l.exit, iteration_leads r)

-- ---- an iteration that is left early could go on to the end

module _ (body : Body) (g : Sound body) where
  -- so it costs no more than one that goes to the end; what a block costs by no way is the least
  module _ (cost : ℕ → ℕ → ℕ) (least : (b way : ℕ) → cost b 0 ≤ cost b way) where
    whole_weight : (b : ℕ) {s t : State} {p : Path} → Iteration body b s p t → cost b 0 ≤ weight cost (last_block body) p
    unfolding weight
    whole_weight b (ends e d) = let same : b ≡ last_block body = omega arith in rw (← same) (omega arith)
    whole_weight b (goes o d l r) = omega (arith, least b o.0)

    pub extended : {b last : ℕ} {s : State} {p : Path} → Beginning body b s p last → b < body.count
        → (q : Path) × (t : State) × Iteration body b s q t × (weight cost last p ≤ weight cost (last_block body) q)
    unfolding weight
    extended (stops {b = b} {s = s}) h =
        let (q, t, i) = goes_on_lem body g body.count b h (omega arith) s in (q, t, i, whole_weight b i)
    extended (passes {b = b} o d l r) h =
        let (q, t, i, w) = extended r (g.onward.inside b o l.exit) in
        ((b, o.0) ∷ q, t, goes o d l i, omega arith)

    -- so every run costs no more than some whole one of as many iterations
    completed : {l : List (Path × ℕ)} → Run body l
        → (m : List (Path × ℕ)) × (r : Run body m) × (whole r ≡ true) × (length m ≡ length l)
        × (run_cost body cost l ≤ run_cost body cost m)
    unfolding whole run_cost
    completed rests = ([], rests, refl, refl, omega arith)
    completed (repeats {p = p} i r) =
        let (m, s, w, n, c) = completed r in
        ((p, last_block body) ∷ m, repeats i s, w, ap suc n, omega arith)
    completed (breaks i r) =
        let (q, t, j, d) = extended i g.some in
        let (m, s, w, n, c) = completed r in
        ((q, last_block body) ∷ m, repeats j s, w, ap suc n, omega arith)

-- ---- runs, whatever rules paths out, if no iteration takes such a path

pub record NeverTaken (body : Body) (ruled_out : Path → Bool) : Type 0 where
  pub free : {s t : State} {p : Path} → Iteration body 0 s p t → ruled_out p ≡ false

one_more : (n m : ℕ) → bound_of (suc n) m ≡ m + bound_of n m
one_more n m = suc-mul n m ∙ add_comm (bound_of n m) m

module _ (body : Body) (g : Sound body) (ruled_out : Path → Bool) (never : NeverTaken body ruled_out) where
  -- an iteration's path is a route
  pub taken_route : {s t : State} {p : Path} → Iteration body 0 s p t → Mem p (tails_by body ruled_out 0)
  unfolding tails_by
  taken_route {p = p} i =
      only_in (λ p. not (ruled_out p)) (paths body body.count 0) p (ap not (never.free i))
      (leads_path body g.onward body.count 0 p g.some (omega arith) (iteration_leads body g.onward i))

  module _ (cost : ℕ → ℕ → ℕ) where
    -- no iteration's weight is preferred to the best route's
    pub taken_best : (prefers : ℕ → ℕ → Bool) → Preference prefers → {s t : State} {p : Path} → Iteration body 0 s p t
        → (v : ℕ × Path) → best_by body ruled_out cost prefers ≡ some v
        → prefers (weight cost (last_block body) p) v.0 ≡ false
    unfolding best_by
    taken_best prefers ch {p = p} i v h =
        best_most prefers ch (map (weighed body cost) (tails_by body ruled_out 0)) v h (weighed body cost p)
        (map_in (weighed body cost) (tails_by body ruled_out 0) p (taken_route i))

    -- nor what a whole run costs to as many times the best weight
    pub taken_whole : (prefers : ℕ → ℕ → Bool) → Preference prefers → (v : ℕ × Path)
        → best_by body ruled_out cost prefers ≡ some v → {l : List (Path × ℕ)} (r : Run body l) → whole r ≡ true
        → prefers (run_cost body cost l) (bound_of (length l) v.0) ≡ false
    unfolding whole run_cost
    taken_whole prefers ch v h rests w = ap (prefers 0) (zero-mul v.0) ∙ ch.order.irr 0
    taken_whole prefers ch v h (repeats {p = p} {l = l} i r) w =
        ap (prefers (weight cost (last_block body) p + run_cost body cost l)) (one_more (length l) v.0)
        ∙ sum_unpreferred ch (weight cost (last_block body) p) v.0 (run_cost body cost l) (bound_of (length l) v.0)
        (taken_best prefers ch i v h) (taken_whole prefers ch v h r w)
    taken_whole prefers ch v h (breaks i r) w = clash w refl

    -- a whole run of just the count of iterations costs at least the bound of the count and the lightest weight
    pub taken_least : (v : ℕ × Path) → best_by body ruled_out cost lighter ≡ some v → (count : ℕ)
        → {l : List (Path × ℕ)} (r : Run body l) → whole r ≡ true → length l ≡ count
        → bound_of count v.0 ≤ run_cost body cost l
    taken_least v h count {l} r w n =
        rw (← n) (ltb-false (run_cost body cost l) (bound_of (length l) v.0)
        (taken_whole lighter (preference lightest) v h r w))

    -- a run of no more iterations than the count costs at most the bound of the count and the heaviest weight
    pub taken_bound : ((b way : ℕ) → cost b 0 ≤ cost b way) → (v : ℕ × Path)
        → best_by body ruled_out cost heavier ≡ some v → (count : ℕ) → {l : List (Path × ℕ)} → Run body l
        → length l ≤ count → run_cost body cost l ≤ bound_of count v.0
    taken_bound least v h count r n =
        let (m, s, w, e, c) = completed body g cost least r in
        le_trans c (le_trans
        (ltb-false (bound_of (length m) v.0) (run_cost body cost m)
        (taken_whole heavier (preference heaviest) v h s w))
        (mul-le-mul_right v.0 (omega arith)))

-- ---- and for pairs in conflict

module _ (body : Body) (g : Sound body) where
  never_taken : NeverTaken body (conflict body)
  never_taken = record { free = λ i. iteration_free body g.known i }

  pub iteration_route : {s t : State} {p : Path} → Iteration body 0 s p t → Mem p (routes body)
  unfolding tails tails_by
  iteration_route i = taken_route body g (conflict body) never_taken i

  module _ (cost : ℕ → ℕ → ℕ) where
    pub iteration_best : (prefers : ℕ → ℕ → Bool) → Preference prefers → {s t : State} {p : Path}
        → Iteration body 0 s p t → (v : ℕ × Path) → best_route body cost prefers ≡ some v
        → prefers (weight cost (last_block body) p) v.0 ≡ false
    unfolding best_route best_by tails tails_by
    iteration_best = taken_best body g (conflict body) never_taken cost

    pub run_best : (prefers : ℕ → ℕ → Bool) → Preference prefers → (v : ℕ × Path) → best_route body cost prefers ≡ some v
        → {l : List (Path × ℕ)} (r : Run body l) → whole r ≡ true
        → prefers (run_cost body cost l) (bound_of (length l) v.0) ≡ false
    unfolding best_route best_by tails tails_by
    run_best = taken_whole body g (conflict body) never_taken cost

    pub run_least : (v : ℕ × Path) → best_route body cost lighter ≡ some v → (count : ℕ) → {l : List (Path × ℕ)}
        (r : Run body l) → whole r ≡ true → length l ≡ count → bound_of count v.0 ≤ run_cost body cost l
    unfolding best_route best_by tails tails_by
    run_least = taken_least body g (conflict body) never_taken cost

    pub run_bound : ((b way : ℕ) → cost b 0 ≤ cost b way) → (v : ℕ × Path) → best_route body cost heavier ≡ some v
        → (count : ℕ) → {l : List (Path × ℕ)} → Run body l → length l ≤ count
        → run_cost body cost l ≤ bound_of count v.0
    unfolding best_route best_by tails tails_by
    run_bound = taken_bound body g (conflict body) never_taken cost
