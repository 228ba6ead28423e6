-- Runs are as wide as document 01 says: 'A run starts with any i32 values; unknown effects give any i32; open branches
-- go either way. Variables pass to the next iteration as left, or changed from outside.' What Run allows, as theorems:
-- a run that allowed less would refute one of them. And what a whole run is (`whole_says`): iterations to the end, each
-- from any state (`any_whole`). Rests on Run.
use Rattle.std.specs.Prelude.{◌≡◌, ◌↔◌, ◌⊎◌, Bool, true, false, cond, ◌||◌, ℕ, zero, suc, ◌+◌, ◌≤◌, ◌<◌, eqb, ℤ, length}
use Rattle.std.proofs.Math.Path.{refl, ap, subst}
use Rattle.std.proofs.Common.{sym, ◌∙◌, inl, inr, arith, eqb-true, ne_eqb, SFits}
use mathlib.Core.List.{List, [], ◌∷◌, ◌++◌}
use Rattle.std.proofs.Math.Option.{Option, none, some}
use Rattle.std.proofs.lemmas.Bool.{eqb-false}
use Rattle.std.specs.Int.{w32}
use Rattle.laws.specs.Terms.{Mem, any_of}
use Rattle.laws.specs.Tests.{split, clash, or_no, eqb_same}
use Rattle.laws.specs.Sets.{below_or_not}
use Rattle.lower_laws.specs.Endings.{by_ending}
use Rattle.form.specs.declared.Body.{Body}
use Rattle.form.specs.declared.Effect.{Effect}
use Rattle.form.specs.Conflict.{block, effects_of, exits_by, exits, later, last_on, Sound}
use Rattle.theory.specs.Route.{Path, last_block, weight}
use Rattle.theory.specs.Run.{State, Does, Do, holds_at, Leaves, Iteration, Beginning, Run, whole, run_cost}
use Rattle.theory.specs.Run.Do.{done, does}
use Rattle.theory.specs.Run.Iteration.{ends, goes}
use Rattle.theory.specs.Run.Beginning.{stops, passes}
use Rattle.theory.specs.Run.Run.{rests, repeats, breaks}

-- ---- states and effects

-- every assignment of i32 values is a state
pub any_state : (f : ℕ → ℤ) → ((v : ℕ) → SFits w32 (f v)) → (s : State) × ((v : ℕ) → s.value v ≡ f v)
any_state f fits = (record { value = f; fits = fits }, λ v. refl)

-- from s to t the variable v comes to hold x, and the others stay
pub record Sets (v : ℕ) (x : ℤ) (s t : State) : Type 0 where
  pub here : t.value v ≡ x
  pub others : (w : ℕ) → (w ≡ v → ⊥) → t.value w ≡ s.value w

-- a variable can come to hold any i32
can_set : (v : ℕ) (x : ℤ) → SFits w32 x → (s : State) → (t : State) × Sets v x s t
can_set v x fits s =
    let (t, same) = any_state value in_range in
    (t, record { here = same v ∙ rw (eqb_same v); others = λ w n. same w ∙ rw (ne_eqb w v n) })
  where
    value : ℕ → ℤ
    value w = cond (eqb w v) x (s.value w)

    in_range : (w : ℕ) → SFits w32 (value w)
    in_range w = split (eqb w v) (λ e. rw e fits) (λ e. rw e (s.fits w))

-- after an unknown effect any i32 can stand
pub unknown_gives_any : (a : Effect) → a.how ≡ 0 → (x : ℤ) → SFits w32 x → (s : State)
    → (t : State) × Does a s t × Sets a.variable x s t
unknown_gives_any a unknown x fits s =
    let (t, e) = can_set a.variable x fits s in
    (t, record { constant = λ h. absurd (known (sym unknown ∙ h)); others = e.others }, e)
  where
    known : ◌≡◌ {A = ℕ} 0 1 → ⊥
    known h = omega arith

-- after a constant effect the constant can stand
pub constant_given : (a : Effect) → SFits w32 a.constant → (s : State)
    → (t : State) × Does a s t × Sets a.variable a.constant s t
constant_given a fits s =
    let (t, e) = can_set a.variable a.constant fits s in
    (t, record { constant = λ h. e.here; others = e.others }, e)

-- and nothing else
pub constant_only : (a : Effect) → a.how ≡ 1 → {s t : State} → Does a s t → Sets a.variable a.constant s t
constant_only a known d = record { here = d.constant known; others = d.others }

-- effects can be done one after the other
pub in_order : {a : Effect} {l : List Effect} {r s t : State} → Does a r s → Do l s t → Do (a ∷ l) r t
in_order d r = does d r

-- so in every state the effects of a block can be done
pub all_done : (l : List Effect) → ((a : Effect) → Mem a l → SFits w32 a.constant) → (s : State)
    → (t : State) × Do l s t
all_done [] fits s = (s, done)
all_done (a ∷ l) fits s =
    let (t, d, e) = constant_given a (fits a (inl refl)) s in
    let (u, r) = all_done l (λ e m. fits e (inr m)) t in
    (u, in_order d r)

-- what no effect is on stays
pub stays : (v : ℕ) {l : List Effect} {s t : State} → Do l s t → any_of (λ a. eqb a.variable v) l ≡ false
    → t.value v ≡ s.value v
stays v done h = refl
stays v (does {a = a} {l = l} d r) h =
    let (n, k) = or_no (eqb a.variable v) _ h in
    stays v r k ∙ d.others v (λ e. eqb-false a.variable v n (sym e))

later_none : (x y : Option Effect) → later x y ≡ none → (x ≡ none) × (y ≡ none)
later_none x none h = (h, refl)
later_none x (some a) h = let z : ◌≡◌ {A = ℕ} 0 1 = cc in absurd (omega arith)

pub untouched : (v : ℕ) (l : List Effect) → last_on v l ≡ none → any_of (λ a. eqb a.variable v) l ≡ false
unfolding last_on
untouched v [] h = refl
untouched v (a ∷ l) h =
    go (eqb a.variable v) (later_none (cond (eqb a.variable v) (some a) none) (last_on v l) h) (untouched v l)
  where
    go : (c : Bool) → (cond c (some a) none ≡ none) × (last_on v l ≡ none)
        → (last_on v l ≡ none → any_of (λ a. eqb a.variable v) l ≡ false)
        → (c || any_of (λ a. eqb a.variable v) l) ≡ false
    go true (p, k) f = let z : ◌≡◌ {A = ℕ} 0 1 = cc in absurd (omega arith)
    go false (p, k) f = f k

-- after effects of which the last on v is unknown, any i32 can stand in v
pub unknown_stands : (v : ℕ) (l : List Effect) → ((a : Effect) → Mem a l → SFits w32 a.constant) → (a : Effect)
    → last_on v l ≡ some a → a.how ≡ 0 → (x : ℤ) → SFits w32 x → (s : State) → (t : State) × Do l s t × (t.value v ≡ x)
unfolding last_on
unknown_stands v [] fits a h unknown x small s = let z : ◌≡◌ {A = ℕ} 0 1 = cc in absurd (omega arith)
unknown_stands v (b ∷ l) fits a h unknown x small s =
    by (eqb b.variable v) (last_on v l) refl refl h
    (λ q. unknown_stands v l (λ e m. fits e (inr m)) a q unknown x small)
  where
    by : (c : Bool) (o : Option Effect) → eqb b.variable v ≡ c → last_on v l ≡ o
        → later (cond c (some b) none) o ≡ some a
        → (last_on v l ≡ some a → (r : State) → (t : State) × Do l r t × (t.value v ≡ x))
        → (t : State) × Do (b ∷ l) s t × (t.value v ≡ x)
    by c (some e) p q h rest =
        let (r, d, k) = constant_given b (fits b (inl refl)) s in
        let (t, m, g) = rest (q ∙ h) r in
        (t, in_order d m, g)
    by true none p q h rest =
        let same : b ≡ a = cc in
        let at : v ≡ b.variable = sym (eqb-true b.variable v p) in
        let (r, d, k) = unknown_gives_any b (ap (λ (e : Effect). e.how) same ∙ unknown) x small s in
        let (t, m) = all_done l (λ e m. fits e (inr m)) r in
        (t, in_order d m, stays v m (untouched v l q) ∙ ap r.value at ∙ k.here)
    by false none p q h rest = let z : ◌≡◌ {A = ℕ} 0 1 = cc in absurd (omega arith)

-- ---- leaving a block

module _ (body : Body) (b : ℕ) (s : State) (o : ℕ × ℕ) where
  abbrev jumping : ℕ × ℕ
  jumping = (1, (block body b).jump)

  abbrev falling : ℕ × ℕ
  falling = (2, (block body b).fall)

  exits_of : (ending : ℕ) → (block body b).ending ≡ ending
      → exits body b ≡ exits_by ending (block body b).jump (block body b).fall
  unfolding exits
  exits_of ending e = ap (λ k. exits_by k (block body b).jump (block body b).fall) e

  -- a block that goes is left by its jump, from any state
  pub go_left : (block body b).ending ≡ 1 → Leaves body b s o ↔ (o ≡ jumping)
  go_left e = (λ l. to (subst (Mem o) (exits_of 1 e) l.exit), from)
    where
      to : Mem o (jumping ∷ []) → o ≡ jumping
      to (inr x') = elim x' [ ]
      to (inl p) = p

      from : o ≡ jumping → Leaves body b s o
      from p = record {
        exit = subst (Mem o) (sym (exits_of 1 e)) (inl p);
        jump = λ h _. ap (λ (x : ℕ × ℕ). x.0) p;
        fall = λ h _. absurd (let z : ◌≡◌ {A = ℕ} 1 3 = sym e ∙ h in omega arith);
      }

  -- an open branch is left by either exit, from any state
  pub open_left : (block body b).ending ≡ 2 → Leaves body b s o ↔ ((o ≡ jumping) ⊎ (o ≡ falling))
  open_left e = (λ l. to (subst (Mem o) (exits_of 2 e) l.exit), from)
    where
      to : Mem o (jumping ∷ falling ∷ []) → (o ≡ jumping) ⊎ (o ≡ falling)
      to (inl p) = inl p
      to (inr (inr x'')) = elim x'' [ ]
      to (inr (inl p)) = inr p

      among : (o ≡ jumping) ⊎ (o ≡ falling) → Mem o (jumping ∷ falling ∷ [])
      among (inl p) = inl p
      among (inr p) = inr (inl p)

      from : (o ≡ jumping) ⊎ (o ≡ falling) → Leaves body b s o
      from p = record {
        exit = subst (Mem o) (sym (exits_of 2 e)) (among p);
        jump = λ h _. absurd (let z : ◌≡◌ {A = ℕ} 2 3 = sym e ∙ h in omega arith);
        fall = λ h _. absurd (let z : ◌≡◌ {A = ℕ} 2 3 = sym e ∙ h in omega arith);
      }

  -- a test is left by the way that its relation tells, and by no other
  pub test_left : (block body b).ending ≡ 3 → Leaves body b s o ↔ (o ≡ cond (holds_at body b s) jumping falling)
  test_left e = (
    λ l. to (holds_at body b s) refl (subst (Mem o) (exits_of 3 e) l.exit) (l.jump e) (l.fall e),
    λ p. record {
      exit = subst (Mem o) (sym (exits_of 3 e)) (among (holds_at body b s) p);
      jump = λ _ h. ap (λ (x : ℕ × ℕ). x.0) (p ∙ ap (λ c. cond c jumping falling) h);
      fall = λ _ h. ap (λ (x : ℕ × ℕ). x.0) (p ∙ ap (λ c. cond c jumping falling) h);
    },
  )
    where
      way : (x : ℕ × ℕ) → o ≡ x → o.0 ≡ x.0
      way x p = ap (λ (y : ℕ × ℕ). y.0) p

      to : (c : Bool) → holds_at body b s ≡ c → Mem o (jumping ∷ falling ∷ []) → (holds_at body b s ≡ true → o.0 ≡ 1)
          → (holds_at body b s ≡ false → o.0 ≡ 2) → o ≡ cond c jumping falling
      to true h (inl p) j f = p
      to true h (inr (inl p)) j f = absurd (let z : ◌≡◌ {A = ℕ} 1 2 = sym (j h) ∙ way falling p in omega arith)
      to false h (inl p) j f = absurd (let z : ◌≡◌ {A = ℕ} 2 1 = sym (f h) ∙ way jumping p in omega arith)
      to false h (inr (inr x8)) j f = elim x8 [ ]
      to true h (inr (inr x7)) j f = elim x7 [ ]
      to false h (inr (inl p)) j f = p

      among : (c : Bool) → o ≡ cond c jumping falling → Mem o (jumping ∷ falling ∷ [])
      among true p = inl p
      among false p = inr (inl p)

-- ---- iterations

module _ (body : Body) where
  -- the last block's effects end an iteration
  pub iteration_ends : {b : ℕ} {s t : State} → suc b ≡ body.count → Do (effects_of body b) s t → Iteration body b s [] t
  iteration_ends e d = ends e d

  -- a block's effects, a way to leave it, and an iteration from where that leads
  pub iteration_goes : {b : ℕ} {s t u : State} {p : Path} (o : ℕ × ℕ) → Do (effects_of body b) s t → Leaves body b t o
      → Iteration body o.1 t p u → Iteration body b s ((b, o.0) ∷ p) u
  iteration_goes o d l i = goes o d l i

  -- the block in which what is left of a path begins
  abbrev pub entered : Path → ℕ
  entered [] = last_block body
  entered (x ∷ p) = x.0

  starts_in : {b : ℕ} {s t : State} (p : Path) → Iteration body b s p t → b ≡ entered p
  starts_in p (ends e d) = omega arith
  starts_in p (goes o d l i) = refl

  -- an iteration can be left early in any block that it has entered
  pub left_early : {b : ℕ} {s t : State} (p q : Path) → Iteration body b s (p ++ q) t → Beginning body b s p (entered q)
  left_early [] q i = subst (Beginning body _ _ []) (starts_in q i) stops
  left_early (x ∷ p) q (goes o d l i) = passes o d l (left_early p q i)

module _ (body : Body) (g : Sound body) where
  -- from every state each block but the last can be left
  pub can_leave : (b : ℕ) → suc b < body.count → (s : State) → (o : ℕ × ℕ) × Leaves body b s o
  can_leave b h s =
      let (o, m) = g.going b h in
      by_ending (block body b).jump (block body b).fall
      (λ ending l. (block body b).ending ≡ ending → Mem o l → (x : ℕ × ℕ) × Leaves body b s x) (λ e n. absurd n)
      (λ e n. (jump, (go_left body b s jump e).1 refl)) (λ e n. (jump, (open_left body b s jump e).1 (inl refl)))
      (λ e n. (_, (test_left body b s _ e).1 refl)) (λ above h e n. absurd n) (block body b).ending refl
      (subst (Mem o) (exits_of body b s o _ refl) m)
    where
      jump : ℕ × ℕ
      jump = (1, (block body b).jump)

  -- one block more: the last one ends, another is left and goes on
  one_step : (b : ℕ) → b < body.count → (s : State)
      → ((o : ℕ × ℕ) → Mem o (exits body b) → (t : State) → (p : Path) × (u : State) × Iteration body o.1 t p u)
      → (p : Path) × (t : State) × Iteration body b s p t
  one_step b h s rest = by (below_or_not (suc b) body.count)
    where
      by : (suc b < body.count) ⊎ (body.count ≤ suc b) → (p : Path) × (t : State) × Iteration body b s p t
      by (inr k) =
          let (t, d) = all_done (effects_of body b) (g.fits b) s in
          ([], t, iteration_ends body {b = b} (omega arith) d)
      by (inl k) =
          let (t, d) = all_done (effects_of body b) (g.fits b) s in
          let (o, e) = can_leave b k t in
          let (p, u, i) = rest o e.exit t in
          ((b, o.0) ∷ p, u, iteration_goes body o d e i)

  -- from every block and every state some iteration goes on to the end
  pub goes_on_lem : (n b : ℕ) → b < body.count → body.count ≤ b + n → (s : State)
      → (p : Path) × (t : State) × Iteration body b s p t
  goes_on_lem zero b h l s = absurd (omega arith)
  goes_on_lem (suc n) b h l s =
      one_step b h s (λ o m t. goes_on_lem n o.1 (g.onward.inside b o m) (omega (arith, g.onward.above b o m)) t)

  -- every state can start an iteration
  pub any_start : (s : State) → (p : Path) × (t : State) × Iteration body 0 s p t
  any_start s = goes_on_lem body.count 0 g.some (omega arith) s

-- ---- runs

module _ (body : Body) where
  -- a run may have no iteration
  pub no_run : Run body []
  no_run = rests

  -- it goes on with any iteration, from whatever state, to its end or left early
  pub whole_next : {l : List (Path × ℕ)} → Run body l → {s t : State} {p : Path} → Iteration body 0 s p t
      → Run body ((p, last_block body) ∷ l)
  whole_next r i = repeats i r

  pub early_next : {l : List (Path × ℕ)} → Run body l → {s : State} {p : Path} {last : ℕ} → Beginning body 0 s p last
      → Run body ((p, last) ∷ l)
  early_next r i = breaks i r

  -- it costs what its iterations cost
  pub cost_next : (cost : ℕ → ℕ → ℕ) (p : Path) (last : ℕ) (l : List (Path × ℕ))
      → run_cost body cost ((p, last) ∷ l) ≡ weight cost last p + run_cost body cost l
  unfolding run_cost
  cost_next cost p last l = refl

-- so the next iteration may start from any state
pub any_next : (body : Body) → Sound body → {l : List (Path × ℕ)} → Run body l → (s : State)
    → (p : Path) × (t : State) × Iteration body 0 s p t × Run body ((p, last_block body) ∷ l)
any_next body g r s = let (p, t, i) = any_start body g s in (p, t, i, whole_next body r i)

-- ---- whole runs: none of their iterations is left early

module _ (body : Body) where
  -- each path is that of an iteration from its own start to the end
  abbrev pub AllToTheEnd : List State → List (Path × ℕ) → Type 0
  AllToTheEnd [] [] = Unit {0}
  AllToTheEnd [] (x ∷ l) = ⊥
  AllToTheEnd (s ∷ starts) [] = ⊥
  AllToTheEnd (s ∷ starts) (x ∷ l) =
      ((t : State) × Iteration body 0 s x.0 t) × (x.1 ≡ last_block body) × AllToTheEnd starts l

  whole_of : (starts : List State) (l : List (Path × ℕ)) → AllToTheEnd starts l → (r : Run body l) × (whole r ≡ true)
  unfolding whole
  whole_of [] (x ∷ l) e = elim e [ ]
  whole_of (s ∷ starts) [] e = elim e [ ]
  whole_of [] [] e = (rests, refl)
  whole_of (s ∷ starts) (x ∷ l) ((t, i), last, e) =
      let (r, w) = whole_of starts l e in
      subst (λ (b : ℕ). (r : Run body ((x.0, b) ∷ l)) × (whole r ≡ true)) (sym last) (repeats i r, w)

  all_of : {l : List (Path × ℕ)} (r : Run body l) → whole r ≡ true → (starts : List State) × AllToTheEnd starts l
  unfolding whole
  all_of rests w = ([], tt)
  all_of (repeats {s = s} {t = t} i r) w = let (starts, e) = all_of r w in (s ∷ starts, ((t, i), refl, e))
  all_of (breaks i r) w = clash w refl

  -- the paths of whole runs are just these
  pub whole_says : (l : List (Path × ℕ))
      → ((r : Run body l) × (whole r ≡ true)) ↔ ((starts : List State) × AllToTheEnd starts l)
  whole_says l = (λ r. all_of r.0 r.1, λ e. whole_of e.0 l e.1)

-- so from every list of states, one for each iteration, there is a whole run of that many
pub any_whole : (body : Body) → Sound body → (starts : List State)
    → (l : List (Path × ℕ)) × (length l ≡ length starts) × AllToTheEnd body starts l
    × ((r : Run body l) × (whole r ≡ true))
any_whole body g starts = let (l, n, e) = each_start starts in (l, n, e, (whole_says body l).1 (starts, e))
  where
    each_start : (starts : List State)
        → (l : List (Path × ℕ)) × (length l ≡ length starts) × AllToTheEnd body starts l
    each_start [] = ([], refl, tt)
    each_start (s ∷ starts) =
        let (p, t, i) = any_start body g s in
        let (l, n, e) = each_start starts in
        ((p, last_block body) ∷ l, ap suc n, ((t, i), refl, e))
