-- Theorem 3 for the machine that reads paths from their start. Its state is the set of banned edges: those that a step
-- so far, not yet overwritten, conflicts with. It allows a path exactly when the path has no conflict (`forward`).
-- Rests on Steps and Edges.
use Rattle.std.specs.Prelude.{◌≡◌, refl, Bool, true, false, cond, ◌||◌, ◌&&◌, ℕ}
use Rattle.std.proofs.Common.{sym, ap, ◌∙◌}
use Rattle.std.proofs.Math.Bool.{not}
use mathlib.Core.List.{[], ◌∷◌}
use Rattle.std.proofs.Math.Option.{Option, none, some}
use Rattle.laws.specs.Tests.{both, clash, is_false, Or·sort}
use Rattle.form.specs.declared.Body.{Body}
use Rattle.form.specs.Conflict.{Edge, opposes, denies, Onward}
use Rattle.theory.specs.Route.{Path, conflict}
use Rattle.theory.specs.Row.{Key}
use Rattle.theory.specs.machines.Machine.{Machine, on_body, goes_on, allowed}
use Rattle.lower_laws.specs.Listed.{Real}
use Rattle.theory.specs.pairs.Steps.{Leads, wipes, real_inside, real_way, hit, hit_nil, hit_cons, hit_or, hit_of}
use Rattle.theory.specs.pairs.Steps.{hit_out, conflict_nil, conflict_cons, bare_real}
use Rattle.theory.specs.pairs.Edges.{has, edges_of, no_edges, has_edges_of, has_none}

-- ---- the machine

-- banned after the effects of block b
abbrev pub entered : Body → ℕ → Key → Edge → Bool
entered body b s e = has s e && not (wipes body b e) || denies body b e

-- banned after the step x
unfoldable pub banned : Body → Edge → Key → Key
banned body x s = edges_of body.count (λ e. entered body x.0 s e || opposes body x e)

abbrev pub step_on : Body → Edge → Key → Option Key
step_on body x s = cond (entered body x.0 s x) none (some (banned body x s))

abbrev pub on_machine : Body → (cost : ℕ → ℕ → ℕ) → Machine Key
on_machine body cost = on_body body cost (step_on body) no_edges

-- ---- the theorem

module _ (body : Body) (w : Onward body) where
  -- only the real edges matter
  hit_same : (S R : Edge → Bool) (b t : ℕ) (p : Path) → Leads body b p t → ((e : Edge) → Real body e → S e ≡ R e)
      → hit body S p ≡ hit body R p
  hit_same S R b t p l h = both _ _
      (λ k. let (e, s, r) = hit_out body S p k in hit_of body R p e r (sym (h e (bare_real body b t p e l r)) ∙ s))
      (λ k. let (e, s, r) = hit_out body R p k in hit_of body S p e r (h e (bare_real body b t p e l r) ∙ s))

  banned_has : (x : Edge) (s : Key) (e : Edge) → Real body e
      → has (banned body x s) e ≡ (entered body x.0 s e || opposes body x e)
  unfolding banned
  banned_has x s e r =
      has_edges_of body.count (λ e. entered body x.0 s e || opposes body x e) e (real_inside body w e r)
      (real_way body e r)

  hit_banned : (x : Edge) (s : Key) (b t : ℕ) (p : Path) → Leads body b p t
      → hit body (has (banned body x s)) p
      ≡ ((hit body (λ e. has s e && not (wipes body x.0 e)) p || hit body (denies body x.0) p) || hit body
      (opposes body x) p)
  hit_banned x s b t p l =
      hit_same (has (banned body x s)) (λ e. entered body x.0 s e || opposes body x e) b t p l (banned_has x s)
      ∙ hit_or body (entered body x.0 s) (opposes body x) p
      ∙ ap (λ a. a || hit body (opposes body x) p)
      (hit_or body (λ e. has s e && not (wipes body x.0 e)) (denies body x.0) p)

  turn : (a d s e c k : Bool) → (not (a || d) && not (((s || e) || c) || k)) ≡ not ((a || s) || (d || ((c || e) || k)))
  turn true d s e c k = refl
  turn false true true e c k = refl
  turn false true false e c k = refl
  turn false false s e c k = simp Or·sort

  goes_on_lem : (cost : ℕ → ℕ → ℕ) (c : Bool) (s : Key) (f : Key → Bool)
      → goes_on (on_machine body cost) (cond c none (some s)) f ≡ (not c && f s)
  goes_on_lem cost true s f = refl
  goes_on_lem cost false s f = refl

  pub allowed_is : (cost : ℕ → ℕ → ℕ) (b t : ℕ) (p : Path) (s : Key) → Leads body b p t
      → allowed (on_machine body cost) p s ≡ not (hit body (has s) p || conflict body p)
  unfolding allowed
  allowed_is cost b t [] s l = rw (hit_nil body (has s), conflict_nil body)
  allowed_is cost b t (x ∷ p) s l =
      goes_on_lem cost (entered body x.0 s x) (banned body x s) (allowed (on_machine body cost) p)
      ∙ rw (
        allowed_is cost l.0 t p (banned body x s) l.3,
        hit_banned x s l.0 t p l.3,
        hit_cons body
            (has s) x p,
        conflict_cons body x p,
        hit_or body (opposes body x) (denies body x.0) p,
      )
      (turn (has s x && not (wipes body x.0 x)) (denies body x.0 x) _ _ _ _)

  none_hit : (p : Path) → hit body (has no_edges) p ≡ false
  none_hit p =
      is_false (hit body (has no_edges) p)
      (λ k. let (e, s, r) = hit_out body (has no_edges) p k in clash s (has_none e))

  -- a path is allowed just where it has no conflict
  pub forward : (cost : ℕ → ℕ → ℕ) (b t : ℕ) (p : Path) → Leads body b p t
      → allowed (on_machine body cost) p no_edges ≡ not (conflict body p)
  forward cost b t p l = allowed_is cost b t p no_edges l ∙ rw (none_hit p)
