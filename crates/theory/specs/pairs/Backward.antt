-- Theorem 3 for the machine that reads tails from their end. Its state is the set of open edges; a step in front is
-- dropped exactly where it conflicts with an open edge or with itself. It drops a tail exactly when the tail has a
-- conflict, and otherwise comes to the open edges as Row defines them (`backward`). Rests on Steps, Edges and, of the
-- conflict list, on what `Listing` asks.
use Rattle.std.specs.Prelude.{◌≡◌, refl, Bool, true, false, cond, ◌||◌, ◌&&◌, ℕ, ◌<◌}
use Rattle.std.proofs.Common.{sym, subst, ◌∙◌}
use Rattle.std.proofs.Math.Bool.{not, or-false, or-true, and-true, and-false}
use mathlib.Core.List.{List, [], ◌∷◌}
use Rattle.std.proofs.Math.Option.{Option, none, some}
use Rattle.laws.specs.Terms.{Mem}
use Rattle.laws.specs.Tests.{both, and_out, and_in, or_out, or_in_left, or_in_right}
use Rattle.form.specs.declared.Body.{Body}
use Rattle.form.specs.Conflict.{Edge, Pair, exits, is_test, condition, opposes, denies, Onward, Clean, same, listed}
use Rattle.theory.specs.Route.{Path, conflict}
use Rattle.theory.specs.Row.{Key, bare, open_edges}
use Rattle.theory.specs.machines.Machine.{Machine, on_body, then_step, read_back}
use Rattle.lower_laws.specs.Listed.{Way, Real, denies_test, same_refl, same_eq}
use Rattle.theory.specs.pairs.Steps.{Leads, wipes, against, real_inside, real_way, hit, hit_of, hit_out}
use Rattle.theory.specs.pairs.Steps.{conflict_nil}
use Rattle.theory.specs.pairs.Steps.{conflict_cons, bare_nil, bare_cons, bare_real, bare_clean}
use Rattle.theory.specs.pairs.Edges.{has, edges_of, any_edge, no_edges, has_edges_of, any_edge_in, any_edge_out}
use Rattle.theory.specs.pairs.Edges.{edges_same}
use Rattle.theory.specs.pairs.Edges.{edges_none}

-- ---- the machine

-- the open edges with the step's own
abbrev pub with_own : Body → Edge → Key → Edge → Bool
with_own body x s e = has s e || is_test body x.0 && same x e

-- the step's edge conflicts with an open edge, or its block denies an open edge or the step's own
unfoldable pub drops : Body → Edge → Key → Bool
drops body x s = any_edge body.count (λ e. has s e && opposes body x e || with_own body x s e && denies body x.0 e)

unfoldable pub opened : Body → List Pair → Edge → Key → Key
opened body list x s =
    edges_of body.count (λ e. with_own body x s e && not (wipes body x.0 e) && listed list x.0 e)

abbrev pub step_back : Body → List Pair → Edge → Key → Option Key
step_back body list x s = cond (drops body x s) none (some (opened body list x s))

abbrev pub back_machine : Body → List Pair → (cost : ℕ → ℕ → ℕ) → Machine Key
back_machine body list cost = on_body body cost (step_back body list) no_edges

-- ---- what the machine needs of the conflict list

pub record Listing (body : Body) (list : List Pair) : Type 0 where
  pub wider : (b c : ℕ) (e : Edge) → b < c → listed list b e ≡ true → listed list c e ≡ true
  pub tests : (b : ℕ) (e : Edge) → listed list b e ≡ true → is_test body e.0 ≡ true
  pub live : (x e : Edge) (u : ℕ) → Mem (x.1, u) (exits body x.0) → Real body e → against body x e ≡ true
      → Clean body (condition body e).variable u e.0
      → listed list u e ≡ true

mingle : (r n s k low high : Bool) → (low ≡ true → high ≡ true) → (low ≡ true → s ≡ true → n ≡ true)
    → ((r && high || n && s) && k && low) ≡ (((s || r) && k) && low)
mingle r n s k false high h g = simp and-false
mingle r n false k true high h g = rw (h refl, and-true r, and-false n, or-false r)
mingle r n true k true high h g = rw (g refl refl, or-true)

module _ (body : Body) (w : Onward body) (list : List Pair) (L : Listing body list) where
  -- the open edges of a tail, edge by edge
  open_has : (b : ℕ) (p : Path) (e : Edge) → e.0 < body.count → Way e.1
      → has (open_edges body list b p) e ≡ (bare body p e && listed list b e)
  unfolding open_edges
  open_has b p e h v = has_edges_of body.count (λ e. bare body p e && listed list b e) e h v

  -- the step's open edges are those of the tail with the step in front
  open_edge : (x : Edge) (u : ℕ) (p : Path) → x.0 < u → (e : Edge) → e.0 < body.count → Way e.1
      → (with_own body x (open_edges body list u p) e && not (wipes body x.0 e) && listed list x.0 e)
      ≡ (bare body (x ∷ p) e && listed list x.0 e)
  open_edge x u p l e h v = rw (open_has u p e h v, bare_cons body x p e)
      (mingle (bare body p e) (is_test body x.0) (same x e) (not (wipes body x.0 e)) (listed list x.0 e)
      (listed list u e)
      (L.wider x.0 u e l) (λ k s. rw (same_eq x e s) (L.tests x.0 e k)))

  open_step : (x : Edge) (u : ℕ) (p : Path) → x.0 < u
      → opened body list x (open_edges body list u p) ≡ open_edges body list x.0 (x ∷ p)
  unfolding opened open_edges
  open_step x u p l =
      edges_same body.count
      (λ e. with_own body x (open_edges body list u p) e && not (wipes body x.0 e) && listed list x.0 e)
      (λ e. bare body (x ∷ p) e && listed list x.0 e) (open_edge x u p l)

  open_nil : (b : ℕ) → open_edges body list b [] ≡ no_edges
  unfolding open_edges
  open_nil b = edges_none body.count (λ e. bare body [] e && listed list b e) (λ e. rw (bare_nil body e))

  -- the step is dropped just where it conflicts with its own block or with a bare edge behind it
  drops_is : (x : Edge) (u t : ℕ) (p : Path) → Mem (x.1, u) (exits body x.0) → Leads body u p t
      → drops body x (open_edges body list u p) ≡ (denies body x.0 x || hit body (against body x) p)
  unfolding drops
  drops_is x u t p m l = both _ _ to from
    where
      s : Key
      s = open_edges body list u p

      clashing : Edge → Bool
      clashing e = has s e && opposes body x e || with_own body x s e && denies body x.0 e

      struck : (e : Edge) → e.0 < body.count → Way e.1 → has s e ≡ true → against body x e ≡ true
          → (denies body x.0 x || hit body (against body x) p) ≡ true
      struck e h v o a =
          or_in_right (denies body x.0 x)
          (hit_of body (against body x) p e (and_out (bare body p e) _ (sym (open_has u p e h v) ∙ o)).0 a)

      to : any_edge body.count clashing ≡ true → (denies body x.0 x || hit body (against body x) p) ≡ true
      to k =
          let (e, h, v, c) = any_edge_out body.count clashing k in
          or_out (has s e && opposes body x e) _ c
          (λ c. let (o, a) = and_out (has s e) _ c in struck e h v o (or_in_left _ a))
          (λ c. let (o, d) = and_out (with_own body x s e) _ c in
          or_out (has s e) _ o
          (λ o. struck e h v o (or_in_right (opposes body x e) d))
          (λ o. or_in_left _ (subst (λ (z : Edge). denies body x.0 z ≡ true)
          (sym (same_eq x e (and_out (is_test body x.0) _ o).1)) d)))

      real : Real body x
      real = (u, m)

      from : (denies body x.0 x || hit body (against body x) p) ≡ true → any_edge body.count clashing ≡ true
      from k = or_out (denies body x.0 x) _ k
          (λ d. any_edge_in body.count clashing x (real_inside body w x real) (real_way body x real)
          (or_in_right (has s x && opposes body x x)
          (and_in (or_in_right (has s x) (and_in (denies_test body x.0 x d) (same_refl x))) d)))
          (λ k. let (e, a, r) = hit_out body (against body x) p k in
          let g = bare_real body u t p e l r in
          let h = real_inside body w e g in
          let v = real_way body e g in
          let o : has s e ≡ true = open_has u p e h v ∙ and_in r (L.live x e u m g a (bare_clean body u t p e l r)) in
          any_edge_in body.count clashing e h v
          (or_out (opposes body x e) _ a
          (λ a. or_in_left _ (and_in o a))
          (λ d. or_in_right (has s e && opposes body x e) (and_in (or_in_left _ o) d))))

  last : (cost : ℕ → ℕ → ℕ) (c d h : Bool) (x : Edge) (s : Key) → drops body x s ≡ (d || h)
      → then_step (back_machine body list cost) x (cond c none (some s))
      ≡ cond (d || (h || c)) none (some (opened body list x s))
  last cost true d h x s p = rw (or-true h, or-true d)
  last cost false d h x s p = rw (or-false h, p)

  -- a tail is dropped just where it has a conflict, and else its key is its open edges
  pub backward : (cost : ℕ → ℕ → ℕ) (b t : ℕ) (p : Path) → Leads body b p t
      → read_back (back_machine body list cost) p ≡ cond (conflict body p) none (some (open_edges body list b p))
  unfolding read_back
  backward cost b t [] l = rw (conflict_nil body, open_nil b)
  backward cost b t (x ∷ p) l =
      let m : Mem (x.1, l.0) (exits body x.0) = rw l.1 l.2 in
      rw (
        backward cost l.0 t p l.3,
        conflict_cons body x p,
        ← l.1,
        ← open_step x l.0 p
            (w.above x.0 (x.1, l.0) m),
      )
      (last cost (conflict body p) (denies body x.0 x) (hit body (against body x) p) x (open_edges body list l.0 p)
      (drops_is x l.0 t p m l.3))
