-- The steps of a body's paths: what a path with one more step in front is, for walks in the graph, conflict, and the
-- edges that a path leaves bare. Rests on Route, Row and form's Conflict, whose tests it hardly looks into.
use Rattle.std.specs.Prelude.{◌≡◌, Bool, true, false, ◌&&◌, [], ◌∷◌, ℕ, zero, suc, ◌<◌, length}
use Rattle.std.proofs.Math.Path.{refl, sym, ap₂}
use Rattle.std.proofs.Common.{ap, subst, ◌∙◌, arith}
use Rattle.std.proofs.Math.Bool.{not, ◌||◌, or-false, and-true, and-or_distrib_right}
use Rattle.laws.specs.Terms.{Mem, any}
use Rattle.laws.specs.Tests.{four, nor, nor_swap, and_out, and_in, or_no, not_out, any_in, any_out, any_and, any_or}
use Rattle.laws.specs.Tests.{any_same}
use Rattle.form.specs.declared.Body.{Body}
use Rattle.form.specs.Conflict.{Edge, exits, condition, touches, opposes, denies, Onward, Clean, same}
use Rattle.form.specs.Conflict.Clean.{here, onward}
use Rattle.lower_laws.specs.Listed.{same_refl, same_eq, Way, way_of_lem, Real}
use Rattle.theory.specs.Route.{Path, at, conflict}
use Rattle.theory.specs.Row.{bare}

module _ (body : Body) where
  -- block b has an effect on e's variable
  abbrev pub wipes : ℕ → Edge → Bool
  wipes b e = touches body b (condition body e).variable

  -- what of the step x conflicts with e: its edge, or a constant of its block
  abbrev pub against : Edge → Edge → Bool
  against x e = opposes body x e || denies body x.0 e

  pub real_inside : Onward body → (e : Edge) → Real body e → e.0 < body.count
  real_inside w e (t, m) = omega (arith, w.above e.0 (e.1, t) m, w.inside e.0 (e.1, t) m)

  pub real_way : (e : Edge) → Real body e → Way e.1
  real_way e (t, m) = way_of_lem body e.0 (e.1, t) m

  -- the steps p lead from b to t
  abbrev pub Leads : ℕ → Path → ℕ → Type 0
  Leads b [] t = b ≡ t
  Leads b (x ∷ p) t = (u : ℕ) × (x.0 ≡ b) × Mem (x.1, u) (exits body b) × Leads u p t

  pub first_real : (b t : ℕ) (x : Edge) (p : Path) → Leads b (x ∷ p) t → Real body x
  first_real b t x p w = (w.0, rw w.1 w.2)

  pub real_at : (b t : ℕ) (p : Path) (q : ℕ) → Leads b p t → q < length p → Real body (at p q)
  real_at b t [] q w h = let z : ⊥ = omega arith in absurd z
  real_at b t (x ∷ p) zero w h = first_real b t x p w
  real_at b t (x ∷ p) (suc q) w h = real_at w.0 t p q w.3 (omega arith)

  -- ---- conflict

  -- an edge of the path that S has, and no block of the path up to and including its own wipes it
  unfoldable pub hit : (Edge → Bool) → Path → Bool
  hit S p = any (length p) (λ q. S (at p q) && not (any (suc q) (λ i. wipes (at p i).0 (at p q))))

  pub hit_nil : (S : Edge → Bool) → hit S [] ≡ false
  unfolding hit
  hit_nil S = refl

  pub conflict_nil : conflict body [] ≡ false
  unfolding conflict
  conflict_nil = refl

  pub hit_cons : (S : Edge → Bool) (x : Edge) (p : Path)
      → hit S (x ∷ p) ≡ (S x && not (wipes x.0 x) || hit (λ e. S e && not (wipes x.0 e)) p)
  unfolding hit
  hit_cons S x p =
      ap₂ ◌||◌ (ap (λ t. S x && not t) (or-false (wipes x.0 x)))
      (any_same (length p) _ _ (λ q. nor (S (at p q)) (wipes x.0 (at p q)) _))

  pub hit_or : (S R : Edge → Bool) (p : Path) → hit (λ e. S e || R e) p ≡ (hit S p || hit R p)
  unfolding hit
  hit_or S R p = any_same (length p) _ _ (λ q. and-or_distrib_right (S (at p q)) (R (at p q)) _) ∙ any_or (length p) _ _

  mix : (c d k a b : Bool) → ((c && k || a) || (d && k || b)) ≡ ((c || d) && k || (a || b))
  mix c d k a b = rw (and-or_distrib_right c d k) (four (c && k) a (d && k) b)

  pub conflict_cons : (x : Edge) (p : Path)
      → conflict body (x ∷ p) ≡ (denies body x.0 x || (hit (against x) p || conflict body p))
  unfolding conflict hit
  conflict_cons x p =
      ap₂ ◌||◌ (or-false (denies body x.0 x && true) ∙ and-true (denies body x.0 x))
      (any_same (length p) _ _ (λ q. mix (opposes body x (at p q)) (denies body x.0 (at p q)) _ _ _)
      ∙ any_or (length p) _ _)

  -- ---- bare edges

  pub bare_nil : (e : Edge) → bare body [] e ≡ false
  unfolding bare
  bare_nil e = refl

  pub bare_cons : (x : Edge) (p : Path) (e : Edge)
      → bare body (x ∷ p) e ≡ ((same x e || bare body p e) && not (wipes x.0 e))
  unfolding bare
  bare_cons x p e =
      ap₂ ◌||◌ (ap (λ t. same x e && not t) (or-false (wipes x.0 e)))
      (any_same (length p) _ _ (λ q. nor_swap (same (at p q) e) (wipes x.0 e) _)
      ∙ any_and (length p) _ (not (wipes x.0 e)))
      ∙ sym (and-or_distrib_right (same x e) (bare body p e) (not (wipes x.0 e)))

  bare_at : (p : Path) (q : ℕ) → q < length p → any (suc q) (λ i. wipes (at p i).0 (at p q)) ≡ false
      → bare body p (at p q) ≡ true
  unfolding bare
  bare_at p q h k = any_in (length p) _ q h (and_in (same_refl (at p q)) (ap not k))

  bare_out : (p : Path) (e : Edge) → bare body p e ≡ true
      → (q : ℕ) × (q < length p) × ((same (at p q) e ≡ true) × (any (suc q) (λ i. wipes (at p i).0 e) ≡ false))
  unfolding bare
  bare_out p e h =
      let (q, b, k) = any_out (length p) _ h in
      let (s, c) = and_out (same (at p q) e) _ k in
      (q, b, (s, not_out _ c))

  pub bare_real : (b t : ℕ) (p : Path) (e : Edge) → Leads b p t → bare body p e ≡ true → Real body e
  bare_real b t p e w h =
      let (q, l, m) = bare_out p e h in subst (Real body) (same_eq (at p q) e m.0) (real_at b t p q w l)

  -- a bare edge of a set is a hit, and every hit is one
  pub hit_of : (S : Edge → Bool) (p : Path) (e : Edge) → bare body p e ≡ true → S e ≡ true → hit S p ≡ true
  unfolding hit
  hit_of S p e r s =
      let (q, c, m) = bare_out p e r in
      any_in (length p) _ q c (rw (same_eq (at p q) e m.0) (and_in s (ap not m.1)))

  pub hit_out : (S : Edge → Bool) (p : Path) → hit S p ≡ true → (e : Edge) × (S e ≡ true) × (bare body p e ≡ true)
  unfolding hit
  hit_out S p h =
      let (q, b, k) = any_out (length p) _ h in
      let (s, c) = and_out (S (at p q)) _ k in
      (at p q, s, bare_at p q b (not_out _ c))

  -- ---- the way to a bare edge is clean

  cut : (b t : ℕ) (p : Path) (q : ℕ) (v : ℕ) → Leads b p t → q < length p
      → any (suc q) (λ i. touches body (at p i).0 v) ≡ false → Clean body v b (at p q).0
  cut b t [] q v w h k = let z : ⊥ = omega arith in absurd z
  cut b t (x ∷ p) zero v w h k = rw (← w.1) (here (or_no (touches body x.0 v) _ k).0)
  cut b t (x ∷ p) (suc q) v w h k =
      let (c, d) = or_no (touches body x.0 v) _ k in
      onward {b = b} (x.1, w.0) (rw (← w.1) c) w.2 (cut w.0 t p q v w.3 (omega arith) d)

  pub bare_clean : (b t : ℕ) (p : Path) (e : Edge) → Leads b p t → bare body p e ≡ true
      → Clean body (condition body e).variable b e.0
  bare_clean b t p e w h =
      let (q, l, m) = bare_out p e h in
      subst (λ (x : Edge). Clean body (condition body e).variable b x.0) (same_eq (at p q) e m.0)
      (cut b t p q (condition body e).variable w l m.1)
