-- The tests and lists of Route read as document 01 words them: a path has a conflict exactly when such a pair stands in
-- it in order with no effect on the variable between (`conflict_says`), and a beginning is exactly what some route
-- begins with (`beginning_says`). Rests on Route, Steps, Passes and lower_laws.
use Rattle.std.specs.Prelude.{◌≡◌, refl, ◌↔◌, ◌⊎◌, Bool, false, not, ◌||◌, ◌&&◌, [], ◌∷◌, ◌++◌, ℕ, zero, suc, ◌+◌, ◌≤◌, ◌<◌, eqb, length}
use Rattle.std.proofs.Common.{sym, ap, subst, eqb-true}
use Rattle.std.proofs.Math.Logic.{inl, inr}
use Rattle.std.proofs.Math.Bool.{true}
use native.Mathlib.Omega.{arith}
use Rattle.std.proofs.lemmas.Bool.{eqb-false}
use Rattle.laws.specs.Terms.{Mem, any, before}
use Rattle.laws.specs.Tests.{split, clash, and_out, and_in, or_out, or_in_left, or_in_right, not_out, any_in, any_out}
use Rattle.laws.specs.Tests.{before_in, before_out, is_false}
use Rattle.form.specs.declared.Body.{Body}
use Rattle.form.specs.Conflict.{Edge, exits, is_test, condition, touches, opposes, denies, Contradict, Onward, Sound}
use Rattle.lower_laws.specs.Conditions.{contradict_says}
use Rattle.theory.specs.Route.{Path, last_block, paths, beginnings, at, overwritten, conflict}
use Rattle.lower_laws.specs.Listed.{opposes_out}
use Rattle.theory.specs.pairs.Steps.{Leads}
use Rattle.theory.specs.machines.Passes.{paths_lead, leads_path, beginnings_lead, leads_begin}

-- ---- conflict

module _ (body : Body) where
  -- two edges conflict, literally
  abbrev pub Opposed : Edge → Edge → Type 0
  Opposed x e =
      (is_test body x.0 ≡ true) × (is_test body e.0 ≡ true) × Contradict (condition body x) (condition body e)

  pub opposes_says : (x e : Edge) → (opposes body x e ≡ true) ↔ Opposed x e
  unfolding opposes
  opposes_says x e = (
    λ h. let (a, b, c) = opposes_out body x e h in (a, b, (contradict_says (condition body x) (condition body e)).0 c),
    λ h. and_in (and_in h.0 h.1) ((contradict_says (condition body x) (condition body e)).1 h.2),
  )

  module _ (p : Path) where
    -- no block after position i, up to and including position j, has an effect on the variable of the edge at j
    abbrev pub Untouched : ℕ → ℕ → Type 0
    Untouched i j = (k : ℕ) → i < k → k ≤ j → touches body (at p k).0 (condition body (at p j)).variable ≡ false

    -- a pair stands in the path in order: an edge and a later edge, or a constant and an edge of its own block or a
    -- later one
    abbrev pub Clashing : Type 0
    Clashing =
        (i : ℕ) × (j : ℕ) × (j < length p) × Untouched i j
        × (((i < j) × Opposed (at p i) (at p j)) ⊎ ((i ≤ j) × (denies body (at p i).0 (at p j) ≡ true)))

    abbrev touched : ℕ → ℕ → ℕ → Bool
    touched i j k = before i k && touches body (at p k).0 (condition body (at p j)).variable

    untouched_out : (i j : ℕ) → overwritten body p i j ≡ false → Untouched i j
    untouched_out i j h k a b = is_false (touches body (at p k).0 (condition body (at p j)).variable)
        (λ t. clash (any_in (suc j) (touched i j) k (omega arith) (and_in (before_in i k a) t)) h)

    untouched_in : (i j : ℕ) → Untouched i j → overwritten body p i j ≡ false
    untouched_in i j h = is_false (overwritten body p i j) (λ t.
        let (k, b, m) = any_out (suc j) (touched i j) t in
        let (a, c) = and_out (before i k) _ m in
        clash c (h k (before_out i k a) (omega arith)))

    abbrev edge_at : ℕ → ℕ → Bool
    edge_at j i = opposes body (at p i) (at p j) && not (overwritten body p i j)

    abbrev constant_at : ℕ → ℕ → Bool
    constant_at j i = denies body (at p i).0 (at p j) && not (overwritten body p i j)

    pub conflict_says : (conflict body p ≡ true) ↔ Clashing
    unfolding conflict
    conflict_says = (out, into)
      where
        out : any (length p) (λ j. any j (edge_at j) || any (suc j) (constant_at j)) ≡ true → Clashing
        out h =
            let (j, b, k) = any_out (length p) (λ j. any j (edge_at j) || any (suc j) (constant_at j)) h in
            or_out (any j (edge_at j)) _ k
            (λ m. let (i, a, n) = any_out j (edge_at j) m in
            let (c, f) = and_out (opposes body (at p i) (at p j)) _ n in (
              i,
              j,
              b,
              untouched_out i j (not_out (overwritten body p i j) f),
              inl
                  (a, (opposes_says (at p i) (at p j)).0 c),
            ))
            (λ m. let (i, a, n) = any_out (suc j) (constant_at j) m in
            let (c, f) = and_out (denies body (at p i).0 (at p j)) _ n in
            (i, j, b, untouched_out i j (not_out (overwritten body p i j) f), inr (omega arith, c)))

        into : Clashing → any (length p) (λ j. any j (edge_at j) || any (suc j) (constant_at j)) ≡ true
        into (i, j, b, f, inl (a, c)) =
            any_in (length p) (λ j. any j (edge_at j) || any (suc j) (constant_at j)) j b
            (or_in_left _ (any_in j (edge_at j) i a
            (and_in ((opposes_says (at p i) (at p j)).1 c) (ap not (untouched_in i j f)))))
        into (i, j, b, f, inr (a, c)) =
            any_in (length p) (λ j. any j (edge_at j) || any (suc j) (constant_at j)) j b
            (or_in_right (any j (edge_at j))
            (any_in (suc j) (constant_at j) i (omega arith) (and_in c (ap not (untouched_in i j f)))))

-- ---- beginnings

module _ (body : Body) (w : Onward body) where
  -- from every block some path leads to the end
  go_on : ((b : ℕ) → suc b < body.count → (o : ℕ × ℕ) × Mem o (exits body b)) → (n b : ℕ) → b < body.count
      → body.count ≤ n + b → (q : Path) × Leads body b q (last_block body)
  go_on g zero b h k = let z : ⊥ = omega arith in absurd z
  go_on g (suc n) b h k = split (eqb (suc b) body.count)
      (λ e. let d : suc b ≡ body.count = eqb-true (suc b) body.count e in ([], omega arith))
      (λ e. let d = eqb-false (suc b) body.count e in
      let (o, m) = g b (omega arith) in
      let (q, l) = go_on g n o.1 (w.inside b o m) (omega (arith, w.above b o m)) in
      ((b, o.0) ∷ q, (o.1, refl, m, l)))

  joined : (b t : ℕ) (p q : Path) → Leads body b p t → Leads body t q (last_block body)
      → Leads body b (p ++ q) (last_block body)
  joined b t [] q l m = subst (λ (u : ℕ). Leads body u q (last_block body)) (sym l) m
  joined b t (x ∷ p) q l m = (l.0, l.1, l.2, joined l.0 t p q l.3 m)

  cut_off : (b : ℕ) (p q : Path) → Leads body b (p ++ q) (last_block body) → (t : ℕ) × Leads body b p t
  cut_off b [] q l = (b, refl)
  cut_off b (x ∷ p) q l = let (t, m) = cut_off l.0 p q l.3 in (t, (l.0, l.1, l.2, m))

  ends_inside : (b t : ℕ) (p : Path) → b < body.count → Leads body b p t → t < body.count
  ends_inside b t [] h l = subst (λ (u : ℕ). u < body.count) l h
  ends_inside b t (x ∷ p) h l = ends_inside l.0 t p (w.inside b (x.1, l.0) l.2) l.3

-- a beginning is what some path to the end begins with
pub beginning_says : (body : Body) → Sound body → (p : Path)
    → Mem p (beginnings body body.count 0) ↔ ((q : Path) × Mem (p ++ q) (paths body body.count 0))
beginning_says body g p = (
  λ m. let (t, l) = beginnings_lead body body.count 0 p m in
      let (q, k) =
      go_on body g.onward g.going body.count t (ends_inside body g.onward 0 t p g.some l)
      (omega arith) in (
        q,
        leads_path body g.onward body.count 0 (p ++ q) g.some (omega arith)
            (joined body g.onward 0 t p q l k),
      ),
  λ m. let (t, l) = cut_off body g.onward 0 p m.0 (paths_lead body body.count 0 (p ++ m.0) m.1) in
      leads_begin body g.onward body.count 0 t p g.some (omega arith) l,
)
