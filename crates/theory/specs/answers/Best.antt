-- The best of a list: it is one of the list, it is there where the list is not empty, and none of the list is preferred
-- to it. So a route that is found leads from block 0 to the last, and a side has a route where there is any route.
-- Rests on Route, Ways and Passes.
use Rattle.std.proofs.Math.Path.{◌≡◌, subst}
use Rattle.std.specs.Prelude.{refl, Bool, true, false, cond, ◌⊎◌}
use Rattle.std.proofs.Common.{ap, sym, arith}
use Rattle.std.proofs.Math.Bool.{not}
use Rattle.std.proofs.Math.Logic.{inl, inr}
use mathlib.Core.List.{List, [], ◌∷◌, map}
use Rattle.std.proofs.Math.Option.{Option, none, some}
use Prim.Native.Nat.{ℕ}
use Rattle.laws.specs.Terms.{Choice, heaviest, lightest, Mem}
use Rattle.laws.specs.Orders.{Preference, asym, ntrans}
use Rattle.laws.specs.Lists.{map_out, only_out}
use Rattle.form.specs.declared.Body.{Body}
use Rattle.theory.specs.Route.{Path, Side, last_block, conflict, paths, tails, routes, weight, weighed, choose, best}
use Rattle.theory.specs.Route.{best_route, route_on, both_of, routes_on}
use Rattle.theory.specs.pairs.Steps.{Leads}
use Rattle.theory.specs.machines.Passes.{paths_lead}
use Rattle.theory.specs.answers.Ways.{tails_by, best_by}

module _ {B : Type 0} (prefers : ℕ → ℕ → Bool) where
  one_of_both : (x : ℕ × B) (o : Option (ℕ × B)) (v : ℕ × B) → choose prefers x o ≡ some v → (v ≡ x) ⊎ (o ≡ some v)
  one_of_both x none v e = inl (cc)
  one_of_both x (some y) v e = by (prefers y.0 x.0) e
    where
      by : (c : Bool) → some (cond c y x) ≡ some v → (v ≡ x) ⊎ (some y ≡ some v)
      by true e = inr e
      by false e = inl (cc)

  pub best_in : (l : List (ℕ × B)) (v : ℕ × B) → best prefers l ≡ some v → Mem v l
  unfolding best
  best_in [] v e = let z : ◌≡◌ {A = ℕ} 0 1 = cc in absurd (omega arith)
  best_in (x ∷ l) v e = by (best_in l v) (one_of_both x (best prefers l) v e)
    where
      by : (best prefers l ≡ some v → Mem v l) → (v ≡ x) ⊎ (best prefers l ≡ some v) → Mem v (x ∷ l)
      by k (inl p) = inl p
      by k (inr q) = inr (k q)

  one_chosen : (x : ℕ × B) (o : Option (ℕ × B)) → (u : ℕ × B) × (choose prefers x o ≡ some u)
  one_chosen x none = (x, refl)
  one_chosen x (some y) = (cond (prefers y.0 x.0) y x, refl)

  pub best_some : (l : List (ℕ × B)) (x : ℕ × B) → Mem x l → (u : ℕ × B) × (best prefers l ≡ some u)
  unfolding best
  best_some [] x m = elim m [ ]
  best_some (y ∷ l) x m = one_chosen y (best prefers l)

  module _ (ch : Preference prefers) where
    -- neither is preferred to the chosen one
    chosen : (x : ℕ × B) (o : Option (ℕ × B)) (v : ℕ × B) → choose prefers x o ≡ some v
        → (prefers x.0 v.0 ≡ false) × ((u : ℕ × B) → o ≡ some u → prefers u.0 v.0 ≡ false)
    chosen x none v h =
        let e : x ≡ v = cc in
        (rw e (ch.order.irr v.0), λ u q. absurd (let z : ◌≡◌ {A = ℕ} 0 1 = cc in omega arith))
    chosen x (some y) v h = by (prefers y.0 x.0) refl (cc)
      where
        by : (c : Bool) → prefers y.0 x.0 ≡ c → cond c y x ≡ v
            → (prefers x.0 v.0 ≡ false) × ((u : ℕ × B) → some y ≡ some u → prefers u.0 v.0 ≡ false)
        by true p e = (
          rw (← e) (asym ch.order y.0 x.0 p),
          λ u q. let d : y ≡ u = cc in rw (← e, ← d) (ch.order.irr y.0),
        )
        by false p e = (rw (← e) (ch.order.irr x.0), λ u q. let d : y ≡ u = cc in rw (← e, ← d) p)

    pub best_most : (l : List (ℕ × B)) (v : ℕ × B) → best prefers l ≡ some v → (x : ℕ × B) → Mem x l
        → prefers x.0 v.0 ≡ false
    unfolding best
    best_most [] v h x x4 = elim x4 [ ]
    best_most (y ∷ l) v h x (inl e) = rw e (chosen y (best prefers l) v h).0
    best_most (y ∷ l) v h x (inr m) =
        let (u, q) = best_some l x m in
        ntrans ch.order x.0 u.0 v.0 (best_most l u q x m) ((chosen y (best prefers l) v h).1 u q)

-- a route that is found leads from block 0 to the last, and has its weight
abbrev pub IsRoute : Body → (cost : ℕ → ℕ → ℕ) → ℕ × Path → Type 0
IsRoute body cost v = Leads body 0 v.1 (last_block body) × (v.0 ≡ weight cost (last_block body) v.1)

module _ (body : Body) where
  pub found_leads : (ruled_out : Path → Bool) (cost : ℕ → ℕ → ℕ) (prefers : ℕ → ℕ → Bool) (v : ℕ × Path)
      → best_by body ruled_out cost prefers ≡ some v → IsRoute body cost v
  unfolding best_by tails_by
  found_leads ruled_out cost prefers v e =
      let routes = tails_by body ruled_out 0 in
      let (p, m, q) = map_out (weighed body cost) routes v (best_in prefers (map (weighed body cost) routes) v e) in
      let (free, on) = only_out (λ p. not (ruled_out p)) (paths body body.count 0) p m in
      subst (λ (u : ℕ × Path). IsRoute body cost u) (sym q) (paths_lead body body.count 0 p on, refl)

  pub best_leads : (cost : ℕ → ℕ → ℕ) (prefers : ℕ → ℕ → Bool) (v : ℕ × Path) → best_route body cost prefers ≡ some v
      → Leads body 0 v.1 (last_block body) × (v.0 ≡ weight cost (last_block body) v.1)
  unfolding best_route best_by tails tails_by
  best_leads = found_leads (conflict body)

-- a side has no route just where there is none
pub no_route : (body : Body) (side : Side)
    → (route_on body side ≡ none → routes body ≡ []) × (routes body ≡ [] → route_on body side ≡ none)
unfolding best_route best
no_route body side = (by (routes body), λ e. ap (λ l. best side.prefers (map (weighed body side.cost) l)) e)
  where
    by : (l : List Path) → best side.prefers (map (weighed body side.cost) l) ≡ none → l ≡ []
    by [] e = refl
    by (p ∷ l) e =
        let (v, q) = one_chosen side.prefers (weighed body side.cost p)
        (best side.prefers (map (weighed body side.cost) l)) in
        let z : ◌≡◌ {A = ℕ} 0 1 = cc in absurd (omega arith)

-- so where one side has none, no side has
pub no_side : (body : Body) (side other : Side) → route_on body side ≡ none → route_on body other ≡ none
no_side body side other e = (no_route body other).1 ((no_route body side).0 e)

-- and both have one, or no path is free of conflict
pub no_routes_lem : (body : Body) (sides : Choice → Side)
    → (routes_on body sides ≡ none → routes body ≡ []) × (routes body ≡ [] → routes_on body sides ≡ none)
no_routes_lem body sides = (
  λ e. by (route_on body (sides heaviest)) (route_on body (sides lightest)) refl refl e,
  λ e. ap (λ o. both_of o (route_on body (sides lightest))) ((no_route body (sides heaviest)).1 e),
)
  where
    by : (o p : Option (ℕ × Path)) → route_on body (sides heaviest) ≡ o → route_on body (sides lightest) ≡ p
        → both_of o p ≡ none → routes body ≡ []
    by none p h l e = (no_route body (sides heaviest)).0 h
    by (some v) none h l e = (no_route body (sides lightest)).0 l
    by (some v) (some w) h l e = let z : ◌≡◌ {A = ℕ} 0 1 = cc in absurd (omega arith)
