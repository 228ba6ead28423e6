-- Theorem 4 and the two ways, for any preference and costs, over the two machines of a body. What the sweep's machine
-- passes from b are b's tails with their open edges (`passed_tails`), so the row built from the rows above is the row
-- by definition (`sweep_row`), and row 0 holds the first route of the preferred weight that is not ruled out, or
-- nothing when there is none (`row_zero`). The full walk counts the beginnings that are not ruled out and finds the
-- same route, or stops over the budget (`walk_routes`). Rests on Ways, Table, Walk and Passes.
use Rattle.std.specs.Prelude.{◌≡◌, Bool, true, false, not, cond, ltb}
use Rattle.std.proofs.Math.Path.{refl, sym, ap}
use Rattle.std.proofs.Common.{ap₂, subst, ◌∙◌, inl, inr, arith, eqb-true}
use mathlib.Core.List.{List, [], ◌∷◌, ◌++◌, map, map-map, append-nil}
use Rattle.std.proofs.Math.Option.{none, some}
use Prim.Native.Nat.{ℕ, suc, ◌<◌}
use Rattle.std.proofs.Math.Dec.{eqb}
use Rattle.std.proofs.Math.ListN.{length}
use Rattle.std.proofs.lemmas.List.{length-map}
use Rattle.laws.specs.Terms.{Mem, only, each}
use Rattle.laws.specs.Orders.{Order, Preference, pair_order, ltb_order}
use Rattle.laws.specs.Lists.{only_out, only_same, only_swap, only_map, map_same, each_same, map_in, map_out}
use Rattle.laws.specs.Rows.{put}
use Rattle.form.specs.declared.Body.{Body}
use Rattle.form.specs.Conflict.{Edge, Onward}
use Rattle.lower_laws.specs.ConflictList.{exits_ordered}
use Rattle.theory.specs.Route.{Path, last_block, paths, weighed, best}
use Rattle.theory.specs.Row.{Key, key_before, add_key, keys, of_key, found, row_of}
use Rattle.theory.specs.machines.Machine.{Val, better, Machine, read_back, allowed, Forward, passed_from, built}
use Rattle.theory.specs.machines.Table.{built_row}
use Rattle.theory.specs.machines.Walk.{visits, whole, within, carry, carried, walk, tally, given, walk_answer}
use Rattle.theory.specs.pairs.Edges.{no_edges}
use Rattle.theory.specs.answers.Ways.{Ways, sweeper, walker, tails_by, best_by, walked_by, open_tails_by}
use Rattle.theory.specs.machines.Passes.{freely, visits_are, visits_begin, wholes, visits_whole, passed_are}
use Rattle.theory.specs.machines.Passes.{paths_lead}
use Rattle.theory.specs.machines.Passes.{beginnings_lead}

-- ---- a list whose keys are all one: its row has one entry, the best

module _ {K : Type 0} (lt : K → K → Bool) (o : Order lt) (k : K) where
  one_key : {B : Type 0} (e : K × B) (l : List (K × B)) → ((x : K × B) → Mem x (e ∷ l) → x.0 ≡ k)
      → keys lt (map (λ x. x.0) (e ∷ l)) ≡ k ∷ []
  unfolding keys add_key
  one_key e [] h = rw (h e (inl refl))
  one_key e (x ∷ l) h = rw (one_key x l (λ y m. h y (inr m)), h e (inl refl), o.irr k)

  all_of : {B : Type 0} (l : List (K × B)) → ((e : K × B) → Mem e l → e.0 ≡ k) → of_key lt k l ≡ map (λ e. e.1) l
  all_of [] h = refl
  all_of (e ∷ l) h = rw (h e (inl refl), o.irr k) (ap (λ t. e.1 ∷ t) (all_of l (λ x m. h x (inr m))))

  pub row_of_one : {B : Type 0} (prefers : ℕ → ℕ → Bool) (l : List (K × (ℕ × B)))
      → ((e : K × (ℕ × B)) → Mem e l → e.0 ≡ k)
      → row_of lt prefers l ≡ found k (best prefers (map (λ e. e.1) l))
  unfolding row_of keys best
  row_of_one prefers [] h = refl
  row_of_one {B} prefers (e ∷ l) h =
      ap (λ ks. each ks (λ k. found k (best prefers (of_key lt k (e ∷ l))))) (one_key e l h)
      ∙ append-nil (found k (best prefers (of_key lt k (e ∷ l))))
      ∙ ap (λ m. found k (best prefers m)) (all_of (e ∷ l) h)

pub key_order : Order key_before
key_order = pair_order ltb ltb ltb_order ltb_order

-- ---- the sweep

-- the paths that are not dropped, with their keys
each_only : (c : Path → Bool) (k : Path → Key) (v : Path → Val) (l : List Path)
    → each l (λ p. put (cond (c p) none (some (k p))) (v p) []) ≡ map (λ p. (k p, v p)) (only (λ p. not (c p)) l)
each_only c k v [] = refl
each_only c k v (p ∷ l) = go (c p) (each_only c k v l)
  where
    go : (d : Bool)
        → each l (λ p. put (cond (c p) none (some (k p))) (v p) []) ≡ map (λ p. (k p, v p)) (only (λ p. not (c p)) l)
        → put (cond d none (some (k p))) (v p) [] ++ each l (λ p. put (cond (c p) none (some (k p))) (v p) [])
        ≡ map (λ p. (k p, v p)) (cond (not d) (p ∷ only (λ p. not (c p)) l) (only (λ p. not (c p)) l))
    go true h = h
    go false h = ap (λ t. (k p, v p) ∷ t) h

module _ (body : Body) (w : Onward body) {ruled_out : Path → Bool} {opens : ℕ → Path → Key}
    (W : Ways body ruled_out opens) (cost : ℕ → ℕ → ℕ) where
  abbrev sweeping : Machine Key
  sweeping = sweeper body W cost

  -- what the machine passes from b are b's tails, with their open edges and weights
  pub passed_tails : (b : ℕ) → passed_from sweeping b ≡ open_tails_by body ruled_out opens cost b
  unfolding open_tails_by tails_by
  passed_tails b =
      passed_are body cost W.back no_edges body.count b
      ∙ each_same (paths body body.count b) (λ p. put (read_back sweeping p) (weighed body cost p) [])
      (λ p. put (cond (ruled_out p) none (some (opens b p))) (weighed body cost p) [])
      (λ p m. ap (λ o. put o (weighed body cost p) []) (W.backward cost b _ p (paths_lead body body.count b p m)))
      ∙ each_only ruled_out (opens b) (weighed body cost) (paths body body.count b)

  up : Forward sweeping
  up = record { on = w.above; inside = w.inside }

  module _ (prefers : ℕ → ℕ → Bool) (ch : Preference prefers) where
    -- the row built from the rows above is the row by definition
    pub sweep_row : (R : ℕ → List (Key × Val)) (b : ℕ) → b < body.count
        → ((t : ℕ) → b < t → t < body.count → R t ≡ row_of key_before prefers (open_tails_by body ruled_out opens cost t))
        → built sweeping key_before (better prefers) R b
        ≡ row_of key_before prefers (open_tails_by body ruled_out opens cost b)
    sweep_row R b h k =
        built_row sweeping key_before key_order prefers ch up (exits_ordered body) R b h
        (λ t p q. k t p q ∙ ap (row_of key_before prefers) (sym (passed_tails t)))
        ∙ ap (row_of key_before prefers) (passed_tails b)

-- ---- row 0

-- with no edge open, row 0 is the first route of the preferred weight, or nothing
pub row_zero : (body : Body) (ruled_out : Path → Bool) (opens : ℕ → Path → Key) → ((p : Path) → opens 0 p ≡ no_edges)
    → (cost : ℕ → ℕ → ℕ) (prefers : ℕ → ℕ → Bool)
    → row_of key_before prefers (open_tails_by body ruled_out opens cost 0)
    ≡ found no_edges (best_by body ruled_out cost prefers)
unfolding open_tails_by best_by
row_zero body ruled_out opens closed cost prefers =
    row_of_one key_before key_order no_edges prefers (map keyed (tails_by body ruled_out 0))
    (λ e m. let (p, n, q) = map_out keyed (tails_by body ruled_out 0) e m in ap (λ (e : Key × Val). e.0) q ∙ closed p)
    ∙ ap (λ l. found no_edges (best prefers l)) (map-map (λ (e : Key × Val). e.1) keyed (tails_by body ruled_out 0))
  where
    keyed : Path → Key × Val
    keyed p = (opens 0 p, weighed body cost p)

-- ---- the full walk

module _ (body : Body) {ruled_out : Path → Bool} {opens : ℕ → Path → Key} (W : Ways body ruled_out opens)
    (cost : ℕ → ℕ → ℕ) where
  abbrev walking : Machine W.State
  walking = walker body W cost

  abbrev everywhere : List (ℕ × Val)
  everywhere = visits (freely walking) body.count 0 tt

  abbrev free : Path → Bool
  free p = not (ruled_out p)

  -- the visits are the beginnings that are not ruled out
  visited : visits walking body.count 0 W.start ≡ only (λ e. free e.1.1) everywhere
  visited =
      visits_are walking body.count 0 W.start
      ∙ only_same (λ e. allowed walking e.1.1 W.start) (λ e. free e.1.1) everywhere
      (λ e m. let (t, l) = beginnings_lead body body.count 0 e.1.1
      (subst (Mem e.1.1) (visits_begin body cost body.count 0)
      (map_in (λ (e : ℕ × Val). e.1.1) everywhere e m)) in
      W.forward cost 0 t e.1.1 l)

  pub visits_walked : length (visits walking body.count 0 W.start) ≡ walked_by body ruled_out
  unfolding walked_by
  visits_walked =
      ap length visited
      ∙ sym (length-map (only (λ (e : ℕ × Val). free e.1.1) everywhere) (λ (e : ℕ × Val). e.1.1))
      ∙ ap length (sym (only_map free (λ (e : ℕ × Val). e.1.1) everywhere) ∙ ap (only free)
      (visits_begin body cost body.count 0))

  -- and the whole ones among them are the routes
  pub visits_routes : wholes body cost (visits walking body.count 0 W.start)
      ≡ map (weighed body cost) (tails_by body ruled_out 0)
  unfolding tails_by
  visits_routes =
      ap (wholes body cost) visited
      ∙ ap (map (λ (e : ℕ × Val). e.1))
      (only_swap (λ (e : ℕ × Val). eqb (suc e.0) body.count) (λ (e : ℕ × Val). free e.1.1) everywhere)
      ∙ sym (only_map (λ (v : Val). free v.1) (λ (e : ℕ × Val). e.1) (whole body.count everywhere))
      ∙ ap (only (λ (v : Val). free v.1)) (visits_whole body cost body.count 0)
      ∙ only_map (λ (v : Val). free v.1) (weighed body cost) (paths body body.count 0)

  -- what is carried along the routes, and made of it at the last block
  module _ {C X : Type 0} (advance : Edge → C → C) (finish : ℕ × C → ℕ × X) (c : C) where
    given_routes : given advance finish body.count c (visits walking body.count 0 W.start)
        ≡ map (λ p. finish (last_block body, carry advance c p)) (tails_by body ruled_out 0)
    given_routes =
        map_same (λ e. finish (carried advance c e)) (λ e. finish (last_block body, carry advance c e.1.1))
        (whole body.count (visits walking body.count 0 W.start))
        (λ e m. ap (λ b. finish (b, carry advance c e.1.1))
        (ends_last e.0 (eqb-true (suc e.0) body.count
        (only_out (λ (e : ℕ × Val). eqb (suc e.0) body.count)
        (visits walking body.count 0 W.start) e m).0)))
        ∙ sym (map-map (λ (v : Val). finish (last_block body, carry advance c v.1)) (λ (e : ℕ × Val). e.1)
        (whole body.count (visits walking body.count 0 W.start)))
        ∙ ap (map (λ (v : Val). finish (last_block body, carry advance c v.1))) visits_routes
        ∙ map-map (λ (v : Val). finish (last_block body, carry advance c v.1)) (weighed body cost)
        (tails_by body ruled_out 0)
      where
        ends_last : (b : ℕ) → suc b ≡ body.count → b ≡ last_block body
        ends_last b e = omega arith

    -- over the budget, or the number of beginnings that are not ruled out and the first best of what the routes give
    pub walk_routes : (prefers : ℕ → ℕ → Bool) → Preference prefers → (budget : ℕ)
        → walk walking advance (tally prefers finish body.count budget) body.count 0 W.start c (0, none)
        ≡ within budget (walked_by body ruled_out)
        (best prefers (map (λ p. finish (last_block body, carry advance c p)) (tails_by body ruled_out 0)))
    walk_routes prefers ch budget =
        walk_answer walking prefers advance finish budget ch body.count 0 W.start c
        ∙ ap₂ (λ n l. within budget n (best prefers l)) visits_walked given_routes
