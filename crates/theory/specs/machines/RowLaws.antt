-- The row by definition (`row_of`: the different keys, ascending, and of each key the first of the preferred weight) is
-- the ascending row that covers its list, with the preferred weight and then the first path as the better. So whatever
-- is such a row is it. Rests on Row, Machine's order and the laws.
use Rattle.std.specs.Prelude.{◌≡◌, ◌⊎◌, Bool, not, cond, ◌||◌, ℕ}
use Rattle.std.proofs.Math.Path.{refl}
use Rattle.std.proofs.Common.{sym, ap, ◌∙◌}
use Rattle.std.proofs.Math.Logic.{inl, inr}
use Rattle.std.proofs.Math.Bool.{true, false}
use mathlib.Core.List.{List, [], ◌∷◌, ◌++◌, map}
use Rattle.std.proofs.Math.Option.{Option, none, some}
use Rattle.laws.specs.Terms.{Mem, Sorted, only, each}
use Rattle.laws.specs.Tests.{split, clash}
use Rattle.laws.specs.Orders.{Order, Preference, asym, ntrans, pair_order}
use Rattle.laws.specs.Lists.{each_out, each_in, map_in}
use Rattle.laws.specs.Rows.{Asc, IsRow, row_unique}
use Rattle.theory.specs.Route.{choose, best}
use Rattle.theory.specs.Row.{place_key, add_key, keys, of_key, found, row_of}
use Rattle.theory.specs.machines.Machine.{Val, first, first_order, better, ahead}

-- ---- the keys

module _ {K : Type 0} (lt : K → K → Bool) (oK : Order lt) where
  place_from : (a b : Bool) (k x : K) (r i : List K) → lt k x ≡ a → lt x k ≡ b → ((y : K) → Mem y i → (y ≡ k) ⊎ Mem y r)
      → (y : K) → Mem y (place_key a b k x r i) → (y ≡ k) ⊎ Mem y (x ∷ r)
  place_from true b k x r i p q h y m = m
  place_from false true k x r i p q h y (inl e) = inr (inl e)
  place_from false true k x r i p q h y (inr m) = go (h y m)
    where
      go : (y ≡ k) ⊎ Mem y r → (y ≡ k) ⊎ Mem y (x ∷ r)
      go (inl e) = inl e
      go (inr n) = inr (inr n)
  place_from false false k x r i p q h y m = inr m

  add_from : (k : K) (r : List K) (y : K) → Mem y (add_key lt k r) → (y ≡ k) ⊎ Mem y r
  unfolding add_key
  add_from k [] y m = m
  add_from k (x ∷ r) y m = place_from _ _ k x r (add_key lt k r) refl refl (add_from k r) y m

  place_to : (a b : Bool) (k x : K) (r i : List K) → lt k x ≡ a → lt x k ≡ b → ((y : K) → (y ≡ k) ⊎ Mem y r → Mem y i)
      → (y : K) → (y ≡ k) ⊎ Mem y (x ∷ r) → Mem y (place_key a b k x r i)
  place_to true b k x r i p q h y m = m
  place_to false true k x r i p q h y (inl e) = inr (h y (inl e))
  place_to false true k x r i p q h y (inr (inl e)) = inl e
  place_to false true k x r i p q h y (inr (inr m)) = inr (h y (inr m))
  place_to false false k x r i p q h y (inl e) = inl (e ∙ oK.tri k x p q)
  place_to false false k x r i p q h y (inr m) = m

  add_to : (k : K) (r : List K) (y : K) → (y ≡ k) ⊎ Mem y r → Mem y (add_key lt k r)
  unfolding add_key
  add_to k [] y m = m
  add_to k (x ∷ r) y m = place_to _ _ k x r (add_key lt k r) refl refl (add_to k r) y m

  place_asc : (a b : Bool) (k x : K) (r i : List K) → lt k x ≡ a → lt x k ≡ b → ((y : K) → Mem y i → (y ≡ k) ⊎ Mem y r)
      → Sorted lt (x ∷ r) → Sorted lt i → Sorted lt (place_key a b k x r i)
  place_asc true b k x r i p q c h g = (up, h)
    where
      up : (y : K) → Mem y (x ∷ r) → lt k y ≡ true
      up y (inl e) = rw e p
      up y (inr m) = oK.trans k x y p (h.0 y m)
  place_asc false true k x r i p q c h g = (λ y m. up y (c y m), g)
    where
      up : (y : K) → (y ≡ k) ⊎ Mem y r → lt x y ≡ true
      up y (inl e) = rw e q
      up y (inr m) = h.0 y m
  place_asc false false k x r i p q c h g = h

  add_asc : (k : K) (r : List K) → Sorted lt r → Sorted lt (add_key lt k r)
  unfolding add_key
  add_asc k [] h = (λ y m. absurd m, tt)
  add_asc k (x ∷ r) h = place_asc _ _ k x r (add_key lt k r) refl refl (add_from k r) h (add_asc k r h.1)

  keys_asc : (l : List K) → Sorted lt (keys lt l)
  unfolding keys
  keys_asc [] = tt
  keys_asc (x ∷ l) = add_asc x (keys lt l) (keys_asc l)

  keys_in_lem : (l : List K) (k : K) → Mem k l → Mem k (keys lt l)
  unfolding keys
  keys_in_lem [] k x' = elim x' [ ]
  keys_in_lem (x ∷ l) k (inl p) = add_to x (keys lt l) k (inl p)
  keys_in_lem (x ∷ l) k (inr m) = add_to x (keys lt l) k (inr (keys_in_lem l k m))

  pub keys_out : (l : List K) (k : K) → Mem k (keys lt l) → Mem k l
  unfolding keys
  keys_out [] k m = absurd m
  keys_out (x ∷ l) k m = by (add_from x (keys lt l) k m) (keys_out l k)
    where
      by : (k ≡ x) ⊎ Mem k (keys lt l) → (Mem k (keys lt l) → Mem k l) → Mem k (x ∷ l)
      by (inl p) out = inl p
      by (inr n) out = inr (out n)

-- ---- weights and paths

module _ (prefers : ℕ → ℕ → Bool) (ch : Preference prefers) where
  pub better_order : Order (better prefers)
  better_order = pair_order prefers first ch.order first_order

  pub behind : (x d : Val) → prefers x.0 d.0 ≡ false → first x.1 d.1 ≡ false → better prefers x d ≡ false
  behind x d p q = split (prefers d.0 x.0) (λ h. rw (p, h)) (λ h. rw (p, h) q)

-- ---- of one key

module _ {K : Type 0} (lt : K → K → Bool) (oK : Order lt) (prefers : ℕ → ℕ → Bool) (ch : Preference prefers) where
  -- y is an entry of l, and none of its key is better
  abbrev Ok : List (K × Val) → K × Val → Type 0
  Ok l y = Mem y l × ((x : K × Val) → Mem x l → x.0 ≡ y.0 → better prefers x.1 y.1 ≡ false)

  abbrev Picked : K → List (K × Val) → Option Val → Type 0
  Picked k l none = (x : K × Val) → Mem x l → x.0 ≡ k → ⊥
  Picked k l (some v) = Ok l (k, v)

  skip : (k : K) (e : K × Val) (l : List (K × Val)) (o : Option Val) → (e.0 ≡ k → ⊥) → Picked k l o
      → Picked k (e ∷ l) o
  skip k e l none h g = λ x m c. go x m c
    where
      go : (x : K × Val) → Mem x (e ∷ l) → x.0 ≡ k → ⊥
      go x (inl p) c = h (rw p at c)
      go x (inr m) c = g x m c
  skip k e l (some v) h g = (inr g.0, go)
    where
      go : (x : K × Val) → Mem x (e ∷ l) → x.0 ≡ k → better prefers x.1 v ≡ false
      go x (inl p) c = absurd (h (rw p at c))
      go x (inr m) c = g.1 x m c

  -- e goes before those of l that are no better
  front : (k : K) (e : K × Val) (l : List (K × Val)) → e.0 ≡ k
      → ((x : K × Val) → Mem x l → x.0 ≡ k → better prefers x.1 e.1 ≡ false) → Ok (e ∷ l) (k, e.1)
  front k e l p h = (inl (λ i. (sym p i, e.1)), go)
    where
      go : (x : K × Val) → Mem x (e ∷ l) → x.0 ≡ k → better prefers x.1 e.1 ≡ false
      go x (inl q) c = rw q ((better_order prefers ch).irr e.1)
      go x (inr m) c = h x m c

  meet : (b : Bool) (k : K) (e : K × Val) (u : Val) (l : List (K × Val)) → prefers u.0 e.1.0 ≡ b → e.0 ≡ k
      → ((x : K × Val) → Mem x l → ahead e x ≡ true)
      → Ok l (k, u) → Ok (e ∷ l) (k, cond b u e.1)
  meet true k e u l c p s g = (inr g.0, go)
    where
      go : (x : K × Val) → Mem x (e ∷ l) → x.0 ≡ k → better prefers x.1 u ≡ false
      go x (inl q) d = rw (q, c, asym ch.order u.0 e.1.0 c)
      go x (inr m) d = g.1 x m d
  meet false k e u l c p s g =
      front k e l p (λ x m d. ntrans (better_order prefers ch) x.1 u e.1 (g.1 x m d)
      (behind prefers ch u e.1 c (asym first_order e.1.1 u.1 (s (k, u) g.0))))

  chosen : (k : K) (e : K × Val) (l : List (K × Val)) (o : Option Val) → e.0 ≡ k
      → ((x : K × Val) → Mem x l → ahead e x ≡ true) → Picked k l o → Picked k (e ∷ l) (choose prefers e.1 o)
  chosen k e l none p s g = front k e l p (λ x m c. absurd (g x m c))
  chosen k e l (some u) p s g = meet _ k e u l refl p s g

  abbrev here : K → K × Val → Bool
  here k e = not (lt e.0 k || lt k e.0)

  picked_cons : (a b : Bool) (k : K) (e : K × Val) (l : List (K × Val)) → lt e.0 k ≡ a → lt k e.0 ≡ b
      → ((x : K × Val) → Mem x l → ahead e x ≡ true) → Picked k l (best prefers (of_key lt k l))
      → Picked k (e ∷ l) (best prefers
      (map (λ (x : K × Val). x.1) (cond (not (a || b)) (e ∷ only (here k) l) (only (here k) l))))
  unfolding best
  picked_cons true b k e l p q s g = skip k e l (best prefers (of_key lt k l)) (λ c. clash p (rw c (oK.irr k))) g
  picked_cons false true k e l p q s g = skip k e l (best prefers (of_key lt k l)) (λ c. clash q (rw c (oK.irr k))) g
  picked_cons false false k e l p q s g = chosen k e l (best prefers (of_key lt k l)) (oK.tri e.0 k p q) s g

  picked : (k : K) (l : List (K × Val)) → Sorted ahead l → Picked k l (best prefers (of_key lt k l))
  unfolding best
  picked k [] s = λ x m c. m
  picked k (e ∷ l) s = picked_cons _ _ k e l refl refl s.0 (picked k l s.1)

  -- ---- all keys

  found_from : (k : K) (o : Option Val) (l : List (K × Val)) → Picked k l o → (y : K × Val) → Mem y (found k o)
      → (y.0 ≡ k) × Ok l y
  found_from k (some v) l g y (inr x'') = elim x'' [ ]
  found_from k none l g y m = absurd m
  found_from k (some v) l g y (inl p) = (ap (λ (z : K × Val). z.0) p, rw p g)

  found_to : (k : K) (o : Option Val) (l : List (K × Val)) → Picked k l o → (x : K × Val) → Mem x l → x.0 ≡ k
      → (d : K × Val) × Mem d (found k o) × (d.0 ≡ k)
  found_to k none l g x m c = absurd (g x m c)
  found_to k (some v) l g x m c = ((k, v), inl refl, refl)

  abbrev gather : List K → List (K × Val) → List (K × Val)
  gather ks l = each ks (λ k. found k (best prefers (of_key lt k l)))

  gather_from : (ks : List K) (l : List (K × Val)) → Sorted ahead l → (y : K × Val) → Mem y (gather ks l)
      → Mem y.0 ks × Ok l y
  gather_from ks l s y m =
      let (k, n, q) = each_out ks (λ k. found k (best prefers (of_key lt k l))) y m in
      let (e, o) = found_from k (best prefers (of_key lt k l)) l (picked k l s) y q in
      (rw e n, o)

  found_asc : (k : K) (o : Option Val) (r : List (K × Val)) → ((y : K × Val) → Mem y r → lt k y.0 ≡ true)
      → Asc lt (better prefers) r → Asc lt (better prefers) (found k o ++ r)
  found_asc k none r h g = g
  found_asc k (some v) r h g = (h, g)

  gather_asc : (ks : List K) (l : List (K × Val)) → Sorted ahead l → Sorted lt ks
      → Asc lt (better prefers) (gather ks l)
  gather_asc [] l s h = tt
  gather_asc (k ∷ ks) l s h =
      found_asc k (best prefers (of_key lt k l)) (gather ks l) (λ y m. h.0 y.0 (gather_from ks l s y m).0)
      (gather_asc ks l s h.1)

  gather_to : (ks : List K) (l : List (K × Val)) → Sorted ahead l → (x : K × Val) → Mem x l → Mem x.0 ks
      → (d : K × Val) × Mem d (gather ks l) × (d.0 ≡ x.0)
  gather_to ks l s x m n =
      let (d, i, q) = found_to x.0 (best prefers (of_key lt x.0 l)) l (picked x.0 l s) x m refl in
      (d, each_in ks (λ k. found k (best prefers (of_key lt k l))) x.0 d n i, q)

  pub row_is : (l : List (K × Val)) → Sorted ahead l → IsRow lt (better prefers) l (row_of lt prefers l)
  unfolding row_of
  row_is l s = record {
    asc = gather_asc ks l s (keys_asc lt oK (map (λ e. e.0) l));
    covers = record {
      from = λ e m. (gather_from ks l s e m).1.0;
      best = λ e m.
          let (d, n, q) = gather_to ks l s e m (keys_in_lem lt oK (map (λ e. e.0) l) e.0 (map_in (λ e. e.0) l e m)) in
          (d, n, record { key = q; good = (gather_from ks l s d n).1.1 e m (sym q) });
    };
  }
    where
      ks : List K
      ks = keys lt (map (λ e. e.0) l)

  pub row_eq : (l r : List (K × Val)) → Sorted ahead l → IsRow lt (better prefers) l r → r ≡ row_of lt prefers l
  row_eq l r s h =
      let g = row_is l s in
      row_unique lt (better prefers) oK (better_order prefers ch) l r (row_of lt prefers l) h.asc g.asc h.covers
      g.covers
