-- Rows: lists of keyed values with ascending keys, built by insertion that makes one value of two of a key
-- (`insert_keeping`), as a rule the better (`insert`).
-- `Covers l r` says that r has only entries of l and, for each entry of l, one of its key that is as good; an ascending
-- list that covers l is the only one (`row_unique`). A step in front of each entry (`ext`) keeps it. Rests on Orders
-- and Lists.
use Rattle.std.specs.Prelude.{◌≡◌, ◌⊎◌, Bool, false, cond, ◌≤◌, length}
use Rattle.std.proofs.Math.Path.{refl, ap}
use Rattle.std.proofs.Common.{sym, ◌∙◌, subst, inl, inr}
use Rattle.std.proofs.Math.Bool.{true}
use mathlib.Core.List.{List, [], ◌∷◌, ◌++◌, map}
use Rattle.std.proofs.Math.Option.{Option, none, some}
use native.Mathlib.Omega.{arith}
use Rattle.laws.specs.Terms.{Mem}
use Rattle.laws.specs.Tests.{clash}
use Rattle.laws.specs.Orders.{Order, asym, ntrans}
use Rattle.laws.specs.Lists.{mem_left, mem_right, mem_append, mem_swap}

module _ {K B : Type 0} (bt : B → B → Bool) where
  -- d has the key of e, and e is not better
  pub record Dom (e d : K × B) : Type 0 where
    pub key : d.0 ≡ e.0
    pub good : bt e.1 d.1 ≡ false

  -- r has only entries of l, and for each entry of l one of its key that is as good
  pub record Covers (l r : List (K × B)) : Type 0 where
    pub from : (e : K × B) → Mem e r → Mem e l
    pub best : (e : K × B) → Mem e l → (d : K × B) × Mem d r × Dom e d

-- ---- the insertion

module _ {K B : Type 0} (lt : K → K → Bool) (keep : (new old : B) → B) where
  -- the tests: the new key is before, after
  abbrev pub place : Bool → Bool → K × B → K × B → List (K × B) → List (K × B) → List (K × B)
  place true b e x r i = e ∷ x ∷ r
  place false true e x r i = x ∷ i
  place false false e x r i = (x.0, keep e.1 x.1) ∷ r

  unfoldable pub insert_keeping : K × B → List (K × B) → List (K × B)
  insert_keeping e [] = e ∷ []
  insert_keeping e (x ∷ r) = place (lt e.0 x.0) (lt x.0 e.0) e x r (insert_keeping e r)

-- the better of two, and the old one where neither is
abbrev pub keep_better : {B : Type 0} → (B → B → Bool) → (new old : B) → B
keep_better bt new old = cond (bt new old) new old

module _ {K B : Type 0} (lt : K → K → Bool) (bt : B → B → Bool) where
  abbrev pub insert : K × B → List (K × B) → List (K × B)
  insert = insert_keeping lt (keep_better bt)

  abbrev pub Asc : List (K × B) → Type 0
  Asc [] = Unit {0}
  Asc (x ∷ r) = ((y : K × B) → Mem y r → lt x.0 y.0 ≡ true) × Asc r

  module _ (oK : Order lt) (oB : Order bt) where
    pub dom_refl : (e : K × B) → Dom bt e e
    dom_refl e = record { key = refl; good = oB.irr e.1 }

    dom_trans : (a b c : K × B) → Dom bt a b → Dom bt b c → Dom bt a c
    dom_trans a b c p q = record { key = q.key ∙ p.key; good = ntrans oB _ _ _ p.good q.good }

    pub covers_refl : (l : List (K × B)) → Covers bt l l
    covers_refl l = record { from = λ e m. m; best = λ e m. (e, m, dom_refl e) }

    pub covers_trans : (l r s : List (K × B)) → Covers bt l r → Covers bt r s → Covers bt l s
    covers_trans l r s p q = record {
      from = λ e m. p.from e (q.from e m);
      best = λ e m. let (d, n, g) = p.best e m in let (c, k, h) = q.best d n in (c, k, dom_trans e d c g h);
    }

    pub covers_append : (l r l' r' : List (K × B)) → Covers bt l r → Covers bt l' r' → Covers bt (l ++ l') (r ++ r')
    covers_append l r l' r' p q =
        record { from = λ e m. fr e (mem_append e r r' m); best = λ e m. bs e (mem_append e l l' m) }
      where
        fr : (e : K × B) → Mem e r ⊎ Mem e r' → Mem e (l ++ l')
        fr e (inl m) = mem_left e l l' (p.from e m)
        fr e (inr m) = mem_right e l l' (q.from e m)

        bs : (e : K × B) → Mem e l ⊎ Mem e l' → (d : K × B) × Mem d (r ++ r') × Dom bt e d
        bs e (inl m) = let (d, n, g) = p.best e m in (d, mem_left d r r' n, g)
        bs e (inr m) = let (d, n, g) = q.best e m in (d, mem_right d r r' n, g)

    pub covers_cons : (e : K × B) (l r : List (K × B)) → Covers bt l r → Covers bt (e ∷ l) (e ∷ r)
    covers_cons e l r p = covers_append (e ∷ []) (e ∷ []) l r (covers_refl (e ∷ [])) p

    -- one entry more
    pub covers_swap : (x y : K × B) (r : List (K × B)) → Covers bt (x ∷ y ∷ r) (y ∷ x ∷ r)
    covers_swap x y r = record { from = λ e. mem_swap e y x r; best = λ e m. (e, mem_swap e x y r m, dom_refl e) }

    pub covers_drop : (e x : K × B) (r : List (K × B)) → Dom bt e x → Covers bt (e ∷ x ∷ r) (x ∷ r)
    covers_drop e x r d = record { from = λ y m. inr m; best = bs }
      where
        bs : (y : K × B) → Mem y (e ∷ x ∷ r) → (z : K × B) × Mem z (x ∷ r) × Dom bt y z
        bs y (inl p) = (x, inl refl, rw p d)
        bs y (inr m) = (y, m, dom_refl y)

    covers_keep : (b : Bool) (e x : K × B) (r : List (K × B)) → bt e.1 x.1 ≡ b → e.0 ≡ x.0
        → Covers bt (e ∷ x ∷ r) ((x.0, cond b e.1 x.1) ∷ r)
    covers_keep true e x r p k =
        let same : e ≡ (x.0, e.1) = λ i. (k i, e.1) in
        subst (λ (y : K × B). Covers bt (e ∷ x ∷ r) (y ∷ r)) same
        (covers_trans _ _ _ (covers_swap e x r) (covers_drop x e r (record { key = k; good = asym oB _ _ p })))
    covers_keep false e x r p k = covers_drop e x r (record { key = sym k; good = p })

    covers_place : (a b : Bool) (e x : K × B) (r i : List (K × B)) → lt e.0 x.0 ≡ a → lt x.0 e.0 ≡ b
        → Covers bt (e ∷ r) i
        → Covers bt (e ∷ x ∷ r) (place lt (keep_better bt) a b e x r i)
    covers_place true b e x r i p q c = covers_refl (e ∷ x ∷ r)
    covers_place false true e x r i p q c = covers_trans _ _ _ (covers_swap e x r) (covers_cons x (e ∷ r) i c)
    covers_place false false e x r i p q c = covers_keep _ e x r refl (oK.tri e.0 x.0 p q)

    pub covers_insert : (e : K × B) (r : List (K × B)) → Covers bt (e ∷ r) (insert e r)
    unfolding insert_keeping
    covers_insert e [] = covers_refl (e ∷ [])
    covers_insert e (x ∷ r) = covers_place _ _ e x r (insert e r) refl refl (covers_insert e r)

    -- the insertion keeps a row ascending
    asc_place : (a b : Bool) (e x : K × B) (r i : List (K × B)) → lt e.0 x.0 ≡ a → lt x.0 e.0 ≡ b
        → Covers bt (e ∷ r) i
        → Asc (x ∷ r) → Asc i → Asc (place lt (keep_better bt) a b e x r i)
    asc_place true b e x r i p q c h g = (up, h)
      where
        up : (y : K × B) → Mem y (x ∷ r) → lt e.0 y.0 ≡ true
        up y (inl z) = rw z p
        up y (inr m) = oK.trans _ _ _ p (h.0 y m)
    asc_place false true e x r i p q c h g = (λ y m. up y (c.from y m), g)
      where
        up : (y : K × B) → Mem y (e ∷ r) → lt x.0 y.0 ≡ true
        up y (inl z) = rw z q
        up y (inr m) = h.0 y m
    asc_place false false e x r i p q c h g = h

    pub asc_insert : (e : K × B) (r : List (K × B)) → Asc r → Asc (insert e r)
    unfolding insert_keeping
    asc_insert e [] h = (λ y m. absurd m, tt)
    asc_insert e (x ∷ r) h = asc_place _ _ e x r (insert e r) refl refl (covers_insert e r) h (asc_insert e r h.1)

    -- an ascending list has one entry of a key, and is known by its entries
    pub asc_one : (r : List (K × B)) (x y : K × B) → Asc r → Mem x r → Mem y r → x.0 ≡ y.0 → x ≡ y
    asc_one [] x y h x6 _ k = elim x6 [ ]
    asc_one (z ∷ r) x y h (inl p) (inl q) k = p ∙ sym q
    asc_one (z ∷ r) x y h (inl p) (inr n) k = clash (h.0 y n) (rw (← p, k) (oK.irr y.0))
    asc_one (z ∷ r) x y h (inr m) (inl q) k = clash (h.0 x m) (rw (← q, k) (oK.irr y.0))
    asc_one (z ∷ r) x y h (inr m) (inr n) k = asc_one r x y h.1 m n k

    asc_head : (x y : K × B) (r s : List (K × B)) → Asc (x ∷ r) → Asc (y ∷ s) → Mem x (y ∷ s) → Mem y (x ∷ r) → x ≡ y
    asc_head x y r s h g (inl p) n = p
    asc_head x y r s h g (inr m) (inl q) = sym q
    asc_head x y r s h g (inr m) (inr n) = clash (h.0 y n) (asym oK _ _ (g.0 x m))

    asc_tail : (x y : K × B) (r s : List (K × B)) → x ≡ y → Asc (x ∷ r) → (e : K × B) → Mem e r → Mem e (y ∷ s)
        → Mem e s
    asc_tail x y r s p h e m (inl q) = clash (h.0 e m) (rw (q, p) (oK.irr y.0))
    asc_tail x y r s p h e m (inr n) = n

    asc_ext : (r s : List (K × B)) → Asc r → Asc s → ((e : K × B) → Mem e r → Mem e s)
        → ((e : K × B) → Mem e s → Mem e r) → r ≡ s
    asc_ext [] [] h g f b = refl
    asc_ext [] (y ∷ s) h g f b = absurd (b y (inl refl))
    asc_ext (x ∷ r) [] h g f b = absurd (f x (inl refl))
    asc_ext (x ∷ r) (y ∷ s) h g f b =
        let p : x ≡ y = asc_head x y r s h g (f x (inl refl)) (b y (inl refl)) in
        let q : r ≡ s = asc_ext r s h.1 g.1 (λ e m. asc_tail x y r s p h e m (f e (inr m)))
        (λ e m. asc_tail y x s r (sym p) g e m (b e (inr m))) in
        λ i. p i ∷ q i

    dom_anti : (e d : K × B) → Dom bt e d → Dom bt d e → e ≡ d
    dom_anti e d p q = λ i. (q.key i, oB.tri e.1 d.1 p.good q.good i)

    covers_sub : (l r s : List (K × B)) → Asc r → Covers bt l r → Covers bt l s → (e : K × B) → Mem e r → Mem e s
    covers_sub l r s h p q e m =
        let (d, n, g) = q.best e (p.from e m) in
        let (c, k, t) = p.best d (q.from d n) in
        let same : c ≡ e = asc_one r c e h k m (t.key ∙ g.key) in
        rw (dom_anti e d g (rw same at t)) n

    -- the row of l: ascending, and covers l. There is one
    pub row_unique : (l r s : List (K × B)) → Asc r → Asc s → Covers bt l r → Covers bt l s → r ≡ s
    row_unique l r s h g p q = asc_ext r s h g (covers_sub l r s h p q) (covers_sub l s r g q p)

-- ---- a step in front of each entry

module _ {K B : Type 0} where
  abbrev pub put : Option K → B → List (K × B) → List (K × B)
  put none v r = r
  put (some k) v r = (k, v) ∷ r

-- a step in front of each entry of a list; what the step drops is gone
module _ {K B : Type 0} (s : K → Option K) (g : B → B) where
  unfoldable pub ext : List (K × B) → List (K × B)
  ext [] = []
  ext (e ∷ l) = put (s e.0) (g e.1) (ext l)

  mem_put : (o : Option K) (d : K × B) (v : B) (r : List (K × B)) → Mem d r → Mem d (put o v r)
  mem_put none d v r m = m
  mem_put (some k) d v r m = inr m

  pub mem_ext_in : (l : List (K × B)) (e : K × B) (k : K) → s e.0 ≡ some k → Mem e l → Mem (k, g e.1) (ext l)
  unfolding ext
  mem_ext_in [] e k h x'' = elim x'' [ ]
  mem_ext_in (x ∷ l) e k h (inl p) = rw (← p, h) (inl refl)
  mem_ext_in (x ∷ l) e k h (inr m) = mem_put (s x.0) (k, g e.1) (g x.1) (ext l) (mem_ext_in l e k h m)

  -- d is the step in front of an entry of l
  pub record Stepped (d : K × B) (l : List (K × B)) : Type 0 where
    pub old : K × B
    pub mem : Mem old l
    pub key : s old.0 ≡ some d.0
    pub val : d.1 ≡ g old.1

  later : (d x : K × B) (l : List (K × B)) → Stepped d l → Stepped d (x ∷ l)
  later d x l h = record { old = h.old; mem = inr h.mem; key = h.key; val = h.val }

  out_put : (o : Option K) (d x : K × B) (l : List (K × B)) → s x.0 ≡ o → (Mem d (ext l) → Stepped d l)
      → Mem d (put o (g x.1) (ext l)) → Stepped d (x ∷ l)
  out_put none d x l h f m = later d x l (f m)
  out_put (some k) d x l h f (inl p) =
      record {
        old = x;
        mem = inl refl;
        key = h ∙ ap (λ (e : K × B). some e.0) (sym p);
        val = ap (λ (e : K × B). e.1) p;
      }
  out_put (some k) d x l h f (inr m) = later d x l (f m)

  pub mem_ext_out : (l : List (K × B)) (d : K × B) → Mem d (ext l) → Stepped d l
  unfolding ext
  mem_ext_out [] d m = absurd m
  mem_ext_out (x ∷ l) d m = out_put (s x.0) d x l refl (mem_ext_out l d) m

  module _ (bt : B → B → Bool) (mono : (u v : B) → bt (g u) (g v) ≡ bt u v) where
    pub ext_covers : (l r : List (K × B)) → Covers bt l r → Covers bt (ext l) (ext r)
    ext_covers l r c =
        record {
          from = λ e m. fr e (mem_ext_out r e m);
          best = λ e m. let h = mem_ext_out l e m in bs e h (c.best h.old h.mem);
        }
      where
        fr : (e : K × B) → Stepped e r → Mem e (ext l)
        fr e h = subst (λ (v : B). Mem (e.0, v) (ext l)) (sym h.val)
            (mem_ext_in l h.old e.0 h.key (c.from _ h.mem))

        bs : (e : K × B) (h : Stepped e l) → (d : K × B) × Mem d r × Dom bt h.old d
            → (d : K × B) × Mem d (ext r) × Dom bt e d
        bs e h (d, n, p) = (
          (e.0, g d.1),
          mem_ext_in r d e.0 (ap s p.key ∙ h.key) n,
          record { key = refl; good = rw (h.val, mono) p.good },
        )

-- ---- the row of a list

pub record IsRow {K B : Type 0} (lt : K → K → Bool) (bt : B → B → Bool) (l r : List (K × B)) : Type 0 where
  pub asc : Asc lt bt r
  pub covers : Covers bt l r

-- ---- insertion of other values in the place of these, and lengths

module _ {K B C : Type 0} (φ : B → C) where
  abbrev pub across : K × B → K × C
  across e = (e.0, φ e.1)

  module _ (lt : K → K → Bool) (keep_b : (new old : B) → B) (keep_c : (new old : C) → C) where
    place_across : (a b : Bool) (e x : K × B) (r i : List (K × B))
        → keep_c (φ e.1) (φ x.1) ≡ φ (keep_b e.1 x.1)
        → place lt keep_c a b (across e) (across x) (map across r) (map across i)
        ≡ map across (place lt keep_b a b e x r i)
    place_across true b e x r i h = refl
    place_across false true e x r i h = refl
    place_across false false e x r i h = ap (λ v. (x.0, v) ∷ map across r) h

    -- where the two keep alike, the insertions go together
    pub keeping_across : (e : K × B) (r : List (K × B))
        → ((x : K × B) → Mem x r → keep_c (φ e.1) (φ x.1) ≡ φ (keep_b e.1 x.1))
        → insert_keeping lt keep_c (across e) (map across r) ≡ map across (insert_keeping lt keep_b e r)
    unfolding insert_keeping
    keeping_across e [] h = refl
    keeping_across e (x ∷ r) h =
        ap (place lt keep_c (lt e.0 x.0) (lt x.0 e.0) (across e) (across x) (map across r))
        (keeping_across e r (λ y m. h y (inr m)))
        ∙ place_across (lt e.0 x.0) (lt x.0 e.0) e x r (insert_keeping lt keep_b e r) (h x (inl refl))

module _ {K B C : Type 0} (lt : K → K → Bool) (bt : B → B → Bool) (ct : C → C → Bool) (φ : B → C) where
  better_across : (u v : B) (c : Bool) → bt u v ≡ c → ct (φ u) (φ v) ≡ c
      → keep_better ct (φ u) (φ v) ≡ φ (keep_better bt u v)
  better_across u v true h k = rw (h, k) refl
  better_across u v false h k = rw (h, k) refl

  -- where the two tests agree
  pub insert_across : (e : K × B) (r : List (K × B))
      → ((x : K × B) → Mem x r → ct (φ e.1) (φ x.1) ≡ bt e.1 x.1)
      → insert lt ct (across φ e) (map (across φ) r) ≡ map (across φ) (insert lt bt e r)
  insert_across e r h = keeping_across φ lt (keep_better bt) (keep_better ct) e r
      (λ x m. better_across e.1 x.1 (bt e.1 x.1) refl (h x m))

module _ {K B : Type 0} (lt : K → K → Bool) (keep : (new old : B) → B) where
  place_grows : (a b : Bool) (e x : K × B) (r i : List (K × B)) → length r ≤ length i
      → length (x ∷ r) ≤ length (place lt keep a b e x r i)
  place_grows true b e x r i h = omega arith
  place_grows false true e x r i h = omega arith
  place_grows false false e x r i h = omega arith

  -- an insertion takes no entry away
  pub insert_grows : (e : K × B) (r : List (K × B)) → length r ≤ length (insert_keeping lt keep e r)
  unfolding insert_keeping
  insert_grows e [] = omega arith
  insert_grows e (x ∷ r) =
      place_grows (lt e.0 x.0) (lt x.0 e.0) e x r (insert_keeping lt keep e r) (insert_grows e r)

-- ---- where an entry goes

module _ {K B : Type 0} (lt : K → K → Bool) (keep : (new old : B) → B) (oK : Order lt) where
  -- behind the entries of lower keys
  pub insert_past : (e : K × B) (a r : List (K × B)) → ((x : K × B) → Mem x a → lt x.0 e.0 ≡ true)
      → insert_keeping lt keep e (a ++ r) ≡ a ++ insert_keeping lt keep e r
  unfolding insert_keeping
  insert_past e [] r h = refl
  insert_past e (x ∷ a) r h =
      let l : lt x.0 e.0 ≡ true = h x (inl refl) in
      rw (asym oK x.0 e.0 l, l) (ap (λ t. x ∷ t) (insert_past e a r (λ y m. h y (inr m))))

  -- in front of the first higher key
  pub insert_before : (e x : K × B) (r : List (K × B)) → lt e.0 x.0 ≡ true
      → insert_keeping lt keep e (x ∷ r) ≡ e ∷ x ∷ r
  unfolding insert_keeping
  insert_before e x r h = rw h

  -- at its own key
  pub insert_at : (e x : K × B) (r : List (K × B)) → e.0 ≡ x.0
      → insert_keeping lt keep e (x ∷ r) ≡ (x.0, keep e.1 x.1) ∷ r
  unfolding insert_keeping
  insert_at e x r h = rw (h, oK.irr x.0)
