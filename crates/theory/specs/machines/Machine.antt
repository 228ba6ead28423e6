-- A machine reads paths: it has a key (or state) to start with, and a step makes a new one or drops the path. Read from
-- the end (`read_back`) a step goes in front; read from the start (`allowed`) it goes on. For any machine and any costs:
-- the paths that it passes from their end, with key and weight, in order; and the rows built from the last block down
-- by insertion. Rests on Route and the laws.
use Rattle.std.specs.Prelude.{◌≡◌, ◌⊎◌, Bool, false, cond, eqb, ltb, get_or}
use Rattle.std.proofs.Math.Path.{refl, ap}
use Rattle.std.proofs.Common.{◌∙◌, inl, inr}
use Rattle.std.proofs.Math.Bool.{true}
use mathlib.Core.List.{List, [], ◌∷◌, ◌++◌, map}
use Rattle.std.proofs.Math.Option.{Option, none, some}
use Prim.Native.Nat.{ℕ, zero, suc, ◌+◌, ◌-◌, ◌≤◌, ◌<◌}
use native.Mathlib.Omega.{arith}
use Rattle.laws.specs.Terms.{Mem, Sorted, pairb}
use Rattle.laws.specs.Orders.{Order, lexb, lexb_order, lexb_cons, pair_order, ltb_order, next_first}
use Rattle.laws.specs.Lists.{mem_append, sorted_append}
use Rattle.laws.specs.Rows.{insert_keeping, keep_better, across, keeping_across, put, ext, Stepped, mem_ext_out}
use Rattle.form.specs.declared.Body.{Body}
use Rattle.form.specs.Conflict.{Edge, exits}
use Rattle.theory.specs.Route.{Path}

-- a weight, and a path
abbrev pub Val : Type 0
Val = ℕ × Path

-- a step in front, at a cost
abbrev pub grow : ℕ → Edge → Val → Val
grow c x v = (c + v.0, x ∷ v.1)

-- where two paths part, the lower way is first
abbrev pub edge_before : Edge → Edge → Bool
edge_before = pairb ltb ltb

pub edge_order : Order edge_before
edge_order = pair_order ltb ltb ltb_order ltb_order

abbrev pub first : Path → Path → Bool
first = lexb edge_before

pub first_order : Order first
first_order = lexb_order edge_before edge_order

-- the preferred weight, and of equal weights the first path
abbrev pub better : (ℕ → ℕ → Bool) → Val → Val → Bool
better prefers = pairb prefers first

pub record Machine (K : Type 0) : Type 0 where
  pub count : ℕ  -- of blocks
  pub outs : ℕ → List (ℕ × ℕ)  -- of a block: each way with its target, in order
  pub step : Edge → K → Option K
  pub cost : ℕ → ℕ → ℕ  -- of a block left by a way; the last by way 0
  pub start : K

-- on the graph of a body
abbrev pub on_body : {K : Type 0} → Body → (cost : ℕ → ℕ → ℕ) → (Edge → K → Option K) → K → Machine K
on_body body cost step start = record { count = body.count; outs = exits body; step = step; cost = cost; start = start }

module _ {K : Type 0} (M : Machine K) where
  -- ---- one path

  abbrev pub then_step : Edge → Option K → Option K
  then_step x none = none
  then_step x (some s) = M.step x s

  -- a path read from its end
  unfoldable pub read_back : Path → Option K
  read_back [] = some M.start
  read_back (x ∷ p) = then_step x (read_back p)

  abbrev pub goes_on : Option K → (K → Bool) → Bool
  goes_on none f = false
  goes_on (some s) f = f s

  -- every step of the path is allowed, from the state s on
  unfoldable pub allowed : Path → K → Bool
  allowed [] s = true
  allowed (x ∷ p) s = goes_on (M.step x s) (allowed p)

  -- ---- all that are passed from their end

  -- the step x in front, at its cost
  abbrev pub grown : Edge → Val → Val
  grown x = grow (M.cost x.0 x.1) x

  -- the last block's own path
  abbrev pub base : ℕ → List (K × Val)
  base b = cond (eqb (suc b) M.count) ((M.start, (M.cost b 0, [])) ∷ []) []

  -- the paths by each of the ways os, where R t are those from t
  abbrev pub spread : (ℕ → List (K × Val)) → ℕ → List (ℕ × ℕ) → List (K × Val)
  spread R b [] = []
  spread R b (o ∷ os) = ext (M.step (b, o.0)) (grown (b, o.0)) (R o.1) ++ spread R b os

  unfoldable pub passed : ℕ → ℕ → List (K × Val)
  passed zero b = []
  passed (suc n) b = base b ++ spread (λ t. passed n t) b (M.outs b)

  -- all that are passed from b
  abbrev pub passed_from : ℕ → List (K × Val)
  passed_from b = passed M.count b

-- ---- rows by insertion

-- over what is kept of two values of a key
module _ {K B : Type 0} (lt : K → K → Bool) (keep : (new old : B) → B) where
  abbrev pub push : Option K → B → List (K × B) → List (K × B)
  push none v r = r
  push (some k) v r = insert_keeping lt keep (k, v) r

  -- each entry of a row, with a step in front, into the row r
  unfoldable pub pour : (K → Option K) → (B → B) → List (K × B) → List (K × B) → List (K × B)
  pour s g [] r = r
  pour s g (e ∷ l) r = pour s g l (push (s e.0) (g e.1) r)

  -- into the row r, the entries of the targets' rows, one way after another, each with its step in front
  unfoldable pub fill : (Edge → K → Option K) → (Edge → B → B) → (ℕ → List (K × B)) → ℕ → List (ℕ × ℕ) → List (K × B)
      → List (K × B)
  fill s g R b [] r = r
  fill s g R b (o ∷ os) r = fill s g R b os (pour (s (b, o.0)) (g (b, o.0)) (R o.1) r)

-- with other values in the place of these, where the two keep alike
module _ {K B C : Type 0} (φ : B → C) (lt : K → K → Bool) (keep_b : (new old : B) → B) (keep_c : (new old : C) → C)
    (same : (new old : B) → keep_c (φ new) (φ old) ≡ φ (keep_b new old)) where
  push_across : (o : Option K) (v : B) (r : List (K × B))
      → push lt keep_c o (φ v) (map (across φ) r) ≡ map (across φ) (push lt keep_b o v r)
  push_across none v r = refl
  push_across (some k) v r = keeping_across φ lt keep_b keep_c (k, v) r (λ x m. same v x.1)

  pub pour_across : (s : K → Option K) (g : B → B) (h : C → C) → ((v : B) → h (φ v) ≡ φ (g v)) → (l r : List (K × B))
      → pour lt keep_c s h (map (across φ) l) (map (across φ) r) ≡ map (across φ) (pour lt keep_b s g l r)
  unfolding pour
  pour_across s g h like [] r = refl
  pour_across s g h like (e ∷ l) r =
      ap (λ v. pour lt keep_c s h (map (across φ) l) (push lt keep_c (s e.0) v (map (across φ) r))) (like e.1)
      ∙ ap (pour lt keep_c s h (map (across φ) l)) (push_across (s e.0) (g e.1) r)
      ∙ pour_across s g h like l (push lt keep_b (s e.0) (g e.1) r)

module _ {K : Type 0} (M : Machine K) (lt : K → K → Bool) (bt : Val → Val → Bool) where
  -- row b, from the rows R of the blocks above
  abbrev pub built : (ℕ → List (K × Val)) → ℕ → List (K × Val)
  built R b = fill lt (keep_better bt) M.step (grown M) R b (M.outs b) (base M b)

  -- the rows of the last k blocks
  unfoldable pub table : ℕ → List (List (K × Val))
  table zero = []
  table (suc k) =
      let t = table k in
      let b = M.count - suc k in
      built (λ j. get_or t (j - suc b) []) b ∷ t

-- ---- enough blocks are enough

pub record Forward {K : Type 0} (M : Machine K) : Type 0 where
  pub on : (b : ℕ) (o : ℕ × ℕ) → Mem o (M.outs b) → b < o.1
  pub inside : (b : ℕ) (o : ℕ × ℕ) → Mem o (M.outs b) → o.1 < M.count

module _ {K : Type 0} (M : Machine K) where
  pub spread_same : (R S : ℕ → List (K × Val)) (b : ℕ) (os : List (ℕ × ℕ))
      → ((o : ℕ × ℕ) → Mem o os → R o.1 ≡ S o.1) → spread M R b os ≡ spread M S b os
  spread_same R S b [] h = refl
  spread_same R S b (o ∷ os) h = rw (h o (inl refl), spread_same R S b os (λ q m. h q (inr m)))

  pub enough : Forward M → (f g b : ℕ) → b < M.count → M.count ≤ f + b → M.count ≤ g + b
      → passed M f b ≡ passed M g b
  unfolding passed
  enough w zero g b h p q = let z : ⊥ = omega arith in absurd z
  enough w (suc f) zero b h p q = let z : ⊥ = omega arith in absurd z
  enough w (suc f) (suc g) b h p q =
      rw (spread_same (λ t. passed M f t) (λ t. passed M g t) b (M.outs b)
      (λ o m. enough w f g o.1 (w.inside b o m) (omega (arith, w.on b o m)) (omega (arith, w.on b o m))))

  pub passed_eq : Forward M → (b : ℕ) → b < M.count
      → passed_from M b ≡ base M b ++ spread M (passed_from M) b (M.outs b)
  unfolding passed
  passed_eq w b h = enough w M.count (suc M.count) b h (omega arith) (omega arith)

-- ---- the list of the passed paths is in the stated order

module _ {K : Type 0} where
  abbrev pub ahead : K × Val → K × Val → Bool
  ahead x y = first x.1.1 y.1.1

  module _ (s : K → Option K) (c : ℕ) (x : Edge) where
    put_sorted : (o : Option K) (e : K × Val) (l : List (K × Val)) → ((y : K × Val) → Mem y l → ahead e y ≡ true)
        → Sorted ahead (ext s (grow c x) l)
        → Sorted ahead (put o (grow c x e.1) (ext s (grow c x) l))
    put_sorted none e l h g = g
    put_sorted (some k) e l h g = (λ y m. up y (mem_ext_out s (grow c x) l y m), g)
      where
        up : (y : K × Val) → Stepped s (grow c x) y l → ahead (k, grow c x e.1) y ≡ true
        up y q = rw q.val (lexb_cons edge_before edge_order x e.1.1 q.old.1.1 ∙ h q.old q.mem)

    ext_sorted : (l : List (K × Val)) → Sorted ahead l → Sorted ahead (ext s (grow c x) l)
    unfolding ext
    ext_sorted [] h = tt
    ext_sorted (e ∷ l) h = put_sorted (s e.0) e l h.0 (ext_sorted l h.1)

    -- an entry of the extension begins with the step
    ext_head : (l : List (K × Val)) (y : K × Val) → Mem y (ext s (grow c x) l) → (p : Path) × (y.1.1 ≡ x ∷ p)
    ext_head l y m = let q = mem_ext_out s (grow c x) l y m in (q.old.1.1, ap (λ (v : Val). v.1) q.val)

  module _ (M : Machine K) where
    -- an entry of the spread begins with a way of the list
    spread_head : (R : ℕ → List (K × Val)) (b : ℕ) (os : List (ℕ × ℕ)) (y : K × Val) → Mem y (spread M R b os)
        → (o : ℕ × ℕ) × Mem o os × ((p : Path) × (y.1.1 ≡ (b, o.0) ∷ p))
    spread_head R b [] y m = absurd m
    spread_head R b (o ∷ os) y m = go (spread_head R b os y) (mem_append y (ext s g (R o.1)) (spread M R b os) m)
      where
        s : K → Option K
        s = M.step (b, o.0)

        g : Val → Val
        g = grow (M.cost b o.0) (b, o.0)

        go : (Mem y (spread M R b os) → (q : ℕ × ℕ) × Mem q os × ((p : Path) × (y.1.1 ≡ (b, q.0) ∷ p)))
            → Mem y (ext s g (R o.1)) ⊎ Mem y (spread M R b os)
            → (q : ℕ × ℕ) × Mem q (o ∷ os) × ((p : Path) × (y.1.1 ≡ (b, q.0) ∷ p))
        go f (inl n) = (o, inl refl, ext_head s (M.cost b o.0) (b, o.0) (R o.1) y n)
        go f (inr n) = let (q, k, e) = f n in (q, inr k, e)

    abbrev pub Ordered : Type 0
    Ordered = (b : ℕ) → Sorted (λ o q. ltb o.0 q.0) (M.outs b)

    lower : (b w v : ℕ) → ltb w v ≡ true → edge_before (b, w) (b, v) ≡ true
    lower b w v h = rw (ltb_order.irr b, h)

    spread_sorted : (R : ℕ → List (K × Val)) → ((t : ℕ) → Sorted ahead (R t)) → (b : ℕ) (os : List (ℕ × ℕ))
        → Sorted (λ o q. ltb o.0 q.0) os → Sorted ahead (spread M R b os)
    spread_sorted R k b [] h = tt
    spread_sorted R k b (o ∷ os) h =
        sorted_append ahead (ext (M.step (b, o.0)) (grow (M.cost b o.0) (b, o.0)) (R o.1)) (spread M R b os)
        (ext_sorted (M.step (b, o.0)) (M.cost b o.0) (b, o.0) (R o.1) (k o.1))
        (spread_sorted R k b os h.1)
        (λ x y m n. up x y (ext_head (M.step (b, o.0)) (M.cost b o.0) (b, o.0) (R o.1) x m)
        (spread_head R b os y n))
      where
        up : (x y : K × Val) → (p : Path) × (x.1.1 ≡ (b, o.0) ∷ p)
            → (q : ℕ × ℕ) × Mem q os × ((p : Path) × (y.1.1 ≡ (b, q.0) ∷ p)) → ahead x y ≡ true
        up x y (p, e) (q, n, (r, f)) =
            rw (e, f) (next_first edge_order (b, o.0) (b, q.0) (first p r) (lower b o.0 q.0 (h.0 q n)))

    pub passed_sorted : Ordered → (f b : ℕ) → Sorted ahead (passed M f b)
    unfolding passed
    passed_sorted h zero b = tt
    passed_sorted h (suc f) b =
        sorted_append ahead (base M b) (spread M (λ t. passed M f t) b (M.outs b)) (one (eqb (suc b) M.count))
        (spread_sorted (λ t. passed M f t) (passed_sorted h f) b (M.outs b) (h b))
        (λ x y m n. up (eqb (suc b) M.count) x y m (spread_head (λ t. passed M f t) b (M.outs b) y n))
      where
        up : (c : Bool) (x y : K × Val) → Mem x (cond c ((M.start, (M.cost b 0, [])) ∷ []) [])
            → (q : ℕ × ℕ) × Mem q (M.outs b) × ((p : Path) × (y.1.1 ≡ (b, q.0) ∷ p)) → ahead x y ≡ true
        up false x y x4 _ = elim x4 [ ]
        up true x y (inr x7) _ = elim x7 [ ]
        up true x y (inl e) (q, k, (p, f)) = rw (e, f)

        one : (c : Bool) → Sorted ahead (cond c ((M.start, (M.cost b 0, [])) ∷ []) [])
        one true = (λ y m. absurd m, tt)
        one false = tt
