-- The sweep on words, over the two machines of a body. An entry keeps of its tail the open edges, the weight and the
-- sets of blocks left by jump or go and by fall. The row of entries built from the rows of entries above is the row by
-- definition (`sweep_words`), and row 0 is the answer (`row_zero_words`). Rests on Answer and Ties.
use Rattle.std.specs.Prelude.{◌≡◌, Bool, true, false, cond, ℕ, suc, ◌+◌, ◌≤◌, ◌<◌, ◌^◌, eqb}
use Rattle.std.proofs.Math.Path.{refl, ap, subst}
use Rattle.std.proofs.Common.{sym, ◌∙◌, inl, inr, le_refl, arith, eqb-true}
use Rattle.std.proofs.Math.Bool.{not}
use mathlib.Core.List.{List, [], ◌∷◌, map}
use Rattle.std.proofs.Math.Option.{Option, none, some}
use Rattle.laws.specs.Terms.{Mem, Sorted, next}
use Rattle.laws.specs.Orders.{Preference}
use Rattle.laws.specs.Lists.{map_out, only_out}
use Rattle.laws.specs.Rows.{insert, keep_better, covers_insert, insert_across}
use Rattle.form.specs.declared.Body.{Body}
use Rattle.form.specs.Conflict.{Edge, exits, Onward}
use Rattle.theory.specs.Route.{Path, last_block, paths, weighed}
use Rattle.theory.specs.Row.{Key, key_before, found, row_of, left_by, Entry}
use Rattle.theory.specs.machines.Machine.{Val, grow, grown, better, base, push, pour, fill, passed_sorted, ahead}
use Rattle.theory.specs.machines.RowLaws.{better_order, row_is}
use Rattle.theory.specs.pairs.Steps.{Leads}
use Rattle.theory.specs.pairs.Edges.{no_edges}
use Rattle.theory.specs.machines.Passes.{paths_lead}
use Rattle.theory.specs.answers.Ties.{mark, earlier, left_cons, left_nil, earlier_first, left_lt}
use Rattle.theory.specs.Range.{up_to, weight_most}
use Rattle.theory.specs.answers.Ways.{Ways, sweeper, tails_by, best_by, open_tails_by}
use Rattle.theory.specs.answers.Answer.{key_order, passed_tails, sweep_row, row_zero}
use Rattle.lower_laws.specs.ConflictList.{exits_ordered}

-- what is kept of a path: its weight, the blocks left by jump or go, the blocks left by fall
abbrev pub Words : Type 0
Words = ℕ × (ℕ × ℕ)

abbrev pub words_of : Body → Val → Words
words_of body v = (v.0, (left_by body 1 v.1, left_by body 2 v.1))

abbrev pub on_words : Body → Key × Val → Key × Words
on_words body e = (e.0, words_of body e.1)

-- an entry of the table from its key and words
abbrev pub entry_from : Key × Words → Entry
entry_from e = record { jumps = e.0.0; falls = e.0.1; weight = e.1.0; jumped = e.1.1.0; fallen = e.1.1.1 }

abbrev pub words_found : Body → Option Val → Option Words
words_found body none = none
words_found body (some v) = some (words_of body v)

-- a step in front
abbrev pub grow_words : (cost : ℕ → ℕ → ℕ) → Edge → Words → Words
grow_words cost x u = (cost x.0 x.1 + u.0, (mark 1 x u.1.0, mark 2 x u.1.1))

-- the preferred weight, and of equal weights the first, by words of n bits
abbrev pub better_words : ℕ → (prefers : ℕ → ℕ → Bool) → Words → Words → Bool
better_words n prefers u v = next (prefers u.0 v.0) (prefers v.0 u.0) (earlier n u.1.0 v.1.0)

-- the row by definition, on words
abbrev pub row_words : Body → (ruled_out : Path → Bool) → (opens : ℕ → Path → Key) → (cost : ℕ → ℕ → ℕ)
    → (prefers : ℕ → ℕ → Bool) → ℕ → List (Key × Words)
row_words body ruled_out opens cost prefers b =
    map (on_words body) (row_of key_before prefers (open_tails_by body ruled_out opens cost b))

-- row 0 is the first route of the preferred weight, or nothing
pub row_zero_words : (body : Body) (ruled_out : Path → Bool) (opens : ℕ → Path → Key)
    → ((p : Path) → opens 0 p ≡ no_edges) → (cost : ℕ → ℕ → ℕ) (prefers : ℕ → ℕ → Bool)
    → row_words body ruled_out opens cost prefers 0 ≡ found no_edges (words_found body (best_by body ruled_out cost prefers))
row_zero_words body ruled_out opens closed cost prefers =
    ap (map (on_words body)) (row_zero body ruled_out opens closed cost prefers) ∙ by (best_by body ruled_out cost prefers)
  where
    by : (o : Option Val) → map (on_words body) (found no_edges o) ≡ found no_edges (words_found body o)
    by none = refl
    by (some v) = refl

-- ---- the row built on words, by what a step in front makes of the open edges

module _ (body : Body) (back : Edge → Key → Option Key) (cost : ℕ → ℕ → ℕ) (prefers : ℕ → ℕ → Bool) (n : ℕ) where
  -- the entries of the row of one target, with the step in front, into the row r
  abbrev pub pour_words : Edge → List (Key × Words) → List (Key × Words) → List (Key × Words)
  pour_words x l r = pour key_before (keep_better (better_words n prefers)) (back x) (grow_words cost x) l r

  abbrev pub fill_words : (ℕ → List (Key × Words)) → ℕ → List (ℕ × ℕ) → List (Key × Words) → List (Key × Words)
  fill_words R b os r = fill key_before (keep_better (better_words n prefers)) back (grow_words cost) R b os r

  abbrev pub base_words : ℕ → List (Key × Words)
  base_words b = cond (eqb (suc b) body.count) ((no_edges, (cost b 0, (0, 0))) ∷ []) []

  abbrev pub built_words : (ℕ → List (Key × Words)) → ℕ → List (Key × Words)
  built_words R b = fill_words R b (exits body b) (base_words b)

-- ---- it is the row built on paths

module _ (body : Body) (w : Onward body) {ruled_out : Path → Bool} {opens : ℕ → Path → Key}
    (W : Ways body ruled_out opens) (cost : ℕ → ℕ → ℕ)
    (prefers : ℕ → ℕ → Bool) (ch : Preference prefers) (n : ℕ) (enough : body.count ≤ n) where
  -- every entry's path leads from b to the last block
  abbrev From : ℕ → List (Key × Val) → Type 0
  From b r = (e : Key × Val) → Mem e r → Leads body b e.1.1 (last_block body)

  grow_words_lem : (x : Edge) (v : Val) → x.0 < body.count
      → words_of body (grow (cost x.0 x.1) x v) ≡ grow_words cost x (words_of body v)
  grow_words_lem x v h = λ i. (cost x.0 x.1 + v.0, (left_cons body 1 x v.1 h i, left_cons body 2 x v.1 h i))

  same_better : (b : ℕ) (u v : Val) → Leads body b u.1 (last_block body) → Leads body b v.1 (last_block body)
      → better_words n prefers (words_of body u) (words_of body v) ≡ better prefers u v
  same_better b u v l m =
      ap (next (prefers u.0 v.0) (prefers v.0 u.0)) (earlier_first body w n enough b u.1 v.1 l m)

  module _ (b way t : ℕ) (exit : Mem (way, t) (exits body b)) where
    abbrev x : Edge
    x = (b, way)

    abbrev put_in : Option Key → Val → List (Key × Val) → List (Key × Val)
    put_in o v r = push key_before (keep_better (better prefers)) o v r

    longer : (p : Path) → Leads body t p (last_block body) → Leads body b (x ∷ p) (last_block body)
    longer p l = (t, refl, exit, l)

    push_words : (o : Option Key) (v : Val) (r : List (Key × Val)) → Leads body t v.1 (last_block body) → From b r
        → push key_before (keep_better (better_words n prefers)) o (grow_words cost x (words_of body v))
        (map (on_words body) r)
        ≡ map (on_words body) (put_in o (grow (cost b way) x v) r)
    push_words none v r l f = refl
    push_words (some k) v r l f =
        ap (λ u. insert key_before (better_words n prefers) (k, u) (map (on_words body) r))
        (sym (grow_words_lem x v (omega (arith, w.above b (way, t) exit, w.inside b (way, t) exit))))
        ∙ insert_across key_before (better prefers) (better_words n prefers) (words_of body) (k, grow (cost b way) x v) r
        (λ e m. same_better b (grow (cost b way) x v) e.1 (longer v.1 l) (f e m))

    push_from : (o : Option Key) (v : Val) (r : List (Key × Val)) → Leads body t v.1 (last_block body) → From b r
        → From b (put_in o (grow (cost b way) x v) r)
    push_from none v r l f e m = f e m
    push_from (some k) v r l f e m =
        by ((covers_insert key_before (better prefers) key_order (better_order prefers ch)
        (k, grow (cost b way) x v) r).from e m)
      where
        by : Mem e ((k, grow (cost b way) x v) ∷ r) → Leads body b e.1.1 (last_block body)
        by (inl q) = subst (λ (e : Key × Val). Leads body b e.1.1 (last_block body)) (sym q) (longer v.1 l)
        by (inr i) = f e i

    abbrev pour_paths : List (Key × Val) → List (Key × Val) → List (Key × Val)
    pour_paths l r = pour key_before (keep_better (better prefers)) (W.back x) (grow (cost b way) x) l r

    pour_words_lem : (l r : List (Key × Val)) → From t l → From b r
        → (pour_words body W.back cost prefers n x (map (on_words body) l) (map (on_words body) r) ≡ map (on_words body)
        (pour_paths l r)) × From b (pour_paths l r)
    unfolding pour
    pour_words_lem [] r f g = (refl, g)
    pour_words_lem (e ∷ l) r f g =
        let o = W.back x e.0 in
        let h = f e (inl refl) in
        let (p, q) =
        pour_words_lem l (put_in o (grow (cost b way) x e.1) r) (λ d m. f d (inr m)) (push_from o e.1 r h g) in
        (ap (pour_words body W.back cost prefers n x (map (on_words body) l)) (push_words o e.1 r h g) ∙ p, q)

  fill_words_lem : (R : ℕ → List (Key × Val)) (b : ℕ) (os : List (ℕ × ℕ)) → ((o : ℕ × ℕ) → Mem o os → Mem o (exits body b))
      → ((o : ℕ × ℕ) → Mem o os → From o.1 (R o.1))
      → (r : List (Key × Val)) → From b r
      → fill_words body W.back cost prefers n (λ t. map (on_words body) (R t)) b os (map (on_words body) r)
      ≡ map (on_words body)
      (fill key_before (keep_better (better prefers)) W.back (grown (sweeper body W cost)) R b os r)
  unfolding fill
  fill_words_lem R b [] i f r g = refl
  fill_words_lem R b (o ∷ os) i f r g =
      let (p, q) = pour_words_lem b o.0 o.1 (i o (inl refl)) (R o.1) r (f o (inl refl)) g in
      ap (fill_words body W.back cost prefers n (λ t. map (on_words body) (R t)) b os) p
      ∙ fill_words_lem R b os (λ d m. i d (inr m)) (λ d m. f d (inr m)) _ q

  base_words_lem : (b : ℕ) → base_words body W.back cost prefers n b ≡ map (on_words body) (base (sweeper body W cost) b)
  base_words_lem b = by (eqb (suc b) body.count)
    where
      by : (c : Bool)
          → cond c ((no_edges, (cost b 0, (0, 0))) ∷ []) []
          ≡ map (on_words body) (cond c ((no_edges, (cost b 0, [])) ∷ []) [])
      by true = λ i. (no_edges, (cost b 0, (sym (left_nil body 1) i, sym (left_nil body 2) i))) ∷ []
      by false = refl

  fill_same : (R S : ℕ → List (Key × Words)) (b : ℕ) (os : List (ℕ × ℕ))
      → ((o : ℕ × ℕ) → Mem o os → R o.1 ≡ S o.1) → (r : List (Key × Words))
      → fill_words body W.back cost prefers n R b os r ≡ fill_words body W.back cost prefers n S b os r
  unfolding fill
  fill_same R S b [] h r = refl
  fill_same R S b (o ∷ os) h r =
      ap (λ l. fill_words body W.back cost prefers n R b os (pour_words body W.back cost prefers n (b, o.0) l r))
      (h o (inl refl)) ∙ fill_same R S b os (λ q m. h q (inr m)) _

  tails_from : (b : ℕ) → From b (open_tails_by body ruled_out opens cost b)
  unfolding open_tails_by tails_by
  tails_from b e m =
      let (p, i, q) = map_out (λ (p : Path). (opens b p, weighed body cost p)) (tails_by body ruled_out b) e m in
      subst (λ (v : Key × Val). Leads body b v.1.1 (last_block body)) (sym q)
      (paths_lead body body.count b p (only_out (λ p. not (ruled_out p)) (paths body body.count b) p i).1)

  tails_sorted : (b : ℕ) → Sorted ahead (open_tails_by body ruled_out opens cost b)
  tails_sorted b =
      subst (Sorted ahead) (passed_tails body w W cost b)
      (passed_sorted (sweeper body W cost) (exits_ordered body) body.count b)

  rows_from_lem : (b : ℕ) → From b (row_of key_before prefers (open_tails_by body ruled_out opens cost b))
  rows_from_lem b e m =
      tails_from b e ((row_is key_before key_order prefers ch (open_tails_by body ruled_out opens cost b)
      (tails_sorted b)).covers.from e m)

  -- the rows above are those by definition: then the built row is
  pub sweep_words : (R : ℕ → List (Key × Words)) (b : ℕ) → b < body.count
      → ((t : ℕ) → b < t → t < body.count → R t ≡ row_words body ruled_out opens cost prefers t)
      → built_words body W.back cost prefers n R b ≡ row_words body ruled_out opens cost prefers b
  sweep_words R b h k =
      fill_same R (row_words body ruled_out opens cost prefers) b (exits body b)
      (λ o m. k o.1 (w.above b o m) (w.inside b o m)) (base_words body W.back cost prefers n b)
      ∙ ap (fill_words body W.back cost prefers n (row_words body ruled_out opens cost prefers) b (exits body b))
      (base_words_lem b)
      ∙ fill_words_lem (λ t. row_of key_before prefers (open_tails_by body ruled_out opens cost t)) b (exits body b) (λ o m. m)
      (λ o m. rows_from_lem o.1) (base (sweeper body W cost) b) (base_from b)
      ∙ ap (map (on_words body))
      (sweep_row body w W cost prefers ch (λ t. row_of key_before prefers (open_tails_by body ruled_out opens cost t)) b h
      (λ t p q. refl))
    where
      base_from : (b : ℕ) → From b (base (sweeper body W cost) b)
      base_from b e m = by (eqb (suc b) body.count) refl m
        where
          by : (c : Bool) → eqb (suc b) body.count ≡ c → Mem e (cond c ((no_edges, (cost b 0, [])) ∷ []) [])
              → Leads body b e.1.1 (last_block body)
          by false q x3 = elim x3 [ ]
          by true q (inr x5) = elim x5 [ ]
          by true q (inl p) =
              let d : suc b ≡ body.count =
              eqb-true (suc b) body.count q in
              subst (λ (v : Key × Val). Leads body b v.1.1 (last_block body)) (sym p) (omega arith)

-- ---- how large the entries are

pub record Fits (body : Body) (most : ℕ → ℕ) (b : ℕ) (e : Key × Words) : Type 0 where
  pub jumps : e.0.0 < 2 ^ body.count
  pub falls : e.0.1 < 2 ^ body.count
  pub weighs : e.1.0 + up_to most b ≤ up_to most body.count
  pub jumped : e.1.1.0 < 2 ^ body.count
  pub fallen : e.1.1.1 < 2 ^ body.count

module _ (body : Body) (w : Onward body) {ruled_out : Path → Bool} {opens : ℕ → Path → Key}
    (W : Ways body ruled_out opens)
    (small : (b : ℕ) (p : Path) → ((opens b p).0 < 2 ^ body.count) × ((opens b p).1 < 2 ^ body.count)) (cost : ℕ → ℕ
    → ℕ)
    (most : ℕ → ℕ) (cheap : (b way : ℕ) → b < body.count → cost b way ≤ most b) (prefers : ℕ → ℕ
    → Bool) (ch : Preference prefers) where
  path_fits : (b : ℕ) (p : Path) → b < body.count → Leads body b p (last_block body)
      → Fits body most b (on_words body (opens b p, weighed body cost p))
  path_fits b p h l = record {
    jumps = (small b p).0;
    falls = (small b p).1;
    weighs = weight_most body w cost most cheap b p h l;
    jumped = left_lt body 1 p;
    fallen = left_lt body 2 p;
  }

  pub entry_fits : (b : ℕ) → b < body.count → (e : Key × Words) → Mem e (row_words body ruled_out opens cost prefers b)
      → Fits body most b e
  unfolding open_tails_by tails_by
  entry_fits b h e m =
      let (d, i, q) = map_out (on_words body) (row_of key_before prefers (open_tails_by body ruled_out opens cost b)) e m in
      let j = (row_is key_before key_order prefers ch (open_tails_by body ruled_out opens cost b)
      (tails_sorted body w W cost prefers ch body.count (le_refl body.count) b)).covers.from d i in
      let (p, k, r) = map_out (λ (p : Path). (opens b p, weighed body cost p)) (tails_by body ruled_out b) d j in
      let l = paths_lead body body.count b p
      (only_out (λ p. not (ruled_out p)) (paths body body.count b) p k).1 in
      by d p q r (path_fits b p h l)
    where
      by : (d : Key × Val) (p : Path) → e ≡ on_words body d → d ≡ (opens b p, weighed body cost p)
          → Fits body most b (on_words body (opens b p, weighed body cost p)) → Fits body most b e
      by d p q r f = subst (Fits body most b) (sym (q ∙ ap (on_words body) r)) f
