-- Theorem 1, for any machine, preference and costs: the row built from the rows of the blocks above is the row by
-- definition (`built_row`), and so is every row of the table built from the last block down (`table_row`). Rests on
-- Machine, RowLaws and the laws' Rows.
use Rattle.std.specs.Prelude.{◌≡◌, refl, ◌⊎◌, Bool, true, false, cond, eqb, get_or}
use Rattle.std.proofs.Common.{sym, subst, inl, inr, arith, le_of_suc-le-suc, not-suc-le-zero, le_of_lt, le_refl}
use mathlib.Core.List.{List, [], ◌∷◌, ◌++◌, append-nil, append_assoc}
use Rattle.std.proofs.Math.Option.{Option, none, some}
use Prim.Native.Nat.{ℕ, zero, suc, ◌+◌, ◌-◌, ◌≤◌, ◌<◌}
use Rattle.laws.specs.Terms.{Mem}
use Rattle.laws.specs.Orders.{Order, Preference, lexb_cons}
use Rattle.laws.specs.Lists.{mem_left, mem_right, mem_append}
use Rattle.laws.specs.Rows.{Covers, IsRow, covers_refl, covers_trans, covers_append, covers_cons, covers_insert}
use Rattle.laws.specs.Rows.{keep_better, asc_insert, dom_refl, put, ext, ext_covers}
use Rattle.form.specs.Conflict.{Edge}
use Rattle.theory.specs.Row.{row_of}
use Rattle.theory.specs.machines.Machine.{Val, grow, edge_before, edge_order, better, Machine, Forward, Ordered}
use Rattle.theory.specs.machines.Machine.{grown}
use Rattle.theory.specs.machines.Machine.{base, spread, passed_from, passed_eq, passed_sorted, push, pour, fill}
use Rattle.theory.specs.machines.Machine.{built}
use Rattle.theory.specs.machines.Machine.{table}
use Rattle.theory.specs.machines.RowLaws.{better_order, row_is, row_eq}

module _ {K B : Type 0} (lt : K → K → Bool) (bt : B → B → Bool) (oK : Order lt) (oB : Order bt) where
  covers_snoc : (e : K × B) (l : List (K × B)) → Covers bt (l ++ (e ∷ [])) (e ∷ l)
  covers_snoc e l = record { from = fr; best = λ x m. (x, to x (mem_append x l (e ∷ []) m), dom_refl lt bt oK oB x) }
    where
      fr : (x : K × B) → Mem x (e ∷ l) → Mem x (l ++ (e ∷ []))
      fr x (inl p) = mem_right x l (e ∷ []) (inl p)
      fr x (inr m) = mem_left x l (e ∷ []) m

      to : (x : K × B) → Mem x l ⊎ Mem x (e ∷ []) → Mem x (e ∷ l)
      to x (inl m) = inr m
      to x (inr (inr x3)) = elim x3 [ ]
      to x (inr (inl p)) = inl p

  row_after : (l m r : List (K × B)) → Covers bt l m → IsRow lt bt m r → IsRow lt bt l r
  row_after l m r c h = record { asc = h.asc; covers = covers_trans lt bt oK oB l m r c h.covers }

  push_row : (o : Option K) (v : B) (l r : List (K × B)) → IsRow lt bt l r
      → IsRow lt bt (l ++ put o v []) (push lt (keep_better bt) o v r)
  push_row none v l r h = rw append-nil h
  push_row (some k) v l r h =
      row_after _ _ _ (covers_trans lt bt oK oB _ _ _ (covers_snoc (k, v) l)
      (covers_cons lt bt oK oB (k, v) l r h.covers))
      (record { asc = asc_insert lt bt oK oB (k, v) r h.asc; covers = covers_insert lt bt oK oB (k, v) r })

  put_append : (o : Option K) (v : B) (l m : List (K × B)) → (l ++ put o v []) ++ m ≡ l ++ put o v m
  put_append none v l m = rw append-nil
  put_append (some k) v l m = append_assoc l ((k, v) ∷ []) m

  pour_row : (s : K → Option K) (g : B → B) (es l r : List (K × B)) → IsRow lt bt l r
      → IsRow lt bt (l ++ ext s g es) (pour lt (keep_better bt) s g es r)
  unfolding ext pour
  pour_row s g [] l r h = rw append-nil h
  pour_row s g (e ∷ es) l r h =
      rw (← put_append (s e.0) (g e.1) l (ext s g es))
      (pour_row s g es _ _ (push_row (s e.0) (g e.1) l r h))

module _ {K : Type 0} (M : Machine K) (lt : K → K → Bool) (oK : Order lt) (prefers : ℕ → ℕ → Bool)
    (ch : Preference prefers) where
  grow_keeps : (c : ℕ) (x : Edge) (u v : Val) → better prefers (grow c x u) (grow c x v) ≡ better prefers u v
  grow_keeps c x u v =
      rw (ch.shift c u.0 v.0, ch.shift c v.0 u.0, lexb_cons edge_before edge_order x u.1 v.1)

  fill_row : (R S : ℕ → List (K × Val)) (b : ℕ) (os : List (ℕ × ℕ))
      → ((o : ℕ × ℕ) → Mem o os → Covers (better prefers) (R o.1) (S o.1))
      → (l r : List (K × Val)) → IsRow lt (better prefers) l r
      → IsRow lt (better prefers) (l ++ spread M R b os)
      (fill lt (keep_better (better prefers)) M.step (grown M) S b os r)
  unfolding fill
  fill_row R S b [] c l r h = rw append-nil h
  fill_row R S b (o ∷ os) c l r h =
      rw (← append_assoc) (fill_row R S b os (λ q m. c q (inr m)) _ _
      (row_after lt (better prefers) oK oV _ _ _
      (covers_append lt (better prefers) oK oV _ _ _ _ (covers_refl lt (better prefers) oK oV l)
      (ext_covers s g (better prefers) (grow_keeps (M.cost b o.0) (b, o.0)) (R o.1) (S o.1)
      (c o (inl refl))))
      (pour_row lt (better prefers) oK oV s g (S o.1) l r h)))
    where
      oV : Order (better prefers)
      oV = better_order prefers ch

      s : K → Option K
      s = M.step (b, o.0)

      g : Val → Val
      g = grow (M.cost b o.0) (b, o.0)

  base_row : (c : Bool) (e : K × Val) → IsRow lt (better prefers) (cond c (e ∷ []) []) (cond c (e ∷ []) [])
  base_row true e =
      record {
        asc = (
          λ y m.
              absurd m,
          tt,
        );
        covers = covers_refl lt (better prefers) oK (better_order prefers ch) (e ∷ []);
      }
  base_row false e = record { asc = tt; covers = covers_refl lt (better prefers) oK (better_order prefers ch) [] }

  -- the rows of the blocks above are those by definition: then the built row is
  pub built_row : Forward M → Ordered M → (R : ℕ → List (K × Val)) (b : ℕ) → b < M.count
      → ((t : ℕ) → b < t → t < M.count → R t ≡ row_of lt prefers (passed_from M t))
      → built M lt (better prefers) R b ≡ row_of lt prefers (passed_from M b)
  built_row w s R b h k =
      row_eq lt oK prefers ch (passed_from M b) (built M lt (better prefers) R b) (passed_sorted M s M.count b)
      (rw (passed_eq M w b h) (fill_row (passed_from M) R b (M.outs b)
      (λ o m. subst (Covers (better prefers) (passed_from M o.1)) (sym (k o.1 (w.on b o m) (w.inside b o m)))
      (row_is lt oK prefers ch (passed_from M o.1) (passed_sorted M s M.count o.1)).covers)
      (base M b) (base M b) (base_row (eqb (suc b) M.count) (M.start, (M.cost b 0, [])))))

  -- what the first k rows of a table are
  abbrev TableOf : ℕ → List (List (K × Val)) → Type 0
  TableOf k t = (i : ℕ) → i < k → get_or t i [] ≡ row_of lt prefers (passed_from M (M.count - k + i))

  turn : Forward M → Ordered M → (k : ℕ) (t : List (List (K × Val))) → suc k ≤ M.count → TableOf k t
      → built M lt (better prefers) (λ j. get_or t (j - suc (M.count - suc k)) []) (M.count - suc k)
      ≡ row_of lt prefers (passed_from M (M.count - suc k))
  turn w s k t h f = built_row w s _ (M.count - suc k) (omega arith) (λ j q r.
      let d : M.count - k + (j - suc (M.count - suc k)) ≡ j = omega arith in
      rw d at (f (j - suc (M.count - suc k)) (omega arith)))

  one_more : (k : ℕ) (r : List (K × Val)) (t : List (List (K × Val))) → suc k ≤ M.count
      → r ≡ row_of lt prefers (passed_from M (M.count - suc k)) → TableOf k t → TableOf (suc k) (r ∷ t)
  one_more k r t h a f zero p = let e : M.count - suc k + 0 ≡ M.count - suc k = omega arith in rw e a
  one_more k r t h a f (suc i) p =
      let e : M.count - suc k + suc i ≡ M.count - k + i = omega arith in rw e (f i (le_of_suc-le-suc p))

  table_rows : Forward M → Ordered M → (k : ℕ) → k ≤ M.count → TableOf k (table M lt (better prefers) k)
  unfolding table
  table_rows w s zero h = λ i p. absurd (not-suc-le-zero p)
  table_rows w s (suc k) h =
      let f = table_rows w s k (le_of_lt h) in
      one_more k _ (table M lt (better prefers) k) h (turn w s k (table M lt (better prefers) k) h f) f

  pub table_row : Forward M → Ordered M → (b : ℕ) → b < M.count
      → get_or (table M lt (better prefers) M.count) b [] ≡ row_of lt prefers (passed_from M b)
  table_row w s b h =
      let e : M.count - M.count + b ≡ b = omega arith in rw e at (table_rows w s M.count (le_refl M.count) b h)
