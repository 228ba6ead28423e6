-- Ties: of two paths from one block to the last, the first is the one whose 'left by jump' set has the lowest bit in
-- which these sets differ (`earlier_first`). So a path need be known only by its sets. And a set with one more step in
-- front has one more bit (`left_cons`). Rests on Steps and the laws' Sets.
use Rattle.std.specs.Prelude.{◌≡◌, ◌⊎◌, Bool, cond, ◌||◌, ◌&&◌, ℕ, ◌^◌, ◌≤◌, ◌<◌, eqb}
use Rattle.std.proofs.Math.Path.{refl, sym}
use Rattle.std.proofs.Common.{ap, ap₂, subst, ◌∙◌, inl, inr, lt_of_lt_of_le, arith, eqb-true, eq-eqb, pow_mono}
use Rattle.std.proofs.Math.Bool.{true, false, or_comm, and-true, and-false}
use mathlib.Core.List.{[], ◌∷◌}
use Rattle.std.specs.Int.Bits.{bit_or, bit_xor}
use Rattle.std.proofs.lemmas.Nat.{or_lt}
use Rattle.std.specs.Int.Count.{count_trailing_zeros}
use Rattle.std.proofs.Math.Pow.{pow-lt}
use Rattle.laws.specs.Terms.{Mem, any_of, next, bit}
use Rattle.laws.specs.Tests.{split, clash, and_in, or_out, or_in_left, or_in_right, or_none, is_false, eqb_swap}
use Rattle.laws.specs.Orders.{ltb_order, next_same}
use Rattle.laws.specs.Sets.{ext, set_of_lt, set_of_zero, bit_set_of, bit_with, lowest_bit, no_lowest}
use Rattle.lower_laws.specs.Endings.{by_exits}
use Rattle.form.specs.declared.Body.{Body}
use Rattle.form.specs.Conflict.{Edge, block, exits_by, exits, Onward, same}
use Rattle.theory.specs.Route.{Path, last_block, way_of}
use Rattle.theory.specs.Row.{left_by}
use Rattle.theory.specs.machines.Machine.{edge_before, edge_order, first, first_order}
use Rattle.lower_laws.specs.Listed.{Way, way_of_lem, same_eq}
use Rattle.theory.specs.pairs.Steps.{Leads}

-- the path leaves block k by the way
abbrev pub leaves : ℕ → Path → ℕ → Bool
leaves way p k = any_of (λ x. same x (k, way)) p

-- of two words, the first has the lowest bit in which they differ
unfoldable pub earlier : ℕ → ℕ → ℕ → Bool
earlier n x y = bit x (count_trailing_zeros n (bit_xor x y))

-- the set with the step's block, where it is left by the way
abbrev pub mark : ℕ → Edge → ℕ → ℕ
mark way x s = cond (eqb x.1 way) (bit_or s (2 ^ x.0)) s

-- ---- a way has one target

one_target : (ending jump fall w u v : ℕ) → Mem (w, u) (exits_by ending jump fall)
    → Mem (w, v) (exits_by ending jump fall) → u ≡ v
one_target ending jump fall w u v =
    by_exits jump fall (λ l. Mem {A = ℕ × ℕ} (w, u) l → Mem {A = ℕ × ℕ} (w, v) l → u ≡ v) (λ m n. absurd m) one both
    ending
  where
    one : Mem {A = ℕ × ℕ} (w, u) ((1, jump) ∷ []) → Mem {A = ℕ × ℕ} (w, v) ((1, jump) ∷ []) → u ≡ v
    one (inl p) (inr x3) = elim x3 [ ]
    one (inr x3) _ = elim x3 [ ]
    one (inl p) (inl q) = ap (λ (o : ℕ × ℕ). o.1) (p ∙ sym q)

    unlike : {a b : ℕ} → ◌≡◌ {A = ℕ × ℕ} (w, u) (1, a) → ◌≡◌ {A = ℕ × ℕ} (w, v) (2, b) → ⊥
    unlike p q = let e : ◌≡◌ {A = ℕ} 1 2 = sym (ap (λ (o : ℕ × ℕ). o.0) p) ∙ ap (λ (o : ℕ × ℕ). o.0) q in omega arith

    alike : {a b : ℕ} → ◌≡◌ {A = ℕ × ℕ} (w, u) (2, a) → ◌≡◌ {A = ℕ × ℕ} (w, v) (1, b) → ⊥
    alike p q = let e : ◌≡◌ {A = ℕ} 2 1 = sym (ap (λ (o : ℕ × ℕ). o.0) p) ∙ ap (λ (o : ℕ × ℕ). o.0) q in omega arith

    both : Mem {A = ℕ × ℕ} (w, u) ((1, jump) ∷ (2, fall) ∷ []) → Mem {A = ℕ × ℕ} (w, v) ((1, jump) ∷ (2, fall) ∷ [])
        → u ≡ v
    both (inl p) (inl q) = ap (λ (o : ℕ × ℕ). o.1) (p ∙ sym q)
    both (inl p) (inr (inr x4)) = elim x4 [ ]
    both (inr (inl p)) (inr (inr x7)) = elim x7 [ ]
    both (inr (inr x6)) _ = elim x6 [ ]
    both (inl p) (inr (inl q)) = absurd (unlike p q)
    both (inr (inl p)) (inl q) = absurd (alike p q)
    both (inr (inl p)) (inr (inl q)) = ap (λ (o : ℕ × ℕ). o.1) (p ∙ sym q)

module _ (body : Body) where
  pub exit_one : (b w u v : ℕ) → Mem (w, u) (exits body b) → Mem (w, v) (exits body b) → u ≡ v
  unfolding exits
  exit_one b w u v m n = one_target (block body b).ending (block body b).jump (block body b).fall w u v m n

  -- ---- the sets of a path

  pub left_bit : (way : ℕ) (p : Path) (k : ℕ) → k < body.count → bit (left_by body way p) k ≡ leaves way p k
  unfolding left_by
  left_bit way p k h = bit_set_of body.count (leaves way p) k h

  pub left_lt : (way : ℕ) (p : Path) → left_by body way p < 2 ^ body.count
  unfolding left_by
  left_lt way p = set_of_lt body.count (leaves way p)

  pub mark_bit : (way : ℕ) (x : Edge) (s k : ℕ) → bit (mark way x s) k ≡ (same x (k, way) || bit s k)
  mark_bit way x s k = by (eqb x.1 way) refl
    where
      by : (c : Bool) → eqb x.1 way ≡ c → bit (cond c (bit_or s (2 ^ x.0)) s) k ≡ (same x (k, way) || bit s k)
      by true e =
          bit_with s x.0 k ∙ or_comm (bit s k) (eqb k x.0)
          ∙ ap (λ c. c || bit s k)
          (eqb_swap k x.0 ∙ sym (and-true (eqb x.0 k)) ∙ ap (λ c. eqb x.0 k && c) (sym e))
      by false e = rw (e, and-false (eqb x.0 k))

  pub mark_lt : (n way : ℕ) (x : Edge) (s : ℕ) → x.0 < n → s < 2 ^ n → mark way x s < 2 ^ n
  mark_lt n way x s h l = by (eqb x.1 way)
    where
      by : (c : Bool) → cond c (bit_or s (2 ^ x.0)) s < 2 ^ n
      by true = or_lt n s (2 ^ x.0) l (pow-lt h)
      by false = l

  -- a step in front is one more bit
  pub left_cons : (way : ℕ) (x : Edge) (p : Path) → x.0 < body.count
      → left_by body way (x ∷ p) ≡ mark way x (left_by body way p)
  left_cons way x p h =
      ext body.count (left_lt way (x ∷ p)) (mark_lt body.count way x (left_by body way p) h (left_lt way p))
      (λ k l. left_bit way (x ∷ p) k l ∙ ap (λ c. same x (k, way) || c) (sym (left_bit way p k l)) ∙ sym
      (mark_bit way x (left_by body way p) k))

  pub left_nil : (way : ℕ) → left_by body way [] ≡ 0
  unfolding left_by
  left_nil way = (set_of_zero body.count (λ k. false)).1 (λ k l. refl)

  -- ---- where two paths part

  module _ (w : Onward body) where
    -- a path leaves no block below its first
    low : (b t : ℕ) (p : Path) (way k : ℕ) → Leads body b p t → leaves way p k ≡ true → b ≤ k
    low b t [] way k l h = clash h refl
    low b t (x ∷ p) way k l h = or_out (same x (k, way)) _ h
        (λ s. let e : x.0 ≡ k = ap (λ (y : Edge). y.0) (same_eq x (k, way) s) in let d = l.1 in omega arith)
        (λ a. omega (arith, w.above b (x.1, l.0) l.2, low l.0 t p way k l.3 a))

    not_low : (b t : ℕ) (p : Path) (way k : ℕ) → Leads body b p t → k < b → leaves way p k ≡ false
    not_low b t p way k l h = is_false (leaves way p k) (λ a. let z : ⊥ = omega (arith, low b t p way k l a) in z)

    -- ---- the route byte of a block, by the sets

    way_by_lem : (v : ℕ) (c d : Bool) → Way v → c ≡ false → d ≡ false → v ≡ cond (eqb v 1 || c) 1 (cond (eqb v 2 || d) 2 0)
    way_by_lem v c d (inl p) h k = rw p refl
    way_by_lem v c d (inr p) h k = rw (p, h) refl

    pub way_words : (c t : ℕ) (p : Path) (b : ℕ) → Leads body c p t
        → way_of b p ≡ cond (leaves 1 p b) 1 (cond (leaves 2 p b) 2 0)
    unfolding way_of
    way_words c t [] b l = refl
    way_words c t (x ∷ p) b l = by (eqb x.0 b) refl (way_words l.0 t p b l.3)
      where
        absent : (way : ℕ) → x.0 ≡ b → leaves way p b ≡ false
        absent way e = not_low l.0 t p way b l.3 (let d = l.1 in omega (arith, w.above c (x.1, l.0) l.2))

        by : (d : Bool) → eqb x.0 b ≡ d → way_of b p ≡ cond (leaves 1 p b) 1 (cond (leaves 2 p b) 2 0)
            → cond d x.1 (way_of b p)
            ≡ cond (d && eqb x.1 1 || leaves 1 p b) 1 (cond (d && eqb x.1 2 || leaves 2 p b) 2 0)
        by true e h =
            let q = eqb-true x.0 b e in
            way_by_lem x.1 (leaves 1 p b) (leaves 2 p b) (way_of_lem body c (x.1, l.0) l.2) (absent 1 q) (absent 2 q)
        by false e h = h

    -- the lowest block that p leaves by jump and q does not; below it they agree
    pub record Parts (p q : Path) : Type 0 where
      pub at : ℕ
      pub inside : at < body.count
      pub agree : (j : ℕ) → j < at → leaves 1 p j ≡ leaves 1 q j
      pub mine : leaves 1 p at ≡ true
      pub theirs : leaves 1 q at ≡ false

    -- where paths part in a block, the first goes by jump; else they go the same way and part later
    abbrev Parting : Edge → Edge → Bool → Type 0
    Parting x y later = ((x.1 ≡ 1) × (y.1 ≡ 2)) ⊎ ((x ≡ y) × (later ≡ true))

    part_on : (x y : Edge) → x ≡ y → (c : Bool) → next (edge_before x y) (edge_before y x) c ≡ true → Parting x y c
    part_on x y d c h = inr (
      d,
      sym (next_same edge_order y c)
          ∙ subst (λ (z : Edge). next (edge_before z y) (edge_before y z) c ≡ true) d h,
    )

    ways_part : (x y : Edge) → x.0 ≡ y.0 → Way x.1 → Way y.1 → (c : Bool)
        → next (edge_before x y) (edge_before y x) c ≡ true → Parting x y c
    ways_part x y e (inl p) (inr q) c h = inl (p, q)
    ways_part x y e (inl p) (inl q) c h = part_on x y (λ i. (e i, (p ∙ sym q) i)) c h
    ways_part x y e (inr p) (inr q) c h = part_on x y (λ i. (e i, (p ∙ sym q) i)) c h
    ways_part x y e (inr p) (inl q) c h = clash h (rw (e, p, q, ltb_order.irr y.0))

    pub parts : (b : ℕ) (p q : Path) → Leads body b p (last_block body) → Leads body b q (last_block body)
        → first p q ≡ true → Parts p q
    parts b [] [] l m h = clash h refl
    parts b [] (y ∷ q) l m h =
        let z : ⊥ = omega (arith, w.above b (y.1, m.0) m.2, w.inside b (y.1, m.0) m.2) in absurd z
    parts b (x ∷ p) [] l m h = clash h refl
    parts b (x ∷ p) (y ∷ q) l m h =
        by (ways_part x y (l.1 ∙ sym m.1) (way_of_lem body b (x.1, l.0) l.2) (way_of_lem body b (y.1, m.0) m.2)
        (first p q) h) (λ k. parts l.0 p q l.3 k)
      where
        up : b < l.0
        up = w.above b (x.1, l.0) l.2

        part_here : x.1 ≡ 1 → y.1 ≡ 2 → Parts (x ∷ p) (y ∷ q)
        part_here e f = record {
          at = b;
          inside = omega (arith, w.inside b (x.1, l.0) l.2, up);
          agree = λ j k. not_low b (last_block body) (x ∷ p) 1 j l k ∙ sym (not_low b (last_block body) (y ∷ q) 1 j m k);
          mine = or_in_left _ (and_in (eq-eqb x.0 b l.1) (eq-eqb x.1 1 e));
          theirs =
              or_none (ap (λ v. eqb y.0 b && eqb v 1) f ∙ and-false (eqb y.0 b))
              (not_low m.0 (last_block body) q 1 b m.3 (w.above b (y.1, m.0) m.2));
        }

        part_later : x ≡ y → Parts p q → Parts (x ∷ p) (y ∷ q)
        part_later e r =
            let high : l.0 ≤ r.at = low l.0 (last_block body) p 1 r.at l.3 r.mine in
            let d : x.0 ≡ b = l.1 in
            let f : y.0 ≡ b = m.1 in
            record {
              at = r.at;
              inside = r.inside;
              agree = λ j k. ap₂ ◌||◌ (ap (λ (z : Edge). same z (j, 1)) e) (r.agree j k);
              mine = or_in_right (same x (r.at, 1)) r.mine;
              theirs =
                  or_none (is_false (same y (r.at, 1))
                  (λ s. let g : y.0 ≡ r.at = ap (λ (z : Edge). z.0) (same_eq y (r.at, 1) s) in let z : ⊥ = omega
                  (arith, up) in z)) r.theirs;
            }

        target : x ≡ y → m.0 ≡ l.0
        target e =
            exit_one b y.1 m.0 l.0 m.2 (subst (λ (z : Edge). Mem (z.1, l.0) (exits body b)) e l.2)

        by : Parting x y (first p q) → (Leads body l.0 q (last_block body) → first p q ≡ true → Parts p q)
            → Parts (x ∷ p) (y ∷ q)
        by (inl (e, f)) k = part_here e f
        by (inr (e, f)) k = part_later e (k (subst (λ (u : ℕ). Leads body u q (last_block body)) (target e) m.3) f)

    -- ---- the first by sets

    below : (n way : ℕ) (p : Path) → body.count ≤ n → left_by body way p < 2 ^ n
    below n way p h = lt_of_lt_of_le (left_lt way p) (pow_mono h)

    agree_bits : (p q : Path) (r : Parts p q) (j : ℕ) → j < r.at → bit (left_by body 1 p) j ≡ bit (left_by body 1 q) j
    agree_bits p q r j h =
        let k : j < body.count = omega (arith, r.inside) in left_bit 1 p j k ∙ r.agree j h ∙ sym (left_bit 1 q j k)

    -- the sets tell which of two paths from one block is first
    pub earlier_first : (n : ℕ) → body.count ≤ n → (b : ℕ) (p q : Path) → Leads body b p (last_block body)
        → Leads body b q (last_block body)
        → earlier n (left_by body 1 p) (left_by body 1 q) ≡ first p q
    unfolding earlier
    earlier_first n h b p q l m = split (first p q) yes_first (λ f. split (first q p) (not_first f) (neither f))
      where
        yes_first : first p q ≡ true
            → bit (left_by body 1 p) (count_trailing_zeros n (bit_xor (left_by body 1 p) (left_by body 1 q))) ≡ first p q
        yes_first f = let r = parts b p q l m f in
            lowest_bit n r.at true (below n 1 p h) (below n 1 q h) (agree_bits p q r)
            (left_bit 1 p r.at r.inside ∙ r.mine) (left_bit 1 q r.at r.inside ∙ r.theirs) ∙ sym f

        not_first : first p q ≡ false → first q p ≡ true
            → bit (left_by body 1 p) (count_trailing_zeros n (bit_xor (left_by body 1 p) (left_by body 1 q))) ≡ first p q
        not_first f g = let r = parts b q p m l g in
            lowest_bit n r.at false (below n 1 p h) (below n 1 q h) (λ j k. sym (agree_bits q p r j k))
            (left_bit 1 p r.at r.inside ∙ r.theirs) (left_bit 1 q r.at r.inside ∙ r.mine) ∙ sym f

        neither : first p q ≡ false → first q p ≡ false
            → bit (left_by body 1 p) (count_trailing_zeros n (bit_xor (left_by body 1 p) (left_by body 1 q))) ≡ first p q
        neither f g =
            let e : q ≡ p = first_order.tri q p g f in
            ap (λ (z : Path). bit (left_by body 1 p) (count_trailing_zeros n (bit_xor (left_by body 1 p) (left_by body 1 z)))) e
            ∙ no_lowest n (left_by body 1 p) (below n 1 p h) ∙ sym f
