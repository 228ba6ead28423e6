-- Sets of edges as two numbers, the edges left by jump and those left by fall (bit k for block k): membership, the sets
-- of a test, tests for some edge. Rests on the laws' Sets and on Row's keys.
use Rattle.std.specs.Prelude.{◌≡◌, refl, ◌⊎◌, Bool, true, false, not, cond, ◌||◌, ℕ, ◌^◌, ◌≤◌, ◌<◌, eqb}
use Rattle.std.proofs.Common.{sym, ap, ap₂, ◌∙◌, inl, inr, lt_of_lt_of_le, ne_eqb, pow_mono}
use Rattle.std.specs.Int.Bits.{bit_or}
use Rattle.std.proofs.lemmas.Nat.{or_lt}
use Rattle.laws.specs.Terms.{any, bit, set_of}
use Rattle.laws.specs.Tests.{both, clash, any_in, any_out, or_out, or_in_left, or_in_right}
use Rattle.laws.specs.Sets.{ext, set_of_lt, bit_set_of, bit_set_of_beyond, bit_none, bit_or_lem, set_of_ext, set_of_zero}
use Rattle.laws.specs.Sets.{zero_bits, some_bit, test_true, below_or_not}
use Rattle.form.specs.Conflict.{Edge}
use Rattle.theory.specs.Row.{Key}
use Rattle.lower_laws.specs.Listed.{Way}

-- e is in the set
unfoldable pub has : Key → Edge → Bool
has s e = cond (eqb e.1 1) (bit s.0 e.0) (cond (eqb e.1 2) (bit s.1 e.0) false)

-- the edges of blocks below n with the test
abbrev pub edges_of : ℕ → (Edge → Bool) → Key
edges_of n f = (set_of n (λ k. f (k, 1)), set_of n (λ k. f (k, 2)))

abbrev pub no_edges : Key
no_edges = (0, 0)

-- some edge of a block below n has the test
abbrev pub any_edge : ℕ → (Edge → Bool) → Bool
any_edge n f = any n (λ k. f (k, 1) || f (k, 2))

way_case : (P : ℕ → Type 0) (w : ℕ) → Way w → P 1 → P 2 → P w
way_case P w (inl e) p q = rw e p
way_case P w (inr e) p q = rw e q

pub has_edges_of : (n : ℕ) (f : Edge → Bool) (e : Edge) → e.0 < n → Way e.1 → has (edges_of n f) e ≡ f e
unfolding has
has_edges_of n f e h w =
    way_case (λ v. cond (eqb v 1) (bit (set_of n (λ k. f (k, 1))) e.0)
    (cond (eqb v 2) (bit (set_of n (λ k. f (k, 2))) e.0) false) ≡ f (e.0, v)) e.1 w
    (bit_set_of n (λ k. f (k, 1)) e.0 h) (bit_set_of n (λ k. f (k, 2)) e.0 h)

none_in : (a b : Bool) → cond a false (cond b false false) ≡ false
none_in true b = refl
none_in false true = refl
none_in false false = refl

pub has_none : (e : Edge) → has no_edges e ≡ false
unfolding has
has_none e = rw (bit_none e.0) (none_in (eqb e.1 1) (eqb e.1 2))

pub any_edge_out : (n : ℕ) (f : Edge → Bool) → any_edge n f ≡ true → (e : Edge) × (e.0 < n) × Way e.1 × (f e ≡ true)
any_edge_out n f h =
    let (k, l, p) = any_out n (λ k. f (k, 1) || f (k, 2)) h in
    or_out (f (k, 1)) _ p (λ q. ((k, 1), l, inl refl, q)) (λ q. ((k, 2), l, inr refl, q))

pub any_edge_in : (n : ℕ) (f : Edge → Bool) (e : Edge) → e.0 < n → Way e.1 → f e ≡ true → any_edge n f ≡ true
any_edge_in n f e h w p =
    any_in n (λ k. f (k, 1) || f (k, 2)) e.0 h
    (way_case (λ v. f (e.0, v) ≡ true → (f (e.0, 1) || f (e.0, 2)) ≡ true) e.1 w (λ q. or_in_left _ q)
    (λ q. or_in_right (f (e.0, 1)) q) p)

pub edges_same : (n : ℕ) (f g : Edge → Bool) → ((e : Edge) → e.0 < n → Way e.1 → f e ≡ g e)
    → edges_of n f ≡ edges_of n g
edges_same n f g h = λ i. (
  set_of_ext n (λ k. f (k, 1)) (λ k. g (k, 1)) (λ k l. h (k, 1) l (inl refl)) i,
  set_of_ext n (λ k. f (k, 2)) (λ k. g (k, 2)) (λ k l. h (k, 2) l (inr refl)) i,
)

pub edges_none : (n : ℕ) (f : Edge → Bool) → ((e : Edge) → f e ≡ false) → edges_of n f ≡ no_edges
edges_none n f h =
    λ i. ((set_of_zero n (λ k. f (k, 1))).1 (λ k l. h (k, 1)) i, (set_of_zero n (λ k. f (k, 2))).1 (λ k l. h (k, 2)) i)

-- ---- as words of m bits

module _ (n m : ℕ) (enough : n ≤ m) (f : Edge → Bool) (jumps falls : ℕ) (j_fits : jumps < 2 ^ m)
    (f_fits : falls < 2 ^ m)
    (jump_bits : (k : ℕ) → k < n → bit jumps k ≡ f (k, 1)) (fall_bits : (k : ℕ) → k < n → bit falls k ≡ f (k, 2))
    (no_jumps : (k : ℕ) → n ≤ k → bit jumps k ≡ false) (no_falls : (k : ℕ) → n ≤ k → bit falls k ≡ false) where
  one_word : (g : ℕ → Bool) (s : ℕ) → s < 2 ^ m → ((k : ℕ) → k < n → bit s k ≡ g k)
      → ((k : ℕ) → n ≤ k → bit s k ≡ false) → s ≡ set_of n g
  one_word g s h inside beyond =
      ext m h (lt_of_lt_of_le (set_of_lt n g) (pow_mono enough)) (λ k l. by k (below_or_not k n))
    where
      by : (k : ℕ) → (k < n) ⊎ (n ≤ k) → bit s k ≡ bit (set_of n g) k
      by k (inl l) = inside k l ∙ sym (bit_set_of n g k l)
      by k (inr l) = beyond k l ∙ sym (bit_set_of_beyond n g k l)

  -- two words with the edges of a test, and no others, are its set
  pub edges_words : (jumps, falls) ≡ edges_of n f
  edges_words =
      λ i. (
        one_word (λ k. f (k, 1)) jumps j_fits jump_bits no_jumps i,
        one_word (λ k. f (k, 2)) falls f_fits fall_bits no_falls i,
      )

  -- some edge has the test: one of the words is not 0
  pub any_edge_words : any_edge n f ≡ not (eqb (bit_or jumps falls) 0)
  any_edge_words = both _ _ to from
    where
      bits : (k : ℕ) → bit (bit_or jumps falls) k ≡ (bit jumps k || bit falls k)
      bits k = bit_or_lem jumps falls k

      to : any_edge n f ≡ true → not (eqb (bit_or jumps falls) 0) ≡ true
      to h = ap not (ne_eqb (bit_or jumps falls) 0 (λ z.
          let (k, l, p) = any_out n (λ k. f (k, 1) || f (k, 2)) h in
          clash p (sym (ap₂ ◌||◌ (jump_bits k l) (fall_bits k l)) ∙ sym (bits k) ∙ zero_bits z k)))

      at : (k : ℕ) → (k < n) ⊎ (n ≤ k) → bit (bit_or jumps falls) k ≡ true → any_edge n f ≡ true
      at k (inl l) p =
          any_in n (λ k. f (k, 1) || f (k, 2)) k l (sym (ap₂ ◌||◌ (jump_bits k l) (fall_bits k l)) ∙ sym (bits k) ∙ p)
      at k (inr l) p = clash (sym (bits k) ∙ p) (ap₂ ◌||◌ (no_jumps k l) (no_falls k l))

      from : not (eqb (bit_or jumps falls) 0) ≡ true → any_edge n f ≡ true
      from h =
          let (k, l, p) = some_bit m (or_lt m jumps falls j_fits f_fits) (test_true h) in
          at k (below_or_not k n) p
