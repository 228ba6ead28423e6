-- Loops over the numbers of a word, least first, and loops that sort numbers into words by a key: where the loop
-- stands, its start, its turn and its end. Rests on Sets and Filled.
use Rattle.std.specs.Prelude.{◌≡◌, refl, Bool, true, false, not, ◌&&◌, ◌||◌, List, ℕ, ◌+◌, ◌^◌, ◌≤◌, ◌<◌, eqb, length, get_or, set, replicate}
use Rattle.std.proofs.Common.{sym, ap, subst, ◌∙◌, arith, eqb-true, ne_eqb, length-set, get_or-set_same, get_or-set_other}
use Rattle.std.proofs.Math.Bool.{and-true, and-false, or-false}
use Rattle.std.proofs.lemmas.Bool.{eqb-false}
use Rattle.std.specs.Int.Count.{count_trailing_zeros}
use Rattle.std.proofs.lemmas.List.{length-replicate, get_or-replicate}
use Rattle.laws.specs.Terms.{bit}
use Rattle.laws.specs.Tests.{split, eqb_swap}
use Rattle.laws.specs.Sets.{bit_none, trailing_lt, trailing_at}
use Rattle.words.specs.Tabled.{least, LeastOut}
use Rattle.words.specs.Filled.{Upto, upto_none, upto_more, upto_end}

pub least_some : (x : ℕ) → 0 < x → least x ≡ count_trailing_zeros 64 x
least_some x some = rw (ne_eqb x 0 (λ e. not_zero some e))
  where
    not_zero : 0 < x → x ≡ 0 → ⊥
    not_zero some e = omega arith

pub least_out : (x k y : ℕ) → 0 < x → x < 2 ^ 64 → k ≡ least x
    → ((j : ℕ) → bit y j ≡ bit x j && not (eqb j (count_trailing_zeros 64 x))) → LeastOut x k y
least_out x k y some fits lowest others =
    let is : k ≡ count_trailing_zeros 64 x = lowest ∙ least_some x some in
    let small = trailing_lt 64 fits some in record {
      small = rw is small;
      least = lowest;
      there = rw is (trailing_at 64 x small);
      others = λ j. rw is (others j);
    }

-- ---- the numbers of a word with a test, taken out of the word one by one

-- What is left is of the word, and the result has those with the test that are out.
pub record Sifted (f : ℕ → Bool) (word left result : ℕ) : Type 0 where
  pub part : (k : ℕ) → bit left k ≡ true → bit word k ≡ true
  pub out : (k : ℕ) → bit result k ≡ ((bit word k && not (bit left k)) && f k)

module _ (f : ℕ → Bool) (word : ℕ) where
  pub sifted_none : Sifted f word word 0
  sifted_none = record { part = λ k e. e; out = λ k. bit_none k ∙ sym (none (bit word k) (f k)) }
    where
      none : (a b : Bool) → ((a && not a) && b) ≡ false
      none true b = refl
      none false b = refl

  -- where the loop goes over the word's numbers
  pub sifted_next :
      (left result left' result' at : ℕ) (t : Bool) → Sifted f word left result → LeastOut left at left' → t ≡ f at
      → ((k : ℕ) → bit result' k ≡ bit result k || (t && eqb k at)) → Sifted f word left' result'
  sifted_next left result left' result' at t s o e new = record { part = part; out = out }
    where
      kept : (a b : Bool) → (a && b) ≡ true → a ≡ true
      kept true b e = refl
      kept false b e = e

      part : (k : ℕ) → bit left' k ≡ true → bit word k ≡ true
      part k q = s.part k (kept (bit left k) (not (eqb k at)) (sym (o.others k) ∙ q))

      out : (k : ℕ) → bit result' k ≡ ((bit word k && not (bit left' k)) && f k)
      out k = new k ∙ split (eqb k at) here other
        where
          here : eqb k at ≡ true → (bit result k || (t && eqb k at)) ≡ ((bit word k && not (bit left' k)) && f k)
          here q =
              let same = eqb-true k at q in
              rw (s.out k, o.others k, q, same, o.there, s.part at o.there, e) (and-true (f at))

          other : eqb k at ≡ false → (bit result k || (t && eqb k at)) ≡ ((bit word k && not (bit left' k)) && f k)
          other q = rw (o.others k, q, and-false t, or-false (bit result k), and-true (bit left k)) (s.out k)

  pub sifted_end : (left result : ℕ) → Sifted f word left result → left ≡ 0 → (k : ℕ)
      → bit result k ≡ (bit word k && f k)
  sifted_end left result s e k = s.out k ∙ rw (e, bit_none k, and-true (bit word k))

-- ---- a list of n words: the numbers with a test, each in the word at its key

pub record Sorted (n : ℕ) (key : ℕ → ℕ) (test : ℕ → Bool) (i : ℕ) (l : List ℕ) : Type 0 where
  pub size : length l ≡ n
  pub at : (v : ℕ) → v < n → Upto (λ j. test j && eqb (key j) v) i (get_or l v 0)

module _ (n : ℕ) (key : ℕ → ℕ) (test : ℕ → Bool) where
  pub sorted_none : Sorted n key test 0 (replicate n 0)
  sorted_none = record {
    size = length-replicate n 0;
    at = λ v h. subst (Upto (λ j. test j && eqb (key j) v) 0) (sym (get_or-replicate n v 0 0 h))
        (upto_none (λ j. test j && eqb (key j) v));
  }

  pub sorted_more :
      (i w x : ℕ) (t : Bool) (l : List ℕ) → Sorted n key test i l → (t ≡ true → w ≡ key i) → w < n → t ≡ test i
      → ((j : ℕ) → bit x j ≡ bit (get_or l w 0) j || (t && eqb j i)) → Sorted n key test (i + 1) (set l w x)
  sorted_more i w x t l s k h e new = record { size = length-set l w x ∙ s.size; at = at }
    where
      room : w < length l
      room = omega (arith, s.size)

      at : (v : ℕ) → v < n → Upto (λ j. test j && eqb (key j) v) (i + 1) (get_or (set l w x) v 0)
      at v m = split (eqb v w) here other
        where
          -- the number i is in the word at v exactly where it is put at w and v is w
          goes : (u : Bool) → eqb v w ≡ u → (t && u) ≡ (test i && eqb (key i) v)
          goes u q = split t
              (λ y. rw (y, sym e ∙ y) (sym (eqb_swap (key i) v ∙ ap (eqb v) (sym (k y)) ∙ q)))
              (λ y. rw (y, sym e ∙ y))

          here : eqb v w ≡ true → Upto (λ j. test j && eqb (key j) v) (i + 1) (get_or (set l w x) v 0)
          here q =
              let same = eqb-true v w q in
              upto_more (λ j. test j && eqb (key j) v) i (get_or l v 0) _ t (s.at v m) (sym (and-true t) ∙ goes true q)
              (λ j. ap (λ (y : ℕ). bit y j) (ap (λ (p : ℕ). get_or (set l w x) p 0) same ∙ get_or-set_same l w x 0 room)
              ∙ new j ∙ ap (λ (p : ℕ). bit (get_or l p 0) j || (t && eqb j i)) (sym same))

          other : eqb v w ≡ false → Upto (λ j. test j && eqb (key j) v) (i + 1) (get_or (set l w x) v 0)
          other q =
              let differ = eqb-false v w q in
              upto_more (λ j. test j && eqb (key j) v) i (get_or l v 0) _ false (s.at v m)
              (sym (and-false t) ∙ goes false q)
              (λ j. ap (λ (y : ℕ). bit y j) (get_or-set_other l w v x 0 differ) ∙ sym (or-false (bit (get_or l v 0) j)))

  pub sorted_end :
      (i : ℕ) (l : List ℕ) → ((j : ℕ) → i ≤ j → test j ≡ false) → Sorted n key test i l → (v : ℕ) → v < n → (j : ℕ)
      → bit (get_or l v 0) j ≡ (test j && eqb (key j) v)
  sorted_end i l off s v h = upto_end (λ j. test j && eqb (key j) v) i (get_or l v 0) (λ j m. rw (off j m)) (s.at v h)
