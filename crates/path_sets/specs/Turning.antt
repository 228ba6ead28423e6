-- Rows of words turned, so that the word of s has j where the word of j had s: the loop over the numbers of one word
-- (`Putting`) and the loop over the words (`Turned`); for each where it stands, its start, its turn and its end. Rests
-- on Parts and on words' Filled and Sorted.
use Rattle.std.specs.Prelude.{◌≡◌, refl, Bool, true, false, ◌&&◌, ◌||◌, List, ℕ, ◌+◌, ◌^◌, ◌≤◌, ◌<◌, eqb, length, get_or, set, replicate}
use Rattle.std.proofs.Common.{sym, ap, subst, ◌∙◌, arith, eqb-true, length-set, get_or-set_same, get_or-set_other}
use Rattle.std.proofs.Math.Bool.{and-true, or-false}
use Rattle.std.proofs.lemmas.Bool.{eqb-false}
use Rattle.std.specs.Int.Bits.{bit_or}
use Rattle.std.proofs.lemmas.List.{length-replicate, get_or-replicate}
use Rattle.laws.specs.Terms.{bit}
use Rattle.laws.specs.Tests.{split}
use Rattle.laws.specs.Sets.{bit_none, bit_with}
use Rattle.lower_laws.specs.Blocks.{beyond}
use Rattle.words.specs.Tabled.{LeastOut}
use Rattle.words.specs.Filled.{Told, Upto, upto_none, upto_more, upto_end}
use Rattle.words.specs.Sorted.{Sifted, sifted_none, sifted_next, sifted_end}
use Rattle.path_sets.specs.Parts.{PutAt, BothAt}

-- ---- b into the words at the numbers of a set

-- what is not left of the set is out, and b is in the words there
pub record Putting (rows : List ℕ) (numbers b left : ℕ) (new : List ℕ) : Type 0 where
  pub size : length new ≡ 64
  pub out : ℕ
  pub sifted : Sifted (λ k. true) numbers left out
  pub at : (s : ℕ) → s < 64 → (j : ℕ) → bit (get_or new s 0) j ≡ bit (get_or rows s 0) j || (bit out s && eqb j b)

module _ (rows : List ℕ) (numbers b : ℕ) where
  pub putting_none : length rows ≡ 64 → Putting rows numbers b numbers rows
  putting_none size = record {
    size = size;
    out = 0;
    sifted = sifted_none (λ k. true) numbers;
    at = λ s h j. sym (rw (bit_none s) (or-false (bit (get_or rows s 0) j)));
  }

  pub putting_more :
      (left left' at x : ℕ) (new : List ℕ) → Putting rows numbers b left new → LeastOut left at left'
      → ((j : ℕ) → bit x j ≡ bit (get_or new at 0) j || eqb j b) → Putting rows numbers b left' (set new at x)
  putting_more left left' at x new p o put = record {
    size = length-set new at x ∙ p.size;
    out = bit_or p.out (2 ^ at);
    sifted = sifted_next (λ k. true) numbers left p.out left' _ at true p.sifted o refl (bit_with p.out at);
    at = λ s h j. split (eqb s at) (here s h j) (other s h j)
        ∙ sym (ap (λ (d : Bool). bit (get_or rows s 0) j || (d && eqb j b)) (bit_with p.out at s));
  }
    where
      room : at < length new
      room = omega (arith, p.size, o.small)

      one_more : (o d e : Bool) → ((o || (d && e)) || e) ≡ (o || ((d || true) && e))
      one_more true d e = refl
      one_more false true true = refl
      one_more false true false = refl
      one_more false false e = refl

      here : (s : ℕ) → s < 64 → (j : ℕ) → eqb s at ≡ true → bit (get_or (set new at x) s 0) j
          ≡ (bit (get_or rows s 0) j || ((bit p.out s || eqb s at) && eqb j b))
      here s h j q =
          let same = eqb-true s at q in
          rw (q, same, get_or-set_same new at x 0 room) (put j ∙ ap (λ (a : Bool). a || eqb j b) (p.at at o.small j)
          ∙ one_more (bit (get_or rows at 0) j) (bit p.out at) (eqb j b))

      other : (s : ℕ) → s < 64 → (j : ℕ) → eqb s at ≡ false → bit (get_or (set new at x) s 0) j
          ≡ (bit (get_or rows s 0) j || ((bit p.out s || eqb s at) && eqb j b))
      other s h j q =
          let differ = eqb-false s at q in
          rw (q, get_or-set_other new at s x 0 differ, or-false (bit p.out s)) (p.at s h j)

  pub putting_end : (left : ℕ) (new : List ℕ) → left ≡ 0 → Putting rows numbers b left new → PutAt rows numbers b new
  putting_end left new none p = record {
    size = p.size;
    at = λ s h j. p.at s h j ∙ ap (λ (d : Bool). bit (get_or rows s 0) j || (d && eqb j b))
        (sifted_end (λ k. true) numbers left p.out p.sifted none s ∙ and-true (bit numbers s));
  }

-- ---- the words of both rows

module _ (one two : List ℕ) where
  abbrev common : (s j : ℕ) → Bool
  common s j = bit (get_or one j 0) s && bit (get_or two j 0) s

  -- those below b are in their words
  pub record Turned (b : ℕ) (l : List ℕ) : Type 0 where
    pub size : length l ≡ 64
    pub at : (s : ℕ) → s < 64 → Upto (common s) b (get_or l s 0)

  pub turned_none : Turned 0 (replicate 64 0)
  turned_none = record {
    size = length-replicate {A = ℕ} 64 0;
    at = λ s h. subst (Upto (common s) 0) (sym (get_or-replicate 64 s 0 0 h)) (upto_none (common s));
  }

  pub turned_more : (b numbers : ℕ) (l new : List ℕ) → Turned b l → ((s : ℕ) → bit numbers s ≡ common s b)
      → PutAt l numbers b new → Turned (b + 1) new
  turned_more b numbers l new t is p = record {
    size = p.size;
    at = λ s h. upto_more (common s) b (get_or l s 0) (get_or new s 0) (bit numbers s) (t.at s h) (is s) (p.at s h);
  }

  pub turned_end : (i : ℕ) (l : List ℕ) → length one ≡ 64 → 64 ≤ i → Turned i l → Told 0 (BothAt one two) 64 64 l
  turned_end i l size h t = record {
    size = t.size;
    at = λ s k. upto_end (common s) i (get_or l s 0) (none s) (t.at s k);
  }
    where
      none : (s j : ℕ) → i ≤ j → common s j ≡ false
      none s j m = rw (beyond one j 0 (omega (arith, size)), bit_none s)
