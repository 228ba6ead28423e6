-- Loops that fill a word bit by bit, and a list place by place: where the loop stands, its start,
-- its turn and its end. Rests on Sets.
use Rattle.std.specs.Prelude.{◌≡◌, refl, ◌⊎◌, Bool, true, false, ◌&&◌, ◌||◌, List, map, ℕ, zero, suc, ◌+◌, ◌-◌, ◌*◌, ◌^◌, ◌≤◌, ◌<◌, eqb, ltb, length, get_or, set, replicate}
use Rattle.std.proofs.Math.Path.{sym, ap}
use Rattle.std.proofs.Common.{◌∙◌, subst, inl, inr, zero-add, pow-suc, add-one, arith, eqb-true, ltb-true, ltb-false, lt-ltb, le-ltb, Fits, length-set, get_or-set_same, get_or-set_other, ext_get_or}
use Rattle.std.proofs.Math.Bool.{and-true, and-false, or-false, or_assoc}
use Rattle.std.proofs.lemmas.Bool.{eqb-false}
use Rattle.std.proofs.lemmas.List.{length-replicate, get_or-replicate, get_or_past}
use Rattle.std.specs.Int.{w64}
use Rattle.words.specs.Tabled.{tabled, rows}
use Rattle.laws.specs.Terms.{bit, any, range, set_of}
use Rattle.laws.specs.Tests.{split}
use Rattle.laws.specs.Sets.{bit_none, bit_set_of, bit_set_of_beyond, below_or_not, ext, set_of_lt}

module _ (f : ℕ → Bool) where
  -- the word has the numbers below i with the test
  abbrev pub Upto : ℕ → ℕ → Type 0
  Upto i w = (j : ℕ) → bit w j ≡ (ltb j i && f j)

  pub upto_none : Upto 0 0
  upto_none j = bit_none j ∙ rw (le-ltb j 0 (omega arith))

  pub upto_more : (i w v : ℕ) (t : Bool) → Upto i w → t ≡ f i → ((j : ℕ) → bit v j ≡ bit w j || (t && eqb j i))
      → Upto (i + 1) v
  upto_more i w v t inv e new j = new j ∙ ap (λ b. b || (t && eqb j i)) (inv j) ∙ split (eqb j i) here there
    where
      here : eqb j i ≡ true → ((ltb j i && f j) || (t && eqb j i)) ≡ (ltb j (i + 1) && f j)
      here q =
          let s = eqb-true j i q in
          rw (q, le-ltb j i (omega arith), lt-ltb j (i + 1) (omega arith), e, s) (and-true (f i))

      there : eqb j i ≡ false → ((ltb j i && f j) || (t && eqb j i)) ≡ (ltb j (i + 1) && f j)
      there q =
          let d = eqb-false j i q in
          rw (q, and-false t, or-false (ltb j i && f j)) (split (ltb j i)
          (λ l. rw (l, lt-ltb j (i + 1) (omega (arith, ltb-true j i l))))
          (λ l. rw (l, le-ltb j (i + 1) (omega (arith, ltb-false j i l)))))

  pub upto_end : (n w : ℕ) → ((j : ℕ) → n ≤ j → f j ≡ false) → Upto n w → (j : ℕ) → bit w j ≡ f j
  upto_end n w none inv j = inv j ∙ split (ltb j n) (λ l. rw l) (λ l. rw l (sym (none j (ltb-false j n l))))

-- for some number below n + 1: below n, or n itself
pub any_last : (n : ℕ) (f : ℕ → Bool) → any (n + 1) f ≡ (any n f || f n)
any_last n f = rw (add-one n) (go n f)
  where
    go : (n : ℕ) (f : ℕ → Bool) → any (suc n) f ≡ (any n f || f n)
    go zero f = or-false (f 0)
    go (suc n) f = ap (λ b. f 0 || b) (go n (λ i. f (suc i)))
        ∙ sym (or_assoc (f 0) (any n (λ i. f (suc i))) (f (suc n)))

-- a list of n places that tells what it should at those below i
pub record Told {A : Type 0} (z : A) (P : ℕ → A → Type 0) (n i : ℕ) (l : List A) : Type 0 where
  pub size : length l ≡ n
  pub at : (b : ℕ) → b < i → P b (get_or l b z)

module _ {A : Type 0} (z : A) (P : ℕ → A → Type 0) (n : ℕ) where
  pub told_none : (l : List A) → length l ≡ n → Told z P n 0 l
  told_none l e = record { size = e; at = λ b h. absurd (no b h) }
    where
      no : (b : ℕ) → b < 0 → ⊥
      no b h = omega arith

  pub told_more : (i : ℕ) (l : List A) (x : A) → i < n → Told z P n i l → P i x → Told z P n (i + 1) (set l i x)
  told_more i l x h inv p = record { size = length-set l i x ∙ inv.size; at = at }
    where
      room : i < length l
      room = omega (arith, inv.size)

      at : (b : ℕ) → b < i + 1 → P b (get_or (set l i x) b z)
      at b k = split (eqb b i)
          (λ q. let s = eqb-true b i q in rw (s, get_or-set_same l i x z room) p)
          (λ q. let d = eqb-false b i q in rw (get_or-set_other l i b x z d) (inv.at b (omega arith)))

  -- the loop is at its end
  pub told_end : (i : ℕ) (l : List A) → n ≤ i → Told z P n i l → Told z P n n l
  told_end i l h inv = record { size = inv.size; at = λ b k. inv.at b (omega arith) }

  -- what a list tells in other words
  pub told_as : (Q : ℕ → A → Type 0) (l : List A) → Told z P n n l → ((b : ℕ) (x : A) → b < n → P b x → Q b x)
      → Told z Q n n l
  told_as Q l inv f = record { size = inv.size; at = λ b k. f b (get_or l b z) k (inv.at b k) }

-- the same of a list that has z from i on
pub record Filling {A : Type 0} (z : A) (P : ℕ → A → Type 0) (n i : ℕ) (l : List A) : Type 0 where
  pub told : Told z P n i l
  pub rest : (b : ℕ) → i ≤ b → get_or l b z ≡ z

module _ {A : Type 0} (z : A) (P : ℕ → A → Type 0) (n : ℕ) where
  pub filling_none : Filling z P n 0 (replicate n z)
  filling_none = record {
    told = told_none z P n (replicate n z) (length-replicate n z);
    rest = λ b h. split (ltb b n)
        (λ l. get_or-replicate n b z z (ltb-true b n l))
        (λ l. get_or_past (replicate n z) b z (omega (arith, ltb-false b n l, length-replicate n z)));
  }

  pub filling_more : (i : ℕ) (l : List A) (x : A) → i < n → Filling z P n i l → P i x
      → Filling z P n (i + 1) (set l i x)
  filling_more i l x h f p = record {
    told = told_more z P n i l x h f.told p;
    rest = λ b m. get_or-set_other l i b x z (omega arith) ∙ f.rest b (omega arith);
  }

  -- the loop is at its end, and z is right at the places that are left
  pub filling_end : (i : ℕ) (l : List A) → ((b : ℕ) → i ≤ b → b < n → P b z) → Filling z P n i l → Told z P n n l
  filling_end i l past f = record {
    size = f.told.size;
    at = λ b h. split (ltb b i)
        (λ m. f.told.at b (ltb-true b i m))
        (λ m. let above = ltb-false b i m in subst (P b) (sym (f.rest b above)) (past b above h));
  }

-- ---- places of arrays: cited where the context is too large to look through

pub in_room : {m n i : ℕ} → m ≡ n → i < n → i < m
in_room size h = omega arith

-- a place's distance in bytes fits a word
pub fits_8 : {i : ℕ} → i < 256 → Fits w64 (i * 8)
fits_8 h = omega arith

pub fits_4 : {i : ℕ} → i < 256 → Fits w64 (i * 4)
fits_4 h = omega arith

pub below_256 : {i : ℕ} → i < 64 → i < 256
below_256 h = omega arith

pub fits_small : {n : ℕ} → n ≤ 256 → Fits w64 n
fits_small h = omega arith

pub fits_byte : {n : ℕ} → n < 256 → Fits w64 n
fits_byte h = omega arith

-- the next place, and what is left after it
pub fits_next : {i : ℕ} → i < 256 → Fits w64 (i + 1)
fits_next h = omega arith

pub next_within : {n i : ℕ} → i < n → i + 1 ≤ n
next_within h = omega arith

pub less_left : (n : ℕ) {i : ℕ} → i < n → n - (i + 1) < n - i
less_left n h = omega arith

-- ---- a list that is told whole

module _ {A : Type 0} (f : ℕ → A) where
  from_length : (a n : ℕ) → length (map f (range a n)) ≡ n
  from_length a zero = refl
  from_length a (suc n) = ap suc (from_length (suc a) n)

  from_at : (a n i : ℕ) (z : A) → i < n → get_or (map f (range a n)) i z ≡ f (a + i)
  from_at a zero i z h = absurd (no h)
    where
      no : i < 0 → ⊥
      no h = omega arith
  from_at a (suc n) zero z h = ap f (none a)
    where
      none : (a : ℕ) → a ≡ a + 0
      none a = omega arith
  from_at a (suc n) (suc i) z h = from_at (suc a) n i z (omega arith) ∙ ap f (over a i)
    where
      over : (a i : ℕ) → suc a + i ≡ a + suc i
      over a i = omega arith

  pub tabled_length : (n : ℕ) → length (tabled n f) ≡ n
  unfolding tabled
  tabled_length n = from_length 0 n

  pub tabled_at : (n i : ℕ) (z : A) → i < n → get_or (tabled n f) i z ≡ f i
  unfolding tabled
  tabled_at n i z h = from_at 0 n i z h ∙ ap f (zero-add i)

  pub told_tabled : (z : A) (n : ℕ) (l : List A) → Told z (λ b x. x ≡ f b) n n l → l ≡ tabled n f
  told_tabled z n l t = ext_get_or z l (tabled n f) (t.size ∙ sym (tabled_length n))
      (λ i h. t.at i (omega (arith, t.size)) ∙ sym (tabled_at n i z (omega (arith, t.size))))

-- words with the same bits are equal
n_lt_pow : (n : ℕ) → n < 2 ^ n
n_lt_pow zero = omega arith
n_lt_pow (suc n) = let e = pow-suc 2 n in omega (arith, n_lt_pow n)

pub same_bits : (x y : ℕ) → ((k : ℕ) → bit x k ≡ bit y k) → x ≡ y
same_bits x y h = ext (x + y) (below x (x + y) (omega arith)) (below y (x + y) (omega arith)) (λ k l. h k)
  where
    below : (a n : ℕ) → a ≤ n → a < 2 ^ n
    below a n l = omega (arith, n_lt_pow n)

module _ (f : ℕ → ℕ → Bool) (none : (b k : ℕ) → 64 ≤ k → f b k ≡ false) where
  set_bit : (b k : ℕ) → bit (set_of 64 (f b)) k ≡ f b k
  set_bit b k = go (below_or_not k 64)
    where
      go : (k < 64) ⊎ (64 ≤ k) → bit (set_of 64 (f b)) k ≡ f b k
      go (inl l) = bit_set_of 64 (f b) k l
      go (inr l) = bit_set_of_beyond 64 (f b) k l ∙ sym (none b k l)

  pub told_rows : (l : List ℕ) → Told 0 (λ b x. (k : ℕ) → bit x k ≡ f b k) 64 64 l → l ≡ rows f
  unfolding rows
  told_rows l t = told_tabled (λ b. set_of 64 (f b)) 0 64 l
      (record {
        size = t.size;
        at = λ b h. same_bits (get_or l b 0) (set_of 64 (f b))
            (λ k. t.at b h k ∙ sym (set_bit b k));
      })

  -- what each bit of the rows is
  pub rows_bit : (b : ℕ) → b < 64 → (k : ℕ) → bit (get_or (rows f) b 0) k ≡ f b k
  unfolding rows
  rows_bit b h k = ap (λ x. bit x k) (tabled_at (λ b. set_of 64 (f b)) 64 b 0 h) ∙ set_bit b k

  pub rows_told : Told 0 (λ b x. (k : ℕ) → bit x k ≡ f b k) 64 64 (rows f)
  unfolding rows
  rows_told = record { size = tabled_length (λ b. set_of 64 (f b)) 64; at = rows_bit }

-- the bits of a set of blocks
pub set_bits : (g : ℕ → Bool) → ((k : ℕ) → 64 ≤ k → g k ≡ false) → (k : ℕ) → bit (set_of 64 g) k ≡ g k
set_bits g off k = set_bit (λ b. g) (λ b. off) 0 k

-- a word with no bit past 63 is below 2 ^ 64
pub bits_fit : (g : ℕ → Bool) → ((k : ℕ) → 64 ≤ k → g k ≡ false) → (w : ℕ) → ((k : ℕ) → bit w k ≡ g k) → w < 2 ^ 64
bits_fit g off w is = subst (λ x. x < 2 ^ 64)
    (sym (same_bits w (set_of 64 g) (λ k. is k ∙ sym (set_bit (λ b. g) (λ b. off) 0 k)))) (set_of_lt 64 g)
