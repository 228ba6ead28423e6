-- A route's bytes from its two sets of blocks, and how they are written. Rests on the laws' Terms, on words' Filled and
-- on lent's Adding; theory's `bytes_words` says that they are the route's.
use Rattle.std.specs.Prelude.{◌≡◌, refl, cond, List, [], ◌∷◌, ◌++◌, map, ℕ, zero, suc, ◌+◌, ◌*◌, ◌≤◌, ◌<◌, eqb, length, get_or, drop, set}
use Rattle.std.proofs.Common.{ap, sym, ◌∙◌, append_assoc, zero-add, add-one, arith, length-append}
use Rattle.std.proofs.Math.Path.{subst}
use Rattle.std.proofs.Math.ListN.{length-map}
use Rattle.lent.specs.Adding.{Adds, then, one, told, from_start}
use Rattle.laws.specs.Terms.{bit, range}
use Rattle.words.specs.Tabled.{tabled}
use Rattle.words.specs.Filled.{told_tabled}

-- block b: 3 the last, 1 left by jump or go, 2 by fall, 0 not on the route
abbrev pub byte_of : (count jumped fallen b : ℕ) → ℕ
byte_of count jumped fallen b = cond (eqb (suc b) count) 3 (cond (bit jumped b) 1 (cond (bit fallen b) 2 0))

unfoldable pub bytes_of : (count jumped fallen : ℕ) → List ℕ
bytes_of count jumped fallen = map (byte_of count jumped fallen) (range 0 count)

pub range_length : (a n : ℕ) → length (range a n) ≡ n
range_length a zero = refl
range_length a (suc n) = ap suc (range_length (suc a) n)

row_last : (f : ℕ → ℕ) (a n : ℕ) → map f (range a (suc n)) ≡ map f (range a n) ++ (f (a + n) ∷ [])
row_last f a zero = ap (λ (x : ℕ). f x ∷ []) (omega arith)
row_last f a (suc n) =
    ap (λ (l : List ℕ). f a ∷ l) (row_last f (suc a) n ∙ ap (λ (x : ℕ). map f (range (suc a) n) ++ (f x ∷ []))
    (over a n))
  where
    over : (a n : ℕ) → suc a + n ≡ a + suc n
    over a n = omega arith

module _ (count jumped fallen : ℕ) where
  pub bytes_length : length (bytes_of count jumped fallen) ≡ count
  unfolding bytes_of
  bytes_length = length-map (range 0 count) (byte_of count jumped fallen) ∙ range_length 0 count

  -- a list with each block's byte
  pub bytes_are : (l : List ℕ) → length l ≡ count
      → ((b : ℕ) → b < count → get_or l b 0 ≡ byte_of count jumped fallen b) → l ≡ bytes_of count jumped fallen
  unfolding bytes_of tabled
  bytes_are l size each = told_tabled (byte_of count jumped fallen) 0 count l (record { size = size; at = each })

  -- the bytes of the blocks below b
  abbrev pub bytes_below : ℕ → List ℕ
  bytes_below b = map (byte_of count jumped fallen) (range 0 b)

  -- put into lent bytes one by one
  pub written_more : (lent held : List ℕ) (at b v : ℕ) → v ≡ byte_of count jumped fallen b
      → Adds lent at held (at + b) (bytes_below b)
      → Adds lent at (set held (at + b) v) (at + (b + 1)) (bytes_below (b + 1))
  written_more lent held at b v e w = record { end = next_end; holds = more.holds }
    where
      next : bytes_below b ++ (v ∷ []) ≡ bytes_below (b + 1)
      next =
          ap (λ (x : ℕ). bytes_below b ++ (x ∷ [])) (e ∙ ap (byte_of count jumped fallen) (sym (zero-add b)))
          ∙ sym (row_last (byte_of count jumped fallen) 0 b) ∙ ap bytes_below (sym (add-one b))

      more : Adds lent at (set held (at + b) v) (at + b + 1) (bytes_below (b + 1))
      more = told next (then w (one held (at + b) v))

      next_end : at + (b + 1) ≡ at + length (bytes_below (b + 1))
      next_end = omega (arith, more.end)

  pub written_all : (lent held : List ℕ) (at b : ℕ) → b ≡ count → Adds lent at held (at + b) (bytes_below b)
      → Adds lent at held (at + count) (bytes_of count jumped fallen)
  unfolding bytes_of
  written_all lent held at b e w = subst (λ (n : ℕ). Adds lent at held (at + n) (bytes_below n)) e w

-- two routes' bytes from the start on, one behind the other
pub both_from_first : (count jumped fallen jumped2 fallen2 : ℕ) {lent held written : List ℕ} {r s : ℕ}
    → 2 * count ≤ length lent → Adds lent 0 held r (bytes_of count jumped fallen)
    → Adds held r written s (bytes_of count jumped2 fallen2)
    → written ≡ bytes_of count jumped fallen ++ (bytes_of count jumped2 fallen2 ++ drop (2 * count) lent)
both_from_first count jumped fallen jumped2 fallen2 {lent = lent} room w v =
    from_start (then w v) (omega (arith, size)) ∙ ap (λ (n : ℕ). (first ++ second) ++ drop n lent) size
    ∙ append_assoc first second (drop (2 * count) lent)
  where
    first : List ℕ
    first = bytes_of count jumped fallen

    second : List ℕ
    second = bytes_of count jumped2 fallen2

    size : length (first ++ second) ≡ 2 * count
    size =
        omega (
          arith,
          length-append first second,
          bytes_length count jumped fallen,
          bytes_length count jumped2 fallen2,
        )
