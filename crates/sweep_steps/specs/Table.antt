-- The table of entries: that a row made, stored whole, is the row as document 01 has it. Rests on Answer (what the
-- table is to hold) and entries' Entries.
use Rattle.std.specs.Prelude.{◌≡◌, ltb, length, get_or, replicate}
use Rattle.std.proofs.Math.Path.{refl, sym, ap, ap₂}
use Rattle.std.proofs.Common.{subst, ◌∙◌, inl, inr, zero-add, add-zero, ltb-true, ltb-false, add-suc, suc-add, length-append, take-take, take_all, drop_at, length-take-le, get_or-take, get_or-drop, get_or-append-add}
use mathlib.Core.List.{List, [], ◌∷◌, ◌++◌, map, append_assoc, append-nil}
use Prim.Native.Nat.{ℕ, zero, suc, ◌+◌, ◌*◌, ◌-◌, ◌≤◌, ◌<◌}
use native.Mathlib.Omega.{arith}
use Rattle.std.proofs.Math.ListN.{take, drop, take-append-drop, get_or-append}
use Rattle.std.proofs.lemmas.List.{length-replicate, length-map, get_or-replicate, replicate-append-replicate, take-append-le, ext_get_or}
use Rattle.std.proofs.Math.Seq.{paste, take-append-add}
use Rattle.laws.specs.Terms.{Choice, heaviest, lightest, Mem, each, range}
use Rattle.laws.specs.Tests.{split}
use Rattle.theory.specs.Row as theory
use Rattle.theory.specs.Row.{Key, filled}
use Rattle.theory.specs.SweepWords as words
use Rattle.entries.specs.declared.Entry.{Entry}
use Rattle.entries.specs.Structs.{Both, struct_of}
use Rattle.entries.specs.Entries.{entry_at, entries_from, entries_length}
use Rattle.rows.specs.Sides.{side_row}
use Rattle.sweep_steps.specs.Answer.{side_by_side, no_entry, table_with}

-- ---- entries of the table

pub in_mem : (l : List Entry) (i n k : ℕ) → k < n → Mem (entry_at l (i + k)) (entries_from l i n)
unfolding entries_from
in_mem l i zero k h = elim h [ ]
in_mem l i (suc n) zero h = inl (ap (entry_at l) (add-zero i))
in_mem l i (suc n) (suc k) h = inr (subst (λ (j : ℕ). Mem (entry_at l j) (entries_from l (suc i) n))
    (suc-add i k ∙ sym (add-suc i k)) (in_mem l (suc i) n k (omega arith)))

-- ---- a row stored

module _ {A : Type 0} (z : A) (d s : List A) (at n : ℕ) (room : at + n ≤ length d) (size : length s ≡ n) where
  head_length : length (take at d ++ take n s) ≡ at + n
  head_length = length-append (take at d) (take n s) ∙ omega
      (arith, length-take-le at d (omega arith), length-take-le n s (omega arith))

  pub paste_in : (k : ℕ) → k < n → get_or (paste d at s n) (at + k) z ≡ get_or s k z
  paste_in k h =
      get_or-append (take at d ++ take n s) (drop (at + n) d) z (at + k) (omega (arith, head_length))
      ∙ ap (λ i. get_or (take at d ++ take n s) (i + k) z) (sym (length-take-le at d (omega arith)))
      ∙ get_or-append-add (take at d) (take n s) k z
      ∙ get_or-take n s k z h

  pub paste_high : (k : ℕ) → at + n ≤ k → get_or (paste d at s n) k z ≡ get_or d k z
  paste_high k h =
      ap (λ i. get_or (paste d at s n) i z) (past k h)
      ∙ ap (λ i. get_or (paste d at s n) (i + (k - (at + n))) z) (sym head_length)
      ∙ get_or-append-add (take at d ++ take n s) (drop (at + n) d) (k - (at + n)) z
      ∙ get_or-drop (at + n) d (k - (at + n)) z
      ∙ ap (λ i. get_or d i z) (sym (past k h))
    where
      past : (k : ℕ) → at + n ≤ k → k ≡ (at + n) + (k - (at + n))
      past k h = omega arith

-- ---- a row as document 01 has it

struct_in : (row : List Entry) (i n k : ℕ) → k < n → get_or (map struct_of (entries_from row i n)) k no_entry
    ≡ get_or row (i + k) no_entry
unfolding entries_from
struct_in row i zero k h = elim h [ ]
struct_in row i (suc n) zero h = ap (λ j. get_or row j no_entry) (sym (add-zero i))
struct_in row i (suc n) (suc k) h = struct_in row (suc i) n k (omega arith) ∙ ap (λ j. get_or row j no_entry)
    (suc-add i k ∙ sym (add-suc i k))

-- a row of n entries and of zeros behind them
module _ (row : List Entry) (n : ℕ) (few : n ≤ 64) (size : length row ≡ 64)
    (zeros : (k : ℕ) → n ≤ k → get_or row k no_entry ≡ no_entry) where
  abbrev held : List Entry
  held = map struct_of (entries_from row 0 n)

  abbrev none : List Entry
  none = replicate (64 - n) no_entry

  held_size : length held ≡ n
  held_size = length-map (entries_from row 0 n) struct_of ∙ entries_length row 0 n

  past : (k : ℕ) → n ≤ k → length held + (k - n) ≡ k
  past k l = omega (arith, held_size)

  in_front : (k : ℕ) → k < n → get_or row k no_entry ≡ get_or (held ++ none) k no_entry
  in_front k l =
      ap (λ j. get_or row j no_entry) (sym (zero-add k))
      ∙ sym (struct_in row 0 n k l)
      ∙ sym (get_or-append held none no_entry k (omega (arith, held_size)))

  behind : (k : ℕ) → n ≤ k → k < 64 → get_or row k no_entry ≡ get_or (held ++ none) k no_entry
  behind k l h =
      zeros k l
      ∙ sym (get_or-replicate (64 - n) (k - n) no_entry no_entry (omega arith))
      ∙ sym (get_or-append-add held none (k - n) no_entry)
      ∙ ap (λ j. get_or (held ++ none) j no_entry) (past k l)

  none_behind : row ≡ held ++ none
  none_behind = ext_get_or no_entry row (held ++ none)
      (omega (arith, size, length-append held none, held_size, length-replicate (64 - n) no_entry))
      (λ k h. split (ltb k n) (λ q. in_front k (ltb-true k n q))
      (λ q. behind k (ltb-false k n q) (omega (arith, size))))

filled_is : (r : List theory.Entry) (m : ℕ) → length r + m ≡ 64 → filled r ≡ r ++ replicate m theory.no_entry
filled_is r m h =
    ap (λ n. take n (r ++ replicate 64 theory.no_entry)) (sym h)
    ∙ take-append-add r (replicate 64 theory.no_entry) m
    ∙ ap (λ l. r ++ l) (ap (take m) (sym (replicate-append-replicate m (64 - m) theory.no_entry ∙ ap
    (λ n. replicate n theory.no_entry) (whole m h)))
    ∙ take-append-le m (replicate m theory.no_entry) (replicate (64 - m) theory.no_entry)
    (omega (arith, length-replicate m theory.no_entry)) ∙ take_all m (replicate m theory.no_entry)
    (omega (arith, length-replicate m theory.no_entry)))
  where
    whole : (m : ℕ) → length r + m ≡ 64 → m + (64 - m) ≡ 64
    whole m h = omega arith

-- a side of a row of entries as document 01 has it
abbrev pub side_laid : Choice → List (Key × Both) → List theory.Entry
side_laid choice r = map words.entry_from (side_row choice r)

side_length : (choice : Choice) (r : List (Key × Both)) → length (side_laid choice r) ≡ length r
side_length choice [] = refl
side_length choice (e ∷ r) = ap suc (side_length choice r)

none_beside : (m : ℕ) → side_by_side (replicate m theory.no_entry) (replicate m theory.no_entry) ≡ replicate m no_entry
unfolding side_by_side
none_beside zero = refl
none_beside (suc m) = ap (λ l. no_entry ∷ l) (none_beside m)

-- the two sides of a row, and no entries behind them, side by side
laid : (r : List (Key × Both)) (m : ℕ)
    → side_by_side (side_laid heaviest r ++ replicate m theory.no_entry) (side_laid lightest r ++ replicate m theory.no_entry)
    ≡ map struct_of r ++ replicate m no_entry
unfolding side_by_side
laid [] m = none_beside m
laid (e ∷ r) m = ap (λ l. struct_of e ∷ l) (laid r m)

-- such a row is the row as it stands in the table
pub row_laid : (row : List Entry) (n : ℕ) → n ≤ 64 → length row ≡ 64
    → ((k : ℕ) → n ≤ k → get_or row k no_entry ≡ no_entry)
    → row ≡ side_by_side (filled (side_laid heaviest (entries_from row 0 n)))
    (filled (side_laid lightest (entries_from row 0 n)))
row_laid row n few size zeros =
    none_behind row n few size zeros
    ∙ sym (laid (entries_from row 0 n) (64 - n))
    ∙ ap₂ side_by_side (sym (side_filled heaviest)) (sym (side_filled lightest))
  where
    side_filled : (choice : Choice) → filled (side_laid choice (entries_from row 0 n))
        ≡ side_laid choice (entries_from row 0 n) ++ replicate (64 - n) theory.no_entry
    side_filled choice = filled_is (side_laid choice (entries_from row 0 n)) (64 - n)
        (omega (arith, side_length choice (entries_from row 0 n), entries_length row 0 n))

-- ---- the rows of the table

module _ (rows : Choice → ℕ → List theory.Entry) (count : ℕ) (lent : List Entry) where
  abbrev row_at : ℕ → List Entry
  row_at b = side_by_side (filled (rows heaviest b)) (filled (rows lightest b))

  -- the n rows from row a on
  abbrev rows_from : ℕ → ℕ → List Entry
  rows_from a n = each (range a n) row_at

  pub table_none : table_with rows count count lent ≡ lent
  unfolding table_with
  table_none = ap (λ n. take (64 * count) lent ++ rows_from count n ++ drop (64 * count) lent) none
      ∙ ap (λ l. l ++ drop (64 * count) lent) (append-nil (take (64 * count) lent)) ∙ take-append-drop (64 * count) lent
    where
      none : count - count ≡ 0
      none = omega arith

  -- one row more
  pub table_more : (b : ℕ) (r : List Entry) → b < count → 64 * count ≤ length lent → length r ≡ 64 → r ≡ row_at b
      → paste (table_with rows (suc b) count lent) (64 * b) r 64 ≡ table_with rows b count lent
  unfolding table_with
  table_more b r h room size e =
      ap₂ (λ p q. p ++ take 64 r ++ q) before behind
      ∙ ap (λ l. take (64 * b) lent ++ l ++ (rest ++ drop (64 * count) lent)) (take_all 64 r (omega arith) ∙ e)
      ∙ sym (append_assoc (take (64 * b) lent ++ own) rest (drop (64 * count) lent))
      ∙ ap (λ l. l ++ drop (64 * count) lent) (append_assoc (take (64 * b) lent) own rest)
      ∙ ap (λ n. take (64 * b) lent ++ rows_from b n ++ drop (64 * count) lent) (sym one_more)
    where
      own : List Entry
      own = row_at b

      rest : List Entry
      rest = rows_from (suc b) (count - suc b)

      head : List Entry
      head = take (64 * suc b) lent

      one_more : count - b ≡ suc (count - suc b)
      one_more = omega arith

      head_size : length head ≡ 64 * b + 64
      head_size = length-take-le (64 * suc b) lent (omega arith) ∙ omega arith

      split_up : head ++ rest ++ drop (64 * count) lent ≡ head ++ (rest ++ drop (64 * count) lent)
      split_up = append_assoc head rest (drop (64 * count) lent)

      before : take (64 * b) (head ++ rest ++ drop (64 * count) lent) ≡ take (64 * b) lent
      before = ap (take (64 * b)) split_up ∙ take-append-le (64 * b) head (rest ++ drop (64 * count) lent)
          (omega (arith, head_size)) ∙ take-take (64 * b) (64 * suc b) lent (omega arith)

      behind : drop (64 * b + 64) (head ++ rest ++ drop (64 * count) lent) ≡ rest ++ drop (64 * count) lent
      behind = ap (drop (64 * b + 64)) split_up ∙ drop_at head (rest ++ drop (64 * count) lent) (64 * b + 64) head_size
