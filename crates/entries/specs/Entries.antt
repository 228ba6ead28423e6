-- Rows of entries: what is in them, and what they hold after an insertion, which is the theory's. Rests on Structs, on
-- theory's SweepWords and on the laws' Rows.
use Rattle.std.specs.Prelude.{◌≡◌, Bool, true, false, cond, List, [], ◌∷◌, ◌++◌, ltb, length, set}
use Rattle.std.proofs.Math.Path.{refl, sym, ap}
use Rattle.std.proofs.Common.{subst, ◌∙◌, inl, inr, zero-add, add_assoc, length-append, ltb-true, ltb-false}
use Prim.Native.Nat.{ℕ, zero, suc, ◌+◌, ◌-◌, ◌≤◌, ◌<◌}
use Rattle.std.proofs.Math.Nat.{suc-add, add-zero, add-suc}
use native.Mathlib.Omega.{arith}
use Rattle.std.proofs.Math.ListN.{get_or}
use Rattle.std.proofs.Math.Seq.{get_or-set_same, get_or-set_other}
use Rattle.std.specs.List.{CopiedTo, SameBelow, SameFrom}
use Rattle.laws.specs.Terms.{Mem, Choice, heaviest, lightest, preferred, chosen}
use Rattle.laws.specs.Tests.{split}
use Rattle.laws.specs.Rows.{keep_better, insert_keeping, insert_past, insert_before, insert_at}
use Rattle.theory.specs.Row.{Key, key_before}
use Rattle.theory.specs.Answer.{key_order}
use Rattle.theory.specs.SweepWords.{Words, better_words}
use Rattle.entries.specs.declared.Entry.{Entry}
use Rattle.entries.specs.Structs.{Both, tuple_of, no_entry}

-- what a test that a function made has picked
pub picked : {A : Type 0} (y z : A) {r b : Bool} → r ≡ b → r ≡ true → y ≡ cond b y z
picked y z e t = rw (sym e ∙ t)

pub passed_by : {A : Type 0} (y z : A) {r b : Bool} → r ≡ b → r ≡ false → z ≡ cond b y z
passed_by y z e t = rw (sym e ∙ t)

-- entry i of a row
abbrev pub entry_at : List Entry → ℕ → Key × Both
entry_at l i = tuple_of (get_or l i no_entry)

-- the n entries from entry i on
unfoldable pub entries_from : List Entry → ℕ → ℕ → List (Key × Both)
entries_from l i zero = []
entries_from l i (suc n) = entry_at l i ∷ entries_from l (suc i) n

-- of a choice the better: by weight, and on equal weight the first tail
abbrev pub better_of : Choice → Words → Words → Bool
better_of choice = better_words 64 (preferred choice)

abbrev pub keep_best : Choice → (new old : Words) → Words
keep_best choice = keep_better (better_of choice)

-- of each choice the better
abbrev pub keep_both : (new old : Both) → Both
keep_both new old = (keep_best heaviest new.0 old.0, keep_best lightest new.1 old.1)

-- a choice is kept alike on its own
pub kept_side : (choice : Choice) (new old : Both)
    → keep_best choice (chosen choice new) (chosen choice old) ≡ chosen choice (keep_both new old)
kept_side false new old = refl
kept_side true new old = refl

-- the row with one entry more
abbrev pub inserted : Key × Both → List (Key × Both) → List (Key × Both)
inserted = insert_keeping key_before keep_both

-- ---- like entries

module _ (l m : List Entry) where
  -- the n entries from entry i of l on are those from entry j of m on
  abbrev pub Alike : ℕ → ℕ → ℕ → Type 0
  Alike n i j = (k : ℕ) → k < n → get_or l (i + k) no_entry ≡ get_or m (j + k) no_entry

  -- a part of them
  alike_part : (n i j from o : ℕ) → from + o ≤ n → Alike n i j → Alike o (i + from) (j + from)
  alike_part n i j from o h a k b =
      ap (λ x. get_or l x no_entry) (add_assoc i from k)
      ∙ a (from + k) (omega arith)
      ∙ ap (λ x. get_or m x no_entry) (sym (add_assoc j from k))

  -- n entries, and then o entries
  alike_join : (n o i j : ℕ) → Alike n i j → Alike o (i + n) (j + n) → Alike (n + o) i j
  alike_join n o i j a b k h = split (ltb k n) (λ q. a k (ltb-true k n q))
      (λ q. let past = ltb-false k n q in
      ap (λ x. get_or l x no_entry) (later i k past)
      ∙ b (k - n) (omega arith)
      ∙ ap (λ x. get_or m x no_entry) (sym (later j k past)))
    where
      later : (i k : ℕ) → n ≤ k → i + k ≡ i + n + (k - n)
      later i k h = omega arith

  first_alike : (n i j : ℕ) → 0 < n → Alike n i j → get_or l i no_entry ≡ get_or m j no_entry
  first_alike n i j h a =
      ap (λ x. get_or l x no_entry) (sym (add-zero i)) ∙ a 0 h ∙ ap (λ x. get_or m x no_entry) (add-zero j)

  first_entry : (i j : ℕ) → get_or l i no_entry ≡ get_or m j no_entry → Alike 1 i j
  first_entry i j e zero h =
      ap (λ x. get_or l x no_entry) (add-zero i) ∙ e ∙ ap (λ x. get_or m x no_entry) (sym (add-zero j))
  first_entry i j e (suc k) h = absurd (never k h)
    where
      never : (k : ℕ) → suc k < 1 → ⊥
      never k h = omega arith

  pub entries_alike : (n i j : ℕ) → Alike n i j → entries_from l i n ≡ entries_from m j n
  unfolding entries_from
  entries_alike zero i j h = refl
  entries_alike (suc n) i j h =
      let first : entry_at l i ≡ entry_at m j = ap (entry_at l) (sym (add-zero i)) ∙ ap tuple_of (h 0 (omega arith))
      ∙ ap (entry_at m) (add-zero j) in
      let rest : entries_from l (suc i) n ≡ entries_from m (suc j) n = entries_alike n (suc i) (suc j) (later h) in
      λ u. first u ∷ rest u
    where
      later : Alike (suc n) i j → Alike n (suc i) (suc j)
      later h k b = ap (λ x. get_or l x no_entry) (suc-add i k ∙ sym (add-suc i k)) ∙ h (suc k) (omega arith)
          ∙ ap (λ x. get_or m x no_entry) (add-suc j k ∙ sym (suc-add j k))

module _ (l : List Entry) where
  pub entries_length : (i n : ℕ) → length (entries_from l i n) ≡ n
  unfolding entries_from
  entries_length i zero = refl
  entries_length i (suc n) = ap suc (entries_length (suc i) n)

  pub entries_append : (i n m : ℕ) → entries_from l i (n + m) ≡ entries_from l i n ++ entries_from l (i + n) m
  unfolding entries_from
  entries_append i zero m = rw (zero-add m, add-zero i)
  entries_append i (suc n) m = rw (suc-add n m, add-suc i n, ← suc-add i n)
      (ap (λ r. entry_at l i ∷ r) (entries_append (suc i) n m))

  pub entry_in_lem : (i n : ℕ) (e : Key × Both) → Mem e (entries_from l i n)
      → (k : ℕ) × (k < n) × (e ≡ entry_at l (i + k))
  unfolding entries_from
  entry_in_lem i zero e x' = elim x' [ ]
  entry_in_lem i (suc n) e (inl p) = (0, omega arith, p ∙ ap (entry_at l) (sym (add-zero i)))
  entry_in_lem i (suc n) e (inr m) =
      let (k, b, p) = entry_in_lem (suc i) n e m in
      (suc k, omega arith, p ∙ ap (entry_at l) (suc-add i k ∙ sym (add-suc i k)))

-- ---- where an entry goes

-- the entries below place p have lower keys
abbrev pub Lower : (l : List Entry) (key : Key) (p : ℕ) → Type 0
Lower l key p = (i : ℕ) → i < p → key_before (entry_at l i).0 key ≡ true

-- of the first n entries the one at place p has the key
pub record HeldAt (l : List Entry) (n : ℕ) (key : Key) (p : ℕ) : Type 0 where
  pub inside : p < n
  pub lower : Lower l key p
  pub same : (entry_at l p).0 ≡ key

-- none of the first n entries has the key, and it belongs at place p
pub record MissingAt (l : List Entry) (n : ℕ) (key : Key) (p : ℕ) : Type 0 where
  pub inside : p ≤ n
  pub lower : Lower l key p
  pub higher : p < n → key_before key (entry_at l p).0 ≡ true

module _ (l m : List Entry) (e : Key × Both) (p : ℕ) (lower : Lower l e.0 p) (alike : Alike l m p 0 0) where
  past : (r : List (Key × Both)) → inserted e (entries_from l 0 p ++ r) ≡ entries_from m 0 p ++ inserted e r
  past r =
      insert_past key_before keep_both key_order e (entries_from l 0 p) r
      (λ x i. let (k, b, q) = entry_in_lem l 0 p x i in subst (λ (y : Key × Both). key_before y.0 e.0 ≡ true)
      (sym (q ∙ ap (entry_at l) (zero-add k))) (lower k b))
      ∙ ap (λ a. a ++ inserted e r) (entries_alike l m p 0 0 alike)

  -- the row behind place p
  abbrev tail_of : List Entry → ℕ → List (Key × Both)
  tail_of r q = entries_from r p q

  parted : (r : List Entry) (q : ℕ) → entries_from r 0 (p + q) ≡ entries_from r 0 p ++ tail_of r q
  parted r q = entries_append r 0 p q ∙ ap (λ i. entries_from r 0 p ++ entries_from r i q) (zero-add p)

  behind : (q : ℕ) → inserted e (entries_from l 0 (p + q)) ≡ entries_from m 0 p ++ inserted e (tail_of l q)
  behind q = ap (inserted e) (parted l q) ∙ past (tail_of l q)

  front : (q : ℕ) → (0 < q → key_before e.0 (entry_at l p).0 ≡ true) → inserted e (tail_of l q) ≡ e ∷ tail_of l q
  unfolding entries_from insert_keeping
  front zero h = refl
  front (suc q) h = insert_before key_before keep_both key_order e (entry_at l p) (entries_from l (suc p) q)
      (h (omega arith))

  -- a new key in front of q higher entries
  pub inserted_absent : (q : ℕ) → (0 < q → key_before e.0 (entry_at l p).0 ≡ true) → inserted e
      (entries_from l 0 (p + q)) ≡ entries_from m 0 p ++ (e ∷ entries_from l p q)
  inserted_absent q higher = behind q ∙ ap (λ r. entries_from m 0 p ++ r) (front q higher)

  pub inserted_new : (q : ℕ) → (0 < q → key_before e.0 (entry_at l p).0 ≡ true) → entry_at m p ≡ e
      → Alike m l q (suc p) p
      → entries_from m 0 (suc (p + q)) ≡ inserted e (entries_from l 0 (p + q))
  unfolding entries_from
  inserted_new q higher put moved =
      ap (entries_from m 0) (sym (add-suc p q))
      ∙ parted m (suc q)
      ∙ ap (λ x. entries_from m 0 p ++ (x ∷ entries_from m (suc p) q)) put
      ∙ ap (λ r. entries_from m 0 p ++ (e ∷ r)) (entries_alike m l q (suc p) p moved)
      ∙ sym (inserted_absent q higher)

  -- at its own key
  abbrev kept_at : Key × Both
  kept_at = ((entry_at l p).0, keep_both e.1 (entry_at l p).1)

  pub inserted_at : (q : ℕ) → e.0 ≡ (entry_at l p).0 → entry_at m p ≡ kept_at
      → Alike m l q (suc p) (suc p)
      → entries_from m 0 (p + suc q) ≡ inserted e (entries_from l 0 (p + suc q))
  unfolding entries_from
  inserted_at q same put kept =
      parted m (suc q)
      ∙ ap (λ x. entries_from m 0 p ++ (x ∷ entries_from m (suc p) q)) put
      ∙ ap (λ r. entries_from m 0 p ++ (kept_at ∷ r)) (entries_alike m l q (suc p) (suc p) kept)
      ∙ ap (λ r. entries_from m 0 p ++ r) (sym (insert_at key_before keep_both key_order e (entry_at l p)
      (entries_from l (suc p) q) same))
      ∙ sym (behind (suc q))

-- ---- the row after an insertion

-- n entries, or the 65th set has been met; the entries past them are as they were
pub record Grown (r : List (Key × Both)) (old new : List Entry) (n : ℕ) : Type 0 where
  pub most : n ≤ 65
  pub held : n ≤ 64 → entries_from new 0 n ≡ r
  pub over : 64 < n → 64 < length r
  pub rest : (k : ℕ) → n ≤ k → get_or new k no_entry ≡ get_or old k no_entry

rest_of : (p n : ℕ) → p ≤ n → p + (n - p) ≡ n
rest_of p n h = omega arith

-- the key is held: of each choice the better way stays
module _ (l : List Entry) (e : Key × Both) (p n : ℕ) (place : HeldAt l n e.0 p) (few : n ≤ 64) (size : length l ≡ 64)
    (there : Entry) (kept : tuple_of there ≡ ((entry_at l p).0, keep_both e.1 (entry_at l p).1)) where
  abbrev after : List Entry
  after = set l p there

  other : (k : ℕ) → (k ≡ p → ⊥) → get_or after k no_entry ≡ get_or l k no_entry
  other k h = get_or-set_other l p k there no_entry h

  pub grown_kept : Grown (inserted e (entries_from l 0 n)) l after n
  grown_kept = record {
    most = omega arith;
    held = λ h. held;
    over = λ h. absurd (never h);
    rest = λ k h. other k (λ q. omega (arith, place.inside));
  }
    where
      never : 64 < n → ⊥
      never h = omega arith

      at_least : p + suc (n - suc p) ≡ n
      at_least = omega (arith, place.inside)

      held : entries_from after 0 n ≡ inserted e (entries_from l 0 n)
      held =
          subst (λ (n : ℕ). entries_from after 0 n ≡ inserted e (entries_from l 0 n)) at_least
          (inserted_at l after e p place.lower (λ k i. rw (zero-add k) (sym (other k (λ q. omega arith)))) (n - suc p)
          (sym place.same)
          (ap tuple_of (get_or-set_same l p there no_entry (omega (arith, place.inside))) ∙ kept)
          (λ k i. other (suc p + k) (λ q. omega arith)))

module _ (l : List Entry) (e : Key × Both) (p n : ℕ) (place : MissingAt l n e.0 p) where
  higher : 0 < n - p → key_before e.0 (entry_at l p).0 ≡ true
  higher h = place.higher (omega arith)

  -- a new key: the entries from its place on are moved one place on
  module _ (few : n < 64) (moved : List Entry) (size : length moved ≡ 64) (copied : CopiedTo l moved p (p + 1) (n - p))
      (below : SameBelow l moved (p + 1)) (from : SameFrom l moved (p + 1 + (n - p)))
      (there : Entry) (is : tuple_of there ≡ e) where
    abbrev opened : List Entry
    opened = set moved p there

    apart : (k : ℕ) → (k ≡ p → ⊥) → get_or opened k no_entry ≡ get_or moved k no_entry
    apart k h = get_or-set_other moved p k there no_entry h

    pub grown_new : Grown (inserted e (entries_from l 0 n)) l opened (n + 1)
    grown_new = record {
      most = omega arith;
      held = λ h. held;
      over = λ h. absurd (never h);
      rest = λ k h. apart k (λ q. omega (arith, place.inside)) ∙ from k no_entry (omega (arith, place.inside));
    }
      where
        never : 64 < n + 1 → ⊥
        never h = omega arith

        back : (k : ℕ) → p + (suc p + k - (p + 1)) ≡ p + k
        back k = omega arith

        one_more : suc (p + (n - p)) ≡ n + 1
        one_more = omega (arith, place.inside)

        held : entries_from opened 0 (n + 1) ≡ inserted e (entries_from l 0 n)
        held =
            subst (λ (m : ℕ). entries_from opened 0 m ≡ inserted e (entries_from l 0 n)) one_more
            (subst (λ (m : ℕ). entries_from opened 0 (suc (p + (n - p))) ≡ inserted e (entries_from l 0 m))
            (rest_of p n place.inside)
            (inserted_new l opened e p place.lower
            (λ k i. rw (zero-add k) (sym (apart k (λ q. omega arith) ∙ below k no_entry (omega arith)))) (n - p) higher
            (ap tuple_of (get_or-set_same moved p there no_entry (omega (arith, place.inside))) ∙ is)
            (λ k i. apart (suc p + k) (λ q. omega arith) ∙ copied (suc p + k) no_entry (omega arith) (omega arith)
            ∙ ap (λ x. get_or l x no_entry) (back k))))

  -- a new key with 64 held
  pub grown_over : n ≡ 64 → Grown (inserted e (entries_from l 0 n)) l l 65
  grown_over full = record {
    most = omega arith;
    held = λ h. absurd (never h);
    over = λ h. more;
    rest = λ k h.
        refl;
  }
    where
      never : 65 ≤ 64 → ⊥
      never h = omega arith

      more : 64 < length (inserted e (entries_from l 0 n))
      more =
          let q : inserted e (entries_from l 0 n) ≡ entries_from l 0 p ++ (e ∷ entries_from l p (n - p)) =
          ap (λ n. inserted e (entries_from l 0 n)) (sym (rest_of p n place.inside)) ∙ inserted_absent l l e p
          place.lower (λ k i. refl) (n - p) higher in
          let size = length-append (entries_from l 0 p) (e ∷ entries_from l p (n - p)) in
          rw q (omega (arith, size, entries_length l 0 p, entries_length l p (n - p), place.inside))
