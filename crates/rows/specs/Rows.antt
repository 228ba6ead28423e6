-- A row made of the rows of its targets, on the words of a plan: the tails by each way, one entry after another, into
-- the row under construction. Rests on entries' Entries and Steps.
use Rattle.std.specs.Prelude.{◌≡◌, Bool, true, false, cond, eqb, get_or}
use Rattle.std.proofs.Math.Path.{refl, ap}
use Rattle.std.proofs.Common.{sym, ap₂, subst, ◌∙◌, add-one}
use mathlib.Core.List.{List, [], ◌∷◌}
use Rattle.std.proofs.Math.Option.{Option, none, some}
use Prim.Native.Nat.{ℕ, suc, ◌+◌, ◌-◌, ◌^◌, ◌≤◌, ◌<◌}
use Rattle.std.proofs.Math.Nat.{le_refl, le_trans, sub-zero}
use borrow.Author.Tests.{eqb-true, eqb-false, eq-eqb, ne_eqb}
use Rattle.std.specs.Int.Bits.{bit_or}
use native.Mathlib.Omega.{arith}
use Rattle.std.proofs.Math.ListN.{length, get_or-eq_default}
use Rattle.laws.specs.Terms.{Choice, chosen}
use Rattle.laws.specs.Tests.{split}
use Rattle.laws.specs.Rows.{insert_grows}
use Rattle.theory.specs.Row.{Key, key_before}
use Rattle.theory.specs.Machine.{push, pour}
use Rattle.rows.specs.declared.Half.{Half}
use Rattle.rows.specs.declared.Step.{Step}
use Rattle.theory.specs.Plan.{cost_at, IsWay}
use Rattle.entries.specs.declared.Entry.{Entry}
use Rattle.entries.specs.Structs.{Both, no_entry}
use Rattle.entries.specs.Entries.{entry_at, inserted, entries_from, keep_both, Grown, entries_length}
use Rattle.rows.specs.Steps.{IsStep, half_of, hits_of, opened_of, step_key, step_both}

-- the row with an entry's longer tail, or the row where the step drops it
abbrev pub pushed : (jumps falls : Half) (cost : ℕ) → Key × Both → List (Key × Both) → List (Key × Both)
pushed jumps falls cost e r = push key_before keep_both (step_key jumps falls e.0) (step_both jumps falls cost e.1) r

-- the row with the longer tails of all the entries
abbrev pub poured : (jumps falls : Half) (cost : ℕ) → List (Key × Both) → List (Key × Both) → List (Key × Both)
poured jumps falls cost l r = pour key_before keep_both (step_key jumps falls) (step_both jumps falls cost) l r

-- the entries of the target's row by a way; the tails that they are
abbrev pub source_of : (jumps falls : List Entry) → ℕ → List Entry
source_of jumps falls way = cond (eqb way 1) jumps falls

abbrev pub tails_of : List Entry → List (Key × Both)
tails_of entries = entries_from entries 0 (length entries)

abbrev pub tails_by : (jumps falls : List Entry) → ℕ → List (Key × Both)
tails_by jumps falls way = tails_of (source_of jumps falls way)

module _ (plan : List ℕ) (b : ℕ) where
  -- the tails by one way
  unfoldable pub poured_by : (way : ℕ) → (tails : List (Key × Both)) → List (Key × Both) → List (Key × Both)
  poured_by way tails r = poured (half_of plan b way 1) (half_of plan b way 2) (cost_at plan b way) tails r

  -- the tails by this way and those after it
  unfoldable pub left_from : (tails : ℕ → List (Key × Both)) → ℕ → List (Key × Both) → List (Key × Both)
  left_from tails way r = cond (eqb way 1) (poured_by 2 (tails 2) (poured_by 1 (tails 1) r))
      (cond (eqb way 2) (poured_by 2 (tails 2) r) r)

  -- what making row b of its targets' entries asks: a block, and weights that fit
  pub record Ready (jumps falls : List Entry) : Type 0 where
    pub below : b < 64
    pub light : (choice : Choice) (way i : ℕ) → i < length (source_of jumps falls way)
        → cost_at plan b way + (chosen choice (entry_at (source_of jumps falls way) i).1).0 < 2 ^ 64

-- a tail's weight fits with the step's cost, by what the code has of them
pub light_in : (plan : List ℕ) (b : ℕ) (jumps falls : List Entry) → Ready plan b jumps falls → (way : ℕ) (step : Step)
    → IsStep plan b way step → (tails : List Entry) → tails ≡ source_of jumps falls way → (choice : Choice) (i : ℕ)
    → i < length tails → step.cost + (chosen choice (entry_at tails i).1).0 < 2 ^ 64
light_in plan b jumps falls ready way step is tails e choice =
    subst (λ (l : List Entry). (i : ℕ) → i < length l → step.cost + (chosen choice (entry_at l i).1).0 < 2 ^ 64) (sym e)
    (λ i h. subst (λ (n : ℕ). n + (chosen choice (entry_at (source_of jumps falls way) i).1).0 < 2 ^ 64) (sym is.cost)
    (ready.light choice way i h))

-- ---- a row only grows

module _ (jumps falls : Half) (cost : ℕ) where
  pub pushed_grows : (e : Key × Both) (r : List (Key × Both)) → length r ≤ length (pushed jumps falls cost e r)
  pushed_grows e r = by (step_key jumps falls e.0)
    where
      by : (o : Option Key) → length r ≤ length (push key_before keep_both o (step_both jumps falls cost e.1) r)
      by none = le_refl (length r)
      by (some k) = insert_grows key_before keep_both (k, step_both jumps falls cost e.1) r

  pub poured_grows : (l r : List (Key × Both)) → length r ≤ length (poured jumps falls cost l r)
  unfolding pour
  poured_grows [] r = le_refl (length r)
  poured_grows (e ∷ l) r = le_trans (pushed_grows e r) (poured_grows l (pushed jumps falls cost e r))

module _ (plan : List ℕ) (b : ℕ) (tails : ℕ → List (Key × Both)) where
  pub left_grows : (way : ℕ) (r : List (Key × Both)) → length r ≤ length (left_from plan b tails way r)
  unfolding left_from poured_by
  left_grows way r = by (eqb way 1) (eqb way 2)
    where
      one : (way : ℕ) (r : List (Key × Both)) → length r ≤ length (poured_by plan b way (tails way) r)
      one way r = poured_grows (half_of plan b way 1) (half_of plan b way 2) (cost_at plan b way) (tails way) r

      by : (c d : Bool) → length r ≤ length (cond c (poured_by plan b 2 (tails 2) (poured_by plan b 1 (tails 1) r))
          (cond d (poured_by plan b 2 (tails 2) r) r))
      by true d = le_trans (one 1 r) (one 2 (poured_by plan b 1 (tails 1) r))
      by false true = one 2 r
      by false false = le_refl (length r)

-- ---- a row under construction

-- the row holds n entries, and what is left to do with them gives the whole; the entries past them are as they were
pub record Filling (todo : List (Key × Both) → List (Key × Both)) (whole : List (Key × Both)) (old row : List Entry)
    (n : ℕ) : Type 0 where
  pub few : n ≤ 64
  pub size : length row ≡ 64
  pub left : todo (entries_from row 0 n) ≡ whole
  pub rest : (k : ℕ) → n ≤ k → get_or row k no_entry ≡ get_or old k no_entry

pub filling_start : (todo : List (Key × Both) → List (Key × Both)) (row : List Entry) (n : ℕ) → n ≤ 64 → length row ≡ 64
    → Filling todo (todo (entries_from row 0 n)) row row n
filling_start todo row n h s = record { few = h; size = s; left = refl; rest = λ k b. refl }

pub filling_end : (whole : List (Key × Both)) (old row : List Entry) (n : ℕ) → Filling (λ r. r) whole old row n
    → Grown whole old row n
filling_end whole old row n f = record {
  most = omega (arith, f.few);
  held = λ h. f.left;
  over = λ h. absurd
      (never h);
  rest = f.rest;
}
  where
    never : 64 < n → ⊥
    never h = omega (arith, f.few)

module _ (todo then : List (Key × Both) → List (Key × Both)) (whole : List (Key × Both)) (old row : List Entry) (n : ℕ)
    (f : Filling todo whole old row n) where
  pub filling_same : ((r : List (Key × Both)) → todo r ≡ then r) → Filling then whole old row n
  filling_same h = record {
    few = f.few;
    size = f.size;
    left = sym (h (entries_from row 0 n)) ∙ f.left;
    rest = f.rest;
  }

  module _ (one : List (Key × Both) → List (Key × Both))
      (one_then : (r : List (Key × Both)) → todo r ≡ then (one r))
      (grows : (r : List (Key × Both)) → length r ≤ length (one r))
      (new : List Entry) (m : ℕ) (grown : Grown (one (entries_from row 0 n)) row new m) where
    pub filling_more : length new ≡ 64 → m ≤ 64 → Filling then whole old new m
    filling_more s h = record {
      few = h;
      size = s;
      left = ap then (grown.held h) ∙ sym (one_then (entries_from row 0 n)) ∙ f.left;
      rest = λ k b. grown.rest k b ∙ f.rest k (omega (arith, longer));
    }
      where
        longer : n ≤ m
        longer = omega (
          arith,
          grows (entries_from row 0 n),
          entries_length row 0 n,
          ap length (grown.held h),
          entries_length new 0 m,
        )

    -- the 65th set
    pub filling_over : ((r : List (Key × Both)) → length r ≤ length (then r)) → 64 < m → 64 < length whole
    filling_over g h =
        let e : length (then (one (entries_from row 0 n))) ≡ length whole = ap length
        (sym (one_then (entries_from row 0 n)) ∙ f.left) in
        omega (arith, e, g (one (entries_from row 0 n)), grown.over h)

-- the 65th set has been met: the entries past it are none
pub grown_past : (whole : List (Key × Both)) (old row : List Entry) (n : ℕ) → length old ≡ 64 → length row ≡ 64 → n ≤ 65
    → 64 < n → 64 < length whole → Grown whole old row n
grown_past whole old row n s z few h more = record {
  most = few;
  held = λ l. absurd (never l);
  over = λ l. more;
  rest = λ k l. get_or-eq_default row no_entry (omega arith) ∙ sym (get_or-eq_default old no_entry (omega arith));
}
  where
    never : n ≤ 64 → ⊥
    never l = omega arith

-- a step that drops the entry
pub grown_none : (l : List Entry) (n : ℕ) → n ≤ 64 → Grown (entries_from l 0 n) l l n
grown_none l n h = record { most = omega arith; held = λ b. refl; over = λ b. absurd (never b); rest = λ k b. refl }
  where
    never : 64 < n → ⊥
    never b = omega arith

-- ---- one turn of the loops

module _ (jumps falls : Half) (cost : ℕ) (source : List Entry) (many : ℕ) where
  -- the tails from i on
  abbrev to_come : ℕ → List (Key × Both) → List (Key × Both)
  to_come i r = poured jumps falls cost (entries_from source i (many - i)) r

  tails_begin : (r : List (Key × Both)) → poured jumps falls cost (entries_from source 0 many) r ≡ to_come 0 r
  tails_begin r = ap (λ n. poured jumps falls cost (entries_from source 0 n) r) (sym (sub-zero many))

  tails_turn : (i : ℕ) → i < many → (r : List (Key × Both)) → to_come i r ≡ to_come (i + 1)
      (pushed jumps falls cost (entry_at source i) r)
  unfolding entries_from pour
  tails_turn i h r =
      ap (λ n. poured jumps falls cost (entries_from source i n) r) (one_less i h)
      ∙ ap (λ j. poured jumps falls cost (entries_from source j (many - (i + 1)))
      (pushed jumps falls cost (entry_at source i) r)) (sym (add-one i))
    where
      one_less : (i : ℕ) → i < many → many - i ≡ suc (many - (i + 1))
      one_less i h = omega arith

  tails_end : (i : ℕ) → many ≤ i → (r : List (Key × Both)) → to_come i r ≡ r
  unfolding entries_from pour
  tails_end i h r = ap (λ n. poured jumps falls cost (entries_from source i n) r) (no_more i h)
    where
      no_more : (i : ℕ) → many ≤ i → many - i ≡ 0
      no_more i h = omega arith

  -- the row with the tails from i on to come
  abbrev pub AtTail : (whole : List (Key × Both)) (old row : List Entry) (held i : ℕ) → Type 0
  AtTail whole old row held i = Filling (to_come i) whole old row held

  pub at_first : (row : List Entry) (held : ℕ) → held ≤ 64 → length row ≡ 64 → AtTail
      (poured jumps falls cost (entries_from source 0 many) (entries_from row 0 held)) row row held 0
  at_first row held few size =
      filling_same (poured jumps falls cost (entries_from source 0 many)) (to_come 0) _ row row held
      (filling_start (poured jumps falls cost (entries_from source 0 many)) row held few size) tails_begin

  pub at_last : (whole : List (Key × Both)) (old row : List Entry) (held i : ℕ) → many ≤ i → AtTail whole old row held i
      → Grown whole old row held
  at_last whole old row held i h f = filling_end whole old row held
      (filling_same (to_come i) (λ r. r) whole old row held f (tails_end i h))

  module _ (whole : List (Key × Both)) (old row : List Entry) (held i : ℕ) (f : AtTail whole old row held i)
      (h : i < many) (new : List Entry) (m : ℕ)
      (grown : Grown (pushed jumps falls cost (entry_at source i) (entries_from row 0 held)) row new m) where
    pub at_next : length new ≡ 64 → m ≤ 64 → AtTail whole old new m (i + 1)
    at_next =
        filling_more (to_come i) (to_come (i + 1)) whole old row held f
        (pushed jumps falls cost (entry_at source i)) (tails_turn i h)
        (pushed_grows jumps falls cost (entry_at source i)) new m grown

    pub at_over : 64 < m → 64 < length whole
    at_over =
        filling_over (to_come i) (to_come (i + 1)) whole old row held f
        (pushed jumps falls cost (entry_at source i)) (tails_turn i h)
        (pushed_grows jumps falls cost (entry_at source i)) new m grown
        (poured_grows jumps falls cost (entries_from source (i + 1) (many - (i + 1))))

module _ (plan : List ℕ) (b : ℕ) (tails : ℕ → List (Key × Both)) where
  -- no way is left
  pub ways_end : (way : ℕ) → 3 ≤ way → way ≤ 3 → (r : List (Key × Both)) → left_from plan b tails way r ≡ r
  unfolding left_from
  ways_end way low high r = let e : way ≡ 3 = omega arith in rw e refl

  left_step : (way : ℕ) → IsWay way → (r : List (Key × Both)) → left_from plan b tails way r ≡ left_from plan b tails
      (way + 1) (poured_by plan b way (tails way) r)
  unfolding left_from poured_by
  left_step way (low, high) r = split (eqb way 1) (λ q. one (eqb-true way 1 q))
      (λ q. let d = eqb-false way 1 q in two (omega arith))
    where
      one : way ≡ 1 → left_from plan b tails way r ≡ left_from plan b tails (way + 1) (poured_by plan b way (tails way) r)
      one e = rw e refl

      two : way ≡ 2 → left_from plan b tails way r ≡ left_from plan b tails (way + 1) (poured_by plan b way (tails way) r)
      two e = rw e refl

  -- one way's tails, by the step that the code has of it
  module _ (way : ℕ) (step : Step) (is : IsStep plan b way step) (l : List (Key × Both)) (l_is : l ≡ tails way)
      (v : IsWay way) where
    abbrev poured_in : List (Key × Both) → List (Key × Both)
    poured_in = poured step.jumps step.falls step.cost l

    way_turn : (r : List (Key × Both)) → left_from plan b tails way r ≡ left_from plan b tails (way + 1) (poured_in r)
    unfolding poured_by
    way_turn r = left_step way v r ∙ ap (left_from plan b tails (way + 1))
        (λ i. poured (sym is.jumps i) (sym is.falls i) (sym is.cost i) (sym l_is i) r)

    -- the row with the ways from this one on to come, and the row with this way's tails, made of it
    module _ (whole : List (Key × Both)) (old row : List Entry) (held : ℕ)
        (f : Filling (left_from plan b tails way) whole old row held) where
      pub way_next : (new : List Entry) (m : ℕ) → Grown (poured_in (entries_from row 0 held)) row new m
          → length new ≡ 64 → m ≤ 64
          → Filling (left_from plan b tails (way + 1)) whole old new m
      way_next new m grown =
          filling_more (left_from plan b tails way) (left_from plan b tails (way + 1)) whole old row held f
          poured_in way_turn (poured_grows step.jumps step.falls step.cost l) new m grown

      pub way_over : 64 < length (poured_in (entries_from row 0 held)) → 64 < length whole
      way_over h =
          let e : length (left_from plan b tails (way + 1) (poured_in (entries_from row 0 held)))
          ≡ length whole =
          ap length (sym (way_turn (entries_from row 0 held)) ∙ f.left) in
          omega (arith, e, left_grows plan b tails (way + 1) (poured_in (entries_from row 0 held)))

-- ---- one entry

module _ (jumps falls : Half) (cost : ℕ) (e : Key × Both) (r : List (Key × Both)) (j f : ℕ)
    (j_is : j ≡ hits_of jumps e.0.0) (f_is : f ≡ hits_of falls e.0.1) where
  pub pushed_dropped : (bit_or j f ≡ 0 → ⊥) → pushed jumps falls cost e r ≡ r
  pushed_dropped h = rw (ne_eqb (bit_or (hits_of jumps e.0.0) (hits_of falls e.0.1)) 0
      (λ z. h (ap₂ bit_or j_is f_is ∙ z)))

  pub pushed_kept : (oj of : ℕ) (v : Both) → oj ≡ opened_of jumps e.0.0 → of ≡ opened_of falls e.0.1
      → v ≡ step_both jumps falls cost e.1 → bit_or j f ≡ 0 → pushed jumps falls cost e r ≡ inserted ((oj, of), v) r
  pushed_kept oj of v p q s h =
      rw (eq-eqb (bit_or (hits_of jumps e.0.0) (hits_of falls e.0.1)) 0 (sym (ap₂ bit_or j_is f_is) ∙ h), p, q, s)
