-- One block's turn. A row made, on the words of a plan, of the rows of its targets is on each side the row by
-- definition (`row_is`); made of those rows as they are fetched from the table, it is the row from the table
-- (`turn_made`). Rests on Table, on rows' Rows, Steps and Begun, and on theory's sweep_turn and entry_fits.
use Rattle.std.specs.Prelude.{◌≡◌, Bool, true, false, cond, eqb, ltb, length, get_or, set, replicate, take, drop}
use Rattle.std.proofs.Math.Path.{refl, ap, ap₂, subst}
use Rattle.std.proofs.Common.{sym, ◌∙◌, inl, inr, zero-add, ltb-true, ltb-false, length-take-le, length-drop, get_or-take, get_or-drop}
use mathlib.Core.List.{List, [], ◌∷◌, ◌++◌, append-nil}
use Rattle.std.proofs.Math.Option.{Option}
use Prim.Native.Nat.{ℕ, suc, ◌+◌, ◌*◌, ◌-◌, ◌^◌, ◌≤◌, ◌<◌}
use borrow.Author.Tests.{eqb-true, eqb-false}
use native.Mathlib.Omega.{arith}
use Rattle.std.proofs.Math.ListN.{get_or-eq_default}
use Rattle.std.proofs.Math.Seq.{paste, get_or-set_same, get_or-set_other}
use Rattle.std.specs.declared.ops.Range as ops
use Rattle.laws.specs.Terms.{Choice, Mem, chosen, preferred}
use Rattle.laws.specs.Orders.{preference}
use Rattle.laws.specs.Tests.{split}
use Rattle.laws.specs.Lists.{mem_left, mem_right}
use Rattle.form.specs.declared.Body.{Body}
use Rattle.form.specs.Conflict.{Sound, exits, conflicts}
use Rattle.theory.specs.Row.{Key, key_before}
use Rattle.theory.specs.Edges.{no_edges}
use Rattle.theory.specs.Machine.{push, pour}
use Rattle.theory.specs.Backward.{step_back}
use Rattle.theory.specs.Listing.{listing}
use Rattle.theory.specs.SweepWords.{Words, Fits, entry_fits, row_words, grow_words, pour_words, fill_words}
use Rattle.theory.specs.Main.{sweep_turn}
use Rattle.theory.specs.Range.{Range, up_to}
use Rattle.theory.specs.Plan.{target_at, cost_at, exit_by, IsWay, Planned, cost_limit, PlanOf}
use Rattle.entries.specs.declared.Entry.{Entry}
use Rattle.entries.specs.Structs.{Both, tuple_of}
use Rattle.entries.specs.Entries.{entry_at, entries_from, keep_best, Grown, entries_alike, entries_length}
use Rattle.rows.specs.Steps.{half_of, step_key, step_words, step_key_lem, step_words_lem}
use Rattle.rows.specs.Rows.{tails_of, tails_by, poured_by, left_from, left_grows, Ready}
use Rattle.rows.specs.Begun.{Holds, begun_with}
use Rattle.rows.specs.Sides.{poured_on, left_on, begun_on}
use Rattle.sweep_steps.specs.Answer.{no_entry}

-- ---- pouring by steps that agree on the entries

module _ {K B : Type 0} (lt : K → K → Bool) (keep : (new old : B) → B) (s z : K → Option K) (g h : B → B) where
  pub pour_same : (l : List (K × B)) → ((e : K × B) → Mem e l → (s e.0 ≡ z e.0) × (g e.1 ≡ h e.1)) →
      (r : List (K × B)) → pour lt keep s g l r ≡ pour lt keep z h l r
  unfolding pour
  pour_same [] f r = refl
  pour_same (e ∷ l) f r =
      let (p, q) = f e (inl refl) in
      ap₂ (λ o v. pour lt keep s g l (push lt keep o v r)) p q ∙ pour_same l (λ d m. f d (inr m))
      (push lt keep (z e.0) (h e.1) r)

-- ---- the row by definition

-- row t of the choice
abbrev pub row_of : Choice → Body → (cost : ℕ → ℕ → ℕ) → ℕ → List (Key × Words)
row_of choice body cost t = row_words body (conflicts body) cost (preferred choice) t

-- the costs of any body with this plan keep to its range
pub range_of : (plan : List ℕ) (count : ℕ) → PlanOf plan count → (body : Body) (cost : ℕ → ℕ → ℕ)
    → Planned body cost plan → body.count ≡ count → Range body.count cost cost_limit
range_of plan count of body cost p e = record {
  most = of.range.most;
  each = λ b way h. let l : b < of.body.count = omega (arith, of.size) in
      subst (λ (c : ℕ). c ≤ of.range.most b) (sym (of.planned.costs b way l) ∙ p.costs b way h)
      (of.range.each b way l);
  all = subst (λ (n : ℕ). up_to of.range.most n ≤ cost_limit) (of.size ∙ sym e) of.range.all;
}

module _ (choice : Choice) (body : Body) (g : Sound body) (cost : ℕ → ℕ → ℕ)
    (range : Range body.count cost cost_limit) where
  -- how large the entries of a row are
  pub entry_small : (t : ℕ) → t < body.count → (e : Key × Words) → Mem e (row_of choice body cost t) → Fits body
      range.most t e
  entry_small = entry_fits body g.onward (conflicts body) (listing body g.onward) cost range.most
      range.each (preferred choice) (preference choice)

  module _ (plan : List ℕ) (fits : (k : ℕ) → get_or plan k 0 < 2 ^ 64) (planned : Planned body cost plan)
      (rows : ℕ → List (Key × Words)) (beyond : (t : ℕ) → 64 ≤ t → rows t ≡ [])
      (b : ℕ) (inside : b < body.count)
      (above : (t : ℕ) → b < t → t < body.count → rows t ≡ row_of choice body cost t) where
    -- by each way the row of its target
    abbrev tails : ℕ → List (Key × Words)
    tails way = rows (target_at plan b way)

    -- a way with its target
    way_poured : (way : ℕ) → IsWay way → Mem (way, target_at plan b way) (exits body b) → (r : List (Key × Words))
        → poured_on choice plan b way (tails way) r
        ≡ pour_words body (conflicts body) cost (preferred choice) 64 (b, way) (tails way) r
    unfolding poured_on
    way_poured way v m r =
        let t = target_at plan b way in
        let up = g.onward.above b (way, t) m in
        let on = g.onward.inside b (way, t) m in
        pour_same key_before (keep_best choice) (step_key (half_of plan b way 1) (half_of plan b way 2))
        (step_back body (conflicts body) (b, way))
        (step_words (half_of plan b way 1) (half_of plan b way 2) (cost_at plan b way)) (grow_words cost (b, way))
        (tails way)
        (λ e i. let f = entry_small t on e (subst (Mem e) (above t up on) i) in (
          step_key_lem body g plan fits cost planned b way inside v e.0 f.jumps f.falls,
          step_words_lem body g plan fits cost planned b way inside v (cost_at plan b way) (planned.costs b way inside)
              e.1,
        )) r

    -- a way with none
    none_poured : (way : ℕ) → 64 ≤ target_at plan b way → (r : List (Key × Words))
        → poured_on choice plan b way (tails way) r ≡ r
    unfolding poured_on pour
    none_poured way h r = ap (λ l. poured_on choice plan b way l r) (beyond (target_at plan b way) h)

    abbrev filling : List (ℕ × ℕ) → List (Key × Words) → List (Key × Words)
    filling os r = fill_words body (conflicts body) cost (preferred choice) 64 rows b os r

    -- the ways of the plan, one after the other
    one_way : (way : ℕ) → IsWay way → ((o : ℕ × ℕ) → Mem o (exit_by way (target_at plan b way)) → Mem o (exits body b)) →
        (rest : List (ℕ × ℕ)) (r : List (Key × Words))
        → filling (exit_by way (target_at plan b way) ++ rest) r ≡ filling rest (poured_on choice plan b way (tails way) r)
    unfolding fill_words
    one_way way v among rest r = by (ltb t 64) refl
      where
        t : ℕ
        t = target_at plan b way

        by : (c : Bool) → ltb t 64 ≡ c → filling (cond c ((way, t) ∷ []) [] ++ rest) r ≡ filling rest
            (poured_on choice plan b way (tails way) r)
        by true e = ap (filling rest) (sym (way_poured way v
            (among (way, t) (subst (λ (c : Bool). Mem {A = ℕ × ℕ} (way, t) (cond c ((way, t) ∷ []) [])) (sym e)
            (inl refl))) r))
        by false e = ap (filling rest) (sym (none_poured way (ltb-false t 64 e) r))

    ways : (r : List (Key × Words)) → filling (exits body b) r ≡ left_on choice plan b tails 1 r
    unfolding left_on fill_words
    ways r =
        let e = planned.ways b inside in
        ap (λ os. filling os r) e
        ∙ one_way 1 (omega arith, omega arith) (λ o m. subst (Mem o) (sym e)
        (mem_left o (exit_by 1 (target_at plan b 1)) (exit_by 2 (target_at plan b 2)) m))
        (exit_by 2 (target_at plan b 2)) r
        ∙ ap (λ os. filling os (poured_on choice plan b 1 (tails 1) r)) (sym (append-nil (exit_by 2 (target_at plan b 2))))
        ∙ one_way 2 (omega arith, omega arith) (λ o m. subst (Mem o) (sym e)
        (mem_right o (exit_by 1 (target_at plan b 1)) (exit_by 2 (target_at plan b 2)) m)) []
        (poured_on choice plan b 1 (tails 1) r)

    -- the row is built as the theory builds it, so it is the row by definition
    pub row_is : left_on choice plan b tails 1 (begun_on plan body.count b) ≡ row_of choice body cost b
    row_is =
        sym (ways (begun_on plan body.count b))
        ∙ ap (λ c. filling (exits body b) (cond (eqb (suc b) body.count) ((no_edges, (c, (0, 0))) ∷ []) []))
        (planned.costs b 0 inside)
        ∙ sweep_turn body g cost (preferred choice) (preference choice) rows b inside above

-- ---- words that are cleared

-- one more is zero, and those before it are
pub zeros_more : (l : List ℕ) (k : ℕ) → k < length l → ((j : ℕ) → j < k → get_or l j 0 ≡ 0) → (j : ℕ) → j < suc k
    → get_or (set l k 0) j 0 ≡ 0
zeros_more l k inside zeros j h = split (eqb j k)
    (λ q. let e = eqb-true j k q in ap (λ i. get_or (set l k 0) i 0) e ∙ get_or-set_same l k 0 0 inside)
    (λ q. get_or-set_other l k j 0 0 (eqb-false j k q) ∙ zeros j (omega (arith, eqb-false j k q)))

pub zeros_all : (l : List ℕ) (n : ℕ) → length l ≡ n → ((j : ℕ) → j < n → get_or l j 0 ≡ 0) → l ≡ replicate n 0
zeros_all l n size zeros = subst (λ (m : ℕ). l ≡ replicate m 0) size (all l (λ j h. zeros j (omega (arith, size))))
  where
    all : (l : List ℕ) → ((j : ℕ) → j < length l → get_or l j 0 ≡ 0) → l ≡ replicate (length l) 0
    all [] zeros = refl
    all (x ∷ l) zeros = λ i. zeros 0 (omega arith) i ∷ all l (λ j h. zeros (suc j) (omega arith)) i

-- ---- what the rows in the table make

-- row t of the table
abbrev pub row_in : List Entry → (lengths : List ℕ) → ℕ → List (Key × Both)
row_in table lengths t = entries_from table (64 * t) (get_or lengths t 0)

-- where its entries stand; a row that there is none of has none
abbrev pub place_in : (lengths : List ℕ) → ℕ → ops.Range ℕ
place_in lengths t =
    cond (ltb t (length lengths)) (record { start = 64 * t; end = 64 * t + get_or lengths t 0 })
    (record { start = 0; end = 0 })

-- by each way the row of the target of block b
abbrev pub target_rows : (plan : List ℕ) → List Entry → (lengths : List ℕ) → (b way : ℕ) → List (Key × Both)
target_rows plan table lengths b way = row_in table lengths (target_at plan b way)

-- the row of block b, of the rows in the table
abbrev pub row_from : (plan : List ℕ) → (count : ℕ) → List Entry → (lengths : List ℕ) → (b : ℕ) → List (Key × Both)
row_from plan count table lengths b = left_from plan b (target_rows plan table lengths b) 1 (begun_with plan count b)

-- a row of up to 64 entries, or the 65th set has been met
pub record MadeOf (r : List (Key × Both)) (row : List Entry) (held : ℕ) : Type 0 where
  pub whole : held ≤ 64 → Holds r row held
  pub over : 64 < held → 64 < length r

pub made_of : (plan : List ℕ) (b : ℕ) (tails : ℕ → List (Key × Both)) (r : List (Key × Both)) (row : List Entry) (n : ℕ)
    → Holds r row n → (new : List Entry) (m : ℕ)
    → Grown (left_from plan b tails 1 (entries_from row 0 n)) row new m → length new ≡ 64
    → MadeOf (left_from plan b tails 1 r) new m
made_of plan b tails r row n h new m grown size = record {
  whole = λ few. record {
    few = few;
    size = size;
    held = grown.held few ∙ ap (left_from plan b tails 1) h.held;
    zeros = λ k l. grown.rest k l ∙ h.zeros k (omega (arith, longer few));
  };
  over = λ l. subst (λ (r : List (Key × Both)). 64 < length (left_from plan b tails 1 r)) h.held (grown.over l);
}
  where
    longer : m ≤ 64 → n ≤ m
    longer few = omega (
      arith,
      left_grows plan b tails 1 (entries_from row 0 n),
      entries_length row 0 n,
      ap length
          (grown.held few),
      entries_length new 0 m,
    )

-- ---- one turn

-- the weight of the choice in entry i of the table
abbrev pub weight_at : Choice → List Entry → ℕ → ℕ
weight_at choice table i = (chosen choice (entry_at table i).1).0

pub record TurnReady (plan : List ℕ) (table : List Entry) (lengths : List ℕ) (b : ℕ) : Type 0 where
  pub below : b < 64
  pub rows : length lengths ≡ 64
  pub few : (t : ℕ) → get_or lengths t 0 ≤ 64
  pub room : 64 * b + 64 ≤ length table
  pub inside : (way : ℕ) → IsWay way → target_at plan b way < 64 → 64 * target_at plan b way + 64 ≤ length table
  pub light : (choice : Choice) (way t i : ℕ) → i < get_or lengths t 0
      → cost_at plan b way + weight_at choice table (64 * t + i) < 2 ^ 64

-- a row of up to 64 entries stands in the table at block b
pub record Stored (r : List (Key × Both)) (table new : List Entry) (b n : ℕ) : Type 0 where
  pub row : List Entry
  pub holds : Holds r row n
  pub table_is : new ≡ paste table (64 * b) row 64

-- n entries, from entry `from` on, stand in a place of the table
pub record Placed (table : List Entry) (from n : ℕ) (place : ops.Range ℕ) : Type 0 where
  pub size : place.end ≡ place.start + n
  pub start : 0 < n → place.start ≡ from
  pub room : place.end ≤ length table

abbrev pub part_at : (table : List Entry) → ops.Range ℕ → List Entry
part_at table place = take (place.end - place.start) (drop place.start table)

pub part_length : (table : List Entry) (from n : ℕ) (place : ops.Range ℕ) → Placed table from n place
    → length (part_at table place) ≡ n
part_length table from n place is = omega (
  arith,
  length-take-le (place.end - place.start) (drop place.start table)
      (omega (arith, length-drop place.start table, is.size, is.room)),
  is.size,
)

module _ {plan : List ℕ} {table : List Entry} {lengths : List ℕ} {b : ℕ} (t : TurnReady plan table lengths b) where
  -- the target's row, and its place in the table
  module _ (way : ℕ) (v : IsWay way) (place : ops.Range ℕ)
      (place_is : place ≡ place_in lengths (target_at plan b way)) where
    abbrev target : ℕ
    target = target_at plan b way

    abbrev many : ℕ
    many = get_or lengths target 0

    pub placed : Placed table (64 * target) many place
    placed = subst (Placed table (64 * target) many) (sym place_is) (by (ltb target (length lengths)) refl)
      where
        by : (c : Bool) → ltb target (length lengths) ≡ c → Placed table (64 * target) many
            (cond c (record { start = 64 * target; end = 64 * target + many }) (record { start = 0; end = 0 }))
        by true e =
            let h : target < 64 = omega (arith, ltb-true target (length lengths) e, t.rows) in
            let l : 64 * target + 64 ≤ length table = t.inside way v h in
            record { size = refl; start = λ k. refl; room = omega (arith, t.few target) }
        by false e =
            let none : many ≡ 0 = get_or-eq_default lengths 0 {n = target} (ltb-false target (length lengths) e) in
            record { size = omega arith; start = λ k. absurd (omega arith); room = omega arith }

    abbrev part : List Entry
    part = part_at table place

    pub part_size : length part ≡ many
    part_size = part_length table (64 * target) many place placed

    entry_is : (k : ℕ) → k < many → get_or part k no_entry ≡ get_or table (64 * target + k) no_entry
    entry_is k h =
        get_or-take (place.end - place.start) (drop place.start table) k no_entry (omega (arith, placed.size))
        ∙ get_or-drop place.start table k no_entry
        ∙ ap (λ i. get_or table (i + k) no_entry) (placed.start (omega arith))

    part_light : (choice : Choice) (way i : ℕ) → i < length part
        → cost_at plan b way + (chosen choice (entry_at part i).1).0 < 2 ^ 64
    part_light choice way i h =
        let l : i < many = omega (arith, part_size) in
        subst (λ (e : Entry). cost_at plan b way + (chosen choice (tuple_of e).1).0 < 2 ^ 64) (sym (entry_is i l))
        (t.light choice way target i l)

    part_row : tails_of part ≡ row_in table lengths target
    part_row =
        ap (entries_from part 0) part_size
        ∙ entries_alike part table many 0 (64 * target) (λ k h. ap (λ j. get_or part j no_entry) (zero-add k) ∙ entry_is k h)

  -- the row made of both targets' rows
  module _ (jump fall : ops.Range ℕ) (jump_is : jump ≡ place_in lengths (target_at plan b 1))
      (fall_is : fall ≡ place_in lengths (target_at plan b 2)) where
    one : IsWay 1
    one = (omega arith, omega arith)

    two : IsWay 2
    two = (omega arith, omega arith)

    pub make_asked : Ready plan b (part_at table jump) (part_at table fall)
    make_asked = record { below = t.below; light = λ choice way i. by choice way i (eqb way 1) }
      where
        by : (choice : Choice) (way i : ℕ) (c : Bool) → i < length (cond c (part_at table jump) (part_at table fall))
            → cost_at plan b way + (chosen choice (entry_at (cond c (part_at table jump) (part_at table fall)) i).1).0 < 2 ^ 64
        by choice way i true h = part_light 1 one jump jump_is choice way i h
        by choice way i false h = part_light 2 two fall fall_is choice way i h

    pub turn_made : (count : ℕ) → left_from plan b (tails_by (part_at table jump) (part_at table fall)) 1
        (begun_with plan count b) ≡ row_from plan count table lengths b
    unfolding left_from
    turn_made count = λ i. poured_by plan b 2 (part_row 2 two fall fall_is i)
        (poured_by plan b 1 (part_row 1 one jump jump_is i) (begun_with plan count b))
