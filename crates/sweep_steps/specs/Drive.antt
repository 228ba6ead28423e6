-- The drive of the sweep: where the table, the lengths and kept stand between two blocks, for any body and costs with
-- this plan; the start, one turn and the end. Rests on Turn and Table.
use Rattle.std.specs.Prelude.{◌≡◌, refl, Bool, true, false, cond, List, [], ◌∷◌, ◌++◌, map, ℕ, suc, max, ◌+◌, ◌*◌, ◌-◌, ◌^◌, ◌≤◌, ◌<◌, eqb, ltb, set, replicate, Result, MatchResult}
use Rattle.std.proofs.Math.Path.{sym, ap, ap₂}
use Rattle.std.proofs.Common.{subst, ◌∙◌, inl, inr, zero-add, arith, eqb-true, lt-ltb, le-ltb, ltb-true, ltb-false, length-set, get_or-set_same, get_or-set_other}
use Rattle.std.proofs.Math.Option.{none, some}
use Rattle.std.proofs.Math.Nat.{max-zero, zero-max}
use Rattle.std.proofs.lemmas.Bool.{eqb-false}
use Rattle.std.proofs.Math.ListN.{length, get_or, get_or-eq_default}
use Rattle.std.proofs.lemmas.List.{length-map, length-replicate, get_or-replicate}
use Rattle.std.proofs.Math.Seq.{paste}
use Rattle.std.proofs.lemmas.List.Edits.{length-paste}
use Rattle.laws.specs.Terms.{Choice, heaviest, lightest, preferred, chosen, Mem}
use Rattle.laws.specs.Lists.{map_in}
use Rattle.laws.specs.Rows.{across}
use Rattle.laws.specs.Tests.{split}
use Rattle.form.specs.declared.Body.{Body}
use Rattle.form.specs.declared.Fault.TheVariants.{Crowded}
use Rattle.form.specs.declared.Refusal.{Refusal}
use Rattle.form.specs.Conflict.{Sound, exits, conflicts}
use Rattle.theory.specs.Row as theory
use Rattle.theory.specs.Row.{Key, open_sets, filled, longest, highest, crowded}
use Rattle.theory.specs.SweepWords as words
use Rattle.theory.specs.SweepWords.{Words, row_words_lem, words_count}
use Rattle.theory.specs.Range.{Range, up_past}
use Rattle.theory.specs.PlanWays.{by_way_lem}
use Rattle.theory.specs.Plan.{sides_by, target_at, cost_at, IsWay, Planned, PlanOf, cost_limit}
use Rattle.entries.specs.declared.Entry.{Entry}
use Rattle.entries.specs.Structs.{Both, tuple_of}
use Rattle.entries.specs.Entries.{entries_from, entries_alike, entries_length}
use Rattle.rows.specs.Begun.{Holds, begun_with}
use Rattle.rows.specs.Sides.{side_row, left_on, left_side, begun_side}
use Rattle.sweep_steps.specs.declared.Rows.{Rows}
use Rattle.sweep_steps.specs.Answer.{side_by_side, no_entry, table_with, rows_on}
use Rattle.sweep_steps.specs.Table.{in_mem, side_laid, row_laid, paste_in, paste_high, table_none, table_more}
use Rattle.sweep_steps.specs.Turn.{row_of, range_of, entry_small, row_is, row_in, target_rows, row_from, weight_at, TurnReady, Stored}

-- ---- the lengths

-- only the rows of the blocks from b on, of `count` blocks, have entries, each at most 64
pub record Lengths (count b : ℕ) (lengths : List ℕ) : Type 0 where
  pub size : length lengths ≡ 64
  pub few : (t : ℕ) → get_or lengths t 0 ≤ 64
  pub low : (t : ℕ) → t < b → get_or lengths t 0 ≡ 0
  pub high : (t : ℕ) → count ≤ t → get_or lengths t 0 ≡ 0

abbrev pub no_lengths : List ℕ
no_lengths = replicate 64 0

no_length : (t : ℕ) → get_or no_lengths t 0 ≡ 0
no_length t = split (ltb t 64) (λ h. get_or-replicate 64 t 0 0 (ltb-true t 64 h))
    (λ h. get_or-eq_default no_lengths 0 {n = t} (omega (arith, ltb-false t 64 h, length-replicate {A = ℕ} 64 0)))

pub lengths_none : (count : ℕ) → Lengths count count no_lengths
lengths_none count = record {
  size = length-replicate {A = ℕ} 64 0;
  few = λ t. omega (arith, no_length t);
  low = λ t h.
      no_length t;
  high = λ t h. no_length t;
}

pub lengths_more : (count b n : ℕ) (lengths : List ℕ) → b < count → count ≤ 64 → n ≤ 64 → Lengths count (suc b) lengths
    → Lengths count b (set lengths b n)
lengths_more count b n lengths h few l w = record {
  size = length-set lengths b n ∙ w.size;
  few = λ t. split (eqb t b)
      (λ q. rw (eqb-true t b q, here) l)
      (λ q. rw (other t (eqb-false t b q)) (w.few t));
  low = λ t k. other t (λ q. omega arith) ∙ w.low t (omega arith);
  high = λ t k. other t (λ q. omega arith) ∙ w.high t k;
}
  where
    here : get_or (set lengths b n) b 0 ≡ n
    here = get_or-set_same lengths b n 0 (omega (arith, w.size))

    other : (t : ℕ) → (t ≡ b → ⊥) → get_or (set lengths b n) t 0 ≡ get_or lengths t 0
    other t d = get_or-set_other lengths b t n 0 d

-- ---- the table

-- the sets of open edges that row b has
abbrev sets_at : Body → ℕ → List Key
sets_at body = open_sets body (conflicts body)

-- the rows from b on are complete; what they say of kept and of the highest crowded block
pub record Down (body : Body) (cost : ℕ → ℕ → ℕ) (lent table : List Entry) (lengths : List ℕ)
    (b kept : ℕ) : Type 0 where
  pub rows : (choice : Choice) (t : ℕ) → b ≤ t → t < body.count
      → side_row choice (row_in table lengths t) ≡ row_of choice body cost t
  pub table_is : table ≡ table_with (rows_on body (sides_by cost)) b body.count lent
  pub kept_is : max kept (longest (sets_at body) b) ≡ theory.kept body
  pub crowd_is : highest (sets_at body) b ≡ crowded body

down_start : (body : Body) (cost : ℕ → ℕ → ℕ) (lent : List Entry) (lengths : List ℕ) → Down body cost lent lent lengths
    body.count 0
unfolding theory.kept crowded
down_start body cost lent lengths = record {
  rows = λ choice t h k. absurd (never t h k);
  table_is = sym (table_none (rows_on body (sides_by cost)) body.count lent);
  kept_is = zero-max (longest (sets_at body) body.count);
  crowd_is = refl;
}
  where
    never : (t : ℕ) → body.count ≤ t → t < body.count → ⊥
    never t h k = omega arith

max_three : (a b c : ℕ) → max (max a b) c ≡ max a (max b c)
max_three a b c = omega arith

longest_suc : (rows : ℕ → List Key) (b : ℕ) → longest rows (suc b) ≡ max (length (rows b)) (longest rows b)
unfolding longest
longest_suc rows b = refl

highest_suc : (rows : ℕ → List Key) (b : ℕ) → highest rows (suc b) ≡ cond (ltb 64 (length (rows b))) (some b)
    (highest rows b)
unfolding highest
highest_suc rows b = refl

module _ (body : Body) (cost : ℕ → ℕ → ℕ) (lent table : List Entry) (lengths : List ℕ) (b kept : ℕ)
    (inside : b < body.count) (few : body.count ≤ 64) (room : 64 * body.count ≤ length lent)
    (same : length table ≡ length lent) (sizes : Lengths body.count (suc b) lengths)
    (d : Down body cost lent table lengths (suc b) kept) where
  -- the row made is on each side the row by definition
  module _ (r : List (Key × Both)) (is : (choice : Choice) → side_row choice r ≡ row_of choice body cost b) where
    row_size : length r ≡ length (sets_at body b)
    row_size = sym (length-map r (across (λ (v : Both). v.0))) ∙ ap length (is heaviest)
        ∙ words_count body (conflicts body) cost (preferred heaviest) b

    -- a row of up to 64 entries is stored
    module _ (new : List Entry) (n : ℕ) (s : Stored r table new b n) where
      h : Holds r s.row n
      h = s.holds

      n_is : n ≡ length (sets_at body b)
      n_is = sym (entries_length s.row 0 n) ∙ ap length h.held ∙ row_size

      in_table : 64 * b + 64 ≤ length table
      in_table = omega arith

      abbrev news : List ℕ
      news = set lengths b n

      own_row : row_in new news b ≡ r
      own_row =
          ap (entries_from new (64 * b)) (get_or-set_same lengths b n 0 (omega (arith, sizes.size)))
          ∙ sym (entries_alike s.row new n 0 (64 * b) (λ k l.
          ap (λ i. get_or s.row i no_entry) (zero-add k)
          ∙ sym (ap (λ t. get_or t (64 * b + k) no_entry) s.table_is ∙ paste_in no_entry table s.row (64 * b) 64 in_table
          h.size k (omega (arith, h.few)))))
          ∙ h.held

      other_row : (t : ℕ) → suc b ≤ t → row_in new news t ≡ row_in table lengths t
      other_row t k =
          ap (entries_from new (64 * t)) (get_or-set_other lengths b t n 0 (λ q. omega arith))
          ∙ entries_alike new table (get_or lengths t 0) (64 * t) (64 * t)
          (λ i l. ap (λ w. get_or w (64 * t + i) no_entry) s.table_is ∙ paste_high no_entry table s.row
          (64 * b) 64 in_table h.size (64 * t + i) (omega arith))

      -- a side of it as document 01 has it
      side_laid_lem : (choice : Choice) → side_laid choice (entries_from s.row 0 n) ≡ rows_on body (sides_by cost) choice b
      side_laid_lem choice = ap (side_laid choice) h.held ∙ ap (map words.entry_from) (is choice)
          ∙ sym (row_words_lem body (conflicts body) cost (preferred choice) b)

      down_more : Down body cost lent new news b (max kept n)
      down_more = record {
        rows = λ choice t l k. split (eqb t b)
            (λ q. subst (λ (t : ℕ). side_row choice (row_in new news t) ≡ row_of choice body cost t)
            (sym (eqb-true t b q)) (ap (side_row choice) own_row ∙ is choice))
            (λ q. let e = eqb-false t b q in
            ap (side_row choice) (other_row t (omega arith)) ∙ d.rows choice t (omega arith) k);
        table_is =
            s.table_is
            ∙ ap (λ t. paste t (64 * b) s.row 64) d.table_is
            ∙ table_more (rows_on body (sides_by cost)) body.count lent b s.row inside room
            h.size
            (row_laid s.row n h.few h.size h.zeros
            ∙ ap₂ (λ p q. side_by_side (filled p) (filled q)) (side_laid_lem heaviest) (side_laid_lem lightest));
        kept_is =
            max_three kept n (longest (sets_at body) b)
            ∙ ap (λ m. max kept (max m (longest (sets_at body) b))) n_is
            ∙ ap (max kept) (sym (longest_suc (sets_at body) b))
            ∙ d.kept_is;
        crowd_is =
            sym (highest_suc (sets_at body) b ∙ ap (λ c. cond c (some b) (highest (sets_at body) b))
            (le-ltb 64 (length (sets_at body b)) (omega (arith, n_is, h.few))))
            ∙ d.crowd_is;
      }

    -- more than 64 sets: the block is the highest crowded one
    down_over : 64 < length r → crowded body ≡ some b
    down_over h =
        sym d.crowd_is
        ∙ highest_suc (sets_at body) b
        ∙ ap (λ c. cond c (some b) (highest (sets_at body) b))
        (lt-ltb 64 (length (sets_at body b)) (omega (arith, row_size)))

-- ---- a turn, from the plan

-- what a step costs, and what an entry weighs, is no more than the limit
module _ (body : Body) (g : Sound body) (cost : ℕ → ℕ → ℕ) (range : Range body.count cost cost_limit) where
  cost_few : (b way : ℕ) → b < body.count → cost b way ≤ cost_limit
  cost_few b way h = omega (
    arith,
    range.each b way h,
    up_past range.most b body.count body.count h
        (omega arith),
    range.all,
  )

  pub weight_few : (choice : Choice) (t : ℕ) → t < body.count → (e : Key × Words) → Mem e (row_of choice body cost t)
      → e.1.0 ≤ cost_limit
  weight_few choice t h e m = omega (arith, (entry_small choice body g cost range t h e m).weighs, range.all)

module _ (body : Body) (g : Sound body) (cost : ℕ → ℕ → ℕ) (range : Range body.count cost cost_limit) (plan : List ℕ)
    (fits : (k : ℕ) → get_or plan k 0 < 2 ^ 64) (planned : Planned body cost plan)
    (lent table : List Entry) (lengths : List ℕ) (b kept : ℕ) (inside : b < body.count)
    (sizes : Lengths body.count (suc b) lengths) (d : Down body cost lent table lengths (suc b) kept) where
  no_row : (t : ℕ) → 64 ≤ t → row_in table lengths t ≡ []
  unfolding entries_from
  no_row t h = ap (entries_from table (64 * t)) (get_or-eq_default lengths 0 {n = t} (omega (arith, sizes.size)))

  turn_row : (choice : Choice) → side_row choice (row_from plan body.count table lengths b) ≡ row_of choice body cost b
  turn_row choice =
      left_side choice plan b (target_rows plan table lengths b) (begun_with plan body.count b)
      ∙ ap (left_on choice plan b (λ way. side_row choice (target_rows plan table lengths b way)) 1)
      (begun_side choice plan body.count b)
      ∙ row_is choice body g cost range plan fits planned (λ t. side_row choice (row_in table lengths t))
      (λ t h. ap (side_row choice) (no_row t h)) b inside (λ t h k. d.rows choice t h k)

  some_row : (t i : ℕ) → i < get_or lengths t 0 → (b < t) × (t < body.count)
  some_row t i h = (
    split (ltb b t) (ltb-true b t) (λ q. absurd (low (ltb-false b t q))),
    split (ltb t body.count) (ltb-true t body.count) (λ q. absurd (high (ltb-false t body.count q))),
  )
    where
      low : t ≤ b → ⊥
      low l = omega (arith, sizes.low t (omega arith))

      high : body.count ≤ t → ⊥
      high l = omega (arith, sizes.high t l)

  turn_light : (choice : Choice) (way t i : ℕ) → i < get_or lengths t 0
      → cost_at plan b way + weight_at choice table (64 * t + i) < 2 ^ 64
  turn_light choice way t i h =
      let (l, k) = some_row t i h in
      let e = tuple_of (get_or table (64 * t + i) no_entry) in
      let m = subst (Mem (across (chosen choice) e)) (d.rows choice t l k)
      (map_in (across (chosen choice)) (row_in table lengths t) e (in_mem table (64 * t) (get_or lengths t 0) i h)) in
      let w = weight_few body g cost range choice t k (across (chosen choice) e) m in
      omega (arith, w, planned.costs b way inside, cost_few body g cost range b way inside)

  -- a target that there is stands in the body
  target_inside : (way : ℕ) → IsWay way → target_at plan b way < 64 → target_at plan b way < body.count
  target_inside way is h = g.onward.inside b (way, target_at plan b way) (leaves way is h)
    where
      last : (c : Bool) → Mem {A = ℕ × ℕ} (2, target_at plan b 2)
          (cond c ((1, target_at plan b 1) ∷ []) [] ++ ((2, target_at plan b 2) ∷ []))
      last true = inr (inl refl)
      last false = inl refl

      leaves : (way : ℕ) → IsWay way → target_at plan b way < 64 → Mem (way, target_at plan b way) (exits body b)
      leaves = by_way_lem (λ way. target_at plan b way < 64 → Mem (way, target_at plan b way) (exits body b))
          (λ l. rw (planned.ways b inside, lt-ltb (target_at plan b 1) 64 l) (inl refl))
          (λ l. rw (planned.ways b inside, lt-ltb (target_at plan b 2) 64 l) (last (ltb (target_at plan b 1) 64)))

-- ---- what the drive answers

-- 40 at a block
abbrev pub crowd_at : ℕ → Refusal
crowd_at b = record { fault = Crowded; place = b }

-- a row of n entries more
abbrev pub rows_with : Rows → (b n : ℕ) → Rows
rows_with rows b n = record { lengths = set rows.lengths b n; kept = max rows.kept n }

-- all rows are complete
pub record Whole (body : Body) (cost : ℕ → ℕ → ℕ) (lent table : List Entry) (rows : Rows) : Type 0 where
  pub crowd_is : crowded body ≡ none
  pub kept_is : rows.kept ≡ theory.kept body
  pub table_is : table ≡ table_with (rows_on body (sides_by cost)) 0 body.count lent
  pub first : (choice : Choice) → side_row choice (row_in table rows.lengths 0) ≡ row_of choice body cost 0

-- the rows above the highest crowded block are complete
pub record UpTo (body : Body) (cost : ℕ → ℕ → ℕ) (lent table : List Entry) (refusal : Refusal) : Type 0 where
  pub block : ℕ
  pub crowd_is : crowded body ≡ some block
  pub refusal_is : refusal ≡ crowd_at block
  pub table_is : table ≡ table_with (rows_on body (sides_by cost)) (suc block) body.count lent

abbrev pub SweptAs : (body : Body) (cost : ℕ → ℕ → ℕ) (lent table : List Entry) → Result Rows Refusal → Type 0
SweptAs body cost lent table result = MatchResult result (Whole body cost lent table) (UpTo body cost lent table)

module _ (body : Body) (cost : ℕ → ℕ → ℕ) (lent table : List Entry) where
  swept_crowded : (lengths : List ℕ) (b kept : ℕ) → crowded body ≡ some b
      → Down body cost lent table lengths (suc b) kept
      → UpTo body cost lent table (crowd_at b)
  swept_crowded lengths b kept e d = record {
    block = b;
    crowd_is = e;
    refusal_is = refl;
    table_is = d.table_is;
  }

  swept_whole : (rows : Rows) → 0 < body.count → Down body cost lent table rows.lengths 0 rows.kept
      → Whole body cost lent table rows
  unfolding longest highest
  swept_whole rows any_block d = record {
    crowd_is = sym d.crowd_is;
    kept_is = sym (max-zero rows.kept) ∙ d.kept_is;
    table_is = d.table_is;
    first = λ choice. d.rows choice 0 (omega arith) any_block;
  }

-- ---- between two blocks

-- with b blocks to come
pub record Sweeping (plan : List ℕ) (lent table : List Entry) (lengths : List ℕ) (count b kept : ℕ) : Type 0 where
  pub rows : (body : Body) (cost : ℕ → ℕ → ℕ) → Planned body cost plan → Sound body → body.count ≡ count
      → Down body cost lent table lengths b kept
  pub sizes : Lengths count b lengths
  pub same : length table ≡ length lent
  pub below : b ≤ count

pub sweeping_start : (plan : List ℕ) (lent : List Entry) (count : ℕ) → Sweeping plan lent lent no_lengths count count 0
sweeping_start plan lent count = record {
  rows = λ body cost p g e. subst (λ (n : ℕ). Down body cost lent lent no_lengths n 0) e
      (down_start body cost lent no_lengths);
  sizes = lengths_none count;
  same = refl;
  below = omega arith;
}

pub sweeping_end : {plan : List ℕ} {lent table : List Entry} {count b : ℕ} (rows : Rows) → b ≡ 0
    → Sweeping plan lent table rows.lengths count b rows.kept
    → (body : Body) (cost : ℕ → ℕ → ℕ) → Planned body cost plan → Sound body → body.count ≡ count
    → Whole body cost lent table rows
sweeping_end {plan} {lent} {table} {count} rows z v body cost p g e =
    swept_whole body cost lent table rows g.some
    (subst (λ (b : ℕ). Down body cost lent table rows.lengths b rows.kept) z (v.rows body cost p g e))

module _ {plan : List ℕ} {lent table : List Entry} {lengths : List ℕ} {count b kept : ℕ}
    (v : Sweeping plan lent table lengths count b kept) (more : 0 < b) (of : PlanOf plan count)
    (room : 64 * count ≤ length lent) (fits : (k : ℕ) → get_or plan k 0 < 2 ^ 64) where
  abbrev at : ℕ
  at = b - 1

  w : Sweeping plan lent table lengths count (suc at) kept
  w = let next : b ≡ suc at = omega arith in subst (λ (n : ℕ). Sweeping plan lent table lengths count n kept) next v

  module _ (body : Body) (cost : ℕ → ℕ → ℕ) (p : Planned body cost plan) (g : Sound body)
      (e : body.count ≡ count) where
    range : Range body.count cost cost_limit
    range = range_of plan count of body cost p e

    down : Down body cost lent table lengths (suc at) kept
    down = w.rows body cost p g e

    lengths_of : Lengths body.count (suc at) lengths
    lengths_of = subst (λ (n : ℕ). Lengths n (suc at) lengths) (sym e) w.sizes

    inside : at < body.count
    inside = omega (arith, w.below)

    row_here : (choice : Choice) → side_row choice (row_from plan count table lengths at) ≡ row_of choice body cost at
    row_here choice = ap (λ n. side_row choice (row_from plan n table lengths at)) (sym e)
        ∙ turn_row body g cost range plan fits p lent table lengths at kept inside lengths_of down choice

    light_here : (choice : Choice) (way t i : ℕ) → i < get_or lengths t 0
        → cost_at plan at way + weight_at choice table (64 * t + i) < 2 ^ 64
    light_here = turn_light body g cost range plan fits p lent table lengths at kept inside lengths_of down

    inside_here : (t i : ℕ) → i < get_or lengths t 0 → 64 * t + i < length table
    inside_here t i h = omega (
      arith,
      (some_row body g cost range plan fits p lent table lengths at kept inside lengths_of down t i h).1,
      w.sizes.few t,
      w.same,
      room,
      e,
    )

    target_here : (way : ℕ) → IsWay way → target_at plan at way < 64 → target_at plan at way < body.count
    target_here = target_inside body g cost range plan fits p lent table lengths at kept inside lengths_of down

  pub sweeping_inside : (t i : ℕ) → i < get_or lengths t 0 → 64 * t + i < length table
  sweeping_inside = inside_here of.body of.cost of.planned of.sound of.size

  pub count_few : count ≤ 64
  count_few = omega (arith, of.sound.few, of.size)

  pub turn_ready : TurnReady plan table lengths at
  turn_ready = record {
    below = omega (arith, w.below, count_few);
    rows = w.sizes.size;
    few = w.sizes.few;
    room = omega (arith, w.below, w.same, room);
    inside = λ way is h. omega (
      arith,
      target_here of.body of.cost of.planned of.sound of.size way is h,
      of.size,
      w.same,
      room,
    );
    light = light_here of.body of.cost of.planned of.sound of.size;
  }

  -- the block's row is stored
  pub sweeping_more : (new : List Entry) (n : ℕ) → Stored (row_from plan count table lengths at) table new at n
      → Sweeping plan lent new (set lengths at n) count at (max kept n)
  sweeping_more new n stored = record {
    rows = λ body cost p g e.
        down_more body cost lent table lengths at kept (inside body cost p g e) g.few (omega arith)
        w.same (lengths_of body cost p g e) (down body cost p g e) (row_from plan count table lengths at)
        (row_here body cost p g e) new n stored;
    sizes = lengths_more count at n lengths (omega (arith, w.below)) count_few stored.holds.few w.sizes;
    same =
        ap length stored.table_is
        ∙ length-paste table (64 * at) stored.row 64 (omega (arith, turn_ready.room)) (omega (arith, stored.holds.size))
        ∙ w.same;
    below = omega (arith, w.below);
  }

  -- the 65th set has been met
  pub sweeping_crowded : 64 < length (row_from plan count table lengths at)
      → (body : Body) (cost : ℕ → ℕ → ℕ) → Planned body cost plan → Sound body
      → body.count ≡ count → UpTo body cost lent table (crowd_at at)
  sweeping_crowded over body cost p g e =
      swept_crowded body cost lent table lengths at kept
      (down_over body cost lent table lengths at kept (inside body cost p g e) g.few (omega arith)
      w.same (lengths_of body cost p g e) (down body cost p g e) (row_from plan count table lengths at)
      (row_here body cost p g e) over)
      (down body cost p g e)
