-- From the rows to the sweep's answer: what the functions that answer do, and that it is what is owed: where there is
-- too little room (`no_room`), where a block is crowded (`crowd_owed`), where all rows are complete (`routes_owed`).
-- Rests on Answer, Drive, plan's Prepared and theory's WalkWords.
use Rattle.std.proofs.Math.Path.{◌≡◌, sym, ap}
use Rattle.std.specs.Prelude.{refl, Bool, true, false, cond, ℕ, ◌*◌, ◌≤◌, ◌<◌, eqb, ltb, length, get_or, drop, Result, Ok, Err, ⊤}
use Rattle.std.proofs.Common.{ap₂, subst, ◌∙◌, zero-add, arith, lt-ltb, le-ltb, eq-eqb, ne_eqb, ltb-true, ltb-false}
use mathlib.Core.List.{List, [], ◌∷◌, ◌++◌}
use Rattle.std.proofs.Math.Option.{Option, none, some}
use Rattle.std.proofs.lemmas.List.{length-map}
use Rattle.laws.specs.Terms.{Choice, heaviest, lightest, preferred, chosen, Mem}
use Rattle.laws.specs.Lists.{map_in}
use Rattle.laws.specs.Rows.{across}
use Rattle.form.specs.declared.Body.{Body}
use Rattle.form.specs.declared.Fault.TheVariants.{ShortRoom, ShortTable, NoRoute}
use Rattle.form.specs.declared.Refusal.{Refusal}
use Rattle.form.specs.Form.{body_of}
use Rattle.form.specs.Conflict.{Sound, conflicts}
use Rattle.roundtrip.specs.Sound.{sound}
use Rattle.theory.specs.Route.{Path, Side, side_of, route_on, both_of, route_bytes, step_cost}
use Rattle.theory.specs.Row.{found, kept, crowded}
use Rattle.theory.specs.Edges.{no_edges}
use Rattle.theory.specs.Row.{Key}
use Rattle.theory.specs.SweepWords.{Words, words_of, words_found, row_zero_words}
use Rattle.theory.specs.WalkWords.{bytes_words}
use Rattle.theory.specs.Best.{best_leads}
use Rattle.theory.specs.Plan.{sides_by, Planned, PlanOf, cost_limit}
use Rattle.plan.specs.Owed.{routed_values, bytes_needed}
use Rattle.plan.specs.Prepared.{Start, start_owed, start_plan, start_few}
use Rattle.plan.specs.RouteWords.{bytes_of}
use Rattle.plan.specs.Totals.{totals_of}
use Rattle.entries.specs.declared.Entry.{Entry}
use Rattle.entries.specs.Structs.{words_in, tuple_of}
use Rattle.entries.specs.Entries.{entries_from, entries_length}
use Rattle.rows.specs.Sides.{side_row}
use Rattle.sweep_steps.specs.declared.Routed.{Routed}
use Rattle.sweep_steps.specs.declared.Rows.{Rows}
use Rattle.sweep_steps.specs.Answer.{no_entry, Outcome, outcome_of, refused, routed, swept, sweep_outcome, SweepOwed}
use Rattle.sweep_steps.specs.Table.{in_mem}
use Rattle.sweep_steps.specs.Turn.{row_of}
use Rattle.sweep_steps.specs.Drive.{Whole, UpTo, SweptAs, weight_few}

-- ---- what the functions that answer do

-- 42 with the bytes needed
abbrev pub short_room : (count : ℕ) → Refusal
short_room count = record { fault = ShortRoom; place = 2 * count }

-- 44 with the entries needed
abbrev pub short_table : (count : ℕ) → Refusal
short_table count = record { fault = ShortTable; place = 64 * count }

-- 43
abbrev pub no_route : Refusal
no_route = record { fault = NoRoute; place = 0 }

-- 42 first, then 44
abbrev pub room_for : (count bytes entries : ℕ) → Result ⊤ Refusal
room_for count bytes entries =
    cond (ltb bytes (2 * count)) (Err (short_room count))
    (cond (ltb entries (64 * count)) (Err (short_table count)) (Ok tt))

-- both routes' bytes of an entry, and what was lent behind them
abbrev pub bytes_by : (count : ℕ) → Entry → (route : List ℕ) → List ℕ
bytes_by count e route =
    bytes_of count e.heaviest.jumped e.heaviest.fallen
    ++ (bytes_of count e.lightest.jumped e.lightest.fallen ++ drop (2 * count) route)

abbrev pub routed_by : (iterations kept : ℕ) → Entry → Routed
routed_by iterations kept e = record {
  totals = totals_of iterations e.heaviest.weight e.lightest.weight;
  kept = kept;
}

-- what row 0 comes to: its one entry's weights and routes, or 43
abbrev pub answer_of : (count iterations : ℕ) → Rows → Entry → (route : List ℕ) → Result Routed Refusal × List ℕ
answer_of count iterations rows e route =
    cond (eqb (get_or rows.lengths 0 0) 0) (Err no_route, route)
    (Ok (routed_by iterations rows.kept e), bytes_by count e route)

module _ (count iterations : ℕ) (rows : Rows) (way : Entry) (route : List ℕ) where
  pub answer_none : {r : Result Routed Refusal} → get_or rows.lengths 0 0 ≡ 0 → r ≡ Err no_route
      → ◌≡◌ {A = Result Routed Refusal × List ℕ} (r, route) (answer_of count iterations rows way route)
  answer_none e p = rw (eq-eqb (get_or rows.lengths 0 0) 0 e) (λ i. (p i, route))

  pub answer_some : {held : List ℕ} → (get_or rows.lengths 0 0 ≡ 0 → ⊥) → held ≡ bytes_by count way route
      → ◌≡◌ {A = Result Routed Refusal × List ℕ} (Ok (routed_by iterations rows.kept way), held)
      (answer_of count iterations rows way route)
  answer_some d p = rw (ne_eqb (get_or rows.lengths 0 0) 0 d)
      (λ i. (Ok (routed_by iterations rows.kept way), p i))

-- the weight of the choice in an entry
abbrev pub first_weight : Choice → Entry → ℕ
first_weight choice e = (chosen choice (tuple_of e).1).0

-- ---- with all rows, or up to the crowded one

module _ (body : Body) (g : Sound body) (cost : ℕ → ℕ → ℕ) (n : ℕ) (size : body.count ≡ n) (route : List ℕ)
    (lent table : List Entry) (iterations : ℕ) where
  abbrev sides : Choice → Side
  sides = sides_by cost

  abbrev Made : Result Routed Refusal × List ℕ → Option ℕ → Type 0
  Made x o = outcome_of x.0 x.1 table ≡ swept body sides route lent iterations o

  over : (e : Refusal) → UpTo body cost lent table e → Made (Err e, route) (crowded body)
  over e u = ap₂ (λ (e : Refusal) (t : List Entry). outcome_of (Err e) route t) u.refusal_is u.table_is
      ∙ ap (swept body sides route lent iterations) (sym u.crowd_is)

  module _ (rows : Rows) (w : Whole body cost lent table rows) where
    -- how many entries row 0 has
    abbrev find : ℕ
    find = get_or rows.lengths 0 0

    -- row 0 on the side of the choice
    row_zero : (choice : Choice)
        → side_row choice (entries_from table 0 find) ≡ found no_edges (words_found body (route_on body (sides choice)))
    row_zero choice = w.first choice ∙ row_zero_words body (conflicts body) cost (preferred choice)

    row_length : (choice : Choice) (o : Option (ℕ × Path)) → route_on body (sides choice) ≡ o
        → find ≡ length (found no_edges (words_found body o))
    row_length choice o e =
        sym (entries_length table 0 find) ∙ sym (length-map (entries_from table 0 find) (across (chosen choice)))
        ∙ ap length (row_zero choice) ∙ ap (λ o. length (found no_edges (words_found body o))) e

    abbrev only_entry : Entry
    only_entry = get_or table 0 no_entry

    -- the choice's route is in row 0's one entry
    one_route : (choice : Choice) (v : ℕ × Path) → route_on body (sides choice) ≡ some v → (find ≡ 1) ×
        (chosen choice (tuple_of only_entry).1 ≡ words_of body v)
    unfolding entries_from
    one_route choice v e =
        let one : find ≡ 1 = row_length choice (some v) e in
        let same : ◌≡◌ {A = List (Key × Words)} (((tuple_of only_entry).0, chosen choice (tuple_of only_entry).1) ∷ [])
        ((no_edges, words_of body v) ∷ []) =
        ap (λ n. side_row choice (entries_from table 0 n)) (sym one) ∙ row_zero choice
        ∙ ap (λ o. found no_edges (words_found body o)) e in
        let first : ◌≡◌ {A = Key × Words} ((tuple_of only_entry).0, chosen choice (tuple_of only_entry).1)
        (no_edges, words_of body v) = cc in
        (one, ap (λ (x : Key × Words). x.1) first)

    -- the bytes of a route in an entry's words
    bytes_at : (choice : Choice) (v : ℕ × Path) → route_on body (sides choice) ≡ some v → (u : Words)
        → u ≡ words_of body v → bytes_of n u.1.0 u.1.1 ≡ route_bytes body v.1
    unfolding bytes_of
    bytes_at choice v q u e =
        (λ i. bytes_of (sym size i) (e i).1.0 (e i).1.1)
        ∙ sym (bytes_words body g.onward v.1 (best_leads body cost (preferred choice) v q).0)

    -- the answer, by how many entries row 0 has
    abbrev made_by : ℕ → Result Routed Refusal × List ℕ
    made_by m = cond (eqb m 0) (Err no_route, route)
        (Ok (routed_by iterations rows.kept only_entry), bytes_by n only_entry route)

    -- the routes of the heaviest and of the lightest side
    answered_by : (o p : Option (ℕ × Path)) → route_on body (sides heaviest) ≡ o → route_on body (sides lightest) ≡ p
        → outcome_of (made_by find).0 (made_by find).1 table ≡ routed body sides route lent iterations (both_of o p)
    answered_by none p h l =
        ap₂ (λ (m : ℕ) (t : List Entry). outcome_of (made_by m).0 (made_by m).1 t) (row_length heaviest none h)
        w.table_is
    answered_by (some v) none h l =
        absurd (unlike (row_length heaviest (some v) h) (row_length lightest none l))
      where
        unlike : find ≡ 1 → find ≡ 0 → ⊥
        unlike p q = omega arith
    answered_by (some v) (some u) h l =
        let (one, heavy) = one_route heaviest v h in
        let (_, light) = one_route lightest u l in
        let heavy_bytes = bytes_at heaviest v h (words_in only_entry.heaviest) heavy in
        let light_bytes = bytes_at lightest u l (words_in only_entry.lightest) light in
        ap (λ m. outcome_of (made_by m).0 (made_by m).1 table) one
        ∙ λ i. record {
          values = routed_values iterations (((heavy i).0, v.1), ((light i).0, u.1)) (w.kept_is i);
          route = heavy_bytes i ++ (light_bytes i ++ drop (2 * sym size i) route);
          table = w.table_is i;
        }

    answered : Made (answer_of n iterations rows only_entry route) (crowded body)
    answered = answered_by (route_on body (sides heaviest)) (route_on body (sides lightest)) refl refl
        ∙ ap (swept body sides route lent iterations) (sym w.crowd_is)

-- ---- the whole sweep, of any bytes

-- what `sweep_rows` owes
abbrev pub Rowed : (plan : List ℕ) (count : ℕ) (lent table : List Entry) → Result Rows Refusal → Type 0
Rowed plan count lent table r =
    (body : Body) (cost : ℕ → ℕ → ℕ) → Planned body cost plan → Sound body → body.count ≡ count
    → SweptAs body cost lent table r

-- of a form that is accepted and has a loop count
module _ {form : List ℕ} {count iterations : ℕ} {plan : List ℕ} (s : Start form count iterations plan) where
  pub plan_of : PlanOf plan count
  plan_of = start_plan form count iterations plan s

  pub count_few : count ≤ 64
  count_few = omega (arith, plan_of.sound.few, plan_of.size)

  pub count_some : 0 < count
  count_some = omega (arith, plan_of.sound.some, plan_of.size)

  pub iterations_few : iterations < 4294967296
  iterations_few = start_few form count iterations plan s

  abbrev body : Body
  body = body_of form

  abbrev cost : ℕ → ℕ → ℕ
  cost = step_cost body

  module _ (lent : List Entry) (route : List ℕ) where
    abbrev with : ℕ → Outcome
    with = sweep_outcome body (side_of body) route lent

    owes : (x : Outcome) → x ≡ with iterations → SweepOwed form route lent x
    owes x e = start_owed form count iterations plan s (refused route lent) with x e

    -- too little room: it is refused, and nothing is changed
    pub no_room : (e : Refusal) → Err e ≡ room_for count (length route) (length lent)
        → SweepOwed form route lent (outcome_of (Err e) route lent)
    no_room e q = owes (outcome_of (Err e) route lent)
        (by (ltb (length route) (2 * count)) (ltb (length lent) (64 * count)) refl refl q)
      where
        by : (c d : Bool) → ltb (length route) (2 * count) ≡ c → ltb (length lent) (64 * count) ≡ d
            → ◌≡◌ {A = Result ⊤ Refusal} (Err e)
            (cond c (Err (short_room count)) (cond d (Err (short_table count)) (Ok tt)))
            → outcome_of (Err e) route lent ≡ with iterations
        by true d u v z =
            let same : e ≡ short_room count = cc in
            ap (λ e. outcome_of (Err e) route lent) same
            ∙ ap (λ n. outcome_of (Err (short_room n)) route lent) (sym s.size)
            ∙ rw (lt-ltb (length route) (bytes_needed body)
            (omega (arith, s.size, ltb-true (length route) (2 * count) u)))
        by false true u v z =
            let same : e ≡ short_table count = cc in
            ap (λ e. outcome_of (Err e) route lent) same
            ∙ ap (λ n. outcome_of (Err (short_table n)) route lent) (sym s.size)
            ∙ rw (
              le-ltb (length route) (bytes_needed body)
                  (omega (arith, s.size, ltb-false (length route) (2 * count) u)),
              lt-ltb (length lent) (64 * body.count) (omega (arith, s.size, ltb-true (length lent) (64 * count) v)),
            )
        by false false u v z = cc

    -- room enough
    module _ {u : ⊤} (enough : Ok u ≡ room_for count (length route) (length lent)) where
      pub room : (2 * count ≤ length route) × (64 * count ≤ length lent)
      room = by (ltb (length route) (2 * count)) (ltb (length lent) (64 * count)) refl refl enough
        where
          by : (c d : Bool) → ltb (length route) (2 * count) ≡ c → ltb (length lent) (64 * count) ≡ d
              → ◌≡◌ {A = Result ⊤ Refusal} (Ok u)
              (cond c (Err (short_room count)) (cond d (Err (short_table count)) (Ok tt)))
              → (2 * count ≤ length route) × (64 * count ≤ length lent)
          by true d p q z = cc
          by false true p q z = cc
          by false false p q z = (ltb-false (length route) (2 * count) p, ltb-false (length lent) (64 * count) q)

      module _ (table : List Entry) where
        whole : (x : Result Routed Refusal × List ℕ)
            → Made body (sound form s.accepted) cost count s.size route lent table iterations x (crowded body)
            → SweepOwed form route lent (outcome_of x.0 x.1 table)
        whole x e = owes (outcome_of x.0 x.1 table)
            (e ∙ sym (rw (
              le-ltb (length route) (bytes_needed body) (omega (arith, s.size, room)),
              le-ltb (length lent) (64 * body.count) (omega (arith, s.size, room)),
            ) refl))

        -- a block is crowded
        pub crowd_owed : (e : Refusal) → Rowed plan count lent table (Err e)
            → SweepOwed form route lent (outcome_of (Err e) route table)
        crowd_owed e r = whole (Err e, route)
            (over body (sound form s.accepted) cost count s.size route lent table iterations e
            (r body cost s.planned (sound form s.accepted) s.size))

        -- both routes, or 43
        pub routes_owed : (rows : Rows) → Rowed plan count lent table (Ok rows)
            → (answer : Result Routed Refusal) (held : List ℕ)
            → (answer, held) ≡ answer_of count iterations rows (get_or table 0 no_entry) route
            → SweepOwed form route lent (outcome_of answer held table)
        routes_owed rows r answer held e =
            subst (λ (x : Result Routed Refusal × List ℕ). SweepOwed form route lent (outcome_of x.0 x.1 table)) (sym e)
            (whole (answer_of count iterations rows (get_or table 0 no_entry) route)
            (answered body (sound form s.accepted) cost count s.size route lent table iterations rows
            (r body cost s.planned (sound form s.accepted) s.size)))

  -- the weights in row 0 keep to the limit
  pub light : (lent table : List Entry) (rows : Rows) → Rowed plan count lent table (Ok rows)
      → 0 < get_or rows.lengths 0 0 → (choice : Choice) → first_weight choice (get_or table 0 no_entry) ≤ cost_limit
  light lent table rows r h choice =
      let of = plan_of in
      let many = get_or rows.lengths 0 0 in
      let row = r of.body of.cost of.planned of.sound of.size in
      let first = tuple_of (get_or table 0 no_entry) in
      let m : Mem (across (chosen choice) first) (row_of choice of.body of.cost 0) =
      subst (Mem (across (chosen choice) first)) (row.first choice)
      (map_in (across (chosen choice)) (entries_from table 0 many) first
      (subst (λ (i : ℕ). Mem (tuple_of (get_or table i no_entry)) (entries_from table 0 many)) (zero-add 0)
      (in_mem table 0 many 0 h))) in
      weight_few of.body of.sound of.cost of.range choice 0 of.sound.some (across (chosen choice) first) m
