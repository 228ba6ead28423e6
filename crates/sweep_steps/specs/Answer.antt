-- The sweep's answer, after document 01, 'Sweep' and 'Refusal numbers', and request A1, with the lent table of entries
-- after it. Trusted: definitions only. Rests on plan's Owed (the values and bytes of both routes) and on theory's Route
-- (the two sides of the answer and their routes) and Row (rows, kept, crowded).
use Rattle.std.specs.Prelude.{cond, List, [], ◌∷◌, ◌++◌, ℕ, suc, ◌*◌, ◌-◌, ltb, length, take, drop, replicate, Result, Ok, Err}
use Rattle.std.proofs.Math.Option.{Option, none, some}
use Rattle.laws.specs.Terms.{Choice, heaviest, lightest, each, range}
use Rattle.form.specs.declared.Body.{Body}
use Rattle.form.specs.declared.Refusal.{Refusal}
use Rattle.form.specs.Said.{number_of}
use Rattle.form.specs.Form.{body_of}
use Rattle.form.specs.Conflict.{conflicts}
use Rattle.theory.specs.Route.{Routes, Side, side_of, routes_on}
use Rattle.theory.specs.Row as theory
use Rattle.theory.specs.Row.{row, filled, kept, crowded}
use Rattle.plan.specs.Owed.{Owed, Values, refusal, answered, routed_values, bytes_needed, routed_bytes}
use Rattle.entries.specs.declared.Way.{Way}
use Rattle.entries.specs.declared.Entry.{Entry}
use Rattle.sweep_steps.specs.declared.Routed.{Routed}

-- in document 01's numbers
abbrev pub said : Result Routed Refusal → Values
said (Ok r) =
    answered r.totals.iterations r.totals.weight r.totals.bound r.totals.least r.totals.least_total r.kept
said (Err r) = refusal (number_of r.fault) r.place

-- ---- the answer, and what the lent bytes and the lent table hold after it

pub record Outcome : Type 0 where
  pub values : Values
  pub route : List ℕ
  pub table : List Entry

abbrev pub outcome_of : Result Routed Refusal → (route : List ℕ) → (table : List Entry) → Outcome
outcome_of answer route table = record { values = said answer; route = route; table = table }

-- A refusal changes no lent memory.
abbrev pub refused : (route : List ℕ) → (table : List Entry) → (number place : ℕ) → Outcome
refused route table number place = record { values = refusal number place; route = route; table = table }

-- ---- the table's entries: the two choices side by side

abbrev pub way_from : theory.Entry → Way
way_from e = record { weight = e.weight; jumped = e.jumped; fallen = e.fallen }

-- An entry, from those of one pair of sets in the heaviest side's row and in the lightest side's.
abbrev pub entry_from : (heavy light : theory.Entry) → Entry
entry_from heavy light = record {
  jumps = heavy.jumps;
  falls = heavy.falls;
  heaviest = way_from heavy;
  lightest = way_from light;
}

-- The two sides' rows of a block: entry by entry they have the same sets (theory's RowSets.same_set_at).
unfoldable pub side_by_side : (heavy light : List theory.Entry) → List Entry
side_by_side (heavy ∷ r) (light ∷ s) = entry_from heavy light ∷ side_by_side r s
side_by_side [] s = []
side_by_side (heavy ∷ r) [] = []

abbrev pub no_entry : Entry
no_entry = entry_from theory.no_entry theory.no_entry

-- The lent table with the rows of the blocks from `from` on, of `count` blocks: row b has 64 entries, from entry 64 b
-- on. Rows of lower blocks and all entries past the last row are unchanged.
unfoldable pub table_with : (rows : Choice → ℕ → List theory.Entry) → (from count : ℕ) → (lent : List Entry)
    → List Entry
table_with rows from count lent = take (64 * from) lent ++ each (range from (count - from))
    (λ b. side_by_side (filled (rows heaviest b)) (filled (rows lightest b))) ++ drop (64 * count) lent

-- ---- what is owed of a body with a loop count, on its two sides

module _ (body : Body) (sides : Choice → Side) where
  abbrev pub rows_on : Choice → ℕ → List theory.Entry
  rows_on choice = row body (conflicts body) (sides choice).cost (sides choice).prefers

  module _ (route : List ℕ) (table : List Entry) (count : ℕ) where
    -- All rows are complete. 43 where there is no conflict-free route; else both routes.
    abbrev pub routed : Option Routes → Outcome
    routed none = record { values = refusal 43 0; route = route; table = table_with rows_on 0 body.count table }
    routed (some v) = record {
      values = routed_values count v (kept body);
      route = routed_bytes body v route;
      table = table_with rows_on 0 body.count table;
    }

    -- 40 with the highest crowded block: the rows above it are complete, it and the lower ones are unchanged.
    abbrev pub swept : Option ℕ → Outcome
    swept none = routed (routes_on body sides)
    swept (some b) = record {
      values = refusal 40 b;
      route = route;
      table = table_with rows_on (suc b) body.count table;
    }

    -- 42 with the bytes needed, then 44 with the entries needed, for a table under 64 entries a block; then 40, and 43
    -- last.
    abbrev pub sweep_outcome : Outcome
    sweep_outcome =
        cond (ltb (length route) (bytes_needed body)) (refused route table 42 (bytes_needed body))
        (cond (ltb (length table) (64 * body.count)) (refused route table 44 (64 * body.count))
        (swept (crowded body)))

-- ---- what is owed of any bytes: the dearest and the cheapest iteration

abbrev pub SweepOwed : (form route : List ℕ) → (table : List Entry) → Outcome → Type 0
SweepOwed form route table outcome = Owed form (refused route table)
    (sweep_outcome (body_of form) (side_of (body_of form)) route table) outcome

-- The same with a table of its own, of 1,024 zero entries, whatever that holds afterwards.
abbrev pub own_table : List Entry
own_table = replicate 1024 no_entry

abbrev pub OwnTableOwed : (form route : List ℕ) → Result Routed Refusal → (held : List ℕ) → Type 0
OwnTableOwed form route answer held = (table : List Entry) × SweepOwed form route own_table (outcome_of answer held table)
