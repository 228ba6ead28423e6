-- The full walk's answer, after document 01, 'Full walk' and 'Refusal numbers', and request A1. Trusted: definitions
-- only. Rests on plan's Owed (the values and bytes of both routes) and on theory's Route (walked, the two sides of the
-- answer and their routes).
use Rattle.std.specs.Prelude.{cond, List, ℕ, ltb, length, Result, Ok, Err}
use Rattle.std.proofs.Math.Option.{Option, none, some}
use Rattle.laws.specs.Terms.{Choice}
use Rattle.form.specs.declared.Body.{Body}
use Rattle.form.specs.declared.Refusal.{Refusal}
use Rattle.form.specs.Said.{number_of}
use Rattle.form.specs.Form.{body_of}
use Rattle.theory.specs.Route.{Routes, Side, side_of, routes_on, walked}
use Rattle.plan.specs.Owed.{Owed, Values, refusal, answered, routed_values, bytes_needed, routed_bytes}
use Rattle.walk.specs.declared.Walked.{Walked}

-- in document 01's numbers
abbrev pub said : Result Walked Refusal → Values
said (Ok w) =
    answered w.totals.iterations w.totals.weight w.totals.bound w.totals.least w.totals.least_total w.walked
said (Err r) = refusal (number_of r.fault) r.place

-- ---- what is owed: the answer, and what the lent bytes hold after it

abbrev pub Outcome : Type 0
Outcome = Values × List ℕ

-- A refusal changes no lent byte.
abbrev pub refused : List ℕ → (number place : ℕ) → Outcome
refused lent number place = (refusal number place, lent)

-- 43 where there is no conflict-free route; else both routes.
abbrev pub routed : Body → List ℕ → (count : ℕ) → Option Routes → Outcome
routed body lent count none = refused lent 43 0
routed body lent count (some v) = (routed_values count v (walked body), routed_bytes body v lent)

-- 42 with the bytes needed, then 41 with the budget, exactly when walked exceeds it, and 43 last.
abbrev pub walk_outcome : Body → (sides : Choice → Side) → (budget : ℕ) → List ℕ → (count : ℕ) → Outcome
walk_outcome body sides budget lent count =
    cond (ltb (length lent) (bytes_needed body)) (refused lent 42 (bytes_needed body))
    (cond (ltb budget (walked body)) (refused lent 41 budget) (routed body lent count (routes_on body sides)))

-- The full walk, for any bytes: the dearest and the cheapest iteration.
abbrev pub WalkOwed : (form : List ℕ) → (budget : ℕ) → (lent : List ℕ) → Outcome → Type 0
WalkOwed form budget lent outcome = Owed form (refused lent)
    (walk_outcome (body_of form) (side_of (body_of form)) budget lent) outcome
