-- What follows from the sweep's promise: where it refuses nothing it is answered with both routes (`sweep_answered`),
-- so no run costs more than the bound or less than the least total (`sweep_bounds`); for every input one answer, one
-- content of the lent bytes and one of the lent table, refusals too (`one_sweep`), also over a table of its own
-- (`one_own`, `own_answered`); and which refusals it gives (`sweep_gives`). Rests on Answered and sweep_steps' Answer.
use Rattle.std.specs.Prelude.{◌≡◌, refl, ◌⊎◌, Bool, true, false, cond, List, [], ◌∷◌, ℕ, ◌*◌, ◌≤◌, ltb, length, Result}
use Rattle.std.proofs.Common.{sym, ap, subst, ◌∙◌, inl, inr, arith}
use Rattle.std.proofs.Math.Option.{Option, none, some}
use Rattle.laws.specs.Terms.{Mem}
use Rattle.form.specs.declared.Body.{Body}
use Rattle.form.specs.declared.Refusal.{Refusal}
use Rattle.form.specs.Said.{Accepted}
use Rattle.form.specs.Form.{judge, body_of}
use Rattle.theory.specs.Route.{Routes, routes_on}
use Rattle.theory.specs.Row.{kept, crowded}
use Rattle.plan.specs.Owed.{CountOf, bytes_needed}
use Rattle.plan.specs.Accepted.{owed_once}
use Rattle.entries.specs.declared.Entry.{Entry}
use Rattle.sweep_steps.specs.declared.Routed.{Routed}
use Rattle.sweep_steps.specs.Answer.{said, Outcome, outcome_of, refused, routed, swept, sweep_outcome, SweepOwed, own_table, OwnTableOwed}
use Rattle.sweep_steps.specs.OneAnswer.{one_said}
use Rattle.ways.specs.Answered.{sides_of, Answered, answered_by, Bounds, answered_bounds, Call, no_refusal, gives}

module _ (form : List ℕ) (lent : List ℕ) (table : List Entry) where
  abbrev body : Body
  body = body_of form

  -- the tests: too few bytes, too few entries; the highest crowded block
  abbrev ended : (short small : Bool) → (crowd : Option ℕ) → Option Routes → ℕ → Outcome
  ended short small none o k =
      cond short (refused lent table 42 (bytes_needed body))
      (cond small (refused lent table 44 (64 * body.count)) (routed body (sides_of form) lent table k o))
  ended short small (some b) o k =
      cond short (refused lent table 42 (bytes_needed body))
      (cond small (refused lent table 44 (64 * body.count)) (swept body (sides_of form) lent table k (some b)))

  abbrev late : List ℕ
  late = 40 ∷ 42 ∷ 43 ∷ 44 ∷ []

  pub late_only : (short small : Bool) (crowd : Option ℕ) (o : Option Routes) (k : ℕ)
      → Mem (ended short small crowd o k).values.number (0 ∷ late)
  late_only true small none o k = inr (inr (inl refl))
  late_only true small (some b) o k = inr (inr (inl refl))
  late_only false true none o k = inr (inr (inr (inr (inl refl))))
  late_only false true (some b) o k = inr (inr (inr (inr (inl refl))))
  late_only false false (some b) o k = inr (inl refl)
  late_only false false none none k = inr (inr (inr (inl refl)))
  late_only false false none (some v) k = inl refl

  pub late_high : (n : ℕ) → Mem n late → 40 ≤ n
  late_high n (inl e) = omega arith
  late_high n (inr (inl e)) = omega arith
  late_high n (inr (inr (inr (inr x4)))) = elim x4 [ ]
  late_high n (inr (inr (inl e))) = omega arith
  late_high n (inr (inr (inr (inl e)))) = omega arith

  pub ended_is : (crowd : Option ℕ) → crowded body ≡ crowd
      → (o : Option Routes) → routes_on body (sides_of form) ≡ o → (k : ℕ)
      → sweep_outcome body (sides_of form) lent table k
      ≡ ended (ltb (length lent) (bytes_needed body)) (ltb (length table) (64 * body.count)) crowd o k
  ended_is none c o q k = rw (c, q)
  ended_is (some b) c o q k = rw c

  abbrev pub sweep_call : Call Outcome
  sweep_call = record {
    number = λ x. x.values.number;
    place = λ x. x.values.place;
    refused = refused lent table;
    tells = λ n p. (refl, refl);
    with = sweep_outcome body (sides_of form) lent table;
    late = late;
    late_only = λ k. subst (λ (x : Outcome). Mem x.values.number (0 ∷ late)) (sym (ended_is _ refl _ refl k))
        (late_only (ltb (length lent) (bytes_needed body)) (ltb (length table) (64 * body.count))
        (crowded body) (routes_on body (sides_of form)) k);
    late_high = late_high;
  }

  -- 10 to 20, 40, 42, 43 and 44, or none
  pub sweep_gives : (x : Outcome) → SweepOwed form lent table x
      → ((10 ≤ x.values.number) × (x.values.number ≤ 20)) ⊎ Mem x.values.number (0 ∷ 40 ∷ 42 ∷ 43 ∷ 44 ∷ [])
  sweep_gives x o = gives form sweep_call x o

  -- ---- with routes

  with_routes : (x : Outcome) (k : ℕ) → judge form ≡ Accepted → CountOf body.counter k
      → (short small : Bool) (crowd : Option ℕ) (o : Option Routes) → routes_on body (sides_of form) ≡ o
      → x ≡ ended short small crowd o k → x.values.number ≡ 0 → Answered form lent x.values x.route
  with_routes x k a c true small none o q e z =
      let n = ap (λ (y : Outcome). y.values.number) e in absurd (omega arith)
  with_routes x k a c true small (some b) o q e z =
      let n = ap (λ (y : Outcome). y.values.number) e in absurd (omega arith)
  with_routes x k a c false true none o q e z =
      let n = ap (λ (y : Outcome). y.values.number) e in absurd (omega arith)
  with_routes x k a c false true (some b) o q e z =
      let n = ap (λ (y : Outcome). y.values.number) e in absurd (omega arith)
  with_routes x k a c false false (some b) o q e z =
      let n = ap (λ (y : Outcome). y.values.number) e in absurd (omega arith)
  with_routes x k a c false false none none q e z =
      let n = ap (λ (y : Outcome). y.values.number) e in absurd (omega arith)
  with_routes x k a c false false none (some v) q e z =
      answered_by form lent x.route x.values k (kept body) v a c q (ap (λ (y : Outcome). y.values) e)
      (ap (λ (y : Outcome). y.route) e)

  pub sweep_answered : (x : Outcome) → SweepOwed form lent table x → x.values.number ≡ 0
      → Answered form lent x.values x.route
  sweep_answered x o z =
      let c = no_refusal form sweep_call x o z in
      with_routes x c.count c.accepted c.is_count (ltb (length lent) (bytes_needed body))
      (ltb (length table) (64 * body.count)) (crowded body)
      (routes_on body (sides_of form)) refl (c.is ∙ ended_is _ refl _ refl c.count) z

  -- above and below
  pub sweep_bounds : (x : Outcome) → SweepOwed form lent table x → x.values.number ≡ 0 → Bounds form x.values
  sweep_bounds x o z = answered_bounds form lent x.values x.route (sweep_answered x o z)

  -- ---- one answer

  pub one_sweep : (a b : Result Routed Refusal) (held held' : List ℕ) (rows rows' : List Entry)
      → SweepOwed form lent table (outcome_of a held rows) → SweepOwed form lent table (outcome_of b held' rows')
      → (a ≡ b) × ((held ≡ held') × (rows ≡ rows'))
  one_sweep a b held held' rows rows' o p =
      let e =
      owed_once form (refused lent table) (sweep_outcome body (sides_of form) lent table) (outcome_of a held rows)
      (outcome_of b held' rows') o p in (
        one_said a b (ap (λ (x : Outcome). x.values) e),
        (ap (λ (x : Outcome). x.route) e, ap (λ (x : Outcome). x.table) e),
      )

-- ---- over a table of its own

module _ (form lent : List ℕ) where
  pub own_answered : (answer : Result Routed Refusal) (held : List ℕ) → OwnTableOwed form lent answer held
      → (said answer).number ≡ 0 → Answered form lent (said answer) held
  own_answered answer held (rows, o) z = sweep_answered form lent own_table (outcome_of answer held rows) o z

  pub one_own : (a b : Result Routed Refusal) (held held' : List ℕ) → OwnTableOwed form lent a held
      → OwnTableOwed form lent b held' → (a ≡ b) × (held ≡ held')
  one_own a b held held' (rows, o) (rows', p) = let e =
      one_sweep form lent own_table a b held held' rows rows' o p in (e.0, e.1.0)
