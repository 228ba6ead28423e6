-- What follows from the full walk's promise: where it refuses nothing it is answered with both routes
-- (`walk_answered`), so no run costs more than the bound or less than the least total (`walk_bounds`); for every input
-- one answer and one content of the lent bytes, refusals too (`one_walk`); and which refusals it gives (`walk_gives`).
-- Rests on Answered and walk's Answer.
use Rattle.std.specs.Prelude.{◌≡◌, refl, ◌⊎◌, Bool, true, false, cond, List, [], ◌∷◌, ℕ, ◌≤◌, ltb, length, Result, Ok, Err}
use Rattle.std.proofs.Common.{sym, ap, ◌∙◌, inl, inr, arith}
use Rattle.std.proofs.Math.Option.{Option, none, some}
use Rattle.laws.specs.Terms.{Mem}
use Rattle.form.specs.declared.Body.{Body}
use Rattle.form.specs.declared.Refusal.{Refusal}
use Rattle.form.specs.Said.{Accepted, number_of}
use Rattle.form.specs.OneCase.{one_refusal}
use Rattle.form.specs.Form.{judge, body_of}
use Rattle.theory.specs.Route.{Routes, routes_on, walked}
use Rattle.plan.specs.Owed.{CountOf, Values, refusal, bytes_needed}
use Rattle.plan.specs.Accepted.{owed_once}
use Rattle.walk.specs.declared.Walked.{Walked}
use Rattle.walk.specs.Answer.{said, Outcome, refused, routed, walk_outcome, WalkOwed}
use Rattle.ways.specs.Answered.{sides_of, Answered, answered_by, Bounds, answered_bounds, Call, no_refusal, gives}

module _ (form : List ℕ) (budget : ℕ) (lent : List ℕ) where
  abbrev body : Body
  body = body_of form

  -- the tests: too few bytes, over the budget
  abbrev ended : (short over : Bool) → Option Routes → ℕ → Outcome
  ended short over o k =
      cond short (refused lent 42 (bytes_needed body)) (cond over (refused lent 41 budget) (routed body lent k o))

  abbrev late : List ℕ
  late = 41 ∷ 42 ∷ 43 ∷ []

  pub late_only : (short over : Bool) (o : Option Routes) (k : ℕ) → Mem (ended short over o k).0.number (0 ∷ late)
  late_only true over o k = inr (inr (inl refl))
  late_only false true o k = inr (inl refl)
  late_only false false none k = inr (inr (inr (inl refl)))
  late_only false false (some v) k = inl refl

  pub late_high : (n : ℕ) → Mem n late → 40 ≤ n
  late_high n (inl e) = omega arith
  late_high n (inr (inr (inr x3))) = elim x3 [ ]
  late_high n (inr (inl e)) = omega arith
  late_high n (inr (inr (inl e))) = omega arith

  abbrev pub walk_call : Call Outcome
  walk_call = record {
    number = λ x. x.0.number;
    place = λ x. x.0.place;
    refused = refused lent;
    tells = λ n p. (refl, refl);
    with = walk_outcome body (sides_of form) budget lent;
    late = late;
    late_only =
        λ k. late_only (ltb (length lent) (bytes_needed body)) (ltb budget (walked body))
        (routes_on body (sides_of form)) k;
    late_high = late_high;
  }

  -- 10 to 20, 41, 42 and 43, or none
  pub walk_gives : (x : Outcome) → WalkOwed form budget lent x
      → ((10 ≤ x.0.number) × (x.0.number ≤ 20)) ⊎ Mem x.0.number (0 ∷ 41 ∷ 42 ∷ 43 ∷ [])
  walk_gives x o = gives form walk_call x o

  -- ---- with routes

  with_routes : (x : Outcome) (k : ℕ) → judge form ≡ Accepted → CountOf body.counter k
      → (short over : Bool) (o : Option Routes) → routes_on body (sides_of form) ≡ o
      → x ≡ ended short over o k → x.0.number ≡ 0 → Answered form lent x.0 x.1
  with_routes x k a c true over o q e z = let n = ap (λ (y : Outcome). y.0.number) e in absurd (omega arith)
  with_routes x k a c false true o q e z = let n = ap (λ (y : Outcome). y.0.number) e in absurd (omega arith)
  with_routes x k a c false false none q e z = let n = ap (λ (y : Outcome). y.0.number) e in absurd (omega arith)
  with_routes x k a c false false (some v) q e z =
      answered_by form lent x.1 x.0 k (walked body) v a c q (ap (λ (y : Outcome). y.0) e)
      (ap (λ (y : Outcome). y.1) e)

  pub walk_answered : (x : Outcome) → WalkOwed form budget lent x → x.0.number ≡ 0
      → Answered form lent x.0 x.1
  walk_answered x o z =
      let c = no_refusal form walk_call x o z in
      with_routes x c.count c.accepted c.is_count (ltb (length lent) (bytes_needed body))
      (ltb budget (walked body)) (routes_on body (sides_of form)) refl c.is z

  -- above and below
  pub walk_bounds : (x : Outcome) → WalkOwed form budget lent x → x.0.number ≡ 0 → Bounds form x.0
  walk_bounds x o z = answered_bounds form lent x.0 x.1 (walk_answered x o z)

  -- ---- one answer

  -- a refusal's values are no route's: a count is at least 1
  mixed : (v : Values) (number place : ℕ) (held : List ℕ) → v.number ≡ 0 → v ≡ refusal number place
      → WalkOwed form budget lent (refusal number place, held) → ⊥
  mixed v number place held z e o =
      let a = walk_answered (refusal number place, held) o (sym (ap (λ (v : Values). v.number) e) ∙ z) in
      omega (arith, a.counts.enough)

  same_answer : (a b : Result Walked Refusal) (held kept : List ℕ) → said a ≡ said b
      → WalkOwed form budget lent (said a, held) → WalkOwed form budget lent (said b, kept) → a ≡ b
  same_answer (Ok x) (Ok y) held kept e o p =
      λ t. Ok (record {
        totals = record {
          iterations = (e t).iterations;
          weight = (e t).weight;
          bound = (e t).bound;
          least = (e t).least;
          least_total = (e t).least_total;
        };
        walked = (e t).kept_or_walked;
      })
  same_answer (Ok x) (Err r) held kept e o p =
      absurd (mixed (said (Ok x)) (number_of r.fault) r.place kept refl e p)
  same_answer (Err r) (Ok x) held kept e o p =
      absurd (mixed (said (Ok x)) (number_of r.fault) r.place held refl (sym e) o)
  same_answer (Err r) (Err q) held kept e o p =
      ap Err (one_refusal r q (ap (λ (v : Values). v.number) e) (ap (λ (v : Values). v.place) e))

  pub one_walk : (a b : Result Walked Refusal) (held kept : List ℕ) → WalkOwed form budget lent (said a, held)
      → WalkOwed form budget lent (said b, kept) → (a ≡ b) × (held ≡ kept)
  one_walk a b held kept o p =
      let e =
      owed_once form (refused lent) (walk_outcome body (sides_of form) budget lent) (said a, held) (said b, kept) o p in
      (same_answer a b held kept (ap (λ (x : Outcome). x.0) e) o p, ap (λ (x : Outcome). x.1) e)
