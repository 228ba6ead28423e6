-- Every row of the table has what is claimed of it: one test that the checker computes over the whole table, and one
-- law that turns it into the claim at each row. Rests on Table, and on what lower_laws proves of counts and conditions.
use Rattle.std.specs.Prelude.{Bool, true, false, not, ◌&&◌, List, [], ◌∷◌, ◌≡◌, refl, ℕ, ◌<◌, ◌^◌, ltb, eqb, ℤ, length}
use Rattle.std.proofs.Common.{inl, inr, ap, sym, subst, arith, ltb-true, eqb-true, SFits}
use Rattle.std.proofs.Math.Option.{Option, none, some}
use Rattle.std.specs.Int.Signed.{mag}
use Rattle.std.specs.Int.{w32}
use Rattle.laws.specs.Terms.{Mem}
use Rattle.laws.specs.Tests.{and_out, not_out, clash}
use Rattle.form.specs.declared.Body.{Body}
use Rattle.form.specs.Said.{Verdict, Accepted, Refused}
use Rattle.form.specs.Answer.{accepted}
use Rattle.form.specs.Conflict.{block, effects_below, effects_of, touches, last_on, exits, is_test, condition, contradict, opposes, denies}
use Rattle.form.specs.Counter.{Count}
use Rattle.form.specs.Form.{kind_of, starts_for, records_from, bad_field, bad_target, out_of_place, over_limit, payload_fault, record_fault, end_fault, judge_ends, judge_records, judge, own_effects, gather, fill, body_of}
use Rattle.lower_laws.specs.Conditions.{contradict_says}
use Rattle.lower_laws.specs.Loops.{count_of, count_found}
use Rattle.lower_laws.specs.Steps.{later, first, within, found_none, found_some}
use Rattle.theory.specs.Route.{Path, paths, conflict, tails, weight, best, best_route, side_of, route_on, way_of}
use Rattle.theory.specs.Route.{route_bytes}
use Rattle.marked.specs.Table.{Case, counts, refused, conflicting, compatible, route, on, Claim, table}

fits : ℤ → Bool
fits z = ltb (mag z) (2 ^ 31)

alike : List ℕ → List ℕ → Bool
alike [] [] = true
alike [] (y ∷ k) = false
alike (x ∷ l) [] = false
alike (x ∷ l) (y ∷ k) = eqb x y && alike l k

alike_out : (l k : List ℕ) → alike l k ≡ true → l ≡ k
unfolding alike
alike_out [] [] h = refl
alike_out [] (y ∷ k) h = absurd (clash h refl)
alike_out (x ∷ l) [] h = absurd (clash h refl)
alike_out (x ∷ l) (y ∷ k) h = let (e, t) = and_out (eqb x y) (alike l k) h in λ i. eqb-true x y e i ∷ alike_out l k t i

-- the bytes of a route that was found
bytes_of : Body → Option (ℕ × Path) → List ℕ
bytes_of body none = []
bytes_of body (some best) = route_bytes body best.1

-- the test of a row
right : Case → Bool
right (counts initial step relation limit k) = fits initial && (ltb 0 k && eqb (count_of initial step relation limit) k)
right (refused initial step relation limit) = fits initial && eqb (count_of initial step relation limit) 0
right (conflicting r c q d) = contradict (on r c) (on q d)
right (compatible r c q d) = not (contradict (on r c) (on q d))
right (route choice form bytes) =
    accepted (judge form)
    && (ltb 0 (length bytes)
    && alike (bytes_of (body_of form) (route_on (body_of form) (side_of (body_of form) choice))) bytes)

-- the law of a row

is_accepted : (v : Verdict) → accepted v ≡ true → v ≡ Accepted
is_accepted Accepted h = refl
is_accepted (Refused number place) h = clash h refl

fits_out : (z : ℤ) → fits z ≡ true → SFits w32 z
unfolding fits
fits_out z h = record { sfits = ltb-true (mag z) (2 ^ 31) h }

found_route :
    (body : Body) (bytes : List ℕ) (o : Option (ℕ × Path)) → 0 < length bytes → bytes_of body o ≡ bytes
    → (best : ℕ × Path) × (o ≡ some best) × (route_bytes body best.1 ≡ bytes)
unfolding bytes_of
found_route body bytes none h e = let z : ⊥ = omega (arith, ap length e) in absurd z
found_route body bytes (some best) h e = (best, refl, e)

law : (c : Case) → right c ≡ true → Claim c
unfolding right
law (counts initial step relation limit k) h =
    let (f, r) = and_out (fits initial) _ h in
    let (p, e) = and_out (ltb 0 k) _ r in
    let same = eqb-true (count_of initial step relation limit) k e in
    let found = count_found initial (fits_out initial f) relation limit step in
    subst (Count initial step relation limit) same
    (found_some (Count initial step relation limit) _ (λ z. omega (arith, ltb-true 0 k p)) found)
law (refused initial step relation limit) h =
    let (f, e) = and_out (fits initial) _ h in
    found_none (Count initial step relation limit) _ (eqb-true (count_of initial step relation limit) 0 e)
    (count_found initial (fits_out initial f) relation limit step)
law (conflicting r c q d) h = (contradict_says (on r c) (on q d)).0 h
law (compatible r c q d) h = λ x. clash ((contradict_says (on r c) (on q d)).1 x) (not_out _ h)
law (route choice form bytes) h =
    let (a, r) = and_out (accepted (judge form)) _ h in
    let (p, e) = and_out (ltb 0 (length bytes)) _ r in (
      is_accepted (judge form) a,
      found_route (body_of form) bytes (route_on (body_of form) (side_of (body_of form) choice))
          (ltb-true 0 (length bytes) p) (alike_out _ bytes e),
    )

-- the test of the whole table, computed, and its law at each row
every : List Case → Bool
every [] = true
every (c ∷ l) = right c && every l

every_out : (l : List Case) → every l ≡ true → (c : Case) → Mem c l → Claim c
unfolding every
every_out [] h c m = absurd m
every_out (x ∷ l) h c (inl e) = subst Claim (sym e) (law x (and_out (right x) (every l) h).0)
every_out (x ∷ l) h c (inr m) = every_out l (and_out (right x) (every l) h).1 c m

all_right : every table ≡ true
unfolding every right fits alike bytes_of count_of within first later contradict kind_of starts_for records_from bad_field
    bad_target out_of_place over_limit payload_fault record_fault end_fault judge_ends judge_records judge own_effects gather fill
    block effects_below effects_of touches last_on exits is_test condition opposes denies paths conflict tails weight best
    best_route way_of route_bytes
all_right = refl

pub marked : (c : Case) → Mem c table → Claim c
marked = every_out table all_right
