-- An answer with routes, by either way, and what follows from it alone: no run of at most count iterations costs more
-- than the bound, and no whole run of just count iterations costs less than the least total (`answered_bounds`); and
-- two such answers for one form say the same of each choice (`answered_agree`). Beside it, of what a call owes: where
-- it refuses nothing it has a count (`no_refusal`), and two calls refuse alike what the reader and the counter refuse
-- (`same_early`). Rests on plan's Owed and Accepted and on theory's Bound.
use Rattle.std.specs.Prelude.{◌≡◌, refl, ◌⊎◌, true, false, cond, List, ◌∷◌, ◌++◌, ℕ, suc, ◌<◌, ◌≤◌, eqb, length, take, drop}
use Rattle.std.proofs.Common.{sym, ap, subst, ◌∙◌, inl, inr, ⊎_elim, arith, take_at, drop_at}
use Rattle.std.proofs.Math.Option.{Option, none, some}
use Rattle.std.proofs.lemmas.List.{length-map}
use Rattle.laws.specs.Terms.{Choice, heaviest, lightest, chosen, Mem, range}
use Rattle.form.specs.declared.Body.{Body}
use Rattle.form.specs.Said.{Accepted, Refused}
use Rattle.form.specs.Form.{judge, body_of}
use Rattle.lower_laws.specs.Loops.{count_once}
use Rattle.roundtrip.specs.Refusals.{reader_gives}
use Rattle.roundtrip.specs.Sound.{sound}
use Rattle.theory.specs.Route.{Routes, Path, Side, side_of, route_on, both_of, routes_on, step_cost, bound_of, route_bytes, way_of}
use Rattle.theory.specs.Run.{Run, run_cost, whole}
use Rattle.theory.proofs.runs.Bound.{run_bound, run_least}
use Rattle.plan.specs.Owed.{CountOf, Owed, Values, weight_in, total_in, routed_values, bytes_needed, routed_bytes}
use Rattle.plan.specs.Owed.{route_in}
use Rattle.plan.specs.Owed.Owed.{no_form, no_count, counted}
use Rattle.plan.specs.Accepted.{owed_once}
use Rattle.plan.specs.Prepared.{Refuses, refusal_owed}
use Rattle.plan.specs.Prepared.Refuses.{unread, uncounted}
use Rattle.plan.specs.RouteWords.{range_length}

-- the two sides of a form's body
abbrev pub sides_of : (form : List ℕ) → Choice → Side
sides_of form = side_of (body_of form)

-- the form is accepted, its counter has the count, and of each choice weight and total are those of its side's first
-- conflict-free route of the preferred weight; both routes' bytes are in what was lent
pub record Answered (form lent : List ℕ) (x : Values) (held : List ℕ) : Type 0 where
  pub accepted : judge form ≡ Accepted
  pub counts : CountOf (body_of form).counter x.iterations
  pub routes : Routes
  pub best : (choice : Choice) → route_on (body_of form) (sides_of form choice) ≡ some (chosen choice routes)
  pub weight_is : (choice : Choice) → weight_in choice x ≡ (chosen choice routes).0
  pub total_is : (choice : Choice) → total_in choice x ≡ bound_of x.iterations (weight_in choice x)
  pub bytes : held ≡ routed_bytes (body_of form) routes lent

-- where there are both, there is each
both_out : {A : Type 0} (o p : Option A) (v : A × A) → both_of o p ≡ some v → (o ≡ some v.0) × (p ≡ some v.1)
both_out none p v e = let z : ◌≡◌ {A = ℕ} 0 1 = cc in absurd (omega arith)
both_out (some x) none v e = let z : ◌≡◌ {A = ℕ} 0 1 = cc in absurd (omega arith)
both_out (some x) (some y) v e =
    let same : (x, y) ≡ v = cc in
    (ap (λ (u : _ × _). some u.0) same, ap (λ (u : _ × _). some u.1) same)

-- from the routes, and the values and bytes made of them
pub answered_by : (form lent held : List ℕ) (x : Values) (k kept_or_walked : ℕ) (v : Routes) → judge form ≡ Accepted
    → CountOf (body_of form).counter k → routes_on (body_of form) (sides_of form) ≡ some v
    → x ≡ routed_values k v kept_or_walked → held ≡ routed_bytes (body_of form) v lent → Answered form lent x held
answered_by form lent held x k kept_or_walked v a c q e b = record {
  accepted = a;
  counts = subst (CountOf (body_of form).counter) (sym (ap (λ (y : Values). y.iterations) e)) c;
  routes = v;
  best = best;
  weight_is = λ choice. ap (weight_in choice) e ∙ weight choice;
  total_is = λ choice. subst (λ (y : Values). total_in choice y ≡ bound_of y.iterations (weight_in choice y)) (sym e)
      (total choice);
  bytes = b;
}
  where
    each : (route_on (body_of form) (sides_of form heaviest) ≡ some v.0)
        × (route_on (body_of form) (sides_of form lightest) ≡ some v.1)
    each = both_out (route_on (body_of form) (sides_of form heaviest)) (route_on (body_of form) (sides_of form lightest)) v q

    best : (choice : Choice) → route_on (body_of form) (sides_of form choice) ≡ some (chosen choice v)
    best false = each.0
    best true = each.1

    weight : (choice : Choice) → weight_in choice (routed_values k v kept_or_walked) ≡ (chosen choice v).0
    weight false = refl
    weight true = refl

    total : (choice : Choice) → total_in choice (routed_values k v kept_or_walked)
        ≡ bound_of k (weight_in choice (routed_values k v kept_or_walked))
    total false = refl
    total true = refl

-- ---- soundness, above and below, over the same runs

-- no run of at most so many iterations as the answer has costs more than its bound; no run of just so many, none left
-- early, costs less than its least total
pub record Bounds (form : List ℕ) (x : Values) : Type 0 where
  pub most : {l : List (Path × ℕ)} → Run (body_of form) l → length l ≤ x.iterations
      → run_cost (body_of form) (step_cost (body_of form)) l ≤ x.bound
  pub least : {l : List (Path × ℕ)} (r : Run (body_of form) l) → whole r ≡ true → length l ≡ x.iterations
      → x.least_total ≤ run_cost (body_of form) (step_cost (body_of form)) l

pub answered_bounds : (form lent : List ℕ) (x : Values) (held : List ℕ) → Answered form lent x held → Bounds form x
answered_bounds form lent x held a =
    let body = body_of form in record {
      most = λ r n. rw (a.total_is heaviest, a.weight_is heaviest)
          (run_bound body (sound form a.accepted) (step_cost body) (λ b way. omega arith) a.routes.0
          (a.best heaviest) x.iterations r n);
      least = λ r w n. rw (a.total_is lightest, a.weight_is lightest)
          (run_least body (sound form a.accepted) (step_cost body) a.routes.1 (a.best lightest)
          x.iterations r w n);
    }

-- ---- agreement, of each choice

-- same count, weight and total, and the same route in the bytes lent to each
pub record Agree (choice : Choice) (form : List ℕ) (x y : Values) (held held' : List ℕ) : Type 0 where
  pub iterations : x.iterations ≡ y.iterations
  pub weight : weight_in choice x ≡ weight_in choice y
  pub total : total_in choice x ≡ total_in choice y
  pub route : route_in choice (body_of form).count held ≡ route_in choice (body_of form).count held'

bytes_length : (b : Body) (p : Path) → length (route_bytes b p) ≡ b.count
unfolding route_bytes
bytes_length b p =
    length-map (range 0 b.count) (λ k. cond (eqb (suc k) b.count) 3 (way_of k p)) ∙ range_length 0 b.count

-- the choice's route in the bytes of both
pub route_of : (choice : Choice) (body : Body) (v : Routes) (lent : List ℕ)
    → route_in choice body.count (routed_bytes body v lent) ≡ route_bytes body (chosen choice v).1
route_of false body v lent =
    take_at (route_bytes body v.0.1) (route_bytes body v.1.1 ++ drop (bytes_needed body) lent) body.count
    (bytes_length body v.0.1)
route_of true body v lent =
    ap (take body.count) (drop_at (route_bytes body v.0.1)
    (route_bytes body v.1.1 ++ drop (bytes_needed body) lent) body.count (bytes_length body v.0.1))
    ∙ take_at (route_bytes body v.1.1) (drop (bytes_needed body) lent) body.count (bytes_length body v.1.1)

pub answered_agree : (choice : Choice) (form lent lent' : List ℕ) (x y : Values) (held held' : List ℕ)
    → Answered form lent x held → Answered form lent' y held' → Agree choice form x y held held'
answered_agree choice form lent lent' x y held held' a b =
    let body = body_of form in
    let counter = body.counter in
    let same : x.iterations ≡ y.iterations =
    count_once 1 counter.initial counter.step counter.relation counter.limit x.iterations
    y.iterations a.counts b.counts in
    let v : chosen choice a.routes ≡ chosen choice b.routes = one (sym (a.best choice) ∙ b.best choice) in
    let weighs : weight_in choice x ≡ weight_in choice y =
    a.weight_is choice ∙ ap (λ (u : ℕ × Path). u.0) v ∙ sym (b.weight_is choice) in
    record {
      iterations = same;
      weight = weighs;
      total = a.total_is choice ∙ (λ t. bound_of (same t) (weighs t)) ∙ sym (b.total_is choice);
      route =
          ap (route_in choice body.count) a.bytes ∙ route_of choice body a.routes lent
          ∙ ap (λ (u : ℕ × Path). route_bytes body u.1) v
          ∙ sym (ap (route_in choice body.count) b.bytes ∙ route_of choice body b.routes lent');
    }
  where
    one : {u v : ℕ × Path} → some u ≡ some v → u ≡ v
    one e = cc

-- ---- what a call owes, by the number and place in its outcome

-- a call's outcomes: a refusal's, and those with a count, whose numbers are 0 (no refusal) and the late ones, 40 and
-- above
pub record Call (A : Type 0) : Type 0 where
  pub number : A → ℕ
  pub place : A → ℕ
  pub refused : (number place : ℕ) → A
  pub tells : (n p : ℕ) → (number (refused n p) ≡ n) × (place (refused n p) ≡ p)
  pub with : (count : ℕ) → A
  pub late : List ℕ
  pub late_only : (k : ℕ) → Mem (number (with k)) (0 ∷ late)
  pub late_high : (n : ℕ) → Mem n late → 40 ≤ n

abbrev pub Owes : {A : Type 0} → Call A → List ℕ → A → Type 0
Owes call form x = Owed form call.refused call.with x

-- the form is accepted and has the count, with which the outcome is
pub record Counts {A : Type 0} (form : List ℕ) (with : ℕ → A) (x : A) : Type 0 where
  pub accepted : judge form ≡ Accepted
  pub count : ℕ
  pub is_count : CountOf (body_of form).counter count
  pub is : x ≡ with count

module _ {A : Type 0} (form : List ℕ) (call : Call A) where
  pub no_refusal : (x : A) → Owes call form x → call.number x ≡ 0 → Counts form call.with x
  no_refusal x (no_form n p j e) z =
      absurd (omega (arith, reader_gives form n p j, ap call.number e ∙ (call.tells n p).0))
  no_refusal x (no_count a never e) z = let n = ap call.number e ∙ (call.tells 20 0).0 in absurd (omega arith)
  no_refusal x (counted a k c e) z = record { accepted = a; count = k; is_count = c; is = e }

  -- 10 to 20 are the reader's and the counter's
  pub early : (x : A) → Owes call form x → 0 < call.number x → call.number x < 40
      → Refuses form (call.number x) (call.place x)
  early x (no_form n p j e) l h =
      unread
      (j ∙ λ i. Refused (sym (ap call.number e ∙ (call.tells n p).0) i)
      (sym (ap call.place e ∙ (call.tells n p).1) i))
  early x (no_count a never e) l h =
      uncounted a never (ap call.number e ∙ (call.tells 20 0).0) (ap call.place e ∙ (call.tells 20 0).1)
  early x (counted a k c e) l h =
      absurd
      (⊎_elim (λ z. let n = ap call.number e in omega arith)
      (λ m. let n = ap call.number e in omega (arith, call.late_high _ m)) (call.late_only k))

  -- which numbers the call gives: 0, the reader's 10 to 19, the counter's 20, and the late ones
  pub gives : (x : A) → Owes call form x
      → ((10 ≤ call.number x) × (call.number x ≤ 20)) ⊎ Mem (call.number x) (0 ∷ call.late)
  gives x (no_form n p j e) = inl (omega (arith, reader_gives form n p j, ap call.number e ∙ (call.tells n p).0))
  gives x (no_count a never e) = inl (omega (arith, ap call.number e ∙ (call.tells 20 0).0))
  gives x (counted a k c e) =
      inr (subst (λ (n : ℕ). Mem n (0 ∷ call.late)) (sym (ap call.number e)) (call.late_only k))

  pub early_owed : (x : A) → Owes call form x → (n p : ℕ) → Refuses form n p
      → (call.number x ≡ n) × (call.place x ≡ p)
  early_owed x o n p r =
      let e =
      owed_once form call.refused call.with x (call.refused n p) o
      (refusal_owed form call.refused call.with n p r) in
      (ap call.number e ∙ (call.tells n p).0, ap call.place e ∙ (call.tells n p).1)

-- so two calls refuse alike below 40
pub same_early : {A B : Type 0} (form : List ℕ) (one : Call A) (two : Call B) (x : A) (y : B) → Owes one form x
    → Owes two form y → 0 < one.number x → one.number x < 40
    → (two.number y ≡ one.number x) × (two.place y ≡ one.place x)
same_early form one two x y o q l h = early_owed form two y q (one.number x) (one.place x) (early form one x o l h)
