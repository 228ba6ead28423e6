-- What follows from the report's promise: one text for every input (`one_report`), which hangs on the front of the
-- input alone (`any_length`); and where there are ten lines, the walk refuses by 41 alone (`only_over`), and demand 3
-- holds of the printed numbers (`report_holds`). Rests on Report, on what the two ways owe, and on roundtrip's Front.
use Rattle.std.specs.Prelude.{Bool, true, false, cond, List, ◌⊎◌, ◌≡◌, refl, ℕ, ◌≤◌, ltb, length, take, Result, Ok, Err}
use Rattle.std.proofs.Common.{inl, inr, ap, sym, subst, ◌∙◌, arith, ltb-true, lit≤}
use Rattle.std.proofs.Math.Option.{Option, none, some}
use Rattle.laws.specs.Terms.{Choice, heaviest, lightest}
use Rattle.form.specs.declared.Body.{Body}
use Rattle.form.specs.declared.Refusal.{Refusal}
use Rattle.form.specs.Said.{Accepted, Refused as Unread, number_of}
use Rattle.form.specs.Form.{judge, body_of}
use Rattle.roundtrip.specs.Front.{front, front_all}
use Rattle.roundtrip.specs.Sound.{sound}
use Rattle.theory.specs.Route.{Routes, side_of, both_of, routes_on, bound_of, walked}
use Rattle.plan.specs.Owed.{Owed, Values, refusal, bytes_needed}
use Rattle.plan.specs.Owed.Owed.{no_form, no_count, counted}
use Rattle.sweep_steps.specs.declared.Routed.{Routed}
use Rattle.sweep_steps.specs.Answer as sweep
use Rattle.walk.specs.declared.Walked.{Walked}
use Rattle.walk.specs.Answer as walk
use Rattle.entries.specs.declared.Entry.{Entry}
use Rattle.ways.specs.Answered.{sides_of, Answered, Bounds, answered_bounds, Agree, answered_agree}
use Rattle.ways.specs.Walk.{walk_answered, one_walk}
use Rattle.ways.specs.Sweep.{own_answered, one_own}
use Rattle.text.specs.Text.{refusal_line}
use Rattle.lines.specs.Lines.{no_routes, budget}
use Rattle.report.specs.Report.{ten_lines, Reported}
use Rattle.report.specs.Report.Reported.{refused, reported}

-- ---- one text

module _ (form : List ℕ) where
  pub one_report : (t u : List ℕ) → Reported form t → Reported form u → t ≡ u
  one_report t u (refused r route o e) (refused r' route' o' e') =
      let same = (one_own form no_routes (Err r) (Err r') route route' o o').0 in
      let one : r ≡ r' = cc in
      e ∙ ((λ i. refusal_line (number_of (one i).fault) (one i).place) ∙ sym e')
  one_report t u (refused r route o e) (reported s route' o' a held x e') =
      let same = (one_own form no_routes (Err r) (Ok s) route route' o o').0 in
      cc
  one_report t u (reported s route o a held x e) (refused r route' o' e') =
      let same = (one_own form no_routes (Ok s) (Err r) route route' o o').0 in
      cc
  one_report t u (reported s route o a held x e) (reported s' route' o' a' held' x' e') =
      let both = one_own form no_routes (Ok s) (Ok s') route route' o o' in
      let same = both.0 in
      let swept : s ≡ s' = cc in
      let walks : a ≡ a' = (one_walk form budget no_routes a a' held held' x x').0 in
      e
      ∙ ((λ j. ten_lines (body_of form) (swept j).totals.iterations (swept j).totals.weight (swept j).totals.bound
      (swept j).totals.least (swept j).kept (both.1 j) (walks j))
      ∙ sym e')

-- ---- the front of the input

module _ (s : List ℕ) (n : ℕ) (h : 3682 ≤ n) where
  -- an accepted form is no longer than what is read of it
  whole : judge (take n s) ≡ Accepted → take n s ≡ s
  whole a = front_all s n (omega arith) (sym (front n s h) ∙ a)

  owed_front : {A : Type 0} (refuse : ℕ → ℕ → A) (with : Body → ℕ → A) (x : A)
      → Owed (take n s) refuse (with (body_of (take n s))) x → Owed s refuse (with (body_of s)) x
  owed_front refuse with x (no_form number place j e) = no_form number place (sym (front n s h) ∙ j) e
  owed_front refuse with x (no_count a never e) =
      subst (λ (t : List ℕ). Owed t refuse (with (body_of t)) x) (whole a) (no_count a never e)
  owed_front refuse with x (counted a k c e) =
      subst (λ (t : List ℕ). Owed t refuse (with (body_of t)) x) (whole a) (counted a k c e)

  sweep_front : (lent : List ℕ) (table : List Entry) (x : sweep.Outcome) → sweep.SweepOwed (take n s) lent table x
      → sweep.SweepOwed s lent table x
  sweep_front lent table =
      owed_front (sweep.refused lent table) (λ body. sweep.sweep_outcome body (side_of body) lent table)

  pub any_length : (t : List ℕ) → Reported (take n s) t → Reported s t
  any_length t (refused r route (table, o) e) =
      refused r route (table, sweep_front no_routes sweep.own_table (sweep.outcome_of (Err r) route table) o) e
  any_length t (reported swept route o a held x e) =
      subst (λ (f : List ℕ). Reported f t) (whole (own_answered (take n s) no_routes (Ok swept) route o refl).accepted)
      (reported swept route o a held x e)

-- ---- over

module _ (form : List ℕ) (a : judge form ≡ Accepted) (v : Routes) where
  -- the tests: too few bytes, over the budget; then there are routes
  by_walk : (lent : List ℕ) (most k number place : ℕ) → 1 ≤ k → 128 ≤ length lent → (held : List ℕ) (short over : Bool)
      → ltb (length lent) (bytes_needed (body_of form)) ≡ short
      → (o : Option Routes) → o ≡ some v
      → (refusal number place, held)
      ≡ cond short (walk.refused lent 42 (bytes_needed (body_of form)))
      (cond over (walk.refused lent 41 most) (walk.routed (body_of form) lent k o))
      → (number ≡ 41) × (place ≡ most)
  by_walk lent most k number place l room held true over f o q e =
      let z : ⊥ = omega (arith, ltb-true (length lent) (bytes_needed (body_of form)) f, (sound form a).few) in absurd z
  by_walk lent most k number place l room held false true f o q e =
      (ap (λ (x : walk.Outcome). x.0.number) e, ap (λ (x : walk.Outcome). x.0.place) e)
  by_walk lent most k number place l room held false false f none q e = let z : ◌≡◌ {A = ℕ} 0 1 =
      nothing q in absurd (omega arith)
    where
      nothing : {u : Routes} → none ≡ some u → ◌≡◌ {A = ℕ} 0 1
      nothing q = cc
  by_walk lent most k number place l room held false false f (some u) q e =
      let z : 0 ≡ k = ap (λ (x : walk.Outcome). x.0.iterations) e in absurd (omega arith)

-- where the sweep answers, a walk's refusal is 41 with the budget
pub only_over : (form : List ℕ) (most : ℕ) (answer : Result Routed Refusal) (routes : List ℕ)
    → sweep.OwnTableOwed form no_routes answer routes → (sweep.said answer).number ≡ 0
    → (number place : ℕ) (held : List ℕ) → walk.WalkOwed form most no_routes (refusal number place, held)
    → (number ≡ 41) × (place ≡ most)
only_over form most answer routes o none_refused number place held owed =
    cases (own_answered form no_routes answer routes o none_refused) owed
  where
    cases : Answered form no_routes (sweep.said answer) routes
        → walk.WalkOwed form most no_routes (refusal number place, held) → (number ≡ 41) × (place ≡ most)
    cases s (no_form m q j e) = let z : ◌≡◌ {A = ℕ} 0 1 = unlike (sym s.accepted ∙ j) in absurd (omega arith)
      where
        unlike : {m q : ℕ} → Accepted ≡ Unread m q → ◌≡◌ {A = ℕ} 0 1
        unlike e = cc
    cases s (no_count a never e) = absurd (never (sweep.said answer).iterations s.counts)
    cases s (counted a c count e) =
        by_walk form a s.routes no_routes most c number place count.enough (lit≤ tt) held
        (ltb (length no_routes) (bytes_needed (body_of form))) (ltb most (walked (body_of form))) refl
        (routes_on (body_of form) (sides_of form))
        (λ i. both_of (s.best heaviest i) (s.best lightest i)) e

-- ---- demand 3 for the numbers that are printed

-- no run of at most the printed count of iterations costs more than the printed bound, and no whole run of just the
-- count less than the count times the printed least weight; and a walk that is not over has found the printed routes
pub record Holds (form text : List ℕ) : Type 0 where
  pub answer : Values
  pub routes : List ℕ
  pub walks : Result Walked Refusal
  pub held : List ℕ
  pub owed : walk.WalkOwed form budget no_routes (walk.said walks, held)
  pub printed : text ≡ ten_lines (body_of form) answer.iterations answer.weight answer.bound answer.least
      answer.kept_or_walked routes walks
  pub bounds : Bounds form answer
  pub total_is : answer.least_total ≡ bound_of answer.iterations answer.least
  pub agrees : (walk.said walks).number ≡ 0 → (choice : Choice)
      → Agree choice form (walk.said walks) answer held routes

pub report_holds : (form text : List ℕ) → Reported form text
    → ((number : ℕ) × (place : ℕ) × (text ≡ refusal_line number place)) ⊎ Holds form text
report_holds form text (refused r route o e) = inl (number_of r.fault, r.place, e)
report_holds form text (reported swept routes o a held x e) =
    let answer = sweep.said (Ok swept) in
    let owed = own_answered form no_routes (Ok swept) routes o refl in
    inr (record {
      answer = answer;
      routes = routes;
      walks = a;
      held = held;
      owed = x;
      printed = e;
      bounds = answered_bounds form no_routes answer routes owed;
      total_is = owed.total_is lightest;
      agrees = λ z choice. answered_agree choice form no_routes no_routes (walk.said a) answer held routes
          (walk_answered form budget no_routes (walk.said a, held) x z) owed;
    })
