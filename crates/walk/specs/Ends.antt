-- The ends of the full walk: from what is found to what is owed, how large the weights are, and what a start owes.
-- Rests on Answer, search's Terms, plan's Prepared and theory's words, Range and Best.
use Rattle.std.specs.Prelude.{◌≡◌, refl, Bool, true, false, cond, List, ◌++◌, ℕ, ◌*◌, ◌<◌, ◌≤◌, ltb, length, drop, Some, None}
use Rattle.std.proofs.Math.Path.{sym}
use Rattle.std.proofs.Common.{ap, ◌∙◌, arith, le-ltb, lt-ltb}
use Rattle.std.proofs.Math.Option.{Option, none, some}
use Rattle.laws.specs.Terms.{Choice, heaviest, lightest, preferred}
use Rattle.laws.specs.Tests.{clash}
use Rattle.form.specs.declared.Body.{Body}
use Rattle.form.specs.Form.{body_of}
use Rattle.form.specs.Conflict.{Sound}
use Rattle.roundtrip.specs.Sound.{sound}
use Rattle.theory.specs.Route.{Path, Side, step_cost, route_on, bound_of, route_bytes, walked}
use Rattle.theory.specs.Walk.{within}
use Rattle.theory.specs.SweepWords.{Words, words_of, words_found}
use Rattle.theory.specs.WalkWords.{bytes_words}
use Rattle.theory.specs.Best.{best_leads}
use Rattle.theory.specs.Range.{weight_most}
use Rattle.theory.specs.Plan.{sides_by, cost_limit, PlanOf}
use Rattle.plan.specs.Owed.{Values, answered}
use Rattle.plan.specs.Prepared.{Start, start_owed, start_plan}
use Rattle.plan.specs.RouteWords.{bytes_of}
use Rattle.walk.specs.Answer.{Outcome, refused, walk_outcome, WalkOwed}
use Rattle.search.specs.declared.Best.{Best}
use Rattle.search.specs.declared.Found.{Found}
use Rattle.search.specs.Terms.{way_in, kept_in, so_far, tallied, Searched}

-- ---- the answer with routes

-- the values, with count times each weight
abbrev pub routed_answer : (count : ℕ) → Found → Best → Values
routed_answer count found best =
    answered count best.heaviest.weight (bound_of count best.heaviest.weight) best.lightest.weight
    (bound_of count best.lightest.weight) found.walked

-- both routes' bytes of n blocks, before what was lent past them
abbrev pub both_bytes : ℕ → Best → List ℕ → List ℕ
both_bytes n best lent =
    bytes_of n best.heaviest.jumped best.heaviest.fallen
    ++ (bytes_of n best.lightest.jumped best.lightest.fallen ++ drop (2 * n) lent)

-- ---- what is found

same_end : {A : Type 0} (x y : Bool) (a b : A) → ◌≡◌ {A = Option A} (cond x none (some a)) (cond y none (some b))
    → (x ≡ y) × (x ≡ false → a ≡ b)
same_end true true a b e = (refl, λ f. clash refl f)
same_end true false a b e = let z : ◌≡◌ {A = ℕ} 0 1 = cc in absurd (omega arith)
same_end false true a b e = let z : ◌≡◌ {A = ℕ} 0 1 = cc in absurd (omega arith)
same_end false false a b e = (refl, λ f. cc)

module _ (body : Body) where
  -- what is kept tells whether there is a route
  no_route : (o : Option (ℕ × Path)) → none ≡ words_found body o → o ≡ none
  no_route none e = refl
  no_route (some v) e = absurd (cc)

  a_route : (u : Words) (o : Option (ℕ × Path)) → some u ≡ words_found body o
      → (v : ℕ × Path) × (o ≡ some v) × (u ≡ words_of body v)
  a_route u none e = absurd (cc)
  a_route u (some v) e = (v, refl, cc)

module _ (body : Body) (cost : ℕ → ℕ → ℕ) (budget : ℕ) (found : Found)
    (h : (choice : Choice) → tallied choice budget found
    ≡ within budget (walked body) (words_found body (route_on body (sides_by cost choice)))) where
  ends : (choice : Choice) → (ltb budget found.walked ≡ ltb budget (walked body))
      × (ltb budget found.walked ≡ false
      → so_far choice found ≡ (walked body, words_found body (route_on body (sides_by cost choice))))
  ends choice = same_end (ltb budget found.walked) (ltb budget (walked body)) _ _ (h choice)

  kept : ltb budget found.walked ≡ false → (choice : Choice)
      → kept_in choice found.best ≡ words_found body (route_on body (sides_by cost choice))
  kept f choice = ap (λ (x : ℕ × Option Words). x.1) ((ends choice).1 f)

  none_found : ltb budget found.walked ≡ false → found.best ≡ None → route_on body (sides_by cost heaviest) ≡ none
  none_found f e =
      no_route body (route_on body (sides_by cost heaviest)) (ap (kept_in heaviest) (sym e) ∙ kept f heaviest)

  -- where routes are kept, each choice has its route, in its words
  one_found : ltb budget found.walked ≡ false → (best : Best) → found.best ≡ Some best → (choice : Choice)
      → (v : ℕ × Path) × (route_on body (sides_by cost choice) ≡ some v) × (way_in choice best ≡ words_of body v)
  one_found f best e choice =
      a_route body (way_in choice best) (route_on body (sides_by cost choice))
      (ap (kept_in choice) (sym e) ∙ kept f choice)

  -- ---- what is owed; n is the number of blocks

  module _ (n : ℕ) (size : body.count ≡ n) (lent : List ℕ) (room : 2 * n ≤ length lent) (count : ℕ) where
    enough : ltb (length lent) (2 * body.count) ≡ false
    enough = le-ltb (length lent) (2 * body.count) (omega arith)

    pub over_budget : budget < found.walked
        → refused lent 41 budget ≡ walk_outcome body (sides_by cost) budget lent count
    over_budget l = rw (enough, sym (ends heaviest).0 ∙ lt-ltb budget found.walked l)

    pub without_route : found.walked ≤ budget → found.best ≡ None
        → refused lent 43 0 ≡ walk_outcome body (sides_by cost) budget lent count
    without_route l e =
        let f = le-ltb budget found.walked l in
        rw (enough, sym (ends heaviest).0 ∙ f, none_found f e)

    -- the bytes of a route, from its words
    bytes_are : Sound body → (choice : Choice) (v : ℕ × Path) → route_on body (sides_by cost choice) ≡ some v
        → {u : Words} → u ≡ words_of body v → bytes_of n u.1.0 u.1.1 ≡ route_bytes body v.1
    unfolding bytes_of
    bytes_are g choice v e w =
        (λ i. bytes_of (sym size i) (w i).1.0 (w i).1.1)
        ∙ sym (bytes_words body g.onward v.1 (best_leads body cost (preferred choice) v e).0)

    pub with_route : Sound body → found.walked ≤ budget → (best : Best) → found.best ≡ Some best → (held : List ℕ)
        → held ≡ both_bytes n best lent
        → ◌≡◌ {A = Outcome} (routed_answer count found best, held) (walk_outcome body (sides_by cost) budget lent count)
    with_route g l best is held h =
        let f = le-ltb budget found.walked l in
        let (v, e, w) = one_found f best is heaviest in
        let (u, d, x) = one_found f best is lightest in
        let heavy = bytes_are g heaviest v e w in
        let light = bytes_are g lightest u d x in
        rw (enough, sym (ends heaviest).0 ∙ f, e, d)
        (λ i. (
          answered count (w i).0 (bound_of count (w i).0) (x i).0 (bound_of count (x i).0) ((ends heaviest).1 f i).0,
          (h ∙ λ j. heavy j ++ (light j ++ drop (2 * sym size j) lent)) i,
        ))

pub short : (body : Body) (sides : Choice → Side) (n : ℕ) → body.count ≡ n → (budget : ℕ) (lent : List ℕ) (count : ℕ)
    → length lent < 2 * n → refused lent 42 (2 * n) ≡ walk_outcome body sides budget lent count
short body sides n size budget lent count l =
    ap (λ (m : ℕ). refused lent 42 (2 * m)) (sym size)
    ∙ rw (lt-ltb (length lent) (2 * body.count) (omega arith))

-- no route weighs more than all blocks may
pub weight_few : (choice : Choice) (plan : List ℕ) (count budget : ℕ) (found : Found) → PlanOf plan count
    → ((choice : Choice) → Searched choice plan count budget found) → found.walked ≤ budget
    → (best : Best) → found.best ≡ Some best → (way_in choice best).0 ≤ cost_limit
weight_few choice plan count budget found p s l best is =
    let (v, e, w) = one_found p.body p.cost budget found
    (λ choice. s choice p.body p.cost p.planned p.sound p.size) (le-ltb budget found.walked l) best is choice in
    let (leads, same) = best_leads p.body p.cost (preferred choice) v e in
    let most = weight_most p.body p.sound.onward p.cost p.range.most p.range.each 0 v.1
    p.sound.some leads in
    omega (arith, ap (λ (u : Words). u.0) w, p.range.all)

-- ---- with the start

-- the search is lent the budget as a word
module _ (form : List ℕ) (budget word : ℕ) (lent : List ℕ) {count iterations : ℕ} {plan : List ℕ}
    (s : Start form count iterations plan) where
  abbrev body : Body
  body = body_of form

  abbrev cost : ℕ → ℕ → ℕ
  cost = step_cost body

  owes : word ≡ budget → (x : Outcome) → x ≡ walk_outcome body (sides_by cost) word lent iterations
      → WalkOwed form budget lent x
  owes same x e =
      start_owed form count iterations plan s (refused lent) (walk_outcome body (sides_by cost) budget lent) x
      (e ∙ ap (λ (b : ℕ). walk_outcome body (sides_by cost) b lent iterations) same)

  pub short_owed : word ≡ budget → length lent < 2 * count → WalkOwed form budget lent (refused lent 42 (2 * count))
  short_owed same l = owes same _ (short body (sides_by cost) count s.size word lent iterations l)

  module _ (same : word ≡ budget) (room : 2 * count ≤ length lent) (found : Found)
      (searched : (choice : Choice) → Searched choice plan count word found) where
    of_body : (choice : Choice) → tallied choice word found
        ≡ within word (walked body) (words_found body (route_on body (sides_by cost choice)))
    of_body choice = searched choice body cost s.planned (sound form s.accepted) s.size

    pub over_owed : word < found.walked → WalkOwed form budget lent (refused lent 41 word)
    over_owed l = owes same _ (over_budget body cost word found of_body count s.size lent room iterations l)

    pub none_owed : found.walked ≤ word → found.best ≡ None → WalkOwed form budget lent (refused lent 43 0)
    none_owed l is = owes same _ (without_route body cost word found of_body count s.size lent room iterations l is)

    pub routes_owed : found.walked ≤ word → (best : Best) → found.best ≡ Some best → (held : List ℕ)
        → held ≡ both_bytes count best lent → WalkOwed form budget lent (routed_answer iterations found best, held)
    routes_owed l best is held h =
        owes same _ (with_route body cost word found of_body count s.size lent room iterations (sound form s.accepted) l
        best is held h)

    -- the weight of a choice keeps to the limit
    pub light : found.walked ≤ word → (best : Best) → found.best ≡ Some best → (choice : Choice)
        → (way_in choice best).0 ≤ cost_limit
    light l best is choice =
        weight_few choice plan count word found (start_plan form count iterations plan s) searched l best is
