-- `Walk::visit` meets its contract. A turn is the theory's turn (Laws, `walks`): the block is counted, then each of its
-- two ways is taken where it is open.
use mathlib.Core.Path.{◌≡◌, refl, ap, subst, ◌∙◌}
use mathlib.Core.Bool.{true, false}
use Prim.Native.Nat.{ℕ, ◌+◌, ◌-◌, ◌<◌}
use native.Mathlib.Numerals.{add-one}
use native.Mathlib.Omega.{arith}
use borrow.Author.Tests.{eq-eqb, ne_eqb}
use Rattle.laws.specs.Terms.{Choice, preferred}
use Rattle.theory.specs.Row.{Key}
use Rattle.theory.specs.Walk.{keep_first}
use Rattle.theory.specs.Plan.{cost_at}
use Rattle.theory.specs.PlanWays.{by_jump, by_fall}
use Rattle.search.specs.declared.Found.{Found}
use Rattle.search.specs.Terms.{banned_at, left_at, kept_in, so_far, tallied, counting, Took}
use Rattle.search.specs.Terms.Took.{stays}
use Rattle.search.specs.Laws.{jump_edge, fall_edge, walks, walks_last, opened, shut, took_goes}
use Rattle.search.specs.Laws.{visit_is, costs_few, onward}
use Rattle.search.proofs.Walk.+visit.Goals as goal
use Rattle.search.proofs.Walk.+visit.Goals.{in-Some, in_default, Else-b-self, Joined-target}

-- ---- the block

-- counted, with what is kept so far
abbrev counted : Found → Found
counted found = record { walked = found.walked + 1; best = found.best }

pub overflow_add-weight : goal.overflow_add-weight
overflow_add-weight t c = let few = costs_few c.requires 0 in record { fits = omega (arith, few.2) }

-- the last block
pub returns-then-b-self : goal.returns-then-b-self
returns-then-b-self t c choice =
    let a = c.args in
    let w = a.self.now in
    let last = c.if-b-self.true in
    walks_last choice w.plan.now w.count w.budget a.b last (banned_at a.banned) (a.weight, left_at a.left) a.found.now
    c.keep.new.self
    (visit_is choice (cost_at w.plan.now) w.count w.budget a.b (a.weight, left_at a.left) a.found.now c.keep.new.self
    true (rw (← add-one a.b) (eq-eqb (a.b + 1) w.count last)) c.keep.ensures.count
    (c.keep.ensures.best choice
    ∙ ap (λ (k : ℕ). keep_first (preferred choice) (kept_in choice a.found.now.best) (a.weight + k, left_at a.left))
    c.cost.ensures))

-- another
visited : (choice : Choice) {t : ℕ} (c : Else-b-self t) → let a = c.args in
    tallied choice a.self.now.budget (counted a.found.now)
    ≡ counting choice (cost_at a.self.now.plan.now) a.self.now.count a.self.now.budget (so_far choice a.found.now)
    (a.b, (a.weight, left_at a.left))
visited choice c =
    let a = c.args in
    let w = a.self.now in
    visit_is choice (cost_at w.plan.now) w.count w.budget a.b (a.weight, left_at a.left) a.found.now
    (counted a.found.now) false (rw (← add-one a.b) (ne_eqb (a.b + 1) w.count c.if-b-self.false)) refl refl

-- ---- the jump

pub overflow_add-weight-in-Some : goal.overflow_add-weight-in-Some
overflow_add-weight-in-Some t c = let few = costs_few c.requires 1 in record { fits = omega (arith, few.2) }

pub visit-requires : goal.visit-requires
visit-requires t c =
    let a = c.args in
    let w = a.self.now in
    let here : Key = banned_at c.entered-here.result in
    let on = opened w.plan.now a.b 1 here (a.found.now.walked + 1) w.budget (jump_edge here a.b) c.in-Some.ensures in
    let next = onward c.requires 1 by_jump c.in-Some.target on.1 here (a.found.now.walked + 1) on.0
    (a.weight + c.cost-in-Some.result) (ap (λ (x : ℕ). a.weight + x) c.cost-in-Some.ensures) in
    (subst (λ (j : ℕ). w.count - c.in-Some.target < j) c.decreases next.0, next.1)

jumped : (choice : Choice) {t : ℕ} (c : Joined-target t) → let a = c.args in
    Took choice a.self.now.plan.now a.self.now.count a.self.now.budget a.b 1 (banned_at c.entered-here.result)
    (a.weight, left_at a.left) (counted a.found.now) c.match-target.found
jumped choice c =
    let a = c.args in
    let w = a.self.now in
    let here : Key = banned_at c.entered-here.result in
    elim c.match-target.branch [
      | in-Some u ↦
          let on = opened w.plan.now a.b 1 here (a.found.now.walked + 1) w.budget (jump_edge here a.b)
          u.in-Some.ensures in
          took_goes on.0 on.1 u.barred-next.ensures (λ i. (a.weight + u.cost-in-Some.ensures i, u.with.ensures i))
          (rw u.found-is (u.visit.ensures choice))
      | in_default u ↦ stays
          (shut w.plan.now a.b 1 here (a.found.now.walked + 1) w.budget (jump_edge here a.b) u.in_default.ensures)
          u.found-is
    ]

-- ---- the fall

pub overflow_add-weight-in-Some-target : goal.overflow_add-weight-in-Some-target
overflow_add-weight-in-Some-target t c = let few = costs_few c.requires 2 in record { fits = omega (arith, few.2) }

pub visit-requires-in-Some-target : goal.visit-requires-in-Some-target
visit-requires-in-Some-target t c =
    let a = c.args in
    let w = a.self.now in
    let here : Key = banned_at c.entered-here.result in
    let second = c.match-target.found in
    let on = opened w.plan.now a.b 2 here second.walked w.budget (fall_edge here a.b) c.in-Some-target.ensures in
    let next = onward c.requires 2 by_fall c.in-Some-target.target on.1 here second.walked on.0
    (a.weight + c.cost-in-Some-target.result) (ap (λ (x : ℕ). a.weight + x) c.cost-in-Some-target.ensures) in
    (subst (λ (j : ℕ). w.count - c.in-Some-target.target < j) c.decreases next.0, next.1)

-- ---- both

pub returns-in-Some-target : goal.returns-in-Some-target
returns-in-Some-target t c choice =
    let a = c.args in
    let w = a.self.now in
    let here : Key = banned_at c.entered-here.result in
    let second = c.match-target.found in
    let on = opened w.plan.now a.b 2 here second.walked w.budget (fall_edge here a.b) c.in-Some-target.ensures in
    walks choice c.requires.inside (banned_at a.banned) here (a.weight, left_at a.left) c.entered-here.ensures
    a.found.now (counted a.found.now) second c.visit-in-Some-target.new.found
    (visited choice (goal.at.returns-in-Some-target t c).Else-b-self)
    (jumped choice (goal.at.returns-in-Some-target t c).Joined-target)
    (took_goes on.0 on.1 c.barred-next-in-Some-target.ensures
    (λ i. (a.weight + c.cost-in-Some-target.ensures i, c.with-in-Some-target.ensures i))
    (c.visit-in-Some-target.ensures choice))

pub returns-in_default-target : goal.returns-in_default-target
returns-in_default-target t c choice =
    let a = c.args in
    let w = a.self.now in
    let here : Key = banned_at c.entered-here.result in
    let second = c.match-target.found in
    walks choice c.requires.inside (banned_at a.banned) here (a.weight, left_at a.left) c.entered-here.ensures
    a.found.now (counted a.found.now) second second
    (visited choice (goal.at.returns-in_default-target t c).Else-b-self)
    (jumped choice (goal.at.returns-in_default-target t c).Joined-target)
    (stays
    (shut w.plan.now a.b 2 here second.walked w.budget (fall_edge here a.b) c.in_default-target.ensures) refl)
