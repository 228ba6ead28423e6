-- `rows::build` meets its contract.
use mathlib.Core.Path.{◌≡◌, ap, subst}
use Prim.Native.Nat.{ℕ, ◌+◌, ◌^◌, ◌<◌}
use native.Mathlib.Omega.{arith}
use Rattle.std.specs.Prelude.{List, [], get_or, length}
use Rattle.std.proofs.Common.{Bor}
use Rattle.plan_words.specs.declared.Exit.{Exit}
use Rattle.plan_words.specs.declared.Exit.TheVariants.{End}
use Rattle.laws.specs.Terms.{Choice, heaviest, lightest, chosen}
use Rattle.theory.specs.Plan.{IsWay}
use Rattle.entries.specs.declared.Entry.{Entry}
use Rattle.entries.specs.Entries.{entry_at}
use Rattle.rows.specs.Steps.{IsStep}
use Rattle.rows.specs.Rows.{source_of, tails_of, tails_by, filling_same, filling_end, grown_past, light_in, at_next, at_over, at_last, ways_end, way_next, way_over}
use Rattle.rows.proofs.Ways.{ways, way_code, way_own}
use Rattle.rows.proofs.build.Goals as goal
use Rattle.rows.proofs.build.Goals.{After-of-step}

-- what this way is, and its step
way-is : (c : After-of-step) → IsWay (c.ways.way-index + 1)
way-is c = (omega arith, omega (arith, c.ways-test.true))

step-is : (c : After-of-step) → IsStep c.args.plan.now c.args.b (c.ways.way-index + 1) c.of-step.result
step-is c = subst (λ (way : ℕ). IsStep c.args.plan.now c.args.b way c.of-step.result)
    (way_code _ _ _ c.ways.way-index c.ways-test.true) c.of-step.ensures

-- its tails
abbrev none : Exit × Bor (List Entry)
none = (End, record { ref_ptr = (0, 0); now = [] })

abbrev tails-in : After-of-step → List Entry
tails-in c = (get_or (ways c.args.jumps c.args.falls none) c.ways.way-index none).1.now

tails-is : (c : After-of-step) → tails-in c ≡ source_of c.args.jumps.now c.args.falls.now (c.ways.way-index + 1)
tails-is c = way_own c.args.jumps c.args.falls none (λ r. r.now) c.ways.way-index c.ways-test.true

-- the weights of one of them with the step's cost fit
fits : (c : After-of-step) (choice : Choice) (i : ℕ) → i < length (tails-in c)
    → c.of-step.result.cost + (chosen choice (entry_at (tails-in c) i).1).0 < 2 ^ 64
fits c =
    let a = c.args in
    light_in a.plan.now a.b a.jumps.now a.falls.now c.requires.ready _ c.of-step.result (step-is c) (tails-in c) (tails-is c)

pub add_tail-held-requires-clause-heaviest_fits : goal.add_tail-held-requires-clause-heaviest_fits
add_tail-held-requires-clause-heaviest_fits c =
    fits (goal.at.add_tail-held-requires-clause-heaviest_fits c).After-of-step heaviest c.loop-tail.tail-index
    c.loop-tail-test.true

pub add_tail-held-requires-clause-lightest_fits : goal.add_tail-held-requires-clause-lightest_fits
add_tail-held-requires-clause-lightest_fits c =
    fits (goal.at.add_tail-held-requires-clause-lightest_fits c).After-of-step lightest c.loop-tail.tail-index
    c.loop-tail-test.true

pub loop-tail-preserved : goal.loop-tail-preserved
loop-tail-preserved c =
    let step = c.of-step.result in
    at_next step.jumps step.falls step.cost _ _ _ _ c.loop-tail.row c.loop-tail.held c.loop-tail.tail-index
    c.loop-tail.invariant c.loop-tail-test.true c.add_tail-held.new.row c.add_tail-held.result c.add_tail-held.ensures
    c.add_tail-held.array_long c.if-held-gt64.false

pub ways-preserved : goal.ways-preserved
ways-preserved c =
    let at = (goal.at.ways-preserved c).After-of-step in
    let a = c.args in
    let step = c.of-step.result in
    let f = c.loop-tail.invariant in
    way_next a.plan.now a.b (tails_by a.jumps.now a.falls.now) (c.ways.way-index + 1) step (step-is at)
    (tails_of (tails-in at)) (ap tails_of (tails-is at)) (way-is at) _ _ c.ways.row c.ways.held c.ways.invariant
    c.loop-tail.row c.loop-tail.held
    (at_last step.jumps step.falls step.cost (tails-in at) (length (tails-in at)) _ _ c.loop-tail.row c.loop-tail.held
    c.loop-tail.tail-index c.loop-tail-test.false f) f.size f.few

pub returns-after-ways : goal.returns-after-ways
returns-after-ways c =
    let a = c.args in
    filling_end _ _ _ _ (filling_same _ (λ r. r) _ _ _ _ c.ways.invariant
    (ways_end a.plan.now a.b (tails_by a.jumps.now a.falls.now) (c.ways.way-index + 1)
    (omega (arith, c.ways-test.false)) (omega (arith, c.ways.auto.way-index-end))))

pub returns-then-held-gt64 : goal.returns-then-held-gt64
returns-then-held-gt64 c =
    let at = (goal.at.returns-then-held-gt64 c).After-of-step in
    let a = c.args in
    let step = c.of-step.result in
    grown_past _ _ _ c.add_tail-held.result c.told-row c.add_tail-held.array_long c.add_tail-held.ensures.most
    c.if-held-gt64.true
    (way_over a.plan.now a.b (tails_by a.jumps.now a.falls.now) (c.ways.way-index + 1) step (step-is at)
    (tails_of (tails-in at)) (ap tails_of (tails-is at)) (way-is at) _ _ c.ways.row c.ways.held c.ways.invariant
    (at_over step.jumps step.falls step.cost (tails-in at) (length (tails-in at)) _ _ c.loop-tail.row c.loop-tail.held
    c.loop-tail.tail-index c.loop-tail.invariant c.loop-tail-test.true c.add_tail-held.new.row c.add_tail-held.result
    c.add_tail-held.ensures c.if-held-gt64.true))
