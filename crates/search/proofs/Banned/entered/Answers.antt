-- `Banned::entered` meets its contract.
use mathlib.Core.Path.{ap₂, ◌∙◌}
use mathlib.Core.Bool.{◌&&◌, ◌||◌, not}
use Prim.Native.Nat.{ℕ}
use Rattle.laws.specs.Terms.{bit}
use Rattle.theory.specs.Plan.{touched_at, denied_at}
use Rattle.search.specs.Terms.{banned_at}
use Rattle.search.specs.Laws.{by_sides}
use Rattle.search.proofs.Banned.entered.Goals as goal

pub returns : goal.returns
returns c =
    let at = banned_at c.args.self in
    let touched = c.touched-touched.ensures in
    by_sides at (c.renewed.result, c.renewed-2.result)
    (λ k side x. x && not (bit (touched_at c.args.plan.now c.args.b) k)
    || bit (denied_at c.args.plan.now c.args.b side) k)
    (λ k. c.renewed.ensures k
    ∙ ap₂ (λ (t d : ℕ). bit at.0 k && not (bit t k) || bit d k) touched c.denied.ensures)
    (λ k. c.renewed-2.ensures k
    ∙ ap₂ (λ (t d : ℕ). bit at.1 k && not (bit t k) || bit d k) touched c.denied-2.ensures)
