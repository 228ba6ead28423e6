-- `Banned::barred` meets its contract.
use mathlib.Core.Path.{ap, ◌∙◌}
use mathlib.Core.Bool.{◌||◌}
use Prim.Native.Nat.{ℕ}
use Rattle.laws.specs.Terms.{bit}
use Rattle.theory.specs.Plan.{against_at}
use Rattle.plan_words.specs.Exits.{code}
use Rattle.search.specs.Terms.{banned_at}
use Rattle.search.specs.Laws.{by_sides}
use Rattle.search.proofs.Banned.barred.Goals as goal

pub returns : goal.returns
returns c =
    let at = banned_at c.args.self in
    record {
      edges = by_sides at (c.either.result, c.either-2.result)
          (λ k side x. x || bit (against_at c.args.plan.now c.args.b (code c.args.exit) side) k)
          (λ k. c.either.ensures k
          ∙ ap (λ (w : ℕ). bit at.0 k || bit w k) c.against.ensures)
          (λ k. c.either-2.ensures k ∙ ap (λ (w : ℕ). bit at.1 k || bit w k) c.against-2.ensures);
      small_jumps = c.either.type_inv;
      small_falls = c.either-2.type_inv;
    }
