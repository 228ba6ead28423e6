-- `rows::begin` meets its contract.
use mathlib.Core.Path.{◌≡◌, sym, subst, ◌∙◌}
use Rattle.std.proofs.Common.{rules, ap₂}
use Rattle.std.specs.Prelude.{List, ℕ, replicate, set}
use native.Mathlib.Numerals.{add-one}
use Rattle.entries.specs.declared.Entry.{Entry}
use Rattle.theory.specs.Edges.{no_edges}
use Rattle.entries.specs.Structs.{no_entry}
use Rattle.rows.specs.Begun.{zero_row, Holds, begun_with, begun_last, begun_other}
use Rattle.rows.proofs.begin.Goals as goal
use Rattle.rows.proofs.begin.Goals.{After-fill}

-- the last block's entry
abbrev own-entry : ℕ → Entry
own-entry cost = record {
  jumps = 0;
  falls = 0;
  heaviest = record { weight = cost; jumped = 0; fallen = 0 };
  lightest = record { weight = cost; jumped = 0; fallen = 0 };
}

none-is : (c : After-fill) → c.default.result ≡ no_entry
none-is c = search rules

cleared : (c : After-fill) → c.fill.new.self ≡ zero_row
cleared c = c.fill.ensures.after (search rules) ∙ ap₂ replicate c.told-row (none-is c)

pub returns-then-b-count : goal.returns-then-b-count
returns-then-b-count c =
    let a = c.args in
    let row = sym (cleared (goal.at.returns-then-b-count c).After-fill) in
    subst (λ (row : List Entry). Holds (begun_with a.plan.now a.count a.b) (set row 0 (own-entry c.cost.result)) 1) row
    (begun_last a.plan.now a.count a.b (sym (add-one a.b) ∙ c.if-b-count.true) (own-entry c.cost.result)
    (λ i. (no_edges, ((c.cost.ensures i, (0, 0)), (c.cost.ensures i, (0, 0))))))

pub returns : goal.returns
returns c =
    let a = c.args in
    subst (λ (row : List Entry). Holds (begun_with a.plan.now a.count a.b) row 0)
    (sym (cleared (goal.at.returns c).After-fill))
    (begun_other a.plan.now a.count a.b (λ e. c.if-b-count.false (add-one a.b ∙ e)))
