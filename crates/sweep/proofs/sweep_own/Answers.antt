-- `sweep_own`: its table is 1,024 zero entries. Rests on sweep_steps' Answer.
use Rattle.std.proofs.Common.{rules, ◌≡◌, List, subst, ap, replicate}
use Rattle.entries.specs.declared.Entry.{Entry}
use Rattle.sweep_steps.specs.Answer.{no_entry, outcome_of, SweepOwed}
use Rattle.sweep.proofs.sweep_own.Goals as goal
use Rattle.sweep.proofs.sweep_own.Goals.{After-default-table}

none : (c : After-default-table) → c.default-table.result ≡ no_entry
none c = search rules

pub returns : goal.returns
returns c = (
  c.sweep.new.table,
  subst (λ (l : List Entry). SweepOwed c.args.form.now c.args.route.now l
      (outcome_of c.sweep.result c.sweep.new.route c.sweep.new.table))
      (ap (replicate 1024) (none (goal.at.returns c).After-default-table)) c.sweep.ensures,
)
