-- `report::report` meets its contract: the ten lines where the sweep answers, else its refusal (Parts). Assumes
-- nothing.
use Rattle.std.proofs.Common.{◌≤◌, ap, arith, rules}
use Rattle.lent.specs.declared.Filled.{Filled}
use Rattle.lent.specs.Filled.{then}
use Rattle.report.specs.Parts.{parted, accepted_by, routed_reported, refused_reported}
use Rattle.report.proofs.report.Goals as goal
use Rattle.report.proofs.report.Goals.{in-Ok, in-Err}

pub returns : goal.returns
returns c =
    let form = c.args.form.now in
    let out = c.args.out.now in
    let routes = c.sweep_own.new.route in
    let end = c.match-sweep_own.text.end in
    elim c.match-sweep_own.branch [
      | in-Ok w ↦
          let n = w.blocks-n.result in
          let accepted = accepted_by form routes w.in-Ok.swept w.in-Ok.ensures in
          let parts = parted routes n in
          let last = rw (w.split_at.ensures.front, w.split_at.ensures.back, parts.0, parts.1) at w.last_five.ensures in
          let adds = rw (← w.text-is) at (then (w.first_five.ensures.grows accepted) last.grows) in
          let few : end ≤ 3200 =
          omega (arith, w.first_five.ensures.few, last.few, ap (λ (x : Filled). x.end) w.text-is) in (
            routed_reported form out _ end n routes w.in-Ok.swept last.walk last.held w.in-Ok.ensures
                (w.blocks-n.ensures.0 accepted) last.owed (search rules) (omega arith),
            few,
          )
      | in-Err w ↦
          let adds = rw (← w.text-is) at w.refused.ensures.grows in (
            refused_reported form out _ end routes w.in-Err.refusal w.in-Err.ensures (search rules) (omega arith),
            omega arith,
          )
    ]
