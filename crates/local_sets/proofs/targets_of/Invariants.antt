-- `local_sets::targets_of` meets its contract. The loop's invariant: the places below b have their blocks' targets, the
-- others 64.
use Rattle.std.proofs.Common.{◌≡◌}
use Rattle.words.specs.Filled.{Filling}
use Rattle.form.specs.Conflict.{exits, way_to}
use Rattle.local_sets.proofs.targets_of.Given as goal

abbrev pub invariant-loop-b : goal.invariant-loop-b
invariant-loop-b l = record {
  jumps : Filling 64 (λ b x. x ≡ way_to 1 (exits l.body b)) 64 l.b l.targets.jump;
  falls : Filling 64 (λ b x. x ≡ way_to 2 (exits l.body b)) 64 l.b l.targets.fall;
}
