-- `local_sets::variables_of` meets its contract. The loop's invariant: the places below b have their blocks'
-- variables, the others 0.
use Rattle.std.proofs.Common.{◌≡◌}
use Rattle.words.specs.Filled.{Filling}
use Rattle.form.specs.Conflict.{block}
use Rattle.local_sets.proofs.variables_of.Given as goal

abbrev pub invariant-loop-b : goal.invariant-loop-b
invariant-loop-b l = Filling 0 (λ b x. x ≡ (block l.body b).variable) 64 l.b l.variables
