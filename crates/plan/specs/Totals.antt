-- The numbers that both ways answer: each from the count and the weights. Rests on theory's Route (the bound).
use Rattle.std.specs.Prelude.{ℕ}
use Rattle.theory.specs.Route.{bound_of}
use Rattle.plan.specs.declared.Totals.{Totals}

abbrev pub totals_of : (iterations weight least : ℕ) → Totals
totals_of iterations weight least = record {
  iterations = iterations;
  weight = weight;
  bound = bound_of iterations weight;
  least = least;
  least_total = bound_of iterations least;
}
