-- `Tests::of` meets its contract. The loop's invariant: the tests below k are sorted by their variables, and the places
-- below k have what their edges ask.
use Rattle.std.proofs.Common.{◌≡◌}
use Rattle.words.specs.Filled.{Told}
use Rattle.words.specs.Sorted.{Sorted}
use Rattle.form.specs.Conflict.{block, is_test}
use Rattle.local_sets.specs.Parts.{asked, nothing}
use Rattle.local_sets.proofs.Tests.of.Given as goal

abbrev pub invariant-loop-k : goal.invariant-loop-k
invariant-loop-k l = record {
  on : Sorted 256 (λ k. (block l.body k).variable) (is_test l.body) l.k l.on;
  edges : Told nothing (λ k x. x ≡ asked (block l.body k)) 64 l.k l.edges;
}
