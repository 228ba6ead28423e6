-- `Tests::conflicts` meets its contract. The loop's invariant: the words have those of the set that are not left.
use Rattle.std.proofs.Common.{get_or}
use Rattle.words.specs.Sorted.{Sifted}
use Rattle.local_sets.specs.Parts.{conflict, nothing}
use Rattle.local_sets.proofs.Tests.conflicts.Given as goal

abbrev pub invariant-loop-k : goal.invariant-loop-k
invariant-loop-k l = record {
  jumps : Sifted (λ k. conflict l.condition (get_or l.self.edges k nothing).jump) l.set l.k-iterator l.jump;
  falls : Sifted (λ k. conflict l.condition (get_or l.self.edges k nothing).fall) l.set l.k-iterator l.fall;
}
