-- `Tests::hits` meets its contract. The loop's invariant: the hits are those of the effects so far.
use Rattle.std.proofs.Common.{take}
use Rattle.local_sets.specs.Parts.{HitsFrom}
use Rattle.local_sets.proofs.Tests.hits.Given as goal

abbrev pub invariant-loop-effect : goal.invariant-loop-effect
invariant-loop-effect l = HitsFrom l.self (take l.effect-index l.effects) l.hits
