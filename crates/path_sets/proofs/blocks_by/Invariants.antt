-- `path_sets::blocks_by` meets its contract. The loop's invariant: the blocks below b are in their words.
use Rattle.path_sets.specs.Turning.{Turned}
use Rattle.path_sets.proofs.blocks_by.Given as goal

abbrev pub invariant-loop-b : goal.invariant-loop-b
invariant-loop-b l = Turned l.one l.two l.b l.r
