-- `path_sets::leads_of` meets its contract. The loop's invariant: the blocks from b on are done.
use Rattle.path_sets.specs.Leading.{Leading}
use Rattle.path_sets.proofs.leads_of.Given as goal

abbrev pub invariant-loop-b : goal.invariant-loop-b
invariant-loop-b l = Leading l.to.jump l.to.fall l.touched l.b l.clean l.jump l.fall l.ahead
