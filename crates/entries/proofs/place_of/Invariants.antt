-- `entries::place_of` meets its contract. The loop's invariant: every entry passed has a lower key.
use Rattle.entries.specs.Entries.{Lower}
use Rattle.entries.specs.Structs.{key_of}
use Rattle.entries.proofs.place_of.Given as goal

abbrev pub invariant-loop-p : goal.invariant-loop-p
invariant-loop-p l = Lower l.row (key_of l.key) l.p
