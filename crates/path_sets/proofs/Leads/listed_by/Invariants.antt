-- `path_sets::Leads::listed_by` meets its contract. The loop's invariant: the rows below b are right, and the word has
-- those with a first below b.
use Rattle.words.specs.Filled.{Told}
use Rattle.path_sets.specs.Parts.{by, ListedAt}
use Rattle.path_sets.proofs.Leads.listed_by.Given as goal

abbrev pub invariant-loop-b : goal.invariant-loop-b
invariant-loop-b l =
    Told 0 (ListedAt l.self (by l.way l.local.denied) (by l.way l.local.jumping) (by l.way l.local.falling)) 64 l.b l.r
    × ListedAt l.self (by l.way l.local.denied) (by l.way l.local.jumping) (by l.way l.local.falling) l.b l.all
