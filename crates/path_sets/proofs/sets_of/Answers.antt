-- `path_sets::sets_of` meets its contract. What the called functions say of one another is put together by `sets_are`.
use Rattle.path_sets.specs.Finding.{sets_are}
use Rattle.path_sets.proofs.sets_of.Goals as goal

pub returns : goal.returns
returns c = λ body sound is. sets_are body sound _ _ is _ c.leads_of-leads.ensures c.sets_of.ensures
