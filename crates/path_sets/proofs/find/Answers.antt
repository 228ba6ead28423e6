-- `path_sets::find` meets its contract. What the called functions say of one another is put together by `sets_are` and
-- `found_are`.
use Rattle.path_sets.specs.Finding.{sets_are, found_are}
use Rattle.path_sets.proofs.find.Goals as goal

pub returns : goal.returns
returns c =
    λ body sound is. found_are body sound _ _ _ _ _ is
    (sets_are body sound _ _ is _ c.leads_of-leads.ensures c.sets_of-sets.ensures) c.leads_of-leads.ensures
    (c.firsts_by-jumped.ensures, c.firsts_by-fallen.ensures)
