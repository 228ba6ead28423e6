-- `cases::show::list` is proved: the entries that the list says it has written stand in the lent bytes (Room). Assumes
-- nothing.
use Rattle.cases.specs.Room.{listed_fits}
use Rattle.cases.proofs.show.list.Goals as goal

pub slice_bounds-out-end : goal.slice_bounds-out-end
slice_bounds-out-end g c =
    (listed_fits _ _ _ _ _ c.conflicts.ensures.0 c.conflicts.ensures.1.0 c.in-Ok.is).0

pub slice_bounds-entries-end : goal.slice_bounds-entries-end
slice_bounds-entries-end g c =
    (listed_fits _ _ _ _ _ c.conflicts.ensures.0 c.conflicts.ensures.1.0
    c.in-Ok.is).1
