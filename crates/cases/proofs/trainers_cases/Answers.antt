-- `cases::trainers_cases` is proved: a byte set anew leaves as many bytes as there were (Room). Assumes nothing.
use Rattle.cases.specs.Room.{kept}
use Rattle.cases.proofs.trainers_cases.Goals as goal

pub slice_bounds-list-end-2 : goal.slice_bounds-list-end-2
slice_bounds-list-end-2 g c = kept _ _ _ _
    c.in_ok-n.ensures

pub slice_bounds-sweep-end-2 : goal.slice_bounds-sweep-end-2
slice_bounds-sweep-end-2 g c = kept _ _ _ _
    c.in_ok-n.ensures

pub slice_bounds-walk-end-3 : goal.slice_bounds-walk-end-3
slice_bounds-walk-end-3 g c = kept _ _ _ _
    c.in_ok-n.ensures
