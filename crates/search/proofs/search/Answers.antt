-- `search::search` meets its contract: the theory's answer for the walk from block 0.
use Rattle.search.specs.Terms.{banned_at, left_at}
use Rattle.search.specs.Laws.{searched}
use Rattle.search.proofs.search.Goals as goal

pub returns : goal.returns
returns c choice =
    let a = c.args in
    let (walked, best) = c.default-found.ensures in
    let (jumps, falls) = c.default.ensures in
    let (jumped, fallen) = c.default-2.ensures in
    searched choice a.plan.now a.count a.budget (banned_at c.default.result) (0, left_at c.default-2.result)
    c.default-found.result c.visit.new.found (λ i. (jumps i, falls i)) (λ i. (0, (jumped i, fallen i)))
    (λ i. record { walked = walked i; best = best i }) (c.visit.ensures choice)
