-- `Left::with` meets its contract.
use Rattle.std.specs.Prelude.{true}
use native.Mathlib.Omega.{arith}
use Rattle.search.specs.Laws.{put_is}
use Rattle.search.proofs.Left.with.Goals as goal

pub returns-in-Jump : goal.returns-in-Jump
returns-in-Jump c =
    let at = c.args.self in
    let is = put_is at.jumped c.args.b c.put.result true (omega arith) c.put.type_inv c.requires c.put.ensures in
    rw c.in-Jump.is (λ i. (is i, at.fallen))

pub returns-in-Fall : goal.returns-in-Fall
returns-in-Fall c =
    let at = c.args.self in
    let put = c.put-in-Fall in
    let is = put_is at.fallen c.args.b put.result true (omega arith) put.type_inv c.requires put.ensures in
    rw c.in-Fall.is (λ i. (at.jumped, is i))
