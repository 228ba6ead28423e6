-- `layout::lay` meets its contract: the counter, and then the counted blocks with their effects.
use Rattle.std.proofs.Common.{◌≡◌, ap, arith, rules}
use Rattle.std.proofs.Common.{List, ℕ, ◌++◌, ◌≤◌, length, length-take, take}
use Rattle.form.specs.declared.Body.{Body}
use Rattle.form.specs.Form.{counter_bytes, lay_blocks, lay}
use Rattle.form.specs.Laying.{blocks_counted, counts_known}
use Rattle.lent.specs.Filled.{then}
use Rattle.lent.specs.Adding.{Adds, up_to_end}
use Rattle.layout.proofs.lay.Goals as goal

pub shared_ref_as_front-lay_blocks : goal.shared_ref_as_front-lay_blocks
shared_ref_as_front-lay_blocks c = (counts_known c.args.body.now c.requires.0).0

pub lay_blocks-requires-clause-enough : goal.lay_blocks-requires-clause-enough
lay_blocks-requires-clause-enough c = omega (arith, counts_known c.args.body.now c.requires.0)

pub lay_blocks-requires-clause-room : goal.lay_blocks-requires-clause-room
lay_blocks-requires-clause-room c =
    let body = c.args.body.now in
    omega (
      arith,
      counts_known body c.requires.0,
      length-take body.count body.blocks,
      ap length c.new-out.ensures.bytes,
    )

whole : (o p : List ℕ) (r : ℕ) (body : Body) → 3665 ≤ length o → r ≤ 3665
    → Adds o 0 p r (counter_bytes body.counter ++ lay_blocks (blocks_counted body) body.effects)
    → (r ≡ length (lay body)) × ((r ≤ 3665) × (take r p ≡ lay body))
unfolding lay
whole o p r body room few adds = (omega (arith, adds.end), (few, up_to_end adds (omega arith)))

pub returns : goal.returns
returns c =
    let body = c.args.body.now in
    let both = then c.lay_counter.ensures c.lay_blocks.ensures.grows in
    whole c.args.buf.now _ _ body c.requires.1
    (omega (arith, counts_known body c.requires.0, length-take body.count body.blocks, c.lay_counter.ensures.adds.end))
    (search rules)
