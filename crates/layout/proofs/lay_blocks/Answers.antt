-- `layout::lay_blocks` meets its contract: a turn lays out the next block, and at the end none is left.
use Rattle.std.proofs.Common.{◌≡◌, refl, sym, ap, ◌∙◌, arith}
use Rattle.std.proofs.Common.{List, ℕ, [], ◌++◌, ◌+◌, ◌<◌, ◌≤◌, length, take, drop, get_or, add-one, append-nil, zero-add}
use Rattle.std.proofs.lemmas.List.{drop_all}
use Rattle.form.specs.declared.Block.{Block}
use Rattle.form.specs.declared.Effect.{Effect}
use Rattle.form.specs.Form.{block_bytes, lay_effects, lay_blocks, sum_own, zero_block}
use Rattle.form.specs.Laying.{sum_step, blocks_laid}
use Rattle.lent.specs.Filled.{then, nothing}
use Rattle.layout.proofs.lay_blocks.Goals as goal

pub loop-block-init : goal.loop-block-init
loop-block-init c = record { done = []; laid = nothing _; whole = refl; enough = omega arith; end = omega arith }

pub split_at-requires : goal.split_at-requires
split_at-requires c = omega (arith, sum_step c.args.blocks.now c.loop-block.block-index, c.loop-block.invariant.enough)

pub lay_block-requires : goal.lay_block-requires
lay_block-requires c = omega (arith, sum_step c.args.blocks.now c.loop-block.block-index, c.loop-block.invariant.end)

turn : (blocks : List Block) (k : ℕ) → k < length blocks → (rest own after : List Effect)
    → own ≡ take (get_or blocks k zero_block).effects rest → after ≡ drop (get_or blocks k zero_block).effects rest
    → (done whole : List ℕ) → done ++ lay_blocks (drop k blocks) rest ≡ whole
    → (done ++ (block_bytes (get_or blocks k zero_block) ++ lay_effects own)) ++ lay_blocks (drop (k + 1) blocks) after
    ≡ whole
turn blocks k h rest own after e f done whole w =
    let b = get_or blocks k zero_block in
    rw (e, f, add-one k) (rw (zero-add b.effects) at (blocks_laid blocks k rest 0 h b refl done _ whole w refl))

pub loop-block-preserved : goal.loop-block-preserved
loop-block-preserved c =
    let blocks = c.args.blocks.now in
    let k = c.loop-block.block-index in
    let sum = rw (← add-one k) at (sum_step blocks k) in
    record {
      done = _;
      laid = then c.loop-block.invariant.laid c.lay_block.ensures.grows;
      whole =
          turn blocks k (omega arith) _ _ _ c.split_at.ensures.front c.split_at.ensures.back _ _
          c.loop-block.invariant.whole;
      enough = omega (arith, sum, c.loop-block.invariant.enough);
      end = omega (arith, sum, c.loop-block.invariant.end, c.lay_block.ensures.end);
    }

none_left : (k : ℕ) (blocks : List Block) → length blocks ≤ k → (done whole : List ℕ) (rest : List Effect)
    → done ++ lay_blocks (drop k blocks) rest ≡ whole → done ≡ whole
unfolding lay_blocks
none_left k blocks h done whole rest e =
    sym (append-nil done) ∙ (ap (λ (l : List Block). done ++ lay_blocks l rest) (sym (drop_all k blocks h)) ∙ e)

pub returns-clause-grows : goal.returns-clause-grows
returns-clause-grows c =
    let all = none_left c.loop-block.block-index c.args.blocks.now (omega arith) _ _ _ c.loop-block.invariant.whole in
    rw all at c.loop-block.invariant.laid

pub returns-clause-end : goal.returns-clause-end
unfolding sum_own
returns-clause-end c =
    let none = drop_all c.loop-block.block-index c.args.blocks.now (omega arith) in
    omega (arith, ap sum_own none, c.loop-block.invariant.end)
