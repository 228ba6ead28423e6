-- `path_sets::leads_of` meets its contract.
use Rattle.std.proofs.Common.{arith, rules}
use Rattle.path_sets.specs.Leading.{leading_more}
use Rattle.path_sets.proofs.leads_of.Goals as goal

pub loop-b-preserved : goal.loop-b-preserved
loop-b-preserved c =
    leading_more _ _ _ c.requires c.loop-b.b _ _ _ _ _ (omega arith) (omega arith) c.loop-b.invariant _ _ _ _ _
    c.word_at-j.ensures c.word_at-f.ensures (search rules) c.put-here.ensures c.less.ensures
