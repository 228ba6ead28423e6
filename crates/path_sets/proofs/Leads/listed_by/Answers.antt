-- `path_sets::Leads::listed_by` meets its contract.
use Rattle.std.proofs.Common.{◌≡◌, refl, sym, ◌∙◌, ◌||◌, List, ℕ, ◌+◌}
use Rattle.laws.specs.Terms.{bit}
use Rattle.laws.specs.Sets.{bit_none}
use Rattle.words.specs.Filled.{any_last, told_none, told_more}
use Rattle.path_sets.specs.declared.Leads.{Leads}
use Rattle.path_sets.specs.Parts.{by, pairs, ListedAt}
use Rattle.path_sets.proofs.Leads.listed_by.Goals as goal

-- with the edges that pair with block b
listed_more :
    (l : Leads) (denied jumping falling : List ℕ) (b all own next : ℕ) → ListedAt l denied jumping falling b all
    → ((s : ℕ) → bit own s ≡ pairs l denied jumping falling b s) → ((s : ℕ) → bit next s ≡ bit all s || bit own s)
    → ListedAt l denied jumping falling (b + 1) next
listed_more l denied jumping falling b all own next below is new s =
    new s ∙ (λ i. below s i || is s i) ∙ sym (any_last b (λ f. pairs l denied jumping falling f s))

pub loop-b-init : goal.loop-b-init
loop-b-init c = (told_none _ _ _ _ refl, bit_none)

pub loop-b-preserved : goal.loop-b-preserved
loop-b-preserved c =
    let own = c.args.local.now in let way = c.args.way in (
      told_more _ _ _ _ _ _ c.loop-b-test.true c.loop-b.invariant.0 c.loop-b.invariant.1,
      listed_more c.args.self.now (by way own.denied) (by way own.jumping) (by way own.falling) _ _ _ _
          c.loop-b.invariant.1 c.seconds_of-here.ensures c.either-all.ensures,
    )
