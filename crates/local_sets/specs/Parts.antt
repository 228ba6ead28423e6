-- What the private functions' contracts say of the words and lists that they pass on. Rests on form's Conflict.
use Rattle.std.specs.Prelude.{◌≡◌, Bool, true, not, ◌&&◌, ◌||◌, List, ℕ, ◌<◌, eqb, pos, get_or}
use Rattle.laws.specs.Terms.{bit, any_of}
use Rattle.form.specs.declared.Body.{Body}
use Rattle.form.specs.declared.Block.{Block}
use Rattle.form.specs.declared.Effect.{Effect}
use Rattle.form.specs.Relation.{opposite}
use Rattle.form.specs.Conflict.{block, is_test, exits_by, way_to, condition, refuses, last_on}
use Rattle.lower_laws.specs.PairTest.{shares}
use Rattle.local_sets.specs.declared.ByWay.{ByWay}
use Rattle.local_sets.specs.declared.Condition.{Condition}
use Rattle.local_sets.specs.declared.Tests.{Tests}
use Rattle.local_sets.specs.declared.Hits.{Hits}

-- where a block's jump and fall lead
pub record WaysOf (block : Block) (r : ByWay ℕ) : Type 0 where
  pub jump : r.jump ≡ way_to 1 (exits_by block.ending block.jump block.fall)
  pub fall : r.fall ≡ way_to 2 (exits_by block.ending block.jump block.fall)

-- what the edges of a test ask
abbrev pub asked : Block → ByWay Condition
asked test = record {
  jump = record { relation = test.relation; constant = test.constant };
  fall = record { relation = opposite test.relation; constant = test.constant };
}

abbrev pub nothing : ByWay Condition
nothing = record {
  jump = record { relation = 0; constant = pos 0 };
  fall = record { relation = 0; constant = pos 0 };
}

-- for each variable the tests on it, and what the edges of each test ask
pub record TestsOf (body : Body) (t : Tests) : Type 0 where
  pub on : (v : ℕ) → v < 256 → (k : ℕ) → bit (get_or t.on v 0) k ≡ is_test body k && eqb (block body k).variable v
  pub edges : (k : ℕ) → is_test body k ≡ true → get_or t.edges k nothing ≡ asked (block body k)

-- no whole number meets both
abbrev pub conflict : Condition → Condition → Bool
conflict c d = not (shares c.relation c.constant d.relation d.constant)

-- of a set of tests, the ones whose edges ask what no whole number meets that meets the condition
pub record ConflictsIn (edges : List (ByWay Condition)) (set : ℕ) (c : Condition) (r : ByWay ℕ) : Type 0 where
  pub jump : (k : ℕ) → bit r.jump k ≡ bit set k && conflict c (get_or edges k nothing).jump
  pub fall : (k : ℕ) → bit r.fall k ≡ bit set k && conflict c (get_or edges k nothing).fall

-- the tests that effects touch, and those whose edges the last effect on their variable denies
pub record HitsOf (body : Body) (effects : List Effect) (h : Hits) : Type 0 where
  pub touched : (k : ℕ) → bit h.touched k
      ≡ is_test body k && any_of (λ a. eqb a.variable (block body k).variable) effects
  pub jump : (k : ℕ) → bit h.denied.jump k
      ≡ is_test body k && refuses (last_on (block body k).variable effects) (condition body (k, 1))
  pub fall : (k : ℕ) → bit h.denied.fall k
      ≡ is_test body k && refuses (last_on (block body k).variable effects) (condition body (k, 2))

-- the hits of some effects, and then of later ones: an effect puts an end to what was denied on its variable
pub record Follows (some then all : Hits) : Type 0 where
  pub touched : (k : ℕ) → bit all.touched k ≡ bit some.touched k || bit then.touched k
  pub jump : (k : ℕ) → bit all.denied.jump k
      ≡ (bit some.denied.jump k && not (bit then.touched k)) || bit then.denied.jump k
  pub fall : (k : ℕ) → bit all.denied.fall k
      ≡ (bit some.denied.fall k && not (bit then.touched k)) || bit then.denied.fall k

-- whatever body the tests are of
abbrev pub HitsFrom : Tests → List Effect → Hits → Type 0
HitsFrom t effects h = (body : Body) → TestsOf body t → HitsOf body effects h
