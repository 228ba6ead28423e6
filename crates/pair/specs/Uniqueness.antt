-- What the pair test's answer says in the document's words, and that the contract leaves one answer. Rests on Pair
-- and lower_laws' Conditions.
use Rattle.std.specs.Prelude.{◌≡◌, refl, ◌↔◌, Bool, true, ℕ, ℤ}
use Rattle.std.proofs.Common.{sym, ◌∙◌}
use Rattle.form.specs.Relation.{meets}
use Rattle.lower_laws.specs.Conditions.{contradict_says}
use Rattle.pair.specs.Pair.{condition, conflicting}

module _ (relation1 : ℕ) (constant1 : ℤ) (relation2 : ℕ) (constant2 : ℤ) where
  pub pair_says : (conflicting relation1 constant1 relation2 constant2 ≡ true) ↔
      ((x : ℤ) → meets relation1 x constant1 ≡ true → meets relation2 x constant2 ≡ true → ⊥)
  pair_says =
      let says = contradict_says (condition relation1 constant1) (condition relation2 constant2) in
      (λ h. (says.0 h).none_meets_both, λ none. says.1 (record { alike = refl; none_meets_both = none }))

  pub one_conflicting : (a b : Bool) → a ≡ conflicting relation1 constant1 relation2 constant2
      → b ≡ conflicting relation1 constant1 relation2 constant2 → a ≡ b
  one_conflicting a b p q = p ∙ sym q
