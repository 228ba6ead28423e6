-- The question of the pair test: two conditions on one variable. Trusted: definitions only; `contradict` of form's
-- Conflict says, by lower_laws' Conditions, exactly that no whole number meets both.
use Rattle.std.specs.Prelude.{Bool, ℕ, ℤ}
use Rattle.form.specs.Conflict.{Condition, contradict}

-- the condition on a variable, 0 for both
abbrev pub condition : (relation : ℕ) → (constant : ℤ) → Condition
condition relation constant = record { variable = 0; relation = relation; constant = constant }

-- no whole number has both relations, each to its constant; a number above 5 is no relation, and nothing has it
abbrev pub conflicting : (relation1 : ℕ) → (constant1 : ℤ) → (relation2 : ℕ) → (constant2 : ℤ) → Bool
conflicting relation1 constant1 relation2 constant2 = contradict (condition relation1 constant1)
    (condition relation2 constant2)
