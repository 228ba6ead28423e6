-- The relations by their numbers in the form, the refusal of a number that is none, and a closed form's number as an
-- answer (`nonzero`).
use Rattle.std.specs.Prelude.{◌≡◌, ℕ, zero, suc, ◌<◌, Option, Some, None}
use Rattle.form.specs.declared.Refusal.{Refusal}
use Rattle.form.specs.declared.Fault.TheVariants.{BadField}
use Rattle.counter.specs.declared.Relation.{Relation}
use Rattle.counter.specs.declared.Relation.TheVariants.{Equal, Unequal, Less, AtLeast, Greater, AtMost}

abbrev pub code : Relation → ℕ
code Equal = 0
code Unequal = 1
code Less = 2
code AtLeast = 3
code Greater = 4
code AtMost = 5

-- a number above 5 is refused with 15 at place 0
abbrev pub IsNoRelation : (number : ℕ) → Refusal → Type 0
IsNoRelation number refusal = (5 < number) × (refusal ≡ record { fault = BadField; place = 0 })

-- the number of a closed form, where 0 says that there is none
abbrev pub nonzero : ℕ → Option ℕ
nonzero zero = None
nonzero (suc k) = Some (suc k)
