-- That no two reasons have one number in the table of refusals (Said's number_of).
use Rattle.std.specs.Prelude.{◌≡◌, cond, ℕ, eqb}
use Rattle.std.proofs.Math.Path.{refl, sym, ap}
use Rattle.std.proofs.Common.{◌∙◌}
use Rattle.form.specs.declared.Fault.{Fault}
use Rattle.form.specs.declared.Fault.TheVariants.{CutShort, WrongLength, UnknownKind, Misplaced, OverLimit, BadField, LowTarget, NoBlock, BadEnd, FarTarget, NoCount, Crowded, OverBudget, ShortRoom, NoRoute, ShortTable}
pub use Rattle.form.specs.Said.{number_of}

-- the reason that has a number
fault_of : ℕ → Fault
fault_of n =
    cond (eqb n 10) CutShort (
    cond (eqb n 11) WrongLength (
    cond (eqb n 12) UnknownKind (
    cond (eqb n 13) Misplaced (
    cond (eqb n 14) OverLimit (
    cond (eqb n 15) BadField (
    cond (eqb n 16) LowTarget (
    cond (eqb n 17) NoBlock (
    cond (eqb n 18) BadEnd (
    cond (eqb n 19) FarTarget (
    cond (eqb n 20) NoCount (
    cond (eqb n 40) Crowded (
    cond (eqb n 41) OverBudget (
    cond (eqb n 42) ShortRoom (
    cond (eqb n 43) NoRoute (
    ShortTable)))))))))))))))

of_number : (f : Fault) → fault_of (number_of f) ≡ f
unfolding fault_of
of_number CutShort = refl
of_number WrongLength = refl
of_number UnknownKind = refl
of_number Misplaced = refl
of_number OverLimit = refl
of_number BadField = refl
of_number LowTarget = refl
of_number NoBlock = refl
of_number BadEnd = refl
of_number FarTarget = refl
of_number NoCount = refl
of_number Crowded = refl
of_number OverBudget = refl
of_number ShortRoom = refl
of_number NoRoute = refl
of_number ShortTable = refl

-- The number tells the reason.
pub one_number : (f g : Fault) → number_of f ≡ number_of g → f ≡ g
one_number f g e = sym (of_number f) ∙ ap fault_of e ∙ of_number g
