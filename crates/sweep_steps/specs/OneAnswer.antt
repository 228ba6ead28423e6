-- What the code's answer says tells it apart: no two answers say the same numbers (Answer's `said`). So a promise on
-- what is said leaves one answer of the code. Rests on Answer and form's OneCase.
use Rattle.std.specs.Prelude.{◌≡◌, ◌<◌, Result, Ok, Err}
use Rattle.std.proofs.Common.{ap, arith}
use Rattle.form.specs.declared.Fault.{Fault}
use Rattle.form.specs.declared.Fault.TheVariants.{CutShort, WrongLength, UnknownKind, Misplaced, OverLimit, BadField, LowTarget, NoBlock, BadEnd, FarTarget, NoCount, Crowded, OverBudget, ShortRoom, NoRoute, ShortTable}
use Rattle.form.specs.declared.Refusal.{Refusal}
use Rattle.form.specs.Said.{number_of}
use Rattle.form.specs.OneCase.{one_refusal}
use Rattle.plan.specs.Owed.{Values}
use Rattle.sweep_steps.specs.declared.Routed.{Routed}
use Rattle.sweep_steps.specs.Answer.{said}

-- a refusal has a number
numbered : (f : Fault) → 0 < number_of f
numbered CutShort = omega arith
numbered WrongLength = omega arith
numbered UnknownKind = omega arith
numbered Misplaced = omega arith
numbered OverLimit = omega arith
numbered BadField = omega arith
numbered LowTarget = omega arith
numbered NoBlock = omega arith
numbered BadEnd = omega arith
numbered FarTarget = omega arith
numbered NoCount = omega arith
numbered Crowded = omega arith
numbered OverBudget = omega arith
numbered ShortRoom = omega arith
numbered NoRoute = omega arith
numbered ShortTable = omega arith

pub one_said : (a b : Result Routed Refusal) → said a ≡ said b → a ≡ b
one_said (Ok a) (Ok b) e = ap Ok (λ i. record {
  totals = record {
    iterations = (e i).iterations;
    weight = (e i).weight;
    bound = (e i).bound;
    least = (e i).least;
    least_total = (e i).least_total;
  };
  kept = (e i).kept_or_walked;
})
one_said (Ok a) (Err b) e = absurd (omega (arith, numbered b.fault, ap (λ (v : Values). v.number) e))
one_said (Err a) (Ok b) e = absurd (omega (arith, numbered a.fault, ap (λ (v : Values). v.number) e))
one_said (Err a) (Err b) e = ap Err (one_refusal a b (ap (λ (v : Values). v.number) e) (ap (λ (v : Values). v.place) e))
