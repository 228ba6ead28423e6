-- What is answered, in document 01's words: the verdict on bytes, the writer's answer, the reader's answer, a row of
-- the table of kinds; and what the code's types say in them. Trusted: definitions only. The code answers with a Result,
-- whose error is a reason with its place; here a refusal is the reason's number in the table of refusals, with that
-- place.
use Rattle.std.specs.Prelude.{ℕ, List, ◌++◌, Result, Ok, Err, ⊤, decimal, codes}
use Rattle.form.specs.declared.Body.{Body}
use Rattle.form.specs.declared.Fault.{Fault}
use Rattle.form.specs.declared.Fault.TheVariants.{CutShort, WrongLength, UnknownKind, Misplaced, OverLimit, BadField, LowTarget, NoBlock, BadEnd, FarTarget, NoCount, Crowded, OverBudget, ShortRoom, NoRoute, ShortTable}
use Rattle.form.specs.declared.Kind.{Kind as KindCase}
use Rattle.form.specs.declared.Kind.TheVariants.{Unknown, Counter, Block, Effect}
use Rattle.form.specs.declared.Refusal.{Refusal}

-- ---- the answers

-- What the reader says of bytes: a form, or the refusal's number and place
pub data Verdict : Type 0 where
  Accepted : Verdict
  Refused : (number place : ℕ) → Verdict

-- The reader's answer: on a refusal every number of the body is zero
pub record Reading : Type 0 where
  pub verdict : Verdict
  pub body : Body

-- The writer's answer: how many bytes it wrote, or the refusal's number and place
pub data Written : Type 0 where
  Bytes : (count : ℕ) → Written
  Unwritten : (number place : ℕ) → Written

-- A row of the table of kinds: the length of the kind's records, and what they are: 0 nothing that the form knows, 1
-- the counter, 2 a block, 3 an effect
pub record Kind : Type 0 where
  pub length : ℕ
  pub role : ℕ

-- ---- what the code's types say

-- The table of refusals: the number of each reason
abbrev pub number_of : Fault → ℕ
number_of CutShort = 10
number_of WrongLength = 11
number_of UnknownKind = 12
number_of Misplaced = 13
number_of OverLimit = 14
number_of BadField = 15
number_of LowTarget = 16
number_of NoBlock = 17
number_of BadEnd = 18
number_of FarTarget = 19
number_of NoCount = 20
number_of Crowded = 40
number_of OverBudget = 41
number_of ShortRoom = 42
number_of NoRoute = 43
number_of ShortTable = 44

-- A refusal as it is printed
abbrev pub refusal_text : Refusal → List ℕ
refusal_text r = codes "refused " ++ decimal (number_of r.fault) ++ codes " at " ++ decimal r.place

abbrev pub verdict_of : Result ⊤ Refusal → Verdict
verdict_of (Ok done) = Accepted
verdict_of (Err r) = Refused (number_of r.fault) r.place

abbrev pub written_of : Result ℕ Refusal → Written
written_of (Ok count) = Bytes count
written_of (Err r) = Unwritten (number_of r.fault) r.place

-- The row of each kind in the table
abbrev pub row_of : KindCase → Kind
row_of Unknown = record { length = 4; role = 0 }
row_of Counter = record { length = 17; role = 1 }
row_of Block = record { length = 17; role = 2 }
row_of Effect = record { length = 10; role = 3 }
