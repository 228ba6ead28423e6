-- A step along the records of a form: the record that starts at the place reached, and then those after it; at the end
-- of the form there is none, and the place stays. Rests on form's Records.
use Rattle.std.specs.Prelude.{◌≡◌, ◌<◌, ◌≤◌, ◌-◌, ℕ, length, Option, None, Some}
use Rattle.form.specs.Records.{next}
use Rattle.records.specs.declared.Record.{Record}
use Rattle.records.specs.declared.Records.{Records}

-- the bytes that are left
abbrev pub left : Records → ℕ
left records = length records.form.now - records.at

pub record Passes (before : Records) (passed : Record) (after : Records) : Type 0 where
  pub inside : before.at < length before.form.now
  pub form : passed.form.now ≡ before.form.now
  pub at : passed.at ≡ before.at
  pub same : after.form.now ≡ before.form.now
  pub next : after.at ≡ next before.form.now before.at
  pub on : before.at < after.at

abbrev pub Steps : Records → Option Record → Records → Type 0
Steps before None after =
    (length before.form.now ≤ before.at) × ((after.form.now ≡ before.form.now) × (after.at ≡ before.at))
Steps before (Some passed) after = Passes before passed after
