-- The contract of `local_of` leaves one answer. Rests on sets' Local.
use Rattle.std.specs.Prelude.{◌≡◌}
use Rattle.std.proofs.Common.{sym, ◌∙◌}
use Rattle.form.specs.declared.Body.{Body}
use Rattle.sets.specs.declared.Local.{Local}
use Rattle.sets.specs.Local.{local_of}

pub one_local : (body : Body) (a b : Local) → a ≡ local_of body → b ≡ local_of body → a ≡ b
one_local body a b p q = p ∙ sym q
