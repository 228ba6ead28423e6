-- The room that lent bytes have, and what they hold after something is added to them. Rests on Adding.
use Rattle.std.specs.Prelude.{List, [], ◌++◌, ◌≡◌, refl, ℕ, ◌+◌, ◌≤◌, length}
use Rattle.std.proofs.Common.{◌∙◌}
use Rattle.lent.specs.Adding.{Adds}
use Rattle.lent.specs.Adding.{then as adds_then, nothing as adds_nothing}
use Rattle.lent.specs.declared.Filled.{Filled}

-- there is room for these bytes behind what is there
abbrev pub HasRoom : Filled → List ℕ → Type 0
HasRoom list bytes = list.end + length bytes ≤ length list.bytes.now

-- the bytes stand behind what was there, and the lent bytes past them are as they were
pub record Grows (before after : Filled) (bytes : List ℕ) : Type 0 where
  pub same_reference : after.bytes.ghost_name ≡ before.bytes.ghost_name
  pub room : length after.bytes.now ≡ length before.bytes.now
  pub adds : Adds before.bytes.now before.end after.bytes.now after.end bytes

pub nothing : (x : Filled) → Grows x x []
nothing x = record { same_reference = refl; room = refl; adds = adds_nothing x.bytes.now x.end }

pub then : {x y z : Filled} {a b : List ℕ} → Grows x y a → Grows y z b → Grows x z (a ++ b)
then p q = record {
  same_reference = q.same_reference ∙ p.same_reference;
  room = q.room ∙ p.room;
  adds = adds_then p.adds q.adds;
}
