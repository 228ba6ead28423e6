-- The bytes of a signed field, as a struct hands it to a call. Rests on form's Form and lent's Filled.
use Rattle.std.specs.Prelude.{List, [], ◌≡◌, ℕ, ◌<◌, ◌^◌, ℤ}
use Rattle.std.proofs.Common.{of_z, to_z, to_z-of_z}
use Rattle.std.specs.Int.Signed.{mag}
use Rattle.std.specs.Int.{w32, to_le_bytes}
use Rattle.form.specs.Form.{bytes4}
use Rattle.lent.specs.declared.Filled.{Filled}
use Rattle.lent.specs.Filled.{Grows}

pub signed : {x y : Filled} {bytes : List ℕ} (z : ℤ) → mag z < 2 ^ 31
    → bytes ≡ to_le_bytes w32 (of_z w32 (to_z w32 (of_z w32 z))) → Grows x y bytes → Grows x y (bytes4 (of_z w32 z) [])
signed z fits e more =
    let same = to_z-of_z {w = w32} {z = z} (record { sfits = fits }) in
    rw (e, same) at more
