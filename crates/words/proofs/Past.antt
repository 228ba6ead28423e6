-- A word of 64 bits has no number past them. Rests on the laws' Sets.
use Rattle.std.specs.Prelude.{false, ◌≡◌, ℕ, ◌≤◌}
use Rattle.std.specs.Int.{w64}
use Rattle.std.proofs.Common.{Fits, sym}
use Rattle.laws.specs.Terms.{bit}
use Rattle.laws.specs.Sets.{bit_beyond}

pub past : (x k : ℕ) → Fits w64 x → 64 ≤ k → false ≡ bit x k
past x k f h = sym (bit_beyond 64 k f.fits h)
