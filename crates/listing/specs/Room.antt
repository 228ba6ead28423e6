-- What a body's list answers in so much room: 42 with the bytes needed, or how many it has. Rests on list_bytes'
-- Listing.
use Rattle.std.specs.Prelude.{◌≡◌, ℕ, ◌+◌, ◌*◌, ◌≤◌, ◌<◌, length}
use Rattle.std.proofs.Common.{ap, arith, lt-ltb, le-ltb}
use Rattle.form.specs.declared.Body.{Body}
use Rattle.form.specs.Conflict.{conflicts, conflict_bytes}
use Rattle.list_bytes.specs.Listing.{bytes_length}
use Rattle.listing.specs.Answer.{Bytes, Refused, listed_in}

module _ (body : Body) (n room : ℕ) (is : n ≡ length (conflicts body)) where
  needed : 5 * n ≡ length (conflict_bytes body)
  needed = omega (arith, bytes_length body)

  pub too_few : room < 5 * n → Refused 42 (5 * n) ≡ listed_in body room
  too_few h = let k : room < length (conflict_bytes body) = omega (arith, needed) in rw
      (lt-ltb room (length (conflict_bytes body)) k) (ap (Refused 42) needed)

  pub enough : (end : ℕ) → 5 * n ≤ room → end ≡ 0 + length (conflict_bytes body) → Bytes end ≡ listed_in body room
  enough end h e = let k : length (conflict_bytes body) ≤ room = omega (arith, needed) in rw
      (le-ltb room (length (conflict_bytes body)) k) (ap Bytes (omega arith))

  pub has_room : 5 * n ≤ room → length (conflict_bytes body) ≤ room
  has_room h = omega (arith, needed)
