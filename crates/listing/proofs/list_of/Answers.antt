-- `listing::list_of` meets its contract.
use Rattle.std.proofs.Common.{◌≡◌, refl, ap, ◌∙◌, List, ℕ, ◌+◌, length, arith}
use Rattle.lent.specs.Adding.{told, from_start}
use Rattle.sets.specs.Worded.{worded}
use Rattle.form.specs.Conflict.{conflicts, conflict_bytes}
use Rattle.path_sets.specs.Parts.{FoundBy}
use Rattle.path_sets.specs.Finding.{found_told}
use Rattle.list_bytes.specs.Listing.{found_bytes, number_is, bytes_are}
use Rattle.listing.specs.Room.{too_few, enough, has_room}
use Rattle.listing.proofs.list_of.Goals as goal
use Rattle.listing.proofs.list_of.Goals.{After-find-found, After-found_number-bytes}

pub find-found-requires : goal.find-found-requires
find-found-requires c = worded c.args.body c.requires _ c.local_of-local.ensures

-- what is found is of the body
found_by : (c : After-find-found) → FoundBy c.args.body c.find-found.result
found_by c =
    found_told c.args.body c.requires.few _
    (c.find-found.ensures c.args.body c.requires c.local_of-local.ensures)

-- its number is that of the list's entries
numbered : (c : After-found_number-bytes) → FoundBy c.args.body c.find-found.result
    → c.found_number-bytes.result ≡ length (conflicts c.args.body)
numbered c f =
    c.found_number-bytes.ensures.0 ∙ number_is c.args.body c.requires.few _ _ _ f.variables f.jumped f.fallen

-- its bytes are the list's
same_bytes : (c : After-find-found) → found_bytes c.find-found.result ≡ conflict_bytes c.args.body
same_bytes c =
    let f = found_by c in
    bytes_are c.args.body c.requires.few _ _ _ f.variables f.jumped f.fallen

pub returns-then-out-bytes : goal.returns-then-out-bytes
returns-then-out-bytes c =
    let at = goal.at.returns-then-out-bytes c in
    (too_few _ _ _ (numbered at.After-found_number-bytes (found_by at.After-find-found)) c.if-out-bytes.true, refl)

pub found_entries-requires : goal.found_entries-requires
found_entries-requires c =
    let at = goal.at.found_entries-requires c in
    let number = numbered at.After-found_number-bytes (found_by at.After-find-found) in
    omega (
      arith,
      ap length (same_bytes at.After-find-found),
      has_room _ _ _ number c.if-out-bytes.false,
    )

pub returns : goal.returns
returns c =
    let at = goal.at.returns c in
    let same = same_bytes at.After-find-found in
    let number = numbered at.After-found_number-bytes (found_by at.After-find-found) in
    let room = c.if-out-bytes.false in (
      enough _ _ _ number _ room (c.found_entries.ensures.end ∙ ap (λ (l : List ℕ). 0 + length l) same),
      from_start (told same c.found_entries.ensures) (has_room _ _ _ number room),
    )
