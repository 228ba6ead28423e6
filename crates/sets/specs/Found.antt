-- What is found of a body by joining what its blocks say along paths: the sets that the walks need, and the firsts
-- that the conflict list pairs with each edge; and what a call promises that is given what the blocks say
-- (`SetsFrom`, `FoundFrom`). Trusted: definitions only. Rests on form's Conflict and on Local.
use Rattle.std.specs.Prelude.{◌≡◌, ℕ}
use Rattle.words.specs.Tabled.{tabled, rows}
use Rattle.form.specs.declared.Body.{Body}
use Rattle.form.specs.Conflict.{block, exits, way_to, assigned, crossed, listed, conflicts, Sound}
use Rattle.sets.specs.declared.Local.{Local}
use Rattle.sets.specs.declared.Sets.{Sets}
use Rattle.sets.specs.declared.Firsts.{Firsts}
use Rattle.sets.specs.declared.Found.{Found}
use Rattle.sets.specs.Local.{edge_rows, local_of}

-- what the blocks say by themselves, and the edges that the conflict list pairs with a first below each block
unfoldable pub sets_of : Body → Sets
sets_of body = record {
  targets = (local_of body).targets;
  touched = (local_of body).touched;
  denied = (local_of body).denied;
  jumping = (local_of body).jumping;
  falling = (local_of body).falling;
  listed = edge_rows (listed (conflicts body));
}

-- the firsts of the edge of block s by a way: the blocks j whose assignment, whose edge by jump, and whose edge by
-- fall the list pairs with it
unfoldable pub firsts_of : Body → (way : ℕ) → Firsts
firsts_of body way = record {
  assigned = rows (λ s j. assigned body j (s, way));
  jump = rows (λ s j. crossed body j (1, way_to 1 (exits body j)) (s, way));
  fall = rows (λ s j. crossed body j (2, way_to 2 (exits body j)) (s, way));
}

unfoldable pub found_of : Body → Found
found_of body = record {
  sets = sets_of body;
  variable = tabled 64 (λ k. (block body k).variable);
  jumped = firsts_of body 1;
  fallen = firsts_of body 2;
}

-- for every sound body whose blocks say this by themselves
abbrev pub SetsFrom : Local → Sets → Type 0
SetsFrom local r = (body : Body) → Sound body → local ≡ local_of body → r ≡ sets_of body

abbrev pub FoundFrom : Local → Found → Type 0
FoundFrom local r = (body : Body) → Sound body → local ≡ local_of body → r ≡ found_of body
