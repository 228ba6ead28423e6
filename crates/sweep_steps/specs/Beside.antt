-- The two sides' rows stand side by side in the table: read by the choice, a row of the table is that side's row as
-- document 01 has it, sets and all (`each_side`). So neither side's entries are lost, and none has another's sets.
-- Rests on Answer and on theory's RowSets.
use Rattle.std.specs.Prelude.{◌≡◌, refl, true, false, List, [], ◌∷◌, ◌++◌, map, ℕ, zero, suc, length, take, replicate}
use Rattle.std.proofs.Common.{sym, ap, ◌∙◌, arith}
use Rattle.laws.specs.Terms.{Choice, heaviest, lightest, chosen}
use Rattle.form.specs.declared.Body.{Body}
use Rattle.form.specs.Conflict.{conflicts}
use Rattle.theory.specs.Route.{Side}
use Rattle.theory.specs.Row as theory
use Rattle.theory.specs.Row.{Key, filled}
use Rattle.theory.specs.RowSets.{sets_of, same_sets}
use Rattle.entries.specs.declared.Way.{Way}
use Rattle.entries.specs.declared.Entry.{Entry}
use Rattle.sweep_steps.specs.Answer.{entry_from, side_by_side, rows_on}
use Rattle.std.proofs.lemmas.List.{map-append}

abbrev way_by : Choice → Entry → Way
way_by choice e = chosen choice (e.heaviest, e.lightest)

-- an entry of the table, read by the choice
abbrev pub side_in : Choice → Entry → theory.Entry
side_in choice e = record {
  jumps = e.jumps;
  falls = e.falls;
  weight = (way_by choice e).weight;
  jumped = (way_by choice e).jumped;
  fallen = (way_by choice e).fallen;
}

-- of entries with the same sets
one_side : (choice : Choice) (x y : theory.Entry) → sets_of x ≡ sets_of y
    → side_in choice (entry_from x y) ≡ chosen choice (x, y)
one_side false x y e = refl
one_side true x y e = λ i. record {
  jumps = (e i).0;
  falls = (e i).1;
  weight = y.weight;
  jumped = y.jumped;
  fallen = y.fallen;
}

-- in front of rows of either choice
in_front : (choice : Choice) (x y : theory.Entry) (r s : List theory.Entry)
    → chosen choice (x, y) ∷ chosen choice (r, s) ≡ chosen choice (x ∷ r, y ∷ s)
in_front false x y r s = refl
in_front true x y r s = refl

beside : (choice : Choice) (r s : List theory.Entry) → map sets_of r ≡ map sets_of s
    → map (side_in choice) (side_by_side r s) ≡ chosen choice (r, s)
unfolding side_by_side
beside false [] [] e = refl
beside true [] [] e = refl
beside choice [] (y ∷ s) e = let z : ⊥ = omega (arith, ap length e) in absurd z
beside choice (x ∷ r) [] e = let z : ⊥ = omega (arith, ap length e) in absurd z
beside choice (x ∷ r) (y ∷ s) e =
    let first : sets_of x ≡ sets_of y = cc in
    let rest : map sets_of r ≡ map sets_of s = cc in
    (λ i. one_side choice x y first i ∷ beside choice r s rest i) ∙ in_front choice x y r s

map_take : {A B : Type 0} (f : A → B) (n : ℕ) (l : List A) → map f (take n l) ≡ take n (map f l)
map_take f zero l = refl
map_take f (suc n) [] = refl
map_take f (suc n) (x ∷ l) = ap (λ r. f x ∷ r) (map_take f n l)

-- the sets of a row as it stands in the table
filled_sets : (r : List theory.Entry)
    → map sets_of (filled r) ≡ take 64 (map sets_of r ++ map sets_of (replicate 64 theory.no_entry))
filled_sets r = map_take sets_of 64 (r ++ replicate 64 theory.no_entry)
    ∙ ap (take 64) (map-append sets_of r (replicate 64 theory.no_entry))

module _ (body : Body) (sides : Choice → Side) (b : ℕ) where
  abbrev row_by : Choice → List theory.Entry
  row_by choice = rows_on body sides choice b

  same_filled : map sets_of (filled (row_by heaviest)) ≡ map sets_of (filled (row_by lightest))
  same_filled =
      filled_sets (row_by heaviest)
      ∙ ap (λ (l : List Key). take 64 (l ++ map sets_of (replicate 64 theory.no_entry)))
      (same_sets body (conflicts body) (sides heaviest) (sides lightest) b)
      ∙ sym (filled_sets (row_by lightest))

  pub each_side : (choice : Choice)
      → map (side_in choice) (side_by_side (filled (row_by heaviest)) (filled (row_by lightest))) ≡ filled (row_by choice)
  each_side choice = beside choice (filled (row_by heaviest)) (filled (row_by lightest)) same_filled ∙ by choice
    where
      by : (choice : Choice) → chosen choice (filled (row_by heaviest), filled (row_by lightest)) ≡ filled (row_by choice)
      by false = refl
      by true = refl
