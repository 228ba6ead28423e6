-- A row of pairs is, on each side, the row of that side: of each choice the better tail is kept as if the other choice
-- were not there. Rests on Rows and Begun.
use Rattle.std.specs.Prelude.{◌≡◌, refl, Bool, true, false, cond, List, [], ◌∷◌, map, ℕ, suc, eqb}
use Rattle.std.proofs.Common.{sym, ◌∙◌}
use Rattle.std.proofs.Math.Path.{ap}
use Rattle.laws.specs.Terms.{Choice, chosen}
use Rattle.laws.specs.Rows.{across}
use Rattle.theory.specs.Row.{Key, key_before}
use Rattle.theory.specs.Edges.{no_edges}
use Rattle.theory.specs.Machine.{pour, pour_across}
use Rattle.theory.specs.SweepWords.{Words}
use Rattle.theory.specs.Plan.{cost_at}
use Rattle.entries.specs.Structs.{Both}
use Rattle.entries.specs.Entries.{keep_best, keep_both, kept_side}
use Rattle.rows.specs.declared.Half.{Half}
use Rattle.rows.specs.Steps.{half_of, step_key, step_words, step_both}
use Rattle.rows.specs.Begun.{own_way, begun_with}
use Rattle.rows.specs.Rows.{poured, poured_by, left_from}

-- the row of the choice alone
abbrev pub side_row : Choice → List (Key × Both) → List (Key × Words)
side_row choice = map (across (chosen choice))

-- a step in front of a pair is one in front of each
stepped_side : (choice : Choice) (jumps falls : Half) (cost : ℕ) (v : Both)
    → step_words jumps falls cost (chosen choice v) ≡ chosen choice (step_both jumps falls cost v)
stepped_side false jumps falls cost v = refl
stepped_side true jumps falls cost v = refl

module _ (choice : Choice) where
  pub poured_side : (jumps falls : Half) (cost : ℕ) (l r : List (Key × Both))
      → side_row choice (poured jumps falls cost l r)
      ≡ pour key_before (keep_best choice) (step_key jumps falls) (step_words jumps falls cost) (side_row choice l)
      (side_row choice r)
  poured_side jumps falls cost l r = sym
      (pour_across (chosen choice) key_before keep_both (keep_best choice) (kept_side choice) (step_key jumps falls)
      (step_both jumps falls cost) (step_words jumps falls cost) (stepped_side choice jumps falls cost) l r)

  module _ (plan : List ℕ) (b : ℕ) where
    -- the choice's tails by one way
    unfoldable pub poured_on : (way : ℕ) → (tails : List (Key × Words)) → List (Key × Words) → List (Key × Words)
    poured_on way tails r = pour key_before (keep_best choice) (step_key (half_of plan b way 1) (half_of plan b way 2))
        (step_words (half_of plan b way 1) (half_of plan b way 2) (cost_at plan b way)) tails r

    -- its tails by this way and those after it
    unfoldable pub left_on : (tails : ℕ → List (Key × Words)) → ℕ → List (Key × Words) → List (Key × Words)
    left_on tails way r = cond (eqb way 1) (poured_on 2 (tails 2) (poured_on 1 (tails 1) r))
        (cond (eqb way 2) (poured_on 2 (tails 2) r) r)

    pub poured_by_side : (way : ℕ) (tails r : List (Key × Both))
        → side_row choice (poured_by plan b way tails r) ≡ poured_on way (side_row choice tails) (side_row choice r)
    unfolding poured_by poured_on
    poured_by_side way tails r = poured_side (half_of plan b way 1) (half_of plan b way 2) (cost_at plan b way) tails r

    pub left_side : (tails : ℕ → List (Key × Both)) (r : List (Key × Both))
        → side_row choice (left_from plan b tails 1 r)
        ≡ left_on (λ way. side_row choice (tails way)) 1 (side_row choice r)
    unfolding left_from left_on
    left_side tails r =
        poured_by_side 2 (tails 2) (poured_by plan b 1 (tails 1) r)
        ∙ ap (poured_on 2 (side_row choice (tails 2))) (poured_by_side 1 (tails 1) r)

-- a row's beginning, of the choice alone
abbrev pub begun_on : (plan : List ℕ) → (count b : ℕ) → List (Key × Words)
begun_on plan count b = cond (eqb (suc b) count) ((no_edges, (cost_at plan b 0, (0, 0))) ∷ []) []

pub begun_side : (choice : Choice) (plan : List ℕ) (count b : ℕ)
    → side_row choice (begun_with plan count b) ≡ begun_on plan count b
begun_side choice plan count b = by choice (eqb (suc b) count)
  where
    by : (choice c : Bool) → side_row choice (cond c ((no_edges, (own_way plan b, own_way plan b)) ∷ []) [])
        ≡ cond c ((no_edges, own_way plan b) ∷ []) []
    by false true = refl
    by true true = refl
    by choice false = refl
