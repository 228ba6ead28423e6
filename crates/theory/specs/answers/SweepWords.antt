-- The sweep on words for pairs in conflict, as the upper layer cites it: Words at Pairwise. Rests on Words, RowSets and
-- Pairwise.
use Rattle.std.specs.Prelude.{◌≡◌, Bool, ◌&&◌, List, map, ℕ, ◌≤◌, ◌<◌, ◌^◌, length}
use Rattle.std.proofs.Math.Path.{sym}
use Rattle.std.proofs.Common.{ap, ◌∙◌}
use Rattle.std.proofs.lemmas.Simd.{map-map}
use Rattle.std.proofs.lemmas.List.{length-map}
use Rattle.laws.specs.Sets.{set_of_lt}
use Rattle.laws.specs.Terms.{Mem}
use Rattle.laws.specs.Orders.{Preference}
use Rattle.form.specs.declared.Body.{Body}
use Rattle.form.specs.Conflict.{Edge, Pair, exits, Onward, listed}
use Rattle.theory.specs.Route.{Path, conflict, tails, best_route}
use Rattle.theory.specs.Row.{Key, key_before, bare, open_edges, found, row_of, open_sets, open_tails, row}
use Rattle.theory.specs.machines.Machine.{fill}
use Rattle.theory.specs.pairs.Edges.{no_edges}
use Rattle.theory.specs.pairs.Backward.{Listing, step_back}
use Rattle.theory.specs.answers.Ways.{tails_by, best_by, open_tails_by}
use Rattle.theory.specs.pairs.Pairwise.{none_open, pairwise}
use Rattle.theory.specs.answers.RowSets.{keys_sets}
use Rattle.theory.specs.answers.Words as over
pub use Rattle.theory.specs.answers.Words.{Words, words_of, on_words, entry_from, words_found, grow_words}
pub use Rattle.theory.specs.answers.Words.{better_words, Fits}

module _ (body : Body) (list : List Pair) (cost : ℕ → ℕ → ℕ) (prefers : ℕ → ℕ → Bool) where
  -- the row by definition, on words
  abbrev pub row_words : ℕ → List (Key × Words)
  row_words b = map (on_words body) (row_of key_before prefers (open_tails body list cost b))

  pub row_words_lem : (b : ℕ) → row body list cost prefers b ≡ map entry_from (row_words b)
  unfolding row
  row_words_lem b = sym (map-map entry_from (on_words body) (row_of key_before prefers (open_tails body list cost b)))

  -- it has one entry for each different set of open edges of b's tails, in their order
  pub words_sets : (b : ℕ) → map (λ e. e.0) (row_words b) ≡ open_sets body list b
  words_sets b =
      map-map (λ (e : Key × Words). e.0) (on_words body) (row_of key_before prefers (open_tails body list cost b))
      ∙ keys_sets body list cost prefers b

  pub words_count : (b : ℕ) → length (row_words b) ≡ length (open_sets body list b)
  words_count b = sym (length-map (row_words b) (λ e. e.0)) ∙ ap length (words_sets b)

  -- row 0 is the first route of the preferred weight, or nothing
  pub row_zero_words : row_words 0 ≡ found no_edges (words_found body (best_route body cost prefers))
  unfolding open_tails tails best_route open_tails_by tails_by best_by
  row_zero_words = over.row_zero_words body (conflict body) (open_edges body list) (none_open body list) cost prefers

  module _ (n : ℕ) where
    -- the entries of the row of one target, with the step in front, into the row r
    abbrev pub pour_words : Edge → List (Key × Words) → List (Key × Words) → List (Key × Words)
    pour_words = over.pour_words body (step_back body list) cost prefers n

    unfoldable pub fill_words : (ℕ → List (Key × Words)) → ℕ → List (ℕ × ℕ) → List (Key × Words) → List (Key × Words)
    unfolding fill
    fill_words = over.fill_words body (step_back body list) cost prefers n

    abbrev pub base_words : ℕ → List (Key × Words)
    base_words = over.base_words body (step_back body list) cost prefers n

    abbrev pub built_words : (ℕ → List (Key × Words)) → ℕ → List (Key × Words)
    built_words R b = fill_words R b (exits body b) (base_words b)

    -- the rows above are those by definition: then the built row is
    pub sweep_words : Onward body → Listing body list → Preference prefers → body.count ≤ n
        → (R : ℕ → List (Key × Words)) (b : ℕ) → b < body.count
        → ((t : ℕ) → b < t → t < body.count → R t ≡ row_words t) → built_words R b ≡ row_words b
    unfolding fill_words open_tails tails open_tails_by tails_by
    sweep_words w L ch enough R b h k =
        over.sweep_words body w (pairwise body list w L) cost prefers ch n enough R b h k

-- ---- how large the entries are

module _ (body : Body) (w : Onward body) (list : List Pair) (L : Listing body list) (cost : ℕ → ℕ → ℕ) (most : ℕ → ℕ)
    (cheap : (b way : ℕ) → b < body.count → cost b way ≤ most b)
    (prefers : ℕ → ℕ → Bool) (ch : Preference prefers) where
  opens_lt : (b : ℕ) (p : Path)
      → ((open_edges body list b p).0 < 2 ^ body.count) × ((open_edges body list b p).1 < 2 ^ body.count)
  unfolding open_edges
  opens_lt b p = (
    set_of_lt body.count (λ k. bare body p (k, 1) && listed list b (k, 1)),
    set_of_lt body.count (λ k. bare body p (k, 2) && listed list b (k, 2)),
  )

  pub entry_fits : (b : ℕ) → b < body.count → (e : Key × Words) → Mem e (row_words body list cost prefers b)
      → Fits body most b e
  unfolding open_tails tails open_tails_by tails_by
  entry_fits = over.entry_fits body w (pairwise body list w L) opens_lt cost most cheap prefers ch
