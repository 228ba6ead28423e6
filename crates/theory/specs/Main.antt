-- The theorems as the upper layer cites them, for a sound body with its own conflict list, any costs and any
-- preference: a turn of the sweep, row 0, and the full walk. Both ways are held to the same definitions, so they agree.
-- The bound on runs is in proofs/runs. Rests on all that is above.
use Rattle.std.specs.Prelude.{◌≡◌, Bool, List, ℕ, ◌<◌}
use Rattle.std.proofs.Math.Option.{none}
use Rattle.laws.specs.Orders.{Preference}
use Rattle.form.specs.declared.Body.{Body}
use Rattle.form.specs.Conflict.{Sound, conflicts}
use Rattle.theory.specs.Route.{tails, best_route, walked}
use Rattle.theory.specs.Row.{Key, found}
use Rattle.theory.specs.machines.Walk.{within, walk, tally}
use Rattle.theory.specs.pairs.Edges.{no_edges}
use Rattle.theory.specs.pairs.Forward.{on_machine}
use Rattle.theory.specs.pairs.Listing.{listing}
use Rattle.theory.specs.answers.Ways.{tails_by, best_by, walked_by}
use Rattle.theory.specs.pairs.Pairwise.{pairwise}
use Rattle.theory.specs.answers.SweepWords.{Words, words_found, row_words, row_zero_words, built_words}
use Rattle.theory.specs.answers.SweepWords.{sweep_words}
use Rattle.theory.specs.answers.WalkWords.{advance, finish, nothing, walk_words}

module _ (body : Body) (g : Sound body) (cost : ℕ → ℕ → ℕ) (prefers : ℕ → ℕ → Bool) (ch : Preference prefers) where
  -- the row built from the rows above is the row by definition
  pub sweep_turn : (R : ℕ → List (Key × Words)) (b : ℕ) → b < body.count
      → ((t : ℕ) → b < t → t < body.count → R t ≡ row_words body (conflicts body) cost prefers t)
      → built_words body (conflicts body) cost prefers 64 R b ≡ row_words body (conflicts body) cost prefers b
  sweep_turn = sweep_words body (conflicts body) cost prefers 64 g.onward (listing body g.onward) ch g.few

  -- row 0 holds the first conflict-free route of the preferred weight, or nothing when there is none
  pub sweep_answer : row_words body (conflicts body) cost prefers 0
      ≡ found no_edges (words_found body (best_route body cost prefers))
  sweep_answer = row_zero_words body (conflicts body) cost prefers

  -- the full walk: over the budget, or the number of conflict-free beginnings and that same route
  pub walk_answer : (budget : ℕ)
      → walk (on_machine body cost) (advance cost) (tally prefers (finish cost) body.count budget)
      body.count 0 no_edges nothing (0, none)
      ≡ within budget (walked body) (words_found body (best_route body cost prefers))
  unfolding walked best_route tails walked_by best_by tails_by
  walk_answer =
      walk_words body g.onward (pairwise body (conflicts body) g.onward (listing body g.onward))
      cost prefers ch
