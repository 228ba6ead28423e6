-- A run of no more iterations than the count costs at most the bound of the count and the weight in row 0, for a sound
-- body with its own conflict list and any costs. Rests on Bound and on the answers' words.
use Rattle.std.specs.Prelude.{◌≡◌, refl, List, [], ◌∷◌, ℕ, ◌≤◌, length}
use Rattle.std.proofs.Common.{sym, ap, subst, ◌∙◌, arith}
use Rattle.std.proofs.Math.Option.{Option, none, some}
use Rattle.laws.specs.Terms.{heavier}
use Rattle.form.specs.declared.Body.{Body}
use Rattle.form.specs.Conflict.{Sound, conflicts}
use Rattle.theory.specs.Route.{Path, best_route, bound_of}
use Rattle.theory.specs.Row.{Key, found}
use Rattle.theory.specs.Run.{Run, run_cost}
use Rattle.theory.specs.machines.Machine.{Val}
use Rattle.theory.specs.pairs.Edges.{no_edges}
use Rattle.theory.specs.answers.SweepWords.{Words, words_of, words_found, row_words, row_zero_words}
use Rattle.theory.proofs.runs.Bound.{run_bound}

-- a run of no more iterations than the count costs at most the bound of the count and the weight in row 0
pub run_most : (body : Body) → Sound body → (cost : ℕ → ℕ → ℕ) → ((b way : ℕ) → cost b 0 ≤ cost b way) → (v : Words)
    → row_words body (conflicts body) cost heavier 0 ≡ (no_edges, v) ∷ []
    → (count : ℕ) {l : List (Path × ℕ)} → Run body l → length l ≤ count → run_cost body cost l ≤ bound_of count v.0
run_most body g cost least v h count {l} r n =
    by (best_route body cost heavier) refl (sym (row_zero_words body (conflicts body) cost heavier) ∙ h)
  where
    by : (o : Option Val) → best_route body cost heavier ≡ o → found no_edges (words_found body o) ≡ (no_edges, v) ∷ []
        → run_cost body cost l ≤ bound_of count v.0
    by none e f = let z : ◌≡◌ {A = ℕ} 0 1 = cc in absurd (omega arith)
    by (some u) e f =
        let d : ◌≡◌ {A = Key × Words} (no_edges, words_of body u) (no_edges, v) = cc in
        subst (λ (x : Words). run_cost body cost l ≤ bound_of count x.0) (ap (λ (e : Key × Words). e.1) d)
        (run_bound body g cost least u e count r n)
