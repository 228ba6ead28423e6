-- The words of the report's lines, the walk's line, and what the program lends and asks, after document 01, 'The
-- trainer's cases', and request A1. Trusted: definitions only. A text is a list of ASCII codes. Rests on text's Text
-- and on the walk's cases.
use Rattle.std.specs.Prelude.{List, [], ◌∷◌, ℕ, replicate, Result, Ok, Err}
use Rattle.form.specs.declared.Refusal.{Refusal}
use Rattle.walk.specs.declared.Walked.{Walked}
use Rattle.text.specs.Text.{line}

-- ---- the words

-- "blocks "
abbrev pub blocks_word : List ℕ
blocks_word = 98 ∷ 108 ∷ 111 ∷ 99 ∷ 107 ∷ 115 ∷ 32 ∷ []

-- "iterations "
abbrev pub iterations_word : List ℕ
iterations_word = 105 ∷ 116 ∷ 101 ∷ 114 ∷ 97 ∷ 116 ∷ 105 ∷ 111 ∷ 110 ∷ 115 ∷ 32 ∷ []

-- "conflicts "
abbrev pub conflicts_word : List ℕ
conflicts_word = 99 ∷ 111 ∷ 110 ∷ 102 ∷ 108 ∷ 105 ∷ 99 ∷ 116 ∷ 115 ∷ 32 ∷ []

-- "weight "
abbrev pub weight_word : List ℕ
weight_word = 119 ∷ 101 ∷ 105 ∷ 103 ∷ 104 ∷ 116 ∷ 32 ∷ []

-- "bound "
abbrev pub bound_word : List ℕ
bound_word = 98 ∷ 111 ∷ 117 ∷ 110 ∷ 100 ∷ 32 ∷ []

-- "route"
abbrev pub route_word : List ℕ
route_word = 114 ∷ 111 ∷ 117 ∷ 116 ∷ 101 ∷ []

-- "least "
abbrev pub least_word : List ℕ
least_word = 108 ∷ 101 ∷ 97 ∷ 115 ∷ 116 ∷ 32 ∷ []

-- "least route"
abbrev pub least_route_word : List ℕ
least_route_word = 108 ∷ 101 ∷ 97 ∷ 115 ∷ 116 ∷ 32 ∷ 114 ∷ 111 ∷ 117 ∷ 116 ∷ 101 ∷ []

-- "kept "
abbrev pub kept_word : List ℕ
kept_word = 107 ∷ 101 ∷ 112 ∷ 116 ∷ 32 ∷ []

-- "walked "
abbrev pub walked_word : List ℕ
walked_word = 119 ∷ 97 ∷ 108 ∷ 107 ∷ 101 ∷ 100 ∷ 32 ∷ []

-- "walked over\n"
abbrev pub over_line : List ℕ
over_line = 119 ∷ 97 ∷ 108 ∷ 107 ∷ 101 ∷ 100 ∷ 32 ∷ 111 ∷ 118 ∷ 101 ∷ 114 ∷ 10 ∷ []

-- ---- the walk

-- Walked, or `over` when 41: where the sweep answers, the walk refuses by nothing else (report.Promise.only_over).
abbrev pub walked_line : Result Walked Refusal → List ℕ
walked_line (Ok w) = line walked_word w.walked
walked_line (Err refusal) = over_line

-- The program's lent memory, 128 bytes for both routes, and its walk budget.
abbrev pub no_routes : List ℕ
no_routes = replicate 128 0

abbrev pub budget : ℕ
budget = 100000
