-- What the report program prints, after document 01, 'The trainer's cases', and request A1. Trusted: definitions only.
-- A text is a list of ASCII codes. Rests on lines' Lines (the words and the walk's line), on the Answers of sweep_steps
-- and walk (what the two ways owe) and on form's Form and Conflict (the body and its conflict list).
use Rattle.std.specs.Prelude.{List, ◌++◌, ◌≡◌, ℕ, length, Result, Ok, Err}
use Rattle.laws.specs.Terms.{heaviest, lightest}
use Rattle.form.specs.declared.Body.{Body}
use Rattle.form.specs.declared.Refusal.{Refusal}
use Rattle.form.specs.Said.{number_of}
use Rattle.form.specs.Form.{body_of}
use Rattle.form.specs.Conflict.{conflicts}
use Rattle.sweep_steps.specs.declared.Routed.{Routed}
use Rattle.walk.specs.declared.Walked.{Walked}
use Rattle.walk.specs.Answer.{WalkOwed, said}
use Rattle.plan.specs.Owed.{route_in}
use Rattle.sweep_steps.specs.Answer.{OwnTableOwed}
use Rattle.text.specs.Text.{line, refusal_line, route_line}
use Rattle.lines.specs.Lines.{blocks_word, iterations_word, conflicts_word, weight_word, bound_word, route_word, kept_word}
use Rattle.lines.specs.Lines.{least_word, least_route_word, walked_line, no_routes, budget}

abbrev pub ten_lines : Body → (iterations weight bound least kept : ℕ) → (routes : List ℕ) → Result Walked Refusal
    → List ℕ
ten_lines body iterations weight bound least kept routes walk =
    line blocks_word body.count
    ++ (line iterations_word iterations
    ++ (line conflicts_word (length (conflicts body))
    ++ (line weight_word weight
    ++ (line bound_word bound
    ++ (route_line route_word (route_in heaviest body.count routes)
    ++ (line least_word least
    ++ (route_line least_route_word (route_in lightest body.count routes)
    ++ (line kept_word kept ++ walked_line walk))))))))

-- The text for these bytes: the sweep's refusal alone; or the ten lines, from the sweep's answer and routes and the
-- walk's answer. The sweep is that over a table of 1,024 entries.
pub data Reported (form text : List ℕ) : Type 0 where
  refused : (refusal : Refusal) (routes : List ℕ) → OwnTableOwed form no_routes (Err refusal) routes
      → text ≡ refusal_line (number_of refusal.fault) refusal.place → Reported form text
  reported : (swept : Routed) (routes : List ℕ) → OwnTableOwed form no_routes (Ok swept) routes
      → (walk : Result Walked Refusal) (held : List ℕ) → WalkOwed form budget no_routes (said walk, held)
      → text
      ≡ ten_lines (body_of form) swept.totals.iterations swept.totals.weight swept.totals.bound swept.totals.least
      swept.kept routes walk
      → Reported form text
