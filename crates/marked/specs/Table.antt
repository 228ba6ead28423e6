-- The marked cases of document 01, 'The trainer's cases', and the trainer's body's least route of request A1, as one
-- table, and what is claimed of a row. Trusted: definitions only. Rests on the trusted definitions of form and theory.
use Rattle.std.specs.Prelude.{List, [], ◌∷◌, ◌≡◌, ℕ, ℤ, pos}
use Rattle.std.proofs.Math.Option.{some}
use Rattle.laws.specs.Terms.{Choice, heaviest, lightest}
use Rattle.form.specs.Said.{Accepted}
use Rattle.form.specs.Conflict.{Condition, Contradict}
use Rattle.form.specs.Counter.{Count}
use Rattle.form.specs.Form.{judge, body_of}
use Rattle.theory.specs.Route.{Path, side_of, route_on, route_bytes}

pub data Case : Type 0 where
  -- initial, step, relation, limit: the loop count, or 20
  counts : ℤ → ℤ → ℕ → ℤ → ℕ → Case
  refused : ℤ → ℤ → ℕ → ℤ → Case
  -- two conditions on one variable, relation and constant each, conflict, or do not
  conflicting : ℕ → ℤ → ℕ → ℤ → Case
  compatible : ℕ → ℤ → ℕ → ℤ → Case
  -- a form, and the route bytes of its first conflict-free route of the choice, heaviest or lightest
  route : Choice → List ℕ → List ℕ → Case

abbrev pub on : ℕ → ℤ → Condition
on relation constant = record { variable = 0; relation = relation; constant = constant }

abbrev pub Claim : Case → Type 0
Claim (counts initial step relation limit k) = Count initial step relation limit k
Claim (refused initial step relation limit) = (k : ℕ) → Count initial step relation limit k → ⊥
Claim (conflicting r c q d) = Contradict (on r c) (on q d)
Claim (compatible r c q d) = Contradict (on r c) (on q d) → ⊥
Claim (route choice form bytes) =
    (judge form ≡ Accepted)
    × ((best : ℕ × Path) × (route_on (body_of form) (side_of (body_of form) choice) ≡ some best)
    × (route_bytes (body_of form) best.1 ≡ bytes))

-- Relations: 0 =, 1 ≠, 2 <, 3 ≥, 4 >, 5 ≤
abbrev pub trainers_form : List ℕ
trainers_form =
    17 ∷ 0 ∷ 1 ∷ 0 ∷ 0 ∷ 0 ∷ 0 ∷ 0 ∷ 1 ∷ 0 ∷ 0 ∷ 0 ∷ 2 ∷ 10 ∷ 0 ∷ 0 ∷ 0 ∷
    17 ∷ 0 ∷ 2 ∷ 0 ∷ 7 ∷ 0 ∷ 0 ∷ 0 ∷ 3 ∷ 2 ∷ 1 ∷ 0 ∷ 3 ∷ 40 ∷ 0 ∷ 0 ∷ 0 ∷
    17 ∷ 0 ∷ 2 ∷ 0 ∷ 3 ∷ 0 ∷ 0 ∷ 0 ∷ 1 ∷ 3 ∷ 0 ∷ 0 ∷ 0 ∷ 0 ∷ 0 ∷ 0 ∷ 0 ∷
    10 ∷ 0 ∷ 3 ∷ 0 ∷ 1 ∷ 1 ∷ 0 ∷ 0 ∷ 0 ∷ 0 ∷
    17 ∷ 0 ∷ 2 ∷ 0 ∷ 11 ∷ 0 ∷ 0 ∷ 0 ∷ 1 ∷ 3 ∷ 0 ∷ 0 ∷ 0 ∷ 0 ∷ 0 ∷ 0 ∷ 0 ∷
    10 ∷ 0 ∷ 3 ∷ 0 ∷ 1 ∷ 1 ∷ 1 ∷ 0 ∷ 0 ∷ 0 ∷
    17 ∷ 0 ∷ 2 ∷ 0 ∷ 2 ∷ 0 ∷ 0 ∷ 0 ∷ 3 ∷ 4 ∷ 5 ∷ 0 ∷ 2 ∷ 20 ∷ 0 ∷ 0 ∷ 0 ∷
    17 ∷ 0 ∷ 2 ∷ 0 ∷ 25 ∷ 0 ∷ 0 ∷ 0 ∷ 1 ∷ 5 ∷ 0 ∷ 0 ∷ 0 ∷ 0 ∷ 0 ∷ 0 ∷ 0 ∷
    17 ∷ 0 ∷ 2 ∷ 0 ∷ 4 ∷ 0 ∷ 0 ∷ 0 ∷ 3 ∷ 7 ∷ 6 ∷ 1 ∷ 0 ∷ 0 ∷ 0 ∷ 0 ∷ 0 ∷
    17 ∷ 0 ∷ 2 ∷ 0 ∷ 18 ∷ 0 ∷ 0 ∷ 0 ∷ 1 ∷ 7 ∷ 0 ∷ 0 ∷ 0 ∷ 0 ∷ 0 ∷ 0 ∷ 0 ∷
    17 ∷ 0 ∷ 2 ∷ 0 ∷ 1 ∷ 0 ∷ 0 ∷ 0 ∷ 0 ∷ 0 ∷ 0 ∷ 0 ∷ 0 ∷ 0 ∷ 0 ∷ 0 ∷ 0 ∷ []

abbrev pub table : List Case
table =
    counts (pos 0) (pos 1) 2 (pos 10) 10
    ∷ refused (pos 0) (pos 3) 1 (pos 100)
    ∷ counts (pos 0) (pos 3) 1 (pos 99) 33
    ∷ counts (pos 5) (pos 0) 2 (pos 5) 1
    ∷ refused (pos 5) (pos 0) 0 (pos 5)
    ∷ counts (pos 7) (pos 1) 0 (pos 8) 2
    ∷ refused (pos 2147483646) (pos 1) 5 (pos 2147483647)
    ∷ counts (pos 2147483646) (pos 1) 2 (pos 2147483647) 1
    ∷ conflicting 4 (pos 2) 2 (pos 3)
    ∷ compatible 4 (pos 2) 2 (pos 4)
    ∷ conflicting 0 (pos 5) 1 (pos 5)
    ∷ compatible 3 (pos 2) 5 (pos 2)
    ∷ route heaviest trainers_form (1 ∷ 0 ∷ 1 ∷ 2 ∷ 0 ∷ 2 ∷ 1 ∷ 3 ∷ [])
    ∷ route lightest trainers_form (2 ∷ 1 ∷ 0 ∷ 2 ∷ 0 ∷ 1 ∷ 0 ∷ 3 ∷ [])
    ∷ []
