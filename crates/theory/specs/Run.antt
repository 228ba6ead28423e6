-- Runs, after document 01, 'The two ways': states of i32 values, an iteration, a run, whether it is whole, and its
-- cost. Trusted: definitions only. RunWide's theorems say how wide they are. Rests on Route and form's Conflict.
use Rattle.std.specs.Prelude.{◌≡◌, Bool, true, false, List, [], ◌∷◌, ℕ, suc, ◌+◌, ℤ}
use Rattle.std.specs.Int.{w32}
use Rattle.std.proofs.Common.{SFits}
use Rattle.laws.specs.Terms.{Mem}
use Rattle.form.specs.declared.Body.{Body}
use Rattle.form.specs.declared.Effect.{Effect}
use Rattle.form.specs.Relation.{meets}
use Rattle.form.specs.Conflict.{block, effects_of, exits}
use Rattle.theory.specs.Route.{Path, last_block, weight}

-- What each variable holds, an i32.
pub record State : Type 0 where
  pub value : ℕ → ℤ
  pub fits : (v : ℕ) → SFits w32 (value v)

-- An effect gives its variable the constant, or any i32; the others stay.
pub record Does (a : Effect) (s t : State) : Type 0 where
  pub constant : a.how ≡ 1 → t.value a.variable ≡ a.constant
  pub others : (v : ℕ) → (v ≡ a.variable → ⊥) → t.value v ≡ s.value v

-- Effects in order.
pub data Do : List Effect → State → State → Type 0 where
  done : {s : State} → Do [] s s
  does : {a : Effect} {l : List Effect} {r s t : State} → Does a r s → Do l s t → Do (a ∷ l) r t

-- The relation of the test in block b holds.
abbrev pub holds_at : Body → ℕ → State → Bool
holds_at body b s = meets (block body b).relation (s.value (block body b).variable) (block body b).constant

-- A test is left by jump if its relation holds, else by fall; another block by any of its exits.
pub record Leaves (body : Body) (b : ℕ) (s : State) (o : ℕ × ℕ) : Type 0 where
  pub exit : Mem o (exits body b)
  pub jump : (block body b).ending ≡ 3 → holds_at body b s ≡ true → o.0 ≡ 1
  pub fall : (block body b).ending ≡ 3 → holds_at body b s ≡ false → o.0 ≡ 2

-- An iteration from block b on: the effects of each block, then its ending, down to the last block's effects.
pub data Iteration (body : Body) : ℕ → State → Path → State → Type 0 where
  ends : {b : ℕ} {s t : State} → suc b ≡ body.count → Do (effects_of body b) s t → Iteration body b s [] t
  goes : {b : ℕ} {s t u : State} {p : Path} (o : ℕ × ℕ) → Do (effects_of body b) s t → Leaves body b t o
      → Iteration body o.1 t p u
      → Iteration body b s ((b, o.0) ∷ p) u

-- An iteration that is left early: it stops in a block that it has entered.
pub data Beginning (body : Body) : ℕ → State → Path → ℕ → Type 0 where
  stops : {b : ℕ} {s : State} → Beginning body b s [] b
  passes : {b last : ℕ} {s t : State} {p : Path} (o : ℕ × ℕ) → Do (effects_of body b) s t → Leaves body b t o
      → Beginning body o.1 t p last
      → Beginning body b s ((b, o.0) ∷ p) last

-- A run: iterations from block 0, each from any state, since variables pass as left or changed from outside, and each
-- to its end or left early. Their paths, in order, each with the block that it stops in.
pub data Run (body : Body) : List (Path × ℕ) → Type 0 where
  rests : Run body []
  repeats : {s t : State} {p : Path} {l : List (Path × ℕ)} → Iteration body 0 s p t → Run body l
      → Run body ((p, last_block body) ∷ l)
  breaks : {s : State} {p : Path} {last : ℕ} {l : List (Path × ℕ)} → Beginning body 0 s p last → Run body l
      → Run body ((p, last) ∷ l)

-- Whether a run is whole: none of its iterations is left early.
unfoldable pub whole : {body : Body} {l : List (Path × ℕ)} → Run body l → Bool
whole rests = true
whole (repeats i r) = whole r
whole (breaks i r) = false

-- What the run costs: the costs of the blocks that its iterations enter.
unfoldable pub run_cost : Body → (cost : ℕ → ℕ → ℕ) → List (Path × ℕ) → ℕ
run_cost body cost [] = 0
run_cost body cost (x ∷ l) = weight cost x.1 x.0 + run_cost body cost l
