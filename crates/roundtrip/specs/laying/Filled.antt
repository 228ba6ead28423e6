-- An array filled from the front holds the list that it was filled with, and zeros past it; the effects of a body up to
-- its total. Rests on Form.
use mathlib.Core.List.{List, [], ◌∷◌}
use Rattle.std.specs.Prelude.{◌≡◌, length, take}
use Rattle.std.proofs.Math.Path.{refl, ap}
use Prim.Native.Nat.{ℕ, zero, suc, ◌≤◌}
use Rattle.std.proofs.Common.{arith}
use Rattle.form.specs.declared.Body.{Body}
use Rattle.form.specs.declared.Effect.{Effect}
use Rattle.form.specs.Form.{fill}

-- The effects that the total counts, as Laying's blocks_counted are the blocks that the count does
abbrev pub effects_counted : Body → List Effect
effects_counted body = take body.total body.effects

module _ {A : Type 0} (z : A) where
  pub fill_length : (n : ℕ) (l : List A) → length (fill z n l) ≡ n
  unfolding fill
  fill_length zero l = refl
  fill_length (suc n) [] = ap suc (fill_length n [])
  fill_length (suc n) (x ∷ l) = ap suc (fill_length n l)

  pub take_fill : (n : ℕ) (l : List A) → length l ≤ n → take (length l) (fill z n l) ≡ l
  unfolding fill
  take_fill zero [] h = refl
  take_fill zero (x ∷ l) h = absurd (omega arith)
  take_fill (suc n) [] h = refl
  take_fill (suc n) (x ∷ l) h = ap (λ (r : List A). x ∷ r) (take_fill n l (omega arith))
