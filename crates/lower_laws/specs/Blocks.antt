-- Blocks and lists: what stands past a list's end, a block of the body's first `count`. Rests on form's Conflict.
use Rattle.std.specs.Prelude.{◌≡◌, refl, List, [], ◌∷◌, ℕ, zero, suc, ◌≤◌, ◌<◌, ltb, length, get_or, take}
use Rattle.std.proofs.Common.{sym, arith, ltb-true, ltb-false, length-take, get_or-take}
use Rattle.laws.specs.Tests.{split}
use Rattle.form.specs.Form.{when}

module _ {A : Type 0} where
  pub beyond : (l : List A) (i : ℕ) (z : A) → length l ≤ i → get_or l i z ≡ z
  beyond [] i z h = refl
  beyond (x ∷ l) zero z h = absurd (no h)
    where
      no : suc (length l) ≤ 0 → ⊥
      no h = omega arith
  beyond (x ∷ l) (suc i) z h = beyond l i z (omega arith)

  -- inside, the default does not matter
  pub within : (l : List A) (i : ℕ) (y z : A) → i < length l → get_or l i y ≡ get_or l i z
  within [] i y z h = absurd (no h)
    where
      no : i < 0 → ⊥
      no h = omega arith
  within (x ∷ l) zero y z h = refl
  within (x ∷ l) (suc i) y z h = within l i y z (omega arith)

  -- of the first n
  pub taken : (n : ℕ) (l : List A) (i : ℕ) (y z : A) → i < length l
      → when (ltb i n) (get_or l i y) z ≡ get_or (take n l) i z
  taken n l i y z h = split (ltb i n)
      (λ e. rw (e, get_or-take n l i z (ltb-true i n e)) (within l i y z h))
      (λ e. rw e (sym (beyond (take n l) i z (omega (arith, ltb-false i n e, length-take n l)))))
