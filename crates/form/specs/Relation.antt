-- The six relations of document 01 by their numbers: 0 =, 1 ≠, 2 <, 3 ≥, 4 >, 5 ≤. Trusted: definitions only.
-- Rests on the kit's tests of whole numbers, `lt_z` (<) and `le_z` (≤).
use Rattle.std.specs.Prelude.{ℕ, zero, suc, Bool, false, not, eqb, ℤ, pos, negsuc}
use Rattle.std.specs.Int.Signed.{lt_z, le_z}

-- whether two whole numbers are the same (`pos n` is n, `negsuc n` is -(n + 1))
abbrev pub eq_z : ℤ → ℤ → Bool
eq_z (pos a) (pos b) = eqb a b
eq_z (pos a) (negsuc b) = false
eq_z (negsuc a) (pos b) = false
eq_z (negsuc a) (negsuc b) = eqb a b

-- whether the value meets the relation to the constant; a number above 5 is no relation, and nothing meets it
abbrev pub meets : (relation : ℕ) → (value constant : ℤ) → Bool
meets zero value constant = eq_z value constant
meets (suc zero) value constant = not (eq_z value constant)
meets (suc (suc zero)) value constant = lt_z value constant
meets (suc (suc (suc zero))) value constant = le_z constant value
meets (suc (suc (suc (suc zero)))) value constant = lt_z constant value
meets (suc (suc (suc (suc (suc zero))))) value constant = le_z value constant
meets (suc (suc (suc (suc (suc (suc above)))))) value constant = false

-- another number for each of the six; a number above 5 stays as it is
abbrev pub renumbered : (equal unequal less at_least greater at_most : ℕ) → ℕ → ℕ
renumbered equal unequal less at_least greater at_most zero = equal
renumbered equal unequal less at_least greater at_most (suc zero) = unequal
renumbered equal unequal less at_least greater at_most (suc (suc zero)) = less
renumbered equal unequal less at_least greater at_most (suc (suc (suc zero))) = at_least
renumbered equal unequal less at_least greater at_most (suc (suc (suc (suc zero)))) = greater
renumbered equal unequal less at_least greater at_most (suc (suc (suc (suc (suc zero))))) = at_most
renumbered equal unequal less at_least greater at_most (suc (suc (suc (suc (suc (suc above)))))) =
    suc (suc (suc (suc (suc (suc above)))))

-- the relation that holds exactly where this one fails: = and ≠, < and ≥, > and ≤
abbrev pub opposite : ℕ → ℕ
opposite relation = renumbered 1 0 3 2 5 4 relation
