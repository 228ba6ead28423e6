-- Parts of the report's text, after document 01, 'The trainer's cases': a number in digits, a line, a refusal, a route.
-- Trusted: definitions only. A text is a list of ASCII codes. Rests on nothing.
use Rattle.std.specs.Prelude.{cond, List, [], ◌∷◌, ◌++◌, ℕ, zero, suc, ◌+◌, ◌/◌, ◌%◌, ltb, eqb}

-- "refused "
abbrev pub refused_word : List ℕ
refused_word = 114 ∷ 101 ∷ 102 ∷ 117 ∷ 115 ∷ 101 ∷ 100 ∷ 32 ∷ []

-- " at "
abbrev pub at_word : List ℕ
at_word = 32 ∷ 97 ∷ 116 ∷ 32 ∷ []

-- ---- a number, a line

-- The digits of n: those of n / 10, where that is not 0, and the last one. So many digits at most.
unfoldable pub digits_of : ℕ → ℕ → List ℕ
digits_of zero n = []
digits_of (suc most) n = cond (ltb n 10) [] (digits_of most (n / 10)) ++ ((48 + n % 10) ∷ [])

-- 20 digits hold any number of 64 bits.
abbrev pub decimal : ℕ → List ℕ
decimal n = digits_of 20 n

abbrev pub line : List ℕ → ℕ → List ℕ
line word n = word ++ (decimal n ++ (10 ∷ []))

-- A refusal is printed as number and place.
abbrev pub refusal_line : (number place : ℕ) → List ℕ
refusal_line number place = refused_word ++ (decimal number ++ line at_word place)

-- ---- the route: blocks on it with J, F or E for bytes 1, 2, 3

abbrev pub letter_of : ℕ → ℕ
letter_of way = cond (eqb way 1) 74 (cond (eqb way 2) 70 69)

-- A block's byte is 0 where it is not on the route.
abbrev pub step : (block way : ℕ) → List ℕ
step block way = cond (eqb way 0) [] ((32 ∷ []) ++ (decimal block ++ (letter_of way ∷ [])))

unfoldable pub steps_from : (block : ℕ) → List ℕ → List ℕ
steps_from block [] = []
steps_from block (way ∷ ways) = step block way ++ steps_from (suc block) ways

abbrev pub route_line : (word bytes : List ℕ) → List ℕ
route_line word bytes = word ++ (steps_from 0 bytes ++ (10 ∷ []))
