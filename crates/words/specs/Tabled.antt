-- Lists of a length by a function, rows of sets, a word's least number, and a word whose least number is taken out
-- (LeastOut, TakesLeast): what contracts say of words and arrays of them. Trusted: definitions only. Rests on the laws'
-- Terms.
use Rattle.std.specs.Prelude.{◌≡◌, Bool, true, not, ◌&&◌, cond, List, map, Option, MatchOption, ℕ, ◌<◌, eqb}
use Rattle.std.specs.Int.Count.{count_trailing_zeros}
use Rattle.laws.specs.Terms.{bit, range, set_of}

-- f 0, f 1, and so on, n of them
unfoldable pub tabled : {A : Type 0} → ℕ → (ℕ → A) → List A
tabled n f = map f (range 0 n)

-- for each b below 64, the set of the k below 64 with the test
unfoldable pub rows : (ℕ → ℕ → Bool) → List ℕ
rows f = tabled 64 (λ b. set_of 64 (f b))

-- the least number in a word of 64 bits; 0 where there is none
abbrev pub least : ℕ → ℕ
least x = cond (eqb x 0) 0 (count_trailing_zeros 64 x)

-- k is the least number in the word x, and the word y has the others
pub record LeastOut (x k y : ℕ) : Type 0 where
  pub small : k < 64
  pub least : k ≡ least x
  pub there : bit x k ≡ true
  pub others : (j : ℕ) → bit y j ≡ (bit x j && not (eqb j k))

-- what is left of the word x when its numbers are given one by one: the least is given and taken out, or none, where
-- there is none
abbrev pub TakesLeast : ℕ → Option ℕ → ℕ → Type 0
TakesLeast x given y = MatchOption given ((x ≡ 0) × (y ≡ 0)) (λ k. LeastOut x k y)
