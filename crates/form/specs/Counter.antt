-- Counted loops of document 01: the body runs, the step is added, the relation to the limit is tested, and the body
-- repeats while it holds. Trusted: definitions only. Rests on Relation and on the kit's `SFits w32 z`, that z fits i32.
use Rattle.std.specs.Prelude.{◌≡◌, true, false, ℕ, zero, suc, ◌<◌, ◌≤◌, ℤ, ◌+ℤ◌}
use Rattle.std.specs.Int.{w32}
use Rattle.std.proofs.Common.{SFits}
use Rattle.form.specs.Relation.{meets}

-- the counter's value after j steps
unfoldable pub after : (initial step : ℤ) (j : ℕ) → ℤ
after initial step zero = initial
after initial step (suc j) = after initial step j +ℤ step

-- k is the count: the values after steps 1 to k all fit i32, the relation holds after each step before the k-th and
-- fails after the k-th. `least` is the least number of passes, 1 where the test stands at the bottom of the body as
-- here. (With 0 the test stands at the top.)
pub record IsCount (least : ℕ) (initial step : ℤ) (relation : ℕ) (limit : ℤ) (k : ℕ) : Type 0 where
  pub enough : least ≤ k
  pub fit : (j : ℕ) → 1 ≤ j → j ≤ k → SFits w32 (after initial step j)
  pub again : (j : ℕ) → least ≤ j → j < k → meets relation (after initial step j) limit ≡ true
  pub ends : meets relation (after initial step k) limit ≡ false

-- the count of a loop of document 01
abbrev pub Count : (initial step : ℤ) (relation : ℕ) (limit : ℤ) (k : ℕ) → Type 0
Count initial step relation limit k = IsCount 1 initial step relation limit k
