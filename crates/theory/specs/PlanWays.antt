-- The two ways of the plan's words: what holds of both holds of each. Rests on Plan.
use Rattle.std.specs.Prelude.{ℕ, zero, suc}
use Rattle.std.proofs.Common.{arith}
use Rattle.theory.specs.Plan.{IsWay}

pub by_way_lem : (P : ℕ → Type 0) → P 1 → P 2 → (way : ℕ) → IsWay way → P way
by_way_lem P j f zero (l, h) = let z : ⊥ = omega arith in absurd z
by_way_lem P j f (suc zero) w = j
by_way_lem P j f (suc (suc zero)) w = f
by_way_lem P j f (suc (suc (suc n))) (l, h) = let z : ⊥ = omega arith in absurd z

pub by_jump : IsWay 1
by_jump = (omega arith, omega arith)

pub by_fall : IsWay 2
by_fall = (omega arith, omega arith)
