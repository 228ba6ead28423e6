-- How large weights are: the most that each block's steps cost, and what that comes to up to a block. Blocks ascend
-- along a path, so no path weighs more. Rests on Route and Steps.
use Rattle.std.specs.Prelude.{◌≡◌, [], ◌∷◌, ℕ, zero, suc, ◌+◌, ◌-◌, ◌*◌, ◌≤◌, ◌<◌}
use Rattle.std.proofs.Math.Path.{refl}
use Rattle.std.proofs.Common.{sym, subst, le_refl, le_trans, suc-mul, zero-add, zero-mul, arith}
use Rattle.form.specs.declared.Body.{Body}
use Rattle.form.specs.Conflict.{Onward}
use Rattle.theory.specs.Route.{Path, last_block, weight}
use Rattle.theory.specs.pairs.Steps.{Leads}

-- what the blocks below n come to
unfoldable pub up_to : (ℕ → ℕ) → ℕ → ℕ
up_to most zero = 0
up_to most (suc n) = most n + up_to most n

-- the most that a step of each of `count` blocks costs, and that all together come to no more than the limit
pub record Range (count : ℕ) (cost : ℕ → ℕ → ℕ) (limit : ℕ) : Type 0 where
  pub most : ℕ → ℕ
  pub each : (b way : ℕ) → b < count → cost b way ≤ most b
  pub all : up_to most count ≤ limit

module _ (most : ℕ → ℕ) where
  -- one block more
  pub up_next : (b : ℕ) → up_to most (suc b) ≡ most b + up_to most b
  unfolding up_to
  up_next b = refl

  up_step : (b : ℕ) → up_to most b ≤ up_to most (suc b)
  up_step b = rw (up_next b) (omega arith)

  up_more : (b n : ℕ) → up_to most b ≤ up_to most (n + b)
  up_more b zero = rw (zero-add b) (le_refl (up_to most b))
  up_more b (suc n) = let e : suc n + b ≡ suc (n + b) = omega arith in rw e (le_trans (up_more b n) (up_step (n + b)))

  pub up_on : (b c : ℕ) → b ≤ c → up_to most b ≤ up_to most c
  up_on b c h = subst (λ n. up_to most b ≤ up_to most n) (omega arith) (up_more b (c - b))

  -- a block, and all above it
  pub up_past : (b t count : ℕ) → b < t → t ≤ count → most b + up_to most b ≤ up_to most t
  up_past b t count h k =
      le_trans (subst (λ n. n ≤ up_to most (suc b)) (up_next b) (le_refl (up_to most (suc b)))) (up_on (suc b) t h)

-- the same limit for each of n blocks
pub up_same : (most n : ℕ) → up_to (λ _. most) n ≡ n * most
unfolding up_to
up_same most zero = sym (zero-mul most)
up_same most (suc n) = rw (up_same most n, suc-mul n most) (omega arith)

-- a path from b to the last block, with all below b, weighs at most what all blocks come to
pub weight_most : (body : Body) → Onward body → (cost : ℕ → ℕ → ℕ) (most : ℕ → ℕ)
    → ((b way : ℕ) → b < body.count → cost b way ≤ most b)
    → (b : ℕ) (p : Path) → b < body.count → Leads body b p (last_block body)
    → weight cost (last_block body) p + up_to most b ≤ up_to most body.count
unfolding weight
weight_most body w cost most h b [] l k =
    let e : last_block body ≡ b = omega arith in
    rw e (omega (arith, h b 0 l, up_past most b body.count body.count l (le_refl body.count)))
weight_most body w cost most h b (x ∷ p) l k =
    let u = k.0 in
    let e = k.1 in
    let m = k.2 in
    let on = w.above b (x.1, u) m in
    let in_range = w.inside b (x.1, u) m in
    rw e (omega (
      arith,
      h b x.1 l,
      up_past most b u body.count on (omega arith),
      weight_most body w cost most h u p in_range k.3,
    ))
