-- `Tests::edge_rows` meets its contract. The loop's invariant: the rows below b are right, the others are empty.
use Rattle.std.proofs.Common.{◌≡◌, ℕ}
use Rattle.laws.specs.Terms.{bit}
use Rattle.form.specs.Conflict.{opposes}
use Rattle.words.specs.Filled.{Filling}
use Rattle.local_sets.proofs.Tests.edge_rows.Given as goal

abbrev pub invariant-loop-b : goal.invariant-loop-b
invariant-loop-b l = record {
  jump_jump : Filling 0 (λ b x. (k : ℕ) → bit x k ≡ opposes l.body (b, 1) (k, 1)) 64 l.b l.jumping.jump;
  jump_fall : Filling 0 (λ b x. (k : ℕ) → bit x k ≡ opposes l.body (b, 1) (k, 2)) 64 l.b l.jumping.fall;
  fall_jump : Filling 0 (λ b x. (k : ℕ) → bit x k ≡ opposes l.body (b, 2) (k, 1)) 64 l.b l.falling.jump;
  fall_fall : Filling 0 (λ b x. (k : ℕ) → bit x k ≡ opposes l.body (b, 2) (k, 2)) 64 l.b l.falling.fall;
}
