-- `words::put` meets its contract: the test's digit, shifted to k, is k alone or nothing.
use Rattle.std.proofs.Common.{◌≡◌, ℕ, ◌*◌, ◌%◌, ◌^◌, ◌<◌, Bool, true, false, ◌&&◌, ◌||◌, eqb, bit_or, ap, ◌∙◌}
use Rattle.std.proofs.Math.Nat.{zero-mul}
use Rattle.std.specs.Int.{from_bool}
use Rattle.laws.specs.Terms.{bit}
use Rattle.laws.specs.Sets.{shl_one, bit_with, bit_or_lem, bit_none}
use Rattle.words.proofs.put.Goals as goal

shifted : (test : Bool) (x k j : ℕ) → k < 64
    → bit (bit_or x ((from_bool test * 2 ^ k) % 2 ^ 64)) j ≡ bit x j || (test && eqb j k)
shifted true x k j h = ap (λ (z : ℕ). bit (bit_or x z) j) (shl_one 64 k h) ∙ bit_with x k j
shifted false x k j h =
    ap (λ (z : ℕ). bit (bit_or x (z % 2 ^ 64)) j) (zero-mul (2 ^ k)) ∙ bit_or_lem x 0 j
    ∙ ap (λ (b : Bool). bit x j || b) (bit_none j)

pub returns : goal.returns
returns c j =
    let a = c.args in
    rw c.from.ensures (shifted a.test a.x a.k j c.requires)
