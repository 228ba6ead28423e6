-- `Tests::effect_rows` meets its contract. The loop's invariant: the effects of the blocks below b are passed, and the
-- rows below b are right, the others empty.
use Rattle.std.proofs.Common.{◌≡◌, ℕ, ◌&&◌, drop}
use Rattle.laws.specs.Terms.{bit}
use Rattle.form.specs.Conflict.{block, effects_below, is_test, touches, denies}
use Rattle.words.specs.Filled.{Filling}
use Rattle.local_sets.proofs.Tests.effect_rows.Given as goal

abbrev pub invariant-loop-b : goal.invariant-loop-b
invariant-loop-b l = record {
  passed : l.left ≡ drop (effects_below l.body l.b) l.body.effects;
  touched : Filling 0 (λ b x. (k : ℕ) → bit x k ≡ is_test l.body k && touches l.body b (block l.body k).variable) 64
      l.b l.touched;
  jumps : Filling 0 (λ b x. (k : ℕ) → bit x k ≡ denies l.body b (k, 1)) 64 l.b l.denied.jump;
  falls : Filling 0 (λ b x. (k : ℕ) → bit x k ≡ denies l.body b (k, 2)) 64 l.b l.denied.fall;
}
