-- A derived default is the struct of zeros: what the derive promises of each field, as one equation. Rests on Form.
use Rattle.std.specs.Prelude.{◌≡◌, pos}
use Rattle.form.specs.declared.Block.{Block}
use Rattle.form.specs.declared.Effect.{Effect}
use Rattle.form.specs.Form.{zero_block, zero_effect}

pub block_zeros :
    (k : Block)
    → (k.cost ≡ 0) × ((k.ending ≡ 0) × ((k.jump ≡ 0) × ((k.fall ≡ 0) × ((k.variable ≡ 0) × ((k.relation ≡ 0)
    × ((k.constant ≡ pos 0) × (k.effects ≡ 0)))))))
    → k ≡ zero_block
block_zeros k z =
    λ i. record {
      cost = z.0 i;
      ending = z.1.0 i;
      jump = z.1.1.0 i;
      fall = z.1.1.1.0 i;
      variable = z.1.1.1.1.0 i;
      relation = z.1.1.1.1.1.0 i;
      constant = z.1.1.1.1.1.1.0 i;
      effects = z.1.1.1.1.1.1.1 i;
    }

pub effect_zeros :
    (e : Effect) → (e.variable ≡ 0) × ((e.how ≡ 0) × (e.constant ≡ pos 0)) → e ≡ zero_effect
effect_zeros e z = λ i. record { variable = z.0 i; how = z.1.0 i; constant = z.1.1 i }
