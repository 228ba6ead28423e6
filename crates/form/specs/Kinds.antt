-- Laws of the kinds of records: what the code's tests of a kind say of its row in the table. Rests on Said and Form.
use Rattle.std.specs.Prelude.{◌≡◌, ◌≤◌, Bool, true, false, eqb}
use Rattle.std.proofs.Common.{refl, ap, sym, ◌∙◌, arith}
use denote.Enum.Bare.{sameb}
use mir.Val.{bool_byte}
use Rattle.form.specs.contracts.Kind.{the_type}
use Rattle.form.specs.declared.Kind.{Kind as KindCase}
use Rattle.form.specs.declared.Kind.TheVariants.{Unknown, Counter, Block, Effect}
use Rattle.form.specs.Said.{Kind, row_of}
use Rattle.form.specs.Form.{one_if, block_role, effect_role}

pub block_told : (k : KindCase) (row : Kind) → row_of k ≡ row → sameb the_type k Block ≡ eqb row.role block_role
block_told k row e = is k ∙ ap (λ (r : Kind). eqb r.role block_role) e
  where
    is : (k : KindCase) → sameb the_type k Block ≡ eqb (row_of k).role block_role
    is Unknown = refl
    is Counter = refl
    is Block = refl
    is Effect = refl

pub effect_told : (k : KindCase) (row : Kind) → row_of k ≡ row → sameb the_type k Effect ≡ eqb row.role effect_role
effect_told k row e = is k ∙ ap (λ (r : Kind). eqb r.role effect_role) e
  where
    is : (k : KindCase) → sameb the_type k Effect ≡ eqb (row_of k).role effect_role
    is Unknown = refl
    is Counter = refl
    is Block = refl
    is Effect = refl

pub no_block : (k : KindCase) (row : Kind) → row_of k ≡ row → (k ≡ Block → ⊥) → eqb row.role block_role ≡ false
no_block Unknown row e b = rw (sym e)
no_block Counter row e b = rw (sym e)
no_block Block row e b = absurd (b refl)
no_block Effect row e b = rw (sym e)

pub no_effect : (k : KindCase) (row : Kind) → row_of k ≡ row → (k ≡ Effect → ⊥) → eqb row.role effect_role ≡ false
no_effect Unknown row e f = rw (sym e)
no_effect Counter row e f = rw (sym e)
no_effect Block row e f = rw (sym e)
no_effect Effect row e f = absurd (f refl)

-- a test counts one or none
pub counted : (test told : Bool) → test ≡ told → bool_byte test ≡ one_if told
counted test told e = is test ∙ ap one_if e
  where
    is : (test : Bool) → bool_byte test ≡ one_if test
    is true = refl
    is false = refl

pub at_most_one : (test : Bool) → bool_byte test ≤ 1
at_most_one true = omega arith
at_most_one false = omega arith
