-- The contracts of `find` and `sets_of` leave one answer, for the words of every sound body. Rests on sets' Found.
use Rattle.std.specs.Prelude.{◌≡◌}
use Rattle.std.proofs.Common.{sym, ◌∙◌}
use Rattle.form.specs.declared.Body.{Body}
use Rattle.form.specs.Conflict.{Sound}
use Rattle.sets.specs.declared.Local.{Local}
use Rattle.sets.specs.declared.Found.{Found}
use Rattle.sets.specs.declared.Sets.{Sets}
use Rattle.sets.specs.Local.{local_of}
use Rattle.sets.specs.Found.{SetsFrom, FoundFrom}

module _ (body : Body) (sound : Sound body) (local : Local) (is : local ≡ local_of body) where
  pub one_sets : (a b : Sets) → SetsFrom local a → SetsFrom local b → a ≡ b
  one_sets a b p q = p body sound is ∙ sym (q body sound is)

  pub one_found : (a b : Found) → FoundFrom local a → FoundFrom local b → a ≡ b
  one_found a b p q = p body sound is ∙ sym (q body sound is)
