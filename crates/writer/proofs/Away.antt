-- The writer's answer where the verdict on the bytes laid out is a refusal: that refusal, and no byte is written. Rests
-- on form's Writing.
use Rattle.std.specs.Prelude.{Bool, true, false, List, ◌≡◌, ℕ}
use Rattle.std.proofs.Common.{ap, sym, ◌∙◌}
use Rattle.form.specs.declared.Body.{Body}
use Rattle.form.specs.Said.{Verdict, Written, Bytes}
use Rattle.form.specs.Form.{judge, lay, counts_fit}
use Rattle.form.specs.Answer.{accepted, as_judged, held_after, Wrote}
use Rattle.form.specs.Writing.{wrote_as, held_refused, form_refused}

pub away : (body : Body) (out bytes : List ℕ) (v : Verdict) (r : Written) (fits accepts : Bool)
    → r ≡ as_judged v (Bytes 0) → v ≡ judge bytes → bytes ≡ lay body → fits ≡ counts_fit body → fits ≡ true
    → accepts ≡ accepted v → accepts ≡ false → Wrote body out r out
away body out bytes v r fits accepts e is laid f fit a refused =
    let no = sym a ∙ refused in
    wrote_as body out r out (e ∙ form_refused body _ (sym f ∙ fit) v (is ∙ ap judge laid) no)
    (held_refused v (lay body) out no ∙ ap (λ t. held_after t (lay body) out) (sym e))
