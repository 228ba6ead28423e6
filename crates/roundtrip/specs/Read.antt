-- From the reader's answer to what is judged: a refusal as it is, and of an accepted form its body, which is sound.
-- Rests on form's Answer and on Sound.
use Rattle.std.specs.Prelude.{◌≡◌, List, ℕ}
use Rattle.std.proofs.Common.{sym, ap, subst, ◌∙◌}
use Rattle.form.specs.Said.{Reading, Verdict, Accepted}
use Rattle.form.specs.Form.{when, judge, body_of, zero_body}
use Rattle.form.specs.Answer.{accepted, reading}
use Rattle.form.specs.Conflict.{Sound}
use Rattle.roundtrip.specs.Sound.{sound}

module _ (s : List ℕ) (r : Reading) (e : r ≡ reading s) where
  pub read_as : (v : Verdict) → r.verdict ≡ v → judge s ≡ v
  read_as v is = sym (ap (λ (x : Reading). x.verdict) e) ∙ is

  module _ (v : r.verdict ≡ Accepted) where
    pub read_accepted : judge s ≡ Accepted
    read_accepted = read_as Accepted v

    pub read_body : r.body ≡ body_of s
    read_body = ap (λ (x : Reading). x.body) e ∙ ap (λ (v : Verdict). when (accepted v) (body_of s) zero_body)
        read_accepted

    pub read_sound : Sound r.body
    read_sound = subst Sound (sym read_body) (sound s read_accepted)
