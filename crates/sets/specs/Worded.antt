-- The words of a sound body are as those ask that join them along paths. Rests on Local and on lower_laws' Endings.
use Rattle.std.specs.Prelude.{◌≡◌, ◌⊎◌, Bool, ℕ, ◌<◌, length}
use Rattle.std.proofs.Common.{sym, subst, inl, inr}
use Rattle.laws.specs.Terms.{Mem, set_of}
use Rattle.words.specs.Tabled.{tabled, rows}
use Rattle.words.specs.Filled.{tabled_length, tabled_at}
use Rattle.form.specs.declared.Body.{Body}
use Rattle.form.specs.Conflict.{exits, way_to, Onward, Sound}
use Rattle.lower_laws.specs.Endings.{way_real}
use Rattle.sets.specs.declared.Local.{Local}
use Rattle.sets.specs.Local.{Above, Worded, local_of}

pub rows_length : (f : ℕ → ℕ → Bool) → length (rows f) ≡ 64
unfolding rows
rows_length f = tabled_length (λ b. set_of 64 (f b)) 64

module _ (body : Body) (w : Onward body) where
  targets_above : (way : ℕ) → Above (tabled 64 (λ b. way_to way (exits body b)))
  targets_above way b h = rw (tabled_at (λ b. way_to way (exits body b)) 64 b 64 h) (go (way_real way (exits body b)))
    where
      go : (way_to way (exits body b) ≡ 64) ⊎ Mem (way, way_to way (exits body b)) (exits body b)
          → b < way_to way (exits body b)
      go (inl e) = rw e h
      go (inr m) = w.above b (way, way_to way (exits body b)) m

  words_of : Worded (local_of body)
  unfolding local_of
  words_of = record {
    jumps = tabled_length _ 64;
    falls = tabled_length _ 64;
    touched = rows_length _;
    denied = (rows_length _, rows_length _);
    jumping = (rows_length _, rows_length _);
    falling = (rows_length _, rows_length _);
    jumps_above = targets_above 1;
    falls_above = targets_above 2;
  }

pub worded : (body : Body) → Sound body → (l : Local) → l ≡ local_of body → Worded l
worded body sound l e = subst Worded (sym e) (words_of body sound.onward)
