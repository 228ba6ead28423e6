-- What is read writes back the same bytes: for an accepted form the writer lays its body out as that form, and its
-- counts fit. Rests on Acceptance (what acceptance says), Kinds (each record's bytes come back) and Laid.
use Rattle.std.specs.Prelude.{true, ◌≡◌, refl, ℕ, ◌≤◌, length, drop}
use mathlib.Core.List.{List, ◌++◌}
use Rattle.std.proofs.Math.Path.{ap}
use Rattle.std.proofs.Common.{sym, subst, ◌∙◌, arith}
use Rattle.std.proofs.Math.Seq.{drop-length}
use Rattle.form.specs.declared.Block.{Block}
use Rattle.form.specs.Said.{Accepted, Bytes}
use Rattle.form.specs.Form.{records_from, gather, own_effects, counter_at, block_at, effect_at, blocks_in, effects_in, body_of}
use Rattle.form.specs.Form.{counter_bytes, lay_blocks, lay, counts_fit, judge}
use Rattle.form.specs.Answer.{written, held_after}
use Rattle.form.specs.Writing.{room_enough}
use Rattle.form.specs.Records.{next}
use Rattle.roundtrip.specs.laying.Digits.{OfBytes}
use Rattle.roundtrip.specs.laying.Kinds.{counter_laid, block_laid, effect_laid}
use Rattle.roundtrip.specs.Acceptance.{Passing, finish, block, effect, AcceptedForm, accepted_form, Counts}
use Rattle.roundtrip.specs.Acceptance.{counts, blocks_after, effects_after, blocks_read, effects_read}
use Rattle.roundtrip.specs.Sound.{well_formed, counts_fit_lem}
use Rattle.roundtrip.specs.laying.Laid.{Laid, laid_as, none, block as laid_block, effect as laid_effect, laid_from_start}
use Rattle.roundtrip.specs.laying.Laid.{lay_taken}

module _ (s : List ℕ) (h : OfBytes s) where
  -- what is left of a form is laid out from what is read of it
  read_laid : {at b e : ℕ} {records : List ℕ} → Passing s at b e records
      → Laid (drop at s) (own_effects s records) (blocks_in s records) (effects_in s records)
  unfolding gather own_effects
  read_laid (finish l ended) = rw l (rw (drop-length s) none)
  read_laid (block {at = at} {rest = rest} k w) =
      let own = own_effects s rest in
      rw k.role (laid_as (block_laid s at h k.size k.room own k.role)
      (laid_block (block_at s at own) (read_laid w)))
  read_laid (effect {at = at} f w) =
      rw f.role (laid_as (effect_laid s at h f.size f.room f.role)
      (laid_effect (effect_at s at) (read_laid w)))

-- ---- the theorem

module _ (s : List ℕ) (a : judge s ≡ Accepted) where
  read : AcceptedForm s
  read = accepted_form s a

  number : Counts s (blocks_in s (records_from s 0)) (effects_in s (records_from s 0))
  number = counts s read

  -- the counts of an accepted form fit
  pub counts_back : counts_fit (body_of s) ≡ true
  counts_back = counts_fit_lem (body_of s) (well_formed s a)

  -- and it is laid out as it was read
  module _ (h : OfBytes s) where
    after_counter : lay_blocks (blocks_in s (records_from s 0)) (effects_in s (records_from s 0)) ≡ drop (next s 0) s
    after_counter =
        (λ i. lay_blocks (blocks_after s read i) (effects_after s read i))
        ∙ laid_from_start (read_laid s h read.passing) number.none_early

    counter_back : counter_bytes (counter_at s 0) ++ drop (next s 0) s ≡ s
    counter_back = counter_laid s 0 h read.counter.size read.counter.room read.counter.role

    pub lay_back : lay (body_of s) ≡ s
    unfolding lay
    lay_back =
        ap (λ (l : List ℕ). counter_bytes (counter_at s 0) ++ l)
        (ap (λ (ks : List Block). lay_blocks ks (body_of s).effects) (blocks_read s read)
        ∙ (sym (lay_taken (blocks_in s (records_from s 0)) (body_of s).total (body_of s).effects
        (omega (arith, number.owned)))
        ∙ (ap (lay_blocks (blocks_in s (records_from s 0))) (effects_read s read) ∙ after_counter)))
        ∙ counter_back

    -- so the writer answers the form's length, and the lent bytes hold the form before what stood there
    pub written_back : (room : ℕ) → length s ≤ room → written (body_of s) room ≡ Bytes (length s)
    written_back room l =
        sym (room_enough (body_of s) room counts_back Accepted (sym (ap judge lay_back ∙ a)) refl
        (subst (λ (t : List ℕ). length t ≤ room) (sym lay_back) l))
        ∙ ap (λ (t : List ℕ). Bytes (length t)) lay_back

    pub held_back :
        (out : List ℕ) → length s ≤ length out
        → held_after (written (body_of s) (length out)) (lay (body_of s)) out ≡ s ++ drop (length s) out
    held_back out l = λ i. held_after (written_back (length out) l i) (lay_back i) out
