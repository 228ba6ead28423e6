-- The round trips as the callers of `read` and `write` see them, over any answers that meet the two promises; and what
-- 'the same up to the counts' comes to. Rests on WriteBack, ReadBack and Unique.
use Rattle.std.specs.Prelude.{Bool, true, false, List, ◌++◌, ◌≡◌, refl, ℕ, ◌≤◌, ltb, length, take, drop}
use Rattle.std.proofs.Common.{ap, sym, subst, ◌∙◌, arith, length-take-le, take_at}
use Rattle.laws.specs.Tests.{clash}
use Rattle.form.specs.declared.Body.{Body}
use Rattle.form.specs.Said.{Reading, Verdict, Accepted, Refused, Written, Bytes, Unwritten}
use Rattle.form.specs.Form.{when, counter_at, zero_block, zero_effect, body_with, body_of, zero_body, up_to_counts, lay}
use Rattle.form.specs.Form.{counts_fit, judge}
use Rattle.form.specs.Answer.{accepted, reading, as_judged, held_after}
use Rattle.form.specs.Laying.{blocks_counted, counts_known}
use Rattle.roundtrip.specs.laying.Digits.{OfBytes}
use Rattle.roundtrip.specs.laying.Filled.{effects_counted, take_fill}
use Rattle.roundtrip.specs.Acceptance.{accepted_form, blocks_read, effects_read}
use Rattle.roundtrip.specs.laying.WriteBack.{written_back, lay_back}
use Rattle.roundtrip.specs.Unique.{Owed, Same, counts_add}
use Rattle.roundtrip.specs.laying.ReadBack.{Held, reading_back}

-- ---- the same up to the counts

pub same_refl : (a : Body) → Same a a
same_refl a = record { counter = refl; count = refl; blocks = refl; total = refl; effects = refl }

pub same_sym : {a b : Body} → Same a b → Same b a
same_sym s =
    record {
      counter = sym s.counter;
      count = sym s.count;
      blocks = sym s.blocks;
      total =
          sym s.total;
      effects = sym s.effects;
    }

pub same_trans : {a b c : Body} → Same a b → Same b c → Same a c
same_trans s t =
    record {
      counter = s.counter ∙ t.counter;
      count = s.count ∙ t.count;
      blocks = s.blocks ∙ t.blocks;
      total = s.total ∙ t.total;
      effects = s.effects ∙ t.effects;
    }

-- bodies that are the same are equal with zeros past their counts
pub same_equal : {a b : Body} → Same a b → up_to_counts a ≡ up_to_counts b
unfolding up_to_counts
same_equal s = λ i. body_with (s.counter i) (s.blocks i) (s.effects i)

-- zeros past the counts leave a body the same, where its counts fit
pub same_up_to : (body : Body) → Held body → counts_fit body ≡ true → Same (up_to_counts body) body
unfolding up_to_counts
same_up_to body h fit =
    record {
      counter = refl;
      count = count;
      blocks = take_fill zero_block 64 (blocks_counted body)
          (omega (arith, count, few_blocks));
      total = total;
      effects = take_fill zero_effect 256 (effects_counted body)
          (omega (arith, total, few_effects));
    }
  where
    few_blocks : body.count ≤ 64
    few_blocks = (counts_known body fit).0

    few_effects : body.total ≤ 256
    few_effects = omega (arith, (counts_known body fit).1, counts_add body fit)

    count : length (blocks_counted body) ≡ body.count
    count = length-take-le body.count body.blocks (omega (arith, few_blocks, h.room_blocks))

    total : length (effects_counted body) ≡ body.total
    total = length-take-le body.total body.effects (omega (arith, few_effects, h.room_effects))

-- so among such bodies the two say the same
pub equal_same :
    (a b : Body) → Held a → Held b → counts_fit a ≡ true → counts_fit b ≡ true → up_to_counts a ≡ up_to_counts b → Same a b
equal_same a b h k p q e =
    same_trans (same_sym (same_up_to a h p)) (subst (λ (c : Body). Same c b) (sym e) (same_up_to b k q))

-- what is read has zeros past its counts
pub read_up_to : (s : List ℕ) → judge s ≡ Accepted → up_to_counts (body_of s) ≡ body_of s
unfolding up_to_counts
read_up_to s a = λ i. body_with (counter_at s 0) (blocks_read s (accepted_form s a) i)
    (effects_read s (accepted_form s a) i)

-- ---- read, then write

-- whatever reads a form and accepts it, and whatever writes the body read into enough room: the form's length, and the
-- form before what stood there
pub read_then_write :
    (s : List ℕ) → OfBytes s → (answer : Reading) → answer ≡ reading s → answer.verdict ≡ Accepted
    → (out : List ℕ) → length s ≤ length out → (r : Written) (held : List ℕ) → Owed answer.body out r held
    → (r ≡ Bytes (length s)) × (held ≡ s ++ drop (length s) out)
read_then_write s h answer e v out room r held o =
    let a : judge s ≡ Accepted = sym (ap (λ (x : Reading). x.verdict) e) ∙ v in
    let same : answer.body ≡ body_of s = ap (λ (x : Reading). x.body) e
    ∙ ap (λ (w : Verdict). when (accepted w) (body_of s) zero_body) a in
    let owed : Owed (body_of s) out r held = subst (λ (b : Body). Owed b out r held) same o in
    let wrote : r ≡ Bytes (length s) = owed.0 ∙ written_back s a h (length out) room in
    (wrote, owed.1.0 ∙ (λ i. held_after (wrote i) (lay_back s a h i) out))

-- ---- write, then read

abbrev is_bytes : Written → Bool
is_bytes (Bytes count) = true
is_bytes (Unwritten number place) = false

-- the writer answers bytes only where the counts fit and the reader accepts; they are as many as are laid out
wrote :
    (fits : Bool) (v : Verdict) (short : Bool) (m n : ℕ)
    → when fits (as_judged v (when short (Unwritten 42 m) (Bytes m))) (Unwritten 14 0) ≡ Bytes n
    → (fits ≡ true) × (v ≡ Accepted) × (m ≡ n)
wrote false v short m n e = clash (ap is_bytes e) refl
wrote true Accepted true m n e = clash (ap is_bytes e) refl
wrote true Accepted false m n e = (refl, refl, cc)
wrote true (Refused number place) short m n e = clash (ap is_bytes e) refl

-- whatever writes a body: the bytes that it says it wrote read as the body, with zeros past its counts
pub write_then_read :
    (body : Body) → Held body → (out : List ℕ) (r : Written) (held : List ℕ) → Owed body out r held → (n : ℕ)
    → r ≡ Bytes n
    → reading (take n held) ≡ record { verdict = Accepted; body = up_to_counts body }
write_then_read body h out r held o n e =
    let (fit, a, m) =
    wrote (counts_fit body) (judge (lay body)) (ltb (length out) (length (lay body))) (length (lay body)) n
    (sym o.0 ∙ e) in
    let holds : held ≡ lay body ++ drop (length (lay body)) out = o.1.0
    ∙ ap (λ (w : Written). held_after w (lay body) out) e in
    let form : take n held ≡ lay body = ap (take n) holds ∙ take_at (lay body) (drop (length (lay body)) out) n m in
    ap reading form ∙ reading_back body h fit a
