-- The promises of verdict, reader and writer leave one answer and one content of the lent bytes, for every public call
-- and every input, refusals too; and two bodies that are the same up to their counts get the same answer and bytes from
-- the writer. Rests on Form, Answer and Laid.
use Rattle.std.specs.Prelude.{Bool, true, false, ◌&&◌, List, ◌++◌, ◌≡◌, ℕ, length, ltb}
use Rattle.std.proofs.Common.{ap, sym, ◌∙◌, arith, eqb-true}
use Rattle.std.proofs.Math.Dec.{leb, eqb}
use Rattle.laws.specs.Tests.{split, and_out}
use Rattle.form.specs.declared.Body.{Body}
use Rattle.form.specs.Said.{Reading, Verdict, Written, Bytes, Unwritten}
use Rattle.form.specs.Form.{when, judge, counter_bytes, lay_blocks, lay, sum_own, counts_fit}
use Rattle.form.specs.Answer.{accepted, Judged, reading, as_judged, held_after, Wrote}
use Rattle.form.specs.Laying.{blocks_counted}
use Rattle.form.specs.Writing.{wrote_as, counts_refused}
use Rattle.roundtrip.specs.laying.Filled.{effects_counted}
use Rattle.roundtrip.specs.laying.Laid.{lay_taken}

-- ---- one answer to each question

pub one_verdict : (s : List ℕ) (a b : Verdict) → Judged s a → Judged s b → a ≡ b
one_verdict s a b p q = p.0 ∙ sym q.0

pub one_acceptance : (v : Verdict) (a b : Bool) → a ≡ accepted v → b ≡ accepted v → a ≡ b
one_acceptance v a b p q = p ∙ sym q

pub one_reading : (s : List ℕ) (a b : Reading) → a ≡ reading s → b ≡ reading s → a ≡ b
one_reading s a b p q = p ∙ sym q

-- what the writer owes: its answer, and what the lent bytes `out` hold after it
abbrev pub Owed : Body → List ℕ → Written → List ℕ → Type 0
Owed = Wrote

pub one_writing :
    (body : Body) (out : List ℕ) (r q : Written) (held kept : List ℕ) → Owed body out r held → Owed body out q kept
    → (r ≡ q) × (held ≡ kept)
one_writing body out r q held kept o p =
    let same : r ≡ q = o.0 ∙ sym p.0 in
    (same, o.1.0 ∙ (ap (λ (w : Written). held_after w (lay body) out) same ∙ sym p.1.0))

-- ---- bodies that are the same up to their counts

pub record Same (a b : Body) : Type 0 where
  pub counter : a.counter ≡ b.counter
  pub count : a.count ≡ b.count
  pub blocks : blocks_counted a ≡ blocks_counted b
  pub total : a.total ≡ b.total
  pub effects : effects_counted a ≡ effects_counted b

-- the counts are enough to lay out: where they fit, no effect past the total is laid out
pub counts_add : (body : Body) → counts_fit body ≡ true → sum_own (blocks_counted body) ≡ body.total
unfolding counts_fit
counts_add body h = eqb-true _ _ (and_out (leb body.count 64 && leb body.total 256) _ h).1

pub lay_counted :
    (body : Body) → counts_fit body ≡ true
    → lay body ≡ counter_bytes body.counter ++ lay_blocks (blocks_counted body) (effects_counted body)
unfolding lay
lay_counted body h =
    ap (λ (l : List ℕ). counter_bytes body.counter ++ l)
    (sym (lay_taken (blocks_counted body) body.total body.effects (omega (arith, counts_add body h))))

module _ (a b : Body) (s : Same a b) where
  same_counts : counts_fit a ≡ counts_fit b
  unfolding counts_fit
  same_counts = λ i. (leb (s.count i) 64 && leb (s.total i) 256) && eqb (sum_own (s.blocks i)) (s.total i)

  same_lay : counts_fit a ≡ true → lay a ≡ lay b
  same_lay h =
      lay_counted a h
      ∙ ((λ i. counter_bytes (s.counter i) ++ lay_blocks (s.blocks i) (s.effects i))
      ∙ sym (lay_counted b (sym same_counts ∙ h)))

  -- what is owed for one is owed for the other
  pub same_owed : (out : List ℕ) (r : Written) (held : List ℕ) → Owed a out r held → Owed b out r held
  same_owed out r held o = split (counts_fit a) fit unfit
    where
      answer : Bool → List ℕ → Written
      answer fits form =
          when fits
          (as_judged (judge form)
          (when (ltb (length out) (length form)) (Unwritten 42 (length form)) (Bytes (length form))))
          (Unwritten 14 0)

      fit : counts_fit a ≡ true → Owed b out r held
      fit h = wrote_as b out r held (o.0 ∙ (λ i. answer (same_counts i) (same_lay h i)))
          (o.1.0 ∙ (λ i. held_after r (same_lay h i) out))

      unfit : counts_fit a ≡ false → Owed b out r held
      unfit h =
          let refusal : r ≡ Unwritten 14 0 = o.0 ∙ sym (counts_refused a (length out) h) in
          wrote_as b out r held (refusal ∙ counts_refused b (length out) (sym same_counts ∙ h))
          (o.1.0 ∙ (ap (λ (w : Written). held_after w (lay a) out) refusal
          ∙ sym (ap (λ (w : Written). held_after w (lay b) out) refusal)))

  pub same_body :
      (out : List ℕ) (r q : Written) (held kept : List ℕ) → Owed a out r held → Owed b out q kept
      → (r ≡ q) × (held ≡ kept)
  same_body out r q held kept o p = one_writing b out r q held kept (same_owed out r held o) p
