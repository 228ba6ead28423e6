-- Judging sees no more than the front of an input: a longest form has 3,665 bytes (a counter, 64 blocks, 256 effects),
-- and a longer input is refused at a record that starts there or before, for what stands in its first 17 bytes. So
-- 3,682 bytes decide. Rests on Form, Answer, Records and Acceptance.
use Rattle.std.specs.Prelude.{Bool, true, false, not, ◌&&◌, ◌||◌, List, ◌≡◌, refl, ℕ, zero, suc, ◌+◌, ◌-◌, ◌*◌, ◌<◌, ◌≤◌, ltb, length, take}
use Rattle.std.proofs.Common.{ap, sym, ◌∙◌, add-zero, arith, ltb-true, ltb-false, le-ltb, eqb-true, lit≤, take_all, length-take-le, get_or-take}
use Rattle.std.proofs.lemmas.Bool.{eqb-false}
use Rattle.std.proofs.Math.Dec.{eqb}
use Rattle.laws.specs.Tests.{split}
use Rattle.form.specs.Said.{Verdict, Accepted, Refused}
use Rattle.form.specs.Form.{when, byte_at, counter_role, block_role, effect_role, kind_of, length_at, kind_number, kind_at}
use Rattle.form.specs.Form.{is_block, is_effect, one_if, records_from, bad_counter, bad_block, bad_effect, low_target, bad_field}
use Rattle.form.specs.Form.{bad_target, out_of_place, over_limit, payload_fault, record_fault, judge_records, judge}
use Rattle.form.specs.Answer.{reading}
use Rattle.form.specs.Records.{next, next_above, sized, rest_leave, rest_pass}
use Rattle.roundtrip.specs.laying.Kinds.{effect_length, length_same, kind_same, counter_same, block_same, effect_same}
use Rattle.roundtrip.specs.Acceptance.{Passed, passed, RecordAt, counter, block, effect, record_at, counter_first}
use Rattle.roundtrip.specs.Acceptance.{Passing, finish, accepted_form}

-- where a record may start: after the counter, b blocks and e effects, all within the limits
pub record Within (at b e : ℕ) : Type 0 where
  pub reach : at ≤ 17 + 17 * b + 10 * e
  pub blocks : b ≤ 64
  pub effects : e ≤ 256

origin : Within 0 0 0
origin = record { reach = lit≤ tt; blocks = lit≤ tt; effects = lit≤ tt }

block_more : {at b e : ℕ} {size : ℕ} → Within at b e → b < 64 → size ≤ 17 → Within (at + size) (b + 1) e
block_more w h l = record { reach = omega (arith, w.reach); blocks = omega arith; effects = w.effects }

effect_more : {at b e : ℕ} {size : ℕ} → Within at b e → e < 256 → size ≤ 10 → Within (at + size) b (e + 1)
effect_more w h l = record { reach = omega (arith, w.reach); blocks = w.blocks; effects = omega arith }

near : {at b e : ℕ} → Within at b e → at ≤ 3665
near w = omega (arith, w.reach, w.blocks, w.effects)

-- ---- an accepted form

module _ (s : List ℕ) where
  most : (at : ℕ) → (kind_at s at).length ≤ 17
  most at = (sized (kind_number s at)).1

  effect_most : (at : ℕ) → (kind_at s at).role ≡ effect_role → (kind_at s at).length ≤ 10
  effect_most at r = omega (arith, effect_length s at r)

  passing_ends : {at b e : ℕ} {records : List ℕ} → Passing s at b e records → Within at b e → length s ≤ 3665
  passing_ends (finish l ended) w = omega (arith, near w)
  passing_ends (block {at = at} k p) w = passing_ends p (block_more w k.within (most at))
  passing_ends (effect {at = at} f p) w = passing_ends p (effect_more w f.within (effect_most at f.role))

  start : Within (next s 0) 0 0
  start = record { reach = omega (arith, most 0); blocks = lit≤ tt; effects = lit≤ tt }

  -- a counter, 64 blocks and 256 effects at most
  pub front_body : judge s ≡ Accepted → length s ≤ 3665
  front_body a = passing_ends (accepted_form s a).passing start

  pub front_all : (n : ℕ) → 3665 ≤ n → judge s ≡ Accepted → take n s ≡ s
  front_all n h a = take_all n s (omega (arith, front_body a))

-- ---- one record

-- the length beyond the input counts only where it is the kind's own
sizes :
    (sized beyond beyond' : Bool) (rest : ℕ) → (sized ≡ true → beyond ≡ beyond')
    → when (not sized) 11 (when beyond 10 rest) ≡ when (not sized) 11 (when beyond' 10 rest)
sizes true beyond beyond' rest h = λ i. when (h refl i) 10 rest
sizes false beyond beyond' rest h = refl

-- after a record without a fault the next one starts within the limits
further : (s : List ℕ) (at b e : ℕ) → RecordAt s at b e → Within at b e
    → Within (next s at) (b + one_if (is_block s at)) (e + one_if (is_effect s at))
further s at b e (counter c) w =
    rw (c.role, add-zero b, add-zero e)
    (record { reach = omega (arith, c.first, most s at); blocks = w.blocks; effects = w.effects })
further s at b e (block k) w = rw (k.role, add-zero e) (block_more w k.within (most s at))
further s at b e (effect f) w = rw (f.role, add-zero b) (effect_more w f.within (effect_most s at f.role))

-- two inputs of at least 3,682 bytes, of which those are the same
module _ (s t : List ℕ) (long : 3682 ≤ length s) (long' : 3682 ≤ length t) (same : (i : ℕ) → i < 3682
    → byte_at s i ≡ byte_at t i) where
  -- judged alike from a place on
  abbrev Alike : ℕ → ℕ → ℕ → Type 0
  Alike at b e = judge_records s (records_from s at) b e ≡ judge_records t (records_from t at) b e

  module _ (at : ℕ) (h : at ≤ 3665) where
    here : (i : ℕ) → i < 17 → byte_at s (at + i) ≡ byte_at t (at + i)
    here i l = same (at + i) (omega arith)

    kind : kind_at s at ≡ kind_at t at
    kind = ap kind_of (kind_same s t at at here)

    same_place : (b : ℕ) → out_of_place s at b ≡ out_of_place t at b
    unfolding out_of_place
    same_place b = rw kind

    same_limit : (b e : ℕ) → over_limit s at b e ≡ over_limit t at b e
    unfolding over_limit
    same_limit b e = rw kind

    same_target : (b : ℕ) → bad_target s at b ≡ bad_target t at b
    unfolding bad_target
    same_target b = λ i. eqb (kind i).role block_role && low_target (block_same s t at at here 0 i) b

    same_field : bad_field s at ≡ bad_field t at
    unfolding bad_field
    same_field =
        λ i.
        (eqb (kind i).role counter_role && bad_counter (counter_same s t at at here i))
        || ((eqb (kind i).role block_role && bad_block (block_same s t at at here 0 i))
        || (eqb (kind i).role effect_role && bad_effect (effect_same s t at at here i)))

    same_payload : (b e : ℕ) → payload_fault s at b e ≡ payload_fault t at b e
    unfolding payload_fault
    same_payload b e = rw (same_place b, same_limit b e, same_target b, same_field)

    -- a head, and a record of its kind's own length, are within both
    fits : (m : ℕ) → m ≤ 17 → ltb (length s - at) m ≡ ltb (length t - at) m
    fits m l = le-ltb (length s - at) m (omega arith) ∙ sym (le-ltb (length t - at) m (omega arith))

    own : eqb (length_at t at) (kind_at t at).length ≡ true → length_at t at ≤ 17
    own e = omega (arith, eqb-true (length_at t at) _ e, most t at)

    same_fault : (b e : ℕ) → record_fault s at b e ≡ record_fault t at b e
    unfolding record_fault
    same_fault b e =
        let size = sizes (eqb (length_at t at) (kind_at t at).length) (ltb (length s - at) (length_at t at)) _
        (payload_fault t at b e) (λ q. fits _ (own q)) in
        rw (length_same s t at at here, kind, same_payload b e, fits 4 (lit≤ tt), size)

    -- so both are judged alike from it on, if they are after it where it has no fault
    turn :
        (b e : ℕ)
        → (Passed s at b e → Alike (next s at) (b + one_if (is_block s at)) (e + one_if (is_effect s at)))
        → Alike at b e
    turn b e after =
        split (eqb (record_fault s at b e) 0)
        (λ q.
        let z = eqb-true _ _ q in
        sym (rest_pass s at (omega arith) b e _ z refl)
        ∙ (after (passed s at b e z)
        ∙ ((λ i. judge_records t (records_from t (at + (kind i).length)) (b + one_if (eqb (kind i).role block_role))
        (e + one_if (eqb (kind i).role effect_role)))
        ∙ rest_pass t at (omega arith) b e _ (sym (same_fault b e) ∙ z) refl)))
        (λ q.
        let f = eqb-false _ _ q in
        sym (rest_leave s at (omega arith) b e _ f refl)
        ∙ (ap (λ (n : ℕ). Refused n at) (same_fault b e)
        ∙ rest_leave t at (omega arith) b e _ (λ z. f (same_fault b e ∙ z)) refl))

  -- record by record: each that is reached starts at place 3,665 or before, so the end is never met
  alike : (most at b e : ℕ) → 3682 ≤ at + most → 0 < at → Within at b e → Alike at b e
  alike zero at b e m later w = absurd (omega (arith, near w))
  alike (suc most) at b e m later w =
      turn at (near w) b e
      (λ p. alike most (next s at) _ _ (omega (arith, next_above s at)) (omega (arith, next_above s at))
      (further s at b e (record_at s at b e (omega (arith, near w)) p later) w))

  judge_alike : judge s ≡ judge t
  unfolding judge
  judge_alike =
      turn 0 (lit≤ tt) 0 0
      (λ p. alike 3682 (next s 0) _ _ (omega arith) (next_above s 0)
      (further s 0 0 0 (counter (counter_first s (omega arith) p)) origin))

-- ---- the front decides

module _ (n : ℕ) (s : List ℕ) (h : 3682 ≤ n) where
  -- an input is its front, or is longer
  either : {C : Type 0} → (take n s ≡ s → C) → (n < length s → C) → C
  either f g = split (ltb n (length s)) (λ q. g (ltb-true _ _ q)) (λ q. f (take_all n s (ltb-false _ _ q)))

  pub front : judge (take n s) ≡ judge s
  front = either (ap judge) (λ l. judge_alike (take n s) s (rw (length-take-le n s (omega arith)) h) (omega arith)
      (λ i b. get_or-take n s i 0 (omega arith)))

  pub front_reading : reading (take n s) ≡ reading s
  front_reading = either (ap reading) (λ l. refuses l (judge s) refl)
    where
      refuses : n < length s → (v : Verdict) → judge s ≡ v → reading (take n s) ≡ reading s
      refuses l Accepted e = absurd (omega (arith, front_body s e))
      refuses l (Refused number place) e = rw (front, e)
