-- What acceptance says, record by record: an accepted form is a counter, and then blocks and effects up to its end,
-- each whole, of its kind's length, within the limits and with every field in range. Proofs above go by recursion over
-- these records (Passing). Rests on Form, its Records, Kinds and Filled.
use Rattle.std.specs.Prelude.{Bool, true, not, ◌||◌, ◌&&◌, List, [], ◌∷◌, ◌≡◌, ltb, ℤ, pos, negsuc, length}
use Rattle.std.proofs.Math.Bool.{false, and-true}
use Rattle.std.proofs.Math.Path.{refl, ap}
use Rattle.std.proofs.Common.{sym, subst, ◌∙◌, zero-add, add-zero, suc-add, lit<, lit≤}
use Prim.Native.Nat.{ℕ, zero, suc, ◌+◌, ◌-◌, ◌<◌, ◌≤◌}
use native.Mathlib.Omega.{arith}
use borrow.Author.Tests.{ltb-true, ltb-false, leb-false, eqb-true, eqb-false, not-false, lt-ltb}
use Rattle.std.proofs.Math.Dec.{leb, eqb}
use Rattle.laws.specs.Tests.{split, clash, or_no}
use Rattle.form.specs.declared.Block.{Block}
use Rattle.form.specs.declared.Effect.{Effect}
use Rattle.form.specs.Said.{Verdict, Accepted, Refused}
use Rattle.form.specs.Form.{when, counter_role, block_role, effect_role, length_at, kind_number, kind_at, is_unknown}
use Rattle.form.specs.Form.{is_counter, is_block, is_effect, counter_at, block_at, effect_at, records_from, stray, some_target}
use Rattle.form.specs.Form.{bad_counter, bad_block, bad_effect, low_target, bad_field, bad_target, out_of_place, over_limit}
use Rattle.form.specs.Form.{payload_fault, record_fault, one_if, judged, judge_ends, judge_records, judge, gather}
use Rattle.form.specs.Form.{own_effects, blocks_in, effects_in, zero_block, zero_effect, body_of, sum_own}
use Rattle.form.specs.Relation.{eq_z}
use Rattle.form.specs.Answer.{accepted}
use Rattle.form.specs.Laying.{blocks_counted}
use Rattle.form.specs.Records.{next, next_above, records_end, records_step, rest_leave, rest_pass, end_none}
use Rattle.roundtrip.specs.laying.Kinds.{of_role}
use Rattle.roundtrip.specs.laying.Filled.{effects_counted, take_fill}

pub refused : {number place : ℕ} → Refused number place ≡ Accepted → ⊥
refused e = clash (ap accepted e) refl

pub judged_out : (fault place : ℕ) (rest : Verdict) → judged fault place rest ≡ Accepted
    → (fault ≡ 0) × (rest ≡ Accepted)
judged_out fault place rest a = go (eqb fault 0) refl a
  where
    go : (t : Bool) → eqb fault 0 ≡ t → when t rest (Refused fault place) ≡ Accepted → (fault ≡ 0) × (rest ≡ Accepted)
    go true e h = (eqb-true _ _ e, h)
    go false e h = absurd (refused h)

-- ---- tests that fail

pub no_fault : (t : Bool) (n rest : ℕ) → 0 < n → when t n rest ≡ 0 → (t ≡ false) × (rest ≡ 0)
no_fault true n rest h e = absurd (omega arith)
no_fault false n rest h e = (refl, e)

pub second_fails : {a : Bool} (b : Bool) → a ≡ true → (a && b) ≡ false → b ≡ false
second_fails b e h = subst (λ (t : Bool). (t && b) ≡ false) e h

-- a field that is not stray is zero where its ending does not use it
no_stray : (first ending : ℕ) (is_zero : Bool) → stray first ending is_zero ≡ false → ending < first → is_zero ≡ true
no_stray first ending is_zero e h = not-false _ (second_fails (not is_zero) (lt-ltb ending first h) e)

no_number : (first ending x : ℕ) → stray first ending (eqb x 0) ≡ false → ending < first → x ≡ 0
no_number first ending x e h = eqb-true x 0 (no_stray first ending (eqb x 0) e h)

zero_only : (z : ℤ) → eq_z z (pos 0) ≡ true → z ≡ pos 0
zero_only (pos n) e = ap pos (eqb-true n 0 e)
zero_only (negsuc n) e = absurd (clash e refl)

no_signed : (first ending : ℕ) (z : ℤ) → stray first ending (eq_z z (pos 0)) ≡ false → ending < first → z ≡ pos 0
no_signed first ending z e h = zero_only z (no_stray first ending (eq_z z (pos 0)) e h)

-- a used target fails the test
pub no_target : (ending : ℕ) (jump fall : Bool) → some_target ending jump fall ≡ false
    → (0 < ending → jump ≡ false) × (1 < ending → fall ≡ false)
no_target ending jump fall e =
    let (j, f) = or_no (ltb 0 ending && jump) (ltb 1 ending && fall) e in
    ((λ h. second_fails jump (lt-ltb 0 ending h) j), (λ h. second_fails fall (lt-ltb 1 ending h) f))

pub one_more : (b n : ℕ) → b + 1 + n ≡ b + suc n
one_more b n = omega arith

pub some_before : (b : ℕ) → eqb b 0 ≡ false → 0 < b
some_before zero e = absurd (eqb-false 0 0 e refl)
some_before (suc b) e = omega arith

-- ---- a record without a fault

pub record Passed (s : List ℕ) (at b e : ℕ) : Type 0 where
  pub known : is_unknown s at ≡ false
  pub sized : length_at s at ≡ (kind_at s at).length
  pub room : length_at s at ≤ length s - at
  pub in_place : out_of_place s at b ≡ false
  pub within : over_limit s at b e ≡ false
  pub fields : bad_field s at ≡ false
  pub targets : bad_target s at b ≡ false

pub passed : (s : List ℕ) (at b e : ℕ) → record_fault s at b e ≡ 0 → Passed s at b e
unfolding record_fault payload_fault
passed s at b e h =
    let (short, h₁) = no_fault (ltb (length s - at) 4) 10 _ (lit< tt) h in
    let (unknown, h₂) = no_fault _ 12 _ (lit< tt) h₁ in
    let (wrong, h₃) = no_fault _ 11 _ (lit< tt) h₂ in
    let (beyond, h₄) = no_fault _ 10 _ (lit< tt) h₃ in
    let (place, h₅) = no_fault _ 13 _ (lit< tt) h₄ in
    let (limit, h₆) = no_fault _ 14 _ (lit< tt) h₅ in
    let (field, h₇) = no_fault _ 15 _ (lit< tt) h₆ in
    let (target, h₈) = no_fault _ 16 _ (lit< tt) h₇ in
    record {
      known = unknown;
      sized = eqb-true _ _ (not-false _ wrong);
      room = ltb-false (length s - at) _ beyond;
      in_place = place;
      within = limit;
      fields = field;
      targets = target;
    }

-- ---- fields in range, and zero where they are not used

pub record GoodBlock (k : Block) : Type 0 where
  pub cost : k.cost ≤ 1000000
  pub ending : k.ending ≤ 3
  pub variable : k.variable ≤ 15
  pub relation : k.relation ≤ 5
  pub no_jump : k.ending < 1 → k.jump ≡ 0
  pub no_fall : k.ending < 2 → k.fall ≡ 0
  pub no_variable : k.ending < 3 → k.variable ≡ 0
  pub no_relation : k.ending < 3 → k.relation ≡ 0
  pub no_constant : k.ending < 3 → k.constant ≡ pos 0

pub record GoodEffect (e : Effect) : Type 0 where
  pub variable : e.variable ≤ 15
  pub how : e.how ≤ 1
  pub no_constant : e.how < 1 → e.constant ≡ pos 0

good_block : (k : Block) → bad_block k ≡ false → GoodBlock k
good_block k field =
    let (ranges, ways) = or_no _ _ field in
    let (cost, more) = or_no _ _ ranges in
    let (ending, more') = or_no _ _ more in
    let (variable, relation) = or_no _ _ more' in
    let (targets, test) = or_no _ _ ways in
    let (jump, fall) = or_no _ _ targets in
    let (test_variable, test_more) = or_no _ _ test in
    let (test_relation, test_constant) = or_no _ _ test_more in
    record {
      cost = ltb-false _ _ cost;
      ending = ltb-false _ _ ending;
      variable = ltb-false _ _ variable;
      relation = ltb-false _ _ relation;
      no_jump = no_number _ _ _ jump;
      no_fall = no_number _ _ _ fall;
      no_variable = no_number _ _ _ test_variable;
      no_relation = no_number _ _ _ test_relation;
      no_constant = no_signed _ _ _ test_constant;
    }

good_effect : (e : Effect) → bad_effect e ≡ false → GoodEffect e
good_effect e field =
    let (variable, more) = or_no _ _ field in
    let (how, constant) = or_no _ _ more in
    record { variable = ltb-false _ _ variable; how = ltb-false _ _ how; no_constant = no_signed _ _ _ constant }

-- ---- a record of each role: whole, in place, within the limits, each field in range

pub record CounterRecord (s : List ℕ) (at : ℕ) : Type 0 where
  pub role : (kind_at s at).role ≡ counter_role
  pub size : length_at s at ≡ (kind_at s at).length
  pub room : next s at ≤ length s
  pub first : at ≡ 0
  pub relation : (counter_at s at).relation ≤ 5

pub record BlockRecord (s : List ℕ) (at b : ℕ) : Type 0 where
  pub role : (kind_at s at).role ≡ block_role
  pub size : length_at s at ≡ (kind_at s at).length
  pub room : next s at ≤ length s
  pub later : 0 < at
  pub within : b < 64
  pub fields : GoodBlock (block_at s at 0)
  pub jump_above : 0 < (block_at s at 0).ending → b < (block_at s at 0).jump
  pub fall_above : 1 < (block_at s at 0).ending → b < (block_at s at 0).fall

pub record EffectRecord (s : List ℕ) (at b e : ℕ) : Type 0 where
  pub role : (kind_at s at).role ≡ effect_role
  pub size : length_at s at ≡ (kind_at s at).length
  pub room : next s at ≤ length s
  pub owned : 0 < b
  pub within : e < 256
  pub fields : GoodEffect (effect_at s at)

pub data RecordAt (s : List ℕ) (at b e : ℕ) : Type 0 where
  counter : CounterRecord s at → RecordAt s at b e
  block : BlockRecord s at b → RecordAt s at b e
  effect : EffectRecord s at b e → RecordAt s at b e

module _ (s : List ℕ) (at b e : ℕ) (h : at < length s) (p : Passed s at b e) where
  room_for : next s at ≤ length s
  room_for = omega (arith, p.room, p.sized)

  as_counter : (kind_at s at).role ≡ counter_role → CounterRecord s at
  unfolding out_of_place bad_field
  as_counter k =
      let place : ((eqb at 0 && false) || ((ltb 0 at && true) || false)) ≡ false = rw k at p.in_place in
      let field : (bad_counter (counter_at s at) || false) ≡ false = rw k at p.fields in
      record {
        role = k;
        size = p.sized;
        room = room_for;
        first = omega (
          arith,
          ltb-false 0 at (sym (and-true (ltb 0 at))
              ∙ (or_no (ltb 0 at && true) _ (or_no (eqb at 0 && false) _ place).1).0),
        );
        relation = ltb-false _ _ (or_no _ _ field).0;
      }

  as_block : 0 < at → (kind_at s at).role ≡ block_role → BlockRecord s at b
  unfolding over_limit bad_field bad_target
  as_block later k =
      let limit : (leb 64 b || false) ≡ false = rw k at p.within in
      let field : (bad_block (block_at s at 0) || false) ≡ false = rw k at p.fields in
      let target : low_target (block_at s at 0) b ≡ false = rw k at p.targets in
      let (above, above') = no_target _ _ _ target in
      record {
        role = k;
        size = p.sized;
        room = room_for;
        later = later;
        within = leb-false _ _ (or_no _ _ limit).0;
        fields = good_block (block_at s at 0) (or_no _ _ field).0;
        jump_above = λ u. leb-false _ _ (above u);
        fall_above = λ u. leb-false _ _ (above' u);
      }

  as_effect : (kind_at s at).role ≡ effect_role → EffectRecord s at b e
  unfolding out_of_place over_limit bad_field
  as_effect k =
      let place : ((eqb at 0 && true) || ((ltb 0 at && false) || eqb b 0)) ≡ false = rw k at p.in_place in
      let limit : leb 256 e ≡ false = rw k at p.within in
      let field : bad_effect (effect_at s at) ≡ false = rw k at p.fields in
      record {
        role = k;
        size = p.sized;
        room = room_for;
        owned = some_before b (or_no (ltb 0 at && false) _ (or_no (eqb at 0 && true) _ place).1).1;
        within = leb-false _ _ limit;
        fields = good_effect (effect_at s at) field;
      }

  -- no other role is known
  pub record_at : 0 < at → RecordAt s at b e
  record_at later =
      of_role (kind_number s at) _ refl (λ n r. counter (as_counter (sym r))) (λ n r. block (as_block later (sym r)))
      (λ n r. effect (as_effect (sym r))) (λ r. absurd (eqb-false _ _ p.known (sym r)))

-- the first record is a counter
pub counter_first : (s : List ℕ) → 0 < length s → Passed s 0 0 0 → CounterRecord s 0
unfolding out_of_place
counter_first s h p =
    as_counter s 0 0 0 h p (eqb-true _ _ (not-false _ (or_no (not (is_counter s 0)) _ p.in_place).0))

-- ---- the records of a form, one after another

-- at the end: some block, and judging block by block found none at fault
pub record Ended (s : List ℕ) (b : ℕ) : Type 0 where
  pub some : 0 < b
  pub ends : judge_ends s b (records_from s 0) 0 ≡ Accepted

-- from place `at` on, with b blocks and e effects before it
pub data Passing (s : List ℕ) : ℕ → ℕ → ℕ → List ℕ → Type 0 where
  finish : {at b e : ℕ} → at ≡ length s → Ended s b → Passing s at b e []
  block : {at b e : ℕ} {rest : List ℕ} → BlockRecord s at b → Passing s (next s at) (b + 1) e rest
      → Passing s at b e (at ∷ rest)
  effect : {at b e : ℕ} {rest : List ℕ} → EffectRecord s at b e → Passing s (next s at) b (e + 1) rest
      → Passing s at b e (at ∷ rest)

pub record AcceptedForm (s : List ℕ) : Type 0 where
  pub counter : CounterRecord s 0
  pub starts : records_from s 0 ≡ 0 ∷ records_from s (next s 0)
  pub passing : Passing s (next s 0) 0 0 (records_from s (next s 0))

-- a record of an accepted form has no fault, and the records after it are accepted
goes_on_lem :
    (s : List ℕ) (at b e : ℕ) → at < length s → judge_records s (records_from s at) b e ≡ Accepted
    → Passed s at b e
    × (judge_records s (records_from s (next s at)) (b + one_if (is_block s at)) (e + one_if (is_effect s at)) ≡ Accepted)
goes_on_lem s at b e h a =
    split (eqb (record_fault s at b e) 0)
    (λ t. (passed s at b e (eqb-true _ _ t), rest_pass s at h b e Accepted (eqb-true _ _ t) a))
    (λ t. absurd (refused (rest_leave s at h b e Accepted (eqb-false _ _ t) a)))

-- what is asked of the records from a place on
abbrev From : List ℕ → ℕ → ℕ → ℕ → Type 0
From s at b e = at ≤ length s → 0 < at → judge_records s (records_from s at) b e ≡ Accepted
    → Passing s at b e (records_from s at)

module _ (s : List ℕ) where
  -- one record, and those from the next on
  step :
      (at b e : ℕ) → at < length s → 0 < at → RecordAt s at b e
      → judge_records s (records_from s (next s at)) (b + one_if (is_block s at)) (e + one_if (is_effect s at)) ≡ Accepted
      → ((at' b' e' : ℕ) → at < at' → From s at' b' e') → Passing s at b e (records_from s at)
  step at b e h later (counter c) a ih = absurd (omega (arith, c.first))
  step at b e h later (block k) a ih =
      let a' : judge_records s (records_from s (next s at)) (b + 1) (e + 0) ≡ Accepted = rw k.role at a in
      let up = next_above s at in
      let w = ih (next s at) (b + 1) e up k.room (omega (arith, up))
      (subst (λ (m : ℕ). judge_records s (records_from s (next s at)) (b + 1) m ≡ Accepted) (add-zero e) a') in
      rw (records_step s at h) (block k w)
  step at b e h later (effect f) a ih =
      let a' : judge_records s (records_from s (next s at)) (b + 0) (e + 1) ≡ Accepted = rw f.role at a in
      let up = next_above s at in
      let w = ih (next s at) b (e + 1) up f.room (omega (arith, up))
      (subst (λ (m : ℕ). judge_records s (records_from s (next s at)) m (e + 1) ≡ Accepted) (add-zero b) a') in
      rw (records_step s at h) (effect f w)

  -- at the end
  ended : (b e : ℕ) → judge_records s [] b e ≡ Accepted → Ended s b
  unfolding judge_records
  ended b e a =
      let (none, ends) = judged_out _ (length s) _ a in
      let test = (no_fault (eqb (length s) 0 || eqb b 0) 17 0 (lit< tt) none).0 in
      record { some = some_before b (or_no (eqb (length s) 0) _ test).1; ends = ends }

  stop : (at b e : ℕ) → length s ≤ at → From s at b e
  stop at b e l h later a =
      let none = records_end s at l in
      let e : at ≡ length s = omega arith in
      rw none (finish e (ended b _ (rw none at a)))

  all_pass : (most at b e : ℕ) → length s ≤ at + most → From s at b e
  all_pass zero at b e m h later a = stop at b e (omega arith) h later a
  all_pass (suc most) at b e m h later a =
      split (ltb at (length s))
      (λ t.
      let l = ltb-true at (length s) t in
      let (p, a') = goes_on_lem s at b e l a in
      step at b e l later (record_at s at b e l p later) a' (λ at' b' e' g. all_pass most at' b' e' (omega arith)))
      (λ t. stop at b e (ltb-false at (length s) t) h later a)

pub accepted_form : (s : List ℕ) → judge s ≡ Accepted → AcceptedForm s
unfolding judge
accepted_form s a =
    split (ltb 0 (length s))
    (λ t.
    let l = ltb-true 0 (length s) t in
    let (p, a') = goes_on_lem s 0 0 0 l a in
    let c = counter_first s l p in
    let on : judge_records s (records_from s (next s 0)) 0 0 ≡ Accepted = rw c.role at a' in
    record {
      counter = c;
      starts = records_step s 0 l;
      passing = all_pass s (length s) (next s 0) 0 0 (omega arith) c.room (next_above s 0) on;
    })
    (λ t. absurd (refused (sym (end_none s 0 0 refl) ∙ rw (records_end s 0 (ltb-false 0 (length s) t)) at a)))

-- ---- what is gathered along the records

module _ (s : List ℕ) where
  -- the blocks are those that were counted, and they ended well
  pub all_blocks : {at b e : ℕ} {records : List ℕ} → Passing s at b e records
      → Ended s (b + length (blocks_in s records))
  unfolding gather
  all_blocks (finish {b = b} l ended) = rw (add-zero b) ended
  all_blocks (block {b = b} {rest = rest} k w) =
      rw k.role (subst (Ended s) (one_more b (length (blocks_in s rest))) (all_blocks w))
  all_blocks (effect f w) = rw f.role (all_blocks w)

  pub few_blocks : {at b e : ℕ} {records : List ℕ} → Passing s at b e records → b ≤ 64
      → b + length (blocks_in s records) ≤ 64
  unfolding gather
  few_blocks (finish {b = b} l ended) h = rw (add-zero b) h
  few_blocks (block {b = b} {rest = rest} k w) h = rw (k.role, ← (one_more b (length (blocks_in s rest))))
      (few_blocks w (omega (arith, k.within)))
  few_blocks (effect f w) h = rw f.role (few_blocks w h)

  pub few_effects : {at b e : ℕ} {records : List ℕ} → Passing s at b e records → e ≤ 256
      → e + length (effects_in s records) ≤ 256
  unfolding gather
  few_effects (finish {e = e} l ended) h = rw (add-zero e) h
  few_effects (block k w) h = rw k.role (few_effects w h)
  few_effects (effect {e = e} {rest = rest} f w) h = rw (f.role, ← (one_more e (length (effects_in s rest))))
      (few_effects w (omega (arith, f.within)))

  -- every effect belongs to a block
  pub owned :
      {at b e : ℕ} {records : List ℕ} → Passing s at b e records
      → own_effects s records + sum_own (blocks_in s records) ≡ length (effects_in s records)
  unfolding gather own_effects sum_own
  owned (finish l ended) = refl
  owned (block {rest = rest} k w) = rw k.role (zero-add (own_effects s rest + sum_own (blocks_in s rest)) ∙ owned w)
  owned (effect {rest = rest} f w) = rw f.role (suc-add (own_effects s rest) (sum_own (blocks_in s rest))
      ∙ ap suc (owned w))

  -- before any block there are no effects
  pub none_owned : {at b e : ℕ} {records : List ℕ} → Passing s at b e records → b ≡ 0 → own_effects s records ≡ 0
  unfolding own_effects
  none_owned (finish l ended) z = refl
  none_owned (block k w) z = rw k.role
  none_owned (effect f w) z = absurd (omega (arith, f.owned))

-- the counter is neither block nor effect
module _ (s : List ℕ) (f : AcceptedForm s) where
  pub blocks_after : blocks_in s (records_from s 0) ≡ blocks_in s (records_from s (next s 0))
  unfolding gather
  blocks_after = ap (blocks_in s) f.starts ∙ rw f.counter.role

  pub effects_after : effects_in s (records_from s 0) ≡ effects_in s (records_from s (next s 0))
  unfolding gather
  effects_after = ap (effects_in s) f.starts ∙ rw f.counter.role

-- What an accepted form's blocks and effects are, in number
pub record Counts (s : List ℕ) (blocks : List Block) (effects : List Effect) : Type 0 where
  pub ended : Ended s (length blocks)
  pub few_blocks : length blocks ≤ 64
  pub few_effects : length effects ≤ 256
  pub none_early : own_effects s (records_from s (next s 0)) ≡ 0
  pub owned : sum_own blocks ≡ length effects

pub counts : (s : List ℕ) → AcceptedForm s → Counts s (blocks_in s (records_from s 0)) (effects_in s (records_from s 0))
counts s f = rw (blocks_after s f, effects_after s f) after
  where
    w : Passing s (next s 0) 0 0 (records_from s (next s 0))
    w = f.passing

    none_early : own_effects s (records_from s (next s 0)) ≡ 0
    none_early = none_owned s w refl

    after : Counts s (blocks_in s (records_from s (next s 0))) (effects_in s (records_from s (next s 0)))
    after = record {
      ended = subst (Ended s) (zero-add _) (all_blocks s w);
      few_blocks = omega (arith, few_blocks s w (lit≤ tt));
      few_effects = omega (arith, few_effects s w (lit≤ tt));
      none_early = none_early;
      owned = omega (arith, none_early, owned s w);
    }

-- and the body holds them, up to its counts
module _ (s : List ℕ) (f : AcceptedForm s) where
  pub blocks_read : blocks_counted (body_of s) ≡ blocks_in s (records_from s 0)
  blocks_read = take_fill zero_block 64 (blocks_in s (records_from s 0)) (counts s f).few_blocks

  pub effects_read : effects_counted (body_of s) ≡ effects_in s (records_from s 0)
  effects_read = take_fill zero_effect 256 (effects_in s (records_from s 0)) (counts s f).few_effects
