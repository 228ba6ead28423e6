-- What the layers above may count on in the body of an accepted form. WellFormed has one fact for each rule of document
-- 01 that the reader sees to; Conflict's Sound, which routes and conflicts ask for, follows. Blocks and effects are
-- taken up to their counts; past them stand zeros, for which every fact holds too, so none asks for a place below the
-- count. Rests on Form and Conflict; the proof on Acceptance.
use Rattle.std.specs.Prelude.{true, ◌&&◌, ◌≡◌, ltb, pos, get_or, take, drop}
use mathlib.Core.List.{List, [], ◌∷◌}
use Rattle.std.proofs.Common.{inl, inr, ap, ◌∙◌, zero-add, add-zero, arith, lit<, get_or-take, SFits}
use Rattle.std.proofs.Math.Path.{refl, sym, subst}
use Prim.Native.Nat.{ℕ, zero, suc, ◌+◌, ◌<◌, ◌≤◌}
use borrow.Author.Tests.{leb-false, ltb-false, lt-ltb, le-leb, eq-eqb}
use Rattle.std.proofs.Math.Dec.{eqb, lit≤}
use Rattle.std.proofs.Math.ListN.{length}
use Rattle.std.specs.Int.{w32}
use Rattle.laws.specs.Terms.{Mem}
use Rattle.laws.specs.Tests.{or_no}
use Rattle.lower_laws.specs.Endings.{by_ending}
use Rattle.form.specs.declared.Block.{Block}
use Rattle.form.specs.declared.Effect.{Effect}
use Rattle.form.specs.declared.Body.{Body}
use Rattle.form.specs.Said.{Accepted}
use Rattle.form.specs.Form.{block_role, is_block, records_from, bad_end, far_target, end_fault, judge_ends, judge, gather}
use Rattle.form.specs.Form.{own_effects, block_at, effect_at, blocks_in, effects_in, zero_block, zero_effect, fill, body_of}
use Rattle.form.specs.Form.{sum_own, counts_fit}
use Rattle.form.specs.Conflict.{block as form_block, effects_below, effects_of, exits_by, exits, Onward, Sound}
use Rattle.form.specs.Laying.{blocks_counted}
use Rattle.form.specs.Records.{next}
use Rattle.roundtrip.specs.laying.Digits.{zero_fits, signed4_fits}
use Rattle.roundtrip.specs.laying.Filled.{effects_counted, fill_length}
use Rattle.roundtrip.specs.Acceptance.{judged_out, no_fault, second_fails, no_target, some_before, one_more}
use Rattle.roundtrip.specs.Acceptance.{BlockRecord, EffectRecord, Passing, finish, block, effect, AcceptedForm}
use Rattle.roundtrip.specs.Acceptance.{accepted_form, Counts, counts, blocks_after, effects_after, blocks_read}
use Rattle.roundtrip.specs.Acceptance.{effects_read}

abbrev pub block_of : Body → ℕ → Block
block_of body b = get_or (take body.count body.blocks) b zero_block

abbrev pub effect_of : Body → ℕ → Effect
effect_of body i = get_or (take body.total body.effects) i zero_effect

-- Block b of `count`
pub record WellFormedBlock (count b : ℕ) (k : Block) : Type 0 where
  pub cost : k.cost ≤ 1000000
  pub ending : k.ending ≤ 3
  pub variable : k.variable ≤ 15
  pub relation : k.relation ≤ 5
  pub constant : SFits w32 k.constant
  pub last_ends : count ≤ suc b → k.ending ≡ 0
  pub only_last : suc b < count → 0 < k.ending
  pub jump_above : 0 < k.ending → b < k.jump
  pub jump_inside : 0 < k.ending → k.jump < count
  pub fall_above : 1 < k.ending → b < k.fall
  pub fall_inside : 1 < k.ending → k.fall < count
  pub no_jump : k.ending < 1 → k.jump ≡ 0
  pub no_fall : k.ending < 2 → k.fall ≡ 0
  pub no_variable : k.ending < 3 → k.variable ≡ 0
  pub no_relation : k.ending < 3 → k.relation ≡ 0
  pub no_constant : k.ending < 3 → k.constant ≡ pos 0

pub record WellFormedEffect (e : Effect) : Type 0 where
  pub variable : e.variable ≤ 15
  pub how : e.how ≤ 1
  pub constant : SFits w32 e.constant
  pub no_constant : e.how < 1 → e.constant ≡ pos 0

pub record WellFormed (body : Body) : Type 0 where
  pub room_blocks : length body.blocks ≡ 64
  pub room_effects : length body.effects ≡ 256
  pub some_block : 0 < body.count
  pub few_blocks : body.count ≤ 64
  pub few_effects : body.total ≤ 256
  pub add_up : sum_own (blocks_counted body) ≡ body.total
  pub initial : SFits w32 body.counter.initial
  pub step : SFits w32 body.counter.step
  pub relation : body.counter.relation ≤ 5
  pub limit : SFits w32 body.counter.limit
  pub blocks : (b : ℕ) → WellFormedBlock body.count b (block_of body b)
  pub effects : (i : ℕ) → WellFormedEffect (effect_of body i)

-- the writer's counts fit
pub counts_fit_lem : (body : Body) → WellFormed body → counts_fit body ≡ true
unfolding counts_fit
counts_fit_lem body h =
    rw (le-leb body.count 64 h.few_blocks, le-leb body.total 256 h.few_effects) (eq-eqb _ _ h.add_up)

-- below the counts the arrays hold the blocks and effects
pub block_at_lem : (body : Body) (b : ℕ) → b < body.count → get_or body.blocks b zero_block ≡ block_of body b
block_at_lem body b h = sym (get_or-take body.count body.blocks b zero_block h)

pub effect_at_lem : (body : Body) (i : ℕ) → i < body.total → get_or body.effects i zero_effect ≡ effect_of body i
effect_at_lem body i h = sym (get_or-take body.total body.effects i zero_effect h)

-- ---- the proof: one record

-- past the last block
past : (n b : ℕ) → n ≤ b → WellFormedBlock n b zero_block
past n b h =
    record {
      cost = lit≤ tt;
      ending = lit≤ tt;
      variable = lit≤ tt;
      relation = lit≤ tt;
      constant = zero_fits;
      last_ends = λ l. refl;
      only_last = λ l. omega arith;
      jump_above = λ u. omega arith;
      jump_inside = λ u. omega arith;
      fall_above = λ u. omega arith;
      fall_inside = λ u. omega arith;
      no_jump = λ u. refl;
      no_fall = λ u. refl;
      no_variable = λ u. refl;
      no_relation = λ u. refl;
      no_constant = λ u. refl;
    }

module _ (s : List ℕ) where
  -- what 18 and 19 leave of a block, number b of n
  block_well : (at b n own : ℕ) → BlockRecord s at b → end_fault s at n b ≡ 0 → WellFormedBlock n b (block_at s at own)
  unfolding end_fault
  block_well at b n own k e =
      let (end, e₁) = no_fault (is_block s at && bad_end (block_at s at 0) n b) 18 _ (lit< tt) e in
      let (beyond, e₂) = no_fault (is_block s at && far_target (block_at s at 0) n) 19 0 (lit< tt) e₁ in
      let (early, late) = or_no (ltb (b + 1) n && eqb ending 0) _ (second_fails (bad_end (block_at s at 0) n b) is end) in
      let (inside, inside') = no_target ending _ _ (second_fails (far_target (block_at s at 0) n) is beyond) in
      let good = k.fields in
      record {
        cost = good.cost;
        ending = good.ending;
        variable = good.variable;
        relation = good.relation;
        constant = signed4_fits s _;
        last_ends = λ l. omega
            (arith, ltb-false 0 ending (second_fails (ltb 0 ending) (le-leb n (b + 1) (omega arith)) late));
        only_last = λ l. some_before ending (second_fails (eqb ending 0) (lt-ltb (b + 1) n (omega arith)) early);
        jump_above = k.jump_above;
        jump_inside = λ u. leb-false _ _ (inside u);
        fall_above = k.fall_above;
        fall_inside = λ u. leb-false _ _ (inside' u);
        no_jump = good.no_jump;
        no_fall = good.no_fall;
        no_variable = good.no_variable;
        no_relation = good.no_relation;
        no_constant = good.no_constant;
      }
    where
      ending : ℕ
      ending = (block_at s at 0).ending

      is : is_block s at ≡ true
      is = eq-eqb _ block_role k.role

  effect_well : (at b e : ℕ) → EffectRecord s at b e → WellFormedEffect (effect_at s at)
  effect_well at b e f =
      let good = f.fields in
      record {
        variable = good.variable;
        how = good.how;
        constant = signed4_fits s _;
        no_constant =
            good.no_constant;
      }

-- ---- record by record

-- the block at hand is number b, and those after it follow
here_or_later :
    {n b : ℕ} {k : Block} (ks : List Block) → WellFormedBlock n b k
    → ((i : ℕ) → WellFormedBlock n (b + 1 + i) (get_or ks i zero_block))
    → (i : ℕ) → WellFormedBlock n (b + i) (get_or (k ∷ ks) i zero_block)
here_or_later {b = b} ks h l zero = rw (add-zero b) h
here_or_later {b = b} ks h l (suc i) = rw (← (one_more b i)) (l i)

first_or_later : {e : Effect} (es : List Effect) → WellFormedEffect e
    → ((i : ℕ) → WellFormedEffect (get_or es i zero_effect)) → (i : ℕ) → WellFormedEffect (get_or (e ∷ es) i zero_effect)
first_or_later es h l zero = h
first_or_later es h l (suc i) = l i

module _ (s : List ℕ) where
  blocks_well :
      {at b e : ℕ} {records : List ℕ} → Passing s at b e records → (n : ℕ) → n ≡ b + length (blocks_in s records)
      → judge_ends s n records b ≡ Accepted
      → (i : ℕ) → WellFormedBlock n (b + i) (get_or (blocks_in s records) i zero_block)
  unfolding gather judge_ends
  blocks_well (finish {b = b} l ended) n c a i = past n (b + i) (omega arith)
  blocks_well (block {at = at} {b = b} {rest = rest} k w) n c a i =
      let (fine, more) = judged_out (end_fault s at n b) at _ a in
      let c' : n ≡ b + suc (length (blocks_in s rest)) = rw k.role at c in
      let a' : judge_ends s n rest (b + 1) ≡ Accepted = rw k.role at more in
      let later = blocks_well w n (c' ∙ sym (one_more b (length (blocks_in s rest)))) a' in
      rw k.role (here_or_later (blocks_in s rest) (block_well s at b n (own_effects s rest) k fine) later i)
  blocks_well (effect {at = at} {b = b} {rest = rest} f w) n c a i =
      let (fine, more) = judged_out (end_fault s at n b) at _ a in
      let c' : n ≡ b + length (blocks_in s rest) = rw f.role at c in
      let a' : judge_ends s n rest (b + 0) ≡ Accepted = rw f.role at more in
      rw f.role (blocks_well w n c' (subst (λ (m : ℕ). judge_ends s n rest m ≡ Accepted) (add-zero b) a') i)

  effects_well : {at b e : ℕ} {records : List ℕ} → Passing s at b e records → (i : ℕ)
      → WellFormedEffect (get_or (effects_in s records) i zero_effect)
  unfolding gather
  effects_well (finish l ended) i =
      record { variable = lit≤ tt; how = lit≤ tt; constant = zero_fits; no_constant = λ u. refl }
  effects_well (block k w) i = rw k.role (effects_well w i)
  effects_well (effect {at = at} {b = b} {e = e} {rest = rest} f w) i =
      rw f.role (first_or_later (effects_in s rest) (effect_well s at b e f) (effects_well w) i)

-- ---- the theorem

module _ (s : List ℕ) (a : judge s ≡ Accepted) where
  read : AcceptedForm s
  read = accepted_form s a

  number : Counts s (blocks_in s (records_from s 0)) (effects_in s (records_from s 0))
  number = counts s read

  -- the counter passes the judging of the blocks
  ends_after : (n : ℕ) → judge_ends s n (records_from s 0) 0 ≡ Accepted
      → judge_ends s n (records_from s (next s 0)) 0 ≡ Accepted
  unfolding judge_ends
  ends_after n e =
      let e' : judge_ends s n (0 ∷ records_from s (next s 0)) 0 ≡ Accepted = rw read.starts at e in
      rw read.counter.role at (judged_out (end_fault s 0 n 0) 0 _ e').1

  blocks_same : blocks_counted (body_of s) ≡ blocks_in s (records_from s (next s 0))
  blocks_same = blocks_read s read ∙ blocks_after s read

  effects_same : effects_counted (body_of s) ≡ effects_in s (records_from s (next s 0))
  effects_same = effects_read s read ∙ effects_after s read

  block_read : (b : ℕ) → WellFormedBlock (body_of s).count b (block_of (body_of s) b)
  block_read b =
      let n = (body_of s).count in
      let all : n ≡ 0 + length (blocks_in s (records_from s (next s 0))) = ap length (blocks_after s read)
      ∙ sym (zero-add _) in
      subst (λ (p : ℕ × List Block). WellFormedBlock n p.0 (get_or p.1 b zero_block))
      (λ i. (zero-add b i, sym blocks_same i))
      (blocks_well s read.passing n all (ends_after n number.ended.ends) b)

  effect_read : (i : ℕ) → WellFormedEffect (effect_of (body_of s) i)
  effect_read i = subst (λ (es : List Effect). WellFormedEffect (get_or es i zero_effect)) (sym effects_same)
      (effects_well s read.passing i)

  pub well_formed : WellFormed (body_of s)
  well_formed =
      record {
        room_blocks = fill_length zero_block 64 _;
        room_effects = fill_length zero_effect 256 _;
        some_block = number.ended.some;
        few_blocks = number.few_blocks;
        few_effects = number.few_effects;
        add_up = ap sum_own (blocks_read s read) ∙ number.owned;
        initial = signed4_fits s _;
        step = signed4_fits s _;
        relation = read.counter.relation;
        limit = signed4_fits s _;
        blocks = block_read;
        effects = effect_read;
      }

-- ---- what routes and conflicts ask for

-- a target that some exit has is used
at_targets :
    (P : ℕ → Type 0) (ending jump fall : ℕ) → (0 < ending → P jump) → (1 < ending → P fall) → (o : ℕ × ℕ)
    → Mem o (exits_by ending jump fall) → P o.1
at_targets P ending jump fall =
    by_ending jump fall (λ e l. (0 < e → P jump) → (1 < e → P fall) → (o : ℕ × ℕ) → Mem o l → P o.1)
    (λ j f o m. absurd m) (λ j f o m. one (j (omega arith)) o m)
    (λ j f o m. both (j (omega arith)) (f (omega arith)) o m)
    (λ j f o m. both (j (omega arith)) (f (omega arith)) o m) (λ above h j f o m. absurd m) ending
  where
    one : P jump → (o : ℕ × ℕ) → Mem o ((1, jump) ∷ []) → P o.1
    one j o (inr x') = elim x' [ ]
    one j o (inl e) = subst (λ (q : ℕ × ℕ). P q.1) (sym e) j

    both : P jump → P fall → (o : ℕ × ℕ) → Mem o ((1, jump) ∷ (2, fall) ∷ []) → P o.1
    both j f o (inl e) = subst (λ (q : ℕ × ℕ). P q.1) (sym e) j
    both j f o (inr (inr x'')) = elim x'' [ ]
    both j f o (inr (inl e)) = subst (λ (q : ℕ × ℕ). P q.1) (sym e) f

-- a block that does not end is left by jump
left_by_jump : (ending jump fall : ℕ) → 0 < ending → ending ≤ 3 → Mem (1, jump) (exits_by ending jump fall)
left_by_jump ending jump fall =
    by_ending jump fall (λ e l. 0 < e → e ≤ 3 → Mem (1, jump) l) (λ some few. absurd (omega arith))
    (λ some few. inl refl)
    (λ some few. inl refl) (λ some few. inl refl) (λ above h some few. absurd (omega arith)) ending

module _ (body : Body) (w : WellFormed body) where
  pub onward : Onward body
  unfolding exits form_block
  onward =
      record {
        above = λ b. at_targets (λ t. b < t) _ _ _ (w.blocks b).jump_above (w.blocks b).fall_above;
        inside = λ b. at_targets (λ t. t < body.count) _ _ _ (w.blocks b).jump_inside (w.blocks b).fall_inside;
      }

  pub is_sound : ((b : ℕ) (e : Effect) → Mem e (effects_of body b) → SFits w32 e.constant) → Sound body
  unfolding exits form_block
  is_sound fits =
      record {
        some = w.some_block;
        few = w.few_blocks;
        onward = onward;
        going = λ b l. (
          (1, (block_of body b).jump),
          left_by_jump _ _ (block_of body b).fall ((w.blocks b).only_last l)
              (w.blocks b).ending,
        );
        known = λ b. (w.blocks b).relation;
        fits = fits;
      }

-- what holds of every place holds of every element
module _ {A : Type 0} (P : A → Type 0) (z : A) where
  of_places : (l : List A) → ((i : ℕ) → P (get_or l i z)) → (x : A) → Mem x l → P x
  of_places [] h x x4 = elim x4 [ ]
  of_places (y ∷ l) h x (inl e) = subst P (sym e) (h 0)
  of_places (y ∷ l) h x (inr m) = of_places l (λ i. h (suc i)) x m

  of_filled : (n : ℕ) (l : List A) → P z → ((i : ℕ) → P (get_or l i z)) → (x : A) → Mem x (fill z n l) → P x
  unfolding fill
  of_filled zero l zero_too h x x5 = elim x5 [ ]
  of_filled (suc n) [] zero_too h x (inl e) = subst P (sym e) zero_too
  of_filled (suc n) [] zero_too h x (inr m) = of_filled n [] zero_too (λ i. zero_too) x m
  of_filled (suc n) (y ∷ l) zero_too h x (inl e) = subst P (sym e) (h 0)
  of_filled (suc n) (y ∷ l) zero_too h x (inr m) = of_filled n l zero_too (λ i. h (suc i)) x m

  taken : (n : ℕ) (l : List A) (x : A) → Mem x (take n l) → Mem x l
  taken zero l x x3 = elim x3 [ ]
  taken (suc n) [] x x6 = elim x6 [ ]
  taken (suc n) (y ∷ l) x (inl e) = inl e
  taken (suc n) (y ∷ l) x (inr m) = inr (taken n l x m)

  dropped : (n : ℕ) (l : List A) (x : A) → Mem x (drop n l) → Mem x l
  dropped (suc n) [] x m = elim m [ ]
  dropped zero l x m = m
  dropped (suc n) (y ∷ l) x m = inr (dropped n l x m)

pub sound : (s : List ℕ) → judge s ≡ Accepted → Sound (body_of s)
unfolding effects_of
sound s a = is_sound (body_of s) (well_formed s a) fits
  where
    each : (i : ℕ) → SFits w32 (get_or (effects_in s (records_from s 0)) i zero_effect).constant
    each i = (subst (λ (es : List Effect). WellFormedEffect (get_or es i zero_effect)) (sym (effects_after s (read s a)))
        (effects_well s (read s a).passing i)).constant

    fits : (b : ℕ) (e : Effect) → Mem e (effects_of (body_of s) b) → SFits w32 e.constant
    fits b e m =
        of_filled (λ (e : Effect). SFits w32 e.constant) zero_effect 256 (effects_in s (records_from s 0)) zero_fits
        each e
        (dropped (λ (e : Effect). SFits w32 e.constant) zero_effect (effects_below (body_of s) b) (body_of s).effects e
        (taken (λ (e : Effect). SFits w32 e.constant) zero_effect (form_block (body_of s) b).effects _ e m))
