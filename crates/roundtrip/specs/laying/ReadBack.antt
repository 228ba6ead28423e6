-- What is written reads back the same, up to the counts: the body read from the bytes that a body is laid out as is
-- that body with zeros past its counts. It holds of every body whose fields fit their types and whose counts fit,
-- accepted or not. Rests on Laid, Kinds and Unique (bodies that are the same).
use Rattle.std.specs.Prelude.{true, List, [], ◌∷◌, ◌++◌, ◌≡◌, get_or, take, drop}
use Rattle.std.proofs.Math.Path.{ap}
use Rattle.std.proofs.Common.{sym, subst, ◌∙◌, arith, length-take-le}
use Prim.Native.Nat.{ℕ, zero, suc, ◌≤◌}
use Rattle.std.proofs.Math.ListN.{length, length-drop}
use Rattle.form.specs.Said.{Kind, Accepted}
use Rattle.form.specs.declared.Block.{Block}
use Rattle.form.specs.declared.Effect.{Effect}
use Rattle.form.specs.declared.Body.{Body}
use Rattle.form.specs.Form.{counter_role, block_role, effect_role, kind_of, kind_at, records_from, gather, own_effects}
use Rattle.form.specs.Form.{block_at, effect_at, blocks_in, effects_in, zero_block, zero_effect, body_with, body_of}
use Rattle.form.specs.Form.{up_to_counts, counter_bytes, block_bytes, effect_bytes, lay_blocks, lay, counts_fit, judge}
use Rattle.form.specs.Answer.{reading}
use Rattle.form.specs.Laying.{blocks_counted, counts_known}
use Rattle.form.specs.Records.{next, records_end, records_step}
use Rattle.roundtrip.specs.laying.Digits.{OfBytes, Each, each_append, each_byte}
use Rattle.roundtrip.specs.laying.Kinds.{HeldCounter, HeldBlock, HeldEffect, zero_block_lem, zero_effect_lem, Found}
use Rattle.roundtrip.specs.laying.Kinds.{found_inside, counter_found, block_found, effect_found, counter_back}
use Rattle.roundtrip.specs.laying.Kinds.{block_back, effect_back, counter_each, block_each, effect_each}
use Rattle.roundtrip.specs.laying.Filled.{effects_counted}
use Rattle.roundtrip.specs.laying.Laid.{Laid, none, block, effect, lays}
use Rattle.roundtrip.specs.Unique.{counts_add, lay_counted}

-- ---- fields that fit their types

pub record Held (body : Body) : Type 0 where
  pub counter : HeldCounter body.counter
  pub room_blocks : length body.blocks ≡ 64
  pub room_effects : length body.effects ≡ 256
  pub blocks : (i : ℕ) → HeldBlock (get_or body.blocks i zero_block)
  pub effects : (i : ℕ) → HeldEffect (get_or body.effects i zero_effect)

-- ---- bytes that are laid out read as what they are laid out from

-- what is read from place `at` on: how many effects belong to a block before it, the blocks, the effects
pub record ReadAs (s : List ℕ) (at own : ℕ) (ks : List Block) (es : List Effect) : Type 0 where
  pub owned : own_effects s (records_from s at) ≡ own
  pub blocks : blocks_in s (records_from s at) ≡ ks
  pub effects : effects_in s (records_from s at) ≡ es

module _ (s : List ℕ) where
  nothing_left : (at : ℕ) → drop at s ≡ [] → ReadAs s at 0 [] []
  unfolding gather own_effects
  nothing_left at d =
      let end = records_end s at (omega (arith, simp length-drop at (ap length d))) in
      record { owned = ap (own_effects s) end; blocks = ap (blocks_in s) end; effects = ap (effects_in s) end }

  -- the records from one that is found on, and its role
  module _ {at number : ℕ} {rest : List ℕ} (f : Found s at number rest) where
    records_of : records_from s at ≡ at ∷ records_from s (next s at)
    records_of = records_step s at (found_inside f)

    role_of : (kind_at s at).role ≡ (kind_of number).role
    role_of = ap (λ (k : Kind). k.role) f.kind

  effect_step :
      (at own : ℕ) (ks : List Block) (es : List Effect) (e : Effect) (t : List ℕ) → Found s at 3 t → effect_at s at ≡ e
      → ReadAs s (next s at) own ks es → ReadAs s at (suc own) ks (e ∷ es)
  unfolding gather own_effects kind_of
  effect_step at own ks es e t f here r =
      let role : (kind_at s at).role ≡ effect_role = role_of f in
      record {
        owned = ap (own_effects s) (records_of f) ∙ rw role (ap suc r.owned);
        blocks = ap (blocks_in s) (records_of f) ∙ rw role r.blocks;
        effects = ap (effects_in s) (records_of f) ∙ rw role (λ i. here i ∷ r.effects i);
      }

  block_step :
      (at : ℕ) (ks : List Block) (es : List Effect) (k : Block) (t : List ℕ) → Found s at 2 t
      → block_at s at k.effects ≡ k
      → ReadAs s (next s at) k.effects ks es → ReadAs s at 0 (k ∷ ks) es
  unfolding gather own_effects kind_of
  block_step at ks es k t f here r =
      let role : (kind_at s at).role ≡ block_role = role_of f in
      let read : block_at s at (own_effects s (records_from s (next s at))) ≡ k = ap (block_at s at) r.owned ∙ here in
      record {
        owned = ap (own_effects s) (records_of f) ∙ rw role;
        blocks = ap (blocks_in s) (records_of f) ∙ rw role (λ i. read i ∷ r.blocks i);
        effects = ap (effects_in s) (records_of f) ∙ rw role r.effects;
      }

  read_back_lem :
      {t : List ℕ} {own : ℕ} {ks : List Block} {es : List Effect} → Laid t own ks es
      → ((i : ℕ) → HeldBlock (get_or ks i zero_block))
      → ((i : ℕ) → HeldEffect (get_or es i zero_effect)) → (at : ℕ) → drop at s ≡ t → ReadAs s at own ks es
  read_back_lem none hk he at d = nothing_left at d
  read_back_lem (effect {t = t} {own = own} {ks = ks} {es = es} e l) hk he at d =
      let f = effect_found s at t e d in
      effect_step at own ks es e t f (effect_back s at t e (he 0) d)
      (read_back_lem l hk (λ i. he (suc i)) (next s at) f.on)
  read_back_lem (block {t = t} {ks = ks} {es = es} k l) hk he at d =
      let f = block_found s at t k d in
      block_step at ks es k t f (block_back s at t k (hk 0) d) (read_back_lem l (λ i. hk (suc i)) he (next s at) f.on)

-- ---- what is laid out is bytes

laid_each :
    {t : List ℕ} {own : ℕ} {ks : List Block} {es : List Effect} → Laid t own ks es
    → ((i : ℕ) → HeldBlock (get_or ks i zero_block))
    → ((i : ℕ) → HeldEffect (get_or es i zero_effect)) → Each t
laid_each none hk he = tt
laid_each (effect {t = t} e l) hk he = each_append (effect_bytes e) t (effect_each e (he 0))
    (laid_each l hk (λ i. he (suc i)))
laid_each (block {t = t} k l) hk he = each_append (block_bytes k) t (block_each k (hk 0))
    (laid_each l (λ i. hk (suc i)) he)

-- ---- the theorem

-- what holds of every entry holds of every entry up to a count
taken : {A : Type 0} (P : A → Type 0) (z : A) → P z → (n : ℕ) (l : List A) → ((i : ℕ) → P (get_or l i z)) → (i : ℕ)
    → P (get_or (take n l) i z)
taken P z p zero l h i = p
taken P z p (suc n) [] h i = p
taken P z p (suc n) (x ∷ l) h zero = h zero
taken P z p (suc n) (x ∷ l) h (suc i) = taken P z p n l (λ j. h (suc j)) i

module _ (body : Body) (h : Held body) (fit : counts_fit body ≡ true) where
  few_effects : body.total ≤ length body.effects
  few_effects = omega (arith, (counts_known body fit).1, counts_add body fit, h.room_effects)

  laid :
      Laid (lay_blocks (blocks_counted body) (effects_counted body)) 0 (blocks_counted body) (effects_counted body)
  laid = lays _ _ (counts_add body fit ∙ sym (length-take-le body.total body.effects few_effects))

  blocks_held : (i : ℕ) → HeldBlock (get_or (blocks_counted body) i zero_block)
  blocks_held = taken HeldBlock zero_block zero_block_lem body.count body.blocks h.blocks

  effects_held : (i : ℕ) → HeldEffect (get_or (effects_counted body) i zero_effect)
  effects_held = taken HeldEffect zero_effect zero_effect_lem body.total body.effects h.effects

  abbrev rest : List ℕ
  rest = lay_blocks (blocks_counted body) (effects_counted body)

  first : Found (lay body) 0 1 rest
  first = counter_found (lay body) 0 rest body.counter (lay_counted body fit)

  after : ReadAs (lay body) (next (lay body) 0) 0 (blocks_counted body) (effects_counted body)
  after = read_back_lem (lay body) laid blocks_held effects_held (next (lay body) 0) first.on

  first_role : (kind_at (lay body) 0).role ≡ counter_role
  unfolding kind_of
  first_role = role_of (lay body) first

  blocks_back : blocks_in (lay body) (records_from (lay body) 0) ≡ blocks_counted body
  unfolding gather
  blocks_back = ap (blocks_in (lay body)) (records_of (lay body) first) ∙ rw first_role after.blocks

  effects_back : effects_in (lay body) (records_from (lay body) 0) ≡ effects_counted body
  unfolding gather
  effects_back = ap (effects_in (lay body)) (records_of (lay body) first) ∙ rw first_role after.effects

  pub body_back : body_of (lay body) ≡ up_to_counts body
  unfolding up_to_counts
  body_back = λ i. body_with (counter_back (lay body) 0 rest body.counter h.counter (lay_counted body fit) i)
      (blocks_back i) (effects_back i)

  -- so the reader answers it, where it accepts what is written
  pub reading_back : judge (lay body) ≡ Accepted
      → reading (lay body) ≡ record { verdict = Accepted; body = up_to_counts body }
  reading_back a = rw (a, body_back)

  -- and what is laid out is bytes
  pub lay_bytes : OfBytes (lay body)
  lay_bytes =
      subst OfBytes (sym (lay_counted body fit))
      (each_byte (counter_bytes body.counter ++ rest)
      (each_append (counter_bytes body.counter) rest (counter_each body.counter h.counter)
      (laid_each laid blocks_held effects_held)))
