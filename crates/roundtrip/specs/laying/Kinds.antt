-- One record of each kind, between its bytes and its fields. For each kind: which number the table gives its role; that
-- records whose bytes are the same are the same; that what is laid out reads as what it was laid out from; that what is
-- read lays out as the bytes it was read from; and that what is laid out is bytes. A new kind adds one law to each.
-- Rests on Form and Digits.
use Rattle.std.specs.Prelude.{Bool, List, ◌∷◌, ◌++◌, ◌≡◌, ℕ, ◌+◌, ◌-◌, ◌*◌, ◌<◌, ◌≤◌, ◌^◌}
use Rattle.std.proofs.Math.Bool.{true, false}
use Rattle.std.proofs.Math.Path.{refl}
use Rattle.std.proofs.Common.{ap, sym, ◌∙◌, zero-add, add_assoc, add-zero, arith, eqb-true, lit<, length-drop, length-append, get_or-drop, drop-drop, SFits, to_z}
use Rattle.std.proofs.Math.Dec.{eqb}
use Rattle.std.proofs.Math.ListN.{length, drop}
use Rattle.std.proofs.Math.Seq.{drop-append_seam}
use Rattle.std.proofs.Math.Facts.{of_z-to_z}
use Rattle.std.specs.Int.{w32}
use Rattle.form.specs.declared.Counter.{Counter}
use Rattle.form.specs.declared.Block.{Block}
use Rattle.form.specs.declared.Effect.{Effect}
use Rattle.form.specs.Said.{Kind}
use Rattle.form.specs.Form.{when, byte_at, number2, number4, signed4, unknown, counter_role, block_role, effect_role}
use Rattle.form.specs.Form.{kind_of, length_at, kind_number, kind_at, counter_at, block_at, effect_at, counter_bytes}
use Rattle.form.specs.Form.{block_bytes, effect_bytes, zero_block, zero_effect}
use Rattle.form.specs.Records.{next, next_above}
use Rattle.roundtrip.specs.laying.Digits.{OfBytes, Each, spread, spread_all, two, four, fits4, digits4, signed_again}
use Rattle.roundtrip.specs.laying.Digits.{zero_fits}

-- ---- the table's numbers, by the role

-- a number of this role is one of its kinds
module _ (number : ℕ) where
  pub of_role :
      {C : Type 0} (role : ℕ) → (kind_of number).role ≡ role → (number ≡ 1 → counter_role ≡ role → C)
      → (number ≡ 2 → block_role ≡ role → C)
      → (number ≡ 3 → effect_role ≡ role → C) → (unknown ≡ role → C) → C
  unfolding kind_of
  of_role {C} role e first second third other = by (eqb number 1) (eqb number 2) (eqb number 3) refl refl refl e
    where
      by :
          (a b c : Bool) → eqb number 1 ≡ a → eqb number 2 ≡ b → eqb number 3 ≡ c
          → (when {A = Kind} a (record { length = 17; role = counter_role })
          (when b (record { length = 17; role = block_role })
          (when c (record { length = 10; role = effect_role }) (record { length = 4; role = unknown })))).role
          ≡ role
          → C
      by true b c p q r e = first (eqb-true _ _ p) e
      by false true c p q r e = second (eqb-true _ _ q) e
      by false false true p q r e = third (eqb-true _ _ r) e
      by false false false p q r e = other e

  pub counter_kind : (kind_of number).role ≡ counter_role → number ≡ 1
  counter_kind e = of_role counter_role e (λ n r. n) (λ n r. absurd (omega arith)) (λ n r. absurd (omega arith))
      (λ r. absurd (omega arith))

  pub block_kind : (kind_of number).role ≡ block_role → number ≡ 2
  block_kind e = of_role block_role e (λ n r. absurd (omega arith)) (λ n r. n) (λ n r. absurd (omega arith))
      (λ r. absurd (omega arith))

  pub effect_kind : (kind_of number).role ≡ effect_role → number ≡ 3
  effect_kind e = of_role effect_role e (λ n r. absurd (omega arith)) (λ n r. absurd (omega arith)) (λ n r. n)
      (λ r. absurd (omega arith))

-- ---- where the bytes are the same the records are

module _ (s t : List ℕ) (p q : ℕ) (same : (i : ℕ) → i < 17 → byte_at s (p + i) ≡ byte_at t (q + i)) where
  two_same : (i : ℕ) → i + 1 < 17 → number2 s (p + i) ≡ number2 t (q + i)
  two_same i h = λ j. same i (omega arith) j + 256 * (ap (byte_at s) (add_assoc p i 1)
      ∙ (same (i + 1) h ∙ ap (byte_at t) (sym (add_assoc q i 1)))) j

  four_same : (i : ℕ) → i + 2 + 1 < 17 → number4 s (p + i) ≡ number4 t (q + i)
  four_same i h =
      λ j. two_same i (omega arith) j + 65536 * (ap (number2 s) (add_assoc p i 2)
      ∙ (two_same (i + 2) h ∙ ap (number2 t) (sym (add_assoc q i 2)))) j

  signed_same : (i : ℕ) → i + 2 + 1 < 17 → signed4 s (p + i) ≡ signed4 t (q + i)
  signed_same i h = ap (to_z w32) (four_same i h)

  pub length_same : length_at s p ≡ length_at t q
  length_same = ap (number2 s) (sym (add-zero p)) ∙ (two_same 0 (lit< tt) ∙ ap (number2 t) (add-zero q))

  pub kind_same : kind_number s p ≡ kind_number t q
  kind_same = two_same _ (lit< tt)

  pub counter_same : counter_at s p ≡ counter_at t q
  counter_same =
      let initial = signed_same _ (lit< tt) in
      let step = signed_same _ (lit< tt) in
      let relation = same _ (lit< tt) in
      let limit = signed_same _ (lit< tt) in
      λ j. record { initial = initial j; step = step j; relation = relation j; limit = limit j }

  pub block_same : (own : ℕ) → block_at s p own ≡ block_at t q own
  block_same own =
      let cost = four_same _ (lit< tt) in
      let ending = same _ (lit< tt) in
      let jump = same _ (lit< tt) in
      let fall = same _ (lit< tt) in
      let variable = same _ (lit< tt) in
      let relation = same _ (lit< tt) in
      let constant = signed_same _ (lit< tt) in
      λ j. record {
        cost = cost j;
        ending = ending j;
        jump = jump j;
        fall = fall j;
        variable = variable j;
        relation = relation j;
        constant = constant j;
        effects = own;
      }

  pub effect_same : effect_at s p ≡ effect_at t q
  effect_same =
      let variable = same _ (lit< tt) in
      let how = same _ (lit< tt) in
      let constant = signed_same _ (lit< tt) in
      λ j. record { variable = variable j; how = how j; constant = constant j }

-- so a record at a place is the record that starts what is left from there on
left : (s : List ℕ) (at i : ℕ) → i < 17 → byte_at s (at + i) ≡ byte_at (drop at s) (0 + i)
left s at i h = sym (get_or-drop at s i 0) ∙ ap (byte_at (drop at s)) (sym (zero-add i))

left_bytes : (s : List ℕ) (at : ℕ) → OfBytes s → OfBytes (drop at s)
left_bytes s at h i = rw (get_or-drop at s i 0) (h (at + i))

-- ---- what is read lays out as the bytes it was read from

next_byte : (x : ℕ) {l m : List ℕ} → l ≡ m → x ∷ l ≡ x ∷ m
next_byte x e = ap (λ (l : List ℕ). x ∷ l) e

module _ (t : List ℕ) (h : OfBytes t) where
  counter_again : length_at t 0 ≡ 17 → kind_number t 0 ≡ 1 → 17 ≤ length t → counter_bytes (counter_at t 0) ++ drop 17 t ≡ t
  unfolding spread kind_of
  counter_again l k r =
      let all : counter_bytes (counter_at t 0) ++ drop 17 t ≡ spread 17 0 t (drop 17 t) =
      two t h _ _ (sym l) (two t h _ _ (sym k)
      (four t h _ _ (of_z-to_z (fits4 t h _)) (four t h _ _ (of_z-to_z (fits4 t h _))
      (next_byte _ (four t h _ _ (of_z-to_z (fits4 t h _)) refl))))) in
      all ∙ spread_all 17 t r

  block_again : (own : ℕ) → length_at t 0 ≡ 17 → kind_number t 0 ≡ 2 → 17 ≤ length t
      → block_bytes (block_at t 0 own) ++ drop 17 t ≡ t
  unfolding spread kind_of
  block_again own l k r =
      let all : block_bytes (block_at t 0 own) ++ drop 17 t ≡ spread 17 0 t (drop 17 t) =
      two t h _ _ (sym l) (two t h _ _ (sym k) (four t h _ _ refl
      (next_byte _ (next_byte _
      (next_byte _ (next_byte _ (next_byte _ (four t h _ _ (of_z-to_z (fits4 t h _)) refl)))))))) in
      all ∙ spread_all 17 t r

  effect_again : length_at t 0 ≡ 10 → kind_number t 0 ≡ 3 → 10 ≤ length t → effect_bytes (effect_at t 0) ++ drop 10 t ≡ t
  unfolding spread kind_of
  effect_again l k r =
      let all : effect_bytes (effect_at t 0) ++ drop 10 t ≡ spread 10 0 t (drop 10 t) =
      two t h _ _ (sym l) (two t h _ _ (sym k)
      (next_byte _ (next_byte _ (four t h _ _ (of_z-to_z (fits4 t h _)) refl)))) in
      all ∙ spread_all 10 t r

-- and so at any place
module _ (s : List ℕ) (at : ℕ) where
  numbered : {number : ℕ} (size : ℕ) → kind_number s at ≡ number → (kind_of number).length ≡ size
      → (kind_at s at).length ≡ size
  numbered size k l = ap (λ (n : ℕ). (kind_of n).length) k ∙ l

  pub counter_length : (kind_at s at).role ≡ counter_role → (kind_at s at).length ≡ 17
  unfolding kind_of
  counter_length r = numbered 17 (counter_kind _ r) refl

  pub block_length : (kind_at s at).role ≡ block_role → (kind_at s at).length ≡ 17
  unfolding kind_of
  block_length r = numbered 17 (block_kind _ r) refl

  pub effect_length : (kind_at s at).role ≡ effect_role → (kind_at s at).length ≡ 10
  unfolding kind_of
  effect_length r = numbered 10 (effect_kind _ r) refl

  module _ (h : OfBytes s) (sized : length_at s at ≡ (kind_at s at).length) (room : next s at ≤ length s) where
    -- a record of this kind and size, laid out again at the start of what is left
    again_here :
        (number size : ℕ) (bytes : List ℕ) → kind_number s at ≡ number → (kind_at s at).length ≡ size
        → (length_at (drop at s) 0 ≡ size → kind_number (drop at s) 0 ≡ number → size ≤ length (drop at s)
        → bytes ++ drop size (drop at s) ≡ drop at s)
        → bytes ++ drop (next s at) s ≡ drop at s
    again_here number size bytes k l again =
        let on : drop (next s at) s ≡ drop size (drop at s) = ap (λ (n : ℕ). drop (at + n) s) l
        ∙ sym (drop-drop size at s) in
        let fits : size ≤ length (drop at s) = simp length-drop (omega (arith, room, l)) in
        ap (λ (r : List ℕ). bytes ++ r) on
        ∙ again (sym (length_same s (drop at s) at 0 (left s at)) ∙ (sized ∙ l))
        (sym (kind_same s (drop at s) at 0 (left s at)) ∙ k) fits

    pub counter_laid : (kind_at s at).role ≡ counter_role → counter_bytes (counter_at s at) ++ drop (next s at) s ≡ drop at s
    counter_laid r =
        ap (λ (v : Counter). counter_bytes v ++ drop (next s at) s) (counter_same s (drop at s) at 0 (left s at))
        ∙ (again_here 1 17 (counter_bytes (counter_at (drop at s) 0)) (counter_kind _ r) (counter_length r)
        (counter_again (drop at s) (left_bytes s at h)))

    pub block_laid : (own : ℕ) → (kind_at s at).role ≡ block_role
        → block_bytes (block_at s at own) ++ drop (next s at) s ≡ drop at s
    block_laid own r =
        ap (λ (v : Block). block_bytes v ++ drop (next s at) s) (block_same s (drop at s) at 0 (left s at) own)
        ∙ (again_here 2 17 (block_bytes (block_at (drop at s) 0 own)) (block_kind _ r) (block_length r)
        (block_again (drop at s) (left_bytes s at h) own))

    pub effect_laid : (kind_at s at).role ≡ effect_role → effect_bytes (effect_at s at) ++ drop (next s at) s ≡ drop at s
    effect_laid r =
        ap (λ (v : Effect). effect_bytes v ++ drop (next s at) s) (effect_same s (drop at s) at 0 (left s at))
        ∙ (again_here 3 10 (effect_bytes (effect_at (drop at s) 0)) (effect_kind _ r) (effect_length r)
        (effect_again (drop at s) (left_bytes s at h)))

-- ---- what is laid out reads as what it was laid out from

-- fields that fit their types
pub record HeldCounter (c : Counter) : Type 0 where
  pub initial : SFits w32 c.initial
  pub step : SFits w32 c.step
  pub relation : c.relation < 256
  pub limit : SFits w32 c.limit

pub record HeldBlock (k : Block) : Type 0 where
  pub cost : k.cost < 2 ^ 32
  pub ending : k.ending < 256
  pub jump : k.jump < 256
  pub fall : k.fall < 256
  pub variable : k.variable < 256
  pub relation : k.relation < 256
  pub constant : SFits w32 k.constant

pub record HeldEffect (e : Effect) : Type 0 where
  pub variable : e.variable < 256
  pub how : e.how < 256
  pub constant : SFits w32 e.constant

pub zero_block_lem : HeldBlock zero_block
zero_block_lem = record {
  cost = lit< tt;
  ending = lit< tt;
  jump = lit< tt;
  fall = lit< tt;
  variable = lit< tt;
  relation = lit< tt;
  constant = zero_fits;
}

pub zero_effect_lem : HeldEffect zero_effect
zero_effect_lem = record { variable = lit< tt; how = lit< tt; constant = zero_fits }

counter_read : (c : Counter) (rest : List ℕ) → HeldCounter c → counter_at (counter_bytes c ++ rest) 0 ≡ c
counter_read c rest h = λ i.
    record {
      initial = signed_again c.initial h.initial i;
      step = signed_again c.step h.step i;
      relation = c.relation;
      limit = signed_again c.limit h.limit i;
    }

block_read : (k : Block) (rest : List ℕ) → HeldBlock k → block_at (block_bytes k ++ rest) 0 k.effects ≡ k
block_read k rest h = λ i.
    record {
      cost = digits4 k.cost h.cost i;
      ending = k.ending;
      jump = k.jump;
      fall = k.fall;
      variable = k.variable;
      relation = k.relation;
      constant = signed_again k.constant h.constant i;
      effects = k.effects;
    }

effect_read : (e : Effect) (rest : List ℕ) → HeldEffect e → effect_at (effect_bytes e ++ rest) 0 ≡ e
effect_read e rest h =
    λ i. record { variable = e.variable; how = e.how; constant = signed_again e.constant h.constant i }

-- at any place: the kind is found, the record is whole, the rest follows
pub record Found (s : List ℕ) (at number : ℕ) (rest : List ℕ) : Type 0 where
  pub kind : kind_at s at ≡ kind_of number
  pub size : length_at s at ≡ (kind_at s at).length
  pub room : next s at ≤ length s
  pub on : drop (next s at) s ≡ rest

module _ (s : List ℕ) (at : ℕ) (rest : List ℕ) where
  found :
      (number : ℕ) (bytes : List ℕ) → drop at s ≡ bytes ++ rest → kind_number (bytes ++ rest) 0 ≡ number
      → length_at (bytes ++ rest) 0 ≡ (kind_of number).length → (kind_of number).length ≡ length bytes → 0 < length bytes
      → Found s at number rest
  found number bytes d k told l some =
      let kind : kind_at s at ≡ kind_of number =
      ap kind_of (kind_same s (drop at s) at 0 (left s at) ∙ (ap (λ (r : List ℕ). kind_number r 0) d ∙ k)) in
      let size : (kind_at s at).length ≡ length bytes = ap (λ (m : Kind). m.length) kind ∙ l in
      let all : length s - at ≡ length bytes + length rest = sym (length-drop at s)
      ∙ (ap length d ∙ length-append bytes rest) in
      record {
        kind = kind;
        size = length_same s (drop at s) at 0 (left s at)
            ∙ (ap (λ (r : List ℕ). length_at r 0) d ∙ (told ∙ sym (ap (λ (m : Kind). m.length) kind)));
        room = omega (arith, all, some, size);
        on = ap (λ (n : ℕ). drop (at + n) s) size
            ∙ (sym (drop-drop (length bytes) at s) ∙ (ap (drop (length bytes)) d ∙ drop-append_seam bytes rest));
      }

  pub counter_found : (c : Counter) → drop at s ≡ counter_bytes c ++ rest → Found s at 1 rest
  unfolding kind_of
  counter_found c d = found 1 (counter_bytes c) d refl refl refl (lit< tt)

  pub block_found : (k : Block) → drop at s ≡ block_bytes k ++ rest → Found s at 2 rest
  unfolding kind_of
  block_found k d = found 2 (block_bytes k) d refl refl refl (lit< tt)

  pub effect_found : (e : Effect) → drop at s ≡ effect_bytes e ++ rest → Found s at 3 rest
  unfolding kind_of
  effect_found e d = found 3 (effect_bytes e) d refl refl refl (lit< tt)

  -- and where its fields fit their types it is the one laid out
  pub counter_back : (c : Counter) → HeldCounter c → drop at s ≡ counter_bytes c ++ rest → counter_at s at ≡ c
  counter_back c h d = counter_same s (drop at s) at 0 (left s at)
      ∙ (ap (λ (r : List ℕ). counter_at r 0) d ∙ counter_read c rest h)

  pub block_back : (k : Block) → HeldBlock k → drop at s ≡ block_bytes k ++ rest → block_at s at k.effects ≡ k
  block_back k h d =
      block_same s (drop at s) at 0 (left s at) k.effects
      ∙ (ap (λ (r : List ℕ). block_at r 0 k.effects) d ∙ block_read k rest h)

  pub effect_back : (e : Effect) → HeldEffect e → drop at s ≡ effect_bytes e ++ rest → effect_at s at ≡ e
  effect_back e h d = effect_same s (drop at s) at 0 (left s at)
      ∙ (ap (λ (r : List ℕ). effect_at r 0) d ∙ effect_read e rest h)

-- so a record is found inside the input
pub found_inside : {s : List ℕ} {at number : ℕ} {rest : List ℕ} → Found s at number rest → at < length s
found_inside {s = s} {at = at} f = omega (arith, f.room, next_above s at)

-- ---- what is laid out is bytes

pub counter_each : (c : Counter) → HeldCounter c → Each (counter_bytes c)
counter_each c h = omega arith

pub block_each : (k : Block) → HeldBlock k → Each (block_bytes k)
block_each k h = omega arith

pub effect_each : (e : Effect) → HeldEffect e → Each (effect_bytes e)
effect_each e h = omega arith
