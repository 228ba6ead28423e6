-- The order form of document 01. Trusted: what judging any bytes answers, what body an accepted form is, and what bytes
-- a body is laid out as. A form is the list of its bytes. Offsets stand where a record is read (counter_at, block_at,
-- effect_at) and in the order in which it is laid out. Rests on numbers, lists, Said and Relation's eq_z.
use Rattle.std.specs.Prelude.{Bool, true, false, ◌||◌, ◌&&◌, not, List, [], ◌∷◌, ◌++◌, ℕ, zero, suc, ◌+◌, ◌-◌, ◌*◌, ◌/◌, ◌%◌, ltb, leb, eqb, ℤ, pos, length, get_or, take, drop}
use Rattle.std.specs.Int.{w32}
use Rattle.std.proofs.Common.{to_z, of_z}
use Rattle.form.specs.Said.{Kind, Verdict, Accepted, Refused}
use Rattle.form.specs.declared.Counter.{Counter}
use Rattle.form.specs.declared.Block.{Block}
use Rattle.form.specs.declared.Effect.{Effect}
use Rattle.form.specs.declared.Body.{Body}
use Rattle.form.specs.Relation.{eq_z}

-- The first where the test holds, else the second.
abbrev pub when : {A : Type 0} → Bool → A → A → A
when true a b = a
when false a b = b

-- Numbers in bytes, little-endian, from place i on; past the end stands 0.

abbrev pub byte_at : List ℕ → ℕ → ℕ
byte_at s i = get_or s i 0

abbrev pub number2 : List ℕ → ℕ → ℕ
number2 s i = byte_at s i + 256 * byte_at s (i + 1)

abbrev pub number4 : List ℕ → ℕ → ℕ
number4 s i = number2 s i + 65536 * number2 s (i + 2)

abbrev pub signed4 : List ℕ → ℕ → ℤ
signed4 s i = to_z w32 (number4 s i)

-- Kinds of records. The role says what a record of the kind is.

abbrev pub unknown : ℕ
unknown = 0

abbrev pub counter_role : ℕ
counter_role = 1

abbrev pub block_role : ℕ
block_role = 2

abbrev pub effect_role : ℕ
effect_role = 3

-- The table of kinds: number, length of the whole record, role. (Any other number is refused; to go on, its head is
-- passed over.)
unfoldable pub kind_of : ℕ → Kind
kind_of number =
    when (eqb number 1) (record { length = 17; role = counter_role })
    (when (eqb number 2) (record { length = 17; role = block_role })
    (when (eqb number 3) (record { length = 10; role = effect_role })
    (record { length = 4; role = unknown })))

-- A record: its length, its kind, then the payload from its fifth byte on.

abbrev pub length_at : List ℕ → ℕ → ℕ
length_at s at = number2 s at

abbrev pub kind_number : List ℕ → ℕ → ℕ
kind_number s at = number2 s (at + 2)

abbrev pub kind_at : List ℕ → ℕ → Kind
kind_at s at = kind_of (kind_number s at)

abbrev pub is_unknown : List ℕ → ℕ → Bool
is_unknown s at = eqb (kind_at s at).role unknown

abbrev pub is_counter : List ℕ → ℕ → Bool
is_counter s at = eqb (kind_at s at).role counter_role

abbrev pub is_block : List ℕ → ℕ → Bool
is_block s at = eqb (kind_at s at).role block_role

abbrev pub is_effect : List ℕ → ℕ → Bool
is_effect s at = eqb (kind_at s at).role effect_role

abbrev pub counter_at : List ℕ → ℕ → Counter
counter_at s at =
    record {
      initial = signed4 s (at + 4);
      step = signed4 s (at + 8);
      relation = byte_at s (at + 12);
      limit = signed4 s (at + 13);
    }

-- with the number of its effects, which follow it
abbrev pub block_at : List ℕ → ℕ → ℕ → Block
block_at s at own =
    record {
      cost = number4 s (at + 4);
      ending = byte_at s (at + 8);
      jump = byte_at s (at + 9);
      fall = byte_at s (at + 10);
      variable = byte_at s (at + 11);
      relation = byte_at s (at + 12);
      constant = signed4 s (at + 13);
      effects = own;
    }

abbrev pub effect_at : List ℕ → ℕ → Effect
effect_at s at = record { variable = byte_at s (at + 4); how = byte_at s (at + 5); constant = signed4 s (at + 6) }

-- The places where the records from place `at` on start: each starts where the one before it ends. Every record has a
-- byte, so there are no more than bytes.
unfoldable pub starts_for : ℕ → List ℕ → ℕ → List ℕ
starts_for zero s at = []
starts_for (suc most) s at =
    when (ltb at (length s)) (at ∷ starts_for most s (at + (kind_at s at).length)) []

unfoldable pub records_from : List ℕ → ℕ → List ℕ
records_from s at = starts_for (length s) s at

-- What is wrong with a record's fields.

-- A field that endings (or hows) below `first` do not use, and that is not zero there.
abbrev pub stray : (first ending : ℕ) → (is_zero : Bool) → Bool
stray first ending is_zero = ltb ending first && not is_zero

-- A used target for which the test holds: go uses jump, an open branch and a test use jump and fall.
abbrev pub some_target : (ending : ℕ) → (jump fall : Bool) → Bool
some_target ending jump fall = (ltb 0 ending && jump) || (ltb 1 ending && fall)

-- 15: a field out of range, or unused and not zero

abbrev pub bad_counter : Counter → Bool
bad_counter c = ltb 5 c.relation

abbrev pub bad_block : Block → Bool
bad_block k =
    (ltb 1000000 k.cost || (ltb 3 k.ending || (ltb 15 k.variable || ltb 5 k.relation)))
    || ((stray 1 k.ending (eqb k.jump 0) || stray 2 k.ending (eqb k.fall 0))
    || (stray 3 k.ending (eqb k.variable 0)
    || (stray 3 k.ending (eqb k.relation 0) || stray 3 k.ending (eq_z k.constant (pos 0)))))

abbrev pub bad_effect : Effect → Bool
bad_effect e = ltb 15 e.variable || (ltb 1 e.how || stray 1 e.how (eq_z e.constant (pos 0)))

-- 16: a used target not above its block, number b
abbrev pub low_target : Block → ℕ → Bool
low_target k b = some_target k.ending (leb k.jump b) (leb k.fall b)

-- 18: block b of n ends and is not the last, or is the last and does not end
abbrev pub bad_end : Block → (n b : ℕ) → Bool
bad_end k n b = (ltb (b + 1) n && eqb k.ending 0) || (leb n (b + 1) && ltb 0 k.ending)

-- 19: a used target beyond the last block of n
abbrev pub far_target : Block → ℕ → Bool
far_target k n = some_target k.ending (leb n k.jump) (leb n k.fall)

-- What is wrong with the record at `at`, with b blocks and e effects before it: the first number that applies, or 0.

-- 13: the first record no counter, a later counter, or an effect before any block
unfoldable pub out_of_place : List ℕ → ℕ → ℕ → Bool
out_of_place s at b =
    (eqb at 0 && not (is_counter s at)) || ((ltb 0 at && is_counter s at) || (is_effect s at && eqb b 0))

-- 14: the 65th block or the 257th effect
unfoldable pub over_limit : List ℕ → ℕ → ℕ → ℕ → Bool
over_limit s at b e = (is_block s at && leb 64 b) || (is_effect s at && leb 256 e)

-- 15 of each role. (A block's number of effects plays no part in judging; it is told as 0 here.)
unfoldable pub bad_field : List ℕ → ℕ → Bool
bad_field s at =
    (is_counter s at && bad_counter (counter_at s at))
    || ((is_block s at && bad_block (block_at s at 0)) || (is_effect s at && bad_effect (effect_at s at)))

-- 16 of a block
unfoldable pub bad_target : List ℕ → ℕ → ℕ → Bool
bad_target s at b = is_block s at && low_target (block_at s at 0) b

-- The payload's part of the order, then the whole order
unfoldable pub payload_fault : List ℕ → ℕ → ℕ → ℕ → ℕ
payload_fault s at b e =
    when (out_of_place s at b) 13 (when (over_limit s at b e) 14 (when (bad_field s at) 15 (when (bad_target s at b) 16 0)))

unfoldable pub record_fault : List ℕ → ℕ → ℕ → ℕ → ℕ
record_fault s at b e =
    when (ltb (length s - at) 4) 10
    (when (is_unknown s at) 12
    (when (not (eqb (length_at s at) (kind_at s at).length)) 11
    (when (ltb (length s - at) (length_at s at)) 10 (payload_fault s at b e))))

-- What is wrong with a block at `at`, number k of n
unfoldable pub end_fault : List ℕ → ℕ → ℕ → ℕ → ℕ
end_fault s at n k =
    when (is_block s at && bad_end (block_at s at 0) n k) 18
    (when (is_block s at && far_target (block_at s at 0) n) 19 0)

-- Judging.

-- The refusal where there is a fault, else what follows says.
abbrev pub judged : ℕ → ℕ → Verdict → Verdict
judged fault place rest = when (eqb fault 0) rest (Refused fault place)

abbrev pub one_if : Bool → ℕ
one_if test = when test 1 0

-- Block by block of the n, the records from a place on, k blocks before
unfoldable pub judge_ends : List ℕ → ℕ → List ℕ → ℕ → Verdict
judge_ends s n [] k = Accepted
judge_ends s n (at ∷ rest) k = judged (end_fault s at n k) at (judge_ends s n rest (k + one_if (is_block s at)))

-- Record by record, b blocks and e effects before; then 17, no counter or no block; then the blocks
unfoldable pub judge_records : List ℕ → List ℕ → ℕ → ℕ → Verdict
judge_records s [] b e =
    judged (when (eqb (length s) 0 || eqb b 0) 17 0) (length s) (judge_ends s b (records_from s 0) 0)
judge_records s (at ∷ rest) b e =
    judged (record_fault s at b e) at (judge_records s rest (b + one_if (is_block s at)) (e + one_if (is_effect s at)))

unfoldable pub judge : List ℕ → Verdict
judge s = judge_records s (records_from s 0) 0 0

-- The body of an accepted form.

-- How many effects stand before the next block or the end
unfoldable pub own_effects : List ℕ → List ℕ → ℕ
own_effects s [] = 0
own_effects s (at ∷ rest) = when (is_effect s at) (suc (own_effects s rest)) 0

-- What is made of each record that the test picks, in order; `make` also sees the records after it
unfoldable pub gather : {A : Type 0} → (ℕ → Bool) → (ℕ → List ℕ → A) → List ℕ → List A
gather test make [] = []
gather test make (at ∷ rest) = when (test at) (make at rest ∷ gather test make rest) (gather test make rest)

abbrev pub blocks_in : List ℕ → List ℕ → List Block
blocks_in s records = gather (is_block s) (λ at rest. block_at s at (own_effects s rest)) records

abbrev pub effects_in : List ℕ → List ℕ → List Effect
effects_in s records = gather (is_effect s) (λ at rest. effect_at s at) records

abbrev pub zero_counter : Counter
zero_counter = record { initial = pos 0; step = pos 0; relation = 0; limit = pos 0 }

abbrev pub zero_block : Block
zero_block = record {
  cost = 0;
  ending = 0;
  jump = 0;
  fall = 0;
  variable = 0;
  relation = 0;
  constant = pos 0;
  effects = 0;
}

abbrev pub zero_effect : Effect
zero_effect = record { variable = 0; how = 0; constant = pos 0 }

-- The first n of a list, with z where it has fewer
unfoldable pub fill : {A : Type 0} → A → ℕ → List A → List A
fill z zero xs = []
fill z (suc n) [] = z ∷ fill z n []
fill z (suc n) (x ∷ xs) = x ∷ fill z n xs

-- The body with these blocks and effects; what stands past the counts is zero
abbrev pub body_with : Counter → List Block → List Effect → Body
body_with counter blocks effects =
    record {
      counter = counter;
      count = length blocks;
      blocks = fill zero_block 64 blocks;
      total = length effects;
      effects = fill zero_effect 256 effects;
    }

abbrev pub body_of : List ℕ → Body
body_of s = body_with (counter_at s 0) (blocks_in s (records_from s 0)) (effects_in s (records_from s 0))

abbrev pub zero_body : Body
zero_body = body_with zero_counter [] []

-- Laying out.

abbrev pub bytes2 : ℕ → List ℕ → List ℕ
bytes2 n rest = n % 256 ∷ n / 256 % 256 ∷ rest

abbrev pub bytes4 : ℕ → List ℕ → List ℕ
bytes4 n rest = n % 256 ∷ n / 256 % 256 ∷ n / 65536 % 256 ∷ n / 16777216 % 256 ∷ rest

-- A record's head: the length of its kind, and the kind's number.
abbrev pub head : ℕ → List ℕ → List ℕ
head number rest = bytes2 (kind_of number).length (bytes2 number rest)

abbrev pub counter_bytes : Counter → List ℕ
counter_bytes c =
    head 1 (bytes4 (of_z w32 c.initial) (bytes4 (of_z w32 c.step) (c.relation ∷ bytes4 (of_z w32 c.limit) [])))

abbrev pub block_bytes : Block → List ℕ
block_bytes k =
    head 2 (bytes4 k.cost
    (k.ending ∷ k.jump ∷ k.fall ∷ k.variable ∷ k.relation ∷ bytes4 (of_z w32 k.constant) []))

abbrev pub effect_bytes : Effect → List ℕ
effect_bytes e = head 3 (e.variable ∷ e.how ∷ bytes4 (of_z w32 e.constant) [])

unfoldable pub lay_effects : List Effect → List ℕ
lay_effects [] = []
lay_effects (e ∷ es) = effect_bytes e ++ lay_effects es

-- Each block followed by its own of the effects
unfoldable pub lay_blocks : List Block → List Effect → List ℕ
lay_blocks [] es = []
lay_blocks (k ∷ ks) es = block_bytes k ++ (lay_effects (take k.effects es) ++ lay_blocks ks (drop k.effects es))

unfoldable pub lay : Body → List ℕ
lay body = counter_bytes body.counter ++ lay_blocks (take body.count body.blocks) body.effects

-- The writer's counts: within the limits, and the blocks' own effects add up
unfoldable pub sum_own : List Block → ℕ
sum_own [] = 0
sum_own (k ∷ ks) = k.effects + sum_own ks

unfoldable pub counts_fit : Body → Bool
counts_fit body =
    (leb body.count 64 && leb body.total 256) && eqb (sum_own (take body.count body.blocks)) body.total

-- The same body up to its counts: what stands past them is zero
unfoldable pub up_to_counts : Body → Body
up_to_counts body = body_with body.counter (take body.count body.blocks) (take body.total body.effects)
