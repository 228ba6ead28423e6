-- Which refusals a call can give. The reader gives 10 to 19. The writer gives 14 at place 0; 15 to 19, as the reader
-- would of the laid-out bytes (10 to 14 never: a body is laid out whole, in order and within the limits); and 42 with
-- the bytes needed. The crates above cite `reader_gives` for their own refusals. Rests on Form, Answer, Kinds and Laid.
use Rattle.std.specs.Prelude.{Bool, true, not, ◌&&◌, ◌||◌, ◌⊎◌, ◌≡◌, refl, ℕ, ◌+◌, ◌-◌, ◌≤◌, ◌<◌, ltb, drop}
use Rattle.std.proofs.Math.Bool.{false, and-false}
use mathlib.Core.List.{List, [], ◌∷◌}
use Rattle.std.proofs.Common.{inl, inr, ap, subst, ◌∙◌, add-zero, arith, length-take, length-take-le}
use Rattle.std.proofs.Math.Path.{sym}
use Rattle.std.proofs.Math.Nat.{min-le_left}
use borrow.Author.Tests.{eqb-false, ne_eqb, eq-eqb, le-ltb, lt-leb}
use Rattle.std.proofs.Math.Dec.{eqb, lit≤}
use Rattle.std.proofs.Math.ListN.{length, length-drop}
use Rattle.laws.specs.Tests.{clash}
use Rattle.form.specs.declared.Block.{Block}
use Rattle.form.specs.declared.Body.{Body}
use Rattle.form.specs.declared.Effect.{Effect}
use Rattle.form.specs.Said.{Kind, Reading, Verdict, Accepted, Refused, Written, Bytes, Unwritten}
use Rattle.form.specs.Form.{when, kind_of, length_at, kind_at, is_unknown, is_block, is_effect, one_if, records_from, bad_field}
use Rattle.form.specs.Form.{bad_target, out_of_place, over_limit, payload_fault, record_fault, bad_end, far_target, block_at}
use Rattle.form.specs.Form.{end_fault, judged, judge_ends, judge_records, judge, lay_blocks, lay, counts_fit}
use Rattle.form.specs.Answer.{number_of, Judged, ReadAs, as_judged, Wrote}
use Rattle.form.specs.Laying.{blocks_counted, counts_known}
use Rattle.form.specs.Records.{next, next_above, records_end, records_step}
use Rattle.roundtrip.specs.Acceptance.{refused}
use Rattle.roundtrip.specs.laying.Filled.{effects_counted}
use Rattle.roundtrip.specs.laying.Kinds.{Found, found_inside, counter_found, block_found, effect_found}
use Rattle.roundtrip.specs.laying.Laid.{Laid, none, block, effect, lays}
use Rattle.roundtrip.specs.Unique.{counts_add, lay_counted}

-- ---- verdicts whose number is of a kind

-- a fault, if there is one, is of the kind
abbrev Fault : (ℕ → Type 0) → ℕ → Type 0
Fault P fault = (fault ≡ 0 → ⊥) → P fault

-- a refusal, if it is one, has a number of the kind
abbrev pub Gives : (ℕ → Type 0) → Verdict → Type 0
Gives P v = (number place : ℕ) → v ≡ Refused number place → P number

module _ (P : ℕ → Type 0) where
  no_fault : Fault P 0
  no_fault n = absurd (n refl)

  one_fault : (t : Bool) (n rest : ℕ) → P n → Fault P rest → Fault P (when t n rest)
  one_fault true n rest p q = λ f. p
  one_fault false n rest p q = q

  accepts : Gives P Accepted
  accepts number place e = absurd (refused (sym e))

  judges : (fault at : ℕ) (rest : Verdict) → Fault P fault → Gives P rest → Gives P (judged fault at rest)
  judges fault at rest f g number place = by (eqb fault 0) refl
    where
      by : (t : Bool) → eqb fault 0 ≡ t → when t rest (Refused fault at) ≡ Refused number place → P number
      by true q e = g number place e
      by false q e = subst P (ap number_of e) (f (eqb-false fault 0 q))

  ends_give : P 18 → P 19 → (s : List ℕ) (n : ℕ) (l : List ℕ) (k : ℕ) → Gives P (judge_ends s n l k)
  unfolding judge_ends end_fault
  ends_give p q s n [] k = accepts
  ends_give p q s n (at ∷ rest) k =
      judges (end_fault s at n k) at _
      (one_fault (is_block s at && bad_end (block_at s at 0) n k) 18 _ p
      (one_fault (is_block s at && far_target (block_at s at 0) n) 19 0 q no_fault))
      (ends_give p q s n rest (k + one_if (is_block s at)))

-- ---- the reader

abbrev pub ReadersNumber : ℕ → Type 0
ReadersNumber n = (10 ≤ n) × (n ≤ 19)

payload_gives : (P : ℕ → Type 0) → P 15 → P 16 → (s : List ℕ) (at b : ℕ)
    → Fault P (when (bad_field s at) 15 (when (bad_target s at b) 16 0))
payload_gives P p q s at b = one_fault P (bad_field s at) 15 _ p (one_fault P (bad_target s at b) 16 0 q (no_fault P))

record_gives : (s : List ℕ) (at b e : ℕ) → Fault ReadersNumber (record_fault s at b e)
unfolding record_fault payload_fault
record_gives s at b e =
    let P = ReadersNumber in
    one_fault P (ltb (length s - at) 4) 10 _ (lit≤ tt, lit≤ tt)
    (one_fault P (is_unknown s at) 12 _ (lit≤ tt, lit≤ tt)
    (one_fault P (not (eqb (length_at s at) (kind_at s at).length)) 11 _ (lit≤ tt, lit≤ tt)
    (one_fault P (ltb (length s - at) (length_at s at)) 10 _ (lit≤ tt, lit≤ tt)
    (one_fault P (out_of_place s at b) 13 _ (lit≤ tt, lit≤ tt)
    (one_fault P (over_limit s at b e) 14 _ (lit≤ tt, lit≤ tt)
    (payload_gives P (lit≤ tt, lit≤ tt) (lit≤ tt, lit≤ tt) s at b))))))

records_give : (s : List ℕ) (l : List ℕ) (b e : ℕ) → Gives ReadersNumber (judge_records s l b e)
unfolding judge_records
records_give s [] b e =
    judges ReadersNumber _ (length s) _
    (one_fault ReadersNumber (eqb (length s) 0 || eqb b 0) 17 0 (lit≤ tt, lit≤ tt) (no_fault ReadersNumber))
    (ends_give ReadersNumber (lit≤ tt, lit≤ tt) (lit≤ tt, lit≤ tt) s b (records_from s 0) 0)
records_give s (at ∷ rest) b e =
    judges ReadersNumber (record_fault s at b e) at _ (record_gives s at b e)
    (records_give s rest (b + one_if (is_block s at)) (e + one_if (is_effect s at)))

-- The reader gives 10 to 19.
pub reader_gives : (s : List ℕ) → Gives ReadersNumber (judge s)
unfolding judge
reader_gives s = records_give s (records_from s 0) 0 0

-- So says whatever meets the promise of `judge`, or of `read`: it accepts, with number 0, or its number is 10 to 19.
abbrev pub AcceptsOrGives : (ℕ → Type 0) → Verdict → Type 0
AcceptsOrGives P v = ((v ≡ Accepted) × (number_of v ≡ 0)) ⊎ P (number_of v)

either : (P : ℕ → Type 0) (v : Verdict) → Gives P v → AcceptsOrGives P v
either P Accepted g = inl (refl, refl)
either P (Refused number place) g = inr (g number place refl)

pub judge_says : (s : List ℕ) (v : Verdict) → Judged s v → AcceptsOrGives ReadersNumber v
judge_says s v j = subst (AcceptsOrGives ReadersNumber) (sym j.0) (either ReadersNumber (judge s) (reader_gives s))

pub read_says : (s : List ℕ) (r : Reading) → ReadAs s r → AcceptsOrGives ReadersNumber r.verdict
read_says s r e = judge_says s r.verdict (ap (λ (x : Reading). x.verdict) e.0, e.1)

-- ---- the writer

-- what the reader can say of laid-out bytes
abbrev pub FormsNumber : ℕ → Type 0
FormsNumber n = (15 ≤ n) × (n ≤ 19)

module _ (s : List ℕ) where
  -- a record that is found, in place and within the limits, can only be at fault in its fields and targets
  fields_only :
      {at number : ℕ} {rest : List ℕ} (b e : ℕ) → Found s at number rest → 4 ≤ (kind_at s at).length
      → is_unknown s at ≡ false
      → out_of_place s at b ≡ false → over_limit s at b e ≡ false → Fault FormsNumber (record_fault s at b e)
  unfolding record_fault payload_fault
  fields_only {at} b e f least known place within =
      let room : length_at s at ≤ length s - at = omega (arith, f.room, f.size) in
      rw (
        le-ltb (length s - at) 4 (omega (arith, f.room)),
        known,
        eq-eqb (length_at s at) (kind_at s at).length f.size,
        le-ltb (length s - at) (length_at s at) room,
        place,
        within,
      )
      (payload_gives FormsNumber (lit≤ tt, lit≤ tt) (lit≤ tt, lit≤ tt) s at b)

  role_of : {at number : ℕ} {rest : List ℕ} → Found s at number rest → (kind_at s at).role ≡ (kind_of number).role
  role_of f = ap (λ (k : Kind). k.role) f.kind

  size_of : {at number : ℕ} {rest : List ℕ} → Found s at number rest → (kind_at s at).length ≡ (kind_of number).length
  size_of f = ap (λ (k : Kind). k.length) f.kind

  -- one record of a kind: its own fault, then what follows
  turn :
      {at number : ℕ} {rest : List ℕ} (b e b' e' : ℕ) → Found s at number rest
      → Fault FormsNumber (record_fault s at b e)
      → b + one_if (is_block s at) ≡ b' → e + one_if (is_effect s at) ≡ e'
      → Gives FormsNumber (judge_records s (records_from s (next s at)) b' e')
      → Gives FormsNumber (judge_records s (records_from s at) b e)
  unfolding judge_records
  turn {at} b e b' e' f own p q after =
      rw (records_step s at (found_inside f), p, q) (judges FormsNumber (record_fault s at b e) at _ own after)

  laid_gives :
      {t : List ℕ} {own : ℕ} {ks : List Block} {es : List Effect} → Laid t own ks es → (at b e : ℕ) → drop at s ≡ t
      → 0 < at
      → (0 < own → 0 < b) → b + length ks ≤ 64 → e + length es ≤ 256
      → Gives FormsNumber (judge_records s (records_from s at) b e)
  unfolding judge_records kind_of out_of_place over_limit
  laid_gives none at b e d later owned few few' =
      rw (records_end s at (omega (arith, simp length-drop at (ap length d))))
      (judges FormsNumber _ (length s) _
      (one_fault FormsNumber (eqb (length s) 0 || eqb b 0) 17 0 (lit≤ tt, lit≤ tt) (no_fault FormsNumber))
      (ends_give FormsNumber (lit≤ tt, lit≤ tt) (lit≤ tt, lit≤ tt) s b (records_from s 0) 0))
  laid_gives (effect {t = t} x l) at b e d later owned few few' =
      let f = effect_found s at t x d in
      let role : (kind_at s at).role ≡ 3 = role_of f in
      let place : out_of_place s at b ≡ false =
      rw (
        role,
        ne_eqb at 0 (λ z. omega arith),
        and-false (ltb 0 at),
        ne_eqb b 0
            (λ z. omega (arith, owned (omega arith))),
      ) in
      let within : over_limit s at b e ≡ false = rw (role, lt-leb 256 e (omega arith)) in
      turn b e b (e + 1) f (fields_only b e f (omega (arith, size_of f)) (rw role) place within) (rw role (add-zero b))
      (rw role)
      (laid_gives l (next s at) b (e + 1) f.on (omega (arith, next_above s at)) (λ z. owned (omega arith)) few
      (omega arith))
  laid_gives (block {t = t} x l) at b e d later owned few few' =
      let f = block_found s at t x d in
      let role : (kind_at s at).role ≡ 2 = role_of f in
      let place : out_of_place s at b ≡ false = rw (role, ne_eqb at 0 (λ z. omega arith), and-false (ltb 0 at)) in
      let within : over_limit s at b e ≡ false = rw (role, lt-leb 64 b (omega arith)) in
      turn b e (b + 1) e f (fields_only b e f (omega (arith, size_of f)) (rw role) place within) (rw role)
      (rw role (add-zero e))
      (laid_gives l (next s at) (b + 1) e f.on (omega (arith, next_above s at)) (λ z. omega arith) (omega arith)
      few')

-- The laid-out bytes of a body whose counts fit, in the array of 256 effects that every body has: 15 to 19.
module _ (body : Body) (room_effects : length body.effects ≡ 256) (fit : counts_fit body ≡ true) where
  abbrev rest : List ℕ
  rest = lay_blocks (blocks_counted body) (effects_counted body)

  all_effects : length (effects_counted body) ≡ body.total
  all_effects = length-take-le body.total body.effects (omega (arith, counts_known body fit, counts_add body fit))

  few_blocks : length (blocks_counted body) ≤ 64
  few_blocks = simp length-take
      (omega (arith, counts_known body fit, min-le_left body.count (length body.blocks)))

  pub form_gives : Gives FormsNumber (judge (lay body))
  unfolding judge kind_of out_of_place over_limit
  form_gives =
      let s = lay body in
      let f = counter_found s 0 rest body.counter (lay_counted body fit) in
      let role : (kind_at s 0).role ≡ 1 = role_of s f in
      turn s 0 0 0 0 f (fields_only s 0 0 f (omega (arith, size_of s f)) (rw role) (rw role) (rw role)) (rw role)
      (rw role)
      (laid_gives s (lays _ _ (counts_add body fit ∙ sym all_effects)) (next s 0) 0 0 f.on (next_above s 0)
      (λ z. absurd (omega arith))
      (omega (arith, few_blocks)) (omega (arith, all_effects, counts_known body fit, counts_add body fit)))

abbrev wrote : Written → Bool
wrote (Bytes count) = true
wrote (Unwritten number place) = false

-- The writer gives 14 at place 0; or 15 to 19, as the reader would of the laid-out bytes; or 42 with the bytes needed.
abbrev pub WritersRefusal : Body → (number place : ℕ) → Type 0
WritersRefusal body number place =
    ((number ≡ 14) × (place ≡ 0))
    ⊎ ((FormsNumber number × (judge (lay body) ≡ Refused number place)) ⊎ ((number ≡ 42) × (place ≡ length (lay body))))

pub writer_gives :
    (body : Body) → length body.effects ≡ 256 → (out : List ℕ) (r : Written) (held : List ℕ) → Wrote body out r held
    → (number place : ℕ) → r ≡ Unwritten number place → WritersRefusal body number place
writer_gives body full out r held o number place e =
    by (counts_fit body) refl (judge (lay body)) refl (ltb (length out) (length (lay body))) (sym o.0 ∙ e)
  where
    by :
        (fits : Bool) → counts_fit body ≡ fits → (v : Verdict) → judge (lay body) ≡ v → (short : Bool)
        → when fits (as_judged v (when short (Unwritten 42 (length (lay body))) (Bytes (length (lay body)))))
        (Unwritten 14 0)
        ≡ Unwritten number place
        → WritersRefusal body number place
    by false p v q short e = inl (cc, cc)
    by true p Accepted q true e = inr (inr (cc, cc))
    by true p Accepted q false e = clash refl (ap wrote e)
    by true p (Refused n at) q short e =
        let given : judge (lay body) ≡ Refused number place = q ∙ cc in
        inr (inl (form_gives body full p number place given, given))
