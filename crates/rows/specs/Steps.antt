-- A step in front of a tail, on the words of a plan: it is the theory's backward machine (`step_key_lem`), and what an
-- entry keeps of the longer tail is the theory's (`step_words`). Rests on theory's Plan, Edges and Backward, and on
-- entries' Entries.
use Rattle.std.specs.Prelude.{◌≡◌, refl, Bool, ◌||◌, ◌&&◌, List, ℕ, ◌+◌, ◌*◌, ◌-◌, ◌%◌, ◌^◌, ◌≤◌, ◌<◌, eqb, get_or}
use Rattle.std.proofs.Math.Path.{sym, ap, ap₂}
use Rattle.std.proofs.Common.{◌∙◌, zero-mul, lt_of_lt_of_le, lt_of_le_of_lt, arith, ne_eqb, pow_mono}
use Rattle.std.proofs.Math.Bool.{true, false, not, cond, and-true, and-false, and_assoc}
use Rattle.std.proofs.Math.Option.{Option, none, some}
use Rattle.std.proofs.Math.Nat.{mod-lt}
use Rattle.std.specs.Int.Bits.{bit_and, bit_or, or_zero_r}
use Rattle.std.proofs.lemmas.Nat.{or_lt, and_le_l}
use Rattle.std.proofs.Math.Dec.{lit<}
use Rattle.laws.specs.Terms.{bit}
use Rattle.laws.specs.Tests.{eqb_swap}
use Rattle.laws.specs.Sets.{bit_none, bit_beyond, bit_pow, bit_and_lem, bit_or_lem, bit_and_not, shl_one}
use Rattle.form.specs.declared.Body.{Body}
use Rattle.form.specs.Conflict.{Sound, block, condition, is_test, touches, opposes, denies, same, listed, conflicts}
use Rattle.theory.specs.Row.{Key}
use Rattle.theory.specs.SweepWords.{Words, grow_words}
use Rattle.theory.specs.Backward.{step_back, with_own, drops, opened}
use Rattle.theory.specs.Edges.{has, edges_words, any_edge_words}
use Rattle.theory.specs.Steps.{wipes}
use Rattle.theory.specs.Listing.{listing}
use Rattle.theory.specs.Ties.{mark}
use Rattle.entries.specs.Structs.{Both}
use Rattle.rows.specs.declared.Half.{Half}
use Rattle.rows.specs.declared.Step.{Step}
use Rattle.theory.specs.PlanWays.{by_jump, by_fall}
use Rattle.theory.specs.Plan.{test_at, touched_at, denied_at, against_at, listed_at, cost_at, IsWay, Planned}

-- ---- a step as words

unfoldable pub half_of : List ℕ → (b way side : ℕ) → Half
half_of plan b way side = record {
  against = against_at plan b way side;
  denied = denied_at plan b side;
  own = cond (eqb way side) (test_at plan b * 2 ^ b % 2 ^ 64) 0;
  live = bit_and (listed_at plan b side) ((2 ^ 64 - 1) - touched_at plan b);
  left = cond (eqb way side) (1 * 2 ^ b % 2 ^ 64) 0;
}

-- the step that leaves block b by the way
pub record IsStep (plan : List ℕ) (b way : ℕ) (step : Step) : Type 0 where
  pub jumps : step.jumps ≡ half_of plan b way 1
  pub falls : step.falls ≡ half_of plan b way 2
  pub cost : step.cost ≡ cost_at plan b way

abbrev pub hits_of : Half → ℕ → ℕ
hits_of s edges = bit_or (bit_and edges s.against) (bit_and (bit_or edges s.own) s.denied)

abbrev pub opened_of : Half → ℕ → ℕ
opened_of s edges = bit_and (bit_or edges s.own) s.live

-- the key of the longer tail, or none where the step conflicts
abbrev pub step_key : (jumps falls : Half) → Key → Option Key
step_key jumps falls k = cond (not (eqb (bit_or (hits_of jumps k.0) (hits_of falls k.1)) 0)) none
    (some (opened_of jumps k.0, opened_of falls k.1))

-- what is kept of the longer tail
abbrev pub step_words : (jumps falls : Half) (cost : ℕ) → Words → Words
step_words jumps falls cost u = (cost + u.0, (bit_or u.1.0 jumps.left, bit_or u.1.1 falls.left))

-- of each choice
abbrev pub step_both : (jumps falls : Half) (cost : ℕ) → Both → Both
step_both jumps falls cost v = (step_words jumps falls cost v.0, step_words jumps falls cost v.1)

-- ---- what its bits say

-- what is listed is an edge of a test
listed_only : (l t w : Bool) → (l ≡ true → t ≡ true) → (l && not (t && w)) ≡ (not w && l)
listed_only false t w h = sym (and-false (not w))
listed_only true t w h = rw (h refl) (sym (and-true (not w)))

module _ (body : Body) (g : Sound body) (plan : List ℕ) (fits : (k : ℕ) → get_or plan k 0 < 2 ^ 64)
    (cost : ℕ → ℕ → ℕ) (planned : Planned body cost plan) (b way side : ℕ) (inside : b < body.count) (v : IsWay way)
    (u : IsWay side) where
  abbrev words : Half
  words = half_of plan b way side

  pub against_bit : (k : ℕ) → k < body.count → bit words.against k ≡ opposes body (b, way) (k, side)
  unfolding half_of
  against_bit k h = planned.against b way k side v u inside h

  pub denied_bit : (k : ℕ) → k < body.count → bit words.denied k ≡ denies body b (k, side)
  unfolding half_of
  denied_bit k h = planned.denied b k side u inside h

  shifted : (t : Bool) → cond t 1 0 * 2 ^ b % 2 ^ 64 ≡ cond t (2 ^ b) 0
  shifted true = shl_one 64 b (omega (arith, g.few))
  shifted false = ap (λ (n : ℕ). n % 2 ^ 64) (zero-mul (2 ^ b))

  one_bit : (t : Bool) (k : ℕ) → bit (cond t (2 ^ b) 0) k ≡ (t && eqb b k)
  one_bit true k = bit_pow b k ∙ eqb_swap k b
  one_bit false k = bit_none k

  pub own_bit : (k : ℕ) → bit words.own k ≡ (is_test body b && same (b, way) (k, side))
  unfolding half_of
  own_bit k = rw (planned.tests b inside, shifted (is_test body b)) (by (eqb way side))
    where
      by : (c : Bool) → bit (cond c (cond (is_test body b) (2 ^ b) 0) 0) k ≡ (is_test body b && (eqb b k && c))
      by true = one_bit (is_test body b) k ∙ ap (λ d. is_test body b && d) (sym (and-true (eqb b k)))
      by false = bit_none k ∙ sym (ap (λ d. is_test body b && d) (and-false (eqb b k)) ∙ and-false (is_test body b))

  pub live_bit : (k : ℕ) → k < body.count → bit words.live k ≡
      (not (touches body b (condition body (k, side)).variable) && listed (conflicts body) b (k, side))
  unfolding half_of condition
  live_bit k h =
      bit_and_not 64 (listed_at plan b side) (touched_at plan b) k (fits _) (fits _)
      ∙ ap₂ (λ l t. l && not t) (planned.listed_are b k side u inside h) (planned.touched b k inside h)
      ∙ listed_only (listed (conflicts body) b (k, side)) (is_test body k) (touches body b (block body k).variable)
      ((listing body g.onward).tests b (k, side))

  pub left_is : words.left ≡ cond (eqb way side) (2 ^ b) 0
  unfolding half_of
  left_is = ap (λ (n : ℕ). cond (eqb way side) n 0) (shl_one 64 b (omega (arith, g.few)))

  pub left_marks : (s : ℕ) → bit_or s words.left ≡ mark side (b, way) s
  left_marks s = ap (bit_or s) left_is ∙ by (eqb way side)
    where
      by : (c : Bool) → bit_or s (cond c (2 ^ b) 0) ≡ cond c (bit_or s (2 ^ b)) s
      by true = refl
      by false = or_zero_r s

  -- ---- the two words of a tail's edges with the step in front

  module _ (edges : ℕ) (few : edges < 2 ^ body.count) where
    small : edges < 2 ^ 64
    small = lt_of_lt_of_le few (pow_mono g.few)

    own_beyond : (k : ℕ) → body.count ≤ k → bit words.own k ≡ false
    own_beyond k h = own_bit k ∙ ap (λ c. is_test body b && (c && eqb way side)) (ne_eqb b k (λ q. omega arith))
        ∙ and-false (is_test body b)

    with_own_beyond : (k : ℕ) → body.count ≤ k → bit (bit_or edges words.own) k ≡ false
    with_own_beyond k h = bit_or_lem edges words.own k ∙ ap₂ ◌||◌ (bit_beyond body.count k few h) (own_beyond k h)

    with_own_bit : (k : ℕ) → bit (bit_or edges words.own) k ≡
        (bit edges k || is_test body b && same (b, way) (k, side))
    with_own_bit k = bit_or_lem edges words.own k ∙ ap (λ c. bit edges k || c) (own_bit k)

    pub hits_bit : (k : ℕ) → k < body.count
        → bit (hits_of words edges) k ≡ (bit edges k && opposes body (b, way) (k, side) ||
        (bit edges k || is_test body b && same (b, way) (k, side)) && denies body b (k, side))
    hits_bit k h =
        bit_or_lem (bit_and edges words.against) (bit_and (bit_or edges words.own) words.denied) k
        ∙ ap₂ ◌||◌ (bit_and_lem edges words.against k ∙ ap (λ c. bit edges k && c) (against_bit k h))
        (bit_and_lem (bit_or edges words.own) words.denied k ∙ ap₂ ◌&&◌ (with_own_bit k) (denied_bit k h))

    pub hits_beyond : (k : ℕ) → body.count ≤ k → bit (hits_of words edges) k ≡ false
    hits_beyond k h =
        bit_or_lem (bit_and edges words.against) (bit_and (bit_or edges words.own) words.denied) k
        ∙ ap₂ ◌||◌ (bit_and_lem edges words.against k ∙ ap (λ c. c && bit words.against k)
        (bit_beyond body.count k few h))
        (bit_and_lem (bit_or edges words.own) words.denied k ∙ ap (λ c. c && bit words.denied k)
        (with_own_beyond k h))

    pub opened_bit : (k : ℕ) → k < body.count
        → bit (opened_of words edges) k ≡ ((bit edges k || is_test body b && same (b, way) (k, side)) && not
        (touches body b (condition body (k, side)).variable) && listed (conflicts body) b (k, side))
    opened_bit k h = bit_and_lem (bit_or edges words.own) words.live k ∙ ap₂ ◌&&◌ (with_own_bit k) (live_bit k h)
        ∙ sym (and_assoc (bit edges k || is_test body b && same (b, way) (k, side))
        (not (touches body b (condition body (k, side)).variable)) (listed (conflicts body) b (k, side)))

    pub opened_beyond : (k : ℕ) → body.count ≤ k → bit (opened_of words edges) k ≡ false
    opened_beyond k h = bit_and_lem (bit_or edges words.own) words.live k ∙ ap (λ c. c && bit words.live k)
        (with_own_beyond k h)

    own_lt : words.own < 2 ^ 64
    unfolding half_of
    own_lt = by (eqb way side)
      where
        by : (c : Bool) → cond c (test_at plan b * 2 ^ b % 2 ^ 64) 0 < 2 ^ 64
        by true = mod-lt (test_at plan b * 2 ^ b) (lit< tt)
        by false = lit< tt

    with_own_lt : bit_or edges words.own < 2 ^ 64
    with_own_lt = or_lt 64 edges words.own small own_lt

    pub hits_lt : hits_of words edges < 2 ^ 64
    hits_lt = or_lt 64 (bit_and edges words.against) (bit_and (bit_or edges words.own) words.denied)
        (lt_of_le_of_lt (and_le_l edges words.against) small)
        (lt_of_le_of_lt (and_le_l (bit_or edges words.own) words.denied) with_own_lt)

    pub opened_lt : opened_of words edges < 2 ^ 64
    opened_lt = lt_of_le_of_lt (and_le_l (bit_or edges words.own) words.live) with_own_lt

-- ---- the step is the machine's

module _ (body : Body) (g : Sound body) (plan : List ℕ) (fits : (k : ℕ) → get_or plan k 0 < 2 ^ 64)
    (cost : ℕ → ℕ → ℕ) (planned : Planned body cost plan) (b way : ℕ) (inside : b < body.count) (v : IsWay way) where
  abbrev jump_half : Half
  jump_half = half_of plan b way 1

  abbrev fall_half : Half
  fall_half = half_of plan b way 2

  pub step_key_lem : (k : Key) → k.0 < 2 ^ body.count → k.1 < 2 ^ body.count → step_key jump_half fall_half k
      ≡ step_back body (conflicts body) (b, way) k
  unfolding drops opened has
  step_key_lem k j f = ap₂ (λ c o. cond c none (some o))
      (sym (any_edge_words body.count 64 g.few (λ e. has k e && opposes body (b, way) e || with_own body
      (b, way) k e && denies body b e) (hits_of jump_half k.0) (hits_of fall_half k.1)
      (hits_lt body g plan fits cost planned b way 1 inside v by_jump k.0 j)
      (hits_lt body g plan fits cost planned b way 2 inside v by_fall k.1 f)
      (hits_bit body g plan fits cost planned b way 1 inside v by_jump k.0 j)
      (hits_bit body g plan fits cost planned b way 2 inside v by_fall k.1 f)
      (hits_beyond body g plan fits cost planned b way 1 inside v by_jump k.0 j)
      (hits_beyond body g plan fits cost planned b way 2 inside v by_fall k.1 f)))
      (edges_words body.count 64 g.few (λ e. with_own body (b, way) k e && not (wipes body b e) && listed
      (conflicts body) b e) (opened_of jump_half k.0) (opened_of fall_half k.1)
      (opened_lt body g plan fits cost planned b way 1 inside v by_jump k.0 j)
      (opened_lt body g plan fits cost planned b way 2 inside v by_fall k.1 f)
      (opened_bit body g plan fits cost planned b way 1 inside v by_jump k.0 j)
      (opened_bit body g plan fits cost planned b way 2 inside v by_fall k.1 f)
      (opened_beyond body g plan fits cost planned b way 1 inside v by_jump k.0 j)
      (opened_beyond body g plan fits cost planned b way 2 inside v by_fall k.1 f))

  pub step_words_lem : (w : ℕ) → w ≡ cost b way → (u : Words) → step_words jump_half fall_half w u ≡ grow_words cost
      (b, way) u
  step_words_lem w e u = λ i. (
    e i + u.0,
    (
      left_marks body g plan fits cost planned b way 1 inside v by_jump u.1.0 i,
      left_marks body g plan fits cost planned b way 2 inside v by_fall u.1.1 i,
    ),
  )
