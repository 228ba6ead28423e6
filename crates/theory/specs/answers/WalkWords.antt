-- The full walk on words, and the route bytes from the words of a path. The walk that carries weight and sets forward
-- counts the beginnings that are not ruled out and keeps the words of the first route of the preferred weight
-- (`walk_words`); a route's bytes follow from its two sets (`bytes_words`). Rests on Answer, Ties and Words.
use Rattle.std.specs.Prelude.{◌≡◌, Bool, true, false, not, cond, ◌||◌, ℕ, suc, ◌+◌, ◌^◌, ◌<◌, eqb}
use Rattle.std.proofs.Math.Path.{refl, sym, ap}
use Rattle.std.proofs.Common.{ap₂, ◌∙◌, zero-add, arith, pow_pos}
use Rattle.std.proofs.Math.Bool.{or-false}
use mathlib.Core.List.{List, [], ◌∷◌, map, map-map}
use Rattle.std.proofs.Math.Option.{Option, none, some}
use Rattle.std.proofs.Math.Nat.{add_assoc}
use Rattle.std.specs.Int.Bits.{bit_or}
use Rattle.std.proofs.lemmas.Nat.{or_lt}
use Rattle.laws.specs.Terms.{range, bit}
use Rattle.laws.specs.Orders.{Preference}
use Rattle.laws.specs.Lists.{only_out, map_same, range_out}
use Rattle.laws.specs.Sets.{ext, bit_or_lem, bit_none}
use Rattle.form.specs.declared.Body.{Body}
use Rattle.form.specs.Conflict.{Edge, Onward, same}
use Rattle.theory.specs.Route.{Path, last_block, paths, weight, weighed, choose, best, way_of, route_bytes}
use Rattle.theory.specs.Row.{Key, left_by}
use Rattle.theory.specs.machines.Machine.{Val}
use Rattle.theory.specs.machines.Walk.{carry, within, walk, tally}
use Rattle.theory.specs.pairs.Steps.{Leads}
use Rattle.theory.specs.machines.Passes.{paths_lead}
use Rattle.theory.specs.answers.Ties.{mark, mark_bit, mark_lt, leaves, left_bit, left_lt, left_nil, way_words}
use Rattle.theory.specs.answers.Ways.{Ways, walker, tails_by, best_by, walked_by}
use Rattle.theory.specs.answers.Answer.{walk_routes}
use Rattle.theory.specs.answers.Words.{Words, words_of, words_found}

-- ---- what the walk carries

-- the step taken: its cost, and its block's mark
abbrev pub advance : (cost : ℕ → ℕ → ℕ) → Edge → Words → Words
advance cost x c = (c.0 + cost x.0 x.1, (mark 1 x c.1.0, mark 2 x c.1.1))

-- at a block where the path ends, that block's own cost
abbrev pub finish : (cost : ℕ → ℕ → ℕ) → ℕ × Words → Words
finish cost e = (e.1.0 + cost e.0 0, e.1.1)

abbrev pub nothing : Words
nothing = (0, (0, 0))

module _ (body : Body) (w : Onward body) (cost : ℕ → ℕ → ℕ) where
  -- the set so far with the sets of the rest
  join : (way : ℕ) (x : Edge) (p : Path) (s : ℕ) → x.0 < body.count → s < 2 ^ body.count
      → bit_or (mark way x s) (left_by body way p) ≡ bit_or s (left_by body way (x ∷ p))
  join way x p s h l =
      ext body.count (or_lt body.count (mark way x s) (left_by body way p) (mark_lt body body.count way x s h l)
      (left_lt body way p)) (or_lt body.count s (left_by body way (x ∷ p)) l (left_lt body way (x ∷ p)))
      (λ k i.
      bit_or_lem (mark way x s) (left_by body way p) k
      ∙ ap₂ ◌||◌ (mark_bit body way x s k) (left_bit body way p k i)
      ∙ turn (same x (k, way)) (bit s k) (leaves way p k)
      ∙ sym (bit_or_lem s (left_by body way (x ∷ p)) k ∙ ap (λ c. bit s k || c) (left_bit body way (x ∷ p) k i)))
    where
      turn : (a b c : Bool) → ((a || b) || c) ≡ (b || (a || c))
      turn true true c = refl
      turn true false c = refl
      turn false b c = refl

  or_nothing : (s : ℕ) → s < 2 ^ body.count → bit_or s 0 ≡ s
  or_nothing s l =
      ext body.count (or_lt body.count s 0 l (pow_pos body.count)) l
      (λ k i. bit_or_lem s 0 k ∙ ap (λ c. bit s k || c) (bit_none k) ∙ or-false (bit s k))

  nothing_or : (s : ℕ) → s < 2 ^ body.count → bit_or 0 s ≡ s
  nothing_or s l =
      ext body.count (or_lt body.count 0 s (pow_pos body.count) l) l
      (λ k i. bit_or_lem 0 s k ∙ ap (λ c. c || bit s k) (bit_none k))

  abbrev Fit : Words → Type 0
  Fit c = (c.1.0 < 2 ^ body.count) × (c.1.1 < 2 ^ body.count)

  carry_words : (b : ℕ) (p : Path) (c : Words) → Leads body b p (last_block body) → Fit c
      → finish cost (last_block body, carry (advance cost) c p)
      ≡ (c.0 + weight cost (last_block body) p, (bit_or c.1.0 (left_by body 1 p), bit_or c.1.1 (left_by body 2 p)))
  unfolding weight
  carry_words b [] c l f =
      λ i. (
        c.0 + cost (last_block body) 0,
        (
          sym (ap (bit_or c.1.0) (left_nil body 1) ∙ or_nothing c.1.0 f.0) i,
          sym (ap (bit_or c.1.1) (left_nil body 2) ∙ or_nothing c.1.1 f.1) i,
        ),
      )
  carry_words b (x ∷ p) c l f =
      let h : x.0 < body.count =
      let d = l.1 in omega (arith, w.above b (x.1, l.0) l.2, w.inside b (x.1, l.0) l.2) in
      carry_words l.0 p (advance cost x c) l.3
      (mark_lt body body.count 1 x c.1.0 h f.0, mark_lt body body.count 2 x c.1.1 h f.1)
      ∙ λ i. (
        add_assoc c.0 (cost x.0 x.1) (weight cost (last_block body) p) i,
        (join 1 x p c.1.0 h f.0 i, join 2 x p c.1.1 h f.1 i),
      )

  route_words : (p : Path) → Leads body 0 p (last_block body)
      → finish cost (last_block body, carry (advance cost) nothing p) ≡ words_of body (weighed body cost p)
  route_words p l =
      carry_words 0 p nothing l (pow_pos body.count, pow_pos body.count)
      ∙ λ i. (
        zero-add (weight cost (last_block body) p) i,
        (nothing_or (left_by body 1 p) (left_lt body 1 p) i, nothing_or (left_by body 2 p) (left_lt body 2 p) i),
      )

-- ---- the answer

-- the best of the words are the words of the best
module _ (body : Body) (prefers : ℕ → ℕ → Bool) where
  choose_words : (v : Val) (o : Option Val)
      → choose prefers (words_of body v) (words_found body o) ≡ words_found body (choose prefers v o)
  choose_words v none = refl
  choose_words v (some u) = by (prefers u.0 v.0)
    where
      by : (c : Bool) → some (cond c (words_of body u) (words_of body v)) ≡ some (words_of body (cond c u v))
      by true = refl
      by false = refl

  best_words : (l : List Val) → best prefers (map (words_of body) l) ≡ words_found body (best prefers l)
  unfolding best
  best_words [] = refl
  best_words (v ∷ l) = ap (choose prefers (words_of body v)) (best_words l) ∙ choose_words v (best prefers l)

-- over the budget, or the number of beginnings that are not ruled out and the words of the first route of the preferred
-- weight
pub walk_words : (body : Body) → Onward body
    → {ruled_out : Path → Bool} {opens : ℕ → Path → Key} (W : Ways body ruled_out opens)
    → (cost : ℕ → ℕ → ℕ) (prefers : ℕ → ℕ → Bool) → Preference prefers
    → (budget : ℕ)
    → walk (walker body W cost) (advance cost) (tally prefers (finish cost) body.count budget) body.count 0
    W.start nothing (0, none)
    ≡ within budget (walked_by body ruled_out) (words_found body (best_by body ruled_out cost prefers))
unfolding best_by tails_by
walk_words body w {ruled_out} W cost prefers ch budget =
    walk_routes body W cost (advance cost) (finish cost) nothing prefers ch budget
    ∙ ap (λ l. within budget (walked_by body ruled_out) (best prefers l))
    (map_same (λ p. finish cost (last_block body, carry (advance cost) nothing p))
    (λ p. words_of body (weighed body cost p)) (tails_by body ruled_out 0)
    (λ p m. route_words body w cost p
    (paths_lead body body.count 0 p (only_out (λ p. not (ruled_out p)) (paths body body.count 0) p m).1)))
    ∙ ap (λ l. within budget (walked_by body ruled_out) (best prefers l))
    (sym (map-map (words_of body) (weighed body cost) (tails_by body ruled_out 0)))
    ∙ ap (within budget (walked_by body ruled_out))
    (best_words body prefers (map (weighed body cost) (tails_by body ruled_out 0)))

-- ---- the route bytes

-- from the sets of the blocks left by jump or go and by fall
abbrev pub bytes_from : Body → (jumped fallen : ℕ) → List ℕ
bytes_from body jumped fallen =
    map (λ b. cond (eqb (suc b) body.count) 3 (cond (bit jumped b) 1 (cond (bit fallen b) 2 0)))
    (range 0 body.count)

pub bytes_words : (body : Body) → Onward body → (p : Path) → Leads body 0 p (last_block body)
    → route_bytes body p ≡ bytes_from body (left_by body 1 p) (left_by body 2 p)
unfolding route_bytes
bytes_words body w p l =
    map_same (λ b. cond (eqb (suc b) body.count) 3 (way_of b p))
    (λ b. cond (eqb (suc b) body.count) 3 (cond (bit (left_by body 1 p) b) 1 (cond (bit (left_by body 2 p) b) 2 0)))
    (range 0 body.count)
    (λ b m. let h : b < body.count = omega (arith, range_out 0 body.count b m) in
    ap (cond (eqb (suc b) body.count) 3)
    (way_words body w 0 (last_block body) p b l ∙ ap₂ (λ c d. cond c 1 (cond d 2 0)) (sym (left_bit body 1 p b h))
    (sym (left_bit body 2 p b h))))
