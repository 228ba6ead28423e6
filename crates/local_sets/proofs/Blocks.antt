-- The blocks of a body: what stands in the list of them, and past it. Rests on form's Conflict, on words' Filled and on
-- lower_laws' Joined.
use Rattle.std.proofs.Common.{ℕ, ◌+◌, ◌≤◌, ◌<◌, min, eqb, ltb, Bool, true, false, ◌&&◌}
use Rattle.std.proofs.Common.{List, length, get_or, take, drop}
use Rattle.std.proofs.Common.{◌≡◌, sym, ap, ap₂, ◌∙◌, arith, add-one, ltb-true, ltb-false}
use Rattle.std.proofs.Math.Bool.{and-false}
use Rattle.std.proofs.lemmas.List.{get_or_past, take_min, drop_min, drop-drop}
use Rattle.laws.specs.Terms.{bit}
use Rattle.laws.specs.Tests.{clash, split}
use Rattle.laws.specs.Sets.{bit_none}
use Rattle.form.specs.declared.Body.{Body}
use Rattle.form.specs.declared.Block.{Block}
use Rattle.form.specs.declared.Effect.{Effect}
use Rattle.form.specs.Conflict.{Edge, no_block, block, exits_by, exits, way_to, effects_below, effects_of, touches}
use Rattle.form.specs.Conflict.{is_test, opposes, denies}
use Rattle.lower_laws.specs.Joined.{no_test, no_effects, denies_none, denies_test, opposes_first, opposes_test}
use Rattle.sets.specs.declared.Edges.{Edges}
use Rattle.sets.specs.Local.{edge_rows}
use Rattle.words.specs.Tabled.{rows}
use Rattle.words.specs.Filled.{Filling, filling_end, told_rows}

module _ (body : Body) {own : List Block} (is : own ≡ take body.count body.blocks) where
  pub block_at : (b : ℕ) → get_or own b no_block ≡ block body b
  unfolding block
  block_at b = ap (λ (l : List Block). get_or l b no_block) is

  pub past : (b : ℕ) → length own ≤ b → block body b ≡ no_block
  past b h = sym (block_at b) ∙ get_or_past own b no_block h

  pub test_at : (b : ℕ) → eqb (get_or own b no_block).ending 3 ≡ is_test body b
  unfolding is_test
  test_at b = ap (λ (k : Block). eqb k.ending 3) (block_at b)

  pub test_inside : (b : ℕ) → is_test body b ≡ true → b < length own
  test_inside b t = split (ltb b (length own)) (λ l. ltb-true b (length own) l)
      (λ l. clash t (no_test body b (past b (ltb-false b (length own) l))))

  -- where a block's ways lead
  pub way_at : (way b : ℕ)
      → way_to way (exits_by (get_or own b no_block).ending (get_or own b no_block).jump (get_or own b no_block).fall)
      ≡ way_to way (exits body b)
  unfolding exits
  way_at way b = ap (λ (k : Block). way_to way (exits_by k.ending k.jump k.fall)) (block_at b)

  pub no_way : (way b : ℕ) → length own ≤ b → way_to way (exits body b) ≡ 64
  unfolding exits
  no_way way b h = ap (λ (k : Block). way_to way (exits_by k.ending k.jump k.fall)) (past b h)

  -- a block's effects: as many of those that are left as it has
  module _ (b n : ℕ) (left : List Effect) (passed : left ≡ drop (effects_below body b) body.effects)
      (many : n ≡ min (get_or own b no_block).effects (length left)) where
    pub own_effects : take n left ≡ effects_of body b
    unfolding effects_of
    own_effects = rw many (take_min _ left ∙ ap₂ take (ap (λ (k : Block). k.effects) (block_at b)) passed)

    pub other_effects : drop n left ≡ drop (effects_below body (b + 1)) body.effects
    unfolding effects_below
    other_effects =
        rw (many, add-one b) (drop_min _ left ∙ ap₂ drop (ap (λ (k : Block). k.effects) (block_at b)) passed
        ∙ drop-drop (block body b).effects (effects_below body b) body.effects)

  -- rows that are right up to the last block, with nothing for what is no block
  module _ (few : length own ≤ 64) {i : ℕ} (end : length own ≤ i) where
    rows_end : (f : ℕ → ℕ → Bool) → ((b k : ℕ) → block body b ≡ no_block → f b k ≡ false)
        → ((b k : ℕ) → block body k ≡ no_block → f b k ≡ false)
        → (l : List ℕ) → Filling 0 (λ b x. (k : ℕ) → bit x k ≡ f b k) 64 i l → l ≡ rows f
    rows_end f first second l filling =
        told_rows f (λ b k h. second b k (past k (omega arith))) l (filling_end 0 _ 64 i l
        (λ b h m k. bit_none k ∙ sym (first b k (past b (omega arith)))) filling)

    edges_end : (f : ℕ → Edge → Bool) → ((b : ℕ) (e : Edge) → block body b ≡ no_block → f b e ≡ false)
        → ((b : ℕ) (e : Edge) → is_test body e.0 ≡ false → f b e ≡ false) → (e : Edges)
        → Filling 0 (λ b x. (k : ℕ) → bit x k ≡ f b (k, 1)) 64 i e.jump
        → Filling 0 (λ b x. (k : ℕ) → bit x k ≡ f b (k, 2)) 64 i e.fall → e ≡ edge_rows f
    edges_end f first second e jumps falls = λ j. record {
      jump = by_way 1 e.jump jumps j;
      fall = by_way 2 e.fall falls j;
    }
      where
        by_way : (way : ℕ) (l : List ℕ) → Filling 0 (λ b x. (k : ℕ) → bit x k ≡ f b (k, way)) 64 i l
            → l ≡ rows (λ b k. f b (k, way))
        by_way way = rows_end (λ b k. f b (k, way)) (λ b k. first b (k, way))
            (λ b k none. second b (k, way) (no_test body k none))

    pub touched_end : (l : List ℕ)
        → Filling 0 (λ b x. (k : ℕ) → bit x k ≡ is_test body k && touches body b (block body k).variable) 64 i l
        → l ≡ rows (λ b k. is_test body k && touches body b (block body k).variable)
    unfolding touches
    touched_end = rows_end (λ b k. is_test body k && touches body b (block body k).variable)
        (λ b k e. rw (no_effects body b e) (and-false (is_test body k))) (λ b k e. rw (no_test body k e))

    pub denied_end : (e : Edges)
        → Filling 0 (λ b x. (k : ℕ) → bit x k ≡ denies body b (k, 1)) 64 i e.jump
        → Filling 0 (λ b x. (k : ℕ) → bit x k ≡ denies body b (k, 2)) 64 i e.fall → e ≡ edge_rows (denies body)
    denied_end = edges_end (denies body) (denies_none body) (denies_test body)

    -- of the edges that conflict with each block's edge by a way
    pub opposed_end : (way : ℕ) (e : Edges)
        → Filling 0 (λ b x. (k : ℕ) → bit x k ≡ opposes body (b, way) (k, 1)) 64 i e.jump
        → Filling 0 (λ b x. (k : ℕ) → bit x k ≡ opposes body (b, way) (k, 2)) 64 i e.fall
        → e ≡ edge_rows (λ b e. opposes body (b, way) e)
    opposed_end way = edges_end (λ b e. opposes body (b, way) e)
        (λ b e none. opposes_first body (b, way) e (no_test body b none)) (λ b. opposes_test body (b, way))
