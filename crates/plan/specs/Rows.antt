-- A list whose rows are those of a sound body's sets is its plan. Rests on Plan, and on sets' Found, whose words the
-- rows are.
use Rattle.std.specs.Prelude.{Bool, cond, ◌&&◌, ℕ, zero, suc, ◌+◌, ◌*◌, ◌≤◌, ◌<◌, eqb, length, get_or}
use Rattle.std.specs.Int.{from_bool}
use Rattle.std.proofs.Math.Bool.{true, false}
use mathlib.Core.List.{List, [], ◌∷◌, ◌++◌}
use Rattle.std.proofs.Common.{inl, inr, ⊎_elim, sym, ◌∙◌, arith, lt-ltb, get_or-take}
use Rattle.std.proofs.Math.Path.{◌≡◌, refl, ap}
use Rattle.lent.specs.Adding.{Adds, below, among}
use Rattle.laws.specs.Terms.{Mem, bit, set_of}
use Rattle.laws.specs.Sets.{bit_set_of, bit_set_of_beyond, below_or_not}
use Rattle.form.specs.declared.Block.{Block}
use Rattle.form.specs.declared.Body.{Body}
use Rattle.form.specs.Conflict.{Edge, block, exits_by, exits, way_to, is_test, condition, touches, opposes, denies, listed, conflicts, Sound, no_block}
use Rattle.lower_laws.specs.Endings.{by_exits}
use Rattle.lower_laws.specs.Joined.{past_count, no_test, denies_test, opposes_test, listed_none}
use Rattle.sets.specs.declared.Sets.{Sets}
use Rattle.sets.specs.Local.{local_of}
use Rattle.sets.specs.Found.{sets_of}
use Rattle.words.specs.Tabled.{tabled, rows}
use Rattle.words.specs.Filled.{tabled_at}
use Rattle.theory.specs.PlanWays.{by_way_lem}
use Rattle.theory.specs.Route.{step_cost}
use Rattle.theory.specs.Plan.{word_at, target_at, denied_at, against_at, listed_at, exit_by, IsWay, Planned}

-- row b of a body's plan
abbrev pub row_at : Body → ℕ → List ℕ
row_at body b =
    cond (is_test body b) 1 0
    ∷ way_to 1 (exits body b)
    ∷ way_to 2 (exits body b)
    ∷ set_of 64 (λ k. is_test body k && touches body b (block body k).variable)
    ∷ set_of 64 (λ k. denies body b (k, 1))
    ∷ set_of 64 (λ k. denies body b (k, 2))
    ∷ set_of 64 (λ k. opposes body (b, 1) (k, 1))
    ∷ set_of 64 (λ k. opposes body (b, 1) (k, 2))
    ∷ set_of 64 (λ k. opposes body (b, 2) (k, 1))
    ∷ set_of 64 (λ k. opposes body (b, 2) (k, 2))
    ∷ set_of 64 (λ k. listed (conflicts body) b (k, 1))
    ∷ set_of 64 (λ k. listed (conflicts body) b (k, 2))
    ∷ (block body b).cost
    ∷ 0 ∷ 0 ∷ 0 ∷ []

-- the same from a body's sets and what the block itself says, with the three words that nothing uses
abbrev pub row_with : Sets → (b test cost : ℕ) → List ℕ
row_with sets b test cost =
    test
    ∷ get_or sets.targets.jump b 0
    ∷ get_or sets.targets.fall b 0
    ∷ get_or sets.touched b 0
    ∷ get_or sets.denied.jump b 0
    ∷ get_or sets.denied.fall b 0
    ∷ get_or sets.jumping.jump b 0
    ∷ get_or sets.jumping.fall b 0
    ∷ get_or sets.falling.jump b 0
    ∷ get_or sets.falling.fall b 0
    ∷ get_or sets.listed.jump b 0
    ∷ get_or sets.listed.fall b 0
    ∷ cost
    ∷ 0 ∷ 0 ∷ 0 ∷ []

abbrev pub row_from : Sets → Block → ℕ → List ℕ
row_from sets k b = row_with sets b (from_bool (eqb k.ending 3)) k.cost

-- row b from the sets and the body
abbrev pub row_of : Sets → Body → ℕ → List ℕ
row_of sets body b = row_from sets (get_or body.blocks b no_block) b

-- ---- rows in the plan

-- the words of the rows below b stand in the plan
abbrev pub Rows : (ℕ → List ℕ) → ℕ → List ℕ → Type 0
Rows row b plan = (c w : ℕ) → c < b → w < 16 → word_at plan c w ≡ get_or (row c) w 0

-- and the row of block b
pub rows_more :
    (row : ℕ → List ℕ) (b : ℕ) (plan new words : List ℕ) → Adds plan (16 * b) new (16 * b + length words) words
    → length words ≡ 16 → 16 * b + 16 ≤ length plan → words ≡ row b → Rows row b plan → Rows row (b + 1) new
rows_more row b plan new words adds size room e read c w h l = ⊎_elim before here (below_or_not c b)
  where
    before : c < b → word_at new c w ≡ get_or (row c) w 0
    before i = below adds (16 * c + w) (omega arith) ∙ read c w i l

    here : b ≤ c → word_at new c w ≡ get_or (row c) w 0
    here i =
        let same : c ≡ b = omega arith in
        rw same (among adds (omega arith) w (omega arith) ∙ ap (λ (x : List ℕ). get_or x w 0) e)

-- ---- the rows of a body's sets

module _ (body : Body) (b : ℕ) (h : b < 64) where
  at : (f : ℕ → ℕ) → get_or (tabled 64 f) b 0 ≡ f b
  at f = tabled_at f 64 b 0 h

  on : (f : ℕ → ℕ → Bool) → get_or (rows f) b 0 ≡ set_of 64 (f b)
  unfolding rows
  on f = at (λ c. set_of 64 (f c))

  test_is : (k : Block) → k ≡ block body b → ◌≡◌ {A = ℕ} (from_bool (eqb k.ending 3)) (cond (is_test body b) 1 0)
  unfolding is_test
  test_is k e = ap (λ (x : Block). from_bool (eqb x.ending 3)) e ∙ alike (eqb (block body b).ending 3)
    where
      alike : (t : Bool) → ◌≡◌ {A = ℕ} (from_bool t) (cond t 1 0)
      alike true = refl
      alike false = refl

  pub row_same : (k : Block) → k ≡ block body b → row_from (sets_of body) k b ≡ row_at body b
  unfolding sets_of local_of
  row_same k e =
      λ i.
      test_is k e i
      ∷ at (λ c. way_to 1 (exits body c)) i
      ∷ at (λ c. way_to 2 (exits body c)) i
      ∷ on (λ c j. is_test body j && touches body c (block body j).variable) i
      ∷ on (λ c j. denies body c (j, 1)) i
      ∷ on (λ c j. denies body c (j, 2)) i
      ∷ on (λ c j. opposes body (c, 1) (j, 1)) i
      ∷ on (λ c j. opposes body (c, 1) (j, 2)) i
      ∷ on (λ c j. opposes body (c, 2) (j, 1)) i
      ∷ on (λ c j. opposes body (c, 2) (j, 2)) i
      ∷ on (λ c j. listed (conflicts body) c (j, 1)) i
      ∷ on (λ c j. listed (conflicts body) c (j, 2)) i
      ∷ (e i).cost
      ∷ 0 ∷ 0 ∷ 0 ∷ []

-- ---- the ways

-- what the two targets stand for are the exits
exits_back :
    (ending jump fall : ℕ) → ((o : ℕ × ℕ) → Mem o (exits_by ending jump fall) → o.1 < 64)
    → exits_by ending jump fall
    ≡ exit_by 1 (way_to 1 (exits_by ending jump fall)) ++ exit_by 2 (way_to 2 (exits_by ending jump fall))
exits_back ending jump fall =
    by_exits jump fall
    (λ l. ((o : ℕ × ℕ) → Mem o l → o.1 < 64) → l ≡ exit_by 1 (way_to 1 l) ++ exit_by 2 (way_to 2 l)) (λ h. refl)
    (λ h. rw (lt-ltb jump 64 (h (1, jump) (inl refl))))
    (λ h. rw (lt-ltb jump 64 (h (1, jump) (inl refl)), lt-ltb fall 64 (h (2, fall) (inr (inl refl))))) ending

-- ---- nothing past the last block

module _ (body : Body) (g : Sound body) where
  past : (k : ℕ) → body.count ≤ k → is_test body k ≡ false
  past k h = no_test body k (past_count body k h)

  denies_past : (b k w : ℕ) → body.count ≤ k → denies body b (k, w) ≡ false
  denies_past b k w h = denies_test body b (k, w) (past k h)

  opposes_past : (x : Edge) (k w : ℕ) → body.count ≤ k → opposes body x (k, w) ≡ false
  opposes_past x k w h = opposes_test body x (k, w) (past k h)

  listed_past : (b k w : ℕ) → body.count ≤ k → listed (conflicts body) b (k, w) ≡ false
  listed_past b k w h = listed_none body g.few b (k, w) (past k h)

  touched_past : (b k : ℕ) → body.count ≤ k → (is_test body k && touches body b (block body k).variable) ≡ false
  touched_past b k h = rw (past k h)

  -- ---- the plan

  module _ (plan : List ℕ) (size : length plan ≡ 1024)
      (read : (b w : ℕ) → b < body.count → w < 16 → word_at plan b w ≡ get_or (row_at body b) w 0) where
    -- a word that is a set of blocks
    within_word : (b w : ℕ) (f : ℕ → Bool) → b < body.count → w < 16 → get_or (row_at body b) w 0 ≡ set_of 64 f → (k : ℕ)
        → k < body.count → bit (word_at plan b w) k ≡ f k
    within_word b w f h l e k i = ap (λ (x : ℕ). bit x k) (read b w h l ∙ e) ∙ bit_set_of 64 f k (omega (arith, g.few))

    past_word : (b w : ℕ) (f : ℕ → Bool) → b < body.count → w < 16 → get_or (row_at body b) w 0 ≡ set_of 64 f
        → ((k : ℕ) → body.count ≤ k → f k ≡ false) → (k : ℕ) → body.count ≤ k → bit (word_at plan b w) k ≡ false
    past_word b w f h l e none k i =
        ap (λ (x : ℕ). bit x k) (read b w h l ∙ e)
        ∙ ⊎_elim (λ m. bit_set_of 64 f k m ∙ none k i) (λ m. bit_set_of_beyond 64 f k m) (below_or_not k 64)

    ways : (b : ℕ) → b < body.count → exits body b ≡ exit_by 1 (target_at plan b 1) ++ exit_by 2 (target_at plan b 2)
    unfolding exits
    ways b h =
        rw (read b 1 h (omega arith), read b 2 h (omega arith))
        (exits_back (block body b).ending (block body b).jump (block body b).fall
        (λ o m. omega (arith, g.onward.inside b o m, g.few)))

    touched : (b k : ℕ) → b < body.count → k < body.count
        → bit (word_at plan b 3) k ≡ is_test body k && touches body b (condition body (k, 1)).variable
    unfolding condition
    touched b k h i = within_word b 3 _ h (omega arith) refl k i

    -- each of the words 3 to 11 is such a set
    within : (b w k : ℕ) → 2 < w → w < 12 → b < body.count → body.count ≤ k → bit (word_at plan b w) k ≡ false
    within b zero k low high h i = let z : ⊥ = omega arith in absurd z
    within b (suc zero) k low high h i = let z : ⊥ = omega arith in absurd z
    within b (suc (suc zero)) k low high h i = let z : ⊥ = omega arith in absurd z
    within b (suc (suc (suc zero))) k low high h i = past_word b 3 _ h (omega arith) refl (touched_past b) k i
    within b (suc (suc (suc (suc zero)))) k low high h i =
        past_word b 4 _ h (omega arith) refl (λ j. denies_past b j 1) k i
    within b (suc (suc (suc (suc (suc zero))))) k low high h i =
        past_word b 5 _ h (omega arith) refl (λ j. denies_past b j 2) k i
    within b (suc (suc (suc (suc (suc (suc zero)))))) k low high h i =
        past_word b 6 _ h (omega arith) refl (λ j. opposes_past (b, 1) j 1) k i
    within b (suc (suc (suc (suc (suc (suc (suc zero))))))) k low high h i =
        past_word b 7 _ h (omega arith) refl (λ j. opposes_past (b, 1) j 2) k i
    within b (suc (suc (suc (suc (suc (suc (suc (suc zero)))))))) k low high h i =
        past_word b 8 _ h (omega arith) refl (λ j. opposes_past (b, 2) j 1) k i
    within b (suc (suc (suc (suc (suc (suc (suc (suc (suc zero))))))))) k low high h i =
        past_word b 9 _ h (omega arith) refl (λ j. opposes_past (b, 2) j 2) k i
    within b (suc (suc (suc (suc (suc (suc (suc (suc (suc (suc zero)))))))))) k low high h i =
        past_word b 10 _ h (omega arith) refl (λ j. listed_past b j 1) k i
    within b (suc (suc (suc (suc (suc (suc (suc (suc (suc (suc (suc zero))))))))))) k low high h i =
        past_word b 11 _ h (omega arith) refl (λ j. listed_past b j 2) k i
    within b (suc (suc (suc (suc (suc (suc (suc (suc (suc (suc (suc (suc w)))))))))))) k low high h i = let z : ⊥ =
        omega arith in absurd z

    denied : (b k : ℕ) → b < body.count → k < body.count → (side : ℕ) → IsWay side
        → bit (denied_at plan b side) k ≡ denies body b (k, side)
    denied b k h i =
        by_way_lem (λ side. bit (denied_at plan b side) k ≡ denies body b (k, side))
        (within_word b 4 _ h (omega arith) refl k i) (within_word b 5 _ h (omega arith) refl k i)

    against : (b k : ℕ) → b < body.count → k < body.count → (way : ℕ) → IsWay way → (side : ℕ) → IsWay side
        → bit (against_at plan b way side) k ≡ opposes body (b, way) (k, side)
    against b k h i =
        by_way_lem (λ way. (side : ℕ) → IsWay side → bit (against_at plan b way side) k ≡ opposes body (b, way) (k, side))
        (by_way_lem (λ side. bit (against_at plan b 1 side) k ≡ opposes body (b, 1) (k, side))
        (within_word b 6 _ h (omega arith) refl k i) (within_word b 7 _ h (omega arith) refl k i))
        (by_way_lem (λ side. bit (against_at plan b 2 side) k ≡ opposes body (b, 2) (k, side))
        (within_word b 8 _ h (omega arith) refl k i) (within_word b 9 _ h (omega arith) refl k i))

    listed_are : (b k : ℕ) → b < body.count → k < body.count → (side : ℕ) → IsWay side
        → bit (listed_at plan b side) k ≡ listed (conflicts body) b (k, side)
    listed_are b k h i =
        by_way_lem (λ side. bit (listed_at plan b side) k ≡ listed (conflicts body) b (k, side))
        (within_word b 10 _ h (omega arith) refl k i) (within_word b 11 _ h (omega arith) refl k i)

    pub planned : Planned body (step_cost body) plan
    planned =
        record {
          size = size;
          tests = λ b h. read b 0 h (omega arith);
          ways = ways;
          costs = λ b way h. read b 12 h (omega arith);
          touched = touched;
          denied = λ b k side s h i. denied b k h i side s;
          against = λ b way k side w s h i. against b k h i way w side s;
          listed_are = λ b k side s h i. listed_are b k h i side s;
          within = within;
        }

block_is : (body : Body) (b : ℕ) → b < body.count → get_or body.blocks b no_block ≡ block body b
unfolding block
block_is body b h = sym (get_or-take body.count body.blocks b no_block h)

-- what the loop has at its end is the plan
pub planned_rows :
    (body : Body) (g : Sound body) (plan : List ℕ) → length plan ≡ 1024 → (sets : Sets) → sets ≡ sets_of body
    → Rows (row_of sets body) 64 plan → Planned body (step_cost body) plan
planned_rows body g plan size sets e r =
    planned body g plan size
    (λ b w h l.
    r b w (omega (arith, g.few)) l
    ∙ ap (λ (x : List ℕ). get_or x w 0)
    (ap (λ (s : Sets). row_from s (get_or body.blocks b no_block) b) e
    ∙ row_same body b (omega (arith, g.few)) (get_or body.blocks b no_block) (block_is body b h)))
