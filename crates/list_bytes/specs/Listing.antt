-- The list's bytes and its number of entries from the firsts of the edges: the bytes that the loops lay out are those
-- of the conflict list. Rests on Laying, path_sets' Parts and lower_laws' Joined.
use Rattle.std.specs.Prelude.{◌≡◌, Bool, true, false, length, get_or}
use Rattle.std.proofs.Math.Path.{refl, sym, ap₂}
use Rattle.std.proofs.Common.{ap, ◌∙◌, arith}
use Rattle.std.proofs.Math.Bool.{cond}
use mathlib.Core.List.{List, [], ◌∷◌, ◌++◌, append-nil}
use Prim.Native.Nat.{ℕ, ◌+◌, ◌*◌, ◌≤◌, ◌<◌}
use Rattle.std.specs.Int.Count.{ones}
use Rattle.std.proofs.Math.ListN.{length-append}
use Rattle.laws.specs.Terms.{digit, bit, each, range}
use Rattle.laws.specs.Lists.{each_same, each_append, range_out}
use Rattle.laws.specs.Sets.{bit_none}
use Rattle.words.specs.Filled.{Told, bits_fit}
use Rattle.laws.specs.Sums.{sum, sum_same, sum_add, ones_sum, length_each}
use Rattle.form.specs.declared.Body.{Body}
use Rattle.form.specs.Conflict.{Edge, Pair, block, condition, assigned, assignment_pair, edge_pair, conflicts}
use Rattle.form.specs.Conflict.{conflict_bytes}
use Rattle.lower_laws.specs.Joined.{by_way, edge_pairs, past_count, denies_none, no_test, opposes_first, assigned_none}
use Rattle.lower_laws.specs.Joined.{way_none, conflicts_by_edge}
use Rattle.sets.specs.declared.Firsts.{Firsts}
use Rattle.sets.specs.declared.Found.{Found}
use Rattle.path_sets.specs.Parts.{FirstsBy}
use Rattle.path_sets.specs.declared.Outcome.{Outcome}
use Rattle.path_sets.specs.declared.Outcome.TheVariants.{Jump, Fall}
use Rattle.list_bytes.specs.Laying.{entry_bytes, word_bytes, edge_bytes}
use Rattle.lent.specs.Adding.{Adds}
use Rattle.lent.specs.declared.Filled.{Filled}
use Rattle.lent.specs.Filled.{HasRoom, Grows, then}
use Rattle.list_bytes.specs.Growing.{pairs, room_first, room_next, one_more, room_more}

abbrev pair_bytes : Pair → List ℕ
pair_bytes p = p.kind ∷ p.first ∷ p.third ∷ p.second ∷ p.outcome ∷ []

-- the bytes that the loop lays out for block s
abbrev pub block_bytes : (variable a1 j1 f1 a2 j2 f2 : List ℕ) → ℕ → List ℕ
block_bytes variable a1 j1 f1 a2 j2 f2 s =
    edge_bytes (get_or a1 s 0) (get_or j1 s 0) (get_or f1 s 0) (get_or variable s 0) s 1 ++ edge_bytes (get_or a2 s 0)
    (get_or j2 s 0) (get_or f2 s 0) (get_or variable s 0) s 2

unfoldable pub all_bytes : (variable a1 j1 f1 a2 j2 f2 : List ℕ) → List ℕ
all_bytes variable a1 j1 f1 a2 j2 f2 = each (range 0 64) (block_bytes variable a1 j1 f1 a2 j2 f2)

-- the number of bits of the rows
abbrev pub bits_of : (a j f : List ℕ) → ℕ
bits_of a j f = sum 64 (λ s. ones (get_or a s 0) + (ones (get_or j s 0) + ones (get_or f s 0)))

abbrev pub firsts_bits : Firsts → ℕ
firsts_bits p = bits_of p.assigned p.jump p.fall

-- of one row, and of each row by itself
abbrev pub row_bits : List ℕ → ℕ
row_bits row = sum 64 (λ s. ones (get_or row s 0))

pub bits_by_row : (a j f : List ℕ) → bits_of a j f ≡ row_bits a + row_bits j + row_bits f
bits_by_row a j f =
    let all = sum_add 64 (λ s. ones (get_or a s 0)) (λ s. ones (get_or j s 0) + ones (get_or f s 0)) in
    let edges = sum_add 64 (λ s. ones (get_or j s 0)) (λ s. ones (get_or f s 0)) in
    omega arith

-- ---- lists in lists

each_each : {A B C : Type 0} (l : List A) (f : A → List B) (g : B → List C)
    → each (each l f) g ≡ each l (λ x. each (f x) g)
each_each [] f g = refl
each_each (x ∷ l) f g = each_append (f x) (each l f) g ∙ ap (λ z. each (f x) g ++ z) (each_each l f g)

one_pair : (t : Bool) (p : Pair) → each (cond t (p ∷ []) []) pair_bytes ≡ cond t (pair_bytes p) []
one_pair true p = refl
one_pair false p = refl

fives : (l : List Pair) → length (each l pair_bytes) ≡ 5 * length l
fives [] = refl
fives (p ∷ l) = omega (arith, fives l)

one_length : (t : Bool) (p : Pair) → length (cond t (p ∷ []) []) ≡ digit t
one_length true p = refl
one_length false p = refl

module _ (body : Body) (few : body.count ≤ 64) where
  -- ---- past the blocks there is no first
  off_assigned : (e : Edge) (b : ℕ) → 64 ≤ b → assigned body b e ≡ false
  off_assigned e b h = assigned_none body b e (denies_none body b e (past_count body b (omega arith)))

  off_way : (way : ℕ) (e : Edge) (b : ℕ) → 64 ≤ b → by_way body way b e ≡ false
  off_way way e b h = way_none body way b e
      (opposes_first body (b, way) e (no_test body b (past_count body b (omega arith))))

  -- ---- the edge (s, way), with its words
  module _ (s way a j f v : ℕ) (is_a : (k : ℕ) → bit a k ≡ assigned body k (s, way))
      (is_j : (k : ℕ) → bit j k ≡ by_way body 1 k (s, way)) (is_f : (k : ℕ) → bit f k ≡ by_way body 2 k (s, way))
      (is_v : v ≡ (condition body (s, way)).variable) where
    assignments_are : word_bytes 1 a v 0 0 s way ≡ each
        (each (range 0 64) (λ b. cond (assigned body b (s, way)) (assignment_pair body (s, way) b ∷ []) [])) pair_bytes
    unfolding word_bytes
    assignments_are =
        each_same (range 0 64) _ _ (λ b m.
        (λ i. entry_bytes (is_a b i) 1 b (is_v i) s way ++ entry_bytes (bit_none b i) 1 b 0 s way)
        ∙ append-nil (cond (assigned body b (s, way)) (pair_bytes (assignment_pair body (s, way) b)) [])
        ∙ sym (one_pair (assigned body b (s, way)) (assignment_pair body (s, way) b)))
        ∙ sym (each_each (range 0 64) (λ b. cond (assigned body b (s, way))
        (assignment_pair body (s, way) b ∷ []) []) pair_bytes)

    crossings_are : word_bytes 2 j 1 f 2 s way ≡ each
        (each (range 0 64) (λ b. cond (by_way body 1 b (s, way)) (edge_pair (s, way) b (1, 0) ∷ []) [] ++ cond
        (by_way body 2 b (s, way)) (edge_pair (s, way) b (2, 0) ∷ []) [])) pair_bytes
    unfolding word_bytes
    crossings_are =
        each_same (range 0 64) _ _ (λ b m.
        (λ i. entry_bytes (is_j b i) 2 b 1 s way ++ entry_bytes (is_f b i) 2 b 2 s way)
        ∙ (λ i. sym (one_pair (by_way body 1 b (s, way)) (edge_pair (s, way) b (1, 0))) i ++ sym
        (one_pair (by_way body 2 b (s, way)) (edge_pair (s, way) b (2, 0))) i)
        ∙ sym (each_append (cond (by_way body 1 b (s, way)) (edge_pair (s, way) b (1, 0) ∷ []) [])
        (cond (by_way body 2 b (s, way)) (edge_pair (s, way) b (2, 0) ∷ []) []) pair_bytes))
        ∙ sym (each_each (range 0 64) (λ b. cond (by_way body 1 b (s, way))
        (edge_pair (s, way) b (1, 0) ∷ []) [] ++ cond (by_way body 2 b (s, way))
        (edge_pair (s, way) b (2, 0) ∷ []) []) pair_bytes)

    edge_is : edge_bytes a j f v s way ≡ each (edge_pairs body (s, way)) pair_bytes
    unfolding edge_bytes edge_pairs
    edge_is = ap₂ ◌++◌ assignments_are crossings_are
        ∙ sym (each_append (each (range 0 64)
        (λ b. cond (assigned body b (s, way)) (assignment_pair body (s, way) b ∷ []) []))
        (each (range 0 64) (λ b. cond (by_way body 1 b (s, way)) (edge_pair (s, way) b (1, 0) ∷ []) [] ++ cond
        (by_way body 2 b (s, way)) (edge_pair (s, way) b (2, 0) ∷ []) [])) pair_bytes)

    -- the number of its entries
    counted : (w : ℕ) (g : ℕ → Bool) → ((k : ℕ) → bit w k ≡ g k) → ((k : ℕ) → 64 ≤ k → g k ≡ false)
        → ones w ≡ sum 64 (λ k. digit (g k))
    counted w g is off = ones_sum 64 w (bits_fit g off w is)
        ∙ sum_same 64 (λ k. digit (bit w k)) (λ k. digit (g k)) (λ k l. ap digit (is k))

    edge_number : length (edge_pairs body (s, way)) ≡ ones a + (ones j + ones f)
    unfolding edge_pairs
    edge_number =
        length-append (each (range 0 64)
        (λ b. cond (assigned body b (s, way)) (assignment_pair body (s, way) b ∷ []) [])) _
        ∙ ap₂ ◌+◌
        (length_each 64 (λ b. cond (assigned body b (s, way)) (assignment_pair body (s, way) b ∷ []) [])
        ∙ sum_same 64 _ (λ b. digit (assigned body b (s, way)))
        (λ b l. one_length (assigned body b (s, way)) (assignment_pair body (s, way) b))
        ∙ sym (counted a (λ b. assigned body b (s, way)) is_a (off_assigned (s, way))))
        (length_each 64 (λ b. cond (by_way body 1 b (s, way)) (edge_pair (s, way) b (1, 0) ∷ []) [] ++ cond
        (by_way body 2 b (s, way)) (edge_pair (s, way) b (2, 0) ∷ []) [])
        ∙ sum_same 64 _ (λ b. digit (by_way body 1 b (s, way)) + digit (by_way body 2 b (s, way))) (λ b l.
        length-append (cond (by_way body 1 b (s, way)) (edge_pair (s, way) b (1, 0) ∷ []) [])
        (cond (by_way body 2 b (s, way)) (edge_pair (s, way) b (2, 0) ∷ []) [])
        ∙ ap₂ ◌+◌ (one_length (by_way body 1 b (s, way)) (edge_pair (s, way) b (1, 0)))
        (one_length (by_way body 2 b (s, way)) (edge_pair (s, way) b (2, 0))))
        ∙ sum_add 64 (λ b. digit (by_way body 1 b (s, way))) (λ b. digit (by_way body 2 b (s, way)))
        ∙ ap₂ ◌+◌ (sym (counted j (λ b. by_way body 1 b (s, way)) is_j (off_way 1 (s, way))))
        (sym (counted f (λ b. by_way body 2 b (s, way)) is_f (off_way 2 (s, way)))))

  -- ---- the whole list
  module _ (variable : List ℕ) (jumped fallen : Firsts)
      (vs : Told 0 (λ k x. x ≡ (block body k).variable) 64 64 variable) (one : FirstsBy body 1 jumped)
      (two : FirstsBy body 2 fallen) where
    of_variable : (s way : ℕ) → s < 64 → get_or variable s 0 ≡ (condition body (s, way)).variable
    unfolding condition
    of_variable s way h = vs.at s h

    pub bytes_are : all_bytes variable jumped.assigned jumped.jump jumped.fall fallen.assigned
        fallen.jump fallen.fall ≡ conflict_bytes body
    unfolding all_bytes conflict_bytes
    bytes_are =
        each_same (range 0 64) _ _ (λ s m. let h : s < 64 = (range_out 0 64 s m).1 in
        ap₂ ◌++◌ (edge_is s 1 _ _ _ _ (one.assigned.at s h) (one.jumps.at s h) (one.falls.at s h)
        (of_variable s 1 h)) (edge_is s 2 _ _ _ _ (two.assigned.at s h) (two.jumps.at s h)
        (two.falls.at s h) (of_variable s 2 h))
        ∙ sym (each_append (edge_pairs body (s, 1)) (edge_pairs body (s, 2)) pair_bytes))
        ∙ sym (each_each (range 0 64) (λ s. edge_pairs body (s, 1) ++ edge_pairs body (s, 2)) pair_bytes)
        ∙ sym (ap (λ (l : List Pair). each l pair_bytes) (conflicts_by_edge body few))

    pub number_is : bits_of jumped.assigned jumped.jump jumped.fall + bits_of fallen.assigned fallen.jump
        fallen.fall ≡ length (conflicts body)
    number_is =
        sym (ap length (conflicts_by_edge body few)
        ∙ length_each 64 (λ s. edge_pairs body (s, 1) ++ edge_pairs body (s, 2))
        ∙ sum_same 64 _ _ (λ s h. length-append (edge_pairs body (s, 1)) (edge_pairs body (s, 2))
        ∙ ap₂ ◌+◌ (edge_number s 1 _ _ _ _ (one.assigned.at s h) (one.jumps.at s h) (one.falls.at s h)
        (of_variable s 1 h)) (edge_number s 2 _ _ _ _ (two.assigned.at s h) (two.jumps.at s h)
        (two.falls.at s h) (of_variable s 2 h)))
        ∙ sum_add 64 (λ s. ones (get_or jumped.assigned s 0) +
        (ones (get_or jumped.jump s 0) + ones (get_or jumped.fall s 0)))
        (λ s. ones (get_or fallen.assigned s 0) + (ones (get_or fallen.jump s 0) + ones (get_or fallen.fall s 0))))

pub bytes_length : (body : Body) → length (conflict_bytes body) ≡ 5 * length (conflicts body)
unfolding conflict_bytes
bytes_length body = fives (conflicts body)

-- ---- the lent bytes

abbrev pub found_bytes : Found → List ℕ
found_bytes f = all_bytes f.variable f.jumped.assigned f.jumped.jump f.jumped.fall f.fallen.assigned
    f.fallen.jump f.fallen.fall

-- the bytes of block s
abbrev pub found_block : Found → ℕ → List ℕ
found_block f = block_bytes f.variable f.jumped.assigned f.jumped.jump f.jumped.fall f.fallen.assigned f.fallen.jump
    f.fallen.fall

module _ (f : Found) (s : ℕ) where
  abbrev edge_pairs_by : Outcome → Firsts → List ℕ
  edge_pairs_by way = pairs (record { block = s; outcome = way; variable = get_or f.variable s 0 })

  module _ {a b : Filled} (l : Grows a b (each (range 0 s) (found_block f))) (room : HasRoom a (found_bytes f))
      (below : s < 64) where
    both_room : HasRoom b (found_block f s)
    unfolding all_bytes
    both_room = room_more (found_block f) s l 64 below room

    pub jump_pairs_room : HasRoom b (edge_pairs_by Jump f.jumped)
    jump_pairs_room = room_first b _ _ both_room

    pub fall_pairs_room : (c : Filled) → Grows b c (edge_pairs_by Jump f.jumped)
        → HasRoom c (edge_pairs_by Fall f.fallen)
    fall_pairs_room c g = room_next c _ both_room g

    pub pairs_more : {c : Filled} (d : Filled) → Grows b c (edge_pairs_by Jump f.jumped)
        → Grows c d (edge_pairs_by Fall f.fallen) → Grows a d (each (range 0 (s + 1)) (found_block f))
    pairs_more d p q = one_more (found_block f) s l (then p q)

  -- all of it stands in what was lent, when that is given back
  pub all_done : {a b : Filled} {lent given : List ℕ} → s ≡ 64 → Grows a b (each (range 0 s) (found_block f)) → a.end ≡ 0
      → a.bytes.now ≡ lent → given ≡ b.bytes.now → Adds lent 0 given b.end (found_bytes f)
  unfolding all_bytes
  all_done e l none begun back = rw back (rw (e, none, begun) at l.adds)
