-- The conflict list as it grows in lent bytes: what a part of it adds, the room that the part needs, and parts one
-- after another. Rests on lent's Filled.
use Rattle.std.specs.Prelude.{◌≡◌, Bool, true, false, cond, List, [], ◌∷◌, ◌++◌, ℕ, ◌+◌, ◌<◌, length, get_or}
use Rattle.std.proofs.Common.{ap, append-nil, arith}
use Rattle.std.proofs.Math.ListN.{length-append}
use Rattle.lent.specs.declared.Filled.{Filled}
use Rattle.lent.specs.Filled.{HasRoom, Grows, nothing, then}
use Rattle.laws.specs.Terms.{bit, each, range}
use Rattle.laws.specs.Sets.{bit_none}
use Rattle.laws.specs.Sums.{each_last, each_part}
use Rattle.sets.specs.declared.Firsts.{Firsts}
use Rattle.path_sets.specs.Parts.{way_number}
use Rattle.list_bytes.specs.Laying.{turn_bytes, word_bytes, edge_bytes}
use Rattle.list_bytes.specs.declared.Second.{Second}

-- ---- the entries with an edge as second

-- with block f as first, and with each
abbrev pub assignments_of : Second → (assigned : ℕ) → (f : ℕ) → List ℕ
assignments_of s assigned = turn_bytes 1 assigned s.variable 0 0 s.block (way_number s.outcome)

abbrev pub assignments : Second → (assigned : ℕ) → List ℕ
assignments s assigned = word_bytes 1 assigned s.variable 0 0 s.block (way_number s.outcome)

abbrev pub edges_of : Second → (jump fall : ℕ) → (f : ℕ) → List ℕ
edges_of s jump fall = turn_bytes 2 jump 1 fall 2 s.block (way_number s.outcome)

abbrev pub edges : Second → (jump fall : ℕ) → List ℕ
edges s jump fall = word_bytes 2 jump 1 fall 2 s.block (way_number s.outcome)

-- those of the block's firsts
abbrev pub pairs : Second → Firsts → List ℕ
pairs s firsts = edge_bytes (get_or firsts.assigned s.block 0) (get_or firsts.jump s.block 0)
    (get_or firsts.fall s.block 0) s.variable s.block (way_number s.outcome)

-- ---- the list as it grows

-- an entry, where there is one
pub grown : {a b c : Filled} {on : Bool} {entry e : List ℕ} → on ≡ true → e ≡ entry → Grows a b e → c ≡ b
    → Grows a c (cond on entry [])
grown on is g same = rw (on, same, ← is) g

pub as_was : {a c : Filled} {on : Bool} (entry : List ℕ) → on ≡ false → c ≡ a → Grows a c (cond on entry [])
as_was entry off same = rw (off, same) (nothing _)

-- of the room for two parts, that for each
pub room_first : (a : Filled) (x y : List ℕ) → HasRoom a (x ++ y) → HasRoom a x
room_first a x y room = omega (arith, length-append x y)

pub room_next : {a : Filled} (b : Filled) {x : List ℕ} (y : List ℕ) → HasRoom a (x ++ y) → Grows a b x → HasRoom b y
room_next b {x} y room g = omega (arith, length-append x y, g.adds.end, g.room)

-- of a list made for each number: one more, and the room for it
module _ (f : ℕ → List ℕ) (i : ℕ) {a b : Filled} (l : Grows a b (each (range 0 i) f)) where
  pub one_more : {c : Filled} → Grows b c (f i) → Grows a c (each (range 0 (i + 1)) f)
  one_more p = rw (each_last i f) (then l p)

  pub room_more : (n : ℕ) → i < n → HasRoom a (each (range 0 n) f) → HasRoom b (f i)
  room_more n h room =
      omega (
        arith,
        l.adds.end,
        l.room,
        each_part (i + 1) n f (omega arith),
        ap length (each_last i f),
        length-append (each (range 0 i) f) (f i),
      )

-- ---- the loops by first block: at their end, and in their turns
pub word_done : {a b : Filled} (kind word third other another second outcome f : ℕ) → f ≡ 64
    → Grows a b (each (range 0 f) (turn_bytes kind word third other another second outcome))
    → Grows a b (word_bytes kind word third other another second outcome)
unfolding word_bytes
word_done kind word third other another second outcome f e g = rw e at g

module _ (s : Second) (f : ℕ) (below : f < 64) {a b : Filled} where
  module _ (assigned : ℕ) (l : Grows a b (each (range 0 f) (assignments_of s assigned))) where
    abbrev assignment : List ℕ
    assignment = 1 ∷ f ∷ s.variable ∷ s.block ∷ way_number s.outcome ∷ []

    no_other : assignments_of s assigned f ≡ cond (bit assigned f) assignment []
    no_other = rw (bit_none f, append-nil)

    pub assignment_room : HasRoom a (assignments s assigned) → bit assigned f ≡ true → {e : List ℕ} → e ≡ assignment
        → HasRoom b e
    unfolding word_bytes
    assignment_room room on is =
        let each_room = room_more (assignments_of s assigned) f l 64 below room in
        rw is (rw (no_other, on) at each_room)

    pub assignment_more : (c : Filled) → Grows b c (cond (bit assigned f) assignment [])
        → Grows a c (each (range 0 (f + 1)) (assignments_of s assigned))
    assignment_more c g = one_more (assignments_of s assigned) f l (rw no_other g)

  module _ (jump fall : ℕ) (l : Grows a b (each (range 0 f) (edges_of s jump fall)))
      (room : HasRoom a (edges s jump fall)) where
    abbrev edge : ℕ → List ℕ
    edge way = 2 ∷ f ∷ way ∷ s.block ∷ way_number s.outcome ∷ []

    both_room : HasRoom b (edges_of s jump fall f)
    unfolding word_bytes
    both_room = room_more (edges_of s jump fall) f l 64 below room

    pub jump_room : bit jump f ≡ true → {e : List ℕ} → e ≡ edge 1 → HasRoom b e
    jump_room on is =
        let r : HasRoom b (cond (bit jump f) (edge 1) []) = room_first b _ _ both_room in
        rw is (rw on at r)

    pub fall_room : (c : Filled) → Grows b c (cond (bit jump f) (edge 1) []) → bit fall f ≡ true → {e : List ℕ}
        → e ≡ edge 2 → HasRoom c e
    fall_room c g on is =
        let r : HasRoom c (cond (bit fall f) (edge 2) []) = room_next c _ both_room g in
        rw is (rw on at r)

    pub edge_more : {c : Filled} (d : Filled) → Grows b c (cond (bit jump f) (edge 1) [])
        → Grows c d (cond (bit fall f) (edge 2) []) → Grows a d (each (range 0 (f + 1)) (edges_of s jump fall))
    edge_more d p q = one_more (edges_of s jump fall) f l (then p q)
