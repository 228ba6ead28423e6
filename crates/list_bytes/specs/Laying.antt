-- The bytes of an entry, of a word and of an edge; those of a turn by its tests, and an edge's of its two parts. Rests
-- on lent's Adding.
use Rattle.std.specs.Prelude.{◌≡◌, refl, Bool, cond, List, [], ◌∷◌, ◌++◌, ℕ, suc, ◌+◌, length, set}
use Rattle.std.proofs.Common.{sym, arith}
use Rattle.std.proofs.Math.ListN.{length-append}
use Rattle.lent.specs.Adding.{Adds, then}
use Rattle.laws.specs.Terms.{bit, each, range}

-- five stores in a row
pub five : (l : List ℕ) (at a b c d e : ℕ)
    → Adds l at (set (set (set (set (set l at a) (at + 1) b) (at + 2) c) (at + 3) d) (at + 4) e) (at + 5)
    (a ∷ b ∷ c ∷ d ∷ e ∷ [])
five l at a b c d e = record {
  end = refl;
  holds = λ i. set (set (set (set (set l at a) (one i) b) (two i) c) (three i) d) (four i) e;
}
  where
    one : at + 1 ≡ suc at
    one = omega arith

    two : at + 2 ≡ suc (suc at)
    two = omega arith

    three : at + 3 ≡ suc (suc (suc at))
    three = omega arith

    four : at + 4 ≡ suc (suc (suc (suc at)))
    four = omega arith

-- an entry's bytes, where there is one
abbrev pub entry_bytes : Bool → (kind first third second outcome : ℕ) → List ℕ
entry_bytes on kind first third second outcome = cond on (kind ∷ first ∷ third ∷ second ∷ outcome ∷ []) []

-- by first block: the entries of one word, and beside each those of another
abbrev pub turn_bytes : (kind word third other another second outcome : ℕ) → ℕ → List ℕ
turn_bytes kind word third other another second outcome f = entry_bytes
    (bit word f) kind f third second outcome ++ entry_bytes (bit other f) kind f another second outcome

unfoldable pub word_bytes : (kind word third other another second outcome : ℕ) → List ℕ
word_bytes kind word third other another second outcome = each (range 0 64)
    (turn_bytes kind word third other another second outcome)

-- the entries of an edge: assignments, then edges
unfoldable pub edge_bytes : (assigned jump fall variable second outcome : ℕ) → List ℕ
edge_bytes assigned jump fall variable second outcome =
    word_bytes 1 assigned variable 0 0 second outcome ++ word_bytes 2 jump 1 fall 2 second outcome

-- the entries of one turn, by what the two tests answered
turn_is : (kind word third other another second outcome f : ℕ) {one two : Bool} → one ≡ bit word f → two ≡ bit other f
    → turn_bytes kind word third other another second outcome f
    ≡ entry_bytes one kind f third second outcome ++ entry_bytes two kind f another second outcome
turn_is kind word third other another second outcome f p q =
    λ i. entry_bytes (sym p i) kind f third second outcome ++ entry_bytes (sym q i) kind f another second outcome

-- the two kinds of an edge's entries
module _ (assigned jump fall variable second outcome : ℕ) where
  abbrev assignments : List ℕ
  assignments = word_bytes 1 assigned variable 0 0 second outcome

  abbrev edges : List ℕ
  edges = word_bytes 2 jump 1 fall 2 second outcome

  pub edge_length : length (edge_bytes assigned jump fall variable second outcome) ≡ length assignments + length edges
  unfolding edge_bytes
  edge_length = length-append assignments edges

  pub edge_done : {before out out' : List ℕ} {start at at' : ℕ} → Adds before start out at assignments
      → Adds out at out' at' edges
      → Adds before start out' at' (edge_bytes assigned jump fall variable second outcome)
  unfolding edge_bytes
  edge_done p q = then p q
