-- Rows, after document 01, 'Sweep': a tail's open edges, the different sets of them, the row of a block, kept and
-- crowded. Trusted: definitions only. Rests on Route and form's Conflict.
use Rattle.std.specs.Prelude.{Bool, not, cond, true, false, ◌||◌, ◌&&◌, List, [], ◌∷◌, ◌++◌, map, ℕ, zero, suc, max, ltb, length, take, replicate}
use Rattle.std.proofs.Math.Option.{Option, none, some}
use Rattle.laws.specs.Terms.{any, any_of, each, only, pairb, set_of}
use Rattle.form.specs.declared.Body.{Body}
use Rattle.form.specs.Conflict.{Edge, Pair, condition, touches, same, listed, conflicts}
use Rattle.theory.specs.Route.{Path, at, tails, weighed, best}

-- ---- open edges

-- The edge e is in the tail, and no block of it up to e's, both included, has an effect on e's variable.
unfoldable pub bare : Body → Path → Edge → Bool
bare body p e =
    any (length p) (λ j. same (at p j) e
    && not (any (suc j) (λ i. touches body (at p i).0 (condition body e).variable)))

-- The open edges of a tail of b: those left by jump and those left by fall, each as a set of blocks (bit k: block k).
abbrev pub Key : Type 0
Key = ℕ × ℕ

unfoldable pub open_edges : Body → List Pair → ℕ → Path → Key
open_edges body list b p = (
  set_of body.count (λ k. bare body p (k, 1) && listed list b (k, 1)),
  set_of body.count (λ k. bare body p (k, 2) && listed list b (k, 2)),
)

-- By the jump set, then by the fall set.
abbrev pub key_before : Key → Key → Bool
key_before = pairb ltb ltb

-- ---- different keys, in order

module _ {K : Type 0} where
  -- The tests: the new key is before x, after x.
  abbrev pub place_key : Bool → Bool → K → K → List K → List K → List K
  place_key true after k x r rest = k ∷ x ∷ r
  place_key false true k x r rest = x ∷ rest
  place_key false false k x r rest = x ∷ r

  module _ (lt : K → K → Bool) where
    unfoldable pub add_key : K → List K → List K
    add_key k [] = k ∷ []
    add_key k (x ∷ r) = place_key (lt k x) (lt x k) k x r (add_key k r)

    -- The different keys of a list, ascending.
    unfoldable pub keys : List K → List K
    keys [] = []
    keys (k ∷ l) = add_key k (keys l)

    abbrev pub of_key : {B : Type 0} → K → List (K × B) → List B
    of_key k l = map (λ e. e.1) (only (λ e. not (lt e.0 k || lt k e.0)) l)

abbrev pub found : {K B : Type 0} → K → Option B → List (K × B)
found k none = []
found k (some v) = (k, v) ∷ []

-- For each different key, ascending, the first of those of the preferred weight.
unfoldable pub row_of : {K B : Type 0} → (K → K → Bool) → (prefers : ℕ → ℕ → Bool) → List (K × (ℕ × B))
    → List (K × (ℕ × B))
row_of lt prefers l = each (keys lt (map (λ e. e.0) l)) (λ k. found k (best prefers (of_key lt k l)))

-- ---- the rows of a body

-- The different sets of open edges of the tails of b, ascending: row b has one entry for each.
unfoldable pub open_sets : Body → List Pair → ℕ → List Key
open_sets body list b = keys key_before (map (open_edges body list b) (tails body b))

-- Each tail of b with its open edges and its weight.
unfoldable pub open_tails : Body → List Pair → (cost : ℕ → ℕ → ℕ) → ℕ → List (Key × (ℕ × Path))
open_tails body list cost b = map (λ p. (open_edges body list b p, weighed body cost p)) (tails body b)

-- Jump set, fall set, weight, the blocks left by jump or go, the blocks left by fall.
pub record Entry : Type 0 where
  pub jumps : ℕ
  pub falls : ℕ
  pub weight : ℕ
  pub jumped : ℕ
  pub fallen : ℕ

-- The blocks that a path leaves by the way, as a set.
unfoldable pub left_by : Body → ℕ → Path → ℕ
left_by body way p = set_of body.count (λ k. any_of (λ x. same x (k, way)) p)

abbrev pub entry_of : Body → Key × (ℕ × Path) → Entry
entry_of body e = record {
  jumps = e.0.0;
  falls = e.0.1;
  weight = e.1.0;
  jumped = left_by body 1 e.1.1;
  fallen = left_by body 2 e.1.1;
}

-- Row b.
unfoldable pub row : Body → List Pair → (cost : ℕ → ℕ → ℕ) → (prefers : ℕ → ℕ → Bool) → ℕ → List Entry
row body list cost prefers b = map (entry_of body) (row_of key_before prefers (open_tails body list cost b))

-- Row b as it stands in the table: the rest of its 64 entries is zero.
abbrev pub no_entry : Entry
no_entry = record { jumps = 0; falls = 0; weight = 0; jumped = 0; fallen = 0 }

abbrev pub filled : List Entry → List Entry
filled r = take 64 (r ++ replicate 64 no_entry)

-- ---- how many sets there are, whatever is preferred and whatever a step costs

-- The longest of the rows of the blocks below n.
unfoldable pub longest : {A : Type 0} → (rows : ℕ → List A) → ℕ → ℕ
longest rows zero = 0
longest rows (suc n) = max (length (rows n)) (longest rows n)

-- Kept = the longest row.
unfoldable pub kept : Body → ℕ
kept body = longest (open_sets body (conflicts body)) body.count

-- The highest block below n whose row has more than 64 entries.
unfoldable pub highest : {A : Type 0} → (rows : ℕ → List A) → ℕ → Option ℕ
highest rows zero = none
highest rows (suc n) = cond (ltb 64 (length (rows n))) (some n) (highest rows n)

-- The highest block with more than 64 sets, if there is one.
unfoldable pub crowded : Body → Option ℕ
crowded body = highest (open_sets body (conflicts body)) body.count
