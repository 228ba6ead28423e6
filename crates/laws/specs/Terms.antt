-- The terms that the trusted definitions of the crates above are made of: membership, lists with a test, a list for
-- each entry, numbers in a row, tests for some number or some entry, pairs in order, the choice of heaviest or lightest
-- (request A1), sets as numbers. Definitions only; their laws are in Tests, Lists, Orders and Sets.
use Rattle.std.specs.Prelude.{◌≡◌, ◌⊎◌, Bool, true, false, not, cond, ◌||◌, ◌&&◌, List, [], ◌∷◌, ◌++◌, ℕ, zero, suc, ◌+◌, ◌*◌, ◌/◌, ◌%◌, ◌^◌, eqb, ltb}

module _ {A : Type 0} where
  -- x stands in the list
  abbrev pub Mem : A → List A → Type 0
  Mem x [] = ⊥
  Mem x (y ∷ l) = (x ≡ y) ⊎ Mem x l

  -- the entries with the test, in order
  abbrev pub only : (A → Bool) → List A → List A
  only f [] = []
  only f (x ∷ l) = cond (f x) (x ∷ only f l) (only f l)

  -- a list for each entry, one after another
  abbrev pub each : {B : Type 0} → List A → (A → List B) → List B
  each [] f = []
  each (x ∷ l) f = f x ++ each l f

  -- for some entry of the list
  abbrev pub any_of : (A → Bool) → List A → Bool
  any_of f [] = false
  any_of f (x ∷ l) = f x || any_of f l

  -- each entry stands before the later ones
  abbrev pub Sorted : (A → A → Bool) → List A → Type 0
  Sorted bf [] = Unit {0}
  Sorted bf (x ∷ l) = ((y : A) → Mem y l → bf x y ≡ true) × Sorted bf l

-- the n numbers from a on
abbrev pub range : ℕ → ℕ → List ℕ
range a zero = []
range a (suc n) = a ∷ range (suc a) n

-- for some i below n
abbrev pub any : ℕ → (ℕ → Bool) → Bool
any zero f = false
any (suc n) f = f zero || any n (λ i. f (suc i))

-- i < j, by clauses that compute
abbrev pub before : ℕ → ℕ → Bool
before zero zero = false
before zero (suc j) = true
before (suc i) zero = false
before (suc i) (suc j) = before i j

-- by a first test, and where it says neither, by a second: a before b, b before a, the rest
abbrev pub next : Bool → Bool → Bool → Bool
next a b c = a || (not b && c)

-- pairs, by their first parts, then by their second
module _ {A B : Type 0} (lt : A → A → Bool) (mt : B → B → Bool) where
  abbrev pub pairb : A × B → A × B → Bool
  pairb p q = next (lt p.0 q.0) (lt q.0 p.0) (mt p.1 q.1)

-- a weight is preferred to a lighter one
abbrev pub heavier : ℕ → ℕ → Bool
heavier a b = ltb b a

-- a weight is preferred to a heavier one
abbrev pub lighter : ℕ → ℕ → Bool
lighter a b = ltb a b

-- the choice: false is of the heaviest, true of the lightest
abbrev pub Choice : Type 0
Choice = Bool

abbrev pub heaviest : Choice
heaviest = false

abbrev pub lightest : Choice
lightest = true

-- which of two weights is preferred
abbrev pub preferred : Choice → ℕ → ℕ → Bool
preferred false = heavier
preferred true = lighter

-- of two values, one for each choice, the chosen one
abbrev pub chosen : {A : Type 0} → Choice → A × A → A
chosen false v = v.0
chosen true v = v.1

-- ---- sets of small numbers as numbers

abbrev pub digit : Bool → ℕ
digit true = 1
digit false = 0

abbrev pub odd : ℕ → Bool
odd x = eqb (x % 2) 1

-- bit k of x: whether k is in the set x
unfoldable pub bit : ℕ → ℕ → Bool
bit x k = odd (x / 2 ^ k)

-- the set of the k below n with f k: the sum of their 2 ^ k, lowest first
unfoldable pub set_of : ℕ → (ℕ → Bool) → ℕ
set_of zero f = 0
set_of (suc n) f = set_of n (λ k. f (suc k)) * 2 + digit (f 0)
