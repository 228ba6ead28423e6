-- Routes, after document 01, 'Conflicts and routes' and 'Full walk', and request A1: paths in the stated order,
-- conflict in a path, weight, the first of the preferred weight, by the choice of heaviest or lightest, route bytes,
-- and the number of conflict-free beginnings. Trusted: definitions only. Rests on form's Conflict.
use Rattle.std.specs.Prelude.{Bool, not, cond, ◌||◌, ◌&&◌, List, [], ◌∷◌, ◌++◌, map, ℕ, zero, suc, ◌+◌, ◌-◌, ◌*◌, eqb, get_or, length}
use Rattle.std.proofs.Math.Option.{Option, none, some}
use Rattle.laws.specs.Terms.{any, before, each, only, range, Choice, heaviest, lightest, preferred}
use Rattle.form.specs.declared.Body.{Body}
use Rattle.form.specs.Conflict.{Edge, block, exits, condition, touches, opposes, denies}

-- A path is its steps: each block with the way it is left, but for the block in which it ends.
abbrev pub Path : Type 0
Path = List Edge

abbrev pub last_block : Body → ℕ
last_block body = body.count - 1

-- The paths of at most n blocks from b to the last block, in order: where two part, jump comes before fall.
unfoldable pub paths : Body → ℕ → ℕ → List Path
paths body zero b = []
paths body (suc n) b =
    cond (eqb (suc b) body.count) ([] ∷ []) []
    ++ each (exits body b) (λ o. map (λ p. (b, o.0) ∷ p) (paths body n o.1))

-- ---- conflict in a path

abbrev pub at : Path → ℕ → Edge
at p i = get_or p i (0, 0)

-- A block after position i, up to and including position j, has an effect on the variable of the edge at j.
abbrev pub overwritten : Body → Path → ℕ → ℕ → Bool
overwritten body p i j = any (suc j) (λ k. before i k && touches body (at p k).0 (condition body (at p j)).variable)

-- An edge stands in the path, and before it an edge, or before it or in its own block a last constant, that conflicts
-- with it and is not overwritten.
unfoldable pub conflict : Body → Path → Bool
conflict body p = any (length p) (λ j.
    any j (λ i. opposes body (at p i) (at p j) && not (overwritten body p i j))
    || any (suc j) (λ i. denies body (at p i).0 (at p j) && not (overwritten body p i j)))

-- The conflict-free ways from b to the end: the routes for block 0, the tails of b for any b.
unfoldable pub tails : Body → ℕ → List Path
tails body b = only (λ p. not (conflict body p)) (paths body body.count b)

abbrev pub routes : Body → List Path
routes body = tails body 0

-- ---- weight and choice

-- What it costs to run block b and leave it by a way; the last block is left by way 0.
abbrev pub step_cost : Body → ℕ → ℕ → ℕ
step_cost body b way = (block body b).cost

-- The sum of the costs on a path that ends in the block `last`.
unfoldable pub weight : (cost : ℕ → ℕ → ℕ) → (last : ℕ) → Path → ℕ
weight cost last [] = cost last 0
weight cost last (x ∷ p) = cost x.0 x.1 + weight cost last p

module _ {B : Type 0} (prefers : ℕ → ℕ → Bool) where
  -- A later one is taken only where its weight is preferred.
  abbrev pub choose : ℕ × B → Option (ℕ × B) → Option (ℕ × B)
  choose x none = some x
  choose x (some y) = some (cond (prefers y.0 x.0) y x)

  -- Of those that none is preferred to, the first.
  unfoldable pub best : List (ℕ × B) → Option (ℕ × B)
  best [] = none
  best (x ∷ l) = choose x (best l)

abbrev pub weighed : Body → (cost : ℕ → ℕ → ℕ) → Path → ℕ × Path
weighed body cost p = (weight cost (last_block body) p, p)

-- The weight and the path of the first conflict-free route of the preferred weight, if there is a route.
unfoldable pub best_route : Body → (cost : ℕ → ℕ → ℕ) → (prefers : ℕ → ℕ → Bool) → Option (ℕ × Path)
best_route body cost prefers = best prefers (map (weighed body cost) (routes body))

-- A side of the answer: which of two weights is preferred, and what a step costs.
pub record Side : Type 0 where
  pub prefers : ℕ → ℕ → Bool
  pub cost : ℕ → ℕ → ℕ

-- What a step costs, by the choice of heaviest or lightest: the same for both.
abbrev pub cost_on : Body → Choice → ℕ → ℕ → ℕ
cost_on body choice = step_cost body

-- The side of the choice: the dearest iteration's, or the cheapest's.
abbrev pub side_of : Body → Choice → Side
side_of body choice = record { prefers = preferred choice; cost = cost_on body choice }

abbrev pub route_on : Body → Side → Option (ℕ × Path)
route_on body side = best_route body side.cost side.prefers

-- Two, where there are both.
abbrev pub both_of : {A : Type 0} → Option A → Option A → Option (A × A)
both_of none y = none
both_of (some x) none = none
both_of (some x) (some y) = some (x, y)

-- The route of the heaviest side and that of the lightest, where there are both: none where no path is free of conflict
-- (Best.no-routes).
abbrev pub Routes : Type 0
Routes = (ℕ × Path) × (ℕ × Path)

abbrev pub routes_on : Body → (Choice → Side) → Option Routes
routes_on body sides = both_of (route_on body (sides heaviest)) (route_on body (sides lightest))

-- Count times weight: the bound of the heaviest, the least total of the lightest.
abbrev pub bound_of : (count weight : ℕ) → ℕ
bound_of count weight = count * weight

-- ---- route bytes: 0 not on it, 1 left by jump or go, 2 by fall, 3 the last block

unfoldable pub way_of : ℕ → Path → ℕ
way_of b [] = 0
way_of b (x ∷ p) = cond (eqb x.0 b) x.1 (way_of b p)

unfoldable pub route_bytes : Body → Path → List ℕ
route_bytes body p = map (λ b. cond (eqb (suc b) body.count) 3 (way_of b p)) (range 0 body.count)

-- ---- walked

-- The beginnings, of at most n blocks, of the paths from b; that of b alone is first.
unfoldable pub beginnings : Body → ℕ → ℕ → List Path
beginnings body zero b = []
beginnings body (suc n) b = [] ∷ each (exits body b) (λ o. map (λ p. (b, o.0) ∷ p) (beginnings body n o.1))

-- The number of conflict-free beginnings of routes.
unfoldable pub walked : Body → ℕ
walked body = length (only (λ p. not (conflict body p)) (beginnings body body.count 0))
