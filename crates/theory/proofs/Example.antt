-- The worked example of document 01: its list, routes, rows, weights, route bytes, walked and kept, by computation.
-- Rests on Route, Row, RunWide and form's Conflict.
use Rattle.std.specs.Prelude.{◌≡◌, refl, Bool, true, false, cond, List, [], ◌∷◌, map, ℕ, eqb, ℤ, pos}
use Rattle.std.proofs.Common.{ap, ◌∙◌, arith, ne_eqb, SFits}
use Rattle.std.proofs.Math.Option.{none, some}
use Rattle.std.specs.Int.{w32}
use Rattle.laws.specs.Terms.{Choice, heaviest, lightest, preferred, range, set_of}
use Rattle.form.specs.declared.Body.{Body}
use Rattle.form.specs.declared.Block.{Block}
use Rattle.form.specs.declared.Effect.{Effect}
use Rattle.form.specs.Conflict.{Pair, block, effects_below, effects_of, touches, last_on, exits, is_test, condition}
use Rattle.form.specs.Conflict.{contradict, opposes, denies, clean, assigned, crossed, pairs_of, conflicts}
use Rattle.form.specs.Conflict.{conflict_bytes, listed}
use Rattle.theory.specs.Route.{step_cost, paths, conflict, tails, routes, weight, best, weighed, best_route}
use Rattle.theory.specs.Route.{side_of, route_on, way_of, route_bytes, beginnings, walked}
use Rattle.theory.specs.Row.{Entry, bare, open_edges, add_key, keys, row_of, open_sets, open_tails, left_by, row}
use Rattle.theory.specs.Row.{longest, kept, highest, crowded}
use Rattle.theory.specs.Run.{State, Does, Iteration}
use Rattle.theory.specs.Run.Do.{done, does}
use Rattle.theory.specs.Run.Iteration.{ends, goes}
use Rattle.theory.proofs.runs.RunWide.{go_left, test_left}

-- cost, number of effects, jump
abbrev goes_to : ℕ → ℕ → ℕ → Block
goes_to cost effects jump =
    record {
      cost = cost;
      ending = 1;
      jump = jump;
      fall = 0;
      variable = 0;
      relation = 0;
      constant = pos 0;
      effects = effects;
    }

-- cost, variable, relation, constant, jump, fall
abbrev asks : ℕ → ℕ → ℕ → ℤ → ℕ → ℕ → Block
asks cost variable relation constant jump fall =
    record {
      cost = cost;
      ending = 3;
      jump = jump;
      fall = fall;
      variable = variable;
      relation = relation;
      constant = constant;
      effects = 0;
    }

abbrev sets : ℕ → ℤ → Effect
sets variable constant = record { variable = variable; how = 1; constant = constant }

abbrev pub example : Body
example = record {
  counter = record { initial = pos 0; step = pos 1; relation = 2; limit = pos 10 };
  count = 8;
  blocks =
      asks 7 0 3 (pos 40) 2 1 ∷ goes_to 3 1 3 ∷ goes_to 11 1 3 ∷ asks 2 0 2 (pos 20) 4 5 ∷ goes_to 25 0 5 ∷ asks 4 1 0
      (pos 0) 7 6 ∷ goes_to 18 0 7
      ∷ record { cost = 1; ending = 0; jump = 0; fall = 0; variable = 0; relation = 0; constant = pos 0; effects = 0 }
      ∷ [];
  total = 2;
  effects = sets 1 (pos 0) ∷ sets 1 (pos 1) ∷ [];
}

pub list : conflict_bytes example ≡ 2 ∷ 0 ∷ 1 ∷ 3 ∷ 1 ∷ 1 ∷ 2 ∷ 1 ∷ 5 ∷ 1 ∷ 1 ∷ 1 ∷ 1 ∷ 5 ∷ 2 ∷ []
unfolding block effects_below effects_of touches last_on exits is_test condition contradict opposes denies clean assigned
    crossed pairs_of conflicts conflict_bytes
list = refl

abbrev pairs : List Pair
pairs =
    record { kind = 2; first = 0; third = 1; second = 3; outcome = 1 }
    ∷ record { kind = 1; first = 2; third = 1; second = 5; outcome = 1 }
    ∷ record { kind = 1; first = 1; third = 1; second = 5; outcome = 2 } ∷ []

pub pairs_are : conflicts example ≡ pairs
unfolding block effects_below effects_of touches last_on exits is_test condition contradict opposes denies clean assigned
    crossed pairs_of conflicts
pairs_are = refl

-- the three conflict-free routes, in order
pub routes_are : routes example
    ≡ ((0, 1) ∷ (2, 1) ∷ (3, 2) ∷ (5, 2) ∷ (6, 1) ∷ [])
    ∷ ((0, 2) ∷ (1, 1) ∷ (3, 1) ∷ (4, 1) ∷ (5, 1) ∷ [])
    ∷ ((0, 2) ∷ (1, 1) ∷ (3, 2) ∷ (5, 1) ∷ []) ∷ []
unfolding block effects_below effects_of touches last_on exits is_test condition contradict opposes denies paths conflict
    tails
routes_are = refl

-- with their weights, and the best of them by any preference
best_by_lem : (prefers : ℕ → ℕ → Bool) → best_route example (step_cost example) prefers
    ≡ best prefers ((43, (0, 1) ∷ (2, 1) ∷ (3, 2) ∷ (5, 2) ∷ (6, 1) ∷ [])
    ∷ (42, (0, 2) ∷ (1, 1) ∷ (3, 1) ∷ (4, 1) ∷ (5, 1) ∷ [])
    ∷ (17, (0, 2) ∷ (1, 1) ∷ (3, 2) ∷ (5, 1) ∷ []) ∷ [])
unfolding best_route weight block
best_by_lem prefers = ap (λ l. best prefers (map (weighed example (step_cost example)) l)) routes_are

-- the heaviest, and its bytes
pub best_is : route_on example (side_of example heaviest) ≡ some (43, (0, 1) ∷ (2, 1) ∷ (3, 2) ∷ (5, 2) ∷ (6, 1) ∷ [])
unfolding best
best_is = best_by_lem (preferred heaviest)

pub bytes_are : route_bytes example ((0, 1) ∷ (2, 1) ∷ (3, 2) ∷ (5, 2) ∷ (6, 1) ∷ []) ≡ 1 ∷ 0 ∷ 1 ∷ 2 ∷ 0 ∷ 2 ∷ 1 ∷ 3
    ∷ []
unfolding route_bytes way_of
bytes_are = refl

-- the lightest, and its bytes
pub least_is : route_on example (side_of example lightest) ≡ some (17, (0, 2) ∷ (1, 1) ∷ (3, 2) ∷ (5, 1) ∷ [])
unfolding best
least_is = best_by_lem (preferred lightest)

pub least_bytes_are : route_bytes example ((0, 2) ∷ (1, 1) ∷ (3, 2) ∷ (5, 1) ∷ []) ≡ 2 ∷ 1 ∷ 0 ∷ 2 ∷ 0 ∷ 1 ∷ 0 ∷ 3 ∷ []
unfolding route_bytes way_of
least_bytes_are = refl

pub walked_is : walked example ≡ 13
unfolding block effects_below effects_of touches last_on exits is_test condition contradict opposes denies conflict
    beginnings walked
walked_is = refl

abbrev row_at : Choice → ℕ → List Entry
row_at choice b = row example pairs (step_cost example) (preferred choice) b

abbrev entry : ℕ → ℕ → ℕ → ℕ → ℕ → Entry
entry jumps falls weight jumped fallen =
    record { jumps = jumps; falls = falls; weight = weight; jumped = jumped; fallen = fallen }

-- all eight rows of the heaviest, block 0 first
pub rows_are : map (row_at heaviest) (range 0 8)
    ≡ (entry 0 0 43 69 40 ∷ [])
    ∷ (entry 0 0 10 34 8 ∷ entry 8 0 35 58 0 ∷ [])
    ∷ (entry 0 0 36 68 40 ∷ entry 8 0 61 92 32 ∷ [])
    ∷ (entry 0 32 25 64 40 ∷ entry 8 32 50 88 32 ∷ entry 32 0 7 32 8 ∷ entry 40 0 32 56 0 ∷ [])
    ∷ (entry 0 32 48 80 32 ∷ entry 32 0 30 48 0 ∷ [])
    ∷ (entry 0 32 23 64 32 ∷ entry 32 0 5 32 0 ∷ [])
    ∷ (entry 0 0 19 64 0 ∷ [])
    ∷ (entry 0 0 1 0 0 ∷ []) ∷ []
unfolding block effects_below effects_of touches last_on exits is_test condition contradict opposes denies conflict paths
    tails weight best listed bare open_edges add_key keys row_of open_tails left_by row set_of
rows_are = refl

-- row 0 of the lightest
pub least_row_is : row_at lightest 0 ≡ entry 0 0 17 34 9 ∷ []
unfolding block effects_below effects_of touches last_on exits is_test condition contradict opposes denies conflict paths
    tails weight best listed bare open_edges add_key keys row_of open_tails left_by row set_of
least_row_is = refl

four_at_most : longest (open_sets example pairs) 8 ≡ 4
unfolding block effects_below effects_of touches last_on exits is_test condition contradict opposes denies conflict paths
    tails listed bare open_edges add_key keys open_sets set_of longest
four_at_most = refl

pub kept_is : kept example ≡ 4
unfolding kept
kept_is = ap (λ l. longest (open_sets example l) 8) pairs_are ∙ four_at_most

none_crowded : highest (open_sets example pairs) 8 ≡ none
unfolding block effects_below effects_of touches last_on exits is_test condition contradict opposes denies conflict paths
    tails listed bare open_edges add_key keys open_sets set_of highest
none_crowded = refl

pub crowded_is : crowded example ≡ none
unfolding crowded
crowded_is = ap (λ l. highest (open_sets example l) 8) pairs_are ∙ none_crowded

-- ---- a body whose lightest path, of weight 3, and whose heaviest, of weight 23, have a conflict, and whose two routes
-- weigh the same: x >= 5 in block 0, x < 5 in block 2, and nothing between

abbrev struck : Body
struck = record {
  counter = record { initial = pos 0; step = pos 1; relation = 2; limit = pos 10 };
  count = 5;
  blocks =
      asks 1 0 3 (pos 5) 2 1 ∷ goes_to 10 0 2 ∷ asks 1 0 2 (pos 5) 4 3 ∷ goes_to 10 0 4
      ∷ record { cost = 1; ending = 0; jump = 0; fall = 0; variable = 0; relation = 0; constant = pos 0; effects = 0 }
      ∷ [];
  total = 0;
  effects = [];
}

pub all_weights : map (weight (step_cost struck) 4) (paths struck 5 0) ≡ 3 ∷ 13 ∷ 13 ∷ 23 ∷ []
unfolding paths exits block weight
all_weights = refl

-- by either choice the first of the two
pub first_of_equals : (choice : Choice)
    → route_on struck (side_of struck choice) ≡ some (13, (0, 1) ∷ (2, 2) ∷ (3, 1) ∷ [])
unfolding block effects_below effects_of touches last_on exits is_test condition contradict opposes denies paths conflict
    tails weight best best_route
first_of_equals false = refl
first_of_equals true = refl

-- an iteration that starts with 50 in every variable takes the heaviest route
abbrev fifty : State
fifty = record { value = λ v. pos 50; fits = λ v. record { sfits = omega arith } }

abbrev flagged : State
flagged = record { value = λ v. cond (eqb v 1) (pos 1) (pos 50); fits = λ v. by (eqb v 1) }
  where
    by : (c : Bool) → SFits w32 (cond c (pos 1) (pos 50))
    by true = record { sfits = omega arith }
    by false = record { sfits = omega arith }

flag : Does (sets 1 (pos 1)) fifty flagged
flag = record { constant = λ h. refl; others = λ v n. ap (λ c. cond c (pos 1) (pos 50)) (ne_eqb v 1 n) }

pub iteration : Iteration example 0 fifty ((0, 1) ∷ (2, 1) ∷ (3, 2) ∷ (5, 2) ∷ (6, 1) ∷ []) flagged
unfolding block effects_below effects_of
iteration =
    goes (1, 2) done ((test_left example 0 fifty (1, 2) refl).1 refl)
    (goes (1, 3) (does flag done) ((go_left example 2 flagged (1, 3) refl).1 refl)
    (goes (2, 5) done ((test_left example 3 flagged (2, 5) refl).1 refl)
    (goes (2, 6) done ((test_left example 5 flagged (2, 6) refl).1 refl)
    (goes (1, 7) done ((go_left example 6 flagged (1, 7) refl).1 refl)
    (ends refl done)))))
