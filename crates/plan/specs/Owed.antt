-- What a call owes that reads a form and asks for its loop count, after document 01, 'Refusal numbers' and 'Counted
-- loops'; an answer in document 01's numbers, with those of request A1; and what both ways answer where there are
-- routes. Trusted: definitions only. Rests on form's Form (what the reader says, and the body) and Counter (the count)
-- and on theory's Route (a route's bytes, the bound).
use Rattle.std.specs.Prelude.{◌≡◌, List, ◌++◌, ℕ, ◌*◌, take, drop}
use Rattle.laws.specs.Terms.{Choice, chosen}
use Rattle.form.specs.declared.Body.{Body}
use Rattle.form.specs.declared.Counter.{Counter}
use Rattle.form.specs.Said.{Accepted, Refused}
use Rattle.form.specs.Form.{judge, body_of}
use Rattle.form.specs.Counter.{Count}
use Rattle.theory.specs.Route.{Routes, bound_of, route_bytes}

-- k is the loop count of the counter
abbrev pub CountOf : Counter → ℕ → Type 0
CountOf counter k = Count counter.initial counter.step counter.relation counter.limit k

-- The form's refusal (10 to 19); else 20 at 0 where no count exists; else what is owed with the count. `refused` makes
-- an outcome of a refusal's number and place.
pub data Owed {A : Type 0} (s : List ℕ) (refused : (number place : ℕ) → A) (with : (count : ℕ) → A)
    (outcome : A) : Type 0 where
  no_form : (number place : ℕ) → judge s ≡ Refused number place → outcome ≡ refused number place
      → Owed s refused with outcome
  no_count : judge s ≡ Accepted → ((k : ℕ) → CountOf (body_of s).counter k → ⊥) → outcome ≡ refused 20 0
      → Owed s refused with outcome
  counted : judge s ≡ Accepted → (k : ℕ) → CountOf (body_of s).counter k → outcome ≡ with k
      → Owed s refused with outcome

-- ---- an answer in document 01's numbers

-- Number 0 is no refusal; of a refusal every other number but the place is zero. The weight of the heaviest route and
-- the count times it, that of the lightest and the count times it. The sweep answers kept, the full walk walked.
pub record Values : Type 0 where
  pub number : ℕ
  pub place : ℕ
  pub iterations : ℕ
  pub weight : ℕ
  pub bound : ℕ
  pub least : ℕ
  pub least_total : ℕ
  pub kept_or_walked : ℕ

abbrev pub refusal : (number place : ℕ) → Values
refusal number place = record {
  number = number;
  place = place;
  iterations = 0;
  weight = 0;
  bound = 0;
  least = 0;
  least_total = 0;
  kept_or_walked = 0;
}

abbrev pub answered : (iterations weight bound least least_total kept_or_walked : ℕ) → Values
answered iterations weight bound least least_total kept_or_walked = record {
  number = 0;
  place = 0;
  iterations = iterations;
  weight = weight;
  bound = bound;
  least = least;
  least_total = least_total;
  kept_or_walked = kept_or_walked;
}

-- The weight of the choice, and the count times it.
abbrev pub weight_in : Choice → Values → ℕ
weight_in choice v = chosen choice (v.weight, v.least)

abbrev pub total_in : Choice → Values → ℕ
total_in choice v = chosen choice (v.bound, v.least_total)

-- ---- where there are routes: the heaviest and the lightest

abbrev pub routed_values : (count : ℕ) → Routes → (kept_or_walked : ℕ) → Values
routed_values count v kept_or_walked =
    answered count v.0.0 (bound_of count v.0.0) v.1.0 (bound_of count v.1.0) kept_or_walked

-- How many bytes both routes have.
abbrev pub bytes_needed : Body → ℕ
bytes_needed body = 2 * body.count

-- The lent bytes after it: the heaviest route's first, then the lightest's; those past them are unchanged.
abbrev pub routed_bytes : Body → Routes → List ℕ → List ℕ
routed_bytes body v lent = route_bytes body v.0.1 ++ (route_bytes body v.1.1 ++ drop (bytes_needed body) lent)

-- The bytes of the choice's route among them, of n blocks.
abbrev pub route_in : Choice → (n : ℕ) → List ℕ → List ℕ
route_in choice n held = chosen choice (take n held, take n (drop n held))
