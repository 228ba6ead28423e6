-- The promises of the exported calls leave one answer and one content of the lent memory. Rests on numbers' Answer, the
-- counter's Uniqueness and the walks' `owed_once`.
use Rattle.std.specs.Prelude.{List, ◌≡◌, ℕ, ℤ, length}
use Rattle.std.proofs.Common.{sym, ◌∙◌}
use Rattle.counter.specs.Answer.{Owed}
use Rattle.counter.specs.Uniqueness.{owed_once}
use Rattle.form.specs.Form.{judge, body_of}
use Rattle.form.specs.Conflict.{conflict_bytes}
use Rattle.laws.specs.Terms.{digit}
use Rattle.pair.specs.Pair.{conflicting}
use Rattle.listing.specs.Answer as Conflict
use Rattle.theory.specs.Route.{side_of}
use Rattle.plan.specs.Accepted as Routes
use Rattle.walk.specs.Answer as Walk
use Rattle.entries.specs.declared.Entry.{Entry}
use Rattle.sweep_steps.specs.Answer as Sweep
use Rattle.numbers.specs.declared.CountAnswer.{CountAnswer}
use Rattle.numbers.specs.declared.FormAnswer.{FormAnswer}
use Rattle.numbers.specs.declared.ListNumbers.{ListNumbers}
use Rattle.numbers.specs.declared.SweepNumbers.{SweepNumbers}
use Rattle.numbers.specs.declared.WalkNumbers.{WalkNumbers}
use Rattle.numbers.specs.Answer.{verdict_answer, rewrite_answer, rewrite_held, count_values, list_numbers, walk_values, swept_outcome, OwnSweepOwed}

pub one_count :
    (initial step : ℤ) (relation : ℕ) (limit : ℤ) (a b : CountAnswer) → Owed initial step relation limit (count_values a)
    → Owed initial step relation limit (count_values b) → a ≡ b
one_count initial step relation limit a b o p =
    let e = owed_once initial step relation limit (count_values a) (count_values b) o p in
    λ i. record { number = (e i).number; place = (e i).place; iterations = (e i).iterations }

pub one_verdict : (form : List ℕ) (a b : FormAnswer) → a ≡ verdict_answer (judge form) → b ≡ verdict_answer (judge form)
    → a ≡ b
one_verdict form a b p q = p ∙ sym q

pub one_rewrite :
    (form out held held' : List ℕ) (a b : FormAnswer)
    → (a ≡ rewrite_answer form (length out)) × (held ≡ rewrite_held form out)
    → (b ≡ rewrite_answer form (length out)) × (held' ≡ rewrite_held form out) → (a ≡ b) × (held ≡ held')
one_rewrite form out held held' a b (p, q) (r, s) = (p ∙ sym r, q ∙ sym s)

pub one_pair :
    (relation1 : ℕ) (constant1 : ℤ) (relation2 : ℕ) (constant2 : ℤ) (a b : ℕ)
    → a ≡ digit (conflicting relation1 constant1 relation2 constant2)
    → b ≡ digit (conflicting relation1 constant1 relation2 constant2) → a ≡ b
one_pair relation1 constant1 relation2 constant2 a b p q = p ∙ sym q

pub one_list :
    (form out held held' : List ℕ) (a b : ListNumbers)
    → (a ≡ list_numbers (Conflict.listing form (length out)))
    × (held ≡ Conflict.held_after (Conflict.listing form (length out)) (conflict_bytes (body_of form)) out)
    → (b ≡ list_numbers (Conflict.listing form (length out)))
    × (held' ≡ Conflict.held_after (Conflict.listing form (length out)) (conflict_bytes (body_of form)) out)
    → (a ≡ b) × (held ≡ held')
one_list form out held held' a b (p, q) (r, s) = (p ∙ sym r, q ∙ sym s)

pub one_walk :
    (form : List ℕ) (budget : ℕ) (route held held' : List ℕ) (a b : WalkNumbers)
    → Walk.WalkOwed form budget route (walk_values a, held)
    → Walk.WalkOwed form budget route (walk_values b, held') → (a ≡ b) × (held ≡ held')
one_walk form budget route held held' a b o p =
    let e =
    Routes.owed_once form (Walk.refused route) (Walk.walk_outcome (body_of form) (side_of (body_of form)) budget route)
    (walk_values a, held) (walk_values b, held') o p in (
      (λ i.
          record {
            number = (e i).0.number;
            place = (e i).0.place;
            iterations = (e i).0.iterations;
            weight = (e i).0.weight;
            bound = (e i).0.bound;
            least = (e i).0.least;
            least_total = (e i).0.least_total;
            walked = (e i).0.kept_or_walked;
          }),
      (λ i. (e i).1),
    )

pub one_sweep_table :
    (form route held held' : List ℕ) (table rows rows' : List Entry) (a b : SweepNumbers)
    → Sweep.SweepOwed form route table (swept_outcome a held rows)
    → Sweep.SweepOwed form route table (swept_outcome b held' rows') → (a ≡ b) × ((held ≡ held') × (rows ≡ rows'))
one_sweep_table form route held held' table rows rows' a b o p =
    let e =
    Routes.owed_once form (Sweep.refused route table)
    (Sweep.sweep_outcome (body_of form) (side_of (body_of form)) route table) (swept_outcome a held rows)
    (swept_outcome b held' rows') o p in (
      (λ i.
          record {
            number = (e i).values.number;
            place = (e i).values.place;
            iterations = (e i).values.iterations;
            weight = (e i).values.weight;
            bound = (e i).values.bound;
            least = (e i).values.least;
            least_total = (e i).values.least_total;
            kept = (e i).values.kept_or_walked;
          }),
      ((λ i. (e i).route), (λ i. (e i).table)),
    )

pub one_sweep :
    (form route held held' : List ℕ) (a b : SweepNumbers) → OwnSweepOwed form route a held
    → OwnSweepOwed form route b held' → (a ≡ b) × (held ≡ held')
one_sweep form route held held' a b (rows, o) (rows', p) =
    let same = one_sweep_table form route held held' Sweep.own_table rows rows' a b o p in
    (same.0, same.1.0)
