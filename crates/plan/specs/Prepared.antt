-- What both ways start from, for any bytes, and what follows of it: what is owed where the start is a refusal, and
-- where it is a plan. Rests on Owed, Accepted and theory's Plan.
use Rattle.std.specs.Prelude.{◌≡◌, refl, List, ℕ, ◌<◌, Result, Ok, Err, MatchResult}
use Rattle.std.proofs.Common.{sym, ap, subst, arith}
use Rattle.form.specs.declared.Body.{Body}
use Rattle.form.specs.declared.Refusal.{Refusal}
use Rattle.form.specs.Conflict.{Sound}
use Rattle.form.specs.Said.{Accepted, Refused, number_of}
use Rattle.form.specs.Form.{judge, body_of}
use Rattle.form.specs.Answer.{reading_of, ReadAs}
use Rattle.lower_laws.specs.Loops.{count_few}
use Rattle.roundtrip.specs.Sound.{sound, well_formed}
use Rattle.roundtrip.specs.Read.{read_accepted, read_body, read_sound}
use Rattle.theory.specs.Route.{step_cost}
use Rattle.theory.specs.Plan.{Planned, PlanOf}
use Rattle.plan.specs.Owed.{CountOf, Owed}
use Rattle.plan.specs.Owed.Owed.{no_form, no_count, counted}
use Rattle.plan.specs.Accepted.{CounterOwed, cost_range, no_count_owed, count_owed}
use Rattle.plan.specs.declared.Prepared.{Prepared}

-- ---- any bytes

-- the reader's refusal, or 20 at 0 where no count exists
pub data Refuses (form : List ℕ) (number place : ℕ) : Type 0 where
  unread : judge form ≡ Refused number place → Refuses form number place
  uncounted : judge form ≡ Accepted → ((k : ℕ) → CountOf (body_of form).counter k → ⊥) → number ≡ 20 → place ≡ 0
      → Refuses form number place

-- an accepted form's body has so many blocks, this loop count and this plan
pub record Start (form : List ℕ) (count iterations : ℕ) (plan : List ℕ) : Type 0 where
  pub accepted : judge form ≡ Accepted
  pub size : (body_of form).count ≡ count
  pub counts : CountOf (body_of form).counter iterations
  pub planned : Planned (body_of form) (step_cost (body_of form)) plan

-- the plan, or why there is none
abbrev pub PreparedOf : List ℕ → Result Prepared Refusal → Type 0
PreparedOf form r = MatchResult r (λ p. Start form p.count p.iterations p.plan)
    (λ why. Refuses form (number_of why.fault) why.place)

-- ---- what is owed

module _ {A : Type 0} (form : List ℕ) (refusal : (number place : ℕ) → A) (with : (count : ℕ) → A) where
  pub refusal_owed : (number place : ℕ) → Refuses form number place → Owed form refusal with (refusal number place)
  refusal_owed number place (unread j) = no_form number place j refl
  refusal_owed number place (uncounted a never n p) = no_count a never (λ i. refusal (n i) (p i))

module _ (form : List ℕ) (count iterations : ℕ) (plan : List ℕ) (s : Start form count iterations plan) where
  pub start_owed : {A : Type 0} (refusal : (number place : ℕ) → A) (with : (count : ℕ) → A) (x : A)
      → x ≡ with iterations → Owed form refusal with x
  start_owed refusal with x e = counted s.accepted iterations s.counts e

  pub start_plan : PlanOf plan count
  start_plan = record {
    body = body_of form;
    cost = step_cost (body_of form);
    planned = s.planned;
    sound = sound form s.accepted;
    range = cost_range form s.accepted;
    size = s.size;
  }

  pub start_few : iterations < 4294967296
  start_few =
      omega (
        arith,
        count_few (body_of form).counter.initial (well_formed form s.accepted).initial
            (body_of form).counter.relation (body_of form).counter.limit (body_of form).counter.step iterations
            s.counts,
      )

-- ---- how it is made

module _ (form : List ℕ) (body : Body) (e : ReadAs form (reading_of (Ok body))) where
  accepted : judge form ≡ Accepted
  accepted = read_accepted form (reading_of (Ok body)) e.0 refl

  known : body ≡ body_of form
  known = read_body form (reading_of (Ok body)) e.0 refl

  pub sound_from : Sound body
  sound_from = read_sound form (reading_of (Ok body)) e.0 refl

  pub uncounted_from : (r : Refusal) → CounterOwed body.counter (Err r) → Refuses form (number_of r.fault) r.place
  uncounted_from r o =
      let (never, number, place) = no_count_owed form accepted r
      (subst (λ (b : Body). CounterOwed b.counter (Err r)) known o) in
      uncounted accepted never number place

  -- with a count and the plan it is ready
  pub prepared_counted : (k : ℕ) (plan : List ℕ) → CounterOwed body.counter (Ok k)
      → Planned body (step_cost body) plan → Start form body.count k plan
  prepared_counted k plan o p = record {
    accepted = accepted;
    size = sym (ap (λ (b : Body). b.count) known);
    counts = count_owed form accepted k (subst (λ (b : Body). CounterOwed b.counter (Ok k)) known o);
    planned = subst (λ (b : Body). Planned b (step_cost b) plan) known p;
  }
