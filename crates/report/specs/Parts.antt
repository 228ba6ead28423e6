-- From an answer that the sweep owes, and the lines in the lent bytes, to what is printed. Rests on Report, on lines'
-- Lines and Parts, on lent's Adding and on ways' Sweep.
use Rattle.std.specs.Prelude.{Result, Ok, Err, List, ◌++◌, ◌≡◌, refl, ℕ, ◌+◌, ◌*◌, ◌-◌, ◌≤◌, length, take, drop}
use Rattle.std.proofs.Common.{append_assoc, sym, ap, subst, ◌∙◌, arith, length-drop, length-take-le}
use Rattle.std.proofs.Math.Seq.{take-take}
use Rattle.std.proofs.lemmas.List.{drop-take}
use Rattle.laws.specs.Terms.{heaviest, lightest}
use Rattle.form.specs.declared.Refusal.{Refusal}
use Rattle.form.specs.Said.{Accepted, number_of}
use Rattle.form.specs.Form.{judge, body_of}
use Rattle.form.specs.Conflict.{conflicts}
use Rattle.sweep_steps.specs.declared.Routed.{Routed}
use Rattle.walk.specs.declared.Walked.{Walked}
use Rattle.walk.specs.Answer.{WalkOwed, said}
use Rattle.sweep_steps.specs.Answer.{OwnTableOwed}
use Rattle.plan.specs.Owed.{route_in}
use Rattle.ways.specs.Sweep.{own_answered}
use Rattle.lent.specs.Adding.{Adds, up_to_end}
use Rattle.text.specs.Text.{line, refusal_line}
use Rattle.lines.specs.Lines.{blocks_word, iterations_word, conflicts_word, weight_word, bound_word}
use Rattle.lines.specs.Lines.{no_routes, budget}
use Rattle.lines.specs.Parts.{first_five, last_five}
use Rattle.report.specs.Report.{Reported}
use Rattle.report.specs.Report.Reported.{refused, reported}

five_and_five : (a b c d e f : List ℕ) → (a ++ (b ++ (c ++ (d ++ e)))) ++ f ≡ a ++ (b ++ (c ++ (d ++ (e ++ f))))
five_and_five a b c d e f = simp append_assoc

shown_owed : (form lent routes : List ℕ) (answer shown : Result Routed Refusal) → OwnTableOwed form lent answer routes
    → answer ≡ shown → OwnTableOwed form lent shown routes
shown_owed form lent routes answer shown owed e =
    subst (λ (x : Result Routed Refusal). OwnTableOwed form lent x routes) e owed

-- the routes' bytes, parted at the number of blocks
module _ (routes : List ℕ) (n : ℕ) (size : length routes ≡ 128) (few : n ≤ 64) where
  pub first_part : n ≡ length (route_in heaviest n routes)
  first_part = sym (length-take-le n routes (omega (arith, size)))

  pub first_few : length (route_in heaviest n routes) ≤ 64
  first_few = omega (arith, first_part)

  pub second_part : take (2 * n - n) (drop n routes) ≡ route_in lightest n routes
  second_part = ap (λ m. take m (drop n routes)) (twice n)
    where
      twice : (n : ℕ) → 2 * n - n ≡ n
      twice n = omega arith

  pub second_few : length (take (2 * n - n) (drop n routes)) ≤ 64
  second_few = omega (
    arith,
    ap length second_part,
    length-take-le n (drop n routes) (omega (arith, length-drop n routes, size)),
  )

pub parted : (routes : List ℕ) (n : ℕ)
    → (take n (take (2 * n) routes) ≡ route_in heaviest n routes)
    × (drop n (take (2 * n) routes) ≡ route_in lightest n routes)
parted routes n =
    let twice : 2 * n ≡ n + n = omega arith in
    (take-take n (2 * n) routes (omega arith), rw twice (drop-take n n routes))

-- where the sweep answers, the form is accepted
pub accepted_by : (form routes : List ℕ) (swept : Routed) → OwnTableOwed form no_routes (Ok swept) routes
    → judge form ≡ Accepted
accepted_by form routes swept owed = (own_answered form no_routes (Ok swept) routes owed refl).accepted

-- n is the number of blocks
pub routed_reported : (form o p : List ℕ) (r n : ℕ) (routes : List ℕ) (swept : Routed) (walk : Result Walked Refusal)
    (held : List ℕ)
    → OwnTableOwed form no_routes (Ok swept) routes → n ≡ (body_of form).count
    → WalkOwed form budget no_routes (said walk, held)
    → Adds o 0 p r
    (first_five (body_of form) n swept.totals
    ++ last_five (route_in heaviest n routes) swept.totals.least (route_in lightest n routes) swept.kept walk)
    → r ≤ length o → Reported form (take r p)
routed_reported form o p r n routes swept walk held owed count walk_owed adds room =
    let body = body_of form in
    let all = rw count at adds in
    let last =
    last_five (route_in heaviest body.count routes) swept.totals.least (route_in lightest body.count routes) swept.kept
    walk in
    let lines =
    five_and_five (line blocks_word body.count) (line iterations_word swept.totals.iterations)
    (line conflicts_word (length (conflicts body))) (line weight_word swept.totals.weight)
    (line bound_word swept.totals.bound) last in
    reported swept routes owed walk held walk_owed (up_to_end all room ∙ lines)

pub refused_reported : (form o p : List ℕ) (r : ℕ) (routes : List ℕ) (refusal : Refusal)
    → OwnTableOwed form no_routes (Err refusal) routes
    → Adds o 0 p r (refusal_line (number_of refusal.fault) refusal.place) → r ≤ length o → Reported form (take r p)
refused_reported form o p r routes refusal owed adds room = refused refusal routes owed (up_to_end adds room)
