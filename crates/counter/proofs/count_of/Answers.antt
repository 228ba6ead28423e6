-- `counter::count_of` meets its contract.
use Rattle.std.proofs.Common.{◌≡◌, ◌≤◌, ℕ, zero, suc, refl, arith, rules, SFits}
use Rattle.std.specs.Prelude.{ok_or}
use Rattle.std.specs.Int.{w32}
use Rattle.form.specs.declared.Fault.TheVariants.{NoCount}
use Rattle.lower_laws.specs.Loops.{count_of, count_found}
use Rattle.counter.specs.declared.Relation.{Relation}
use Rattle.counter.specs.Uniqueness.{answer_of, owes}
use Rattle.counter.specs.Relations.{code, nonzero}
use Rattle.counter.proofs.count_of.Goals as goal

known : (relation : Relation) → code relation ≤ 5
known relation = grind arith

answered : (n : ℕ) → ok_or (nonzero n) (record { fault = NoCount; place = 0 }) ≡ answer_of n
answered zero = refl
answered (suc n) = refl

pub returns : goal.returns
returns c =
    let a = c.args.counter in
    let fits : SFits w32 a.initial = search rules in
    let below : a.relation ≤ 5 = grind (arith, known) in
    let n = count_of a.initial a.step a.relation a.limit in
    let o = owes a.initial a.step a.relation a.limit below n (count_found a.initial fits a.relation a.limit a.step) in
    let e : c.ok_or.result ≡ answer_of n = grind (arith, answered) in
    rw e o
