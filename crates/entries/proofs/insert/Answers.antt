-- `entries::insert` meets its contract.
use mathlib.Core.Path.{◌≡◌, subst, ◌∙◌, refl}
use native.Mathlib.Omega.{arith}
use Rattle.theory.specs.Row.{Key}
use Rattle.entries.specs.Entries.{HeldAt, MissingAt, grown_kept, grown_new, grown_over}
use Rattle.entries.specs.Structs.{tuple_of}
use Rattle.entries.proofs.insert.Goals as goal

pub returns-in-Ok : goal.returns-in-Ok
returns-in-Ok c =
    let a = c.args in
    grown_kept a.row.now (tuple_of a.entry) c.in-Ok.p a.held
    (subst (λ (k : Key). HeldAt a.row.now a.held k c.in-Ok.p) c.key.ensures c.in-Ok.ensures.held)
    c.requires c.told-row _ c.keep_better.ensures

pub returns-in-Err : goal.returns-in-Err
returns-in-Err c =
    let a = c.args in
    let e = tuple_of a.entry in
    let copied = c.copy_within.ensures.by_index in
    grown_new a.row.now e c.in-Err.p a.held
    (subst (λ (k : Key). MissingAt a.row.now a.held k c.in-Err.p) c.key.ensures c.in-Err.ensures.missing)
    c.if-held-lt64.true c.copy_within.new.self (c.copy_within.ensures.len ∙ c.told-row) copied.0 copied.1 copied.2
    a.entry refl

pub returns-in-Err-2 : goal.returns-in-Err-2
returns-in-Err-2 c =
    let a = c.args in
    let full : a.held ≡ 64 = omega arith in
    grown_over a.row.now (tuple_of a.entry) c.in-Err.p a.held
    (subst (λ (k : Key). MissingAt a.row.now a.held k c.in-Err.p) c.key.ensures c.in-Err.ensures.missing) full
