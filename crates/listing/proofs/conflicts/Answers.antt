-- `listing::conflicts` meets its contract.
use Rattle.std.proofs.Common.{refl}
use Rattle.std.proofs.lemmas.Result.{err_from_is_err_and}
use Rattle.roundtrip.specs.Read.{read_sound}
use Rattle.listing.specs.Answered.{listed_as, refused_as}
use Rattle.listing.proofs.conflicts.Goals as goal

pub list_of-requires : goal.list_of-requires
list_of-requires c = read_sound c.args.form.now _ c.in_ok-body.ensures.0 refl

pub returns-in_err-body : goal.returns-in_err-body
returns-in_err-body c =
    let p = err_from_is_err_and c.from_residual.result c.from_residual.ensures.1 in
    rw (p.1, p.2) (refused_as c.args.form.now _ c.in_err-body.ensures.0 _ _ c.args.out.now refl)

pub returns : goal.returns
returns c =
    listed_as c.args.form.now _ c.in_ok-body.ensures.0 refl _ _ _ c.list_of.ensures.0 c.list_of.ensures.1
