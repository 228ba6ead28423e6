-- `cases::show::form` meets its contract: what the writer says it has written stands in the lent bytes (Room). Assumes
-- nothing.
use Rattle.cases.specs.Room.{written_fits}
use Rattle.cases.proofs.show.form.Goals as goal

pub returns-in_ok-println-in-Ok : goal.returns-in_ok-println-in-Ok
returns-in_ok-println-in-Ok g c = written_fits _ _ _ _ _ c.write.ensures.0 c.write.ensures.1.0 c.in-Ok.is
