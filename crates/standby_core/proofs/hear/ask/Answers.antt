use Rattle.standby_core.proofs.Told.{not_sent, asked_then}
use Rattle.standby_core.proofs.hear.ask.Goals as goal

pub returns-in-Err-clause-asked : goal.returns-in-Err-clause-asked
returns-in-Err-clause-asked g c = not_sent _ _ c.args.text.now c.in-Err.error c.in-Err.ensures.writes

pub returns-in-Ok-clause-asked : goal.returns-in-Ok-clause-asked
returns-in-Ok-clause-asked g c = asked_then _ _ _ c.args.text.now c.hear.result c.in-Ok.ensures.writes c.hear.ensures.hears
