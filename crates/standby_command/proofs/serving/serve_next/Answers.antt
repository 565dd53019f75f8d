use Rattle.standby_command.proofs.Sessions.{none_next, one_next, one_cause}
use Rattle.standby_command.proofs.serving.serve_next.Goals as goal

pub returns-in-Err-clause-serves : goal.returns-in-Err-clause-serves
returns-in-Err-clause-serves g c = none_next (g.D.Disk.told c.args.disk.now) c.unaccepted.result c.in-Err.error c.unaccepted.ensures

pub returns-clause-serves : goal.returns-clause-serves
returns-clause-serves g c = one_next _ _ _ _ c.standby_session-end.result _ c.next_end.ensures c.standby_session-end.ensures.session
