use Rattle.standby_command.proofs.Kept.{opened_disk, sessions_served, unserved}
use Rattle.standby_command.proofs.command.run_standby.Goals as goal

pub returns-in-Ok-bind-clause-ran : goal.returns-in-Ok-bind-clause-ran
returns-in-Ok-bind-clause-ran g c =
    let disk = g.H.Store.Disk.told c.in-Ok.disk in
    opened_disk c.args.words.now.journal.now c.args.words.now.sessions disk c.serve_bound.result _ _ _ c.in-Ok.ensures.gives
    (sessions_served c.args.words.now.sessions disk c.serve_bound.result _ _ _ c.in-Ok-bind.ensures.hands c.serve_bound.ensures.ran)

pub returns-in-Err-bind-clause-ran : goal.returns-in-Err-bind-clause-ran
returns-in-Err-bind-clause-ran g c =
    let disk = g.H.Store.Disk.told c.in-Ok.disk in
    opened_disk c.args.words.now.journal.now c.args.words.now.sessions disk c.unbound.result _ _ _ c.in-Ok.ensures.gives
    (unserved c.args.words.now.sessions disk c.unbound.result _ _ _ c.unbound.ensures.unserved c.in-Err-bind.ensures.hands c.give_back.ensures.hands)
