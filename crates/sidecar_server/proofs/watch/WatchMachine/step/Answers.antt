use Rattle.sidecar_server.proofs.Sounds.{hears_shown, looks_sound, refuses_sound}
use Rattle.sidecar_server.proofs.watch.WatchMachine.step.Goals as goal
use Rattle.sidecar_server.proofs.watch.WatchMachine.step.Goals.{in-Answered, in-Look, in-Refused}

pub invariant_of-self : goal.invariant_of-self
invariant_of-self g c =
    let dialled = g.N.Dial.dialled in
    let traffic = g.N.Link.Source.read_traffic in
    let shown = g.K.Clock.shown in
    let kept = c.self.invariant in
    let w0 = c.self.inside in
    elim c.match-event.branch [
      | in-Answered w ↦ rw (w.self-inside-is, w.hear.ensures) (hears_shown dialled traffic shown w0.parties w0.lease w.in-Answered.parties w.in-Answered.sent c.args.event w.in-Answered.is c.requires kept.0, kept.1)
      | in-Look w ↦ rw (w.self-inside-is, w.stop_after-self-inside.ensures) (kept.0, looks_sound dialled traffic shown w0.parties w0.lease w0.stop w.in-Look.now c.args.event w.in-Look.is c.requires kept.0 kept.1)
      | in-Refused w ↦ rw (w.self-inside-is, w.refused_stop-self-inside.ensures) (kept.0, refuses_sound dialled traffic shown w0.parties w0.stop w.in-Refused.parties w.in-Refused.reply c.args.event w.in-Refused.is c.requires kept.1)
    ]
