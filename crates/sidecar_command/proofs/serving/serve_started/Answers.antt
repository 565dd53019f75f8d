use Rattle.command_words.specs.Told.{told_sidecar}
use Rattle.sidecar_command.proofs.Served.{before_served}
use Rattle.sidecar_command.proofs.serving.serve_started.Goals as goal

pub returns-in-Err-clause-ends : goal.returns-in-Err-clause-ends
returns-in-Err-clause-ends g c =
    let said = c.unbound.ensures in
    before_served g.N.Dial.dialled g.N.Link.Source.read_traffic g.K.Clock.shown (told_sidecar c.args.words.now) _ c.unbound.result said.done said.own said.stop

pub returns-in-Err-bind-clause-ends : goal.returns-in-Err-bind-clause-ends
returns-in-Err-bind-clause-ends g c =
    let said = c.unbound-in-Err-bind.ensures in
    before_served g.N.Dial.dialled g.N.Link.Source.read_traffic g.K.Clock.shown (told_sidecar c.args.words.now) _ c.unbound-in-Err-bind.result said.done said.own said.stop
