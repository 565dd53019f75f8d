use Rattle.sidecar_node.specs.Nodes.{host_of}
use Rattle.std.proofs.Common.{IfOk, subst}
use Rattle.command_words.specs.Told.{told_sidecar}
use Rattle.sidecar_server.specs.declared.server.SidecarServed.{SidecarServed}
use Rattle.sidecar_server.specs.Causes.{IsSound}
use Rattle.sidecar_server.specs.Stopped.{StopsParts}
use Rattle.sidecar_command.proofs.Served.{after_served}
use Rattle.sidecar_command.proofs.serving.serve_bound.Goals as goal

pub returns-after-callers_failed-clause-ends : goal.returns-after-callers_failed-clause-ends
returns-after-callers_failed-clause-ends g c =
    let dialled = g.N.Dial.dialled in
    let traffic = g.N.Link.Source.read_traffic in
    let shown = g.K.Clock.shown in
    let served = c.in-Ok.served in
    let run = c.serve_sidecar-callers.ensures in
    let sound = subst (λ r. IfOk r (λ (s : SidecarServed). IsSound dialled traffic shown (record { member = (host_of c.args.node.now).member; placement = record { first = c.args.words.now.placement; second = c.args.words.now.placement2 } }) s.stop)) c.in-Ok.is run.stop in
    let stopped = subst (λ r. IfOk r (λ (s : SidecarServed). StopsParts c.args.node.now c.args.seats s.seats)) c.in-Ok.is run.stopped in
    after_served dialled traffic shown (told_sidecar c.args.words.now) c.args.node.now c.args.seats served.seats served.stop c.ended.result c.requires.new stopped sound c.ended.ensures.own c.ended.ensures.stop
