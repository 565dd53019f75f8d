use Rattle.std.proofs.Common.{subst}
use Rattle.command_words.specs.Told.{told_sidecar}
use Rattle.sidecar_node.specs.Nodes.{IsNewNode}
use Rattle.sidecar_command.specs.Commands.{parts_in}
use Rattle.sidecar_command.proofs.Served.{new_itself, served_itself}
use Rattle.sidecar_command.proofs.command.serve_new.Goals as goal

pub serve_started-requires-clause-new : goal.serve_started-requires-clause-new
serve_started-requires-clause-new g c κs within =
    let made = c.in-Ok.made in
    let new = subst (λ n. IsNewNode c.args.started.host c.args.started.kinds n made.0 made.1) c.parts_of.ensures.are c.in-Ok.ensures.new in
    new_itself c.args.started (parts_in c.args.words.now.parts) made.0 made.1 new

pub returns-in-Ok-clause-ends : goal.returns-in-Ok-clause-ends
returns-in-Ok-clause-ends g c =
    let made = c.in-Ok.made in
    let new = subst (λ n. IsNewNode c.args.started.host c.args.started.kinds n made.0 made.1) c.parts_of.ensures.are c.in-Ok.ensures.new in
    served_itself g.N.Dial.dialled g.N.Link.Source.read_traffic g.K.Clock.shown (told_sidecar c.args.words.now) c.args.started (parts_in c.args.words.now.parts) made.0 made.1 c.serve_started.result new c.serve_started.ensures.ends
