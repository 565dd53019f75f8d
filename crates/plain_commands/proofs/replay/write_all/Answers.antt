use Rattle.plain_commands.proofs.RunLemmas.{written_as}
use Rattle.plain_commands.proofs.replay.write_all.Goals as goal

pub returns-in-Ok-clause-ends : goal.returns-in-Ok-clause-ends
returns-in-Ok-clause-ends g c =
    written_as (g.W.Sink.contents c.args.output.now) (g.W.Sink.contents c.write.new.self) c.args.text.now c.args.status c.in-Ok.ensures.written
