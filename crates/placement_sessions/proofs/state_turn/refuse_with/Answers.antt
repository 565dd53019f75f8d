use Rattle.std.proofs.Common.{subst}
use Rattle.http_edge.specs.declared.message.HttpResponse.{HttpResponse}
use Rattle.http_edge.specs.Carry.{Writes}
use Rattle.http_edge.specs.Texts.{response_text}
use Rattle.placement_sessions.proofs.StateTurning.{written_front}
use Rattle.placement_sessions.proofs.state_turn.refuse_with.Goals as goal

pub returns-in-Ok-clause-refuses : goal.returns-in-Ok-clause-refuses
returns-in-Ok-clause-refuses g c =
    written_front _ _ _ c.respond-written.result
    (subst (λ (r : HttpResponse). Writes (g.C.Source.read_traffic c.args.conn.now) (g.C.Source.read_traffic c.respond-written.new.conn) (response_text r) c.respond-written.result) c.in-Ok.ensures c.respond-written.ensures.writes)
