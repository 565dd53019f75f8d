use Rattle.http_edge.proofs.Carried.{over_nothing}
use Rattle.http_session.proofs.Sessions.{turn_written}
use Rattle.http_edge.specs.declared.message.HttpRequest.{HttpRequest}
use Rattle.http_edge.specs.declared.message.HttpResponse.{HttpResponse}
use Rattle.lists_and_limits.specs.declared.memory.OutOfMemory.{OutOfMemory}
use Rattle.std.specs.declared.result.Result.{Result}
use Rattle.sidecar_requests.specs.Sessions.{Sends}
use Rattle.sidecar_requests.proofs.answering.write_answer.Goals as goal

pub returns-in-Err-clause-sent : goal.returns-in-Err-clause-sent
returns-in-Err-clause-sent g c = (c.response_of.result, c.response_of.ensures, over_nothing _)

pub returns-in-Ok-clause-sent : goal.returns-in-Ok-clause-sent
returns-in-Ok-clause-sent g c =
    turn_written (λ (s : Unit {0}) (asked : HttpRequest) (got : Result HttpResponse OutOfMemory) (t : Unit {0}). Sends c.args.side c.args.answer got) tt tt c.args.request.now _ _ c.in-Ok.response c.write_sent.result
    (rw c.in-Ok.is at c.response_of.ensures) c.write_sent.ensures.writes
