use Rattle.std.proofs.Common.{◌≡◌, subst, Option, Some}
use Rattle.http_edge.specs.declared.message.HttpResponse.{HttpResponse}
use Rattle.http_edge.specs.Texts.{WritesText}
use Rattle.http_edge.proofs.Carried.{over_nothing}
use Rattle.http_session.specs.Rounds.{refusal_text}
use Rattle.http_session.proofs.Sessions.{refusal_none}
use Rattle.http_session.proofs.ends.refuse.Goals as goal

pub returns-in-Err-clause-writes : goal.returns-in-Err-clause-writes
returns-in-Err-clause-writes g c = λ said is. over_nothing _

pub returns-in-Ok-None-clause-writes : goal.returns-in-Ok-None-clause-writes
returns-in-Ok-None-clause-writes g c = λ said is. refusal_none said _ (rw c.in-Ok-None.field-0-is at (rw c.in-Ok-None.is at is))

pub returns-in-Ok-Some-clause-writes : goal.returns-in-Ok-Some-clause-writes
returns-in-Ok-Some-clause-writes g c = λ said is.
    let traffic = g.C.Source.read_traffic in
    let step = c.write_sent in
    let said_is : Some c.in-Ok-Some.response ≡ said = rw c.in-Ok-Some.field-0-is at (rw c.in-Ok-Some.is at is) in
    subst (λ (r : Option HttpResponse). WritesText (traffic c.args.conn.now) (traffic step.new.conn) (refusal_text r) step.result) said_is step.ensures.writes
