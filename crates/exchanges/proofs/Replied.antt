-- What went over a link, taken as a whole input.
use Rattle.std.proofs.Common.{ℕ, List, Option, None, Ok, Err}
use Rattle.actor_ports.specs.Traffic.{Traffic}
use Rattle.http_edge.specs.declared.message.HttpResponse.{HttpResponse}
use Rattle.http_edge.specs.declared.error.EdgeError.TheVariants.{BadHead, HeadTooLong, TooManyFields, Chunked, BadLength, BodyTooLong, CutShort, ConnFault, OutOfMemory}
use Rattle.http_edge.specs.Carry.{Carried}
use Rattle.http_edge.specs.Replies.{HasReply}
use Rattle.http_edge.specs.Exchanges.{ExchangeGives}
use Rattle.http_edge.proofs.Replied.{body_told}
use Rattle.exchanges.specs.Replies.{Got}

reply_alone : (stream : List ℕ) (a b : Option Traffic) (r : HttpResponse) → HasReply stream a b r → HasReply stream None b r
reply_alone stream a b r h = record {
  head = h.head;
  behind = h.behind;
  form = h.form;
  starts = h.starts;
  final = h.final;
  formed = h.formed;
  body = body_told h.form h.behind r.body None a b (λ _. tt) h.body;
  status = h.status;
  fields = h.fields;
}

-- the same answer, if nothing is said of what the connection has left
pub gives_alone : (text : List ℕ) (c : Carried) (a b : Option Traffic) (got : Got) → ExchangeGives text c a b got → ExchangeGives text c None b got
gives_alone text c a b (Ok r) g = (g.0, reply_alone c.read a b r g.1)
gives_alone text c a b (Err BadHead) g = g
gives_alone text c a b (Err HeadTooLong) g = g
gives_alone text c a b (Err TooManyFields) g = g
gives_alone text c a b (Err Chunked) g = g
gives_alone text c a b (Err BadLength) g = g
gives_alone text c a b (Err (BodyTooLong n)) g = g
gives_alone text c a b (Err (CutShort n)) g = (g.0, (g.1.0, tt, g.1.2))
gives_alone text c a b (Err ConnFault) g = g
gives_alone text c a b (Err OutOfMemory) g = g
