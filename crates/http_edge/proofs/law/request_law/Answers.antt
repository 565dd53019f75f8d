use Rattle.http_edge.proofs.OneAnswer.{one_answer}
use Rattle.http_edge.proofs.law.request_law.Goals as goal

pub returns : goal.returns
returns c = record { one_answer = one_answer }
