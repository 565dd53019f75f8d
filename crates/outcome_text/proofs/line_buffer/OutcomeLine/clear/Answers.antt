use Rattle.std.proofs.Common.{arith}
use Rattle.std.proofs.Math.ListN.{drop_of_length-le}
use Rattle.outcome_text.proofs.line_buffer.OutcomeLine.clear.Goals as goal

pub returns : goal.returns
returns c = drop_of_length-le c.self.inside.bytes {i = 80} (omega arith)
