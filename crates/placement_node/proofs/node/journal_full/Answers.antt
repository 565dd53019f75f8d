use Rattle.std.proofs.Common.{arith}
use Rattle.placement_node.proofs.Sent.{full_sent}
use Rattle.placement_node.proofs.node.journal_full.Goals as goal

pub returns-clause-fits : goal.returns-clause-fits
returns-clause-fits c = full_sent c.args.len (omega arith)
