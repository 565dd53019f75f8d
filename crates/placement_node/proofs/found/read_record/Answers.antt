use Rattle.std.proofs.Common.{arith}
use Rattle.placement_node.proofs.Reading.{read_again}
use Rattle.placement_node.proofs.found.read_record.Goals as goal

pub returns-clause-fits : goal.returns-clause-fits
returns-clause-fits c = read_again c.args.payload.now c.read_entries.result (λ i. omega (arith, c.type_inv.payload i)) c.read_entries.ensures
