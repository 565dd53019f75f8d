use Rattle.std.proofs.Common.{arith}
use Rattle.store_payloads.proofs.ReadFits.{read_fits}
use Rattle.store_payloads.proofs.reading.read_payload.Goals as goal

pub returns-clause-fits : goal.returns-clause-fits
returns-clause-fits c = read_fits c.command_law.ensures.spells c.args.payload.now c.read_parts.result (λ i. omega (arith, c.type_inv.payload i)) c.read_parts.ensures
