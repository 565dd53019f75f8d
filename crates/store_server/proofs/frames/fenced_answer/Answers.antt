use Rattle.std.proofs.Common.{subst}
use Rattle.fence_rows.specs.Fences.{FencedAnswerFits}
use Rattle.store_server.proofs.Framed.{stale_fits, reserved_fits, unfenced_fits}
use Rattle.store_server.proofs.frames.fenced_answer.Goals as goal

pub returns-in-StaleEpoch-clause-fits : goal.returns-in-StaleEpoch-clause-fits
returns-in-StaleEpoch-clause-fits c = rw c.refused.ensures (stale_fits c.in-StaleEpoch.seen (subst FencedAnswerFits c.in-StaleEpoch.is c.requires))

pub returns-in-ReservedKey-clause-fits : goal.returns-in-ReservedKey-clause-fits
returns-in-ReservedKey-clause-fits c = rw c.refused-in-ReservedKey.ensures (reserved_fits c.in-ReservedKey.op (subst FencedAnswerFits c.in-ReservedKey.is c.requires))

pub returns-in-Unfenced-clause-fits : goal.returns-in-Unfenced-clause-fits
returns-in-Unfenced-clause-fits c = rw c.refused-in-Unfenced.ensures unfenced_fits
