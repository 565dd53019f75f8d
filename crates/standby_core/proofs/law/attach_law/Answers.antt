use Rattle.standby_core.proofs.Replicated.{attach_copies, sync_keeps, reads_as_replica, pieces_are_one}
use Rattle.standby_core.proofs.law.attach_law.Goals as goal

pub returns-clause-copies : goal.returns-clause-copies
returns-clause-copies c = attach_copies

pub returns-clause-keeps : goal.returns-clause-keeps
returns-clause-keeps c = sync_keeps

pub returns-clause-reads : goal.returns-clause-reads
returns-clause-reads c = reads_as_replica

pub returns-clause-pieces : goal.returns-clause-pieces
returns-clause-pieces c = pieces_are_one
