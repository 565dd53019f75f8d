use Rattle.frame_wire.proofs.StoreLaws.{reads_command, spells_command, reads_as_transaction}
use Rattle.frame_wire.proofs.law.command_law.Goals as goal

pub returns-clause-reads : goal.returns-clause-reads
returns-clause-reads c = reads_command

pub returns-clause-spells : goal.returns-clause-spells
returns-clause-spells c = spells_command

pub returns-clause-transaction : goal.returns-clause-transaction
returns-clause-transaction c = reads_as_transaction
