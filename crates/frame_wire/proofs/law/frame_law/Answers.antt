use Rattle.frame_wire.proofs.StreamLaws.{reads_spelling, no_prefix, one_reading, joins_pieces}
use Rattle.frame_wire.proofs.law.frame_law.Goals as goal

pub returns-clause-reads : goal.returns-clause-reads
returns-clause-reads c = reads_spelling

pub returns-clause-no_prefix : goal.returns-clause-no_prefix
returns-clause-no_prefix c = no_prefix

pub returns-clause-one_reading : goal.returns-clause-one_reading
returns-clause-one_reading c = one_reading

pub returns-clause-pieces : goal.returns-clause-pieces
returns-clause-pieces c = joins_pieces
