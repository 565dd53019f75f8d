use Rattle.tx_journal.proofs.Turns.{one, in_turn}
use Rattle.tx_journal.proofs.law.batch_law.Goals as goal

pub returns : goal.returns
returns c = record { one = one; in_turn = in_turn }
