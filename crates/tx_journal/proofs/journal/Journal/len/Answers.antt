use Rattle.tx_journal.proofs.Rowed.{measured}
use Rattle.tx_journal.proofs.journal.Journal.len.Goals as goal

pub returns-clause-measured : goal.returns-clause-measured
returns-clause-measured g c = rw (← c.self.view_is) (measured _ _ _ _ c.self.invariant)
