use Rattle.tx_journal.proofs.Running.{runs_stand, runs_risk}
use Rattle.tx_journal.proofs.law.run_law.Goals as goal

pub returns : goal.returns
returns c = record { stands = runs_stand; risks = runs_risk }
