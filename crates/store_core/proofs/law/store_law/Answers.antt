use Rattle.store_core.proofs.Running.{keeps_acknowledged, risks_each}
use Rattle.store_core.proofs.Onces.{acknowledges_once}
use Rattle.store_core.proofs.Whole.{have_readings, refuses_contents, refuses_today}
use Rattle.store_core.proofs.law.store_law.Goals as goal

pub returns : goal.returns
returns c = record { keeps = keeps_acknowledged; risks = risks_each; once = acknowledges_once c.outcome_law.ensures.once; readings = have_readings; refused = refuses_contents; today = refuses_today }
