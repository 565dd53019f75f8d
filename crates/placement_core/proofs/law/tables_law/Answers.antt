use Rattle.placement_core.proofs.Sound.{run_tables}
use Rattle.placement_core.proofs.law.tables_law.Goals as goal

pub returns : goal.returns
returns c = λ run types. run_tables run types
