use Rattle.store_tables.proofs.Calls.{folds, once, repeats}
use Rattle.store_tables.proofs.law.outcome_law.Goals as goal

pub returns : goal.returns
returns c = record { folds = folds; once = once c.lane_law.ensures.spent; repeats = repeats }
