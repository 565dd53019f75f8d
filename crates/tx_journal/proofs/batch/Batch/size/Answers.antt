use Rattle.std.proofs.Common.{ℕ, List, length, ◌∙◌, ap}
use Rattle.tx_journal.specs.File.{records}
use Rattle.tx_journal.proofs.Batches.{held_is}
use Rattle.tx_journal.proofs.batch.Batch.size.Goals as goal

pub returns-clause-is : goal.returns-clause-is
returns-clause-is c = c.self.invariant.len_is ∙ ap (λ (l : List (List ℕ)). length (records l)) (held_is c.self.invariant c.args.self.now c.self.view_is)
