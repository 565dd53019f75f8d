use Rattle.std.proofs.Common.{◌∙◌, ap}
use Rattle.tx_journal.specs.Pair.{first_generation}
use Rattle.tx_journal.proofs.Batches.{held_is}
use Rattle.tx_journal.proofs.batch.Batch.generation.Goals as goal

pub returns : goal.returns
returns c = c.self.invariant.numbered ∙ ap first_generation (held_is c.self.invariant c.args.self.now c.self.view_is)
