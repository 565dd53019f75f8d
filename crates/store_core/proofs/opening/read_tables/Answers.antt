use Rattle.std.proofs.Common.{sym, subst, ◌∙◌}
use Rattle.store_tables.specs.Tables.{Tables}
use Rattle.store_core.specs.Opens.{IsFolded}
use Rattle.store_core.proofs.opening.read_tables.Goals as goal

pub returns-in-Ok-clause-read : goal.returns-in-Ok-clause-read
returns-in-Ok-clause-read g c = subst (λ (t : Tables). IsFolded t c.args.journal.now) (sym c.into_tables.ensures) c.in-Ok.ensures.read

pub returns-in-Ok-clause-number : goal.returns-in-Ok-clause-number
returns-in-Ok-clause-number g c files tells held holds = sym c.generation.ensures.number ∙ c.generation.ensures.first c.requires.works c.requires.pair files tells held holds
