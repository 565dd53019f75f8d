use Rattle.store_core.proofs.Migrated.{format_one, format_two}
use Rattle.store_core.proofs.migration.is_up_to_date.Goals as goal

pub returns-clause-today : goal.returns-clause-today
returns-clause-today g c is = format_two c.args.journal.now.format c.format.result c.format.ensures.first is

pub returns-clause-old : goal.returns-clause-old
returns-clause-old g c is = format_one c.args.journal.now.format c.format.result c.format.ensures.second is
