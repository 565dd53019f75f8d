use Rattle.std.proofs.Common.{◌∙◌}
use Rattle.store_core.specs.Store.{StoreState}
use Rattle.store_core.proofs.Migrating.{rewritten, rewritten_current}
use Rattle.store_core.proofs.migration.migrate.Goals as goal

pub returns-clause-rewrites : goal.returns-clause-rewrites
returns-clause-rewrites g c =
    let old : StoreState = record { contents = c.args.tables.now.tables; journal = c.args.journal.now } in
    let new : StoreState = record { contents = c.compact.new.tables.tables; journal = c.compact.new.journal } in
    rewritten old c.requires.works c.requires.pair c.len-len.result c.requires.number
    (λ files tells payloads holds. c.len-len.ensures.end ∙ c.len-len.ensures.measured c.requires.works files tells payloads holds)
    c.migration_end.result c.compact.result new c.compact.ensures.compacts c.migration_end.ensures

pub returns-clause-current : goal.returns-clause-current
returns-clause-current g c =
    let old : StoreState = record { contents = c.args.tables.now.tables; journal = c.args.journal.now } in
    let new : StoreState = record { contents = c.compact.new.tables.tables; journal = c.compact.new.journal } in
    rewritten_current old new c.payload_law.ensures.snapshot c.requires.fits c.rows_law.ensures.restores c.rows_law.ensures.order c.migration_end.result
    (rewritten old c.requires.works c.requires.pair c.len-len.result c.requires.number
    (λ files tells payloads holds. c.len-len.ensures.end ∙ c.len-len.ensures.measured c.requires.works files tells payloads holds)
    c.migration_end.result c.compact.result new c.compact.ensures.compacts c.migration_end.ensures)
