use Rattle.std.proofs.Common.{◌≡◌, ◌⊎◌, inl, inr, true, false, Some, Err, Ok, refl, ap, sym, subst, ◌∙◌}
use Rattle.disk_model.specs.Disk.{Tells}
use Rattle.tx_journal.specs.Calls.{Side, JournalState, told, tell_both, is_alone, first_side, second_side, OpensFiles, KeepsFiles, IsNumbered}
use Rattle.store_core.specs.Opens.{KeepsStore}
use Rattle.store_core.specs.Store.{StoreState}
use Rattle.store_core.proofs.Openings.{told_read, paired_read, number_read}
use Rattle.store_core.proofs.Opened.{opened_tells, opened_consistent, opened_current, refused_tells, as_store, as_store_error, open_error, told_closed, risen}
use Rattle.store_core.proofs.Migrated.{kept_keeps, migrated_is, migration_refuses, migration_error, was_opened, was_old, rewritten_opens, rewritten_keeps, fault_rises}
use Rattle.store_core.proofs.store.Store.open.Goals as goal

-- ---- the journal isn't opened

pub returns-in-Err-clause-refused : goal.returns-in-Err-clause-refused
returns-in-Err-clause-refused g c = (as_store_error c.in-Err.refused.0 c.in-Err.ensures.refused.0, λ files is. as_store c.args.create c.in-Err.refused.0 files (c.in-Err.ensures.refused.1 files is))

pub returns-in-Err-clause-crash_refused : goal.returns-in-Err-clause-crash_refused
returns-in-Err-clause-crash_refused g c = kept_keeps c.args.create _ _ c.in-Err.ensures.crash_refused

-- ---- its payloads aren't read

pub close_pair-first-requires : goal.close_pair-first-requires
close_pair-first-requires g c = ap (λ (k : JournalState). is_alone k.other) c.read_tables.ensures.same ∙ c.in-Ok.ensures.state.1

pub returns-in-Err-read_tables-clause-refused : goal.returns-in-Err-read_tables-clause-refused
returns-in-Err-read_tables-clause-refused g c = (
  open_error c.in-Err-read_tables.error c.in-Ok.journal c.in-Err-read_tables.ensures.fault,
  refused_tells c.args.create _ c.in-Ok.journal c.in-Ok.ensures.opened c.in-Err-read_tables.error c.in-Err-read_tables.ensures.fault,
)

pub returns-in-Err-read_tables-clause-crash_refused : goal.returns-in-Err-read_tables-clause-crash_refused
returns-in-Err-read_tables-clause-crash_refused g c =
    let first : Side = record { told = g.D.Disk.told c.close_pair-first.result.0; faults = g.D.Disk.disk_faults c.close_pair-first.result.0 } in
    let second : Side = record { told = g.D.Disk.told c.close_pair-first.result.1; faults = g.D.Disk.disk_faults c.close_pair-first.result.1 } in
    kept_keeps c.args.create _ _
    (subst (Tells (KeepsFiles c.args.create) (tell_both (g.D.Disk.told c.args.first) (g.D.Disk.told c.args.second)))
    (sym (told_read c.in-Ok.journal c.read_tables.new.journal c.read_tables.ensures.same) ∙ told_closed c.read_tables.new.journal first second c.close_pair-first.ensures.first (sym c.close_pair-first.ensures.second))
    c.in-Ok.ensures.crash)

pub returns-in-Err-read_tables-clause-cause : goal.returns-in-Err-read_tables-clause-cause
returns-in-Err-read_tables-clause-cause g c is =
    let j = c.in-Ok.journal in
    let k = c.read_tables.new.journal in
    let first : Side = record { told = g.D.Disk.told c.close_pair-first.result.0; faults = g.D.Disk.disk_faults c.close_pair-first.result.0 } in
    let second : Side = record { told = g.D.Disk.told c.close_pair-first.result.1; faults = g.D.Disk.disk_faults c.close_pair-first.result.1 } in
    let live : Side = record { told = j.live.told; faults = k.live.faults } in
    risen j.is_second_live j.live live j.other _ _ first second c.in-Ok.ensures.state.1 c.in-Ok.ensures.count_first c.in-Ok.ensures.count_second (rw is at c.in-Err-read_tables.ensures.cause)
    (c.close_pair-first.ensures.first ∙ ap first_side c.read_tables.ensures.same)
    (sym c.close_pair-first.ensures.second ∙ ap second_side c.read_tables.ensures.same)

-- ---- the file isn't old

pub invariant_of-result : goal.invariant_of-result
invariant_of-result g c = record {
  current =
      opened_current c.args.create _ c.in-Ok.journal c.in-Ok.ensures.opened c.in-Ok-read_tables.tables.tables c.read_tables.new.journal (told_read c.in-Ok.journal c.read_tables.new.journal c.read_tables.ensures.same) c.in-Ok-read_tables.ensures.read
      c.is_up_to_date.ensures.held (c.is_up_to_date.ensures.today c.if-is_up_to_date.true);
  fits = c.in-Ok-read_tables.ensures.fits;
  paired = paired_read c.in-Ok.journal c.read_tables.new.journal c.read_tables.ensures.same c.in-Ok.ensures.state.1;
}

pub returns-then-is_up_to_date-clause-opened : goal.returns-then-is_up_to_date-clause-opened
returns-then-is_up_to_date-clause-opened g c =
    opened_tells c.args.create _ c.in-Ok.journal c.in-Ok.ensures.opened c.in-Ok-read_tables.tables.tables c.read_tables.new.journal (told_read c.in-Ok.journal c.read_tables.new.journal c.read_tables.ensures.same) c.in-Ok-read_tables.ensures.read

pub returns-then-is_up_to_date-clause-current : goal.returns-then-is_up_to_date-clause-current
returns-then-is_up_to_date-clause-current g c =
    opened_current c.args.create _ c.in-Ok.journal c.in-Ok.ensures.opened c.in-Ok-read_tables.tables.tables c.read_tables.new.journal (told_read c.in-Ok.journal c.read_tables.new.journal c.read_tables.ensures.same) c.in-Ok-read_tables.ensures.read
    c.is_up_to_date.ensures.held (c.is_up_to_date.ensures.today c.if-is_up_to_date.true)

pub returns-then-is_up_to_date-clause-format : goal.returns-then-is_up_to_date-clause-format
returns-then-is_up_to_date-clause-format g c = c.is_up_to_date.ensures.today c.if-is_up_to_date.true

pub returns-then-is_up_to_date-clause-migrated : goal.returns-then-is_up_to_date-clause-migrated
returns-then-is_up_to_date-clause-migrated g c =
    inl (record {
      number = subst IsNumbered (sym c.read_tables.ensures.same) (λ works paired d tells. c.in-Ok.ensures.numbered c.in-Ok.ensures.state.0.0 paired d tells);
      files = subst (Tells (KeepsFiles c.args.create) (tell_both (g.D.Disk.told c.args.first) (g.D.Disk.told c.args.second))) (sym (told_read c.in-Ok.journal c.read_tables.new.journal c.read_tables.ensures.same)) c.in-Ok.ensures.crash;
    })

pub returns-then-is_up_to_date-clause-crash : goal.returns-then-is_up_to_date-clause-crash
returns-then-is_up_to_date-clause-crash g c =
    kept_keeps c.args.create _ _
    (subst (Tells (KeepsFiles c.args.create) (tell_both (g.D.Disk.told c.args.first) (g.D.Disk.told c.args.second))) (sym (told_read c.in-Ok.journal c.read_tables.new.journal c.read_tables.ensures.same)) c.in-Ok.ensures.crash)

-- ---- it is compacted

pub migrate-requires-clause-consistent : goal.migrate-requires-clause-consistent
migrate-requires-clause-consistent g c =
    opened_consistent c.args.create _ c.in-Ok.journal c.in-Ok.ensures.opened c.in-Ok-read_tables.tables.tables c.read_tables.new.journal (told_read c.in-Ok.journal c.read_tables.new.journal c.read_tables.ensures.same) c.in-Ok-read_tables.ensures.read

pub migrate-requires-clause-pair : goal.migrate-requires-clause-pair
migrate-requires-clause-pair g c = paired_read c.in-Ok.journal c.read_tables.new.journal c.read_tables.ensures.same c.in-Ok.ensures.state.1

pub migrate-requires-clause-number : goal.migrate-requires-clause-number
migrate-requires-clause-number g c = number_read c.in-Ok.journal c.read_tables.new.journal c.read_tables.ensures.same c.in-Ok-read_tables.ensures.number

pub returns-in-Ok-migrate-clause-opened : goal.returns-in-Ok-migrate-clause-opened
returns-in-Ok-migrate-clause-opened g c =
    let old : StoreState = record { contents = c.in-Ok-read_tables.tables.tables; journal = c.read_tables.new.journal } in
    let new : StoreState = record { contents = c.migrate.new.tables.tables; journal = c.migrate.new.journal } in
    rw (c.migrate.ensures.tables)
    (rewritten_opens c.args.create _ old new
    (was_opened c.args.create _ c.in-Ok-read_tables.tables.tables c.in-Ok.journal c.read_tables.new.journal c.read_tables.ensures.same c.in-Ok.ensures.opened c.in-Ok.ensures.crash c.in-Ok-read_tables.ensures.read c.in-Ok-read_tables.ensures.number c.in-Ok.ensures.made)
    {T = Unit {0}} (Ok tt) c.in-Ok-migrate.ensures.rewrites)

pub returns-in-Ok-migrate-clause-state : goal.returns-in-Ok-migrate-clause-state
returns-in-Ok-migrate-clause-state g c =
    let journal = c.in-Ok-migrate.ensures.rewrites.1.journal in
    ((ap (λ (k : JournalState). k.is_broken) journal, ap (λ (k : JournalState). k.staged) journal), c.migrate.ensures.pair)

pub returns-in-Ok-migrate-clause-format : goal.returns-in-Ok-migrate-clause-format
returns-in-Ok-migrate-clause-format g c = ap (λ (k : JournalState). k.format) c.in-Ok-migrate.ensures.rewrites.1.journal

pub returns-in-Ok-migrate-clause-migrated : goal.returns-in-Ok-migrate-clause-migrated
returns-in-Ok-migrate-clause-migrated g c =
    let old : StoreState = record { contents = c.in-Ok-read_tables.tables.tables; journal = c.read_tables.new.journal } in
    let new : StoreState = record { contents = c.migrate.new.tables.tables; journal = c.migrate.new.journal } in
    let was = (was_opened c.args.create _ c.in-Ok-read_tables.tables.tables c.in-Ok.journal c.read_tables.new.journal c.read_tables.ensures.same c.in-Ok.ensures.opened c.in-Ok.ensures.crash c.in-Ok-read_tables.ensures.read c.in-Ok-read_tables.ensures.number c.in-Ok.ensures.made) in
    inr
    (migrated_is c.args.create _ old was.opens (was_old c.args.create _ c.in-Ok-read_tables.tables.tables c.read_tables.new.journal was c.in-Ok-read_tables.ensures.unbroken c.is_up_to_date.ensures.held (c.is_up_to_date.ensures.old c.if-is_up_to_date.false)) c.is_up_to_date.ensures.named new c.in-Ok-migrate.ensures.rewrites.0 was.has c.in-Ok-migrate.ensures.rewrites.1)

pub returns-in-Ok-migrate-clause-crash : goal.returns-in-Ok-migrate-clause-crash
returns-in-Ok-migrate-clause-crash g c =
    let old : StoreState = record { contents = c.in-Ok-read_tables.tables.tables; journal = c.read_tables.new.journal } in
    let new : StoreState = record { contents = c.migrate.new.tables.tables; journal = c.migrate.new.journal } in
    let was = (was_opened c.args.create _ c.in-Ok-read_tables.tables.tables c.in-Ok.journal c.read_tables.new.journal c.read_tables.ensures.same c.in-Ok.ensures.opened c.in-Ok.ensures.crash c.in-Ok-read_tables.ensures.read c.in-Ok-read_tables.ensures.number c.in-Ok.ensures.made) in
    rewritten_keeps c.args.create _ old new was {T = Unit {0}} (Ok tt) c.in-Ok-migrate.ensures.rewrites
    (was_old c.args.create _ c.in-Ok-read_tables.tables.tables c.read_tables.new.journal was c.in-Ok-read_tables.ensures.unbroken c.is_up_to_date.ensures.held (c.is_up_to_date.ensures.old c.if-is_up_to_date.false))

-- ---- its compaction is refused

pub returns-in-Err-migrate-clause-refused : goal.returns-in-Err-migrate-clause-refused
returns-in-Err-migrate-clause-refused g c =
    let old : StoreState = record { contents = c.in-Ok-read_tables.tables.tables; journal = c.read_tables.new.journal } in
    let new : StoreState = record { contents = c.migrate.new.tables.tables; journal = c.migrate.new.journal } in
    let was = (was_opened c.args.create _ c.in-Ok-read_tables.tables.tables c.in-Ok.journal c.read_tables.new.journal c.read_tables.ensures.same c.in-Ok.ensures.opened c.in-Ok.ensures.crash c.in-Ok-read_tables.ensures.read c.in-Ok-read_tables.ensures.number c.in-Ok.ensures.made) in (
      migration_error (Unit {0}) c.in-Err-migrate.error old new c.in-Err-migrate.ensures.rewrites,
      λ files is. migration_refuses c.args.create _ old new was.opens was.folded (was_old c.args.create _ c.in-Ok-read_tables.tables.tables c.read_tables.new.journal was c.in-Ok-read_tables.ensures.unbroken c.is_up_to_date.ensures.held (c.is_up_to_date.ensures.old c.if-is_up_to_date.false)) files is (Unit {0}) c.in-Err-migrate.error c.in-Err-migrate.ensures.rewrites,
    )

pub returns-in-Err-migrate-clause-crash_refused : goal.returns-in-Err-migrate-clause-crash_refused
returns-in-Err-migrate-clause-crash_refused g c =
    let old : StoreState = record { contents = c.in-Ok-read_tables.tables.tables; journal = c.read_tables.new.journal } in
    let new : StoreState = record { contents = c.migrate.new.tables.tables; journal = c.migrate.new.journal } in
    let first : Side = record { told = g.D.Disk.told c.close_pair-first-in-Err-migrate.result.0; faults = g.D.Disk.disk_faults c.close_pair-first-in-Err-migrate.result.0 } in
    let second : Side = record { told = g.D.Disk.told c.close_pair-first-in-Err-migrate.result.1; faults = g.D.Disk.disk_faults c.close_pair-first-in-Err-migrate.result.1 } in
    let was = (was_opened c.args.create _ c.in-Ok-read_tables.tables.tables c.in-Ok.journal c.read_tables.new.journal c.read_tables.ensures.same c.in-Ok.ensures.opened c.in-Ok.ensures.crash c.in-Ok-read_tables.ensures.read c.in-Ok-read_tables.ensures.number c.in-Ok.ensures.made) in
    subst (Tells (KeepsStore c.args.create) (tell_both (g.D.Disk.told c.args.first) (g.D.Disk.told c.args.second)))
    (told_closed c.migrate.new.journal first second c.close_pair-first-in-Err-migrate.ensures.first (sym c.close_pair-first-in-Err-migrate.ensures.second))
    (rewritten_keeps c.args.create _ old new was {T = Unit {0}} (Err c.in-Err-migrate.error) c.in-Err-migrate.ensures.rewrites
    (was_old c.args.create _ c.in-Ok-read_tables.tables.tables c.read_tables.new.journal was c.in-Ok-read_tables.ensures.unbroken c.is_up_to_date.ensures.held (c.is_up_to_date.ensures.old c.if-is_up_to_date.false)))

pub returns-in-Err-migrate-clause-cause : goal.returns-in-Err-migrate-clause-cause
returns-in-Err-migrate-clause-cause g c is =
    let new : StoreState = record { contents = c.migrate.new.tables.tables; journal = c.migrate.new.journal } in
    let first : Side = record { told = g.D.Disk.told c.close_pair-first-in-Err-migrate.result.0; faults = g.D.Disk.disk_faults c.close_pair-first-in-Err-migrate.result.0 } in
    let second : Side = record { told = g.D.Disk.told c.close_pair-first-in-Err-migrate.result.1; faults = g.D.Disk.disk_faults c.close_pair-first-in-Err-migrate.result.1 } in
    fault_rises c.in-Ok-read_tables.tables.tables c.in-Ok.journal c.read_tables.new.journal new _ _ first second c.read_tables.ensures.same c.in-Ok.ensures.state.1 c.in-Ok.ensures.count_first c.in-Ok.ensures.count_second
    (rw is at c.in-Err-migrate.ensures.rewrites) c.close_pair-first-in-Err-migrate.ensures.first (sym c.close_pair-first-in-Err-migrate.ensures.second)
