use Rattle.std.proofs.Common.{ℕ, ◌<◌, ◌≤◌, length, Ok, Err, ap, sym, subst, ◌∙◌}
use Rattle.store_tables.specs.Tables.{Tables}
use Rattle.store_payloads.specs.Fits.{TablesFit}
use Rattle.store_payloads.specs.Laws.{snapshot_payloads}
use Rattle.tx_journal.specs.Calls.{next_number}
use Rattle.store_core.specs.Store.{IsConsistent}
use Rattle.store_core.specs.Compacts.{Misses, IsStaged}
use Rattle.store_core.proofs.Compacting.{compacted_contents, compact_broken, compact_short, ends_memory, start_refused, started, rows_missed}
use Rattle.store_core.proofs.Replacing.{end_refused, end_made}
use Rattle.store_core.proofs.Paired.{start_paired, missed_paired, end_paired}
use Rattle.store_core.proofs.compaction.compact.Goals as goal

pub returns-then-is_broken-clause-compacts : goal.returns-then-is_broken-clause-compacts
returns-then-is_broken-clause-compacts g c =
    compact_broken c.args.least c.args.now (record { contents = c.args.tables.now.tables; journal = c.args.journal.now }) c.ended.result (sym c.is_broken.ensures ∙ c.if-is_broken.true) c.ended.ensures

pub returns-then-len-least-clause-compacts : goal.returns-then-len-least-clause-compacts
returns-then-len-least-clause-compacts g c =
    rw (c.len-len.ensures.end) (compact_short c.args.least c.args.now c.args.tables.now.tables c.args.journal.now c.requires.consistent (sym c.is_broken.ensures ∙ c.if-is_broken.false) (subst (λ (n : ℕ). n < c.args.least) c.len-len.ensures.end c.if-len-least.true))

pub returns-then-is_err-clause-compacts : goal.returns-then-is_err-clause-compacts
returns-then-is_err-clause-compacts g c = rw (c.reserve_walk.ensures.tables) (ends_memory c.args.tables.now.tables c.args.now c.args.least c.args.journal.now (sym c.is_broken.ensures ∙ c.if-is_broken.false) c.requires.consistent (subst (λ (n : ℕ). c.args.least ≤ n) c.len-len.ensures.end c.if-len-least.false))

pub returns-in-Err-clause-compacts : goal.returns-in-Err-clause-compacts
returns-in-Err-clause-compacts g c =
    rw (c.reserve_walk.ensures.tables, c.ended-in-Err.ensures) (start_refused c.args.tables.now.tables c.args.now c.args.least c.args.journal.now (sym c.is_broken.ensures ∙ c.if-is_broken.false) c.requires.consistent (subst (λ (n : ℕ). c.args.least ≤ n) c.len-len.ensures.end c.if-len-least.false) c.in-Err.error c.compact_start.new.self (record { refused = c.in-Err.ensures.refused; taken = c.in-Err.ensures.taken; crash = c.in-Err.ensures.crash; kept = c.in-Err.ensures.kept; count = c.in-Err.ensures.count; begun = c.in-Err.ensures.begun }))

pub add_rows-requires-clause-may : goal.add_rows-requires-clause-may
add_rows-requires-clause-may g c = (started c.args.tables.now.tables c.args.now c.args.least c.args.journal.now (sym c.is_broken.ensures ∙ c.if-is_broken.false) c.requires.consistent (subst (λ (n : ℕ). c.args.least ≤ n) c.len-len.ensures.end c.if-len-least.false) c.in_default.field-0 c.compact_start.new.self (record { refused = c.in_default.ensures.refused; taken = c.in_default.ensures.taken; crash = c.in_default.ensures.crash; kept = c.in_default.ensures.kept; count = c.in_default.ensures.count; begun = c.in_default.ensures.begun })).may

pub add_rows-requires-clause-consistent : goal.add_rows-requires-clause-consistent
add_rows-requires-clause-consistent g c = subst (IsConsistent c.compact_start.new.self) (sym c.reserve_walk.ensures.tables) (started c.args.tables.now.tables c.args.now c.args.least c.args.journal.now (sym c.is_broken.ensures ∙ c.if-is_broken.false) c.requires.consistent (subst (λ (n : ℕ). c.args.least ≤ n) c.len-len.ensures.end c.if-len-least.false) c.in_default.field-0 c.compact_start.new.self (record { refused = c.in_default.ensures.refused; taken = c.in_default.ensures.taken; crash = c.in_default.ensures.crash; kept = c.in_default.ensures.kept; count = c.in_default.ensures.count; begun = c.in_default.ensures.begun })).holds

pub add_rows-requires-clause-fits : goal.add_rows-requires-clause-fits
add_rows-requires-clause-fits g c = subst TablesFit (sym c.reserve_walk.ensures.tables) c.requires.fits

pub returns-in-Err-add_rows-clause-compacts : goal.returns-in-Err-add_rows-clause-compacts
returns-in-Err-add_rows-clause-compacts g c =
    rw (c.reserve_walk.ensures.tables, c.ended-in-Err-add_rows.ensures) (rows_missed c.args.tables.now.tables c.args.now c.args.least c.args.journal.now (sym c.is_broken.ensures ∙ c.if-is_broken.false) c.requires.consistent (subst (λ (n : ℕ). c.args.least ≤ n) c.len-len.ensures.end c.if-len-least.false) c.compact_start.new.self (started c.args.tables.now.tables c.args.now c.args.least c.args.journal.now (sym c.is_broken.ensures ∙ c.if-is_broken.false) c.requires.consistent (subst (λ (n : ℕ). c.args.least ≤ n) c.len-len.ensures.end c.if-len-least.false) c.in_default.field-0 c.compact_start.new.self (record { refused = c.in_default.ensures.refused; taken = c.in_default.ensures.taken; crash = c.in_default.ensures.crash; kept = c.in_default.ensures.kept; count = c.in_default.ensures.count; begun = c.in_default.ensures.begun })) c.in-Err-add_rows.error c.add_rows.new.journal (subst (λ (u : Tables). Misses u (snapshot_payloads c.args.now u) c.in-Err-add_rows.error c.compact_start.new.self c.add_rows.new.journal) c.reserve_walk.ensures.tables c.in-Err-add_rows.ensures))

pub returns-in-Err-compact-clause-compacts : goal.returns-in-Err-compact-clause-compacts
returns-in-Err-compact-clause-compacts g c =
    rw (c.reserve_walk.ensures.tables, c.ended-in-Err-compact.ensures) (end_refused c.args.tables.now.tables c.args.now c.args.least c.args.journal.now (sym c.is_broken.ensures ∙ c.if-is_broken.false) c.requires.consistent (subst (λ (n : ℕ). c.args.least ≤ n) c.len-len.ensures.end c.if-len-least.false) (compacted_contents (next_number c.args.journal.now.generation) c.args.now c.args.tables.now.tables c.payload_law.ensures.snapshot c.requires.now c.requires.fits c.rows_law.ensures.restores c.rows_law.ensures.order) c.compact_start.new.self (started c.args.tables.now.tables c.args.now c.args.least c.args.journal.now (sym c.is_broken.ensures ∙ c.if-is_broken.false) c.requires.consistent (subst (λ (n : ℕ). c.args.least ≤ n) c.len-len.ensures.end c.if-len-least.false) c.in_default.field-0 c.compact_start.new.self (record { refused = c.in_default.ensures.refused; taken = c.in_default.ensures.taken; crash = c.in_default.ensures.crash; kept = c.in_default.ensures.kept; count = c.in_default.ensures.count; begun = c.in_default.ensures.begun })) c.add_rows.new.journal (subst (λ (u : Tables). IsStaged u (snapshot_payloads c.args.now u) c.compact_start.new.self c.add_rows.new.journal) c.reserve_walk.ensures.tables c.in-Ok.ensures.1) c.in-Err-compact.error c.compact.new.self (record { refused = c.in-Err-compact.ensures.refused; taken = c.in-Err-compact.ensures.taken; crash = c.in-Err-compact.ensures.crash; done = c.in-Err-compact.ensures.done }))

pub returns-clause-compacts : goal.returns-clause-compacts
returns-clause-compacts g c =
    rw (c.reserve_walk.ensures.tables) (end_made c.args.tables.now.tables c.args.now c.args.least c.args.journal.now (sym c.is_broken.ensures ∙ c.if-is_broken.false) c.requires.consistent (subst (λ (n : ℕ). c.args.least ≤ n) c.len-len.ensures.end c.if-len-least.false) (compacted_contents (next_number c.args.journal.now.generation) c.args.now c.args.tables.now.tables c.payload_law.ensures.snapshot c.requires.now c.requires.fits c.rows_law.ensures.restores c.rows_law.ensures.order) c.compact_start.new.self (started c.args.tables.now.tables c.args.now c.args.least c.args.journal.now (sym c.is_broken.ensures ∙ c.if-is_broken.false) c.requires.consistent (subst (λ (n : ℕ). c.args.least ≤ n) c.len-len.ensures.end c.if-len-least.false) c.in_default.field-0 c.compact_start.new.self (record { refused = c.in_default.ensures.refused; taken = c.in_default.ensures.taken; crash = c.in_default.ensures.crash; kept = c.in_default.ensures.kept; count = c.in_default.ensures.count; begun = c.in_default.ensures.begun })) c.add_rows.new.journal (subst (λ (u : Tables). IsStaged u (snapshot_payloads c.args.now u) c.compact_start.new.self c.add_rows.new.journal) c.reserve_walk.ensures.tables c.in-Ok.ensures.1) c.in_default-compact.field-0 c.in-Ok.rows c.compact.new.self (c.in-Ok.ensures.0 ∙ ap (λ (u : Tables). length (snapshot_payloads c.args.now u)) c.reserve_walk.ensures.tables) (record { refused = c.in_default-compact.ensures.refused; taken = c.in_default-compact.ensures.taken; crash = c.in_default-compact.ensures.crash; done = c.in_default-compact.ensures.done }))

pub returns-in-Err-clause-pair : goal.returns-in-Err-clause-pair
returns-in-Err-clause-pair g c = start_paired c.in-Err.error c.args.journal.now c.compact_start.new.self c.requires.pair (record { refused = c.in-Err.ensures.refused; taken = c.in-Err.ensures.taken; crash = c.in-Err.ensures.crash; kept = c.in-Err.ensures.kept; count = c.in-Err.ensures.count; begun = c.in-Err.ensures.begun })

pub returns-in-Err-add_rows-clause-pair : goal.returns-in-Err-add_rows-clause-pair
returns-in-Err-add_rows-clause-pair g c = missed_paired c.reserve_walk.new.self.tables (snapshot_payloads c.args.now c.reserve_walk.new.self.tables) c.in-Err-add_rows.error c.compact_start.new.self c.add_rows.new.journal c.in-Err-add_rows.ensures

pub returns-in-Err-compact-clause-pair : goal.returns-in-Err-compact-clause-pair
returns-in-Err-compact-clause-pair g c = end_paired (Err c.in-Err-compact.error) c.add_rows.new.journal c.compact.new.self c.in-Ok.ensures.1.paired (record { refused = c.in-Err-compact.ensures.refused; taken = c.in-Err-compact.ensures.taken; crash = c.in-Err-compact.ensures.crash; done = c.in-Err-compact.ensures.done })

pub returns-clause-pair : goal.returns-clause-pair
returns-clause-pair g c = end_paired (Ok c.in_default-compact.field-0) c.add_rows.new.journal c.compact.new.self c.in-Ok.ensures.1.paired (record { refused = c.in_default-compact.ensures.refused; taken = c.in_default-compact.ensures.taken; crash = c.in_default-compact.ensures.crash; done = c.in_default-compact.ensures.done })
