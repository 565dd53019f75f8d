use Rattle.std.proofs.lemmas.Result.{err_from_is_err_and}
use Rattle.store_payloads.specs.Laws.{snapshot_payloads}
use Rattle.store_core.proofs.Rowed.{boot_payloads, lane_payloads, state_payloads, reminder_payloads, snapshot_is}
use Rattle.store_core.proofs.Staged.{missed_first, missed_second, missed_third, missed_last, added_all, stopped_all}
use Rattle.store_core.proofs.staging.add_rows.Goals as goal

pub add_lanes-requires-clause-consistent : goal.add_lanes-requires-clause-consistent
add_lanes-requires-clause-consistent g c = c.in_ok-boots.ensures.adds.1.consistent

pub add_entries-requires-clause-consistent : goal.add_entries-requires-clause-consistent
add_entries-requires-clause-consistent g c = c.in_ok-lanes.ensures.adds.1.consistent

pub add_reminders-requires-clause-consistent : goal.add_reminders-requires-clause-consistent
add_reminders-requires-clause-consistent g c = c.in_ok-entries.ensures.adds.1.consistent

pub returns-in_err-boots : goal.returns-in_err-boots
returns-in_err-boots g c =
    let p = err_from_is_err_and c.from_residual.result c.from_residual.ensures.1 in
    rw (p.1, p.2) (missed_first c.args.tables.now.tables (boot_payloads c.args.now c.args.tables.now.tables.nodes) (lane_payloads c.args.now c.args.tables.now.tables.nodes) (state_payloads c.args.now c.args.tables.now.tables.rows) (reminder_payloads c.args.now c.args.tables.now.tables.reminders) (snapshot_payloads c.args.now c.args.tables.now.tables) (snapshot_is c.args.now c.args.tables.now.tables) c.args.journal.now c.requires.may.paired _ c.add_boots.new.journal c.in_err-boots.ensures.adds)

pub returns-in_err-lanes : goal.returns-in_err-lanes
returns-in_err-lanes g c =
    let p = err_from_is_err_and c.from_residual-in_err-lanes.result c.from_residual-in_err-lanes.ensures.1 in
    rw (p.1, p.2) (missed_second c.args.tables.now.tables (boot_payloads c.args.now c.args.tables.now.tables.nodes) (lane_payloads c.args.now c.args.tables.now.tables.nodes) (state_payloads c.args.now c.args.tables.now.tables.rows) (reminder_payloads c.args.now c.args.tables.now.tables.reminders) (snapshot_payloads c.args.now c.args.tables.now.tables) (snapshot_is c.args.now c.args.tables.now.tables) c.args.journal.now c.requires.may.paired c.add_boots.new.journal c.in_ok-boots.ensures.adds.1 _ c.add_lanes.new.journal c.in_err-lanes.ensures.adds)

pub returns-in_err-entries : goal.returns-in_err-entries
returns-in_err-entries g c =
    let p = err_from_is_err_and c.from_residual-in_err-entries.result c.from_residual-in_err-entries.ensures.1 in
    rw (p.1, p.2) (missed_third c.args.tables.now.tables (boot_payloads c.args.now c.args.tables.now.tables.nodes) (lane_payloads c.args.now c.args.tables.now.tables.nodes) (state_payloads c.args.now c.args.tables.now.tables.rows) (reminder_payloads c.args.now c.args.tables.now.tables.reminders) (snapshot_payloads c.args.now c.args.tables.now.tables) (snapshot_is c.args.now c.args.tables.now.tables) c.args.journal.now c.requires.may.paired c.add_boots.new.journal c.in_ok-boots.ensures.adds.1 c.add_lanes.new.journal c.in_ok-lanes.ensures.adds.1 _ c.add_entries.new.journal c.in_err-entries.ensures.adds)

pub returns-in_err-reminders : goal.returns-in_err-reminders
returns-in_err-reminders g c =
    let p = err_from_is_err_and c.from_residual-in_err-reminders.result c.from_residual-in_err-reminders.ensures.1 in
    rw (p.1, p.2) (missed_last c.args.tables.now.tables (boot_payloads c.args.now c.args.tables.now.tables.nodes) (lane_payloads c.args.now c.args.tables.now.tables.nodes) (state_payloads c.args.now c.args.tables.now.tables.rows) (reminder_payloads c.args.now c.args.tables.now.tables.reminders) (snapshot_payloads c.args.now c.args.tables.now.tables) (snapshot_is c.args.now c.args.tables.now.tables) c.args.journal.now c.requires.may.paired c.add_boots.new.journal c.in_ok-boots.ensures.adds.1 c.add_lanes.new.journal c.in_ok-lanes.ensures.adds.1 c.add_entries.new.journal c.in_ok-entries.ensures.adds.1 _ c.add_reminders.new.journal c.in_err-reminders.ensures.adds)

pub returns-in-Some : goal.returns-in-Some
returns-in-Some g c = added_all c.args.tables.now.tables (boot_payloads c.args.now c.args.tables.now.tables.nodes) (lane_payloads c.args.now c.args.tables.now.tables.nodes) (state_payloads c.args.now c.args.tables.now.tables.rows) (reminder_payloads c.args.now c.args.tables.now.tables.reminders) (snapshot_payloads c.args.now c.args.tables.now.tables) (snapshot_is c.args.now c.args.tables.now.tables) c.args.journal.now c.requires.may.paired c.add_boots.new.journal c.in_ok-boots.ensures.adds.1 c.add_lanes.new.journal c.in_ok-lanes.ensures.adds.1 c.add_entries.new.journal c.in_ok-entries.ensures.adds.1 c.add_reminders.new.journal c.in_ok-reminders.ensures.adds.1 c.in_ok-boots.boots c.in_ok-lanes.lanes c.in_ok-entries.entries c.in_ok-reminders.reminders c.in-Some.sum c.in_ok-boots.ensures.adds.0 c.in_ok-lanes.ensures.adds.0 c.in_ok-entries.ensures.adds.0 c.in_ok-reminders.ensures.adds.0 c.in-Some.ensures

pub returns : goal.returns
returns g c = stopped_all c.args.tables.now.tables (boot_payloads c.args.now c.args.tables.now.tables.nodes) (lane_payloads c.args.now c.args.tables.now.tables.nodes) (state_payloads c.args.now c.args.tables.now.tables.rows) (reminder_payloads c.args.now c.args.tables.now.tables.reminders) (snapshot_payloads c.args.now c.args.tables.now.tables) (snapshot_is c.args.now c.args.tables.now.tables) c.args.journal.now c.requires.may.paired c.add_boots.new.journal c.in_ok-boots.ensures.adds.1 c.add_lanes.new.journal c.in_ok-lanes.ensures.adds.1 c.add_entries.new.journal c.in_ok-entries.ensures.adds.1 c.add_reminders.new.journal c.in_ok-reminders.ensures.adds.1
