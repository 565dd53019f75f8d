use Rattle.std.proofs.Common.{◌≡◌, ◌≤◌, List, None, Result, Ok, length, sym, ap, ◌∙◌, subst, arith}
use Rattle.std.proofs.lemmas.Result.{err_from_is_err_and}
use Rattle.actor_names.specs.Names.{default_space}
use Rattle.tx_journal.specs.Calls.{JournalState, told}
use Rattle.placement_core.specs.Placement.{SpaceRoom, PlacementState}
use Rattle.placement_node.specs.declared.error.PlacementOpenError.{PlacementOpenError}
use Rattle.placement_node.specs.Found.{restarted_of}
use Rattle.placement_node.specs.Ranges.{RoomsFit, StateFits, RecordFits}
use Rattle.placement_node.proofs.Fits.{new_fits}
use Rattle.placement_node.proofs.Reading.{told_same}
use Rattle.placement_node.proofs.Restarting.{start_refused, restart_few, all_are, restart_commits, restart_committed, restart_unwritten}
use Rattle.placement_node.proofs.Rooms.{restart_fits, restart_record_fits}
use Rattle.placement_node.proofs.Sent.{default_named}
use Rattle.placement_node.proofs.node.restart.Goals as goal

pub follow_all-requires-clause-fits : goal.follow_all-requires-clause-fits
follow_all-requires-clause-fits g c = subst RoomsFit (sym c.in_ok-replay.ensures) ((default_named, new_fits default_space), tt)

pub returns-in_err-follow_all-clause-refused : goal.returns-in_err-follow_all-clause-refused
returns-in_err-follow_all-clause-refused g c = let p = err_from_is_err_and c.from_residual-in_err-follow_all.result c.from_residual-in_err-follow_all.ensures.1 in rw (p.1, p.2)
    (let e = c.in_err-follow_all.field-0.0 in
    (c.in_err-follow_all.ensures.errors, λ files is held holds. start_refused c.args.now e c.in_ok-replay.replay held.payloads c.in_ok-replay.ensures c.in_err-follow_all.ensures.errors (c.in_err-follow_all.ensures.refused files is held holds)))

pub write_record-requires-clause-fits : goal.write_record-requires-clause-fits
write_record-requires-clause-fits g c =
    let rooms = c.follow_all.new.replay in
    let s = c.in_ok-placement.placement.state in
    let few : length s.rooms ≤ 64 = omega (arith, c.rooms-rooms.ensures.count, c.rooms-rooms.ensures.within) in
    subst RecordFits (sym c.in_ok-placement.ensures.recent) (restart_record_fits rooms c.args.now c.in_ok-follow_all.ensures.fits (restart_few (record { rooms = rooms }) s c.args.now c.in_ok-placement.ensures.state few))

pub returns-in_err-write_error-clause-crash : goal.returns-in_err-write_error-clause-crash
returns-in_err-write_error-clause-crash g c =
    let old = c.args.journal.now in
    let mid = c.follow_all.new.journal in
    let same = c.in_ok-follow_all.ensures.same in
    let alone : mid.other ≡ None = ap (λ (k : JournalState). k.other) same ∙ c.requires.alone in
    let here : told mid ≡ told old = told_same old mid c.requires.alone alone (ap (λ (k : JournalState). k.live.told) same) in
    restart_commits c.args.now old mid c.write_record.new.journal c.in_ok-replay.replay c.follow_all.new.replay c.in_ok-placement.placement.recent c.in_ok-replay.ensures c.in_ok-follow_all.ensures.found c.in_ok-placement.ensures.recent here c.write_record.result c.write_record.ensures

pub returns-in_err-write_error-clause-refused : goal.returns-in_err-write_error-clause-refused
returns-in_err-write_error-clause-refused g c = let p = err_from_is_err_and c.from_residual-in_err-write_error.result c.from_residual-in_err-write_error.ensures.1 in rw (p.1, p.2)
    (let old = c.args.journal.now in
    let mid = c.follow_all.new.journal in
    let same = c.in_ok-follow_all.ensures.same in
    let alone : mid.other ≡ None = ap (λ (k : JournalState). k.other) same ∙ c.requires.alone in
    let here : told mid ≡ told old = told_same old mid c.requires.alone alone (ap (λ (k : JournalState). k.live.told) same) in
    restart_unwritten c.args.now old mid c.write_record.new.journal c.in_ok-replay.replay c.follow_all.new.replay c.in_ok-placement.placement.recent c.in_ok-replay.ensures c.in_ok-follow_all.ensures.found c.in_ok-placement.ensures.recent here c.write_record.result c.in_err-write_error.field-0.0
    (sym c.write_error.ensures ∙ c.in_err-write_error.was) c.write_record.ensures c.len-len.ensures.measured c.in_ok-follow_all.ensures.works)

pub returns-clause-fits : goal.returns-clause-fits
returns-clause-fits g c = (subst StateFits (sym c.in_ok-placement.ensures.state) (restart_fits c.follow_all.new.replay c.args.now c.in_ok-follow_all.ensures.fits), c.rooms-rooms.ensures.order)

pub returns-clause-committed : goal.returns-clause-committed
returns-clause-committed g c =
    let old = c.args.journal.now in
    let mid = c.follow_all.new.journal in
    let same = c.in_ok-follow_all.ensures.same in
    let alone : mid.other ≡ None = ap (λ (k : JournalState). k.other) same ∙ c.requires.alone in
    let here : told mid ≡ told old = told_same old mid c.requires.alone alone (ap (λ (k : JournalState). k.live.told) same) in
    restart_committed c.args.now old mid c.write_record.new.journal c.in_ok-replay.replay c.follow_all.new.replay c.in_ok-placement.placement.recent c.in_ok-replay.ensures c.in_ok-follow_all.ensures.found c.in_ok-placement.ensures.recent here c.write_record.result c.in_ok-write_error.field-0
    (sym c.write_error.ensures ∙ c.in_ok-write_error.was) c.write_record.ensures

pub returns-clause-crash : goal.returns-clause-crash
returns-clause-crash g c =
    let old = c.args.journal.now in
    let mid = c.follow_all.new.journal in
    let same = c.in_ok-follow_all.ensures.same in
    let alone : mid.other ≡ None = ap (λ (k : JournalState). k.other) same ∙ c.requires.alone in
    let here : told mid ≡ told old = told_same old mid c.requires.alone alone (ap (λ (k : JournalState). k.live.told) same) in
    restart_commits c.args.now old mid c.write_record.new.journal c.in_ok-replay.replay c.follow_all.new.replay c.in_ok-placement.placement.recent c.in_ok-replay.ensures c.in_ok-follow_all.ensures.found c.in_ok-placement.ensures.recent here c.write_record.result c.write_record.ensures

pub returns-clause-opened : goal.returns-clause-opened
returns-clause-opened g c = λ files is held holds.
    let old = c.args.journal.now in
    let mid = c.follow_all.new.journal in
    let same = c.in_ok-follow_all.ensures.same in
    let alone : mid.other ≡ None = ap (λ (k : JournalState). k.other) same ∙ c.requires.alone in
    let here : told mid ≡ told old = told_same old mid c.requires.alone alone (ap (λ (k : JournalState). k.live.told) same) in
    ap (λ (r : Result (List SpaceRoom) PlacementOpenError). restarted_of r c.args.now) (all_are c.args.now old mid c.write_record.new.journal c.in_ok-replay.replay c.follow_all.new.replay c.in_ok-placement.placement.recent c.in_ok-replay.ensures c.in_ok-follow_all.ensures.found c.in_ok-placement.ensures.recent here files is held holds)
    ∙ ap (λ (s : PlacementState). Ok s) (sym c.in_ok-placement.ensures.state)
