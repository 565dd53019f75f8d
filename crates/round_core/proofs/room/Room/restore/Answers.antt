use Rattle.std.proofs.Common.{◌≡◌, List, ◌∙◌, ap, map, sym, subst, rules}
use Rattle.std.specs.declared.result.Result.TheVariants.{Ok}
use Rattle.round_core.specs.Openings.{IsNewOrUsed}
use Rattle.round_core.specs.Sound.{IsRoomSound}
use Rattle.round_core.specs.Room.{RoomState, new_room}
use Rattle.round_core.specs.Records.{RecordOf, record_of, after_records, IsBadAt}
use Rattle.round_core.specs.Views.{RoundState}
use Rattle.round_core.proofs.Openings.{restart_kept}
use Rattle.round_core.proofs.Sound.{new_sound, restart_sound}
use Rattle.round_core.proofs.Replays.{run_restarts, run_is_good}
use Rattle.round_core.proofs.room.Room.restore.Goals as goal

pub apply_records-requires-clause-sound : goal.apply_records-requires-clause-sound
apply_records-requires-clause-sound c = subst (λ (r : RoundState). IsRoomSound r.state) (sym c.new-rounds.ensures) new_sound

pub returns-in-Ok-clause-run : goal.returns-in-Ok-clause-run
returns-in-Ok-clause-run c = λ run e.
    let st : c.new-rounds.result.state ≡ new_room = ap (λ (r : RoundState). r.state) c.new-rounds.ensures in
    let after = subst (λ (rs : List RecordOf). after_records 0 new_room rs ≡ Ok c.apply_records.new.rounds.state) e (subst (λ (s : RoomState). after_records 0 s (map record_of c.args.records.now) ≡ Ok c.apply_records.new.rounds.state) st c.in-Ok.ensures.after) in
    ap (λ (r : RoundState). r.state) c.restart-recorded.ensures.rounds ∙ run_restarts run c.args.now c.apply_records.new.rounds.state after

pub returns-in-Err-clause-run_is_good : goal.returns-in-Err-clause-run_is_good
returns-in-Err-clause-run_is_good c = λ run e.
    let st : c.new-rounds.result.state ≡ new_room = ap (λ (r : RoundState). r.state) c.new-rounds.ensures in
    run_is_good c.in-Err.error run (subst (λ (rs : List RecordOf). IsBadAt c.in-Err.error (after_records 0 new_room rs)) e (subst (λ (s : RoomState). IsBadAt c.in-Err.error (after_records 0 s (map record_of c.args.records.now))) st c.in-Err.ensures.bad))

pub invariant_of-result : goal.invariant_of-result
invariant_of-result c =
    (search rules, subst (λ (r : RoundState). IsNewOrUsed r.state) (sym c.restart-recorded.ensures.rounds) (restart_kept c.apply_records.new.rounds.state c.args.now c.restart-recorded.ensures.used), subst (λ (r : RoundState). IsRoomSound r.state) (sym c.restart-recorded.ensures.rounds) (restart_sound c.apply_records.new.rounds.state c.args.now c.apply_records.ensures.sound))

pub returns-in-Ok-clause-sound : goal.returns-in-Ok-clause-sound
returns-in-Ok-clause-sound c = subst (λ (r : RoundState). IsRoomSound r.state) (sym c.restart-recorded.ensures.rounds) (restart_sound c.apply_records.new.rounds.state c.args.now c.apply_records.ensures.sound)
