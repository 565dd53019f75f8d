use Rattle.std.proofs.Common.{rules, ap, sym, ◌∙◌, subst}
use Rattle.round_core.specs.declared.record.RoomRecord as declared
use Rattle.round_core.specs.Openings.{IsNewOrUsed}
use Rattle.round_core.specs.Sound.{IsRoomSound}
use Rattle.round_core.specs.Room.{RoomState}
use Rattle.round_core.specs.Records.{restart_record}
use Rattle.round_core.specs.Views.{RoundState}
use Rattle.round_core.proofs.Giving.{restarted_gives}
use Rattle.round_core.proofs.Openings.{restart_kept}
use Rattle.round_core.proofs.Sound.{restart_sound}
use Rattle.round_core.proofs.room.Room.from_replay.Goals as goal

pub returns-clause-recent : goal.returns-clause-recent
returns-clause-recent c =
    restarted_gives c.into_parts-rounds.result.1.state c.args.now c.clear_record.new.record_ c.restart-recorded.new.record_ c.restart-recorded.result
    c.restart-recorded.ensures.noted
    (ap (λ (r : declared.RoomRecord). r.joined) c.clear_record.ensures)
    (ap (λ (r : declared.RoomRecord). r.removed.members) c.clear_record.ensures)
    c.restart-recorded.ensures.changed
    ∙ ap (λ (s : RoomState). restart_record s c.args.now) c.into_parts-rounds.ensures.state

pub invariant_of-result : goal.invariant_of-result
invariant_of-result c =
    (search rules, subst (λ (r : RoundState). IsNewOrUsed r.state) (sym c.restart-recorded.ensures.rounds) (restart_kept c.into_parts-rounds.result.1.state c.args.now c.restart-recorded.ensures.used), subst (λ (r : RoundState). IsRoomSound r.state) (sym c.restart-recorded.ensures.rounds) (restart_sound c.into_parts-rounds.result.1.state c.args.now c.into_parts-rounds.ensures.sound))

pub returns-clause-sound : goal.returns-clause-sound
returns-clause-sound c = subst (λ (r : RoundState). IsRoomSound r.state) (sym c.restart-recorded.ensures.rounds) (restart_sound c.into_parts-rounds.result.1.state c.args.now c.into_parts-rounds.ensures.sound)
