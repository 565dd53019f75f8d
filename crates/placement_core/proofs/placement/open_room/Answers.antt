use Rattle.std.proofs.Common.{◌≡◌, ◌<◌, List, length, sym, ap, subst, true, false, arith}
use Rattle.std.specs.Prelude.{nat_le, ◌==◌}
use Rattle.round_core.specs.Views.{RoomView}
use Rattle.round_core.specs.Room.{RoomState, new_room}
use Rattle.round_core.specs.declared.event.PlaceEvent.{PlaceEvent}
use Rattle.round_core.specs.declared.event.PlaceEvent.TheVariants as events
use Rattle.round_core.specs.declared.event.PlaceReply.TheVariants as replies
use Rattle.round_core.specs.Records.{step_record}
use Rattle.placement_core.specs.Entries.{EntryOf, noted}
use Rattle.placement_core.specs.Views.{LeavesAny}
use Rattle.placement_core.proofs.Recorded.{leaves_any, opened_leaves}
use Rattle.placement_core.specs.Placement.{most_spaces}
use Rattle.placement_core.proofs.Steps.{opened_gives, not_at_most, not_zero}
use Rattle.placement_core.proofs.placement.open_room.Goals.{in-OutOfMemory, in_default}
use Rattle.placement_core.proofs.placement.open_room.Goals as goal

pub returns-in-Ok-clause-gives : goal.returns-in-Ok-clause-gives
returns-in-Ok-clause-gives c =
    let rs = c.args.rooms.now.rooms in
    let count = c.len-spaces.ensures.count in
    let less : length rs < 64 = omega arith in
    let few : nat_le most_spaces (length rs) ≡ false = not_at_most 64 (length rs) less in
    let booted : (c.args.host.member.boot == 0) ≡ false = not_zero c.args.host.member.boot c.if-member-eq0.false in
    let opening : c.new-room.result.state ≡ new_room = ap (λ (v : RoomView). v.state) c.new-room.ensures.opening in
    let not : c.match-matches.matches ≡ false = c.if-matches.false in
    let off : c.step-reply.result ≡ replies.OutOfMemory → ⊥ = elim c.match-matches.branch [ in-OutOfMemory w ↦ let yes : c.match-matches.matches ≡ true = w.matches-is in λ e. absurd (cc) | in_default w ↦ w.in_default.not-OutOfMemory ] in
    opened_gives c.args.host c.args.now c.step-reply.result rs c.insert.new.self.rooms c.new-room.result c.step-reply.new.self c.requires.kept c.requires.free few booted opening off c.step-reply.ensures.gives c.in-Ok.ensures.ok

pub returns-in-Ok-clause-recent : goal.returns-in-Ok-clause-recent
returns-in-Ok-clause-recent c =
    let rs = c.args.rooms.now.rooms in
    let count = c.len-spaces.ensures.count in
    let less : length rs < 64 = omega arith in
    let few : nat_le most_spaces (length rs) ≡ false = not_at_most 64 (length rs) less in
    let booted : (c.args.host.member.boot == 0) ≡ false = not_zero c.args.host.member.boot c.if-member-eq0.false in
    let opening : c.new-room.result.state ≡ new_room = ap (λ (v : RoomView). v.state) c.new-room.ensures.opening in
    let space = c.args.host.member.space in
    let event : PlaceEvent = events.Register c.args.host in
    let h = leaves_any event c.args.now c.step-reply.result c.new-room.result c.step-reply.new.self space c.step-reply.ensures.gives in
    let a = subst (λ (s : RoomState). LeavesAny event c.step-reply.result (noted space (step_record s event c.args.now)) (noted space c.step-reply.new.self.recent)) opening h in
    let b = subst (λ (es : List EntryOf). LeavesAny event c.step-reply.result (noted space (step_record new_room event c.args.now)) es) (sym c.in-Ok.ensures.recent) a in
    opened_leaves c.args.host c.args.now c.step-reply.result rs c.insert.new.self.recent c.requires.kept c.requires.free few booted b
