use Rattle.std.proofs.Common.{◌≡◌, ℕ, ◌++◌, None, length, refl, ap, sym, subst, ◌∙◌, rules}
use Rattle.round_core.specs.declared.record.RoomRecord as declared
use Rattle.round_core.specs.declared.event.PlaceEvent.TheVariants as events
use Rattle.round_core.specs.declared.event.PlaceReply.TheVariants as replies
use Rattle.member_roster.specs.Members.{late_of}
use Rattle.round_core.specs.Openings.{IsNewOrUsed}
use Rattle.round_core.specs.Sound.{IsRoomSound}
use Rattle.round_core.specs.Room.{RoomState, Says, drop_late, settle_round}
use Rattle.round_core.specs.Views.{RoundState, RoomView}
use Rattle.round_core.proofs.Giving.{settled_gives}
use Rattle.round_core.proofs.Openings.{dropped_kept}
use Rattle.round_core.proofs.Sound.{dropped_sound, settle_sound}
use Rattle.round_core.proofs.room.Room.tick.Goals as goal

pub returns : goal.returns
returns c =
    let st : c.self.inside.rounds.state ≡ c.args.self.now.state = ap (λ (v : RoomView). v.state) c.self.view_is in
    let g = λ (s : RoomState). (drop_late s c.args.now).state in
    let before : declared.RoomRecord = record c.clear_record.new.record_ { removed = c.drop_late-dropped.new.removed } in
    settled_gives c.args.self.now events.Tick c.args.now c.drop_late-dropped.new.self c.go_on-self-inside.new.rounds (g c.args.self.now.state) before c.go_on-self-inside.new.record_ c.go_on-self-inside.result (replies.Ticked c.drop_late-dropped.result) None (late_of c.args.self.now.state.members c.args.now) (Says (replies.Ticked (length (late_of c.args.self.now.state.members c.args.now))))
    refl refl refl
    (ap (λ (r : RoundState). r.state) c.drop_late-dropped.ensures.state ∙ ap g st)
    c.go_on-self-inside.ensures.rounds
    (ap (λ (r : declared.RoomRecord). r.joined) c.clear_record.ensures)
    (c.drop_late-dropped.ensures.late ∙ ap (λ (r : declared.RoomRecord). r.removed.members ++ late_of c.self.inside.rounds.state.members c.args.now) c.clear_record.ensures ∙ ap (λ (s : RoomState). late_of s.members c.args.now) st)
    c.go_on-self-inside.ensures.noted
    c.go_on-self-inside.ensures.changed
    (ap (λ (n : ℕ). replies.Ticked n) (c.drop_late-dropped.ensures.count ∙ ap (λ (s : RoomState). length (late_of s.members c.args.now)) st))

pub invariant_of-self : goal.invariant_of-self
invariant_of-self c =
    let e = ap (λ (r : RoundState). r.state) c.drop_late-dropped.ensures.state in
    let kept = dropped_kept c.self.inside.rounds.state c.args.now c.self.invariant.1 in
    let sound = subst IsRoomSound (sym e) (dropped_sound c.self.inside.rounds.state c.args.now (drop_late c.self.inside.rounds.state c.args.now).state.dirty c.self.invariant.2) in
    (search rules, subst (λ (r : RoundState). IsNewOrUsed r.state) (sym c.go_on-self-inside.ensures.rounds) (subst (λ (s : RoomState). IsNewOrUsed (settle_round s)) (sym e) kept), subst (λ (r : RoundState). IsRoomSound r.state) (sym c.go_on-self-inside.ensures.rounds) (settle_sound c.drop_late-dropped.new.self.state sound))
