use Rattle.std.proofs.Common.{◌≡◌, true, [], None, refl, ap, sym, subst, ◌∙◌, rules}
use Rattle.round_core.specs.declared.record.RoomRecord as declared
use Rattle.round_core.specs.declared.event.PlaceEvent.TheVariants as events
use Rattle.member_roster.specs.Members.{is_here, with_node}
use Rattle.round_core.specs.Openings.{IsNewOrUsed}
use Rattle.round_core.specs.Sound.{IsRoomSound}
use Rattle.round_core.specs.Room.{RoomState, Tells, reply_for, ack_change, settle_round}
use Rattle.round_core.specs.Views.{RoundState, RoomView}
use Rattle.round_core.proofs.Giving.{settled_gives}
use Rattle.round_core.proofs.Openings.{told_kept}
use Rattle.round_core.proofs.Sound.{acked_sound, settle_sound}
use Rattle.round_core.proofs.room.Room.ack.Goals as goal

pub returns : goal.returns
returns c =
    let st : c.self.inside.rounds.state ≡ c.args.self.now.state = ap (λ (v : RoomView). v.state) c.self.view_is in
    let h : c.ack.result ≡ true = search rules in
    let here : is_here c.args.self.now.state.members c.args.member ≡ true = rw (← st) (sym c.ack.ensures.here ∙ h) in
    let g = λ (s : RoomState). record s { members = with_node s.members c.args.member.node (ack_change s c.args.stage c.args.version c.args.now) } in
    settled_gives c.args.self.now (events.Ack c.args.member c.args.stage c.args.version) c.args.now c.ack.new.self c.go_on-self-inside.new.rounds (g c.args.self.now.state) c.clear_record.new.record_ c.go_on-self-inside.new.record_ c.go_on-self-inside.result c.reply_for.result None [] (Tells c.args.member)
    (rw here refl) refl refl
    (ap (λ (r : RoundState). r.state) (c.ack.ensures.acked h) ∙ ap g st)
    c.go_on-self-inside.ensures.rounds
    (ap (λ (r : declared.RoomRecord). r.joined) c.clear_record.ensures)
    (ap (λ (r : declared.RoomRecord). r.removed.members) c.clear_record.ensures)
    c.go_on-self-inside.ensures.noted
    c.go_on-self-inside.ensures.changed
    (c.reply_for.ensures ∙ ap (λ (r : RoundState). reply_for r.state c.args.member) c.go_on-self-inside.ensures.rounds ∙ ap (λ (s : RoomState). reply_for (settle_round s) c.args.member) (ap (λ (r : RoundState). r.state) (c.ack.ensures.acked h) ∙ ap g st))

pub invariant_of-self-2 : goal.invariant_of-self-2
invariant_of-self-2 c =
    let h : c.ack.result ≡ true = search rules in
    let e = ap (λ (r : RoundState). r.state) (c.ack.ensures.acked h) in
    let kept = told_kept c.self.inside.rounds.state c.ack.new.self.state c.args.member c.self.invariant.1 (sym c.ack.ensures.here ∙ h) (ap (λ (s : RoomState). s.next_version) e) in
    let sound = subst IsRoomSound (sym e) (acked_sound c.self.inside.rounds.state c.args.member.node c.args.stage c.args.version c.args.now c.self.invariant.2) in
    (search rules, subst (λ (r : RoundState). IsNewOrUsed r.state) (sym c.go_on-self-inside.ensures.rounds) kept, subst (λ (r : RoundState). IsRoomSound r.state) (sym c.go_on-self-inside.ensures.rounds) (settle_sound c.ack.new.self.state sound))
