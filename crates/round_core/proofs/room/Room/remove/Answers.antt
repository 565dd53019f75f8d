use Rattle.std.proofs.Common.{◌≡◌, true, [], ◌∷◌, ◌++◌, None, length, refl, ap, sym, subst, ◌∙◌, rules, arith}
use Rattle.round_core.specs.declared.record.RoomRecord as declared
use Rattle.round_core.specs.declared.event.PlaceEvent.TheVariants as events
use Rattle.round_core.specs.declared.event.PlaceReply.TheVariants as replies
use Rattle.member_roster.specs.Members.{is_here, without_node}
use Rattle.round_core.specs.Openings.{IsNewOrUsed}
use Rattle.round_core.specs.Sound.{IsRoomSound}
use Rattle.round_core.specs.Room.{RoomState, Says}
use Rattle.round_core.specs.Views.{RoundState, RoomView}
use Rattle.round_core.proofs.Giving.{settled_gives, here_some}
use Rattle.round_core.proofs.Openings.{told_kept}
use Rattle.round_core.proofs.Sound.{removed_sound, settle_sound}
use Rattle.round_core.proofs.room.Room.remove.Goals as goal

pub push_reserved-requires : goal.push_reserved-requires
push_reserved-requires c =
    let h : c.remove.result ≡ true = search rules in
    let here : is_here c.self.inside.rounds.state.members c.args.member ≡ true = sym c.remove.ensures.here ∙ h in
    let some = here_some c.self.inside.rounds.state.members c.args.member here in
    let count = c.len-members.ensures.count in
    let capacity = c.len-members.ensures.capacity in
    let kept = c.self.invariant.0 in
    let none = ap (λ (r : declared.RoomRecord). length r.removed.members) c.clear_record.ensures in
    let same = ap (λ (r : declared.RoomRecord). r.removed.capacity) c.clear_record.ensures in
    omega arith

pub returns-clause-leave : goal.returns-clause-leave
returns-clause-leave c = λ now.
    let st : c.self.inside.rounds.state ≡ c.args.self.now.state = ap (λ (v : RoomView). v.state) c.self.view_is in
    let h : c.remove.result ≡ true = search rules in
    let here : is_here c.args.self.now.state.members c.args.member ≡ true = rw (← st) (sym c.remove.ensures.here ∙ h) in
    let g = λ (s : RoomState). record s { members = without_node s.members c.args.member.node; dirty = true } in
    let before : declared.RoomRecord = record c.clear_record.new.record_ { removed = c.push_reserved.new.self } in
    settled_gives c.args.self.now (events.Leave c.args.member) now c.remove.new.self c.go_on-self-inside.new.rounds (g c.args.self.now.state) before c.go_on-self-inside.new.record_ c.go_on-self-inside.result replies.Gone None (c.args.member ∷ []) (Says replies.Gone)
    (rw here refl) refl refl
    (ap (λ (r : RoundState). r.state) (c.remove.ensures.removed h) ∙ ap g st)
    c.go_on-self-inside.ensures.rounds
    (ap (λ (r : declared.RoomRecord). r.joined) c.clear_record.ensures)
    (c.push_reserved.ensures.members ∙ ap (λ (r : declared.RoomRecord). r.removed.members ++ c.args.member ∷ []) c.clear_record.ensures)
    c.go_on-self-inside.ensures.noted
    c.go_on-self-inside.ensures.changed
    refl

pub returns-clause-lost : goal.returns-clause-lost
returns-clause-lost c = λ now.
    let st : c.self.inside.rounds.state ≡ c.args.self.now.state = ap (λ (v : RoomView). v.state) c.self.view_is in
    let h : c.remove.result ≡ true = search rules in
    let here : is_here c.args.self.now.state.members c.args.member ≡ true = rw (← st) (sym c.remove.ensures.here ∙ h) in
    let g = λ (s : RoomState). record s { members = without_node s.members c.args.member.node; dirty = true } in
    let before : declared.RoomRecord = record c.clear_record.new.record_ { removed = c.push_reserved.new.self } in
    settled_gives c.args.self.now (events.Lost c.args.member) now c.remove.new.self c.go_on-self-inside.new.rounds (g c.args.self.now.state) before c.go_on-self-inside.new.record_ c.go_on-self-inside.result replies.Gone None (c.args.member ∷ []) (Says replies.Gone)
    (rw here refl) refl refl
    (ap (λ (r : RoundState). r.state) (c.remove.ensures.removed h) ∙ ap g st)
    c.go_on-self-inside.ensures.rounds
    (ap (λ (r : declared.RoomRecord). r.joined) c.clear_record.ensures)
    (c.push_reserved.ensures.members ∙ ap (λ (r : declared.RoomRecord). r.removed.members ++ c.args.member ∷ []) c.clear_record.ensures)
    c.go_on-self-inside.ensures.noted
    c.go_on-self-inside.ensures.changed
    refl

pub invariant_of-self-2 : goal.invariant_of-self-2
invariant_of-self-2 c =
    let h : c.remove.result ≡ true = search rules in
    let e = ap (λ (r : RoundState). r.state) (c.remove.ensures.removed h) in
    let kept = told_kept c.self.inside.rounds.state c.remove.new.self.state c.args.member c.self.invariant.1 (sym c.remove.ensures.here ∙ h) (ap (λ (s : RoomState). s.next_version) e) in
    let sound = subst IsRoomSound (sym e) (removed_sound c.self.inside.rounds.state c.args.member.node c.self.invariant.2) in
    (search rules, subst (λ (r : RoundState). IsNewOrUsed r.state) (sym c.go_on-self-inside.ensures.rounds) kept, subst (λ (r : RoundState). IsRoomSound r.state) (sym c.go_on-self-inside.ensures.rounds) (settle_sound c.remove.new.self.state sound))
