use Rattle.std.proofs.Common.{◌≡◌, ◌<◌, ℕ, true, false, [], Some, None, refl, ap, sym, subst, ◌∙◌, arith, rules}
use Rattle.std.specs.Prelude.{nat_le}
use Rattle.round_core.specs.declared.record.RoomRecord as declared
use Rattle.round_core.specs.declared.event.PlaceEvent.TheVariants as events
use Rattle.member_roster.specs.Members.{is_here, of_node, greatest_boot, with_node, heard_at}
use Rattle.round_core.specs.Openings.{IsNewOrUsed}
use Rattle.round_core.specs.Sound.{IsRoomSound}
use Rattle.round_core.specs.Room.{RoomState, Tells, reply_for, settle_round, is_full, with_joined}
use Rattle.round_core.specs.Views.{RoundState, RoomView}
use Rattle.round_core.proofs.Giving.{settled_gives, told_memory, had_memory, not_at_most, no_boot}
use Rattle.round_core.proofs.Openings.{told_kept, joined_kept}
use Rattle.round_core.proofs.Sound.{heard_sound, joined_sound, settle_sound}
use Rattle.round_core.proofs.room.Room.register.Goals as goal

pub returns-then-hear : goal.returns-then-hear
returns-then-hear c =
    let st : c.self.inside.rounds.state ≡ c.args.self.now.state = ap (λ (v : RoomView). v.state) c.self.view_is in
    let here : is_here c.args.self.now.state.members c.args.host.member ≡ true = rw (← st) (sym c.hear.ensures.here ∙ c.if-hear.true) in
    let g = λ (s : RoomState). record s { members = with_node s.members c.args.host.member.node (heard_at c.args.now) } in
    let told = c.reply_for.ensures in
    had_memory (events.Register c.args.host) c.args.now c.reply_for.result c.args.self.now _ (λ e. told_memory c.go_on-self-inside.new.rounds.state c.args.host.member (sym told ∙ e))
    (settled_gives c.args.self.now (events.Register c.args.host) c.args.now c.hear.new.self c.go_on-self-inside.new.rounds (g c.args.self.now.state) c.clear_record.new.record_ c.go_on-self-inside.new.record_ c.go_on-self-inside.result c.reply_for.result None [] (Tells c.args.host.member)
    (rw here refl) refl refl
    (ap (λ (r : RoundState). r.state) (c.hear.ensures.heard c.if-hear.true) ∙ ap g st)
    c.go_on-self-inside.ensures.rounds
    (ap (λ (r : declared.RoomRecord). r.joined) c.clear_record.ensures)
    (ap (λ (r : declared.RoomRecord). r.removed.members) c.clear_record.ensures)
    c.go_on-self-inside.ensures.noted
    c.go_on-self-inside.ensures.changed
    (c.reply_for.ensures ∙ ap (λ (r : RoundState). reply_for r.state c.args.host.member) c.go_on-self-inside.ensures.rounds ∙ ap (λ (s : RoomState). reply_for (settle_round s) c.args.host.member) (ap (λ (r : RoundState). r.state) (c.hear.ensures.heard c.if-hear.true) ∙ ap g st)))

pub returns-in-Ok : goal.returns-in-Ok
returns-in-Ok c =
    let st : c.self.inside.rounds.state ≡ c.args.self.now.state = ap (λ (v : RoomView). v.state) c.self.view_is in
    let same : c.hear.new.self ≡ c.self.inside.rounds = c.hear.ensures.stranger c.if-hear.false in
    let here : is_here c.args.self.now.state.members c.args.host.member ≡ false = rw (← st) (sym c.hear.ensures.here ∙ c.if-hear.false) in
    let less : c.greatest-greatest.result < c.args.host.member.boot = omega arith in
    let high : nat_le c.args.host.member.boot (greatest_boot c.args.self.now.state.boots c.args.host.member.node) ≡ false = rw (← st, ← same) (subst (λ (n : ℕ). nat_le c.args.host.member.boot n ≡ false) c.greatest-greatest.ensures (not_at_most c.args.host.member.boot c.greatest-greatest.result less)) in
    let free : of_node c.args.self.now.state.members c.args.host.member.node ≡ None = rw (← st, ← same) (no_boot _ (sym c.boot_at.ensures ∙ c.in_default.is)) in
    let places : is_full c.args.self.now.state c.args.host.member.node ≡ false = rw (← st, ← same) (sym c.is_full.ensures ∙ c.if-is_full.false) in
    let ok = c.in-Ok.ensures.ok in
    let joined : c.join.new.rounds.state ≡ with_joined c.args.self.now.state c.args.host c.args.now = rw (← st, ← same) ok.0 in
    let told = c.reply_for-in-Ok.ensures in
    had_memory (events.Register c.args.host) c.args.now c.reply_for-in-Ok.result c.args.self.now _ (λ e. told_memory c.go_on-self-inside-in-Ok.new.rounds.state c.args.host.member (sym told ∙ e))
    (settled_gives c.args.self.now (events.Register c.args.host) c.args.now c.join.new.rounds c.go_on-self-inside-in-Ok.new.rounds (with_joined c.args.self.now.state c.args.host c.args.now) c.join.new.record_ c.go_on-self-inside-in-Ok.new.record_ c.go_on-self-inside-in-Ok.result c.reply_for-in-Ok.result (Some c.args.host) [] (Tells c.args.host.member)
    (rw (here, high, free, places) refl) refl refl
    joined
    c.go_on-self-inside-in-Ok.ensures.rounds
    ok.1
    (c.join.ensures.removed ∙ ap (λ (r : declared.RoomRecord). r.removed.members) c.clear_record.ensures)
    c.go_on-self-inside-in-Ok.ensures.noted
    c.go_on-self-inside-in-Ok.ensures.changed
    (c.reply_for-in-Ok.ensures ∙ ap (λ (r : RoundState). reply_for r.state c.args.host.member) c.go_on-self-inside-in-Ok.ensures.rounds ∙ ap (λ (s : RoomState). reply_for (settle_round s) c.args.host.member) joined))

pub invariant_of-self : goal.invariant_of-self
invariant_of-self c =
    let e = ap (λ (r : RoundState). r.state) (c.hear.ensures.heard c.if-hear.true) in
    let kept = told_kept c.self.inside.rounds.state c.hear.new.self.state c.args.host.member c.self.invariant.1 (sym c.hear.ensures.here ∙ c.if-hear.true) (ap (λ (s : RoomState). s.next_version) e) in
    let sound = subst IsRoomSound (sym e) (heard_sound c.self.inside.rounds.state c.args.host.member.node c.args.now c.self.invariant.2) in
    (search rules, subst (λ (r : RoundState). IsNewOrUsed r.state) (sym c.go_on-self-inside.ensures.rounds) kept, subst (λ (r : RoundState). IsRoomSound r.state) (sym c.go_on-self-inside.ensures.rounds) (settle_sound c.hear.new.self.state sound))

pub invariant_of-self-in-Ok : goal.invariant_of-self-in-Ok
invariant_of-self-in-Ok c =
    let same : c.hear.new.self ≡ c.self.inside.rounds = c.hear.ensures.stranger c.if-hear.false in
    let joined : c.join.new.rounds.state ≡ with_joined c.self.inside.rounds.state c.args.host c.args.now = rw (← same) c.in-Ok.ensures.ok.0 in
    let kept = joined_kept c.self.inside.rounds.state c.args.host c.args.now c.self.invariant.1 in
    let less : c.greatest-greatest.result < c.args.host.member.boot = omega arith in
    let higher : greatest_boot c.self.inside.rounds.state.boots c.args.host.member.node < c.args.host.member.boot = rw (← same) (subst (λ (n : ℕ). n < c.args.host.member.boot) c.greatest-greatest.ensures less) in
    let free : of_node c.self.inside.rounds.state.members c.args.host.member.node ≡ None = rw (← same) (no_boot _ (sym c.boot_at.ensures ∙ c.in_default.is)) in
    let places : is_full c.self.inside.rounds.state c.args.host.member.node ≡ false = rw (← same) (sym c.is_full.ensures ∙ c.if-is_full.false) in
    let sound = subst IsRoomSound (sym joined) (joined_sound c.self.inside.rounds.state c.args.host c.args.now free places higher c.self.invariant.2) in
    (search rules, subst (λ (r : RoundState). IsNewOrUsed r.state) (sym c.go_on-self-inside-in-Ok.ensures.rounds) (subst (λ (s : RoomState). IsNewOrUsed (settle_round s)) (sym joined) kept), subst (λ (r : RoundState). IsRoomSound r.state) (sym c.go_on-self-inside-in-Ok.ensures.rounds) (settle_sound c.join.new.rounds.state sound))
