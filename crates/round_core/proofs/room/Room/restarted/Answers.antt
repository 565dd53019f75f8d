use Rattle.std.proofs.Common.{◌≡◌, rules, ap, sym, ◌∙◌, subst}
use Rattle.round_core.specs.declared.record.RoomRecord as declared
use Rattle.round_core.specs.Openings.{IsNewOrUsed}
use Rattle.round_core.specs.Sound.{IsRoomSound, HaveFewTypes}
use Rattle.round_core.specs.Room.{RoomState, room_restarted}
use Rattle.round_core.specs.Records.{restart_record}
use Rattle.round_core.specs.Views.{RoundState, RoomView}
use Rattle.round_core.specs.Runs.{ForgetsNothing}
use Rattle.round_core.proofs.Giving.{restarted_gives}
use Rattle.round_core.proofs.Openings.{restart_kept}
use Rattle.round_core.proofs.Reached.{restart_forgets}
use Rattle.round_core.proofs.Sound.{restart_sound}
use Rattle.round_core.proofs.Types.{restart_types}
use Rattle.round_core.proofs.room.Room.restarted.Goals as goal

pub returns-clause-recent : goal.returns-clause-recent
returns-clause-recent c =
    let st : c.self.inside.rounds.state ≡ c.args.self.now.state = ap (λ (v : RoomView). v.state) c.self.view_is in
    restarted_gives c.self.inside.rounds.state c.args.now c.clear_record.new.record_ c.restart-self-inside.new.record_ c.restart-self-inside.result
    c.restart-self-inside.ensures.noted
    (ap (λ (r : declared.RoomRecord). r.joined) c.clear_record.ensures)
    (ap (λ (r : declared.RoomRecord). r.removed.members) c.clear_record.ensures)
    c.restart-self-inside.ensures.changed
    ∙ ap (λ (s : RoomState). restart_record s c.args.now) st

pub returns-clause-remembers : goal.returns-clause-remembers
returns-clause-remembers c =
    let st : c.self.inside.rounds.state ≡ c.args.self.now.state = ap (λ (v : RoomView). v.state) c.self.view_is in
    let e : c.restart-self-inside.new.rounds.state ≡ room_restarted c.args.self.now.state c.args.now = ap (λ (r : RoundState). r.state) c.restart-self-inside.ensures.rounds ∙ ap (λ (s : RoomState). room_restarted s c.args.now) st in
    subst (λ (t : RoomState). ForgetsNothing c.args.self.now.state t) (sym e) (restart_forgets c.args.self.now.state c.args.now (subst IsNewOrUsed st c.self.invariant.1))

pub returns-clause-types : goal.returns-clause-types
returns-clause-types c = λ h.
    let st : c.self.inside.rounds.state ≡ c.args.self.now.state = ap (λ (v : RoomView). v.state) c.self.view_is in
    let e : c.restart-self-inside.new.rounds.state ≡ room_restarted c.args.self.now.state c.args.now = ap (λ (r : RoundState). r.state) c.restart-self-inside.ensures.rounds ∙ ap (λ (s : RoomState). room_restarted s c.args.now) st in
    subst HaveFewTypes (sym e) (restart_types c.args.self.now.state c.args.now h)

pub invariant_of-self : goal.invariant_of-self
invariant_of-self c =
    (search rules, subst (λ (r : RoundState). IsNewOrUsed r.state) (sym c.restart-self-inside.ensures.rounds) (restart_kept c.self.inside.rounds.state c.args.now c.restart-self-inside.ensures.used), subst (λ (r : RoundState). IsRoomSound r.state) (sym c.restart-self-inside.ensures.rounds) (restart_sound c.self.inside.rounds.state c.args.now c.self.invariant.2))

pub returns-clause-sound : goal.returns-clause-sound
returns-clause-sound c = subst (λ (r : RoundState). IsRoomSound r.state) (sym c.restart-self-inside.ensures.rounds) (restart_sound c.self.inside.rounds.state c.args.now c.self.invariant.2)
