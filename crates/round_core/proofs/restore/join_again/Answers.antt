use Rattle.std.proofs.Common.{◌≡◌, true, ap, sym, ◌∙◌, subst}
use Rattle.place_table.specs.declared.host.HostInfo.{HostInfo}
use Rattle.round_core.specs.Records.{may_join}
use Rattle.round_core.specs.Room.{with_joined}
use Rattle.round_core.specs.Sound.{IsRoomSound}
use Rattle.round_core.proofs.Sound.{again_sound}
use Rattle.round_core.proofs.restore.join_again.Goals as goal

pub returns-clause-sound : goal.returns-clause-sound
returns-clause-sound c =
    let may : may_join c.args.rounds.now.state c.args.host.now ≡ true = sym c.may_join.ensures ∙ c.if-not-may_join.false in
    let joined : c.admit.new.rounds.state ≡ with_joined c.args.rounds.now.state c.args.host.now 0 = c.in_ok-admit.ensures.ok ∙ ap (λ (h : HostInfo). with_joined c.args.rounds.now.state h 0) c.in_ok-copy.ensures in
    subst IsRoomSound (sym joined) (again_sound c.args.rounds.now.state c.args.host.now may c.requires.sound)
