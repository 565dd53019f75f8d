use Rattle.std.proofs.Common.{◌≡◌, true, sym, ◌∙◌}
use Rattle.member_roster.specs.Members.{is_here}
use Rattle.round_core.proofs.Beats.{quiet_beat}
use Rattle.round_core.proofs.room.Room.beat_reply.Goals as goal

pub returns-then-is_resting : goal.returns-then-is_resting
returns-then-is_resting c =
    let s = c.self.inside.rounds.state in
    let here : is_here s.members c.args.member.now ≡ true = sym c.is_here.ensures ∙ c.if-is_here.true in
    rw (← c.self.view_is, c.reply_for.ensures) (quiet_beat s c.args.member.now here (c.is_resting.ensures c.if-is_resting.true))
