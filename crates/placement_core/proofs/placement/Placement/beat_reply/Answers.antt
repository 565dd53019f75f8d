use Rattle.std.proofs.Common.{sym}
use Rattle.placement_core.proofs.Beats.{option_quiet}
use Rattle.placement_core.proofs.placement.Placement.beat_reply.Goals as goal

pub returns-in-Some : goal.returns-in-Some
returns-in-Some c =
    rw (← c.self.view_is)
    (option_quiet c.self.inside.rooms.rooms c.args.member.now c.in-Some.room.now.state c.beat_reply.result (sym c.in-Some.ensures) c.beat_reply.ensures)
