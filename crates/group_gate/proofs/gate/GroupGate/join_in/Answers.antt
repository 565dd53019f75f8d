use Rattle.std.proofs.Common.{rules, ap, ◌∙◌}
use Rattle.group_gate.proofs.Meetings.{joins}
use Rattle.group_gate.proofs.Steps.{looks}
use Rattle.group_gate.proofs.gate.GroupGate.join_in.Goals as goal

pub join_seat-requires : goal.join_seat-requires
join_seat-requires g c = (search rules, search rules, search rules, search rules, joins _ _ _ _ _ _ _ c.requires.kept.idle.live c.requires.given.idle.live)

pub load-requires : goal.load-requires
load-requires g c = (search rules, search rules, looks _ _ _ _ _ _ (ap (λ m. m.0.live) c.join_seat.ensures.2 ∙ c.requires.kept.idle.live))
