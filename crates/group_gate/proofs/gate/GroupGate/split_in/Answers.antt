use Rattle.std.proofs.Common.{rules}
use Rattle.group_gate.proofs.Meetings.{splits}
use Rattle.group_gate.proofs.gate.GroupGate.split_in.Goals as goal

pub split_seat-requires : goal.split_seat-requires
split_seat-requires g c = (search rules, search rules, splits _ _ _ _ _)
