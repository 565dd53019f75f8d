use Rattle.std.proofs.Common.{rules}
use Rattle.group_gate.proofs.Steps.{looks}
use Rattle.group_gate.proofs.gate.GroupGate.sees_last.Goals as goal

pub load-requires : goal.load-requires
load-requires g c = (search rules, search rules, looks _ _ _ _ _ _ c.requires.idle.live)
