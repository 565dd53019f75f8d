use Rattle.std.proofs.Common.{rules, arith}
use Rattle.group_gate.proofs.Keeps.{sits_down}
use Rattle.group_gate.proofs.gate.GroupGate.try_sit.Goals as goal

pub compare_exchange-found-requires : goal.compare_exchange-found-requires
compare_exchange-found-requires g c =
    let sized = c.args.self.now.sized in let place = c.requires.place in
    (search rules, omega arith, sits_down _ _ _ _ _ _ _ place.0 (omega arith) c.requires.seat.idle.live c.requires.seat.idle.idle)
