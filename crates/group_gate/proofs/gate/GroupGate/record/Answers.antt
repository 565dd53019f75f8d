use Rattle.std.proofs.Common.{rules, arith, refl}
use Rattle.group_gate.proofs.Duties.{records}
use Rattle.group_gate.proofs.gate.GroupGate.record.Goals as goal

pub store-requires : goal.store-requires
store-requires g c =
    let sized = c.args.self.now.sized in let turn = c.requires.turn in
    (search rules, omega arith, records _ _ _ _ _ _ _ _ _ _ _ _ _ c.requires.seat.1 turn.2 c.requires.said turn.3 c.requires.at.0 c.requires.at.1 refl)
