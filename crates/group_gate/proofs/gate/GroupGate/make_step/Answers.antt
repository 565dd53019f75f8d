use Rattle.std.proofs.Common.{arith, refl, ◌∙◌}
use Rattle.group_gate.proofs.Gathering.{settles_step}
use Rattle.group_gate.proofs.gate.GroupGate.make_step.Goals as goal

pub returns-clause-settles : goal.returns-clause-settles
returns-clause-settles g c =
    let held = c.requires.gathers in let kept = c.record.ensures in
    (settles_step g.M.Grouped.takes c.args.self.now c.args.at c.args.seat.now c.record.new.seat c.args.core.now
    record { machine = c.step_all.new.self; asks = c.step_all.new.asks; answers = c.step_all.new.answers; places = c.args.core.now.places } kept.owed.0 held (kept.seat.0 ∙ held.table) kept.seat.1
    (kept.owed.1 c.args.core.now.machine held.asked held.turn) c.step_all.ensures.emptied refl c.step_all.ensures.answered
    (omega (arith, held.room.0, c.step_all.ensures.room.0), omega (arith, held.room.1, c.step_all.ensures.room.1), held.room.2)).0

pub returns-clause-view : goal.returns-clause-view
returns-clause-view g c =
    let held = c.requires.gathers in let kept = c.record.ensures in
    (settles_step g.M.Grouped.takes c.args.self.now c.args.at c.args.seat.now c.record.new.seat c.args.core.now
    record { machine = c.step_all.new.self; asks = c.step_all.new.asks; answers = c.step_all.new.answers; places = c.args.core.now.places } kept.owed.0 held (kept.seat.0 ∙ held.table) kept.seat.1
    (kept.owed.1 c.args.core.now.machine held.asked held.turn) c.step_all.ensures.emptied refl c.step_all.ensures.answered
    (omega (arith, held.room.0, c.step_all.ensures.room.0), omega (arith, held.room.1, c.step_all.ensures.room.1), held.room.2)).1
