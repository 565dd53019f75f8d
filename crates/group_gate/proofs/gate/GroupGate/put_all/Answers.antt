use Rattle.std.proofs.Common.{◌<◌, ◌∙◌, length, refl, arith}
use Rattle.group_gate.proofs.Paying.{answer_there, slot_last, owes_last, settles_less}
use Rattle.group_gate.proofs.Views.{own_slot}
use Rattle.group_gate.proofs.gate.GroupGate.put_all.Goals as goal

pub put-requires-clause-seat : goal.put-requires-clause-seat
put-requires-clause-seat g c =
    let held = c.loop-place.invariant.0 in
    (held.table, held.live, own_slot _ _ _ _ (slot_last c.args.self.now c.args.at c.loop-place.seat c.loop-place.core held c.pop.new.self.items c.in-Some.place c.in-Some.ensures.items))

pub put-requires-clause-owed : goal.put-requires-clause-owed
put-requires-clause-owed g c =
    let held = c.loop-place.invariant.0 in
    owes_last c.args.self.now c.args.at c.loop-place.seat c.loop-place.core held c.pop.new.self.items c.in-Some.place c.in-Some.ensures.items
    c.pop-in-Some.new.self.items c.in-Some-pop.answer c.in-Some-pop.ensures.items

pub loop-place-preserved : goal.loop-place-preserved
loop-place-preserved g c =
    let inv = c.loop-place.invariant in let held = inv.0 in let core = c.loop-place.core in let paid = c.put.ensures in
    let less = settles_less c.args.self.now c.args.at c.loop-place.seat core held c.pop.new.self.items c.in-Some.place c.in-Some.ensures.items
    c.pop-in-Some.new.self.items c.in-Some-pop.answer c.in-Some-pop.ensures.items c.put.new.seat
    record { machine = core.machine; asks = core.asks; answers = c.pop-in-Some.new.self; places = c.pop.new.self } paid.seat.0 paid.seat.1 paid.paid refl refl refl refl
    (held.room.0, omega (arith, held.room.1, c.pop-in-Some.ensures.capacity), omega (arith, held.room.2, c.pop.ensures.capacity)) in
    (less.0, less.1 ∙ inv.1)

pub unreachable-requires : goal.unreachable-requires
unreachable-requires g c =
    let core = c.loop-place.core in
    let some_ : 0 < length core.answers.items =
    answer_there c.args.self.now c.args.at c.loop-place.seat core c.loop-place.invariant.0 c.pop.new.self.items c.in-Some.place c.in-Some.ensures.items in
    omega (arith, some_, c.in-None.ensures.cases.0, core.answers.ok.0)
