use Rattle.std.proofs.Common.{ℕ, ◌<◌, [], refl, length, subst, arith, inl}
use Rattle.sidecar_node.specs.declared.node.Seats.{Seats}
use Rattle.sidecar_node.specs.Nodes.{PartSeat, ActsAt, SpentAt}
use Rattle.sidecar_node.proofs.Places.{get_here}
use Rattle.sidecar_node.proofs.Actings.{acts_none, acts_on}
use Rattle.sidecar_node.proofs.Stops.{seats_put, spent_put, put_again}
use Rattle.sidecar_node.proofs.Beginning.{begins_by}
use Rattle.sidecar_node.proofs.Makings.{asked_then, full_of}
use Rattle.sidecar_node.proofs.turns.begin_turn.Goals as goal

pub returns-in-Err-clause-begins : goal.returns-in-Err-clause-begins
returns-in-Err-clause-begins g c = ([], acts_none c.args.seats.now, inl refl)

pub call_in-first-requires-clause-seat : goal.call_in-first-requires-clause-seat
call_in-first-requires-clause-seat g c =
    let inside = c.part_of-part.ensures.inside in
    let many = c.requires.parts.many in
    c.requires.parts.each c.part_of-part.result _ _ (get_here _ _ _ inside c.index-gate.ensures) (get_here c.args.seats.now.parts.items c.part_of-part.result _ (omega arith) c.remove-seat.ensures.value)

pub wait_turn-seat-requires-clause-full : goal.wait_turn-seat-requires-clause-full
wait_turn-seat-requires-clause-full g c = full_of c.call_in-first.result c.remove-seat.result c.call_in-first.new.seat c.call_in-first.ensures.spent

pub returns-in-Ok-clause-seats : goal.returns-in-Ok-clause-seats
returns-in-Ok-clause-seats g c =
    let part : ℕ = c.part_of-part.result in
    let inside = c.part_of-part.ensures.inside in
    let many = c.requires.parts.many in
    let there : part < length c.args.seats.now.parts.items = omega arith in
    let after : Seats = record { parts = c.put_at.new.row; books = c.args.seats.now.books; calls = c.args.seats.now.calls } in
    let new : PartSeat = c.wait_turn-seat.result.0 in
    seats_put c.args.node.now c.args.seats.now after part c.index-gate.result.now new c.requires (get_here _ _ _ inside c.index-gate.ensures) c.wait_turn-seat.ensures.seat
    (put_again c.args.seats.now after part c.remove-seat.result new c.remove-seat.new.self.items there c.remove-seat.ensures.items c.put_at.ensures) (refl, refl)

pub returns-in-Ok-clause-begins : goal.returns-in-Ok-clause-begins
returns-in-Ok-clause-begins g c =
    let part : ℕ = c.part_of-part.result in
    let inside = c.part_of-part.ensures.inside in
    let many = c.requires.parts.many in
    let there : part < length c.args.seats.now.parts.items = omega arith in
    let after : Seats = record { parts = c.put_at.new.row; books = c.args.seats.now.books; calls = c.args.seats.now.calls } in
    let new : PartSeat = c.wait_turn-seat.result.0 in
    let f = c.wait_turn-seat.ensures.follows in
    let b = asked_then c.in-Ok.ask c.call_in-first.result c.wait_turn-seat.result.1 c.remove-seat.result c.call_in-first.new.seat new f.0 c.call_in-first.ensures.entry c.call_in-first.ensures.spent f.1 f.2 in (
      b.0,
      subst (λ (p : ℕ). ActsAt p b.0 c.args.seats.now after) c.part_of-part.ensures.part
          (acts_on part b.0 c.args.seats.now after c.remove-seat.result new (get_here c.args.seats.now.parts.items part c.remove-seat.result there c.remove-seat.ensures.value)
          (put_again c.args.seats.now after part c.remove-seat.result new c.remove-seat.new.self.items there c.remove-seat.ensures.items c.put_at.ensures) (refl, refl) b.1),
      begins_by _ _ _ _ _ _ _ _ c.in-Ok.ensures.ask c.now_ms-now.ensures.shows b.2,
    )

pub returns-in-Ok-clause-spent : goal.returns-in-Ok-clause-spent
returns-in-Ok-clause-spent g c =
    let part : ℕ = c.part_of-part.result in
    let inside = c.part_of-part.ensures.inside in
    let many = c.requires.parts.many in
    let there : part < length c.args.seats.now.parts.items = omega arith in
    let after : Seats = record { parts = c.put_at.new.row; books = c.args.seats.now.books; calls = c.args.seats.now.calls } in
    let new : PartSeat = c.wait_turn-seat.result.0 in
    subst (λ (p : ℕ). SpentAt p c.wait_turn-seat.result.1 after) c.part_of-part.ensures.part
    (spent_put c.args.seats.now after part c.remove-seat.result new c.wait_turn-seat.result.1 (get_here c.args.seats.now.parts.items part c.remove-seat.result there c.remove-seat.ensures.value)
    (put_again c.args.seats.now after part c.remove-seat.result new c.remove-seat.new.self.items there c.remove-seat.ensures.items c.put_at.ensures) c.wait_turn-seat.ensures.full)
