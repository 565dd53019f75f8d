use Rattle.std.proofs.Common.{◌<◌, length, refl, arith}
use Rattle.step_gate.specs.Gates.{IsSeatOf}
use Rattle.sidecar_node.proofs.Places.{get_here, along_set}
use Rattle.sidecar_node.proofs.Makings.{steps_told}
use Rattle.sidecar_node.proofs.rows.call_row.Goals as goal

pub call_in-requires-clause-seat : goal.call_in-requires-clause-seat
call_in-requires-clause-seat g c =
    let many = c.requires.seats.many in
    let inside : c.args.place < length c.args.seats.now.items = omega arith in
    c.requires.seats.each c.args.place _ _ (get_here _ _ _ c.requires.place c.index.ensures) (get_here _ _ _ inside c.index_mut.ensures.value)

pub returns-clause-seats : goal.returns-clause-seats
returns-clause-seats g c =
    along_set (λ k gate seat. IsSeatOf g.M.Machine.moves gate seat) _ _ c.args.place _ _ c.requires.seats (get_here _ _ _ c.requires.place c.index.ensures) c.call_in.ensures.seat

pub returns-clause-steps : goal.returns-clause-steps
returns-clause-steps g c =
    let many = c.requires.seats.many in
    let inside : c.args.place < length c.args.seats.now.items = omega arith in
    record {
      old = c.index_mut.result.now;
      new = c.call_in.new.seat;
      was = get_here _ _ _ inside c.index_mut.ensures.value;
      is = refl;
      steps = steps_told _ _ _ _ c.call_in.ensures.entry c.call_in.ensures.spent;
    }
