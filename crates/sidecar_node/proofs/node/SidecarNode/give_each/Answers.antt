use Rattle.std.proofs.Common.{length, length-append, ap, sym, subst, arith, [], ◌∷◌, List}
use Rattle.part_model.specs.declared.event.PartEvent.{PartEvent}
use Rattle.sidecar_node.specs.Entries.{StepsAt}
use Rattle.sidecar_node.specs.Rounds.{part_event}
use Rattle.sidecar_node.specs.Turns.{Said}
use Rattle.sidecar_node.specs.Nodes.{GivesEach, part_seats}
use Rattle.sidecar_node.proofs.Givings.{gives_none, gives_more}
use Rattle.sidecar_node.proofs.node.SidecarNode.give_each.Goals as goal

pub loop-part-init : goal.loop-part-init
loop-part-init g c = record {
  seats = c.requires.seats;
  many = ap (λ (xs : List Said). length xs) c.requires.none;
  room = c.requires.room;
  gives = subst (λ (xs : List Said). GivesEach (part_event c.args.event.now) xs c.args.seats.now c.args.seats.now) (sym c.requires.none) (gives_none (part_event c.args.event.now) c.args.seats.now);
}

pub loop-part-preserved : goal.loop-part-preserved
loop-part-preserved g c =
    let said = c.call_part-said.result in
    let inv = c.loop-part.invariant in
    let steps = subst (λ (e : PartEvent). StepsAt c.loop-part.part e said (part_seats c.loop-part.seats) (part_seats c.call_part-said.new.seats)) c.in_ok-given.ensures.is c.call_part-said.ensures.steps in
    let many = inv.many in
    let room = inv.room in
    let more = ap (λ (xs : List Said). length xs) c.push_reserved.ensures.items in
    let capacity = c.push_reserved.ensures.capacity in
    record {
      seats = c.call_part-said.ensures.seats;
      many = omega (arith, length-append c.loop-part.saids.items (said ∷ []));
      room = omega arith;
      gives = subst (λ (xs : List Said). GivesEach (part_event c.args.event.now) xs c.args.seats.now c.call_part-said.new.seats) (sym c.push_reserved.ensures.items)
          (gives_more c.loop-part.part (part_event c.args.event.now) c.loop-part.saids.items said c.args.seats.now c.loop-part.seats c.call_part-said.new.seats inv.many inv.gives steps c.call_part-said.ensures.others);
    }
