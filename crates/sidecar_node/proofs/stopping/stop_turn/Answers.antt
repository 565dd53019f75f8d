use Rattle.std.proofs.Common.{[], ◌∷◌, ◌++◌, ◌∙◌, Option, refl, sym, ap}
use Rattle.step_gate.specs.declared.gate.Spent.{Spent}
use Rattle.sidecar_node.specs.Turns.{first_or}
use Rattle.sidecar_node.proofs.Stops.{stops_none, stops_more, first_spent-push}
use Rattle.sidecar_node.proofs.stopping.stop_turn.Goals as goal

pub loop-part-init : goal.loop-part-init
loop-part-init g c = record { seats = c.requires; stops = ([], stops_none c.args.seats, refl) }

pub loop-part-preserved : goal.loop-part-preserved
loop-part-preserved g c =
    let said = c.call_part-said.result in
    let h = c.loop-part.invariant.stops in
    record {
      seats = c.call_part-said.ensures.seats;
      stops = (
        h.0 ++ said ∷ [],
        stops_more c.loop-part.part h.0 said c.args.seats c.loop-part.seats c.call_part-said.new.seats h.1 c.call_part-said.ensures.steps c.call_part-said.ensures.others,
        c.first_of-spent.ensures ∙ (ap (λ (x : Option Spent). first_or x said) h.2 ∙ sym (first_spent-push h.0 said)),
      );
    }
