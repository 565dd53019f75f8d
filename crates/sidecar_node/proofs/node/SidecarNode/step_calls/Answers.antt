use Rattle.std.proofs.Common.{refl}
use Rattle.sidecar_node.specs.declared.node.Seats.{Seats}
use Rattle.sidecar_node.proofs.Makings.{steps_told}
use Rattle.sidecar_node.proofs.Givings.{calls_acts, calls_spent}
use Rattle.sidecar_node.proofs.node.SidecarNode.step_calls.Goals as goal

pub returns-clause-entry : goal.returns-clause-entry
returns-clause-entry g c =
    let after : Seats = record { parts = c.args.seats.now.parts; books = c.args.seats.now.books; calls = c.call_in.new.seat } in
    calls_acts c.args.event c.call_in.result c.args.seats.now after refl refl (steps_told _ _ _ _ c.call_in.ensures.entry c.call_in.ensures.spent)

pub returns-clause-spent : goal.returns-clause-spent
returns-clause-spent g c =
    let after : Seats = record { parts = c.args.seats.now.parts; books = c.args.seats.now.books; calls = c.call_in.new.seat } in
    calls_spent c.args.event c.call_in.result c.args.seats.now after (steps_told _ _ _ _ c.call_in.ensures.entry c.call_in.ensures.spent)
