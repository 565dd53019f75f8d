use Rattle.std.proofs.Common.{refl}
use Rattle.sidecar_node.specs.declared.node.Seats.{Seats}
use Rattle.sidecar_node.proofs.Givings.{one_book_acts, book_spent}
use Rattle.sidecar_node.proofs.node.SidecarNode.step_book.Goals as goal

pub returns-clause-entry : goal.returns-clause-entry
returns-clause-entry g c =
    let after : Seats = record { parts = c.args.seats.now.parts; books = c.call_row.new.seats; calls = c.args.seats.now.calls } in
    one_book_acts c.args.book c.args.event c.call_row.result c.args.seats.now after c.call_row.ensures.steps refl refl

pub returns-clause-spent : goal.returns-clause-spent
returns-clause-spent g c =
    let after : Seats = record { parts = c.args.seats.now.parts; books = c.call_row.new.seats; calls = c.args.seats.now.calls } in
    book_spent c.args.book c.args.event c.call_row.result c.args.seats.now after c.call_row.ensures.steps
