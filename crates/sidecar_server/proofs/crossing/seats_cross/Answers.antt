use denote.Struct.Declared.{fields, shape}
use denote.Param.Send.{AllSend, struct_send}
use Rattle.sidecar_node.specs.contracts.node.Seats as seats
use Rattle.sidecar_server.proofs.crossing.seats_cross.Goals as goal

pub returns : goal.returns
returns c =
    let T = seats.the_type in
    let parts : AllSend (fields T) = (record { owned = c.sent.ensures.owned; leaving = λ k d w. tt }, (record { owned = c.sent-2.ensures.owned; leaving = λ k d w. tt }, (record { owned = c.sent-3.ensures.owned; leaving = λ k d w. tt }, tt))) in
    struct_send (shape T) parts
