use Rattle.sidecar_requests.proofs.Held.{held_in_vain}
use Rattle.sidecar_requests.proofs.state.hold_in_vain.Goals as goal

pub returns-clause-vain : goal.returns-clause-vain
returns-clause-vain g c =
    let s = c.release_step-said.ensures in
    held_in_vain c.args.node.now c.args.seats.now c.release_step-said.new.seats c.args.release c.args.refusal _ _ c.release_step-said.result c.unasked_answer.result s.clock s.entry s.spent c.unasked_answer.ensures
