use Rattle.exchanges.specs.Replies.{place_at}
use Rattle.sidecar_server.proofs.Turns.{new_link}
use Rattle.sidecar_server.proofs.beats.dial_placement.Goals as goal

pub invariant_of-result : goal.invariant_of-result
invariant_of-result g c = new_link g.N.Dial.dialled g.N.Link.Source.read_traffic (place_at c.next_address-at.result) _ _ c.in-Ok.link c.in-Ok.ensures.dials
