use Rattle.actor_calls.proofs.calling.call_peer.Goals as goal

pub returns : goal.returns
returns g c =
    let x = c.hand_on-got.ensures in (x.0, record { got = c.hand_on-got.result; exchange = x.1; reads = c.peer_next.ensures }, x.2)
