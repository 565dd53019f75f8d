use Rattle.sidecar_requests.proofs.Held.{held_read}
use Rattle.sidecar_requests.proofs.state.serve_held.Goals as goal

pub returns-in_default-clause-served : goal.returns-in_default-clause-served
returns-in_default-clause-served g c =
    let desk = c.args.desk.now in
    let held = c.exchange_held in
    let x = held.ensures.held in (
      x.0,
      x.1,
      x.2,
      x.3,
      held_read desk.node.now desk.links.store_at held.new.desk.seats c.args.actor c.args.ask c.args.n (g.K.Clock.shown desk.clock) (g.K.Clock.shown held.new.desk.clock) x.0 x.1 held.result c.in_default.not-Transact x.4,
    )

pub returns-in-Transact-clause-served : goal.returns-in-Transact-clause-served
returns-in-Transact-clause-served g c =
    let w = c.write_held.ensures.written in (w.0, w.1, w.2, w.3, rw c.in-Transact.is w.4)
