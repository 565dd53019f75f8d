use Rattle.std.proofs.Common.{subst}
use Rattle.frame_wire.specs.declared.store_command.Stamp.{Stamp}
use Rattle.exchanges.specs.Replies.{place_at}
use Rattle.exchanges.specs.Asked.{IsFrameAsked}
use Rattle.sidecar_requests.specs.Asks.{store_frame}
use Rattle.sidecar_requests.proofs.Held.{held_exchange}
use Rattle.sidecar_requests.proofs.state.exchange_held.Goals as goal

pub returns-clause-held : goal.returns-clause-held
returns-clause-held g c =
    let desk = c.args.desk.now in
    let x = c.ask_with-got.ensures in
    let got = c.ask_with-got.result in
    let s = c.release_step-said.ensures in
    let exchange = subst (λ (m : Stamp). IsFrameAsked (store_frame c.args.actor m c.args.epoch c.args.ask) (place_at desk.links.store_at) x.0 got) c.stamp_of-stamp.ensures x.1 in
    let h = held_exchange desk.node.now desk.links.store_at desk.seats c.release_step-said.new.seats c.args.actor c.args.ask c.args.release c.wanted-wanted.result c.args.n c.args.epoch _ _ got c.release_step-said.result x.0 c.held_answer.result
    c.requires.release c.wanted-wanted.ensures exchange s.clock s.entry s.spent c.held_answer.ensures in
    (h.0, x.0, h.1, x.2, h.2)
