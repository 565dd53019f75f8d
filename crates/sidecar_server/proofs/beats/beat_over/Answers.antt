use Rattle.std.proofs.Common.{ap, sym, subst, inr}
use Rattle.actor_names.specs.declared.address.Address.{Address}
use Rattle.place_table.specs.declared.host.HostInfo.{HostInfo}
use Rattle.exchanges.specs.Replies.{place_at}
use Rattle.sidecar_server.specs.Links.{IsOneOf}
use Rattle.sidecar_server.specs.Works.{MayTurn}
use Rattle.sidecar_server.proofs.Turns.{used_link, turn_takes, turn_may}
use Rattle.sidecar_server.proofs.beats.beat_over.Goals as goal

pub invariant_of-used : goal.invariant_of-used
invariant_of-used g c = used_link g.N.Dial.dialled g.N.Link.Source.read_traffic _ _ _ _ _ _ _ _ _ _ _ c.link.invariant c.placement_turn-seats.ensures.turn

pub returns-clause-turn : goal.returns-clause-turn
returns-clause-turn g c =
    subst (λ (a : Address). MayTurn g.N.Dial.dialled g.N.Link.Source.read_traffic g.K.Clock.shown c.args.service.now.node.now (place_at a) c.args.pass.seats c.placement_turn-seats.result.0) c.link.view_is
    (turn_may g.N.Dial.dialled g.N.Link.Source.read_traffic g.K.Clock.shown _ _ _ _ _ _ _ _ _ _ _ _ c.now_ms-sent.ensures.shows c.link.invariant c.placement_turn-seats.ensures.turn)

pub returns-clause-event : goal.returns-clause-event
returns-clause-event g c =
    rw c.turn_event.ensures (turn_takes g.N.Dial.dialled g.N.Link.Source.read_traffic g.K.Clock.shown _ _ _ _ _ _ _ _ _ _ _ _
    (ap (λ (h : HostInfo). h.member) (sym c.host.ensures)) c.placement_turn-seats.ensures.seats c.now_ms-sent.ensures.shows _ (subst (λ (a : Address). IsOneOf c.args.service.now.placement a) (sym c.link.view_is) c.requires.leads) c.link.invariant c.placement_turn-seats.ensures.turn)

pub returns-clause-alternates : goal.returns-clause-alternates
returns-clause-alternates g c = inr (_, _, c.kept_link.ensures, c.turned_by.ensures)
