use Rattle.std.proofs.Common.{refl, sym, subst, ◌++◌, [], rules, arith}
use Rattle.member_core.specs.declared.route.Hop.TheVariants as hops
use Rattle.actors_api.specs.declared.refusal.ApiRefusal.TheVariants as refusals
use Rattle.sidecar_node.specs.declared.node.SidecarNode.{SidecarNode}
use Rattle.sidecar_node.specs.Nodes.{host_of, IsSeatsOf}
use Rattle.sidecar_node.proofs.Actings.{acts_none, acts_at_then}
use Rattle.exchanges.proofs.Diallings.{none_made, dialling_then}
use Rattle.actor_calls.proofs.Routings.{hops_left, route_stops, route_ends, route_goes_on}
use Rattle.actor_calls.proofs.hopping.«+hop_on».Goals as goal

pub returns-in-NotRising-clause-routed : goal.returns-in-NotRising-clause-routed
returns-in-NotRising-clause-routed g t c =
    let desk = c.args.desk.now in (
      [],
      [],
      [],
      acts_none desk.seats,
      none_made _ _,
      none_made _ _,
      route_stops _ desk.seats (host_of desk.node.now).member desk.links.app_at c.args.invoke.now c.args.request.now c.args.route c.args.version c.args.owner (hops.NotRising c.in-NotRising.last c.in-NotRising.version) (g.K.Clock.shown desk.clock) (refusals.NotRising c.in-NotRising.last c.in-NotRising.version) c.in-NotRising.ensures.answer refl,
    )

pub returns-in-Moved-clause-routed : goal.returns-in-Moved-clause-routed
returns-in-Moved-clause-routed g t c =
    let desk = c.args.desk.now in (
      [],
      [],
      [],
      acts_none desk.seats,
      none_made _ _,
      none_made _ _,
      route_stops _ desk.seats (host_of desk.node.now).member desk.links.app_at c.args.invoke.now c.args.request.now c.args.route c.args.version c.args.owner (hops.Moved c.in-Moved.versions) (g.K.Clock.shown desk.clock) (refusals.Moved c.in-Moved.versions) c.in-Moved.ensures.answer refl,
    )

pub returns-in-Answered-clause-routed : goal.returns-in-Answered-clause-routed
returns-in-Answered-clause-routed g t c =
    let desk = c.args.desk.now in
    let h = c.in-Answered.ensures.hop in (
      h.0,
      h.1,
      h.2,
      h.3,
      h.4,
      h.5,
      route_ends _ c.hop_once.new.desk.seats (host_of desk.node.now).member desk.links.app_at c.args.invoke.now c.args.request.now c.args.route c.args.version c.args.owner (hops.Go c.in-Go.to c.in-Go.least) c.in-Go.to c.in-Go.least refl c.in-Go.ensures.answer _ _ h.0 h.1 h.2 _ h.6,
    )

pub returns-clause-routed : goal.returns-clause-routed
returns-clause-routed g t c =
    let desk = c.args.desk.now in
    let h = c.in-Moves.ensures.hop in
    let r = rw c.in-Moves.ensures.node at c.hop_on.ensures.routed in (
      h.0 ++ r.0,
      h.1 ++ r.1,
      h.2 ++ r.2,
      acts_at_then _ h.0 r.0 _ _ _ h.3 r.3,
      dialling_then h.1 r.1 _ _ _ _ _ _ h.4 r.4,
      dialling_then h.2 r.2 _ _ _ _ _ _ h.5 r.5,
      route_goes_on _ c.hop_on.new.desk.seats (host_of desk.node.now).member desk.links.app_at c.args.invoke.now c.args.request.now c.args.route c.args.version c.args.owner (hops.Go c.in-Go.to c.in-Go.least) c.in-Go.to c.in-Go.least refl c.in-Go.ensures.answer c.hop_once.new.desk.seats _ _ _ _ _ h.0 r.0 h.1 r.1 h.2 r.2 _ _ _ c.in-Moves.ensures.places.0 c.in-Go.ensures.hops h.6 r.6,
    )

pub hop_on-requires : goal.hop_on-requires
hop_on-requires g t c κs within =
    let h = hops_left c.args.route c.hop.new.self c.args.version c.args.owner c.in-Go.to c.in-Go.least c.requires.few c.in-Go.ensures.answer c.in-Go.ensures.hops in
    let fewer = h.0 in
    let after = c.hop_once.new.desk in
    let seats : IsSeatsOf after.node.now after.seats = subst (λ (n : SidecarNode). IsSeatsOf n after.seats) (sym c.hop_once.ensures.node) c.hop_once.ensures.seats in
    let few = h.1 in
    (first_of (search rules, omega (arith, fewer)), (within.0, (within.1.0, (within.1.1.0, (within.1.1.1.0, (within.1.1.1.1.0, (within.1.1.1.1.1.0, (within.1.1.1.1.1.1.0, (within.1.1.1.1.1.1.1, (search rules, (search rules, search rules)))))))))))
