use Rattle.std.proofs.Common.{◌∙◌, refl, None, Some}
use Rattle.reminder_turns.specs.declared.standing.Stand.TheVariants.{Last, Over}
use Rattle.reminder_turns.proofs.Pages.{start, page_on, pages_end}
use Rattle.reminder_turns.proofs.Faults.{turn_cause}
use Rattle.reminder_turns.proofs.turn.reminder_turn.Goals as goal

pub loop-init : goal.loop-init
loop-init g c =
    let desk = c.args.desk.now in
    record {
      node = refl;
      seats = c.requires;
      progress = start desk.node.now desk.links.app_at desk.links.store_at (g.K.Clock.shown desk.clock) desk.seats _ _ _ _;
      places = (refl, refl);
      peers = refl;
    }

last_turn : goal.returns-in-Last-clause-turn
last_turn g c =
    let i = c.loop.invariant in
    let of_node = rw i.node at c.take_page-paged.ensures.takes in
    let of_app = rw i.places.0 at of_node in
    let takes = rw i.places.1 at of_app in
    let p = page_on c.saturating_add-turns.result c.either-faulted.result i.progress takes c.saturating_add-turns.ensures c.either-faulted.ensures in
    pages_end Last None c.done_end.result (rw c.in-Last.is at p) (refl, refl) c.done_end.ensures

over_turn : goal.returns-in-Over-clause-turn
over_turn g c =
    let i = c.loop.invariant in
    let of_node = rw i.node at c.take_page-paged.ensures.takes in
    let of_app = rw i.places.0 at of_node in
    let takes = rw i.places.1 at of_app in
    let p = page_on c.saturating_add-turns.result c.either-faulted.result i.progress takes c.saturating_add-turns.ensures c.either-faulted.ensures in
    pages_end (Over c.in-Over.end) (Some c.in-Over.end) c.in-Over.end (rw c.in-Over.is at p) (refl, refl) refl

pub returns-in-Last-clause-turn : goal.returns-in-Last-clause-turn
returns-in-Last-clause-turn g c = last_turn g c

pub returns-in-Last-clause-cause : goal.returns-in-Last-clause-cause
returns-in-Last-clause-cause g c = turn_cause (last_turn g c)

pub returns-in-Over-clause-turn : goal.returns-in-Over-clause-turn
returns-in-Over-clause-turn g c = over_turn g c

pub returns-in-Over-clause-cause : goal.returns-in-Over-clause-cause
returns-in-Over-clause-cause g c = turn_cause (over_turn g c)

pub loop-preserved : goal.loop-preserved
loop-preserved g c =
    let i = c.loop.invariant in
    let took = c.take_page-paged.ensures in
    let of_node = rw i.node at took.takes in
    let of_app = rw i.places.0 at of_node in
    let takes = rw i.places.1 at of_app in
    let p = page_on c.saturating_add-turns.result c.either-faulted.result i.progress takes c.saturating_add-turns.ensures c.either-faulted.ensures in
    record {
      node = took.node ∙ i.node;
      seats = rw i.node at took.seats;
      progress = rw c.in-On.is at p;
      places = (took.places.0 ∙ i.places.0, took.places.1 ∙ i.places.1);
      peers = took.peers ∙ i.peers;
    }
