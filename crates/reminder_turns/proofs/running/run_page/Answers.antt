use Rattle.std.proofs.Common.{◌<◌, ◌≤◌, ◌∙◌, ◌+◌, refl, List, length, drop}
use Rattle.frame_wire.specs.declared.store_answer.DueEntry.{DueEntry}
use Rattle.reminder_turns.proofs.Runs.{drop_here, drop_end, start, run_on, run_over, run_through}
use Rattle.reminder_turns.proofs.running.run_page.Goals as goal

pub loop-entry-init : goal.loop-entry-init
loop-entry-init g c =
    let desk = c.args.desk.now in
    record {
      node = refl;
      seats = c.requires;
      progress = start desk.node.now desk.links.app_at desk.links.store_at c.args.entries.now (g.K.Clock.shown desk.clock) desk.seats _ _ _ _;
      places = (refl, refl);
      peers = refl;
    }

pub loop-entry-preserved : goal.loop-entry-preserved
loop-entry-preserved g c =
    let i = c.loop-entry.invariant in
    let ran = c.run_one-ran.ensures in
    let xs : List DueEntry = c.args.entries.now in
    let within : c.loop-entry.entry-index < length xs = c.loop-entry-test.true in
    let here = drop_here xs c.loop-entry.entry-index c.entry-item.result within c.entry-item.is in
    let of_node = rw i.node at ran.runs in
    let of_app = rw i.places.0 at of_node in
    let runs = rw i.places.1 at of_app in
    record {
      node = ran.node ∙ i.node;
      seats = rw i.node at ran.seats;
      progress = run_on (drop (c.loop-entry.entry-index + 1) xs) c.saturating_add-turns.result c.either-faulted.result _ i.progress here runs c.in-None.is c.saturating_add-turns.ensures c.either-faulted.ensures;
      places = (ran.places.0 ∙ i.places.0, ran.places.1 ∙ i.places.1);
      peers = ran.peers ∙ i.peers;
    }

pub returns-in-Some-clause-runs : goal.returns-in-Some-clause-runs
returns-in-Some-clause-runs g c =
    let i = c.loop-entry.invariant in
    let xs : List DueEntry = c.args.entries.now in
    let within : c.loop-entry.entry-index < length xs = c.loop-entry-test.true in
    let here = drop_here xs c.loop-entry.entry-index c.entry-item.result within c.entry-item.is in
    let of_node = rw i.node at c.run_one-ran.ensures.runs in
    let of_app = rw i.places.0 at of_node in
    let runs = rw i.places.1 at of_app in
    run_over (drop (c.loop-entry.entry-index + 1) xs) c.saturating_add-turns.result c.either-faulted.result c.in-Some.end _ i.progress here runs c.in-Some.is c.saturating_add-turns.ensures c.either-faulted.ensures

pub returns-clause-runs : goal.returns-clause-runs
returns-clause-runs g c =
    let xs : List DueEntry = c.args.entries.now in
    let over : length xs ≤ c.loop-entry.entry-index = c.loop-entry-test.false in
    run_through c.loop-entry.invariant.progress (drop_end xs c.loop-entry.entry-index over)
