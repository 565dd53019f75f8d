use Rattle.std.proofs.Common.{◌∙◌, Option, [], Some, None, refl, sym, ap}
use Rattle.sidecar_node.specs.Nodes.{part_at}
use Rattle.sidecar_node.proofs.Actings.{acts_none, acts_at_then}
use Rattle.reminder_turns.specs.declared.ends.TickEnd.{TickEnd}
use Rattle.reminder_turns.specs.Outcomes.{reported_end}
use Rattle.reminder_turns.proofs.Reports.{owed_full}
use Rattle.reminder_turns.proofs.Diallers.{kept_after, kept_before, none_kept}
use Rattle.reminder_turns.proofs.running.run_one.Goals as goal

pub returns-then-is_owed-clause-runs : goal.returns-then-is_owed-clause-runs
returns-then-is_owed-clause-runs g c =
    let desk = c.args.desk.now in
    let took = c.take_turn-turned in
    let told = c.report-reported in
    let t = took.ensures.turn in
    let reports = rw took.ensures.node at told.ensures.reports in
    let r = rw took.ensures.places.1 at reports in
    let owed = sym c.is_owed.ensures ∙ c.if-is_owed.true in
    let part = part_at desk.node.now c.args.entry.now.key.actor in
    record {
      run = record {
        entry = c.args.entry.now;
        first = g.K.Clock.shown desk.clock;
        last = g.K.Clock.shown took.new.desk.clock;
        turn = t.0;
        called = t.1;
        turned = took.result;
        drawn = r.0;
        told = r.1;
        reported = Some told.result;
      };
      entry_is = refl;
      first_is = refl;
      last_is = ap g.K.Clock.shown (sym told.ensures.clock);
      is = record { turn = t.4; report = (owed, r.4) };
      acts = acts_at_then part t.0 r.0 _ _ _ t.2 r.2;
      calls = kept_after g.A.Dial.dialled g.A.Dial.dial_faults took.new.desk.links.app told.new.desk.links.app told.ensures.others.0 t.1 _ _ t.3;
      asks = kept_before g.S.Dial.dialled g.S.Dial.dial_faults desk.links.store took.new.desk.links.store took.ensures.others.1 r.1 _ _ r.3;
      full = (owed_full part took.result told.new.desk.seats owed, rw took.ensures.node at told.ensures.full);
      turns_are = c.begun_in-turns.ensures;
      faulted_is = c.fault_in-faulted.ensures;
      end_is = c.reported_end-end.ensures ∙ ap (λ (early : Option TickEnd). reported_end early told.result) c.turned_end-early.ensures;
    }

pub returns-clause-runs : goal.returns-clause-runs
returns-clause-runs g c =
    let desk = c.args.desk.now in
    let took = c.take_turn-turned in
    let t = took.ensures.turn in
    let part = part_at desk.node.now c.args.entry.now.key.actor in
    record {
      run = record {
        entry = c.args.entry.now;
        first = g.K.Clock.shown desk.clock;
        last = g.K.Clock.shown took.new.desk.clock;
        turn = t.0;
        called = t.1;
        turned = took.result;
        drawn = [];
        told = [];
        reported = None;
      };
      entry_is = refl;
      first_is = refl;
      last_is = refl;
      is = record { turn = t.4; report = (sym c.is_owed.ensures ∙ c.if-is_owed.false, refl, refl) };
      acts = acts_at_then part t.0 [] _ _ _ t.2 (acts_none took.new.desk.seats);
      calls = t.3;
      asks = none_kept g.S.Dial.dialled g.S.Dial.dial_faults desk.links.store took.new.desk.links.store took.ensures.others.1;
      full = (took.ensures.full, tt);
      turns_are = c.begun_in-turns.ensures;
      faulted_is = c.fault_in-faulted.ensures;
      end_is = c.turned_end-early.ensures;
    }
