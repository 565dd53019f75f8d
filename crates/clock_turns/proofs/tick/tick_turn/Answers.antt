use Rattle.std.proofs.Common.{ap, ◌∙◌}
use Rattle.clock_turns.proofs.Ticks.{then_over, then_fired, ticked}
use Rattle.clock_turns.proofs.TickCauses.{tick_cause}
use Rattle.clock_turns.proofs.tick.tick_turn.Goals as goal

over : goal.returns-in-Some-clause-turn
over g c =
    let desk = c.args.desk.now in
    let at = desk.links.app_at in
    let closes = c.close_cells-closings in
    let mid = closes.new.desk in
    let shown = g.K.Clock.shown mid.clock in
    ticked desk.node.now at desk.seats mid.seats mid.seats _ _ _ _ _ _ (g.K.Clock.shown desk.clock) shown c.now_ms-now.result shown closes.result.faulted closes.result.end c.in-Some.end
    c.now_ms-now.ensures.never_falls (ap g.K.Clock.shown closes.ensures.clock ∙ c.now_ms-now.ensures.shows) closes.ensures.closes
    (then_over desk.node.now at closes.result.faulted closes.result.end mid.seats _ _ shown c.in-Some.end c.in-Some.is)

whole : goal.returns-in-None-clause-turn
whole g c =
    let desk = c.args.desk.now in
    let at = desk.links.app_at in
    let closes = c.close_cells-closings in
    let mid = closes.new.desk in
    let f = c.fire_timers-fired in
    let shown = g.K.Clock.shown mid.clock in
    let last = g.K.Clock.shown f.new.desk.clock in
    let fires = rw closes.ensures.node at f.ensures.fires in
    let fires_there = rw closes.ensures.places.0 at fires in
    ticked desk.node.now at desk.seats mid.seats f.new.desk.seats _ _ _ _ _ _ (g.K.Clock.shown desk.clock) shown c.now_ms-now.result last closes.result.faulted closes.result.end c.tick_end.result
    c.now_ms-now.ensures.never_falls (ap g.K.Clock.shown closes.ensures.clock ∙ c.now_ms-now.ensures.shows) closes.ensures.closes
    (then_fired desk.node.now at closes.result.faulted closes.result.end mid.seats f.new.desk.seats _ _ _ _ shown (g.K.Clock.shown c.now_ms-later.new.self) c.now_ms-later.result last f.result.turns f.result.faulted c.either-faulted.result f.result.end c.tick_end.result
    c.in-None.is c.now_ms-later.ensures.never_falls c.now_ms-later.ensures.shows fires_there c.either-faulted.ensures c.tick_end.ensures)

pub returns-in-Some-clause-turn : goal.returns-in-Some-clause-turn
returns-in-Some-clause-turn g c = over g c

pub returns-in-Some-clause-cause : goal.returns-in-Some-clause-cause
returns-in-Some-clause-cause g c =
    let desk = c.args.desk.now in
    let mid = c.close_cells-closings.new.desk in
    tick_cause desk.node.now desk.links.app_at desk.seats mid.seats _ _ _ _ _ _ c.in-Some.end (over g c)

pub returns-in-None-clause-turn : goal.returns-in-None-clause-turn
returns-in-None-clause-turn g c = whole g c

pub returns-in-None-clause-cause : goal.returns-in-None-clause-cause
returns-in-None-clause-cause g c =
    let desk = c.args.desk.now in
    tick_cause desk.node.now desk.links.app_at desk.seats c.fire_timers-fired.new.desk.seats _ _ _ _ _ _ c.tick_end.result (whole g c)
