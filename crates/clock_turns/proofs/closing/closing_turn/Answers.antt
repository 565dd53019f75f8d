use Rattle.std.proofs.Common.{ap, ◌∙◌}
use Rattle.clock_turns.proofs.ClosingCauses.{turned, turn_cause}
use Rattle.clock_turns.proofs.closing.closing_turn.Goals as goal

pub returns-clause-turn : goal.returns-clause-turn
returns-clause-turn g c =
    let desk = c.args.desk.now in
    let closes = c.close_cells-closings in
    turned desk.node.now desk.links.app_at c.now_ms-now.result _ desk.seats closes.new.desk.seats _ _ _ _ closes.result.faulted closes.result.end c.turn_end.result
    (ap g.K.Clock.shown closes.ensures.clock ∙ c.now_ms-now.ensures.shows) closes.ensures.closes c.turn_end.ensures

pub returns-clause-cause : goal.returns-clause-cause
returns-clause-cause g c =
    let desk = c.args.desk.now in
    let closes = c.close_cells-closings in
    turn_cause desk.node.now desk.links.app_at c.now_ms-now.result desk.seats closes.new.desk.seats _ _ _ _ closes.result.faulted closes.result.end c.turn_end.result
    closes.ensures.closes c.turn_end.ensures
