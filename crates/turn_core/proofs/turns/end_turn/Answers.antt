use Rattle.std.proofs.Common.{sym, ◌∙◌}
use Rattle.turn_core.proofs.Places.{has_turn-found, has_turn-missed, without_turn-found, without_turn-missed}
use Rattle.turn_core.proofs.turns.end_turn.Goals as goal

pub returns-in-None-clause-open_turn : goal.returns-in-None-clause-open_turn
returns-in-None-clause-open_turn c =
    sym (has_turn-missed c.args.call c.args.turns.now.items (rw c.deref.ensures.value at (sym c.in-None.ensures)))

pub returns-in-None-clause-items : goal.returns-in-None-clause-items
returns-in-None-clause-items c =
    sym (without_turn-missed c.args.call c.args.turns.now.items (rw c.deref.ensures.value at (sym c.in-None.ensures)))

pub returns-in-Some-clause-open_turn : goal.returns-in-Some-clause-open_turn
returns-in-Some-clause-open_turn c =
    sym (has_turn-found c.args.call c.args.turns.now.items c.in-Some.at (rw c.deref.ensures.value at (sym c.in-Some.ensures)))

pub returns-in-Some-clause-items : goal.returns-in-Some-clause-items
returns-in-Some-clause-items c =
    c.remove-ended.ensures.items ∙ sym (without_turn-found c.args.call c.args.turns.now.items c.in-Some.at (rw c.deref.ensures.value at (sym c.in-Some.ensures)))
