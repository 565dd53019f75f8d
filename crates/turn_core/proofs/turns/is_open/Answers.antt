use Rattle.std.proofs.Common.{sym}
use Rattle.turn_core.proofs.Places.{has_turn-found, has_turn-missed}
use Rattle.turn_core.proofs.turns.is_open.Goals as goal

pub returns-in-None : goal.returns-in-None
returns-in-None c = sym (has_turn-missed c.args.call c.args.turns.now (sym c.in-None.ensures))

pub returns-in-Some : goal.returns-in-Some
returns-in-Some c = sym (has_turn-found c.args.call c.args.turns.now c.in-Some.field-0 (sym c.in-Some.ensures))
