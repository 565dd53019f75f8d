use Rattle.placement_beats.proofs.Turns.{stops_spent, stops_left}
use Rattle.placement_beats.proofs.leave.after_stops.Goals as goal

pub returns-in-Some-clause-leaves : goal.returns-in-Some-clause-leaves
returns-in-Some-clause-leaves g c = stops_spent c.args.host.now c.args.stops.now _ c.in-Some.spent c.in-Some.ensures

pub returns-in-None-clause-leaves : goal.returns-in-None-clause-leaves
returns-in-None-clause-leaves g c = stops_left c.args.host.now c.args.stops.now _ _ _ c.in-None.ensures c.say_leave.ensures.leaves
