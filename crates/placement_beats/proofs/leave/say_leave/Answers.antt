use Rattle.std.proofs.Common.{◌≡◌, true, inl, inr, refl, rules}
use Rattle.http_edge.proofs.Carried.{over_nothing}
use Rattle.placement_beats.proofs.Fits.{leave_fits}
use Rattle.placement_beats.proofs.Turns.{leave_cause}
use Rattle.placement_beats.proofs.leave.say_leave.Goals as goal

pub send_frame-got-requires-after_bounds : goal.send_frame-got-requires-after_bounds
send_frame-got-requires-after_bounds g c κs within = leave_fits c.args.host.now c.requires

pub returns-then-not-are_stopped-clause-leaves : goal.returns-then-not-are_stopped-clause-leaves
returns-then-not-are_stopped-clause-leaves g c = inl (over_nothing _, refl)

pub returns-clause-leaves : goal.returns-clause-leaves
returns-clause-leaves g c =
    let x = c.send_frame-got.ensures.exchanges in
    let stopped : c.are_stopped.result ≡ true = search rules in
    inr (record { carried = x.0; got = c.send_frame-got.result; stopped = c.are_stopped.ensures stopped; over = x.1; exchanges = x.2; ends = c.leave_end.ensures })

pub returns-clause-cause : goal.returns-clause-cause
returns-clause-cause g c = leave_cause c.args.host.now.member.space _ _ c.send_frame-got.result c.leave_end.result c.send_frame-got.ensures.cause c.leave_end.ensures
