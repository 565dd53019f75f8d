use Rattle.std.proofs.Common.{inl, inr, refl, sym, subst}
use Rattle.place_table.specs.declared.host.HostInfo.{HostInfo}
use Rattle.frame_wire.specs.declared.frame.Frame.TheVariants as frames
use Rattle.frame_wire.specs.Frames.{payload}
use Rattle.http_edge.proofs.Carried.{over_nothing}
use Rattle.placement_beats.proofs.Turns.{stop_whole, leave_done}
use Rattle.placement_beats.proofs.leave.leave_in.Goals as goal

pub after_stops-requires-after_bounds : goal.after_stops-requires-after_bounds
after_stops-requires-after_bounds g c κs within = subst (λ (h : HostInfo). payload.Fits (frames.Register h)) (sym c.host.ensures) c.requires.host

pub returns-in-Err-clause-turn : goal.returns-in-Err-clause-turn
returns-in-Err-clause-turn g c = inl (c.in-Err.ensures.kept, over_nothing _, refl)

pub returns-in-Ok-clause-turn : goal.returns-in-Ok-clause-turn
returns-in-Ok-clause-turn g c =
    inr (leave_done c.host.result.now c.args.node.now c.args.seats.now c.give_all.new.seats _ _ c.after_stops.result c.in-Ok.stops.saids.items c.as_slice.result.now c.host.ensures c.in-Ok.ensures.gives
    (stop_whole c.in-Ok.stops.whole _ c.in-Ok.stops.saids.items c.in-Ok.ensures.each c.in-Ok.ensures.memory) c.as_slice.ensures.value c.after_stops.ensures.leaves)
