use Rattle.std.proofs.Common.{inl, inr, refl, arith}
use Rattle.http_edge.proofs.Carried.{over_nothing}
use Rattle.placement_beats.proofs.Turns.{tick_whole, turn_done}
use Rattle.placement_beats.proofs.beat.turn_in.Goals as goal

pub go_on-requires-clause-each : goal.go_on-requires-clause-each
go_on-requires-clause-each g c κs within = rw c.as_slice.ensures.value (tick_whole c.in-Ok.ticks.whole _ c.now_ms-now.result c.in-Ok.ticks.saids.items c.in-Ok.ensures.each c.in-Ok.ensures.memory)

pub returns-in-Err-clause-turn : goal.returns-in-Err-clause-turn
returns-in-Err-clause-turn g c = inl (refl, c.in-Err.ensures.kept, over_nothing _, refl)

pub returns-clause-turn : goal.returns-clause-turn
returns-clause-turn g c =
    let shows = c.now_ms-now.ensures.shows in
    let falls = c.now_ms-now.ensures.never_falls in
    let later = c.go_on.ensures.clock in
    inr (turn_done c.args.node.now _ _ c.now_ms-now.result c.args.book.now c.go_on.new.book c.args.seats.now c.give_all.new.seats c.go_on.new.seats _ _ c.go_on.result c.in-Ok.ticks.saids.items c.as_slice.result.now
    (omega arith) (omega arith) c.in-Ok.ensures.gives (tick_whole c.in-Ok.ticks.whole _ c.now_ms-now.result c.in-Ok.ticks.saids.items c.in-Ok.ensures.each c.in-Ok.ensures.memory) c.as_slice.ensures.value c.go_on.ensures.goes_on)
