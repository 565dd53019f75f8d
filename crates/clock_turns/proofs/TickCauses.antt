-- Only a fault that was met makes a tick end by one.
use Rattle.std.proofs.Common.{◌≡◌, ℕ, ◌<◌, ◌≤◌, Bool, true, false, List, [], ◌∷◌, Option, Some, None, Ok, Err, refl, sym, subst, arith}
use Rattle.std.specs.Prelude.{◌||◌}
use Rattle.actor_names.specs.declared.address.Address.{Address}
use Rattle.actor_ports.specs.Traffic.{Dialled}
use Rattle.part_model.specs.Receipts.{PartReply}
use Rattle.part_model.specs.declared.event.Reply.TheVariants as replies
use Rattle.timer_book.specs.declared.event.TimerReply.TheVariants as answers
use Rattle.exchanges.specs.Replies.{Got}
use Rattle.sidecar_node.specs.declared.node.SidecarNode.{SidecarNode}
use Rattle.sidecar_node.specs.declared.node.Seats.{Seats}
use Rattle.sidecar_node.specs.Turns.{Said}
use Rattle.clock_turns.specs.declared.ends.TickEnd.{TickEnd}
use Rattle.clock_turns.specs.Closings.{BookSaid, exchanges_of, TickCause}
use Rattle.clock_turns.proofs.Faults.{never_falls}
use Rattle.clock_turns.proofs.ClosingCauses.{IsCalm, AllCalm, told_calm, calm_cause, closes_calm}
use Rattle.clock_turns.specs.declared.tick_stand.Stand.{Stand}
use Rattle.clock_turns.specs.declared.tick_stand.Stand.TheVariants.{On, Over}
use Rattle.clock_turns.specs.Timers.{Called, Run, Fired}
use Rattle.clock_turns.specs.Ends.{spent_or, got_end, over_end, refused_end, turn_end, run_end, timer_end}
use Rattle.clock_turns.specs.Ticks.{Firing, after_timer, due_stand, stand, GoesOn, FiresTimers, tick_end, ThenTimers, TickTurn}
use Rattle.clock_turns.specs.Ticks.{exchanges_of as timer_exchanges}
use Rattle.clock_turns.proofs.Counts.{either_rises}

-- ---- no timer ends a tick by such a fault

spent_calm : (said : BookSaid) (end : Option TickEnd) → AllCalm end → AllCalm (spent_or said end)
spent_calm (Err spent) end c = tt
spent_calm (Ok reply) end c = c

got_calm : (got : Option Got) → AllCalm (got_end got)
got_calm None = tt
got_calm (Some got) = told_calm got

over_calm : (said : Said) (got : Option Got) → AllCalm (over_end said got)
over_calm (Err spent) got = tt
over_calm (Ok replies.Stopped) got = tt
over_calm (Ok reply) got = got_calm got

refused_calm : (reply : PartReply) → AllCalm (refused_end reply)
refused_calm (replies.Spent count) = tt
refused_calm replies.Stopped = tt
refused_calm replies.OutOfMemory = tt
refused_calm reply = tt

turn_calm : (said : Said) (called : Option Called) → AllCalm (turn_end said called)
turn_calm (Err spent) called = tt
turn_calm (Ok reply) None = refused_calm reply
turn_calm (Ok reply) (Some c) = spent_calm c.again (over_end c.over c.got) (over_calm c.over c.got)

run_calm : (run : Option Run) → AllCalm (run_end run)
run_calm None = tt
run_calm (Some r) = spent_calm r.done (turn_end r.turn.said r.turn.called) (turn_calm r.turn.said r.turn.called)

timer_calm : (f : Fired) → AllCalm (timer_end f)
timer_calm f = spent_calm f.begun (run_end f.run) (run_calm f.run)

-- ---- nor does a Due

abbrev CalmStand : Stand → Type 0
CalmStand (On book) = Unit {0}
CalmStand (Over end) = IsCalm end

after_calm : (book : ℕ) (end : Option TickEnd) → AllCalm end → CalmStand (after_timer book end)
after_calm book None c = tt
after_calm book (Some end) c = c

due_calm : (book : ℕ) (fired : Option Fired) → CalmStand (due_stand book fired)
due_calm book None = tt
due_calm book (Some f) = after_calm book (timer_end f) (timer_calm f)

stand_calm : (book : ℕ) (said : BookSaid) (fired : Option Fired) → CalmStand (stand book said fired)
stand_calm book (Ok (answers.DueIs (Some d))) fired = due_calm book fired
stand_calm book (Ok (answers.DueIs None)) fired = tt
stand_calm book (Ok reply) fired = tt
stand_calm book (Err spent) fired = tt

goes_calm : (node : SidecarNode) (app : Address) (now : ℕ) (place : Stand) (ts : List Firing) (before after : Seats) (first last : ℕ) (over : Option TickEnd)
    → CalmStand place → GoesOn node app now place ts before after first last over → AllCalm over
goes_calm node app now (Over end) [] before after first last over c g = subst (λ (l : Option TickEnd). AllCalm l) (sym g.0) c
goes_calm node app now (Over end) (t ∷ ts) before after first last over c g = absurd g
goes_calm node app now (On book) [] before after first last over c g = subst (λ (l : Option TickEnd). AllCalm l) (sym g.1) tt
goes_calm node app now (On book) (t ∷ ts) before after first last over c g =
    goes_calm node app now (stand book t.said t.fired) ts t.after after t.until last over (stand_calm book t.said t.fired) g.4

-- ---- the tick

end_cause : (x z turns : ℕ) (faulted : Bool) (over : Option TickEnd) → x ≤ z → (faulted ≡ true → x < z) → AllCalm over → TickCause x z (tick_end turns faulted over)
end_cause x z turns faulted (Some end) up rises c = calm_cause x z end up c
end_cause x z turns true None up rises c = rises refl
end_cause x z turns false None up rises c = up

then_cause : (node : SidecarNode) (app : Address) (faulted : Bool) (closed : Option TickEnd) (before after : Seats) (t0 t1 : Option Dialled) (x f0 f1 first last : ℕ) (end : TickEnd)
    → x ≤ f0 → (faulted ≡ true → x < f0) → AllCalm closed → ThenTimers node app faulted closed before after t0 t1 f0 f1 first last end → TickCause x f1 end
then_cause node app faulted (Some over) before after t0 t1 x f0 f1 first last end up rises c h =
    let same : f1 ≡ f0 = h.2 in
    let less : x ≤ f1 = omega arith in
    subst (λ (e : TickEnd). TickCause x f1 e) (sym h.4) (calm_cause x f1 over less c)
then_cause node app faulted None before after t0 t1 x f0 f1 first last end up rises c h =
    let fires : FiresTimers node app h.0 before after t0 t1 f0 f1 h.0 last h.1 h.2 h.3 = h.5 in
    let more : f0 ≤ f1 = never_falls (timer_exchanges fires.firings) t0 t1 f0 f1 fires.asks in
    let less : x ≤ f1 = omega arith in
    subst (λ (e : TickEnd). TickCause x f1 e) (sym h.6)
    (end_cause x f1 h.1 (faulted || h.2) h.3 less (either_rises faulted h.2 x f0 f1 rises fires.rises up more)
    (goes_calm node app h.0 (On 0) fires.firings before after h.0 last h.3 tt fires.goes_on))

pub tick_cause : (node : SidecarNode) (app : Address) (before after : Seats) (t0 t1 : Option Dialled) (f0 f1 first last : ℕ) (end : TickEnd)
    → TickTurn node app before after t0 t1 f0 f1 first last end → TickCause f0 f1 end
tick_cause node app before after t0 t1 f0 f1 first last end t =
    then_cause node app t.faulted t.closed t.middle after t.reported t1 f0 t.count f1 t.now last end
    (never_falls (exchanges_of t.closes.takings) t0 t.reported f0 t.count t.closes.asks) t.closes.rises
    (closes_calm node app t.now before t.middle t0 t.reported f0 t.count t.faulted t.closed t.closes) t.fires
