-- Only a fault that was met makes a turn end by one.
use Rattle.std.proofs.Common.{◌≡◌, ℕ, ◌<◌, ◌≤◌, Bool, true, false, List, [], ◌∷◌, length, Option, Some, None, Ok, Err, refl, sym, subst}
use Rattle.actor_names.specs.declared.address.Address.{Address}
use Rattle.actor_ports.specs.Traffic.{Dialled}
use Rattle.http_edge.specs.declared.error.EdgeError.TheVariants as edge
use Rattle.part_model.specs.Receipts.{PartReply}
use Rattle.part_model.specs.declared.event.Reply.TheVariants as replies
use Rattle.exchanges.specs.Replies.{Got}
use Rattle.sidecar_node.specs.declared.node.SidecarNode.{SidecarNode}
use Rattle.sidecar_node.specs.declared.node.Seats.{Seats}
use Rattle.sidecar_node.specs.Nodes.{part_gates}
use Rattle.sidecar_node.specs.Turns.{Said}
use Rattle.clock_turns.specs.declared.ends.TickEnd.{TickEnd}
use Rattle.clock_turns.specs.declared.ends.TickEnd.TheVariants as ends
use Rattle.clock_turns.specs.declared.closing_stand.Stand.{Stand}
use Rattle.clock_turns.specs.declared.closing_stand.Stand.TheVariants.{On, Over}
use Rattle.clock_turns.specs.Closings.{BookSaid, Closing, Taking, told_end, closed_end, closing_end, after_closing, taken_end, stand, exchanges_of, GoesOn, ClosesCells, turn_end, ClosingTurn, TickCause}
use Rattle.clock_turns.proofs.Faults.{never_falls}

-- the end isn't a fault of the application's connection
abbrev pub IsCalm : TickEnd → Type 0
IsCalm ends.AppFault = ⊥
IsCalm end = Unit {0}

abbrev pub AllCalm : Option TickEnd → Type 0
AllCalm None = Unit {0}
AllCalm (Some end) = IsCalm end

abbrev CalmStand : Stand → Type 0
CalmStand (On part) = Unit {0}
CalmStand (Over end) = IsCalm end

pub told_calm : (got : Got) → AllCalm (told_end got)
told_calm (Ok reply) = tt
told_calm (Err edge.OutOfMemory) = tt
told_calm (Err error) = tt

closed_calm : (said : Said) (got : Got) → AllCalm (closed_end said got)
closed_calm (Err spent) got = tt
closed_calm (Ok replies.Stopped) got = tt
closed_calm (Ok reply) got = told_calm got

closing_calm : (dropped : BookSaid) (said : Said) (got : Got) → AllCalm (closing_end dropped said got)
closing_calm (Err spent) said got = tt
closing_calm (Ok reply) said got = closed_calm said got

after_calm : (part : ℕ) (end : Option TickEnd) → AllCalm end → CalmStand (after_closing part end)
after_calm part None h = tt
after_calm part (Some end) h = h

taken_calm : (reply : PartReply) → IsCalm (taken_end reply)
taken_calm replies.Stopped = tt
taken_calm reply = tt

stand_calm : (part : ℕ) (said : Said) (closing : Option Closing) → CalmStand (stand part said closing)
stand_calm part (Ok (replies.Close key)) (Some c) = after_calm part (closing_end c.dropped c.closed c.got) (closing_calm c.dropped c.closed c.got)
stand_calm part (Ok (replies.Close key)) None = tt
stand_calm part (Ok replies.NoneClosing) closing = tt
stand_calm part (Ok reply) closing = taken_calm reply
stand_calm part (Err spent) closing = tt

goes_calm : (app : Address) (now parts : ℕ) (place : Stand) (ts : List Taking) (before after : Seats) (last : Option TickEnd) → CalmStand place → GoesOn app now parts place ts before after last → AllCalm last
goes_calm app now parts (Over end) [] before after last c g = subst (λ (l : Option TickEnd). AllCalm l) (sym g.0) c
goes_calm app now parts (Over end) (t ∷ ts) before after last c g = absurd g
goes_calm app now parts (On part) [] before after last c g = subst (λ (l : Option TickEnd). AllCalm l) (sym g.1) tt
goes_calm app now parts (On part) (t ∷ ts) before after last c g = goes_calm app now parts (stand part t.said t.closing) ts t.after after last (stand_calm part t.said t.closing) g.4

pub calm_cause : (x y : ℕ) (end : TickEnd) → x ≤ y → IsCalm end → TickCause x y end
calm_cause x y ends.AppFault h c = absurd c
calm_cause x y end h c = h

cause_of : (x y : ℕ) (faulted : Bool) (last : Option TickEnd) → x ≤ y → (faulted ≡ true → x < y) → AllCalm last → TickCause x y (turn_end faulted last)
cause_of x y faulted (Some end) h r c = calm_cause x y end h c
cause_of x y true None h r c = r refl
cause_of x y false None h r c = h

-- what ended the deactivations isn't such a fault
pub closes_calm : (node : SidecarNode) (app : Address) (now : ℕ) (s0 s : Seats) (t0 t : Option Dialled) (f0 f : ℕ) (faulted : Bool) (last : Option TickEnd)
    → ClosesCells node app now s0 s t0 t f0 f faulted last → AllCalm last
closes_calm node app now s0 s t0 t f0 f faulted last c = goes_calm app now (length (part_gates node)) (On 0) c.takings s0 s last tt c.goes_on

-- the turn, at the moment that the clock shows
pub turned :
    (node : SidecarNode) (app : Address) (now shown : ℕ) (s0 s : Seats) (t0 t : Option Dialled) (f0 f : ℕ) (faulted : Bool) (last : Option TickEnd) (end : TickEnd)
    → shown ≡ now → ClosesCells node app now s0 s t0 t f0 f faulted last → end ≡ turn_end faulted last → ClosingTurn node app shown s0 s t0 t f0 f end
turned node app now shown s0 s t0 t f0 f faulted last end shows closes is =
    record { faulted = faulted; last = last; closes = subst (λ (n : ℕ). ClosesCells node app n s0 s t0 t f0 f faulted last) (sym shows) closes; ends = is }

-- the count rose if the turn ends by a fault
pub turn_cause :
    (node : SidecarNode) (app : Address) (now : ℕ) (s0 s : Seats) (t0 t : Option Dialled) (f0 f : ℕ) (faulted : Bool) (last : Option TickEnd) (end : TickEnd)
    → ClosesCells node app now s0 s t0 t f0 f faulted last → end ≡ turn_end faulted last → TickCause f0 f end
turn_cause node app now s0 s t0 t f0 f faulted last end c is =
    subst (λ (e : TickEnd). TickCause f0 f e) (sym is)
    (cause_of f0 f faulted last (never_falls (exchanges_of c.takings) t0 t f0 f c.asks) c.rises (closes_calm node app now s0 s t0 t f0 f faulted last c))
