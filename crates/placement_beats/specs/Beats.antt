-- A sidecar's turn with the placement, and the turn in which it leaves. Own.
use Rattle.std.specs.Prelude.{◌≡◌, ◌⊎◌, ◌<◌, ◌≤◌, ◌^◌, ℕ, Bool, true, false, ◌&&◌, ◌==◌, List, length, Option, Some, None, Result, Ok, Err}
use Rattle.actor_ports.specs.Traffic.{Traffic}
use Rattle.http_edge.specs.Carry.{Carried, nothing, Over}
use Rattle.place_table.specs.declared.host.HostInfo.{HostInfo}
use Rattle.part_model.specs.declared.ack.Ack.{Ack}
use Rattle.member_core.specs.declared.ack.CollectError.{CollectError}
use Rattle.part_model.specs.Acks.{stage_rank}
use Rattle.member_core.specs.Answers.{collect_answer, leave_answer}
use Rattle.step_gate.specs.declared.gate.Spent.{Spent}
use Rattle.part_model.specs.declared.event.PartEvent.TheVariants as events
use Rattle.frame_wire.specs.declared.frame.Frame.{Frame}
use Rattle.frame_wire.specs.declared.frame.Frame.TheVariants as frames
use Rattle.frame_wire.specs.Frames.{frame_bytes}
use Rattle.exchanges.specs.declared.frame_end.FrameEnd.{FrameEnd}
use Rattle.exchanges.specs.declared.frame_end.FrameEnd.TheVariants as fails
use Rattle.exchanges.specs.FrameExchanges.{ExchangesFrame}
use Rattle.sidecar_node.specs.declared.node.SidecarNode.{SidecarNode}
use Rattle.sidecar_node.specs.declared.node.Seats.{Seats}
use Rattle.sidecar_node.specs.declared.rounds.RoundEvent.{RoundEvent}
use Rattle.sidecar_node.specs.Turns.{Said, first_spent}
use Rattle.sidecar_node.specs.Rounds.{part_event, MayWantMemory}
use Rattle.sidecar_node.specs.Nodes.{host_of, part_gates, GivesEach}
use Rattle.placement_beats.specs.declared.book.PlacementBook.{PlacementBook}
use Rattle.placement_beats.specs.declared.book.TurnEnd.{TurnEnd}
use Rattle.placement_beats.specs.declared.book.TurnEnd.TheVariants.{BadReply, ConnFault, OutOfMemory}
use Rattle.placement_beats.specs.declared.book.TurnEnd.TheVariants as ends
use Rattle.placement_beats.specs.Answers.{receipts_of, hindrance, end_or}
use Rattle.placement_beats.specs.Replies.{reply_fault, reply_end, acked_after, Orders}

-- ---- the frame of a turn

abbrev pub is_same_ack : Ack → Ack → Bool
is_same_ack a b = (a.version == b.version) && (stage_rank a.stage == stage_rank b.stage)

abbrev pub is_acked : Option Ack → Ack → Bool
is_acked None ack = false
is_acked (Some last) ack = is_same_ack last ack

abbrev pub if_new : Bool → Ack → Option Ack
if_new true ack = None
if_new false ack = Some ack

-- the acknowledgement to be sent: what the receipts justify, if it differs from the last one
abbrev pub new_ack : Option Ack → Result (Option Ack) CollectError → Option Ack
new_ack acked (Ok (Some ack)) = if_new (is_acked acked ack) ack
new_ack acked (Ok None) = None
new_ack acked (Err e) = None

abbrev pub frame_of : HostInfo → Option Ack → Result (Option Ack) CollectError → Frame
frame_of host (Some ack) answer = frames.Ack host.member ack.stage ack.version
frame_of host None (Ok (Some ack)) = frames.Beat host.member
frame_of host None (Ok None) = frames.Register host
frame_of host None (Err e) = frames.Register host

-- The frame of a turn: an acknowledgement that differs from the last one; or Register, if the receipts justify none; or
-- Beat.
abbrev pub heartbeat_frame : HostInfo → Option Ack → Result (Option Ack) CollectError → Frame
heartbeat_frame host acked answer = frame_of host (new_ack acked answer) answer

-- an acknowledgement's version is at most 2^62
abbrev pub IsShort : Result (Option Ack) CollectError → Type 0
IsShort (Ok (Some ack)) = ack.version ≤ 2 ^ 62
IsShort (Ok None) = Unit {0}
IsShort (Err e) = Unit {0}

-- ---- after the frame was read

-- how a turn ends if no frame came
abbrev pub failed_end : FrameEnd → TurnEnd
failed_end (fails.NoFrame at) = BadReply at
failed_end fails.ConnFault = ConnFault
failed_end fails.OutOfMemory = OutOfMemory

-- Each part was given the event, or only the first parts were, since memory ran out.
abbrev pub GivenEnd : ℕ → RoundEvent → List Said → TurnEnd → TurnEnd → Type 0
GivenEnd parts event saids done end =
    ((length saids ≡ parts) × (end ≡ end_or (hindrance saids) done)) ⊎ (MayWantMemory event × (end ≡ end_or (hindrance saids) OutOfMemory))

abbrev pub GivesOrder : ℕ → Option RoundEvent → TurnEnd → Seats → Seats → TurnEnd → Type 0
GivesOrder parts None done before after end = (after ≡ before) × (end ≡ done)
GivesOrder parts (Some event) done before after end = (saids : List Said) × GivesEach (part_event event) saids before after × GivenEnd parts event saids done end

-- the same, or nothing was given, since memory ran out
abbrev pub GivesOrNot : ℕ → Option RoundEvent → TurnEnd → Seats → Seats → TurnEnd → Type 0
GivesOrNot parts order done before after end = ((after ≡ before) × (end ≡ OutOfMemory)) ⊎ GivesOrder parts order done before after end

-- the parts were given what the reply has for them, or nothing, since memory ran out
abbrev pub Obeys : List ℕ → ℕ → Frame → ℕ → Seats → Seats → TurnEnd → Type 0
Obeys space parts reply now before after end =
    ((after ≡ before) × (end ≡ OutOfMemory)) ⊎ ((order : Option RoundEvent) × Orders space now reply order × GivesOrder parts order (reply_end reply) before after end)

-- a frame was read that is no reply: nothing else happens
abbrev pub Hears : List ℕ → ℕ → Option ℕ → Option Ack → Frame → ℕ → PlacementBook → PlacementBook → Seats → Seats → TurnEnd → Type 0
Hears space parts (Some at) ack reply now book new before after end = (new ≡ book) × (after ≡ before) × (end ≡ BadReply at)
Hears space parts None ack reply now book new before after end =
    (new ≡ record { acked = acked_after book.acked ack reply; heard = now }) × Obeys space parts reply now before after end

abbrev pub AfterExchange : HostInfo → ℕ → Option Ack → Result Frame FrameEnd → ℕ → PlacementBook → PlacementBook → Seats → Seats → TurnEnd → Type 0
AfterExchange host parts ack (Ok reply) now book new before after end = Hears host.member.space parts (reply_fault host.member.space reply) ack reply now book new before after end
AfterExchange host parts ack (Err e) now book new before after end = (new ≡ book) × (after ≡ before) × (end ≡ failed_end e)

-- ---- a turn

-- One frame was sent, chosen by the answer to the receipts, and one frame was read.
pub record Beats
    (host : HostInfo) (parts : ℕ) (answer : Result (Option Ack) CollectError) (now : ℕ) (book new : PlacementBook)
    (before after : Seats) (t0 t1 : Option Traffic) (end : TurnEnd) : Type 0 where
  pub carried : Carried
  pub got : Result Frame FrameEnd
  pub over : Over t0 t1 carried
  pub exchanges : ExchangesFrame (frame_bytes (heartbeat_frame host book.acked answer)) carried t0 t1 got
  pub follows : AfterExchange host parts (new_ack book.acked answer) got now book new before after end

-- a part that has stopped, or a gate that took no Tick, ends the turn before a frame is sent
abbrev pub AfterTicks : Option TurnEnd → HostInfo → ℕ → List Said → ℕ → PlacementBook → PlacementBook → Seats → Seats → Option Traffic → Option Traffic → TurnEnd → Type 0
AfterTicks (Some hindered) host parts ticks now book new before after t0 t1 end = (new ≡ book) × (after ≡ before) × Over t0 t1 nothing × (end ≡ hindered)
AfterTicks None host parts ticks now book new before after t0 t1 end = Beats host parts (collect_answer host.member (receipts_of ticks)) now book new before after t0 t1 end

-- A turn: a Tick on each part in order, at one moment; then one frame is sent and one is read, and by it each part gets
-- one event or none. `shown` is the last moment that the clock showed.
pub record HeartbeatTurn
    (node : SidecarNode) (since shown : ℕ) (book new : PlacementBook) (before after : Seats) (t0 t1 : Option Traffic) (end : TurnEnd) : Type 0 where
  pub ticked : ℕ
  pub late : since ≤ ticked
  pub early : ticked ≤ shown
  pub ticks : List Said
  pub mid : Seats
  pub gives : GivesEach (events.Tick ticked) ticks before mid
  pub each : length ticks ≡ length (part_gates node)
  pub goes_on : AfterTicks (hindrance ticks) (host_of node) (length (part_gates node)) ticks shown book new mid after t0 t1 end

-- memory ran out before anything was done
abbrev pub IsIdle : PlacementBook → PlacementBook → Seats → Seats → Option Traffic → Option Traffic → TurnEnd → Type 0
IsIdle book new before after t0 t1 end = (new ≡ book) × (after ≡ before) × Over t0 t1 nothing × (end ≡ OutOfMemory)

-- the count of faults rises if the connection failed
abbrev pub TurnCause : ℕ → ℕ → TurnEnd → Type 0
TurnCause before after ConnFault = before < after
TurnCause before after end = before ≤ after

-- ---- leaving

abbrev pub left_end : Option ℕ → Frame → TurnEnd
left_end (Some at) reply = BadReply at
left_end None reply = reply_end reply

-- how the turn ends by what was read
abbrev pub leave_end : List ℕ → Result Frame FrameEnd → TurnEnd
leave_end space (Ok reply) = left_end (reply_fault space reply) reply
leave_end space (Err e) = failed_end e

-- One Leave was sent, since all receipts are of stopped parts, and one frame was read.
pub record SendsLeave (host : HostInfo) (stops : List Said) (t0 t1 : Option Traffic) (end : TurnEnd) : Type 0 where
  pub carried : Carried
  pub got : Result Frame FrameEnd
  pub stopped : leave_answer host.member (receipts_of stops) ≡ Ok true
  pub over : Over t0 t1 carried
  pub exchanges : ExchangesFrame (frame_bytes (frames.Leave host.member)) carried t0 t1 got
  pub ends : end ≡ leave_end host.member.space got

-- no frame if a gate took no StopPart, or if memory ran out
abbrev pub AfterStops : Option Spent → HostInfo → List Said → Option Traffic → Option Traffic → TurnEnd → Type 0
AfterStops (Some spent) host stops t0 t1 end = Over t0 t1 nothing × (end ≡ ends.Spent spent.count)
AfterStops None host stops t0 t1 end = (Over t0 t1 nothing × (end ≡ OutOfMemory)) ⊎ SendsLeave host stops t0 t1 end

-- A StopPart on each part in order; then one Leave is sent and one frame is read.
pub record LeaveTurn (node : SidecarNode) (before after : Seats) (t0 t1 : Option Traffic) (end : TurnEnd) : Type 0 where
  pub stops : List Said
  pub gives : GivesEach events.StopPart stops before after
  pub each : length stops ≡ length (part_gates node)
  pub goes_on : AfterStops (first_spent stops) (host_of node) stops t0 t1 end
