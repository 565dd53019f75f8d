-- One request for a room, and what came of it. Own.
use Rattle.std.specs.Prelude.{◌≡◌, ◌<◌, ◌≤◌, ◌^◌, ℕ, Bool, true, List, [], ◌∷◌, length, Option, Some, None, Result, Ok, Err}
use Rattle.actor_ports.specs.declared.port.PortError.{PortError}
use Rattle.actor_ports.specs.declared.port.PortError.TheVariants as ports
use Rattle.actor_ports.specs.Traffic.{Traffic}
use Rattle.step_gate.specs.declared.gate.Spent.{Spent as GateSpent}
use Rattle.step_gate.specs.declared.view.Made.{Made}
use Rattle.step_gate.specs.Gates.{SeatOf, Grows, seen_of}
use Rattle.http_edge.specs.declared.error.EdgeError.{EdgeError}
use Rattle.http_edge.specs.declared.error.EdgeError.TheVariants as edge
use Rattle.http_edge.specs.declared.message.HttpRequest.{HttpRequest}
use Rattle.http_edge.specs.declared.message.HttpResponse.{HttpResponse}
use Rattle.http_edge.specs.Carry.{Over, IsFront}
use Rattle.http_edge.specs.Texts.{response_text}
use Rattle.actors_api.specs.declared.refusal.ApiRefusal.{ApiRefusal}
use Rattle.actors_api.specs.declared.refusal.ApiRefusal.TheVariants as api
use Rattle.actors_api.specs.Refusals.{edge_refusal}
use Rattle.round_core.specs.declared.event.PlaceEvent.TheVariants.{Look}
use Rattle.placement_node.specs.declared.reply.NodeEvent.{NodeEvent}
use Rattle.placement_node.specs.declared.reply.NodeReply.{NodeReply}
use Rattle.placement_node.specs.Node.{NodeState}
use Rattle.placement_sessions.specs.declared.route.Asked.{Asked}
use Rattle.placement_sessions.specs.Routes.{room_asked}
use Rattle.placement_sessions.specs.StateTexts.{closing, refused_with, look_response}
use Rattle.placement_sessions.specs.declared.state_turn.StateTurn.{StateTurn}
use Rattle.placement_sessions.specs.declared.state_turn.StateTurn.TheVariants.{Answered, Cut, Broken, Spent}

-- an entry of the placement's gate, and a seat there
abbrev pub NodeEntry : Type 0
NodeEntry = Made NodeEvent NodeReply

abbrev pub NodeSeat : Type 0
NodeSeat = SeatOf NodeState NodeEvent NodeReply

-- ---- steps, moments and bytes

-- the moments of the entries don't fall, and lie between these two
abbrev pub Moments : ℕ → List NodeEntry → ℕ → Type 0
Moments from [] to = from ≤ to
Moments from (m ∷ looks) to = (from ≤ m.entry.event.now) × Moments m.entry.event.now looks to

-- the seat made these entries and no other, at moments of the clock; these bytes were read, and these were written
pub record Passes (looks : List NodeEntry) (s0 s1 : NodeSeat) (m0 m1 : ℕ) (t0 t1 : Option Traffic) (read written : List ℕ) : Type 0 where
  pub made : Grows looks s0 s1
  pub moments : Moments m0 looks m1
  pub over : Over t0 t1 (record { read = read; written = written })

-- ---- the answer to a request

-- the request asks for this, and the entry is a Look
pub record LooksFor (q : HttpRequest) (asked : Asked) (m : NodeEntry) : Type 0 where
  pub asks : room_asked q ≡ Some asked
  pub look : m.entry.event.event ≡ Look

-- A request that asks for no room is answered so without a step; one that asks for a room is one Look, and is answered
-- by its reply. After a request that closes its connection the session ends.
abbrev pub IsAnswer : HttpRequest → List NodeEntry → HttpResponse → Type 0
IsAnswer q [] r = (room_asked q ≡ None) × (r ≡ closing q.close (refused_with api.NoRoute))
IsAnswer q (m ∷ []) r = (asked : Asked) × (made : HttpResponse) × LooksFor q asked m × (look_response m.entry.reply asked ≡ Some made) × (r ≡ closing q.close made)
IsAnswer q (m ∷ n ∷ looks) r = ⊥

-- all of the answer was written; after Failed a prefix of it, and after OutOfMemory none
abbrev pub IsCutAt : PortError → List ℕ → List ℕ → Type 0
IsCutAt ports.Failed front bytes = IsFront front bytes
IsCutAt ports.OutOfMemory front bytes = front ≡ []

-- what came of a request
abbrev pub AnswersTo : HttpRequest → NodeSeat → NodeSeat → ℕ → ℕ → Option Traffic → Option Traffic → StateTurn → Type 0
AnswersTo q s0 s1 m0 m1 t0 t1 (Answered closes) =
    (looks : List NodeEntry) × (r : HttpResponse) × IsAnswer q looks r × (closes ≡ q.close) × Passes looks s0 s1 m0 m1 t0 t1 [] (response_text r)
AnswersTo q s0 s1 m0 m1 t0 t1 (Cut e) =
    (looks : List NodeEntry) × (r : HttpResponse) × (front : List ℕ) × IsAnswer q looks r × IsCutAt e front (response_text r) × Passes looks s0 s1 m0 m1 t0 t1 [] front
AnswersTo q s0 s1 m0 m1 t0 t1 Broken =
    (asked : Asked) × (m : NodeEntry) × LooksFor q asked m × (look_response m.entry.reply asked ≡ None) × Passes (m ∷ []) s0 s1 m0 m1 t0 t1 [] []
AnswersTo q s0 s1 m0 m1 t0 t1 (Spent count) =
    (asked : Asked) × (room_asked q ≡ Some asked) × (length (seen_of s1) ≡ 2 ^ 62) × (count ≡ 2 ^ 62) × Passes [] s0 s1 m0 m1 t0 t1 [] []

-- what came of a response with this text
abbrev pub Responds : Bool → List ℕ → Option Traffic → Option Traffic → StateTurn → Type 0
Responds closes text t0 t1 (Answered c) = (c ≡ closes) × Over t0 t1 (record { read = []; written = text })
Responds closes text t0 t1 (Cut e) = (front : List ℕ) × IsCutAt e front text × Over t0 t1 (record { read = []; written = front })
Responds closes text t0 t1 Broken = ⊥
Responds closes text t0 t1 (Spent count) = ⊥

-- the count of faults rises if a cut comes of the connection
abbrev pub TurnCause : ℕ → ℕ → StateTurn → Type 0
TurnCause before after (Cut ports.Failed) = before < after
TurnCause before after turn = before ≤ after

-- one Look, at the moment that the clock shows now
abbrev pub Looks : NodeSeat → NodeSeat → ℕ → ℕ → Result NodeReply GateSpent → Type 0
Looks s0 s1 m0 m1 (Ok reply) =
    (m : NodeEntry) × (m.entry.event.event ≡ Look) × (m.entry.reply ≡ reply) × (m.entry.event.now ≡ m1) × (m0 ≤ m1) × Grows (m ∷ []) s0 s1
Looks s0 s1 m0 m1 (Err spent) = (length (seen_of s1) ≡ 2 ^ 62) × (spent.count ≡ 2 ^ 62) × (m0 ≤ m1) × Grows [] s0 s1

-- ---- bytes that are no request

-- They are refused so, and these bytes of the response were written. Bytes that end inside a request get none.
abbrev pub RefusedBy : EdgeError → List ℕ → Type 0
RefusedBy (edge.CutShort n) front = front ≡ []
RefusedBy edge.ConnFault front = ⊥
RefusedBy edge.OutOfMemory front = ⊥
RefusedBy e front = (refusal : ApiRefusal) × (edge_refusal e ≡ Some refusal) × IsFront front (response_text (closing true (refused_with refusal)))
