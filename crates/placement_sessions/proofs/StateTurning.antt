-- What comes of one request.
use Rattle.std.proofs.Common.{◌≡◌, ◌≤◌, ◌^◌, ℕ, true, List, [], ◌∷◌, length, Option, Some, None, Result, Ok, Err, refl, sym, ap, ◌∙◌, append-nil, arith}
use Rattle.std.proofs.Math.Seq.{take-length}
use Rattle.actor_ports.specs.declared.port.PortError.{PortError}
use Rattle.actor_ports.specs.declared.port.PortError.TheVariants as ports
use Rattle.actor_ports.specs.Traffic.{Traffic}
use Rattle.step_gate.specs.declared.gate.Spent.{Spent as GateSpent}
use Rattle.step_gate.specs.Gates.{Grows, Adds, SeesLast}
use Rattle.step_gate.proofs.Beginnings.{prefix_self}
use Rattle.step_gate.proofs.Waits.{adds_grows, last_grows}
use Rattle.http_edge.specs.declared.error.EdgeError.{EdgeError}
use Rattle.http_edge.specs.declared.error.EdgeError.TheVariants as edge
use Rattle.http_edge.specs.declared.message.HttpRequest.{HttpRequest}
use Rattle.http_edge.specs.declared.message.HttpResponse.{HttpResponse}
use Rattle.http_edge.specs.Carry.{Over, IsFront, Writes, nothing}
use Rattle.http_edge.specs.Texts.{response_text, WritesText}
use Rattle.actors_api.specs.declared.refusal.ApiRefusal.{ApiRefusal}
use Rattle.actors_api.specs.Refusals.{edge_refusal}
use Rattle.round_core.specs.declared.event.PlaceEvent.TheVariants.{Look}
use Rattle.placement_node.specs.declared.reply.NodeEvent.{NodeEvent}
use Rattle.placement_node.specs.declared.reply.NodeReply.{NodeReply}
use Rattle.placement_sessions.specs.declared.route.Asked.{Asked}
use Rattle.placement_sessions.specs.Routes.{room_asked}
use Rattle.placement_sessions.specs.StateTexts.{closing, refused_with, look_response}
use Rattle.placement_sessions.specs.StateTurns.{NodeEntry, NodeSeat, Moments, Passes, IsAnswer, AnswersTo, Responds, Looks, RefusedBy}
use Rattle.placement_sessions.specs.declared.state_turn.StateTurn.{StateTurn}
use Rattle.placement_sessions.specs.declared.state_turn.StateTurn.TheVariants.{Answered, Cut, Broken, Spent}

-- ---- writes

-- a response that wasn't written for another cause than the connection left nothing
pub other_write : (t0 t1 : Option Traffic) (text : List ℕ) (e : EdgeError) → (e ≡ edge.ConnFault → ⊥) → WritesText {T = Unit {0}} t0 t1 text (Err e) → Over t0 t1 nothing
other_write t0 t1 text edge.BadHead other w = absurd w
other_write t0 t1 text edge.HeadTooLong other w = absurd w
other_write t0 t1 text edge.TooManyFields other w = absurd w
other_write t0 t1 text edge.Chunked other w = absurd w
other_write t0 t1 text edge.BadLength other w = absurd w
other_write t0 t1 text (edge.BodyTooLong n) other w = absurd w
other_write t0 t1 text (edge.CutShort n) other w = absurd w
other_write t0 t1 text edge.ConnFault other w = absurd (other refl)
other_write t0 t1 text edge.OutOfMemory other w = w

pub none_front : (bytes : List ℕ) → IsFront [] bytes
none_front bytes = record { count = 0; is = refl }

-- a prefix was written in any case
pub written_front : (t0 t1 : Option Traffic) (bytes : List ℕ) (result : Result (Unit {0}) PortError) → Writes t0 t1 bytes result → (front : List ℕ) × IsFront front bytes × Over t0 t1 (record { read = []; written = front })
written_front t0 t1 bytes (Ok u) w = (bytes, record { count = length bytes; is = sym (take-length bytes) }, w)
written_front t0 t1 bytes (Err ports.Failed) w = w
written_front t0 t1 bytes (Err ports.OutOfMemory) w = ([], none_front bytes, w)

-- ---- bytes that are no request

pub refused_none : (e : EdgeError) → None ≡ edge_refusal e → (e ≡ edge.ConnFault → ⊥) → RefusedBy e []
refused_none edge.BadHead is other = absurd cc
refused_none edge.HeadTooLong is other = absurd cc
refused_none edge.TooManyFields is other = absurd cc
refused_none edge.Chunked is other = absurd cc
refused_none edge.BadLength is other = absurd cc
refused_none (edge.BodyTooLong n) is other = absurd cc
refused_none (edge.CutShort n) is other = refl
refused_none edge.ConnFault is other = absurd (other refl)
refused_none edge.OutOfMemory is other = absurd cc

pub refused_some : (e : EdgeError) (refusal : ApiRefusal) (front : List ℕ) → Some refusal ≡ edge_refusal e → (e ≡ edge.OutOfMemory → ⊥) → IsFront front (response_text (closing true (refused_with refusal))) → RefusedBy e front
refused_some edge.BadHead refusal front is other f = (refusal, sym is, f)
refused_some edge.HeadTooLong refusal front is other f = (refusal, sym is, f)
refused_some edge.TooManyFields refusal front is other f = (refusal, sym is, f)
refused_some edge.Chunked refusal front is other f = (refusal, sym is, f)
refused_some edge.BadLength refusal front is other f = (refusal, sym is, f)
refused_some (edge.BodyTooLong n) refusal front is other f = (refusal, sym is, f)
refused_some (edge.CutShort n) refusal front is other f = absurd cc
refused_some edge.ConnFault refusal front is other f = absurd cc
refused_some edge.OutOfMemory refusal front is other f = absurd (other refl)

-- ---- a Look

pub looked : (s0 s1 : NodeSeat) (m0 m1 now : ℕ) (e : NodeEvent) (reply : NodeReply) → e.event ≡ Look → e.now ≡ now → m1 ≡ now → m0 ≤ now → Adds e reply s0 s1 → Looks s0 s1 m0 m1 (Ok reply)
looked s0 s1 m0 m1 now e reply look at shows later adds =
    let made = adds_grows e reply s0 s1 adds in
    (made.0, ap (λ (x : NodeEvent). x.event) made.1 ∙ look, made.2, ap (λ (x : NodeEvent). x.now) made.1 ∙ at ∙ sym shows, omega arith, made.3)

pub not_looked : (s0 s1 : NodeSeat) (m0 m1 now : ℕ) (spent : GateSpent) → m1 ≡ now → m0 ≤ now → spent.count ≡ 2 ^ 62 → SeesLast s0 s1 → Looks s0 s1 m0 m1 (Err spent)
not_looked s0 s1 m0 m1 now spent shows later count last = (last.full, count, omega arith, last_grows s0 s1 last)

pub grows_none : (s : NodeSeat) → Grows [] s s
grows_none s = record { mine = sym (append-nil _); seen = prefix_self _; number = refl }

-- ---- the answer to a request

-- a response with this text was written, in whole or not
module _ (q : HttpRequest) (looks : List NodeEntry) (r : HttpResponse) (s0 s1 : NodeSeat) (m0 m1 : ℕ) (t0 t1 : Option Traffic)
    (answer : IsAnswer q looks r) (made : Grows looks s0 s1) (moments : Moments m0 looks m1) where
  passed : (written : List ℕ) → Over t0 t1 (record { read = []; written = written }) → Passes looks s0 s1 m0 m1 t0 t1 [] written
  passed written over = record { made = made; moments = moments; over = over }

  pub answered : (turn : StateTurn) → Responds q.close (response_text r) t0 t1 turn → AnswersTo q s0 s1 m0 m1 t0 t1 turn
  answered (Answered closes) w = (looks, r, answer, w.0, passed (response_text r) w.1)
  answered (Cut e) w = (looks, r, w.0, answer, w.1, passed w.0 w.2)
  answered Broken w = absurd w
  answered (Spent count) w = absurd w

module _ (q : HttpRequest) (asked : Asked) (s0 s1 : NodeSeat) (m0 m1 : ℕ) (t0 t1 : Option Traffic) (asks : room_asked q ≡ Some asked) where
  -- the entry of a Look, and that it was at its moment
  look_moments : (m : NodeEntry) → m.entry.event.now ≡ m1 → m0 ≤ m1 → Moments m0 (m ∷ []) m1
  look_moments m at later = (omega arith, omega arith)

  pub look_answered : (reply : NodeReply) (turn : StateTurn) (made : HttpResponse) → Looks s0 s1 m0 m1 (Ok reply) → look_response reply asked ≡ Some made → Responds q.close (response_text (closing q.close made)) t0 t1 turn → AnswersTo q s0 s1 m0 m1 t0 t1 turn
  look_answered reply turn made l is w =
      let told : look_response l.0.entry.reply asked ≡ Some made = ap (λ (x : NodeReply). look_response x asked) l.2 ∙ is in
      answered q (l.0 ∷ []) (closing q.close made) s0 s1 m0 m1 t0 t1 (asked, made, record { asks = asks; look = l.1 }, told, refl) l.5 (look_moments l.0 l.3 l.4) turn w

  pub look_broken : (reply : NodeReply) → Looks s0 s1 m0 m1 (Ok reply) → look_response reply asked ≡ None → Over t0 t1 nothing → AnswersTo q s0 s1 m0 m1 t0 t1 Broken
  look_broken reply l is over =
      (asked, l.0, record { asks = asks; look = l.1 }, ap (λ (x : NodeReply). look_response x asked) l.2 ∙ is, record { made = l.5; moments = look_moments l.0 l.3 l.4; over = over })

  pub look_spent : (spent : GateSpent) → Looks s0 s1 m0 m1 (Err spent) → Over t0 t1 nothing → AnswersTo q s0 s1 m0 m1 t0 t1 (Spent spent.count)
  look_spent spent l over = (asked, asks, l.0, l.1, record { made = l.3; moments = l.2; over = over })
