-- A session over HTTP: the requests of one connection, each answered in order. Own.
use Rattle.std.specs.Prelude.{◌≡◌, ◌⊎◌, ◌^◌, ℕ, true, false, List, [], ◌∷◌, ◌++◌, length, Option, Some, None}
use Rattle.actor_ports.specs.declared.port.PortError.{PortError}
use Rattle.actor_ports.specs.declared.port.PortError.TheVariants as ports
use Rattle.actor_ports.specs.declared.session.SessionEnd.{SessionEnd}
use Rattle.actor_ports.specs.declared.session.SessionEnd.TheVariants.{Done, Malformed, Broken, ConnFault, OutOfMemory, Spent}
use Rattle.actor_ports.specs.Traffic.{Traffic}
use Rattle.step_gate.specs.Gates.{seen_of}
use Rattle.http_edge.specs.declared.error.EdgeError.{EdgeError}
use Rattle.http_edge.specs.declared.message.HttpRequest.{HttpRequest}
use Rattle.http_edge.specs.declared.message.HttpResponse.{HttpResponse}
use Rattle.http_edge.specs.Carry.{AtEnd}
use Rattle.http_edge.specs.Requests.{IsRequestText, Refuses}
use Rattle.http_edge.specs.Texts.{response_text}
use Rattle.placement_sessions.specs.declared.route.Asked.{Asked}
use Rattle.placement_sessions.specs.Routes.{room_asked}
use Rattle.placement_sessions.specs.StateTexts.{look_response}
use Rattle.placement_sessions.specs.StateTurns.{NodeEntry, NodeSeat, Passes, LooksFor, IsAnswer, IsCutAt, RefusedBy}

-- a request that was answered: its bytes, its entries at the gate, and its response
pub record Served : Type 0 where
  pub request : HttpRequest
  pub text : List ℕ
  pub looks : List NodeEntry
  pub response : HttpResponse

abbrev pub IsServed : Served → Type 0
IsServed r = IsRequestText r.text r.request × IsAnswer r.request r.looks r.response

abbrev pub AreServed : List Served → Type 0
AreServed [] = Unit {0}
AreServed (r ∷ rounds) = IsServed r × AreServed rounds

-- the bytes of the requests, their entries, and the bytes of the responses, in order
abbrev pub texts : List Served → List ℕ
texts [] = []
texts (r ∷ rounds) = r.text ++ texts rounds

abbrev pub looks_of : List Served → List NodeEntry
looks_of [] = []
looks_of (r ∷ rounds) = r.looks ++ looks_of rounds

abbrev pub responses : List Served → List ℕ
responses [] = []
responses (r ∷ rounds) = response_text r.response ++ responses rounds

-- no request closes the connection
abbrev pub StaysOpen : List Served → Type 0
StaysOpen [] = Unit {0}
StaysOpen (r ∷ rounds) = (r.request.close ≡ false) × StaysOpen rounds

-- the last request closes it, and no other
abbrev pub LastCloses : List Served → Type 0
LastCloses rounds = (front : List Served) × (last : Served) × (rounds ≡ front ++ last ∷ []) × StaysOpen front × (last.request.close ≡ true)

-- The requests of these rounds were read, and these bytes behind them. The entries of the seat are those of the rounds,
-- and these behind them. The responses were written, and these bytes behind them.
pub record Went (rounds : List Served) (looks : List NodeEntry) (s0 s1 : NodeSeat) (m0 m1 : ℕ) (t0 t1 : Option Traffic) (rest written : List ℕ) : Type 0 where
  pub each : AreServed rounds
  pub passes : Passes (looks_of rounds ++ looks) s0 s1 m0 m1 t0 t1 (texts rounds ++ rest) (responses rounds ++ written)

-- the bytes begin with this request
abbrev pub BeginsWith : List ℕ → HttpRequest → Type 0
BeginsWith rest q = (text : List ℕ) × (more : List ℕ) × IsRequestText text q × (rest ≡ text ++ more)

-- nothing came of what was read, or the answer to one more request was cut
abbrev pub CutsOff : PortError → List NodeEntry → List ℕ → List ℕ → Type 0
CutsOff e looks rest written =
    ((looks ≡ []) × (written ≡ []))
    ⊎ ((q : HttpRequest) × (r : HttpResponse) × BeginsWith rest q × IsAnswer q looks r × IsCutAt e written (response_text r))

abbrev pub most_requests : ℕ
most_requests = 18446744073709551615

-- Why there was no further round. Behind the rounds, these entries were made, these bytes were read and these written.
abbrev pub EndsState : SessionEnd → List Served → List NodeEntry → List ℕ → List ℕ → NodeSeat → Option Traffic → Option Traffic → Type 0
EndsState (Done n) rounds looks rest written s1 t0 t1 =
    (n ≡ length rounds) × (looks ≡ []) × (written ≡ []) × ((StaysOpen rounds × (rest ≡ []) × AtEnd t0 t1) ⊎ LastCloses rounds)
EndsState (Malformed n) rounds looks rest written s1 t0 t1 =
    (n ≡ length rounds) × StaysOpen rounds × (looks ≡ []) × ((e : EdgeError) × Refuses rest t0 t1 e × RefusedBy e written)
EndsState (Broken n) rounds looks rest written s1 t0 t1 =
    (n ≡ length rounds) × StaysOpen rounds × (written ≡ [])
    × ((q : HttpRequest) × (asked : Asked) × (m : NodeEntry) × BeginsWith rest q × (looks ≡ m ∷ []) × LooksFor q asked m × (look_response m.entry.reply asked ≡ None))
EndsState (ConnFault n) rounds looks rest written s1 t0 t1 = (n ≡ length rounds) × StaysOpen rounds × CutsOff ports.Failed looks rest written
EndsState (OutOfMemory n) rounds looks rest written s1 t0 t1 = (n ≡ length rounds) × StaysOpen rounds × CutsOff ports.OutOfMemory looks rest written
EndsState (Spent n count) rounds looks rest written s1 t0 t1 =
    (n ≡ length rounds) × StaysOpen rounds × (looks ≡ []) × (written ≡ [])
    × (((n ≡ most_requests) × (count ≡ most_requests))
    ⊎ ((q : HttpRequest) × (asked : Asked) × BeginsWith rest q × (room_asked q ≡ Some asked) × (length (seen_of s1) ≡ 2 ^ 62) × (count ≡ 2 ^ 62)))

abbrev pub IsStateSession : NodeSeat → NodeSeat → ℕ → ℕ → Option Traffic → Option Traffic → SessionEnd → Type 0
IsStateSession s0 s1 m0 m1 t0 t1 end =
    (rounds : List Served) × (looks : List NodeEntry) × (rest : List ℕ) × (written : List ℕ)
    × Went rounds looks s0 s1 m0 m1 t0 t1 rest written
    × EndsState end rounds looks rest written s1 t0 t1
