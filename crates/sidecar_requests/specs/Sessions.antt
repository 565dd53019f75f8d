-- The requests of one connection of a sidecar, served one after the other. Own.
use Rattle.std.specs.Prelude.{◌≡◌, ℕ, List, [], ◌∷◌, ◌++◌, option_map, Option, Result, Ok, IfOk}
use Rattle.std.specs.Result.{IsErr}
use Rattle.lists_and_limits.specs.declared.memory.OutOfMemory.{OutOfMemory}
use Rattle.actor_names.specs.declared.address.Address.{Address}
use Rattle.actor_ports.specs.Traffic.{Traffic, Dialled}
use Rattle.actor_ports.specs.declared.session.SessionEnd.{SessionEnd}
use Rattle.http_edge.specs.declared.message.HttpRequest.{HttpRequest}
use Rattle.http_edge.specs.declared.message.HttpResponse.{HttpResponse}
use Rattle.http_edge.specs.declared.error.EdgeError.{EdgeError}
use Rattle.http_session.specs.Rounds.{Turns}
use Rattle.http_session.specs.Sessions.{IsSession}
use Rattle.actors_api.specs.declared.refusal.ApiRefusal.{ApiRefusal}
use Rattle.actors_api.specs.declared.reply.ApiReply.{ApiReply}
use Rattle.actors_api.specs.declared.reply.ApiReply.TheVariants.{Made, Unanswered, Refused}
use Rattle.actors_api.specs.declared.side.Side.{Side}
use Rattle.actors_api.specs.Refusals.{edge_refusal}
use Rattle.actors_api.specs.Responses.{response_of}
use Rattle.sidecar_node.specs.declared.node.SidecarNode.{SidecarNode}
use Rattle.sidecar_node.specs.declared.node.Seats.{Seats}
use Rattle.sidecar_node.specs.Entries.{NodeEntry}
use Rattle.sidecar_node.specs.Nodes.{Acts}
use Rattle.exchanges.specs.declared.links.Links.{Links}
use Rattle.exchanges.specs.Exchanges.{Exchange, Dialling}
use Rattle.sidecar_requests.specs.Requests.{IsRequestServed}

-- ---- where a session stands between two requests

-- what is known of a dialler: what it was made to do, if it reports it, and its count of faults
pub record Dialler : Type 0 where
  pub dialled : Option Dialled
  pub faults : ℕ

-- the node, the seats at its gates, the addresses and diallers of the application, of other sidecars and of the store,
-- and the moment that the clock showed last
pub record Standing : Type 0 where
  pub node : SidecarNode
  pub seats : Seats
  pub app_at : Address
  pub store_at : Address
  pub app : Dialler
  pub peers : Dialler
  pub store : Dialler
  pub shown : ℕ

abbrev pub dialler : {L : Type 0} → (L → Option Dialled) → (L → ℕ) → L → Dialler
dialler dialled faults link = record { dialled = dialled link; faults = faults link }

-- that of these seats, links and clock
abbrev pub standing : {A P S K CA CP CS : Type 0} → (A → Option Dialled) → (A → ℕ) → (P → Option Dialled) → (P → ℕ) → (S → Option Dialled) → (S → ℕ) → (K → ℕ)
    → SidecarNode → Seats → Links A P S CA CP CS → K → Standing
standing app_dialled app_faults peers_dialled peers_faults store_dialled store_faults shown node seats links clock = record {
  node = node;
  seats = seats;
  app_at = links.app_at;
  store_at = links.store_at;
  app = dialler app_dialled app_faults links.app;
  peers = dialler peers_dialled peers_faults links.peers;
  store = dialler store_dialled store_faults links.store;
  shown = shown clock;
}

-- the node and the addresses are the same
pub record Stays (s t : Standing) : Type 0 where
  pub node : t.node ≡ s.node
  pub app_at : t.app_at ≡ s.app_at
  pub store_at : t.store_at ≡ s.store_at

-- the dialler was made to do these exchanges, and no others
abbrev pub Exchanged : List Exchange → Dialler → Dialler → Type 0
Exchanged xs before after = Dialling xs before.dialled after.dialled before.faults after.faults

-- ---- one request

-- What was done for a request: its entries at the gates, its exchanges with the application, with other sidecars and with
-- the store, and its answer.
pub record Deed : Type 0 where
  pub request : HttpRequest
  pub entries : List NodeEntry
  pub app : List Exchange
  pub peers : List Exchange
  pub store : List Exchange
  pub answer : ApiReply

-- the response to bytes that have no reading, if there is one
abbrev pub edge_response : Side → EdgeError → Option HttpResponse
edge_response side error = option_map (λ (refusal : ApiRefusal). response_of side (Refused refusal)) (edge_refusal error)

-- the entries of these requests in order, or their exchanges of one kind
abbrev pub all_of : {A : Type 0} → (Deed → List A) → List Deed → List A
all_of pick [] = []
all_of pick (d ∷ ds) = pick d ++ all_of pick ds

-- where a session stands, and what was done for its requests so far, in order
pub record Account : Type 0 where
  pub at : Standing
  pub deeds : List Deed

abbrev pub account : Standing → List Deed → Account
account s deeds = record { at = s; deeds = deeds }

-- `side` is the port on which the connection came
module _ (side : Side) where
  -- this was done for a request, and nothing else was done meanwhile
  pub record Does (s : Standing) (d : Deed) (t : Standing) : Type 0 where
    pub stays : Stays s t
    pub acts : Acts d.entries s.seats t.seats
    pub app : Exchanged d.app s.app t.app
    pub peers : Exchanged d.peers s.peers t.peers
    pub store : Exchanged d.store s.store t.store
    pub served : IsRequestServed s.node s.app_at s.store_at side d.request t.seats s.shown t.shown d.entries d.app d.peers d.store d.answer

  -- what goes out of an answer: a response that is made already, or none if there was no memory for one; any other
  -- answer's response, unless memory runs out for it
  abbrev pub Sends : ApiReply → Result HttpResponse OutOfMemory → Type 0
  Sends (Made response) got = got ≡ Ok response
  Sends Unanswered got = IsErr got
  Sends answer got = IfOk got (λ r. r ≡ response_of side answer)

  -- what goes out of the answer to this request was written, or its front
  abbrev pub IsSent : ApiReply → HttpRequest → Option Traffic → Option Traffic → Result (Unit {0}) EdgeError → Type 0
  IsSent answer request before after written =
      Turns (λ (s : Unit {0}) (asked : HttpRequest) (got : Result HttpResponse OutOfMemory) (t : Unit {0}). Sends answer got) tt tt request before after written

  -- a request was served and noted, and what goes out is that of its answer
  pub record IsAnswered (s : Account) (request : HttpRequest) (got : Result HttpResponse OutOfMemory) (t : Account) : Type 0 where
    pub deed : Deed
    pub asked : deed.request ≡ request
    pub does : Does s.at deed t.at
    pub noted : t.deeds ≡ s.deeds ++ deed ∷ []
    pub response : Sends deed.answer got

  -- ---- a session

  -- A session, and what it did. The requests that were read were answered one after the other, each from where the one
  -- before it had led, and nothing else was written but about bytes that have no reading (`IsSession`); these deeds are what
  -- was done for them, one each, in order. All entries and exchanges of the session are those of its deeds.
  pub record SessionDoes (s t : Standing) (t0 t1 : Option Traffic) (f0 f1 : ℕ) (end : SessionEnd) : Type 0 where
    pub deeds : List Deed
    pub session : IsSession IsAnswered (edge_response side) (account s []) (account t deeds) t0 t1 f0 f1 end
    pub stays : Stays s t
    pub acts : Acts (all_of (λ (d : Deed). d.entries) deeds) s.seats t.seats
    pub app : Exchanged (all_of (λ (d : Deed). d.app) deeds) s.app t.app
    pub peers : Exchanged (all_of (λ (d : Deed). d.peers) deeds) s.peers t.peers
    pub store : Exchanged (all_of (λ (d : Deed). d.store) deeds) s.store t.store
