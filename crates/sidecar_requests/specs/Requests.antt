-- A request to a sidecar that was served, whatever it asks for: the request, its entries at the gates of the node, its
-- exchanges with the application (`xs`), with other sidecars (`ys`) and with the store (`zs`), and its answer. Own.
use Rattle.std.specs.Prelude.{◌≡◌, ◌≤◌, ℕ, List, [], Option, Result, Ok, Err}
use Rattle.actor_names.specs.declared.address.Address.{Address}
use Rattle.call_names.specs.declared.name.CallName.{CallName}
use Rattle.http_edge.specs.declared.message.HttpRequest.{HttpRequest}
use Rattle.actors_api.specs.declared.command.ApiCommand.{ApiCommand}
use Rattle.actors_api.specs.declared.command.ApiCommand.TheVariants as commands
use Rattle.actors_api.specs.declared.refusal.ApiRefusal.{ApiRefusal}
use Rattle.actors_api.specs.declared.reply.ApiReply.{ApiReply}
use Rattle.actors_api.specs.declared.reply.ApiReply.TheVariants as replies
use Rattle.actors_api.specs.declared.side.Side.{Side}
use Rattle.actors_api.specs.Commands.{command_of, ReadsCommand}
use Rattle.sidecar_node.specs.declared.node.SidecarNode.{SidecarNode}
use Rattle.sidecar_node.specs.declared.node.Seats.{Seats}
use Rattle.sidecar_node.specs.Entries.{NodeEntry}
use Rattle.sidecar_node.specs.Nodes.{host_of}
use Rattle.exchanges.specs.Exchanges.{Exchange}
use Rattle.actor_calls.specs.declared.invoke.Invoke.{Invoke}
use Rattle.actor_calls.specs.Serving.{IsCallAnswered}
use Rattle.sidecar_requests.specs.Serving.{IsRecordServed}

-- a request that is refused: nothing was done, and the refusal is the answer
pub record IsRefused (refusal : ApiRefusal) (first last : ℕ) (ns : List NodeEntry) (xs ys zs : List Exchange) (answer : ApiReply) : Type 0 where
  pub now : last ≡ first
  pub entries : ns ≡ []
  pub app : xs ≡ []
  pub peers : ys ≡ []
  pub store : zs ≡ []
  pub is : answer ≡ replies.Refused refusal

-- In what follows `first` and `last` are the moments that the clock showed before and after, and `after` are the seats
-- that the request left.
module _ (node : SidecarNode) (app store : Address) (side : Side) (request : HttpRequest) where
  -- a call was served, with entries on the part of its actor and in the book of forwarded calls alone; the store wasn't
  -- asked
  pub record IsCallDone (after : Seats) (call : Option CallName) (q : Invoke) (first last : ℕ) (ns : List NodeEntry) (xs ys zs : List Exchange) (answer : ApiReply) : Type 0 where
    pub store_idle : zs ≡ []
    pub answered : IsCallAnswered node after app side request call q first last ns xs ys answer

  -- what follows the reading of a request: a refusal is its answer, a call is served, and so is any other command, for
  -- which neither the application nor another sidecar is asked
  abbrev pub FollowsReading : Seats → Result ApiCommand ApiRefusal → ℕ → ℕ → List NodeEntry → List Exchange → List Exchange → List Exchange → ApiReply → Type 0
  FollowsReading after (Ok (commands.Invoke actor method chain least call)) first last ns xs ys zs answer =
      IsCallDone after call (record { actor = actor; method = method; chain = chain; least = least }) first last ns xs ys zs answer
  FollowsReading after (Ok command) first last ns xs ys zs answer = (xs ≡ []) × (ys ≡ []) × IsRecordServed node store after command first last ns zs answer
  FollowsReading after (Err refusal) first last ns xs ys zs answer = IsRefused refusal first last ns xs ys zs answer

  -- a served request: it was read once, at a moment of the clock; memory may have run out meanwhile
  pub record IsRequestServed (after : Seats) (first last : ℕ) (ns : List NodeEntry) (xs ys zs : List Exchange) (answer : ApiReply) : Type 0 where
    pub now : ℕ
    pub read : Result ApiCommand ApiRefusal
    pub later : first ≤ now
    pub reads : ReadsCommand (command_of (host_of node).member.space side request now) read
    pub follows : FollowsReading after read now last ns xs ys zs answer
