-- A request that was read, and what followed.
use Rattle.std.proofs.Common.{◌≡◌, ◌≢◌, ◌≤◌, refl, subst, ℕ, List, [], Option, Result, Ok, Err}
use Rattle.actor_names.specs.declared.address.Address.{Address}
use Rattle.actor_names.specs.declared.actor_key.ActorKey.{ActorKey}
use Rattle.call_names.specs.declared.name.CallName.{CallName}
use Rattle.http_edge.specs.declared.message.HttpRequest.{HttpRequest}
use Rattle.actors_api.specs.declared.command.ApiCommand.{ApiCommand}
use Rattle.actors_api.specs.declared.command.ApiCommand.TheVariants as commands
use Rattle.actors_api.specs.declared.refusal.ApiRefusal.{ApiRefusal}
use Rattle.actors_api.specs.declared.reply.ApiReply.{ApiReply}
use Rattle.actors_api.specs.declared.reply.ApiReply.TheVariants as replies
use Rattle.actors_api.specs.declared.side.Side.{Side}
use Rattle.actors_api.specs.Commands.{command_of, ReadsCommand}
use Rattle.sidecar_node.specs.declared.node.SidecarNode.{SidecarNode}
use Rattle.sidecar_node.specs.declared.node.Seats.{Seats}
use Rattle.sidecar_node.specs.Entries.{NodeEntry}
use Rattle.sidecar_node.specs.Nodes.{host_of}
use Rattle.exchanges.specs.Exchanges.{Exchange}
use Rattle.sidecar_requests.specs.Serving.{IsRecord, IsRecordServed}
use Rattle.sidecar_requests.specs.Requests.{FollowsReading, IsRequestServed}

-- the command isn't the call of a method
abbrev pub IsNoCall : ApiCommand → Type 0
IsNoCall command = (actor : ActorKey) (method : List ℕ) (chain : Option (List ℕ)) (least : Option ℕ) (call : Option CallName) → command ≢ commands.Invoke actor method chain least call

pub is_record : (command : ApiCommand) → IsNoCall command → IsRecord command
is_record (commands.Invoke actor method chain least call) h = absurd (h actor method chain least call refl)
is_record command h = tt

module _ (node : SidecarNode) (app store : Address) (side : Side) (request : HttpRequest) (after : Seats) where
  -- a request that was refused
  pub refusal_follows : (refusal : ApiRefusal) (now : ℕ) → FollowsReading node app store side request after (Err refusal) now now [] [] [] [] (replies.Refused refusal)
  refusal_follows refusal now = record { now = refl; entries = refl; app = refl; peers = refl; store = refl; is = refl }

  -- any other command than a call
  pub record_follows : (command : ApiCommand) (first last : ℕ) (ns : List NodeEntry) (zs : List Exchange) (answer : ApiReply)
      → IsNoCall command → IsRecordServed node store after command first last ns zs answer → FollowsReading node app store side request after (Ok command) first last ns [] [] zs answer
  record_follows (commands.Invoke actor method chain least call) first last ns zs answer h r = absurd (h actor method chain least call refl)
  record_follows command first last ns zs answer h r = (refl, refl, r)

  -- a request was read, and what followed
  pub request_by :
      (space : List ℕ) (first shown now last : ℕ) (read : Result ApiCommand ApiRefusal) (ns : List NodeEntry) (xs ys zs : List Exchange) (answer : ApiReply)
      → space ≡ (host_of node).member.space → first ≤ now → shown ≡ now → ReadsCommand (command_of space side request now) read → FollowsReading node app store side request after read shown last ns xs ys zs answer
      → IsRequestServed node app store side request after first last ns xs ys zs answer
  request_by space first shown now last read ns xs ys zs answer same later is reads follows =
      record {
        now = now;
        read = read;
        later = later;
        reads = subst (λ (s : List ℕ). ReadsCommand (command_of s side request now) read) same reads;
        follows = subst (λ (n : ℕ). FollowsReading node app store side request after read n last ns xs ys zs answer) is follows;
      }
