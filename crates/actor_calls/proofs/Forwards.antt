-- Forwarded calls, in each case of the reply to their Begin.
use Rattle.std.proofs.Common.{◌≡◌, ◌≢◌, refl, ℕ, List, [], ◌++◌, Result, Ok}
use Rattle.step_gate.specs.declared.gate.Spent.{Spent}
use Rattle.actor_names.specs.declared.address.Address.{Address}
use Rattle.http_edge.specs.declared.message.HttpRequest.{HttpRequest}
use Rattle.call_names.specs.declared.name.CallName.{CallName}
use Rattle.call_book.specs.declared.event.BookReply.{BookReply}
use Rattle.call_book.specs.declared.event.BookReply.TheVariants as book
use Rattle.actors_api.specs.declared.side.Side.{Side}
use Rattle.actors_api.specs.declared.reply.ApiReply.{ApiReply}
use Rattle.sidecar_node.specs.declared.node.SidecarNode.{SidecarNode}
use Rattle.sidecar_node.specs.declared.node.Seats.{Seats}
use Rattle.sidecar_node.specs.Entries.{NodeEntry, at_calls, one_entry}
use Rattle.sidecar_node.specs.Nodes.{SpentAtCalls}
use Rattle.exchanges.specs.Exchanges.{Exchange}
use Rattle.actor_calls.specs.declared.invoke.Invoke.{Invoke}
use Rattle.actor_calls.specs.Forwards.{begin_of, known_answer}
use Rattle.actor_calls.specs.Serving.{IsNothing, AfterBegin, IsForwardServed}

pub nothing : (now : ℕ) → IsNothing now now [] [] []
nothing now = record { now = refl; entries = refl; app = refl; peers = refl }

module _ (node : SidecarNode) (after : Seats) (app : Address) (side : Side) (request : HttpRequest) (call : CallName) (q : Invoke) where
  -- a call that isn't new
  pub known_follows : (reply : BookReply) (now : ℕ) (answer : ApiReply) → answer ≡ known_answer reply → reply ≢ book.New → AfterBegin node after app side request call q (Ok reply) now now [] [] [] answer
  known_follows book.New now answer e h = absurd (h refl)
  known_follows reply now answer e h = (nothing now, e)

  pub forward_follows : (said : Result BookReply Spent) (first last : ℕ) (back : List NodeEntry) (xs ys : List Exchange) (answer : ApiReply)
      → SpentAtCalls said after → AfterBegin node after app side request call q said first last back xs ys answer
      → IsForwardServed node after app side request call q first last (at_calls (one_entry (begin_of call) said) ++ back) xs ys answer
  forward_follows said first last back xs ys answer full f = record { said = said; back = back; entries = refl; full = full; follows = f }
