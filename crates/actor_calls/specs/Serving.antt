-- A served call: the request, its entries on the part of its actor, its exchanges with the application and with other
-- sidecars, and its answer. Own.
use Rattle.std.specs.Prelude.{◌≡◌, ℕ, List, [], ◌++◌, Option, Some, None, Result, Ok, Err}
use Rattle.actor_names.specs.declared.member.Member.{Member}
use Rattle.actor_names.specs.declared.address.Address.{Address}
use Rattle.step_gate.specs.declared.gate.Spent.{Spent}
use Rattle.call_names.specs.declared.name.CallName.{CallName}
use Rattle.call_book.specs.declared.event.BookReply.{BookReply}
use Rattle.call_book.specs.declared.event.BookReply.TheVariants as book
use Rattle.http_edge.specs.declared.message.HttpRequest.{HttpRequest}
use Rattle.actors_api.specs.declared.reply.ApiReply.{ApiReply}
use Rattle.actors_api.specs.declared.side.Side.{Side}
use Rattle.actors_api.specs.declared.side.Side.TheVariants.{Caller, Peer}
use Rattle.actors_api.specs.declared.reply.ApiReply.TheVariants as replies
use Rattle.actors_api.specs.declared.refusal.ApiRefusal.TheVariants as refusals
use Rattle.actors_api.specs.Responses.{response_of}
use Rattle.sidecar_node.specs.declared.node.SidecarNode.{SidecarNode}
use Rattle.sidecar_node.specs.declared.node.Seats.{Seats}
use Rattle.sidecar_node.specs.Entries.{PartEntry, NodeEntry, at_part, at_calls, one_entry}
use Rattle.sidecar_node.specs.Nodes.{host_of, part_at, ActsAtCalls, SpentAtCalls}
use Rattle.exchanges.specs.Exchanges.{Exchange}
use Rattle.actor_calls.specs.declared.invoke.Invoke.{Invoke}
use Rattle.actor_calls.specs.declared.next.Next.{Next}
use Rattle.actor_calls.specs.declared.next.Next.TheVariants.{Answered, Moves}
use Rattle.actor_calls.specs.Turns.{IsIdle, IsAsked}
use Rattle.actor_calls.specs.Hops.{IsRouted}
use Rattle.actor_calls.specs.Outcomes.{refused}
use Rattle.actor_calls.specs.Forwards.{begin_of, finish_of, known_answer, GoesOut, finish_answer}

-- In what follows `after` are the seats that the call left, and `part` is the number of the actor's part.
module _ (part : ℕ) (after : Seats) (me : Member) (app : Address) (q : Invoke) (request : HttpRequest) where
  -- What follows the first Ask. If the actor belongs to another member, a peer is told so, and a caller's request hops.
  abbrev pub GoesOn : Side → Next → ℕ → ℕ → List PartEntry → List Exchange → List Exchange → ApiReply → Type 0
  GoesOn side (Answered reply) first last es xs ys answer = IsIdle first last es xs × (ys ≡ []) × (answer ≡ reply)
  GoesOn Peer (Moves version owner) first last es xs ys answer = IsIdle first last es xs × (ys ≡ []) × (answer ≡ replies.Elsewhere version owner)
  GoesOn Caller (Moves version owner) first last es xs ys answer = IsRouted part after me app q request [] version owner first last es xs ys answer

  -- a served call
  pub record IsInvoked (side : Side) (first last : ℕ) (es : List PartEntry) (xs ys : List Exchange) (answer : ApiReply) : Type 0 where
    pub middle : ℕ
    pub front : List PartEntry
    pub back : List PartEntry
    pub early : List Exchange
    pub late : List Exchange
    pub next : Next
    pub entries : es ≡ front ++ back
    pub exchanges : xs ≡ early ++ late
    pub asked : IsAsked part after app q request q.least first middle front early next
    pub goes_on : GoesOn side next middle last back late ys answer

-- ---- calls of callers and of other sidecars; `ns` are the entries on all gates of the node

-- no entry and no exchange was made, and the clock wasn't read
pub record IsNothing (first last : ℕ) (ns : List NodeEntry) (xs ys : List Exchange) : Type 0 where
  pub now : last ≡ first
  pub entries : ns ≡ []
  pub app : xs ≡ []
  pub peers : ys ≡ []

module _ (node : SidecarNode) (after : Seats) (app : Address) (side : Side) (request : HttpRequest) where
  -- a caller's call was served, with entries on the part of its actor alone
  pub record IsOwnServed (q : Invoke) (first last : ℕ) (ns : List NodeEntry) (xs ys : List Exchange) (answer : ApiReply) : Type 0 where
    pub es : List PartEntry
    pub entries : ns ≡ at_part (part_at node q.actor) es
    pub invoked : IsInvoked (part_at node q.actor) after (host_of node).member app q request side first last es xs ys answer

  -- A forwarded call that is new: it is served, after which the seats are `middle`; and then the book of forwarded calls
  -- has one Finish, with the response that goes out.
  pub record IsNewServed (call : CallName) (q : Invoke) (first last : ℕ) (ns : List NodeEntry) (xs ys : List Exchange) (answer : ApiReply) : Type 0 where
    pub es : List PartEntry
    pub reply : ApiReply
    pub sent : ApiReply
    pub said : Result BookReply Spent
    pub middle : Seats
    pub entries : ns ≡ at_part (part_at node q.actor) es ++ at_calls (one_entry (finish_of call (response_of side sent)) said)
    pub invoked : IsInvoked (part_at node q.actor) middle (host_of node).member app q request side first last es xs ys reply
    pub goes_out : GoesOut side reply sent
    pub kept : ActsAtCalls (one_entry (finish_of call (response_of side sent)) said) middle after
    pub full : SpentAtCalls said after
    pub answered : answer ≡ finish_answer said sent

  -- what follows the reply to the Begin: only a call that is new is served
  abbrev pub AfterBegin : CallName → Invoke → Result BookReply Spent → ℕ → ℕ → List NodeEntry → List Exchange → List Exchange → ApiReply → Type 0
  AfterBegin call q (Ok book.New) first last ns xs ys answer = IsNewServed call q first last ns xs ys answer
  AfterBegin call q (Ok reply) first last ns xs ys answer = IsNothing first last ns xs ys × (answer ≡ known_answer reply)
  AfterBegin call q (Err spent) first last ns xs ys answer = IsNothing first last ns xs ys × (answer ≡ refused refusals.Spent)

  -- a forwarded call: one Begin on the book of forwarded calls, and what follows
  pub record IsForwardServed (call : CallName) (q : Invoke) (first last : ℕ) (ns : List NodeEntry) (xs ys : List Exchange) (answer : ApiReply) : Type 0 where
    pub said : Result BookReply Spent
    pub back : List NodeEntry
    pub entries : ns ≡ at_calls (one_entry (begin_of call) said) ++ back
    pub full : SpentAtCalls said after
    pub follows : AfterBegin call q said first last back xs ys answer

  -- a call was served; one that a peer forwards has a name
  abbrev pub IsCallAnswered : Option CallName → Invoke → ℕ → ℕ → List NodeEntry → List Exchange → List Exchange → ApiReply → Type 0
  IsCallAnswered None q first last ns xs ys answer = IsOwnServed q first last ns xs ys answer
  IsCallAnswered (Some call) q first last ns xs ys answer = IsForwardServed call q first last ns xs ys answer
