-- What the entries of a forwarded call are, and what its answer goes back to. Own.
use Rattle.std.specs.Prelude.{◌≡◌, ◌⊎◌, ℕ, List, [], ◌++◌, Result, Ok}
use Rattle.step_gate.specs.declared.gate.Spent.{Spent}
use Rattle.http_edge.specs.declared.message.HttpResponse.{HttpResponse}
use Rattle.call_names.specs.declared.name.CallName.{CallName}
use Rattle.call_book.specs.declared.event.BookReply.{BookReply}
use Rattle.call_book.specs.declared.event.BookReply.TheVariants as book
use Rattle.actors_api.specs.declared.side.Side.{Side}
use Rattle.actors_api.specs.declared.reply.ApiReply.{ApiReply}
use Rattle.actors_api.specs.declared.reply.ApiReply.TheVariants as replies
use Rattle.actors_api.specs.declared.refusal.ApiRefusal.{ApiRefusal}
use Rattle.actors_api.specs.declared.refusal.ApiRefusal.TheVariants as refusals
use Rattle.actors_api.specs.Responses.{response_of}
use Rattle.sidecar_node.specs.declared.node.Seats.{Seats}
use Rattle.sidecar_node.specs.Entries.{PartEntry, NodeEntry, at_part, at_calls, one_entry}
use Rattle.sidecar_node.specs.Nodes.{AreCallsFull}
use Rattle.exchanges.specs.Exchanges.{Exchange}
use Rattle.actor_calls.specs.declared.invoke.Invoke.{Invoke}
use Rattle.actor_calls.specs.Forwards.{begin_of, finish_of}
use Rattle.actor_calls.specs.Causes.{AreCallEntries, AnswerHasCause}

-- ---- entries

-- In what follows `part` is the number of the actor's part.
module _ (part : ℕ) (call : CallName) (q : Invoke) where
  -- the entries of a call on the part of its actor, and then one Finish, which a gate that takes no more didn't take
  pub record AreServed (ns : List NodeEntry) : Type 0 where
    pub es : List PartEntry
    pub response : HttpResponse
    pub said : Result BookReply Spent
    pub entries : ns ≡ at_part part es ++ at_calls (one_entry (finish_of call response) said)
    pub calls : AreCallEntries q es

  -- there are entries behind a Begin only if it was answered New
  abbrev pub AreBehind : Result BookReply Spent → List NodeEntry → Type 0
  AreBehind (Ok book.New) ns = AreServed ns
  AreBehind said ns = ns ≡ []

  -- one Begin, which a gate that takes no more didn't take, and what is behind it
  pub record AreForwardEntries (ns : List NodeEntry) : Type 0 where
    pub said : Result BookReply Spent
    pub back : List NodeEntry
    pub entries : ns ≡ at_calls (one_entry (begin_of call) said) ++ back
    pub behind : AreBehind said back

-- ---- causes

-- the first entry is the Begin of the call, and this was its reply
pub record HasBegun (call : CallName) (reply : BookReply) (ns : List NodeEntry) : Type 0 where
  pub back : List NodeEntry
  pub entries : ns ≡ at_calls (one_entry (begin_of call) (Ok reply)) ++ back

-- In what follows `after` are the seats that the call left.
module _ (part : ℕ) (after : Seats) (call : CallName) (side : Side) where
  -- The cause of a refusal: the reply to the Begin of this call, or a gate of the book that takes no more. A forwarded call
  -- has no refusals but these; one that a served call came to goes out as its response.
  abbrev pub BookRefuses : List NodeEntry → ApiRefusal → Type 0
  BookRefuses ns refusals.CallRunning = HasBegun call book.Running ns
  BookRefuses ns (refusals.AnswerGone status) = HasBegun call (book.Gone status) ns
  BookRefuses ns (refusals.CallOld floor) = HasBegun call (book.TooOld floor) ns
  BookRefuses ns (refusals.CallBoot greatest) = HasBegun call (book.OldBoot greatest) ns
  BookRefuses ns refusals.CallLanes = (n : ℕ) × HasBegun call (book.LanesFull n) ns
  BookRefuses ns refusals.BookFull = (n : ℕ) × HasBegun call (book.BookFull n) ns
  BookRefuses ns refusals.Spent = AreCallsFull after
  BookRefuses ns refusals.OutOfMemory = Unit {0}
  BookRefuses ns refusal = ⊥

  -- the call was new, and its answer, which has its cause in this call, made this response
  pub record IsNewResponse (ns : List NodeEntry) (xs ys : List Exchange) (response : HttpResponse) : Type 0 where
    pub es : List PartEntry
    pub behind : List NodeEntry
    pub middle : Seats
    pub reply : ApiReply
    pub entries : ns ≡ at_calls (one_entry (begin_of call) (Ok book.New)) ++ (at_part part es ++ behind)
    pub cause : AnswerHasCause part middle es xs ys reply
    pub is : response ≡ response_of side reply

  -- The cause of an answer. A response is the one that was kept of an earlier request with this name, as it was, or that of
  -- the call, which was new. None goes out if there was no memory for it. A forwarded call has no answers but these.
  abbrev pub ForwardHasCause : List NodeEntry → List Exchange → List Exchange → ApiReply → Type 0
  ForwardHasCause ns xs ys (replies.Made response) = HasBegun call (book.Kept response) ns ⊎ IsNewResponse ns xs ys response
  ForwardHasCause ns xs ys (replies.Refused refusal) = BookRefuses ns refusal
  ForwardHasCause ns xs ys replies.Unanswered = HasBegun call book.New ns
  ForwardHasCause ns xs ys reply = ⊥
