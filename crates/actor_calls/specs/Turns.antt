-- A turn of a call on this member: how it begins, its exchange with the application, its end. Own.
use Rattle.std.specs.Prelude.{◌≡◌, ◌≤◌, ℕ, List, [], ◌++◌, Option, Result, Ok, Err}
use Rattle.actor_names.specs.declared.address.Address.{Address}
use Rattle.part_model.specs.Receipts.{PartReply}
use Rattle.part_model.specs.declared.event.Reply.TheVariants as replies
use Rattle.http_edge.specs.declared.message.HttpRequest.{HttpRequest}
use Rattle.actors_api.specs.declared.reply.ApiReply.{ApiReply}
use Rattle.actors_api.specs.declared.refusal.ApiRefusal.TheVariants as refusals
use Rattle.sidecar_node.specs.declared.node.Seats.{Seats}
use Rattle.sidecar_node.specs.Entries.{PartEntry}
use Rattle.sidecar_node.specs.Turns.{Said, Begins, Ends}
use Rattle.sidecar_node.specs.Nodes.{SpentAt}
use Rattle.exchanges.specs.Exchanges.{Exchange}
use Rattle.exchanges.specs.Replies.{Got, place_at, IsHttpExchange}
use Rattle.actor_calls.specs.declared.invoke.Invoke.{Invoke}
use Rattle.actor_calls.specs.declared.next.Next.{Next}
use Rattle.actor_calls.specs.declared.next.Next.TheVariants.{Answered, Moves}
use Rattle.actor_calls.specs.Texts.{call_text}
use Rattle.actor_calls.specs.Outcomes.{refused, next_of, turn_answer}

-- no entry and no exchange was made, and the clock wasn't read
pub record IsIdle (first last : ℕ) (es : List PartEntry) (xs : List Exchange) : Type 0 where
  pub now : last ≡ first
  pub entries : es ≡ []
  pub exchanges : xs ≡ []

-- In what follows `first` and `last` are the moments that the clock showed before and after, `es` are the entries on the
-- part of the actor, whose number is `part`, and `xs` the exchanges with the application; `after` are the seats that the
-- call left. If the part's gate took no entry, nothing follows, and these seats have seen its full history (`SpentAt`).
module _ (part : ℕ) (after : Seats) (app : Address) (q : Invoke) (request : HttpRequest) where
  -- a turn that began: one exchange with the application, under the chain that the turn was told, and one End
  pub record IsTurn (call : ℕ) (chain : Option (List ℕ)) (first last : ℕ) (es : List PartEntry) (xs : List Exchange) (answer : ApiReply) : Type 0 where
    pub got : Got
    pub said : Said
    pub exchange : IsHttpExchange (call_text app q.actor q.method chain request) (place_at app) xs got
    pub later : first ≤ last
    pub ends : Ends call last es said
    pub full : SpentAt part said after
    pub answered : answer ≡ turn_answer said got

  -- what follows the last reply of the beginning: a turn, or nothing
  abbrev pub Follows : Said → ℕ → ℕ → List PartEntry → List Exchange → Next → Type 0
  Follows (Ok (replies.Begun call chain)) first last es xs next = (answer : ApiReply) × IsTurn call chain first last es xs answer × (next ≡ Answered answer)
  Follows (Ok reply) first last es xs next = IsIdle first last es xs × (next ≡ next_of reply)
  Follows (Err spent) first last es xs next = IsIdle first last es xs × (next ≡ Answered (refused refusals.Spent))

  -- the part of the actor was asked, by an AskAt if there is a least version, and what followed
  pub record IsAsked (least : Option ℕ) (first last : ℕ) (es : List PartEntry) (xs : List Exchange) (next : Next) : Type 0 where
    pub middle : ℕ
    pub front : List PartEntry
    pub back : List PartEntry
    pub said : Said
    pub entries : es ≡ front ++ back
    pub later : first ≤ middle
    pub begins : Begins q.actor q.chain least middle front said
    pub full : SpentAt part said after
    pub follows : Follows said middle last back xs next
