-- Hops of a caller's request from owner to owner. Own.
use Rattle.std.specs.Prelude.{◌≡◌, ◌⊎◌, ℕ, Bool, true, false, List, [], ◌++◌, Option, Some, Ok, Err}
use Rattle.actor_names.specs.declared.member.Member.{Member}
use Rattle.actor_names.specs.declared.address.Address.{Address}
use Rattle.actor_names.specs.Same.{same_member}
use Rattle.place_table.specs.declared.host.HostInfo.{HostInfo}
use Rattle.member_core.specs.declared.route.Hop.TheVariants.{Go}
use Rattle.member_core.specs.Routes.{route_hop}
use Rattle.part_model.specs.declared.event.PartEvent.TheVariants.{Draw}
use Rattle.part_model.specs.declared.event.Reply.TheVariants as replies
use Rattle.call_names.specs.declared.name.CallName.{CallName}
use Rattle.actor_ports.specs.Traffic.{Place}
use Rattle.http_edge.specs.declared.error.EdgeError.TheVariants as edge
use Rattle.http_edge.specs.declared.message.HttpRequest.{HttpRequest}
use Rattle.actors_api.specs.declared.reply.ApiReply.{ApiReply}
use Rattle.actors_api.specs.declared.refusal.ApiRefusal.{ApiRefusal}
use Rattle.actors_api.specs.declared.refusal.ApiRefusal.TheVariants as refusals
use Rattle.sidecar_node.specs.declared.node.Seats.{Seats}
use Rattle.sidecar_node.specs.Entries.{PartEntry}
use Rattle.sidecar_node.specs.Turns.{Said, Either, MakesOne}
use Rattle.sidecar_node.specs.Nodes.{SpentAt}
use Rattle.exchanges.specs.Exchanges.{Exchange}
use Rattle.exchanges.specs.Replies.{Got, place_at, IsHttpExchange}
use Rattle.actor_calls.specs.declared.invoke.Invoke.{Invoke}
use Rattle.actor_calls.specs.declared.next.Next.{Next}
use Rattle.actor_calls.specs.declared.next.Next.TheVariants.{Answered, Moves}
use Rattle.actor_calls.specs.Texts.{forward_text}
use Rattle.actor_calls.specs.Outcomes.{refused, refusal_of, hop_refusal, ReadsPeer}
use Rattle.actor_calls.specs.Turns.{IsAsked}

-- an exchange failed with its link, so it isn't known whether the other side acted
abbrev pub is_fault : Got → Bool
is_fault (Err edge.ConnFault) = true
is_fault got = false

-- exchanges that begin as `One` says, and if that failed with its link, go on as `More` says
pub record TriesOn (One More : List Exchange → Got → Type 0) (ys : List Exchange) (got : Got) : Type 0 where
  pub front : List Exchange
  pub back : List Exchange
  pub first : Got
  pub exchanges : ys ≡ front ++ back
  pub one : One front first
  pub more : Either (is_fault first) (More back got) ((back ≡ []) × (got ≡ first))

-- one exchange of this text with that place, and after a fault of its link one more
abbrev pub AtMostTwice : List ℕ → Place → List Exchange → Got → Type 0
AtMostTwice text at = TriesOn (IsHttpExchange text at) (IsHttpExchange text at)

-- the same, and after a fault of that link yet one more
abbrev pub AtMostThrice : List ℕ → Place → List Exchange → Got → Type 0
AtMostThrice text at = TriesOn (IsHttpExchange text at) (AtMostTwice text at)

-- The request was handed on to the sidecar of the owner, at most three times, each time under this name; `ys` are the
-- exchanges with other sidecars.
pub record IsPeerAsked (request : HttpRequest) (least : ℕ) (owner : HostInfo) (call : CallName) (ys : List Exchange) (next : Next) : Type 0 where
  pub got : Got
  pub exchange : AtMostThrice (forward_text owner.address request least call) (place_at owner.address) ys got
  pub reads : ReadsPeer got next

-- a call that this member forwards, under a number that its part drew
abbrev pub name_of : Member → ℕ → ℕ → CallName
name_of me part number = record { origin = me; part = part; number = number }

-- what follows the reply to a Draw; one that refuses it is the answer
abbrev pub AfterDraw : ℕ → Member → HttpRequest → ℕ → HostInfo → Said → List Exchange → Next → Type 0
AfterDraw part me request least owner (Ok (replies.Drawn number)) ys next = IsPeerAsked request least owner (name_of me part number) ys next
AfterDraw part me request least owner (Ok reply) ys next = (ys ≡ []) × (next ≡ Answered (refused (refusal_of reply)))
AfterDraw part me request least owner (Err spent) ys next = (ys ≡ []) × (next ≡ Answered (refused refusals.Spent))

-- one Draw on the part of the actor, and what follows
pub record IsForwarded (part : ℕ) (after : Seats) (me : Member) (request : HttpRequest) (least : ℕ) (owner : HostInfo) (es : List PartEntry) (ys : List Exchange) (next : Next) : Type 0 where
  pub said : Said
  pub draws : MakesOne Draw es said
  pub full : SpentAt part said after
  pub follows : AfterDraw part me request least owner said ys next

-- `part` is the number of the actor's part, and `after` are the seats that the call left
module _ (part : ℕ) (after : Seats) (me : Member) (app : Address) (q : Invoke) (request : HttpRequest) where
  -- one hop: an AskAt here if the owner is this member, or else a Draw, and the request is handed on to the owner's sidecar
  abbrev pub IsHop : ℕ → HostInfo → ℕ → ℕ → List PartEntry → List Exchange → List Exchange → Next → Type 0
  IsHop least owner first last es xs ys next =
      ((same_member owner.member me ≡ true) × (ys ≡ []) × IsAsked part after app q request (Some least) first last es xs next)
      ⊎ ((same_member owner.member me ≡ false) × (last ≡ first) × (xs ≡ []) × IsForwarded part after me request least owner es ys next)

-- The hops of a request from a route on that has made these: the route refuses the next one, or it is made; then the
-- request is answered, or hops again.
pub data IsRouted (part : ℕ) (after : Seats) (me : Member) (app : Address) (q : Invoke) (request : HttpRequest) :
    List ℕ → ℕ → HostInfo → ℕ → ℕ → List PartEntry → List Exchange → List Exchange → ApiReply → Type 0 where
  Stops : (hops : List ℕ) (version : ℕ) (owner : HostInfo) (now : ℕ) (refusal : ApiRefusal)
      → hop_refusal (route_hop hops version owner).answer ≡ Some refusal
      → IsRouted part after me app q request hops version owner now now [] [] [] (refused refusal)
  Ends : (hops : List ℕ) (version : ℕ) (owner : HostInfo) (least : ℕ) (to : HostInfo) (first last : ℕ) (es : List PartEntry) (xs ys : List Exchange) (answer : ApiReply)
      → (route_hop hops version owner).answer ≡ Go to least
      → IsHop part after me app q request least to first last es xs ys (Answered answer)
      → IsRouted part after me app q request hops version owner first last es xs ys answer
  HopsOn : (hops : List ℕ) (version : ℕ) (owner : HostInfo) (least : ℕ) (to : HostInfo) (first middle last : ℕ) (es fs : List PartEntry) (xs vs ys ws : List Exchange)
      (version2 : ℕ) (owner2 : HostInfo) (answer : ApiReply)
      → (route_hop hops version owner).answer ≡ Go to least
      → IsHop part after me app q request least to first middle es xs ys (Moves version2 owner2)
      → IsRouted part after me app q request (route_hop hops version owner).hops version2 owner2 middle last fs vs ws answer
      → IsRouted part after me app q request hops version owner first last (es ++ fs) (xs ++ vs) (ys ++ ws) answer
