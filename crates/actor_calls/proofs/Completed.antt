-- A call whose application answered is answered with that reply, by the cases of the relation.
use Rattle.std.proofs.Common.{◌≡◌, ◌⊎◌, ◌<◌, ◌+◌, refl, sym, ap, subst, ◌∙◌, inl, inr, ℕ, Bool, true, false, List, [], ◌∷◌, ◌++◌, arith, Option, Some, None, Ok, Err}
use Rattle.std.proofs.lemmas.List.{append-nil}
use Rattle.actor_names.specs.declared.member.Member.{Member}
use Rattle.actor_names.specs.declared.address.Address.{Address}
use Rattle.actor_ports.specs.Traffic.{Place}
use Rattle.place_table.specs.declared.host.HostInfo.{HostInfo}
use Rattle.part_model.specs.declared.event.PartEvent.TheVariants.{End, Draw}
use Rattle.part_model.specs.Receipts.{PartReply}
use Rattle.part_model.specs.declared.event.Reply.TheVariants as replies
use Rattle.http_edge.specs.Carry.{Carried}
use Rattle.http_edge.specs.Settled.{InputHasReply, MayFollow}
use Rattle.http_edge.specs.declared.message.HttpRequest.{HttpRequest}
use Rattle.http_edge.specs.declared.message.HttpResponse.{HttpResponse}
use Rattle.http_edge.specs.declared.error.EdgeError.{EdgeError}
use Rattle.http_edge.specs.declared.error.EdgeError.TheVariants as edge
use Rattle.actors_api.specs.declared.side.Side.{Side}
use Rattle.actors_api.specs.declared.side.Side.TheVariants.{Caller, Peer}
use Rattle.actors_api.specs.declared.reply.ApiReply.{ApiReply}
use Rattle.sidecar_node.specs.declared.node.Seats.{Seats}
use Rattle.sidecar_node.specs.Entries.{PartEntry}
use Rattle.sidecar_node.specs.Turns.{Said, Either, asks_again, Polls, ask_of, AfterAsk, Begins, MakesOne, Ends as EndsTurn}
use Rattle.exchanges.specs.Exchanges.{Exchange, total_rise, Comes}
use Rattle.exchanges.specs.Replies.{Got, place_at, HttpCarries, IsHttpExchange}
use Rattle.actor_calls.specs.declared.invoke.Invoke.{Invoke}
use Rattle.actor_calls.specs.declared.next.Next.{Next}
use Rattle.actor_calls.specs.declared.next.Next.TheVariants.{Answered, Moves}
use Rattle.actor_calls.specs.Texts.{call_text}
use Rattle.actor_calls.specs.Outcomes.{turn_answer}
use Rattle.actor_calls.specs.Turns.{IsIdle, IsTurn, Follows, IsAsked}
use Rattle.actor_calls.specs.Hops.{IsHop, IsRouted, Stops, Ends, HopsOn}
use Rattle.actor_calls.specs.Serving.{GoesOn, IsInvoked}
use Rattle.actor_calls.specs.Causes.{HasEnded, LinkRead, HasRead, IsCompleted, IsItsAnswer}

-- ---- entries

-- Polls and Asks are no Ends
polled_unended : (again : Bool) (call : ℕ) (es : List PartEntry) (said last : Said) → (Polls call es said → HasEnded es → ⊥) → Either again (Polls call es said) ((es ≡ []) × (said ≡ last)) → HasEnded es → ⊥
polled_unended true call es said last rest p h = rest p h
polled_unended false call es said last rest p h = subst HasEnded p.0 h

polls_unended : (call : ℕ) (es : List PartEntry) (said : Said) → Polls call es said → HasEnded es → ⊥
polls_unended call [] said p h = h
polls_unended call (e ∷ es) said p (inl h) = let is = p.0 in let end = h.3 in cc
polls_unended call (e ∷ es) said p (inr h) = polled_unended (asks_again e.reply) call es said (Ok e.reply) (λ q k. polls_unended call es said q k) p.1 h

after_unended : (reply : PartReply) (es : List PartEntry) (said : Said) → AfterAsk reply es said → HasEnded es → ⊥
after_unended (replies.Waits call place) es said a h = polls_unended call es said a h
after_unended reply es said a h = subst HasEnded a.0 h

asks_no_end : (q : Invoke) (least : Option ℕ) (now call later : ℕ) → ask_of q.actor q.chain least now ≡ End call later → ⊥
asks_no_end q None now call later e = cc
asks_no_end q (Some least) now call later e = cc

begins_unended : (q : Invoke) (least : Option ℕ) (now : ℕ) (es : List PartEntry) (said : Said) → Begins q.actor q.chain least now es said → HasEnded es → ⊥
begins_unended q least now [] said b h = h
begins_unended q least now (e ∷ es) said b (inl h) = asks_no_end q least now h.0 h.1 (sym b.0 ∙ h.3)
begins_unended q least now (e ∷ es) said b (inr h) = after_unended e.reply es said b.1 h

draws_unended : (es : List PartEntry) (said : Said) → MakesOne Draw es said → HasEnded es → ⊥
draws_unended [] said d h = h
draws_unended (e ∷ []) said d (inl h) = let is = d.0 in let end = h.3 in cc
draws_unended (e ∷ []) said d (inr h) = h
draws_unended (e ∷ f ∷ es) said d h = d

ends_so : (call now : ℕ) (es : List PartEntry) (said : Said) → EndsTurn call now es said → HasEnded es → (next : Option ℕ) × (said ≡ Ok (replies.Ended next))
ends_so call now [] said e h = absurd h
ends_so call now (x ∷ []) said e (inl h) = (h.2, e.1 ∙ ap (λ (r : PartReply). Ok r) h.4)
ends_so call now (x ∷ []) said e (inr h) = absurd h
ends_so call now (x ∷ y ∷ es) said e h = absurd e

ended_behind : (es fs : List PartEntry) → (HasEnded es → ⊥) → HasEnded (es ++ fs) → HasEnded fs
ended_behind [] fs none h = h
ended_behind (e ∷ es) fs none (inl h) = absurd (none (inl h))
ended_behind (e ∷ es) fs none (inr h) = ended_behind es fs (λ k. none (inr k)) h

-- ---- the exchange

none_follows : (error : EdgeError) → MayFollow error []
none_follows (edge.CutShort n) = refl
none_follows error = tt

abbrev Replied : HttpResponse → List ℕ → Type 0
Replied reply bytes = InputHasReply bytes reply

module _ (reply : HttpResponse) where
  abbrev IsGot : Got → Type 0
  IsGot got = (got ≡ Ok reply) ⊎ (got ≡ Err edge.OutOfMemory)

  link_got : (text : List ℕ) (link : Option Carried) (rise : ℕ) (got : Got) → Comes (Err edge.ConnFault) (Err edge.OutOfMemory) (HttpCarries text) link rise got → LinkRead (Replied reply) link → rise + 0 ≡ 0 → IsGot got
  link_got text None rise got h r calm = absurd r
  link_got text (Some c) rise (Ok other) h r calm = inl (ap (λ (x : HttpResponse). Ok x) (sym (h.0.settles None None reply r)))
  link_got text (Some c) rise (Err edge.ConnFault) h r calm = let up : 0 < rise = h.1 refl in absurd (omega arith)
  link_got text (Some c) rise (Err edge.OutOfMemory) h r calm = inr refl
  link_got text (Some c) rise (Err error) h r calm = absurd (h.0.settles [] None None reply (none_follows error) (subst (λ (b : List ℕ). Replied reply b) (sym (append-nil c.read)) r))

  exchange_got : (text : List ℕ) (at : Place) (xs : List Exchange) (got : Got) → IsHttpExchange text at xs got → HasRead (Replied reply) xs → total_rise xs ≡ 0 → IsGot got
  exchange_got text at [] got h r calm = absurd r
  exchange_got text at (x ∷ []) got h (inl r) calm = link_got text x.link x.rise got h.1 r calm
  exchange_got text at (x ∷ []) got h (inr r) calm = absurd r
  exchange_got text at (x ∷ y ∷ xs) got h r calm = absurd h

  abbrev IsItsNext : Next → Type 0
  IsItsNext next = (answer : ApiReply) × (next ≡ Answered answer) × IsItsAnswer reply answer

  turn_got : (next : Option ℕ) (got : Got) → IsGot got → IsItsAnswer reply (turn_answer (Ok (replies.Ended next)) got)
  turn_got next got (inl e) = subst (λ (g : Got). IsItsAnswer reply (turn_answer (Ok (replies.Ended next)) g)) (sym e) (inl refl)
  turn_got next got (inr e) = subst (λ (g : Got). IsItsAnswer reply (turn_answer (Ok (replies.Ended next)) g)) (sym e) (inr refl)

  -- ---- the relation

  unread : (P : List ℕ → Type 0) (xs : List Exchange) → xs ≡ [] → HasRead P xs → ⊥
  unread P xs e h = subst (λ (l : List Exchange). HasRead P l) e h

  module _ (part : ℕ) (after : Seats) (app : Address) (q : Invoke) (request : HttpRequest) where
    turn_completes : (call : ℕ) (chain : Option (List ℕ)) (first last : ℕ) (es : List PartEntry) (xs : List Exchange) (answer : ApiReply)
        → IsTurn part after app q request call chain first last es xs answer → HasRead (Replied reply) xs → total_rise xs ≡ 0 → HasEnded es → IsItsAnswer reply answer
    turn_completes call chain first last es xs answer t r calm h =
        let e = ends_so call last es t.said t.ends h in
        subst (λ (a : ApiReply). IsItsAnswer reply a) (sym t.answered)
        (subst (λ (s : Said). IsItsAnswer reply (turn_answer s t.got)) (sym e.1)
        (turn_got e.0 t.got (exchange_got (call_text app q.actor q.method chain request) (place_at app) xs t.got t.exchange r calm)))

    follows_completes : (said : Said) (first last : ℕ) (es : List PartEntry) (xs : List Exchange) (next : Next)
        → Follows part after app q request said first last es xs next → HasRead (Replied reply) xs → total_rise xs ≡ 0 → HasEnded es → IsItsNext next
    follows_completes (Ok (replies.Begun call chain)) first last es xs next f r calm h = (f.0, f.2, turn_completes call chain first last es xs f.0 f.1 r calm h)
    follows_completes (Ok said) first last es xs next f r calm h = absurd (unread (Replied reply) xs f.0.exchanges r)
    follows_completes (Err spent) first last es xs next f r calm h = absurd (unread (Replied reply) xs f.0.exchanges r)

    asked_completes : (least : Option ℕ) (first last : ℕ) (es : List PartEntry) (xs : List Exchange) (next : Next)
        → IsAsked part after app q request least first last es xs next → HasRead (Replied reply) xs → total_rise xs ≡ 0 → HasEnded es → IsItsNext next
    asked_completes least first last es xs next a r calm h =
        follows_completes a.said a.middle last a.back xs next a.follows r calm
        (ended_behind a.front a.back (begins_unended q least a.middle a.front a.said a.begins) (subst HasEnded a.entries h))

    -- one that moves on had no turn
    moves_idle : (said : Said) (first last : ℕ) (es : List PartEntry) (xs : List Exchange) (version : ℕ) (owner : HostInfo)
        → Follows part after app q request said first last es xs (Moves version owner) → IsIdle first last es xs
    moves_idle (Ok (replies.Begun call chain)) first last es xs version owner f = let e = f.2 in absurd (let k : ⊥ = cc in k)
    moves_idle (Ok said) first last es xs version owner f = f.0
    moves_idle (Err spent) first last es xs version owner f = f.0

    asked_moves : (least : Option ℕ) (first last : ℕ) (es : List PartEntry) (xs : List Exchange) (version : ℕ) (owner : HostInfo)
        → IsAsked part after app q request least first last es xs (Moves version owner) → (xs ≡ []) × (HasEnded es → ⊥)
    asked_moves least first last es xs version owner a =
        let i = moves_idle a.said a.middle last a.back xs version owner a.follows in (
          i.exchanges,
          λ h. subst HasEnded i.entries (ended_behind a.front a.back (begins_unended q least a.middle a.front a.said a.begins) (subst HasEnded a.entries h)),
        )

  its_answer : (answer : ApiReply) (next : Next) → next ≡ Answered answer → IsItsNext next → IsItsAnswer reply answer
  its_answer answer next e i = let f = i.1 in let same : i.0 ≡ answer = cc in subst (λ (a : ApiReply). IsItsAnswer reply a) same i.2

  module _ (part : ℕ) (after : Seats) (me : Member) (app : Address) (q : Invoke) (request : HttpRequest) where
    hop_completes : (least : ℕ) (to : HostInfo) (first last : ℕ) (es : List PartEntry) (xs ys : List Exchange) (answer : ApiReply)
        → IsHop part after me app q request least to first last es xs ys (Answered answer) → HasRead (Replied reply) xs → total_rise xs ≡ 0 → HasEnded es → IsItsAnswer reply answer
    hop_completes least to first last es xs ys answer (inl k) r calm h = its_answer answer (Answered answer) refl (asked_completes part after app q request (Some least) first last es xs (Answered answer) k.2 r calm h)
    hop_completes least to first last es xs ys answer (inr k) r calm h = absurd (unread (Replied reply) xs k.2 r)

    hop_moves : (least : ℕ) (to : HostInfo) (first last : ℕ) (es : List PartEntry) (xs ys : List Exchange) (version : ℕ) (owner : HostInfo)
        → IsHop part after me app q request least to first last es xs ys (Moves version owner) → (xs ≡ []) × (HasEnded es → ⊥)
    hop_moves least to first last es xs ys version owner (inl k) = asked_moves part after app q request (Some least) first last es xs version owner k.2
    hop_moves least to first last es xs ys version owner (inr k) = (k.2, λ h. draws_unended es k.3.said k.3.draws h)

    route_completes : {hops : List ℕ} {version : ℕ} {owner : HostInfo} {first last : ℕ} {es : List PartEntry} {xs ys : List Exchange} {answer : ApiReply}
        → IsRouted part after me app q request hops version owner first last es xs ys answer → HasRead (Replied reply) xs → total_rise xs ≡ 0 → HasEnded es → IsItsAnswer reply answer
    route_completes (Stops hops version owner now refusal e) r calm h = absurd r
    route_completes (Ends hops version owner least to first last es xs ys answer e k) r calm h = hop_completes least to first last es xs ys answer k r calm h
    route_completes (HopsOn hops version owner least to first middle last es fs xs vs ys ws version2 owner2 answer e k more) r calm h =
        let m = hop_moves least to first middle es xs ys version2 owner2 k in
        route_completes more (subst (λ (l : List Exchange). HasRead (Replied reply) (l ++ vs)) m.0 r) (subst (λ (l : List Exchange). total_rise (l ++ vs) ≡ 0) m.0 calm) (ended_behind es fs m.1 h)

    goes_completes : (side : Side) (next : Next) (first middle last : ℕ) (es fs : List PartEntry) (xs vs ys : List Exchange) (answer : ApiReply)
        → IsAsked part after app q request q.least first middle es xs next → GoesOn part after me app q request side next middle last fs vs ys answer
        → HasRead (Replied reply) (xs ++ vs) → total_rise (xs ++ vs) ≡ 0 → HasEnded (es ++ fs) → IsItsAnswer reply answer
    goes_completes side (Answered other) first middle last es fs xs vs ys answer a g r calm h =
        let idle = g.0 in
        let xs_is : xs ++ vs ≡ xs = ap (λ (l : List Exchange). xs ++ l) idle.exchanges ∙ append-nil xs in
        let es_is : es ++ fs ≡ es = ap (λ (l : List PartEntry). es ++ l) idle.entries ∙ append-nil es in
        subst (λ (b : ApiReply). IsItsAnswer reply b) (sym g.2)
        (its_answer other (Answered other) refl
        (asked_completes part after app q request q.least first middle es xs (Answered other) a (subst (λ (l : List Exchange). HasRead (Replied reply) l) xs_is r) (subst (λ (l : List Exchange). total_rise l ≡ 0) xs_is calm) (subst HasEnded es_is h)))
    goes_completes Peer (Moves version owner) first middle last es fs xs vs ys answer a g r calm h =
        let m = asked_moves part after app q request q.least first middle es xs version owner a in
        absurd (unread (Replied reply) vs g.0.exchanges (subst (λ (l : List Exchange). HasRead (Replied reply) (l ++ vs)) m.0 r))
    goes_completes Caller (Moves version owner) first middle last es fs xs vs ys answer a g r calm h =
        let m = asked_moves part after app q request q.least first middle es xs version owner a in
        route_completes g (subst (λ (l : List Exchange). HasRead (Replied reply) (l ++ vs)) m.0 r) (subst (λ (l : List Exchange). total_rise (l ++ vs) ≡ 0) m.0 calm) (ended_behind es fs m.1 h)

pub invoked_completes :
    (part : ℕ) (after : Seats) (me : Member) (app : Address) (q : Invoke) (request : HttpRequest) (side : Side) (first last : ℕ) (es : List PartEntry) (xs ys : List Exchange) (answer : ApiReply)
    → IsInvoked part after me app q request side first last es xs ys answer → (reply : HttpResponse) → IsCompleted es xs reply → IsItsAnswer reply answer
invoked_completes part after me app q request side first last es xs ys answer i reply c =
    goes_completes reply part after me app q request side i.next first i.middle last i.front i.back i.early i.late ys answer i.asked i.goes_on
    (subst (λ (l : List Exchange). HasRead (Replied reply) l) i.exchanges c.read) (subst (λ (l : List Exchange). total_rise l ≡ 0) i.exchanges c.sound) (subst HasEnded i.entries c.ended)
