-- Which entries a served call makes, and what its refusal goes back to, by the cases of the relation.
use Rattle.std.proofs.Common.{◌≡◌, ◌⊎◌, ◌<◌, refl, sym, subst, inl, inr, ℕ, Bool, true, false, List, [], ◌∷◌, ◌++◌, length, append_assoc, arith, length-append, Option, Some, None, Ok, Err}
use Rattle.std.specs.Prelude.{nat_lt, ◌==◌}
use Rattle.std.proofs.lemmas.List.{append-nil}
use Rattle.std.proofs.lemmas.Bool.{cond_both, eqb-true, ltb-true, ltb-false}
use Rattle.actor_names.specs.declared.member.Member.{Member}
use Rattle.actor_names.specs.declared.address.Address.{Address}
use Rattle.place_table.specs.declared.host.HostInfo.{HostInfo}
use Rattle.part_model.specs.declared.event.PartEvent.{PartEvent}
use Rattle.part_model.specs.declared.event.PartEvent.TheVariants.{Draw}
use Rattle.part_model.specs.Receipts.{PartReply}
use Rattle.part_model.specs.declared.event.Reply.TheVariants as replies
use Rattle.member_core.specs.Routes.{HopStep, last_or, rising_hop, route_hop, IsRisingFrom, IsRising}
use Rattle.member_core.proofs.Hops.{IsBounded, hops_bounded, none_bounded}
use Rattle.call_names.specs.declared.name.CallName.{CallName}
use Rattle.http_edge.specs.declared.message.HttpRequest.{HttpRequest}
use Rattle.http_edge.specs.declared.message.HttpResponse.{HttpResponse}
use Rattle.http_edge.specs.declared.error.EdgeError.{EdgeError}
use Rattle.http_edge.specs.declared.error.EdgeError.TheVariants as edge
use Rattle.actors_api.specs.declared.side.Side.{Side}
use Rattle.actors_api.specs.declared.side.Side.TheVariants.{Caller, Peer}
use Rattle.actors_api.specs.declared.reply.ApiReply.{ApiReply}
use Rattle.actors_api.specs.declared.reply.ApiReply.TheVariants as api
use Rattle.actors_api.specs.declared.refusal.ApiRefusal.{ApiRefusal}
use Rattle.actors_api.specs.declared.refusal.ApiRefusal.TheVariants as refusals
use Rattle.app_texts.specs.declared.peer_reply.PeerReply.{PeerReply}
use Rattle.app_texts.specs.declared.peer_reply.PeerReply.TheVariants as peers
use Rattle.app_texts.specs.PeerReplies.{reply_reading, GivesReply}
use Rattle.sidecar_node.specs.declared.node.Seats.{Seats}
use Rattle.sidecar_node.specs.Entries.{PartEntry}
use Rattle.sidecar_node.specs.Nodes.{SpentAt}
use Rattle.sidecar_node.specs.Turns.{Said, Either, asks_again, Polls, ask_of, AfterAsk, Begins, MakesOne, Ends as EndsTurn}
use Rattle.exchanges.specs.Exchanges.{Exchange}
use Rattle.exchanges.specs.Replies.{Got, place_at}
use Rattle.actor_calls.specs.declared.invoke.Invoke.{Invoke}
use Rattle.actor_calls.specs.declared.next.Next.{Next}
use Rattle.actor_calls.specs.declared.next.Next.TheVariants.{Answered, Moves}
use Rattle.actor_calls.specs.Texts.{call_text, forward_text}
use Rattle.actor_calls.specs.Outcomes.{refusal_of, next_of, app_answer, ended_answer, turn_answer, hop_refusal, peer_fault, peer_next, ReadsPeer}
use Rattle.actor_calls.specs.Turns.{IsIdle, Follows, IsAsked}
use Rattle.actor_calls.specs.Hops.{IsPeerAsked, name_of, AfterDraw, IsForwarded, IsHop, IsRouted, Stops, Ends, HopsOn}
use Rattle.actor_calls.specs.Serving.{GoesOn, IsInvoked}
use Rattle.actor_calls.specs.Causes.{IsCallEvent, AreCallEntries, HasReply, HasRead, IsReply, IsUnread, IsPassedOn, PassesOn, NamesOwner, IsUnreadPeer, IsMoved, AreTold, HasCause, AnswerHasCause}
use Rattle.actor_calls.proofs.Routings.{goes}
use Rattle.actor_calls.proofs.Shown.{one_reply, refused_so, Began, Ended, began, ended, Shows, exchange_shows, FaultRises, read_map, many_left, many_right, rises_left, rises_right, read_left, read_right, reply_left, reply_right, refused_left, refused_right, thrice_shows, thrice_rises}

-- ---- entries

polled : (q : Invoke) (again : Bool) (call : ℕ) (es : List PartEntry) (said last : Said) → (Polls call es said → AreCallEntries q es) → Either again (Polls call es said) ((es ≡ []) × (said ≡ last)) → AreCallEntries q es
polled q true call es said last rest p = rest p
polled q false call es said last rest p = subst (λ (l : List PartEntry). AreCallEntries q l) (sym p.0) tt

polls_entries : (q : Invoke) (call : ℕ) (es : List PartEntry) (said : Said) → Polls call es said → AreCallEntries q es
polls_entries q call [] said p = tt
polls_entries q call (e ∷ es) said p = (
  subst (λ (m : PartEvent). IsCallEvent q m) (sym p.0) tt,
  polled q (asks_again e.reply) call es said (Ok e.reply) (λ h. polls_entries q call es said h) p.1,
)

after_entries : (q : Invoke) (reply : PartReply) (es : List PartEntry) (said : Said) → AfterAsk reply es said → AreCallEntries q es
after_entries q (replies.Waits call place) es said a = polls_entries q call es said a
after_entries q reply es said a = subst (λ (l : List PartEntry). AreCallEntries q l) (sym a.0) tt

ask_event : (q : Invoke) (least : Option ℕ) (now : ℕ) → IsCallEvent q (ask_of q.actor q.chain least now)
ask_event q None now = (refl, refl)
ask_event q (Some least) now = (refl, refl)

begins_entries : (q : Invoke) (least : Option ℕ) (now : ℕ) (es : List PartEntry) (said : Said) → Begins q.actor q.chain least now es said → AreCallEntries q es
begins_entries q least now [] said b = tt
begins_entries q least now (e ∷ es) said b = (subst (λ (m : PartEvent). IsCallEvent q m) (sym b.0) (ask_event q least now), after_entries q e.reply es said b.1)

ends_entries : (q : Invoke) (call now : ℕ) (es : List PartEntry) (said : Said) → EndsTurn call now es said → AreCallEntries q es
ends_entries q call now [] said h = tt
ends_entries q call now (e ∷ []) said h = (subst (λ (m : PartEvent). IsCallEvent q m) (sym h.0) tt, tt)
ends_entries q call now (e ∷ f ∷ es) said h = absurd h

draws_entries : (q : Invoke) (es : List PartEntry) (said : Said) → MakesOne Draw es said → AreCallEntries q es
draws_entries q [] said h = tt
draws_entries q (e ∷ []) said h = (subst (λ (m : PartEvent). IsCallEvent q m) (sym h.0) tt, tt)
draws_entries q (e ∷ f ∷ es) said h = absurd h

entries_then : (q : Invoke) (es fs : List PartEntry) → AreCallEntries q es → AreCallEntries q fs → AreCallEntries q (es ++ fs)
entries_then q [] fs a b = b
entries_then q (e ∷ es) fs a b = (a.0, entries_then q es fs a.1 b)

idle_entries : (q : Invoke) (first last : ℕ) (es : List PartEntry) (xs : List Exchange) → IsIdle first last es xs → AreCallEntries q es
idle_entries q first last es xs i = subst (λ (l : List PartEntry). AreCallEntries q l) (sym i.entries) tt

module _ (part : ℕ) (after : Seats) where
  abbrev NextHasCause : List PartEntry → List Exchange → List Exchange → Next → Type 0
  NextHasCause es xs ys (Answered answer) = AnswerHasCause part after es xs ys answer
  NextHasCause es xs ys (Moves version owner) = IsMoved es ys version owner

module _ (es fs : List PartEntry) (ys ws : List Exchange) where
  moved_left : (version : ℕ) (owner : HostInfo) → IsMoved es ys version owner → IsMoved (es ++ fs) (ys ++ ws) version owner
  moved_left version owner (inl h) = inl (reply_left (replies.Elsewhere version owner) es fs h)
  moved_left version owner (inr h) = inr (read_left (NamesOwner version owner) ys ws h)

  moved_right : (version : ℕ) (owner : HostInfo) → IsMoved fs ws version owner → IsMoved (es ++ fs) (ys ++ ws) version owner
  moved_right version owner (inl h) = inl (reply_right (replies.Elsewhere version owner) es fs h)
  moved_right version owner (inr h) = inr (read_right (NamesOwner version owner) ys ws h)

  told_left : (vs : List ℕ) → AreTold es ys vs → AreTold (es ++ fs) (ys ++ ws) vs
  told_left [] h = tt
  told_left (v ∷ vs) h = ((h.0.0, moved_left v h.0.0 h.0.1), told_left vs h.1)

  told_right : (vs : List ℕ) → AreTold fs ws vs → AreTold (es ++ fs) (ys ++ ws) vs
  told_right [] h = tt
  told_right (v ∷ vs) h = ((h.0.0, moved_right v h.0.0 h.0.1), told_right vs h.1)

module _ (part : ℕ) (after : Seats) (es fs : List PartEntry) (xs vs ys ws : List Exchange) where
  cause_left : (refusal : ApiRefusal) → HasCause part after es xs ys refusal → HasCause part after (es ++ fs) (xs ++ vs) (ys ++ ws) refusal
  cause_left refusals.AppFault h = rises_left xs vs h
  cause_left refusals.PeerFault h = many_left ys ws h
  cause_left refusals.AppReply h = read_left IsUnread xs vs h
  cause_left refusals.PeerReply h = read_left IsUnreadPeer ys ws h
  cause_left refusals.OutOfMemory h = tt
  cause_left refusals.Spent (inl full) = inl full
  cause_left refusals.Spent (inr h) = inr (refused_left refusals.Spent es fs h)
  cause_left (refusals.NotRising last version) h = (h.0, told_left es fs ys ws (last ∷ version ∷ []) h.1)
  cause_left (refusals.Moved versions) h = (h.0, h.1, told_left es fs ys ws versions h.2)
  cause_left refusal h = refused_left refusal es fs h

  cause_right : (refusal : ApiRefusal) → HasCause part after fs vs ws refusal → HasCause part after (es ++ fs) (xs ++ vs) (ys ++ ws) refusal
  cause_right refusals.AppFault h = rises_right xs vs h
  cause_right refusals.PeerFault h = many_right ys ws h
  cause_right refusals.AppReply h = read_right IsUnread xs vs h
  cause_right refusals.PeerReply h = read_right IsUnreadPeer ys ws h
  cause_right refusals.OutOfMemory h = tt
  cause_right refusals.Spent (inl full) = inl full
  cause_right refusals.Spent (inr h) = inr (refused_right refusals.Spent es fs h)
  cause_right (refusals.NotRising last version) h = (h.0, told_right es fs ys ws (last ∷ version ∷ []) h.1)
  cause_right (refusals.Moved versions) h = (h.0, h.1, told_right es fs ys ws versions h.2)
  cause_right refusal h = refused_right refusal es fs h

  answer_left : (answer : ApiReply) → AnswerHasCause part after es xs ys answer → AnswerHasCause part after (es ++ fs) (xs ++ vs) (ys ++ ws) answer
  answer_left (api.Refused refusal) h = cause_left refusal h
  answer_left (api.Invoked reply) (inl h) = inl (read_left (IsReply reply) xs vs h)
  answer_left (api.Invoked reply) (inr h) = inr (read_left (PassesOn reply) ys ws h)
  answer_left (api.Elsewhere version owner) h = reply_left (replies.Elsewhere version owner) es fs h
  answer_left answer h = absurd h

  answer_right : (answer : ApiReply) → AnswerHasCause part after fs vs ws answer → AnswerHasCause part after (es ++ fs) (xs ++ vs) (ys ++ ws) answer
  answer_right (api.Refused refusal) h = cause_right refusal h
  answer_right (api.Invoked reply) (inl h) = inl (read_right (IsReply reply) xs vs h)
  answer_right (api.Invoked reply) (inr h) = inr (read_right (PassesOn reply) ys ws h)
  answer_right (api.Elsewhere version owner) h = reply_right (replies.Elsewhere version owner) es fs h
  answer_right answer h = absurd h

  next_right : (next : Next) → NextHasCause part after fs vs ws next → NextHasCause part after (es ++ fs) (xs ++ vs) (ys ++ ws) next
  next_right (Answered answer) h = answer_right answer h
  next_right (Moves version owner) h = moved_right es fs ys ws version owner h

  next_left : (next : Next) → NextHasCause part after es xs ys next → NextHasCause part after (es ++ fs) (xs ++ vs) (ys ++ ws) next
  next_left (Answered answer) h = answer_left answer h
  next_left (Moves version owner) h = moved_left es fs ys ws version owner h

-- ---- what replies and exchanges come to

module _ (part : ℕ) (after : Seats) (es : List PartEntry) (xs ys : List Exchange) where
  row_caused : (reply : PartReply) → HasReply reply es → HasCause part after es xs ys (refusal_of reply)
  row_caused (replies.Spent count) h = inr (refused_so (replies.Spent count) es h)
  row_caused (replies.Behind seen) h = refused_so (replies.Behind seen) es h
  row_caused (replies.Depth turns) h = refused_so (replies.Depth turns) es h
  row_caused (replies.NoHost version) h = refused_so (replies.NoHost version) es h
  row_caused replies.PartFull h = refused_so replies.PartFull es h
  row_caused (replies.QueueFull n) h = refused_so (replies.QueueFull n) es h
  row_caused replies.AlreadyEnded h = refused_so replies.AlreadyEnded es h
  row_caused replies.Stopped h = refused_so replies.Stopped es h
  row_caused reply h = tt

  said_caused : (reply : PartReply) → (reply ≡ replies.OutOfMemory) ⊎ HasReply reply es → HasCause part after es xs ys (refusal_of reply)
  said_caused reply (inl e) = subst (λ (r : PartReply). HasCause part after es xs ys (refusal_of r)) (sym e) tt
  said_caused reply (inr h) = row_caused reply h

  next_caused : (reply : PartReply) → (reply ≡ replies.OutOfMemory) ⊎ HasReply reply es → NextHasCause part after es xs ys (next_of reply)
  next_caused (replies.Elsewhere version owner) (inl e) = absurd (let k : ⊥ = cc in k)
  next_caused (replies.Elsewhere version owner) (inr h) = inl h
  next_caused reply h = said_caused reply h

  app_caused : (got : Got) → Shows xs got → AnswerHasCause part after es xs ys (app_answer got)
  app_caused (Ok reply) s = inl s
  app_caused (Err edge.ConnFault) s = s
  app_caused (Err edge.OutOfMemory) s = tt
  app_caused (Err error) s = s

  ended_caused : (reply : PartReply) (got : Got) → HasReply reply es → Shows xs got → AnswerHasCause part after es xs ys (ended_answer reply got)
  ended_caused (replies.Ended next) got h s = app_caused got s
  ended_caused replies.Stopped got h s = refused_so replies.Stopped es h
  ended_caused replies.AlreadyEnded got h s = refused_so replies.AlreadyEnded es h
  ended_caused reply got h s = tt

  turn_caused : (said : Said) (got : Got) → SpentAt part said after → Ended said es → Shows xs got → AnswerHasCause part after es xs ys (turn_answer said got)
  turn_caused (Err spent) got full h s = inl full.1
  turn_caused (Ok reply) (Ok response) full h s = ended_caused reply (Ok response) h s
  turn_caused (Ok reply) (Err edge.OutOfMemory) full h s = tt
  turn_caused (Ok reply) (Err error) full h s = ended_caused reply (Err error) h s

-- ---- hops that are refused

rising_from : (w v : ℕ) (ws : List ℕ) → IsRisingFrom w ws → last_or w ws < v → IsRisingFrom w (ws ++ v ∷ [])
rising_from w v [] r up = (up, tt)
rising_from w v (x ∷ ws) r up = (r.0, rising_from x v ws r.1 up)

told_more : (es : List PartEntry) (ys : List Exchange) (vs : List ℕ) (v : ℕ) → AreTold es ys vs → AreTold es ys (v ∷ []) → AreTold es ys (vs ++ v ∷ [])
told_more es ys [] v all one = one
told_more es ys (w ∷ vs) v all one = (all.0, told_more es ys vs v all.1 one)

told_last : (es : List PartEntry) (ys : List Exchange) (v : ℕ) (vs : List ℕ) → AreTold es ys (v ∷ vs) → AreTold es ys (last_or v vs ∷ [])
told_last es ys v [] all = all
told_last es ys v (w ∷ vs) all = told_last es ys w vs all.1

module _ (part : ℕ) (after : Seats) (es : List PartEntry) (xs ys : List Exchange) (version : ℕ) (owner : HostInfo) (refusal : ApiRefusal) where
  abbrev StopCause : HopStep → Type 0
  StopCause s = hop_refusal s.answer ≡ Some refusal → HasCause part after es xs ys refusal

  eighth : (hops : List ℕ) → IsRising (hops ++ version ∷ []) → AreTold es ys (hops ++ version ∷ []) → StopCause (rising_hop hops version owner)
  eighth hops rising all =
      cond_both (length hops == 7) _ _ StopCause
      (λ full e.
      let same : refusals.Moved (hops ++ version ∷ []) ≡ refusal = cc in
      let l = length-append hops (version ∷ []) in
      let k : length hops ≡ 7 = eqb-true (length hops) 7 full in
      subst (λ (r : ApiRefusal). HasCause part after es xs ys r) same ((let m : length (hops ++ version ∷ []) ≡ 8 = omega arith in m), rising, all))
      (λ few e. absurd (let h : ⊥ = cc in h))

  stopped : (hops : List ℕ) → IsBounded hops → AreTold es ys hops → AreTold es ys (version ∷ []) → StopCause (route_hop hops version owner)
  stopped [] b all one = eighth [] tt one
  stopped (v ∷ vs) b all one =
      cond_both (nat_lt (last_or v vs) version) _ _ StopCause
      (λ up. eighth (v ∷ vs) (rising_from v version vs b.rising (ltb-true (last_or v vs) version up)) (told_more es ys (v ∷ vs) version all one))
      (λ down e.
      let same : refusals.NotRising (last_or v vs) version ≡ refusal = cc in
      let last = told_last es ys v vs all in
      subst (λ (r : ApiRefusal). HasCause part after es xs ys r) same (ltb-false (last_or v vs) version down, (last.0, (one.0, tt))))

module _ (part : ℕ) (after : Seats) (ys : List Exchange) where
  passes_on : (reply : HttpResponse) (said : PeerReply) → reply_reading reply ≡ said → IsPassedOn said → HasRead (IsReply reply) ys → AnswerHasCause part after [] [] ys (api.Invoked reply)
  passes_on reply said is passed s = inr (read_map (IsReply reply) (PassesOn reply) ys (λ bytes h. (h, subst (λ (m : PeerReply). IsPassedOn m) (sym is) passed)) s)

  reply_next : (reply : HttpResponse) (said : PeerReply) → GivesReply (reply_reading reply) said → HasRead (IsReply reply) ys → NextHasCause part after [] [] ys (peer_next reply said)
  reply_next reply peers.Application is s = passes_on reply peers.Application is tt s
  reply_next reply (peers.Refusal word) is s = passes_on reply (peers.Refusal word) is tt s
  reply_next reply (peers.Elsewhere version owner) is s = inr (read_map (IsReply reply) (NamesOwner version owner) ys (λ bytes h. (reply, h, is)) s)
  reply_next reply peers.Unreadable is s = read_map (IsReply reply) IsUnreadPeer ys (λ bytes h. inr (reply, h, is)) s
  reply_next reply peers.OutOfMemory is s = tt

  fault_next : (error : EdgeError) → FaultRises 3 ys (Err error) → Shows ys (Err error) → AnswerHasCause part after [] [] ys (peer_fault error)
  fault_next edge.ConnFault many s = many
  fault_next edge.OutOfMemory many s = tt
  fault_next error many s = read_map IsUnread IsUnreadPeer ys (λ bytes h. inl h) s

  reads_next : (got : Got) (next : Next) → ReadsPeer got next → FaultRises 3 ys got → Shows ys got → NextHasCause part after [] [] ys next
  reads_next (Ok reply) next r many s = subst (λ (m : Next). NextHasCause part after [] [] ys m) (sym r.2) (reply_next reply r.0 r.1 s)
  reads_next (Err error) next r many s = subst (λ (m : Next). NextHasCause part after [] [] ys m) (sym r) (fault_next error many s)

-- ---- the relation

module _ (part : ℕ) (after : Seats) (app : Address) (q : Invoke) (request : HttpRequest) where
  follows_entries : (said : Said) (first last : ℕ) (es : List PartEntry) (xs : List Exchange) (next : Next) → Follows part after app q request said first last es xs next → AreCallEntries q es
  follows_entries (Ok (replies.Begun call chain)) first last es xs next f = ends_entries q call last es f.1.said f.1.ends
  follows_entries (Ok reply) first last es xs next f = idle_entries q first last es xs f.0
  follows_entries (Err spent) first last es xs next f = idle_entries q first last es xs f.0

  follows_caused : (said : Said) (first last : ℕ) (front back : List PartEntry) (xs : List Exchange) (next : Next) → SpentAt part said after → Began said front → Follows part after app q request said first last back xs next → NextHasCause part after (front ++ back) xs [] next
  follows_caused (Ok (replies.Begun call chain)) first last front back xs next full b f =
      let t = f.1 in
      let shows = exchange_shows (call_text app q.actor q.method chain request) (place_at app) xs t.got t.exchange in
      let c = answer_right part after front back [] xs [] [] (turn_answer t.said t.got) (turn_caused part after back xs [] t.said t.got t.full (ended call last back t.said t.ends) shows) in
      subst (λ (m : Next). NextHasCause part after (front ++ back) xs [] m) (sym f.2)
      (subst (λ (a : ApiReply). AnswerHasCause part after (front ++ back) xs [] a) (sym t.answered) c)
  follows_caused (Ok reply) first last front back xs next full b f =
      subst (λ (m : Next). NextHasCause part after (front ++ back) xs [] m) (sym f.1) (next_left part after front back [] xs [] [] (next_of reply) (next_caused part after front [] [] reply b))
  follows_caused (Err spent) first last front back xs next full b f = subst (λ (m : Next). NextHasCause part after (front ++ back) xs [] m) (sym f.1) (inl full.1)

  asked_entries : (least : Option ℕ) (first last : ℕ) (es : List PartEntry) (xs : List Exchange) (next : Next) → IsAsked part after app q request least first last es xs next → AreCallEntries q es
  asked_entries least first last es xs next a =
      subst (λ (l : List PartEntry). AreCallEntries q l) (sym a.entries)
      (entries_then q a.front a.back (begins_entries q least a.middle a.front a.said a.begins) (follows_entries a.said a.middle last a.back xs next a.follows))

  asked_caused : (least : Option ℕ) (first last : ℕ) (es : List PartEntry) (xs : List Exchange) (next : Next) → IsAsked part after app q request least first last es xs next → NextHasCause part after es xs [] next
  asked_caused least first last es xs next a =
      subst (λ (l : List PartEntry). NextHasCause part after l xs [] next) (sym a.entries)
      (follows_caused a.said a.middle last a.front a.back xs next a.full (began q least a.middle a.front a.said a.begins) a.follows)

module _ (part : ℕ) (after : Seats) (me : Member) (app : Address) (q : Invoke) (request : HttpRequest) where
  peer_caused : (least : ℕ) (owner : HostInfo) (call : CallName) (ys : List Exchange) (next : Next) → IsPeerAsked request least owner call ys next → NextHasCause part after [] [] ys next
  peer_caused least owner call ys next p =
      let text = forward_text owner.address request least call in
      reads_next part after ys p.got next p.reads (thrice_rises text (place_at owner.address) ys p.got p.exchange) (thrice_shows text (place_at owner.address) ys p.got p.exchange)

  -- a Draw, and what followed
  drawn_caused : (least : ℕ) (owner : HostInfo) (said : Said) (es : List PartEntry) (ys : List Exchange) (next : Next) → SpentAt part said after → MakesOne Draw es said → AfterDraw part me request least owner said ys next → NextHasCause part after es [] ys next
  drawn_caused least owner (Ok (replies.Drawn number)) es ys next full d f =
      subst (λ (l : List PartEntry). NextHasCause part after l [] ys next) (append-nil es) (next_right part after es [] [] [] [] ys next (peer_caused least owner (name_of me part number) ys next f))
  drawn_caused least owner (Ok reply) es ys next full d f =
      subst (λ (m : Next). NextHasCause part after es [] ys m) (sym f.1) (row_caused part after es [] ys reply (one_reply Draw es reply d))
  drawn_caused least owner (Err spent) es ys next full d f = subst (λ (m : Next). NextHasCause part after es [] ys m) (sym f.1) (inl full.1)

  forward_caused : (least : ℕ) (owner : HostInfo) (es : List PartEntry) (ys : List Exchange) (next : Next) → IsForwarded part after me request least owner es ys next → NextHasCause part after es [] ys next
  forward_caused least owner es ys next f = drawn_caused least owner f.said es ys next f.full f.draws f.follows

  hop_caused : (least : ℕ) (owner : HostInfo) (first last : ℕ) (es : List PartEntry) (xs ys : List Exchange) (next : Next) → IsHop part after me app q request least owner first last es xs ys next → NextHasCause part after es xs ys next
  hop_caused least owner first last es xs ys next (inl h) = subst (λ (l : List Exchange). NextHasCause part after es xs l next) (sym h.1) (asked_caused part after app q request (Some least) first last es xs next h.2)
  hop_caused least owner first last es xs ys next (inr h) =
      subst (λ (l : List Exchange). NextHasCause part after es l ys next) (sym h.2) (forward_caused least owner es ys next h.3)

  hop_entries : (least : ℕ) (owner : HostInfo) (first last : ℕ) (es : List PartEntry) (xs ys : List Exchange) (next : Next) → IsHop part after me app q request least owner first last es xs ys next → AreCallEntries q es
  hop_entries least owner first last es xs ys next (inl h) = asked_entries part after app q request (Some least) first last es xs next h.2
  hop_entries least owner first last es xs ys next (inr h) = draws_entries q es h.3.said h.3.draws

  -- what was done before the route went on counts too: each version was told then
  route_caused : {hops : List ℕ} {version : ℕ} {owner : HostInfo} {first last : ℕ} {es : List PartEntry} {xs ys : List Exchange} {answer : ApiReply}
      → (ds : List PartEntry) (us zs : List Exchange) → IsBounded hops → AreTold ds zs hops → AreTold ds zs (version ∷ [])
      → IsRouted part after me app q request hops version owner first last es xs ys answer → AnswerHasCause part after (ds ++ es) (us ++ xs) (zs ++ ys) answer
  route_caused ds us zs b all one (Stops hops version owner now refusal e) =
      cause_left part after ds [] us [] zs [] refusal (stopped part after ds us zs version owner refusal hops b all one e)
  route_caused ds us zs b all one (Ends hops version owner least to first last es xs ys answer e h) =
      answer_right part after ds es us xs zs ys answer (hop_caused least to first last es xs ys (Answered answer) h)
  route_caused ds us zs b all one (HopsOn hops version owner least to first middle last es fs xs vs ys ws version2 owner2 answer e h r) =
      let moved = hop_caused least to first middle es xs ys (Moves version2 owner2) h in
      let g = goes hops version owner to least e in
      let noted = subst (λ (l : List ℕ). AreTold ds zs l) (sym g.1) (told_more ds zs hops version all one) in
      let more = (route_hop hops version owner).hops in
      let c = route_caused (ds ++ es) (us ++ xs) (zs ++ ys) (hops_bounded hops ((version, owner) ∷ []) b) (told_left ds es zs ys more noted) ((owner2, moved_right ds es zs ys version2 owner2 moved), tt) r in
      subst (λ (l : List PartEntry). AnswerHasCause part after l (us ++ (xs ++ vs)) (zs ++ (ys ++ ws)) answer) (append_assoc ds es fs)
      (subst (λ (l : List Exchange). AnswerHasCause part after ((ds ++ es) ++ fs) l (zs ++ (ys ++ ws)) answer) (append_assoc us xs vs)
      (subst (λ (l : List Exchange). AnswerHasCause part after ((ds ++ es) ++ fs) ((us ++ xs) ++ vs) l answer) (append_assoc zs ys ws) c))

  route_entries : {hops : List ℕ} {version : ℕ} {owner : HostInfo} {first last : ℕ} {es : List PartEntry} {xs ys : List Exchange} {answer : ApiReply}
      → IsRouted part after me app q request hops version owner first last es xs ys answer → AreCallEntries q es
  route_entries (Stops hops version owner now refusal e) = tt
  route_entries (Ends hops version owner least to first last es xs ys answer e h) = hop_entries least to first last es xs ys (Answered answer) h
  route_entries (HopsOn hops version owner least to first middle last es fs xs vs ys ws version2 owner2 answer e h r) =
      entries_then q es fs (hop_entries least to first middle es xs ys (Moves version2 owner2) h) (route_entries r)

  goes_caused : (side : Side) (next : Next) (first last : ℕ) (es fs : List PartEntry) (xs vs ys : List Exchange) (answer : ApiReply)
      → NextHasCause part after es xs [] next → GoesOn part after me app q request side next first last fs vs ys answer → AnswerHasCause part after (es ++ fs) (xs ++ vs) ys answer
  goes_caused side (Answered reply) first last es fs xs vs ys answer n g =
      subst (λ (a : ApiReply). AnswerHasCause part after (es ++ fs) (xs ++ vs) ys a) (sym g.2) (answer_left part after es fs xs vs [] ys reply n)
  goes_caused Peer (Moves version owner) first last es fs xs vs ys answer n g =
      subst (λ (a : ApiReply). AnswerHasCause part after (es ++ fs) (xs ++ vs) ys a) (sym g.2)
      (elim n [
        | inl h ↦ reply_left (replies.Elsewhere version owner) es fs h
        | inr h ↦ absurd h
      ])
  goes_caused Caller (Moves version owner) first last es fs xs vs ys answer n g = route_caused es xs [] none_bounded tt ((owner, n), tt) g

  goes_entries : (side : Side) (next : Next) (first last : ℕ) (fs : List PartEntry) (vs ys : List Exchange) (answer : ApiReply)
      → GoesOn part after me app q request side next first last fs vs ys answer → AreCallEntries q fs
  goes_entries side (Answered reply) first last fs vs ys answer g = idle_entries q first last fs vs g.0
  goes_entries Peer (Moves version owner) first last fs vs ys answer g = idle_entries q first last fs vs g.0
  goes_entries Caller (Moves version owner) first last fs vs ys answer g = route_entries g

  pub invoked_entries : (side : Side) (first last : ℕ) (es : List PartEntry) (xs ys : List Exchange) (answer : ApiReply) → IsInvoked part after me app q request side first last es xs ys answer → AreCallEntries q es
  invoked_entries side first last es xs ys answer i =
      subst (λ (l : List PartEntry). AreCallEntries q l) (sym i.entries)
      (entries_then q i.front i.back (asked_entries part after app q request q.least first i.middle i.front i.early i.next i.asked) (goes_entries side i.next i.middle last i.back i.late ys answer i.goes_on))

  pub invoked_caused : (side : Side) (first last : ℕ) (es : List PartEntry) (xs ys : List Exchange) (answer : ApiReply) → IsInvoked part after me app q request side first last es xs ys answer → AnswerHasCause part after es xs ys answer
  invoked_caused side first last es xs ys answer i =
      subst (λ (l : List PartEntry). AnswerHasCause part after l xs ys answer) (sym i.entries)
      (subst (λ (l : List Exchange). AnswerHasCause part after (i.front ++ i.back) l ys answer) (sym i.exchanges)
      (goes_caused side i.next i.middle last i.front i.back i.early i.late ys answer (asked_caused part after app q request q.least first i.middle i.front i.early i.next i.asked) i.goes_on))
