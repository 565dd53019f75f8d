-- What refusals go back to.
use Rattle.std.proofs.Common.{◌≡◌, ◌⊎◌, ◌<◌, ℕ, ◌+◌, true, false, List, [], ◌∷◌, ◌++◌, append_assoc, ◌∙◌, Option, Some, None, Ok, Err, refl, sym, ap, subst, inl, inr, arith}
use Rattle.step_gate.specs.declared.gate.Spent.{Spent}
use Rattle.actor_names.specs.declared.actor_key.ActorKey.{ActorKey}
use Rattle.actor_names.specs.declared.address.Address.{Address}
use Rattle.part_model.specs.declared.event.PartEvent.{PartEvent}
use Rattle.part_model.specs.declared.event.PartEvent.TheVariants.{Hold, Release, Draw, Lock}
use Rattle.part_model.specs.Receipts.{PartReply}
use Rattle.part_model.specs.declared.event.Reply.TheVariants as replies
use Rattle.timer_book.specs.declared.event.TimerEvent.{TimerEvent}
use Rattle.timer_book.specs.declared.event.TimerEvent.TheVariants as timers
use Rattle.timer_book.specs.declared.event.TimerReply.{TimerReply}
use Rattle.timer_book.specs.declared.event.TimerReply.TheVariants as book
use Rattle.actor_ports.specs.Traffic.{Place}
use Rattle.http_edge.specs.Carry.{Carried}
use Rattle.frame_wire.specs.declared.frame.Frame.TheVariants.{Answer}
use Rattle.frame_wire.specs.declared.store_command.Stamp.{Stamp}
use Rattle.frame_wire.specs.declared.store_answer.StoreAnswer.{StoreAnswer}
use Rattle.frame_wire.specs.declared.store_answer.StoreAnswer.TheVariants as told
use Rattle.frame_wire.specs.Frames.{frame_bytes}
use Rattle.actors_api.specs.declared.command.ApiCommand.{ApiCommand}
use Rattle.actors_api.specs.declared.command.ApiCommand.TheVariants as commands
use Rattle.actors_api.specs.declared.reply.ApiReply.{ApiReply}
use Rattle.actors_api.specs.declared.refusal.ApiRefusal.{ApiRefusal}
use Rattle.actors_api.specs.declared.refusal.ApiRefusal.TheVariants as refusals
use Rattle.sidecar_node.specs.declared.node.SidecarNode.{SidecarNode}
use Rattle.sidecar_node.specs.declared.node.Seats.{Seats}
use Rattle.sidecar_node.specs.Entries.{NodeEntry, OnPart, OnBook, OnCalls, at_part, at_book, one_entry}
use Rattle.sidecar_node.specs.Turns.{Said}
use Rattle.sidecar_node.specs.Nodes.{part_at, Acts, IsBookFull, SpentAt, SpentAtBook}
use Rattle.exchanges.specs.Exchanges.{Exchange, Comes}
use Rattle.exchanges.specs.Replies.{place_at}
use Rattle.exchanges.specs.declared.store_end.StoreEnd.TheVariants as ends
use Rattle.exchanges.specs.Asked.{Got, answers, FrameCarries, IsFrameAsked}
use Rattle.sidecar_requests.specs.declared.ask.StoreAsk.{StoreAsk}
use Rattle.sidecar_requests.specs.declared.ask.StoreAsk.TheVariants as asks
use Rattle.sidecar_requests.specs.declared.ask.Wanted.{Wanted}
use Rattle.sidecar_requests.specs.Asks.{store_frame, wanted_of}
use Rattle.sidecar_requests.specs.Outcomes.{BookSaid, refused, refusal_of, told_answer, store_answer, released_answer, held_answer, unasked_answer, book_answer, kept_answer, timer_answer}
use Rattle.sidecar_requests.specs.Serving.{stamp_of, IsStep, Holds, AfterDraw, IsWriteServed, IsHeldExchange, IsHeldInVain, AfterLock, WhileHeld, AfterHold, IsStateServed, AfterTimerHold, IsTimerServed, IsRecordServed}
use Rattle.sidecar_requests.specs.Causes.{HasReply, HasBookReply, actor_of, IsRecordEvent, IsRecordCall, AreRecordEntries, BookWasFull, AnswerHasCause}

never : {A : Type 0} → false ≡ true → A
never e = absurd (let h : ⊥ = cc in h)

-- ---- entries

reply_left : (r : PartReply) (ms ns : List NodeEntry) → HasReply r ms → HasReply r (ms ++ ns)
reply_left r [] ns h = absurd h
reply_left r (OnPart part e ∷ ms) ns h = elim h [ inl is ↦ inl is | inr more ↦ inr (reply_left r ms ns more) ]
reply_left r (OnBook part e ∷ ms) ns h = reply_left r ms ns h
reply_left r (OnCalls e ∷ ms) ns h = reply_left r ms ns h

reply_right : (r : PartReply) (ms ns : List NodeEntry) → HasReply r ns → HasReply r (ms ++ ns)
reply_right r [] ns h = h
reply_right r (OnPart part e ∷ ms) ns h = inr (reply_right r ms ns h)
reply_right r (OnBook part e ∷ ms) ns h = reply_right r ms ns h
reply_right r (OnCalls e ∷ ms) ns h = reply_right r ms ns h

book_left : (r : TimerReply) (ms ns : List NodeEntry) → HasBookReply r ms → HasBookReply r (ms ++ ns)
book_left r [] ns h = absurd h
book_left r (OnPart part e ∷ ms) ns h = book_left r ms ns h
book_left r (OnBook part e ∷ ms) ns h = elim h [ inl is ↦ inl is | inr more ↦ inr (book_left r ms ns more) ]
book_left r (OnCalls e ∷ ms) ns h = book_left r ms ns h

book_right : (r : TimerReply) (ms ns : List NodeEntry) → HasBookReply r ns → HasBookReply r (ms ++ ns)
book_right r [] ns h = h
book_right r (OnPart part e ∷ ms) ns h = book_right r ms ns h
book_right r (OnBook part e ∷ ms) ns h = inr (book_right r ms ns h)
book_right r (OnCalls e ∷ ms) ns h = book_right r ms ns h

-- ---- the store's answer

module _ (place : ℕ) (after : Seats) (ns : List NodeEntry) (at : Place) (rise : ℕ) (c : Carried) (actor : ActorKey) (s : Stamp) (epoch : ℕ) where
  abbrev Xs : List Exchange
  Xs = record { at = at; link = Some c; rise = rise } ∷ []

  told_cause : (ask : StoreAsk) (a : StoreAnswer) → answers (store_frame actor s epoch ask) a ≡ true → c.read ≡ frame_bytes (Answer a) → AnswerHasCause place after ns Xs (told_answer (wanted_of ask) a)
  told_cause (asks.Transact ops) (told.Done existed) fits is = inl (existed, is)
  told_cause (asks.GetState key) (told.Done existed) fits is = never fits
  told_cause (asks.PutReminder name r) (told.Done existed) fits is = inl (existed, is)
  told_cause (asks.GetReminder name) (told.Done existed) fits is = never fits
  told_cause (asks.DeleteReminder name) (told.Done existed) fits is = inl (existed, is)
  told_cause ask (told.Value v) fits is = inl is
  told_cause (asks.Transact ops) told.NotThere fits is = never fits
  told_cause (asks.GetState key) told.NotThere fits is = inl is
  told_cause (asks.PutReminder name r) told.NotThere fits is = never fits
  told_cause (asks.GetReminder name) told.NotThere fits is = inl is
  told_cause (asks.DeleteReminder name) told.NotThere fits is = never fits
  told_cause ask (told.ReminderIs due period ttl payload) fits is = inl is
  told_cause ask (told.Refused r) fits is = inl (r, is, refl)
  told_cause (asks.Transact ops) (told.Booted n) fits is = never fits
  told_cause (asks.GetState key) (told.Booted n) fits is = never fits
  told_cause (asks.PutReminder name r) (told.Booted n) fits is = never fits
  told_cause (asks.GetReminder name) (told.Booted n) fits is = never fits
  told_cause (asks.DeleteReminder name) (told.Booted n) fits is = never fits
  told_cause (asks.Transact ops) (told.DueList es) fits is = never fits
  told_cause (asks.GetState key) (told.DueList es) fits is = never fits
  told_cause (asks.PutReminder name r) (told.DueList es) fits is = never fits
  told_cause (asks.GetReminder name) (told.DueList es) fits is = never fits
  told_cause (asks.DeleteReminder name) (told.DueList es) fits is = never fits
  told_cause (asks.Transact ops) (told.NextIs n) fits is = never fits
  told_cause (asks.GetState key) (told.NextIs n) fits is = never fits
  told_cause (asks.PutReminder name r) (told.NextIs n) fits is = never fits
  told_cause (asks.GetReminder name) (told.NextIs n) fits is = never fits
  told_cause (asks.DeleteReminder name) (told.NextIs n) fits is = never fits

-- what went over the link, and the answer by it
link_cause : (place : ℕ) (after : Seats) (ns : List NodeEntry) (at : Place) (actor : ActorKey) (s : Stamp) (epoch : ℕ) (ask : StoreAsk) (l : Option Carried) (rise : ℕ) (got : Got)
    → Comes (Err ends.Fault) (Err ends.OutOfMemory) (FrameCarries (store_frame actor s epoch ask)) l rise got
    → AnswerHasCause place after ns (record { at = at; link = l; rise = rise } ∷ []) (store_answer (wanted_of ask) got)
link_cause place after ns at actor s epoch ask None rise got h =
    subst (λ (g : Got). AnswerHasCause place after ns (record { at = at; link = None; rise = rise } ∷ []) (store_answer (wanted_of ask) g)) (sym h.1) (let up = h.0 in let k : 0 < rise + 0 = omega arith in k)
link_cause place after ns at actor s epoch ask (Some c) rise (Ok a) h = told_cause place after ns at rise c actor s epoch ask a h.0.1.fits h.0.1.is
link_cause place after ns at actor s epoch ask (Some c) rise (Err ends.Fault) h = let up = h.1 refl in let k : 0 < rise + 0 = omega arith in k
link_cause place after ns at actor s epoch ask (Some c) rise (Err ends.Unreadable) h = inl h.0.1
link_cause place after ns at actor s epoch ask (Some c) rise (Err ends.OutOfMemory) h = tt

store_cause : (place : ℕ) (after : Seats) (ns : List NodeEntry) (at : Place) (actor : ActorKey) (s : Stamp) (epoch : ℕ) (ask : StoreAsk) (xs : List Exchange) (got : Got) → IsFrameAsked (store_frame actor s epoch ask) at xs got → AnswerHasCause place after ns xs (store_answer (wanted_of ask) got)
store_cause place after ns at actor s epoch ask [] got x = subst (λ (g : Got). AnswerHasCause place after ns [] (store_answer (wanted_of ask) g)) (sym x) tt
store_cause place after ns at actor s epoch ask (x ∷ []) got h = link_cause place after ns x.at actor s epoch ask x.link x.rise got h.1
store_cause place after ns at actor s epoch ask (x ∷ y ∷ xs) got h = absurd h

-- ---- steps

-- a step's reply is one of its entry
step_reply : (part : ℕ) (event : PartEvent) (said : Said) (r : PartReply) → said ≡ Ok r → HasReply r (at_part part (one_entry event said))
step_reply part event (Ok reply) r e = inl (let k : reply ≡ r = cc in k)
step_reply part event (Err spent) r e = absurd (let h : ⊥ = cc in h)

call_reply : (part : ℕ) (event : TimerEvent) (said : BookSaid) (r : TimerReply) → said ≡ Ok r → HasBookReply r (at_book part (one_entry event said))
call_reply part event (Ok reply) r e = inl (let k : reply ≡ r = cc in k)
call_reply part event (Err spent) r e = absurd (let h : ⊥ = cc in h)

-- what a step came to is a reply of these entries, or want of memory
abbrev Told : Said → List NodeEntry → Type 0
Told said ns = (r : PartReply) → said ≡ Ok r → (r ≡ replies.OutOfMemory) ⊎ HasReply r ns

step_told : (part : ℕ) (after : Seats) (event : PartEvent) (ns : List NodeEntry) (said : Said) → IsStep part after event ns said → Told said ns
step_told part after event ns said h r e = inr (subst (HasReply r) (sym h.entries) (step_reply part event said r e))

holds_told : (node : SidecarNode) (after : Seats) (actor : ActorKey) (ns : List NodeEntry) (said : Said) → Holds node after actor ns said → Told said ns
holds_told node after actor ns said h r e = elim h [
  | inl step ↦ step_told (part_at node actor) after (Hold actor) ns said step r e
  | inr none ↦ inl (let i = none.1 in let k : r ≡ replies.OutOfMemory = cc in k)
]

refusal_cause : (place : ℕ) (after : Seats) (reply : PartReply) (ns : List NodeEntry) (xs : List Exchange) → Told (Ok reply) ns → AnswerHasCause place after ns xs (refused (refusal_of reply))
refusal_cause place after replies.NotActive ns xs says = elim (says replies.NotActive refl) [ inl e ↦ absurd (let h : ⊥ = cc in h) | inr h ↦ h ]
refusal_cause place after replies.Stopped ns xs says = elim (says replies.Stopped refl) [ inl e ↦ absurd (let h : ⊥ = cc in h) | inr h ↦ h ]
refusal_cause place after (replies.Spent count) ns xs says = elim (says (replies.Spent count) refl) [ inl e ↦ absurd (let h : ⊥ = cc in h) | inr h ↦ inr (inl (count, h)) ]
refusal_cause place after reply ns xs says = tt

told_left : (said : Said) (ms ns : List NodeEntry) → Told said ms → Told said (ms ++ ns)
told_left said ms ns says r e = elim (says r e) [ inl memory ↦ inl memory | inr h ↦ inr (reply_left r ms ns h) ]

-- ---- answers after a hold

module _ (place : ℕ) (after : Seats) (ns : List NodeEntry) (xs : List Exchange) where
  released_cause : (reply : PartReply) (answer : ApiReply) → (reply ≡ replies.Stopped → HasReply replies.Stopped ns) → AnswerHasCause place after ns xs answer → AnswerHasCause place after ns xs (released_answer reply answer)
  released_cause replies.Stopped answer stop cause = stop refl
  released_cause reply answer stop cause = cause

  held_cause : (w : Wanted) (said : Said) (got : Got) → SpentAt place said after → (said ≡ Ok replies.Stopped → HasReply replies.Stopped ns) → AnswerHasCause place after ns xs (store_answer w got) → AnswerHasCause place after ns xs (held_answer w said got)
  held_cause w (Err spent) got full stop cause = inl (inl full.1)
  held_cause w (Ok reply) (Ok a) full stop cause = released_cause reply (store_answer w (Ok a)) (λ e. stop (ap (λ (r : PartReply). Ok r) e)) cause
  held_cause w (Ok reply) (Err ends.Fault) full stop cause = released_cause reply (store_answer w (Err ends.Fault)) (λ e. stop (ap (λ (r : PartReply). Ok r) e)) cause
  held_cause w (Ok reply) (Err ends.Unreadable) full stop cause = released_cause reply (store_answer w (Err ends.Unreadable)) (λ e. stop (ap (λ (r : PartReply). Ok r) e)) cause
  held_cause w (Ok reply) (Err ends.OutOfMemory) full stop cause = tt

  -- the reply of the book is one of these entries
  abbrev BookTold : TimerReply → Type 0
  BookTold r = HasBookReply r ns

  book_cause : (r : TimerReply) → BookTold r → AnswerHasCause place after ns xs (book_answer r)
  book_cause book.Full told_ = told_
  book_cause (book.Spent count) told_ = inr (inr (count, told_))
  book_cause (book.WasSet number) told_ = (number, told_)
  book_cause (book.Deleted existed) told_ = (existed, told_)
  book_cause r told_ = tt

  kept_cause : (reply : PartReply) (r : TimerReply) → (reply ≡ replies.Stopped → HasReply replies.Stopped ns) → BookTold r → AnswerHasCause place after ns xs (kept_answer reply r)
  kept_cause reply book.OutOfMemory stop told_ = tt
  kept_cause reply r stop told_ = released_cause reply (book_answer r) stop (book_cause r told_)

  timer_cause : (said : Said) (got : BookSaid) → SpentAt place said after → (said ≡ Ok replies.Stopped → HasReply replies.Stopped ns) → ((e : Spent) → got ≡ Err e → BookWasFull place after ns) → ((r : TimerReply) → got ≡ Ok r → BookTold r)
      → AnswerHasCause place after ns xs (timer_answer said got)
  timer_cause (Err spent) got full stop book_full told_ = inl (inl full.1)
  timer_cause (Ok reply) (Err spent) full stop book_full told_ = inl (inr (inr (book_full spent refl)))
  timer_cause (Ok reply) (Ok r) full stop book_full told_ = kept_cause reply r (λ e. stop (ap (λ (x : PartReply). Ok x) e)) (told_ r refl)

-- ---- requests

-- a gate that took no entry is full
holds_full : (node : SidecarNode) (after : Seats) (actor : ActorKey) (ns : List NodeEntry) (said : Said) → Holds node after actor ns said → SpentAt (part_at node actor) said after
holds_full node after actor ns said (inl step) = step.full
holds_full node after actor ns said (inr none) = subst (λ (s : Said). SpentAt (part_at node actor) s after) (sym none.1) tt

book_full : (place : ℕ) (got : BookSaid) (middle : Seats) (e : Spent) → got ≡ Err e → SpentAtBook place got middle → IsBookFull place middle
book_full place got middle e is h = let f = subst (λ (g : BookSaid). SpentAtBook place g middle) is h in f.1

-- what is said of a step's reply is said of longer lists of entries
told_right : (said : Said) (ms ns : List NodeEntry) → Told said ns → Told said (ms ++ ns)
told_right said ms ns says r e = elim (says r e) [ inl memory ↦ inl memory | inr h ↦ inr (reply_right r ms ns h) ]

module _ (node : SidecarNode) (store : Address) (after : Seats) (actor : ActorKey) where
  exchange_cause : (ask : StoreAsk) (n epoch first last : ℕ) (front back : List NodeEntry) (xs : List Exchange) (answer : ApiReply)
      → IsHeldExchange node store after actor ask n epoch first last back xs answer → AnswerHasCause (part_at node actor) after (front ++ back) xs answer
  exchange_cause ask n epoch first last front back xs answer h =
      subst (AnswerHasCause (part_at node actor) after (front ++ back) xs) (sym h.answered)
      (held_cause (part_at node actor) after (front ++ back) xs (wanted_of ask) h.said h.got h.release.full
      (λ e. reply_right replies.Stopped front back (subst (HasReply replies.Stopped) (sym h.release.entries) (step_reply (part_at node actor) (Release actor last) h.said replies.Stopped e)))
      (store_cause (part_at node actor) after (front ++ back) (place_at store) actor (stamp_of node actor n) epoch ask xs h.got h.exchange))

  unasked_cause : (ns : List NodeEntry) (xs : List Exchange) (refusal : ApiRefusal) (said : Said) → SpentAt (part_at node actor) said after
      → AnswerHasCause (part_at node actor) after ns xs (refused refusal) → AnswerHasCause (part_at node actor) after ns xs (unasked_answer said refusal)
  unasked_cause ns xs refusal (Err spent) full cause = inl (inl full.1)
  unasked_cause ns xs refusal (Ok reply) full cause = cause

  vain_cause : (refusal : ApiRefusal) (first last : ℕ) (front back : List NodeEntry) (xs : List Exchange) (answer : ApiReply)
      → IsHeldInVain node after actor refusal first last back answer → AnswerHasCause (part_at node actor) after (front ++ back) xs (refused refusal) → AnswerHasCause (part_at node actor) after (front ++ back) xs answer
  vain_cause refusal first last front back xs answer h cause =
      subst (AnswerHasCause (part_at node actor) after (front ++ back) xs) (sym h.answered) (unasked_cause (front ++ back) xs refusal h.said h.release.full cause)

  after_lock : (ask : StoreAsk) (n : ℕ) (said : Said) (first last : ℕ) (front back : List NodeEntry) (xs : List Exchange) (answer : ApiReply) (middle : Seats)
      → SpentAt (part_at node actor) said middle → Acts back middle after → Told said front → AfterLock node store after actor ask n said first last back xs answer → AnswerHasCause (part_at node actor) after (front ++ back) xs answer
  after_lock ask n (Ok (replies.TableStep receipt changed)) first last front back xs answer middle full acts says h = exchange_cause ask n receipt.opened first last front back xs answer h
  after_lock ask n (Ok reply) first last front back xs answer middle full acts says h =
      vain_cause (refusal_of reply) first last front back xs answer h.1 (refusal_cause (part_at node actor) after reply (front ++ back) xs (told_left (Ok reply) front back says))
  after_lock ask n (Err spent) first last front back xs answer middle full acts says h =
      vain_cause refusals.Spent first last front back xs answer h.1 (inl (inr (inl (record { middle = middle; front = front; back = back; entries = refl; acts = acts; full = full.1 }))))

  while_held : (ask : StoreAsk) (n first last : ℕ) (front back : List NodeEntry) (xs : List Exchange) (answer : ApiReply)
      → WhileHeld node store after actor ask n first last back xs answer → AnswerHasCause (part_at node actor) after (front ++ back) xs answer
  while_held (asks.Transact ops) n first last front back xs answer h =
      subst (λ (l : List NodeEntry). AnswerHasCause (part_at node actor) after (front ++ l) xs answer) (sym h.entries)
      (subst (λ (l : List NodeEntry). AnswerHasCause (part_at node actor) after l xs answer) (append_assoc front h.front h.back)
      (after_lock (asks.Transact ops) n h.said first last (front ++ h.front) h.back xs answer h.middle h.lock.full h.kept
      (told_right h.said front h.front (step_told (part_at node actor) h.middle (Lock 0) h.front h.said h.lock)) h.follows))
  while_held ask n first last front back xs answer h = exchange_cause ask n 0 first last front back xs answer h

after_hold : (node : SidecarNode) (store : Address) (after : Seats) (actor : ActorKey) (ask : StoreAsk) (said : Said) (first last : ℕ) (front back : List NodeEntry) (xs : List Exchange) (answer : ApiReply)
    → SpentAt (part_at node actor) said after → Told said front → AfterHold node store after actor ask said first last back xs answer → AnswerHasCause (part_at node actor) after (front ++ back) xs answer
after_hold node store after actor ask (Ok (replies.Held n)) first last front back xs answer full says h = while_held node store after actor ask n first last front back xs answer h
after_hold node store after actor ask (Ok reply) first last front back xs answer full says h =
    subst (AnswerHasCause (part_at node actor) after (front ++ back) xs) (sym h.1) (refusal_cause (part_at node actor) after reply (front ++ back) xs (told_left (Ok reply) front back says))
after_hold node store after actor ask (Err spent) first last front back xs answer full says h = subst (AnswerHasCause (part_at node actor) after (front ++ back) xs) (sym h.1) (inl (inl full.1))

state_cause : (node : SidecarNode) (store : Address) (after : Seats) (actor : ActorKey) (ask : StoreAsk) (first last : ℕ) (ns : List NodeEntry) (xs : List Exchange) (answer : ApiReply) → IsStateServed node store after actor ask first last ns xs answer → AnswerHasCause (part_at node actor) after ns xs answer
state_cause node store after actor ask first last ns xs answer h =
    subst (λ (ms : List NodeEntry). AnswerHasCause (part_at node actor) after ms xs answer) (sym h.entries)
    (after_hold node store after actor ask h.said first last h.front h.back xs answer (holds_full node after actor h.front h.said h.holds) (holds_told node after actor h.front h.said h.holds) h.follows)

after_draw : (node : SidecarNode) (store : Address) (after : Seats) (actor : ActorKey) (ask : StoreAsk) (said : Said) (ns : List NodeEntry) (xs : List Exchange) (answer : ApiReply) → SpentAt (part_at node actor) said after → Told said ns → AfterDraw node store actor ask said xs answer → AnswerHasCause (part_at node actor) after ns xs answer
after_draw node store after actor ask (Ok (replies.Drawn n)) ns xs answer full says h =
    subst (AnswerHasCause (part_at node actor) after ns xs) (sym h.answered) (store_cause (part_at node actor) after ns (place_at store) actor (stamp_of node actor n) 0 ask xs h.got h.exchange)
after_draw node store after actor ask (Ok reply) ns xs answer full says h = subst (AnswerHasCause (part_at node actor) after ns xs) (sym h.1) (refusal_cause (part_at node actor) after reply ns xs says)
after_draw node store after actor ask (Err spent) ns xs answer full says h = subst (AnswerHasCause (part_at node actor) after ns xs) (sym h.1) (inl (inl full.1))

write_cause : (node : SidecarNode) (store : Address) (after : Seats) (actor : ActorKey) (ask : StoreAsk) (ns : List NodeEntry) (xs : List Exchange) (answer : ApiReply) → IsWriteServed node store after actor ask ns xs answer → AnswerHasCause (part_at node actor) after ns xs answer
write_cause node store after actor ask ns xs answer h = after_draw node store after actor ask h.said ns xs answer h.draws.full (step_told (part_at node actor) after Draw ns h.said h.draws) h.follows

after_timer : (node : SidecarNode) (after : Seats) (actor : ActorKey) (event : TimerEvent) (said : Said) (first last : ℕ) (front back : List NodeEntry) (xs : List Exchange) (answer : ApiReply)
    → SpentAt (part_at node actor) said after → Told said front → AfterTimerHold node after actor event said first last back answer → AnswerHasCause (part_at node actor) after (front ++ back) xs answer
after_timer node after actor event (Ok (replies.Held n)) first last front back xs answer full says h =
    let p = part_at node actor in
    let calls = at_book p (one_entry event h.got) in
    let ends_ = at_part p (one_entry (Release actor last) h.said) in
    subst (AnswerHasCause (part_at node actor) after (front ++ back) xs) (sym h.answered)
    (timer_cause p after (front ++ back) xs h.said h.got h.full
    (λ e. reply_right replies.Stopped front back (subst (HasReply replies.Stopped) (sym h.entries) (reply_right replies.Stopped calls ends_ (step_reply p (Release actor last) h.said replies.Stopped e))))
    (λ e is. record {
      middle = h.middle;
      front = front ++ calls;
      back = ends_;
      entries = ap (λ (l : List NodeEntry). front ++ l) h.entries ∙ sym (append_assoc front calls ends_);
      acts = h.kept;
      full = book_full p h.got h.middle e is h.book_full;
    })
    (λ r e. book_right r front back (subst (HasBookReply r) (sym h.entries) (book_left r calls ends_ (call_reply p event h.got r e)))))
after_timer node after actor event (Ok reply) first last front back xs answer full says h =
    subst (AnswerHasCause (part_at node actor) after (front ++ back) xs) (sym h.1) (refusal_cause (part_at node actor) after reply (front ++ back) xs (told_left (Ok reply) front back says))
after_timer node after actor event (Err spent) first last front back xs answer full says h = subst (AnswerHasCause (part_at node actor) after (front ++ back) xs) (sym h.1) (inl (inl full.1))

timers_cause : (node : SidecarNode) (after : Seats) (actor : ActorKey) (event : TimerEvent) (first last : ℕ) (ns : List NodeEntry) (xs : List Exchange) (answer : ApiReply) → IsTimerServed node after actor event first last ns xs answer → AnswerHasCause (part_at node actor) after ns xs answer
timers_cause node after actor event first last ns xs answer h =
    subst (λ (ms : List NodeEntry). AnswerHasCause (part_at node actor) after ms xs answer) (sym h.entries)
    (after_timer node after actor event h.said first last h.front h.back xs answer (holds_full node after actor h.front h.said h.holds) (holds_told node after actor h.front h.said h.holds) h.follows)

pub record_causes : (node : SidecarNode) (store : Address) (after : Seats) (command : ApiCommand) (first last : ℕ) (ns : List NodeEntry) (xs : List Exchange) (answer : ApiReply)
    → IsRecordServed node store after command first last ns xs answer → AnswerHasCause (part_at node (actor_of command)) after ns xs answer
record_causes node store after (commands.Transact actor ops) first last ns xs answer h = state_cause node store after actor (asks.Transact ops) first last ns xs answer h
record_causes node store after (commands.GetState actor key) first last ns xs answer h = state_cause node store after actor (asks.GetState key) first last ns xs answer h
record_causes node store after (commands.PutReminder actor name reminder) first last ns xs answer h = write_cause node store after actor (asks.PutReminder name reminder) ns xs answer h.1
record_causes node store after (commands.GetReminder actor name) first last ns xs answer h =
    let a = h.2 in subst (AnswerHasCause (part_at node actor) after ns xs) (sym a.answered) (store_cause (part_at node actor) after ns (place_at store) actor (stamp_of node actor 0) 0 (asks.GetReminder name) xs a.got a.exchange)
record_causes node store after (commands.DeleteReminder actor name) first last ns xs answer h = write_cause node store after actor (asks.DeleteReminder name) ns xs answer h.1
record_causes node store after (commands.SetTimer actor name timer) first last ns xs answer h = timers_cause node after actor (timers.Set actor name timer) first last ns xs answer h
record_causes node store after (commands.DeleteTimer actor name) first last ns xs answer h = timers_cause node after actor (timers.Delete actor name) first last ns xs answer h
record_causes node store after (commands.Invoke actor method chain least call) first last ns xs answer h = absurd h

-- ---- entries

entries_then : (place : ℕ) (actor : ActorKey) (ms ns : List NodeEntry) → AreRecordEntries place actor ms → AreRecordEntries place actor ns → AreRecordEntries place actor (ms ++ ns)
entries_then place actor [] ns a b = b
entries_then place actor (OnPart part e ∷ ms) ns a b = (a.0, entries_then place actor ms ns a.1 b)
entries_then place actor (OnBook part e ∷ ms) ns a b = (a.0, entries_then place actor ms ns a.1 b)
entries_then place actor (OnCalls e ∷ ms) ns a b = absurd a

part_entry : (place : ℕ) (actor : ActorKey) (event : PartEvent) (said : Said) → IsRecordEvent actor event → AreRecordEntries place actor (at_part place (one_entry event said))
part_entry place actor event (Ok reply) h = ((refl, h), tt)
part_entry place actor event (Err spent) h = tt

book_entry : (place : ℕ) (actor : ActorKey) (event : TimerEvent) (said : BookSaid) → IsRecordCall actor event → AreRecordEntries place actor (at_book place (one_entry event said))
book_entry place actor event (Ok reply) h = ((refl, h), tt)
book_entry place actor event (Err spent) h = tt

no_entries : (place : ℕ) (actor : ActorKey) (ns : List NodeEntry) → ns ≡ [] → AreRecordEntries place actor ns
no_entries place actor ns e = subst (AreRecordEntries place actor) (sym e) tt

module _ (node : SidecarNode) (after : Seats) (actor : ActorKey) where
  step_entries : (event : PartEvent) (ns : List NodeEntry) (said : Said) → IsStep (part_at node actor) after event ns said → IsRecordEvent actor event → AreRecordEntries (part_at node actor) actor ns
  step_entries event ns said step h = subst (AreRecordEntries (part_at node actor) actor) (sym step.entries) (part_entry (part_at node actor) actor event said h)

  holds_entries : (ns : List NodeEntry) (said : Said) → Holds node after actor ns said → AreRecordEntries (part_at node actor) actor ns
  holds_entries ns said (inl step) = step_entries (Hold actor) ns said step refl
  holds_entries ns said (inr none) = no_entries (part_at node actor) actor ns none.0

  lock_entries : (store : Address) (ask : StoreAsk) (n : ℕ) (said : Said) (first last : ℕ) (ns : List NodeEntry) (xs : List Exchange) (answer : ApiReply) → AfterLock node store after actor ask n said first last ns xs answer → AreRecordEntries (part_at node actor) actor ns
  lock_entries store ask n (Ok (replies.TableStep receipt changed)) first last ns xs answer h = step_entries (Release actor last) ns h.said h.release refl
  lock_entries store ask n (Ok reply) first last ns xs answer h = let v = h.1 in step_entries (Release actor last) ns v.said v.release refl
  lock_entries store ask n (Err spent) first last ns xs answer h = let v = h.1 in step_entries (Release actor last) ns v.said v.release refl

  while_entries : (store : Address) (ask : StoreAsk) (n first last : ℕ) (ns : List NodeEntry) (xs : List Exchange) (answer : ApiReply) → WhileHeld node store after actor ask n first last ns xs answer → AreRecordEntries (part_at node actor) actor ns
  while_entries store (asks.Transact ops) n first last ns xs answer h =
      let p = part_at node actor in
      subst (AreRecordEntries p actor) (sym h.entries)
      (entries_then p actor h.front h.back (subst (AreRecordEntries p actor) (sym h.lock.entries) (part_entry p actor (Lock 0) h.said refl)) (lock_entries store (asks.Transact ops) n h.said first last h.back xs answer h.follows))
  while_entries store ask n first last ns xs answer h = step_entries (Release actor last) ns h.said h.release refl

  hold_entries : (store : Address) (ask : StoreAsk) (said : Said) (first last : ℕ) (ns : List NodeEntry) (xs : List Exchange) (answer : ApiReply) → AfterHold node store after actor ask said first last ns xs answer → AreRecordEntries (part_at node actor) actor ns
  hold_entries store ask (Ok (replies.Held n)) first last ns xs answer h = while_entries store ask n first last ns xs answer h
  hold_entries store ask (Ok reply) first last ns xs answer h = no_entries (part_at node actor) actor ns h.0.entries
  hold_entries store ask (Err spent) first last ns xs answer h = no_entries (part_at node actor) actor ns h.0.entries

  state_entries : (store : Address) (ask : StoreAsk) (first last : ℕ) (ns : List NodeEntry) (xs : List Exchange) (answer : ApiReply) → IsStateServed node store after actor ask first last ns xs answer → AreRecordEntries (part_at node actor) actor ns
  state_entries store ask first last ns xs answer h =
      subst (AreRecordEntries (part_at node actor) actor) (sym h.entries)
      (entries_then (part_at node actor) actor h.front h.back (holds_entries h.front h.said h.holds) (hold_entries store ask h.said first last h.back xs answer h.follows))

  timer_entries : (event : TimerEvent) (said : Said) (first last : ℕ) (ns : List NodeEntry) (answer : ApiReply) → IsRecordCall actor event → AfterTimerHold node after actor event said first last ns answer → AreRecordEntries (part_at node actor) actor ns
  timer_entries event (Ok (replies.Held n)) first last ns answer is h =
      let p = part_at node actor in
      subst (AreRecordEntries p actor) (sym h.entries)
      (entries_then p actor (at_book p (one_entry event h.got)) (at_part p (one_entry (Release actor last) h.said)) (book_entry p actor event h.got is) (part_entry p actor (Release actor last) h.said refl))
  timer_entries event (Ok reply) first last ns answer is h = no_entries (part_at node actor) actor ns h.0.entries
  timer_entries event (Err spent) first last ns answer is h = no_entries (part_at node actor) actor ns h.0.entries

  timers_entries : (event : TimerEvent) (first last : ℕ) (ns : List NodeEntry) (xs : List Exchange) (answer : ApiReply) → IsRecordCall actor event → IsTimerServed node after actor event first last ns xs answer → AreRecordEntries (part_at node actor) actor ns
  timers_entries event first last ns xs answer is h =
      subst (AreRecordEntries (part_at node actor) actor) (sym h.entries)
      (entries_then (part_at node actor) actor h.front h.back (holds_entries h.front h.said h.holds) (timer_entries event h.said first last h.back answer is h.follows))

  write_entries : (store : Address) (ask : StoreAsk) (ns : List NodeEntry) (xs : List Exchange) (answer : ApiReply) → IsWriteServed node store after actor ask ns xs answer → AreRecordEntries (part_at node actor) actor ns
  write_entries store ask ns xs answer h = step_entries Draw ns h.said h.draws tt

pub record_entries : (node : SidecarNode) (store : Address) (after : Seats) (command : ApiCommand) (first last : ℕ) (ns : List NodeEntry) (xs : List Exchange) (answer : ApiReply)
    → IsRecordServed node store after command first last ns xs answer → AreRecordEntries (part_at node (actor_of command)) (actor_of command) ns
record_entries node store after (commands.Transact actor ops) first last ns xs answer h = state_entries node after actor store (asks.Transact ops) first last ns xs answer h
record_entries node store after (commands.GetState actor key) first last ns xs answer h = state_entries node after actor store (asks.GetState key) first last ns xs answer h
record_entries node store after (commands.PutReminder actor name reminder) first last ns xs answer h = write_entries node after actor store (asks.PutReminder name reminder) ns xs answer h.1
record_entries node store after (commands.GetReminder actor name) first last ns xs answer h = no_entries (part_at node actor) actor ns h.1
record_entries node store after (commands.DeleteReminder actor name) first last ns xs answer h = write_entries node after actor store (asks.DeleteReminder name) ns xs answer h.1
record_entries node store after (commands.SetTimer actor name timer) first last ns xs answer h = timers_entries node after actor (timers.Set actor name timer) first last ns xs answer refl h
record_entries node store after (commands.DeleteTimer actor name) first last ns xs answer h = timers_entries node after actor (timers.Delete actor name) first last ns xs answer refl h
record_entries node store after (commands.Invoke actor method chain least call) first last ns xs answer h = absurd h
