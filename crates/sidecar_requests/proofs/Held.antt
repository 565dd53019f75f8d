-- Requests that were served, in each case.
use Rattle.std.proofs.Common.{◌≡◌, ◌≢◌, ◌≤◌, ◌∙◌, refl, sym, ap, subst, ℕ, Bool, List, [], ◌++◌, Ok, Err, inl, inr}
use Rattle.step_gate.specs.declared.gate.Spent.{Spent}
use Rattle.actor_names.specs.declared.actor_key.ActorKey.{ActorKey}
use Rattle.actor_names.specs.declared.address.Address.{Address}
use Rattle.part_model.specs.declared.event.PartEvent.TheVariants.{Hold, Release, Draw, Lock}
use Rattle.part_model.specs.Receipts.{PartReply, ReceiptState}
use Rattle.part_model.specs.declared.event.Reply.TheVariants as replies
use Rattle.timer_book.specs.declared.event.TimerEvent.{TimerEvent}
use Rattle.actors_api.specs.declared.reply.ApiReply.{ApiReply}
use Rattle.actors_api.specs.declared.refusal.ApiRefusal.{ApiRefusal}
use Rattle.actors_api.specs.declared.refusal.ApiRefusal.TheVariants as refusals
use Rattle.sidecar_node.specs.declared.node.SidecarNode.{SidecarNode}
use Rattle.sidecar_node.specs.declared.node.Seats.{Seats}
use Rattle.sidecar_node.specs.Entries.{NodeEntry, at_part, at_book, one_entry}
use Rattle.sidecar_node.specs.Turns.{Said}
use Rattle.sidecar_node.specs.Nodes.{part_at, Acts, ActsAt, ActsAtBook, SpentAt, SpentAtBook}
use Rattle.sidecar_node.proofs.Actings.{acts_then}
use Rattle.exchanges.specs.Exchanges.{Exchange}
use Rattle.exchanges.specs.Replies.{place_at}
use Rattle.exchanges.specs.Asked.{Got, IsFrameAsked}
use Rattle.state_rows.specs.declared.op.StateOp.{StateOp}
use Rattle.sidecar_requests.specs.declared.ask.StoreAsk.{StoreAsk}
use Rattle.sidecar_requests.specs.declared.ask.StoreAsk.TheVariants.{Transact}
use Rattle.sidecar_requests.specs.declared.ask.Wanted.{Wanted}
use Rattle.sidecar_requests.specs.Asks.{store_frame, wanted_of}
use Rattle.sidecar_requests.specs.Outcomes.{BookSaid, refused, refusal_of, held_answer, unasked_answer, timer_answer}
use Rattle.sidecar_requests.specs.Serving.{IsIdle, Holds, stamp_of, AfterDraw, IsWriteServed, IsHeldExchange, IsHeldInVain, AfterLock, IsHeldWrite, WhileHeld, AfterHold, IsStateServed, IsHeldCall, AfterTimerHold, IsTimerServed}

pub idle : (now : ℕ) → IsIdle now now [] []
idle now = record { now = refl; entries = refl; exchanges = refl }

-- ---- state

module _ (node : SidecarNode) (store : Address) (before after : Seats) (actor : ActorKey) (ask : StoreAsk) where
  -- one exchange and one Release, of an equal key
  pub held_exchange :
      (key : ActorKey) (wanted : Wanted) (n epoch first last : ℕ) (got : Got) (said : Said) (xs : List Exchange) (answer : ApiReply)
      → key ≡ actor → wanted ≡ wanted_of ask → IsFrameAsked (store_frame actor (stamp_of node actor n) epoch ask) (place_at store) xs got
      → first ≤ last → ActsAt (part_at node key) (one_entry (Release key last) said) before after → SpentAt (part_at node key) said after → answer ≡ held_answer wanted said got
      → (ns : List NodeEntry) × Acts ns before after × IsHeldExchange node store after actor ask n epoch first last ns xs answer
  held_exchange key wanted n epoch first last got said xs answer same is exchange later acts full answered =
      let p = part_at node in (
        at_part (p actor) (one_entry (Release actor last) said),
        subst (λ (k : ActorKey). ActsAt (p k) (one_entry (Release k last) said) before after) same acts,
        record {
          got = got;
          said = said;
          exchange = exchange;
          later = later;
          release = record { entries = refl; full = subst (λ (k : ActorKey). SpentAt (p k) said after) same full };
          answered = answered ∙ ap (λ (w : Wanted). held_answer w said got) is;
        },
      )

-- if state isn't written, the exchange is all that follows Held
pub held_read : (node : SidecarNode) (store : Address) (after : Seats) (actor : ActorKey) (ask : StoreAsk) (n first last : ℕ) (ns : List NodeEntry) (xs : List Exchange) (answer : ApiReply) → ((ops : List StateOp) → ask ≢ Transact ops)
    → IsHeldExchange node store after actor ask n 0 first last ns xs answer → WhileHeld node store after actor ask n first last ns xs answer
held_read node store after actor (Transact ops) n first last ns xs answer h e = absurd (h ops refl)
held_read node store after actor ask n first last ns xs answer h e = e

-- one Release and no exchange
pub held_in_vain :
    (node : SidecarNode) (before after : Seats) (actor : ActorKey) (refusal : ApiRefusal) (first last : ℕ) (said : Said) (answer : ApiReply)
    → first ≤ last → ActsAt (part_at node actor) (one_entry (Release actor last) said) before after → SpentAt (part_at node actor) said after → answer ≡ unasked_answer said refusal
    → (ns : List NodeEntry) × Acts ns before after × IsHeldInVain node after actor refusal first last ns answer
held_in_vain node before after actor refusal first last said answer later acts full answered = (
  at_part (part_at node actor) (one_entry (Release actor last) said),
  acts,
  record { said = said; later = later; release = record { entries = refl; full = full }; answered = answered },
)

module _ (node : SidecarNode) (store : Address) (actor : ActorKey) (ask : StoreAsk) (n : ℕ) where
  -- a reply to the Lock without a receipt
  pub lock_refused : (after : Seats) (reply : PartReply) (first last : ℕ) (ns : List NodeEntry) (answer : ApiReply) → ((receipt : ReceiptState) (changed : Bool) → reply ≢ replies.TableStep receipt changed)
      → IsHeldInVain node after actor (refusal_of reply) first last ns answer → AfterLock node store after actor ask n (Ok reply) first last ns [] answer
  lock_refused after (replies.TableStep receipt changed) first last ns answer h vain = absurd (h receipt changed refl)
  lock_refused after reply first last ns answer h vain = (refl, vain)

  -- one Lock, and what followed
  pub held_write : (before middle after : Seats) (said : Said) (first last : ℕ) (ns : List NodeEntry) (xs : List Exchange) (answer : ApiReply)
      → ActsAt (part_at node actor) (one_entry (Lock 0) said) before middle → SpentAt (part_at node actor) said middle → Acts ns middle after → AfterLock node store after actor ask n said first last ns xs answer
      → (ms : List NodeEntry) × Acts ms before after × IsHeldWrite node store after actor ask n first last ms xs answer
  held_write before middle after said first last ns xs answer acts full then_ follows =
      let front = at_part (part_at node actor) (one_entry (Lock 0) said) in (
        front ++ ns,
        acts_then front ns before middle after acts then_,
        record { front = front; back = ns; said = said; middle = middle; entries = refl; lock = record { entries = refl; full = full }; kept = then_; follows = follows },
      )

module _ (node : SidecarNode) (store : Address) (after : Seats) (actor : ActorKey) (ask : StoreAsk) where
  hold_refused : (reply : PartReply) (now : ℕ) → ((n : ℕ) → reply ≢ replies.Held n) → AfterHold node store after actor ask (Ok reply) now now [] [] (refused (refusal_of reply))
  hold_refused (replies.Held n) now h = absurd (h n refl)
  hold_refused reply now h = (idle now, refl)

  -- a reply to the Hold that refuses it
  pub hold_ends : (reply : PartReply) (refusal : ApiRefusal) (answer : ApiReply) (now : ℕ) → ((n : ℕ) → reply ≢ replies.Held n) → answer ≡ refused refusal → refusal ≡ refusal_of reply
      → AfterHold node store after actor ask (Ok reply) now now [] [] answer
  hold_ends reply refusal answer now h is by = subst (λ (a : ApiReply). AfterHold node store after actor ask (Ok reply) now now [] [] a) (sym (is ∙ ap refused by)) (hold_refused reply now h)

  -- no memory before the Hold
  pub state_wants : (answer : ApiReply) (now : ℕ) → answer ≡ refused refusals.OutOfMemory → IsStateServed node store after actor ask now now [] [] answer
  state_wants answer now is = record { front = []; back = []; said = Ok replies.OutOfMemory; entries = refl; holds = inr (refl, refl); follows = (idle now, is) }

holds_by : (node : SidecarNode) (after : Seats) (actor key : ActorKey) (said : Said) → key ≡ actor → SpentAt (part_at node key) said after → Holds node after actor (at_part (part_at node actor) (one_entry (Hold actor) said)) said
holds_by node after actor key said same full = inl (record { entries = refl; full = subst (λ (k : ActorKey). SpentAt (part_at node k) said after) same full })

acts_by : (node : SidecarNode) (before after : Seats) (actor key : ActorKey) (said : Said) → key ≡ actor → ActsAt (part_at node key) (one_entry (Hold key) said) before after → ActsAt (part_at node actor) (one_entry (Hold actor) said) before after
acts_by node before after actor key said same acts = subst (λ (k : ActorKey). ActsAt (part_at node k) (one_entry (Hold k) said) before after) same acts

module _ (node : SidecarNode) (store : Address) (actor key : ActorKey) (ask : StoreAsk) where
  -- the gate took no Hold
  pub state_spent : (before after : Seats) (spent : Spent) (answer : ApiReply) (now : ℕ) → key ≡ actor
      → ActsAt (part_at node key) (one_entry (Hold key) (Err spent)) before after → SpentAt (part_at node key) (Err spent) after → answer ≡ refused refusals.Spent
      → (ns : List NodeEntry) × Acts ns before after × IsStateServed node store after actor ask now now ns [] answer
  state_spent before after spent answer now same acts full is = (
    [],
    acts_by node before after actor key (Err spent) same acts,
    record { front = []; back = []; said = Err spent; entries = refl; holds = holds_by node after actor key (Err spent) same full; follows = (idle now, is) },
  )

  -- the Hold had a reply, and what followed
  pub state_follows : (before middle after : Seats) (reply : PartReply) (answer : ApiReply) (first last : ℕ) (ns : List NodeEntry) (xs : List Exchange) → key ≡ actor
      → ActsAt (part_at node key) (one_entry (Hold key) (Ok reply)) before middle → Acts ns middle after → AfterHold node store after actor ask (Ok reply) first last ns xs answer
      → (ms : List NodeEntry) × Acts ms before after × IsStateServed node store after actor ask first last ms xs answer
  state_follows before middle after reply answer first last ns xs same acts then_ follows =
      let front = at_part (part_at node actor) (one_entry (Hold actor) (Ok reply)) in (
        front ++ ns,
        acts_then front ns before middle after (acts_by node before middle actor key (Ok reply) same acts) then_,
        record { front = front; back = ns; said = Ok reply; entries = refl; holds = holds_by node after actor key (Ok reply) same tt; follows = follows },
      )

-- ---- reminders

module _ (node : SidecarNode) (store : Address) (actor : ActorKey) (ask : StoreAsk) where
  draw_refused : (reply : PartReply) → ((n : ℕ) → reply ≢ replies.Drawn n) → AfterDraw node store actor ask (Ok reply) [] (refused (refusal_of reply))
  draw_refused (replies.Drawn n) h = absurd (h n refl)
  draw_refused reply h = (refl, refl)

  -- a reply to the Draw that refuses it
  pub draw_ends : (reply : PartReply) (refusal : ApiRefusal) (answer : ApiReply) → ((n : ℕ) → reply ≢ replies.Drawn n) → answer ≡ refused refusal → refusal ≡ refusal_of reply → AfterDraw node store actor ask (Ok reply) [] answer
  draw_ends reply refusal answer h is by = subst (λ (a : ApiReply). AfterDraw node store actor ask (Ok reply) [] a) (sym (is ∙ ap refused by)) (draw_refused reply h)

  pub write_follows : (after : Seats) (said : Said) (xs : List Exchange) (answer : ApiReply) → SpentAt (part_at node actor) said after → AfterDraw node store actor ask said xs answer
      → IsWriteServed node store after actor ask (at_part (part_at node actor) (one_entry Draw said)) xs answer
  write_follows after said xs answer full follows = record { said = said; draws = record { entries = refl; full = full }; follows = follows }

-- ---- timers

module _ (node : SidecarNode) (actor : ActorKey) (event : TimerEvent) where
  -- one call on the book, and one Release
  pub held_call :
      (before middle after : Seats) (book first last : ℕ) (got : BookSaid) (said : Said) (answer : ApiReply)
      → book ≡ part_at node actor → ActsAtBook book (one_entry event got) before middle → SpentAtBook book got middle
      → first ≤ last → ActsAt (part_at node actor) (one_entry (Release actor last) said) middle after → SpentAt (part_at node actor) said after → answer ≡ timer_answer said got
      → (ns : List NodeEntry) × Acts ns before after × IsHeldCall node after actor event first last ns answer
  held_call before middle after book first last got said answer at acts book_full later released full answered =
      let p = part_at node actor in
      let calls = at_book p (one_entry event got) in
      let ends = at_part p (one_entry (Release actor last) said) in (
        calls ++ ends,
        acts_then calls ends before middle after (subst (λ (k : ℕ). ActsAtBook k (one_entry event got) before middle) at acts) released,
        record {
          got = got;
          said = said;
          middle = middle;
          entries = refl;
          book_full = subst (λ (k : ℕ). SpentAtBook k got middle) at book_full;
          kept = released;
          full = full;
          later = later;
          answered = answered;
        },
      )

  timer_refused : (after : Seats) (reply : PartReply) (now : ℕ) → ((n : ℕ) → reply ≢ replies.Held n) → AfterTimerHold node after actor event (Ok reply) now now [] (refused (refusal_of reply))
  timer_refused after (replies.Held n) now h = absurd (h n refl)
  timer_refused after reply now h = (idle now, refl)

  -- a reply to the Hold that refuses it
  pub timer_ends : (after : Seats) (reply : PartReply) (refusal : ApiRefusal) (answer : ApiReply) (now : ℕ) → ((n : ℕ) → reply ≢ replies.Held n) → answer ≡ refused refusal → refusal ≡ refusal_of reply
      → AfterTimerHold node after actor event (Ok reply) now now [] answer
  timer_ends after reply refusal answer now h is by = subst (λ (a : ApiReply). AfterTimerHold node after actor event (Ok reply) now now [] a) (sym (is ∙ ap refused by)) (timer_refused after reply now h)

  -- no memory before the Hold
  pub timer_wants : (after : Seats) (answer : ApiReply) (now : ℕ) → answer ≡ refused refusals.OutOfMemory → IsTimerServed node after actor event now now [] [] answer
  timer_wants after answer now is = record { front = []; back = []; said = Ok replies.OutOfMemory; exchanges = refl; entries = refl; holds = inr (refl, refl); follows = (idle now, is) }

  -- the gate took no Hold
  pub timer_spent : (before after : Seats) (spent : Spent) (answer : ApiReply) (now : ℕ)
      → ActsAt (part_at node actor) (one_entry (Hold actor) (Err spent)) before after → SpentAt (part_at node actor) (Err spent) after → answer ≡ refused refusals.Spent
      → (ns : List NodeEntry) × Acts ns before after × IsTimerServed node after actor event now now ns [] answer
  timer_spent before after spent answer now acts full is = (
    [],
    acts,
    record { front = []; back = []; said = Err spent; exchanges = refl; entries = refl; holds = holds_by node after actor actor (Err spent) refl full; follows = (idle now, is) },
  )

  -- the Hold had a reply, and what followed; the Release has an equal key
  pub timer_follows : (before middle after : Seats) (key : ActorKey) (reply : PartReply) (answer : ApiReply) (first last : ℕ) (ns : List NodeEntry) → key ≡ actor
      → ActsAt (part_at node actor) (one_entry (Hold actor) (Ok reply)) before middle → Acts ns middle after → AfterTimerHold node after key event (Ok reply) first last ns answer
      → (ms : List NodeEntry) × Acts ms before after × IsTimerServed node after actor event first last ms [] answer
  timer_follows before middle after key reply answer first last ns same acts then_ follows =
      let front = at_part (part_at node actor) (one_entry (Hold actor) (Ok reply)) in (
        front ++ ns,
        acts_then front ns before middle after acts then_,
        record {
          front = front;
          back = ns;
          said = Ok reply;
          exchanges = refl;
          entries = refl;
          holds = holds_by node after actor actor (Ok reply) refl tt;
          follows = subst (λ (k : ActorKey). AfterTimerHold node after k event (Ok reply) first last ns answer) same follows;
        },
      )
