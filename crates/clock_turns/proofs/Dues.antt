-- What a Due came to, in each case.
use Rattle.std.proofs.Common.{◌≡◌, ◌≢◌, ◌∙◌, refl, sym, ap, subst, ℕ, ◌+◌, Bool, false, Option, Some, None, Ok, Err}
use Rattle.step_gate.specs.declared.gate.Spent.{Spent}
use Rattle.actor_names.specs.declared.address.Address.{Address}
use Rattle.actor_ports.specs.Traffic.{Dialled}
use Rattle.timer_book.specs.declared.entry.DueTimer.{DueTimer}
use Rattle.timer_book.specs.declared.event.TimerEvent.TheVariants.{Due}
use Rattle.timer_book.specs.declared.event.TimerReply.{TimerReply}
use Rattle.timer_book.specs.declared.event.TimerReply.TheVariants as answers
use Rattle.exchanges.specs.Exchanges.{Dialling}
use Rattle.exchanges.proofs.Diallings.{none_made}
use Rattle.sidecar_node.specs.declared.node.SidecarNode.{SidecarNode}
use Rattle.sidecar_node.specs.declared.node.Seats.{Seats}
use Rattle.sidecar_node.specs.Entries.{at_book, one_entry}
use Rattle.sidecar_node.specs.Nodes.{part_at, Acts, ActsAtBook, SpentAtBook}
use Rattle.sidecar_node.proofs.Actings.{acts_none, acts_then}
use Rattle.clock_turns.specs.declared.ends.TickEnd.{TickEnd}
use Rattle.clock_turns.specs.declared.ends.TickEnd.TheVariants as ends
use Rattle.clock_turns.specs.Closings.{BookSaid}
use Rattle.clock_turns.specs.declared.tick_stand.Stand.{Stand}
use Rattle.clock_turns.specs.declared.tick_stand.Stand.TheVariants.{On, Over}
use Rattle.clock_turns.specs.Timers.{Fired, timer_entries, nanos_of}
use Rattle.clock_turns.specs.Ticks.{IsFiring, after_timer, due_stand, stand, fired_entries, due_entries, fired_asked, fired_fault, fired_begun}
use Rattle.clock_turns.proofs.Fires.{HasFired}

module _ (node : SidecarNode) (app : Address) (book : ℕ) (before after : Seats) (first last : ℕ) (t0 t1 : Option Dialled) (f0 f1 : ℕ) (begun faulted : Bool) (place : Stand) where
  -- what a function says of what followed a timer that was due
  abbrev pub HasDue : DueTimer → Type 0
  HasDue d =
      (fired : Option Fired) × IsFiring node app book (Ok (answers.DueIs (Some d))) fired first last after × Acts (fired_entries node book last fired) before after
      × Dialling (fired_asked fired) t0 t1 f0 f1 × (begun ≡ fired_begun fired) × (faulted ≡ fired_fault fired) × (place ≡ due_stand book fired)

  -- of what followed an answer to Due
  abbrev pub HasAnswered : BookSaid → Type 0
  HasAnswered said =
      (fired : Option Fired) × IsFiring node app book said fired first last after × Acts (fired_entries node book last fired) before after
      × Dialling (fired_asked fired) t0 t1 f0 f1 × (begun ≡ fired_begun fired) × (faulted ≡ fired_fault fired) × (place ≡ stand book said fired)

  -- of a Due at this moment
  abbrev pub HasTaken : ℕ → Type 0
  HasTaken now =
      (said : BookSaid) × (fired : Option Fired) × IsFiring node app book said fired first last after × Acts (due_entries node now book said fired last) before after
      × Dialling (fired_asked fired) t0 t1 f0 f1 × (begun ≡ fired_begun fired) × (faulted ≡ fired_fault fired) × (place ≡ stand book said fired)

-- memory ran out before the timer's Started
pub due_wants :
    (node : SidecarNode) (app : Address) (book : ℕ) (seats : Seats) (now : ℕ) (t : Option Dialled) (f : ℕ) (begun faulted : Bool) (place : Stand) (d : DueTimer)
    → begun ≡ false → faulted ≡ false → place ≡ Over ends.OutOfMemory → HasDue node app book seats seats now now t t f f begun faulted place d
due_wants node app book seats now t f begun faulted place d b h p = (None, refl, acts_none seats, none_made t f, b, h, p)

same_entries : (node : SidecarNode) (book last : ℕ) (d : DueTimer) (before after : Seats) (f : Fired) → f.timer ≡ d → Acts (timer_entries book (part_at node d.key) last f) before after → Acts (fired_entries node book last (Some f)) before after
same_entries node book last d before after f same acts = subst (λ (e : DueTimer). Acts (timer_entries book (part_at node e.key) last f) before after) (sym same) acts

-- the timer fired
pub due_fired :
    (node : SidecarNode) (app : Address) (book : ℕ) (d : DueTimer) (before after : Seats) (first last : ℕ) (t0 t1 : Option Dialled) (f0 f1 : ℕ) (begun faulted : Bool) (end : Option TickEnd) (place : Stand)
    → HasFired app book (part_at node d.key) d before after first last t0 t1 f0 f1 begun faulted end → place ≡ after_timer book end
    → HasDue node app book before after first last t0 t1 f0 f1 begun faulted place d
due_fired node app book d before after first last t0 t1 f0 f1 begun faulted end place x p = (
  Some x.0,
  (x.1, x.2),
  same_entries node book last d before after x.0 x.1 x.3,
  x.4,
  x.5,
  x.6,
  p ∙ ap (λ (e : Option TickEnd). after_timer book e) x.7,
)

-- ---- the answer

-- a timer was due
pub some_answered :
    (node : SidecarNode) (app : Address) (book : ℕ) (before after : Seats) (first last : ℕ) (t0 t1 : Option Dialled) (f0 f1 : ℕ) (begun faulted : Bool) (place : Stand) (timer : Option DueTimer) (d : DueTimer)
    → timer ≡ Some d → HasDue node app book before after first last t0 t1 f0 f1 begun faulted place d
    → HasAnswered node app book before after first last t0 t1 f0 f1 begun faulted place (Ok (answers.DueIs timer))
some_answered node app book before after first last t0 t1 f0 f1 begun faulted place timer d is x =
    subst (λ (o : Option DueTimer). HasAnswered node app book before after first last t0 t1 f0 f1 begun faulted place (Ok (answers.DueIs o))) (sym is) x

-- none was due
pub none_answered :
    (node : SidecarNode) (app : Address) (book : ℕ) (seats : Seats) (now : ℕ) (t : Option Dialled) (f : ℕ) (begun faulted : Bool) (place : Stand) (timer : Option DueTimer)
    → timer ≡ None → begun ≡ false → faulted ≡ false → place ≡ On (book + 1)
    → HasAnswered node app book seats seats now now t t f f begun faulted place (Ok (answers.DueIs timer))
none_answered node app book seats now t f begun faulted place timer is b h p =
    subst (λ (o : Option DueTimer). HasAnswered node app book seats seats now now t t f f begun faulted place (Ok (answers.DueIs o))) (sym is)
    (None, refl, acts_none seats, none_made t f, b, h, p)

-- the answer to a Due says which timer is due, if one is
pub list_answered :
    (node : SidecarNode) (app : Address) (book : ℕ) (before after : Seats) (first last : ℕ) (t0 t1 : Option Dialled) (f0 f1 : ℕ) (begun faulted : Bool) (place : Stand) (reply : TimerReply) (timer : Option DueTimer)
    → reply ≡ answers.DueIs timer → HasAnswered node app book before after first last t0 t1 f0 f1 begun faulted place (Ok (answers.DueIs timer))
    → HasAnswered node app book before after first last t0 t1 f0 f1 begun faulted place (Ok reply)
list_answered node app book before after first last t0 t1 f0 f1 begun faulted place reply timer is x =
    subst (λ (r : TimerReply). HasAnswered node app book before after first last t0 t1 f0 f1 begun faulted place (Ok r)) (sym is) x

other_stand : (book : ℕ) (reply : TimerReply) → ((timer : Option DueTimer) → reply ≢ answers.DueIs timer) → stand book (Ok reply) None ≡ Over ends.OutOfMemory
other_stand book (answers.DueIs timer) h = absurd (h timer refl)
other_stand book reply h = refl

other_firing : (node : SidecarNode) (app : Address) (book : ℕ) (reply : TimerReply) (now : ℕ) (seats : Seats) → IsFiring node app book (Ok reply) None now now seats
other_firing node app book (answers.DueIs None) now seats = refl
other_firing node app book (answers.DueIs (Some d)) now seats = refl
other_firing node app book reply now seats = refl

-- any other answer
pub other_answered :
    (node : SidecarNode) (app : Address) (book : ℕ) (seats : Seats) (now : ℕ) (t : Option Dialled) (f : ℕ) (begun faulted : Bool) (place : Stand) (reply : TimerReply)
    → ((timer : Option DueTimer) → reply ≢ answers.DueIs timer) → begun ≡ false → faulted ≡ false → place ≡ Over ends.OutOfMemory
    → HasAnswered node app book seats seats now now t t f f begun faulted place (Ok reply)
other_answered node app book seats now t f begun faulted place reply h b e p =
    (None, other_firing node app book reply now seats, acts_none seats, none_made t f, b, e, p ∙ sym (other_stand book reply h))

-- ---- with the Due before it

due_at : (book now nanos : ℕ) (said : BookSaid) (before after : Seats) → nanos ≡ nanos_of now → ActsAtBook book (one_entry (Due nanos) said) before after → ActsAtBook book (one_entry (Due (nanos_of now)) said) before after
due_at book now nanos said before after is acts = subst (λ (n : ℕ). ActsAtBook book (one_entry (Due n) said) before after) is acts

pub answered_taken :
    (node : SidecarNode) (app : Address) (now nanos book : ℕ) (s0 s1 s2 : Seats) (first last : ℕ) (t0 t1 : Option Dialled) (f0 f1 : ℕ) (begun faulted : Bool) (place : Stand) (said : BookSaid)
    → nanos ≡ nanos_of now → ActsAtBook book (one_entry (Due nanos) said) s0 s1
    → HasAnswered node app book s1 s2 first last t0 t1 f0 f1 begun faulted place said
    → HasTaken node app book s0 s2 first last t0 t1 f0 f1 begun faulted place now
answered_taken node app now nanos book s0 s1 s2 first last t0 t1 f0 f1 begun faulted place said is acts x = (
  said,
  x.0,
  x.1,
  acts_then (at_book book (one_entry (Due (nanos_of now)) said)) (fired_entries node book last x.0) s0 s1 s2 (due_at book now nanos said s0 s1 is acts) x.2,
  x.3,
  x.4,
  x.5,
  x.6,
)

pub spent_taken :
    (node : SidecarNode) (app : Address) (now nanos book : ℕ) (s0 s1 : Seats) (shown : ℕ) (t : Option Dialled) (f : ℕ) (begun faulted : Bool) (place : Stand) (spent : Spent)
    → nanos ≡ nanos_of now → ActsAtBook book (one_entry (Due nanos) (Err spent)) s0 s1 → SpentAtBook book (Err spent) s1
    → begun ≡ false → faulted ≡ false → place ≡ Over (ends.Spent spent.count)
    → HasTaken node app book s0 s1 shown shown t t f f begun faulted place now
spent_taken node app now nanos book s0 s1 shown t f begun faulted place spent is acts full b e p =
    (Err spent, None, (refl, full), due_at book now nanos (Err spent) s0 s1 is acts, none_made t f, b, e, p)
