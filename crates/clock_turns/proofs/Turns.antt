-- Turns of timers, in each case.
use Rattle.std.proofs.Common.{◌≡◌, ◌≢◌, ◌≤◌, ◌∙◌, refl, sym, ap, subst, ℕ, Bool, true, false, List, [], Option, Some, None, Ok, Err}
use Rattle.step_gate.specs.declared.gate.Spent.{Spent}
use Rattle.actor_names.specs.declared.address.Address.{Address}
use Rattle.actor_ports.specs.Traffic.{Dialled}
use Rattle.part_model.specs.Receipts.{PartReply}
use Rattle.part_model.specs.declared.event.Reply.TheVariants as replies
use Rattle.timer_book.specs.declared.entry.DueTimer.{DueTimer}
use Rattle.timer_book.specs.declared.event.TimerEvent.{TimerEvent}
use Rattle.exchanges.specs.Exchanges.{Exchange, Dialling}
use Rattle.exchanges.specs.Replies.{Got, place_at, IsHttpExchange}
use Rattle.exchanges.proofs.Diallings.{none_made}
use Rattle.sidecar_node.specs.declared.node.Seats.{Seats}
use Rattle.sidecar_node.specs.Entries.{PartEntry, at_part, at_book, one_entry}
use Rattle.sidecar_node.specs.Turns.{Said, Begins, Ends}
use Rattle.sidecar_node.specs.Nodes.{Acts, ActsAt, ActsAtBook, SpentAt, SpentAtBook}
use Rattle.sidecar_node.proofs.Actings.{acts_none, acts_then}
use Rattle.clock_turns.specs.declared.ends.TickEnd.{TickEnd}
use Rattle.clock_turns.specs.declared.ends.TickEnd.TheVariants as ends
use Rattle.clock_turns.specs.Closings.{BookSaid}
use Rattle.clock_turns.specs.Callbacks.{timer_call}
use Rattle.clock_turns.specs.Timers.{started_event, is_there, Called, Calls, IsCalled, called_entries, called_asked, Turn, Follows, IsTurn, turn_entries}
use Rattle.clock_turns.specs.Ends.{spent_or, over_end, called_end, refused_end, turn_end, got_fault, called_fault, called_begun}

-- What functions say of a turn: of its call, of what followed a reply, of the whole.
module _ (app : Address) (book part : ℕ) (d : DueTimer) (before after : Seats) (first last : ℕ) (t0 t1 : Option Dialled) (f0 f1 : ℕ) (begun faulted : Bool) (end : Option TickEnd) where
  abbrev pub HasCalled : ℕ → Option (List ℕ) → Type 0
  HasCalled call chain =
      (c : Called) × IsCalled app book part d call chain c first last after × Acts (called_entries book part d (Some c)) before after
      × Dialling c.asked t0 t1 f0 f1 × (begun ≡ true) × (faulted ≡ got_fault c.got) × (end ≡ called_end c)

  abbrev pub HasFollowed : Said → Type 0
  HasFollowed said =
      (called : Option Called) × Follows app book part d said called first last after × Acts (called_entries book part d called) before after
      × Dialling (called_asked called) t0 t1 f0 f1 × (begun ≡ called_begun called) × (faulted ≡ called_fault called) × (end ≡ turn_end said called)

  abbrev pub HasTurned : Type 0
  HasTurned =
      (t : Turn) × IsTurn app book part d t first last after × Acts (turn_entries book part d t) before after
      × Dialling (called_asked t.called) t0 t1 f0 f1 × (begun ≡ called_begun t.called) × (faulted ≡ called_fault t.called) × (end ≡ turn_end t.said t.called)

-- ---- a turn that has begun

pub calls_there : (app : Address) (d : DueTimer) (chain : Option (List ℕ)) (there : Bool) (xs : List Exchange) (got : Got) → there ≡ true → IsHttpExchange (timer_call app d chain) (place_at app) xs got → Calls app d chain there xs (Some got)
calls_there app d chain there xs got is x = subst (λ (b : Bool). Calls app d chain b xs (Some got)) (sym is) x

pub calls_gone : (app : Address) (d : DueTimer) (chain : Option (List ℕ)) (there : Bool) → there ≡ false → Calls app d chain there [] None
calls_gone app d chain there is = subst (λ (b : Bool). Calls app d chain b [] None) (sym is) refl

same_calls : (app : Address) (d : DueTimer) (chain lent : Option (List ℕ)) (there found : Bool) (xs : List Exchange) (got : Option Got)
    → lent ≡ chain → there ≡ found → Calls app d lent there xs got → Calls app d chain found xs got
same_calls app d chain lent there found xs got same is c = subst (λ (p : Option (List ℕ) × Bool). Calls app d p.0 p.1 xs got) (λ i. (same i, is i)) c

pub has_called :
    (app : Address) (book part : ℕ) (d : DueTimer) (call : ℕ) (chain lent : Option (List ℕ)) (again : TimerEvent) (there : Bool) (s0 s1 s2 : Seats) (first last : ℕ)
    (said : BookSaid) (xs : List Exchange) (got : Option Got) (back : List PartEntry) (over : Said) (t0 t1 : Option Dialled) (f0 f1 : ℕ) (faulted : Bool) (inner end : Option TickEnd)
    → again ≡ started_event d → ActsAtBook book (one_entry again said) s0 s1 → SpentAtBook book said s1
    → there ≡ is_there said → lent ≡ chain → Calls app d lent there xs got → Dialling xs t0 t1 f0 f1
    → first ≤ last → ActsAt part back s1 s2 → Ends call last back over → SpentAt part over s2
    → faulted ≡ got_fault got → inner ≡ over_end over got → end ≡ spent_or said inner
    → HasCalled app book part d s0 s2 first last t0 t1 f0 f1 true faulted end call chain
has_called app book part d call chain lent again there s0 s1 s2 first last said xs got back over t0 t1 f0 f1 faulted inner end event starts book_full is same calls asks later kept ends full faults inner_is end_is =
    let starts_so : ActsAtBook book (one_entry (started_event d) said) s0 s1 = subst (λ (e : TimerEvent). ActsAtBook book (one_entry e said) s0 s1) event starts in (
      record { again = said; middle = s1; asked = xs; got = got; back = back; over = over },
      record { book_full = book_full; calls = same_calls app d chain lent there (is_there said) xs got same is calls; later = later; ends = ends; kept = kept; full = full },
      acts_then (at_book book (one_entry (started_event d) said)) (at_part part back) s0 s1 s2 starts_so kept,
      asks,
      refl,
      faults,
      end_is ∙ ap (λ (e : Option TickEnd). spent_or said e) inner_is,
    )

-- ---- what follows a reply

pub begun_followed :
    (app : Address) (book part : ℕ) (d : DueTimer) (before after : Seats) (first last : ℕ) (t0 t1 : Option Dialled) (f0 f1 : ℕ) (begun faulted : Bool) (end : Option TickEnd) (reply : PartReply) (call : ℕ) (chain : Option (List ℕ))
    → reply ≡ replies.Begun call chain → HasCalled app book part d before after first last t0 t1 f0 f1 begun faulted end call chain
    → HasFollowed app book part d before after first last t0 t1 f0 f1 begun faulted end (Ok reply)
begun_followed app book part d before after first last t0 t1 f0 f1 begun faulted end reply call chain is x =
    subst (λ (r : PartReply). HasFollowed app book part d before after first last t0 t1 f0 f1 begun faulted end (Ok r)) (sym is)
    (Some x.0, x.1, x.2, x.3, x.4, x.5, x.6)

none_follows : (app : Address) (book part : ℕ) (d : DueTimer) (reply : PartReply) (now : ℕ) (seats : Seats)
    → ((call : ℕ) (chain : Option (List ℕ)) → reply ≢ replies.Begun call chain) → Follows app book part d (Ok reply) None now now seats
none_follows app book part d (replies.Begun call chain) now seats h = absurd (h call chain refl)
none_follows app book part d reply now seats h = refl

pub other_followed :
    (app : Address) (book part : ℕ) (d : DueTimer) (seats : Seats) (now : ℕ) (t : Option Dialled) (f : ℕ) (end : Option TickEnd) (reply : PartReply)
    → ((call : ℕ) (chain : Option (List ℕ)) → reply ≢ replies.Begun call chain) → end ≡ refused_end reply
    → HasFollowed app book part d seats seats now now t t f f false false end (Ok reply)
other_followed app book part d seats now t f end reply h e = (None, none_follows app book part d reply now seats h, acts_none seats, none_made t f, refl, refl, e)

-- ---- a whole turn

pub turn_spent :
    (app : Address) (book part : ℕ) (d : DueTimer) (s0 s1 : Seats) (first middle : ℕ) (t : Option Dialled) (f : ℕ) (spent : Spent) (front : List PartEntry)
    → first ≤ middle → ActsAt part front s0 s1 → Begins d.key None None middle front (Err spent) → SpentAt part (Err spent) s1
    → HasTurned app book part d s0 s1 first middle t t f f false false (Some (ends.Spent spent.count))
turn_spent app book part d s0 s1 first middle t f spent front later acts begins full = (
  record { front = front; said = Err spent; called = None },
  record { middle = middle; later = later; begins = begins; follows = (refl, full) },
  acts_then (at_part part front) [] s0 s1 s1 acts (acts_none s1),
  none_made t f,
  refl,
  refl,
  refl,
)

pub turn_followed :
    (app : Address) (book part : ℕ) (d : DueTimer) (s0 s1 s2 : Seats) (first middle last : ℕ) (t0 t1 : Option Dialled) (f0 f1 : ℕ) (begun faulted : Bool) (end : Option TickEnd) (said : Said) (front : List PartEntry)
    → first ≤ middle → ActsAt part front s0 s1 → Begins d.key None None middle front said
    → HasFollowed app book part d s1 s2 middle last t0 t1 f0 f1 begun faulted end said
    → HasTurned app book part d s0 s2 first last t0 t1 f0 f1 begun faulted end
turn_followed app book part d s0 s1 s2 first middle last t0 t1 f0 f1 begun faulted end said front later acts begins x = (
  record { front = front; said = said; called = x.0 },
  record { middle = middle; later = later; begins = begins; follows = x.1 },
  acts_then (at_part part front) (called_entries book part d x.0) s0 s1 s2 acts x.2,
  x.3,
  x.4,
  x.5,
  x.6,
)
