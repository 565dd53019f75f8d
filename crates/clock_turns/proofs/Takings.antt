-- What follows a TakeClosing.
use Rattle.std.proofs.Common.{◌≡◌, ◌≢◌, ◌∙◌, ℕ, ◌+◌, Bool, false, List, Option, Some, None, Ok, Err, refl, sym, ap, subst}
use Rattle.actor_names.specs.declared.address.Address.{Address}
use Rattle.actor_names.specs.declared.actor_key.ActorKey.{ActorKey}
use Rattle.actor_ports.specs.Traffic.{Dialled}
use Rattle.part_model.specs.declared.event.PartEvent.TheVariants.{TakeClosing, Closed}
use Rattle.part_model.specs.Receipts.{PartReply}
use Rattle.part_model.specs.declared.event.Reply.TheVariants as replies
use Rattle.timer_book.specs.declared.event.TimerEvent.TheVariants.{DropActor}
use Rattle.step_gate.specs.declared.gate.Spent.{Spent}
use Rattle.exchanges.specs.Exchanges.{Exchange, Dialling}
use Rattle.exchanges.specs.Replies.{Got, place_at, IsHttpExchange}
use Rattle.exchanges.proofs.Diallings.{none_made}
use Rattle.app_texts.specs.Texts.{deactivate_text}
use Rattle.sidecar_node.specs.declared.node.Seats.{Seats}
use Rattle.sidecar_node.specs.Entries.{at_part, at_book, one_entry}
use Rattle.sidecar_node.specs.Turns.{Said}
use Rattle.sidecar_node.specs.Nodes.{Acts, ActsAt, ActsAtBook, SpentAt, SpentAtBook}
use Rattle.sidecar_node.proofs.Actings.{acts_none, acts_then}
use Rattle.clock_turns.specs.declared.ends.TickEnd.{TickEnd}
use Rattle.clock_turns.specs.declared.ends.TickEnd.TheVariants as ends
use Rattle.clock_turns.specs.declared.closing_stand.Stand.{Stand}
use Rattle.clock_turns.specs.declared.closing_stand.Stand.TheVariants.{On, Over}
use Rattle.clock_turns.specs.Closings.{BookSaid, Closing, IsTold, IsOwed, owed_entries, is_fault, closing_end, IsTaking, after_closing, taken_end, stand, rest_entries, asked_of, fault_in}
use Rattle.clock_turns.proofs.ClosingGoings.{Takes}

-- what one deactivation came to
abbrev pub Closes : Address → ℕ → ActorKey → Seats → Seats → Option Dialled → Option Dialled → ℕ → ℕ → Bool → Option TickEnd → Type 0
Closes app part key before after t0 t1 f0 f1 fault end =
    (c : Closing) × (c.key ≡ key) × IsTold app c × IsOwed part c after × Acts (owed_entries part c) before after
    × Dialling c.asked t0 t1 f0 f1
    × (fault ≡ is_fault c.got) × (end ≡ closing_end c.dropped c.closed c.got)

-- what followed a reply
abbrev pub Follows : Address → ℕ → PartReply → Seats → Seats → Option Dialled → Option Dialled → ℕ → ℕ → Bool → Stand → Type 0
Follows app part reply before after t0 t1 f0 f1 fault place =
    (closing : Option Closing) × IsTaking app part (Ok reply) closing after × Acts (rest_entries part closing) before after
    × Dialling (asked_of closing) t0 t1 f0 f1
    × (fault ≡ fault_in closing) × (place ≡ stand part (Ok reply) closing)

-- one DropActor of an equal key, one exchange and one Closed
pub cell_closed :
    (app : Address) (part : ℕ) (key copy : ActorKey) (s0 s1 s2 : Seats) (dropped : BookSaid) (xs : List Exchange) (got : Got) (closed : Said) (t0 t1 : Option Dialled) (f0 f1 : ℕ) (fault : Bool) (end : Option TickEnd)
    → copy ≡ key → ActsAtBook part (one_entry (DropActor copy) dropped) s0 s1 → SpentAtBook part dropped s1
    → IsHttpExchange (deactivate_text app key) (place_at app) xs got → Dialling xs t0 t1 f0 f1
    → ActsAt part (one_entry (Closed key) closed) s1 s2 → SpentAt part closed s2
    → fault ≡ is_fault got → end ≡ closing_end dropped closed got
    → Closes app part key s0 s2 t0 t1 f0 f1 fault end
cell_closed app part key copy s0 s1 s2 dropped xs got closed t0 t1 f0 f1 fault end same drops book_full told asks closes full faults ends_so = (
  record { key = key; dropped = dropped; middle = s1; asked = xs; got = got; closed = closed },
  refl,
  told,
  record { book_full = book_full; kept = closes; full = full },
  acts_then (at_book part (one_entry (DropActor key) dropped)) (at_part part (one_entry (Closed key) closed)) s0 s1 s2
      (subst (λ (k : ActorKey). ActsAtBook part (one_entry (DropActor k) dropped) s0 s1) same drops) closes,
  asks,
  faults,
  ends_so,
)

pub closed_follows :
    (app : Address) (part : ℕ) (reply : PartReply) (key : ActorKey) (before after : Seats) (t0 t1 : Option Dialled) (f0 f1 : ℕ) (fault : Bool) (end : Option TickEnd) (place : Stand)
    → reply ≡ replies.Close key → Closes app part key before after t0 t1 f0 f1 fault end → place ≡ after_closing part end
    → Follows app part reply before after t0 t1 f0 f1 fault place
closed_follows app part reply key before after t0 t1 f0 f1 fault end place is x stands =
    subst (λ (r : PartReply). Follows app part r before after t0 t1 f0 f1 fault place) (sym is)
    (Some x.0, (x.1, x.2, x.3), x.4, x.5, x.6, stands ∙ ap (λ (e : Option TickEnd). after_closing part e) x.7)

-- a reply that gives no actor has no deactivation behind it
none_taken : (app : Address) (part : ℕ) (reply : PartReply) (after : Seats) → ((key : ActorKey) → reply ≢ replies.Close key) → IsTaking app part (Ok reply) None after
none_taken app part (replies.Close key) after h = absurd (h key refl)
none_taken app part reply after h = tt

over_by : (part : ℕ) (reply : PartReply) → ((key : ActorKey) → reply ≢ replies.Close key) → reply ≢ replies.NoneClosing → stand part (Ok reply) None ≡ Over (taken_end reply)
over_by part (replies.Close key) h n = absurd (h key refl)
over_by part replies.NoneClosing h n = absurd (n refl)
over_by part reply h n = refl

pub none_follows : (app : Address) (part : ℕ) (reply : PartReply) (seats : Seats) (t : Option Dialled) (f : ℕ) → reply ≡ replies.NoneClosing → Follows app part reply seats seats t t f f false (On (part + 1))
none_follows app part reply seats t f is =
    subst (λ (r : PartReply). Follows app part r seats seats t t f f false (On (part + 1))) (sym is)
    (None, tt, acts_none seats, none_made t f, refl, refl)

pub other_follows :
    (app : Address) (part : ℕ) (reply : PartReply) (seats : Seats) (t : Option Dialled) (f : ℕ) (end : TickEnd)
    → ((key : ActorKey) → reply ≢ replies.Close key) → reply ≢ replies.NoneClosing → end ≡ taken_end reply
    → Follows app part reply seats seats t t f f false (Over end)
other_follows app part reply seats t f end h n e =
    (None, none_taken app part reply seats h, acts_none seats, none_made t f, refl, ap (λ (x : TickEnd). Over x) e ∙ sym (over_by part reply h n))

-- ---- with the TakeClosing before it

pub follows_take :
    (app : Address) (now part : ℕ) (reply : PartReply) (s0 s1 s2 : Seats) (t0 t1 : Option Dialled) (f0 f1 : ℕ) (fault : Bool) (place : Stand)
    → ActsAt part (one_entry (TakeClosing now) (Ok reply)) s0 s1 → Follows app part reply s1 s2 t0 t1 f0 f1 fault place
    → Takes app now part s0 s2 t0 t1 f0 f1 fault place
follows_take app now part reply s0 s1 s2 t0 t1 f0 f1 fault place acts x = (
  Ok reply,
  x.0,
  x.1,
  acts_then (at_part part (one_entry (TakeClosing now) (Ok reply))) (rest_entries part x.0) s0 s1 s2 acts x.2,
  x.3,
  x.4,
  x.5,
)

pub spent_takes :
    (app : Address) (now part : ℕ) (spent : Spent) (s0 s1 : Seats) (t : Option Dialled) (f : ℕ)
    → ActsAt part (one_entry (TakeClosing now) (Err spent)) s0 s1 → SpentAt part (Err spent) s1 → Takes app now part s0 s1 t t f f false (Over (ends.Spent spent.count))
spent_takes app now part spent s0 s1 t f acts full = (Err spent, None, full, acts, none_made t f, refl, refl)
