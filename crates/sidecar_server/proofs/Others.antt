-- Entries of which none is Lock, Update or Unlock.
use Rattle.std.proofs.Common.{◌≡◌, ◌+◌, ℕ, Bool, true, false, List, [], ◌∷◌, ◌++◌, Option, None, Some, Ok, Err, refl, sym, subst}
use Rattle.actor_names.specs.declared.actor_key.ActorKey.{ActorKey}
use Rattle.part_model.specs.declared.event.PartEvent.{PartEvent}
use Rattle.part_model.specs.declared.event.PartEvent.TheVariants as parts
use Rattle.part_model.specs.declared.event.Reply.TheVariants as replies
use Rattle.part_model.specs.Receipts.{PartReply}
use Rattle.sidecar_node.specs.declared.node.Seats.{Seats}
use Rattle.sidecar_node.specs.Entries.{PartEntry, BookEntry, NodeEntry, at_part, at_book, one_entry}
use Rattle.sidecar_node.specs.Turns.{Said, Either, asks_again, Polls, AfterAsk, Begins, Ends, ask_of, stop_entries}
use Rattle.sidecar_node.specs.Rounds.{each_entries}
use Rattle.sidecar_node.specs.Nodes.{StopsAll, GivesEach}
use Rattle.sidecar_node.proofs.Actings.{acts_none, acts_then}
use Rattle.sidecar_server.specs.Works.{is_of_round, AreOthers, LeavesTables}

-- ---- lists

pub others_then : (es fs : List NodeEntry) → AreOthers es → AreOthers fs → AreOthers (es ++ fs)
others_then [] fs p q = q
others_then (e ∷ es) fs p q = (p.0, others_then es fs p.1 q)

-- the same of entries of one part
abbrev pub AreAside : List PartEntry → Type 0
AreAside [] = Unit {0}
AreAside (e ∷ es) = (is_of_round e.event ≡ false) × AreAside es

pub aside_then : (es fs : List PartEntry) → AreAside es → AreAside fs → AreAside (es ++ fs)
aside_then [] fs p q = q
aside_then (e ∷ es) fs p q = (p.0, aside_then es fs p.1 q)

pub aside_at : (part : ℕ) (es : List PartEntry) → AreAside es → AreOthers (at_part part es)
aside_at part [] p = tt
aside_at part (e ∷ es) p = (p.0, aside_at part es p.1)

-- books have no such events
pub book_at : (book : ℕ) (es : List BookEntry) → AreOthers (at_book book es)
book_at book [] = tt
book_at book (e ∷ es) = (tt, book_at book es)

pub one_aside : (event : PartEvent) (said : Said) → is_of_round event ≡ false → AreAside (one_entry event said)
one_aside event (Ok reply) is = (is, tt)
one_aside event (Err spent) is = tt

pub no_aside : (es : List PartEntry) → es ≡ [] → AreAside es
no_aside es is = subst AreAside (sym is) tt

event_aside : (event other : PartEvent) → event ≡ other → is_of_round other ≡ false → is_of_round event ≡ false
event_aside event other is aside = subst (λ e. is_of_round e ≡ false) (sym is) aside

-- ---- parts that stop

stops_aside : (k : ℕ) (saids : List Said) → AreOthers (stop_entries k saids)
stops_aside k [] = tt
stops_aside k (Ok reply ∷ saids) = (refl, stops_aside (k + 1) saids)
stops_aside k (Err spent ∷ saids) = stops_aside (k + 1) saids

each_aside : (k : ℕ) (event : PartEvent) (saids : List Said) → is_of_round event ≡ false → AreOthers (each_entries k event saids)
each_aside k event [] is = tt
each_aside k event (said ∷ saids) is =
    others_then (at_part k (one_entry event said)) (each_entries (k + 1) event saids) (aside_at k (one_entry event said) (one_aside event said is)) (each_aside (k + 1) event saids is)

-- ---- what a call did

pub leaves_none : (s : Seats) → LeavesTables s s
leaves_none s = record { entries = []; acts = acts_none s; others = tt }

pub leaves_same : (s t : Seats) → t ≡ s → LeavesTables s t
leaves_same s t is = subst (λ u. LeavesTables s u) (sym is) (leaves_none s)

pub leaves_then : (s t u : Seats) → LeavesTables s t → LeavesTables t u → LeavesTables s u
leaves_then s t u p q = record {
  entries = p.entries ++ q.entries;
  acts = acts_then p.entries q.entries s t u p.acts q.acts;
  others = others_then p.entries q.entries p.others q.others;
}

pub stops_leave : (parts : ℕ) (saids : List Said) (s t : Seats) → StopsAll parts saids s t → LeavesTables s t
stops_leave parts saids s t stops = record { entries = stop_entries 0 saids; acts = stops.acts; others = stops_aside 0 saids }

pub each_leave : (event : PartEvent) (saids : List Said) (s t : Seats) → is_of_round event ≡ false → GivesEach event saids s t → LeavesTables s t
each_leave event saids s t is gives = record { entries = each_entries 0 event saids; acts = gives.acts; others = each_aside 0 event saids is }

-- ---- a turn of an actor

either_aside : (q : Bool) (A B : Type 0) (es : List PartEntry) → (A → AreAside es) → (B → AreAside es) → Either q A B → AreAside es
either_aside true A B es f g x = f x
either_aside false A B es f g x = g x

polls_aside : (call : ℕ) (es : List PartEntry) (said : Said) → Polls call es said → AreAside es
polls_aside call [] said p = tt
polls_aside call (e ∷ es) said p = (
  event_aside e.event (parts.Poll call) p.0 refl,
  either_aside (asks_again e.reply) (Polls call es said) ((es ≡ []) × (said ≡ Ok e.reply)) es (λ q. polls_aside call es said q) (λ q. no_aside es q.0) p.1,
)

asked_aside : (reply : PartReply) (es : List PartEntry) (said : Said) → AfterAsk reply es said → AreAside es
asked_aside (replies.Waits call place) es said p = polls_aside call es said p
asked_aside reply es said p = no_aside es p.0

ask_aside : (key : ActorKey) (chain : Option (List ℕ)) (least : Option ℕ) (now : ℕ) → is_of_round (ask_of key chain least now) ≡ false
ask_aside key chain None now = refl
ask_aside key chain (Some least) now = refl

-- how a turn begins, and how it ends
pub begins_aside : (key : ActorKey) (chain : Option (List ℕ)) (least : Option ℕ) (now : ℕ) (es : List PartEntry) (said : Said) → Begins key chain least now es said → AreAside es
begins_aside key chain least now [] said p = tt
begins_aside key chain least now (e ∷ es) said p = (event_aside e.event (ask_of key chain least now) p.0 (ask_aside key chain least now), asked_aside e.reply es said p.1)

pub ends_aside : (call now : ℕ) (es : List PartEntry) (said : Said) → Ends call now es said → AreAside es
ends_aside call now [] said p = tt
ends_aside call now (e ∷ []) said p = (event_aside e.event (parts.End call now) p.0 refl, tt)
ends_aside call now (e ∷ f ∷ es) said p = absurd p
