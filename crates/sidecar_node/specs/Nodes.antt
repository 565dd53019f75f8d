-- What contracts see of a node and of its seats, and what a call did to them. Own.
use Rattle.std.specs.Prelude.{◌≡◌, ℕ, ◌%◌, ◌^◌, List, [], length, Some, Result, IfErr, IsSomeAnd}
use Rattle.std.specs.List.{slice_get}
use Rattle.actor_names.specs.declared.actor_key.ActorKey.{ActorKey}
use Rattle.place_table.specs.declared.host.HostInfo.{HostInfo}
use Rattle.place_table.specs.Hosts.{key_place}
use Rattle.part_model.specs.declared.event.PartEvent.{PartEvent}
use Rattle.part_model.specs.Receipts.{PartReply}
use Rattle.part_model.specs.declared.settings.TypeSettings.{TypeSettings}
use Rattle.part_model.specs.Machine.{PartAllows}
use Rattle.part_model.specs.Part.{new_part}
use Rattle.part_model.specs.Rooms.{PartView}
use Rattle.timer_book.specs.declared.event.TimerEvent.{TimerEvent}
use Rattle.timer_book.specs.declared.event.TimerReply.{TimerReply}
use Rattle.timer_book.specs.Book.{BookState, new_book}
use Rattle.timer_book.specs.Machine.{TimerMoves}
use Rattle.call_book.specs.declared.event.BookEvent.{BookEvent}
use Rattle.call_book.specs.declared.event.BookReply.{BookReply}
use Rattle.call_book.specs.Book.{CallBookState, new_book as no_calls}
use Rattle.call_book.specs.Machine.{BookMoves}
use Rattle.step_gate.specs.declared.gate.Gate.{Gate}
use Rattle.step_gate.specs.declared.gate.Spent.{Spent}
use Rattle.step_gate.specs.Gates.{SeatOf, IsSeatOf, seen_of}
use Rattle.sidecar_node.specs.declared.node.SidecarNode.{SidecarNode}
use Rattle.sidecar_node.specs.declared.node.Seats.{Seats}
use Rattle.sidecar_node.specs.Rows.{Along, AreSeatsOf, IsNewAt, KeepsLists, StartsFrom, Meets, MeetsAt}
use Rattle.sidecar_node.specs.Entries.{PartEntry, BookEntry, CallsEntry, NodeEntry, part_entries, book_entries, calls_entries, at_part, at_book, at_calls, Makes}
use Rattle.sidecar_node.specs.Turns.{Said, stop_entries}
use Rattle.sidecar_node.specs.Rounds.{each_entries}

abbrev pub PartGate : Type 0
PartGate = Gate PartView PartEvent PartReply

abbrev pub BookGate : Type 0
BookGate = Gate BookState TimerEvent TimerReply

abbrev pub PartSeat : Type 0
PartSeat = SeatOf PartView PartEvent PartReply

abbrev pub BookSeat : Type 0
BookSeat = SeatOf BookState TimerEvent TimerReply

abbrev pub CallsGate : Type 0
CallsGate = Gate CallBookState BookEvent BookReply

abbrev pub CallsSeat : Type 0
CallsSeat = SeatOf CallBookState BookEvent BookReply

-- ---- a node and its seats

abbrev pub host_of : SidecarNode → HostInfo
host_of node = node.host

abbrev pub kinds_of : SidecarNode → List TypeSettings
kinds_of node = node.kinds

-- the gates of the parts, in order
abbrev pub part_gates : SidecarNode → List PartGate
part_gates node = node.parts.items

-- the gates of the books of timers, one for each part
abbrev pub book_gates : SidecarNode → List BookGate
book_gates node = node.books.items

-- the gate of the book of forwarded calls
abbrev pub calls_gate : SidecarNode → CallsGate
calls_gate node = node.calls

-- the number of the part in which the actor lives
abbrev pub part_at : SidecarNode → ActorKey → ℕ
part_at node key = key_place key.id % length (part_gates node)

abbrev pub part_seats : Seats → List PartSeat
part_seats seats = seats.parts.items

abbrev pub book_seats : Seats → List BookSeat
book_seats seats = seats.books.items

abbrev pub calls_seat : Seats → CallsSeat
calls_seat seats = seats.calls

-- the seats belong to the node's gates, place by place
pub record IsSeatsOf (node : SidecarNode) (seats : Seats) : Type 0 where
  pub parts : AreSeatsOf PartAllows (part_gates node) (part_seats seats)
  pub books : AreSeatsOf TimerMoves (book_gates node) (book_seats seats)
  pub calls : IsSeatOf BookMoves (calls_gate node) (calls_seat seats)

-- A new node of the host, with this many new parts and empty books, and an empty book of forwarded calls. Nothing has
-- happened at any gate.
pub record IsNewNode (host : HostInfo) (kinds : List TypeSettings) (parts : ℕ) (node : SidecarNode) (seats : Seats) : Type 0 where
  pub host_is : host_of node ≡ host
  pub kinds_are : kinds_of node ≡ kinds
  pub many : length (part_gates node) ≡ parts
  pub a_book_each : length (book_gates node) ≡ parts
  pub new_parts : Along (λ k gate seat. IsNewAt PartAllows (record { state = new_part host.member k kinds; recent = [] }) gate seat) (part_gates node) (part_seats seats)
  pub new_books : Along (λ k gate seat. IsNewAt TimerMoves new_book gate seat) (book_gates node) (book_seats seats)
  pub new_calls : IsNewAt BookMoves no_calls (calls_gate node) (calls_seat seats)

-- ---- what a call did

-- each seat made those of these entries that are of its gate, and no others
pub record Acts (es : List NodeEntry) (before after : Seats) : Type 0 where
  pub parts : Along (λ k old new. Makes (part_entries k es) old new) (part_seats before) (part_seats after)
  pub books : Along (λ k old new. Makes (book_entries k es) old new) (book_seats before) (book_seats after)
  pub calls : Makes (calls_entries es) (calls_seat before) (calls_seat after)

-- the seat of this part made these entries, and no other seat made any
abbrev pub ActsAt : ℕ → List PartEntry → Seats → Seats → Type 0
ActsAt part es before after = Acts (at_part part es) before after

-- the seat of this part has seen 2^62 entries, so its gate takes no more
abbrev pub IsFull : ℕ → Seats → Type 0
IsFull part seats = IsSomeAnd (slice_get (part_seats seats) part) (λ seat. length (seen_of seat) ≡ 2 ^ 62)

-- the seat of this book made these entries, and no other seat made any
abbrev pub ActsAtBook : ℕ → List BookEntry → Seats → Seats → Type 0
ActsAtBook book es before after = Acts (at_book book es) before after

-- the seat of this book has seen 2^62 entries, so its gate takes no more
abbrev pub IsBookFull : ℕ → Seats → Type 0
IsBookFull book seats = IsSomeAnd (slice_get (book_seats seats) book) (λ seat. length (seen_of seat) ≡ 2 ^ 62)

-- if the answer is that the gate took no entry, its history has 2^62 entries
abbrev pub SpentAtBook : ℕ → Result TimerReply Spent → Seats → Type 0
SpentAtBook book said seats = IfErr said (λ e. (e.count ≡ 2 ^ 62) × IsBookFull book seats)

-- the same of a part
abbrev pub SpentAt : ℕ → Result PartReply Spent → Seats → Type 0
SpentAt part said seats = IfErr said (λ e. (e.count ≡ 2 ^ 62) × IsFull part seats)

-- the seat of the book of forwarded calls made these entries, and no other seat made any
abbrev pub ActsAtCalls : List CallsEntry → Seats → Seats → Type 0
ActsAtCalls es before after = Acts (at_calls es) before after

-- the seat of that book has seen 2^62 entries, so its gate takes no more
abbrev pub AreCallsFull : Seats → Type 0
AreCallsFull seats = length (seen_of (calls_seat seats)) ≡ 2 ^ 62

-- the same of that book
abbrev pub SpentAtCalls : Result BookReply Spent → Seats → Type 0
SpentAtCalls said seats = IfErr said (λ e. (e.count ≡ 2 ^ 62) × AreCallsFull seats)

-- Each of so many parts was asked to stop, in order, and these are the answers. A part whose answer isn't a reply has a
-- gate that takes no more.
pub record StopsAll (parts : ℕ) (saids : List Said) (before after : Seats) : Type 0 where
  pub many : length saids ≡ parts
  pub acts : Acts (stop_entries 0 saids) before after
  pub full : (k : ℕ) (said : Said) → slice_get saids k ≡ Some said → SpentAt k said after

-- The first parts were given this event, in order, and these are the answers. A part whose answer isn't a reply has a
-- gate that takes no more.
pub record GivesEach (event : PartEvent) (saids : List Said) (before after : Seats) : Type 0 where
  pub acts : Acts (each_entries 0 event saids) before after
  pub full : (k : ℕ) (said : Said) → slice_get saids k ≡ Some said → SpentAt k said after

-- no seat made an entry, and each has seen as much as before
pub record KeepsAll (before after : Seats) : Type 0 where
  pub parts : Along (λ k old new. KeepsLists old new) (part_seats before) (part_seats after)
  pub books : Along (λ k old new. KeepsLists old new) (book_seats before) (book_seats after)
  pub calls : KeepsLists (calls_seat before) (calls_seat after)

-- a second seat of each gate
pub record StartFrom (old new : Seats) : Type 0 where
  pub parts : Along (λ k a b. StartsFrom a b) (part_seats old) (part_seats new)
  pub books : Along (λ k a b. StartsFrom a b) (book_seats old) (book_seats new)
  pub calls : StartsFrom (calls_seat old) (calls_seat new)

-- the seats of each gate were joined
pub record MeetAll (kept given after : Seats) : Type 0 where
  pub parts : Along (MeetsAt (part_seats given)) (part_seats kept) (part_seats after)
  pub books : Along (MeetsAt (book_seats given)) (book_seats kept) (book_seats after)
  pub calls : Meets (calls_seat kept) (calls_seat given) (calls_seat after)
