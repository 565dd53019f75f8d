-- What a call did at the gates of a node: entries, which are events with their replies, in order. Own.
use Rattle.std.specs.Prelude.{◌≡◌, ℕ, ◌==◌, ◌^◌, if◌then◌else◌, List, [], ◌∷◌, length, map, Result, Ok, Err}
use Rattle.std.specs.List.{slice_set, slice_get}
use Rattle.std.specs.Prelude.{Some}
use Rattle.step_gate.specs.declared.gate.Spent.{Spent}
use Rattle.step_gate.specs.declared.view.Made.{Made}
use Rattle.step_gate.specs.Gates.{SeatOf, Grows, seen_of}
use Rattle.part_model.specs.declared.event.PartEvent.{PartEvent}
use Rattle.part_model.specs.Receipts.{PartReply}
use Rattle.timer_book.specs.declared.event.TimerEvent.{TimerEvent}
use Rattle.timer_book.specs.declared.event.TimerReply.{TimerReply}
use Rattle.call_book.specs.declared.event.BookEvent.{BookEvent}
use Rattle.call_book.specs.declared.event.BookReply.{BookReply}

-- one step of a machine
pub record Entry (E R : Type 0) : Type 0 where
  pub event : E
  pub reply : R

abbrev pub PartEntry : Type 0
PartEntry = Entry PartEvent PartReply

abbrev pub BookEntry : Type 0
BookEntry = Entry TimerEvent TimerReply

-- one step of the book of forwarded calls
abbrev pub CallsEntry : Type 0
CallsEntry = Entry BookEvent BookReply

-- one step at a node: on a part, on a book of timers, or on the book of forwarded calls
pub data NodeEntry : Type 0 where
  OnPart : (part : ℕ) → (entry : PartEntry) → NodeEntry
  OnBook : (book : ℕ) → (entry : BookEntry) → NodeEntry
  OnCalls : (entry : CallsEntry) → NodeEntry

-- those on the part with this number
abbrev pub part_entries : ℕ → List NodeEntry → List PartEntry
part_entries k [] = []
part_entries k (OnPart part e ∷ es) = if part == k then e ∷ part_entries k es else part_entries k es
part_entries k (OnBook book e ∷ es) = part_entries k es
part_entries k (OnCalls e ∷ es) = part_entries k es

-- those on the book with this number
abbrev pub book_entries : ℕ → List NodeEntry → List BookEntry
book_entries k [] = []
book_entries k (OnPart part e ∷ es) = book_entries k es
book_entries k (OnBook book e ∷ es) = if book == k then e ∷ book_entries k es else book_entries k es
book_entries k (OnCalls e ∷ es) = book_entries k es

-- those on the book of forwarded calls
abbrev pub calls_entries : List NodeEntry → List CallsEntry
calls_entries [] = []
calls_entries (OnPart part e ∷ es) = calls_entries es
calls_entries (OnBook book e ∷ es) = calls_entries es
calls_entries (OnCalls e ∷ es) = e ∷ calls_entries es

-- entries of one part
abbrev pub at_part : ℕ → List PartEntry → List NodeEntry
at_part part es = map (OnPart part) es

-- entries of one book
abbrev pub at_book : ℕ → List BookEntry → List NodeEntry
at_book book es = map (OnBook book) es

-- entries of the book of forwarded calls
abbrev pub at_calls : List CallsEntry → List NodeEntry
at_calls es = map OnCalls es

module _ {E R : Type 0} where
  -- the entry of one step; none if the gate took none
  abbrev pub one_entry : E → Result R Spent → List (Entry E R)
  one_entry event (Ok reply) = record { event = event; reply = reply } ∷ []
  one_entry event (Err spent) = []

  abbrev pub told : Made E R → Entry E R
  told m = record { event = m.entry.event; reply = m.entry.reply }

-- the seat's own entries grew by these, in this order, and what it has seen grew too
pub record Makes {S E R : Type 0} (es : List (Entry E R)) (before after : SeatOf S E R) : Type 0 where
  pub made : List (Made E R)
  pub entries : map told made ≡ es
  pub grows : Grows made before after

-- One step at a gate came to this: an entry, or the gate has 2^62 entries, which the seat has seen, and took no more.
abbrev pub Steps : {S E R : Type 0} → E → Result R Spent → SeatOf S E R → SeatOf S E R → Type 0
Steps event (Ok reply) before after = Makes (record { event = event; reply = reply } ∷ []) before after
Steps event (Err spent) before after = (spent.count ≡ 2 ^ 62) × (length (seen_of after) ≡ 2 ^ 62) × Makes [] before after

-- of all seats only the one at this place took part, in one step
pub record StepsAt {S E R : Type 0} (place : ℕ) (event : E) (said : Result R Spent) (before after : List (SeatOf S E R)) : Type 0 where
  pub old : SeatOf S E R
  pub new : SeatOf S E R
  pub was : slice_get before place ≡ Some old
  pub is : after ≡ slice_set before place new
  pub steps : Steps event said old new
