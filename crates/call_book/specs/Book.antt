-- A book of forwarded calls: what it answers to each event, and what the event leaves. Own.
use Rattle.std.specs.Prelude.{ℕ, Bool, false, not, ◌&&◌, nat_lt, nat_le, if◌then◌else◌, List, [], ◌∷◌, ◌++◌, length, Option, None, Some, is_some}
use Rattle.http_edge.specs.declared.message.HttpResponse.{HttpResponse}
use Rattle.actor_names.specs.declared.member.Member.{Member}
use Rattle.call_book.specs.declared.lane.LaneName.{LaneName}
use Rattle.call_book.specs.declared.lane.CallLane.{CallLane}
use Rattle.call_book.specs.declared.entry.CallEntry.{CallEntry}
use Rattle.call_book.specs.declared.event.BookEvent.{BookEvent}
use Rattle.call_book.specs.declared.event.BookEvent.TheVariants as events
use Rattle.call_book.specs.declared.event.BookReply.{BookReply}
use Rattle.call_book.specs.declared.event.BookReply.TheVariants as replies
use Rattle.call_book.specs.Lanes.{lane_of, lane_at, put_lane, bare_lane, raise_lane, has_boot, floor_of}
use Rattle.call_book.specs.Entries.{stage_of, is_done, new_entry, entry_at, without_call, without_lane, first_done, with_stage}
use Rattle.call_book.specs.Replies.{stage_reply}

-- the lanes in order of their names, and the calls in the order in which they began
pub record CallBookState : Type 0 where
  pub lanes : List CallLane
  pub entries : List CallEntry

abbrev pub new_book : CallBookState
new_book = record { lanes = []; entries = [] }

-- the greatest number of lanes
abbrev pub most_lanes : ℕ
most_lanes = 4096

-- the greatest number of calls
abbrev pub most_calls : ℕ
most_calls = 4096

-- ---- the lane of a call

-- why a boot of a lane is refused: a greater one came before, or the lane is new and there are 4,096
abbrev pub lane_refusal : Option CallLane → ℕ → ℕ → Option BookReply
lane_refusal None count boot = if nat_lt count most_lanes then None else Some (replies.LanesFull most_lanes)
lane_refusal (Some lane) count boot = if nat_lt boot lane.boot then Some (replies.OldBoot lane.boot) else None

-- the book with the lane in its first moment of a boot: it has no calls, and its floor is 0
abbrev pub renewed : CallBookState → LaneName → ℕ → CallBookState
renewed book name boot = record { lanes = put_lane (bare_lane name boot) book.lanes; entries = without_lane name book.entries }

-- the book in which the lane has this boot
abbrev pub at_boot : CallBookState → LaneName → ℕ → CallBookState
at_boot book name boot = if has_boot (lane_at name book.lanes) boot then book else renewed book name boot

-- ---- what a Begin is answered

-- if there are 4,096 calls, one that is done makes room
abbrev pub room_reply : Option CallEntry → BookReply
room_reply None = replies.BookFull most_calls
room_reply (Some done) = replies.New

-- to a number that has no call, in a lane with this floor
abbrev pub number_reply : ℕ → ℕ → List CallEntry → BookReply
number_reply floor number entries =
    if nat_le number floor then replies.TooOld floor else (
    if nat_lt (length entries) most_calls then replies.New else
    room_reply (first_done entries)
    )

abbrev pub entry_reply : Option CallEntry → BookReply → BookReply
entry_reply None fresh = fresh
entry_reply (Some e) fresh = stage_reply e.stage

-- in a book in which the lane has the boot of the call
abbrev pub call_reply : CallBookState → LaneName → ℕ → BookReply
call_reply book name number = entry_reply (entry_at name number book.entries) (number_reply (floor_of (lane_at name book.lanes)) number book.entries)

abbrev pub refused_or : Option BookReply → BookReply → BookReply
refused_or None reply = reply
refused_or (Some refusal) reply = refusal

-- first the lane's refusals, and then what the call and its number say
abbrev pub begin_reply : CallBookState → Member → ℕ → ℕ → BookReply
begin_reply book origin part number =
    let name = lane_of origin part in
    refused_or (lane_refusal (lane_at name book.lanes) (length book.lanes) origin.boot) (call_reply (at_boot book name origin.boot) name number)

-- ---- what a Begin leaves

-- a call is dropped, and its lane's floor rises to its number
abbrev pub dropped : Option CallEntry → CallBookState → CallBookState
dropped None book = book
dropped (Some e) book = record { lanes = raise_lane e.lane e.number book.lanes; entries = without_call e.lane e.number book.entries }

-- if there are 4,096 calls, the one that began first of those that are done is dropped
abbrev pub with_room : CallBookState → CallBookState
with_room book = if nat_lt (length book.entries) most_calls then book else dropped (first_done book.entries) book

abbrev pub with_call : LaneName → ℕ → CallBookState → CallBookState
with_call name number book = record { lanes = book.lanes; entries = book.entries ++ new_entry name number ∷ [] }

-- the book after a call began
abbrev pub begun : CallBookState → Member → ℕ → ℕ → CallBookState
begun book origin part number =
    let name = lane_of origin part in
    with_call name number (with_room (at_boot book name origin.boot))

-- only a new call changes the book
abbrev pub begin_step : BookReply → CallBookState → CallBookState → BookReply × CallBookState
begin_step replies.New begun old = (replies.New, begun)
begin_step reply begun old = (reply, old)

-- ---- a Finish

abbrev pub runs : Option CallEntry → Bool
runs None = false
runs (Some e) = not (is_done e.stage)

-- whether the call runs: its lane has the boot, and there is its entry, which isn't done
abbrev pub is_running : CallBookState → Member → ℕ → ℕ → Bool
is_running book origin part number =
    let name = lane_of origin part in
    has_boot (lane_at name book.lanes) origin.boot && runs (entry_at name number book.entries)

-- the book after a call was finished with a response
abbrev pub finished : CallBookState → Member → ℕ → ℕ → HttpResponse → CallBookState
finished book origin part number response = record { lanes = book.lanes; entries = with_stage (lane_of origin part) number (stage_of response) book.entries }

-- ---- the step

-- what is answered to an event, and the book after it, if memory doesn't run out
abbrev pub call_book_step : CallBookState → BookEvent → BookReply × CallBookState
call_book_step book (events.Begin origin part number) = begin_step (begin_reply book origin part number) (begun book origin part number) book
call_book_step book (events.Finish origin part number response) =
    if is_running book origin part number
    then (replies.Finished, finished book origin part number response)
    else (replies.NotBegun, book)

-- whether the entry of a call is kept: its lane has the boot, and there is its entry
abbrev pub is_kept : CallBookState → Member → ℕ → ℕ → Bool
is_kept book origin part number =
    let name = lane_of origin part in
    has_boot (lane_at name book.lanes) origin.boot && is_some (entry_at name number book.entries)
