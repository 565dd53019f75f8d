-- What replies of parts, of the application and of the store come to in a turn with the reminders. Own.
use Rattle.std.specs.Prelude.{ℕ, Bool, true, false, List, [], ◌∷◌, Option, Some, None, Result, Ok, Err}
use Rattle.http_edge.specs.declared.message.HttpResponse.{HttpResponse}
use Rattle.http_edge.specs.declared.error.EdgeError.{EdgeError}
use Rattle.http_edge.specs.declared.error.EdgeError.TheVariants as edge
use Rattle.part_model.specs.Receipts.{PartReply}
use Rattle.part_model.specs.declared.event.Reply.TheVariants as replies
use Rattle.reminder_rows.specs.declared.row.DueKey.{DueKey}
use Rattle.frame_wire.specs.declared.store_answer.DueEntry.{DueEntry}
use Rattle.frame_wire.specs.declared.store_answer.StoreAnswer.TheVariants as answers
use Rattle.frame_wire.specs.declared.store_refusal.StoreRefusal.TheVariants as refusals
use Rattle.sidecar_node.specs.Turns.{Said}
use Rattle.exchanges.specs.declared.store_end.StoreEnd.{StoreEnd}
use Rattle.exchanges.specs.declared.store_end.StoreEnd.TheVariants as stores
use Rattle.exchanges.specs.Asked.{Got}
use Rattle.reminder_turns.specs.declared.ends.TickEnd.{TickEnd}
use Rattle.reminder_turns.specs.declared.ends.TickEnd.TheVariants as ends
use Rattle.reminder_turns.specs.declared.results.Turned.{Turned}
use Rattle.reminder_turns.specs.declared.results.Turned.TheVariants.{Called, Refused}
use Rattle.reminder_turns.specs.declared.results.Reported.{Reported}
use Rattle.reminder_turns.specs.declared.results.Reported.TheVariants.{Told, Undrawn}
use Rattle.reminder_turns.specs.declared.standing.Stand.{Stand}
use Rattle.reminder_turns.specs.declared.standing.Stand.TheVariants.{On, Last, Over}

-- the first of two ends, if there is one
abbrev pub or_end : Option TickEnd → Option TickEnd → Option TickEnd
or_end (Some end) other = Some end
or_end None other = other

-- ---- parts

-- The end of the whole call that a part's reply brings, if it brings one. Any other refusal ends its turn alone.
abbrev pub reply_end : PartReply → Option TickEnd
reply_end (replies.Spent count) = Some (ends.Spent count)
reply_end replies.Stopped = Some ends.Stopped
reply_end replies.OutOfMemory = Some ends.OutOfMemory
reply_end reply = None

-- the same if the part's gate took no entry
abbrev pub said_end : Said → Option TickEnd
said_end (Ok reply) = reply_end reply
said_end (Err spent) = Some (ends.Spent spent.count)

-- ---- the application

-- want of memory ends the whole call; a fault or a reply that has no reading doesn't
abbrev pub app_end : Result HttpResponse EdgeError → Option TickEnd
app_end (Err edge.OutOfMemory) = Some ends.OutOfMemory
app_end got = None

-- the dial or the connection to the application failed
abbrev pub is_fault : Result HttpResponse EdgeError → Bool
is_fault (Err edge.ConnFault) = true
is_fault got = false

-- the application was reached, whatever it answered
abbrev pub is_answered : Result HttpResponse EdgeError → Bool
is_answered (Err edge.ConnFault) = false
is_answered (Err edge.OutOfMemory) = false
is_answered got = true

-- ---- a turn

-- how many calls began
abbrev pub begun_in : Turned → ℕ
begun_in (Called got ended) = 1
begun_in (Refused said) = 0

abbrev pub fault_in : Turned → Bool
fault_in (Called got ended) = is_fault got
fault_in (Refused said) = false

-- A report is owed for a turn that reached the application. A gate that took no End takes no Draw either.
abbrev pub owes : Result HttpResponse EdgeError → Said → Bool
owes got (Ok reply) = is_answered got
owes got (Err spent) = false

abbrev pub is_owed : Turned → Bool
is_owed (Called got ended) = owes got ended
is_owed (Refused said) = false

-- what a turn ends, its report left aside
abbrev pub turned_end : Turned → Option TickEnd
turned_end (Called got ended) = or_end (said_end ended) (app_end got)
turned_end (Refused said) = said_end said

-- ---- the store

abbrev pub store_end : StoreEnd → TickEnd
store_end stores.Fault = ends.StoreFault
store_end stores.Unreadable = ends.StoreReply
store_end stores.OutOfMemory = ends.OutOfMemory

-- What ends after a Fired. That there is no such reminder any more, or that it has another moment, says that the callback
-- removed it or registered it anew: the report is over, and the turn goes on. Any other refusal ends the whole call.
abbrev pub told_end : Got → Option TickEnd
told_end (Ok (answers.NextIs next)) = None
told_end (Ok answers.NotThere) = None
told_end (Ok (answers.Refused (refusals.OtherMoment next))) = None
told_end (Ok answer) = Some (ends.StoreRefused answer)
told_end (Err end) = Some (store_end end)

-- What a reply to a Draw ends that drew no number. No Draw has any other reply; for those the free answer stands, so that
-- each other end is exact.
abbrev pub draw_end : PartReply → TickEnd
draw_end (replies.Spent count) = ends.Spent count
draw_end replies.Stopped = ends.Stopped
draw_end reply = ends.OutOfMemory

abbrev pub undrawn_end : Said → TickEnd
undrawn_end (Ok reply) = draw_end reply
undrawn_end (Err spent) = ends.Spent spent.count

-- What ends after a report; `early` is what its turn has ended. A Draw that was refused goes first, then the turn, then
-- the store.
abbrev pub reported_end : Option TickEnd → Reported → Option TickEnd
reported_end early (Told got) = or_end early (told_end got)
reported_end early (Undrawn said) = Some (undrawn_end said)

-- what ends after a turn and its report, if there was one
abbrev pub run_end : Turned → Option Reported → Option TickEnd
run_end turned None = turned_end turned
run_end turned (Some reported) = reported_end (turned_end turned) reported

-- ---- pages

-- the reminders that a page lists, or what ends if it lists none
abbrev pub page_of : Got → Result (List DueEntry) TickEnd
page_of (Ok (answers.DueList entries)) = Ok entries
page_of (Ok answer) = Err (ends.StoreRefused answer)
page_of (Err end) = Err (store_end end)

-- the place of the last entry; none in an empty page
abbrev pub last_key : List DueEntry → Option DueKey
last_key [] = None
last_key (e ∷ []) = Some e.key
last_key (e ∷ f ∷ es) = last_key (f ∷ es)

-- where the call stands after a page: at the next one, behind this place; at its end, if the page was empty; or it has
-- been ended
abbrev pub stand_after : Option DueKey → Option TickEnd → Stand
stand_after place (Some end) = Over end
stand_after (Some key) None = On (Some key)
stand_after None None = Last

-- how the call ends: a fault of the application's connection is told in place of Done
abbrev pub tick_end : ℕ → Bool → Option TickEnd → TickEnd
tick_end turns faulted (Some end) = end
tick_end turns true None = ends.AppFault
tick_end turns false None = ends.Done turns
