-- Worked examples of what replies and answers come to.
use Rattle.std.proofs.Common.{◌≡◌, ℕ, [], ◌∷◌, Option, Some, None, Ok, Err, true, false, refl}
use Rattle.step_gate.specs.declared.gate.Spent.{Spent}
use Rattle.http_edge.specs.declared.message.HttpResponse.{HttpResponse}
use Rattle.http_edge.specs.declared.error.EdgeError.TheVariants as edge
use Rattle.part_model.specs.declared.event.Reply.TheVariants as replies
use Rattle.frame_wire.specs.declared.store_answer.DueEntry.{DueEntry}
use Rattle.frame_wire.specs.declared.store_answer.StoreAnswer.TheVariants as answers
use Rattle.frame_wire.specs.declared.store_refusal.StoreRefusal.TheVariants as refusals
use Rattle.exchanges.specs.declared.store_end.StoreEnd.TheVariants as stores
use Rattle.reminder_turns.specs.declared.ends.TickEnd.TheVariants as ends
use Rattle.reminder_turns.specs.declared.results.Turned.TheVariants.{Called, Refused}
use Rattle.reminder_turns.specs.declared.results.Reported.TheVariants.{Told, Undrawn}
use Rattle.reminder_turns.specs.declared.standing.Stand.TheVariants.{On, Last}
use Rattle.reminder_turns.specs.Outcomes.{is_owed, run_end, last_key, stand_after, tick_end}

-- any status of the application counts as fired, and so does a reply that has no reading; a failed connection doesn't
any_status_is_reported : (r : HttpResponse) (next : Option ℕ) → is_owed (Called (Ok r) (Ok (replies.Ended next))) ≡ true
any_status_is_reported r next = refl

unreadable_reply_is_reported : (next : Option ℕ) → is_owed (Called (Err edge.BadHead) (Ok (replies.Ended next))) ≡ true
unreadable_reply_is_reported next = refl

fault_is_not_reported : (next : Option ℕ) → is_owed (Called (Err edge.ConnFault) (Ok (replies.Ended next))) ≡ false
fault_is_not_reported next = refl

-- a full queue, and a call that was ended while it waited, end that turn alone
full_queue_ends_nothing : (n : ℕ) → run_end (Refused (Ok (replies.QueueFull n))) None ≡ None
full_queue_ends_nothing n = refl

lost_wait_ends_nothing : run_end (Refused (Ok replies.AlreadyEnded)) None ≡ None
lost_wait_ends_nothing = refl

stopped_part_ends_call : run_end (Refused (Ok replies.Stopped)) None ≡ Some ends.Stopped
stopped_part_ends_call = refl

full_gate_ends_call : (spent : Spent) → run_end (Refused (Err spent)) None ≡ Some (ends.Spent spent.count)
full_gate_ends_call spent = refl

-- the answers to a report: the next moment, that there is no such reminder any more, that it has another moment, that the
-- store has to be opened again, one that has no reading
next_moment_goes_on : (r : HttpResponse) (e : Option ℕ) → (n : _) → run_end (Called (Ok r) (Ok (replies.Ended e))) (Some (Told (Ok (answers.NextIs n)))) ≡ None
next_moment_goes_on r e n = refl

removed_reminder_goes_on : (r : HttpResponse) (e : Option ℕ) → run_end (Called (Ok r) (Ok (replies.Ended e))) (Some (Told (Ok answers.NotThere))) ≡ None
removed_reminder_goes_on r e = refl

renewed_reminder_goes_on : (r : HttpResponse) (e : Option ℕ) → (m : _) → run_end (Called (Ok r) (Ok (replies.Ended e))) (Some (Told (Ok (answers.Refused (refusals.OtherMoment m))))) ≡ None
renewed_reminder_goes_on r e m = refl

refused_report_ends_call : (r : HttpResponse) (e : Option ℕ) → run_end (Called (Ok r) (Ok (replies.Ended e))) (Some (Told (Ok (answers.Refused refusals.Reopen)))) ≡ Some (ends.StoreRefused (answers.Refused refusals.Reopen))
refused_report_ends_call r e = refl

unreadable_answer_ends_call : (r : HttpResponse) (e : Option ℕ) → run_end (Called (Ok r) (Ok (replies.Ended e))) (Some (Told (Err stores.Unreadable))) ≡ Some ends.StoreReply
unreadable_answer_ends_call r e = refl

refused_draw_ends_call : (r : HttpResponse) (e : Option ℕ) → run_end (Called (Ok r) (Ok (replies.Ended e))) (Some (Undrawn (Ok replies.Stopped))) ≡ Some ends.Stopped
refused_draw_ends_call r e = refl

-- an empty page is the last one; otherwise the next page is the one behind the last entry
empty_page_is_last : stand_after (last_key []) None ≡ Last
empty_page_is_last = refl

next_page_is_behind : (e f : DueEntry) → stand_after (last_key (e ∷ f ∷ [])) None ≡ On (Some f.key)
next_page_is_behind e f = refl

failed_connection_is_told_at_end : (n : ℕ) → tick_end n true None ≡ ends.AppFault
failed_connection_is_told_at_end n = refl
