-- What the definition of a turn with the reminders guarantees, in the words of its subject. Own.
use Rattle.std.specs.Prelude.{◌≡◌, ◌⊎◌, ℕ, false, List, [], ◌∷◌, ◌++◌, map, Option, Some, None, Ok, Err}
use Rattle.part_model.specs.Receipts.{PartReply}
use Rattle.part_model.specs.declared.event.Reply.TheVariants as replies
use Rattle.reminder_rows.specs.declared.row.DueKey.{DueKey}
use Rattle.frame_wire.specs.declared.store_answer.DueEntry.{DueEntry}
use Rattle.frame_wire.specs.declared.store_answer.StoreAnswer.TheVariants as answers
use Rattle.frame_wire.specs.declared.store_refusal.StoreRefusal.TheVariants as refusals
use Rattle.sidecar_node.specs.Entries.{PartEntry}
use Rattle.sidecar_node.specs.Turns.{Said}
use Rattle.exchanges.specs.declared.store_end.StoreEnd.TheVariants as stores
use Rattle.exchanges.specs.Asked.{Got}
use Rattle.reminder_turns.specs.declared.ends.TickEnd.{TickEnd}
use Rattle.reminder_turns.specs.declared.ends.TickEnd.TheVariants as ends
use Rattle.reminder_turns.specs.declared.results.Turned.{Turned}
use Rattle.reminder_turns.specs.declared.results.Turned.TheVariants.{Called, Refused}
use Rattle.reminder_turns.specs.declared.results.Reported.{Reported}
use Rattle.reminder_turns.specs.declared.results.Reported.TheVariants.{Told, Undrawn}
use Rattle.reminder_turns.specs.Outcomes.{is_owed, page_of, last_key}
use Rattle.reminder_turns.specs.Runs.{Run}
use Rattle.reminder_turns.specs.Pages.{Page}

-- ---- which reminders were run

abbrev pub entry_in : Run → DueEntry
entry_in r = r.entry

-- The pages were asked for one after the other, the first behind this place, each other one behind the last entry of the
-- one before. Each reminder of each page has its run, in order, and the last page is empty.
abbrev pub IsListing : Option DueKey → List Page → Type 0
IsListing place [] = ⊥
IsListing place (p ∷ []) = (p.place ≡ place) × (page_of p.got ≡ Ok []) × (p.runs ≡ [])
IsListing place (p ∷ q ∷ ps) = (p.place ≡ place) × (page_of p.got ≡ Ok (map entry_in p.runs)) × IsListing (last_key (map entry_in p.runs)) (q ∷ ps)

-- the store answered the report by the reminder's next moment, or that this registration is gone
abbrev pub IsTold : Option Reported → Type 0
IsTold (Some (Told (Ok (answers.NextIs next)))) = Unit {0}
IsTold (Some (Told (Ok answers.NotThere))) = Unit {0}
IsTold (Some (Told (Ok (answers.Refused (refusals.OtherMoment next))))) = Unit {0}
IsTold reported = ⊥

-- no report is owed, or it was made and is over
abbrev pub IsSettled : Run → Type 0
IsSettled r = (is_owed r.turned ≡ false) ⊎ IsTold r.reported

abbrev pub RunsSettled : List Run → Type 0
RunsSettled [] = Unit {0}
RunsSettled (r ∷ rs) = IsSettled r × RunsSettled rs

abbrev pub PagesSettled : List Page → Type 0
PagesSettled [] = Unit {0}
PagesSettled (p ∷ ps) = RunsSettled p.runs × PagesSettled ps

-- ---- the replies of parts

abbrev pub HasReply : PartReply → List PartEntry → Type 0
HasReply reply [] = ⊥
HasReply reply (e ∷ es) = (e.reply ≡ reply) ⊎ HasReply reply es

-- some entry of these runs had this reply
abbrev pub RunsReplied : PartReply → List Run → Type 0
RunsReplied reply [] = ⊥
RunsReplied reply (r ∷ rs) = HasReply reply (r.turn ++ r.drawn) ⊎ RunsReplied reply rs

abbrev pub PagesReplied : PartReply → List Page → Type 0
PagesReplied reply [] = ⊥
PagesReplied reply (p ∷ ps) = RunsReplied reply p.runs ⊎ PagesReplied reply ps

-- the replies that end the whole call, want of memory left aside
abbrev pub EndsCall : PartReply → Type 0
EndsCall replies.Stopped = Unit {0}
EndsCall (replies.Spent count) = Unit {0}
EndsCall reply = ⊥

-- the ends that such replies, gates that take no entry and want of memory bring
abbrev pub IsPartEnd : Option TickEnd → Type 0
IsPartEnd (Some ends.Stopped) = Unit {0}
IsPartEnd (Some (ends.Spent count)) = Unit {0}
IsPartEnd (Some ends.OutOfMemory) = Unit {0}
IsPartEnd stop = ⊥

-- a gate took no entry, at this count
abbrev pub SaidSpent : ℕ → Said → Type 0
SaidSpent n (Ok reply) = ⊥
SaidSpent n (Err spent) = spent.count ≡ n

abbrev pub TurnedSpent : ℕ → Turned → Type 0
TurnedSpent n (Called got ended) = SaidSpent n ended
TurnedSpent n (Refused said) = SaidSpent n said

abbrev pub ReportedSpent : ℕ → Option Reported → Type 0
ReportedSpent n (Some (Undrawn said)) = SaidSpent n said
ReportedSpent n (Some (Told got)) = ⊥
ReportedSpent n None = ⊥

abbrev pub RunsSpent : ℕ → List Run → Type 0
RunsSpent n [] = ⊥
RunsSpent n (r ∷ rs) = TurnedSpent n r.turned ⊎ (ReportedSpent n r.reported ⊎ RunsSpent n rs)

abbrev pub PagesSpent : ℕ → List Page → Type 0
PagesSpent n [] = ⊥
PagesSpent n (p ∷ ps) = RunsSpent n p.runs ⊎ PagesSpent n ps

-- what an end by a part goes back to, if these are the replies that were given, and these the counts at which a gate took
-- no entry
abbrev pub GoesBack : (PartReply → Type 0) → (ℕ → Type 0) → Option TickEnd → Type 0
GoesBack Replied Full (Some ends.Stopped) = Replied replies.Stopped
GoesBack Replied Full (Some (ends.Spent n)) = Replied (replies.Spent n) ⊎ Full n
GoesBack Replied Full stop = Unit {0}

-- an end by a part goes back to a reply of a part, or to a gate that took no entry
abbrev pub PartCause : List Page → Option TickEnd → Type 0
PartCause ps stop = GoesBack (λ reply. PagesReplied reply ps) (λ n. PagesSpent n ps) stop

-- ---- the answers of the store

abbrev pub reported_got : Option Reported → List Got
reported_got (Some (Told got)) = got ∷ []
reported_got (Some (Undrawn said)) = []
reported_got None = []

-- what the exchanges with the store came to, in order
abbrev pub runs_got : List Run → List Got
runs_got [] = []
runs_got (r ∷ rs) = reported_got r.reported ++ runs_got rs

abbrev pub pages_got : List Page → List Got
pages_got [] = []
pages_got (p ∷ ps) = p.got ∷ (runs_got p.runs ++ pages_got ps)

abbrev pub IsLast : Got → List Got → Type 0
IsLast got [] = ⊥
IsLast got (g ∷ []) = g ≡ got
IsLast got (g ∷ h ∷ gs) = IsLast got (h ∷ gs)

-- what an end by the store goes back to: the last answer that it gave, or that it gave none
abbrev pub StoreCause : List Got → Option TickEnd → Type 0
StoreCause gots (Some (ends.StoreRefused answer)) = IsLast (Ok answer) gots
StoreCause gots (Some ends.StoreReply) = IsLast (Err stores.Unreadable) gots
StoreCause gots (Some ends.StoreFault) = IsLast (Err stores.Fault) gots
StoreCause gots stop = Unit {0}
