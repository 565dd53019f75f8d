-- The turns by the clock make no entry Lock, Update or Unlock.
use Rattle.std.proofs.Common.{◌≡◌, ◌⊎◌, inl, inr, ◌+◌, ℕ, Bool, true, false, List, [], ◌∷◌, ◌++◌, Option, None, Some, Result, Ok, Err, refl, sym, subst}
use Rattle.actor_names.specs.declared.address.Address.{Address}
use Rattle.actor_ports.specs.Traffic.{Traffic, Dialled}
use Rattle.http_edge.specs.Carry.{Over, nothing}
use Rattle.part_model.specs.declared.event.PartEvent.TheVariants as parts
use Rattle.part_model.specs.declared.event.Reply.TheVariants as replies
use Rattle.timer_book.specs.declared.entry.DueTimer.{DueTimer}
use Rattle.timer_book.specs.declared.event.TimerEvent.TheVariants as timers
use Rattle.timer_book.specs.declared.event.TimerReply.TheVariants as answers
use Rattle.reminder_rows.specs.declared.row.DueKey.{DueKey}
use Rattle.frame_wire.specs.declared.store_answer.DueEntry.{DueEntry}
use Rattle.exchanges.specs.Exchanges.{Exchange}
use Rattle.sidecar_node.specs.declared.node.SidecarNode.{SidecarNode}
use Rattle.sidecar_node.specs.declared.node.Seats.{Seats}
use Rattle.sidecar_node.specs.Entries.{PartEntry, at_part, at_book, one_entry}
use Rattle.sidecar_node.specs.Turns.{Said}
use Rattle.sidecar_node.specs.Nodes.{part_at}
use Rattle.placement_beats.specs.declared.book.TurnEnd.{TurnEnd}
use Rattle.placement_beats.specs.declared.book.TurnEnd.TheVariants as ends
use Rattle.placement_beats.specs.Beats.{LeaveTurn}
use Rattle.clock_turns.specs.declared.ends.TickEnd.{TickEnd}
use Rattle.clock_turns.specs.declared.ends.TickEnd.TheVariants as clock_ends
use Rattle.clock_turns.specs.Closings.{BookSaid, Closing, Taking, rest_entries, take_entries, entries_of, ClosesCells, ClosingTurn}
use Rattle.clock_turns.specs.Timers.{Called, Turn, Run, Fired, Follows, IsTurn, IsFired, Runs, is_there, started_event, finished_event, called_entries, turn_entries, run_entries, timer_entries, nanos_of}
use Rattle.clock_turns.specs.Ends.{timer_end}
use Rattle.clock_turns.specs.Ticks.{Firing, IsFiring, after_timer, stand, fired_entries, due_entries, entries_of as fire_entries, GoesOn, ThenTimers, TickTurn}
use Rattle.reminder_turns.specs.declared.ends.TickEnd.{TickEnd as ReminderEnd}
use Rattle.reminder_turns.specs.declared.results.Turned.{Turned}
use Rattle.reminder_turns.specs.declared.results.Reported.{Reported}
use Rattle.reminder_turns.specs.declared.standing.Stand.{Stand as PageStand}
use Rattle.reminder_turns.specs.declared.standing.Stand.TheVariants as stands
use Rattle.reminder_turns.specs.Outcomes.{page_of}
use Rattle.reminder_turns.specs.Callbacks.{IsTurn as IsCallbackTurn, Follows as FollowsCallback}
use Rattle.reminder_turns.specs.Reports.{Reports}
use Rattle.reminder_turns.specs.Runs.{Run as ReminderRun, IsRun as IsReminderRun, GoOn, RunsEach, run_entries as reminder_entries, end_of, part_of, runs_entries}
use Rattle.reminder_turns.specs.Pages.{Page, AfterDue, GoesOn as PagesGo, pages_entries, ReminderTurn}
use Rattle.sidecar_server.specs.Works.{AreOthers, LeavesTables}
use Rattle.sidecar_server.proofs.Others.{AreAside, others_then, aside_then, aside_at, book_at, one_aside, no_aside, begins_aside, ends_aside, leaves_same, leaves_then, each_leave}

-- ---- a sidecar leaves

pub left_leaves : (node : SidecarNode) (before after : Seats) (t0 t1 : Option Traffic) (end : TurnEnd)
    → (((after ≡ before) × Over t0 t1 nothing × (end ≡ ends.OutOfMemory)) ⊎ LeaveTurn node before after t0 t1 end) → LeavesTables before after
left_leaves node before after t0 t1 end (inl none) = leaves_same before after none.0
left_leaves node before after t0 t1 end (inr turn) = each_leave parts.StopPart turn.stops before after refl turn.gives

-- ---- idle actors

rest_others : (part : ℕ) (closing : Option Closing) → AreOthers (rest_entries part closing)
rest_others part None = tt
rest_others part (Some c) =
    others_then (at_book part (one_entry (timers.DropActor c.key) c.dropped)) (at_part part (one_entry (parts.Closed c.key) c.closed))
    (book_at part (one_entry (timers.DropActor c.key) c.dropped))
    (aside_at part (one_entry (parts.Closed c.key) c.closed) (one_aside (parts.Closed c.key) c.closed refl))

take_others : (now part : ℕ) (said : Said) (closing : Option Closing) → AreOthers (take_entries now part said closing)
take_others now part said closing =
    others_then (at_part part (one_entry (parts.TakeClosing now) said)) (rest_entries part closing)
    (aside_at part (one_entry (parts.TakeClosing now) said) (one_aside (parts.TakeClosing now) said refl)) (rest_others part closing)

takings_others : (now : ℕ) (ts : List Taking) → AreOthers (entries_of now ts)
takings_others now [] = tt
takings_others now (t ∷ ts) = others_then (take_entries now t.part t.said t.closing) (entries_of now ts) (take_others now t.part t.said t.closing) (takings_others now ts)

closes_leave : (node : SidecarNode) (app : Address) (now : ℕ) (before after : Seats) (t0 t1 : Option Dialled) (f0 f1 : ℕ) (faulted : Bool) (last : Option TickEnd)
    → ClosesCells node app now before after t0 t1 f0 f1 faulted last → LeavesTables before after
closes_leave node app now before after t0 t1 f0 f1 faulted last closes = record { entries = entries_of now closes.takings; acts = closes.acts; others = takings_others now closes.takings }

pub closing_leaves : (node : SidecarNode) (app : Address) (now : ℕ) (before after : Seats) (t0 t1 : Option Dialled) (f0 f1 : ℕ) (end : TickEnd)
    → ClosingTurn node app now before after t0 t1 f0 f1 end → LeavesTables before after
closing_leaves node app now before after t0 t1 f0 f1 end turn = closes_leave node app now before after t0 t1 f0 f1 turn.faulted turn.last turn.closes

-- ---- timers

-- The number of the part under which the entries stand doesn't matter: `k` is any.
called_others : (app : Address) (book part k : ℕ) (d : DueTimer) (said : Said) (called : Option Called) (first last : ℕ) (after : Seats)
    → Follows app book part d said called first last after → AreOthers (called_entries book k d called)
called_others app book part k d said None first last after follows = tt
called_others app book part k d (Ok (replies.Begun call chain)) (Some c) first last after follows =
    others_then (at_book book (one_entry (started_event d) c.again)) (at_part k c.back)
    (book_at book (one_entry (started_event d) c.again)) (aside_at k c.back (ends_aside call last c.back c.over follows.ends))
called_others app book part k d (Ok reply) (Some c) first last after follows = absurd follows
called_others app book part k d (Err spent) (Some c) first last after follows = absurd follows

turn_others : (app : Address) (book part k : ℕ) (d : DueTimer) (t : Turn) (first last : ℕ) (after : Seats) → IsTurn app book part d t first last after → AreOthers (turn_entries book k d t)
turn_others app book part k d t first last after turn =
    others_then (at_part k t.front) (called_entries book k d t.called)
    (aside_at k t.front (begins_aside d.key None None turn.middle t.front t.said turn.begins))
    (called_others app book part k d t.said t.called turn.middle last after turn.follows)

run_others : (app : Address) (book part k : ℕ) (d : DueTimer) (ended : ℕ) (there : Bool) (run : Option Run) (middle : Seats) (first last : ℕ) (after : Seats)
    → Runs app book part d there run middle first last after → AreOthers (run_entries book k d ended run)
run_others app book part k d ended there None middle first last after runs = tt
run_others app book part k d ended true (Some r) middle first last after runs =
    others_then (turn_entries book k d r.turn) (at_book book (one_entry (finished_event d ended) r.done))
    (turn_others app book part k d r.turn first runs.middle r.before runs.turn) (book_at book (one_entry (finished_event d ended) r.done))
run_others app book part k d ended false (Some r) middle first last after runs = absurd runs

timer_others : (app : Address) (book part k ended : ℕ) (f : Fired) (first last : ℕ) (after : Seats) → IsFired app book part f first last after → AreOthers (timer_entries book k ended f)
timer_others app book part k ended f first last after fired =
    others_then (at_book book (one_entry (started_event f.timer) f.begun)) (run_entries book k f.timer ended f.run)
    (book_at book (one_entry (started_event f.timer) f.begun))
    (run_others app book part k f.timer ended (is_there f.begun) f.run f.middle first last after fired.runs)

fired_others : (node : SidecarNode) (app : Address) (book : ℕ) (said : BookSaid) (fired : Option Fired) (first last : ℕ) (after : Seats)
    → IsFiring node app book said fired first last after → AreOthers (fired_entries node book last fired)
fired_others node app book said None first last after firing = tt
fired_others node app book (Ok (answers.DueIs (Some d))) (Some f) first last after firing =
    timer_others app book (part_at node d.key) (part_at node f.timer.key) last f first last after firing.1
fired_others node app book (Ok reply) (Some f) first last after firing = absurd firing
fired_others node app book (Err spent) (Some f) first last after firing = absurd firing

due_others : (node : SidecarNode) (app : Address) (now book : ℕ) (said : BookSaid) (fired : Option Fired) (first last : ℕ) (after : Seats)
    → IsFiring node app book said fired first last after → AreOthers (due_entries node now book said fired last)
due_others node app now book said fired first last after firing =
    others_then (at_book book (one_entry (timers.Due (nanos_of now)) said)) (fired_entries node book last fired)
    (book_at book (one_entry (timers.Due (nanos_of now)) said)) (fired_others node app book said fired first last after firing)

-- where a tick stands then, as a book and what ended the tick there
next_book : ℕ → BookSaid → ℕ
next_book book (Ok (answers.DueIs None)) = book + 1
next_book book said = book

next_end : BookSaid → Option Fired → Option TickEnd
next_end (Ok (answers.DueIs (Some d))) None = Some clock_ends.OutOfMemory
next_end (Ok (answers.DueIs (Some d))) (Some f) = timer_end f
next_end (Ok (answers.DueIs None)) fired = None
next_end (Ok reply) fired = Some clock_ends.OutOfMemory
next_end (Err spent) fired = Some (clock_ends.Spent spent.count)

stand_is : (book : ℕ) (said : BookSaid) (fired : Option Fired) → stand book said fired ≡ after_timer (next_book book said) (next_end said fired)
unfolding next_book next_end
stand_is book (Ok (answers.DueIs (Some d))) None = refl
stand_is book (Ok (answers.DueIs (Some d))) (Some f) = refl
stand_is book (Ok (answers.DueIs None)) fired = refl
stand_is book (Ok reply) fired = refl
stand_is book (Err spent) fired = refl

firings_others : (node : SidecarNode) (app : Address) (now book : ℕ) (end : Option TickEnd) (ts : List Firing) (before after : Seats) (first last : ℕ) (over : Option TickEnd)
    → GoesOn node app now (after_timer book end) ts before after first last over → AreOthers (fire_entries node now ts)
firings_others node app now book end [] before after first last over goes = tt
firings_others node app now book None (t ∷ ts) before after first last over goes =
    others_then (due_entries node now t.book t.said t.fired t.until) (fire_entries node now ts)
    (due_others node app now t.book t.said t.fired first t.until t.after goes.2)
    (firings_others node app now (next_book book t.said) (next_end t.said t.fired) ts t.after after t.until last over
    (subst (λ q. GoesOn node app now q ts t.after after t.until last over) (stand_is book t.said t.fired) goes.4))
firings_others node app now book (Some e) (t ∷ ts) before after first last over goes = absurd goes

fires_leave : (node : SidecarNode) (app : Address) (faulted : Bool) (closed : Option TickEnd) (before after : Seats) (t0 t1 : Option Dialled) (f0 f1 first last : ℕ) (end : TickEnd)
    → ThenTimers node app faulted closed before after t0 t1 f0 f1 first last end → LeavesTables before after
fires_leave node app faulted (Some over) before after t0 t1 f0 f1 first last end fires = leaves_same before after fires.0
fires_leave node app faulted None before after t0 t1 f0 f1 first last end fires =
    let f = fires.5 in
    record { entries = fire_entries node fires.0 f.firings; acts = f.acts; others = firings_others node app fires.0 0 None f.firings before after fires.0 last fires.3 f.goes_on }

pub tick_leaves : (node : SidecarNode) (app : Address) (before after : Seats) (t0 t1 : Option Dialled) (f0 f1 first last : ℕ) (end : TickEnd)
    → TickTurn node app before after t0 t1 f0 f1 first last end → LeavesTables before after
tick_leaves node app before after t0 t1 f0 f1 first last end turn =
    leaves_then before turn.middle after
    (closes_leave node app turn.now before turn.middle t0 turn.reported f0 turn.count turn.faulted turn.closed turn.closes)
    (fires_leave node app turn.faulted turn.closed turn.middle after turn.reported t1 turn.count f1 turn.now last end turn.fires)

-- ---- reminders

callback_aside : (app : Address) (e : DueEntry) (said : Said) (first last : ℕ) (es : List PartEntry) (xs : List Exchange) (turned : Turned)
    → FollowsCallback app e said first last es xs turned → AreAside es
callback_aside app e (Ok (replies.Begun call chain)) first last es xs turned follows = ends_aside call last es follows.1 follows.2.ends
callback_aside app e (Ok reply) first last es xs turned follows = no_aside es follows.0.entries
callback_aside app e (Err spent) first last es xs turned follows = no_aside es follows.0.entries

called_aside : (app : Address) (e : DueEntry) (first last : ℕ) (es : List PartEntry) (xs : List Exchange) (turned : Turned) → IsCallbackTurn app e first last es xs turned → AreAside es
called_aside app e first last es xs turned turn =
    subst AreAside (sym turn.entries)
    (aside_then turn.front turn.back (begins_aside e.key.actor None None turn.middle turn.front turn.said turn.begins)
    (callback_aside app e turn.said turn.middle last turn.back xs turned turn.follows))

report_aside : (node : SidecarNode) (store : Address) (key : DueKey) (turned : Turned) (es : List PartEntry) (xs : List Exchange) (reported : Option Reported)
    → Reports node store key turned es xs reported → AreAside es
report_aside node store key turned es xs None reports = no_aside es reports.1
report_aside node store key turned es xs (Some reported) reports =
    let report = reports.1 in subst AreAside (sym report.draws) (one_aside parts.Draw report.said refl)

reminder_others : (node : SidecarNode) (app store : Address) (r : ReminderRun) → IsReminderRun node app store r → AreOthers (reminder_entries node r)
reminder_others node app store r run =
    aside_at (part_of node r) (r.turn ++ r.drawn)
    (aside_then r.turn r.drawn (called_aside app r.entry r.first r.last r.turn r.called r.turned run.turn) (report_aside node store r.entry.key r.turned r.drawn r.told r.reported run.report))

more_others : (node : SidecarNode) (app store : Address) (end : Option ReminderEnd) (rs : List ReminderRun) (last_end : Option ReminderEnd) (Here More : Type 0)
    → (More → AreOthers (runs_entries node rs)) → GoOn end rs last_end Here More → AreOthers (runs_entries node rs)
more_others node app store (Some end) rs last_end Here More more goes = subst (λ (l : List ReminderRun). AreOthers (runs_entries node l)) (sym goes.0) tt
more_others node app store None rs last_end Here More more goes = more goes

runs_others : (node : SidecarNode) (app store : Address) (first : ℕ) (es : List DueEntry) (rs : List ReminderRun) (last : ℕ) (last_end : Option ReminderEnd)
    → RunsEach node app store first es rs last last_end → AreOthers (runs_entries node rs)
runs_others node app store first [] [] last last_end each = tt
runs_others node app store first [] (r ∷ rs) last last_end each = absurd each
runs_others node app store first (e ∷ es) [] last last_end each = tt
runs_others node app store first (e ∷ es) (r ∷ rs) last last_end each =
    others_then (reminder_entries node r) (runs_entries node rs) (reminder_others node app store r each.2)
    (more_others node app store (end_of r) rs last_end (last ≡ r.last) (RunsEach node app store r.last es rs last last_end) (λ m. runs_others node app store r.last es rs last last_end m) each.3)

page_others : (node : SidecarNode) (app store : Address) (first : ℕ) (listed : Result (List DueEntry) ReminderEnd) (rs : List ReminderRun) (last : ℕ) (next : PageStand)
    → AfterDue node app store first listed rs last next → AreOthers (runs_entries node rs)
page_others node app store first (Ok es) rs last next after = runs_others node app store first es rs last after.0 after.1
page_others node app store first (Err end) rs last next after = subst (λ (l : List ReminderRun). AreOthers (runs_entries node l)) (sym after.0) tt

pages_others : (node : SidecarNode) (app store : Address) (first : ℕ) (at : PageStand) (ps : List Page) (last : ℕ) (stop : Option ReminderEnd)
    → PagesGo node app store first at ps last stop → AreOthers (pages_entries node ps)
pages_others node app store first at [] last stop goes = tt
pages_others node app store first (stands.On place) (p ∷ ps) last stop goes =
    others_then (runs_entries node p.runs) (pages_entries node ps) (page_others node app store first (page_of p.got) p.runs p.last p.next goes.1.follows)
    (pages_others node app store p.last p.next ps last stop goes.2)
pages_others node app store first stands.Last (p ∷ ps) last stop goes = absurd goes
pages_others node app store first (stands.Over end) (p ∷ ps) last stop goes = absurd goes

pub reminders_leave : (node : SidecarNode) (app store : Address) (first last : ℕ) (before after : Seats) (t0 t1 : Option Dialled) (f0 f1 : ℕ) (u0 u1 : Option Dialled) (g0 g1 : ℕ) (end : ReminderEnd)
    → ReminderTurn node app store first last before after t0 t1 f0 f1 u0 u1 g0 g1 end → LeavesTables before after
reminders_leave node app store first last before after t0 t1 f0 f1 u0 u1 g0 g1 end turn =
    record { entries = pages_entries node turn.pages; acts = turn.acts; others = pages_others node app store first (stands.On None) turn.pages last turn.stop turn.goes_on }
