-- Pages of due reminders, asked for one after the other until one is empty. Own.
use Rattle.std.specs.Prelude.{◌≡◌, ◌<◌, ℕ, ◌+◌, Bool, false, ◌||◌, List, [], ◌∷◌, ◌++◌, Option, Some, None, Result, Ok, Err}
use Rattle.actor_names.specs.declared.address.Address.{Address}
use Rattle.actor_ports.specs.Traffic.{Dialled}
use Rattle.reminder_rows.specs.declared.row.DueKey.{DueKey}
use Rattle.frame_wire.specs.declared.store_answer.DueEntry.{DueEntry}
use Rattle.frame_wire.specs.declared.store_command.StoreCommand.TheVariants.{Due}
use Rattle.sidecar_node.specs.declared.node.SidecarNode.{SidecarNode}
use Rattle.sidecar_node.specs.declared.node.Seats.{Seats}
use Rattle.sidecar_node.specs.Entries.{NodeEntry}
use Rattle.sidecar_node.specs.Nodes.{Acts}
use Rattle.exchanges.specs.Exchanges.{Exchange, Dialling}
use Rattle.exchanges.specs.Replies.{place_at}
use Rattle.exchanges.specs.Asked.{Got, IsStoreExchange}
use Rattle.reminder_turns.specs.declared.ends.TickEnd.{TickEnd}
use Rattle.reminder_turns.specs.declared.ends.TickEnd.TheVariants as ends
use Rattle.reminder_turns.specs.declared.standing.Stand.{Stand}
use Rattle.reminder_turns.specs.declared.standing.Stand.TheVariants.{On, Last, Over}
use Rattle.reminder_turns.specs.Outcomes.{page_of, last_key, stand_after, tick_end}
use Rattle.reminder_turns.specs.Runs.{Run, RunsEach, runs_entries, runs_called, runs_told, runs_begun, runs_fault, LastFull, capped}

-- the most reminders that a page is asked for
abbrev pub page_limit : ℕ
page_limit = 256

-- ---- one page

-- A page: the place behind which it was asked for, the exchange with the store, what was done for its reminders, the
-- moment that the clock showed then, and where the call stood.
pub record Page : Type 0 where
  pub place : Option DueKey
  pub asked : List Exchange
  pub got : Got
  pub runs : List Run
  pub last : ℕ
  pub next : Stand

module _ (node : SidecarNode) (app store : Address) where
  -- what follows the store's answer: the runs of the reminders that it lists, or the end
  abbrev pub AfterDue : ℕ → Result (List DueEntry) TickEnd → List Run → ℕ → Stand → Type 0
  AfterDue first (Ok es) runs last next = (last_end : Option TickEnd) × RunsEach node app store first es runs last last_end × (next ≡ stand_after (last_key es) last_end)
  AfterDue first (Err end) runs last next = (runs ≡ []) × (last ≡ first) × (next ≡ Over end)

  -- one Due behind its place, and what followed
  pub record IsPage (first : ℕ) (p : Page) : Type 0 where
    pub exchange : IsStoreExchange (Due p.place page_limit) (place_at store) p.asked p.got
    pub follows : AfterDue first (page_of p.got) p.runs p.last p.next

-- its exchanges with the store: the Due, and those of the reports
abbrev pub page_told : Page → List Exchange
page_told p = p.asked ++ runs_told p.runs

-- ---- all of them

module _ (node : SidecarNode) (app store : Address) where
  -- The pages from where the call stands: each is asked for behind that place, until one is empty or something ends the
  -- call; `stop` is what ended it.
  abbrev pub GoesOn : ℕ → Stand → List Page → ℕ → Option TickEnd → Type 0
  GoesOn first (On place) [] last stop = ⊥
  GoesOn first (On place) (p ∷ ps) last stop = (p.place ≡ place) × IsPage node app store first p × GoesOn p.last p.next ps last stop
  GoesOn first Last [] last stop = (last ≡ first) × (stop ≡ None)
  GoesOn first Last (p ∷ ps) last stop = ⊥
  GoesOn first (Over end) [] last stop = (last ≡ first) × (stop ≡ Some end)
  GoesOn first (Over end) (p ∷ ps) last stop = ⊥

abbrev pub pages_entries : SidecarNode → List Page → List NodeEntry
pages_entries node [] = []
pages_entries node (p ∷ ps) = runs_entries node p.runs ++ pages_entries node ps

abbrev pub pages_called : List Page → List Exchange
pages_called [] = []
pages_called (p ∷ ps) = runs_called p.runs ++ pages_called ps

abbrev pub pages_told : List Page → List Exchange
pages_told [] = []
pages_told (p ∷ ps) = page_told p ++ pages_told ps

abbrev pub pages_begun : List Page → ℕ
pages_begun [] = 0
pages_begun (p ∷ ps) = runs_begun p.runs + pages_begun ps

abbrev pub pages_fault : List Page → Bool
pages_fault [] = false
pages_fault (p ∷ ps) = runs_fault p.runs || pages_fault ps

-- what `LastFull` says of the last page, behind which no entry was made
abbrev pub PagesFull : SidecarNode → Seats → List Page → Type 0
PagesFull node after [] = Unit {0}
PagesFull node after (p ∷ []) = LastFull node after p.runs
PagesFull node after (p ∷ q ∷ ps) = PagesFull node after (q ∷ ps)

-- In what follows `t0` and `t1` say what the dialler of the application reported before and after, `f0` and `f1` are its
-- counts of faults; `u0`, `u1`, `g0` and `g1` say the same of the store's.

-- one page was asked for behind this place, its reminders were run, and nothing else was done
pub record TakesPage
    (node : SidecarNode) (app store : Address) (place : Option DueKey) (first last : ℕ) (before after : Seats)
    (t0 t1 : Option Dialled) (f0 f1 : ℕ) (u0 u1 : Option Dialled) (g0 g1 : ℕ)
    (turns : ℕ) (faulted : Bool) (next : Stand) : Type 0 where
  pub page : Page
  pub behind : page.place ≡ place
  pub is : IsPage node app store first page
  pub last_is : page.last ≡ last
  pub next_is : page.next ≡ next
  pub acts : Acts (runs_entries node page.runs) before after
  pub calls : Dialling (runs_called page.runs) t0 t1 f0 f1
  pub asks : Dialling (page_told page) u0 u1 g0 g1
  pub full : LastFull node after page.runs
  pub counts : turns ≡ capped (runs_begun page.runs)
  pub faults : faulted ≡ runs_fault page.runs

-- The call: pages from the first one on, the entries and the exchanges of their reminders and no others, and its end.
pub record ReminderTurn
    (node : SidecarNode) (app store : Address) (first last : ℕ) (before after : Seats)
    (t0 t1 : Option Dialled) (f0 f1 : ℕ) (u0 u1 : Option Dialled) (g0 g1 : ℕ) (end : TickEnd) : Type 0 where
  pub pages : List Page
  pub stop : Option TickEnd
  pub goes_on : GoesOn node app store first (On None) pages last stop
  pub acts : Acts (pages_entries node pages) before after
  pub calls : Dialling (pages_called pages) t0 t1 f0 f1
  pub asks : Dialling (pages_told pages) u0 u1 g0 g1
  pub full : PagesFull node after pages
  pub ends : end ≡ tick_end (capped (pages_begun pages)) (pages_fault pages) stop

-- a fault is answered only if the count of faults of its dialler rose
abbrev pub TickCause : ℕ → ℕ → ℕ → ℕ → TickEnd → Type 0
TickCause f0 f1 g0 g1 ends.AppFault = f0 < f1
TickCause f0 f1 g0 g1 ends.StoreFault = g0 < g1
TickCause f0 f1 g0 g1 end = Unit {0}
