-- The reminders of a page, one after the other. Own.
use Rattle.std.specs.Prelude.{◌≡◌, ℕ, ◌+◌, ◌-◌, ◌^◌, min, Bool, false, ◌||◌, List, [], ◌∷◌, ◌++◌, Option, Some, None}
use Rattle.actor_names.specs.declared.address.Address.{Address}
use Rattle.actor_ports.specs.Traffic.{Dialled}
use Rattle.frame_wire.specs.declared.store_answer.DueEntry.{DueEntry}
use Rattle.sidecar_node.specs.declared.node.SidecarNode.{SidecarNode}
use Rattle.sidecar_node.specs.declared.node.Seats.{Seats}
use Rattle.sidecar_node.specs.Entries.{NodeEntry, PartEntry, at_part}
use Rattle.sidecar_node.specs.Nodes.{part_at, Acts}
use Rattle.exchanges.specs.Exchanges.{Exchange, Dialling}
use Rattle.reminder_turns.specs.declared.ends.TickEnd.{TickEnd}
use Rattle.reminder_turns.specs.declared.results.Turned.{Turned}
use Rattle.reminder_turns.specs.declared.results.Reported.{Reported}
use Rattle.reminder_turns.specs.Callbacks.{IsTurn, TurnedFull}
use Rattle.reminder_turns.specs.Outcomes.{begun_in, fault_in, run_end}
use Rattle.reminder_turns.specs.Reports.{Reports, ReportedFull}

-- ---- one reminder

-- What was done for one reminder, between the moments that the clock showed before and after: the entries of its turn on
-- the part of its actor, its exchanges with the application, and what the turn came to; the entries of its report, its
-- exchanges with the store, and what the report came to if there was one.
pub record Run : Type 0 where
  pub entry : DueEntry
  pub first : ℕ
  pub last : ℕ
  pub turn : List PartEntry
  pub called : List Exchange
  pub turned : Turned
  pub drawn : List PartEntry
  pub told : List Exchange
  pub reported : Option Reported

-- a turn of the reminder's actor with its callback, and then a report if one is owed
pub record IsRun (node : SidecarNode) (app store : Address) (r : Run) : Type 0 where
  pub turn : IsTurn app r.entry r.first r.last r.turn r.called r.turned
  pub report : Reports node store r.entry.key r.turned r.drawn r.told r.reported

-- the part of its actor
abbrev pub part_of : SidecarNode → Run → ℕ
part_of node r = part_at node r.entry.key.actor

-- its entries, all on that part: those of the report stand behind those of the turn
abbrev pub run_entries : SidecarNode → Run → List NodeEntry
run_entries node r = at_part (part_of node r) (r.turn ++ r.drawn)

abbrev pub end_of : Run → Option TickEnd
end_of r = run_end r.turned r.reported

abbrev pub MaybeFull : ℕ → Option Reported → Seats → Type 0
MaybeFull part None after = Unit {0}
MaybeFull part (Some reported) after = ReportedFull part reported after

-- if the gate of the part took an entry no more, its history is full afterwards
abbrev pub RunFull : SidecarNode → Seats → Run → Type 0
RunFull node after r = TurnedFull (part_of node r) r.turned after × MaybeFull (part_of node r) r.reported after

-- ---- those of a page

-- What comes after a run: nothing if it ended the call. `Here` says that the clock wasn't read any more, `More` what
-- comes otherwise.
abbrev pub GoOn : Option TickEnd → List Run → Option TickEnd → Type 0 → Type 0 → Type 0
GoOn (Some end) rs last_end Here More = (rs ≡ []) × (last_end ≡ Some end) × Here
GoOn None rs last_end Here More = More

module _ (node : SidecarNode) (app store : Address) where
  -- each reminder has a run, in order, until one ends the call; `last_end` is what it ended the call by
  abbrev pub RunsEach : ℕ → List DueEntry → List Run → ℕ → Option TickEnd → Type 0
  RunsEach first [] [] last last_end = (last ≡ first) × (last_end ≡ None)
  RunsEach first [] (r ∷ rs) last last_end = ⊥
  RunsEach first (e ∷ es) [] last last_end = ⊥
  RunsEach first (e ∷ es) (r ∷ rs) last last_end =
      (r.entry ≡ e) × (r.first ≡ first) × IsRun node app store r
      × GoOn (end_of r) rs last_end (last ≡ r.last) (RunsEach r.last es rs last last_end)

abbrev pub runs_entries : SidecarNode → List Run → List NodeEntry
runs_entries node [] = []
runs_entries node (r ∷ rs) = run_entries node r ++ runs_entries node rs

-- their exchanges with the application, and with the store
abbrev pub runs_called : List Run → List Exchange
runs_called [] = []
runs_called (r ∷ rs) = r.called ++ runs_called rs

abbrev pub runs_told : List Run → List Exchange
runs_told [] = []
runs_told (r ∷ rs) = r.told ++ runs_told rs

-- how many calls they began
abbrev pub runs_begun : List Run → ℕ
runs_begun [] = 0
runs_begun (r ∷ rs) = begun_in r.turned + runs_begun rs

abbrev pub runs_fault : List Run → Bool
runs_fault [] = false
runs_fault (r ∷ rs) = fault_in r.turned || runs_fault rs

-- what `RunFull` says of the last of them, behind which no entry was made
abbrev pub LastFull : SidecarNode → Seats → List Run → Type 0
LastFull node after [] = Unit {0}
LastFull node after (r ∷ []) = RunFull node after r
LastFull node after (r ∷ s ∷ rs) = LastFull node after (s ∷ rs)

-- a count of 32 bits, which stops at the greatest of them
abbrev pub capped : ℕ → ℕ
capped n = min n (2 ^ 32 - 1)

-- In what follows `t0` and `t1` say what the dialler of the application reported before and after, `f0` and `f1` are its
-- counts of faults; `u0`, `u1`, `g0` and `g1` say the same of the store's.

-- one reminder was run, and nothing else was done
pub record RunsOne
    (node : SidecarNode) (app store : Address) (e : DueEntry) (first last : ℕ) (before after : Seats)
    (t0 t1 : Option Dialled) (f0 f1 : ℕ) (u0 u1 : Option Dialled) (g0 g1 : ℕ)
    (turns : ℕ) (faulted : Bool) (end : Option TickEnd) : Type 0 where
  pub run : Run
  pub entry_is : run.entry ≡ e
  pub first_is : run.first ≡ first
  pub last_is : run.last ≡ last
  pub is : IsRun node app store run
  pub acts : Acts (run_entries node run) before after
  pub calls : Dialling run.called t0 t1 f0 f1
  pub asks : Dialling run.told u0 u1 g0 g1
  pub full : RunFull node after run
  pub turns_are : turns ≡ begun_in run.turned
  pub faulted_is : faulted ≡ fault_in run.turned
  pub end_is : end ≡ end_of run

-- the reminders of a page were run, and nothing else was done
pub record RunsPage
    (node : SidecarNode) (app store : Address) (es : List DueEntry) (first last : ℕ) (before after : Seats)
    (t0 t1 : Option Dialled) (f0 f1 : ℕ) (u0 u1 : Option Dialled) (g0 g1 : ℕ)
    (turns : ℕ) (faulted : Bool) (last_end : Option TickEnd) : Type 0 where
  pub runs : List Run
  pub each : RunsEach node app store first es runs last last_end
  pub acts : Acts (runs_entries node runs) before after
  pub calls : Dialling (runs_called runs) t0 t1 f0 f1
  pub asks : Dialling (runs_told runs) u0 u1 g0 g1
  pub full : LastFull node after runs
  pub counts : turns ≡ capped (runs_begun runs)
  pub faults : faulted ≡ runs_fault runs
