-- A part over lists of events: the states that they lead to, and the replies that refuse an event. Own.
use Rattle.std.specs.Prelude.{◌≡◌, ◌⊎◌, ◌≤◌, ℕ, Bool, true, false, not, List, [], ◌∷◌, ◌++◌, Option}
use Rattle.actor_names.specs.declared.actor_key.ActorKey.{ActorKey}
use Rattle.place_table.specs.declared.host.HostInfo.{HostInfo}
use Rattle.place_table.specs.Hosts.{PlacementTable}
use Rattle.part_model.specs.declared.stage.Stage.{Stage}
use Rattle.part_model.specs.declared.stage.Stage.TheVariants.{Locked, Updated, Open, Stopped}
use Rattle.part_model.specs.declared.event.PartEvent.{PartEvent}
use Rattle.part_model.specs.declared.event.PartEvent.TheVariants as events
use Rattle.part_model.specs.Receipts.{PartReply}
use Rattle.part_model.specs.declared.event.Reply.TheVariants as replies
use Rattle.turn_core.specs.declared.cell.Turn.{Turn}
use Rattle.turn_core.specs.CellSound.{In}
use Rattle.part_model.specs.Cells.{cell_at}
use Rattle.part_model.specs.Marks.{PartMark, TurnBegan}
use Rattle.part_model.specs.Activity.{activity_of}
use Rattle.part_model.specs.Part.{PartState, PartStep, is_own, part_step}
use Rattle.part_model.specs.Rooms.{IsInRange}
use Rattle.part_model.specs.Sound.{OwnsActive}

-- the part after these events
abbrev pub part_after : (PlacementTable → ActorKey → Option HostInfo) → PartState → List PartEvent → PartState
part_after owner p [] = p
part_after owner p (e ∷ es) = part_after owner (part_step owner p e).part es

-- the marks of these events
abbrev pub marks_after : (PlacementTable → ActorKey → Option HostInfo) → PartState → List PartEvent → List PartMark
marks_after owner p [] = []
marks_after owner p (e ∷ es) = (part_step owner p e).marks ++ marks_after owner (part_step owner p e).part es

-- each event's version is in range
abbrev pub AreInRange : List PartEvent → Type 0
AreInRange [] = Unit {0}
AreInRange (e ∷ es) = IsInRange e × AreInRange es

-- these replies refuse any event
abbrev pub is_refusal : PartReply → Bool
is_refusal (replies.Spent count) = true
is_refusal (replies.Behind seen) = true
is_refusal (replies.Depth turns) = true
is_refusal replies.PartFull = true
is_refusal (replies.QueueFull n) = true
is_refusal replies.AlreadyEnded = true
is_refusal replies.StillWaiting = true
is_refusal replies.NotActive = true
is_refusal replies.NotHeld = true
is_refusal (replies.TableStep receipt changed) = not changed
is_refusal (replies.NotDrained receipt) = true
is_refusal replies.NoneClosing = true
is_refusal replies.NotClosing = true
is_refusal replies.Stopped = true
is_refusal replies.OutOfMemory = true
is_refusal _ = false

-- and these refuse a call that is asked; to a poll they say that the moved call is forgotten
abbrev pub refuses_ask : PartReply → Bool
refuses_ask (replies.NoHost version) = true
refuses_ask (replies.Elsewhere version host) = true
refuses_ask reply = is_refusal reply

abbrev pub refuses : PartEvent → PartReply → Bool
refuses (events.Ask key chain now) reply = refuses_ask reply
refuses (events.AskAt key chain least now) reply = refuses_ask reply
refuses event reply = is_refusal reply

-- the part is as it was, and the step adds nothing to the history
pub record LeavesAsWas (p : PartState) (s : PartStep) : Type 0 where
  pub same : s.part ≡ p
  pub quiet : s.marks ≡ []

abbrev pub AreTiedAt : Stage → PartState → Type 0
AreTiedAt Updated p = p.table.version ≡ p.seen
AreTiedAt Open p = (p.table.version ≡ p.seen) × (p.opened ≡ p.seen)
AreTiedAt Locked p = Unit {0}
AreTiedAt Stopped p = Unit {0}

-- No version is above the one that was seen; an updated or open part has the table of that version, and an open
-- one opened at it.
pub record AreVersionsTied (p : PartState) : Type 0 where
  pub opened_seen : p.opened ≤ p.seen
  pub table_seen : p.table.version ≤ p.seen
  pub stage : AreTiedAt p.stage p

-- what a receipt's stage Drained says: the part is updated, and no active actor is foreign
pub record IsTrulyDrained (owner : PlacementTable → ActorKey → Option HostInfo) (p : PartState) : Type 0 where
  pub updated : p.stage ≡ Updated
  pub owns : OwnsActive owner p

-- A turn begins only in an open part that owns the actor, or beside an open turn of its chain.
abbrev pub BeginsRightly : (PlacementTable → ActorKey → Option HostInfo) → PartState → PartStep → Type 0
BeginsRightly owner p s =
    (k : ActorKey) (call : ℕ) (chain : Option (List ℕ)) → In (TurnBegan k call chain) s.marks →
    ((s.part.stage ≡ Open) × (is_own owner s.part k ≡ true)) ⊎ ((t : Turn) × In t (activity_of (cell_at p.cells k)).turns × (t.chain ≡ chain))
