-- What the threads of a sidecar do beside its connections, at the gates of its parts. Own.
use Rattle.std.specs.Prelude.{◌≡◌, ◌⊎◌, ◌^◌, ℕ, Bool, true, false, not, if◌then◌else◌, List, [], ◌∷◌, length, Option, None, Some, Result, Ok, Err, IfOk, IfErr}
use Rattle.actor_names.specs.declared.address.Address.{Address}
use Rattle.actor_ports.specs.Traffic.{Place, Traffic, Dialled}
use Rattle.part_model.specs.declared.event.PartEvent.{PartEvent}
use Rattle.part_model.specs.declared.event.PartEvent.TheVariants as parts
use Rattle.placement_beats.specs.declared.book.TurnEnd.{TurnEnd}
use Rattle.placement_beats.specs.declared.book.TurnEnd.TheVariants as ends
use Rattle.step_gate.specs.declared.gate.Spent.{Spent}
use Rattle.step_gate.specs.Gates.{SeatOf, Adds, SeesLast}
use Rattle.sidecar_node.specs.declared.node.SidecarNode.{SidecarNode}
use Rattle.sidecar_node.specs.declared.node.Seats.{Seats}
use Rattle.sidecar_node.specs.Entries.{NodeEntry, OnPart, OnBook, OnCalls}
use Rattle.sidecar_node.specs.Turns.{Said}
use Rattle.sidecar_node.specs.Nodes.{part_gates, Acts, StopsAll}
use Rattle.sidecar_server.specs.declared.watch.StopCause.{StopCause}
use Rattle.sidecar_server.specs.declared.watch.WatchEvent.{WatchEvent}
use Rattle.exchanges.specs.Replies.{place_at}
use Rattle.sidecar_server.specs.declared.placements.Placements.{Placements}
use Rattle.sidecar_server.specs.Links.{IsOneOf}
use Rattle.sidecar_server.specs.Causes.{IsTurn}
use Rattle.sidecar_server.specs.Watch.{WatchState}

-- ---- entries

-- the events of a round of the placement
abbrev pub is_of_round : PartEvent → Bool
is_of_round (parts.Lock version) = true
is_of_round (parts.Update table now) = true
is_of_round (parts.Unlock version) = true
is_of_round event = false

-- the entry isn't one of a round
abbrev pub IsOther : NodeEntry → Type 0
IsOther (OnPart part e) = is_of_round e.event ≡ false
IsOther (OnBook book e) = Unit {0}
IsOther (OnCalls e) = Unit {0}

abbrev pub AreOthers : List NodeEntry → Type 0
AreOthers [] = Unit {0}
AreOthers (e ∷ es) = IsOther e × AreOthers es

-- Whose seats these are made entries of which none is Lock, Update or Unlock.
pub record LeavesTables (before after : Seats) : Type 0 where
  pub entries : List NodeEntry
  pub acts : Acts entries before after
  pub others : AreOthers entries

-- each part of the node was given StopPart
abbrev pub GivesStops : SidecarNode → Seats → Seats → Type 0
GivesStops node before after = (saids : List Said) × StopsAll (length (part_gates node)) saids before after

-- ---- the watch

abbrev pub WatchSeat : Type 0
WatchSeat = SeatOf WatchState WatchEvent (Option StopCause)

-- nothing follows if the watch says that the sidecar goes on; else all parts are stopped
abbrev pub AfterWatch : SidecarNode → Result (Option StopCause) Spent → Seats → Seats → Type 0
AfterWatch node (Ok None) before after = after ≡ before
AfterWatch node (Ok (Some cause)) before after = GivesStops node before after
AfterWatch node (Err spent) before after = GivesStops node before after

-- the watch was told of this event, and its answer was followed
pub record TellsWatch (node : SidecarNode) (event : WatchEvent) (old new : WatchSeat) (before after : Seats) : Type 0 where
  pub reply : Result (Option StopCause) Spent
  pub entry : IfOk reply (λ r. Adds event r old new)
  pub spent : IfErr reply (λ e. (e.count ≡ 2 ^ 62) × SeesLast old new)
  pub follows : AfterWatch node reply before after

-- ---- works

-- a link is left for the next turn only by one that ended well
abbrev pub left_by : {L : Type 0} → TurnEnd → L → Option L
left_by ends.Next link = Some link
left_by end link = None

-- the link failed over which a turn ended so
abbrev pub has_failed : TurnEnd → Bool
has_failed ends.ConnFault = true
has_failed (ends.BadReply at) = true
has_failed end = false

-- whether the second address is dialled next, behind a turn that ended so
abbrev pub turned_by : TurnEnd → Bool → Bool
turned_by end is_second = if has_failed end then not is_second else is_second

-- A turn, with the addresses dialled in turn: the other one is dialled next if the dial failed, or the link, and the same one
-- otherwise. No link is left by a turn that didn't end well.
abbrev pub Alternates : {L : Type 0} → Bool → Bool → Option L → Type 0
Alternates {L = L} before after left = ((left ≡ None) × (after ≡ not before)) ⊎ ((end : TurnEnd) × (link : L) × (left ≡ left_by end link) × (after ≡ turned_by end before))

module _ {N L K : Type 0} (dialled : N → Option Dialled) (traffic : L → Option Traffic) (shown : K → ℕ) where
  -- one turn of this node with the placement at this place, or none
  abbrev pub MayTurn : SidecarNode → Place → Seats → Seats → Type 0
  MayTurn node at before after = (after ≡ before) ⊎ ((sent : ℕ) × (end : TurnEnd) × IsTurn dialled traffic shown node at sent before after end)

  -- the same with the placement at one of these addresses
  abbrev pub MayTurnWith : SidecarNode → Placements → Seats → Seats → Type 0
  MayTurnWith node placement before after = (at : Address) × IsOneOf placement at × MayTurn node (place_at at) before after

  -- What a thread did beside its connection: perhaps a turn of this node with the placement at one of these addresses, over a
  -- link that was dialled there; and then other entries. So no Lock, Update or Unlock was made but by such a turn.
  pub record DoesDuty (node : SidecarNode) (placement : Placements) (before after : Seats) : Type 0 where
    pub middle : Seats
    pub turn : MayTurnWith node placement before middle
    pub rest : LeavesTables middle after
