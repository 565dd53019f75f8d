-- Turns with the placement, and why a sidecar has to stop. Own.
use Rattle.std.specs.Prelude.{◌≡◌, ◌≤◌, ◌+◌, ◌==◌, ℕ, Bool, true, false, Option, None, Some}
use Rattle.actor_names.specs.declared.address.Address.{Address}
use Rattle.actor_ports.specs.Traffic.{Place, Traffic, Dialled}
use Rattle.round_core.specs.declared.event.PlaceReply.{PlaceReply}
use Rattle.round_core.specs.declared.event.PlaceReply.TheVariants as replies
use Rattle.lease_core.specs.Lease.{lease_time}
use Rattle.exchanges.specs.Replies.{place_at}
use Rattle.sidecar_node.specs.declared.node.SidecarNode.{SidecarNode}
use Rattle.sidecar_node.specs.declared.node.Seats.{Seats}
use Rattle.sidecar_node.specs.Nodes.{IsSeatsOf, host_of}
use Rattle.placement_beats.specs.declared.book.PlacementBook.{PlacementBook}
use Rattle.placement_beats.specs.declared.book.TurnEnd.{TurnEnd}
use Rattle.placement_beats.specs.declared.book.TurnEnd.TheVariants as ends
use Rattle.placement_beats.specs.Beats.{HeartbeatTurn}
use Rattle.sidecar_server.specs.declared.watch.Parties.{Parties}
use Rattle.sidecar_server.specs.declared.watch.StopCause.{StopCause}
use Rattle.sidecar_server.specs.declared.watch.StopCause.TheVariants as causes
use Rattle.sidecar_server.specs.Links.{IsLinkTo, IsOneOf}

-- the refusals after which a sidecar has to stop
abbrev pub is_final : PlaceReply → Bool
is_final (replies.StaleBoot greatest) = true
is_final (replies.NotMember greatest) = true
is_final (replies.SpacesFull spaces) = true
is_final (replies.Full members nodes) = true
is_final reply = false

abbrev pub IsFinal : PlaceReply → Type 0
IsFinal reply = is_final reply ≡ true

-- the code by which a placement says that its journal is full
abbrev pub journal_full : ℕ
journal_full = 8

-- The ends of a turn by which a lease is extended. After these the placement has heard the member at the turn's beginning or
-- later; or the node isn't a member yet, so that it has no actor; or no member can be dropped, since a journal that is full
-- takes no record of that either.
abbrev pub extends_lease : TurnEnd → Bool
extends_lease ends.Next = true
extends_lease (ends.Refused (replies.NodeBusy boot)) = true
extends_lease (ends.NodeRefused code number) = code == journal_full
extends_lease end = false

-- Some clock has shown this moment. `shown` is the moment that a clock has shown last; where nothing else is known of the
-- clocks, only a call that read one knows this of a moment.
abbrev pub IsShown : {K : Type 0} → (K → ℕ) → ℕ → Type 0
IsShown {K} shown now = (clock : K) × (shown clock ≡ now)

-- `dialled` says what a dialler did, `traffic` what went over a link
module _ {N L K : Type 0} (dialled : N → Option Dialled) (traffic : L → Option Traffic) (shown : K → ℕ) where
  -- A turn of this node with the placement at this place, over a link that was dialled there. It was begun once its clock
  -- had shown the moment `sent`, and ended so.
  pub record IsTurn (node : SidecarNode) (at : Place) (sent : ℕ) (before after : Seats) (end : TurnEnd) : Type 0 where
    pub book : PlacementBook
    pub new : PlacementBook
    pub since : K
    pub read : K
    pub sent_is : shown since ≡ sent
    pub link : L
    pub used : L
    pub leads : IsLinkTo dialled traffic at link
    pub turn : HeartbeatTurn node (shown since) (shown read) book new before after (traffic link) (traffic used) end

  -- the same of a node of this member, with the placement at one of these addresses
  pub record IsTurnOf (parties : Parties) (sent : ℕ) (end : TurnEnd) : Type 0 where
    pub node : SidecarNode
    pub of_member : (host_of node).member ≡ parties.member
    pub before : Seats
    pub after : Seats
    pub seats : IsSeatsOf node after
    pub at : Address
    pub one_of : IsOneOf parties.placement at
    pub turn : IsTurn node (place_at at) sent before after end

  -- the turn that was begun then was answered by the placement
  pub record IsAnswered (parties : Parties) (sent : ℕ) : Type 0 where
    pub end : TurnEnd
    pub extends : extends_lease end ≡ true
    pub turn : IsTurnOf parties sent end

  -- a turn ended with this refusal, by the frame that was read from its link
  pub record IsRefused (parties : Parties) (reply : PlaceReply) : Type 0 where
    pub final : IsFinal reply
    pub sent : ℕ
    pub turn : IsTurnOf parties sent (ends.Refused reply)

  -- A cause is sound: 5,000 milliseconds have passed since the lease's start by the clocks, or a turn of this member with
  -- this placement ended with such a refusal.
  abbrev pub IsCause : Parties → StopCause → Type 0
  IsCause parties (causes.Silent start now) = (start + lease_time ≤ now) × IsShown shown start × IsShown shown now
  IsCause parties (causes.Refused reply) = IsRefused parties reply

  abbrev pub IsSound : Parties → Option StopCause → Type 0
  IsSound parties None = Unit {0}
  IsSound parties (Some cause) = IsCause parties cause
