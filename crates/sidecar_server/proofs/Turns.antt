-- A turn with the placement: over which link, and what the watch is told of it.
use Rattle.std.proofs.Common.{◌≡◌, ◌⊎◌, inl, inr, ◌==◌, ℕ, Bool, true, false, if◌then◌else◌, List, length, Option, None, Some, Ok, IfSome, refl, sym, subst}
use Rattle.actor_names.specs.declared.address.Address.{Address}
use Rattle.actor_ports.specs.Traffic.{Place, Traffic, Dialled, Dials}
use Rattle.http_edge.specs.Carry.{Carried, Over, nothing, then_carried}
use Rattle.http_edge.proofs.Carried.{over_nothing, over_then}
use Rattle.place_table.specs.declared.host.HostInfo.{HostInfo}
use Rattle.round_core.specs.declared.event.PlaceReply.{PlaceReply}
use Rattle.round_core.specs.declared.event.PlaceReply.TheVariants as replies
use Rattle.exchanges.specs.Replies.{place_at}
use Rattle.sidecar_node.specs.declared.node.SidecarNode.{SidecarNode}
use Rattle.sidecar_node.specs.declared.node.Seats.{Seats}
use Rattle.sidecar_node.specs.Turns.{Said}
use Rattle.sidecar_node.specs.Nodes.{IsSeatsOf, host_of, part_gates}
use Rattle.placement_beats.specs.declared.book.PlacementBook.{PlacementBook}
use Rattle.placement_beats.specs.declared.book.TurnEnd.{TurnEnd}
use Rattle.placement_beats.specs.declared.book.TurnEnd.TheVariants as ends
use Rattle.placement_beats.specs.Answers.{hindrance}
use Rattle.placement_beats.specs.Beats.{AfterTicks, HeartbeatTurn, IsIdle}
use Rattle.sidecar_server.specs.declared.watch.Parties.{Parties}
use Rattle.sidecar_server.specs.declared.watch.WatchEvent.TheVariants as events
use Rattle.sidecar_server.specs.Links.{IsLinkTo, IsOneOf}
use Rattle.sidecar_server.specs.Causes.{journal_full, IsTurnOf}
use Rattle.sidecar_server.specs.Watch.{refusal_event, turn_event, WatchTakes}
use Rattle.sidecar_server.specs.Works.{MayTurn}

-- ---- links

module _ {N L : Type 0} (dialled : N → Option Dialled) (traffic : L → Option Traffic) (at : Place) where
  -- one that was just dialled
  pub new_link : (before after : N) (link : L) → Dials traffic (dialled before) (dialled after) at (Ok link) → IsLinkTo dialled traffic at link
  new_link before after link dials = record { before = before; after = after; first = link; dials = dials; carried = nothing; over = over_nothing (traffic link) }

  used_on : (link used : L) (c : Carried) → IsLinkTo dialled traffic at link → Over (traffic link) (traffic used) c → IsLinkTo dialled traffic at used
  used_on link used c leads over = record {
    before = leads.before;
    after = leads.after;
    first = leads.first;
    dials = leads.dials;
    carried = then_carried leads.carried c;
    over = over_then (traffic leads.first) (traffic link) (traffic used) leads.carried c leads.over over;
  }

  ticks_on : (link used : L) (hindered : Option TurnEnd) (host : HostInfo) (parts : ℕ) (ticks : List Said) (now : ℕ) (book new : PlacementBook) (before after : Seats) (end : TurnEnd)
      → IsLinkTo dialled traffic at link → AfterTicks hindered host parts ticks now book new before after (traffic link) (traffic used) end → IsLinkTo dialled traffic at used
  ticks_on link used (Some end) host parts ticks now book new before after e leads follows = used_on link used nothing leads follows.2
  ticks_on link used None host parts ticks now book new before after e leads follows = used_on link used follows.carried leads follows.over

  -- one over which a turn was made
  pub used_link : (node : SidecarNode) (since shown : ℕ) (book new : PlacementBook) (before after : Seats) (link used : L) (end : TurnEnd) → IsLinkTo dialled traffic at link
      → (IsIdle book new before after (traffic link) (traffic used) end ⊎ HeartbeatTurn node since shown book new before after (traffic link) (traffic used) end)
      → IsLinkTo dialled traffic at used
  used_link node since shown book new before after link used end leads (inl idle) = used_on link used nothing leads idle.2
  used_link node since shown book new before after link used end leads (inr turn) =
      ticks_on link used (hindrance turn.ticks) (host_of node) (length (part_gates node)) turn.ticks shown book new turn.mid after end leads turn.goes_on

-- ---- what the watch is told

module _ {N L K : Type 0} (dialled : N → Option Dialled) (traffic : L → Option Traffic) (shown : K → ℕ) (parties : Parties) (sent : ℕ) where
  refused_takes : (reply : PlaceReply) → IsTurnOf dialled traffic shown parties sent (ends.Refused reply) → IfSome (refusal_event parties reply sent) (WatchTakes dialled traffic shown)
  refused_takes (replies.NodeBusy boot) turn = record { end = ends.Refused (replies.NodeBusy boot); extends = refl; turn = turn }
  refused_takes (replies.StaleBoot greatest) turn = record { final = refl; sent = sent; turn = turn }
  refused_takes (replies.NotMember greatest) turn = record { final = refl; sent = sent; turn = turn }
  refused_takes (replies.SpacesFull spaces) turn = record { final = refl; sent = sent; turn = turn }
  refused_takes (replies.Full members nodes) turn = record { final = refl; sent = sent; turn = turn }
  refused_takes reply turn = tt

  code_takes : (code number : ℕ) (q : Bool) → (code == journal_full) ≡ q → IsTurnOf dialled traffic shown parties sent (ends.NodeRefused code number)
      → IfSome (if q then Some (events.Answered parties sent) else None) (WatchTakes dialled traffic shown)
  code_takes code number true is turn = record { end = ends.NodeRefused code number; extends = is; turn = turn }
  code_takes code number false is turn = tt

  end_takes : (end : TurnEnd) → IsTurnOf dialled traffic shown parties sent end → IfSome (turn_event parties end sent) (WatchTakes dialled traffic shown)
  end_takes ends.Next turn = record { end = ends.Next; extends = refl; turn = turn }
  end_takes (ends.Refused reply) turn = refused_takes reply turn
  end_takes (ends.NodeRefused code number) turn = code_takes code number (code == journal_full) refl turn
  end_takes end turn = tt

  pub turn_takes : (node : SidecarNode) (since read : K) (book new : PlacementBook) (before after : Seats) (link used : L) (end : TurnEnd)
      → (host_of node).member ≡ parties.member → IsSeatsOf node after → shown since ≡ sent → (at : Address) → IsOneOf parties.placement at → IsLinkTo dialled traffic (place_at at) link
      → (IsIdle book new before after (traffic link) (traffic used) end ⊎ HeartbeatTurn node (shown since) (shown read) book new before after (traffic link) (traffic used) end)
      → IfSome (turn_event parties end sent) (WatchTakes dialled traffic shown)
  turn_takes node since read book new before after link used end member seats is at one_of leads (inl idle) =
      subst (λ e. IfSome (turn_event parties e sent) (WatchTakes dialled traffic shown)) (sym idle.3) tt
  turn_takes node since read book new before after link used end member seats is at one_of leads (inr turn) = end_takes end (record {
    node = node;
    of_member = member;
    before = before;
    after = after;
    seats = seats;
    at = at;
    one_of = one_of;
    turn = record { book = book; new = new; since = since; read = read; sent_is = is; link = link; used = used; leads = leads; turn = turn };
  })

-- such a turn, or none
pub turn_may : {N L K : Type 0} (dialled : N → Option Dialled) (traffic : L → Option Traffic) (shown : K → ℕ) (sent : ℕ) (at : Place)
    (node : SidecarNode) (since read : K) (book new : PlacementBook) (before after : Seats) (link used : L) (end : TurnEnd)
    → shown since ≡ sent → IsLinkTo dialled traffic at link
    → (IsIdle book new before after (traffic link) (traffic used) end ⊎ HeartbeatTurn node (shown since) (shown read) book new before after (traffic link) (traffic used) end)
    → MayTurn dialled traffic shown node at before after
turn_may dialled traffic shown sent at node since read book new before after link used end is leads (inl idle) = inl idle.1
turn_may dialled traffic shown sent at node since read book new before after link used end is leads (inr turn) =
    inr (sent, end, record { book = book; new = new; since = since; read = read; sent_is = is; link = link; used = used; leads = leads; turn = turn })
