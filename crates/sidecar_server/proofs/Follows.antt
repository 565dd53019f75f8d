-- What works come to, one step after the other.
use Rattle.std.proofs.Common.{◌≡◌, inl, ℕ, List, [], ◌∷◌, length, Option, None, Some, Result, Ok, Err, refl, subst, ap, ◌∙◌}
use Rattle.actor_names.specs.declared.address.Address.{Address}
use Rattle.actor_ports.specs.Traffic.{Traffic, Dialled}
use Rattle.exchanges.specs.Replies.{place_at}
use Rattle.step_gate.specs.declared.gate.Spent.{Spent}
use Rattle.step_gate.specs.declared.view.HistoryEntry.{HistoryEntry}
use Rattle.step_gate.specs.History.{HistoryLeadsTo}
use Rattle.sidecar_node.specs.declared.node.SidecarNode.{SidecarNode}
use Rattle.sidecar_node.specs.declared.node.Seats.{Seats}
use Rattle.sidecar_node.specs.Nodes.{part_gates}
use Rattle.sidecar_server.specs.declared.placements.Placements.{Placements}
use Rattle.sidecar_server.specs.declared.watch.StopCause.{StopCause}
use Rattle.sidecar_server.specs.declared.watch.WatchEvent.{WatchEvent}
use Rattle.sidecar_server.specs.declared.watch.WatchEvent.TheVariants as events
use Rattle.sidecar_server.specs.Links.{IsOneOf}
use Rattle.sidecar_server.specs.Watch.{WatchState, WatchMoves, watch_after}
use Rattle.sidecar_server.specs.Works.{LeavesTables, WatchSeat, AfterWatch, TellsWatch, MayTurn, DoesDuty}
use Rattle.sidecar_server.proofs.Others.{leaves_same, stops_leave}

-- ---- a watch's parties stay

after_stays : (w : WatchState) (event : WatchEvent) → (watch_after w event).parties ≡ w.parties
after_stays w (events.Answered parties sent) = refl
after_stays w (events.Look now) = refl
after_stays w (events.Refused parties reply) = refl

pub parties_stay : (a : WatchState) (es : List (HistoryEntry WatchEvent (Option StopCause))) (b : WatchState) → HistoryLeadsTo WatchMoves a es b → b.parties ≡ a.parties
parties_stay a [] b leads = subst (λ (w : WatchState). w.parties ≡ a.parties) leads refl
parties_stay a (e ∷ es) b leads = parties_stay leads.0 es b leads.2 ∙ (ap (λ (w : WatchState). w.parties) leads.1.0 ∙ after_stays a e.event)

-- ---- the watch was told

answer_leaves : (node : SidecarNode) (reply : Result (Option StopCause) Spent) (before after : Seats) → AfterWatch node reply before after → LeavesTables before after
answer_leaves node (Ok None) before after follows = leaves_same before after follows
answer_leaves node (Ok (Some cause)) before after follows = stops_leave (length (part_gates node)) follows.0 before after follows.1
answer_leaves node (Err spent) before after follows = stops_leave (length (part_gates node)) follows.0 before after follows.1

-- the watch was told something
pub tells_leave : (node : SidecarNode) (event : WatchEvent) (old new : WatchSeat) (before after : Seats) → TellsWatch node event old new before after → LeavesTables before after
tells_leave node event old new before after tells = answer_leaves node tells.reply before after tells.follows

module _ {N L K : Type 0} (dialled : N → Option Dialled) (traffic : L → Option Traffic) (shown : K → ℕ) (node : SidecarNode) (placement : Placements) where
  -- no turn with the placement was made
  pub other_duty : (before after : Seats) → LeavesTables before after → DoesDuty dialled traffic shown node placement before after
  other_duty before after rest = record { middle = before; turn = (placement.first, inl refl, inl refl); rest = rest }

  -- a turn, and what followed
  pub turn_duty : (at : Address) (before middle after : Seats) → IsOneOf placement at → MayTurn dialled traffic shown node (place_at at) before middle → LeavesTables middle after
      → DoesDuty dialled traffic shown node placement before after
  turn_duty at before middle after leads turn rest = record { middle = middle; turn = (at, leads, turn); rest = rest }
