-- The report of a reminder that has fired: one Draw on the part of its actor, and one exchange with the store. Own.
use Rattle.std.specs.Prelude.{◌≡◌, ℕ, true, false, List, [], Option, Some, None, Ok, Err}
use Rattle.actor_names.specs.declared.actor_key.ActorKey.{ActorKey}
use Rattle.actor_names.specs.declared.address.Address.{Address}
use Rattle.part_model.specs.declared.event.PartEvent.TheVariants.{Draw}
use Rattle.part_model.specs.declared.event.Reply.TheVariants as replies
use Rattle.reminder_rows.specs.declared.row.DueKey.{DueKey}
use Rattle.frame_wire.specs.declared.store_command.Stamp.{Stamp}
use Rattle.frame_wire.specs.declared.store_command.StoreCommand.{StoreCommand}
use Rattle.frame_wire.specs.declared.store_command.StoreCommand.TheVariants.{Fired}
use Rattle.sidecar_node.specs.declared.node.SidecarNode.{SidecarNode}
use Rattle.sidecar_node.specs.declared.node.Seats.{Seats}
use Rattle.sidecar_node.specs.Entries.{PartEntry, one_entry}
use Rattle.sidecar_node.specs.Turns.{Said}
use Rattle.sidecar_node.specs.Nodes.{host_of, part_at, SpentAt}
use Rattle.exchanges.specs.Exchanges.{Exchange}
use Rattle.exchanges.specs.Replies.{place_at}
use Rattle.exchanges.specs.Asked.{Got, IsStoreExchange}
use Rattle.reminder_turns.specs.declared.results.Turned.{Turned}
use Rattle.reminder_turns.specs.declared.results.Reported.{Reported}
use Rattle.reminder_turns.specs.declared.results.Reported.TheVariants.{Told, Undrawn}
use Rattle.reminder_turns.specs.Outcomes.{is_owed}

-- a stamp of this member: the part of the actor, and a number that the part drew
abbrev pub stamp_of : SidecarNode → ActorKey → ℕ → Stamp
stamp_of node actor n = record { member = (host_of node).member; part = part_at node actor; number = n }

-- the command that the reminder has fired for the moment at which it was listed, stamped with this number
abbrev pub fired_command : SidecarNode → DueKey → ℕ → StoreCommand
fired_command node key n = Fired (stamp_of node key.actor n) key.actor key.name key.moment

module _ (node : SidecarNode) (store : Address) (key : DueKey) where
  -- what follows the reply to the Draw: one exchange with the number that was drawn, or nothing
  abbrev pub AfterDraw : Said → List Exchange → Reported → Type 0
  AfterDraw (Ok (replies.Drawn n)) xs reported = (got : Got) × IsStoreExchange (fired_command node key n) (place_at store) xs got × (reported ≡ Told got)
  AfterDraw (Ok reply) xs reported = (xs ≡ []) × (reported ≡ Undrawn (Ok reply))
  AfterDraw (Err spent) xs reported = (xs ≡ []) × (reported ≡ Undrawn (Err spent))

  pub record IsReport (es : List PartEntry) (xs : List Exchange) (reported : Reported) : Type 0 where
    pub said : Said
    pub draws : es ≡ one_entry Draw said
    pub follows : AfterDraw said xs reported

  -- a report follows a turn that owes one, and no other
  abbrev pub Reports : Turned → List PartEntry → List Exchange → Option Reported → Type 0
  Reports turned es xs None = (is_owed turned ≡ false) × (es ≡ []) × (xs ≡ [])
  Reports turned es xs (Some reported) = (is_owed turned ≡ true) × IsReport es xs reported

-- if the gate of the part took no Draw, its history is full afterwards
abbrev pub ReportedFull : ℕ → Reported → Seats → Type 0
ReportedFull part (Told got) after = Unit {0}
ReportedFull part (Undrawn said) after = SpentAt part said after
