-- What requests ask of the store. Own.
use Rattle.std.specs.Prelude.{ℕ}
use Rattle.actor_names.specs.declared.actor_key.ActorKey.{ActorKey}
use Rattle.frame_wire.specs.declared.frame.Frame.{Frame}
use Rattle.frame_wire.specs.declared.frame.Frame.TheVariants.{Command, FencedTx}
use Rattle.frame_wire.specs.declared.store_command.Stamp.{Stamp}
use Rattle.frame_wire.specs.declared.store_command.StoreCommand.TheVariants as commands
use Rattle.sidecar_requests.specs.declared.ask.StoreAsk.{StoreAsk}
use Rattle.sidecar_requests.specs.declared.ask.StoreAsk.TheVariants as asks
use Rattle.sidecar_requests.specs.declared.ask.Wanted.{Wanted}
use Rattle.sidecar_requests.specs.declared.ask.Wanted.TheVariants as wanted

-- the frame that is sent for the actor; one that writes bears the stamp, and one that writes state is of this epoch too
abbrev pub store_frame : ActorKey → Stamp → ℕ → StoreAsk → Frame
store_frame actor stamp epoch (asks.Transact ops) = FencedTx epoch stamp actor ops
store_frame actor stamp epoch (asks.GetState key) = Command (commands.Get actor key)
store_frame actor stamp epoch (asks.PutReminder name reminder) = Command (commands.PutReminder stamp actor name reminder)
store_frame actor stamp epoch (asks.GetReminder name) = Command (commands.GetReminder actor name)
store_frame actor stamp epoch (asks.DeleteReminder name) = Command (commands.DeleteReminder stamp actor name)

-- which of these was asked
abbrev pub wanted_of : StoreAsk → Wanted
wanted_of (asks.Transact ops) = wanted.Transaction
wanted_of (asks.GetState key) = wanted.State
wanted_of (asks.PutReminder name reminder) = wanted.PutReminder
wanted_of (asks.GetReminder name) = wanted.Reminder
wanted_of (asks.DeleteReminder name) = wanted.DeleteReminder
