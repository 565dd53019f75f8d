-- What a sidecar prints, and its status. Own: the statuses are in README.md.
use Rattle.std.specs.Prelude.{◌≡◌, ℕ, List, Option}
use Rattle.plain_commands.specs.ReplayTold.{Writes, WritesFrontOf}
use Rattle.plain_commands.specs.Schedule.{WritesNothing}
use Rattle.sidecar_start.specs.declared.end.StartEnd.{StartEnd}
use Rattle.sidecar_start.specs.declared.end.StartEnd.TheVariants as starts
use Rattle.sidecar_command.specs.declared.ends.SidecarEnd.{SidecarEnd}
use Rattle.sidecar_command.specs.declared.ends.SidecarEnd.TheVariants as ends
use Rattle.sidecar_command.specs.Telling.{end_text}
use Rattle.actors_top.specs.declared.sidecar.SidecarStatus.{SidecarStatus}
use Rattle.actors_top.specs.declared.sidecar.SidecarStatus.TheVariants as status

-- a start that failed is told by the store, or else by the application
abbrev pub status_unstarted : StartEnd → SidecarStatus
status_unstarted (starts.StoreRefused code) = status.StoreRefused
status_unstarted end = status.AppRefused

abbrev pub status_of : SidecarEnd → SidecarStatus
status_of ends.Done = status.Done
status_of ends.PortFault = status.PortFault
status_of ends.OutOfMemory = status.OutOfMemory
status_of (ends.Stopped cause) = status.Stopped
status_of (ends.Unstarted end) = status_unstarted end

-- what is printed of an end: its line, if it has one; the sink or the memory may fail
abbrev pub TellsEnd : SidecarEnd → SidecarStatus → Option (List ℕ) → Option (List ℕ) → Type 0
TellsEnd end status.SinkFault before after = WritesFrontOf before after (end_text end)
TellsEnd end status.OutOfMemory before after = WritesNothing before after
TellsEnd end status.Done before after = (status.Done ≡ status_of end) × WritesNothing before after
TellsEnd end status.PortFault before after = (status.PortFault ≡ status_of end) × WritesNothing before after
TellsEnd end status.Stopped before after = (status.Stopped ≡ status_of end) × Writes before after (end_text end)
TellsEnd end status.AppRefused before after = (status.AppRefused ≡ status_of end) × Writes before after (end_text end)
TellsEnd end status.StoreRefused before after = (status.StoreRefused ≡ status_of end) × Writes before after (end_text end)

abbrev pub sidecar_code : SidecarStatus → ℕ
sidecar_code status.Done = 0
sidecar_code status.SinkFault = 5
sidecar_code status.PortFault = 7
sidecar_code status.OutOfMemory = 8
sidecar_code status.Stopped = 11
sidecar_code status.AppRefused = 12
sidecar_code status.StoreRefused = 13
