-- What a server prints. Own: the statuses are in README.md.
use Rattle.std.specs.Prelude.{◌≡◌, ℕ, List, ◌++◌, codes, decimal, Option, None, Some}
use Rattle.plain_commands.specs.ReplayTold.{Writes, WritesFrontOf}
use Rattle.plain_commands.specs.Schedule.{WritesNothing}
use Rattle.placement_command.specs.declared.command.PlacementEnd.{PlacementEnd}
use Rattle.placement_command.specs.declared.command.PlacementEnd.TheVariants as places
use Rattle.store_command.specs.declared.command.StoreEnd.{StoreEnd}
use Rattle.store_command.specs.declared.command.StoreEnd.TheVariants as stores
use Rattle.standby_command.specs.declared.command.StandbyEnd.{StandbyEnd}
use Rattle.standby_command.specs.declared.command.StandbyEnd.TheVariants as standbys
use Rattle.actors_top.specs.declared.server.ServerStatus.{ServerStatus}
use Rattle.actors_top.specs.declared.server.ServerStatus.TheVariants as status

-- where a journal is damaged
abbrev pub damaged_line : ℕ → List ℕ
damaged_line offset = codes "damaged " ++ decimal offset ++ codes "\n"

-- a server whose journal is damaged there prints it; the sink or the memory may fail
abbrev pub TellsDamage : ℕ → ServerStatus → Option (List ℕ) → Option (List ℕ) → Type 0
TellsDamage offset status.Damaged before after = Writes before after (damaged_line offset)
TellsDamage offset status.SinkFault before after = WritesFrontOf before after (damaged_line offset)
TellsDamage offset status.OutOfMemory before after = WritesNothing before after
TellsDamage offset status.Done before after = ⊥
TellsDamage offset status.DiskFault before after = ⊥
TellsDamage offset status.PortFault before after = ⊥

-- what a server prints, by the place of the damage that it is told with, if it is; else nothing, and the status is this
abbrev pub TellsServer : Option ℕ → ServerStatus → ServerStatus → Option (List ℕ) → Option (List ℕ) → Type 0
TellsServer None due ended before after = (ended ≡ due) × WritesNothing before after
TellsServer (Some offset) due ended before after = TellsDamage offset ended before after

-- the status of a placement's end
abbrev pub placement_status : PlacementEnd → ServerStatus
placement_status places.Done = status.Done
placement_status places.DiskFault = status.DiskFault
placement_status places.PortFault = status.PortFault
placement_status places.OutOfMemory = status.OutOfMemory
placement_status (places.Damaged offset) = status.Damaged

-- the place of the damage that it is told with
abbrev pub placement_damage : PlacementEnd → Option ℕ
placement_damage places.Done = None
placement_damage places.DiskFault = None
placement_damage places.PortFault = None
placement_damage places.OutOfMemory = None
placement_damage (places.Damaged offset) = Some offset

-- the same of a store's end
abbrev pub store_status : StoreEnd → ServerStatus
store_status stores.Done = status.Done
store_status stores.DiskFault = status.DiskFault
store_status stores.PortFault = status.PortFault
store_status stores.OutOfMemory = status.OutOfMemory
store_status (stores.Damaged offset) = status.Damaged

abbrev pub store_damage : StoreEnd → Option ℕ
store_damage stores.Done = None
store_damage stores.DiskFault = None
store_damage stores.PortFault = None
store_damage stores.OutOfMemory = None
store_damage (stores.Damaged offset) = Some offset

-- the status of a standby's end
abbrev pub standby_status : StandbyEnd → ServerStatus
standby_status standbys.Done = status.Done
standby_status standbys.DiskFault = status.DiskFault
standby_status standbys.PortFault = status.PortFault
standby_status standbys.OutOfMemory = status.OutOfMemory

abbrev pub server_code : ServerStatus → ℕ
server_code status.Done = 0
server_code status.SinkFault = 5
server_code status.DiskFault = 6
server_code status.PortFault = 7
server_code status.OutOfMemory = 8
server_code status.Damaged = 9
