-- What contracts see of records that are read, and of the rooms that are read from them. Own.
use Rattle.std.specs.Prelude.{◌≡◌, ℕ, List, map}
use Rattle.std.specs.declared.result.Result.{Result}
use Rattle.std.specs.declared.result.Result.TheVariants.{Err}
use Rattle.round_core.specs.Room.{room_restarted}
use Rattle.round_core.specs.Records.{record_of, restart_record}
use Rattle.round_core.specs.declared.restore.RestoreError.{RestoreError}
use Rattle.round_core.specs.declared.restore.RestoreError.TheVariants.{BadRecord, OutOfMemory}
use Rattle.placement_core.specs.declared.entry.PlacementRecord.{PlacementRecord}
use Rattle.placement_core.specs.declared.entry.SpaceRecord.{SpaceRecord}
use Rattle.placement_core.specs.declared.readings.ReadRoom.{ReadRoom}
use Rattle.placement_core.specs.declared.sweep.KeptRoom.{KeptRoom}
use Rattle.placement_core.specs.Entries.{EntryOf}
use Rattle.placement_core.specs.Placement.{SpaceRoom, PlacementState}

abbrev pub entry_of : SpaceRecord → EntryOf
entry_of e = record { space = e.space; change = record_of e.change }

abbrev pub entries_of : PlacementRecord → List EntryOf
entries_of r = map entry_of r.entries.items

abbrev pub read_space : ReadRoom → List ℕ
read_space r = r.space

abbrev pub room_read : ReadRoom → SpaceRoom
room_read r = record { space = r.space; room = r.room }

-- the room after its restart, with what that has to record
abbrev pub kept_of : ℕ → ReadRoom → KeptRoom
kept_of now r = record { space = r.space; room = record { state = room_restarted r.room now; recent = restart_record r.room now } }

-- a refusal for a bad record names the first bad one; out of memory says nothing about the records
abbrev pub IsBadAt : RestoreError → Result PlacementState ℕ → Type 0
IsBadAt (BadRecord index) answer = answer ≡ Err index
IsBadAt OutOfMemory answer = Unit {0}

-- the same of the rooms before their restart
abbrev pub IsBadIn : RestoreError → Result (List SpaceRoom) ℕ → Type 0
IsBadIn (BadRecord index) answer = answer ≡ Err index
IsBadIn OutOfMemory answer = Unit {0}
