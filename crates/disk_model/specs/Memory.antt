-- What a disk in memory holds: own.
use Rattle.std.specs.Prelude.{◌≡◌, ℕ, ◌+◌, ◌/◌, ◌%◌, min, nat_eq, nat_lt, Bool, if◌then◌else◌, List, [], ◌∷◌, ◌++◌, length, take, map, replicate, Result, Ok, Err}
use Rattle.disk_model.specs.declared.change.Change.{Change}
use Rattle.disk_model.specs.declared.change.Change.TheVariants.{Over, CutTo}
use Rattle.disk_model.specs.declared.past.Past.{Past}
use Rattle.actor_ports.specs.declared.port.PortError.{PortError}
use Rattle.actor_ports.specs.declared.port.PortError.TheVariants.{Failed, OutOfMemory}
use Rattle.disk_model.specs.Disk.{Instant, DiskState, fresh, overwritten, changed, flushed}

-- the disk, the calls and the faults so far, and the numbers of the calls that are to fail
pub record DiskMemory : Type 0 where
  pub disk : DiskState
  pub calls : ℕ
  pub faults : ℕ
  pub failing : List ℕ

-- a new disk: all bytes are synced, and nothing was called yet
abbrev pub new_disk : List ℕ → List ℕ → DiskMemory
new_disk bytes failing = record { disk = fresh bytes; calls = 0; faults = 0; failing = failing }

-- a past moment, from the form in which it is kept
abbrev pub instant_of : Past → Instant
instant_of p = record { synced = p.synced.items; pending = p.pending.items }

-- the disk of these fields
abbrev pub disk_of : List ℕ → List ℕ → List Change → List Past → DiskState
disk_of bytes synced pending past = record { bytes = bytes; instant = record { synced = synced; pending = pending }; past = map instant_of past }

-- the moment is added to those that are kept
abbrev pub Keeps : List ℕ → List Change → List Past → List Past → Type 0
Keeps synced pending old new = map instant_of new ≡ map instant_of old ++ record { synced = synced; pending = pending } ∷ []

-- ---- what a crash leaves by a choice

-- a write that wasn't synced has filled its whole range with one value; where a cut has put the range past the end, it has
-- no effect
abbrev pub written_by : ℕ → ℕ → ℕ → List ℕ → List ℕ
written_by value at n bytes = if nat_lt (length bytes) at then bytes else overwritten bytes at (replicate n value)

abbrev pub cut_by : Bool → ℕ → List ℕ → List ℕ
cut_by made len bytes = if made then take len bytes else bytes

-- a write has the low byte of the choice, and a cut was made if the byte above that is even
abbrev pub torn_by : ℕ → Change → List ℕ → List ℕ
torn_by choice (Over at n) bytes = written_by (choice % 256) at n bytes
torn_by choice (CutTo len) bytes = cut_by (nat_eq (choice / 256 % 2) 0) len bytes

abbrev pub torn_by_all : ℕ → List Change → List ℕ → List ℕ
torn_by_all choice [] bytes = bytes
torn_by_all choice (change ∷ changes) bytes = torn_by_all choice changes (torn_by choice change bytes)

-- with choice 0 no change since the last sync came through, with 1 all did
abbrev pub left_by : ℕ → DiskState → List ℕ
left_by choice d = if nat_eq choice 0 then d.instant.synced else (if nat_eq choice 1 then d.bytes else torn_by_all choice d.instant.pending d.instant.synced)

-- ----

-- the number of calls after one more; numbers end at 2^64 - 1
abbrev pub call_after : ℕ → ℕ
call_after calls = min (calls + 1) 18446744073709551615

-- a disk after a call that failed: the call and the fault are counted and nothing else changed; OutOfMemory changes
-- nothing
abbrev pub after_error : DiskMemory → PortError → DiskMemory
after_error m Failed = record m { calls = call_after m.calls; faults = m.faults + 1 }
after_error m OutOfMemory = m

-- a disk after a call that only looked
abbrev pub after_look : {T : Type 0} → DiskMemory → Result T PortError → DiskMemory
after_look m (Ok x) = record m { calls = call_after m.calls }
after_look m (Err e) = after_error m e

-- a disk after a change that leads to these bytes
abbrev pub after_change : {T : Type 0} → Change → List ℕ → DiskMemory → Result T PortError → DiskMemory
after_change change next m (Ok x) = record m { disk = changed m.disk change next; calls = call_after m.calls }
after_change change next m (Err e) = after_error m e

-- a disk after a write
abbrev pub after_write : {T : Type 0} → ℕ → List ℕ → DiskMemory → Result T PortError → DiskMemory
after_write at new m result = after_change (Over at (length new)) (overwritten m.disk.bytes at new) m result

-- a disk after a cut
abbrev pub after_cut : {T : Type 0} → ℕ → DiskMemory → Result T PortError → DiskMemory
after_cut len m result = after_change (CutTo len) (take len m.disk.bytes) m result

-- a disk after a sync
abbrev pub after_sync : {T : Type 0} → DiskMemory → Result T PortError → DiskMemory
after_sync m (Ok x) = record m { disk = flushed m.disk; calls = call_after m.calls }
after_sync m (Err e) = after_error m e
