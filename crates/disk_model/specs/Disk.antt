-- A disk and what a crash may leave of it: own.
use Rattle.std.specs.Prelude.{◌≡◌, ◌⊎◌, ◌≤◌, ℕ, ◌+◌, max, List, [], ◌∷◌, ◌++◌, length, take, drop, Option, Some, None, Result, Ok, Err}
use Rattle.actor_ports.specs.declared.port.PortError.{PortError}
use Rattle.actor_ports.specs.declared.port.PortError.TheVariants.{Failed, OutOfMemory}
use Rattle.disk_model.specs.declared.change.Change.{Change}
use Rattle.disk_model.specs.declared.change.Change.TheVariants.{Over, CutTo}

-- a moment of a disk: its bytes at the last sync, and what was changed since, in order
pub record Instant : Type 0 where
  pub synced : List ℕ
  pub pending : List Change

-- a disk: what a read gives, this moment, and each moment before it, in order
pub record DiskState : Type 0 where
  pub bytes : List ℕ
  pub instant : Instant
  pub past : List Instant

-- every moment of a disk up to now
abbrev pub moments : DiskState → List Instant
moments d = d.past ++ d.instant ∷ []

-- a disk whose bytes are all synced, and that has no past
abbrev pub fresh : List ℕ → DiskState
fresh bytes = record { bytes = bytes; instant = record { synced = bytes; pending = [] }; past = [] }

-- what n bytes written at a place may have left after a crash: any bytes in the range, into which the file may have
-- grown, and outside it the same bytes
pub record Torn (at n : ℕ) (old new : List ℕ) : Type 0 where
  pub before : take at new ≡ take at old
  pub after : drop (at + n) new ≡ drop (at + n) old
  pub no_shorter : length old ≤ length new
  pub no_longer : length new ≤ max (length old) (at + n)

-- what a change that isn't synced may have made of the bytes; a cut has happened or not
abbrev pub MayMake : Change → List ℕ → List ℕ → Type 0
MayMake (Over at n) old new = Torn at n old new
MayMake (CutTo len) old new = (new ≡ old) ⊎ (new ≡ take len old)

-- what these changes may have made of the bytes, one after the other
abbrev pub MayLead : List Change → List ℕ → List ℕ → Type 0
MayLead [] old new = new ≡ old
MayLead (change ∷ changes) old new = (mid : List ℕ) × MayMake change old mid × MayLead changes mid new

-- a crash at this moment may leave these bytes
abbrev pub MayLeave : Instant → List ℕ → Type 0
MayLeave i image = MayLead i.pending i.synced image

-- the bytes, overwritten from there on by others, which may pass the end
abbrev pub overwritten : List ℕ → ℕ → List ℕ → List ℕ
overwritten bytes at new = take at bytes ++ new ++ drop (at + length new) bytes

-- the disk after a change that isn't synced, when a read gives these bytes
abbrev pub changed : DiskState → Change → List ℕ → DiskState
changed d change bytes = record {
  bytes = bytes;
  instant = record { synced = d.instant.synced; pending = d.instant.pending ++ change ∷ [] };
  past = moments d;
}

-- the disk after a sync: a crash leaves what a read gives
abbrev pub flushed : DiskState → DiskState
flushed d = record { bytes = d.bytes; instant = record { synced = d.bytes; pending = [] }; past = moments d }

-- a write puts the bytes there; a failed one did nothing, or left any bytes in their place
abbrev pub Writes : {T : Type 0} → ℕ → List ℕ → Result T PortError → DiskState → DiskState → Type 0
Writes at new (Ok x) d e = e ≡ changed d (Over at (length new)) (overwritten d.bytes at new)
Writes at new (Err Failed) d e = (e ≡ d) ⊎ ((left : List ℕ) × Torn at (length new) d.bytes left × (e ≡ changed d (Over at (length new)) left))
Writes at new (Err OutOfMemory) d e = e ≡ d

-- a cut leaves so many bytes; a failed one did nothing, or the file now reads as cut or as before, with the cut pending
abbrev pub Cuts : {T : Type 0} → ℕ → Result T PortError → DiskState → DiskState → Type 0
Cuts len (Ok x) d e = e ≡ changed d (CutTo len) (take len d.bytes)
Cuts len (Err Failed) d e = (e ≡ d) ⊎ ((left : List ℕ) × ((left ≡ d.bytes) ⊎ (left ≡ take len d.bytes)) × (e ≡ changed d (CutTo len) left))
Cuts len (Err OutOfMemory) d e = e ≡ d

-- after a sync all changes are on the disk; a failed one changed nothing, or was made all the same
abbrev pub Syncs : {T : Type 0} → Result T PortError → DiskState → DiskState → Type 0
Syncs (Ok x) d e = e ≡ flushed d
Syncs (Err Failed) d e = (e ≡ d) ⊎ (e ≡ flushed d)
Syncs (Err OutOfMemory) d e = e ≡ d

-- a read appends the bytes from there on, as many as there are up to most; after an error nothing
abbrev pub Reads : ℕ → ℕ → List ℕ → List ℕ → Result ℕ PortError → DiskState → Type 0
Reads at most before after (Ok n) d = (n ≡ length (take most (drop at d.bytes))) × (after ≡ before ++ take most (drop at d.bytes))
Reads at most before after (Err e) d = after ≡ before

-- A disk that reports its state before a call reports it after the call, and the call led from the first to the
-- second. A disk that doesn't report it before doesn't report it after.
-- The same holds for several disks whose states are reported as one.
abbrev pub Tells : {S : Type 0} → (S → S → Type 0) → Option S → Option S → Type 0
Tells {S} step None after = after ≡ None
Tells {S} step (Some d) after = (e : S) × (after ≡ Some e) × step d e

-- a count of faults that can't rise any more
abbrev pub IsSpent : ℕ → Type 0
IsSpent faults = 18446744073709551615 ≤ faults
