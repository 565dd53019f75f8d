-- A window on the bytes of a disk: own.
use Rattle.std.specs.Prelude.{◌≡◌, ℕ, ◌-◌, List, take, drop, Option, Some}
use Rattle.disk_model.specs.Disk.{DiskState}

-- these bytes, which a window shows from a place on, are those of the disk
pub record IsWindow (at : ℕ) (bytes : List ℕ) (d : DiskState) : Type 0 where
  pub n : ℕ
  pub reads : bytes ≡ take n (drop at d.bytes)

-- from another place on it shows the five bytes of the disk, or as many as there are
abbrev pub ShowsFront : ℕ → List ℕ → ℕ → DiskState → Type 0
ShowsFront from bytes at d = take 5 (drop (at - from) bytes) ≡ take 5 (drop at d.bytes)

-- the window is right if the disk reports its state
abbrev pub IsShown : Option DiskState → ℕ → List ℕ → Type 0
IsShown told at bytes = (d : DiskState) → told ≡ Some d → IsWindow at bytes d
