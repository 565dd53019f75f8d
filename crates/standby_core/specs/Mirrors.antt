-- A disk whose calls are also made at the other end of a link. Own.
use Rattle.std.specs.Prelude.{◌≡◌, ◌⊎◌, ℕ, List, [], ◌∷◌, Option, Result, Ok, Err}
use Rattle.actor_ports.specs.declared.port.PortError.{PortError}
use Rattle.actor_ports.specs.declared.port.PortError.TheVariants.{Failed, OutOfMemory}
use Rattle.actor_ports.specs.Traffic.{Traffic}
use Rattle.frame_wire.specs.declared.mirror.MirrorCommand.{MirrorCommand}
use Rattle.standby_core.specs.Replicas.{ArePieces}
use Rattle.standby_core.specs.Telling.{AsksAll}

-- a mirror: the disk, the link, and how many answers on it couldn't be read or told a fault
pub record MirrorState (D L : Type 0) : Type 0 where
  pub disk : D
  pub link : L
  pub unheard : ℕ

-- these calls and no others
abbrev pub IsOnly : MirrorCommand → List MirrorCommand → Type 0
IsOnly call calls = calls ≡ call ∷ []

-- the pieces of a write; the first of them
abbrev pub IsWrite : ℕ → List ℕ → List MirrorCommand → Type 0
IsWrite at bytes calls = ArePieces at bytes calls []

abbrev pub BeginsWrite : ℕ → List ℕ → List MirrorCommand → Type 0
BeginsWrite at bytes calls = (rest : List ℕ) × ArePieces at bytes calls rest

-- nothing went over the link, and nothing was counted there
abbrev pub IsUntold : Option Traffic → Option Traffic → ℕ → ℕ → Type 0
IsUntold t0 t1 u0 u1 = (t1 ≡ t0) × (u1 ≡ u0)

-- A call of the disk was done, and then it was sent and answered; or it was done and then lost on the way; or it failed,
-- and was never sent. `DoneAs` says what the disk answered to it.
abbrev pub Copies : (Result (Unit {0}) PortError → Type 0) → (List MirrorCommand → Type 0) → (List MirrorCommand → Type 0) → Option Traffic → Option Traffic → ℕ → ℕ → Result (Unit {0}) PortError → Type 0
Copies DoneAs Whole Front t0 t1 u0 u1 (Ok x) = DoneAs (Ok tt) × AsksAll Whole Front t0 t1 u0 u1 (Ok x)
Copies DoneAs Whole Front t0 t1 u0 u1 (Err Failed) =
    (DoneAs (Err Failed) × IsUntold t0 t1 u0 u1) ⊎ (DoneAs (Ok tt) × AsksAll Whole Front t0 t1 u0 u1 (Err Failed))
Copies DoneAs Whole Front t0 t1 u0 u1 (Err OutOfMemory) = DoneAs (Err OutOfMemory) × IsUntold t0 t1 u0 u1
