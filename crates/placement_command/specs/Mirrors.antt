-- A run of the placement with a standby: what it dials, and why it may end for a fault. Own.
use Rattle.std.specs.Prelude.{◌≡◌, ◌⊎◌, ◌<◌, ℕ, Option, Some, None, Ok, Err}
use Rattle.actor_names.specs.declared.address.Address.{Address}
use Rattle.actor_ports.specs.declared.port.PortError.{PortError}
use Rattle.actor_ports.specs.Traffic.{Place, Traffic, Dialled, Dials, TakesBack}
use Rattle.standby_core.specs.Telling.{WasLost}
use Rattle.placement_command.specs.declared.command.PlacementEnd.{PlacementEnd}
use Rattle.placement_command.specs.declared.command.PlacementEnd.TheVariants as ends

-- `traffic` is what went over a link
module _ {L : Type 0} (traffic : L → Option Traffic) where
  -- a link was given back; or it was lost, for want of memory
  abbrev pub GivesLink : Option Dialled → Option Dialled → PlacementEnd → Type 0
  GivesLink before after end = ((link : L) × TakesBack before after (traffic link)) ⊎ ((after ≡ before) × (end ≡ ends.OutOfMemory))

  -- What the dialler was made to do, if it was made to do anything: to dial the standby's place, once, which failed; or to
  -- give a link that leads there, and to take it back.
  abbrev pub DialsStandby : Place → Option Dialled → Option Dialled → PlacementEnd → Type 0
  DialsStandby at before after end =
      (after ≡ before)
      ⊎ (((e : PortError) × Dials {L = L} traffic before after at (Err e))
      ⊎ ((link : L) × (mid : Option Dialled) × Dials traffic before mid at (Ok link) × GivesLink mid after end))

  -- why a mirror has failed: the disk's count rose, or that of the dialler by its link, or a call was lost on the link
  abbrev pub MirrorCause : ℕ → ℕ → ℕ → ℕ → Type 0
  MirrorCause open0 open1 dial0 dial1 = (open0 < open1) ⊎ ((dial0 < dial1) ⊎ WasLost traffic)

-- why a run may end for a fault of its disk
abbrev pub DiskCause : Option Address → {L : Type 0} → (L → Option Traffic) → ℕ → ℕ → ℕ → ℕ → Type 0
DiskCause None traffic open0 open1 dial0 dial1 = open0 < open1
DiskCause (Some standby) traffic open0 open1 dial0 dial1 = MirrorCause traffic open0 open1 dial0 dial1

-- the same of a port: a standby that wasn't reached is one
abbrev pub PortCause : Option Address → ℕ → ℕ → ℕ → ℕ → Type 0
PortCause None bind0 bind1 dial0 dial1 = bind0 < bind1
PortCause (Some standby) bind0 bind1 dial0 dial1 = (bind0 < bind1) ⊎ (dial0 < dial1)
