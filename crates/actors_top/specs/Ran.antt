-- What a server did to its host, by the words and by how it ended. Own.
use Rattle.std.specs.Prelude.{◌≡◌, ℕ, Bool, false, Option, Some, is_some, IsSome}
use Rattle.command_words.specs.Reading.{Hosting, Placing, Standing, Said, Placement}
use Rattle.server_ports.specs.Hosts.{Asked, Handed, Hands, place_of}
use Rattle.placement_command.specs.declared.command.PlacementEnd.{PlacementEnd}
use Rattle.placement_command.specs.declared.command.PlacementEnd.TheVariants as places
use Rattle.placement_command.specs.Commands.{AsksOnly, AsksAll}
use Rattle.placement_command.specs.Runs.{RunsPlacement}
use Rattle.store_command.specs.declared.command.StoreEnd.{StoreEnd}
use Rattle.store_command.specs.declared.command.StoreEnd.TheVariants as stores
use Rattle.store_command.specs.Commands.{AsksOnly as AsksStore, AsksAll as AsksStoreAll}
use Rattle.store_command.specs.Runs.{RunsStore}
use Rattle.standby_command.specs.declared.command.StandbyEnd.{StandbyEnd}
use Rattle.standby_command.specs.declared.command.StandbyEnd.TheVariants as standbys
use Rattle.standby_command.specs.Commands.{AsksOnly as AsksStandby, AsksAll as AsksStandbyAll}
use Rattle.standby_command.specs.Runs.{RunsStandby}

-- What a host knows: what it was asked for and its disks, if it tells that, and its counts of faults.
pub record HostTold : Type 0 where
  pub asked : Option Asked
  pub handed : Option Handed
  pub open_faults : ℕ
  pub bind_faults : ℕ

-- that, by the members of a host
abbrev pub told_by : {S : Type 0} → (S → Option Asked) → (S → Option Handed) → (S → ℕ) → (S → ℕ) → S → HostTold
told_by asked handed open_faults bind_faults host = record { asked = asked host; handed = handed host; open_faults = open_faults host; bind_faults = bind_faults host }

-- no disk and no port has failed
abbrev pub NoneFailed : HostTold → HostTold → Type 0
NoneFailed old new = (new.open_faults ≡ old.open_faults) × (new.bind_faults ≡ old.bind_faults)

-- The store of these words. Nothing was asked for but its paths and its address. What it did to its disks is told by
-- `ran`: which were opened, and with which word; why the opening was refused, at the very offset that is printed; or one
-- legal history of the store's steps, after which the disks were given back, and whatever a crash leaves at any moment
-- of a step opens with the contents after the acknowledged commands, perhaps with the one under way (`KeepsAll`). It is
-- done only if a number of connections was named, the port was bound, and no disk and no port has failed.
pub record RanStore (p : Hosting) (end : StoreEnd) (old new : HostTold) : Type 0 where
  pub asks : AsksStore p.journal (place_of p.listen) old.asked new.asked
  pub given : Handed
  pub hands : Hands old.handed given new.handed
  pub ran : RunsStore p.journal p.is_new end given
  pub limit : end ≡ stores.Done → IsSome p.sessions
  pub bound : end ≡ stores.Done → AsksStoreAll p.journal (place_of p.listen) old.asked new.asked
  pub sound : end ≡ stores.Done → NoneFailed old new

-- The placement of these words, opened at the moment that the clock showed: the same of its one disk and of its ports. Its
-- one legal history is that of the node's steps; if the file held the records of a run, whatever a crash leaves at any
-- moment of a step has the records of the run before the step, or with it. With a standby that wasn't reached, or didn't get
-- the bytes of the disk, that was given back as it was.
pub record RanPlacement (p : Placing) (now : ℕ) (end : PlacementEnd) (old new : HostTold) : Type 0 where
  pub asks : AsksOnly p.server.journal (place_of p.server.listen) p.http old.asked new.asked
  pub given : Handed
  pub hands : Hands old.handed given new.handed
  pub ran : RunsPlacement p.standby p.server.journal p.server.is_new now end given
  pub limit : end ≡ places.Done → IsSome p.server.sessions
  pub bound : end ≡ places.Done → AsksAll p.server.journal (place_of p.server.listen) p.http old.asked new.asked
  pub sound : end ≡ places.Done → NoneFailed old new

-- The standby of these words: the same of its one disk, on which its sessions were served, one after the other.
pub record RanStandby (s : Standing) (end : StandbyEnd) (old new : HostTold) : Type 0 where
  pub asks : AsksStandby s.journal (place_of s.listen) old.asked new.asked
  pub given : Handed
  pub hands : Hands old.handed given new.handed
  pub ran : RunsStandby s.journal s.sessions end given
  pub limit : end ≡ standbys.Done → IsSome s.sessions
  pub bound : end ≡ standbys.Done → AsksStandbyAll s.journal (place_of s.listen) old.asked new.asked
  pub sound : end ≡ standbys.Done → NoneFailed old new

-- the words are those of a placement with a standby
abbrev pub is_mirrored : Option Said → Bool
is_mirrored (Some (Placement p)) = is_some p.standby
is_mirrored said = false
