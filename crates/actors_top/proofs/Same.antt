-- A call that did nothing.
use Rattle.std.proofs.Common.{◌≡◌, ◌∙◌, ◌⊎◌, ◌<◌, inl, inr, ap, ℕ, true, List, [], ◌++◌, Option, Some, None, is_some, IfSome, refl, sym, subst}
use Rattle.std.proofs.lemmas.List.{append-nil}
use Rattle.actor_names.specs.declared.address.Address.{Address}
use Rattle.actor_ports.specs.Traffic.{Place, Traffic, Dialled}
use Rattle.server_ports.specs.Hosts.{Asked, nothing_handed, place_of}
use Rattle.server_ports.proofs.Handed.{hands_nothing}
use Rattle.command_words.specs.Reading.{Hosting, Placing, Standing, Said, Placement}
use Rattle.placement_command.specs.declared.command.PlacementEnd.{PlacementEnd}
use Rattle.placement_command.specs.declared.command.PlacementEnd.TheVariants as places
use Rattle.placement_command.specs.Mirrors.{DialsStandby, DiskCause, MirrorCause, PortCause}
use Rattle.store_command.specs.declared.command.StoreEnd.TheVariants as stores
use Rattle.standby_command.specs.declared.command.StandbyEnd.TheVariants as standbys
use Rattle.standby_command.specs.Commands.{AsksOnly as AsksStandby}
use Rattle.actors_top.specs.Ran.{HostTold, RanPlacement, RanStandby, RanStore, is_mirrored}
use Rattle.placement_command.specs.Commands.{AsksOnly}
use Rattle.store_command.specs.Commands.{AsksOnly as AsksStore}
use Rattle.sidecar_command.specs.Commands.{AsksPorts, DialsOnly}
use Rattle.plain_commands.specs.Schedule.{WritesNothing}

pub nothing_written : (held : Option (List ℕ)) → WritesNothing held held
nothing_written None = tt
nothing_written (Some held) = refl

nothing_asked_for : (path : List ℕ) (at : Place) (state : Option Address) (asked : Option Asked) → AsksOnly path at state asked asked
nothing_asked_for path at state None = tt
nothing_asked_for path at state (Some a) = inl refl

no_store_asked : (path : List ℕ) (at : Place) (asked : Option Asked) → AsksStore path at asked asked
no_store_asked path at None = tt
no_store_asked path at (Some a) = inl refl

no_standby_asked : (path : List ℕ) (at : Place) (asked : Option Asked) → AsksStandby path at asked asked
no_standby_asked path at None = tt
no_standby_asked path at (Some a) = inl refl

pub no_ports_asked : (callers peers : Place) (asked : Option Asked) → AsksPorts callers peers asked asked
no_ports_asked callers peers None = tt
no_ports_asked callers peers (Some a) = inl refl

pub nothing_dialled : (store app : Place) (dialled : Option Dialled) → DialsOnly store app dialled dialled
nothing_dialled store app None = tt
nothing_dialled store app (Some d) = ([], [], tt, same d)
  where
    same : (d : Dialled) → Some d ≡ Some (record { places = d.places ++ []; links = d.links ++ [] })
    same d = rw (append-nil d.places, append-nil d.links) refl

-- an end by want of memory isn't a server that is done
placement_not_done : {P : Type 0} → places.OutOfMemory ≡ places.Done → P
placement_not_done is = cc

store_not_done : {P : Type 0} → stores.OutOfMemory ≡ stores.Done → P
store_not_done is = cc

standby_not_done : {P : Type 0} → standbys.OutOfMemory ≡ standbys.Done → P
standby_not_done is = cc

pub no_placement : (p : Placing) (now : ℕ) (h : HostTold) → RanPlacement p now places.OutOfMemory h h
no_placement p now h = record {
  asks = nothing_asked_for p.server.journal (place_of p.server.listen) p.http h.asked;
  given = nothing_handed;
  hands = hands_nothing h.handed h.handed refl;
  ran = inl (refl, inr refl);
  limit = placement_not_done;
  bound = placement_not_done;
  sound = placement_not_done;
}

pub no_store : (p : Hosting) (h : HostTold) → RanStore p stores.OutOfMemory h h
no_store p h = record {
  asks = no_store_asked p.journal (place_of p.listen) h.asked;
  given = nothing_handed;
  hands = hands_nothing h.handed h.handed refl;
  ran = inl (refl, inr refl);
  limit = store_not_done;
  bound = store_not_done;
  sound = store_not_done;
}

pub no_standby : (s : Standing) (h : HostTold) → RanStandby s standbys.OutOfMemory h h
no_standby s h = record {
  asks = no_standby_asked s.journal (place_of s.listen) h.asked;
  given = nothing_handed;
  hands = hands_nothing h.handed h.handed refl;
  ran = inl (refl, inr refl);
  limit = standby_not_done;
  bound = standby_not_done;
  sound = standby_not_done;
}

-- ---- a placement with a standby, or none

-- the standby wasn't dialled
pub none_dialled : {L : Type 0} (traffic : L → Option Traffic) (standby : Option Address) (dialled : Option Dialled) (end : PlacementEnd) → IfSome standby (λ at. DialsStandby traffic (place_of at) dialled dialled end)
none_dialled traffic None dialled end = tt
none_dialled traffic (Some at) dialled end = inl refl

-- why it may end for a fault of its disk, or of a port
pub disk_by : {L : Type 0} (traffic : L → Option Traffic) (standby : Option Address) (open0 open1 dial0 dial1 : ℕ) → DiskCause standby traffic open0 open1 dial0 dial1
    → (open0 < open1) ⊎ ((is_some standby ≡ true) × MirrorCause traffic open0 open1 dial0 dial1)
disk_by traffic None open0 open1 dial0 dial1 cause = inl cause
disk_by traffic (Some at) open0 open1 dial0 dial1 cause = inr (refl, cause)

pub port_by : (standby : Option Address) (bind0 bind1 dial0 dial1 : ℕ) → PortCause standby bind0 bind1 dial0 dial1 → (bind0 < bind1) ⊎ (dial0 < dial1)
port_by None bind0 bind1 dial0 dial1 cause = inl cause
port_by (Some at) bind0 bind1 dial0 dial1 cause = cause

-- a placement with a standby is what the words say
pub disk_said : {L : Type 0} (traffic : L → Option Traffic) (said : Option Said) (p : Placing) (open0 open1 dial0 dial1 : ℕ) → said ≡ Some (Placement p)
    → (open0 < open1) ⊎ ((is_some p.standby ≡ true) × MirrorCause traffic open0 open1 dial0 dial1)
    → (open0 < open1) ⊎ ((is_mirrored said ≡ true) × MirrorCause traffic open0 open1 dial0 dial1)
disk_said traffic said p open0 open1 dial0 dial1 is (inl disk) = inl disk
disk_said traffic said p open0 open1 dial0 dial1 is (inr mirror) = inr (ap (λ (s : Option Said). is_mirrored s) is ∙ mirror.0, mirror.1)
