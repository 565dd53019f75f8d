-- Worked examples of holds. One host owns every actor here.
use Rattle.std.proofs.Common.{◌≡◌, ℕ, List, [], ◌∷◌, Option, None, Some, refl}
use Rattle.std.specs.Prelude.{option_map}
use Rattle.actor_names.specs.declared.actor_key.ActorKey.{ActorKey}
use Rattle.actor_names.specs.Names.{default_space}
use Rattle.actor_names.specs.declared.member.Member.{Member}
use Rattle.place_table.specs.declared.host.HostInfo.{HostInfo}
use Rattle.place_table.specs.Hosts.{PlacementTable}
use Rattle.part_model.specs.declared.actor_cell.ActorCell.{ActorCell}
use Rattle.part_model.specs.declared.event.PartEvent.{PartEvent}
use Rattle.part_model.specs.declared.event.PartEvent.TheVariants as events
use Rattle.part_model.specs.Cells.{cell_at}
use Rattle.part_model.specs.Part.{PartState, new_part}
use Rattle.part_model.specs.PartRuns.{part_after}
use Rattle.epoch_law.specs.Epochs.{releases, holds_added}

abbrev member : Member
member = record { space = default_space; node = 97 ∷ []; boot = 1 }

abbrev key : ActorKey
key = record { space = default_space; kind = 99 ∷ []; id = 55 ∷ [] }

abbrev other : ActorKey
other = record { space = default_space; kind = 99 ∷ []; id = 56 ∷ [] }

abbrev host : HostInfo
host = record { member = member; app = 120 ∷ []; address = record { ip = 1; port = 1 }; kinds = (99 ∷ []) ∷ [] }

abbrev owner : PlacementTable → ActorKey → Option HostInfo
owner table k = Some host

abbrev table : PlacementTable
table = record { space = default_space; version = 1; hosts = host ∷ [] }

-- an open part in which the actor was called and held, and the call has ended
abbrev held : PartState
held =
    part_after owner (new_part member 3 []) (
    events.Lock 1 ∷ events.Update table 7 ∷ events.Unlock 1 ∷ events.Ask key None 5 ∷ events.Hold key ∷ events.End 1 9 ∷ []
    )

-- how many holds of the actor are open after these events, if it has a cell
abbrev count : List PartEvent → Option ℕ
count es = option_map (λ (c : ActorCell). c.inner.holds) (cell_at (part_after owner held es).cells key)

-- what deactivates an actor whose idle time is over
abbrev idles : List PartEvent
idles = events.TakeClosing 9999999 ∷ events.Closed key ∷ []

is_held_once : count [] ≡ Some 1
is_held_once = refl

stays_while_held : count idles ≡ Some 1
stays_while_held = refl

goes_after_last_release : count (events.Release key 10 ∷ idles) ≡ None
goes_after_last_release = refl

-- another caller holds the actor and releases it
stays_beside : count (events.Hold key ∷ events.Release key 10 ∷ idles) ≡ Some 1
stays_beside = refl

counts_own_releases : releases key (events.Release key 9 ∷ events.Release other 9 ∷ events.Hold key ∷ events.Release key 10 ∷ []) ≡ 2
counts_own_releases = refl

counts_own_holds : holds_added owner held key (events.Hold key ∷ events.Hold other ∷ events.Hold key ∷ []) ≡ 2
counts_own_holds = refl

-- the other actor isn't active, so it can't be held
counts_no_refused_hold : holds_added owner held other (events.Hold other ∷ []) ≡ 0
counts_no_refused_hold = refl
