-- A worked script: the numbers that its lines print of turns that begin, and the turns that begin in its marks. Here the
-- last host of a table has every actor, a member has one part, and an actor is idle at once.
use Rattle.std.proofs.Common.{◌≡◌, ℕ, List, [], ◌∷◌, ◌++◌, Option, None, Some, refl}
use Rattle.std.specs.Prelude.{Result}
use Rattle.actor_names.specs.Names.{default_space}
use Rattle.actor_names.specs.declared.member.Member.{Member}
use Rattle.actor_names.specs.declared.actor_key.ActorKey.{ActorKey}
use Rattle.place_table.specs.declared.host.HostInfo.{HostInfo}
use Rattle.place_table.specs.Hosts.{PlacementTable}
use Rattle.world_events.specs.declared.settings.WorldSettings.{WorldSettings}
use Rattle.world_events.specs.declared.event.WorldEvent.{WorldEvent}
use Rattle.world_events.specs.declared.event.WorldEvent.TheVariants.{Boot, Collect, To, Part, Call, Poll, End, Closing, Closed}
use Rattle.world_events.specs.declared.outcome.Outcome.{Outcome}
use Rattle.world_events.specs.declared.error.WorldError.{WorldError}
use Rattle.cluster_model.specs.World.{opening_cluster, cluster_run, outcomes}
use Rattle.plain_commands.specs.Begins.{BegunTurn, begun_in, line_begins}

abbrev node : List ℕ
node = 97 ∷ []

abbrev counter : List ℕ
counter = 99 ∷ []

abbrev member : Member
member = record { space = default_space; node = node; boot = 1 }

abbrev actor : List ℕ → ActorKey
actor id = record { space = default_space; kind = counter; id = id }

abbrev first : ActorKey
first = actor (55 ∷ [])

abbrev second : ActorKey
second = actor (56 ∷ [])

abbrev last_host : List HostInfo → Option HostInfo
last_host [] = None
last_host (h ∷ []) = Some h
last_host (h ∷ i ∷ hs) = last_host (i ∷ hs)

abbrev owner : PlacementTable → ActorKey → Option HostInfo
owner t k = last_host t.hosts

abbrev part_of : ActorKey → ℕ → ℕ
part_of k n = 0

abbrev settings : WorldSettings
settings = record { parts = 1; kinds = []; idle_ms = 0; drain_ms = 0 }

-- Call 1 waits until the part opens, and call 3 until call 1 ends. Call 2 is refused, so the part numbers call 3 as its
-- second. Call 4 waits until the actor's deactivation is over. Call 5 is of another actor, and begins at once. The polls
-- find call 1 open, then over.
abbrev events : List WorldEvent
events =
    Boot default_space node (counter ∷ []) ∷ Call 1 member first 0 None ∷ To 1 ∷ Part 2 0 ∷ Collect member ∷ To 3 ∷ Part 4 0 ∷ Collect member ∷ To 5
    ∷ Part 6 0 ∷ Call 2 member first 9 None ∷ Call 3 member first 0 None ∷ Poll 1 ∷ End 1 ∷ Poll 1 ∷ End 3 ∷ Closing member 0 ∷ Call 4 member first 0 None
    ∷ Closed member first ∷ Call 5 member second 0 None ∷ []

abbrev lines_begin : List WorldEvent → List (Result Outcome WorldError) → List ℕ
lines_begin [] printed = []
lines_begin (e ∷ es) [] = []
lines_begin (e ∷ es) (o ∷ printed) = line_begins e o ++ lines_begin es printed

abbrev begun : ActorKey → ℕ → BegunTurn
begun key call = record { member = member; key = key; call = call; chain = None }

-- the line of the part that opens prints how many begin, one here, and no number
row_lines : lines_begin events (outcomes owner part_of (opening_cluster settings) events) ≡ 3 ∷ 4 ∷ 5 ∷ []
row_lines = refl

row_marks : begun_in (cluster_run owner part_of (opening_cluster settings) events).marks ≡ begun first 1 ∷ begun first 2 ∷ begun first 3 ∷ begun second 4 ∷ []
row_marks = refl
