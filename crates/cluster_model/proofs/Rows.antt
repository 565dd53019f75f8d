-- The worked scripts, as tests of the definitions: each closes by computing. Here the last host of a table has every
-- actor, and a member has one part.
use Rattle.std.specs.Prelude.{◌≡◌, ℕ, true, false, List, [], ◌∷◌, ◌++◌, Option, None, Some, Result, Ok, Err, codes}
use Rattle.std.specs.Fmt.{digits}
use Rattle.std.proofs.Common.{refl}
use Rattle.actor_names.specs.Names.{default_space}
use Rattle.actor_names.specs.declared.member.Member.{Member}
use Rattle.actor_names.specs.declared.actor_key.ActorKey.{ActorKey}
use Rattle.place_table.specs.declared.host.HostInfo.{HostInfo}
use Rattle.place_table.specs.declared.ack_stage.AckStage.TheVariants as stages
use Rattle.place_table.specs.Hosts.{PlacementTable}
use Rattle.part_model.specs.Marks.{TurnBegan, TurnEnded, BecameActive, PartOpened}
use Rattle.part_model.specs.Part.{new_part, made_chain}
use Rattle.round_core.specs.declared.event.PlaceReply.TheVariants as place
use Rattle.world_events.specs.declared.settings.WorldSettings.{WorldSettings}
use Rattle.world_events.specs.declared.event.WorldEvent.{WorldEvent}
use Rattle.world_events.specs.declared.event.WorldEvent.TheVariants.{At, Boot, Beat, Collect, Leave, To, Part, Call, End, Hold, Tick, Closing, Closed, Stop, Lost, PlacementTick, Restart}
use Rattle.world_events.specs.declared.outcome.Outcome.{Outcome}
use Rattle.world_events.specs.declared.outcome.Outcome.TheVariants.{Turn, Stopped, Booted, BeatAdded, AckAdded, NotStopped, Answered, Ignored, Locked, Updated, Opened, TickEnded, Dropped, Restarted}
use Rattle.world_events.specs.declared.outcome.Outcome.TheVariants as out
use Rattle.world_events.specs.declared.outcome.TurnOutcome.TheVariants as turn
use Rattle.world_events.specs.declared.error.WorldError.{WorldError}
use Rattle.world_events.specs.declared.error.WorldError.TheVariants as refused
use Rattle.cluster_model.specs.Asked.{asked_calls, chain_under}
use Rattle.cluster_model.specs.Counts.{begun_turns, open_turns}
use Rattle.cluster_model.specs.World.{ClusterState, opening_cluster, cluster_run, outcomes}

abbrev a : List ℕ
a = 97 ∷ []

abbrev b : List ℕ
b = 98 ∷ []

abbrev counter : List ℕ
counter = 99 ∷ []

abbrev c : List ℕ
c = 99 ∷ []

abbrev d : List ℕ
d = 100 ∷ []

abbrev member_of : List ℕ → ℕ → Member
member_of n i = record { space = default_space; node = n; boot = i }

abbrev a/1 : Member
a/1 = member_of a 1

abbrev b/2 : Member
b/2 = member_of b 2

abbrev key : ActorKey
key = record { space = default_space; kind = counter; id = 55 ∷ [] }

abbrev last_host : List HostInfo → Option HostInfo
last_host [] = None
last_host (h ∷ []) = Some h
last_host (h ∷ i ∷ hs) = last_host (i ∷ hs)

abbrev owner : PlacementTable → ActorKey → Option HostInfo
owner t k = last_host t.hosts

abbrev part_of : ActorKey → ℕ → ℕ
part_of k n = 0

abbrev settings : WorldSettings
settings = record { parts = 1; kinds = []; idle_ms = 3600000; drain_ms = 60000 }

-- the outcomes of events that aren't refused
abbrev done : List Outcome → List (Result Outcome WorldError)
done [] = []
done (o ∷ os) = Ok o ∷ done os

abbrev nothing : Outcome
nothing = Turn turn.NotThere

abbrev after : List WorldEvent → ClusterState
after es = cluster_run owner part_of (opening_cluster settings) es

abbrev opening : List WorldEvent
opening = To 1 ∷ Part 2 0 ∷ Collect a/1 ∷ To 3 ∷ Part 4 0 ∷ Collect a/1 ∷ To 5 ∷ Part 6 0 ∷ Collect a/1 ∷ To 7 ∷ []

one_member_goes_through_handshake : outcomes owner part_of (opening_cluster settings) (Boot default_space a (counter ∷ []) ∷ Call 1 a/1 key 0 None ∷ opening)
    ≡ done (Booted a/1 1 ∷ Turn (turn.Waits 1 1)
    ∷ Answered 2 (place.Lock 1) ∷ Locked 1 ∷ AckAdded 3 stages.Lock 1
    ∷ Answered 4 (place.Update 1) ∷ Updated 1 true ∷ AckAdded 5 stages.Update 1
    ∷ Answered 6 (place.Unlock 1) ∷ Opened 1 1 0 ∷ AckAdded 7 stages.Unlock 1 ∷ Answered 8 place.Idle ∷ [])
one_member_goes_through_handshake = refl

abbrev opened : ClusterState
opened = after (Boot default_space a (counter ∷ []) ∷ opening)

abbrev moving : List WorldEvent
moving =
    Call 1 a/1 key 0 None ∷ Boot default_space b (counter ∷ []) ∷ To 9 ∷ Part 10 0 ∷ Collect b/2 ∷ To 11 ∷ Beat a/1 ∷ To 13 ∷ Part 14 0
    ∷ Collect a/1 ∷ To 15 ∷ Part 16 0 ∷ []

actor_moves_after_drain : outcomes owner part_of opened (moving ++ (Collect a/1 ∷ To 17 ∷ End 1 ∷ Closing a/1 0
    ∷ Closed a/1 key ∷ Collect a/1 ∷ To 19 ∷ Call 2 b/2 key 0 None ∷ Beat b/2 ∷ To 21 ∷ Part 22 0 ∷ Collect b/2 ∷ To 23 ∷ Part 24 0 ∷ []))
    ≡ done (Turn (turn.Begun 1) ∷ Booted b/2 9 ∷ Answered 10 (place.Lock 2) ∷ Locked 2 ∷ AckAdded 11 stages.Lock 2
    ∷ Answered 12 place.Idle ∷ BeatAdded 13 ∷ Answered 14 (place.Lock 2) ∷ Locked 2 ∷ AckAdded 15 stages.Lock 2
    ∷ Answered 16 (place.Update 2) ∷ Updated 2 false ∷ AckAdded 17 stages.Lock 2 ∷ Answered 18 (place.Update 2)
    ∷ Turn (turn.Ended 1 None) ∷ out.Closing key ∷ out.Closed key None ∷ AckAdded 19 stages.Update 2
    ∷ Answered 20 place.Idle ∷ Turn (turn.Waits 2 1) ∷ BeatAdded 21 ∷ Answered 22 (place.Update 2) ∷ Updated 2 true
    ∷ AckAdded 23 stages.Update 2 ∷ Answered 24 (place.Unlock 2) ∷ Opened 2 1 0 ∷ [])
actor_moves_after_drain = refl

tick_ends_turn_after_drain_time : outcomes owner part_of (cluster_run owner part_of opened moving) (At 60000 ∷ Tick a/1 ∷ End 1 ∷ []) ≡ done (out.At 60000 ∷ TickEnded 1 ∷ Turn (turn.AlreadyEnded 1) ∷ [])
tick_ends_turn_after_drain_time = refl

restart_starts_next_round : outcomes owner part_of opened (Restart ∷ Beat a/1 ∷ To 9 ∷ Part 10 0 ∷ Part 6 0 ∷ [])
    ≡ done (Restarted (2 ∷ []) ∷ BeatAdded 9 ∷ Answered 10 (place.Lock 2) ∷ Locked 2 ∷ Ignored ∷ [])
restart_starts_next_round = refl

late_ack_only_beats : outcomes owner part_of (after (Boot default_space a (counter ∷ []) ∷ Call 1 a/1 key 0 None ∷ To 1 ∷ Part 2 0 ∷ Collect a/1 ∷ To 3 ∷ Part 4 0 ∷ Collect a/1 ∷ []))
    (Restart ∷ To 5 ∷ Part 6 0 ∷ []) ≡ done (Restarted (2 ∷ []) ∷ Answered 6 (place.Lock 2) ∷ Locked 2 ∷ [])
late_ack_only_beats = refl

stopped_member_boots_again : outcomes owner part_of opened
    (Stop a/1 0 ∷ Lost a/1 ∷ To 1 ∷ Boot default_space a (counter ∷ []) ∷ To 10 ∷ Boot default_space a (counter ∷ []) ∷ To 12 ∷ To 1 ∷ [])
    ≡ done (Stopped ∷ out.Lost a/1 ∷ Answered 9 (place.StaleBoot 1) ∷ Booted (member_of a 2) 10 ∷ Answered 11 (place.Lock 3)
    ∷ Booted (member_of a 3) 12 ∷ Answered 13 (place.NodeBusy 2) ∷ Answered 14 (place.StaleBoot 2) ∷ [])
stopped_member_boots_again = refl

lost_running_member_is_refused : outcomes owner part_of opened (Lost a/1 ∷ []) ≡ Err (refused.Dishonest a/1) ∷ []
lost_running_member_is_refused = refl

-- an event that names nothing that exists changes nothing
nothing_is_named : outcomes owner part_of opened (Beat b/2 ∷ To 2 ∷ Part 1 0 ∷ Part 2 1 ∷ Part 8 0 ∷ End 1 ∷ Leave a/1 ∷ PlacementTick ∷ [])
    ≡ done (nothing ∷ nothing ∷ nothing ∷ nothing ∷ Ignored ∷ nothing ∷ NotStopped ∷ Dropped 0 ∷ [])
nothing_is_named = refl

wrong_number_is_refused : outcomes owner part_of opened (Call 2 a/1 key 0 None ∷ []) ≡ Err (refused.WrongNumber 1) ∷ []
wrong_number_is_refused = refl

-- a part that has stopped says so to all but a tick and a collection
stopped_part_is_stopped : outcomes owner part_of opened (Stop a/1 0 ∷ Part 2 0 ∷ Stop a/1 0 ∷ Hold a/1 key ∷ Call 1 a/1 key 0 None ∷ Closing a/1 0 ∷ Tick a/1 ∷ Collect a/1 ∷ [])
    ≡ done (Stopped ∷ Stopped ∷ Stopped ∷ Stopped ∷ Stopped ∷ Stopped ∷ TickEnded 0 ∷ out.NoAck ∷ [])
stopped_part_is_stopped = refl

-- ---- which lines asked the calls

-- A call of a member that was never booted prints `none`, and its number is free for the next line; a refused call keeps
-- its number, and no turn comes of it.
calls_are_those_of_their_lines : asked_calls (Call 1 b/2 key 0 None ∷ Call 1 a/1 key 0 (Some c) ∷ Call 2 a/1 key 9 None ∷ Call 3 a/1 key 0 (Some d) ∷ [])
    (outcomes owner part_of opened (Call 1 b/2 key 0 None ∷ Call 1 a/1 key 0 (Some c) ∷ Call 2 a/1 key 9 None ∷ Call 3 a/1 key 0 (Some d) ∷ []))
    ≡ record { number = 1; member = a/1; key = key; chain = Some c } ∷ record { number = 3; member = a/1; key = key; chain = Some d } ∷ []
calls_are_those_of_their_lines = refl

-- with reentrancy off a call has no chain, even if its line names one
chain_is_ignored_without_reentrancy : (cluster_run owner part_of opened (Call 1 a/1 key 0 (Some c) ∷ [])).marks
    ≡ record { member = a/1; what = PartOpened 0 1 } ∷ record { member = a/1; what = BecameActive key 1 } ∷ record { member = a/1; what = TurnBegan key 1 None } ∷ []
chain_is_ignored_without_reentrancy = refl

-- with reentrancy on, the chain of a turn is the one that its line names, else `<node>.<boot>.<part>.<number>`
abbrev reentrant : WorldSettings
reentrant = record { parts = 1; kinds = record { kind = counter; idle_ms = 3600000; drain_ms = 60000; depth = 2 } ∷ []; idle_ms = 3600000; drain_ms = 60000 }

abbrev reentrant_opened : ClusterState
reentrant_opened = cluster_run owner part_of (opening_cluster reentrant) (Boot default_space a (counter ∷ []) ∷ opening)

chain_is_that_of_its_line : (cluster_run owner part_of reentrant_opened (Call 1 a/1 key 0 (Some c) ∷ Call 2 a/1 key 0 None ∷ End 1 ∷ [])).marks
    ≡ record { member = a/1; what = PartOpened 0 1 } ∷ record { member = a/1; what = BecameActive key 1 } ∷ record { member = a/1; what = TurnBegan key 1 (Some c) }
    ∷ record { member = a/1; what = TurnEnded key 1 } ∷ record { member = a/1; what = TurnBegan key 2 (Some (made_chain a/1 0 2)) } ∷ []
chain_is_that_of_its_line = refl

made_chain_is_text : made_chain a/1 0 2 ≡ codes "a.1.0.2"
unfolding digits
made_chain_is_text = refl

-- the mark names the part's number of the call; the script's number leads to it, and so to the line
call_stands_where_it_was_asked : (cluster_run owner part_of reentrant_opened (Call 1 a/1 key 9 None ∷ Call 2 a/1 key 0 (Some c) ∷ [])).calls ≡ None ∷ Some (record { place = 0; call = 1 }) ∷ []
call_stands_where_it_was_asked = refl

line_is_that_of_its_number : asked_calls (Call 1 a/1 key 9 None ∷ Call 2 a/1 key 0 (Some c) ∷ []) (outcomes owner part_of reentrant_opened (Call 1 a/1 key 9 None ∷ Call 2 a/1 key 0 (Some c) ∷ []))
    ≡ record { number = 2; member = a/1; key = key; chain = Some c } ∷ []
line_is_that_of_its_number = refl

-- the chain under which a line makes its call: none with reentrancy off, the one named, else the part's own
chain_is_none_without_reentrancy : chain_under (new_part a/1 0 []) key 2 (Some c) ≡ None
chain_is_none_without_reentrancy = refl

chain_is_the_named_one : chain_under (new_part a/1 0 (record { kind = counter; idle_ms = 0; drain_ms = 0; depth = 2 } ∷ [])) key 2 (Some c) ≡ Some c
chain_is_the_named_one = refl

chain_is_the_parts_own : chain_under (new_part a/1 0 (record { kind = counter; idle_ms = 0; drain_ms = 0; depth = 2 } ∷ [])) key 2 None ≡ Some (made_chain a/1 0 2)
chain_is_the_parts_own = refl

-- ---- counts

turns_are_counted : begun_turns (cluster_run owner part_of reentrant_opened (Call 1 a/1 key 0 (Some c) ∷ Call 2 a/1 key 0 (Some c) ∷ End 1 ∷ [])).marks ≡ 2
turns_are_counted = refl

open_turns_are_counted : open_turns (cluster_run owner part_of reentrant_opened (Call 1 a/1 key 0 (Some c) ∷ Call 2 a/1 key 0 (Some c) ∷ End 1 ∷ [])).marks ≡ 1
open_turns_are_counted = refl
