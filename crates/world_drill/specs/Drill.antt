-- A drill: events of a cluster that a generator picks, and what their run counts. Own: docs/cluster.md has the table.
use Rattle.std.specs.Prelude.{◌≡◌, ℕ, zero, suc, ◌+◌, ◌-◌, ◌*◌, ◌/◌, ◌%◌, ◌^◌, ◌==◌, Bool, true, false, nat_lt, min, if◌then◌else◌, List, [], ◌∷◌, ◌++◌, length, slice_get, codes, decimal, Option, None, Some, Result, Ok, Err}
use Rattle.std.specs.List.{list_any}
use Rattle.actor_names.specs.declared.member.Member.{Member}
use Rattle.part_model.specs.Part.{ring_owner}
use Rattle.actor_names.specs.Names.{default_space}
use Rattle.round_core.specs.Room.{last_version}
use Rattle.placement_core.specs.Placement.{room_of}
use Rattle.world_events.specs.declared.event.WorldEvent.{WorldEvent}
use Rattle.world_events.specs.declared.event.WorldEvent.TheVariants as lines
use Rattle.world_events.specs.declared.settings.WorldSettings.{WorldSettings}
use Rattle.world_events.specs.declared.outcome.Outcome.{Outcome}
use Rattle.world_events.specs.declared.outcome.Outcome.TheVariants as out
use Rattle.world_events.specs.declared.error.WorldError.{WorldError}
use Rattle.world_events.specs.declared.error.WorldError.TheVariants.{Dishonest}
use Rattle.cluster_model.specs.World.{ClusterState, opening_cluster, key_part, cluster_step, cluster_run, outcomes}
use Rattle.cluster_model.specs.Counts.{begun_turns, open_turns}
use Rattle.cluster_parts.specs.Views.{member_in}
use Rattle.world_run.specs.Looks.{asks_at}
use Rattle.world_drill.specs.declared.counts.DrillCounts.{DrillCounts}

-- ---- the generator

-- the generator after a draw
abbrev pub next_seed : ℕ → ℕ
next_seed x = (x * 6364136223846793005 + 1442695040888963407) % 2 ^ 64

-- what a draw gives, by the generator after it
abbrev pub draw_of : ℕ → ℕ
draw_of x = x / 2 ^ 33

-- ---- the world

abbrev pub counter : List ℕ
counter = codes "counter"

-- a member has two parts, and three turns of one chain may be open at once
abbrev pub drill_settings : WorldSettings
drill_settings = record { parts = 2; kinds = record { kind = counter; idle_ms = 3600000; drain_ms = 60000; depth = 3 } ∷ []; idle_ms = 3600000; drain_ms = 60000 }

-- ---- what is picked

-- the member of this number, counted from 0 in order of boot; the number wraps around after the last one
abbrev pub member_numbered : ClusterState → ℕ → Option Member
member_numbered w n = if w.boots == 0 then None else member_in (slice_get w.parts (n % w.boots * w.settings.parts))

abbrev pub events_of : Option Member → (Member → List WorldEvent) → List WorldEvent
events_of None events = []
events_of (Some m) events = events m

abbrev pub at_member : ClusterState → ℕ → (Member → List WorldEvent) → List WorldEvent
at_member w n events = events_of (member_numbered w n) events

-- the call of this number, counted from 0 in the order made; the number wraps around after the last one
abbrev pub call_numbered : ClusterState → ℕ → Option ℕ
call_numbered w n = if length w.calls == 0 then None else Some (1 + n % length w.calls)

abbrev pub event_of : Option ℕ → (ℕ → WorldEvent) → List WorldEvent
event_of None event = []
event_of (Some call) event = event call ∷ []

abbrev pub at_call : ClusterState → ℕ → (ℕ → WorldEvent) → List WorldEvent
at_call w n event = event_of (call_numbered w n) event

-- a request is delivered to the placement, an answer to a part
abbrev pub delivered : ℕ → ℕ → Option Bool → List WorldEvent
delivered k part None = []
delivered k part (Some true) = lines.To k ∷ []
delivered k part (Some false) = lines.Part k part ∷ []

-- one of the last eight messages
abbrev pub delivery : ClusterState → ℕ → ℕ → List WorldEvent
delivery w a b =
    if length w.messages == 0 then [] else
    (let k = length w.messages - a % min (length w.messages) 8 in delivered k (b % 2) (asks_at w.messages k))

abbrev pub boot_of : ClusterState → ℕ → List WorldEvent
boot_of w a = if nat_lt w.boots 64 then lines.Boot default_space (codes "n" ++ decimal (a % 4)) (counter ∷ []) ∷ [] else []

-- both parts stop, and the member is lost
abbrev pub loss_of : Member → List WorldEvent
loss_of m = lines.Stop m 0 ∷ lines.Stop m 1 ∷ lines.Lost m ∷ []

abbrev pub call_of : ClusterState → ℕ → Member → List WorldEvent
call_of w b m = lines.Call (suc (length w.calls)) m (record { space = default_space; kind = counter; id = codes "k" ++ decimal (b % 8) }) 0 (Some (codes "c" ++ decimal (b / 8 % 4))) ∷ []

-- a deactivation that began is ended
abbrev pub closed_after : Member → Result Outcome WorldError → List WorldEvent
closed_after m (Ok (out.Closing key)) = lines.Closed m key ∷ []
closed_after m outcome = []

abbrev pub closing_of : ClusterState → ℕ → Member → List WorldEvent
closing_of w part m = lines.Closing m part ∷ closed_after m (cluster_step ring_owner key_part w (lines.Closing m part)).outcome

-- what a step does, by three draws, the first modulo 16
abbrev pub picked : ClusterState → ℕ → ℕ → ℕ → List WorldEvent
picked w r a b =
    if r == 0 then boot_of w a else (
    if r == 1 then at_member w b (λ m. if a % 8 == 0 then loss_of m else lines.Collect m ∷ []) else (
    if r == 2 then (if a % 16 == 0 then lines.Restart ∷ [] else at_member w b (λ m. lines.Beat m ∷ [])) else (
    if nat_lt r 5 then at_member w a (λ m. lines.Beat m ∷ []) else (
    if nat_lt r 7 then at_member w a (λ m. lines.Collect m ∷ []) else (
    if nat_lt r 11 then delivery w a b else (
    if nat_lt r 13 then at_member w a (call_of w b) else (
    if r == 13 then at_call w a (λ n. lines.End n) else (
    if r == 14 then at_member w a (closing_of w (b % 2)) else
    at_call w a (λ n. lines.Poll n)))))))))

-- ---- the drill

-- three draws a step
abbrev pub first_of : ℕ → ℕ
first_of x = next_seed x

abbrev pub second_of : ℕ → ℕ
second_of x = next_seed (next_seed x)

abbrev pub third_of : ℕ → ℕ
third_of x = next_seed (next_seed (next_seed x))

abbrev pub step_events : ClusterState → ℕ → List WorldEvent
step_events w x = picked w (draw_of (first_of x) % 16) (draw_of (second_of x)) (draw_of (third_of x))

-- the events of the given number of steps, from this world and generator on
abbrev pub events_from : ℕ → ℕ → ClusterState → List WorldEvent
events_from zero x w = []
events_from (suc n) x w = step_events w x ++ events_from n (third_of x) (cluster_run ring_owner key_part w (step_events w x))

abbrev pub drill_events : ℕ → ℕ → List WorldEvent
drill_events seed steps = events_from steps seed (opening_cluster drill_settings)

-- the cluster after the drill
abbrev pub drill_world : ℕ → ℕ → ClusterState
drill_world seed steps = cluster_run ring_owner key_part (opening_cluster drill_settings) (drill_events seed steps)

-- what is counted of it, from its messages and marks
abbrev pub counts_of : ℕ → ClusterState → DrillCounts
counts_of steps w =
    record { steps = steps; boots = w.boots; messages = length w.messages; begun = begun_turns w.marks; open_turns = open_turns w.marks; version = last_version (room_of w.placement default_space) }

-- the event was refused, since it declares a running member lost or is a Tick that would drop one
abbrev pub is_dishonest : Result Outcome WorldError → Bool
is_dishonest (Err (Dishonest member)) = true
is_dishonest outcome = false

-- no event of the list declares a running member lost
abbrev pub AreHonest : ClusterState → List WorldEvent → Type 0
AreHonest w events = list_any is_dishonest (outcomes ring_owner key_part w events) ≡ false

-- the six lines that a drill prints
abbrev pub counts_text : DrillCounts → List ℕ
counts_text c =
    codes "steps " ++ decimal c.steps ++ codes "\nboots " ++ decimal c.boots ++ codes "\nmessages " ++ decimal c.messages
    ++ codes "\nbegun " ++ decimal c.begun ++ codes "\nopen " ++ decimal c.open_turns ++ codes "\nversion " ++ decimal c.version ++ codes "\n"
