-- Worked runs, as tests of the definitions: each closes by computing.
use Rattle.std.specs.Prelude.{◌≡◌, ℕ, true, false, List, [], ◌∷◌, ◌++◌, map, Option, None, Some, Result, Ok, Err}
use Rattle.std.proofs.Common.{refl}
use Rattle.actor_names.specs.Names.{default_space}
use Rattle.actor_names.specs.declared.actor_key.ActorKey.{ActorKey}
use Rattle.actor_names.specs.declared.member.Member.{Member}
use Rattle.place_table.specs.declared.host.HostInfo.{HostInfo}
use Rattle.place_table.specs.Hosts.{PlacementTable}
use Rattle.part_model.specs.declared.stage.Stage.{Stage}
use Rattle.part_model.specs.declared.stage.Stage.TheVariants.{Locked, Stopped}
use Rattle.part_model.specs.Part.{PartState}
use Rattle.world_events.specs.declared.event.WorldEvent.TheVariants.{At, Boot, Call, Lost, PlacementTick, To}
use Rattle.world_events.specs.declared.outcome.Outcome.{Outcome}
use Rattle.world_events.specs.declared.outcome.Outcome.TheVariants.{Dropped}
use Rattle.world_events.specs.declared.outcome.Outcome.TheVariants as out
use Rattle.cluster_model.specs.World.{most_events}
use Rattle.world_events.specs.declared.settings.WorldSettings.{WorldSettings}
use Rattle.lease_core.specs.declared.error.LeaseError.{LeaseError}
use Rattle.lease_core.specs.declared.error.LeaseError.TheVariants as errors
use Rattle.lease_core.specs.declared.error.LeaseError.TheVariants.{BadRate}
use Rattle.lease_core.specs.declared.event.LeaseEvent.{LeaseEvent}
use Rattle.lease_core.specs.declared.event.LeaseEvent.TheVariants.{Pass, Step, Answer}
use Rattle.lease_core.specs.Lease.{lease_start, has_ended}
use Rattle.lease_core.specs.Leased.{LeasedCluster, opening_leased, leased_step, leased_run}

-- A lease that began at 0 hasn't ended at 4,999 and has at 5,000; after an answer to a request sent at 3,000 it ends at
-- 8,000, and an answer to one sent at 1,000 then changes nothing.
lease_ends_five_seconds_after_last_answer : (has_ended 0 4999 ≡ false) × (has_ended 0 5000 ≡ true) × (has_ended (lease_start 0 (3000 ∷ [])) 7999 ≡ false)
    × (has_ended (lease_start 0 (3000 ∷ [])) 8000 ≡ true) × (lease_start 0 (3000 ∷ 1000 ∷ []) ≡ 3000)
lease_ends_five_seconds_after_last_answer = (refl, refl, refl, refl, refl)

abbrev owner : PlacementTable → ActorKey → Option HostInfo
owner t k = None

abbrev part_of : ActorKey → ℕ → ℕ
part_of k n = 0

abbrev settings : WorldSettings
settings = record { parts = 2; kinds = []; idle_ms = 3600000; drain_ms = 60000 }

-- one member boots, and its Register is delivered; then nearly ten seconds pass for the placement, and half as many for the
-- member
abbrev first_pass : List LeaseEvent
first_pass = Step (Boot default_space (97 ∷ []) ((99 ∷ []) ∷ [])) ∷ Step (To 1) ∷ Pass 9998 (4999 ∷ []) ∷ []

abbrev second_pass : List LeaseEvent
second_pass = first_pass ++ Step PlacementTick ∷ Pass 2 (1 ∷ []) ∷ []

abbrev at_end_of : List LeaseEvent → LeasedCluster
at_end_of es = leased_run owner part_of (opening_leased settings) es

abbrev outcome_after : List LeaseEvent → LeaseEvent → Result (Option Outcome) LeaseError
outcome_after es e = (leased_step owner part_of (at_end_of es) e).outcome

abbrev stages_after : List LeaseEvent → List Stage
stages_after es = map (λ (p : PartState). p.stage) (at_end_of es).world.parts

-- The placement's Tick drops nobody after the first pass. The second stops both parts, and then the Tick drops the member.
-- A pass of 10 and 4 is refused.
lapsed_member_is_stopped_before_drop : (outcome_after first_pass (Step PlacementTick) ≡ Ok (Some (Dropped 0))) × (stages_after first_pass ≡ Locked ∷ Locked ∷ []) × (stages_after second_pass ≡ Stopped ∷ Stopped ∷ [])
    × (outcome_after second_pass (Step PlacementTick) ≡ Ok (Some (Dropped 1))) × (outcome_after second_pass (Pass 10 (4 ∷ [])) ≡ Err (BadRate 0))
lapsed_member_is_stopped_before_drop = (refl, refl, refl, refl, refl)

-- ---- refusals, in their order

abbrev one_member : Member
one_member = record { space = default_space; node = 97 ∷ []; boot = 1 }

abbrev one_actor : ActorKey
one_actor = record { space = default_space; kind = 99 ∷ []; id = 49 ∷ [] }

-- A pass has as many steps as there are members, and no step less than half of the other: the first fault is named.
steps_of_pass_keep_the_rates : (outcome_after first_pass (Pass 10 []) ≡ Err (BadRate 0)) × (outcome_after first_pass (Pass 10 (10 ∷ 10 ∷ [])) ≡ Err (BadRate 1))
    × (outcome_after first_pass (Pass 11 (5 ∷ [])) ≡ Err (BadRate 0)) × (outcome_after first_pass (Pass 10 (5 ∷ [])) ≡ Ok None)
    × (outcome_after first_pass (Pass 5 (11 ∷ [])) ≡ Err (BadRate 0)) × (outcome_after first_pass (Pass 5 (10 ∷ [])) ≡ Ok None)
steps_of_pass_keep_the_rates = (refl, refl, refl, refl, refl, refl)

-- The placement's clock stands at 9,998 and the member's at 4,999: each stays below 253,370,764,800,000. The rates come first.
clock_stays_below_its_bound : (outcome_after first_pass (Pass 253370764790001 (253370764790001 ∷ [])) ≡ Ok None) × (outcome_after first_pass (Pass 253370764790002 (253370764790002 ∷ [])) ≡ Err errors.Clock)
    × (outcome_after first_pass (Pass 200000000000000 (253370764795000 ∷ [])) ≡ Ok None) × (outcome_after first_pass (Pass 200000000000000 (253370764795001 ∷ [])) ≡ Err errors.Clock)
    × (outcome_after first_pass (Pass 253370764790002 (126685382395000 ∷ [])) ≡ Err (BadRate 0))
clock_stays_below_its_bound = (refl, refl, refl, refl, refl)

-- The first message is the member's Register, the second one its answer, and there is no other.
answer_needs_a_reply : (outcome_after first_pass (Answer 0) ≡ Err errors.NoReply) × (outcome_after first_pass (Answer 1) ≡ Err errors.NoReply) × (outcome_after first_pass (Answer 2) ≡ Ok None)
    × (outcome_after first_pass (Answer 3) ≡ Err errors.NoReply)
answer_needs_a_reply = (refl, refl, refl, refl)

-- The clocks alone set moments; a member that runs isn't lost, and one that has stopped is; calls are numbered from 1.
refusals_of_events : (outcome_after first_pass (Step (At 5)) ≡ Err errors.HasAt) × (outcome_after first_pass (Step (Lost one_member)) ≡ Err (errors.Dishonest one_member))
    × (outcome_after second_pass (Step (Lost one_member)) ≡ Ok (Some (out.Lost one_member))) × (outcome_after first_pass (Step (Call 2 one_member one_actor 0 None)) ≡ Err (errors.WrongNumber 1))
refusals_of_events = (refl, refl, refl, refl)

-- the cluster after these events, as if there had been so many of them
abbrev at_count : List LeaseEvent → ℕ → LeasedCluster
at_count es count = record (at_end_of es) { world = record ((at_end_of es).world) { events = count } }

abbrev outcome_at : ℕ → LeaseEvent → Result (Option Outcome) LeaseError
outcome_at count e = (leased_step owner part_of (at_count first_pass count) e).outcome

-- After 2^62 events an event is refused whatever else is wrong with it, but for a moment of its own. A pass and an answer are
-- no events: a pass is refused where its two stops would be too many, unless a step or a clock is.
last_event_is_spent : (outcome_at most_events (Step (At 5)) ≡ Err errors.HasAt) × (outcome_at most_events (Step (Lost one_member)) ≡ Err (errors.Spent most_events))
    × (outcome_at most_events (Step (Call 2 one_member one_actor 0 None)) ≡ Err (errors.Spent most_events)) × (outcome_at most_events (Answer 3) ≡ Err errors.NoReply)
    × (outcome_at most_events (Answer 2) ≡ Ok None) × (outcome_at most_events (Pass 0 (0 ∷ [])) ≡ Ok None)
    × (outcome_at most_events (Pass 2 (1 ∷ [])) ≡ Err (errors.Spent most_events)) × (outcome_at 4611686018427387902 (Pass 2 (1 ∷ [])) ≡ Ok None)
    × (outcome_at 4611686018427387903 (Pass 2 (1 ∷ [])) ≡ Err (errors.Spent 4611686018427387903)) × (outcome_at most_events (Pass 10 (4 ∷ [])) ≡ Err (BadRate 0))
    × (outcome_at most_events (Pass 253370764790002 (253370764790002 ∷ [])) ≡ Err errors.Clock)
last_event_is_spent = (refl, refl, refl, refl, refl, refl, refl, refl, refl, refl, refl)
