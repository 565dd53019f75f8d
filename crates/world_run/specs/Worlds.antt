-- What contracts see of the world of a cluster script: the cluster's state without its marks, and how many turns began
-- and ended, which come from the marks. Own.
use Rattle.std.specs.Prelude.{◌≡◌, ◌⊎◌, ℕ, ◌+◌, ◌-◌, ◌<◌, length, slice_get, List, [], ◌∷◌, ◌++◌, MatchResult, Option, None, Some, IfSome, Result, Ok, Err}
use Rattle.part_model.specs.Part.{PartState, ring_owner}
use Rattle.part_model.specs.Rooms.{IsInRange}
use Rattle.placement_core.specs.Placement.{PlacementState}
use Rattle.world_events.specs.declared.settings.WorldSettings.{WorldSettings}
use Rattle.world_events.specs.declared.event.WorldEvent.{WorldEvent}
use Rattle.world_events.specs.declared.event.WorldEvent.TheVariants as lines
use Rattle.world_events.specs.declared.outcome.Outcome.{Outcome}
use Rattle.world_events.specs.declared.outcome.Outcome.TheVariants as out
use Rattle.world_events.specs.declared.error.WorldError.{WorldError}
use Rattle.world_events.specs.declared.error.WorldError.TheVariants.{OutOfMemory}
use Rattle.cluster_model.specs.Counts.{begun_turns, over_turns}
use Rattle.cluster_model.specs.Messages.{Message}
use Rattle.cluster_model.specs.World.{ClusterState, CallPlace, WorldStep, key_part, call_at, tick_each, happens, cluster_step}
use Rattle.cluster_parts.specs.CallIndex.{CallsView, call_place}
use Rattle.cluster_parts.specs.declared.calls.CallAt.{CallAt}
use Rattle.cluster_parts.specs.Layout.{counted_from}
use Rattle.world_run.specs.declared.kept.Told.{Told}
use Rattle.world_run.specs.Post.{PostView, numbered, told_of, Agrees}
use Rattle.cluster_parts.specs.Views.{PartsView, capped, more}

pub record WorldView : Type 0 where
  pub settings : WorldSettings
  pub placement : PlacementState
  pub parts : List PartState
  pub boots : ℕ
  pub messages : List Message
  pub moment : ℕ
  pub calls : List (Option CallPlace)
  pub events : ℕ
  pub begun : ℕ  -- turns, up to the greatest number of 64 bits
  pub ended : ℕ  -- the same

-- ---- the view of a cluster

abbrev pub view_of : ClusterState → WorldView
view_of w =
    record {
      settings = w.settings;
      placement = w.placement;
      parts = w.parts;
      boots = w.boots;
      messages = w.messages;
      moment = w.now;
      calls = w.calls;
      events = w.events;
      begun = capped (begun_turns w.marks);
      ended = capped (over_turns w.marks);
    }

-- how many turns are open
abbrev pub open_turns : WorldView → ℕ
open_turns v = v.begun - v.ended

-- what a step gives: the outcome and the view of the step's cluster, or out of memory and no change
abbrev pub GivesStep : Result Outcome WorldError → WorldView → WorldStep → WorldView → Type 0
GivesStep result old step new = ((result ≡ Err OutOfMemory) × (new ≡ old)) ⊎ ((result ≡ step.outcome) × (new ≡ view_of step.world))

-- the same of a step that takes no memory
abbrev pub IsStep : Result Outcome WorldError → WorldStep → WorldView → Type 0
IsStep result step new = (result ≡ step.outcome) × (new ≡ view_of step.world)

-- ---- a cluster whose marks are forgotten

-- the cluster of a view, without marks
abbrev pub cluster_of : WorldView → ClusterState
cluster_of v =
    record { settings = v.settings; placement = v.placement; parts = v.parts; boots = v.boots; messages = v.messages; now = v.moment; calls = v.calls; marks = []; events = v.events }

-- the view after a step, if these are the marks of that step alone
abbrev pub after : WorldView → ClusterState → WorldView
after v w =
    record {
      settings = w.settings;
      placement = w.placement;
      parts = w.parts;
      boots = w.boots;
      messages = w.messages;
      moment = w.now;
      calls = w.calls;
      events = w.events;
      begun = more v.begun (begun_turns w.marks);
      ended = more v.ended (over_turns w.marks);
    }

-- the same for a step that begins without marks
abbrev pub Gives : Result Outcome WorldError → WorldView → WorldView → WorldStep → Type 0
Gives result old new step = ((result ≡ Err OutOfMemory) × (new ≡ old)) ⊎ ((result ≡ step.outcome) × (new ≡ after old step.world))

-- what happens to a cluster of this view
abbrev pub Happens : Result Outcome WorldError → WorldView → WorldView → WorldEvent → Type 0
Happens result old new event = Gives result old new (happens ring_owner key_part (cluster_of old) event)

-- the view of what a world is made of
abbrev pub viewed : WorldSettings → PostView → PartsView → CallsView → ℕ → ℕ → WorldView
viewed settings post parts calls moment events =
    record {
      settings = settings;
      placement = post.placement;
      parts = parts.parts;
      boots = parts.boots;
      messages = post.messages;
      moment = moment;
      calls = calls.calls;
      events = events;
      begun = parts.begun;
      ended = parts.ended;
    }

-- the placement and the messages of a view
abbrev pub post_of : WorldView → PostView
post_of v = record { placement = v.placement; messages = v.messages }

-- the table event of an answer, if it brings one, is in range
abbrev pub IsToldInRange : Option Told → Type 0
IsToldInRange None = Unit {0}
IsToldInRange (Some t) = IfSome t.event (λ e. IsInRange e)

-- What the cluster's safety gives for an event: a delivered request is answered with the one table of its version, and
-- a delivered answer has a version in range.
abbrev pub IsFit : WorldView → WorldEvent → Type 0
IsFit v (lines.To k) = Agrees (numbered v.messages k) v.moment (post_of v)
IsFit v (lines.Part k i) = IsToldInRange (told_of (numbered v.messages k) v.moment)
IsFit v event = Unit {0}

-- the turns that `count` parts from this place on end, as the outcome says
abbrev pub Ticks : ℕ → WorldView → WorldView → ℕ → ℕ → ℕ → Type 0
Ticks result old new at count turns = Gives (Ok (out.TickEnded result)) old new (tick_each ring_owner key_part (cluster_of old) (counted_from at count) turns)

-- where a call was made: none if it was refused or never made, or its part isn't there
abbrev pub AskedAt : Option CallAt → WorldView → ℕ → Type 0
AskedAt (Some c) v call = (call_at v.calls call ≡ Some (call_place c)) × (c.place < length v.parts)
AskedAt None v call = (c : CallPlace) → call_at v.calls call ≡ Some c → slice_get v.parts c.place ≡ None

-- ---- runs

-- The events are done in their order, up to the first one that is refused or runs out of memory, which is the result;
-- the outcomes of those before it are added to the ones that were there.
abbrev pub Runs : ClusterState → List WorldEvent → List Outcome → Result (Unit {0}) WorldError → List Outcome → WorldView → Type 0
Runs w [] before result outcomes v = (result ≡ Ok tt) × (outcomes ≡ before) × (v ≡ view_of w)
Runs w (e ∷ es) before result outcomes v =
    ((result ≡ Err OutOfMemory) × (outcomes ≡ before) × (v ≡ view_of w))
    ⊎ MatchResult (cluster_step ring_owner key_part w e).outcome
    (λ o. Runs (cluster_step ring_owner key_part w e).world es (before ++ o ∷ []) result outcomes v)
    (λ x. (result ≡ Err x) × (outcomes ≡ before) × (v ≡ view_of (cluster_step ring_owner key_part w e).world))
