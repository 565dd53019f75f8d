-- Over every script, the turns that each line prints as begun are those of the marks that its event adds.
use Rattle.std.proofs.Common.{◌≡◌, ℕ, List, [], ◌∷◌, take, Option, Some, sym, ap, ◌∙◌, subst}
use Rattle.std.specs.Prelude.{zero, suc, slice_get}
use Rattle.std.specs.declared.result.Result.{Result}
use Rattle.actor_names.specs.declared.actor_key.ActorKey.{ActorKey}
use Rattle.place_table.specs.declared.host.HostInfo.{HostInfo}
use Rattle.place_table.specs.Hosts.{PlacementTable}
use Rattle.world_events.specs.declared.error.WorldError.{WorldError}
use Rattle.world_events.specs.declared.event.WorldEvent.{WorldEvent}
use Rattle.world_events.specs.declared.outcome.Outcome.{Outcome}
use Rattle.world_events.specs.declared.settings.WorldSettings.{WorldSettings}
use Rattle.cluster_model.specs.Asked.{AskedCall, asked_calls}
use Rattle.cluster_model.specs.Spaces.{KeepsToSpace}
use Rattle.cluster_model.specs.World as world
use Rattle.cluster_model.specs.World.{ClusterState}
use Rattle.cluster_model.proofs.Askings.{run_asked}
use Rattle.cluster_model.proofs.Histories.{some_same}
use Rattle.cluster_model.proofs.Runs.{IsToldWorld, run_told}
use Rattle.plain_commands.specs.Begins.{BeginsAreTold}
use Rattle.plain_commands.proofs.BegunLines.{KnowsCalls, step_told}
use Rattle.plain_commands.proofs.BegunPolls.{KnowsOpen, step_finds}

module _ (owner : PlacementTable → ActorKey → Option HostInfo) (part_of : ActorKey → ℕ → ℕ) where
  abbrev Knows : List AskedCall → ClusterState → Type 0
  Knows asked w = KnowsCalls owner part_of w.settings.parts w.parts w.calls w.marks asked × KnowsOpen owner part_of w.settings.parts w.parts w.calls asked

  one_event : (asked : List AskedCall) (w : ClusterState) (e : WorldEvent) → IsToldWorld owner part_of w → Knows asked (world.cluster_step owner part_of w e).world
      → BeginsAreTold part_of w (world.cluster_step owner part_of w e).world asked e (world.cluster_step owner part_of w e).outcome
  one_event asked w e told knows =
      let h = step_told owner part_of asked w told e knows.0 in
      record { added = h.added; marks = h.marks; told = h.told; polled = step_finds owner part_of asked w told e knows.1 }

  -- the event at a place of the list leads from the events before it to those with it, and prints the line at that place
  event_at : (w : ClusterState) (es : List WorldEvent) (n : ℕ) (e : WorldEvent) (o : Result Outcome WorldError) → slice_get es n ≡ Some e → slice_get (world.outcomes owner part_of w es) n ≡ Some o
      → (world.cluster_run owner part_of w (take (suc n) es) ≡ (world.cluster_step owner part_of (world.cluster_run owner part_of w (take n es)) e).world)
      × (o ≡ (world.cluster_step owner part_of (world.cluster_run owner part_of w (take n es)) e).outcome)
  event_at w [] n e o at said = absurd (cc)
  event_at w (x ∷ es) zero e o at said =
      let s : x ≡ e = some_same x e at in
      (ap (λ (z : WorldEvent). (world.cluster_step owner part_of w z).world) s, sym (some_same (world.cluster_step owner part_of w x).outcome o said) ∙ ap (λ (z : WorldEvent). (world.cluster_step owner part_of w z).outcome) s)
  event_at w (x ∷ es) (suc n) e o at said = event_at (world.cluster_step owner part_of w x).world es n e o at said

  pub run_begins : KeepsToSpace owner → (settings : WorldSettings) (es : List WorldEvent) (n : ℕ) (e : WorldEvent) (o : Result Outcome WorldError)
      → slice_get es n ≡ Some e → slice_get (world.outcomes owner part_of (world.opening_cluster settings) es) n ≡ Some o
      → BeginsAreTold part_of (world.cluster_run owner part_of (world.opening_cluster settings) (take n es)) (world.cluster_run owner part_of (world.opening_cluster settings) (take (suc n) es))
      (asked_calls (take (suc n) es) (world.outcomes owner part_of (world.opening_cluster settings) (take (suc n) es))) e o
  run_begins keeps settings es n e o at said =
      let opening = world.opening_cluster settings in
      let w = world.cluster_run owner part_of opening (take n es) in
      let next = world.cluster_run owner part_of opening (take (suc n) es) in
      let asked = asked_calls (take (suc n) es) (world.outcomes owner part_of opening (take (suc n) es)) in
      let is = event_at opening es n e o at said in
      let calls = run_asked owner part_of settings (take (suc n) es) in
      let apart = (run_told owner part_of keeps settings (take (suc n) es)).told.fits.apart in
      let knows : Knows asked next = (
        record { began = calls.began; one_number = calls.one_number; apart = apart },
        record { open_turns = calls.open_turns; one_number = calls.one_number; apart = apart },
      ) in
      let begins = one_event asked w e (run_told owner part_of keeps settings (take n es)) (subst (Knows asked) is.0 knows) in
      subst (λ (z : ClusterState). BeginsAreTold part_of w z asked e o) (sym is.0) (subst (λ (z : Result Outcome WorldError). BeginsAreTold part_of w (world.cluster_step owner part_of w e).world asked e z) (sym is.1) begins)
