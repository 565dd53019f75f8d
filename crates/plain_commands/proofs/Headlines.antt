-- The headline holds of every script that a replay ran.
use Rattle.std.proofs.Common.{◌≡◌, ◌⊎◌, ℕ, zero, suc, ◌<◌, ◌≤◌, List, [], ◌∷◌, ◌++◌, take, drop, refl, sym, ap, ◌∙◌, subst, inl, inr}
use Rattle.std.proofs.lemmas.List.{take-append-drop, take-take}
use Rattle.part_model.specs.Part.{ring_owner}
use Rattle.round_core.specs.Room.{RoomState, last_version}
use Rattle.placement_core.specs.Placement.{room_of}
use Rattle.world_events.specs.Solo.{SoloEvent}
use Rattle.world_events.specs.declared.event.WorldEvent.{WorldEvent}
use Rattle.world_events.specs.declared.settings.WorldSettings.{WorldSettings}
use Rattle.solo_run.specs.World.{TypeDepth}
use Rattle.solo_run.proofs.Laws.{turns_isolated}
use Rattle.solo_run.proofs.RunFollows.{solo_busy}
use Rattle.cluster_model.specs.Cluster.{HasCome, RoomsForgetNothing}
use Rattle.cluster_model.specs.Targets.{round_targets, BeginsNone, BeginsOne}
use Rattle.cluster_model.specs.World.{ClusterState, opening_cluster, cluster_run, key_part}
use Rattle.cluster_model.proofs.AskedRuns.{run_named, run_settings}
use Rattle.cluster_model.proofs.Askings.{run_asked}
use Rattle.cluster_model.proofs.Balances.{run_counted}
use Rattle.cluster_model.proofs.Bootings.{run_booted}
use Rattle.cluster_model.proofs.Clusters.{run_invariant}
use Rattle.cluster_model.proofs.Endings.{run_ended}
use Rattle.cluster_model.proofs.Growths.{run_came}
use Rattle.cluster_model.proofs.Lines.{cluster_run-append}
use Rattle.cluster_model.proofs.Memories.{run_forgets}
use Rattle.cluster_model.proofs.Targets.{run_sent, run_targets, run_begun}
use Rattle.cluster_model.proofs.Worlds.{run_safe, run_active_once}
use Rattle.world_run.proofs.RingSpaces.{ring_keeps}
use Rattle.plain_commands.specs.Scripts.{ScriptLog, Unread, SoloLog, ClusterLog, settings_of}
use Rattle.plain_commands.specs.Replay.{ReplayRun}
use Rattle.plain_commands.specs.Told.{TellsRun}
use Rattle.plain_commands.proofs.BegunRuns.{run_begins}
use Rattle.plain_commands.proofs.Named.{HasParts, named_parts}
use Rattle.plain_commands.specs.Headline.{SoloHolds, cluster_at, room_in, ClusterHolds, HeadlineHolds}

solo_holds : (depths : List TypeDepth) (events : List SoloEvent) → SoloHolds depths events
solo_holds depths events = record { never_mix = λ key. turns_isolated depths events key; none_idle = λ n. solo_busy depths (take n events) }

-- ---- moments of a run

-- the first events, and those up to a later moment
up_to : (n later : ℕ) (events : List WorldEvent) → n ≤ later → take later events ≡ take n events ++ drop n (take later events)
up_to n later events l = sym (take-append-drop n (take later events)) ∙ ap (λ (es : List WorldEvent). es ++ drop n (take later events)) (take-take n later events l)

later_at : (settings : WorldSettings) (events : List WorldEvent) (n later : ℕ) → n ≤ later → cluster_at settings events later ≡ cluster_run ring_owner key_part (cluster_at settings events n) (drop n (take later events))
later_at settings events n later l =
    ap (cluster_run ring_owner key_part (opening_cluster settings)) (up_to n later events l) ∙ cluster_run-append ring_owner key_part (opening_cluster settings) (take n events) (drop n (take later events))

-- one event more, or none
next_take : (n : ℕ) (events : List WorldEvent) → (take (suc n) events ≡ take n events) ⊎ ((e : WorldEvent) × (take (suc n) events ≡ take n events ++ e ∷ []))
next_take zero [] = inl refl
next_take zero (e ∷ es) = inr (e, refl)
next_take (suc n) [] = inl refl
next_take (suc n) (e ∷ es) = elim (next_take n es) [ inl h ↦ inl (ap (λ (xs : List WorldEvent). e ∷ xs) h) | inr h ↦ inr (h.0, ap (λ (xs : List WorldEvent). e ∷ xs) h.1) ]

-- what a moment's events lead a room to, in a run of other events or of one more
module _ (settings : WorldSettings) (space : List ℕ) (old : RoomState) where
  abbrev found : ClusterState → RoomState
  found w = room_of w.placement space

  abbrev Begins : ClusterState → List WorldEvent → Type 0
  Begins w es = BeginsNone old (found w) ⊎ BeginsOne old (found w) (round_targets ring_owner key_part settings es space (last_version (found w)))

  abbrev AfterAll : List WorldEvent → Type 0
  AfterAll es = Begins (cluster_run ring_owner key_part (opening_cluster settings) es) es

rounds_begin : (settings : WorldSettings) (events : List WorldEvent) (n : ℕ) (space : List ℕ) → AfterAll settings space (room_in settings events n space) (take (suc n) events)
rounds_begin settings events n space =
    let old = room_in settings events n space in
    elim (next_take n events) [
      | inl h ↦ subst (AfterAll settings space old) (sym h) (inl (refl, λ stage runs. (stage, runs)))
      | inr h ↦ (
          let es = take n events ++ h.0 ∷ [] in
          let one = cluster_run-append ring_owner key_part (opening_cluster settings) (take n events) (h.0 ∷ []) in
          let begins = run_begun ring_owner key_part settings (take n events) h.0 space in
          subst (AfterAll settings space old) (sym h.1) (subst (λ (w : ClusterState). Begins settings space old w es) (sym one) begins))
    ]

cluster_holds : (settings : WorldSettings) (events : List WorldEvent) → 0 < settings.parts → ClusterHolds settings events
cluster_holds settings events some =
    record {
      invariant = λ n. run_invariant ring_owner key_part ring_keeps settings (take n events);
      once = λ n. run_active_once ring_owner key_part ring_keeps settings (take n events);
      asked = λ n. run_asked ring_owner key_part settings (take n events);
      named = λ n. run_named ring_owner key_part ring_keeps settings (take n events);
      ended = λ n. run_ended ring_owner key_part ring_keeps settings (take n events);
      counted = λ n. run_counted ring_owner key_part settings (take n events);
      parts = λ n. run_settings ring_owner key_part settings (take n events);
      came = λ n later p l i. subst (λ (w : ClusterState). HasCome w.messages p) (sym (later_at settings events n later l)) (run_came ring_owner key_part settings (take n events) (drop n (take later events)) p i);
      booted = λ n. (let t = run_booted ring_owner key_part settings some (take n events) in record { messages = t.named; members = t.joined });
      memory = λ n later l.
          let safe = run_safe ring_owner key_part settings (take n events) in
          subst (λ (w : ClusterState). RoomsForgetNothing (cluster_at settings events n).placement w.placement) (sym (later_at settings events n later l))
          (run_forgets ring_owner key_part (cluster_at settings events n) (drop n (take later events)) safe);
      sent = λ n space version m k. run_sent ring_owner key_part space version settings (take n events) m k;
      targets = λ n space. run_targets ring_owner key_part settings (take n events) space;
      begun = λ n space. rounds_begin settings events n space;
      begins = λ n event printed at said. run_begins ring_owner key_part ring_keeps settings events n event printed at said;
    }

headline_holds : (log : ScriptLog) → HasParts log → HeadlineHolds log
headline_holds Unread has = tt
headline_holds (SoloLog depths events) has = solo_holds depths events
headline_holds (ClusterLog s events) has = cluster_holds (settings_of s) events has

-- the headline of what a replay's lines name
pub headline_told : (lines : List (List ℕ)) (run : ReplayRun) → TellsRun lines run → HeadlineHolds run.log
headline_told lines run tells = headline_holds run.log (subst HasParts (sym tells.named) (named_parts (take tells.count lines)))
