-- Over every list of events no more turns begin than there are events: each makes at most one call, and a call begins
-- once.
use Rattle.std.proofs.Common.{◌≡◌, ℕ, ◌+◌, ◌≤◌, List, [], ◌∷◌, ◌++◌, length, set, Option, None, Some, refl, ap, arith}
use Rattle.std.specs.Prelude.{zero, suc, nat_le, ◌==◌, slice_get}
use Rattle.std.proofs.lemmas.Bool.{cond_both}
use Rattle.actor_names.specs.declared.member.Member.{Member}
use Rattle.actor_names.specs.declared.actor_key.ActorKey.{ActorKey}
use Rattle.place_table.specs.declared.host.HostInfo.{HostInfo}
use Rattle.place_table.specs.Hosts.{PlacementTable}
use Rattle.part_model.specs.Cells.{total}
use Rattle.part_model.specs.declared.settings.TypeSettings.{TypeSettings}
use Rattle.part_model.specs.declared.event.PartEvent.{PartEvent}
use Rattle.part_model.specs.declared.event.PartEvent.TheVariants as events
use Rattle.part_model.specs.Activity.{IsAsked}
use Rattle.part_model.specs.Part.{PartState, part_step}
use Rattle.world_events.specs.declared.event.WorldEvent.{WorldEvent}
use Rattle.world_events.specs.declared.event.WorldEvent.TheVariants as lines
use Rattle.world_events.specs.declared.settings.WorldSettings.{WorldSettings}
use Rattle.cluster_model.specs.Counts.{begun_turns}
use Rattle.cluster_model.specs.World as world
use Rattle.cluster_model.specs.World.{ClusterState, WorldStep, CallPlace, tagged, new_parts, most_events, ask_of, place_of_call}
use Rattle.cluster_model.proofs.Basics.{In-slice_get}
use Rattle.cluster_model.proofs.Counts.{begun_turns-append, begun_turns-tagged}
use Rattle.cluster_model.proofs.Histories.{some_same}
use Rattle.cluster_model.specs.Invariant.{IsSafeWorld}
use Rattle.cluster_model.proofs.Lines.{AreQuietKept, quiet_line}
use Rattle.cluster_model.proofs.SpaceParts.{backed}
use Rattle.cluster_model.proofs.Named.{ask_heard}
use Rattle.cluster_model.proofs.Worlds.{step_safe, safe_kept, new_world_safe}
use Rattle.world_drill.proofs.Waits.{waits_in, asked_by, step_begins}

-- the calls that wait in all parts
abbrev waiting_in : List PartState → ℕ
waiting_in [] = 0
waiting_in (p ∷ ps) = total waits_in p.cells + waiting_in ps

waiting_in-set : (ps : List PartState) (n : ℕ) (p q : PartState) → slice_get ps n ≡ Some p → waiting_in (set ps n q) + total waits_in p.cells ≡ waiting_in ps + total waits_in q.cells
waiting_in-set [] n p q e = absurd (cc)
waiting_in-set (x ∷ ps) zero p q e = let s = ap (λ (z : PartState). total waits_in z.cells) (some_same x p e) in omega arith
waiting_in-set (x ∷ ps) (suc n) p q e = let more = waiting_in-set ps n p q e in omega arith

waiting_in-new : (ps : List PartState) (m : Member) (kinds : List TypeSettings) (i n : ℕ) → waiting_in (ps ++ new_parts m kinds i n) ≡ waiting_in ps
waiting_in-new [] m kinds i zero = refl
waiting_in-new [] m kinds i (suc n) = let more = waiting_in-new [] m kinds (suc i) n in omega arith
waiting_in-new (p ∷ ps) m kinds i n = let more = waiting_in-new ps m kinds i n in omega arith

none_asked : (e : PartEvent) → ((k : ActorKey) → IsAsked e k → ⊥) → asked_by e ≡ 0
none_asked (events.Ask key chain now) quiet = absurd (quiet key refl)
none_asked (events.AskAt key chain least now) quiet = absurd (quiet key refl)
none_asked e quiet = refl

one_asked : (key : ActorKey) (least : ℕ) (chain : Option (List ℕ)) (now : ℕ) → asked_by (ask_of key least chain now) ≡ 1
one_asked key zero chain now = refl
one_asked key (suc least) chain now = refl

module _ (owner : PlacementTable → ActorKey → Option HostInfo) (part_of : ActorKey → ℕ → ℕ) where
  -- at most `n` turns have begun, if waiting calls are counted with them
  record BeganAtMost (n : ℕ) (w : ClusterState) : Type 0 where
    safe : IsSafeWorld owner w
    few : begun_turns w.marks + waiting_in w.parts ≤ n

  few_step : (n : ℕ) (w : ClusterState) (at : ℕ) (p : PartState) (e : PartEvent) → BeganAtMost n w → slice_get w.parts at ≡ Some p
      → begun_turns (w.marks ++ tagged p.member (part_step owner p e).marks) + waiting_in (set w.parts at (part_step owner p e).part) ≤ n + asked_by e
  few_step n w at p e t found =
      let s = part_step owner p e in
      let a = step_begins owner p e (backed owner w t.safe p (In-slice_get w.parts at p found)).sound in
      let b = waiting_in-set w.parts at p s.part found in
      let c = begun_turns-append w.marks (tagged p.member s.marks) in
      let f = begun_turns-tagged p.member s.marks in
      let h = t.few in
      omega arith

  few_kept : (n : ℕ) → AreQuietKept owner part_of (BeganAtMost n)
  few_kept n =
      let kept = safe_kept owner part_of in
      record {
        safe = λ w t. t.safe;
        other = λ w now events t. record { safe = kept.other w now w.calls events t.safe; few = t.few };
        step = λ w at p e t found heard quiet. record {
          safe = step_safe owner part_of w at p e t.safe found heard;
          few = (let a = few_step n w at p e t found in let z = none_asked e quiet in omega arith);
        };
        ask = λ w r t may booted. record { safe = kept.ask w r t.safe may booted; few = t.few };
        answer = λ w r t i. record { safe = kept.answer w r t.safe i; few = t.few };
        change = λ w e t h. record { safe = kept.change w e t.safe h; few = t.few };
        restart = λ w t. record { safe = kept.restart w t.safe; few = t.few };
        boot = λ w m kinds fresh t. record {
          safe = kept.boot w m kinds fresh t.safe;
          few = (let a = waiting_in-new w.parts m (world.settings_for w.settings kinds) 0 w.settings.parts in let b = t.few in omega arith);
        };
      }

  abbrev Ends : ℕ → WorldStep → Type 0
  Ends n s = BeganAtMost n s.world

  one_more : (n : ℕ) (w : ClusterState) → BeganAtMost n w → BeganAtMost (suc n) w
  one_more n w t = record { safe = t.safe; few = (let h = t.few in omega arith) }

  few_call : (n : ℕ) (w : ClusterState) (number : ℕ) (key : ActorKey) (least : ℕ) (chain : Option (List ℕ)) (o : Option ℕ) → BeganAtMost n w → Ends (suc n) (world.call_at_place owner part_of w number (ask_of key least chain w.now) o)
  few_call n w number key least chain None t = one_more n w t
  few_call n w number key least chain (Some at) t = go (slice_get w.parts at) refl
    where
      go : (found : Option PartState) → slice_get w.parts at ≡ found → Ends (suc n) (world.call_of_part owner part_of w number at (ask_of key least chain w.now) found)
      go None is = one_more n w t
      go (Some p) is =
          let e = ask_of key least chain w.now in
          record {
            safe = (safe_kept owner part_of).other (world.with_step owner part_of w at p (part_step owner p e)) w.now _ w.events (step_safe owner part_of w at p e t.safe is (ask_heard w.messages p.member key least chain w.now));
            few = (let a = few_step n w at p e t is in let b = one_asked key least chain w.now in omega arith);
          }

  few_line : (n : ℕ) (w : ClusterState) (e : WorldEvent) → BeganAtMost n w → Ends (suc n) (world.happens owner part_of w e)
  few_line n w (lines.Call number m key least chain) t =
      cond_both (number == suc (length w.calls)) _ _ (Ends (suc n)) (λ _. few_call n w number key least chain (world.key_place_of owner part_of w m key) t) (λ _. one_more n w t)
  few_line n w e t = one_more n _ (quiet_line owner part_of (BeganAtMost n) (few_kept n) w e tt t)

  few_event : (n : ℕ) (w : ClusterState) (e : WorldEvent) → BeganAtMost n w → Ends (suc n) (world.cluster_step owner part_of w e)
  few_event n w e t =
      cond_both (nat_le most_events w.events) _ _ (Ends (suc n)) (λ _. one_more n w t)
      (λ _. let s = world.happens owner part_of w e in (few_kept (suc n)).other s.world s.world.now (s.world.events + world.weight_of s.outcome) (few_line n w e t))

  few_run : (n : ℕ) (w : ClusterState) (es : List WorldEvent) → BeganAtMost n w → BeganAtMost (n + length es) (world.cluster_run owner part_of w es)
  few_run n w [] t = record { safe = t.safe; few = (let h = t.few in omega arith) }
  few_run n w (e ∷ es) t =
      let more = few_run (suc n) (world.cluster_step owner part_of w e).world es (few_event n w e t) in
      record { safe = more.safe; few = (let h = more.few in omega arith) }

  -- over every list of events
  pub run_begun : (settings : WorldSettings) (es : List WorldEvent) → begun_turns (world.cluster_run owner part_of (world.opening_cluster settings) es).marks ≤ length es
  run_begun settings es =
      let t = few_run 0 (world.opening_cluster settings) es (record { safe = new_world_safe owner part_of settings; few = omega arith }) in
      let h = t.few in
      omega arith
