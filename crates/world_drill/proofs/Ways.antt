-- On the way through a drill: the events so far, and those that remain.
use Rattle.std.proofs.Common.{◌≡◌, ℕ, ◌*◌, ◌≤◌, List, [], ◌++◌, refl, sym, ap, ◌∙◌, subst, append_assoc, arith}
use Rattle.std.specs.Prelude.{suc}
use Rattle.part_model.specs.Part.{ring_owner}
use Rattle.world_events.specs.declared.event.WorldEvent.{WorldEvent}
use Rattle.cluster_model.specs.Counts.{begun_turns, over_turns}
use Rattle.cluster_model.specs.World.{ClusterState, opening_cluster, key_part, cluster_run}
use Rattle.cluster_model.proofs.AskedLines.{append_nil}
use Rattle.cluster_model.proofs.Balances.{run_counted}
use Rattle.cluster_model.proofs.Lines.{cluster_run-append}
use Rattle.world_run.specs.Worlds.{WorldView, view_of}
use Rattle.world_drill.specs.Choices.{Plays}
use Rattle.world_drill.specs.Drill.{drill_settings, third_of, step_events, events_from, drill_events, drill_world}
use Rattle.world_drill.proofs.Begins.{run_begun}
use Rattle.world_drill.proofs.Sizes.{length-events_from}

-- the cluster of a drill after these events
abbrev pub after : List WorldEvent → ClusterState
after es = cluster_run ring_owner key_part (opening_cluster drill_settings) es

-- The view is that of the cluster after some events, and these with the events of the remaining steps, from this
-- generator on, are the drill's.
pub record IsOnWay (v : WorldView) (x left seed steps : ℕ) : Type 0 where
  pub before : List WorldEvent
  pub shown : view_of (after before) ≡ v
  pub rest : before ++ events_from left x (after before) ≡ drill_events seed steps

pub way_begins : (v : WorldView) (x left seed steps : ℕ) → v ≡ view_of (opening_cluster drill_settings) → x ≡ seed → left ≡ steps → IsOnWay v x left seed steps
way_begins v x left seed steps e s l = record { before = []; shown = sym e; rest = rw (s, l) refl }

pub way_goes : (old new : WorldView) (x y left less seed steps : ℕ) → IsOnWay old x left seed steps → Plays (λ w. step_events w x) old new → y ≡ third_of x → left ≡ suc less → IsOnWay new y less seed steps
way_goes old new x y left less seed steps t plays next one =
    let w : ClusterState = after t.before in
    let es : List WorldEvent = step_events w x in
    let joined : after (t.before ++ es) ≡ cluster_run ring_owner key_part w es = cluster_run-append ring_owner key_part (opening_cluster drill_settings) t.before es in
    let rest : t.before ++ (es ++ events_from less (third_of x) (cluster_run ring_owner key_part w es)) ≡ drill_events seed steps = subst (λ n. t.before ++ events_from n x w ≡ drill_events seed steps) one t.rest in
    record {
      before = t.before ++ es;
      shown = ap view_of joined ∙ plays w t.shown;
      rest =
          ap (λ (z : ℕ). (t.before ++ es) ++ events_from less z (after (t.before ++ es))) next
          ∙ ap (λ (z : ClusterState). (t.before ++ es) ++ events_from less (third_of x) z) joined
          ∙ append_assoc t.before es (events_from less (third_of x) (cluster_run ring_owner key_part w es)) ∙ rest;
    }

-- at its end the cluster is that of the drill
pub way_ends : (v : WorldView) (x left seed steps : ℕ) → IsOnWay v x left seed steps → left ≡ 0 → view_of (drill_world seed steps) ≡ v
way_ends v x left seed steps t none =
    let all : t.before ≡ drill_events seed steps = sym (append_nil t.before) ∙ subst (λ n. t.before ++ events_from n x (after t.before) ≡ drill_events seed steps) none t.rest in
    ap (λ (es : List WorldEvent). view_of (after es)) (sym all) ∙ t.shown

-- no more turns began than there are events, and no more ended than began
pub drill_begun : (seed steps : ℕ) → begun_turns (drill_world seed steps).marks ≤ 3 * steps
drill_begun seed steps = let a = run_begun ring_owner key_part drill_settings (drill_events seed steps) in let b = length-events_from steps seed (opening_cluster drill_settings) in omega arith

pub drill_ended : (seed steps : ℕ) → over_turns (drill_world seed steps).marks ≤ begun_turns (drill_world seed steps).marks
drill_ended seed steps = (run_counted ring_owner key_part drill_settings (drill_events seed steps)).enough
