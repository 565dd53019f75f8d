-- What every event of a cluster keeps of its parts: each is one of those before, stopped if that was, or of a member that
-- booted since.
use Rattle.std.proofs.Common.{◌≡◌, ◌⊎◌, ℕ, ◌<◌, ◌≤◌, List, [], ◌∷◌, ◌++◌, Option, Some, refl, sym, ap, ◌∙◌, subst, inl, inr, arith}
use Rattle.std.specs.Prelude.{suc, slice_get}
use Rattle.actor_names.specs.declared.member.Member.{Member}
use Rattle.actor_names.specs.declared.actor_key.ActorKey.{ActorKey}
use Rattle.place_table.specs.declared.host.HostInfo.{HostInfo}
use Rattle.place_table.specs.Hosts.{PlacementTable}
use Rattle.turn_core.specs.CellSound.{In}
use Rattle.part_model.specs.declared.stage.Stage.TheVariants.{Stopped}
use Rattle.part_model.specs.Part.{PartState, part_step}
use Rattle.part_model.proofs.PartTables.{part_stepped}
use Rattle.round_core.specs.Runs.{RunEvent, Steps, Restarts}
use Rattle.placement_core.specs.Placement.{PlacementState, new_placement}
use Rattle.placement_core.specs.Runs.{state_after, run_state}
use Rattle.world_events.specs.declared.settings.WorldSettings.{WorldSettings}
use Rattle.cluster_model.specs.Messages.{change_of}
use Rattle.cluster_model.specs.World as world
use Rattle.cluster_model.specs.World.{ClusterState}
use Rattle.cluster_model.specs.Spaces.{KeepsToSpace}
use Rattle.cluster_model.proofs.Basics.{In-append, In-set, In-slice_get}
use Rattle.cluster_model.proofs.Boots.{In-new_parts}
use Rattle.cluster_model.proofs.Lines.{AreKept}
use Rattle.cluster_model.proofs.SpaceParts.{backed}
use Rattle.cluster_model.proofs.Runs.{IsToldWorld, told_kept, new_world_told}
use Rattle.cluster_model.proofs.Worlds.{new_world_safe}

-- the part is one of these, and has stopped if that had
pub record Came (ps : List PartState) (p : PartState) : Type 0 where
  pub old : PartState
  pub here : In old ps
  pub member : p.member ≡ old.member
  pub number : p.number ≡ old.number
  pub stopped : old.stage ≡ Stopped → p.stage ≡ Stopped

pub came_self : (ps : List PartState) (p : PartState) → In p ps → Came ps p
came_self ps p i = record { old = p; here = i; member = refl; number = refl; stopped = λ s. s }

came_over : (ps : List PartState) (q p : PartState) → Came ps q → p.member ≡ q.member → p.number ≡ q.number → (q.stage ≡ Stopped → p.stage ≡ Stopped) → Came ps p
came_over ps q p c member number stopped = record { old = c.old; here = c.here; member = member ∙ c.member; number = number ∙ c.number; stopped = λ s. stopped (c.stopped s) }

-- a run leads to the placement
pub record IsPlaced (s : PlacementState) : Type 0 where
  pub run : List RunEvent
  pub leads : s ≡ run_state new_placement run

run-pushed : (s : PlacementState) (run : List RunEvent) (e : RunEvent) → run_state s (run ++ e ∷ []) ≡ state_after (run_state s run) e
run-pushed s [] e = refl
run-pushed s (x ∷ run) e = run-pushed (state_after s x) run e

placed_on : (s : PlacementState) (e : RunEvent) → IsPlaced s → IsPlaced (state_after s e)
placed_on s e t = record { run = t.run ++ e ∷ []; leads = ap (λ (z : PlacementState). state_after z e) t.leads ∙ sym (run-pushed new_placement t.run e) }

module _ (owner : PlacementTable → ActorKey → Option HostInfo) (part_of : ActorKey → ℕ → ℕ) where
  -- the cluster follows the other one
  pub record Follows (u w : ClusterState) : Type 0 where
    pub told : IsToldWorld owner part_of w
    pub placed : IsPlaced w.placement
    pub parts : (p : PartState) → In p w.parts → Came u.parts p ⊎ (u.boots < p.member.boot)
    pub boots : u.boots ≤ w.boots

  pub follows_self : (w : ClusterState) → IsToldWorld owner part_of w → IsPlaced w.placement → Follows w w
  follows_self w told placed = record { told = told; placed = placed; parts = λ p i. inl (came_self w.parts p i); boots = omega arith }

  pub follows_kept : KeepsToSpace owner → (u : ClusterState) → AreKept owner part_of (Follows u)
  follows_kept keeps u =
      let kept = told_kept owner part_of keeps in
      record {
        safe = λ w t. t.told.safe;
        other = λ w now calls events t. record { told = kept.other w now calls events t.told; placed = t.placed; parts = t.parts; boots = t.boots };
        step = λ w n p e t at heard asked.
            let i = In-slice_get w.parts n p at in
            let q : PartState = (part_step owner p e).part in
            let st = part_stepped owner p e (backed owner w t.told.safe p i).sound in
            record {
              told = kept.step w n p e t.told at heard asked;
              placed = t.placed;
              parts = λ x j. elim (In-set w.parts n q x j) [
                | inl z ↦ elim (t.parts p i) [
                  | inl c ↦ inl (came_over u.parts p x c (ap (λ (y : PartState). y.member) z ∙ st.member) (ap (λ (y : PartState). y.number) z ∙ st.number) (λ s. ap (λ (y : PartState). y.stage) z ∙ st.stop_stays s))
                  | inr l ↦ inr (subst (λ (m : Member). u.boots < m.boot) (sym (ap (λ (y : PartState). y.member) z ∙ st.member)) l)
                ]
                | inr l ↦ t.parts x l
              ];
              boots = t.boots;
            };
        ask = λ w r t may booted. record { told = kept.ask w r t.told may booted; placed = t.placed; parts = t.parts; boots = t.boots };
        answer = λ w r t i. record { told = kept.answer w r t.told i; placed = placed_on w.placement (Steps (change_of r) w.now) t.placed; parts = t.parts; boots = t.boots };
        change = λ w e t h. record { told = kept.change w e t.told h; placed = placed_on w.placement (Steps e w.now) t.placed; parts = t.parts; boots = t.boots };
        restart = λ w t. record { told = kept.restart w t.told; placed = placed_on w.placement (Restarts w.now) t.placed; parts = t.parts; boots = t.boots };
        boot = λ w m kinds fresh t. record {
          told = kept.boot w m kinds fresh t.told;
          placed = t.placed;
          parts = λ x j. elim (In-append w.parts (world.new_parts m (world.settings_for w.settings kinds) 0 w.settings.parts) x j) [
            | inl l ↦ t.parts x l
            | inr l ↦ inr (
                let h = In-new_parts m (world.settings_for w.settings kinds) 0 w.settings.parts x l in
                let e : x.member ≡ m = ap (λ (y : PartState). y.member) h.1 in
                let b : x.member.boot ≡ suc w.boots = ap (λ (y : Member). y.boot) e ∙ fresh in
                let low = t.boots in
                omega arith
                )
          ];
          boots = (let low = t.boots in omega arith);
        };
      }

  pub opening_told : (settings : WorldSettings) → IsToldWorld owner part_of (world.opening_cluster settings)
  opening_told settings = record { safe = new_world_safe owner part_of settings; told = new_world_told owner part_of settings }
