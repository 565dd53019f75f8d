-- What follows from how the calls were made: turns that overlap come from lines that name one chain; and each part has
-- the settings of its member's boot line.
use Rattle.std.proofs.Common.{◌≡◌, ℕ, List, [], ◌∷◌, ◌++◌, Option, None, Some, IsSome, sym, ap, ◌∙◌, subst, inl, inr}
use Rattle.std.specs.Prelude.{◌==◌}
use Rattle.std.proofs.lemmas.Bool.{cond_both}
use Rattle.actor_names.specs.declared.member.Member.{Member}
use Rattle.actor_names.specs.declared.actor_key.ActorKey.{ActorKey}
use Rattle.place_table.specs.declared.host.HostInfo.{HostInfo}
use Rattle.place_table.specs.Hosts.{PlacementTable}
use Rattle.turn_core.specs.CellSound.{In}
use Rattle.turn_core.proofs.Elements.{In-left, In-last}
use Rattle.part_model.specs.Part.{PartState, chain_or, made_chain, part_step}
use Rattle.part_model.specs.Settings.{settings_of}
use Rattle.part_model.proofs.PartTables.{part_stepped}
use Rattle.world_events.specs.declared.event.WorldEvent.{WorldEvent}
use Rattle.world_events.specs.declared.settings.WorldSettings.{WorldSettings}
use Rattle.cluster_model.specs.Spaces.{KeepsToSpace}
use Rattle.cluster_model.proofs.SpaceParts.{backed}
use Rattle.cluster_model.specs.Asked.{asked_calls, chain_under, OverlapsAreNamedAlike, PartsHaveSettings}
use Rattle.cluster_model.specs.Messages.{Register, Message, Asks}
use Rattle.cluster_model.specs.World as world
use Rattle.cluster_model.specs.World.{ClusterState, host_of, settings_for}
use Rattle.cluster_model.proofs.Askings.{run_asked}
use Rattle.cluster_model.proofs.Basics.{In-append, In-right, In-middle, In-set, In-slice_get}
use Rattle.cluster_model.proofs.Boots.{In-new_parts}
use Rattle.cluster_model.proofs.Clusters.{run_invariant}
use Rattle.cluster_model.specs.Invariant.{IsSafeWorld}
use Rattle.cluster_model.proofs.Lines.{AreKept, run_kept}
use Rattle.cluster_model.proofs.Worlds.{step_safe, safe_kept, new_world_safe}

-- a chain under which a line made its call is the one that it names
under_named : (p : PartState) (k : ActorKey) (call : ℕ) (named x : Option (List ℕ)) (c : List ℕ) → x ≡ chain_under p k call named → IsSome x → named ≡ Some c → x ≡ Some c
under_named p k call named x c e some n =
    e ∙ cond_both ((settings_of p.kinds k.kind).depth == 0) None (chain_or named (made_chain p.member p.number call)) (λ (r : Option (List ℕ)). IsSome r → r ≡ Some c)
    (λ _ s. absurd (cc)) (λ _ _. ap (λ (z : Option (List ℕ)). chain_or z (made_chain p.member p.number call)) n) (subst IsSome e some)

same_some : (c d : List ℕ) → Some c ≡ Some d → c ≡ d
same_some c d e = cc

module _ (owner : PlacementTable → ActorKey → Option HostInfo) (part_of : ActorKey → ℕ → ℕ) where
  pub run_named : KeepsToSpace owner → (settings : WorldSettings) (es : List WorldEvent)
      → OverlapsAreNamedAlike part_of (world.cluster_run owner part_of (world.opening_cluster settings) es) (asked_calls es (world.outcomes owner part_of (world.opening_cluster settings) es))
  run_named keeps settings es before middle after m n k a b x y e off =
      let t = run_asked owner part_of settings es in
      let h = (run_invariant owner part_of keeps settings es).isolated.one_chain before middle after m n k a b x y e off in
      let first = t.began m k a x (subst (In _) (sym e) (In-middle before _ _)) in
      let second = t.began n k b y (subst (In _) (sym e) (In-right before _ _ (inr (In-middle middle _ after)))) in
      record {
        first = first;
        second = second;
        one_member = h.0;
        alike = λ c d p q. same_some c d (sym (under_named first.part k a first.named x c first.under h.2 p) ∙ h.1 ∙ under_named second.part k b second.named y d second.under (subst IsSome h.1 h.2) q);
      }

  -- ---- settings

  record AreSettled (w : ClusterState) : Type 0 where
    safe : IsSafeWorld owner w
    kinds : PartsHaveSettings w

  more_messages : (w : ClusterState) (ms : List Message) → PartsHaveSettings w → (p : PartState) → In p w.parts → (kinds : List (List ℕ)) × In (Asks (Register (host_of p.member kinds))) (w.messages ++ ms) × (p.kinds ≡ settings_for w.settings kinds)
  more_messages w ms t p i = let h = t p i in (h.0, In-left w.messages ms _ h.1, h.2)

  settled_kept : AreKept owner part_of AreSettled
  settled_kept =
      record {
        safe = λ w t. t.safe;
        other = λ w now calls events t. record { safe = (safe_kept owner part_of).other w now calls events t.safe; kinds = t.kinds };
        step = λ w n p e t at heard asked.
            let i = In-slice_get w.parts n p at in
            let st = part_stepped owner p e (backed owner w t.safe p i).sound in
            record {
              safe = step_safe owner part_of w n p e t.safe at heard;
              kinds = λ x j. elim (In-set w.parts n (part_step owner p e).part x j) [
                | inl z ↦ (
                    let h = t.kinds p i in
                    let m : x.member ≡ p.member = ap (λ (y : PartState). y.member) z ∙ st.member in
                    (h.0, subst (λ (y : Member). In (Asks (Register (host_of y h.0))) w.messages) (sym m) h.1, ap (λ (y : PartState). y.kinds) z ∙ st.kinds ∙ h.2))
                | inr l ↦ t.kinds x l
              ];
            };
        ask = λ w r t may booted. record { safe = (safe_kept owner part_of).ask w r t.safe may booted; kinds = more_messages w _ t.kinds };
        answer = λ w r t i. record { safe = (safe_kept owner part_of).answer w r t.safe i; kinds = more_messages w _ t.kinds };
        change = λ w e t h. record { safe = (safe_kept owner part_of).change w e t.safe h; kinds = t.kinds };
        restart = λ w t. record { safe = (safe_kept owner part_of).restart w t.safe; kinds = t.kinds };
        boot = λ w m kinds fresh t. record {
          safe = (safe_kept owner part_of).boot w m kinds fresh t.safe;
          kinds = λ x j. elim (In-append w.parts (world.new_parts m (settings_for w.settings kinds) 0 w.settings.parts) x j) [
            | inl l ↦ more_messages w _ t.kinds x l
            | inr l ↦ (
                let h = In-new_parts m (settings_for w.settings kinds) 0 w.settings.parts x l in
                let y : x.member ≡ m = ap (λ (z : PartState). z.member) h.1 in
                (kinds, subst (λ (z : Member). In (Asks (Register (host_of z kinds))) (w.messages ++ Asks (Register (host_of m kinds)) ∷ [])) (sym y) (In-last w.messages _), ap (λ (z : PartState). z.kinds) h.1))
          ];
        };
      }

  pub run_settings : (settings : WorldSettings) (es : List WorldEvent) → PartsHaveSettings (world.cluster_run owner part_of (world.opening_cluster settings) es)
  run_settings settings es =
      (run_kept owner part_of AreSettled settled_kept (world.opening_cluster settings) es (record { safe = new_world_safe owner part_of settings; kinds = λ p i. absurd i })).kinds
