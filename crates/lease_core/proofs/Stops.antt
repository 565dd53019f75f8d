-- A list of stops leaves stopped each part that it names.
use Rattle.std.proofs.Common.{◌≡◌, ◌⊎◌, ℕ, ◌+◌, ◌<◌, ◌≤◌, List, [], ◌∷◌, length, set, Option, None, Some, refl, sym, ap, ◌∙◌, subst, inl, inr, arith}
use Rattle.std.specs.Prelude.{nat_le, slice_get, Result, Ok, Err}
use Rattle.std.proofs.lemmas.Bool.{cond_both, cond-false, lt-leb}
use Rattle.actor_names.specs.declared.member.Member.{Member}
use Rattle.actor_names.specs.declared.actor_key.ActorKey.{ActorKey}
use Rattle.place_table.specs.declared.host.HostInfo.{HostInfo}
use Rattle.place_table.specs.Hosts.{PlacementTable}
use Rattle.turn_core.specs.CellSound.{In}
use Rattle.part_model.specs.declared.event.PartEvent.TheVariants as events
use Rattle.part_model.specs.declared.stage.Stage.{Stage}
use Rattle.part_model.specs.declared.stage.Stage.TheVariants.{Locked, Updated, Open, Stopped}
use Rattle.part_model.specs.Part.{PartState, part_step, step_at}
use Rattle.world_events.specs.declared.event.WorldEvent.{WorldEvent}
use Rattle.world_events.specs.declared.event.WorldEvent.TheVariants as lines
use Rattle.world_events.specs.declared.outcome.Outcome.{Outcome}
use Rattle.world_events.specs.declared.error.WorldError.{WorldError}
use Rattle.cluster_model.specs.World as world
use Rattle.cluster_model.specs.World.{ClusterState, WorldStep, place_of_part, most_events}
use Rattle.cluster_model.specs.Spaces.{KeepsToSpace}
use Rattle.cluster_model.proofs.Basics.{In-slice_get}
use Rattle.cluster_model.proofs.Histories.{get-set}
use Rattle.cluster_model.proofs.Lines.{step_kept, run_kept}
use Rattle.cluster_model.proofs.Named.{same_place, place-In, place_found}
use Rattle.cluster_model.proofs.Runs.{IsToldWorld, told_kept}
use Rattle.cluster_model.proofs.SpaceParts.{backed}
use Rattle.lease_core.proofs.Lists.{AreStops, some_same}
use Rattle.lease_core.proofs.Quiet.{Rests, quiet_rests}
use Rattle.lease_core.proofs.Follows.{IsPlaced, Follows, follows_self, follows_kept}

module _ (owner : PlacementTable → ActorKey → Option HostInfo) (part_of : ActorKey → ℕ → ℕ) where
  stop_at : (p : PartState) (s : Stage) → p.stage ≡ s → (step_at owner p s events.StopPart).part.stage ≡ Stopped
  stop_at p Stopped e = e
  stop_at p Locked e = refl
  stop_at p Updated e = refl
  stop_at p Open e = refl

  -- the member's part of this number has stopped
  abbrev IsStopped : Member → ℕ → List PartState → Type 0
  IsStopped m i ps = (p : PartState) → In p ps → p.member ≡ m → p.number ≡ i → p.stage ≡ Stopped

  -- a part that is at another place than the first of its number
  no_place : (w : ClusterState) (m : Member) (i : ℕ) (o : Option ℕ) → place_of_part w.parts m i ≡ o → ((n : ℕ) → o ≡ Some n → slice_get w.parts n ≡ None) → IsStopped m i w.parts
  no_place w m i o is none p j a b =
      let h = place_found w.parts p j in
      let e : o ≡ Some h.0 = sym is ∙ subst (λ (z : Member). place_of_part w.parts z i ≡ Some h.0) a (subst (λ (z : ℕ). place_of_part w.parts p.member z ≡ Some h.0) b h.2) in
      absurd (let f = none h.0 e in let g = h.3 in cc)

  at_place : (w : ClusterState) (m : Member) (i n : ℕ) (p : PartState) → IsToldWorld owner part_of w → place_of_part w.parts m i ≡ Some n → slice_get w.parts n ≡ Some p → IsStopped m i (set w.parts n (part_step owner p events.StopPart).part)
  at_place w m i n p t is at x j a b =
      let q : PartState = (part_step owner p events.StopPart).part in
      let k = place-In (set w.parts n q) x j in
      elim (get-set w.parts n k.0 q x p at k.1) [
        | inl h ↦ ap (λ (z : PartState). z.stage) h.1 ∙ stop_at p p.stage refl
        | inr h ↦ (let g = same_place w.parts m i n p is at in absurd (h.0 (t.told.fits.apart k.0 n x p h.1 at (a ∙ sym g.0) (b ∙ sym g.1))))
      ]

  stop_does : (w : ClusterState) (m : Member) (i : ℕ) → IsToldWorld owner part_of w → (o : Option ℕ) → place_of_part w.parts m i ≡ o → IsStopped m i (world.part_does owner part_of w o events.StopPart (λ _. world.stop_outcome)).world.parts
  stop_does w m i t None is = no_place w m i None is (λ n e. absurd (cc))
  stop_does w m i t (Some n) is = go (slice_get w.parts n) refl
    where
      go : (o : Option PartState) → slice_get w.parts n ≡ o → IsStopped m i (world.step_of_part owner part_of w n events.StopPart world.stop_outcome o).world.parts
      go (Some p) at = at_place w m i n p t is at
      go None at = no_place w m i (Some n) is (λ k e. subst (λ (z : ℕ). slice_get w.parts z ≡ None) (some_same n k e) at)

  weight : (r : Result Outcome WorldError) → world.weight_of r ≤ 1
  weight (Ok o) = omega arith
  weight (Err x) = omega arith

  -- one stop
  pub one_stop : (w : ClusterState) (m : Member) (i : ℕ) → IsToldWorld owner part_of w → w.events < most_events → IsStopped m i (world.cluster_step owner part_of w (lines.Stop m i)).world.parts
  one_stop w m i t l =
      subst (λ (s : WorldStep). IsStopped m i s.world.parts) (sym (cond-false (nat_le most_events w.events) _ _ (lt-leb most_events w.events l)))
      (stop_does w m i t (place_of_part w.parts m i) refl)

  -- what a stop leaves
  pub record Goes (w u : ClusterState) : Type 0 where
    pub placement : u.placement ≡ w.placement
    pub messages : u.messages ≡ w.messages
    pub boots : u.boots ≡ w.boots
    pub settings : u.settings ≡ w.settings
    pub events : u.events ≤ w.events + 1

  stop_goes : (w : ClusterState) (m : Member) (i : ℕ) → Goes w (world.cluster_step owner part_of w (lines.Stop m i)).world
  stop_goes w m i =
      cond_both (nat_le most_events w.events) _ _ (λ (s : WorldStep). Goes w s.world)
      (λ _. record { placement = refl; messages = refl; boots = refl; settings = refl; events = omega arith })
      (λ _.
      let h = world.happens owner part_of w (lines.Stop m i) in
      let r = quiet_rests owner part_of w (lines.Stop m i) tt in
      record {
        placement = r.placement;
        messages = r.messages;
        boots = r.boots;
        settings = r.settings;
        events = (let a = r.events in let b = weight h.outcome in omega arith);
      })

  pub record GoesOn (w u : ClusterState) : Type 0 where
    pub placement : u.placement ≡ w.placement
    pub messages : u.messages ≡ w.messages
    pub boots : u.boots ≡ w.boots
    pub settings : u.settings ≡ w.settings

  pub stops_go : (w : ClusterState) (es : List WorldEvent) → AreStops es → GoesOn w (world.cluster_run owner part_of w es)
  stops_go w [] are = record { placement = refl; messages = refl; boots = refl; settings = refl }
  stops_go w (e ∷ es) are =
      let s = are e (inl refl) in
      let g : Goes w (world.cluster_step owner part_of w e).world = subst (λ (x : WorldEvent). Goes w (world.cluster_step owner part_of w x).world) (sym s.2) (stop_goes w s.0 s.1) in
      let more = stops_go (world.cluster_step owner part_of w e).world es (λ x i. are x (inr i)) in
      record { placement = more.placement ∙ g.placement; messages = more.messages ∙ g.messages; boots = more.boots ∙ g.boots; settings = more.settings ∙ g.settings }

  module _ (keeps : KeepsToSpace owner) where
    -- a run follows its beginning
    pub run_follows : (w : ClusterState) (es : List WorldEvent) → IsToldWorld owner part_of w → IsPlaced w.placement → Follows owner part_of w (world.cluster_run owner part_of w es)
    run_follows w es t placed = run_kept owner part_of (Follows owner part_of w) (follows_kept owner part_of keeps w) w es (follows_self owner part_of w t placed)

    -- each part that a list of stops names has stopped after it
    pub all_stop : (w : ClusterState) (es : List WorldEvent) → AreStops es → IsToldWorld owner part_of w → IsPlaced w.placement → w.events + length es ≤ most_events → (m : Member) (i : ℕ) → In (lines.Stop m i) es →
        IsStopped m i (world.cluster_run owner part_of w es).parts
    all_stop w [] are t placed l m i j p q a b = absurd j
    all_stop w (e ∷ es) are t placed l m i (inr j) p q a b =
        let u = (world.cluster_step owner part_of w e).world in
        let s = are e (inl refl) in
        let g : Goes w u = subst (λ (x : WorldEvent). Goes w (world.cluster_step owner part_of w x).world) (sym s.2) (stop_goes w s.0 s.1) in
        let told = step_kept owner part_of (IsToldWorld owner part_of) (told_kept owner part_of keeps) w e t in
        all_stop u es (λ x k. are x (inr k)) told (subst IsPlaced (sym g.placement) placed) (let h = g.events in omega arith) m i j p q a b
    all_stop w (e ∷ es) are t placed l m i (inl same) p j a b =
        let u = (world.cluster_step owner part_of w e).world in
        let s = are e (inl refl) in
        let g : Goes w u = subst (λ (x : WorldEvent). Goes w (world.cluster_step owner part_of w x).world) (sym s.2) (stop_goes w s.0 s.1) in
        let told = step_kept owner part_of (IsToldWorld owner part_of) (told_kept owner part_of keeps) w e t in
        let placed' = subst IsPlaced (sym g.placement) placed in
        let one : IsStopped m i u.parts = subst (λ (x : WorldEvent). IsStopped m i (world.cluster_step owner part_of w x).world.parts) same (one_stop w m i t (omega arith)) in
        let f = run_follows u es told placed' in
        elim (f.parts p j) [
          | inl c ↦ c.stopped (one c.old c.here (sym c.member ∙ a) (sym c.number ∙ b))
          | inr n ↦ absurd (
              let end = world.cluster_run owner part_of u es in
              let k = (backed owner end f.told.safe p j).booted in
              let h = (stops_go u es (λ x q. are x (inr q))).boots in
              omega arith
              )
        ]
