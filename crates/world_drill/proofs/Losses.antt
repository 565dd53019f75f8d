-- If a member has two parts, it has stopped once both are told to: its parts are numbered below 2, and no two have the
-- same number.
use Rattle.std.proofs.Common.{◌≡◌, ◌⊎◌, ℕ, Bool, true, false, not, ◌||◌, ◌<◌, List, [], ◌∷◌, set, Option, None, Some, refl, sym, ap, ◌∙◌, subst, inl, inr, arith}
use Rattle.std.specs.Prelude.{zero, suc, nat_le, slice_get}
use Rattle.std.proofs.lemmas.Bool.{cond_both, and_from, both_ways}
use Rattle.actor_names.specs.declared.member.Member.{Member}
use Rattle.actor_names.specs.declared.actor_key.ActorKey.{ActorKey}
use Rattle.place_table.specs.declared.host.HostInfo.{HostInfo}
use Rattle.place_table.specs.Hosts.{PlacementTable}
use Rattle.turn_core.specs.CellSound.{In}
use Rattle.part_model.specs.declared.event.PartEvent.TheVariants as events
use Rattle.part_model.specs.declared.stage.Stage.{Stage}
use Rattle.part_model.specs.declared.stage.Stage.TheVariants.{Locked, Updated, Open, Stopped}
use Rattle.actor_names.specs.Same.{same_member}
use Rattle.part_model.specs.Part.{PartState, is_stopped, part_step, step_at}
use Rattle.part_model.proofs.PartTables.{part_stepped}
use Rattle.world_events.specs.declared.settings.WorldSettings.{WorldSettings}
use Rattle.world_events.specs.declared.event.WorldEvent.TheVariants as lines
use Rattle.cluster_model.specs.World as world
use Rattle.cluster_model.specs.World.{ClusterState, place_of_part, all_stopped, most_events, new_parts}
use Rattle.cluster_model.proofs.Basics.{same_member-true, In-append, In-set, In-slice_get}
use Rattle.cluster_model.proofs.Histories.{get-set, some_same}
use Rattle.cluster_model.proofs.Lines.{AreKept}
use Rattle.cluster_model.specs.Spaces.{KeepsToSpace}
use Rattle.cluster_model.proofs.SpaceParts.{backed}
use Rattle.cluster_model.proofs.Boots.{number-new_parts}
use Rattle.cluster_model.proofs.Named.{same_place, place-In, place_found}
use Rattle.cluster_model.proofs.Runs.{IsToldWorld, told_kept, new_world_told}
use Rattle.cluster_model.proofs.Worlds.{new_world_safe}

-- ---- lists of parts

stopped-true : (s : Stage) → s ≡ Stopped → is_stopped s ≡ true
stopped-true s e = rw e refl

-- a member all of whose parts have stopped
pub all_stopped-from : (ps : List PartState) (m : Member) → ((p : PartState) → In p ps → p.member ≡ m → p.stage ≡ Stopped) → all_stopped ps m ≡ true
all_stopped-from [] m h = refl
all_stopped-from (x ∷ ps) m h =
    and_from _ _ (here (same_member m x.member) refl) (all_stopped-from ps m (λ p i e. h p (inr i) e))
  where
    here : (b : Bool) → same_member m x.member ≡ b → (not b || is_stopped x.stage) ≡ true
    here false e = refl
    here true e = stopped-true x.stage (h x (inl refl) (sym (same_member-true m x.member e)))

module _ (owner : PlacementTable → ActorKey → Option HostInfo) (part_of : ActorKey → ℕ → ℕ) where
  -- ---- what every event keeps

  pub record HasTwoEach (w : ClusterState) : Type 0 where
    pub told : IsToldWorld owner part_of w
    pub two : w.settings.parts ≡ 2
    pub below : (p : PartState) → In p w.parts → p.number < 2

  pub two_kept : KeepsToSpace owner → AreKept owner part_of HasTwoEach
  two_kept keeps =
      let kept = told_kept owner part_of keeps in
      record {
        safe = λ w t. t.told.safe;
        other = λ w now calls events t. record { told = kept.other w now calls events t.told; two = t.two; below = t.below };
        step = λ w n p e t at heard asked.
            let i = In-slice_get w.parts n p at in
            let st = part_stepped owner p e (backed owner w t.told.safe p i).sound in
            record {
              told = kept.step w n p e t.told at heard asked;
              two = t.two;
              below = λ x j. elim (In-set w.parts n (part_step owner p e).part x j) [
                | inl z ↦ (let a : x.number ≡ p.number = ap (λ (y : PartState). y.number) z ∙ st.number in subst (λ (k : ℕ). k < 2) (sym a) (t.below p i))
                | inr l ↦ t.below x l
              ];
            };
        ask = λ w r t may booted. record { told = kept.ask w r t.told may booted; two = t.two; below = t.below };
        answer = λ w r t i. record { told = kept.answer w r t.told i; two = t.two; below = t.below };
        change = λ w e t h. record { told = kept.change w e t.told h; two = t.two; below = t.below };
        restart = λ w t. record { told = kept.restart w t.told; two = t.two; below = t.below };
        boot = λ w m kinds fresh t. record {
          told = kept.boot w m kinds fresh t.told;
          two = t.two;
          below = λ x j. elim (In-append w.parts (new_parts m (world.settings_for w.settings kinds) 0 w.settings.parts) x j) [
            | inl l ↦ t.below x l
            | inr l ↦ (let a = number-new_parts m (world.settings_for w.settings kinds) 0 w.settings.parts x l in let b = t.two in omega arith)
          ];
        };
      }

  pub new_two : (settings : WorldSettings) → settings.parts ≡ 2 → HasTwoEach (world.opening_cluster settings)
  new_two settings two = record { told = record { safe = new_world_safe owner part_of settings; told = new_world_told owner part_of settings }; two = two; below = λ p i. absurd i }

  -- ---- one stop

  stop_at : (p : PartState) (s : Stage) → p.stage ≡ s → (step_at owner p s events.StopPart).part.stage ≡ Stopped
  stop_at p Stopped e = e
  stop_at p Locked e = refl
  stop_at p Updated e = refl
  stop_at p Open e = refl

  -- there is room for no further event, or this part of the member has stopped
  abbrev pub IsStopped : Member → ℕ → ClusterState → Type 0
  IsStopped m i w = (nat_le most_events w.events ≡ true) ⊎ ((p : PartState) → In p w.parts → p.member ≡ m → p.number ≡ i → p.stage ≡ Stopped)

  -- the parts after one of them has stopped
  abbrev Halts : ClusterState → Member → ℕ → List PartState → Type 0
  Halts w m i ps = (x : PartState) → In x ps → (p : PartState) × In p w.parts × (x.member ≡ p.member) × (x.number ≡ p.number) × (p.stage ≡ Stopped → x.stage ≡ Stopped) × (p.member ≡ m → p.number ≡ i → x.stage ≡ Stopped)

  halts_none : (w : ClusterState) (m : Member) (i : ℕ) → place_of_part w.parts m i ≡ None → Halts w m i w.parts
  halts_none w m i none x j = (
    x,
    j,
    refl,
    refl,
    λ s. s,
    λ a b.
        (let h = place_found w.parts x j in
        let e : place_of_part w.parts x.member x.number ≡ None = subst (λ (z : Member). place_of_part w.parts z x.number ≡ None) (sym a) (subst (λ (z : ℕ). place_of_part w.parts m z ≡ None) (sym b) none) in
        let f = h.2 in absurd (cc)),
  )

  halts_at : (w : ClusterState) (m : Member) (i n : ℕ) (p : PartState) → HasTwoEach w → place_of_part w.parts m i ≡ Some n → slice_get w.parts n ≡ Some p → Halts w m i (set w.parts n (part_step owner p events.StopPart).part)
  halts_at w m i n p t is at x j =
      let q : PartState = (part_step owner p events.StopPart).part in
      let st = part_stepped owner p events.StopPart (backed owner w t.told.safe p (In-slice_get w.parts n p at)).sound in
      let k = place-In (set w.parts n q) x j in
      elim (get-set w.parts n k.0 q x p at k.1) [
        | inl h ↦ (
            let s : x.stage ≡ Stopped = ap (λ (z : PartState). z.stage) h.1 ∙ stop_at p p.stage refl in
            (p, In-slice_get w.parts n p at, ap (λ (z : PartState). z.member) h.1 ∙ st.member, ap (λ (z : PartState). z.number) h.1 ∙ st.number, λ _. s, λ _ _. s))
        | inr h ↦ (
          x,
          In-slice_get w.parts k.0 x h.1,
          refl,
          refl,
          λ s. s,
          λ a b. (let g = same_place w.parts m i n p is at in absurd (h.0 (t.told.told.fits.apart k.0 n x p h.1 at (a ∙ sym g.0) (b ∙ sym g.1)))),
        )
      ]

  abbrev Ends : ClusterState → Member → ℕ → world.WorldStep → Type 0
  Ends w m i s = Halts w m i s.world.parts

  stop_does : (w : ClusterState) (m : Member) (i : ℕ) → HasTwoEach w → (o : Option ℕ) → place_of_part w.parts m i ≡ o → Ends w m i (world.part_does owner part_of w o events.StopPart (λ _. world.stop_outcome))
  stop_does w m i t None is = halts_none w m i is
  stop_does w m i t (Some n) is = go (slice_get w.parts n) refl
    where
      go : (o : Option PartState) → slice_get w.parts n ≡ o → Ends w m i (world.step_of_part owner part_of w n events.StopPart world.stop_outcome o)
      go (Some p) at = halts_at w m i n p t is at
      go None at =
          λ x j. (
            x,
            j,
            refl,
            refl,
            λ s. s,
            λ a b.
                (let h = place_found w.parts x j in
                let e : place_of_part w.parts x.member x.number ≡ Some n = subst (λ (z : Member). place_of_part w.parts z x.number ≡ Some n) (sym a) (subst (λ (z : ℕ). place_of_part w.parts m z ≡ Some n) (sym b) is) in
                let same : h.0 ≡ n = some_same h.0 n (sym h.2 ∙ e) in
                let f : slice_get w.parts n ≡ Some h.1 = subst (λ (z : ℕ). slice_get w.parts z ≡ Some h.1) same h.3 in absurd (cc)),
          )

  -- a stop stops the part, and leaves parts stopped that had stopped
  pub stop_stops : (w : ClusterState) (m : Member) (i : ℕ) → HasTwoEach w → IsStopped m i (world.cluster_step owner part_of w (lines.Stop m i)).world
  stop_stops w m i t =
      cond_both (nat_le most_events w.events) _ _ (λ (s : world.WorldStep). IsStopped m i s.world)
      (λ spent. inl spent)
      (λ _. inr (λ x j a b. (let h = stop_does w m i t (place_of_part w.parts m i) refl x j in h.5 (sym h.2 ∙ a) (sym h.3 ∙ b))))

  pub stop_keeps : (w : ClusterState) (m : Member) (i k : ℕ) → HasTwoEach w → IsStopped m k w → IsStopped m k (world.cluster_step owner part_of w (lines.Stop m i)).world
  stop_keeps w m i k t before =
      cond_both (nat_le most_events w.events) _ _ (λ (s : world.WorldStep). IsStopped m k s.world)
      (λ spent. inl spent)
      (λ room. elim before [
        | inl spent ↦ absurd (both_ways _ room spent)
        | inr s ↦ inr (λ x j a b. (let h = stop_does w m i t (place_of_part w.parts m i) refl x j in h.4 (s h.0 h.1 (sym h.2 ∙ a) (sym h.3 ∙ b))))
      ])

  -- ---- both parts of a member

  pub both_stopped : (w : ClusterState) (m : Member) → HasTwoEach w → IsStopped m 0 w → IsStopped m 1 w → (nat_le most_events w.events ≡ true) ⊎ (all_stopped w.parts m ≡ true)
  both_stopped w m t (inl spent) other = inl spent
  both_stopped w m t (inr a) (inl spent) = inl spent
  both_stopped w m t (inr a) (inr b) =
      inr (all_stopped-from w.parts m (λ p i e. elim (low p.number (t.below p i)) [ inl z ↦ a p i e z | inr o ↦ b p i e o ]))
    where
      low : (n : ℕ) → n < 2 → (n ≡ 0) ⊎ (n ≡ 1)
      low zero h = inl refl
      low (suc n) h = inr (omega arith)
