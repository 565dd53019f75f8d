-- For every list of events: a part stays sound, its versions stay tied, and an open part's active actors are its own.
use Rattle.std.proofs.Common.{◌≡◌, ℕ, true, false, not, ◌&&◌, List, [], ◌∷◌, Option, refl, sym, ap, ◌∙◌, subst, inl, inr, arith}
use Rattle.std.proofs.lemmas.Bool.{and_parts, and_from, and_cases, cond_both, cond-true, cases_Bool, true≢false, not-true, not-false}
use Rattle.actor_names.specs.declared.actor_key.ActorKey.{ActorKey}
use Rattle.actor_names.specs.declared.member.Member.{Member}
use Rattle.place_table.specs.declared.host.HostInfo.{HostInfo}
use Rattle.place_table.specs.Hosts.{PlacementTable}
use Rattle.turn_core.specs.CellSound.{In}
use Rattle.part_model.specs.declared.settings.TypeSettings.{TypeSettings}
use Rattle.part_model.specs.declared.stage.SeenStage.{SeenStage}
use Rattle.part_model.specs.declared.stage.SeenStage.TheVariants as seen
use Rattle.part_model.specs.declared.stage.Stage.{Stage}
use Rattle.part_model.specs.declared.stage.Stage.TheVariants.{Locked, Updated, Open, Stopped}
use Rattle.part_model.specs.declared.event.PartEvent.{PartEvent}
use Rattle.part_model.specs.declared.actor_cell.ActorCell.{ActorCell}
use Rattle.part_model.specs.Part.{PartState, new_part, is_own, is_owned_by, is_foreign, no_active_foreign, is_drained, seen_stage, part_step}
use Rattle.part_model.specs.Rooms.{IsInRange}
use Rattle.part_model.specs.Sound.{IsPartSound, AreVersionsWithin, OwnsActive, OwnsWhenOpenAt, OwnsWhenOpen}
use Rattle.part_model.specs.PartMoves.{Moves, keeps, locks, updates, opens, stops, Stepped}
use Rattle.part_model.specs.PartRuns.{part_after, AreInRange, AreTiedAt, AreVersionsTied, IsTrulyDrained}
use Rattle.part_model.proofs.PartTables.{new_part_sound, part_stepped}

-- ---- versions

pub tied_open : (s : Stage) (p : PartState) → s ≡ Open → AreTiedAt s p → (p.table.version ≡ p.seen) × (p.opened ≡ p.seen)
tied_open Open p e t = t
tied_open Locked p e t = absurd (cc)
tied_open Updated p e t = absurd (cc)
tied_open Stopped p e t = absurd (cc)

pub tied_updated : (s : Stage) (p : PartState) → s ≡ Updated → AreTiedAt s p → p.table.version ≡ p.seen
tied_updated Updated p e t = t
tied_updated Locked p e t = absurd (cc)
tied_updated Open p e t = absurd (cc)
tied_updated Stopped p e t = absurd (cc)

tied_of : (s : Stage) (p : PartState) → (s ≡ Updated → p.table.version ≡ p.seen) → (s ≡ Open → (p.table.version ≡ p.seen) × (p.opened ≡ p.seen)) → AreTiedAt s p
tied_of Updated p u o = u refl
tied_of Open p u o = o refl
tied_of Locked p u o = tt
tied_of Stopped p u o = tt

version_of : (t u : PlacementTable) → t ≡ u → t.version ≡ u.version
version_of t u e = ap (λ (z : PlacementTable). z.version) e

module _ (owner : PlacementTable → ActorKey → Option HostInfo) where
  pub moves_tied : (p : PartState) (e : PartEvent) (q : PartState) → Moves owner p e q → AreVersionsTied p → AreVersionsTied q
  moves_tied p e q (keeps stage seen opened table) t =
      let v = version_of q.table p.table table in
      record {
        opened_seen = (let h = t.opened_seen in omega arith);
        table_seen = (let h = t.table_seen in omega arith);
        stage = tied_of q.stage q (λ u. (let h = tied_updated p.stage p (sym stage ∙ u) t.stage in omega arith))
            (λ o. (let h = tied_open p.stage p (sym stage ∙ o) t.stage in (let a = h.0 in omega arith, let b = h.1 in omega arith)));
      }
  moves_tied p e q (locks stage more opened table heard) t =
      let v = version_of q.table p.table table in
      record {
        opened_seen = (let h = t.opened_seen in omega arith);
        table_seen = (let h = t.table_seen in omega arith);
        stage = tied_of q.stage q (λ u. absurd (let w = sym stage ∙ u in cc)) (λ o. absurd (let w = sym stage ∙ o in cc));
      }
  moves_tied p e q (updates was stage seen opened version heard) t =
      record {
        opened_seen = (let h = t.opened_seen in omega arith);
        table_seen = omega arith;
        stage = tied_of q.stage q (λ u. omega arith) (λ o. absurd (let w = sym stage ∙ o in cc));
      }
  moves_tied p e q (opens was dry stage seen opened table heard) t =
      let v = version_of q.table p.table table in
      let h = tied_updated p.stage p was t.stage in
      record {
        opened_seen = omega arith;
        table_seen = omega arith;
        stage = tied_of q.stage q (λ u. omega arith) (λ o. (omega arith, omega arith));
      }
  moves_tied p e q (stops stage seen opened table none heard) t =
      let v = version_of q.table p.table table in
      record {
        opened_seen = (let h = t.opened_seen in omega arith);
        table_seen = (let h = t.table_seen in omega arith);
        stage = tied_of q.stage q (λ u. absurd (let w = sym stage ∙ u in cc)) (λ o. absurd (let w = sym stage ∙ o in cc));
      }

  -- an event in range leaves versions in range
  pub moves_within : (p : PartState) (e : PartEvent) (q : PartState) → Moves owner p e q → IsInRange e → AreVersionsWithin p → AreVersionsWithin q
  moves_within p e q (keeps stage seen opened table) r w =
      let v = version_of q.table p.table table in
      record {
        seen_within = (let h = w.seen_within in omega arith);
        opened_within = (let h = w.opened_within in omega arith);
        table_within = (let h = w.table_within in omega arith);
      }
  moves_within p e q (locks stage more opened table heard) r w =
      let v = version_of q.table p.table table in
      record {
        seen_within = subst IsInRange heard r;
        opened_within = (let h = w.opened_within in omega arith);
        table_within = (let h = w.table_within in omega arith);
      }
  moves_within p e q (updates was stage seen opened version heard) r w =
      let h = w.seen_within in
      record { seen_within = omega arith; opened_within = (let o = w.opened_within in omega arith); table_within = omega arith }
  moves_within p e q (opens was dry stage seen opened table heard) r w =
      let v = version_of q.table p.table table in
      let h = w.seen_within in
      record { seen_within = omega arith; opened_within = omega arith; table_within = (let t = w.table_within in omega arith) }
  moves_within p e q (stops stage seen opened table none heard) r w =
      let v = version_of q.table p.table table in
      record {
        seen_within = (let h = w.seen_within in omega arith);
        opened_within = (let h = w.opened_within in omega arith);
        table_within = (let h = w.table_within in omega arith);
      }

  pub new_part_tied : (m : Member) (number : ℕ) (kinds : List TypeSettings) → AreVersionsTied (new_part m number kinds)
  new_part_tied m number kinds = record { opened_seen = omega arith; table_seen = omega arith; stage = tt }

  pub new_part_owns : (m : Member) (number : ℕ) (kinds : List TypeSettings) → OwnsWhenOpen owner (new_part m number kinds)
  new_part_owns m number kinds = tt

  pub new_part_within : (m : Member) (number : ℕ) (kinds : List TypeSettings) → AreVersionsWithin (new_part m number kinds)
  new_part_within m number kinds = record { seen_within = omega arith; opened_within = omega arith; table_within = omega arith }

  -- ---- active actors are own

  pub owns_open : (s : Stage) (p : PartState) → s ≡ Open → OwnsWhenOpenAt owner s p → OwnsActive owner p
  owns_open Open p e h = h
  owns_open Locked p e h = absurd (cc)
  owns_open Updated p e h = absurd (cc)
  owns_open Stopped p e h = absurd (cc)

  owns_of : (s : Stage) (p : PartState) → (s ≡ Open → OwnsActive owner p) → OwnsWhenOpenAt owner s p
  owns_of Open p h = h refl
  owns_of Locked p h = tt
  owns_of Updated p h = tt
  owns_of Stopped p h = tt

  pub drained_owns : (p : PartState) (cs : List ActorCell) → no_active_foreign owner p cs ≡ true → (c : ActorCell) → In c cs → c.active ≡ true → is_own owner p c.key ≡ true
  drained_owns p [] e c i a = absurd i
  drained_owns p (d ∷ cs) e c i a =
      let h = and_parts (not (d.active && is_foreign owner p d.key)) (no_active_foreign owner p cs) e in
      let more = drained_owns p cs h.1 c in
      elim i [
        | inl q ↦ elim (and_cases c.active (is_foreign owner p c.key) (subst (λ (z : ActorCell). (z.active && is_foreign owner p z.key) ≡ false) (sym q) (not-true _ h.0))) [
          | inl f ↦ absurd (true≢false (sym a ∙ f))
          | inr f ↦ not-false _ f
        ]
        | inr j ↦ more j a
      ]

  -- a step after which the part is open keeps its active actors its own
  stepped_owns : (p : PartState) (e : PartEvent) (q : PartState) → Stepped owner p e q → (q.table ≡ p.table) → OwnsActive owner p → OwnsActive owner q
  stepped_owns p e q s table owns c i a =
      let m = s.member in
      elim (s.active c i a) [
        | inl had ↦
            let was : is_own owner p c.key ≡ true = subst (λ (k : ActorKey). is_own owner p k ≡ true) had.3 (owns had.0 had.1 had.2) in
            let same : is_own owner q c.key ≡ is_own owner p c.key = λ j. is_owned_by (m j) (owner (table j) c.key) in
            same ∙ was
        | inr now ↦ now.1
      ]

  pub moves_own : (p : PartState) (e : PartEvent) (q : PartState) → Stepped owner p e q → Moves owner p e q → OwnsWhenOpen owner p → OwnsWhenOpen owner q
  moves_own p e q s (keeps stage seen opened table) h = owns_of q.stage q (λ o. stepped_owns p e q s table (owns_open p.stage p (sym stage ∙ o) h))
  moves_own p e q s (locks stage more opened table heard) h = owns_of q.stage q (λ o. absurd (let w = sym stage ∙ o in cc))
  moves_own p e q s (updates was stage seen opened version heard) h = owns_of q.stage q (λ o. absurd (let w = sym stage ∙ o in cc))
  moves_own p e q s (opens was dry stage seen opened table heard) h = owns_of q.stage q (λ o. stepped_owns p e q s table (drained_owns p p.cells dry))
  moves_own p e q s (stops stage seen opened table none heard) h = owns_of q.stage q (λ o. absurd (let w = sym stage ∙ o in cc))

  -- a receipt says Drained only of a part that is drained
  pub truly_drained : (p : PartState) (s : Stage) → p.stage ≡ s → seen_stage owner p s ≡ seen.Drained → IsTrulyDrained owner p
  truly_drained p Locked e d = absurd (cc)
  truly_drained p Updated e d =
      cond_both (is_drained owner p) _ _ (λ (r : SeenStage). r ≡ seen.Drained → IsTrulyDrained owner p)
      (λ dry _. record { updated = e; owns = drained_owns p p.cells dry })
      (λ _ q. absurd (cc)) d
  truly_drained p Open e d = absurd (cc)
  truly_drained p Stopped e d = absurd (cc)

  -- and it says so of each part that is
  pub owns_drained : (p : PartState) (cs : List ActorCell) → ((c : ActorCell) → In c cs → c.active ≡ true → is_own owner p c.key ≡ true) → no_active_foreign owner p cs ≡ true
  owns_drained p [] h = refl
  owns_drained p (d ∷ cs) h =
      and_from (not (d.active && is_foreign owner p d.key)) (no_active_foreign owner p cs)
      (elim (cases_Bool d.active) [
        | inl a ↦ (λ i. not (a i && not (h d (inl refl) a i)))
        | inr f ↦ (λ i. not (f i && is_foreign owner p d.key))
      ])
      (owns_drained p cs (λ c i. h c (inr i)))

  pub drained_told : (p : PartState) → IsTrulyDrained owner p → seen_stage owner p p.stage ≡ seen.Drained
  drained_told p t =
      ap (λ (s : Stage). seen_stage owner p s) t.updated ∙ cond-true (is_drained owner p) seen.Drained seen.Draining (owns_drained p p.cells t.owns)

  -- ---- lists of events

  pub run_sound : (p : PartState) (es : List PartEvent) → IsPartSound owner p → IsPartSound owner (part_after owner p es)
  run_sound p [] s = s
  run_sound p (e ∷ es) s = run_sound (part_step owner p e).part es (part_stepped owner p e s).sound

  pub run_tied : (p : PartState) (es : List PartEvent) → IsPartSound owner p → AreVersionsTied p → AreVersionsTied (part_after owner p es)
  run_tied p [] s t = t
  run_tied p (e ∷ es) s t =
      let k = part_stepped owner p e s in
      run_tied (part_step owner p e).part es k.sound (moves_tied p e (part_step owner p e).part k.moves t)

  pub run_within : (p : PartState) (es : List PartEvent) → IsPartSound owner p → AreInRange es → AreVersionsWithin p → AreVersionsWithin (part_after owner p es)
  run_within p [] s r w = w
  run_within p (e ∷ es) s r w =
      let k = part_stepped owner p e s in
      run_within (part_step owner p e).part es k.sound r.1 (moves_within p e (part_step owner p e).part k.moves r.0 w)

  pub run_owns : (p : PartState) (es : List PartEvent) → IsPartSound owner p → OwnsWhenOpen owner p → OwnsWhenOpen owner (part_after owner p es)
  run_owns p [] s h = h
  run_owns p (e ∷ es) s h =
      let k = part_stepped owner p e s in
      run_owns (part_step owner p e).part es k.sound (moves_own p e (part_step owner p e).part k k.moves h)

  pub part_sound : (m : Member) (number : ℕ) (kinds : List TypeSettings) (es : List PartEvent) → IsPartSound owner (part_after owner (new_part m number kinds) es)
  part_sound m number kinds es = run_sound (new_part m number kinds) es (new_part_sound owner m number kinds)
