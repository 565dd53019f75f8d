-- A step of one part keeps the cluster safe; and in a safe cluster no actor is active on two members.
use Rattle.std.proofs.Common.{◌≡◌, ◌⊎◌, ℕ, true, ◌<◌, ◌≤◌, List, set, Option, Some, refl, sym, ap, ◌∙◌, subst, inl, inr, arith}
use Rattle.std.specs.Prelude.{slice_get}
use Rattle.std.proofs.lemmas.Bool.{cases_order}
use Rattle.actor_names.specs.declared.member.Member.{Member}
use Rattle.actor_names.specs.declared.actor_key.ActorKey.{ActorKey}
use Rattle.place_table.specs.declared.host.HostInfo.{HostInfo}
use Rattle.place_table.specs.declared.ack_stage.AckStage.{AckStage}
use Rattle.place_table.specs.declared.ack_stage.AckStage.TheVariants as stages
use Rattle.place_table.specs.Hosts.{PlacementTable}
use Rattle.turn_core.specs.CellSound.{In}
use Rattle.part_model.specs.declared.actor_cell.ActorCell.{ActorCell}
use Rattle.part_model.specs.declared.event.PartEvent.{PartEvent}
use Rattle.part_model.specs.declared.stage.Stage.TheVariants.{Locked, Updated, Open, Stopped}
use Rattle.part_model.specs.Part.{PartState, is_own}
use Rattle.part_model.specs.PartMoves.{HadActive, keeps, locks, updates, opens, stops, Stepped}
use Rattle.part_model.proofs.PartLaws.{tied_open, tied_updated, moves_tied, drained_owns}
use Rattle.round_core.specs.declared.phase.RoundPhase.{RoundPhase}
use Rattle.round_core.specs.declared.phase.RoundPhase.TheVariants.{Quiet, Running}
use Rattle.member_roster.specs.declared.book.Known.{Known}
use Rattle.member_roster.specs.Members.{Joined}
use Rattle.part_model.specs.Progress.{PartReached, MemberReached}
use Rattle.part_model.proofs.Collects.{step_reached}
use Rattle.cluster_model.specs.Messages.{UpdateTo, UnlockAt, Message, Tells}
use Rattle.cluster_model.specs.Invariant.{WasTold, IsUnlocked, IsHeard, AllStopped, Gives, IsOwnedAtOpening, IsPartBacked, StageFacts, RoundFacts, IsSafeAt, IsActiveOnce}
use Rattle.cluster_model.proofs.Basics.{In-set, In-slice_get, one_owner}

pub told_unlock : (ms : List Message) (m : Member) (v : ℕ) → In (Tells m (UnlockAt v)) ms → WasTold ms m v
told_unlock ms m v i = (UnlockAt v, i, refl)

pub told_update : (ms : List Message) (m : Member) (t : PlacementTable) → In (Tells m (UpdateTo t)) ms → WasTold ms m t.version
told_update ms m t i = (UpdateTo t, i, refl)

locked_open : Locked ≡ Open → ⊥
locked_open e = cc

updated_open : Updated ≡ Open → ⊥
updated_open e = cc

stopped_open : Stopped ≡ Open → ⊥
stopped_open e = cc

module _ (owner : PlacementTable → ActorKey → Option HostInfo) where
  -- a part that is open has opened at the version that it has seen, and has that version's table
  pub backed_open : (ms : List Message) (boots : ℕ) (p : PartState) → IsPartBacked owner ms boots p → p.stage ≡ Open → (p.table.version ≡ p.seen) × (p.opened ≡ p.seen)
  backed_open ms boots p s o = tied_open p.stage p o s.tied.stage

  module _ (ms : List Message) (boots : ℕ) (p : PartState) (e : PartEvent) (q : PartState) (backed : IsPartBacked owner ms boots p) (heard : IsHeard ms p.member e) (st : Stepped owner p e q) where
    pub seen_rises : p.seen ≤ q.seen
    seen_rises = elim st.moves [
      | keeps a b c d ↦ omega arith
      | locks a b c d f ↦ omega arith
      | updates a b c d f g ↦ omega arith
      | opens a b c d f g h ↦ omega arith
      | stops a b c d f g ↦ omega arith
    ]

    pub opened_rises : p.opened ≤ q.opened
    opened_rises = elim st.moves [
      | keeps a b c d ↦ omega arith
      | locks a b c d f ↦ omega arith
      | updates a b c d f g ↦ omega arith
      | opens a b c d f g h ↦ (let l = backed.tied.opened_seen in omega arith)
      | stops a b c d f g ↦ omega arith
    ]

    -- every step keeps what the part had reached, or the part has stopped
    pub reached_kept : (s : AckStage) (v : ℕ) → (p.stage ≡ Stopped) ⊎ PartReached owner s v p → (q.stage ≡ Stopped) ⊎ PartReached owner s v q
    reached_kept s v (inl stopped) = inl (st.stop_stays stopped)
    reached_kept s v (inr h) = elim (step_reached owner p q e s v st h) [ inl k ↦ inl k.1 | inr k ↦ inr k ]

    module _ (above : (v : ℕ) → In (Tells p.member (UnlockAt v)) ms → 0 < v) where
      q_tied : IsPartBacked owner ms boots p → q.stage ≡ Open → (q.table.version ≡ q.seen) × (q.opened ≡ q.seen)
      q_tied b o = tied_open q.stage q o (moves_tied owner p e q st.moves b.tied).stage

      q_open_above : q.stage ≡ Open → 0 < q.seen
      q_open_above o = elim st.moves [
        | keeps a b c d ↦ (let h = backed.open_above (sym a ∙ o) in omega arith)
        | locks a b c d f ↦ absurd (locked_open (sym a ∙ o))
        | updates a b c d f g ↦ absurd (updated_open (sym b ∙ o))
        | opens a b c d f g h ↦ (let k = above p.seen (subst (IsHeard ms p.member) h heard) in omega arith)
        | stops a b c d f g ↦ absurd (stopped_open (sym a ∙ o))
      ]

      q_update_came : 0 < q.table.version → In (Tells q.member (UpdateTo q.table)) ms
      q_update_came l = elim st.moves [
        | keeps a b c d ↦ rw (st.member, d) (backed.update_came (rw (← d) l))
        | locks a b c d f ↦ rw (st.member, d) (backed.update_came (rw (← d) l))
        | updates a b c d f g ↦ rw st.member (subst (IsHeard ms p.member) g heard)
        | opens a b c d f g h ↦ rw (st.member, g) (backed.update_came (rw (← g) l))
        | stops a b c d f g ↦ rw (st.member, d) (backed.update_came (rw (← d) l))
      ]

      same_owned : q.opened ≡ p.opened → (c d : ActorCell) → d.key ≡ c.key → IsOwnedAtOpening owner ms p d → IsOwnedAtOpening owner ms q c
      same_owned same c d k o = rw (same, st.member, ← k) o

      owned_had : (c : ActorCell) → HadActive p c.key → IsOwnedAtOpening owner ms q c
      owned_had c had =
          let o = backed.owned had.0 had.1 had.2 in
          elim st.moves [
            | keeps a b x d ↦ same_owned x c had.0 had.3 o
            | locks a b x d f ↦ same_owned x c had.0 had.3 o
            | updates a b x y f g ↦ same_owned y c had.0 had.3 o
            | opens a b x d y f g ↦ (
                let l = backed.tied.opened_seen in
                let v = tied_updated p.stage p a backed.tied.stage in
                let z = o.0 in
                let u : 0 < p.table.version = omega arith in
                let own : is_own owner p had.0.key ≡ true = drained_owns owner p p.cells b had.0 had.1 had.2 in
                (omega arith, (p.table, rw st.member (backed.update_came u), v ∙ sym y, rw (st.member, ← had.3) own)))
            | stops a b x d f g ↦ same_owned x c had.0 had.3 o
          ]

      q_owned : (c : ActorCell) → In c q.cells → c.active ≡ true → IsOwnedAtOpening owner ms q c
      q_owned c i a = elim (st.active c i a) [
        | inl had ↦ owned_had c had
        | inr begun ↦ (
            let h = q_open_above begun.0 in
            let t = q_tied backed begun.0 in
            let x = t.0 in
            let y = t.1 in
            (omega arith, (q.table, q_update_came (omega arith), x ∙ sym y, begun.1)))
      ]

      pub part_kept : IsPartBacked owner ms boots q
      part_kept =
          record {
            sound = st.sound;
            tied = moves_tied owner p e q st.moves backed.tied;
            booted = rw st.member backed.booted;
            open_above = q_open_above;
            lock_came = λ l. elim st.moves [
              | keeps a b c d ↦ rw (st.member, b) (backed.lock_came (omega arith))
              | locks a b c d f ↦ rw st.member (subst (IsHeard ms p.member) f heard)
              | updates a b c d f g ↦ rw (st.member, c) (backed.lock_came (omega arith))
              | opens a b c d f g h ↦ rw (st.member, d) (backed.lock_came (omega arith))
              | stops a b c d f g ↦ rw (st.member, b) (backed.lock_came (omega arith))
            ];
            update_came = q_update_came;
            unlock_came = λ l. elim st.moves [
              | keeps a b c d ↦ rw (st.member, c) (backed.unlock_came (omega arith))
              | locks a b c d f ↦ rw (st.member, c) (backed.unlock_came (omega arith))
              | updates a b c d f g ↦ rw (st.member, d) (backed.unlock_came (omega arith))
              | opens a b c d f g h ↦ rw (st.member, f) (subst (IsHeard ms p.member) h heard)
              | stops a b c d f g ↦ rw (st.member, c) (backed.unlock_came (omega arith))
            ];
            owned = q_owned;
          }

  -- ---- the cluster with one part changed

  module _ (last : ℕ) (js : List Joined) (ks : List Known) (fixed : List HostInfo) (phase : RoundPhase) (ps : List PartState) (ms : List Message) (boots : ℕ)
      (s : IsSafeAt owner last js ks fixed phase ps ms boots) (n : ℕ) (p : PartState) (e : PartEvent) (q : PartState) (at : slice_get ps n ≡ Some p) (heard : IsHeard ms p.member e)
      (st : Stepped owner p e q) where
    abbrev changed : List PartState
    changed = set ps n q

    here : In p ps
    here = In-slice_get ps n p at

    backed : IsPartBacked owner ms boots p
    backed = s.parts p here

    stopped_changed : (m : Member) → AllStopped ps m → AllStopped changed m
    stopped_changed m h x i k = elim (In-set ps n q x i) [
      | inl z ↦ rw z (st.stop_stays (h p here (sym st.member ∙ ap (λ (y : PartState). y.member) (sym z) ∙ k)))
      | inr j ↦ h x j k
    ]

    reached_changed : (m : Member) (stage : AckStage) (v : ℕ) → MemberReached owner ps m stage v → MemberReached owner changed m stage v
    reached_changed m stage v h x i k = elim (In-set ps n q x i) [
      | inl z ↦
          subst (λ (y : PartState). (y.stage ≡ Stopped) ⊎ PartReached owner stage v y) (sym z)
          (reached_kept ms boots p e q backed heard st stage v (h p here (sym st.member ∙ ap (λ (y : PartState). y.member) (sym z) ∙ k)))
      | inr j ↦ h x j k
    ]

    facts_changed : (stage : AckStage) → StageFacts owner last js fixed ms ps stage → StageFacts owner last js fixed ms changed stage
    facts_changed stages.Lock f = f
    facts_changed stages.Update f = (f.0, f.1, λ j i t. reached_changed j.host.member stages.Lock last (f.2 j i t))
    facts_changed stages.Unlock f = (f.0, λ j i t. reached_changed j.host.member stages.Update last (f.1 j i t))

    round_changed : (f : RoundPhase) → RoundFacts owner last js fixed ms ps f → RoundFacts owner last js fixed ms changed f
    round_changed Quiet r = r
    round_changed (Running stage) r =
        record {
          used = r.used;
          pending_target = r.pending_target;
          told_target = r.told_target;
          not_pending = λ j i t off. reached_changed j.host.member stage last (r.not_pending j i t off);
          facts = facts_changed stage r.facts;
        }

    kept : IsPartBacked owner ms boots q
    kept = part_kept ms boots p e q backed heard st (λ v i. s.messages.told_above p.member v (told_unlock ms p.member v i))

    seen_changed : (v w : ℕ) → IsUnlocked ms w → WasTold ms q.member v → v ≤ w → (q.stage ≡ Stopped) ⊎ (w ≤ q.seen)
    seen_changed v w u t h = elim (s.unlocks.seen v w p u here (subst (λ (m : Member). WasTold ms m v) st.member t) h) [
      | inl stopped ↦ inl (st.stop_stays stopped)
      | inr l ↦ inr (let k = seen_rises ms boots p e q backed heard st in omega arith)
    ]

    owned_changed : (w : ℕ) (c : ActorCell) → IsUnlocked ms w → In c q.cells → c.active ≡ true → q.opened < w → (m : Member) (t : PlacementTable) → In (Tells m (UpdateTo t)) ms → t.version ≡ w → Gives owner t c.key q.member
    owned_changed w c u j a below m t k f = elim (st.active c j a) [
      | inl had ↦ (
          let r = opened_rises ms boots p e q backed heard st in
          rw (st.member, ← had.3) (s.unlocks.owned w p had.0 u here had.1 had.2 (omega arith) m t k f))
      | inr begun ↦ (
          let o = (backed_open ms boots q kept begun.0).1 in
          let z = kept.open_above begun.0 in
          absurd (elim (seen_changed q.opened w u (told_unlock ms q.member q.opened (kept.unlock_came (omega arith))) (omega arith)) [
            | inl stopped ↦ stopped_open (sym stopped ∙ begun.0)
            | inr l ↦ omega arith
          ]))
    ]

    pub part_safe : IsSafeAt owner last js ks fixed phase changed ms boots
    part_safe =
        record {
          parts = λ x i. elim (In-set ps n q x i) [ inl z ↦ subst (IsPartBacked owner ms boots) (sym z) kept | inr j ↦ s.parts x j ];
          messages = s.messages;
          booted = s.booted;
          members = record {
            told = λ m v w. elim (s.members.told m v w) [ inl i ↦ inl i | inr h ↦ inr (stopped_changed m h) ];
            leaves = λ m i. stopped_changed m (s.members.leaves m i);
            acks = λ m stage v i. reached_changed m stage v (s.members.acks m stage v i);
          };
          round = round_changed phase s.round;
          unlocks = record {
            seen = λ v w x u i t h. elim (In-set ps n q x i) [
              | inl z ↦ subst (λ (y : PartState). (y.stage ≡ Stopped) ⊎ (w ≤ y.seen)) (sym z) (seen_changed v w u (subst (λ (y : PartState). WasTold ms y.member v) z t) h)
              | inr j ↦ s.unlocks.seen v w x u j t h
            ];
            owned = λ w x c u i j a h m t k f. elim (In-set ps n q x i) [
              | inl z ↦ rw z (owned_changed w c u (subst (λ (y : PartState). In c y.cells) z j) a (subst (λ (y : PartState). y.opened < w) z h) m t k f)
              | inr l ↦ s.unlocks.owned w x c u l j a h m t k f
            ];
          };
        }

-- ---- what safety is for

module _ (owner : PlacementTable → ActorKey → Option HostInfo) (last : ℕ) (js : List Joined) (ks : List Known) (fixed : List HostInfo) (phase : RoundPhase) (ps : List PartState) (ms : List Message) (boots : ℕ)
    (s : IsSafeAt owner last js ks fixed phase ps ms boots) where
  once_below : (p q : PartState) (c d : ActorCell) → In p ps → In q ps → In c p.cells → In d q.cells → c.active ≡ true → d.active ≡ true → c.key ≡ d.key → p.opened < q.opened → p.member ≡ q.member
  once_below p q c d i j k l a b e h =
      let o = (s.parts q j).owned d l b in
      let u : IsUnlocked ms q.opened = (q.member, (s.parts q j).unlock_came o.0) in
      let mine = s.unlocks.owned q.opened p c u i k a h q.member o.1.0 o.1.1 o.1.2 in
      one_owner p.member q.member (owner o.1.0 c.key) mine (rw e o.1.3)

  once_equal : (p q : PartState) (c d : ActorCell) → In p ps → In q ps → In c p.cells → In d q.cells → c.active ≡ true → d.active ≡ true → c.key ≡ d.key → p.opened ≡ q.opened → p.member ≡ q.member
  once_equal p q c d i j k l a b e h =
      let o = (s.parts q j).owned d l b in
      let r = (s.parts p i).owned c k a in
      let t = s.messages.one_table p.member q.member r.1.0 o.1.0 r.1.1 o.1.1 (r.1.2 ∙ h ∙ sym o.1.2) in
      one_owner p.member q.member (owner o.1.0 d.key)
      (subst (λ (z : PlacementTable). Gives owner z d.key p.member) t (subst (λ (z : ActorKey). Gives owner r.1.0 z p.member) e r.1.3)) o.1.3

  pub active_once : IsActiveOnce ps
  active_once p q c d i j k l a b e = elim (cases_order p.opened q.opened) [
    | inl h ↦ once_equal p q c d i j k l a b e h
    | inr h ↦ elim h [
      | inl x ↦ once_below p q c d i j k l a b e x
      | inr x ↦ sym (once_below q p d c j i l k b a (sym e) x)
    ]
  ]
