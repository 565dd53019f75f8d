-- A step of the placement keeps the cluster safe, and its answer is that of the phase after the step.
use Rattle.std.proofs.Common.{◌≡◌, ◌⊎◌, ℕ, suc, true, false, ◌&&◌, ◌+◌, ◌-◌, ◌<◌, ◌≤◌, List, [], map, Option, None, Some, refl, sym, ap, ◌∙◌, subst, inl, inr, arith}
use Rattle.std.specs.Prelude.{nat_le, ◌==◌}
use Rattle.std.proofs.lemmas.Bool.{and_parts, eqb-true, leb-false, cond_both, false≢true}
use Rattle.actor_names.specs.declared.member.Member.{Member}
use Rattle.actor_names.specs.declared.actor_key.ActorKey.{ActorKey}
use Rattle.place_table.specs.declared.host.HostInfo.{HostInfo}
use Rattle.place_table.specs.declared.ack_stage.AckStage.{AckStage}
use Rattle.place_table.specs.declared.ack_stage.AckStage.TheVariants as stages
use Rattle.place_table.specs.Hosts.{PlacementTable}
use Rattle.turn_core.specs.CellSound.{In}
use Rattle.part_model.specs.Part.{PartState}
use Rattle.round_core.specs.declared.event.PlaceEvent.TheVariants as events
use Rattle.round_core.specs.declared.event.PlaceReply.{PlaceReply}
use Rattle.round_core.specs.declared.phase.RoundPhase.{RoundPhase}
use Rattle.round_core.specs.declared.phase.RoundPhase.TheVariants.{Quiet, Running}
use Rattle.round_core.specs.Openings.{IsNewOrUsed}
use Rattle.round_core.specs.Room.{RoomState, RoomStep, Membership, Stays, Tells, last_version, same_stage, next_stage, advance_round, may_start, start_round, advance_fully, settle_round, stage_reply, phase_reply, reply_for, with_member, with_joined, is_full, join_node, is_in_stage, ack_change, remove_member, drop_late, conclude, room_step, awoken, room_restarted}
use Rattle.round_core.specs.Runs.{HasMember}
use Rattle.round_core.proofs.Durable.{hosts_map, hosts_with, ack_same, settle_keeps}
use Rattle.round_core.proofs.Hosts.{here_same, put_member, without_member, heard_member}
use Rattle.round_core.proofs.Memory.{boots_rise}
use Rattle.member_roster.specs.Members.{Joined, hosts_of, of_node, is_here, is_pending_in, is_pending, with_node, without_node, put_joined, late_of, heard_of, any_pending, entered, targeted, heard_at, restarted_at, new_joined, greatest_boot, put_boot}
use Rattle.part_model.specs.Progress.{MemberReached}
use Rattle.cluster_model.specs.Messages.{Message, answer_of}
use Rattle.cluster_model.specs.Invariant.{version_of, AllStopped, RoundFacts, AreMessagesSound, IsSafeAt, IsSafe}
use Rattle.cluster_model.proofs.Joins.{entry_of, has_entry, here_entry, In-with_node, In-without_node, In-or_node, In-heard_of, In-or_late, In-put_joined, In-kept_joined, put_here, none_pending, greatest-put}
use Rattle.cluster_model.proofs.Rounds.{followed, Follows, follows_self, regrouped, update_round, unlock_round, started_round, removed_safe, joined_safe}

pub same_stage-true : (a b : AckStage) → same_stage a b ≡ true → a ≡ b
same_stage-true stages.Lock stages.Lock e = refl
same_stage-true stages.Lock stages.Update e = absurd (false≢true e)
same_stage-true stages.Lock stages.Unlock e = absurd (false≢true e)
same_stage-true stages.Update stages.Lock e = absurd (false≢true e)
same_stage-true stages.Update stages.Update e = refl
same_stage-true stages.Update stages.Unlock e = absurd (false≢true e)
same_stage-true stages.Unlock stages.Lock e = absurd (false≢true e)
same_stage-true stages.Unlock stages.Update e = absurd (false≢true e)
same_stage-true stages.Unlock stages.Unlock e = refl

-- the reply is the stage of the running round, to a member that is pending in it
pub record IsOfRound (s : RoomState) (m : Member) (r : PlaceReply) : Type 0 where
  pub stage : AckStage
  pub entry : Joined
  pub phase : s.phase ≡ Running stage
  pub here : In entry s.members
  pub member : entry.host.member ≡ m
  pub pending : entry.pending ≡ true
  pub reply : r ≡ stage_reply stage (last_version s)

-- what a reply to a member says: no version, or the stage of the phase to a member that is pending in it
abbrev pub IsReplyOf : RoomState → Member → PlaceReply → Type 0
IsReplyOf s m r = ((space : List ℕ) → version_of (answer_of space s.table r) ≡ None) ⊎ IsOfRound s m r

module _ (owner : PlacementTable → ActorKey → Option HostInfo) (ps : List PartState) (ms : List Message) (boots : ℕ) where
  -- ---- rounds go on, and start

  next_safe : (s : RoomState) (phase : RoundPhase) → s.phase ≡ phase → ((j : Joined) → In j s.members → j.pending ≡ false) → IsSafe owner s ps ms boots → IsSafe owner (next_stage s phase) ps ms boots
  next_safe s Quiet e none safe = safe
  next_safe s (Running stages.Lock) e none safe =
      regrouped owner (last_version s) s.members (map entered s.members) s.boots s.table _ s.phase (Running stages.Update) ps ms boots (hosts_map entered s.members (λ j. refl))
      (update_round owner (last_version s) s.members s.table ms ps none (subst (RoundFacts owner (last_version s) s.members s.table ms ps) e safe.round)) safe
  next_safe s (Running stages.Update) e none safe =
      regrouped owner (last_version s) s.members (map entered s.members) s.boots s.table s.table s.phase (Running stages.Unlock) ps ms boots (hosts_map entered s.members (λ j. refl))
      (unlock_round owner (last_version s) s.members s.table ms ps none (subst (RoundFacts owner (last_version s) s.members s.table ms ps) e safe.round)) safe
  next_safe s (Running stages.Unlock) e none safe =
      record { parts = safe.parts; messages = safe.messages; booted = safe.booted; members = safe.members; round = tt; unlocks = safe.unlocks }

  pub advance_safe : (s : RoomState) → IsSafe owner s ps ms boots → IsSafe owner (advance_round s) ps ms boots
  advance_safe s safe =
      cond_both (any_pending s.members) _ _ (λ (t : RoomState). IsSafe owner t ps ms boots) (λ _. safe) (λ f. next_safe s s.phase refl (none_pending s.members f) safe)

  last_up : (n : ℕ) → 1 ≤ n → n + 1 - 1 ≡ suc (n - 1)
  last_up n h = omega arith

  pub start_safe : (s : RoomState) → 1 ≤ s.next_version → IsSafe owner s ps ms boots → IsSafe owner (start_round s) ps ms boots
  start_safe s used safe =
      cond_both (may_start s) _ _ (λ (t : RoomState). IsSafe owner t ps ms boots)
      (λ _. subst (λ (l : ℕ). IsSafeAt owner l (map targeted s.members) s.boots s.table (Running stages.Lock) ps ms boots) (sym (last_up s.next_version used))
      (record {
        parts = safe.parts;
        messages = subst (λ (hs : List HostInfo). AreMessagesSound (suc (last_version s)) hs s.boots ms) (sym same) (record {
          told_below = λ m v w. (let h = safe.messages.told_below m v w in omega arith);
          told_above = safe.messages.told_above;
          one_table = safe.messages.one_table;
          told_boot = safe.messages.told_boot;
          member_boot = safe.messages.member_boot;
        });
        booted = again.booted;
        members = again.members;
        round = started_round owner (last_version s) (suc (last_version s)) s.members (hosts_of s.members) s.table s.boots ms ps (omega arith) safe.messages;
        unlocks = safe.unlocks;
      }))
      (λ _. safe)
    where
      same : hosts_of (map targeted s.members) ≡ hosts_of s.members
      same = hosts_map targeted s.members (λ j. refl)

      again : IsSafeAt owner (last_version s) (map targeted s.members) s.boots s.table Quiet ps ms boots
      again = regrouped owner (last_version s) s.members (map targeted s.members) s.boots s.table s.table s.phase Quiet ps ms boots same tt safe

  advance_version : (s : RoomState) → (advance_round s).next_version ≡ s.next_version
  advance_version s = cond_both (any_pending s.members) _ _ (λ (t : RoomState). t.next_version ≡ s.next_version) (λ _. refl) (λ _. go s.phase)
    where
      go : (phase : RoundPhase) → (next_stage s phase).next_version ≡ s.next_version
      go Quiet = refl
      go (Running stages.Lock) = refl
      go (Running stages.Update) = refl
      go (Running stages.Unlock) = refl

  fully_safe : (s : RoomState) → IsSafe owner s ps ms boots → IsSafe owner (advance_fully s) ps ms boots
  fully_safe s safe = advance_safe (advance_round (advance_round s)) (advance_safe (advance_round s) (advance_safe s safe))

  pub settle_safe : (s : RoomState) → 1 ≤ s.next_version → IsSafe owner s ps ms boots → IsSafe owner (settle_round s) ps ms boots
  settle_safe s used safe =
      let a = advance_version s in
      let b = advance_version (advance_round s) in
      let c = advance_version (advance_round (advance_round s)) in
      fully_safe (start_round (advance_fully s)) (start_safe (advance_fully s) (omega arith) (fully_safe s safe))

  -- ---- changes of the members

  -- a member is heard, or acknowledges what it has reached
  with_safe : (s : RoomState) (m : Member) (f : Joined → Joined) → ((j : Joined) → (f j).host ≡ j.host) →
      ((stage : AckStage) (j : Joined) → s.phase ≡ Running stage → j.host.member ≡ m → Follows owner (last_version s) ps stage j (f j)) →
      is_here s.members m ≡ true → IsSafe owner s ps ms boots → IsSafe owner (with_member s m f).state ps ms boots
  with_safe s m f same follows here safe =
      let k = here_entry s.members m here in
      regrouped owner (last_version s) s.members (with_node s.members m.node f) s.boots s.table s.table s.phase s.phase ps ms boots (hosts_with s.members m.node f same)
      (followed owner (last_version s) s.members (with_node s.members m.node f) s.table ms ps s.phase
      (λ stage e y i. elim (In-with_node s.members m.node f y i) [
        | inl j ↦ inl (y, j, follows_self owner (last_version s) ps stage y)
        | inr h ↦ inl (h.0, h.2, subst (λ (z : Joined). Follows owner (last_version s) ps stage h.0 z) (sym h.3) (follows stage h.0 e (ap (λ (z : Joined). z.host.member) (one h.0 k.0 (sym h.1 ∙ k.1)) ∙ k.3)))
      ])
      safe.round) safe
    where
      one : (a b : Joined) → Some a ≡ Some b → a ≡ b
      one a b e = cc

  heard_safe : (s : RoomState) (m : Member) (now : ℕ) → is_here s.members m ≡ true → IsSafe owner s ps ms boots → IsSafe owner (with_member s m (heard_at now)).state ps ms boots
  heard_safe s m now here safe = with_safe s m (heard_at now) (λ j. refl) (λ stage j e q. record { host = refl; target = refl; pending = inl refl }) here safe

  acked_safe : (s : RoomState) (m : Member) (stage : AckStage) (v now : ℕ) → MemberReached owner ps m stage v → is_here s.members m ≡ true → IsSafe owner s ps ms boots →
      IsSafe owner (with_member s m (ack_change s stage v now)).state ps ms boots
  acked_safe s m stage v now reached here safe =
      with_safe s m (ack_change s stage v now) (ack_same now _)
      (λ st j e q. cond_both (is_in_stage s.phase stage && (v == last_version s)) _ _ (λ (f : Joined → Joined). Follows owner (last_version s) ps st j (f j))
      (λ t.
      let h = and_parts (is_in_stage s.phase stage) (v == last_version s) t in
      let a : st ≡ stage = same_stage-true st stage (subst (λ (f : RoundPhase). is_in_stage f stage ≡ true) e h.0) in
      let b : v ≡ last_version s = eqb-true v (last_version s) h.1 in
      record { host = refl; target = refl; pending = inr (refl, rw (q, a, ← b) reached) })
      (λ _. record { host = refl; target = refl; pending = inl refl }))
      here safe

  without_safe : (s : RoomState) (m : Member) → is_here s.members m ≡ true → AllStopped ps m → IsSafe owner s ps ms boots →
      IsSafe owner (record s { members = without_node s.members m.node; dirty = true }) ps ms boots
  without_safe s m here stopped safe =
      let k = here_entry s.members m here in
      removed_safe owner (last_version s) s.members (without_node s.members m.node) s.boots s.table s.phase ps ms boots
      (In-without_node s.members m.node) (without_member s.members m.node)
      (λ x i.
      let h = entry_of s.members x i in
      elim (In-or_node s.members m.node h.0 h.1) [
        | inl e ↦ inr (subst (AllStopped ps) (sym (h.2 ∙ ap (λ (z : Joined). z.host.member) (one h.0 k.0 (sym e ∙ k.1)) ∙ k.3)) stopped)
        | inr j ↦ inl (subst (HasMember (hosts_of (without_node s.members m.node))) (sym h.2) (has_entry (without_node s.members m.node) h.0 j))
      ]) safe
    where
      one : (a b : Joined) → Some a ≡ Some b → a ≡ b
      one a b e = cc

  late_safe : (s : RoomState) (now : ℕ) → ((m : Member) → In m (late_of s.members now) → AllStopped ps m) → IsSafe owner s ps ms boots → IsSafe owner (drop_late s now).state ps ms boots
  late_safe s now stopped safe =
      removed_safe owner (last_version s) s.members (heard_of s.members now) s.boots s.table s.phase ps ms boots
      (In-heard_of s.members now) (heard_member s.members now)
      (λ x i.
      let h = entry_of s.members x i in
      elim (In-or_late s.members now h.0 h.1) [
        | inl l ↦ inr (subst (AllStopped ps) (sym h.2) (stopped h.0.host.member l))
        | inr j ↦ inl (subst (HasMember (hosts_of (heard_of s.members now))) (sym h.2) (has_entry (heard_of s.members now) h.0 j))
      ]) safe

  host_safe : (s : RoomState) (host : HostInfo) (now : ℕ) → greatest_boot s.boots host.member.node < host.member.boot → host.member.boot ≤ boots → IsSafe owner s ps ms boots →
      IsSafe owner (with_joined s host now) ps ms boots
  host_safe s host now higher booted safe =
      let x = new_joined host now in
      joined_safe owner (last_version s) s.members (put_joined s.members x) s.boots (put_boot s.boots host.member) s.table s.phase ps ms boots x higher booted refl refl
      (λ node. boots_rise s.boots host.member node higher) (greatest-put s.boots host.member)
      (In-put_joined s.members x) (put_member s.members x)
      (λ m i. let h = entry_of s.members m i in subst (HasMember (hosts_of (put_joined s.members x))) (sym h.2) (has_entry (put_joined s.members x) h.0 (In-kept_joined s.members x h.0 h.1)))
      safe

  -- ---- the step

  -- a step that is safe, and whose reply is of its state
  pub record IsStepSafe (m : Member) (t : RoomStep) : Type 0 where
    pub safe : IsSafe owner t.state ps ms boots
    pub reply : IsReplyOf t.state m t.reply

  told_reply : (s : RoomState) (m : Member) → is_here s.members m ≡ true → IsReplyOf s m (reply_for s m)
  told_reply s m here =
      let k = here_entry s.members m here in
      cond_both (is_pending s.members m) _ _ (IsReplyOf s m)
      (λ t. go (ap is_pending_in (sym k.1) ∙ t) s.phase refl)
      (λ _. inl (λ space. refl))
    where
      go : ((here_entry s.members m here).0.pending ≡ true) → (phase : RoundPhase) → s.phase ≡ phase → IsReplyOf s m (phase_reply phase (last_version s))
      go l Quiet e = inl (λ space. refl)
      go l (Running stage) e =
          let k = here_entry s.members m here in
          inr (record { stage = stage; entry = k.0; phase = e; here = k.2; member = k.3; pending = l; reply = refl })

  tells_safe : (s : RoomState) (m : Member) → 1 ≤ s.next_version → is_here s.members m ≡ true → IsSafe owner s ps ms boots → IsStepSafe m (conclude s (Tells m))
  tells_safe s m used here safe =
      record {
        safe = settle_safe s used safe;
        reply = told_reply (settle_round s) m (here_same (settle_round s).members s.members m (settle_keeps s).hosts ∙ here);
      }

  stays_safe : (s : RoomState) (m : Member) (r : PlaceReply) → ((space : List ℕ) → version_of (answer_of space s.table r) ≡ None) → IsSafe owner s ps ms boots → IsStepSafe m (conclude s (Stays r))
  stays_safe s m r e safe = record { safe = safe; reply = inl e }

  abbrev Goes : Member → Membership → Type 0
  Goes m t = IsStepSafe m (conclude t.state t.conclusion)

  node_safe : (s : RoomState) (host : HostInfo) (now : ℕ) → 1 ≤ s.next_version → greatest_boot s.boots host.member.node < host.member.boot → host.member.boot ≤ boots → IsSafe owner s ps ms boots →
      (o : Option Joined) → of_node s.members host.member.node ≡ o → Goes host.member (join_node s host now o)
  node_safe s host now used higher booted safe (Some j) e = stays_safe s host.member _ (λ space. refl) safe
  node_safe s host now used higher booted safe None e =
      cond_both (is_full s host.member.node) _ _ (Goes host.member)
      (λ _. stays_safe s host.member _ (λ space. refl) safe)
      (λ _. tells_safe (with_joined s host now) host.member used (put_here s.members (new_joined host now) e) (host_safe s host now higher booted safe))

  pub register_safe : (s : RoomState) (host : HostInfo) (now : ℕ) → 1 ≤ s.next_version → host.member.boot ≤ boots → IsSafe owner s ps ms boots → IsStepSafe host.member (room_step s (events.Register host) now)
  register_safe s host now used booted safe =
      cond_both (is_here s.members host.member) _ _ (Goes host.member)
      (λ h. tells_safe (with_member s host.member (heard_at now)).state host.member used (here_with s host.member (heard_at now) (λ j. refl) h) (heard_safe s host.member now h safe))
      (λ _. cond_both (nat_le host.member.boot (greatest_boot s.boots host.member.node)) _ _ (Goes host.member)
      (λ _. stays_safe s host.member _ (λ space. refl) safe)
      (λ f. node_safe s host now used (leb-false _ _ f) booted safe (of_node s.members host.member.node) refl))
    where
      here_with : (s : RoomState) (m : Member) (f : Joined → Joined) → ((j : Joined) → (f j).host ≡ j.host) → is_here s.members m ≡ true → is_here (with_node s.members m.node f) m ≡ true
      here_with s m f same h = here_same (with_node s.members m.node f) s.members m (hosts_with s.members m.node f same) ∙ h

  pub beat_safe : (s : RoomState) (m : Member) (now : ℕ) → 1 ≤ s.next_version → IsSafe owner s ps ms boots → IsStepSafe m (room_step s (events.Beat m) now)
  beat_safe s m now used safe =
      cond_both (is_here s.members m) _ _ (Goes m)
      (λ h. tells_safe (with_member s m (heard_at now)).state m used (here_same (with_node s.members m.node (heard_at now)) s.members m (hosts_with s.members m.node (heard_at now) (λ j. refl)) ∙ h) (heard_safe s m now h safe))
      (λ _. stays_safe s m _ (λ space. refl) safe)

  pub ack_safe : (s : RoomState) (m : Member) (stage : AckStage) (v now : ℕ) → 1 ≤ s.next_version → MemberReached owner ps m stage v → IsSafe owner s ps ms boots → IsStepSafe m (room_step s (events.Ack m stage v) now)
  ack_safe s m stage v now used reached safe =
      cond_both (is_here s.members m) _ _ (Goes m)
      (λ h. tells_safe (with_member s m (ack_change s stage v now)).state m used (here_same (with_node s.members m.node (ack_change s stage v now)) s.members m (hosts_with s.members m.node (ack_change s stage v now) (ack_same now _)) ∙ h) (acked_safe s m stage v now reached h safe))
      (λ _. stays_safe s m _ (λ space. refl) safe)

  gone_safe : (s : RoomState) (m : Member) → 1 ≤ s.next_version → AllStopped ps m → IsSafe owner s ps ms boots → Goes m (remove_member s m)
  gone_safe s m used stopped safe =
      cond_both (is_here s.members m) _ _ (Goes m)
      (λ h. record { safe = settle_safe (record s { members = without_node s.members m.node; dirty = true }) used (without_safe s m h stopped safe); reply = inl (λ space. refl) })
      (λ _. stays_safe s m _ (λ space. refl) safe)

  pub leave_safe : (s : RoomState) (m : Member) (now : ℕ) → 1 ≤ s.next_version → AllStopped ps m → IsSafe owner s ps ms boots → IsStepSafe m (room_step s (events.Leave m) now)
  leave_safe s m now used stopped safe = gone_safe s m used stopped safe

  pub lost_safe : (s : RoomState) (m : Member) (now : ℕ) → 1 ≤ s.next_version → AllStopped ps m → IsSafe owner s ps ms boots → IsSafe owner (room_step s (events.Lost m) now).state ps ms boots
  lost_safe s m now used stopped safe = let t = gone_safe s m used stopped safe in t.safe

  pub tick_safe : (s : RoomState) (now : ℕ) → 1 ≤ s.next_version → ((m : Member) → In m (late_of s.members now) → AllStopped ps m) → IsSafe owner s ps ms boots → IsSafe owner (room_step s events.Tick now).state ps ms boots
  tick_safe s now used stopped safe = settle_safe (drop_late s now).state used (late_safe s now stopped safe)

  -- ---- the restart

  pub restart_safe : (s : RoomState) (now : ℕ) → IsNewOrUsed s → IsSafe owner s ps ms boots → IsSafe owner (room_restarted s now) ps ms boots
  restart_safe s now kept safe =
      cond_both (s.next_version == 1) _ _ (λ (t : RoomState). IsSafe owner t ps ms boots)
      (λ e. subst (λ (t : RoomState). IsSafe owner t ps ms boots) (kept.unused (eqb-true s.next_version 1 e)) safe)
      (λ _. settle_safe (awoken s now) kept.used
      (regrouped owner (last_version s) s.members (map (restarted_at now) s.members) s.boots s.table [] s.phase Quiet ps ms boots (hosts_map (restarted_at now) s.members (λ j. refl)) tt safe))
