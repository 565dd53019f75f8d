-- What each event of a cluster does to the room of a space, and which messages of rounds it adds there.
use Rattle.std.proofs.Common.{◌≡◌, ◌⊎◌, ℕ, true, List, [], ◌∷◌, ◌++◌, length, Option, None, Some, refl, sym, ap, ◌∙◌, subst, inl, inr}
use Rattle.std.specs.Prelude.{suc, nat_le, ◌==◌, slice_get}
use Rattle.std.proofs.lemmas.Bool.{cond_both}
use Rattle.actor_names.specs.declared.actor_key.ActorKey.{ActorKey}
use Rattle.actor_names.specs.declared.member.Member.{Member}
use Rattle.place_table.specs.declared.ack_stage.AckStage.{AckStage}
use Rattle.place_table.specs.declared.ack_stage.AckStage.TheVariants as stages
use Rattle.place_table.specs.declared.host.HostInfo.{HostInfo}
use Rattle.place_table.specs.Hosts.{PlacementTable}
use Rattle.turn_core.specs.CellSound.{In}
use Rattle.turn_core.proofs.Elements.{In-push}
use Rattle.part_model.specs.declared.event.PartEvent.{PartEvent}
use Rattle.part_model.specs.declared.event.PartEvent.TheVariants as events
use Rattle.part_model.specs.Receipts.{PartReply}
use Rattle.part_model.specs.Part.{PartState}
use Rattle.part_model.specs.declared.ack.Ack as declared
use Rattle.part_model.specs.Acks.{collected, are_stopped}
use Rattle.member_roster.specs.Members.{Joined}
use Rattle.round_core.specs.declared.event.PlaceEvent.{PlaceEvent}
use Rattle.round_core.specs.declared.event.PlaceEvent.TheVariants as changes
use Rattle.round_core.specs.declared.event.PlaceReply.{PlaceReply}
use Rattle.round_core.specs.declared.event.PlaceReply.TheVariants as replies
use Rattle.round_core.specs.declared.phase.RoundPhase.TheVariants.{Running}
use Rattle.round_core.specs.Room.{RoomState, last_version, stage_reply, room_step}
use Rattle.placement_core.specs.Placement.{PlacementState, room_of, late_in, placement_step, placement_restarted}
use Rattle.world_events.specs.declared.event.WorldEvent.{WorldEvent}
use Rattle.world_events.specs.declared.event.WorldEvent.TheVariants as lines
use Rattle.world_events.specs.declared.outcome.Outcome.{Outcome}
use Rattle.world_events.specs.declared.outcome.Outcome.TheVariants as out
use Rattle.cluster_model.specs.Messages.{Request, Register, Beat, Ack, Leave, Answer, Message, Asks, Tells, answer_of, change_of, asker_of, told_event}
use Rattle.cluster_model.specs.World as world
use Rattle.cluster_model.specs.World.{ClusterState, WorldStep, CallPlace, most_events, ask_of}
use Rattle.cluster_model.specs.Spaces.{SpaceState, is_of, seen_in}
use Rattle.cluster_model.specs.Invariant.{version_of, WasTold, IsSafeWorld}
use Rattle.cluster_model.proofs.Named.{In-message_at}
use Rattle.cluster_model.proofs.Places.{IsReplyOf, register_safe, beat_safe, ack_safe, leave_safe}
use Rattle.cluster_model.proofs.RoomSteps.{event_space, own_room, room_after, restart_room}
use Rattle.cluster_model.proofs.SpaceParts.{space_is, in_messages, from_messages}
use Rattle.cluster_model.proofs.RoundSteps.{Changes, changes_self, step_changes, restart_changes}

-- a member that is pending in the running round of a version
pub record IsPendingAt (room : RoomState) (m : Member) (v : ℕ) : Type 0 where
  pub stage : AckStage
  pub entry : Joined
  pub phase : room.phase ≡ Running stage
  pub here : In entry room.members
  pub member : m ≡ entry.host.member
  pub pending : entry.pending ≡ true
  pub version : v ≡ last_version room

-- the room changes, and each message of a round is an old one or goes to a member that is pending now
pub record Moves (s t : SpaceState) : Type 0 where
  pub changes : Changes s.room t.room
  pub told : (m : Member) (v : ℕ) → WasTold t.messages m v → WasTold s.messages m v ⊎ IsPendingAt t.room m v

-- nothing happens to the placement, and it says nothing
record Rests (w u : ClusterState) : Type 0 where
  pub placement : u.placement ≡ w.placement
  pub told : (m : Member) (a : Answer) → In (Tells m a) u.messages → In (Tells m a) w.messages

rests_self : (w : ClusterState) → Rests w w
rests_self w = record { placement = refl; told = λ m a i. i }

rests_over : (w u x : ClusterState) → Rests w u → Rests u x → Rests w x
rests_over w u x a b = record { placement = b.placement ∙ a.placement; told = λ m r i. a.told m r (b.told m r i) }

tells_asks : (m : Member) (a : Answer) (r : Request) → Tells m a ≡ Asks r → ⊥
tells_asks m a r e = cc

asks_told : (ms : List Message) (r : Request) (m : Member) (a : Answer) → In (Tells m a) (ms ++ Asks r ∷ []) → In (Tells m a) ms
asks_told ms r m a i = elim (In-push ms (Asks r) (Tells m a) i) [ inl j ↦ j | inr e ↦ absurd (tells_asks m a r e) ]

-- ---- events that don't reach the placement

abbrev IsAside : WorldEvent → Type 0
IsAside (lines.To k) = ⊥
IsAside (lines.Lost m) = ⊥
IsAside lines.PlacementTick = ⊥
IsAside lines.Restart = ⊥
IsAside e = Unit {0}

module _ (owner : PlacementTable → ActorKey → Option HostInfo) (part_of : ActorKey → ℕ → ℕ) where
  abbrev RestsIn : ClusterState → WorldStep → Type 0
  RestsIn w s = Rests w s.world

  asked : (w : ClusterState) (r : Request) → RestsIn w (world.added w r)
  asked w r = record { placement = refl; told = asks_told w.messages r }

  stepped : (w : ClusterState) (n : ℕ) (e : PartEvent) (says : PartReply → Outcome) (found : Option PartState) → RestsIn w (world.step_of_part owner part_of w n e says found)
  stepped w n e says None = rests_self w
  stepped w n e says (Some p) = record { placement = refl; told = λ m a i. i }

  does : (w : ClusterState) (o : Option ℕ) (e : PartEvent) (says : ℕ → PartReply → Outcome) → RestsIn w (world.part_does owner part_of w o e says)
  does w None e says = rests_self w
  does w (Some n) e says = stepped w n e (says n) (slice_get w.parts n)

  called : (w : ClusterState) (number : ℕ) (e : PartEvent) (o : Option ℕ) → RestsIn w (world.call_at_place owner part_of w number e o)
  called w number e None = rests_self w
  called w number e (Some n) = go (slice_get w.parts n)
    where
      go : (found : Option PartState) → RestsIn w (world.call_of_part owner part_of w number n e found)
      go None = rests_self w
      go (Some p) = record { placement = refl; told = λ m a i. i }

  ended : (w : ClusterState) (number : ℕ) (o : Option CallPlace) → RestsIn w (world.end_call owner part_of w number o)
  ended w number None = rests_self w
  ended w number (Some c) = stepped w c.place (events.End c.call w.now) (world.end_outcome w.calls number c.place) (slice_get w.parts c.place)

  polled : (w : ClusterState) (number : ℕ) (o : Option CallPlace) → RestsIn w (world.poll_call owner part_of w number o)
  polled w number None = rests_self w
  polled w number (Some c) = stepped w c.place (events.Poll c.call) (world.call_outcome number) (slice_get w.parts c.place)

  ticks : (w : ClusterState) (ns : List ℕ) (turns : ℕ) → RestsIn w (world.tick_each owner part_of w ns turns)
  ticks w [] turns = rests_self w
  ticks w (n ∷ ns) turns =
      let u = (world.tick_part owner part_of w n).world in
      rests_over w u _ (stepped w n (events.Tick w.now) (λ reply. out.TickEnded (world.ended_turns reply)) (slice_get w.parts n)) (ticks u ns _)

  acks : (w : ClusterState) (m : Member) (o : Option declared.Ack) → RestsIn w (world.add_ack owner part_of w m o)
  acks w m None = rests_self w
  acks w m (Some a) = asked w (Ack m a.stage a.version)

  tells : (w : ClusterState) (r : Answer) (o : Option ℕ) → RestsIn w (world.tell_part owner part_of w r o)
  tells w r None = rests_self w
  tells w r (Some n) = go (told_event r w.now)
    where
      go : (x : Option PartEvent) → RestsIn w (world.told_part owner part_of w n x (slice_get w.parts n))
      go None = rests_self w
      go (Some x) = stepped w n x world.told_outcome (slice_get w.parts n)

  to_part : (w : ClusterState) (i : ℕ) (o : Option Message) → RestsIn w (world.to_part owner part_of w i o)
  to_part w i None = rests_self w
  to_part w i (Some (Asks r)) = rests_self w
  to_part w i (Some (Tells m r)) = tells w r (world.place_of_part w.parts m i)

  aside : (w : ClusterState) (e : WorldEvent) → IsAside e → RestsIn w (world.happens owner part_of w e)
  aside w (lines.At moment) h = record { placement = refl; told = λ m a i. i }
  aside w (lines.Boot space node kinds) h = record { placement = refl; told = asks_told w.messages (Register _) }
  aside w (lines.Beat m) h = cond_both (world.was_booted w.parts m) _ _ (RestsIn w) (λ _. asked w (Beat m)) (λ _. rests_self w)
  aside w (lines.Collect m) h =
      cond_both (world.was_booted w.parts m) _ _ (RestsIn w) (λ _. acks w m (collected (world.receipts_of owner part_of w.parts m))) (λ _. rests_self w)
  aside w (lines.Leave m) h =
      cond_both (world.was_booted w.parts m) _ _ (RestsIn w)
      (λ _. cond_both (are_stopped (world.receipts_of owner part_of w.parts m)) _ _ (RestsIn w) (λ _. asked w (Leave m)) (λ _. rests_self w))
      (λ _. rests_self w)
  aside w (lines.To k) h = absurd h
  aside w (lines.Part k i) h = to_part w i (world.message_at w k)
  aside w (lines.Call number m key least chain) h =
      cond_both (number == suc (length w.calls)) _ _ (RestsIn w) (λ _. called w number (ask_of key least chain w.now) (world.key_place_of owner part_of w m key)) (λ _. rests_self w)
  aside w (lines.Poll number) h = polled w number (world.call_at w.calls number)
  aside w (lines.End number) h = ended w number (world.call_at w.calls number)
  aside w (lines.Hold m key) h = does w (world.key_place_of owner part_of w m key) (events.Hold key) (λ _. world.hold_outcome)
  aside w (lines.Release m key) h = does w (world.key_place_of owner part_of w m key) (events.Release key w.now) (λ _. world.hold_outcome)
  aside w (lines.Tick m) h = cond_both (world.was_booted w.parts m) _ _ (RestsIn w) (λ _. ticks w (world.places_of w.parts m 0) 0) (λ _. rests_self w)
  aside w (lines.Closing m i) h = does w (world.place_of_part w.parts m i) (events.TakeClosing w.now) (λ _. world.closing_outcome)
  aside w (lines.Closed m key) h = does w (world.key_place_of owner part_of w m key) (events.Closed key) (world.closed_outcome w.calls key)
  aside w (lines.Stop m i) h = does w (world.place_of_part w.parts m i) events.StopPart (λ _. world.stop_outcome)
  aside w (lines.Lost m) h = absurd h
  aside w lines.PlacementTick h = absurd h
  aside w lines.Restart h = absurd h

-- ---- what a space sees of a change of the placement

rests_moves : (w u : ClusterState) (space : List ℕ) → Rests w u → Moves (seen_in w space) (seen_in u space)
rests_moves w u space r =
    record {
      changes = subst (λ (p : PlacementState). Changes (room_of w.placement space) (room_of p space)) (sym r.placement) (changes_self (room_of w.placement space));
      told = λ m v k. (let h = from_messages u.messages (Tells m k.0) space k.1 in inl (k.0, in_messages w.messages (Tells m k.0) space (r.told m k.0 h.0) h.1, k.2));
    }

placement_moves : (w : ClusterState) (p : PlacementState) (space : List ℕ) → Changes (room_of w.placement space) (room_of p space) → Moves (seen_in w space) (seen_in (record w { placement = p }) space)
placement_moves w p space c = record { changes = c; told = λ m v k. inl k }

step_room : (s : PlacementState) (e : PlaceEvent) (now : ℕ) (space : List ℕ) → Changes (room_of s space) (room_of (placement_step s e now).state space)
step_room s e now space = elim (room_after s e now space) [
  | inl h ↦ subst (Changes (room_of s space)) (sym h) (step_changes (room_of s space) e now)
  | inr h ↦ subst (Changes (room_of s space)) (sym h) (changes_self (room_of s space))
]

restarted_room : (s : PlacementState) (now : ℕ) (space : List ℕ) → Changes (room_of s space) (room_of (placement_restarted s now) space)
restarted_room s now space = subst (Changes (room_of s space)) (sym (restart_room s now space)) (restart_changes (room_of s space) now)

-- ---- an answer

-- the version that an answer gives is that of its reply
answer_version : (space other : List ℕ) (hosts more : List HostInfo) (r : PlaceReply) → version_of (answer_of space hosts r) ≡ version_of (answer_of other more r)
answer_version space other hosts more (replies.Lock v) = refl
answer_version space other hosts more (replies.Update v) = refl
answer_version space other hosts more (replies.Unlock v) = refl
answer_version space other hosts more replies.Idle = refl
answer_version space other hosts more replies.Gone = refl
answer_version space other hosts more (replies.Ticked n) = refl
answer_version space other hosts more replies.Looked = refl
answer_version space other hosts more (replies.StaleBoot n) = refl
answer_version space other hosts more (replies.NodeBusy n) = refl
answer_version space other hosts more (replies.NotMember n) = refl
answer_version space other hosts more (replies.SpacesFull n) = refl
answer_version space other hosts more (replies.Full m n) = refl
answer_version space other hosts more replies.OutOfMemory = refl

stage_version : (space : List ℕ) (hosts : List HostInfo) (stage : AckStage) (v : ℕ) → version_of (answer_of space hosts (stage_reply stage v)) ≡ Some v
stage_version space hosts stages.Lock v = refl
stage_version space hosts stages.Update v = refl
stage_version space hosts stages.Unlock v = refl

no_version : (v : ℕ) → ◌≡◌ {A = Option ℕ} None (Some v) → ⊥
no_version v e = cc

same_version : (v u : ℕ) → Some v ≡ Some u → v ≡ u
same_version v u e = cc

-- a reply that gives a version is to a member that is pending
reply_pending : (s : RoomState) (m : Member) (r : PlaceReply) (space : List ℕ) (hosts : List HostInfo) (v : ℕ) → IsReplyOf s m r → version_of (answer_of space hosts r) ≡ Some v → IsPendingAt s m v
reply_pending s m r space hosts v (inl none) e = absurd (no_version v (sym (none space) ∙ answer_version space space s.table hosts r ∙ e))
reply_pending s m r space hosts v (inr o) e =
    record {
      stage = o.stage;
      entry = o.entry;
      phase = o.phase;
      here = o.here;
      member = sym o.member;
      pending = o.pending;
      version = same_version v (last_version s) (sym e ∙ ap (λ (x : PlaceReply). version_of (answer_of space hosts x)) o.reply ∙ stage_version space hosts o.stage (last_version s));
    }

asks_space : (r : Request) → event_space (change_of r) ≡ Some (asker_of r).space
asks_space (Register h) = refl
asks_space (Beat m) = refl
asks_space (Ack m st v) = refl
asks_space (Leave m) = refl

tells_member : (m n : Member) (a b : Answer) → Tells m a ≡ Tells n b → m ≡ n
tells_member m n a b e = cc

tells_answer : (m n : Member) (a b : Answer) → Tells m a ≡ Tells n b → a ≡ b
tells_answer m n a b e = cc

module _ (owner : PlacementTable → ActorKey → Option HostInfo) (part_of : ActorKey → ℕ → ℕ) where
  answer_reply : (w : ClusterState) (space : List ℕ) (r : Request) → IsSafeWorld owner w → In (Asks r) (seen_in w space).messages →
      IsReplyOf (room_step (room_of w.placement space) (change_of r) w.now).state (asker_of r) (room_step (room_of w.placement space) (change_of r) w.now).reply
  answer_reply w space (Register h) safe i =
      let v = seen_in w space in
      let s = safe.spaces space in
      (register_safe owner v.parts v.messages v.boots v.room h w.now s.reached.kept.used (s.safe.booted.registers h i) s.safe).reply
  answer_reply w space (Beat m) safe i =
      let v = seen_in w space in
      let s = safe.spaces space in
      (beat_safe owner v.parts v.messages v.boots v.room m w.now s.reached.kept.used s.safe).reply
  answer_reply w space (Ack m st n) safe i =
      let v = seen_in w space in
      let s = safe.spaces space in
      (ack_safe owner v.parts v.messages v.boots v.room m st n w.now s.reached.kept.used (s.safe.members.acks m st n i) s.safe).reply
  answer_reply w space (Leave m) safe i =
      let v = seen_in w space in
      let s = safe.spaces space in
      (leave_safe owner v.parts v.messages v.boots v.room m w.now s.reached.kept.used (s.safe.members.leaves m i) s.safe).reply

  -- an answer that gives a version goes to a member that is pending in the room of its space
  answer_pending : (w : ClusterState) (space : List ℕ) (r : Request) (hosts : List HostInfo) (v : ℕ) → IsSafeWorld owner w → In (Asks r) w.messages → is_of space (asker_of r) ≡ true →
      version_of (answer_of (asker_of r).space hosts (placement_step w.placement (change_of r) w.now).reply) ≡ Some v →
      IsPendingAt (room_of (placement_step w.placement (change_of r) w.now).state space) (asker_of r) v
  answer_pending w space r hosts v safe i own e =
      elim (own_room w.placement (change_of r) w.now space (asks_space r ∙ ap Some (sym (space_is space (asker_of r) own)))) [
        | inl h ↦ subst (λ (x : RoomState). IsPendingAt x (asker_of r) v) (sym h.0)
            (reply_pending _ (asker_of r) _ (asker_of r).space hosts v (answer_reply w space r safe (in_messages w.messages (Asks r) space i own))
            (ap (λ (x : PlaceReply). version_of (answer_of (asker_of r).space hosts x)) (sym h.1) ∙ e))
        | inr h ↦ absurd (no_version v (ap (λ (x : PlaceReply). version_of (answer_of (asker_of r).space hosts x)) (sym h.1.1) ∙ e))
      ]

  answer_moves : (w : ClusterState) (space : List ℕ) (r : Request) → IsSafeWorld owner w → In (Asks r) w.messages →
      Moves (seen_in w space) (seen_in (world.answers w r (placement_step w.placement (change_of r) w.now)).world space)
  answer_moves w space r safe i =
      let t = placement_step w.placement (change_of r) w.now in
      let hosts = world.table_in t.state (asker_of r).space in
      let a = answer_of (asker_of r).space hosts t.reply in
      record {
        changes = step_room w.placement (change_of r) w.now space;
        told = λ m v k.
            let h = from_messages (w.messages ++ Tells (asker_of r) a ∷ []) (Tells m k.0) space k.1 in
            elim (In-push w.messages (Tells (asker_of r) a) (Tells m k.0) h.0) [
              | inl j ↦ inl (k.0, in_messages w.messages (Tells m k.0) space j h.1, k.2)
              | inr e ↦ (
                  let same : m ≡ asker_of r = tells_member m (asker_of r) k.0 a e in
                  let own : is_of space (asker_of r) ≡ true = subst (λ (x : Member). is_of space x ≡ true) same h.1 in
                  let version : version_of a ≡ Some v = ap version_of (sym (tells_answer m (asker_of r) k.0 a e)) ∙ k.2 in
                  inr (subst (λ (x : Member). IsPendingAt (room_of t.state space) x v) (sym same) (answer_pending w space r hosts v safe i own version)))
            ];
      }

  -- ---- every event

  delivers : (w : ClusterState) (space : List ℕ) (o : Option Message) → ((x : Message) → o ≡ Some x → In x w.messages) → IsSafeWorld owner w → Moves (seen_in w space) (seen_in (world.deliver w o).world space)
  delivers w space None i safe = rests_moves w w space (rests_self w)
  delivers w space (Some (Tells m a)) i safe = rests_moves w w space (rests_self w)
  delivers w space (Some (Asks r)) i safe = answer_moves w space r safe (i _ refl)

  honest : (w : ClusterState) (space : List ℕ) (o : Option Member) → Moves (seen_in w space) (seen_in (world.honest_tick w o).world space)
  honest w space None = placement_moves w (placement_step w.placement changes.Tick w.now).state space (step_room w.placement changes.Tick w.now space)
  honest w space (Some m) = rests_moves w w space (rests_self w)

  abbrev MovesIn : ClusterState → List ℕ → WorldStep → Type 0
  MovesIn w space s = Moves (seen_in w space) (seen_in s.world space)

  line_moves : (w : ClusterState) (space : List ℕ) (e : WorldEvent) → IsSafeWorld owner w → MovesIn w space (world.happens owner part_of w e)
  line_moves w space (lines.To k) safe = delivers w space (world.message_at w k) (In-message_at w k) safe
  line_moves w space (lines.Lost m) safe =
      cond_both (world.was_booted w.parts m) _ _ (MovesIn w space)
      (λ _. cond_both (world.all_stopped w.parts m) _ _ (MovesIn w space)
      (λ _. placement_moves w (placement_step w.placement (changes.Lost m) w.now).state space (step_room w.placement (changes.Lost m) w.now space))
      (λ _. rests_moves w w space (rests_self w)))
      (λ _. rests_moves w w space (rests_self w))
  line_moves w space lines.PlacementTick safe = honest w space (world.running_among w.parts (late_in w.placement.rooms w.now))
  line_moves w space lines.Restart safe = placement_moves w (placement_restarted w.placement w.now) space (restarted_room w.placement w.now space)
  line_moves w space e safe = rests_moves w _ space (aside owner part_of w e tt)

  pub step_moves : (w : ClusterState) (space : List ℕ) (e : WorldEvent) → IsSafeWorld owner w → MovesIn w space (world.cluster_step owner part_of w e)
  step_moves w space e safe =
      cond_both (nat_le most_events w.events) _ _ (MovesIn w space) (λ _. rests_moves w w space (rests_self w)) (λ _. line_moves w space e safe)
