-- Every event of the cluster keeps it safe.
use Rattle.std.proofs.Common.{◌≡◌, ℕ, true, false, append-nil, ◌≤◌, List, [], ◌∷◌, ◌++◌, Option, None, Some, refl, sym, ap, ◌∙◌, subst, inl, inr, arith}
use Rattle.std.specs.Prelude.{suc, slice_get, bytes_eq, unwrap_or}
use Rattle.std.proofs.lemmas.Bool.{cond_both, cases_Bool}
use Rattle.actor_names.specs.Names.{default_space}
use Rattle.actor_names.specs.declared.member.Member.{Member}
use Rattle.actor_names.specs.declared.actor_key.ActorKey.{ActorKey}
use Rattle.place_table.specs.declared.host.HostInfo.{HostInfo}
use Rattle.place_table.specs.declared.ack_stage.AckStage.{AckStage}
use Rattle.place_table.specs.declared.ack_stage.AckStage.TheVariants as stages
use Rattle.place_table.specs.Hosts.{PlacementTable}
use Rattle.turn_core.specs.CellSound.{In}
use Rattle.turn_core.proofs.Elements.{In-push}
use Rattle.part_model.specs.declared.event.PartEvent.{PartEvent}
use Rattle.part_model.specs.Part.{PartState, part_step}
use Rattle.part_model.proofs.PartTables.{part_stepped}
use Rattle.round_core.specs.declared.event.PlaceEvent.{PlaceEvent}
use Rattle.round_core.specs.declared.event.PlaceEvent.TheVariants as changes
use Rattle.round_core.specs.declared.event.PlaceReply.{PlaceReply}
use Rattle.round_core.specs.declared.event.PlaceReply.TheVariants as replies
use Rattle.round_core.specs.declared.phase.RoundPhase.{RoundPhase}
use Rattle.round_core.specs.declared.phase.RoundPhase.TheVariants.{Running}
use Rattle.round_core.specs.Room.{RoomState, new_room, last_version, stage_reply, room_step}
use Rattle.placement_core.specs.Placement.{PlacementState, PlacementStep, room_of, placement_step, new_placement}
use Rattle.round_core.specs.Runs.{Steps, Restarts}
use Rattle.round_core.specs.Reached.{IsReached}
use Rattle.round_core.proofs.Reached.{new_reached, event_reached}
use Rattle.part_model.specs.Progress.{MemberReached}
use Rattle.world_events.specs.declared.settings.WorldSettings.{WorldSettings}
use Rattle.world_events.specs.declared.event.WorldEvent.{WorldEvent}
use Rattle.cluster_model.specs.Messages.{Request, Register, Beat, Ack, Leave, Answer, UpdateTo, Message, Asks, Tells, answer_of, change_of, asker_of, table_of}
use Rattle.cluster_model.specs.World as world
use Rattle.cluster_model.specs.World.{ClusterState, new_parts}
use Rattle.cluster_model.specs.Spaces.{SpaceState, is_of, parts_of, messages_of, seen_in, KeepsToSpace}
use Rattle.cluster_model.specs.Invariant.{version_of, AllStopped, IsBooted, IsHeard, IsSafeAt, IsSafe, IsSafeSpace, IsActiveOnce}
use Rattle.cluster_model.proofs.Basics.{In-slice_get}
use Rattle.cluster_model.proofs.Joins.{one_entry}
use Rattle.cluster_model.proofs.PartKeeps.{part_safe}
use Rattle.cluster_model.proofs.Filters.{filter-set, filter-set_other}
use Rattle.cluster_model.proofs.RoomSteps.{event_space, Enters, own_room, other_room, tick_room, restart_room, late_room}
use Rattle.cluster_model.proofs.SpaceParts.{space_is, in_messages, from_messages, pushed_own, pushed_other, booted_own, booted_other, heard_own, stopped_own, reached_own, backed, world_once}
use Rattle.cluster_model.proofs.Places.{IsReplyOf, IsStepSafe, register_safe, beat_safe, ack_safe, leave_safe, lost_safe, tick_safe, restart_safe}
use Rattle.cluster_model.proofs.Messages.{IsPlain, push_plain, push_told, stage_answer}
use Rattle.cluster_model.proofs.Boots.{boot_safe}
use Rattle.cluster_model.specs.Invariant.{IsSafeWorld}
use Rattle.cluster_model.proofs.Lines.{MayAsk, IsHonest, AreKept, run_kept}
use Rattle.cluster_model.proofs.Forgets.{restart_forgets}
use Rattle.cluster_model.proofs.Acks.{acks_below, asked_used}

tells_asks : (m : Member) (a : Answer) (r : Request) → Tells m a ≡ Asks r → ⊥
tells_asks m a r e = cc

asks_tells : (m : Member) (a : Answer) (r : Request) → Asks r ≡ Tells m a → ⊥
asks_tells m a r e = cc

asks_injective : (a b : Request) → Asks a ≡ Asks b → a ≡ b
asks_injective a b e = cc

tells_same : (m n : Member) (a b : Answer) → Tells m a ≡ Tells n b → a ≡ b
tells_same m n a b e = cc

no_version : (v : ℕ) → ◌≡◌ {A = Option ℕ} None (Some v) → ⊥
no_version v e = cc

-- the reply of a stage as its message carries it
stage_message : (space : List ℕ) (last : ℕ) (fixed : List HostInfo) (s : AckStage) → stage_answer space last fixed s ≡ answer_of space fixed (stage_reply s last)
stage_message space last fixed stages.Lock = refl
stage_message space last fixed stages.Update = refl
stage_message space last fixed stages.Unlock = refl

-- the table of an answer is of the space that it goes to
answer_space : (space : List ℕ) (hosts : List HostInfo) (r : PlaceReply) (t : PlacementTable) → UpdateTo t ≡ answer_of space hosts r → t.space ≡ space
answer_space space hosts (replies.Update v) t e = let same : t ≡ table_of space v hosts = cc in ap (λ (z : PlacementTable). z.space) same
answer_space space hosts r t e = absurd (cc)

tells_member : (m n : Member) (a b : Answer) → Tells m a ≡ Tells n b → m ≡ n
tells_member m n a b e = cc

asks_space : (r : Request) → event_space (change_of r) ≡ Some (asker_of r).space
asks_space (Register h) = refl
asks_space r = refl

module _ (owner : PlacementTable → ActorKey → Option HostInfo) (part_of : ActorKey → ℕ → ℕ) where
  -- ---- messages

  -- what is known of a request among the messages
  abbrev IsBacked : List PartState → ℕ → Request → Type 0
  IsBacked ps boots (Register h) = h.member.boot ≤ boots
  IsBacked ps boots (Beat m) = Unit {0}
  IsBacked ps boots (Ack m st v) = MemberReached owner ps m st v × (m.boot ≤ boots)
  IsBacked ps boots (Leave m) = AllStopped ps m × (m.boot ≤ boots)

  request_plain : (ps : List PartState) (boots : ℕ) (r : Request) → IsBacked ps boots r → IsPlain owner ps boots (Asks r)
  request_plain ps boots r known =
      record {
        silent = λ m q v e f. absurd (tells_asks m q r e);
        acks = λ m st v e. subst (IsBacked ps boots) (sym (asks_injective (Ack m st v) r e)) known;
        leaves = λ m e. subst (IsBacked ps boots) (sym (asks_injective (Leave m) r e)) known;
        registers = λ h e. subst (IsBacked ps boots) (sym (asks_injective (Register h) r e)) known;
      }

  asked_backed : (w : ClusterState) (space : List ℕ) (r : Request) → MayAsk owner part_of w r → IsBacked (parts_of space w.parts) w.boots r
  asked_backed w space (Register h) may = absurd may
  asked_backed w space (Beat m) may = tt
  asked_backed w space (Ack m st v) may = (reached_own owner w.parts m st v space (λ p i e. inr (may.0 p i e)), may.1)
  asked_backed w space (Leave m) may = (stopped_own w.parts m space may.0, may.1)

  -- a reply that gives no version
  silent_plain : (ps : List PartState) (boots : ℕ) (m : Member) (a : Answer) → version_of a ≡ None → IsPlain owner ps boots (Tells m a)
  silent_plain ps boots m a e =
      record {
        silent = λ n q v f g. no_version v (sym e ∙ ap version_of (sym (tells_same n m q a f)) ∙ g);
        acks = λ n st v f. absurd (asks_tells m a (Ack n st v) f);
        leaves = λ n f. absurd (asks_tells m a (Leave n) f);
        registers = λ h f. absurd (asks_tells m a (Register h) f);
      }

  -- ---- what a space sees

  abbrev HasOwnTables : List ℕ → List Message → Type 0
  HasOwnTables space ms = (x : Member) (t : PlacementTable) → In (Tells x (UpdateTo t)) ms → t.space ≡ space

  -- the reply of a room's step is the next message
  reply_told : (space : List ℕ) (ps : List PartState) (ms : List Message) (boots : ℕ) (t : RoomState) (m : Member) (r : PlaceReply) → HasOwnTables space ms → IsReached t → IsReplyOf t m r → IsSafe owner t ps ms boots →
      IsSafe owner t ps (ms ++ Tells m (answer_of space t.table r) ∷ []) boots
  reply_told space ps ms boots t m r ours reached (inl e) safe = push_plain owner ps boots ms (Tells m (answer_of space t.table r)) (silent_plain ps boots m (answer_of space t.table r) (e space)) _ _ _ _ _ safe
  reply_told space ps ms boots t m r ours reached (inr h) safe =
      let at = subst (λ (f : RoundPhase). IsSafeAt owner (last_version t) t.members t.boots t.table f ps ms boots) h.phase safe in
      let told = push_told owner space (last_version t) t.members t.boots t.table ps ms boots h.stage ours at h.entry h.here h.pending
      (λ k i q. one_entry t.members k h.entry reached.distinct i h.here (ap (λ (z : Member). z.node) q)) in
      let same : Tells h.entry.host.member (stage_answer space (last_version t) t.table h.stage) ≡ Tells m (answer_of space t.table r) =
      ap (λ (z : Member). Tells z (stage_answer space (last_version t) t.table h.stage)) h.member ∙ ap (λ (a : Answer). Tells m a) (stage_message space (last_version t) t.table h.stage ∙ ap (λ (q : PlaceReply). answer_of space t.table q) (sym h.reply)) in
      subst (λ (f : RoundPhase). IsSafeAt owner (last_version t) t.members t.boots t.table f ps (ms ++ Tells m (answer_of space t.table r) ∷ []) boots) (sym h.phase)
      (subst (λ (x : Message). IsSafeAt owner (last_version t) t.members t.boots t.table (Running h.stage) ps (ms ++ x ∷ []) boots) same told)

  -- the space after its room has answered a request
  abbrev answered_space : SpaceState → Request → ℕ → SpaceState
  answered_space v r now =
      let t = room_step v.room (change_of r) now in record v { room = t.state; messages = v.messages ++ Tells (asker_of r) (answer_of v.space t.state.table t.reply) ∷ [] }

  answered_in : (v : SpaceState) (r : Request) (now : ℕ) → HasOwnTables v.space v.messages → IsSafeSpace owner v → IsStepSafe owner v.parts v.messages v.boots (asker_of r) (room_step v.room (change_of r) now) →
      IsSafeSpace owner (answered_space v r now)
  answered_in v r now ours s t =
      let reached = event_reached v.room (Steps (change_of r) now) s.reached in
      record { reached = reached; safe = reply_told v.space v.parts v.messages v.boots (room_step v.room (change_of r) now).state (asker_of r) _ ours reached t.reply t.safe }

  answer_in : (v : SpaceState) (r : Request) (now : ℕ) → HasOwnTables v.space v.messages → IsSafeSpace owner v → In (Asks r) v.messages → IsSafeSpace owner (answered_space v r now)
  answer_in v (Register h) now ours s i = answered_in v (Register h) now ours s (register_safe owner v.parts v.messages v.boots v.room h now s.reached.kept.used (s.safe.booted.registers h i) s.safe)
  answer_in v (Beat m) now ours s i = answered_in v (Beat m) now ours s (beat_safe owner v.parts v.messages v.boots v.room m now s.reached.kept.used s.safe)
  answer_in v (Ack m st n) now ours s i = answered_in v (Ack m st n) now ours s (ack_safe owner v.parts v.messages v.boots v.room m st n now s.reached.kept.used (s.safe.members.acks m st n i) s.safe)
  answer_in v (Leave m) now ours s i = answered_in v (Leave m) now ours s (leave_safe owner v.parts v.messages v.boots v.room m now s.reached.kept.used (s.safe.members.leaves m i) s.safe)

  -- ---- the seven changes

  own_tables : (w : ClusterState) (space : List ℕ) → IsSafeWorld owner w → HasOwnTables space (messages_of space w.messages)
  own_tables w space s x t i = let h = from_messages w.messages (Tells x (UpdateTo t)) space i in s.tables x t h.0 ∙ sym (space_is space x h.1)

  -- a message that isn't an Update leaves the tables as they are
  same_tables : (ms : List Message) (x : Message) → ((m : Member) (t : PlacementTable) → Tells m (UpdateTo t) ≡ x → t.space ≡ m.space) →
      ((m : Member) (t : PlacementTable) → In (Tells m (UpdateTo t)) ms → t.space ≡ m.space) → (m : Member) (t : PlacementTable) → In (Tells m (UpdateTo t)) (ms ++ x ∷ []) → t.space ≡ m.space
  same_tables ms x new old m t i = elim (In-push ms x (Tells m (UpdateTo t)) i) [ inl j ↦ old m t j | inr e ↦ new m t e ]

  answer_own : (w : ClusterState) (r : Request) (space : List ℕ) (t : PlacementStep) → IsSafeWorld owner w → In (Asks r) w.messages → is_of space (asker_of r) ≡ true → Enters w.placement (change_of r) w.now space t →
      IsSafeSpace owner (seen_in (world.answers w r t).world space)
  answer_own w r space t s i own (inl h) =
      let v = seen_in w space in
      let same : space ≡ (asker_of r).space = space_is space (asker_of r) own in
      let told : Tells (asker_of r) (answer_of (asker_of r).space (room_of t.state (asker_of r).space).table t.reply) ≡ Tells (asker_of r) (answer_of space (room_step v.room (change_of r) w.now).state.table (room_step v.room (change_of r) w.now).reply) =
      ap (λ (z : List ℕ). Tells (asker_of r) (answer_of z (room_of t.state z).table t.reply)) (sym same) ∙ (λ k. Tells (asker_of r) (answer_of space (h.0 k).table (h.1 k))) in
      let messages = pushed_own w.messages (Tells (asker_of r) (answer_of (asker_of r).space (room_of t.state (asker_of r).space).table t.reply)) space own ∙ ap (λ (x : Message). v.messages ++ x ∷ []) told in
      let after : seen_in (world.answers w r t).world space ≡ answered_space v r w.now = λ k. record { space = space; room = h.0 k; parts = v.parts; messages = messages k; boots = w.boots } in
      subst (IsSafeSpace owner) (sym after) (answer_in v r w.now (own_tables w space s) (s.spaces space) (in_messages w.messages (Asks r) space i own))
  answer_own w r space t s i own (inr h) =
      let v = seen_in w space in
      let a = answer_of (asker_of r).space (room_of t.state (asker_of r).space).table t.reply in
      let plain = silent_plain v.parts w.boots (asker_of r) a (ap (λ (q : PlaceReply). version_of (answer_of (asker_of r).space (room_of t.state (asker_of r).space).table q)) h.1.1) in
      let after : seen_in (world.answers w r t).world space ≡ record v { messages = v.messages ++ Tells (asker_of r) a ∷ [] } =
      λ k. record { space = space; room = room_of (h.0 k) space; parts = v.parts; messages = pushed_own w.messages (Tells (asker_of r) a) space own k; boots = w.boots } in
      subst (IsSafeSpace owner) (sym after) (record { reached = (s.spaces space).reached; safe = push_plain owner v.parts w.boots v.messages (Tells (asker_of r) a) plain _ _ _ _ _ (s.spaces space).safe })

  answer_other : (w : ClusterState) (r : Request) (space : List ℕ) (t : PlacementStep) → IsSafeWorld owner w → is_of space (asker_of r) ≡ false → room_of t.state space ≡ room_of w.placement space → IsSafeSpace owner (seen_in (world.answers w r t).world space)
  answer_other w r space t s away kept =
      let after : seen_in (world.answers w r t).world space ≡ seen_in w space =
      λ k. record { space = space; room = kept k; parts = parts_of space w.parts; messages = pushed_other w.messages (Tells (asker_of r) (answer_of (asker_of r).space (room_of t.state (asker_of r).space).table t.reply)) space away k; boots = w.boots } in
      subst (IsSafeSpace owner) (sym after) (s.spaces space)

  answer_safe : (w : ClusterState) (r : Request) → IsSafeWorld owner w → In (Asks r) w.messages → IsSafeWorld owner (world.answers w r (placement_step w.placement (change_of r) w.now)).world
  answer_safe w r s i =
      let t = placement_step w.placement (change_of r) w.now in
      record {
        spaces = λ space. elim (cases_Bool (is_of space (asker_of r))) [
          | inl own ↦ answer_own w r space t s i own (own_room w.placement (change_of r) w.now space (asks_space r ∙ ap Some (sym (space_is space (asker_of r) own))))
          | inr away ↦ answer_other w r space t s away (other_room w.placement (change_of r) w.now (asker_of r).space space (asks_space r) away)
        ];
        tables = same_tables w.messages _
            (λ m u e. answer_space (asker_of r).space (room_of t.state (asker_of r).space).table t.reply u (tells_same m (asker_of r) (UpdateTo u) _ e) ∙ ap (λ (z : Member). z.space) (sym (tells_member m (asker_of r) (UpdateTo u) _ e)))
            s.tables;
        acks = λ m st v k. elim (In-push w.messages _ (Asks (Ack m st v)) k) [
          | inl j ↦ acks_below owner part_of w (change_of r) s m st v j
          | inr e ↦ absurd (asks_tells _ _ (Ack m st v) e)
        ];
      }

  -- the room of a space, changed
  abbrev with_space_room : SpaceState → RoomState → SpaceState
  with_space_room v r = record v { room = r }

  lost_own : (w : ClusterState) (m : Member) (space : List ℕ) (t : PlacementStep) → IsSafeWorld owner w → AllStopped w.parts m → Enters w.placement (changes.Lost m) w.now space t →
      IsSafeSpace owner (seen_in (record w { placement = t.state }) space)
  lost_own w m space t s stopped (inl h) =
      let v = seen_in w space in
      let r = (s.spaces space).reached in
      subst (λ (x : RoomState). IsSafeSpace owner (with_space_room v x)) (sym h.0)
      (record {
        reached = event_reached v.room (Steps (changes.Lost m) w.now) r;
        safe = lost_safe owner v.parts v.messages v.boots v.room m w.now r.kept.used (stopped_own w.parts m space stopped) (s.spaces space).safe;
      })
  lost_own w m space t s stopped (inr h) = subst (λ (x : RoomState). IsSafeSpace owner (with_space_room (seen_in w space) x)) (ap (λ (z : PlacementState). room_of z space) (sym h.0)) (s.spaces space)

  change_safe : (w : ClusterState) (e : PlaceEvent) → IsSafeWorld owner w → IsHonest owner part_of w e → IsSafeWorld owner (record w { placement = (placement_step w.placement e w.now).state })
  change_safe w (changes.Lost m) s h =
      record {
        spaces = λ space. elim (cases_Bool (is_of space m)) [
          | inl own ↦ lost_own w m space _ s h (own_room w.placement (changes.Lost m) w.now space (ap Some (sym (space_is space m own))))
          | inr away ↦ subst (λ (x : RoomState). IsSafeSpace owner (with_space_room (seen_in w space) x)) (sym (other_room w.placement (changes.Lost m) w.now m.space space refl away)) (s.spaces space)
        ];
        tables = s.tables;
        acks = acks_below owner part_of w (changes.Lost m) s;
      }
  change_safe w changes.Tick s h =
      record {
        spaces = λ space.
            let v = seen_in w space in
            let r = (s.spaces space).reached in
            subst (λ (x : RoomState). IsSafeSpace owner (with_space_room v x)) (sym (tick_room w.placement w.now space))
            (record {
              reached = event_reached v.room (Steps changes.Tick w.now) r;
              safe = tick_safe owner v.parts v.messages v.boots v.room w.now r.kept.used (λ m i. stopped_own w.parts m space (h m (late_room w.placement w.now space m i))) (s.spaces space).safe;
            });
        tables = s.tables;
        acks = acks_below owner part_of w changes.Tick s;
      }
  change_safe w (changes.Register host) s h = absurd h
  change_safe w e s h = absurd h

  pub step_safe : (w : ClusterState) (n : ℕ) (p : PartState) (e : PartEvent) → IsSafeWorld owner w → slice_get w.parts n ≡ Some p → IsHeard w.messages p.member e →
      IsSafeWorld owner (world.with_step owner part_of w n p (part_step owner p e))
  step_safe w n p e s at heard =
      let q = (part_step owner p e).part in
      let stepped = part_stepped owner p e (backed owner w s p (In-slice_get w.parts n p at)).sound in
      record {
        spaces = λ space.
            let v = seen_in w space in
            elim (cases_Bool (is_of space p.member)) [
              | inl own ↦ (
                  let k = filter-set (λ (x : PartState). is_of space x.member) w.parts n p q at own (subst (λ (m : Member). is_of space m ≡ true) (sym stepped.member) own) in
                  subst (λ (ps : List PartState). IsSafeSpace owner (record v { parts = ps })) (sym k.2)
                  (record { reached = (s.spaces space).reached; safe = part_safe owner _ _ _ _ _ v.parts v.messages v.boots (s.spaces space).safe k.0 p e q k.1 (heard_own w.messages p.member e space own heard) stepped }))
              | inr away ↦ (
                  let same = filter-set_other (λ (x : PartState). is_of space x.member) w.parts n p q at away (subst (λ (m : Member). is_of space m ≡ false) (sym stepped.member) away) in
                  subst (λ (ps : List PartState). IsSafeSpace owner (record v { parts = ps })) (sym same) (s.spaces space))
            ];
        tables = s.tables;
        acks = s.acks;
      }

  ask_safe : (w : ClusterState) (r : Request) → IsSafeWorld owner w → MayAsk owner part_of w r → IsBooted w.parts (asker_of r) → IsSafeWorld owner (world.with_message w (Asks r))
  ask_safe w r s may booted =
      record {
        spaces = λ space.
            let v = seen_in w space in
            elim (cases_Bool (is_of space (asker_of r))) [
              | inl own ↦ subst (λ (ms : List Message). IsSafeSpace owner (record v { messages = ms })) (sym (pushed_own w.messages (Asks r) space own))
                  (record { reached = (s.spaces space).reached; safe = push_plain owner v.parts w.boots v.messages (Asks r) (request_plain v.parts w.boots r (asked_backed w space r may)) _ _ _ _ _ (s.spaces space).safe })
              | inr away ↦ subst (λ (ms : List Message). IsSafeSpace owner (record v { messages = ms })) (sym (pushed_other w.messages (Asks r) space away)) (s.spaces space)
            ];
        tables = same_tables w.messages (Asks r) (λ m t e. absurd (tells_asks m (UpdateTo t) r e)) s.tables;
        acks = λ m st v i. elim (In-push w.messages (Asks r) (Asks (Ack m st v)) i) [ inl j ↦ s.acks m st v j | inr e ↦ asked_used owner part_of w r s may booted m st v e ];
      }

  boot_own : (w : ClusterState) (m : Member) (kinds : List (List ℕ)) (space : List ℕ) → m.boot ≡ suc w.boots → IsSafeWorld owner w → is_of space m ≡ true → IsSafeSpace owner (seen_in (world.booted w m kinds).world space)
  boot_own w m kinds space fresh s own =
      let v = seen_in w space in
      let settings = world.settings_for w.settings kinds in
      let x = Asks (Register (world.host_of m kinds)) in
      let booted = boot_safe owner _ _ _ _ _ v.parts v.messages w.boots (s.spaces space).safe m fresh settings w.settings.parts in
      let after : seen_in (world.booted w m kinds).world space ≡ record v { parts = v.parts ++ new_parts m settings 0 w.settings.parts; messages = v.messages ++ x ∷ []; boots = suc w.boots } =
      λ k. record { space = space; room = v.room; parts = booted_own w.parts m settings w.settings.parts space own k; messages = pushed_own w.messages x space own k; boots = suc w.boots } in
      subst (IsSafeSpace owner) (sym after)
      (record {
        reached = (s.spaces space).reached;
        safe = push_plain owner _ (suc w.boots) v.messages x (request_plain _ (suc w.boots) (Register (world.host_of m kinds)) (let h = fresh in omega arith)) _ _ _ _ _ booted;
      })

  boot_other : (w : ClusterState) (m : Member) (kinds : List (List ℕ)) (space : List ℕ) → m.boot ≡ suc w.boots → IsSafeWorld owner w → is_of space m ≡ false → IsSafeSpace owner (seen_in (world.booted w m kinds).world space)
  boot_other w m kinds space fresh s away =
      let v = seen_in w space in
      let settings = world.settings_for w.settings kinds in
      let x = Asks (Register (world.host_of m kinds)) in
      let booted = boot_safe owner _ _ _ _ _ v.parts v.messages w.boots (s.spaces space).safe m fresh settings 0 in
      let after : seen_in (world.booted w m kinds).world space ≡ record v { parts = v.parts ++ []; boots = suc w.boots } =
      λ k. record {
        space = space;
        room = v.room;
        parts = (booted_other w.parts m settings w.settings.parts space away ∙ sym (append-nil v.parts)) k;
        messages = pushed_other w.messages x space away k;
        boots = suc w.boots;
      } in
      subst (IsSafeSpace owner) (sym after) (record { reached = (s.spaces space).reached; safe = booted })

  pub safe_kept : AreKept owner part_of (IsSafeWorld owner)
  safe_kept =
      record {
        safe = λ w s. s;
        other = λ w now calls events s. record { spaces = s.spaces; tables = s.tables; acks = s.acks };
        step = λ w n p e s at heard asked. step_safe w n p e s at heard;
        ask = λ w r s may booted. ask_safe w r s may booted;
        answer = answer_safe;
        change = change_safe;
        restart = λ w s. record {
          spaces = λ space.
              let v = seen_in w space in
              let r = (s.spaces space).reached in
              subst (λ (x : RoomState). IsSafeSpace owner (with_space_room v x)) (sym (restart_room w.placement w.now space))
              (record { reached = event_reached v.room (Restarts w.now) r; safe = restart_safe owner v.parts v.messages v.boots v.room w.now r.kept (s.spaces space).safe });
          tables = s.tables;
          acks = λ m st v i. (let old = s.acks m st v i in let more = (restart_forgets w.placement w.now (λ space. (s.spaces space).reached) m.space).versions in omega arith);
        };
        boot = λ w m kinds fresh s. record {
          spaces = λ space. elim (cases_Bool (is_of space m)) [ inl own ↦ boot_own w m kinds space fresh s own | inr away ↦ boot_other w m kinds space fresh s away ];
          tables = same_tables w.messages (Asks (Register (world.host_of m kinds))) (λ x t e. absurd (tells_asks x (UpdateTo t) (Register (world.host_of m kinds)) e)) s.tables;
          acks = λ x st v i. elim (In-push w.messages _ (Asks (Ack x st v)) i) [ inl j ↦ s.acks x st v j | inr e ↦ absurd (cc) ];
        };
      }

  -- ---- every list of events

  pub opening_room : (space : List ℕ) → room_of new_placement space ≡ new_room
  opening_room space = cond_both (bytes_eq space default_space) _ _ (λ (o : Option RoomState). unwrap_or o new_room ≡ new_room) (λ _. refl) (λ _. refl)

  pub new_world_safe : (settings : WorldSettings) → IsSafeWorld owner (world.opening_cluster settings)
  new_world_safe settings =
      record {
        spaces = λ space. subst (λ (r : RoomState). IsSafeSpace owner (record { space = space; room = r; parts = []; messages = []; boots = 0 })) (sym (opening_room space))
            (record {
              reached = new_reached;
              safe = record {
                parts = λ q i. absurd i;
                messages = record { told_below = λ m v w. absurd w.1; told_above = λ m v w. absurd w.1; one_table = λ m n t u i. absurd i; told_boot = λ m v w. absurd w.1; member_boot = λ m i. absurd i };
                booted = record { joined = λ m i. absurd i; told = λ m v w. absurd w.1; acks = λ m s v i. absurd i; leaves = λ m i. absurd i; registers = λ h i. absurd i };
                members = record { told = λ m v w. absurd w.1; leaves = λ m i. absurd i; acks = λ m s v i. absurd i };
                round = tt;
                unlocks = record { seen = λ v w p u. absurd u.1; owned = λ w p c u. absurd u.1 };
              };
            });
        tables = λ m t i. absurd i;
        acks = λ m st v i. absurd i;
      }

  pub run_safe : (settings : WorldSettings) (es : List WorldEvent) → IsSafeWorld owner (world.cluster_run owner part_of (world.opening_cluster settings) es)
  run_safe settings es = run_kept owner part_of (IsSafeWorld owner) safe_kept (world.opening_cluster settings) es (new_world_safe settings)

  -- over every list of events no actor is active on two members, if no table gives away an actor of another space
  pub run_active_once : KeepsToSpace owner → (settings : WorldSettings) (es : List WorldEvent) → IsActiveOnce (world.cluster_run owner part_of (world.opening_cluster settings) es).parts
  run_active_once keeps settings es = world_once owner keeps (world.cluster_run owner part_of (world.opening_cluster settings) es) (run_safe settings es)
