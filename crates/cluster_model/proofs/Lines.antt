-- What every event of a cluster comes down to: a property that seven changes of a safe cluster preserve is preserved by
-- every event, and by every list of events. A property of the calls made so far needs a case of its own for a call.
use Rattle.std.proofs.Common.{◌≡◌, ℕ, true, ◌+◌, ◌≤◌, List, [], ◌∷◌, ◌++◌, length, Option, None, Some, refl, sym, ap, ◌∙◌, subst}
use Rattle.std.specs.Prelude.{suc, nat_le, ◌==◌, slice_get}
use Rattle.std.proofs.lemmas.Bool.{cond_both}
use Rattle.actor_names.specs.declared.member.Member.{Member}
use Rattle.actor_names.specs.declared.actor_key.ActorKey.{ActorKey}
use Rattle.place_table.specs.declared.host.HostInfo.{HostInfo}
use Rattle.place_table.specs.declared.ack_stage.AckStage.{AckStage}
use Rattle.place_table.specs.Hosts.{PlacementTable}
use Rattle.turn_core.specs.CellSound.{In}
use Rattle.part_model.specs.declared.event.PartEvent.{PartEvent}
use Rattle.part_model.specs.declared.event.PartEvent.TheVariants as events
use Rattle.part_model.specs.Receipts.{PartReply}
use Rattle.part_model.specs.Activity.{IsAsked}
use Rattle.part_model.specs.Part.{PartState, part_step}
use Rattle.round_core.specs.declared.event.PlaceEvent.{PlaceEvent}
use Rattle.round_core.specs.declared.event.PlaceEvent.TheVariants as changes
use Rattle.placement_core.specs.Placement.{late_in, placement_step, placement_restarted}
use Rattle.part_model.specs.declared.ack.Ack as declared
use Rattle.part_model.specs.Acks.{collected, are_stopped}
use Rattle.part_model.specs.Progress.{PartReached}
use Rattle.part_model.proofs.Collects.{collected_reached, stopped_receipts}
use Rattle.world_events.specs.declared.event.WorldEvent.{WorldEvent}
use Rattle.world_events.specs.declared.event.WorldEvent.TheVariants as lines
use Rattle.world_events.specs.declared.outcome.Outcome.{Outcome}
use Rattle.world_events.specs.declared.outcome.Outcome.TheVariants as out
use Rattle.cluster_model.specs.Messages.{Request, Register, Beat, Ack, Leave, Answer, Message, Asks, Tells, change_of, asker_of, told_event}
use Rattle.cluster_model.specs.World as world
use Rattle.cluster_model.specs.World.{ClusterState, WorldStep, CallPlace, most_events, ask_of}
use Rattle.cluster_model.specs.Invariant.{IsBooted, IsHeard, AllStopped, IsSafeWorld}
use Rattle.cluster_model.proofs.SpaceParts.{backed}
use Rattle.cluster_model.proofs.Named.{booted_part, all_stopped_all, none_running, same_place, told_heard, told_asks_not, ask_heard, ask_asks, In-message_at, In-receipts_of}

module _ (owner : PlacementTable → ActorKey → Option HostInfo) (part_of : ActorKey → ℕ → ℕ) where
  -- each part of the member has reached the stage of the version, and none has stopped
  abbrev pub AllReached : List PartState → Member → AckStage → ℕ → Type 0
  AllReached ps m stage v = (p : PartState) → In p ps → p.member ≡ m → PartReached owner stage v p

  -- what is known of a request that is added
  abbrev pub MayAsk : ClusterState → Request → Type 0
  MayAsk w (Register h) = ⊥
  MayAsk w (Beat m) = Unit {0}
  MayAsk w (Ack m s v) = AllReached w.parts m s v × (m.boot ≤ w.boots)
  MayAsk w (Leave m) = AllStopped w.parts m × (m.boot ≤ w.boots)

  -- an event of the placement that no message brings
  abbrev pub IsHonest : ClusterState → PlaceEvent → Type 0
  IsHonest w (changes.Lost m) = AllStopped w.parts m
  IsHonest w changes.Tick = (m : Member) → In m (late_in w.placement.rooms w.now) → AllStopped w.parts m
  IsHonest w e = ⊥

  -- what every event but a call comes down to: no part that takes a step is called
  pub record AreQuietKept (P : ClusterState → Type 0) : Type 0 where
    pub safe : (w : ClusterState) → P w → IsSafeWorld owner w
    pub other : (w : ClusterState) (now events : ℕ) → P w → P (record w { now = now; events = events })
    pub step : (w : ClusterState) (n : ℕ) (p : PartState) (e : PartEvent) → P w → slice_get w.parts n ≡ Some p → IsHeard w.messages p.member e →
        ((k : ActorKey) → IsAsked e k → ⊥) → P (world.with_step owner part_of w n p (part_step owner p e))
    pub ask : (w : ClusterState) (r : Request) → P w → MayAsk w r → IsBooted w.parts (asker_of r) → P (world.with_message w (Asks r))
    pub answer : (w : ClusterState) (r : Request) → P w → In (Asks r) w.messages → P (world.answers w r (placement_step w.placement (change_of r) w.now)).world
    pub change : (w : ClusterState) (e : PlaceEvent) → P w → IsHonest w e → P (record w { placement = (placement_step w.placement e w.now).state })
    pub restart : (w : ClusterState) → P w → P (record w { placement = placement_restarted w.placement w.now })
    pub boot : (w : ClusterState) (m : Member) (kinds : List (List ℕ)) → m.boot ≡ suc w.boots → P w → P (world.booted w m kinds).world

  -- the same for every event, for a property that doesn't look at the calls
  pub record AreKept (P : ClusterState → Type 0) : Type 0 where
    pub safe : (w : ClusterState) → P w → IsSafeWorld owner w
    pub other : (w : ClusterState) (now : ℕ) (calls : List (Option CallPlace)) (events : ℕ) → P w → P (record w { now = now; calls = calls; events = events })
    pub step : (w : ClusterState) (n : ℕ) (p : PartState) (e : PartEvent) → P w → slice_get w.parts n ≡ Some p → IsHeard w.messages p.member e →
        ((k : ActorKey) → IsAsked e k → part_of k w.settings.parts ≡ p.number) → P (world.with_step owner part_of w n p (part_step owner p e))
    pub ask : (w : ClusterState) (r : Request) → P w → MayAsk w r → IsBooted w.parts (asker_of r) → P (world.with_message w (Asks r))
    pub answer : (w : ClusterState) (r : Request) → P w → In (Asks r) w.messages → P (world.answers w r (placement_step w.placement (change_of r) w.now)).world
    pub change : (w : ClusterState) (e : PlaceEvent) → P w → IsHonest w e → P (record w { placement = (placement_step w.placement e w.now).state })
    pub restart : (w : ClusterState) → P w → P (record w { placement = placement_restarted w.placement w.now })
    pub boot : (w : ClusterState) (m : Member) (kinds : List (List ℕ)) → m.boot ≡ suc w.boots → P w → P (world.booted w m kinds).world

  quiet_kept : (P : ClusterState → Type 0) → AreKept P → AreQuietKept P
  quiet_kept P kept =
      record {
        safe = kept.safe;
        other = λ w now events t. kept.other w now w.calls events t;
        step = λ w n p e t at heard quiet. kept.step w n p e t at heard (λ k a. absurd (quiet k a));
        ask = kept.ask;
        answer = kept.answer;
        change = kept.change;
        restart = kept.restart;
        boot = kept.boot;
      }

  abbrev pub IsNoCall : WorldEvent → Type 0
  IsNoCall (lines.Call number m key least chain) = ⊥
  IsNoCall e = Unit {0}

  module _ (P : ClusterState → Type 0) (kept : AreQuietKept P) where
    abbrev Ends : WorldStep → Type 0
    Ends s = P s.world

    booted_of : (w : ClusterState) (m : Member) → P w → world.was_booted w.parts m ≡ true → m.boot ≤ w.boots
    booted_of w m t e = let h = booted_part w.parts m e in subst (λ (x : Member). x.boot ≤ w.boots) h.2 (backed owner w (kept.safe w t) h.0 h.1).booted

    step_of : (w : ClusterState) (n : ℕ) (e : PartEvent) (says : PartReply → Outcome) (found : Option PartState) → slice_get w.parts n ≡ found → ((p : PartState) → found ≡ Some p → IsHeard w.messages p.member e) →
        ((k : ActorKey) → IsAsked e k → ⊥) → P w → Ends (world.step_of_part owner part_of w n e says found)
    step_of w n e says None is heard quiet t = t
    step_of w n e says (Some p) is heard quiet t = kept.step w n p e t is (heard p refl) quiet

    quiet_step : (w : ClusterState) (n : ℕ) (e : PartEvent) (says : PartReply → Outcome) → ((m : Member) → IsHeard w.messages m e) → ((k : ActorKey) → IsAsked e k → ⊥) → P w → Ends (world.step_of_part owner part_of w n e says (slice_get w.parts n))
    quiet_step w n e says heard quiet t = step_of w n e says (slice_get w.parts n) refl (λ p _. heard p.member) quiet t

    does : (w : ClusterState) (o : Option ℕ) (e : PartEvent) (says : ℕ → PartReply → Outcome) → ((m : Member) → IsHeard w.messages m e) → ((k : ActorKey) → IsAsked e k → ⊥) → P w → Ends (world.part_does owner part_of w o e says)
    does w None e says heard quiet t = t
    does w (Some n) e says heard quiet t = quiet_step w n e (says n) heard quiet t

    ended : (w : ClusterState) (number : ℕ) (o : Option CallPlace) → P w → Ends (world.end_call owner part_of w number o)
    ended w number None t = t
    ended w number (Some c) t = quiet_step w c.place (events.End c.call w.now) (world.end_outcome w.calls number c.place) (λ _. tt) (λ k a. a) t

    polled : (w : ClusterState) (number : ℕ) (o : Option CallPlace) → P w → Ends (world.poll_call owner part_of w number o)
    polled w number None t = t
    polled w number (Some c) t = quiet_step w c.place (events.Poll c.call) (world.call_outcome number) (λ _. tt) (λ k a. a) t

    ticks : (w : ClusterState) (ns : List ℕ) (turns : ℕ) → P w → Ends (world.tick_each owner part_of w ns turns)
    ticks w [] turns t = t
    ticks w (n ∷ ns) turns t =
        ticks (world.tick_part owner part_of w n).world ns _ (quiet_step w n (events.Tick w.now) (λ reply. out.TickEnded (world.ended_turns reply)) (λ _. tt) (λ k a. a) t)

    acks : (w : ClusterState) (m : Member) (o : Option declared.Ack) → collected (world.receipts_of owner part_of w.parts m) ≡ o → m.boot ≤ w.boots → IsBooted w.parts m → P w → Ends (world.add_ack owner part_of w m o)
    acks w m None e b booted t = t
    acks w m (Some a) e b booted t = kept.ask w (Ack m a.stage a.version) t (reached, b) booted
      where
        reached : AllReached w.parts m a.stage a.version
        reached p i is = collected_reached owner (world.receipts_of owner part_of w.parts m) a e p (In-receipts_of owner part_of w.parts m p i is)

    delivers : (w : ClusterState) (o : Option Message) → ((x : Message) → o ≡ Some x → In x w.messages) → P w → Ends (world.deliver w o)
    delivers w None i t = t
    delivers w (Some (Tells m r)) i t = t
    delivers w (Some (Asks r)) i t = kept.answer w r t (i _ refl)

    tells : (w : ClusterState) (m : Member) (i : ℕ) (r : Answer) (o : Option ℕ) → world.place_of_part w.parts m i ≡ o → In (Tells m r) w.messages → P w → Ends (world.tell_part owner part_of w r o)
    tells w m i r None e h t = t
    tells w m i r (Some n) e h t = go (told_event r w.now) refl
      where
        go : (x : Option PartEvent) → told_event r w.now ≡ x → Ends (world.told_part owner part_of w n x (slice_get w.parts n))
        go None is = t
        go (Some x) is =
            step_of w n x world.told_outcome (slice_get w.parts n) refl
            (λ p at. told_heard w.messages p.member r w.now x (subst (λ (y : Member). In (Tells y r) w.messages) (sym (same_place w.parts m i n p e at).0) h) is)
            (told_asks_not r w.now x is) t

    to_part : (w : ClusterState) (i : ℕ) (o : Option Message) → ((x : Message) → o ≡ Some x → In x w.messages) → P w → Ends (world.to_part owner part_of w i o)
    to_part w i None h t = t
    to_part w i (Some (Asks r)) h t = t
    to_part w i (Some (Tells m r)) h t = tells w m i r (world.place_of_part w.parts m i) refl (h _ refl) t

    honest : (w : ClusterState) (o : Option Member) → world.running_among w.parts (late_in w.placement.rooms w.now) ≡ o → P w → Ends (world.honest_tick w o)
    honest w None e t = kept.change w changes.Tick t (none_running w.parts _ e)
    honest w (Some m) e t = t

    pub quiet_line : (w : ClusterState) (e : WorldEvent) → IsNoCall e → P w → Ends (world.happens owner part_of w e)
    quiet_line w (lines.At moment) plain t = kept.other w moment w.events t
    quiet_line w (lines.Boot space node kinds) plain t = kept.boot w (record { space = space; node = node; boot = suc w.boots }) kinds refl t
    quiet_line w (lines.Beat m) plain t = cond_both (world.was_booted w.parts m) _ _ Ends (λ b. kept.ask w (Beat m) t tt (booted_part w.parts m b)) (λ _. t)
    quiet_line w (lines.Collect m) plain t =
        cond_both (world.was_booted w.parts m) _ _ Ends (λ b. acks w m (collected (world.receipts_of owner part_of w.parts m)) refl (booted_of w m t b) (booted_part w.parts m b) t) (λ _. t)
    quiet_line w (lines.Leave m) plain t =
        cond_both (world.was_booted w.parts m) _ _ Ends
        (λ b. cond_both (are_stopped (world.receipts_of owner part_of w.parts m)) _ _ Ends
        (λ l. kept.ask w (Leave m) t ((λ p i e. stopped_receipts owner (world.receipts_of owner part_of w.parts m) l p (In-receipts_of owner part_of w.parts m p i e)), booted_of w m t b) (booted_part w.parts m b))
        (λ _. t))
        (λ _. t)
    quiet_line w (lines.To k) plain t = delivers w (world.message_at w k) (In-message_at w k) t
    quiet_line w (lines.Part k i) plain t = to_part w i (world.message_at w k) (In-message_at w k) t
    quiet_line w (lines.Call number m key least chain) plain t = absurd plain
    quiet_line w (lines.Poll number) plain t = polled w number (world.call_at w.calls number) t
    quiet_line w (lines.End number) plain t = ended w number (world.call_at w.calls number) t
    quiet_line w (lines.Hold m key) plain t = does w (world.key_place_of owner part_of w m key) (events.Hold key) (λ _. world.hold_outcome) (λ _. tt) (λ k a. a) t
    quiet_line w (lines.Release m key) plain t = does w (world.key_place_of owner part_of w m key) (events.Release key w.now) (λ _. world.hold_outcome) (λ _. tt) (λ k a. a) t
    quiet_line w (lines.Tick m) plain t = cond_both (world.was_booted w.parts m) _ _ Ends (λ _. ticks w (world.places_of w.parts m 0) 0 t) (λ _. t)
    quiet_line w (lines.Closing m i) plain t = does w (world.place_of_part w.parts m i) (events.TakeClosing w.now) (λ _. world.closing_outcome) (λ _. tt) (λ k a. a) t
    quiet_line w (lines.Closed m key) plain t = does w (world.key_place_of owner part_of w m key) (events.Closed key) (world.closed_outcome w.calls key) (λ _. tt) (λ k a. a) t
    quiet_line w (lines.Stop m i) plain t = does w (world.place_of_part w.parts m i) events.StopPart (λ _. world.stop_outcome) (λ _. tt) (λ k a. a) t
    quiet_line w (lines.Lost m) plain t =
        cond_both (world.was_booted w.parts m) _ _ Ends
        (λ _. cond_both (world.all_stopped w.parts m) _ _ Ends (λ a. kept.change w (changes.Lost m) t (all_stopped_all w.parts m a)) (λ _. t))
        (λ _. t)
    quiet_line w lines.PlacementTick plain t = honest w (world.running_among w.parts (late_in w.placement.rooms w.now)) refl t
    quiet_line w lines.Restart plain t = kept.restart w t

  module _ (P : ClusterState → Type 0) (kept : AreKept P) where
    abbrev KeptEnds : WorldStep → Type 0
    KeptEnds s = P s.world

    call : (w : ClusterState) (number : ℕ) (m : Member) (key : ActorKey) (least : ℕ) (chain : Option (List ℕ)) (o : Option ℕ) → world.key_place_of owner part_of w m key ≡ o → P w →
        KeptEnds (world.call_at_place owner part_of w number (ask_of key least chain w.now) o)
    call w number m key least chain None e t = t
    call w number m key least chain (Some n) e t = go (slice_get w.parts n) refl
      where
        go : (found : Option PartState) → slice_get w.parts n ≡ found → KeptEnds (world.call_of_part owner part_of w number n (ask_of key least chain w.now) found)
        go None is = t
        go (Some p) is =
            let x = ask_of key least chain w.now in
            let did = kept.step w n p x t is (ask_heard w.messages p.member key least chain w.now)
            (λ k a. ap (λ (z : ActorKey). part_of z w.settings.parts) (sym (ask_asks key least chain w.now k a)) ∙ sym (same_place w.parts m (part_of key w.settings.parts) n p e is).1) in
            kept.other (world.with_step owner part_of w n p (part_step owner p x)) w.now _ w.events did

    pub line_kept : (w : ClusterState) (e : WorldEvent) → P w → KeptEnds (world.happens owner part_of w e)
    line_kept w (lines.Call number m key least chain) t =
        cond_both (number == suc (length w.calls)) _ _ KeptEnds (λ _. call w number m key least chain (world.key_place_of owner part_of w m key) refl t) (λ _. t)
    line_kept w e t = quiet_line P (quiet_kept P kept) w e tt t

    pub step_kept : (w : ClusterState) (e : WorldEvent) → P w → KeptEnds (world.cluster_step owner part_of w e)
    step_kept w e t =
        cond_both (nat_le most_events w.events) _ _ KeptEnds (λ _. t)
        (λ _. let s = world.happens owner part_of w e in kept.other s.world s.world.now s.world.calls (s.world.events + world.weight_of s.outcome) (line_kept w e t))

    pub run_kept : (w : ClusterState) (es : List WorldEvent) → P w → P (world.cluster_run owner part_of w es)
    run_kept w [] t = t
    run_kept w (e ∷ es) t = run_kept (world.cluster_step owner part_of w e).world es (step_kept w e t)

  -- a run of some events, and then of others
  pub cluster_run-append : (w : ClusterState) (es fs : List WorldEvent) → world.cluster_run owner part_of w (es ++ fs) ≡ world.cluster_run owner part_of (world.cluster_run owner part_of w es) fs
  cluster_run-append w [] fs = refl
  cluster_run-append w (e ∷ es) fs = cluster_run-append (world.cluster_step owner part_of w e).world es fs
