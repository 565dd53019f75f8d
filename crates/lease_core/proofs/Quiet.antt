-- What an event of a cluster leaves as it was: an event at a part leaves the placement, the messages and the boots; and an
-- event that is refused leaves all.
use Rattle.std.proofs.Common.{◌≡◌, ◌⊎◌, ℕ, ◌+◌, List, [], ◌∷◌, length, Option, None, Some, refl, sym, ap, ◌∙◌, subst, inl, inr}
use Rattle.std.specs.Prelude.{suc, ◌==◌, nat_le, slice_get, Result, Ok, Err}
use Rattle.std.proofs.lemmas.Bool.{cond_both}
use Rattle.actor_names.specs.declared.member.Member.{Member}
use Rattle.actor_names.specs.declared.actor_key.ActorKey.{ActorKey}
use Rattle.place_table.specs.declared.host.HostInfo.{HostInfo}
use Rattle.place_table.specs.Hosts.{PlacementTable}
use Rattle.part_model.specs.declared.event.PartEvent.{PartEvent}
use Rattle.part_model.specs.declared.event.PartEvent.TheVariants as events_of
use Rattle.part_model.specs.Receipts.{PartReply}
use Rattle.part_model.specs.Part.{PartState}
use Rattle.part_model.specs.declared.ack.Ack as declared
use Rattle.part_model.specs.Acks.{collected, are_stopped}
use Rattle.placement_core.specs.Placement.{PlacementState, late_in}
use Rattle.world_events.specs.declared.settings.WorldSettings.{WorldSettings}
use Rattle.world_events.specs.declared.event.WorldEvent.{WorldEvent}
use Rattle.world_events.specs.declared.event.WorldEvent.TheVariants as lines
use Rattle.world_events.specs.declared.outcome.Outcome.{Outcome}
use Rattle.world_events.specs.declared.outcome.Outcome.TheVariants as out
use Rattle.world_events.specs.declared.error.WorldError.{WorldError}
use Rattle.world_events.specs.declared.error.WorldError.TheVariants as refused
use Rattle.cluster_model.specs.Messages.{Answer, Message, Asks, Tells, told_event}
use Rattle.cluster_model.specs.World as world
use Rattle.cluster_model.specs.World.{ClusterState, WorldStep, CallPlace, most_events}

-- the events at a part
abbrev pub IsQuiet : WorldEvent → Type 0
IsQuiet (lines.At moment) = ⊥
IsQuiet (lines.Boot space node kinds) = ⊥
IsQuiet (lines.Beat m) = ⊥
IsQuiet (lines.Collect m) = ⊥
IsQuiet (lines.Leave m) = ⊥
IsQuiet (lines.To k) = ⊥
IsQuiet (lines.Lost m) = ⊥
IsQuiet lines.PlacementTick = ⊥
IsQuiet lines.Restart = ⊥
IsQuiet e = Unit {0}

-- the placement, the messages, the boots, the settings and the count of events are the same
pub record Rests (w u : ClusterState) : Type 0 where
  pub placement : u.placement ≡ w.placement
  pub messages : u.messages ≡ w.messages
  pub boots : u.boots ≡ w.boots
  pub settings : u.settings ≡ w.settings
  pub events : u.events ≡ w.events

pub rests_self : (w : ClusterState) → Rests w w
rests_self w = record { placement = refl; messages = refl; boots = refl; settings = refl; events = refl }

rests_over : (w u x : ClusterState) → Rests w u → Rests u x → Rests w x
rests_over w u x a b =
    record { placement = b.placement ∙ a.placement; messages = b.messages ∙ a.messages; boots = b.boots ∙ a.boots; settings = b.settings ∙ a.settings; events = b.events ∙ a.events }

-- a world of which only the parts, the marks and the calls have changed
changes_parts : (w u : ClusterState) → u.placement ≡ w.placement → u.messages ≡ w.messages → u.boots ≡ w.boots → u.settings ≡ w.settings → u.events ≡ w.events → Rests w u
changes_parts w u a b c d e = record { placement = a; messages = b; boots = c; settings = d; events = e }

module _ (owner : PlacementTable → ActorKey → Option HostInfo) (part_of : ActorKey → ℕ → ℕ) where
  abbrev Leaves : ClusterState → WorldStep → Type 0
  Leaves w s = Rests w s.world

  stepped : (w : ClusterState) (n : ℕ) (e : PartEvent) (says : PartReply → Outcome) (found : Option PartState) → Leaves w (world.step_of_part owner part_of w n e says found)
  stepped w n e says None = rests_self w
  stepped w n e says (Some p) = changes_parts w _ refl refl refl refl refl

  does : (w : ClusterState) (o : Option ℕ) (e : PartEvent) (says : ℕ → PartReply → Outcome) → Leaves w (world.part_does owner part_of w o e says)
  does w None e says = rests_self w
  does w (Some n) e says = stepped w n e (says n) (slice_get w.parts n)

  called : (w : ClusterState) (number : ℕ) (e : PartEvent) (o : Option ℕ) → Leaves w (world.call_at_place owner part_of w number e o)
  called w number e None = rests_self w
  called w number e (Some n) = go (slice_get w.parts n)
    where
      go : (found : Option PartState) → Leaves w (world.call_of_part owner part_of w number n e found)
      go None = rests_self w
      go (Some p) = changes_parts w _ refl refl refl refl refl

  ended : (w : ClusterState) (number : ℕ) (o : Option CallPlace) → Leaves w (world.end_call owner part_of w number o)
  ended w number None = rests_self w
  ended w number (Some c) = stepped w c.place (events_of.End c.call w.now) (world.end_outcome w.calls number c.place) (slice_get w.parts c.place)

  polled : (w : ClusterState) (number : ℕ) (o : Option CallPlace) → Leaves w (world.poll_call owner part_of w number o)
  polled w number None = rests_self w
  polled w number (Some c) = stepped w c.place (events_of.Poll c.call) (world.call_outcome number) (slice_get w.parts c.place)

  ticks : (w : ClusterState) (ns : List ℕ) (turns : ℕ) → Leaves w (world.tick_each owner part_of w ns turns)
  ticks w [] turns = rests_self w
  ticks w (n ∷ ns) turns =
      let u = (world.tick_part owner part_of w n).world in
      rests_over w u _ (stepped w n (events_of.Tick w.now) (λ reply. out.TickEnded (world.ended_turns reply)) (slice_get w.parts n)) (ticks u ns _)

  told : (w : ClusterState) (n : ℕ) (x : Option PartEvent) (found : Option PartState) → Leaves w (world.told_part owner part_of w n x found)
  told w n None found = rests_self w
  told w n (Some e) found = stepped w n e world.told_outcome found

  to_part : (w : ClusterState) (i : ℕ) (o : Option Message) → Leaves w (world.to_part owner part_of w i o)
  to_part w i None = rests_self w
  to_part w i (Some (Asks r)) = rests_self w
  to_part w i (Some (Tells m a)) = go (world.place_of_part w.parts m i)
    where
      go : (o : Option ℕ) → Leaves w (world.tell_part owner part_of w a o)
      go None = rests_self w
      go (Some n) = told w n (told_event a w.now) (slice_get w.parts n)

  -- an event at a part leaves the rest
  pub quiet_rests : (w : ClusterState) (e : WorldEvent) → IsQuiet e → Rests w (world.happens owner part_of w e).world
  quiet_rests w (lines.Part k i) q = to_part w i (world.message_at w k)
  quiet_rests w (lines.Call number m key least chain) q =
      cond_both (number == suc (length w.calls)) _ _ (Leaves w) (λ _. called w number (world.ask_of key least chain w.now) (world.key_place_of owner part_of w m key)) (λ _. rests_self w)
  quiet_rests w (lines.Poll number) q = polled w number (world.call_at w.calls number)
  quiet_rests w (lines.End number) q = ended w number (world.call_at w.calls number)
  quiet_rests w (lines.Hold m key) q = does w (world.key_place_of owner part_of w m key) (events_of.Hold key) (λ _. world.hold_outcome)
  quiet_rests w (lines.Release m key) q = does w (world.key_place_of owner part_of w m key) (events_of.Release key w.now) (λ _. world.hold_outcome)
  quiet_rests w (lines.Tick m) q = cond_both (world.was_booted w.parts m) _ _ (Leaves w) (λ _. ticks w (world.places_of w.parts m 0) 0) (λ _. rests_self w)
  quiet_rests w (lines.Closing m i) q = does w (world.place_of_part w.parts m i) (events_of.TakeClosing w.now) (λ _. world.closing_outcome)
  quiet_rests w (lines.Closed m key) q = does w (world.key_place_of owner part_of w m key) (events_of.Closed key) (world.closed_outcome w.calls key)
  quiet_rests w (lines.Stop m i) q = does w (world.place_of_part w.parts m i) events_of.StopPart (λ _. world.stop_outcome)
  quiet_rests w e q = absurd q

  -- ---- refusals

  -- why an event is refused that is within the count of events: the number of a call, or a member that runs
  abbrev pub IsWhy : ClusterState → WorldEvent → WorldError → Type 0
  IsWhy w e (refused.WrongNumber next) = Unit {0}
  IsWhy w e (refused.Dishonest m) = (e ≡ lines.Lost m) ⊎ ((e ≡ lines.PlacementTick) × (world.running_among w.parts (late_in w.placement.rooms w.now) ≡ Some m))
  IsWhy w e x = ⊥

  -- if the step is refused, nothing has changed
  abbrev pub RefusedRests : WorldEvent → ClusterState → WorldStep → Type 0
  RefusedRests line w s = (x : WorldError) → s.outcome ≡ Err x → (s.world ≡ w) × IsWhy w line x

  module _ (line : WorldEvent) where
    ok_rests : (w u : ClusterState) (o : Outcome) → RefusedRests line w (record { world = u; outcome = Ok o })
    ok_rests w u o x e = absurd (cc)

    stepped_ok : (w u : ClusterState) (n : ℕ) (e : PartEvent) (says : PartReply → Outcome) (found : Option PartState) → RefusedRests line u (world.step_of_part owner part_of w n e says found)
    stepped_ok w u n e says None = ok_rests u _ _
    stepped_ok w u n e says (Some p) = ok_rests u _ _

    does_ok : (w : ClusterState) (o : Option ℕ) (e : PartEvent) (says : ℕ → PartReply → Outcome) → RefusedRests line w (world.part_does owner part_of w o e says)
    does_ok w None e says = ok_rests w _ _
    does_ok w (Some n) e says = stepped_ok w w n e (says n) (slice_get w.parts n)

    called_ok : (w : ClusterState) (number : ℕ) (e : PartEvent) (o : Option ℕ) → RefusedRests line w (world.call_at_place owner part_of w number e o)
    called_ok w number e None = ok_rests w _ _
    called_ok w number e (Some n) = go (slice_get w.parts n)
      where
        go : (found : Option PartState) → RefusedRests line w (world.call_of_part owner part_of w number n e found)
        go None = ok_rests w _ _
        go (Some p) = ok_rests w _ _

    ended_ok : (w : ClusterState) (number : ℕ) (o : Option CallPlace) → RefusedRests line w (world.end_call owner part_of w number o)
    ended_ok w number None = ok_rests w _ _
    ended_ok w number (Some c) = stepped_ok w w c.place (events_of.End c.call w.now) (world.end_outcome w.calls number c.place) (slice_get w.parts c.place)

    polled_ok : (w : ClusterState) (number : ℕ) (o : Option CallPlace) → RefusedRests line w (world.poll_call owner part_of w number o)
    polled_ok w number None = ok_rests w _ _
    polled_ok w number (Some c) = stepped_ok w w c.place (events_of.Poll c.call) (world.call_outcome number) (slice_get w.parts c.place)

    ticks_ok : (w u : ClusterState) (ns : List ℕ) (turns : ℕ) → RefusedRests line u (world.tick_each owner part_of w ns turns)
    ticks_ok w u [] turns = ok_rests u _ _
    ticks_ok w u (n ∷ ns) turns = ticks_ok (world.tick_part owner part_of w n).world u ns _

    told_ok : (w : ClusterState) (n : ℕ) (x : Option PartEvent) (found : Option PartState) → RefusedRests line w (world.told_part owner part_of w n x found)
    told_ok w n None found = ok_rests w _ _
    told_ok w n (Some e) found = stepped_ok w w n e world.told_outcome found

    to_part_ok : (w : ClusterState) (i : ℕ) (o : Option Message) → RefusedRests line w (world.to_part owner part_of w i o)
    to_part_ok w i None = ok_rests w _ _
    to_part_ok w i (Some (Asks r)) = ok_rests w _ _
    to_part_ok w i (Some (Tells m a)) = go (world.place_of_part w.parts m i)
      where
        go : (o : Option ℕ) → RefusedRests line w (world.tell_part owner part_of w a o)
        go None = ok_rests w _ _
        go (Some n) = told_ok w n (told_event a w.now) (slice_get w.parts n)

    deliver_ok : (w : ClusterState) (o : Option Message) → RefusedRests line w (world.deliver w o)
    deliver_ok w None = ok_rests w _ _
    deliver_ok w (Some (Tells m a)) = ok_rests w _ _
    deliver_ok w (Some (Asks r)) = ok_rests w _ _

    acks_ok : (w : ClusterState) (m : Member) (o : Option declared.Ack) → RefusedRests line w (world.add_ack owner part_of w m o)
    acks_ok w m None = ok_rests w _ _
    acks_ok w m (Some a) = ok_rests w _ _

    dishonest_ok : (w : ClusterState) (m : Member) → IsWhy w line (refused.Dishonest m) → RefusedRests line w (world.dishonest w m)
    dishonest_ok w m why x e = let same : refused.Dishonest m ≡ x = cc in (refl, subst (IsWhy w line) same why)

  -- what happens at a refused event
  pub refused_rests : (w : ClusterState) (e : WorldEvent) → RefusedRests e w (world.happens owner part_of w e)
  refused_rests w (lines.At moment) = ok_rests (lines.At moment) w _ _
  refused_rests w (lines.Boot space node kinds) = ok_rests (lines.Boot space node kinds) w _ _
  refused_rests w (lines.Beat m) = cond_both (world.was_booted w.parts m) _ _ (RefusedRests (lines.Beat m) w) (λ _. ok_rests (lines.Beat m) w _ _) (λ _. ok_rests (lines.Beat m) w _ _)
  refused_rests w (lines.Collect m) = cond_both (world.was_booted w.parts m) _ _ (RefusedRests (lines.Collect m) w) (λ _. acks_ok (lines.Collect m) w m (collected (world.receipts_of owner part_of w.parts m))) (λ _. ok_rests (lines.Collect m) w _ _)
  refused_rests w (lines.Leave m) =
      cond_both (world.was_booted w.parts m) _ _ (RefusedRests (lines.Leave m) w)
      (λ _. cond_both (are_stopped (world.receipts_of owner part_of w.parts m)) _ _ (RefusedRests (lines.Leave m) w) (λ _. ok_rests (lines.Leave m) w _ _) (λ _. ok_rests (lines.Leave m) w _ _))
      (λ _. ok_rests (lines.Leave m) w _ _)
  refused_rests w (lines.To k) = deliver_ok (lines.To k) w (world.message_at w k)
  refused_rests w (lines.Part k i) = to_part_ok (lines.Part k i) w i (world.message_at w k)
  refused_rests w (lines.Call number m key least chain) =
      cond_both (number == suc (length w.calls)) _ _ (RefusedRests (lines.Call number m key least chain) w) (λ _. called_ok (lines.Call number m key least chain) w number (world.ask_of key least chain w.now) (world.key_place_of owner part_of w m key)) (λ _ x q. (let same : refused.WrongNumber (suc (length w.calls)) ≡ x = cc in (refl, subst (IsWhy w (lines.Call number m key least chain)) same tt)))
  refused_rests w (lines.Poll number) = polled_ok (lines.Poll number) w number (world.call_at w.calls number)
  refused_rests w (lines.End number) = ended_ok (lines.End number) w number (world.call_at w.calls number)
  refused_rests w (lines.Hold m key) = does_ok (lines.Hold m key) w (world.key_place_of owner part_of w m key) (events_of.Hold key) (λ _. world.hold_outcome)
  refused_rests w (lines.Release m key) = does_ok (lines.Release m key) w (world.key_place_of owner part_of w m key) (events_of.Release key w.now) (λ _. world.hold_outcome)
  refused_rests w (lines.Tick m) = cond_both (world.was_booted w.parts m) _ _ (RefusedRests (lines.Tick m) w) (λ _. ticks_ok (lines.Tick m) w w (world.places_of w.parts m 0) 0) (λ _. ok_rests (lines.Tick m) w _ _)
  refused_rests w (lines.Closing m i) = does_ok (lines.Closing m i) w (world.place_of_part w.parts m i) (events_of.TakeClosing w.now) (λ _. world.closing_outcome)
  refused_rests w (lines.Closed m key) = does_ok (lines.Closed m key) w (world.key_place_of owner part_of w m key) (events_of.Closed key) (world.closed_outcome w.calls key)
  refused_rests w (lines.Stop m i) = does_ok (lines.Stop m i) w (world.place_of_part w.parts m i) events_of.StopPart (λ _. world.stop_outcome)
  refused_rests w (lines.Lost m) =
      cond_both (world.was_booted w.parts m) _ _ (RefusedRests (lines.Lost m) w)
      (λ _. cond_both (world.all_stopped w.parts m) _ _ (RefusedRests (lines.Lost m) w) (λ _. ok_rests (lines.Lost m) w _ _) (λ _. dishonest_ok (lines.Lost m) w m (inl refl)))
      (λ _. ok_rests (lines.Lost m) w _ _)
  refused_rests w lines.PlacementTick = go (world.running_among w.parts (late_in w.placement.rooms w.now)) refl
    where
      go : (o : Option Member) → world.running_among w.parts (late_in w.placement.rooms w.now) ≡ o → RefusedRests lines.PlacementTick w (world.honest_tick w o)
      go None is = ok_rests lines.PlacementTick w _ _
      go (Some m) is = dishonest_ok lines.PlacementTick w m (inr (refl, is))
  refused_rests w lines.Restart = ok_rests lines.Restart w _ _
