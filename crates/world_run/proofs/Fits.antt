-- What the safety of a cluster gives for the next event, and for the world after it.
use Rattle.std.proofs.Common.{◌≡◌, ℕ, ◌+◌, ◌<◌, ◌≤◌, ◌^◌, true, false, cond, List, [], ◌∷◌, ◌++◌, refl, sym, ap, ◌∙◌, subst, inl, inr, arith}
use Rattle.std.specs.Prelude.{zero, suc, bytes_eq, ◌==◌, nat_le, slice_get, length, Option, None, Some, Result, Ok, Err, is_ok}
use Rattle.std.proofs.lemmas.Bool.{cond_both, cond-false, lt-leb}
use Rattle.place_table.specs.declared.host.HostInfo.{HostInfo}
use Rattle.cluster_model.proofs.SpaceParts.{in_messages, of_itself}
use Rattle.actor_names.specs.declared.member.Member.{Member}
use Rattle.turn_core.specs.CellSound.{In}
use Rattle.part_model.specs.declared.event.PartEvent.{PartEvent}
use Rattle.part_model.specs.declared.event.PartEvent.TheVariants as events_of
use Rattle.part_model.specs.Receipts.{PartReply}
use Rattle.part_model.specs.Part.{PartState, ring_owner}
use Rattle.part_model.specs.declared.ack.Ack as declared
use Rattle.part_model.specs.Acks.{collected, are_stopped}
use Rattle.round_core.specs.declared.event.PlaceReply.{PlaceReply}
use Rattle.round_core.specs.declared.event.PlaceReply.TheVariants as replies
use Rattle.round_core.specs.Room.{last_version}
use Rattle.placement_core.specs.Placement.{PlacementStep, late_in, room_of, placement_step}
use Rattle.world_events.specs.declared.event.WorldEvent.{WorldEvent}
use Rattle.world_events.specs.declared.event.WorldEvent.TheVariants as lines
use Rattle.world_events.specs.declared.outcome.Outcome.{Outcome}
use Rattle.world_events.specs.declared.outcome.Outcome.TheVariants as out
use Rattle.world_events.specs.declared.error.WorldError.{WorldError}
use Rattle.world_events.specs.declared.error.WorldError.TheVariants as refused
use Rattle.cluster_model.specs.Messages.{Request, Answer, LockAt, UpdateTo, UnlockAt, Says, Message, Asks, Tells, table_of, answer_of, change_of, asker_of, told_event}
use Rattle.cluster_model.specs.World as world
use Rattle.cluster_model.specs.World.{ClusterState, WorldStep, CallPlace, key_part, most_events, table_in}
use Rattle.cluster_model.specs.Invariant.{version_of}
use Rattle.lists_and_limits.proofs.Elements.{In-left, In-last, In-slice_get}
use Rattle.cluster_model.specs.Invariant.{IsSafeWorld}
use Rattle.cluster_model.proofs.Lines.{line_kept}
use Rattle.cluster_model.proofs.Worlds.{safe_kept}
use Rattle.world_run.specs.Post.{numbered, told_of, AgreesOn, Agrees}
use Rattle.world_run.specs.Moments.{IsNotAt, event_at}
use Rattle.cluster_parts.specs.Views.{capped}
use Rattle.cluster_model.specs.Counts.{begun_turns, over_turns}
use Rattle.world_run.specs.Worlds.{WorldView, view_of, cluster_of, after, GivesStep, IsStep, Happens, IsToldInRange, IsFit, post_of}
use Rattle.world_run.proofs.Unmarked.{marked, adds, happens_marked, begun-append, ended-append, more-capped}

-- ---- fits

In-numbered : (ms : List Message) (k : ℕ) (x : Message) → numbered ms k ≡ Some x → In x ms
In-numbered ms zero x e = absurd (cc)
In-numbered ms (suc k) x e = In-slice_get ms k x e

-- the answer to a request carries the one table of its version
abbrev asked_space : Request → List ℕ
asked_space r = (asker_of r).space

abbrev asked_hosts : PlacementStep → Request → List HostInfo
asked_hosts s r = table_in s.state (asked_space r)

agrees : (v : WorldView) (r : Request) → IsSafeWorld ring_owner (cluster_of v) → In (Asks r) v.messages → Agrees (Some (Asks r)) v.moment (post_of v)
agrees v r safe i = go (placement_step v.placement (change_of r) v.moment) ((safe_kept ring_owner key_part).answer (cluster_of v) r safe i) (placement_step v.placement (change_of r) v.moment).reply refl
  where
    go : (s : PlacementStep) → IsSafeWorld ring_owner (world.answers (cluster_of v) r s).world → (reply : PlaceReply) → s.reply ≡ reply → AgreesOn v.messages v.moment (asked_space r) (asked_hosts s r) reply
    go s safe (replies.Update version) e = λ m t k at space_is version_is.
        let space = asked_space r in
        let made = table_of space version (asked_hosts s r) in
        let all = (world.answers (cluster_of v) r s).world.messages in
        let old : In (Tells m (UpdateTo t)) all = In-left v.messages _ _ (In-slice_get v.messages k _ at) in
        let new : In (Tells (asker_of r) (UpdateTo made)) all =
        subst (λ (z : PlaceReply). In (Tells (asker_of r) (UpdateTo made)) (v.messages ++ Tells (asker_of r) (answer_of space (asked_hosts s r) z) ∷ [])) (sym e) (In-last v.messages _) in
        let home : m.space ≡ space = sym (safe.tables m t old) ∙ space_is in
        (safe.spaces space).safe.messages.one_table m (asker_of r) t made
        (in_messages all (Tells m (UpdateTo t)) space old (subst (λ (z : List ℕ). bytes_eq space z ≡ true) (sym home) (of_itself (asker_of r))))
        (in_messages all (Tells (asker_of r) (UpdateTo made)) space new (of_itself (asker_of r))) version_is
    go s safe (replies.Lock version) e = tt
    go s safe (replies.Unlock version) e = tt
    go s safe reply e = tt

fits_to : (v : WorldView) (x : Option Message) → IsSafeWorld ring_owner (cluster_of v) → ((m : Message) → x ≡ Some m → In m v.messages) → Agrees x v.moment (post_of v)
fits_to v None safe i = tt
fits_to v (Some (Tells m a)) safe i = tt
fits_to v (Some (Asks r)) safe i = agrees v r safe (i (Asks r) refl)

in_range : (v : WorldView) (m : Member) (u : ℕ) (a : Answer) → IsSafeWorld ring_owner (cluster_of v) → In (Tells m a) v.messages → version_of a ≡ Some u → u ≤ 2 ^ 62
in_range v m u a safe i e =
    let here = safe.spaces m.space in
    let below : u ≤ last_version (room_of v.placement m.space) = here.safe.messages.told_below m u (a, in_messages v.messages (Tells m a) m.space i (of_itself m), e) in
    let within = here.reached.within in
    omega arith

fits_part : (v : WorldView) (x : Option Message) → IsSafeWorld ring_owner (cluster_of v) → ((m : Message) → x ≡ Some m → In m v.messages) → IsToldInRange (told_of x v.moment)
fits_part v None safe i = tt
fits_part v (Some (Asks r)) safe i = tt
fits_part v (Some (Tells m (LockAt u))) safe i = in_range v m u (LockAt u) safe (i _ refl) refl
fits_part v (Some (Tells m (UpdateTo t))) safe i = in_range v m t.version (UpdateTo t) safe (i _ refl) refl
fits_part v (Some (Tells m (UnlockAt u))) safe i = in_range v m u (UnlockAt u) safe (i _ refl) refl
fits_part v (Some (Tells m (Says reply))) safe i = tt

-- each event fits a safe cluster
pub fits : (v : WorldView) (e : WorldEvent) → IsSafeWorld ring_owner (cluster_of v) → IsFit v e
fits v (lines.To k) safe = fits_to v (numbered v.messages k) safe (In-numbered v.messages k)
fits v (lines.Part k i) safe = fits_part v (numbered v.messages k) safe (In-numbered v.messages k)
fits v (lines.At moment) safe = tt
fits v (lines.Boot space node kinds) safe = tt
fits v (lines.Beat m) safe = tt
fits v (lines.Collect m) safe = tt
fits v (lines.Leave m) safe = tt
fits v (lines.Call call m key least chain) safe = tt
fits v (lines.Poll call) safe = tt
fits v (lines.End call) safe = tt
fits v (lines.Hold m key) safe = tt
fits v (lines.Release m key) safe = tt
fits v (lines.Tick m) safe = tt
fits v (lines.Closing m i) safe = tt
fits v (lines.Closed m key) safe = tt
fits v (lines.Stop m i) safe = tt
fits v (lines.Lost m) safe = tt
fits v lines.PlacementTick safe = tt
fits v lines.Restart safe = tt

-- ---- safety

-- the world after an event is safe, however many events are counted
pub stays_safe : (v u : WorldView) (e : WorldEvent) (r : Result Outcome WorldError) (n : ℕ) → IsSafeWorld ring_owner (cluster_of v) → Happens r v u e → IsSafeWorld ring_owner (cluster_of (record u { events = n }))
stays_safe v u e r n safe h = elim h [
  | inl k ↦ subst (λ (z : WorldView). IsSafeWorld ring_owner (cluster_of (record z { events = n }))) (sym k.1) (record { spaces = safe.spaces; tables = safe.tables; acks = safe.acks })
  | inr k ↦
      let s = line_kept ring_owner key_part (IsSafeWorld ring_owner) (safe_kept ring_owner key_part) (cluster_of v) e safe in
      subst (λ (z : WorldView). IsSafeWorld ring_owner (cluster_of (record z { events = n }))) (sym k.1) (record { spaces = s.spaces; tables = s.tables; acks = s.acks })
]

-- ---- the count of events, and the present moment

module _ (n present : ℕ) where
  abbrev Has : ClusterState → Type 0
  Has w = (w.events ≡ n) × (w.now ≡ present)

  abbrev Stays : WorldStep → Type 0
  Stays s = Has s.world

  step_stays : (w : ClusterState) (at : ℕ) (e : PartEvent) (says : PartReply → Outcome) (found : Option PartState) → Has w → Stays (world.step_of_part ring_owner key_part w at e says found)
  step_stays w at e says None t = t
  step_stays w at e says (Some p) t = t

  does_stays : (w : ClusterState) (o : Option ℕ) (e : PartEvent) (says : ℕ → PartReply → Outcome) → Has w → Stays (world.part_does ring_owner key_part w o e says)
  does_stays w None e says t = t
  does_stays w (Some at) e says t = step_stays w at e (says at) (slice_get w.parts at) t

  call_stays : (w : ClusterState) (number : ℕ) (e : PartEvent) (o : Option ℕ) → Has w → Stays (world.call_at_place ring_owner key_part w number e o)
  call_stays w number e None t = t
  call_stays w number e (Some at) t = go (slice_get w.parts at)
    where
      go : (found : Option PartState) → Stays (world.call_of_part ring_owner key_part w number at e found)
      go None = t
      go (Some p) = t

  end_stays : (w : ClusterState) (number : ℕ) (o : Option CallPlace) → Has w → Stays (world.end_call ring_owner key_part w number o)
  end_stays w number None t = t
  end_stays w number (Some c) t = step_stays w c.place (events_of.End c.call w.now) (world.end_outcome w.calls number c.place) (slice_get w.parts c.place) t

  poll_stays : (w : ClusterState) (number : ℕ) (o : Option CallPlace) → Has w → Stays (world.poll_call ring_owner key_part w number o)
  poll_stays w number None t = t
  poll_stays w number (Some c) t = step_stays w c.place (events_of.Poll c.call) (world.call_outcome number) (slice_get w.parts c.place) t

  ack_stays : (w : ClusterState) (m : Member) (o : Option declared.Ack) → Has w → Stays (world.add_ack ring_owner key_part w m o)
  ack_stays w m None t = t
  ack_stays w m (Some a) t = t

  deliver_stays : (w : ClusterState) (o : Option Message) → Has w → Stays (world.deliver w o)
  deliver_stays w None t = t
  deliver_stays w (Some (Tells m a)) t = t
  deliver_stays w (Some (Asks r)) t = t

  told_stays : (w : ClusterState) (at : ℕ) (x : Option PartEvent) (found : Option PartState) → Has w → Stays (world.told_part ring_owner key_part w at x found)
  told_stays w at None found t = t
  told_stays w at (Some e) found t = step_stays w at e world.told_outcome found t

  to_stays : (w : ClusterState) (i : ℕ) (o : Option Message) → Has w → Stays (world.to_part ring_owner key_part w i o)
  to_stays w i None t = t
  to_stays w i (Some (Asks r)) t = t
  to_stays w i (Some (Tells m a)) t = go (world.place_of_part w.parts m i)
    where
      go : (o : Option ℕ) → Stays (world.tell_part ring_owner key_part w a o)
      go None = t
      go (Some at) = told_stays w at (told_event a w.now) (slice_get w.parts at) t

  ticks_stay : (w : ClusterState) (ns : List ℕ) (turns : ℕ) → Has w → Stays (world.tick_each ring_owner key_part w ns turns)
  ticks_stay w [] turns t = t
  ticks_stay w (at ∷ ns) turns t = ticks_stay (world.tick_part ring_owner key_part w at).world ns _ (step_stays w at (events_of.Tick w.now) (λ reply. out.TickEnded (world.ended_turns reply)) (slice_get w.parts at) t)

  honest_stays : (w : ClusterState) (o : Option Member) → Has w → Stays (world.honest_tick w o)
  honest_stays w None t = t
  honest_stays w (Some m) t = t

  -- `happens` doesn't count the event, and only `at` sets the moment
  fields_stay : (w : ClusterState) (e : WorldEvent) → IsNotAt e → Has w → Stays (world.happens ring_owner key_part w e)
  fields_stay w (lines.At moment) other t = absurd other
  fields_stay w (lines.Boot space node kinds) other t = t
  fields_stay w (lines.Beat m) other t = cond_both (world.was_booted w.parts m) _ _ Stays (λ _. t) (λ _. t)
  fields_stay w (lines.Collect m) other t = cond_both (world.was_booted w.parts m) _ _ Stays (λ _. ack_stays w m (collected (world.receipts_of ring_owner key_part w.parts m)) t) (λ _. t)
  fields_stay w (lines.Leave m) other t = cond_both (world.was_booted w.parts m) _ _ Stays (λ _. cond_both (are_stopped (world.receipts_of ring_owner key_part w.parts m)) _ _ Stays (λ _. t) (λ _. t)) (λ _. t)
  fields_stay w (lines.To k) other t = deliver_stays w (world.message_at w k) t
  fields_stay w (lines.Part k i) other t = to_stays w i (world.message_at w k) t
  fields_stay w (lines.Call number m key least chain) other t =
      cond_both (number == suc (length w.calls)) _ _ Stays (λ _. call_stays w number (world.ask_of key least chain w.now) (world.key_place_of ring_owner key_part w m key) t) (λ _. t)
  fields_stay w (lines.Poll number) other t = poll_stays w number (world.call_at w.calls number) t
  fields_stay w (lines.End number) other t = end_stays w number (world.call_at w.calls number) t
  fields_stay w (lines.Hold m key) other t = does_stays w (world.key_place_of ring_owner key_part w m key) (events_of.Hold key) (λ _. world.hold_outcome) t
  fields_stay w (lines.Release m key) other t = does_stays w (world.key_place_of ring_owner key_part w m key) (events_of.Release key w.now) (λ _. world.hold_outcome) t
  fields_stay w (lines.Tick m) other t = cond_both (world.was_booted w.parts m) _ _ Stays (λ _. ticks_stay w (world.places_of w.parts m 0) 0 t) (λ _. t)
  fields_stay w (lines.Closing m i) other t = does_stays w (world.place_of_part w.parts m i) (events_of.TakeClosing w.now) (λ _. world.closing_outcome) t
  fields_stay w (lines.Closed m key) other t = does_stays w (world.key_place_of ring_owner key_part w m key) (events_of.Closed key) (world.closed_outcome w.calls key) t
  fields_stay w (lines.Stop m i) other t = does_stays w (world.place_of_part w.parts m i) events_of.StopPart (λ _. world.stop_outcome) t
  fields_stay w (lines.Lost m) other t = cond_both (world.was_booted w.parts m) _ _ Stays (λ _. cond_both (world.all_stopped w.parts m) _ _ Stays (λ _. t) (λ _. t)) (λ _. t)
  fields_stay w lines.PlacementTick other t = honest_stays w (world.running_among w.parts (late_in w.placement.rooms w.now)) t
  fields_stay w lines.Restart other t = t

events_stay : (w : ClusterState) (e : WorldEvent) → (world.happens ring_owner key_part w e).world.events ≡ w.events
events_stay w (lines.At moment) = refl
events_stay w e = (fields_stay w.events w.now w e tt (refl, refl)).0

now_stays : (w : ClusterState) (e : WorldEvent) → IsNotAt e → (world.happens ring_owner key_part w e).world.now ≡ w.now
now_stays w e other = (fields_stay w.events w.now w e other (refl, refl)).1

-- of another event than `at`, the step is that at the present moment
pub at_present : (w : ClusterState) (e : WorldEvent) → IsNotAt e → event_at ring_owner key_part w e w.now ≡ world.cluster_step ring_owner key_part w e
at_present w e other =
    cond_both (nat_le most_events w.events) _ _ (λ (s : WorldStep). ◌≡◌ {A = WorldStep} (record { world = record (s.world) { now = w.now }; outcome = s.outcome }) s)
    (λ _. refl)
    (λ _. let s = world.counted ring_owner key_part (world.happens ring_owner key_part w e) in λ i. record { world = record (s.world) { now = sym (now_stays w e other) i }; outcome = s.outcome })

-- ---- the step

-- the view after a step adds the marks' counts to those before
view_after : (w s : ClusterState) → view_of (marked s (w.marks ++ s.marks)) ≡ after (view_of w) s
view_after w s = λ i. record (after (view_of w) s) {
  begun = (ap capped (begun-append w.marks s.marks) ∙ sym (more-capped (begun_turns w.marks) (begun_turns s.marks))) i;
  ended = (ap capped (ended-append w.marks s.marks) ∙ sym (more-capped (over_turns w.marks) (over_turns s.marks))) i;
}

-- what is done to a view is done to each cluster of this view
world_happens : (w : ClusterState) (u : WorldView) (e : WorldEvent) (r : Result Outcome WorldError) → Happens r (view_of w) u e → GivesStep r (view_of w) (world.happens ring_owner key_part w e) u
world_happens w u e r h = elim h [
  | inl k ↦ inl k
  | inr k ↦
      let s = world.happens ring_owner key_part (marked w []) e in
      let same : world.happens ring_owner key_part w e ≡ adds w.marks s = happens_marked w.marks w e in
      subst (λ (z : WorldStep). GivesStep r (view_of w) z u) (sym same) (inr (k.0, k.1 ∙ sym (view_after w s.world)))
]

pub below_most : (w : ClusterState) (s t : WorldStep) → w.events < 2 ^ 62 → cond (nat_le most_events w.events) s t ≡ t
below_most w s t l = cond-false (nat_le most_events w.events) s t (lt-leb most_events w.events l)

ok_err : (r : Result Outcome WorldError) (o : Outcome) (x : WorldError) → r ≡ Ok o → r ≡ Err x → ⊥
ok_err r o x e f = (let g : ◌≡◌ {A = Result Outcome WorldError} (Ok o) (Err x) = sym e ∙ f in cc)

done_counted : (w : ClusterState) (u : WorldView) (e : WorldEvent) (r : Result Outcome WorldError) (o : Outcome) → r ≡ Ok o → GivesStep r (view_of w) (world.happens ring_owner key_part w e) u →
    GivesStep r (view_of w) (world.counted ring_owner key_part (world.happens ring_owner key_part w e)) (record u { events = w.events + 1 })
done_counted w u e r o ok h = elim h [
  | inl k ↦ absurd (ok_err r o refused.OutOfMemory ok k.0)
  | inr k ↦
      let s = world.happens ring_owner key_part w e in
      let weight : world.weight_of s.outcome ≡ 1 = ap (λ (z : Result Outcome WorldError). world.weight_of z) (sym k.0 ∙ ok) in
      let stay : s.world.events ≡ w.events = events_stay w e in
      let count : w.events + 1 ≡ s.world.events + world.weight_of s.outcome = omega arith in
      inr (k.0, (λ i. record (k.1 i) { events = count i }))
]

refused_counted : (w : ClusterState) (u : WorldView) (e : WorldEvent) (r : Result Outcome WorldError) (x : WorldError) → r ≡ Err x → GivesStep r (view_of w) (world.happens ring_owner key_part w e) u →
    GivesStep r (view_of w) (world.counted ring_owner key_part (world.happens ring_owner key_part w e)) u
refused_counted w u e r x error h = elim h [
  | inl k ↦ inl k
  | inr k ↦
      let s = world.happens ring_owner key_part w e in
      let weight : world.weight_of s.outcome ≡ 0 = ap (λ (z : Result Outcome WorldError). world.weight_of z) (sym k.0 ∙ error) in
      let count : s.world.events ≡ s.world.events + world.weight_of s.outcome = omega arith in
      inr (k.0, k.1 ∙ (λ i. record (view_of s.world) { events = count i }))
]

-- an event that is done is counted
pub step_done : (w : ClusterState) (v u : WorldView) (e : WorldEvent) (r : Result Outcome WorldError) (o : Outcome) → view_of w ≡ v → v.events < 2 ^ 62 → Happens r v u e → r ≡ Ok o →
    GivesStep r v (world.cluster_step ring_owner key_part w e) (record u { events = v.events + 1 })
step_done w v u e r o same l h ok =
    let P : WorldView → Type 0 = λ z. z.events < 2 ^ 62 → Happens r z u e → GivesStep r z (world.cluster_step ring_owner key_part w e) (record u { events = z.events + 1 }) in
    subst P same (λ less did. subst (λ (z : WorldStep). GivesStep r (view_of w) z (record u { events = w.events + 1 })) (sym (below_most w _ _ less)) (done_counted w u e r o ok (world_happens w u e r did))) l h

-- one that is refused is not
pub step_refused : (w : ClusterState) (v u : WorldView) (e : WorldEvent) (r : Result Outcome WorldError) (x : WorldError) → view_of w ≡ v → v.events < 2 ^ 62 → Happens r v u e → r ≡ Err x →
    GivesStep r v (world.cluster_step ring_owner key_part w e) u
step_refused w v u e r x same l h error =
    let P : WorldView → Type 0 = λ z. z.events < 2 ^ 62 → Happens r z u e → GivesStep r z (world.cluster_step ring_owner key_part w e) u in
    subst P same (λ less did. subst (λ (z : WorldStep). GivesStep r (view_of w) z u) (sym (below_most w _ _ less)) (refused_counted w u e r x error (world_happens w u e r did))) l h

pub is_done : (r : Result Outcome WorldError) → is_ok r ≡ true → (o : Outcome) × (r ≡ Ok o)
is_done (Ok o) e = (o, refl)
is_done (Err x) e = absurd (cc)

pub is_refused : (r : Result Outcome WorldError) → is_ok r ≡ false → (x : WorldError) × (r ≡ Err x)
is_refused (Ok o) e = absurd (cc)
is_refused (Err x) e = (x, refl)

-- ---- an event at another moment

-- what is done at another moment, seen at the present one
done_at : (w : ClusterState) (v u : WorldView) (e : WorldEvent) (now : ℕ) (r : Result Outcome WorldError) → view_of w ≡ v →
    ((x : ClusterState) → view_of x ≡ record v { moment = now } → GivesStep r (record v { moment = now }) (world.cluster_step ring_owner key_part x e) u) → GivesStep r v (event_at ring_owner key_part w e now) (record u { moment = v.moment })
done_at w v u e now r same did = elim (did (record w { now = now }) (λ i. record (same i) { moment = now })) [
  | inl k ↦ inl (k.0, ap (λ (z : WorldView). record z { moment = v.moment }) k.1)
  | inr k ↦ (
      let s = world.cluster_step ring_owner key_part (record w { now = now }) e in
      inr (k.0, ap (λ (z : WorldView). record z { moment = v.moment }) k.1 ∙ (λ i. record (view_of s.world) { moment = sym (ap (λ (z : WorldView). z.moment) same) i })))
]

-- a step that doesn't run out of memory is the model's
pub done_whole : (w : ClusterState) (v u : WorldView) (s : WorldStep) (r : Result Outcome WorldError) (o : Outcome) → r ≡ Ok o → GivesStep r v s u → IsStep r s u
done_whole w v u s r o ok g = elim g [ inl k ↦ absurd (ok_err r o refused.OutOfMemory ok k.0) | inr k ↦ k ]

-- the same, as the code goes: the moment is set, the event done, and the moment set again
pub given_at : (w : ClusterState) (v a u b : WorldView) (e : WorldEvent) (now : ℕ) (r : Result Outcome WorldError) → view_of w ≡ v → a ≡ record v { moment = now } →
    ((x : ClusterState) → view_of x ≡ a → GivesStep r a (world.cluster_step ring_owner key_part x e) u) → b ≡ record u { moment = v.moment } → GivesStep r v (event_at ring_owner key_part w e now) b
given_at w v a u b e now r same before did after =
    subst (λ (z : WorldView). GivesStep r v (event_at ring_owner key_part w e now) z) (sym after)
    (done_at w v u e now r same (subst (λ (z : WorldView). (x : ClusterState) → view_of x ≡ z → GivesStep r z (world.cluster_step ring_owner key_part x e) u) before did))
