-- No event of a drill declares a running member lost: only `lost` can, and it comes after the stops of both parts.
use Rattle.std.proofs.Common.{◌≡◌, ◌⊎◌, ℕ, Bool, true, false, ◌+◌, ◌||◌, cond, List, [], ◌∷◌, ◌++◌, Option, None, Some, refl, ap, inl, inr}
use Rattle.actor_names.specs.Names.{default_space}
use Rattle.std.specs.Prelude.{zero, suc, nat_le, nat_lt, length, slice_get, ◌==◌, ◌%◌, ◌/◌, ◌-◌, min, Result, Ok, Err, codes, decimal, if◌then◌else◌}
use Rattle.std.proofs.lemmas.Bool.{cond_both}
use Rattle.actor_names.specs.declared.member.Member.{Member}
use Rattle.part_model.specs.declared.event.PartEvent.{PartEvent}
use Rattle.part_model.specs.declared.event.PartEvent.TheVariants as events
use Rattle.part_model.specs.Receipts.{PartReply}
use Rattle.part_model.specs.Part.{PartState, ring_owner}
use Rattle.world_events.specs.declared.event.WorldEvent.{WorldEvent}
use Rattle.world_events.specs.declared.event.WorldEvent.TheVariants as lines
use Rattle.world_events.specs.declared.outcome.Outcome.{Outcome}
use Rattle.world_events.specs.declared.outcome.Outcome.TheVariants as out
use Rattle.world_events.specs.declared.error.WorldError.{WorldError}
use Rattle.world_events.specs.declared.error.WorldError.TheVariants as refused
use Rattle.round_core.specs.declared.event.PlaceEvent.TheVariants as changes
use Rattle.part_model.specs.Acks.{collected, are_stopped}
use Rattle.cluster_model.specs.Messages.{Message, Asks, Tells, told_event}
use Rattle.cluster_model.specs.World as world
use Rattle.cluster_model.specs.World.{ClusterState, CallPlace, key_part, cluster_step, cluster_run, outcomes, most_events}
use Rattle.cluster_model.proofs.Lines.{run_kept, step_kept}
use Rattle.world_run.specs.Looks.{asks_at}
use Rattle.world_drill.specs.Drill as drill
use Rattle.world_drill.specs.Drill.{AreHonest, is_dishonest, drill_settings, drill_events, draw_of, first_of, second_of, third_of, events_from, step_events}
use Rattle.world_run.proofs.RingSpaces.{ring_keeps}
use Rattle.world_drill.proofs.Losses.{HasTwoEach, two_kept, new_two, stop_stops, stop_keeps, both_stopped}

-- ---- events that can't be dishonest

abbrev IsQuiet : WorldEvent → Type 0
IsQuiet (lines.Lost m) = ⊥
IsQuiet lines.PlacementTick = ⊥
IsQuiet e = Unit {0}

abbrev IsFair : world.WorldStep → Type 0
IsFair s = is_dishonest s.outcome ≡ false

abbrev happens : ClusterState → WorldEvent → world.WorldStep
happens w e = world.happens ring_owner key_part w e

fair_part : (w : ClusterState) (n : ℕ) (e : PartEvent) (says : PartReply → Outcome) (o : Option PartState) → IsFair (world.step_of_part ring_owner key_part w n e says o)
fair_part w n e says None = refl
fair_part w n e says (Some p) = refl

fair_does : (w : ClusterState) (o : Option ℕ) (e : PartEvent) (says : ℕ → PartReply → Outcome) → IsFair (world.part_does ring_owner key_part w o e says)
fair_does w None e says = refl
fair_does w (Some n) e says = fair_part w n e (says n) (slice_get w.parts n)

fair_deliver : (w : ClusterState) (o : Option Message) → IsFair (world.deliver w o)
fair_deliver w None = refl
fair_deliver w (Some (Tells m a)) = refl
fair_deliver w (Some (Asks r)) = refl

fair_told : (w : ClusterState) (n : ℕ) (e : Option PartEvent) → IsFair (world.told_part ring_owner key_part w n e (slice_get w.parts n))
fair_told w n None = refl
fair_told w n (Some e) = fair_part w n e world.told_outcome (slice_get w.parts n)

fair_to : (w : ClusterState) (i : ℕ) (o : Option Message) → IsFair (world.to_part ring_owner key_part w i o)
fair_to w i None = refl
fair_to w i (Some (Asks r)) = refl
fair_to w i (Some (Tells m a)) = go (world.place_of_part w.parts m i)
  where
    go : (o : Option ℕ) → IsFair (world.tell_part ring_owner key_part w a o)
    go None = refl
    go (Some n) = fair_told w n (told_event a w.now)

fair_call : (w : ClusterState) (call : ℕ) (e : PartEvent) (o : Option ℕ) → IsFair (world.call_at_place ring_owner key_part w call e o)
fair_call w call e None = refl
fair_call w call e (Some n) = go (slice_get w.parts n)
  where
    go : (o : Option PartState) → IsFair (world.call_of_part ring_owner key_part w call n e o)
    go None = refl
    go (Some p) = refl

fair_tick : (w : ClusterState) (ns : List ℕ) (turns : ℕ) → IsFair (world.tick_each ring_owner key_part w ns turns)
fair_tick w [] turns = refl
fair_tick w (n ∷ ns) turns = fair_tick (world.tick_part ring_owner key_part w n).world ns (turns + world.turns_ended ring_owner key_part (world.tick_part ring_owner key_part w n).outcome)

fair_ended : (w : ClusterState) (call : ℕ) (o : Option CallPlace) → IsFair (world.end_call ring_owner key_part w call o)
fair_ended w call None = refl
fair_ended w call (Some c) = fair_part w c.place (events.End c.call w.now) (world.end_outcome w.calls call c.place) (slice_get w.parts c.place)

fair_polled : (w : ClusterState) (call : ℕ) (o : Option CallPlace) → IsFair (world.poll_call ring_owner key_part w call o)
fair_polled w call None = refl
fair_polled w call (Some c) = fair_part w c.place (events.Poll c.call) (world.call_outcome call) (slice_get w.parts c.place)

quiet_fair : (w : ClusterState) (e : WorldEvent) → IsQuiet e → IsFair (happens w e)
quiet_fair w (lines.At moment) q = refl
quiet_fair w (lines.Boot space node kinds) q = refl
quiet_fair w (lines.Beat m) q = cond_both (world.was_booted w.parts m) _ _ IsFair (λ _. refl) (λ _. refl)
quiet_fair w (lines.Collect m) q =
    cond_both (world.was_booted w.parts m) _ _ IsFair (λ _. elim (collected (world.receipts_of ring_owner key_part w.parts m)) as (λ o. IsFair (world.add_ack ring_owner key_part w m o)) [ None ↦ refl | Some a ↦ refl ]) (λ _. refl)
quiet_fair w (lines.Leave m) q =
    cond_both (world.was_booted w.parts m) _ _ IsFair (λ _. cond_both (are_stopped (world.receipts_of ring_owner key_part w.parts m)) _ _ IsFair (λ _. refl) (λ _. refl)) (λ _. refl)
quiet_fair w (lines.To k) q = fair_deliver w (world.message_at w k)
quiet_fair w (lines.Part k i) q = fair_to w i (world.message_at w k)
quiet_fair w (lines.Call call m key least chain) q =
    cond_both (call == suc (length w.calls)) _ _ IsFair (λ _. fair_call w call (world.ask_of key least chain w.now) (world.key_place_of ring_owner key_part w m key)) (λ _. refl)
quiet_fair w (lines.Poll call) q = fair_polled w call (world.call_at w.calls call)
quiet_fair w (lines.End call) q = fair_ended w call (world.call_at w.calls call)
quiet_fair w (lines.Hold m key) q = fair_does w (world.key_place_of ring_owner key_part w m key) _ _
quiet_fair w (lines.Release m key) q = fair_does w (world.key_place_of ring_owner key_part w m key) _ _
quiet_fair w (lines.Tick m) q = cond_both (world.was_booted w.parts m) _ _ IsFair (λ _. fair_tick w (world.places_of w.parts m 0) 0) (λ _. refl)
quiet_fair w (lines.Closing m i) q = fair_does w (world.place_of_part w.parts m i) _ _
quiet_fair w (lines.Closed m key) q = fair_does w (world.key_place_of ring_owner key_part w m key) _ _
quiet_fair w (lines.Stop m i) q = fair_does w (world.place_of_part w.parts m i) _ _
quiet_fair w (lines.Lost m) q = absurd q
quiet_fair w lines.PlacementTick q = absurd q
quiet_fair w lines.Restart q = refl

step_fair : (w : ClusterState) (e : WorldEvent) → IsQuiet e → IsFair (cluster_step ring_owner key_part w e)
step_fair w e q = cond_both (nat_le most_events w.events) _ _ IsFair (λ _. refl) (λ _. quiet_fair w e q)

-- and a member that is lost once it has stopped
lost_fair : (w : ClusterState) (m : Member) → (nat_le most_events w.events ≡ true) ⊎ (world.all_stopped w.parts m ≡ true) → IsFair (cluster_step ring_owner key_part w (lines.Lost m))
lost_fair w m (inl spent) = ap (λ (b : Bool). is_dishonest (cond b (record { world = w; outcome = Err (refused.Spent w.events) }) (world.counted ring_owner key_part (happens w (lines.Lost m)))).outcome) spent
lost_fair w m (inr stopped) =
    cond_both (nat_le most_events w.events) _ _ IsFair (λ _. refl)
    (λ _. cond_both (world.was_booted w.parts m) _ _ IsFair
    (λ _. ap (λ (b : Bool). is_dishonest (cond b (world.placement_does w (changes.Lost m) (world.lost_outcome m)) (world.dishonest w m)).outcome) stopped)
    (λ _. refl))

-- ---- lists of them

abbrev AreQuiet : List WorldEvent → Type 0
AreQuiet [] = Unit {0}
AreQuiet (e ∷ es) = IsQuiet e × AreQuiet es

or_parts_false : (a b : Bool) → (a || b) ≡ false → (a ≡ false) × (b ≡ false)
or_parts_false false b e = (refl, e)
or_parts_false true b e = absurd (cc)

false_or : (a b : Bool) → a ≡ false → b ≡ false → (a || b) ≡ false
false_or a b p q = rw p q

honest_all : (w : ClusterState) (es : List WorldEvent) → AreQuiet es → AreHonest w es
honest_all w [] q = refl
honest_all w (e ∷ es) q = false_or _ _ (step_fair w e q.0) (honest_all (cluster_step ring_owner key_part w e).world es q.1)

honest_one : (w : ClusterState) (e : WorldEvent) → IsQuiet e → AreHonest w (e ∷ [])
honest_one w e q = honest_all w (e ∷ []) (q, tt)

honest-append : (w : ClusterState) (es fs : List WorldEvent) → AreHonest w es → AreHonest (cluster_run ring_owner key_part w es) fs → AreHonest w (es ++ fs)
honest-append w [] fs a b = b
honest-append w (e ∷ es) fs a b =
    let h = or_parts_false _ _ a in
    false_or _ _ h.0 (honest-append (cluster_step ring_owner key_part w e).world es fs h.1 b)

-- ---- what a step picks

abbrev IsDrill : ClusterState → Type 0
IsDrill w = HasTwoEach ring_owner key_part w

drill_kept : (w : ClusterState) (e : WorldEvent) → IsDrill w → IsDrill (cluster_step ring_owner key_part w e).world
drill_kept = step_kept ring_owner key_part (HasTwoEach ring_owner key_part) (two_kept ring_owner key_part ring_keeps)

honest_loss : (w : ClusterState) (m : Member) → IsDrill w → AreHonest w (drill.loss_of m)
honest_loss w m t =
    let one = (cluster_step ring_owner key_part w (lines.Stop m 0)).world in
    let two = (cluster_step ring_owner key_part one (lines.Stop m 1)).world in
    let n = drill_kept w (lines.Stop m 0) t in
    let o = drill_kept one (lines.Stop m 1) n in
    let stopped = both_stopped ring_owner key_part two m o (stop_keeps ring_owner key_part one m 1 0 n (stop_stops ring_owner key_part w m 0 t)) (stop_stops ring_owner key_part one m 1 n) in
    false_or _ _ (step_fair w (lines.Stop m 0) tt) (false_or _ _ (step_fair one (lines.Stop m 1) tt) (false_or _ _ (lost_fair two m stopped) refl))

honest_boot : (w : ClusterState) (a : ℕ) → AreHonest w (drill.boot_of w a)
honest_boot w a = cond_both (nat_lt w.boots 64) _ _ (AreHonest w) (λ _. honest_one w (lines.Boot default_space (codes "n" ++ decimal (a % 4)) (drill.counter ∷ [])) tt) (λ _. refl)

honest_member : (w : ClusterState) (n : ℕ) (events : Member → List WorldEvent) → ((m : Member) → AreHonest w (events m)) → AreHonest w (drill.at_member w n events)
honest_member w n events h = go (drill.member_numbered w n)
  where
    go : (o : Option Member) → AreHonest w (drill.events_of o events)
    go None = refl
    go (Some m) = h m

honest_call : (w : ClusterState) (n : ℕ) (event : ℕ → WorldEvent) → ((k : ℕ) → IsQuiet (event k)) → AreHonest w (drill.at_call w n event)
honest_call w n event q = go (drill.call_numbered w n)
  where
    go : (o : Option ℕ) → AreHonest w (drill.event_of o event)
    go None = refl
    go (Some k) = honest_one w (event k) (q k)

honest_delivered : (w : ClusterState) (k part : ℕ) (o : Option Bool) → AreHonest w (drill.delivered k part o)
honest_delivered w k part None = refl
honest_delivered w k part (Some true) = honest_one w (lines.To k) tt
honest_delivered w k part (Some false) = honest_one w (lines.Part k part) tt

honest_delivery : (w : ClusterState) (a b : ℕ) → AreHonest w (drill.delivery w a b)
honest_delivery w a b =
    cond_both (length w.messages == 0) _ _ (AreHonest w) (λ _. refl)
    (λ _. (let k = length w.messages - a % min (length w.messages) 8 in honest_delivered w k (b % 2) (asks_at w.messages k)))

quiet_closed : (m : Member) (r : Result Outcome WorldError) → AreQuiet (drill.closed_after m r)
quiet_closed m (Ok (out.Closing key)) = (tt, tt)
quiet_closed m r = tt

honest_closing : (w : ClusterState) (part : ℕ) (m : Member) → AreHonest w (drill.closing_of w part m)
honest_closing w part m =
    let printed = (cluster_step ring_owner key_part w (lines.Closing m part)).outcome in
    let quiet : AreQuiet (drill.closing_of w part m) = (tt, quiet_closed m printed) in
    honest_all w (drill.closing_of w part m) quiet

honest_called : (w : ClusterState) (b : ℕ) (m : Member) → AreHonest w (drill.call_of w b m)
honest_called w b m =
    honest_one w (lines.Call (suc (length w.calls)) m (record { space = default_space; kind = drill.counter; id = codes "k" ++ decimal (b % 8) }) 0 (Some (codes "c" ++ decimal (b / 8 % 4)))) tt

honest_picked : (w : ClusterState) (r a b : ℕ) → IsDrill w → AreHonest w (drill.picked w r a b)
honest_picked w r a b t =
    cond_both (r == 0) _ _ (AreHonest w) (λ _. honest_boot w a) (λ _.
    cond_both (r == 1) _ _ (AreHonest w)
    (λ _. honest_member w b (λ m. if a % 8 == 0 then drill.loss_of m else lines.Collect m ∷ []) (λ m. cond_both (a % 8 == 0) _ _ (AreHonest w) (λ _. honest_loss w m t) (λ _. honest_one w (lines.Collect m) tt))) (λ _.
    cond_both (r == 2) _ _ (AreHonest w)
    (λ _. cond_both (a % 16 == 0) _ _ (AreHonest w) (λ _. honest_one w lines.Restart tt) (λ _. honest_member w b (λ m. lines.Beat m ∷ []) (λ m. honest_one w (lines.Beat m) tt))) (λ _.
    cond_both (nat_lt r 5) _ _ (AreHonest w) (λ _. honest_member w a (λ m. lines.Beat m ∷ []) (λ m. honest_one w (lines.Beat m) tt)) (λ _.
    cond_both (nat_lt r 7) _ _ (AreHonest w) (λ _. honest_member w a (λ m. lines.Collect m ∷ []) (λ m. honest_one w (lines.Collect m) tt)) (λ _.
    cond_both (nat_lt r 11) _ _ (AreHonest w) (λ _. honest_delivery w a b) (λ _.
    cond_both (nat_lt r 13) _ _ (AreHonest w) (λ _. honest_member w a (drill.call_of w b) (λ m. honest_called w b m)) (λ _.
    cond_both (r == 13) _ _ (AreHonest w) (λ _. honest_call w a (λ n. lines.End n) (λ k. tt)) (λ _.
    cond_both (r == 14) _ _ (AreHonest w) (λ _. honest_member w a (drill.closing_of w (b % 2)) (λ m. honest_closing w (b % 2) m))
    (λ _. honest_call w a (λ n. lines.Poll n) (λ k. tt))))))))))

-- ---- the drill

honest_from : (n x : ℕ) (w : ClusterState) → IsDrill w → AreHonest w (events_from n x w)
honest_from zero x w t = refl
honest_from (suc n) x w t =
    let after = run_kept ring_owner key_part (HasTwoEach ring_owner key_part) (two_kept ring_owner key_part ring_keeps) w (step_events w x) t in
    let fair = honest_picked w (draw_of (first_of x) % 16) (draw_of (second_of x)) (draw_of (third_of x)) t in
    honest-append w (step_events w x) (events_from n (third_of x) (cluster_run ring_owner key_part w (step_events w x))) fair
    (honest_from n (third_of x) (cluster_run ring_owner key_part w (step_events w x)) after)

-- for every seed, and every number of steps
pub drill_honest : (seed steps : ℕ) → AreHonest (world.opening_cluster drill_settings) (drill_events seed steps)
drill_honest seed steps = honest_from steps seed (world.opening_cluster drill_settings) (new_two ring_owner key_part drill_settings refl)
