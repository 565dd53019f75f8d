-- A step doesn't look at the marks: it adds its own to those that were there.
use Rattle.std.proofs.Common.{◌≡◌, ℕ, ◌+◌, Bool, true, false, cond, List, [], ◌∷◌, ◌++◌, refl, sym, ap, ◌∙◌, arith, append-nil, append_assoc}
use Rattle.std.specs.Prelude.{zero, suc, ◌==◌, slice_get, set, length, Option, None, Some, Result}
use Rattle.actor_names.specs.declared.member.Member.{Member}
use Rattle.part_model.specs.declared.event.PartEvent.{PartEvent}
use Rattle.part_model.specs.declared.event.PartEvent.TheVariants as events
use Rattle.part_model.specs.Receipts.{PartReply}
use Rattle.part_model.specs.Marks.{PartMark, TurnBegan, TurnEnded, BecameActive, BecameInactive, PartOpened}
use Rattle.part_model.specs.Part.{PartState, part_step, ring_owner}
use Rattle.round_core.specs.declared.event.PlaceEvent.TheVariants as place_changes
use Rattle.placement_core.specs.Placement.{late_in, placement_step, placement_restarted}
use Rattle.part_model.specs.declared.ack.Ack as declared
use Rattle.part_model.specs.Acks.{collected, are_stopped}
use Rattle.world_events.specs.declared.event.WorldEvent.{WorldEvent}
use Rattle.world_events.specs.declared.event.WorldEvent.TheVariants as lines
use Rattle.world_events.specs.declared.error.WorldError.{WorldError}
use Rattle.world_events.specs.declared.outcome.Outcome.{Outcome}
use Rattle.world_events.specs.declared.outcome.Outcome.TheVariants as out
use Rattle.cluster_model.specs.Messages.{Request, Message, Asks, Tells, change_of, told_event}
use Rattle.cluster_model.specs.World as world
use Rattle.cluster_model.specs.World.{ClusterState, WorldStep, CallPlace, TraceMark, key_part, tagged, ask_of}
use Rattle.cluster_parts.specs.Views.{capped, more, began_in, ended_in}
use Rattle.cluster_model.specs.Counts.{begun_turns, over_turns}

-- ---- counts

pub begun-tagged : (m : Member) (ms : List PartMark) → begun_turns (tagged m ms) ≡ began_in ms
begun-tagged m [] = refl
begun-tagged m (TurnBegan key call chain ∷ ms) = (let e = begun-tagged m ms in omega arith)
begun-tagged m (TurnEnded key call ∷ ms) = (let e = begun-tagged m ms in omega arith)
begun-tagged m (BecameActive key version ∷ ms) = (let e = begun-tagged m ms in omega arith)
begun-tagged m (BecameInactive key ∷ ms) = (let e = begun-tagged m ms in omega arith)
begun-tagged m (PartOpened number version ∷ ms) = (let e = begun-tagged m ms in omega arith)

pub ended-tagged : (m : Member) (ms : List PartMark) → over_turns (tagged m ms) ≡ ended_in ms
ended-tagged m [] = refl
ended-tagged m (TurnBegan key call chain ∷ ms) = (let e = ended-tagged m ms in omega arith)
ended-tagged m (TurnEnded key call ∷ ms) = (let e = ended-tagged m ms in omega arith)
ended-tagged m (BecameActive key version ∷ ms) = (let e = ended-tagged m ms in omega arith)
ended-tagged m (BecameInactive key ∷ ms) = (let e = ended-tagged m ms in omega arith)
ended-tagged m (PartOpened number version ∷ ms) = (let e = ended-tagged m ms in omega arith)

pub begun-append : (xs ys : List TraceMark) → begun_turns (xs ++ ys) ≡ begun_turns xs + begun_turns ys
begun-append [] ys = omega arith
begun-append (x ∷ xs) ys = (let e = begun-append xs ys in omega arith)

pub ended-append : (xs ys : List TraceMark) → over_turns (xs ++ ys) ≡ over_turns xs + over_turns ys
ended-append [] ys = omega arith
ended-append (x ∷ xs) ys = (let e = ended-append xs ys in omega arith)

pub more-capped : (a b : ℕ) → more (capped a) b ≡ capped (a + b)
more-capped a zero = omega arith
more-capped a (suc b) = omega arith

pub more-more : (n a b : ℕ) → more (more n a) b ≡ more n (a + b)
more-more n a zero = (let e : a ≡ a + 0 = omega arith in ap (λ (k : ℕ). more n k) e)
more-more n zero (suc b) = (let e : suc b ≡ 0 + suc b = omega arith in ap (λ (k : ℕ). more n k) e)
more-more n (suc a) (suc b) =
    let e : suc (a + suc b) ≡ suc a + suc b = omega arith in
    let c : capped (capped (n + suc a) + suc b) ≡ capped (n + suc (a + suc b)) = omega arith in
    c ∙ ap (λ (k : ℕ). more n k) e

-- ---- marks that were there

abbrev pub marked : ClusterState → List TraceMark → ClusterState
marked w ms = record w { marks = ms }

abbrev pub adds : List TraceMark → WorldStep → WorldStep
adds ms s = record { world = marked s.world (ms ++ s.world.marks); outcome = s.outcome }

-- a step without marks
quiet : (ms : List TraceMark) (w : ClusterState) (o : Result Outcome WorldError) → record { world = marked w ms; outcome = o } ≡ adds ms (record { world = marked w []; outcome = o })
quiet ms w o = ap (λ (xs : List TraceMark). let s : WorldStep = record { world = marked w xs; outcome = o } in s) (sym (append-nil ms))

module _ where
  step_marked : (ms : List TraceMark) (w : ClusterState) (n : ℕ) (e : PartEvent) (says : PartReply → Outcome) (found : Option PartState) →
      world.step_of_part ring_owner key_part (marked w ms) n e says found ≡ adds ms (world.step_of_part ring_owner key_part (marked w []) n e says found)
  step_marked ms w n e says None = quiet ms w _
  step_marked ms w n e says (Some p) = refl

  does_marked : (ms : List TraceMark) (w : ClusterState) (o : Option ℕ) (e : PartEvent) (says : ℕ → PartReply → Outcome) → world.part_does ring_owner key_part (marked w ms) o e says ≡ adds ms (world.part_does ring_owner key_part (marked w []) o e says)
  does_marked ms w None e says = quiet ms w _
  does_marked ms w (Some n) e says = step_marked ms w n e (says n) (slice_get w.parts n)

  call_marked : (ms : List TraceMark) (w : ClusterState) (number : ℕ) (e : PartEvent) (o : Option ℕ) → world.call_at_place ring_owner key_part (marked w ms) number e o ≡ adds ms (world.call_at_place ring_owner key_part (marked w []) number e o)
  call_marked ms w number e None = quiet ms w _
  call_marked ms w number e (Some n) = go (slice_get w.parts n)
    where
      go : (found : Option PartState) → world.call_of_part ring_owner key_part (marked w ms) number n e found ≡ adds ms (world.call_of_part ring_owner key_part (marked w []) number n e found)
      go None = quiet ms w _
      go (Some p) = refl

  end_marked : (ms : List TraceMark) (w : ClusterState) (number : ℕ) (o : Option CallPlace) → world.end_call ring_owner key_part (marked w ms) number o ≡ adds ms (world.end_call ring_owner key_part (marked w []) number o)
  end_marked ms w number None = quiet ms w _
  end_marked ms w number (Some c) = step_marked ms w c.place (events.End c.call w.now) (world.end_outcome w.calls number c.place) (slice_get w.parts c.place)

  poll_marked : (ms : List TraceMark) (w : ClusterState) (number : ℕ) (o : Option CallPlace) → world.poll_call ring_owner key_part (marked w ms) number o ≡ adds ms (world.poll_call ring_owner key_part (marked w []) number o)
  poll_marked ms w number None = quiet ms w _
  poll_marked ms w number (Some c) = step_marked ms w c.place (events.Poll c.call) (world.call_outcome number) (slice_get w.parts c.place)

  add_marked : (ms : List TraceMark) (w : ClusterState) (r : Request) → world.added (marked w ms) r ≡ adds ms (world.added (marked w []) r)
  add_marked ms w r = quiet ms (world.with_message w (Asks r)) _

  ack_marked : (ms : List TraceMark) (w : ClusterState) (m : Member) (o : Option declared.Ack) → world.add_ack ring_owner key_part (marked w ms) m o ≡ adds ms (world.add_ack ring_owner key_part (marked w []) m o)
  ack_marked ms w m None = quiet ms w _
  ack_marked ms w m (Some a) = add_marked ms w _

  deliver_marked : (ms : List TraceMark) (w : ClusterState) (o : Option Message) → world.deliver (marked w ms) o ≡ adds ms (world.deliver (marked w []) o)
  deliver_marked ms w None = quiet ms w _
  deliver_marked ms w (Some (Tells m a)) = quiet ms w _
  deliver_marked ms w (Some (Asks r)) = quiet ms (world.answers w r (placement_step w.placement (change_of r) w.now)).world _

  told_marked : (ms : List TraceMark) (w : ClusterState) (n : ℕ) (x : Option PartEvent) (found : Option PartState) → world.told_part ring_owner key_part (marked w ms) n x found ≡ adds ms (world.told_part ring_owner key_part (marked w []) n x found)
  told_marked ms w n None found = quiet ms w _
  told_marked ms w n (Some e) found = step_marked ms w n e world.told_outcome found

  to_marked : (ms : List TraceMark) (w : ClusterState) (i : ℕ) (o : Option Message) → world.to_part ring_owner key_part (marked w ms) i o ≡ adds ms (world.to_part ring_owner key_part (marked w []) i o)
  to_marked ms w i None = quiet ms w _
  to_marked ms w i (Some (Asks r)) = quiet ms w _
  to_marked ms w i (Some (Tells m a)) = go (world.place_of_part w.parts m i)
    where
      go : (o : Option ℕ) → world.tell_part ring_owner key_part (marked w ms) a o ≡ adds ms (world.tell_part ring_owner key_part (marked w []) a o)
      go None = quiet ms w _
      go (Some n) = told_marked ms w n (told_event a w.now) (slice_get w.parts n)

  pub ticks_marked : (ms : List TraceMark) (w : ClusterState) (ns : List ℕ) (turns : ℕ) → world.tick_each ring_owner key_part (marked w ms) ns turns ≡ adds ms (world.tick_each ring_owner key_part (marked w []) ns turns)
  ticks_marked ms w [] turns = quiet ms w _
  ticks_marked ms w (n ∷ ns) turns = go (slice_get w.parts n) (λ ms w t. ticks_marked ms w ns t)
    where
      rest : WorldStep → WorldStep
      rest s = world.tick_each ring_owner key_part s.world ns (turns + world.turns_ended ring_owner key_part s.outcome)

      tick : List TraceMark → Option PartState → WorldStep
      tick xs found = world.step_of_part ring_owner key_part (marked w xs) n (events.Tick w.now) (λ reply. out.TickEnded (world.ended_turns reply)) found

      go : (found : Option PartState) → ((ms : List TraceMark) (w : ClusterState) (t : ℕ) → world.tick_each ring_owner key_part (marked w ms) ns t ≡ adds ms (world.tick_each ring_owner key_part (marked w []) ns t)) → rest (tick ms found) ≡ adds ms (rest (tick [] found))
      go None more = more ms w (turns + 0)
      go (Some p) more =
          let step = part_step ring_owner p (events.Tick w.now) in
          let xs = tagged p.member step.marks in
          let next : ClusterState = record w { parts = set w.parts n step.part } in
          let t = turns + world.ended_turns step.reply in
          let end = world.tick_each ring_owner key_part (marked next []) ns t in
          more (ms ++ xs) next t ∙ ap (λ (zs : List TraceMark). let s : WorldStep = record { world = marked end.world zs; outcome = end.outcome } in s) (append_assoc ms xs end.world.marks) ∙ ap (adds ms) (sym (more xs next t))

  honest_marked : (ms : List TraceMark) (w : ClusterState) (o : Option Member) → world.honest_tick (marked w ms) o ≡ adds ms (world.honest_tick (marked w []) o)
  honest_marked ms w None = quiet ms (record w { placement = (placement_step w.placement place_changes.Tick w.now).state }) _
  honest_marked ms w (Some m) = quiet ms w _

  either : (b : Bool) (x y u v : WorldStep) (ms : List TraceMark) → x ≡ adds ms u → y ≡ adds ms v → cond b x y ≡ adds ms (cond b u v)
  either true x y u v ms e f = e
  either false x y u v ms e f = f

  -- what happens adds its marks
  pub happens_marked : (ms : List TraceMark) (w : ClusterState) (e : WorldEvent) → world.happens ring_owner key_part (marked w ms) e ≡ adds ms (world.happens ring_owner key_part (marked w []) e)
  happens_marked ms w (lines.At moment) = quiet ms (record w { now = moment }) _
  happens_marked ms w (lines.Boot space node kinds) = quiet ms (world.booted w (record { space = space; node = node; boot = suc w.boots }) kinds).world _
  happens_marked ms w (lines.Beat m) = either (world.was_booted w.parts m) _ _ _ _ ms (add_marked ms w _) (quiet ms w _)
  happens_marked ms w (lines.Collect m) = either (world.was_booted w.parts m) _ _ _ _ ms (ack_marked ms w m (collected (world.receipts_of ring_owner key_part w.parts m))) (quiet ms w _)
  happens_marked ms w (lines.Leave m) =
      either (world.was_booted w.parts m) _ _ _ _ ms (either (are_stopped (world.receipts_of ring_owner key_part w.parts m)) _ _ _ _ ms (add_marked ms w _) (quiet ms w _)) (quiet ms w _)
  happens_marked ms w (lines.To k) = deliver_marked ms w (world.message_at w k)
  happens_marked ms w (lines.Part k i) = to_marked ms w i (world.message_at w k)
  happens_marked ms w (lines.Call number m key least chain) =
      either (number == suc (length w.calls)) _ _ _ _ ms (call_marked ms w number (ask_of key least chain w.now) (world.key_place_of ring_owner key_part w m key)) (quiet ms w _)
  happens_marked ms w (lines.Poll number) = poll_marked ms w number (world.call_at w.calls number)
  happens_marked ms w (lines.End number) = end_marked ms w number (world.call_at w.calls number)
  happens_marked ms w (lines.Hold m key) = does_marked ms w (world.key_place_of ring_owner key_part w m key) _ _
  happens_marked ms w (lines.Release m key) = does_marked ms w (world.key_place_of ring_owner key_part w m key) _ _
  happens_marked ms w (lines.Tick m) = either (world.was_booted w.parts m) _ _ _ _ ms (ticks_marked ms w (world.places_of w.parts m 0) 0) (quiet ms w _)
  happens_marked ms w (lines.Closing m i) = does_marked ms w (world.place_of_part w.parts m i) _ _
  happens_marked ms w (lines.Closed m key) = does_marked ms w (world.key_place_of ring_owner key_part w m key) _ _
  happens_marked ms w (lines.Stop m i) = does_marked ms w (world.place_of_part w.parts m i) _ _
  happens_marked ms w (lines.Lost m) =
      either (world.was_booted w.parts m) _ _ _ _ ms
      (either (world.all_stopped w.parts m) _ _ _ _ ms (quiet ms (record w { placement = (placement_step w.placement (place_changes.Lost m) w.now).state }) _) (quiet ms w _))
      (quiet ms w _)
  happens_marked ms w lines.PlacementTick = honest_marked ms w (world.running_among w.parts (late_in w.placement.rooms w.now))
  happens_marked ms w lines.Restart = quiet ms (record w { placement = placement_restarted w.placement w.now }) _
