-- A held actor stays active until its last Release: what each event does to the count of its holds, and what a list of
-- events does.
use Rattle.std.proofs.Common.{◌≡◌, ℕ, Bool, true, false, not, ◌&&◌, ◌+◌, ◌-◌, ◌<◌, ◌≤◌, List, [], ◌∷◌, ◌++◌, Option, None, Some, refl, sym, ap, ◌∙◌, subst, inl, inr, arith}
use Rattle.std.specs.Prelude.{nat_lt, ◌==◌, max, is_some}
use Rattle.std.proofs.lemmas.Bool.{cond_both, cases_Bool, or_left, true≢false}
use Rattle.actor_names.specs.declared.actor_key.ActorKey.{ActorKey}
use Rattle.actor_names.specs.Same.{same_key, same_member, key_before}
use Rattle.place_table.specs.declared.host.HostInfo.{HostInfo}
use Rattle.place_table.specs.Hosts.{PlacementTable}
use Rattle.turn_core.specs.declared.cell.Waiter.{Waiter}
use Rattle.turn_core.specs.Cell.{CellState, AskStep, EndStep, PollStep, is_free, is_open_chain, kept_chain, has_turn, waiter_of, without_waiter, without_call, begun_next, next_call, admit_call, poll_waiter, not_open, with_turn, with_waiter, with_hold, without_hold}
use Rattle.turn_core.specs.CellSound.{In}
use Rattle.part_model.specs.declared.actor_cell.ActorCell.{ActorCell}
use Rattle.part_model.specs.declared.event.PartEvent.{PartEvent}
use Rattle.part_model.specs.declared.event.PartEvent.TheVariants as events
use Rattle.part_model.specs.declared.stage.Stage.{Stage}
use Rattle.part_model.specs.declared.stage.Stage.TheVariants.{Locked, Updated, Open, Stopped}
use Rattle.part_model.specs.Cells.{cell_at, cell_of_call, drop_cell, insert_cell, keep_cell, is_kept}
use Rattle.part_model.specs.Part
use Rattle.part_model.specs.Part.{PartState, PartStep, CellStep, with_cell, asked_step, ask_cell, ask_owned, found_or_first, call_chain, is_full, is_spent, is_open, is_updated, is_locked, is_own, is_foreign, is_drained, each_cell, part_step}
use Rattle.part_model.specs.PartRuns.{part_after}
use Rattle.part_model.specs.Sound.{IsPartSound}
use Rattle.part_model.proofs.CellLaws.{In-cell_of_call, admit_cases}
use Rattle.part_model.proofs.Elements.{In-cell_at, key-cell_at, none_at, In-left, In-insert-itself}
use Rattle.part_model.proofs.KeyOrders.{same_key-true}
use Rattle.part_model.proofs.PartSteps.{In-first_to_close}
use Rattle.part_model.proofs.PartTables.{part_stepped}
use Rattle.part_model.proofs.PartWrites.{at_stopped}
use Rattle.part_model.proofs.Replays.{cell_at-In, same_key-false, not_same_key}
use Rattle.epoch_law.specs.Epochs.{HasActive, IsHeld, NeverStops, released, releases, added, holds_added, LeavesHold}

-- ---- cells that stay

pub In-keep-itself : (cs : List ActorCell) (x : ActorCell) → x.active ≡ true → In x (keep_cell cs x)
In-keep-itself cs x a =
    cond_both (is_kept x) _ _ (In x) (λ _. In-insert-itself (drop_cell cs x.key) x) (λ f. absurd (true≢false (sym (or_left _ _ a) ∙ f)))

In-insert-other : (cs : List ActorCell) (x y : ActorCell) → In y cs → In y (insert_cell cs x)
In-insert-other [] x y i = absurd i
In-insert-other (c ∷ cs) x y i =
    let more = In-insert-other cs x y in
    cond_both (key_before x.key c.key) _ _ (In y) (λ _. inr i) (λ _. elim i [ inl e ↦ inl e | inr j ↦ inr (more j) ])

In-keep-other : (cs : List ActorCell) (x y : ActorCell) → In y cs → same_key x.key y.key ≡ false → In y (keep_cell cs x)
In-keep-other cs x y i f =
    let left = In-left cs x.key y i f in
    cond_both (is_kept x) _ _ (In y) (λ _. In-insert-other (drop_cell cs x.key) x y left) (λ _. left)

In-each : (f : ActorCell → CellStep) (cs : List ActorCell) (c : ActorCell) → In c cs → In (f c).cell (each_cell f cs).cells
In-each f [] c i = absurd i
In-each f (d ∷ cs) c (inl e) = inl (ap (λ (z : ActorCell). (f z).cell) e)
In-each f (d ∷ cs) c (inr i) = inr (In-each f cs c i)

begun_holds : (c : CellState) (next : Option Waiter) → (begun_next c next).holds ≡ c.holds
begun_holds c None = refl
begun_holds c (Some w) = refl

-- ---- one event, of a sound part with an active cell that is held

module _ (owner : PlacementTable → ActorKey → Option HostInfo) (p : PartState) (s : IsPartSound owner p) (c : ActorCell) (there : In c p.cells) (active : c.active ≡ true) (held : 0 < c.inner.holds) where
  -- the actor is held as often as before
  abbrev Stays : PartStep → Type 0
  Stays x = IsHeld c.inner.holds x.part c.key

  as_was : IsHeld c.inner.holds p c.key
  as_was = (c, there, active, refl, refl)

  same_cell : (d : ActorCell) → In d p.cells → d.key ≡ c.key → d ≡ c
  same_cell d i k =
      let e : Some d ≡ Some c = sym (cell_at-In p.cells d s.in_order i) ∙ ap (λ (z : ActorKey). cell_at p.cells z) k ∙ cell_at-In p.cells c s.in_order there in
      cc

  -- a cell is written, of this actor or of another

  own_written : (x : ActorCell) → x.key ≡ c.key → x.active ≡ true → IsHeld x.inner.holds (with_cell p x) c.key
  own_written x k a = (x, In-keep-itself p.cells x a, a, k, refl)

  other_written : (x : ActorCell) → same_key x.key c.key ≡ false → IsHeld c.inner.holds (with_cell p x) c.key
  other_written x f = (c, In-keep-other p.cells x c there f, active, refl, refl)

  -- what is written in the place of this cell leaves the actor held if it keeps the count and, if it is held, that it is
  -- active
  abbrev IsOverwritten : ActorCell → Type 0
  IsOverwritten d = (x : ActorCell) → x.key ≡ d.key → (d.active ≡ true → 0 < d.inner.holds → x.active ≡ true) → x.inner.holds ≡ d.inner.holds → IsHeld c.inner.holds (with_cell p x) c.key

  found_written : (d : ActorCell) → In d p.cells → IsOverwritten d
  found_written d i x key stays holds = elim (cases_Bool (same_key d.key c.key)) [
    | inl t ↦
        let is : d ≡ c = same_cell d i (same_key-true d.key c.key t) in
        let a : x.active ≡ true = stays (ap (λ (z : ActorCell). z.active) is ∙ active) (subst (λ (z : ActorCell). 0 < z.inner.holds) (sym is) held) in
        let n : x.inner.holds ≡ c.inner.holds = holds ∙ ap (λ (z : ActorCell). z.inner.holds) is in
        subst (λ (m : ℕ). IsHeld m (with_cell p x) c.key) n (own_written x (key ∙ ap (λ (z : ActorCell). z.key) is) a)
    | inr f ↦ other_written x (subst (λ (z : ActorKey). same_key z c.key ≡ false) (sym key) f)
  ]

  place_written : (k : ActorKey) (found : Option ActorCell) → cell_at p.cells k ≡ found → IsOverwritten (found_or_first p k found)
  place_written k None e = λ x key stays holds. other_written x (subst (λ (z : ActorKey). same_key z c.key ≡ false) (sym key) (none_at k p.cells e c there))
  place_written k (Some d) e = found_written d (In-cell_at p.cells k d e)

  -- a call is asked

  asked_stays : (d : ActorCell) (chain : Option (List ℕ)) (may : Bool) → IsOverwritten d → Stays (asked_step p d chain (admit_call d.inner (p.drawn + 1) chain may).cell (admit_call d.inner (p.drawn + 1) chain may).answer)
  asked_stays d chain may w =
      let begun = w (record d { inner = with_turn d.inner (p.drawn + 1) (kept_chain d.inner chain); active = true }) refl (λ _ _. refl) refl in
      admit_cases d.inner (p.drawn + 1) chain may (λ (a : AskStep). Stays (asked_step p d chain a.cell a.answer))
      (λ _ _. begun) as_was (λ _ _. begun)
      (λ _ _. w (record d { inner = with_waiter d.inner (p.drawn + 1) (kept_chain d.inner chain) }) refl (λ a _. a) refl)
      as_was

  cell_stays : (full : Bool) (d : ActorCell) (chain : Option (List ℕ)) (may : Bool) → IsOverwritten d → Stays (ask_cell full p d chain may)
  cell_stays full d chain may w = cond_both full _ _ Stays (λ _. as_was) (λ _. asked_stays d chain may w)

  owned_stays : (full : Bool) (d : ActorCell) (chain : Option (List ℕ)) (host : Option HostInfo) → IsOverwritten d → Stays (ask_owned full p d chain host)
  owned_stays full d chain None w = as_was
  owned_stays full d chain (Some host) w = cond_both (same_member host.member p.member) _ _ Stays (λ _. cell_stays full d chain (not d.closing) w) (λ _. as_was)

  ask_stays : (k : ActorKey) (chain : Option (List ℕ)) (least : ℕ) → Stays (Part.ask_part owner p k chain least)
  ask_stays k chain least =
      let d = found_or_first p k (cell_at p.cells k) in
      let x = call_chain p d.inner.depth chain in
      let w = place_written k (cell_at p.cells k) refl in
      cond_both (is_spent p) _ _ Stays (λ _. as_was)
      (λ _. cond_both (nat_lt p.seen least) _ _ Stays (λ _. as_was)
      (λ _. cond_both (is_open_chain d.inner x) _ _ Stays (λ _. cell_stays (is_full p (cell_at p.cells k)) d x false w)
      (λ _. cond_both (is_open p.stage) _ _ Stays (λ _. owned_stays (is_full p (cell_at p.cells k)) d x (owner p.table d.key) w)
      (λ _. cell_stays (is_full p (cell_at p.cells k)) d x false w))))

  -- polls and ends

  poll_stays : (call : ℕ) (found : Option ActorCell) → cell_of_call p.cells call ≡ found → Stays (Part.poll_cell owner p call found)
  poll_stays call None e = as_was
  poll_stays call (Some d) e =
      cond_both (has_turn call d.inner.turns) _ _ (λ (a : PollStep). Stays (Part.polled_step owner p d call a.cell a.answer)) (λ _. as_was) (λ _. go (waiter_of call d.inner.queue))
    where
      go : (w : Option Waiter) → Stays (Part.polled_step owner p d call (poll_waiter d.inner call w).cell (poll_waiter d.inner call w).answer)
      go None = as_was
      go (Some w) =
          cond_both w.moved _ _ (λ (a : PollStep). Stays (Part.polled_step owner p d call a.cell a.answer))
          (λ _. found_written d (In-cell_of_call p.cells call d e) (record d { inner = record (d.inner) { queue = without_waiter call d.inner.queue } }) refl (λ a _. a) refl)
          (λ _. as_was)

  end_stays : (call now : ℕ) (found : Option ActorCell) → cell_of_call p.cells call ≡ found → Stays (Part.end_cell owner p call now found)
  end_stays call now None e = as_was
  end_stays call now (Some d) e =
      let less = without_call d.inner call in
      let next = next_call (Part.may_begin owner p d) less in
      cond_both (has_turn call d.inner.turns) _ _ (λ (a : EndStep). Stays (Part.ended_step owner p d call now a.cell a.answer))
      (λ _. found_written d (In-cell_of_call p.cells call d e) (record d { inner = begun_next less next; last = max d.last now }) refl (λ a _. a) (begun_holds less next))
      (λ _. go (waiter_of call d.inner.queue))
    where
      go : (w : Option Waiter) → Stays (Part.ended_step owner p d call now d.inner (not_open w))
      go None = as_was
      go (Some w) = as_was

  -- tables and time

  -- what becomes of the actor's cell where each cell changes
  abbrev StaysIn : CellStep → Type 0
  StaysIn x = (x.cell.active ≡ true) × (x.cell.key ≡ c.key) × (x.cell.inner.holds ≡ c.inner.holds)

  each_stays : (f : ActorCell → CellStep) (q : PartState) → q.cells ≡ (each_cell f p.cells).cells → StaysIn (f c) → IsHeld c.inner.holds q c.key
  each_stays f q e k = ((f c).cell, subst (λ (cs : List ActorCell). In (f c).cell cs) (sym e) (In-each f p.cells c there), k.0, k.1, k.2)

  open_in : StaysIn (Part.open_cell owner (Part.as_open owner p) c)
  open_in =
      let next = next_call (not c.closing) c.inner in
      cond_both (is_own owner (Part.as_open owner p) c.key) _ _ StaysIn (λ _. (or_left c.active (is_some next) active, refl, begun_holds c.inner next)) (λ _. (active, refl, refl))

  unlock_stays : (version : ℕ) → Stays (Part.unlock_part owner p version)
  unlock_stays version =
      cond_both (is_updated p.stage && (version == p.seen)) _ _ Stays
      (λ _. cond_both (is_drained owner p) _ _ Stays (λ _. each_stays (Part.open_cell owner (Part.as_open owner p)) (Part.open_part owner p).part refl open_in) (λ _. as_was))
      (λ _. as_was)

  tick_in : (now : ℕ) → StaysIn (Part.tick_cell owner p now c)
  tick_in now =
      cond_both (not (is_free c.inner) && (is_foreign owner p c.key && Part.is_overdue owner p now c)) _ _ StaysIn (λ _. (active, refl, refl)) (λ _. (active, refl, refl))

  tick_stays : (now : ℕ) → Stays (Part.tick_part owner p now)
  tick_stays now =
      let f = Part.tick_cell owner p now in
      cond_both (is_updated p.stage) _ _ Stays (λ _. each_stays f (Part.ticked_with owner p (each_cell f p.cells)).part refl (tick_in now)) (λ _. as_was)

  -- deactivation: a closing actor has no hold

  take_stays : (now : ℕ) (found : Option ActorCell) → Part.first_to_close owner p now p.cells ≡ found → Stays (Part.close_cell owner p found)
  take_stays now None e = as_was
  take_stays now (Some d) e = found_written d (In-first_to_close owner p now p.cells d e).0 (record d { closing = true }) refl (λ a _. a) refl

  closed_stays : (k : ActorKey) (found : Option ActorCell) → cell_at p.cells k ≡ found → Stays (Part.closed_cell owner p found)
  closed_stays k None e = as_was
  closed_stays k (Some d) e =
      let i = In-cell_at p.cells k d e in
      let next = next_call (is_open p.stage && is_own owner p d.key) d.inner in
      cond_both d.closing _ _ Stays
      (λ shut. found_written d i (record d { inner = begun_next d.inner next; active = is_some next; closing = false }) refl
      (λ _ some. let none = (s.each_sound d i).closing_unheld shut in absurd (omega arith)) (begun_holds d.inner next))
      (λ _. as_was)

  -- holds and releases

  -- the actor is held, as often as before but for what the event takes and adds
  abbrev Counts : PartEvent → PartStep → Type 0
  Counts e x = (m : ℕ) × IsHeld m x.part c.key × (c.inner.holds + added c.key e x.reply ≤ m + released c.key e)

  own_found : (k : ActorKey) (d : ActorCell) → cell_at p.cells k ≡ Some d → same_key c.key k ≡ true → d ≡ c
  own_found k d e t = same_cell d (In-cell_at p.cells k d e) (key-cell_at p.cells k d e ∙ sym (same_key-true c.key k t))

  other_found : (k : ActorKey) (d : ActorCell) → cell_at p.cells k ≡ Some d → same_key c.key k ≡ false → same_key d.key c.key ≡ false
  other_found k d e f = not_same_key d.key c.key (λ q. same_key-false c.key k f (sym q ∙ key-cell_at p.cells k d e))

  as_many : (n less : ℕ) → n + 0 ≤ n + less
  as_many n less = omega arith

  hold_counts : (k : ActorKey) (found : Option ActorCell) → cell_at p.cells k ≡ found → Counts (events.Hold k) (Part.hold_cell owner p found)
  hold_counts k None e = (c.inner.holds, as_was, as_many c.inner.holds 0)
  hold_counts k (Some d) e =
      let x : ActorCell = record d { inner = with_hold d.inner } in
      cond_both (d.active && not d.closing) _ _ (Counts (events.Hold k))
      (λ _. cond_both (is_spent p) _ _ (Counts (events.Hold k)) (λ _. (c.inner.holds, as_was, as_many c.inner.holds 0))
      (λ _. cond_both (same_key c.key k) 1 0 (λ (more : ℕ). (m : ℕ) × IsHeld m (with_cell p x) c.key × (c.inner.holds + more ≤ m + 0))
      (λ t.
      let is : d ≡ c = own_found k d e t in
      let n : d.inner.holds ≡ c.inner.holds = ap (λ (z : ActorCell). z.inner.holds) is in
      (d.inner.holds + 1, own_written x (ap (λ (z : ActorCell). z.key) is) (ap (λ (z : ActorCell). z.active) is ∙ active), omega arith))
      (λ f. (c.inner.holds, other_written x (other_found k d e f), as_many c.inner.holds 0))))
      (λ _. (c.inner.holds, as_was, as_many c.inner.holds 0))

  release_counts : (k : ActorKey) (now : ℕ) (found : Option ActorCell) → cell_at p.cells k ≡ found → Counts (events.Release k now) (Part.release_cell owner p now found)
  release_counts k now None e = (c.inner.holds, as_was, as_many c.inner.holds _)
  release_counts k now (Some d) e =
      let x : ActorCell = record d { inner = without_hold d.inner; last = max d.last now } in
      cond_both (d.inner.holds == 0) _ _ (Counts (events.Release k now)) (λ _. (c.inner.holds, as_was, as_many c.inner.holds _))
      (λ _. cond_both (same_key c.key k) 1 0 (λ (less : ℕ). (m : ℕ) × IsHeld m (with_cell p x) c.key × (c.inner.holds + 0 ≤ m + less))
      (λ t.
      let is : d ≡ c = own_found k d e t in
      let n : d.inner.holds ≡ c.inner.holds = ap (λ (z : ActorCell). z.inner.holds) is in
      (d.inner.holds - 1, own_written x (ap (λ (z : ActorCell). z.key) is) (ap (λ (z : ActorCell). z.active) is ∙ active), omega arith))
      (λ f. (c.inner.holds, other_written x (other_found k d e f), as_many c.inner.holds 0)))

  -- every event but StopPart

  plainly : (x : PartStep) → Stays x → (m : ℕ) × IsHeld m x.part c.key × (c.inner.holds + 0 ≤ m + 0)
  plainly x h = (c.inner.holds, h, omega arith)

  running_counts : (e : PartEvent) → (events.StopPart ≡ e → ⊥) → Counts e (Part.running_step owner p e)
  running_counts (events.Ask k chain now) live = plainly (Part.ask_part owner p k chain 0) (ask_stays k chain 0)
  running_counts (events.AskAt k chain least now) live = plainly (Part.ask_part owner p k chain least) (ask_stays k chain least)
  running_counts events.Draw live = plainly (Part.draw_part owner p) (cond_both (is_spent p) _ _ Stays (λ _. as_was) (λ _. as_was))
  running_counts (events.Poll call) live = plainly (Part.poll_part owner p call) (poll_stays call (cell_of_call p.cells call) refl)
  running_counts (events.End call now) live = plainly (Part.end_part owner p call now) (end_stays call now (cell_of_call p.cells call) refl)
  running_counts (events.Hold k) live = hold_counts k (cell_at p.cells k) refl
  running_counts (events.Release k now) live = release_counts k now (cell_at p.cells k) refl
  running_counts (events.Lock version) live = plainly (Part.lock_part owner p version) (cond_both (nat_lt p.seen version) _ _ Stays (λ _. as_was) (λ _. as_was))
  running_counts (events.Update table now) live = plainly (Part.update_part owner p table now) (cond_both (is_locked p.stage && (table.version == p.seen)) _ _ Stays (λ _. as_was) (λ _. as_was))
  running_counts (events.Unlock version) live = plainly (Part.unlock_part owner p version) (unlock_stays version)
  running_counts (events.Tick now) live = plainly (Part.tick_part owner p now) (tick_stays now)
  running_counts (events.TakeClosing now) live = plainly (Part.take_closing owner p now) (take_stays now (Part.first_to_close owner p now p.cells) refl)
  running_counts (events.Closed k) live = plainly (Part.closed_part owner p k) (closed_stays k (cell_at p.cells k) refl)
  running_counts events.StopPart live = absurd (live refl)

  step_counts : (stage : Stage) (e : PartEvent) → p.stage ≡ stage → (events.StopPart ≡ e → ⊥) → Counts e (Part.step_at owner p stage e)
  step_counts Stopped e is live = absurd (subst (λ (cs : List ActorCell). In c cs) (at_stopped owner p.stage p is s.stopped_empty) there)
  step_counts Locked e is live = running_counts e live
  step_counts Updated e is live = running_counts e live
  step_counts Open e is live = running_counts e live

-- ---- lists of events

front_releases : (key : ActorKey) (front back : List PartEvent) → releases key front ≤ releases key (front ++ back)
front_releases key [] back = omega arith
front_releases key (e ∷ front) back = let more = front_releases key front back in omega arith

module _ (owner : PlacementTable → ActorKey → Option HostInfo) where
  event_counts : (p : PartState) (key : ActorKey) (n : ℕ) (e : PartEvent) → IsPartSound owner p → IsHeld n p key → 0 < n → (events.StopPart ≡ e → ⊥)
      → (m : ℕ) × IsHeld m (part_step owner p e).part key × (n + added key e (part_step owner p e).reply ≤ m + released key e)
  event_counts p key n e s h some live =
      let c = h.0 in
      let count : c.inner.holds ≡ n = h.4 in
      let held : 0 < c.inner.holds = omega arith in
      subst (λ (z : ActorKey). (m : ℕ) × IsHeld m (part_step owner p e).part z × (n + added z e (part_step owner p e).reply ≤ m + released z e)) h.3
      (subst (λ (z : ℕ). (m : ℕ) × IsHeld m (part_step owner p e).part c.key × (z + added c.key e (part_step owner p e).reply ≤ m + released c.key e)) count
      (step_counts owner p s c h.1 h.2 held p.stage e refl live))

  left_held : (p : PartState) (key : ActorKey) (n : ℕ) (es : List PartEvent) → IsPartSound owner p → IsHeld n p key → LeavesHold owner n p key es → NeverStops es → (m : ℕ) × IsHeld m (part_after owner p es) key × (0 < m)
  left_held p key n [] s h left live = (n, h, (let some : 0 < n + 0 = left [] [] refl in omega arith))
  left_held p key n (e ∷ es) s h left live =
      let some : 0 < n + 0 = left [] (e ∷ es) refl in
      let k = event_counts p key n e s h (omega arith) (λ q. live (inl q)) in
      let q = (part_step owner p e).part in
      let kept : n + added key e (part_step owner p e).reply ≤ k.0 + released key e = k.2 in
      left_held q key k.0 es (part_stepped owner p e s).sound k.1
      (λ front back same.
      let more : released key e + releases key front < n + (added key e (part_step owner p e).reply + holds_added owner q key front) = left (e ∷ front) back (ap (λ (xs : List PartEvent). e ∷ xs) same) in
      omega arith)
      (λ i. live (inr i))

  pub beside_active : (p : PartState) (key : ActorKey) (n : ℕ) (es : List PartEvent) → IsPartSound owner p → IsHeld n p key → LeavesHold owner n p key es → NeverStops es → HasActive (part_after owner p es) key
  beside_active p key n es s h left live = let k = (left_held p key n es s h left live).1 in (k.0, k.1, k.2, k.3)

  pub stays_active : (p : PartState) (key : ActorKey) (n : ℕ) (es : List PartEvent) → IsPartSound owner p → IsHeld n p key → releases key es < n → NeverStops es → HasActive (part_after owner p es) key
  stays_active p key n es s h few live =
      beside_active p key n es s h
      (λ front back same.
      let less = front_releases key front back in
      let all : releases key (front ++ back) ≡ releases key es = ap (λ (xs : List PartEvent). releases key xs) same in
      omega arith)
      live
