-- No more turns begin than calls were made: a step of a part begins calls that waited in its cells, or the one that it
-- makes.
use Rattle.std.proofs.Common.{◌≡◌, ◌⊎◌, ℕ, Bool, true, false, not, cond, ◌&&◌, ◌+◌, ◌≤◌, List, [], ◌∷◌, ◌++◌, length, Option, None, Some, refl, ap, ◌∙◌, inl, inr, arith, length-append}
use Rattle.std.specs.Prelude.{nat_lt, ◌==◌, max, option_map, is_some}
use Rattle.std.proofs.lemmas.Bool.{cond_both, or_parts, ltb-false}
use Rattle.actor_names.specs.declared.actor_key.ActorKey.{ActorKey}
use Rattle.place_table.specs.declared.host.HostInfo.{HostInfo}
use Rattle.place_table.specs.Hosts.{PlacementTable}
use Rattle.turn_core.specs.declared.cell.Waiter.{Waiter}
use Rattle.turn_core.specs.declared.answer.CellEnd.TheVariants as ending
use Rattle.turn_core.specs.Cell.{CellState, AskStep, EndStep, PollStep, kept_chain, admit_call, with_turn, with_waiter, without_waiter, begun_next, first_unmoved, without_first_unmoved, next_call, call_of, without_call, has_turn, waiter_of, chain_of, place_of, not_open, poll_waiter, with_hold, without_hold, all_moved, is_free, is_open_chain}
use Rattle.turn_core.specs.CellSound.{In}
use Rattle.part_model.specs.declared.actor_cell.ActorCell.{ActorCell}
use Rattle.part_model.specs.Cells.{cell_at, cell_of_call, keep_cell, is_kept, total}
use Rattle.part_model.specs.Order.{AreInOrder}
use Rattle.part_model.proofs.Elements.{In-cell_at}
use Rattle.part_model.proofs.Sizes.{total-keep-changed, total-keep-missing}
use Rattle.part_model.specs.declared.stage.Stage.{Stage}
use Rattle.part_model.specs.declared.stage.Stage.TheVariants.{Locked, Updated, Open, Stopped}
use Rattle.part_model.specs.declared.event.PartEvent.{PartEvent}
use Rattle.part_model.specs.declared.event.PartEvent.TheVariants as events
use Rattle.part_model.specs.Receipts.{PartReply}
use Rattle.part_model.specs.declared.event.Reply.TheVariants as replies
use Rattle.actor_names.specs.Same.{same_member}
use Rattle.part_model.specs.Marks.{PartMark, TurnBegan, TurnEnded, BecameActive, BecameInactive, PartOpened, begun_calls, marks_of_begin, marks_of_next}
use Rattle.part_model.specs.Part
use Rattle.part_model.specs.Part.{PartState, PartStep, CellStep, asked_step, ask_cell, ask_owned, found_or_first, call_chain, is_full, is_spent, is_open, is_own, is_foreign, is_locked, is_updated, is_drained, each_cell, part_step}
use Rattle.part_model.specs.Sound.{IsPartSound}
use Rattle.part_model.proofs.CellLaws.{admit_cases, In-cell_of_call}
use Rattle.part_model.proofs.PartSteps.{In-first_to_close}
use Rattle.part_model.proofs.Replays.{cell_at-In}
use Rattle.cluster_model.proofs.Counts.{ends_begin_none, stop_begins_none}

-- ---- marks

abbrev pub begun : List PartMark → ℕ
begun xs = length (begun_calls xs)

begun-append : (xs ys : List PartMark) → begun (xs ++ ys) ≡ begun xs + begun ys
begun-append [] ys = omega arith
begun-append (TurnBegan key call chain ∷ xs) ys = let more = begun-append xs ys in omega arith
begun-append (TurnEnded key call ∷ xs) ys = begun-append xs ys
begun-append (BecameActive key version ∷ xs) ys = begun-append xs ys
begun-append (BecameInactive key ∷ xs) ys = begun-append xs ys
begun-append (PartOpened number version ∷ xs) ys = begun-append xs ys

none_begun : (xs : List ℕ) → xs ≡ [] → length xs ≡ 0
none_begun xs e = ap (λ (z : List ℕ). length z) e

begin_begun : (a : Bool) (key : ActorKey) (v call : ℕ) (chain : Option (List ℕ)) → begun (marks_of_begin a key v call chain) ≡ 1
begin_begun true key v call chain = refl
begin_begun false key v call chain = refl

-- ---- lines

-- the calls that wait in a cell
abbrev pub waits_in : ActorCell → ℕ
waits_in c = length c.inner.queue

fewer_waiting : (call : ℕ) (ws : List Waiter) → length (without_waiter call ws) ≤ length ws
fewer_waiting call [] = omega arith
fewer_waiting call (w ∷ ws) =
    let more = fewer_waiting call ws in
    cond_both (call == w.call) _ _ (λ (r : List Waiter). length r ≤ length (w ∷ ws)) (λ _. omega arith) (λ _. omega arith)

same_moved : (ws : List Waiter) → length (all_moved ws) ≡ length ws
same_moved [] = refl
same_moved (w ∷ ws) = let more = same_moved ws in omega arith

-- the first call that isn't moved leaves the queue
first_leaves : (ws : List Waiter) (w : Waiter) → first_unmoved ws ≡ Some w → length (without_first_unmoved ws) + 1 ≡ length ws
first_leaves [] w e = absurd (cc)
first_leaves (x ∷ ws) w e = go (λ f. first_leaves ws w f) x.moved e
  where
    go : (first_unmoved ws ≡ Some w → length (without_first_unmoved ws) + 1 ≡ length ws) → (b : Bool) → cond b (first_unmoved ws) (Some x) ≡ Some w → length (cond b (x ∷ without_first_unmoved ws) ws) + 1 ≡ length (x ∷ ws)
    go more true f = let m = more f in omega arith
    go more false f = omega arith

-- the call that begins next waited
next_begun : (a : Bool) (key : ActorKey) (v : ℕ) (may : Bool) (c : CellState) → length (begun_next c (next_call may c)).queue + begun (marks_of_next a key v (next_call may c)) ≡ length c.queue
next_begun a key v may c = cond_both (may && is_free c) _ _ (λ (o : Option Waiter). length (begun_next c o).queue + begun (marks_of_next a key v o) ≡ length c.queue) (λ _. go (first_unmoved c.queue) refl) (λ _. omega arith)
  where
    go : (o : Option Waiter) → first_unmoved c.queue ≡ o → length (begun_next c o).queue + begun (marks_of_next a key v o) ≡ length c.queue
    go None e = omega arith
    go (Some w) e = let f = first_leaves c.queue w e in let b = begin_begun a key v w.call w.chain in omega arith

-- ---- cells

-- how many calls an event makes
abbrev pub asked_by : PartEvent → ℕ
asked_by (events.Ask key chain now) = 1
asked_by (events.AskAt key chain least now) = 1
asked_by e = 0

-- the turns that a step begins waited before, or come from a call that it makes
abbrev pub BeginsWaiting : PartState → ℕ → PartStep → Type 0
BeginsWaiting p asked s = total waits_in s.part.cells + begun s.marks ≤ total waits_in p.cells + asked

stays : (p : PartState) (asked : ℕ) (reply : PartReply) → BeginsWaiting p asked (Part.refused p reply)
stays p asked reply = omega arith

-- the actor's cell, or a first one, in which no call waits
abbrev IsHome : PartState → ActorCell → Type 0
IsHome p c = (cell_at p.cells c.key ≡ Some c) ⊎ ((cell_at p.cells c.key ≡ None) × (waits_in c ≡ 0))

idle_cell : (x : ActorCell) → is_kept x ≡ false → waits_in x ≡ 0
idle_cell x k = let h = ltb-false 0 (waits_in x) (or_parts x.active (nat_lt 0 (waits_in x)) k).1 in omega arith

one_cell : (p : PartState) (asked : ℕ) (c x : ActorCell) (marks : List PartMark) → AreInOrder p.cells → IsHome p c → x.key ≡ c.key → waits_in x + begun marks ≤ waits_in c + asked
    → total waits_in (keep_cell p.cells x) + begun marks ≤ total waits_in p.cells + asked
one_cell p asked c x marks o home key e =
    elim home [
      | inl h ↦ (let k = total-keep-changed waits_in p.cells x (idle_cell x) c (ap (λ (z : ActorKey). cell_at p.cells z) key ∙ h) o in omega arith)
      | inr h ↦ (
          let k = total-keep-missing waits_in p.cells x (idle_cell x) (ap (λ (z : ActorKey). cell_at p.cells z) key ∙ h.0) in
          let z = h.1 in
          omega arith)
    ]

each_begins : (f : ActorCell → CellStep) (cs : List ActorCell) → ((c : ActorCell) → waits_in (f c).cell + begun (f c).marks ≤ waits_in c)
    → total waits_in (each_cell f cs).cells + begun (each_cell f cs).marks ≤ total waits_in cs
each_begins f [] h = omega arith
each_begins f (c ∷ cs) h =
    let more = each_begins f cs h in
    let now = h c in
    let a = begun-append (f c).marks (each_cell f cs).marks in
    omega arith

module _ (owner : PlacementTable → ActorKey → Option HostInfo) where
  home_of : (p : PartState) (c : ActorCell) → IsPartSound owner p → In c p.cells → IsHome p c
  home_of p c s i = inl (cell_at-In p.cells c s.in_order i)

  found_or_first_home : (p : PartState) (key : ActorKey) (found : Option ActorCell) → cell_at p.cells key ≡ found → IsPartSound owner p → IsHome p (found_or_first p key found)
  found_or_first_home p key None f s = inr (f, refl)
  found_or_first_home p key (Some c) f s = home_of p c s (In-cell_at p.cells key c f)

  asked_begins : (p : PartState) (c : ActorCell) (chain : Option (List ℕ)) (may : Bool) → IsPartSound owner p → IsHome p c
      → BeginsWaiting p 1 (asked_step p c chain (admit_call c.inner (p.drawn + 1) chain may).cell (admit_call c.inner (p.drawn + 1) chain may).answer)
  asked_begins p c chain may s home =
      let kept = kept_chain c.inner chain in
      let a = begin_begun c.active c.key p.opened (p.drawn + 1) chain in
      let l = length-append c.inner.queue ((let w : Waiter = record { call = p.drawn + 1; chain = kept; moved = false } in w) ∷ []) in
      let begun_now = one_cell p 1 c (record c { inner = with_turn c.inner (p.drawn + 1) kept; active = true }) (marks_of_begin c.active c.key p.opened (p.drawn + 1) chain) s.in_order home refl (omega arith) in
      admit_cases c.inner (p.drawn + 1) chain may (λ (x : AskStep). BeginsWaiting p 1 (asked_step p c chain x.cell x.answer))
      (λ _ _. begun_now) (omega arith) (λ _ _. begun_now)
      (λ _ _. one_cell p 1 c (record c { inner = with_waiter c.inner (p.drawn + 1) kept }) [] s.in_order home refl (omega arith))
      (omega arith)

  ask_cell_begins : (full : Bool) (p : PartState) (c : ActorCell) (chain : Option (List ℕ)) (may : Bool) → IsPartSound owner p → IsHome p c → BeginsWaiting p 1 (ask_cell full p c chain may)
  ask_cell_begins full p c chain may s home = cond_both full _ _ (BeginsWaiting p 1) (λ _. omega arith) (λ _. asked_begins p c chain may s home)

  ask_owned_begins : (full : Bool) (p : PartState) (c : ActorCell) (chain : Option (List ℕ)) (found : Option HostInfo) → IsPartSound owner p → IsHome p c → BeginsWaiting p 1 (ask_owned full p c chain found)
  ask_owned_begins full p c chain None s home = omega arith
  ask_owned_begins full p c chain (Some host) s home =
      cond_both (same_member host.member p.member) _ _ (BeginsWaiting p 1) (λ _. ask_cell_begins full p c chain (not c.closing) s home) (λ _. omega arith)

  ask_begins : (p : PartState) (key : ActorKey) (chain : Option (List ℕ)) (least : ℕ) → IsPartSound owner p → BeginsWaiting p 1 (Part.ask_part owner p key chain least)
  ask_begins p key chain least s =
      let c = found_or_first p key (cell_at p.cells key) in
      let x = call_chain p c.inner.depth chain in
      let h = found_or_first_home p key (cell_at p.cells key) refl s in
      cond_both (is_spent p) _ _ (BeginsWaiting p 1) (λ _. omega arith)
      (λ _. cond_both (nat_lt p.seen least) _ _ (BeginsWaiting p 1) (λ _. omega arith)
      (λ _. cond_both (is_open_chain c.inner x) _ _ (BeginsWaiting p 1) (λ _. ask_cell_begins (is_full p (cell_at p.cells key)) p c x false s h)
      (λ _. cond_both (is_open p.stage) _ _ (BeginsWaiting p 1) (λ _. ask_owned_begins (is_full p (cell_at p.cells key)) p c x (owner p.table c.key) s h)
      (λ _. ask_cell_begins (is_full p (cell_at p.cells key)) p c x false s h))))

  poll_begins : (p : PartState) (call : ℕ) (found : Option ActorCell) → cell_of_call p.cells call ≡ found → IsPartSound owner p → BeginsWaiting p 0 (Part.poll_cell owner p call found)
  poll_begins p call None f s = omega arith
  poll_begins p call (Some c) f s =
      let i = In-cell_of_call p.cells call c f in
      cond_both (has_turn call c.inner.turns) _ _ (λ (a : PollStep). BeginsWaiting p 0 (Part.polled_step owner p c call a.cell a.answer)) (λ _. stays p 0 (replies.Begun call (chain_of c.inner.turns))) (λ _. go i (waiter_of call c.inner.queue))
    where
      go : In c p.cells → (w : Option Waiter) → BeginsWaiting p 0 (Part.polled_step owner p c call (poll_waiter c.inner call w).cell (poll_waiter c.inner call w).answer)
      go i None = stays p 0 replies.AlreadyEnded
      go i (Some w) =
          cond_both w.moved _ _ (λ (a : PollStep). BeginsWaiting p 0 (Part.polled_step owner p c call a.cell a.answer))
          (λ _.
          let less = fewer_waiting call c.inner.queue in
          one_cell p 0 c (record c { inner = record (c.inner) { queue = without_waiter call c.inner.queue } }) [] s.in_order (home_of p c s i) refl (omega arith))
          (λ _. stays p 0 (replies.Waits call (place_of call c.inner.queue)))

  end_begins : (p : PartState) (call now : ℕ) (found : Option ActorCell) → cell_of_call p.cells call ≡ found → IsPartSound owner p → BeginsWaiting p 0 (Part.end_cell owner p call now found)
  end_begins p call now None f s = omega arith
  end_begins p call now (Some c) f s =
      cond_both (has_turn call c.inner.turns) _ _ (λ (a : EndStep). BeginsWaiting p 0 (Part.ended_step owner p c call now a.cell a.answer)) (λ _. ends) (λ _. go (waiter_of call c.inner.queue))
    where
      go : (w : Option Waiter) → BeginsWaiting p 0 (Part.ended_step owner p c call now c.inner (not_open w))
      go None = omega arith
      go (Some w) = omega arith

      less : CellState
      less = without_call c.inner call

      next : Option Waiter
      next = next_call (Part.may_begin owner p c) less

      ends : BeginsWaiting p 0 (Part.ended_step owner p c call now (begun_next less next) (ending.Ended (option_map call_of next)))
      ends =
          let i = In-cell_of_call p.cells call c f in
          let a = next_begun c.active c.key p.opened (Part.may_begin owner p c) less in
          one_cell p 0 c (record c { inner = begun_next less next; last = max c.last now }) (TurnEnded c.key call ∷ marks_of_next c.active c.key p.opened next) s.in_order (home_of p c s i) refl (omega arith)

  hold_begins : (p : PartState) (key : ActorKey) (found : Option ActorCell) → cell_at p.cells key ≡ found → IsPartSound owner p → BeginsWaiting p 0 (Part.hold_cell owner p found)
  hold_begins p key None f s = omega arith
  hold_begins p key (Some c) f s =
      let i = In-cell_at p.cells key c f in
      cond_both (c.active && not c.closing) _ _ (BeginsWaiting p 0)
      (λ _. cond_both (is_spent p) _ _ (BeginsWaiting p 0) (λ _. omega arith) (λ _. one_cell p 0 c (record c { inner = with_hold c.inner }) [] s.in_order (home_of p c s i) refl (omega arith)))
      (λ _. omega arith)

  release_begins : (p : PartState) (key : ActorKey) (now : ℕ) (found : Option ActorCell) → cell_at p.cells key ≡ found → IsPartSound owner p → BeginsWaiting p 0 (Part.release_cell owner p now found)
  release_begins p key now None f s = omega arith
  release_begins p key now (Some c) f s =
      let i = In-cell_at p.cells key c f in
      cond_both (c.inner.holds == 0) _ _ (BeginsWaiting p 0) (λ _. omega arith)
      (λ _. one_cell p 0 c (record c { inner = without_hold c.inner; last = max c.last now }) [] s.in_order (home_of p c s i) refl (omega arith))

  unlock_begins : (p : PartState) (version : ℕ) → BeginsWaiting p 0 (Part.unlock_part owner p version)
  unlock_begins p version =
      let q = Part.as_open owner p in
      let each = each_begins (Part.open_cell owner q) p.cells
      (λ c. cond_both (is_own owner q c.key) _ _ (λ (x : CellStep). waits_in x.cell + begun x.marks ≤ waits_in c)
      (λ _. let a = next_begun c.active c.key q.opened (not c.closing) c.inner in omega arith)
      (λ _. let a = same_moved c.inner.queue in omega arith)) in
      cond_both (is_updated p.stage && (version == p.seen)) _ _ (BeginsWaiting p 0) (λ _. cond_both (is_drained owner p) _ _ (BeginsWaiting p 0) (λ _. omega arith) (λ _. omega arith)) (λ _. omega arith)

  tick_begins : (p : PartState) (now : ℕ) → BeginsWaiting p 0 (Part.tick_part owner p now)
  tick_begins p now =
      let each = each_begins (Part.tick_cell owner p now) p.cells
      (λ c. cond_both (not (is_free c.inner) && (is_foreign owner p c.key && Part.is_overdue owner p now c)) _ _ (λ (x : CellStep). waits_in x.cell + begun x.marks ≤ waits_in c)
      (λ _. let b = none_begun _ (ends_begin_none c.key c.inner.turns) in omega arith) (λ _. omega arith)) in
      cond_both (is_updated p.stage) _ _ (BeginsWaiting p 0) (λ _. omega arith) (λ _. omega arith)

  take_begins : (p : PartState) (now : ℕ) (found : Option ActorCell) → Part.first_to_close owner p now p.cells ≡ found → IsPartSound owner p → BeginsWaiting p 0 (Part.close_cell owner p found)
  take_begins p now None f s = omega arith
  take_begins p now (Some c) f s =
      let i = (In-first_to_close owner p now p.cells c f).0 in
      one_cell p 0 c (record c { closing = true }) [] s.in_order (home_of p c s i) refl (omega arith)

  closed_begins : (p : PartState) (key : ActorKey) (found : Option ActorCell) → cell_at p.cells key ≡ found → IsPartSound owner p → BeginsWaiting p 0 (Part.closed_cell owner p found)
  closed_begins p key None f s = omega arith
  closed_begins p key (Some c) f s =
      let i = In-cell_at p.cells key c f in
      let may = is_open p.stage && is_own owner p c.key in
      let next = next_call may c.inner in
      let a = next_begun false c.key p.opened may c.inner in
      cond_both c.closing _ _ (BeginsWaiting p 0)
      (λ _. one_cell p 0 c (record c { inner = begun_next c.inner next; active = is_some next; closing = false }) (BecameInactive c.key ∷ marks_of_next false c.key p.opened next) s.in_order (home_of p c s i) refl (omega arith))
      (λ _. omega arith)

  running_begins : (p : PartState) (e : PartEvent) → IsPartSound owner p → BeginsWaiting p (asked_by e) (Part.running_step owner p e)
  running_begins p (events.Ask key chain now) s = ask_begins p key chain 0 s
  running_begins p (events.AskAt key chain least now) s = ask_begins p key chain least s
  running_begins p events.Draw s = cond_both (is_spent p) _ _ (BeginsWaiting p 0) (λ _. omega arith) (λ _. omega arith)
  running_begins p (events.Poll call) s = poll_begins p call (cell_of_call p.cells call) refl s
  running_begins p (events.End call now) s = end_begins p call now (cell_of_call p.cells call) refl s
  running_begins p (events.Hold key) s = hold_begins p key (cell_at p.cells key) refl s
  running_begins p (events.Release key now) s = release_begins p key now (cell_at p.cells key) refl s
  running_begins p (events.Lock version) s = cond_both (nat_lt p.seen version) _ _ (BeginsWaiting p 0) (λ _. omega arith) (λ _. omega arith)
  running_begins p (events.Update table now) s = cond_both (is_locked p.stage && (table.version == p.seen)) _ _ (BeginsWaiting p 0) (λ _. omega arith) (λ _. omega arith)
  running_begins p (events.Unlock version) s = unlock_begins p version
  running_begins p (events.Tick now) s = tick_begins p now
  running_begins p (events.TakeClosing now) s = take_begins p now (Part.first_to_close owner p now p.cells) refl s
  running_begins p (events.Closed key) s = closed_begins p key (cell_at p.cells key) refl s
  running_begins p events.StopPart s = let h = none_begun _ (stop_begins_none p.cells) in omega arith

  stopped_begins : (p : PartState) (e : PartEvent) → BeginsWaiting p (asked_by e) (Part.stopped_step owner p e)
  stopped_begins p events.StopPart = omega arith
  stopped_begins p e = omega arith

  begins_at : (p : PartState) (stage : Stage) (e : PartEvent) → IsPartSound owner p → BeginsWaiting p (asked_by e) (Part.step_at owner p stage e)
  begins_at p Stopped e s = stopped_begins p e
  begins_at p Locked e s = running_begins p e s
  begins_at p Updated e s = running_begins p e s
  begins_at p Open e s = running_begins p e s

  pub step_begins : (p : PartState) (e : PartEvent) → IsPartSound owner p → BeginsWaiting p (asked_by e) (part_step owner p e)
  step_begins p e s = begins_at p p.stage e s
