-- As many turns are open in the parts as began and haven't ended: each step adds to its cells the turns that its marks
-- begin, and removes those that they end.
use Rattle.std.proofs.Common.{◌≡◌, ◌⊎◌, ℕ, Bool, true, false, not, ◌&&◌, ◌+◌, List, [], ◌∷◌, ◌++◌, length, set, Option, None, Some, refl, sym, ap, ◌∙◌, inl, inr, arith, length-append}
use Rattle.std.specs.Prelude.{zero, suc, nat_lt, ◌==◌, max, option_map, slice_get}
use Rattle.std.proofs.lemmas.Bool.{cond_both, or_parts, or_cases, true≢false, false≢true}
use Rattle.actor_names.specs.declared.member.Member.{Member}
use Rattle.actor_names.specs.declared.actor_key.ActorKey.{ActorKey}
use Rattle.place_table.specs.declared.host.HostInfo.{HostInfo}
use Rattle.place_table.specs.Hosts.{PlacementTable}
use Rattle.turn_core.specs.declared.cell.Turn.{Turn}
use Rattle.turn_core.specs.declared.cell.Waiter.{Waiter}
use Rattle.turn_core.specs.declared.answer.CellEnd.TheVariants as ending
use Rattle.turn_core.specs.Cell.{CellState, AskStep, EndStep, PollStep, kept_chain, admit_call, with_turn, with_waiter, without_waiter, begun_next, next_call, call_of, without_call, without_turn, has_turn, waiter_of, chain_of, place_of, not_open, poll_waiter, with_hold, without_hold, is_free, is_open_chain}
use Rattle.turn_core.specs.CellSound.{In}
use Rattle.part_model.specs.declared.actor_cell.ActorCell.{ActorCell}
use Rattle.part_model.specs.Cells.{cell_at, cell_of_call, keep_cell, is_kept, total}
use Rattle.part_model.specs.Order.{AreInOrder}
use Rattle.part_model.proofs.Elements.{In-cell_at}
use Rattle.part_model.proofs.Sizes.{total-keep-changed, total-keep-missing}
use Rattle.part_model.specs.declared.stage.Stage.{Stage}
use Rattle.part_model.specs.declared.stage.Stage.TheVariants.{Stopped}
use Rattle.part_model.specs.declared.event.PartEvent.{PartEvent}
use Rattle.part_model.specs.declared.event.PartEvent.TheVariants as events
use Rattle.part_model.specs.Receipts.{PartReply}
use Rattle.part_model.specs.declared.event.Reply.TheVariants as replies
use Rattle.part_model.specs.declared.settings.TypeSettings.{TypeSettings}
use Rattle.actor_names.specs.Same.{same_member}
use Rattle.part_model.specs.Marks.{PartMark, TurnBegan, TurnEnded, BecameInactive, PartOpened, begun_calls, ended_calls, marks_of_begin, marks_of_next, marks_of_ends, marks_of_inactive, marks_of_stop}
use Rattle.part_model.specs.Part
use Rattle.part_model.specs.Part.{PartState, PartStep, CellStep, asked_step, ask_cell, ask_owned, found_or_first, call_chain, is_full, is_spent, is_open, is_own, is_foreign, is_locked, is_updated, is_drained, each_cell, part_step}
use Rattle.part_model.specs.Sound.{IsActorSound, IsPartSound}
use Rattle.part_model.proofs.CellLaws.{admit_cases, In-cell_of_call, first_sound}
use Rattle.part_model.proofs.PartSteps.{In-first_to_close}
use Rattle.part_model.proofs.Replays.{cell_at-In, no_turns}
use Rattle.world_events.specs.declared.event.WorldEvent.{WorldEvent}
use Rattle.world_events.specs.declared.settings.WorldSettings.{WorldSettings}
use Rattle.cluster_model.proofs.SpaceParts.{backed}
use Rattle.cluster_model.specs.Counts.{begun_turns, over_turns, turns_in, open_in, TurnsAreCounted}
use Rattle.cluster_model.specs.World as world
use Rattle.cluster_model.specs.World.{ClusterState, tagged, new_parts}
use Rattle.cluster_model.proofs.Basics.{In-slice_get}
use Rattle.cluster_model.proofs.Counts.{begun_turns-append, over_turns-append, begun_turns-tagged, over_turns-tagged, next_ends_none, ends_begin_none, inactive_begins_none}
use Rattle.cluster_model.proofs.Histories.{some_same}
use Rattle.cluster_model.specs.Invariant.{IsSafeWorld}
use Rattle.cluster_model.proofs.Lines.{AreKept, run_kept}
use Rattle.cluster_model.proofs.Worlds.{step_safe, safe_kept, new_world_safe}

-- ---- marks

abbrev begun : List PartMark → ℕ
begun xs = length (begun_calls xs)

abbrev ended : List PartMark → ℕ
ended xs = length (ended_calls xs)

begun-append : (xs ys : List PartMark) → begun (xs ++ ys) ≡ begun xs + begun ys
begun-append [] ys = omega arith
begun-append (TurnBegan key call chain ∷ xs) ys = let more = begun-append xs ys in omega arith
begun-append (PartOpened number version ∷ xs) ys = begun-append xs ys
begun-append (x ∷ xs) ys = begun-append xs ys

ended-append : (xs ys : List PartMark) → ended (xs ++ ys) ≡ ended xs + ended ys
ended-append [] ys = omega arith
ended-append (TurnEnded key call ∷ xs) ys = let more = ended-append xs ys in omega arith
ended-append (PartOpened number version ∷ xs) ys = ended-append xs ys
ended-append (x ∷ xs) ys = ended-append xs ys

begin_begun : (a : Bool) (key : ActorKey) (v call : ℕ) (chain : Option (List ℕ)) → (begun (marks_of_begin a key v call chain) ≡ 1) × (ended (marks_of_begin a key v call chain) ≡ 0)
begin_begun true key v call chain = (refl, refl)
begin_begun false key v call chain = (refl, refl)

none_ended : (xs : List ℕ) → xs ≡ [] → length xs ≡ 0
none_ended xs e = ap (λ (z : List ℕ). length z) e

ends_ended : (key : ActorKey) (ts : List Turn) → ended (marks_of_ends key ts) ≡ length ts
ends_ended key [] = refl
ends_ended key (t ∷ ts) = let more = ends_ended key ts in omega arith

inactive_ended : (a : Bool) (key : ActorKey) → ended (marks_of_inactive a key) ≡ 0
inactive_ended true key = refl
inactive_ended false key = refl

-- a call that begins next is one more turn
next_begun : (a : Bool) (key : ActorKey) (v : ℕ) (c : CellState) (next : Option Waiter) → length (begun_next c next).turns ≡ length c.turns + begun (marks_of_next a key v next)
next_begun a key v c None = omega arith
next_begun a key v c (Some w) =
    let n = (begin_begun a key v w.call w.chain).0 in
    let l = length-append c.turns ((let t : Turn = record { call = w.call; chain = w.chain } in t) ∷ []) in
    omega arith

fewer_open : (call : ℕ) (ts : List Turn) → has_turn call ts ≡ true → length (without_turn call ts) + 1 ≡ length ts
fewer_open call [] h = absurd (false≢true h)
fewer_open call (t ∷ ts) h =
    let more = fewer_open call ts in
    cond_both (call == t.call) _ _ (λ (r : List Turn). length r + 1 ≡ length (t ∷ ts)) (λ _. omega arith)
    (λ f. let m = more (elim (or_cases (call == t.call) (has_turn call ts) h) [ inl l ↦ absurd (true≢false (sym l ∙ f)) | inr r ↦ r ]) in omega arith)

-- ---- cells

-- what the marks of a step say of its cells
abbrev pub IsBalanced : PartState → PartStep → Type 0
IsBalanced p s = total turns_in s.part.cells + ended s.marks ≡ total turns_in p.cells + begun s.marks

stays : (p : PartState) (reply : PartReply) → IsBalanced p (Part.refused p reply)
stays p reply = refl

-- the actor's cell, or a first one
abbrev IsHome : PartState → ActorCell → Type 0
IsHome p c = (cell_at p.cells c.key ≡ Some c) ⊎ ((cell_at p.cells c.key ≡ None) × (c.inner.turns ≡ []))

idle_cell : (x : ActorCell) → (x.active ≡ false → x.inner.turns ≡ []) → is_kept x ≡ false → turns_in x ≡ 0
idle_cell x quiet k = ap (λ (z : List Turn). length z) (quiet (or_parts x.active (nat_lt 0 (length x.inner.queue)) k).0)

one_cell : (p : PartState) (c x : ActorCell) (marks : List PartMark) → AreInOrder p.cells → IsHome p c → x.key ≡ c.key → (x.active ≡ false → x.inner.turns ≡ []) → turns_in x + ended marks ≡ turns_in c + begun marks
    → total turns_in (keep_cell p.cells x) + ended marks ≡ total turns_in p.cells + begun marks
one_cell p c x marks o home key quiet e =
    elim home [
      | inl h ↦ (let k = total-keep-changed turns_in p.cells x (idle_cell x quiet) c (ap (λ (z : ActorKey). cell_at p.cells z) key ∙ h) o in omega arith)
      | inr h ↦ (
          let k = total-keep-missing turns_in p.cells x (idle_cell x quiet) (ap (λ (z : ActorKey). cell_at p.cells z) key ∙ h.0) in
          let z = ap (λ (ts : List Turn). length ts) h.1 in
          omega arith)
    ]

each_balanced : (f : ActorCell → CellStep) (cs : List ActorCell) → ((c : ActorCell) → turns_in (f c).cell + ended (f c).marks ≡ turns_in c + begun (f c).marks)
    → total turns_in (each_cell f cs).cells + ended (each_cell f cs).marks ≡ total turns_in cs + begun (each_cell f cs).marks
each_balanced f [] h = refl
each_balanced f (c ∷ cs) h =
    let more = each_balanced f cs h in
    let now = h c in
    let a = begun-append (f c).marks (each_cell f cs).marks in
    let b = ended-append (f c).marks (each_cell f cs).marks in
    omega arith

stop_ended : (cs : List ActorCell) → (ended (marks_of_stop cs) ≡ total turns_in cs) × (begun (marks_of_stop cs) ≡ 0)
stop_ended [] = (refl, refl)
stop_ended (c ∷ cs) =
    let more = stop_ended cs in
    let mine = marks_of_ends c.key c.inner.turns ++ marks_of_inactive c.active c.key in
    let a = ended-append mine (marks_of_stop cs) in
    let b = ended-append (marks_of_ends c.key c.inner.turns) (marks_of_inactive c.active c.key) in
    let e = ends_ended c.key c.inner.turns in
    let i = inactive_ended c.active c.key in
    let k = begun-append mine (marks_of_stop cs) in
    let l = begun-append (marks_of_ends c.key c.inner.turns) (marks_of_inactive c.active c.key) in
    let m = none_ended _ (ends_begin_none c.key c.inner.turns) in
    let n = none_ended _ (inactive_begins_none c.active c.key) in
    let x = more.0 in
    let y = more.1 in
    (omega arith, omega arith)

module _ (owner : PlacementTable → ActorKey → Option HostInfo) where
  home_of : (p : PartState) (c : ActorCell) → IsPartSound owner p → In c p.cells → IsHome p c
  home_of p c s i = inl (cell_at-In p.cells c s.in_order i)

  found_or_first_home : (p : PartState) (key : ActorKey) (found : Option ActorCell) → cell_at p.cells key ≡ found → IsPartSound owner p → IsHome p (found_or_first p key found) × IsActorSound (found_or_first p key found)
  found_or_first_home p key None f s = (inr (f, refl), first_sound key _)
  found_or_first_home p key (Some c) f s = let i = In-cell_at p.cells key c f in (home_of p c s i, s.each_sound c i)

  asked_balanced : (p : PartState) (c : ActorCell) (chain : Option (List ℕ)) (may : Bool) → IsPartSound owner p → IsHome p c → IsActorSound c
      → IsBalanced p (asked_step p c chain (admit_call c.inner (p.drawn + 1) chain may).cell (admit_call c.inner (p.drawn + 1) chain may).answer)
  asked_balanced p c chain may s home sound =
      let kept = kept_chain c.inner chain in
      let marks : List PartMark = marks_of_begin c.active c.key p.opened (p.drawn + 1) chain in
      let begins = begin_begun c.active c.key p.opened (p.drawn + 1) chain in
      let a = begins.0 in
      let b = begins.1 in
      let l = length-append c.inner.turns ((let t : Turn = record { call = p.drawn + 1; chain = kept } in t) ∷ []) in
      let begun_now = one_cell p c (record c { inner = with_turn c.inner (p.drawn + 1) kept; active = true }) marks s.in_order home refl (λ q. absurd (true≢false q)) (omega arith) in
      admit_cases c.inner (p.drawn + 1) chain may (λ (x : AskStep). IsBalanced p (asked_step p c chain x.cell x.answer))
      (λ _ _. begun_now) refl (λ _ _. begun_now)
      (λ _ _. one_cell p c (record c { inner = with_waiter c.inner (p.drawn + 1) kept }) [] s.in_order home refl (no_turns c sound) refl)
      refl

  ask_cell_balanced : (full : Bool) (p : PartState) (c : ActorCell) (chain : Option (List ℕ)) (may : Bool) → IsPartSound owner p → IsHome p c → IsActorSound c → IsBalanced p (ask_cell full p c chain may)
  ask_cell_balanced full p c chain may s home sound = cond_both full _ _ (IsBalanced p) (λ _. refl) (λ _. asked_balanced p c chain may s home sound)

  ask_owned_balanced : (full : Bool) (p : PartState) (c : ActorCell) (chain : Option (List ℕ)) (found : Option HostInfo) → IsPartSound owner p → IsHome p c → IsActorSound c → IsBalanced p (ask_owned full p c chain found)
  ask_owned_balanced full p c chain None s home sound = refl
  ask_owned_balanced full p c chain (Some host) s home sound =
      cond_both (same_member host.member p.member) _ _ (IsBalanced p) (λ _. ask_cell_balanced full p c chain (not c.closing) s home sound) (λ _. refl)

  ask_balanced : (p : PartState) (key : ActorKey) (chain : Option (List ℕ)) (least : ℕ) → IsPartSound owner p → IsBalanced p (Part.ask_part owner p key chain least)
  ask_balanced p key chain least s =
      let c = found_or_first p key (cell_at p.cells key) in
      let x = call_chain p c.inner.depth chain in
      let h = found_or_first_home p key (cell_at p.cells key) refl s in
      cond_both (is_spent p) _ _ (IsBalanced p) (λ _. refl)
      (λ _. cond_both (nat_lt p.seen least) _ _ (IsBalanced p) (λ _. refl)
      (λ _. cond_both (is_open_chain c.inner x) _ _ (IsBalanced p) (λ _. ask_cell_balanced (is_full p (cell_at p.cells key)) p c x false s h.0 h.1)
      (λ _. cond_both (is_open p.stage) _ _ (IsBalanced p) (λ _. ask_owned_balanced (is_full p (cell_at p.cells key)) p c x (owner p.table c.key) s h.0 h.1)
      (λ _. ask_cell_balanced (is_full p (cell_at p.cells key)) p c x false s h.0 h.1))))

  poll_balanced : (p : PartState) (call : ℕ) (found : Option ActorCell) → cell_of_call p.cells call ≡ found → IsPartSound owner p → IsBalanced p (Part.poll_cell owner p call found)
  poll_balanced p call None f s = refl
  poll_balanced p call (Some c) f s =
      let i = In-cell_of_call p.cells call c f in
      cond_both (has_turn call c.inner.turns) _ _ (λ (a : PollStep). IsBalanced p (Part.polled_step owner p c call a.cell a.answer)) (λ _. stays p (replies.Begun call (chain_of c.inner.turns))) (λ _. go i (waiter_of call c.inner.queue))
    where
      go : In c p.cells → (w : Option Waiter) → IsBalanced p (Part.polled_step owner p c call (poll_waiter c.inner call w).cell (poll_waiter c.inner call w).answer)
      go i None = stays p replies.AlreadyEnded
      go i (Some w) =
          cond_both w.moved _ _ (λ (a : PollStep). IsBalanced p (Part.polled_step owner p c call a.cell a.answer))
          (λ _. one_cell p c (record c { inner = record (c.inner) { queue = without_waiter call c.inner.queue } }) [] s.in_order (home_of p c s i) refl (no_turns c (s.each_sound c i)) refl)
          (λ _. stays p (replies.Waits call (place_of call c.inner.queue)))

  end_balanced : (p : PartState) (call now : ℕ) (found : Option ActorCell) → cell_of_call p.cells call ≡ found → IsPartSound owner p → IsBalanced p (Part.end_cell owner p call now found)
  end_balanced p call now None f s = refl
  end_balanced p call now (Some c) f s =
      cond_both (has_turn call c.inner.turns) _ _ (λ (a : EndStep). IsBalanced p (Part.ended_step owner p c call now a.cell a.answer)) ends (λ _. go (waiter_of call c.inner.queue))
    where
      go : (w : Option Waiter) → IsBalanced p (Part.ended_step owner p c call now c.inner (not_open w))
      go None = refl
      go (Some w) = refl

      less : CellState
      less = without_call c.inner call

      next : Option Waiter
      next = next_call (Part.may_begin owner p c) less

      ends : has_turn call c.inner.turns ≡ true → IsBalanced p (Part.ended_step owner p c call now (begun_next less next) (ending.Ended (option_map call_of next)))
      ends t =
          let i = In-cell_of_call p.cells call c f in
          let a = next_begun c.active c.key p.opened less next in
          let b = fewer_open call c.inner.turns t in
          let e = none_ended _ (next_ends_none c.active c.key p.opened next) in
          one_cell p c (record c { inner = begun_next less next; last = max c.last now }) (TurnEnded c.key call ∷ marks_of_next c.active c.key p.opened next) s.in_order (home_of p c s i) refl
          (λ q. absurd (let z = ap (λ (ts : List Turn). length ts) (no_turns c (s.each_sound c i) q) in omega arith)) (omega arith)

  hold_balanced : (p : PartState) (key : ActorKey) (found : Option ActorCell) → cell_at p.cells key ≡ found → IsPartSound owner p → IsBalanced p (Part.hold_cell owner p found)
  hold_balanced p key None f s = refl
  hold_balanced p key (Some c) f s =
      let i = In-cell_at p.cells key c f in
      cond_both (c.active && not c.closing) _ _ (IsBalanced p)
      (λ _. cond_both (is_spent p) _ _ (IsBalanced p) (λ _. refl) (λ _. one_cell p c (record c { inner = with_hold c.inner }) [] s.in_order (home_of p c s i) refl (no_turns c (s.each_sound c i)) refl))
      (λ _. refl)

  release_balanced : (p : PartState) (key : ActorKey) (now : ℕ) (found : Option ActorCell) → cell_at p.cells key ≡ found → IsPartSound owner p → IsBalanced p (Part.release_cell owner p now found)
  release_balanced p key now None f s = refl
  release_balanced p key now (Some c) f s =
      let i = In-cell_at p.cells key c f in
      cond_both (c.inner.holds == 0) _ _ (IsBalanced p) (λ _. refl)
      (λ _. one_cell p c (record c { inner = without_hold c.inner; last = max c.last now }) [] s.in_order (home_of p c s i) refl (no_turns c (s.each_sound c i)) refl)

  unlock_balanced : (p : PartState) (version : ℕ) → IsBalanced p (Part.unlock_part owner p version)
  unlock_balanced p version =
      let q = Part.as_open owner p in
      let each = each_balanced (Part.open_cell owner q) p.cells
      (λ c. cond_both (is_own owner q c.key) _ _ (λ (x : CellStep). turns_in x.cell + ended x.marks ≡ turns_in c + begun x.marks)
      (λ _.
      let a = next_begun c.active c.key q.opened c.inner (next_call (not c.closing) c.inner) in
      let e = none_ended _ (next_ends_none c.active c.key q.opened (next_call (not c.closing) c.inner)) in
      omega arith)
      (λ _. refl)) in
      cond_both (is_updated p.stage && (version == p.seen)) _ _ (IsBalanced p) (λ _. cond_both (is_drained owner p) _ _ (IsBalanced p) (λ _. each) (λ _. refl)) (λ _. refl)

  tick_balanced : (p : PartState) (now : ℕ) → IsBalanced p (Part.tick_part owner p now)
  tick_balanced p now =
      let each = each_balanced (Part.tick_cell owner p now) p.cells
      (λ c. cond_both (not (is_free c.inner) && (is_foreign owner p c.key && Part.is_overdue owner p now c)) _ _ (λ (x : CellStep). turns_in x.cell + ended x.marks ≡ turns_in c + begun x.marks)
      (λ _. let e = ends_ended c.key c.inner.turns in let b = none_ended _ (ends_begin_none c.key c.inner.turns) in omega arith) (λ _. refl)) in
      cond_both (is_updated p.stage) _ _ (IsBalanced p) (λ _. each) (λ _. refl)

  take_balanced : (p : PartState) (now : ℕ) (found : Option ActorCell) → Part.first_to_close owner p now p.cells ≡ found → IsPartSound owner p → IsBalanced p (Part.close_cell owner p found)
  take_balanced p now None f s = refl
  take_balanced p now (Some c) f s =
      let i = (In-first_to_close owner p now p.cells c f).0 in
      one_cell p c (record c { closing = true }) [] s.in_order (home_of p c s i) refl (no_turns c (s.each_sound c i)) refl

  closed_balanced : (p : PartState) (key : ActorKey) (found : Option ActorCell) → cell_at p.cells key ≡ found → IsPartSound owner p → IsBalanced p (Part.closed_cell owner p found)
  closed_balanced p key None f s = refl
  closed_balanced p key (Some c) f s =
      let i = In-cell_at p.cells key c f in
      cond_both c.closing _ _ (IsBalanced p) (λ k. go i ((s.each_sound c i).closing_free k) (next_call (is_open p.stage && is_own owner p c.key) c.inner)) (λ _. refl)
    where
      go : In c p.cells → c.inner.turns ≡ [] → (next : Option Waiter) → IsBalanced p (Part.closed_with owner p c next)
      go i free None = one_cell p c (record c { active = false; closing = false }) (BecameInactive c.key ∷ []) s.in_order (home_of p c s i) refl (λ _. free) refl
      go i free (Some w) =
          let a = next_begun false c.key p.opened c.inner (Some w) in
          one_cell p c (record c { inner = begun_next c.inner (Some w); active = true; closing = false }) (BecameInactive c.key ∷ marks_of_next false c.key p.opened (Some w)) s.in_order (home_of p c s i) refl
          (λ q. absurd (true≢false q)) (omega arith)

  running_balanced : (p : PartState) (e : PartEvent) → IsPartSound owner p → IsBalanced p (Part.running_step owner p e)
  running_balanced p (events.Ask key chain now) s = ask_balanced p key chain 0 s
  running_balanced p (events.AskAt key chain least now) s = ask_balanced p key chain least s
  running_balanced p events.Draw s = cond_both (is_spent p) _ _ (IsBalanced p) (λ _. refl) (λ _. refl)
  running_balanced p (events.Poll call) s = poll_balanced p call (cell_of_call p.cells call) refl s
  running_balanced p (events.End call now) s = end_balanced p call now (cell_of_call p.cells call) refl s
  running_balanced p (events.Hold key) s = hold_balanced p key (cell_at p.cells key) refl s
  running_balanced p (events.Release key now) s = release_balanced p key now (cell_at p.cells key) refl s
  running_balanced p (events.Lock version) s = cond_both (nat_lt p.seen version) _ _ (IsBalanced p) (λ _. refl) (λ _. refl)
  running_balanced p (events.Update table now) s = cond_both (is_locked p.stage && (table.version == p.seen)) _ _ (IsBalanced p) (λ _. refl) (λ _. refl)
  running_balanced p (events.Unlock version) s = unlock_balanced p version
  running_balanced p (events.Tick now) s = tick_balanced p now
  running_balanced p (events.TakeClosing now) s = take_balanced p now (Part.first_to_close owner p now p.cells) refl s
  running_balanced p (events.Closed key) s = closed_balanced p key (cell_at p.cells key) refl s
  running_balanced p events.StopPart s = let h = stop_ended p.cells in let a = h.0 in let b = h.1 in omega arith

  stopped_balanced : (p : PartState) (e : PartEvent) → IsBalanced p (Part.stopped_step owner p e)
  stopped_balanced p events.StopPart = refl
  stopped_balanced p e = refl

  balanced_at : (p : PartState) (stage : Stage) (e : PartEvent) → IsPartSound owner p → IsBalanced p (Part.step_at owner p stage e)
  balanced_at p Stopped e s = stopped_balanced p e
  balanced_at p stage e s = running_balanced p e s

  pub step_balanced : (p : PartState) (e : PartEvent) → IsPartSound owner p → IsBalanced p (part_step owner p e)
  step_balanced p e s = balanced_at p p.stage e s

-- ---- every list of events

open_in-set : (ps : List PartState) (n : ℕ) (p q : PartState) → slice_get ps n ≡ Some p → open_in (set ps n q) + total turns_in p.cells ≡ open_in ps + total turns_in q.cells
open_in-set [] n p q e = absurd (cc)
open_in-set (x ∷ ps) zero p q e = let s = ap (λ (z : PartState). total turns_in z.cells) (some_same x p e) in omega arith
open_in-set (x ∷ ps) (suc n) p q e = let more = open_in-set ps n p q e in omega arith

open_in-new : (ps : List PartState) (m : Member) (kinds : List TypeSettings) (i n : ℕ) → open_in (ps ++ new_parts m kinds i n) ≡ open_in ps
open_in-new [] m kinds i zero = refl
open_in-new [] m kinds i (suc n) = let more = open_in-new [] m kinds (suc i) n in omega arith
open_in-new (p ∷ ps) m kinds i n = let more = open_in-new ps m kinds i n in omega arith

module _ (owner : PlacementTable → ActorKey → Option HostInfo) (part_of : ActorKey → ℕ → ℕ) where
  record AreBalanced (w : ClusterState) : Type 0 where
    safe : IsSafeWorld owner w
    balance : open_in w.parts + over_turns w.marks ≡ begun_turns w.marks

  balance_step : (w : ClusterState) (n : ℕ) (p : PartState) (e : PartEvent) → AreBalanced w → slice_get w.parts n ≡ Some p
      → open_in (set w.parts n (part_step owner p e).part) + over_turns (w.marks ++ tagged p.member (part_step owner p e).marks) ≡ begun_turns (w.marks ++ tagged p.member (part_step owner p e).marks)
  balance_step w n p e t at =
      let s = part_step owner p e in
      let a = step_balanced owner p e (backed owner w t.safe p (In-slice_get w.parts n p at)).sound in
      let b = open_in-set w.parts n p s.part at in
      let c = begun_turns-append w.marks (tagged p.member s.marks) in
      let d = over_turns-append w.marks (tagged p.member s.marks) in
      let f = begun_turns-tagged p.member s.marks in
      let g = over_turns-tagged p.member s.marks in
      let h = t.balance in
      omega arith

  balance_kept : AreKept owner part_of AreBalanced
  balance_kept =
      let kept = safe_kept owner part_of in
      record {
        safe = λ w t. t.safe;
        other = λ w now calls events t. record { safe = kept.other w now calls events t.safe; balance = t.balance };
        step = λ w n p e t at heard asked. record { safe = step_safe owner part_of w n p e t.safe at heard; balance = balance_step w n p e t at };
        ask = λ w r t may booted. record { safe = kept.ask w r t.safe may booted; balance = t.balance };
        answer = λ w r t i. record { safe = kept.answer w r t.safe i; balance = t.balance };
        change = λ w e t h. record { safe = kept.change w e t.safe h; balance = t.balance };
        restart = λ w t. record { safe = kept.restart w t.safe; balance = t.balance };
        boot = λ w m kinds fresh t. record {
          safe = kept.boot w m kinds fresh t.safe;
          balance = (let a = open_in-new w.parts m (world.settings_for w.settings kinds) 0 w.settings.parts in let b = t.balance in omega arith);
        };
      }

  pub run_counted : (settings : WorldSettings) (es : List WorldEvent) → TurnsAreCounted (world.cluster_run owner part_of (world.opening_cluster settings) es)
  run_counted settings es =
      let t = run_kept owner part_of AreBalanced balance_kept (world.opening_cluster settings) es (record { safe = new_world_safe owner part_of settings; balance = refl }) in
      let b = t.balance in
      record { enough = omega arith; same = omega arith }
