-- Which turns a step begins: those of own actors in an open part, or those beside an open turn of their chain.
use Rattle.std.proofs.Common.{◌≡◌, ◌⊎◌, ℕ, Bool, true, false, not, ◌&&◌, ◌+◌, List, [], ◌∷◌, ◌++◌, Option, None, Some, refl, sym, ap, ◌∙◌, subst, inl, inr}
use Rattle.std.specs.Prelude.{nat_lt, ◌==◌}
use Rattle.std.proofs.lemmas.Bool.{and_parts, cond_both, false≢true}
use Rattle.actor_names.specs.declared.actor_key.ActorKey.{ActorKey}
use Rattle.place_table.specs.declared.host.HostInfo.{HostInfo}
use Rattle.place_table.specs.Hosts.{PlacementTable}
use Rattle.turn_core.specs.declared.cell.Turn.{Turn}
use Rattle.turn_core.specs.declared.cell.Waiter.{Waiter}
use Rattle.turn_core.specs.Cell.{CellState, AskStep, EndStep, PollStep, is_free, is_first_chain, is_open_chain, kept_chain, has_turn, waiter_of, without_call, next_call, poll_waiter, not_open, admit_call}
use Rattle.turn_core.specs.CellSound.{In}
use Rattle.turn_core.proofs.CellSteps.{first_chain}
use Rattle.part_model.specs.declared.stage.Stage.{Stage}
use Rattle.part_model.specs.declared.stage.Stage.TheVariants.{Locked, Updated, Open, Stopped}
use Rattle.part_model.specs.declared.event.PartEvent.{PartEvent}
use Rattle.part_model.specs.declared.event.PartEvent.TheVariants as events
use Rattle.part_model.specs.declared.actor_cell.ActorCell.{ActorCell}
use Rattle.actor_names.specs.Same.{same_member}
use Rattle.part_model.specs.Cells.{cell_at, cell_of_call}
use Rattle.part_model.specs.Marks.{PartMark, TurnBegan, marks_of_begin, marks_of_next, marks_of_ends, marks_of_inactive, marks_of_stop}
use Rattle.part_model.specs.Part
use Rattle.part_model.specs.Part.{PartState, PartStep, CellStep, with_cell, asked_step, ask_cell, ask_owned, found_or_first, is_spent, is_open, is_updated, is_locked, is_own, is_owned_by, is_foreign, is_drained, may_begin, each_cell, part_step}
use Rattle.part_model.specs.Sound.{IsPartSound}
use Rattle.part_model.specs.Activity.{Activity, activity_in, activity_of}
use Rattle.part_model.specs.PartRuns.{BeginsRightly}
use Rattle.part_model.proofs.Elements.{In-cell_at}
use Rattle.part_model.proofs.CellLaws.{admit_cases, next_cases}
use Rattle.part_model.proofs.PartWrites.{open_stage}
use Rattle.part_model.proofs.PartSteps.{begins_where}
use Rattle.part_model.proofs.Replays.{In-append, cell_at-In}
use Rattle.part_model.proofs.CallReplays.{call_chain-kept}

-- ---- what lists of marks begin

-- the call that these marks begin
begun_by : (a : Bool) (key k : ActorKey) (v n call : ℕ) (given chain : Option (List ℕ)) → In (TurnBegan k call chain) (marks_of_begin a key v n given) → (key ≡ k) × (given ≡ chain)
begun_by true key k v n call given chain (inl e) = (cc, cc)
begun_by true key k v n call given chain (inr i) = absurd i
begun_by false key k v n call given chain (inl e) = absurd (cc)
begun_by false key k v n call given chain (inr (inl e)) = (cc, cc)
begun_by false key k v n call given chain (inr (inr i)) = absurd i

ends_begin_none : (key k : ActorKey) (ts : List Turn) (call : ℕ) (chain : Option (List ℕ)) → In (TurnBegan k call chain) (marks_of_ends key ts) → ⊥
ends_begin_none key k [] call chain i = i
ends_begin_none key k (t ∷ ts) call chain (inl e) = cc
ends_begin_none key k (t ∷ ts) call chain (inr i) = ends_begin_none key k ts call chain i

inactive_begins_none : (a : Bool) (key k : ActorKey) (call : ℕ) (chain : Option (List ℕ)) → In (TurnBegan k call chain) (marks_of_inactive a key) → ⊥
inactive_begins_none true key k call chain (inl e) = cc
inactive_begins_none true key k call chain (inr i) = i
inactive_begins_none false key k call chain i = i

stop_begins_none : (cs : List ActorCell) (k : ActorKey) (call : ℕ) (chain : Option (List ℕ)) → In (TurnBegan k call chain) (marks_of_stop cs) → ⊥
stop_begins_none [] k call chain i = i
stop_begins_none (c ∷ cs) k call chain i =
    let more = stop_begins_none cs k call chain in
    elim (In-append (marks_of_ends c.key c.inner.turns ++ marks_of_inactive c.active c.key) (marks_of_stop cs) _ i) [
      | inl j ↦ elim (In-append (marks_of_ends c.key c.inner.turns) (marks_of_inactive c.active c.key) _ j) [
        | inl l ↦ ends_begin_none c.key k c.inner.turns call chain l
        | inr r ↦ inactive_begins_none c.active c.key k call chain r
      ]
      | inr j ↦ more j
    ]

In-each_marks : (f : ActorCell → CellStep) (cs : List ActorCell) (m : PartMark) → In m (each_cell f cs).marks → (c : ActorCell) × In c cs × In m (f c).marks
In-each_marks f [] m i = absurd i
In-each_marks f (c ∷ cs) m i =
    let more = In-each_marks f cs m in
    elim (In-append (f c).marks (each_cell f cs).marks m i) [ inl j ↦ (c, inl refl, j) | inr j ↦ (let h = more j in (h.0, inr h.1, h.2)) ]

module _ (owner : PlacementTable → ActorKey → Option HostInfo) where
  -- the next call begins in an open part that owns its actor, if there is one
  next_begins : (p q : PartState) (a : Bool) (key : ActorKey) (v : ℕ) (next : Option Waiter) (k : ActorKey) (call : ℕ) (chain : Option (List ℕ))
      → ((w : Waiter) → next ≡ Some w → (q.stage ≡ Open) × (is_own owner q key ≡ true)) → In (TurnBegan k call chain) (marks_of_next a key v next)
      → ((q.stage ≡ Open) × (is_own owner q k ≡ true)) ⊎ ((t : Turn) × In t (activity_of (cell_at p.cells k)).turns × (t.chain ≡ chain))
  next_begins p q a key v None k call chain where_ i = absurd i
  next_begins p q a key v (Some w) k call chain where_ i =
      let h = where_ w refl in
      let same = (begun_by a key k v w.call call w.chain chain i).0 in
      inl (h.0, subst (λ (z : ActorKey). is_own owner q z ≡ true) same h.1)

  -- if the next call begins, the test for it holds
  next_test : (b : Bool) (c : CellState) (w : Waiter) → next_call b c ≡ Some w → b ≡ true
  next_test b c w e = next_cases b c (λ (r : Option Waiter). r ≡ Some w → b ≡ true) (λ _ q. absurd (cc)) (λ m _ _ _ _. m) e

  -- ---- asks

  asked_begins : (p : PartState) (c : ActorCell) (chain : Option (List ℕ)) (may : Bool) → activity_of (cell_at p.cells c.key) ≡ activity_in c ⊎ (c.inner.turns ≡ []) → kept_chain c.inner chain ≡ chain
      → (may ≡ true → (p.stage ≡ Open) × (is_own owner p c.key ≡ true))
      → BeginsRightly owner p (asked_step p c chain (admit_call c.inner (p.drawn + 1) chain may).cell (admit_call c.inner (p.drawn + 1) chain may).answer)
  asked_begins p c chain may was same begins =
      admit_cases c.inner (p.drawn + 1) chain may (λ (a : AskStep). BeginsRightly owner p (asked_step p c chain a.cell a.answer))
      (λ o room k call given i.
      let h = and_parts (nat_lt 0 c.inner.depth) (is_first_chain c.inner.turns (kept_chain c.inner chain)) o in
      let f = first_chain c.inner.turns (kept_chain c.inner chain) h.1 in
      let b = begun_by c.active c.key k p.opened (p.drawn + 1) call chain given i in
      inr (
        f.0,
        elim was [
          | inl e ↦ subst (λ (z : ActorKey). In f.0 (activity_of (cell_at p.cells z)).turns) b.0 (subst (λ (a : Activity). In f.0 a.turns) (sym e) f.1)
          | inr z ↦ absurd (subst (λ (ts : List Turn). In f.0 ts) z f.1)
        ],
        f.2 ∙ same ∙ b.1,
      ))
      (λ _ _ _ i. absurd i)
      (λ free m k call given i.
      let h = begins m in
      let b = begun_by c.active c.key k p.opened (p.drawn + 1) call chain given i in
      inl (h.0, subst (λ (z : ActorKey). is_own owner p z ≡ true) b.0 h.1))
      (λ o busy _ _ _ i. absurd i)
      (λ _ _ _ i. absurd i)

  ask_cell_begins : (p : PartState) (c : ActorCell) (chain : Option (List ℕ)) (full may : Bool) → activity_of (cell_at p.cells c.key) ≡ activity_in c ⊎ (c.inner.turns ≡ []) → kept_chain c.inner chain ≡ chain
      → (may ≡ true → (p.stage ≡ Open) × (is_own owner p c.key ≡ true)) → BeginsRightly owner p (ask_cell full p c chain may)
  ask_cell_begins p c chain full may was same begins =
      cond_both full _ _ (λ (s : PartStep). BeginsRightly owner p s) (λ _ _ _ _ i. absurd i) (λ _. asked_begins p c chain may was same begins)

  ask_owned_begins : (p : PartState) (c : ActorCell) (chain : Option (List ℕ)) (full : Bool) (found : Option HostInfo) → owner p.table c.key ≡ found → activity_of (cell_at p.cells c.key) ≡ activity_in c ⊎ (c.inner.turns ≡ []) → kept_chain c.inner chain ≡ chain
      → p.stage ≡ Open → BeginsRightly owner p (ask_owned full p c chain found)
  ask_owned_begins p c chain full None f was same o = λ _ _ _ i. absurd i
  ask_owned_begins p c chain full (Some host) f was same o =
      cond_both (same_member host.member p.member) _ _ (λ (s : PartStep). BeginsRightly owner p s)
      (λ t. ask_cell_begins p c chain full (not c.closing) was same (λ _. (o, ap (λ (h : Option HostInfo). is_owned_by p.member h) f ∙ t)))
      (λ _ _ _ _ i. absurd i)

  ask_here_begins : (p : PartState) (c : ActorCell) (chain : Option (List ℕ)) (full : Bool) → activity_of (cell_at p.cells c.key) ≡ activity_in c ⊎ (c.inner.turns ≡ []) → kept_chain c.inner chain ≡ chain
      → BeginsRightly owner p (Part.ask_here owner full p c chain)
  ask_here_begins p c chain full was same =
      cond_both (is_open_chain c.inner chain) _ _ (λ (s : PartStep). BeginsRightly owner p s)
      (λ _. ask_cell_begins p c chain full false was same (λ m. absurd (false≢true m)))
      (λ _. cond_both (is_open p.stage) _ _ (λ (s : PartStep). BeginsRightly owner p s)
      (λ o. ask_owned_begins p c chain full (owner p.table c.key) refl was same (open_stage p.stage o))
      (λ _. ask_cell_begins p c chain full false was same (λ m. absurd (false≢true m))))

  was_known : (p : PartState) (key : ActorKey) (found : Option ActorCell) → cell_at p.cells key ≡ found → IsPartSound owner p
      → activity_of (cell_at p.cells (found_or_first p key found).key) ≡ activity_in (found_or_first p key found) ⊎ ((found_or_first p key found).inner.turns ≡ [])
  was_known p key None f s = inr refl
  was_known p key (Some c) f s = inl (ap (λ (o : Option ActorCell). activity_of o) (cell_at-In p.cells c s.in_order (In-cell_at p.cells key c f)))

  ask_begins : (p : PartState) (key : ActorKey) (chain : Option (List ℕ)) (least : ℕ) → IsPartSound owner p → BeginsRightly owner p (Part.ask_part owner p key chain least)
  ask_begins p key chain least s =
      cond_both (is_spent p) _ _ (λ (x : PartStep). BeginsRightly owner p x) (λ _ _ _ _ i. absurd i)
      (λ _. cond_both (nat_lt p.seen least) _ _ (λ (x : PartStep). BeginsRightly owner p x) (λ _ _ _ _ i. absurd i)
      (λ _. ask_here_begins p (found_or_first p key (cell_at p.cells key)) _ _ (was_known p key (cell_at p.cells key) refl s) (call_chain-kept p (found_or_first p key (cell_at p.cells key)).inner chain)))

  -- ---- polls and ends

  poll_begins : (p : PartState) (call : ℕ) (found : Option ActorCell) → BeginsRightly owner p (Part.poll_cell owner p call found)
  poll_begins p call None = λ _ _ _ i. absurd i
  poll_begins p call (Some c) =
      cond_both (has_turn call c.inner.turns) _ _ (λ (a : PollStep). BeginsRightly owner p (Part.polled_step owner p c call a.cell a.answer)) (λ _ _ _ _ i. absurd i) (λ _. go (waiter_of call c.inner.queue))
    where
      go : (w : Option Waiter) → BeginsRightly owner p (Part.polled_step owner p c call (poll_waiter c.inner call w).cell (poll_waiter c.inner call w).answer)
      go None = λ _ _ _ i. absurd i
      go (Some w) = cond_both w.moved _ _ (λ (a : PollStep). BeginsRightly owner p (Part.polled_step owner p c call a.cell a.answer)) (λ _ _ _ _ i. absurd i) (λ _ _ _ _ i. absurd i)

  end_begins : (p : PartState) (call now : ℕ) (found : Option ActorCell) → BeginsRightly owner p (Part.end_cell owner p call now found)
  end_begins p call now None = λ _ _ _ i. absurd i
  end_begins p call now (Some c) =
      cond_both (has_turn call c.inner.turns) _ _ (λ (a : EndStep). BeginsRightly owner p (Part.ended_step owner p c call now a.cell a.answer))
      (λ _ k n chain i.
      elim i [
        | inl e ↦ absurd (cc)
        | inr j ↦ next_begins p p c.active c.key p.opened (next_call (may_begin owner p c) (without_call c.inner call)) k n chain
            (λ w e. let b = begins_where owner p c (next_test (may_begin owner p c) (without_call c.inner call) w e) in (b.0, b.1)) j
      ])
      (λ _. go (waiter_of call c.inner.queue))
    where
      go : (w : Option Waiter) → BeginsRightly owner p (Part.ended_step owner p c call now c.inner (not_open w))
      go None = λ _ _ _ i. absurd i
      go (Some w) = λ _ _ _ i. absurd i

  -- ---- holds and deactivation

  hold_begins : (p : PartState) (found : Option ActorCell) → BeginsRightly owner p (Part.hold_cell owner p found)
  hold_begins p None = λ _ _ _ i. absurd i
  hold_begins p (Some c) =
      cond_both (c.active && not c.closing) _ _ (λ (s : PartStep). BeginsRightly owner p s)
      (λ _. cond_both (is_spent p) _ _ (λ (s : PartStep). BeginsRightly owner p s) (λ _ _ _ _ i. absurd i) (λ _ _ _ _ i. absurd i))
      (λ _ _ _ _ i. absurd i)

  release_begins : (p : PartState) (now : ℕ) (found : Option ActorCell) → BeginsRightly owner p (Part.release_cell owner p now found)
  release_begins p now None = λ _ _ _ i. absurd i
  release_begins p now (Some c) = cond_both (c.inner.holds == 0) _ _ (λ (s : PartStep). BeginsRightly owner p s) (λ _ _ _ _ i. absurd i) (λ _ _ _ _ i. absurd i)

  take_begins : (p : PartState) (found : Option ActorCell) → BeginsRightly owner p (Part.close_cell owner p found)
  take_begins p None = λ _ _ _ i. absurd i
  take_begins p (Some c) = λ _ _ _ i. absurd i

  closed_begins : (p : PartState) (found : Option ActorCell) → BeginsRightly owner p (Part.closed_cell owner p found)
  closed_begins p None = λ _ _ _ i. absurd i
  closed_begins p (Some c) =
      cond_both c.closing _ _ (λ (s : PartStep). BeginsRightly owner p s)
      (λ _ k n chain i.
      elim i [
        | inl e ↦ absurd (cc)
        | inr j ↦ next_begins p p false c.key p.opened (next_call (is_open p.stage && is_own owner p c.key) c.inner) k n chain
            (λ w e. let h = and_parts (is_open p.stage) (is_own owner p c.key) (next_test (is_open p.stage && is_own owner p c.key) c.inner w e) in (open_stage p.stage h.0, h.1)) j
      ])
      (λ _ _ _ _ i. absurd i)

  -- ---- tables, time and the end

  opens_begin : (p : PartState) (d : ActorCell) (k : ActorKey) (call : ℕ) (chain : Option (List ℕ)) → In (TurnBegan k call chain) (Part.open_cell owner p d).marks → is_own owner p k ≡ true
  opens_begin p d k call chain =
      cond_both (is_own owner p d.key) _ _ (λ (s : CellStep). In (TurnBegan k call chain) s.marks → is_own owner p k ≡ true)
      (λ own. next_cases (not d.closing) d.inner (λ n. In (TurnBegan k call chain) (Part.begin_in owner p d n).marks → is_own owner p k ≡ true)
      (λ _ i. absurd i)
      (λ _ _ w _ i. subst (λ (z : ActorKey). is_own owner p z ≡ true) (begun_by d.active d.key k p.opened w.call call w.chain chain i).0 own))
      (λ _ i. absurd i)

  unlock_begins : (p : PartState) (version : ℕ) → BeginsRightly owner p (Part.unlock_part owner p version)
  unlock_begins p version =
      cond_both (is_updated p.stage && (version == p.seen)) _ _ (λ (s : PartStep). BeginsRightly owner p s)
      (λ _. cond_both (is_drained owner p) _ _ (λ (s : PartStep). BeginsRightly owner p s)
      (λ _ k call chain i. elim i [
        | inl e ↦ absurd (cc)
        | inr j ↦ (let h = In-each_marks (Part.open_cell owner (Part.as_open owner p)) p.cells _ j in inl (refl, opens_begin (Part.as_open owner p) h.0 k call chain h.2))
      ])
      (λ _ _ _ _ i. absurd i))
      (λ _ _ _ _ i. absurd i)

  tick_begins : (p : PartState) (now : ℕ) → BeginsRightly owner p (Part.tick_part owner p now)
  tick_begins p now =
      cond_both (is_updated p.stage) _ _ (λ (s : PartStep). BeginsRightly owner p s)
      (λ _ k call chain i. (let h = In-each_marks (Part.tick_cell owner p now) p.cells _ i in absurd (quiet h.0 k call chain h.2)))
      (λ _ _ _ _ i. absurd i)
    where
      quiet : (d : ActorCell) (k : ActorKey) (call : ℕ) (chain : Option (List ℕ)) → In (TurnBegan k call chain) (Part.tick_cell owner p now d).marks → ⊥
      quiet d k call chain =
          cond_both (not (is_free d.inner) && (is_foreign owner p d.key && Part.is_overdue owner p now d)) _ _ (λ (s : CellStep). In (TurnBegan k call chain) s.marks → ⊥)
          (λ _. ends_begin_none d.key k d.inner.turns call chain)
          (λ _ i. i)

  -- ---- every event

  running_begins : (p : PartState) (e : PartEvent) → IsPartSound owner p → BeginsRightly owner p (Part.running_step owner p e)
  running_begins p (events.Ask key chain now) s = ask_begins p key chain 0 s
  running_begins p (events.AskAt key chain least now) s = ask_begins p key chain least s
  running_begins p events.Draw s = cond_both (is_spent p) _ _ (λ (x : PartStep). BeginsRightly owner p x) (λ _ _ _ _ i. absurd i) (λ _ _ _ _ i. absurd i)
  running_begins p (events.Poll call) s = poll_begins p call (cell_of_call p.cells call)
  running_begins p (events.End call now) s = end_begins p call now (cell_of_call p.cells call)
  running_begins p (events.Hold key) s = hold_begins p (cell_at p.cells key)
  running_begins p (events.Release key now) s = release_begins p now (cell_at p.cells key)
  running_begins p (events.Lock version) s = cond_both (nat_lt p.seen version) _ _ (λ (x : PartStep). BeginsRightly owner p x) (λ _ _ _ _ i. absurd i) (λ _ _ _ _ i. absurd i)
  running_begins p (events.Update table now) s =
      cond_both (is_locked p.stage && (table.version == p.seen)) _ _ (λ (x : PartStep). BeginsRightly owner p x) (λ _ _ _ _ i. absurd i) (λ _ _ _ _ i. absurd i)
  running_begins p (events.Unlock version) s = unlock_begins p version
  running_begins p (events.Tick now) s = tick_begins p now
  running_begins p (events.TakeClosing now) s = take_begins p (Part.first_to_close owner p now p.cells)
  running_begins p (events.Closed key) s = closed_begins p (cell_at p.cells key)
  running_begins p events.StopPart s = λ k call chain i. absurd (stop_begins_none p.cells k call chain i)

  stopped_begins : (p : PartState) (e : PartEvent) → BeginsRightly owner p (Part.stopped_step owner p e)
  stopped_begins p events.StopPart = λ _ _ _ i. absurd i
  stopped_begins p e = λ _ _ _ i. absurd i

  begins_at : (p : PartState) (stage : Stage) (e : PartEvent) → IsPartSound owner p → BeginsRightly owner p (Part.step_at owner p stage e)
  begins_at p Stopped e s = stopped_begins p e
  begins_at p Locked e s = running_begins p e s
  begins_at p Updated e s = running_begins p e s
  begins_at p Open e s = running_begins p e s

  -- every step of a sound part begins only what may begin
  pub part_begins : (p : PartState) (e : PartEvent) → IsPartSound owner p → BeginsRightly owner p (part_step owner p e)
  part_begins p e s = begins_at p p.stage e s
