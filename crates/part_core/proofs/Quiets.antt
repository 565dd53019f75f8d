-- Until when no actor may be idle, through each event.
use Rattle.std.proofs.Common.{◌≡◌, ℕ, Bool, true, false, not, ◌&&◌, ◌||◌, ◌+◌, ◌-◌, ◌^◌, ◌≤◌, min, List, [], ◌∷◌, ◌++◌, Option, None, Some, refl, sym, ap, ◌∙◌, subst, inl, inr, arith}
use Rattle.std.specs.Prelude.{nat_lt, ◌==◌, max, bytes_eq}
use Rattle.std.proofs.lemmas.Bool.{and_parts, cond_both, eqb-true, eqb-false, false≢true}
use Rattle.actor_names.specs.declared.actor_key.ActorKey.{ActorKey}
use Rattle.actor_names.specs.Same.{same_member}
use Rattle.place_table.specs.declared.host.HostInfo.{HostInfo}
use Rattle.place_table.specs.Hosts.{PlacementTable}
use Rattle.turn_core.specs.declared.cell.Turn.{Turn}
use Rattle.turn_core.specs.declared.cell.Waiter.{Waiter}
use Rattle.turn_core.specs.Cell.{AskStep, EndStep, PollStep, is_free, is_open_chain, kept_chain, has_turn, waiter_of, without_waiter, without_call, begun_next, next_call, admit_call, poll_waiter, not_open, with_turn, with_waiter, with_hold, without_hold}
use Rattle.turn_core.specs.CellSound.{In}
use Rattle.turn_core.proofs.CellSteps.{free_turns}
use Rattle.part_model.specs.declared.settings.TypeSettings.{TypeSettings}
use Rattle.part_model.specs.declared.stage.Stage.{Stage}
use Rattle.part_model.specs.declared.stage.Stage.TheVariants.{Locked, Updated, Open, Stopped}
use Rattle.part_model.specs.declared.event.PartEvent.{PartEvent}
use Rattle.part_model.specs.declared.event.PartEvent.TheVariants as events
use Rattle.part_model.specs.declared.actor_cell.ActorCell.{ActorCell}
use Rattle.part_model.specs.Cells.{cell_at, cell_of_call, keep_cell}
use Rattle.part_model.proofs.Elements.{In-cell_at, In-keep_cell}
use Rattle.part_model.specs.Settings.{default_settings, settings_or, settings_of}
use Rattle.part_model.specs.Part
use Rattle.part_model.specs.Part.{PartState, PartStep, CellStep, asked_step, ask_cell, ask_owned, found_or_first, is_spent, is_open, is_updated, is_locked, is_own, is_drained, may_begin, each_cell}
use Rattle.part_core.specs.Quiet.{is_resting, idle_from, idle_moment, IsQuietUntil, least_or, least_idle, lowered}
use Rattle.part_model.proofs.CellLaws.{In-cell_of_call, not_nil_after, admit_cases}
use Rattle.part_model.proofs.PartOrders.{In-each_cell}

-- ---- idle times

least_settings : (n : ℕ) (found : TypeSettings) (ts : List TypeSettings) (kind : List ℕ) → n ≤ found.idle_ms → least_or n ts ≤ (settings_or found ts kind).idle_ms
least_settings n found [] kind l = l
least_settings n found (t ∷ ts) kind l =
    cond_both (bytes_eq t.kind kind) t found (λ (z : TypeSettings). least_or (min n t.idle_ms) ts ≤ (settings_or z ts kind).idle_ms)
    (λ _. least_settings (min n t.idle_ms) t ts kind (omega arith)) (λ _. least_settings (min n t.idle_ms) found ts kind (omega arith))

least_of_kinds : (ts : List TypeSettings) (kind : List ℕ) → least_idle ts ≤ (settings_of ts kind).idle_ms
least_of_kinds ts kind = least_settings 3600000 (default_settings kind) ts kind (omega arith)

later : (l i n m : ℕ) → l ≤ i → n ≤ m → idle_from l n ≤ idle_from i m
later l i n m a b =
    cond_both (l == 0) 0 (min (n + l) (2 ^ 64 - 1)) (λ (z : ℕ). z ≤ idle_from i m) (λ _. omega arith)
    (λ f. cond_both (i == 0) 0 (min (m + i) (2 ^ 64 - 1)) (λ (z : ℕ). min (n + l) (2 ^ 64 - 1) ≤ z)
    (λ e. let none = eqb-true i 0 e in let some = eqb-false l 0 f in absurd (some (omega arith)))
    (λ _. omega arith))

or_false : (a : Bool) → (a || false) ≡ a
or_false true = refl
or_false false = refl

-- ---- what a resting actor is

module _ (x : ActorCell) (t : is_resting x ≡ true) where
  awake : (x.active && not x.closing) ≡ true
  awake = (and_parts (x.active && not x.closing) (is_free x.inner && (x.inner.holds == 0)) t).0

  free : is_free x.inner ≡ true
  free = (and_parts (is_free x.inner) (x.inner.holds == 0) (and_parts (x.active && not x.closing) (is_free x.inner && (x.inner.holds == 0)) t).1).0

  unheld : (x.inner.holds == 0) ≡ true
  unheld = (and_parts (is_free x.inner) (x.inner.holds == 0) (and_parts (x.active && not x.closing) (is_free x.inner && (x.inner.holds == 0)) t).1).1

  -- it has no turn that has just begun
  no_turn : (ts : List Turn) (u : Turn) → x.inner.turns ≡ ts ++ u ∷ [] → ⊥
  no_turn ts u e = not_nil_after ts u (sym e ∙ free_turns x.inner free)

-- ---- each event, with a moment r that is no later

module _ (owner : PlacementTable → ActorKey → Option HostInfo) (p : PartState) (q r : ℕ) (quiet : IsQuietUntil p q) (less : r ≤ q) where
  abbrev pub StaysQuiet : PartStep → Type 0
  StaysQuiet x = IsQuietUntil x.part r

  same : (c : ActorCell) → In c p.cells → is_resting c ≡ true → r ≤ idle_moment p.kinds c
  same c i t = let l = quiet c i t in omega arith

  written : (x : ActorCell) → (is_resting x ≡ true → r ≤ idle_moment p.kinds x) → (d : ActorCell) → In d (keep_cell p.cells x) → is_resting d ≡ true → r ≤ idle_moment p.kinds d
  written x h d i t = elim (In-keep_cell p.cells x d i) [
    | inl e ↦ subst (λ (z : ActorCell). r ≤ idle_moment p.kinds z) (sym e.0) (h (subst (λ (z : ActorCell). is_resting z ≡ true) e.0 t))
    | inr j ↦ same d j.0 t
  ]

  polls_quiet : (call : ℕ) (found : Option ActorCell) → cell_of_call p.cells call ≡ found → StaysQuiet (Part.poll_cell owner p call found)
  polls_quiet call None f = same
  polls_quiet call (Some c) f =
      cond_both (has_turn call c.inner.turns) _ _ (λ (a : PollStep). StaysQuiet (Part.polled_step owner p c call a.cell a.answer)) (λ _. same) (λ _. go (waiter_of call c.inner.queue))
    where
      go : (w : Option Waiter) → StaysQuiet (Part.polled_step owner p c call (poll_waiter c.inner call w).cell (poll_waiter c.inner call w).answer)
      go None = same
      go (Some w) =
          cond_both w.moved _ _ (λ (a : PollStep). StaysQuiet (Part.polled_step owner p c call a.cell a.answer))
          (λ _. written (record c { inner = record (c.inner) { queue = without_waiter call c.inner.queue } }) (same c (In-cell_of_call p.cells call c f)))
          (λ _. same)

  holds_quiet : (key : ActorKey) (found : Option ActorCell) → cell_at p.cells key ≡ found → StaysQuiet (Part.hold_cell owner p found)
  holds_quiet key None f = same
  holds_quiet key (Some c) f =
      cond_both (c.active && not c.closing) _ _ StaysQuiet
      (λ _. cond_both (is_spent p) _ _ StaysQuiet (λ _. same)
      (λ _. let x : ActorCell = record c { inner = with_hold c.inner } in written x (λ t. let z = eqb-true (c.inner.holds + 1) 0 (unheld x t) in absurd (omega arith))))
      (λ _. same)

  takes_quiet : (found : Option ActorCell) → StaysQuiet (Part.close_cell owner p found)
  takes_quiet None = same
  takes_quiet (Some c) = let x : ActorCell = record c { closing = true } in written x (λ t. absurd (false≢true (and_parts c.active false (awake x t)).1))

  closes_quiet : (found : Option ActorCell) → StaysQuiet (Part.closed_cell owner p found)
  closes_quiet None = same
  closes_quiet (Some c) =
      cond_both c.closing _ _ StaysQuiet (λ _. go (next_call (is_open p.stage && is_own owner p c.key) c.inner)) (λ _. same)
    where
      go : (next : Option Waiter) → StaysQuiet (Part.closed_with owner p c next)
      go None = let x : ActorCell = record c { active = false; closing = false } in written x (λ t. absurd (false≢true t))
      go (Some w) = let x : ActorCell = record c { inner = begun_next c.inner (Some w); active = true; closing = false } in written x (λ t. absurd (no_turn x t c.inner.turns _ refl))

  -- ---- a call is asked

  asked_quiet : (key : ActorKey) (found : Option ActorCell) (chain : Option (List ℕ)) (may : Bool) → cell_at p.cells key ≡ found
      → StaysQuiet (asked_step p (found_or_first p key found) chain (admit_call (found_or_first p key found).inner (p.drawn + 1) chain may).cell (admit_call (found_or_first p key found).inner (p.drawn + 1) chain may).answer)
  asked_quiet key found chain may e =
      let c = found_or_first p key found in
      let begun : ActorCell = record c { inner = with_turn c.inner (p.drawn + 1) (kept_chain c.inner chain); active = true } in
      admit_cases c.inner (p.drawn + 1) chain may (λ (a : AskStep). StaysQuiet (asked_step p c chain a.cell a.answer))
      (λ _ _. written begun (λ t. absurd (no_turn begun t c.inner.turns _ refl)))
      same
      (λ _ _. written begun (λ t. absurd (no_turn begun t c.inner.turns _ refl)))
      (λ _ _. waits found e)
      same
    where
      waits : (found : Option ActorCell) → cell_at p.cells key ≡ found
          → (d : ActorCell) → In d (keep_cell p.cells (record (found_or_first p key found) { inner = with_waiter (found_or_first p key found).inner (p.drawn + 1) (kept_chain (found_or_first p key found).inner chain) })) → is_resting d ≡ true → r ≤ idle_moment p.kinds d
      waits None f =
          let c = found_or_first p key None in
          written (record c { inner = with_waiter c.inner (p.drawn + 1) (kept_chain c.inner chain) }) (λ t. absurd (false≢true t))
      waits (Some c) f = written (record c { inner = with_waiter c.inner (p.drawn + 1) (kept_chain c.inner chain) }) (same c (In-cell_at p.cells key c f))

  cell_quiet : (key : ActorKey) (found : Option ActorCell) (full : Bool) (chain : Option (List ℕ)) (may : Bool) → cell_at p.cells key ≡ found → StaysQuiet (ask_cell full p (found_or_first p key found) chain may)
  cell_quiet key found full chain may e = cond_both full _ _ StaysQuiet (λ _. same) (λ _. asked_quiet key found chain may e)

  owned_quiet : (key : ActorKey) (found : Option ActorCell) (full : Bool) (chain : Option (List ℕ)) (host : Option HostInfo) → cell_at p.cells key ≡ found → StaysQuiet (ask_owned full p (found_or_first p key found) chain host)
  owned_quiet key found full chain None e = same
  owned_quiet key found full chain (Some host) e = cond_both (same_member host.member p.member) _ _ StaysQuiet (λ _. cell_quiet key found full chain _ e) (λ _. same)

  asks_quiet : (key : ActorKey) (chain : Option (List ℕ)) (least : ℕ) → StaysQuiet (Part.ask_part owner p key chain least)
  asks_quiet key chain least =
      let found = cell_at p.cells key in
      cond_both (is_spent p) _ _ StaysQuiet (λ _. same)
      (λ _. cond_both (nat_lt p.seen least) _ _ StaysQuiet (λ _. same)
      (λ _. cond_both (is_open_chain (found_or_first p key found).inner _) _ _ StaysQuiet (λ _. cell_quiet key found _ _ false refl)
      (λ _. cond_both (is_open p.stage) _ _ StaysQuiet (λ _. owned_quiet key found _ _ _ refl) (λ _. cell_quiet key found _ _ false refl))))

  -- ---- an opening

  open_quiet : (c : ActorCell) → In c p.cells → is_resting (Part.open_cell owner (Part.as_open owner p) c).cell ≡ true → r ≤ idle_moment p.kinds (Part.open_cell owner (Part.as_open owner p) c).cell
  open_quiet c i =
      cond_both (is_own owner (Part.as_open owner p) c.key) _ _ (λ (s : CellStep). is_resting s.cell ≡ true → r ≤ idle_moment p.kinds s.cell)
      (λ _. go (next_call (not c.closing) c.inner)) (λ _ t. same c i t)
    where
      go : (next : Option Waiter) → is_resting (Part.begin_in owner (Part.as_open owner p) c next).cell ≡ true → r ≤ idle_moment p.kinds (Part.begin_in owner (Part.as_open owner p) c next).cell
      go None t = same c i (ap (λ (a : Bool). (a && not c.closing) && (is_free c.inner && (c.inner.holds == 0))) (sym (or_false c.active)) ∙ t)
      go (Some w) t = absurd (no_turn (Part.begin_in owner (Part.as_open owner p) c (Some w)).cell t c.inner.turns _ refl)

  each_quiet : (f : ActorCell → CellStep) → ((c : ActorCell) → In c p.cells → is_resting (f c).cell ≡ true → r ≤ idle_moment p.kinds (f c).cell) → (d : ActorCell) → In d (each_cell f p.cells).cells → is_resting d ≡ true → r ≤ idle_moment p.kinds d
  each_quiet f h d i t =
      let m = In-each_cell f p.cells d i in
      subst (λ (z : ActorCell). r ≤ idle_moment p.kinds z) (sym m.2) (h m.0 m.1 (subst (λ (z : ActorCell). is_resting z ≡ true) m.2 t))

  unlocks_quiet : (version : ℕ) → StaysQuiet (Part.unlock_part owner p version)
  unlocks_quiet version =
      cond_both (is_updated p.stage && (version == p.seen)) _ _ StaysQuiet
      (λ _. cond_both (is_drained owner p) _ _ StaysQuiet (λ _. each_quiet (Part.open_cell owner (Part.as_open owner p)) open_quiet) (λ _. same))
      (λ _. same)

  -- ---- turns and holds that end at a moment

  module _ (now : ℕ) (low : r ≤ idle_from (least_idle p.kinds) now) where
    late : (x : ActorCell) → now ≤ x.last → r ≤ idle_moment p.kinds x
    late x l = let m = later (least_idle p.kinds) (settings_of p.kinds x.key.kind).idle_ms now x.last (least_of_kinds p.kinds x.key.kind) l in omega arith

    ends_quiet : (call : ℕ) (found : Option ActorCell) → StaysQuiet (Part.end_cell owner p call now found)
    ends_quiet call None = same
    ends_quiet call (Some c) =
        cond_both (has_turn call c.inner.turns) _ _ (λ (a : EndStep). StaysQuiet (Part.ended_step owner p c call now a.cell a.answer))
        (λ _. let x : ActorCell = record c { inner = begun_next (without_call c.inner call) (next_call (may_begin owner p c) (without_call c.inner call)); last = max c.last now } in written x (λ _. late x (omega arith)))
        (λ _. go (waiter_of call c.inner.queue))
      where
        go : (w : Option Waiter) → StaysQuiet (Part.ended_step owner p c call now c.inner (not_open w))
        go None = same
        go (Some w) = same

    releases_quiet : (found : Option ActorCell) → StaysQuiet (Part.release_cell owner p now found)
    releases_quiet None = same
    releases_quiet (Some c) =
        cond_both (c.inner.holds == 0) _ _ StaysQuiet (λ _. same)
        (λ _. let x : ActorCell = record c { inner = without_hold c.inner; last = max c.last now } in written x (λ _. late x (omega arith)))

    ticks_quiet : StaysQuiet (Part.tick_part owner p now)
    ticks_quiet =
        cond_both (is_updated p.stage) _ _ StaysQuiet
        (λ _. each_quiet (Part.tick_cell owner p now) (λ c i. cond_both (not (is_free c.inner) && (Part.is_foreign owner p c.key && Part.is_overdue owner p now c)) _ _
        (λ (s : CellStep). is_resting s.cell ≡ true → r ≤ idle_moment p.kinds s.cell) (λ _ _. late (Part.end_turns_in owner c now).cell (omega arith)) (λ _ t. same c i t)))
        (λ _. same)

  -- ---- the step

  runs_quiet : (e : PartEvent) → r ≤ lowered p.kinds e q → StaysQuiet (Part.running_step owner p e)
  runs_quiet (events.Ask key chain now) l = asks_quiet key chain 0
  runs_quiet (events.AskAt key chain least now) l = asks_quiet key chain least
  runs_quiet events.Draw l = cond_both (is_spent p) _ _ StaysQuiet (λ _. same) (λ _. same)
  runs_quiet (events.Poll call) l = polls_quiet call (cell_of_call p.cells call) refl
  runs_quiet (events.End call now) l = ends_quiet now (omega arith) call (cell_of_call p.cells call)
  runs_quiet (events.Hold key) l = holds_quiet key (cell_at p.cells key) refl
  runs_quiet (events.Release key now) l = releases_quiet now (omega arith) (cell_at p.cells key)
  runs_quiet (events.Lock version) l = cond_both (nat_lt p.seen version) _ _ StaysQuiet (λ _. same) (λ _. same)
  runs_quiet (events.Update table now) l = cond_both (is_locked p.stage && (table.version == p.seen)) _ _ StaysQuiet (λ _. same) (λ _. same)
  runs_quiet (events.Unlock version) l = unlocks_quiet version
  runs_quiet (events.Tick now) l = ticks_quiet now (omega arith)
  runs_quiet (events.TakeClosing now) l = takes_quiet (Part.first_to_close owner p now p.cells)
  runs_quiet (events.Closed key) l = closes_quiet (cell_at p.cells key)
  runs_quiet events.StopPart l = λ c i t. absurd i

  stopped_quiet : (e : PartEvent) → StaysQuiet (Part.stopped_step owner p e)
  stopped_quiet events.StopPart = same
  stopped_quiet _ = same

  pub stays_quiet : (e : PartEvent) → r ≤ lowered p.kinds e q → StaysQuiet (Part.part_step owner p e)
  stays_quiet e l = go p.stage
    where
      go : (s : Stage) → StaysQuiet (Part.step_at owner p s e)
      go Stopped = stopped_quiet e
      go Locked = runs_quiet e l
      go Updated = runs_quiet e l
      go Open = runs_quiet e l

-- an event leaves no later moment
pub lowered_less : (kinds : List TypeSettings) (e : PartEvent) (q : ℕ) → lowered kinds e q ≤ q
lowered_less kinds (events.End call now) q = omega arith
lowered_less kinds (events.Release key now) q = omega arith
lowered_less kinds (events.Tick now) q = omega arith
lowered_less kinds _ q = omega arith
