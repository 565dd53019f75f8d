-- Each step of a part leaves its cells as its marks say.
use Rattle.std.proofs.Common.{◌≡◌, ℕ, Bool, true, false, not, ◌&&◌, ◌||◌, ◌+◌, List, [], ◌∷◌, ◌++◌, Option, Some, refl, sym, ap, ◌∙◌, subst, inl, inr}
use Rattle.std.specs.Prelude.{nat_lt, ◌==◌}
use Rattle.std.proofs.lemmas.Bool.{eq-eqb, cond_both, cond-true, cond-false, false≢true, cases_Bool}
use Rattle.actor_names.specs.declared.actor_key.ActorKey.{ActorKey}
use Rattle.place_table.specs.declared.host.HostInfo.{HostInfo}
use Rattle.place_table.specs.Hosts.{PlacementTable}
use Rattle.turn_core.specs.declared.cell.Turn.{Turn}
use Rattle.turn_core.specs.Cell.{is_free, without_turns}
use Rattle.turn_core.specs.CellSound.{In}
use Rattle.part_model.specs.declared.stage.Stage.{Stage}
use Rattle.part_model.specs.declared.stage.Stage.TheVariants.{Locked, Updated, Open, Stopped}
use Rattle.part_model.specs.declared.event.PartEvent.{PartEvent}
use Rattle.part_model.specs.declared.event.PartEvent.TheVariants as events
use Rattle.part_model.specs.declared.actor_cell.ActorCell.{ActorCell}
use Rattle.actor_names.specs.Same.{same_key}
use Rattle.part_model.specs.Cells.{cell_at, cell_of_call}
use Rattle.part_model.specs.Marks.{PartMark, marks_of_ends, marks_of_inactive, marks_of_stop}
use Rattle.part_model.specs.Part
use Rattle.part_model.specs.Part.{PartState, PartStep, CellStep, is_locked, is_updated, is_spent, is_own, is_foreign, is_drained, each_cell, part_step}
use Rattle.part_model.specs.Order.{AreInOrder}
use Rattle.part_model.specs.Sound.{IsPartSound}
use Rattle.part_model.specs.Activity.{Activity, no_activity, activity_in, activity_of, is_mark_of, replay, AreTidy, AreAt, AreCalm, Replays}
use Rattle.part_model.proofs.KeyOrders.{same_key-true}
use Rattle.part_model.proofs.CellLaws.{next_cases}
use Rattle.part_model.proofs.PartOrders.{In-each_cell}
use Rattle.part_model.proofs.Replays.{later_key, not_same_key, In-append, AreOf, AreOf-In, AreOf-append, key_of_mark, replay_all, replay-of, replay-append, replay_all-append, tidy_append, at_append}
use Rattle.part_model.proofs.CallReplays.{StepReplays, same_cells_replay, stays_replay, begin_of, begin_replay, begin_tidy, begin_at, begin_calm, ask_replays, poll_replays, end_replays, hold_replays, release_replays, take_replays, closed_replays}

-- ---- the marks of ends

ends_of : (key : ActorKey) (ts : List Turn) → AreOf key (marks_of_ends key ts)
ends_of key [] = tt
ends_of key (t ∷ ts) = (refl, ends_of key ts)

ends_at : (key : ActorKey) (ts : List Turn) (v : ℕ) → AreAt v (marks_of_ends key ts)
ends_at key [] v = tt
ends_at key (t ∷ ts) v = (tt, ends_at key ts v)

ends_tidy : (key : ActorKey) (ts : List Turn) (xs : List PartMark) → AreTidy xs → AreTidy (marks_of_ends key ts ++ xs)
ends_tidy key [] xs t = t
ends_tidy key (u ∷ ts) xs t = (tt, ends_tidy key ts xs t)

ends_only_tidy : (key : ActorKey) (ts : List Turn) → AreTidy (marks_of_ends key ts)
ends_only_tidy key [] = tt
ends_only_tidy key (u ∷ ts) = (tt, ends_only_tidy key ts)

ends_replay : (key : ActorKey) (ts : List Turn) (a : Bool) → replay_all (marks_of_ends key ts) (record { active = a; turns = ts }) ≡ record { active = a; turns = [] }
ends_replay key [] a = refl
ends_replay key (t ∷ ts) a =
    ap (λ (us : List Turn). replay_all (marks_of_ends key ts) (record { active = a; turns = us })) (cond-true (t.call == t.call) _ _ (eq-eqb t.call t.call refl)) ∙ ends_replay key ts a

inactive_of : (a : Bool) (key : ActorKey) → AreOf key (marks_of_inactive a key)
inactive_of true key = (refl, tt)
inactive_of false key = tt

inactive_at : (a : Bool) (key : ActorKey) (v : ℕ) → AreAt v (marks_of_inactive a key)
inactive_at true key v = (tt, tt)
inactive_at false key v = tt

inactive_tidy : (a : Bool) (key : ActorKey) → AreTidy (marks_of_inactive a key)
inactive_tidy true key = (tt, tt)
inactive_tidy false key = tt

inactive_replay : (a : Bool) (key : ActorKey) → replay_all (marks_of_inactive a key) (record { active = a; turns = [] }) ≡ no_activity
inactive_replay true key = refl
inactive_replay false key = refl

-- ---- every cell at once

-- the marks of a cell's step say what it became
pub record TellsWell (v : ℕ) (c : ActorCell) (s : CellStep) : Type 0 where
  pub key : s.cell.key ≡ c.key
  pub depth : s.cell.inner.depth ≡ c.inner.depth
  pub of : AreOf c.key s.marks
  pub replayed : replay_all s.marks (activity_in c) ≡ activity_in s.cell
  pub tidy : AreTidy s.marks
  pub at : AreAt v s.marks

unmarked_cell : (v : ℕ) (c : ActorCell) (s : CellStep) → s.cell.key ≡ c.key → s.cell.inner.depth ≡ c.inner.depth → activity_in c ≡ activity_in s.cell → s.marks ≡ [] → TellsWell v c s
unmarked_cell v c s key depth same none =
    record {
      key = key;
      depth = depth;
      of = subst (λ (ms : List PartMark). AreOf c.key ms) (sym none) tt;
      replayed = ap (λ (ms : List PartMark). replay_all ms (activity_in c)) none ∙ same;
      tidy = subst (λ (ms : List PartMark). AreTidy ms) (sym none) tt;
      at = subst (λ (ms : List PartMark). AreAt v ms) (sym none) tt;
    }

each_away : (v : ℕ) (f : ActorCell → CellStep) (cs : List ActorCell) (k : ActorKey) (h : Activity) → ((c : ActorCell) → TellsWell v c (f c)) → ((c : ActorCell) → In c cs → c.key ≡ k → ⊥)
    → replay (each_cell f cs).marks k h ≡ h
each_away v f [] k h well away = refl
each_away v f (c ∷ cs) k h well away =
    replay-append (f c).marks (each_cell f cs).marks k h
    ∙ ap (λ (z : Activity). replay (each_cell f cs).marks k z) (replay-of (f c).marks k c.key h (well c).of ∙ cond-false _ _ _ (not_same_key k c.key (λ e. away c (inl refl) (sym e))))
    ∙ each_away v f cs k h well (λ x i. away x (inr i))

each_replay : (v : ℕ) (f : ActorCell → CellStep) (cs : List ActorCell) (k : ActorKey) → ((c : ActorCell) → TellsWell v c (f c)) → AreInOrder cs
    → activity_of (cell_at (each_cell f cs).cells k) ≡ replay (each_cell f cs).marks k (activity_of (cell_at cs k))
each_replay v f [] k well o = refl
each_replay v f (c ∷ cs) k well o =
    let w = well c in
    let rest = each_replay v f cs k well o.1 in
    elim (cases_Bool (same_key k c.key)) [
      | inl t ↦ (
          let here : cell_at (c ∷ cs) k ≡ Some c = cond-true _ _ _ t in
          ap (λ (z : Option ActorCell). activity_of z) (cond-true (same_key k (f c).cell.key) _ _ (subst (λ (z : ActorKey). same_key k z ≡ true) (sym w.key) t))
          ∙ sym w.replayed
          ∙ sym (cond-true (same_key k c.key) _ _ t)
          ∙ sym (replay-of (f c).marks k c.key (activity_in c) w.of)
          ∙ sym (each_away v f cs k (replay (f c).marks k (activity_in c)) well (λ x i e. later_key c.key x.key (o.0 x i) (e ∙ same_key-true k c.key t)))
          ∙ sym (replay-append (f c).marks (each_cell f cs).marks k (activity_in c))
          ∙ ap (λ (z : Option ActorCell). replay ((f c).marks ++ (each_cell f cs).marks) k (activity_of z)) (sym here))
      | inr n ↦ (
          let there : cell_at (c ∷ cs) k ≡ cell_at cs k = cond-false _ _ _ n in
          ap (λ (z : Option ActorCell). activity_of z) (cond-false (same_key k (f c).cell.key) _ _ (subst (λ (z : ActorKey). same_key k z ≡ false) (sym w.key) n))
          ∙ rest
          ∙ ap (λ (z : Activity). replay (each_cell f cs).marks k z) (sym (cond-false (same_key k c.key) _ _ n) ∙ sym (replay-of (f c).marks k c.key (activity_of (cell_at cs k)) w.of))
          ∙ sym (replay-append (f c).marks (each_cell f cs).marks k (activity_of (cell_at cs k)))
          ∙ ap (λ (z : Option ActorCell). replay ((f c).marks ++ (each_cell f cs).marks) k (activity_of z)) (sym there))
    ]

each_marked : (v : ℕ) (f : ActorCell → CellStep) (cs : List ActorCell) (x : PartMark) (k : ActorKey) → ((c : ActorCell) → TellsWell v c (f c)) → In x (each_cell f cs).marks → is_mark_of x k ≡ true
    → (c : ActorCell) × In c cs × (c.key ≡ k)
each_marked v f [] x k well i t = absurd i
each_marked v f (c ∷ cs) x k well i t =
    let rest = each_marked v f cs x k well in
    elim (In-append (f c).marks (each_cell f cs).marks x i) [
      | inl j ↦ (c, inl refl, key_of_mark x c.key k (AreOf-In (f c).marks c.key x (well c).of j) t)
      | inr j ↦ (let m = rest j t in (m.0, inr m.1, m.2))
    ]

each_tidy : (v : ℕ) (f : ActorCell → CellStep) (cs : List ActorCell) → ((c : ActorCell) → TellsWell v c (f c)) → AreInOrder cs → AreTidy (each_cell f cs).marks
each_tidy v f [] well o = tt
each_tidy v f (c ∷ cs) well o =
    tidy_append c.key (f c).marks (each_cell f cs).marks (well c).of
    (λ y i e. let m = each_marked v f cs y c.key well i e in later_key c.key m.0.key (o.0 m.0 m.1) m.2)
    (well c).tidy (each_tidy v f cs well o.1)

each_at : (v : ℕ) (f : ActorCell → CellStep) (cs : List ActorCell) → ((c : ActorCell) → TellsWell v c (f c)) → AreAt v (each_cell f cs).marks
each_at v f [] well = tt
each_at v f (c ∷ cs) well = at_append v (f c).marks (each_cell f cs).marks (well c).at (each_at v f cs well)

each_calm : (f : ActorCell → CellStep) (cs : List ActorCell) → ((c : ActorCell) → AreCalm (f c).marks) → AreCalm (each_cell f cs).marks
each_calm f [] calm y k i e = i
each_calm f (c ∷ cs) calm y k i e =
    let more = each_calm f cs calm y k in
    elim (In-append (f c).marks (each_cell f cs).marks y i) [ inl j ↦ calm c y k j e | inr j ↦ more j e ]

pub each_step_replays : (v : ℕ) (e : PartEvent) (p q : PartState) (f : ActorCell → CellStep) → ((c : ActorCell) → TellsWell v c (f c)) → AreInOrder p.cells → q.cells ≡ (each_cell f p.cells).cells → q.opened ≡ v → p.opened ≡ v
    → Replays e p q (each_cell f p.cells).marks
each_step_replays v e p q f well o same now was =
    record {
      activity = λ k. ap (λ (cs : List ActorCell). activity_of (cell_at cs k)) same ∙ each_replay v f p.cells k well o;
      cells = λ c i.
          let m = In-each_cell f p.cells c (subst (λ (cs : List ActorCell). In c cs) same i) in
          inl (m.0, m.1, sym (ap (λ (z : ActorCell). z.key) m.2 ∙ (well m.0).key), sym (ap (λ (z : ActorCell). z.inner.depth) m.2 ∙ (well m.0).depth));
      marked = λ x k i t. inl (each_marked v f p.cells x k well i t);
      tidy = each_tidy v f p.cells well o;
      at = inl (subst (λ (n : ℕ). AreAt n (each_cell f p.cells).marks) (sym now) (each_at v f p.cells well), now ∙ sym was);
    }

-- ---- the end of a part, as a step of each cell

abbrev stop_cell : ActorCell → CellStep
stop_cell c =
    record { cell = record c { inner = without_turns c.inner; active = false }; marks = marks_of_ends c.key c.inner.turns ++ marks_of_inactive c.active c.key; first = 0; second = 0 }

stops_well : (v : ℕ) (c : ActorCell) → TellsWell v c (stop_cell c)
stops_well v c =
    record {
      key = refl;
      depth = refl;
      of = AreOf-append c.key (marks_of_ends c.key c.inner.turns) _ (ends_of c.key c.inner.turns) (inactive_of c.active c.key);
      replayed = replay_all-append (marks_of_ends c.key c.inner.turns) (marks_of_inactive c.active c.key) (activity_in c)
          ∙ ap (λ (a : Activity). replay_all (marks_of_inactive c.active c.key) a) (ends_replay c.key c.inner.turns c.active) ∙ inactive_replay c.active c.key;
      tidy = ends_tidy c.key c.inner.turns _ (inactive_tidy c.active c.key);
      at = at_append v (marks_of_ends c.key c.inner.turns) _ (ends_at c.key c.inner.turns v) (inactive_at c.active c.key v);
    }

stop_marks : (cs : List ActorCell) → marks_of_stop cs ≡ (each_cell stop_cell cs).marks
stop_marks [] = refl
stop_marks (c ∷ cs) = ap (λ (xs : List PartMark). (marks_of_ends c.key c.inner.turns ++ marks_of_inactive c.active c.key) ++ xs) (stop_marks cs)

all_stopped : (cs : List ActorCell) (k : ActorKey) → activity_of (cell_at (each_cell stop_cell cs).cells k) ≡ no_activity
all_stopped [] k = refl
all_stopped (c ∷ cs) k =
    let more = all_stopped cs k in
    cond_both (same_key k c.key) _ _ (λ (o : Option ActorCell). activity_of o ≡ no_activity) (λ _. refl) (λ _. more)

module _ (owner : PlacementTable → ActorKey → Option HostInfo) where
  -- ---- tables

  opens_calm : (p : PartState) (c : ActorCell) → AreCalm (Part.open_cell owner p c).marks
  opens_calm p c =
      cond_both (is_own owner p c.key) _ _ (λ (s : CellStep). AreCalm s.marks)
      (λ _. next_cases (not c.closing) c.inner (λ n. AreCalm (Part.begin_in owner p c n).marks) (λ _ y k i e. i) (λ m z w n. begin_calm c.active c.key p.opened w.call w.chain))
      (λ _ y k i e. i)

  same_active : (b : Bool) → b ≡ (b || false)
  same_active true = refl
  same_active false = refl

  now_active : (b : Bool) → true ≡ (b || true)
  now_active true = refl
  now_active false = refl

  opens_well : (p : PartState) (c : ActorCell) → TellsWell p.opened c (Part.open_cell owner p c)
  opens_well p c =
      cond_both (is_own owner p c.key) _ _ (λ (s : CellStep). TellsWell p.opened c s)
      (λ _. next_cases (not c.closing) c.inner (λ n. TellsWell p.opened c (Part.begin_in owner p c n))
      (λ _. unmarked_cell p.opened c _ refl refl (λ i. record { active = same_active c.active i; turns = c.inner.turns }) refl)
      (λ m z w n.
      record {
        key = refl;
        depth = refl;
        of = begin_of c.active c.key p.opened w.call w.chain;
        replayed = begin_replay c.active c.key p.opened w.call w.chain c.inner.turns ∙ (λ i. record { active = now_active c.active i; turns = c.inner.turns ++ record { call = w.call; chain = w.chain } ∷ [] });
        tidy = begin_tidy c.active c.key p.opened w.call w.chain;
        at = begin_at c.active c.key p.opened w.call w.chain;
      }))
      (λ _. unmarked_cell p.opened c _ refl refl refl refl)

  unlock_replays : (e : PartEvent) (p : PartState) (version : ℕ) → AreInOrder p.cells → StepReplays owner e p (Part.unlock_part owner p version)
  unlock_replays e p version o =
      cond_both (is_updated p.stage && (version == p.seen)) _ _ (λ (s : PartStep). StepReplays owner e p s)
      (λ _. cond_both (is_drained owner p) _ _ (λ (s : PartStep). StepReplays owner e p s)
      (λ _.
      let q : PartState = Part.as_open owner p in
      let f : ActorCell → CellStep = Part.open_cell owner (Part.as_open owner p) in
      let r = each_step_replays p.seen e q (Part.open_part owner p).part f (opens_well q) o refl refl refl in
      record {
        activity = r.activity;
        cells = r.cells;
        marked = λ x k i t. elim i [ inl z ↦ absurd (false≢true (subst (λ (y : PartMark). is_mark_of y k ≡ true) z t)) | inr j ↦ r.marked x k j t ];
        tidy = (tt, r.tidy);
        at = inr ((each_cell f p.cells).marks, refl, each_at p.seen f p.cells (opens_well q), each_calm f p.cells (opens_calm q));
      })
      (λ _. stays_replay e p))
      (λ _. stays_replay e p)

  -- ---- time, and the end

  ticks_well : (p : PartState) (now : ℕ) (c : ActorCell) → TellsWell p.opened c (Part.tick_cell owner p now c)
  ticks_well p now c =
      cond_both (not (is_free c.inner) && (is_foreign owner p c.key && Part.is_overdue owner p now c)) _ _ (λ (s : CellStep). TellsWell p.opened c s)
      (λ _.
      record {
        key = refl;
        depth = refl;
        of = ends_of c.key c.inner.turns;
        replayed = ends_replay c.key c.inner.turns c.active;
        tidy = ends_only_tidy c.key c.inner.turns;
        at = ends_at c.key c.inner.turns p.opened;
      })
      (λ _. unmarked_cell p.opened c _ refl refl refl refl)

  tick_replays : (e : PartEvent) (p : PartState) (now : ℕ) → AreInOrder p.cells → StepReplays owner e p (Part.tick_part owner p now)
  tick_replays e p now o =
      cond_both (is_updated p.stage) _ _ (λ (s : PartStep). StepReplays owner e p s)
      (λ _. each_step_replays p.opened e p (Part.ticked_with owner p (each_cell (Part.tick_cell owner p now) p.cells)).part (Part.tick_cell owner p now) (ticks_well p now) o refl refl refl)
      (λ _. stays_replay e p)

  stop_replays : (e : PartEvent) (p : PartState) → AreInOrder p.cells → StepReplays owner e p (Part.stop_part owner p)
  stop_replays e p o =
      let marks = sym (stop_marks p.cells) in
      record {
        activity = λ k. sym (all_stopped p.cells k) ∙ each_replay p.opened stop_cell p.cells k (stops_well p.opened) o ∙ ap (λ (xs : List PartMark). replay xs k (activity_of (cell_at p.cells k))) marks;
        cells = λ c i. absurd i;
        marked = λ x k i t. inl (each_marked p.opened stop_cell p.cells x k (stops_well p.opened) (subst (λ (xs : List PartMark). In x xs) (stop_marks p.cells) i) t);
        tidy = subst (λ (xs : List PartMark). AreTidy xs) marks (each_tidy p.opened stop_cell p.cells (stops_well p.opened) o);
        at = inl (subst (λ (xs : List PartMark). AreAt p.opened xs) marks (each_at p.opened stop_cell p.cells (stops_well p.opened)), refl);
      }

  -- ---- every event

  running_replays : (p : PartState) (e : PartEvent) → IsPartSound owner p → StepReplays owner e p (Part.running_step owner p e)
  running_replays p (events.Ask key chain now) s = ask_replays owner _ p key chain 0 refl s
  running_replays p (events.AskAt key chain least now) s = ask_replays owner _ p key chain least refl s
  running_replays p events.Draw s =
      cond_both (is_spent p) _ _ (λ (x : PartStep). StepReplays owner events.Draw p x) (λ _. stays_replay _ p) (λ _. same_cells_replay _ p (record p { drawn = p.drawn + 1 }) refl refl)
  running_replays p (events.Poll call) s = poll_replays owner _ p call (cell_of_call p.cells call) refl s
  running_replays p (events.End call now) s = end_replays owner _ p call now (cell_of_call p.cells call) refl s
  running_replays p (events.Hold key) s = hold_replays owner _ p key (cell_at p.cells key) refl s
  running_replays p (events.Release key now) s = release_replays owner _ p key now (cell_at p.cells key) refl s
  running_replays p (events.Lock version) s =
      cond_both (nat_lt p.seen version) _ _ (λ (x : PartStep). StepReplays owner (events.Lock version) p x) (λ _. same_cells_replay _ p (record p { stage = Locked; seen = version }) refl refl) (λ _. stays_replay _ p)
  running_replays p (events.Update table now) s =
      cond_both (is_locked p.stage && (table.version == p.seen)) _ _ (λ (x : PartStep). StepReplays owner (events.Update table now) p x)
      (λ _. same_cells_replay _ p (record p { stage = Updated; table = table; since = now }) refl refl)
      (λ _. stays_replay _ p)
  running_replays p (events.Unlock version) s = unlock_replays _ p version s.in_order
  running_replays p (events.Tick now) s = tick_replays _ p now s.in_order
  running_replays p (events.TakeClosing now) s = take_replays owner _ p now (Part.first_to_close owner p now p.cells) refl s
  running_replays p (events.Closed key) s = closed_replays owner _ p key (cell_at p.cells key) refl s
  running_replays p events.StopPart s = stop_replays _ p s.in_order

  stopped_replays : (p : PartState) (e : PartEvent) → StepReplays owner e p (Part.stopped_step owner p e)
  stopped_replays p events.StopPart = stays_replay _ p
  stopped_replays p e = stays_replay _ p

  replays_at : (p : PartState) (stage : Stage) (e : PartEvent) → IsPartSound owner p → StepReplays owner e p (Part.step_at owner p stage e)
  replays_at p Stopped e s = stopped_replays p e
  replays_at p Locked e s = running_replays p e s
  replays_at p Updated e s = running_replays p e s
  replays_at p Open e s = running_replays p e s

  -- the marks of every step of a sound part say what its cells became
  pub part_replays : (p : PartState) (e : PartEvent) → IsPartSound owner p → StepReplays owner e p (part_step owner p e)
  part_replays p e s = replays_at p p.stage e s
