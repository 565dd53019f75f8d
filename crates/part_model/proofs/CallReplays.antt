-- Each call of a part leaves its cells as its marks say.
use Rattle.std.proofs.Common.{◌≡◌, ℕ, Bool, true, false, cond, not, ◌&&◌, ◌+◌, List, [], ◌∷◌, ◌++◌, Option, None, Some, refl, sym, ap, ◌∙◌, subst, inl, inr}
use Rattle.std.specs.Prelude.{nat_lt, ◌==◌, max}
use Rattle.std.proofs.lemmas.Bool.{cond_both, cond-true, cond-false, false≢true, true≢false, cases_Bool}
use Rattle.actor_names.specs.declared.actor_key.ActorKey.{ActorKey}
use Rattle.place_table.specs.declared.host.HostInfo.{HostInfo}
use Rattle.place_table.specs.Hosts.{PlacementTable}
use Rattle.turn_core.specs.declared.cell.Turn.{Turn}
use Rattle.turn_core.specs.declared.cell.Waiter.{Waiter}
use Rattle.turn_core.specs.Cell.{CellState, AskStep, EndStep, PollStep, is_open_chain, kept_chain, has_turn, waiter_of, without_waiter, without_call, begun_next, next_call, poll_waiter, not_open, with_turn, with_waiter, with_hold, without_hold, admit_call}
use Rattle.turn_core.specs.CellSound.{In}
use Rattle.part_model.specs.declared.event.PartEvent.{PartEvent}
use Rattle.part_model.specs.declared.actor_cell.ActorCell.{ActorCell}
use Rattle.actor_names.specs.Same.{same_key}
use Rattle.actor_names.specs.Same.{same_member}
use Rattle.part_model.specs.Settings.{settings_of}
use Rattle.part_model.specs.Cells.{cell_at, cell_of_call}
use Rattle.part_model.specs.Marks.{PartMark, TurnEnded, BecameInactive, marks_of_begin, marks_of_next}
use Rattle.part_model.specs.Part
use Rattle.part_model.specs.Part.{PartState, PartStep, with_cell, asked_step, ask_cell, ask_owned, found_or_first, call_chain, chain_or, is_full, is_spent, is_open, is_own, may_begin}
use Rattle.part_model.specs.Sound.{IsActorSound, IsPartSound}
use Rattle.part_model.specs.Activity.{Activity, activity_in, activity_of, is_inactive_of, AreTidy, AreAt, AreCalm, IsAsked, IsFrom, IsFromCell, Replays}
use Rattle.part_model.proofs.KeyOrders.{same_key-true}
use Rattle.part_model.proofs.Elements.{In-cell_at, In-keep_cell}
use Rattle.part_model.proofs.CellLaws.{In-cell_of_call, In-has_turn, admit_cases, next_cases, first_sound}
use Rattle.part_model.proofs.PartSteps.{In-first_to_close}
use Rattle.part_model.proofs.Replays.{activity-keep, cell_at-In, no_turns, AreOf, AreOf-In, key_of_mark, replay_all, replay-of}

pub from_key : (e : PartEvent) (p : PartState) (x : ActorCell) → IsFromCell e p x → IsFrom e p x.key
from_key e p x (inl h) = inl (h.0, h.1, h.2)
from_key e p x (inr h) = inr h.0

-- ---- nothing is marked

-- the cells are as they were
pub same_cells_replay : (e : PartEvent) (p q : PartState) → q.cells ≡ p.cells → q.opened ≡ p.opened → Replays e p q []
same_cells_replay e p q same opened =
    record {
      activity = λ k. ap (λ (cs : List ActorCell). activity_of (cell_at cs k)) same;
      cells = λ c i. inl (c, subst (λ (cs : List ActorCell). In c cs) same i, refl, refl);
      marked = λ x k i. absurd i;
      tidy = tt;
      at = inl (tt, opened);
    }

pub stays_replay : (e : PartEvent) (p : PartState) → Replays e p p []
stays_replay e p = same_cells_replay e p p refl refl

-- ---- one cell is written

pub one_cell_replays : (e : PartEvent) (p : PartState) (x : ActorCell) (n : ℕ) (marks : List PartMark) (old : Activity)
    → (x.active ≡ false → x.inner.turns ≡ []) → activity_of (cell_at p.cells x.key) ≡ old → AreOf x.key marks → replay_all marks old ≡ activity_in x → IsFromCell e p x → AreTidy marks → AreAt p.opened marks
    → Replays e p (record (with_cell p x) { drawn = n }) marks
one_cell_replays e p x n marks old quiet was of replayed from tidy at =
    record {
      activity = λ k. activity-keep p.cells x k quiet ∙ go k ∙ sym (replay-of marks k x.key (activity_of (cell_at p.cells k)) of);
      cells = λ c i. elim (In-keep_cell p.cells x c i) [ inl s ↦ subst (λ (z : ActorCell). IsFromCell e p z) (sym s.0) from | inr j ↦ inl (c, j.0, refl, refl) ];
      marked = λ m k i t. subst (λ (z : ActorKey). IsFrom e p z) (key_of_mark m x.key k (AreOf-In marks x.key m of i) t) (from_key e p x from);
      tidy = tidy;
      at = inl (at, refl);
    }
  where
    go : (k : ActorKey) → cond (same_key k x.key) (activity_in x) (activity_of (cell_at p.cells k)) ≡ cond (same_key k x.key) (replay_all marks (activity_of (cell_at p.cells k))) (activity_of (cell_at p.cells k))
    go k = elim (cases_Bool (same_key k x.key)) [
      | inl t ↦ (
          let h : activity_of (cell_at p.cells k) ≡ old = ap (λ (z : ActorKey). activity_of (cell_at p.cells z)) (same_key-true k x.key t) ∙ was in
          cond-true _ _ _ t ∙ sym (cond-true _ _ _ t ∙ ap (λ (z : Activity). replay_all marks z) h ∙ replayed))
      | inr f ↦ cond-false _ _ _ f ∙ sym (cond-false _ _ _ f)
    ]

-- ---- the marks of a begin

pub begin_of : (a : Bool) (key : ActorKey) (v call : ℕ) (chain : Option (List ℕ)) → AreOf key (marks_of_begin a key v call chain)
begin_of true key v call chain = (refl, tt)
begin_of false key v call chain = (refl, (refl, tt))

pub begin_replay : (a : Bool) (key : ActorKey) (v call : ℕ) (chain : Option (List ℕ)) (ts : List Turn)
    → replay_all (marks_of_begin a key v call chain) (record { active = a; turns = ts }) ≡ record { active = true; turns = ts ++ record { call = call; chain = chain } ∷ [] }
begin_replay true key v call chain ts = refl
begin_replay false key v call chain ts = refl

pub begin_tidy : (a : Bool) (key : ActorKey) (v call : ℕ) (chain : Option (List ℕ)) → AreTidy (marks_of_begin a key v call chain)
begin_tidy true key v call chain = (λ y i. absurd i, tt)
begin_tidy false key v call chain =
    (λ y i e. elim i [ inl s ↦ absurd (false≢true (subst (λ (z : PartMark). is_inactive_of z key ≡ true) s e)) | inr j ↦ j ], (λ y i. absurd i, tt))

pub begin_at : (a : Bool) (key : ActorKey) (v call : ℕ) (chain : Option (List ℕ)) → AreAt v (marks_of_begin a key v call chain)
begin_at true key v call chain = (tt, tt)
begin_at false key v call chain = (refl, (tt, tt))

pub begin_calm : (a : Bool) (key : ActorKey) (v call : ℕ) (chain : Option (List ℕ)) → AreCalm (marks_of_begin a key v call chain)
begin_calm true key v call chain y k i e = elim i [ inl s ↦ false≢true (subst (λ (z : PartMark). is_inactive_of z k ≡ true) s e) | inr j ↦ j ]
begin_calm false key v call chain y k i e = elim i [
  | inl s ↦ false≢true (subst (λ (z : PartMark). is_inactive_of z k ≡ true) s e)
  | inr j ↦ elim j [ inl s ↦ false≢true (subst (λ (z : PartMark). is_inactive_of z k ≡ true) s e) | inr l ↦ l ]
]

-- the chain that a part gives a call is the one that the cell keeps
pub call_chain-kept : (p : PartState) (c : CellState) (chain : Option (List ℕ)) → kept_chain c (call_chain p c.depth chain) ≡ call_chain p c.depth chain
call_chain-kept p c chain =
    cond_both (c.depth == 0) _ _ (λ (r : Option (List ℕ)). kept_chain c r ≡ r)
    (λ off. cond-true (c.depth == 0) _ _ off)
    (λ on. cond-false (c.depth == 0) _ _ on)

module _ (owner : PlacementTable → ActorKey → Option HostInfo) where
  abbrev pub StepReplays : PartEvent → PartState → PartStep → Type 0
  StepReplays e p s = Replays e p s.part s.marks

  -- what is known of the cell that a call goes to
  pub record IsKnown (e : PartEvent) (p : PartState) (c : ActorCell) : Type 0 where
    pub sound : IsActorSound c
    pub was : activity_of (cell_at p.cells c.key) ≡ activity_in c
    pub from : IsFromCell e p c

  pub known_found : (e : PartEvent) (p : PartState) (c : ActorCell) → IsPartSound owner p → In c p.cells → IsKnown e p c
  known_found e p c s i =
      record { sound = s.each_sound c i; was = ap (λ (o : Option ActorCell). activity_of o) (cell_at-In p.cells c s.in_order i); from = inl (c, i, refl, refl) }

  known_found_or_first : (e : PartEvent) (p : PartState) (key : ActorKey) (found : Option ActorCell) → cell_at p.cells key ≡ found → IsAsked e key → IsPartSound owner p → IsKnown e p (found_or_first p key found)
  known_found_or_first e p key None f asks s = record { sound = first_sound key _; was = ap (λ (o : Option ActorCell). activity_of o) f; from = inr (asks, refl) }
  known_found_or_first e p key (Some c) f asks s = known_found e p c s (In-cell_at p.cells key c f)

  -- a cell changes, but neither its turns nor whether it is active
  pub quiet_replays : (e : PartEvent) (p : PartState) (c x : ActorCell) (n : ℕ) → IsKnown e p c → x.key ≡ c.key → x.active ≡ c.active → x.inner.turns ≡ c.inner.turns → x.inner.depth ≡ c.inner.depth
      → Replays e p (record (with_cell p x) { drawn = n }) []
  quiet_replays e p c x n known key active turns depth =
      one_cell_replays e p x n [] (activity_in c) (λ f. turns ∙ no_turns c known.sound (sym active ∙ f))
      (ap (λ (z : ActorKey). activity_of (cell_at p.cells z)) key ∙ known.was) tt (λ i. record { active = sym active i; turns = sym turns i })
      (elim known.from [
        | inl h ↦ inl (h.0, h.1, h.2 ∙ sym key, h.3 ∙ sym depth)
        | inr h ↦ inr (subst (λ (z : ActorKey). IsAsked e z) (sym key) h.0, ap (λ (z : ActorKey). (settings_of p.kinds z.kind).depth) key ∙ h.1 ∙ sym depth)
      ]) tt tt

  -- ---- asks

  asked_replays : (e : PartEvent) (p : PartState) (c : ActorCell) (chain : Option (List ℕ)) (may : Bool) → IsKnown e p c → kept_chain c.inner chain ≡ chain
      → StepReplays e p (asked_step p c chain (admit_call c.inner (p.drawn + 1) chain may).cell (admit_call c.inner (p.drawn + 1) chain may).answer)
  asked_replays e p c chain may known same =
      let kept = kept_chain c.inner chain in
      let begun = one_cell_replays e p (record c { inner = with_turn c.inner (p.drawn + 1) kept; active = true }) (p.drawn + 1) (marks_of_begin c.active c.key p.opened (p.drawn + 1) chain) (activity_in c)
      (λ f. absurd (true≢false f)) known.was (begin_of c.active c.key p.opened (p.drawn + 1) chain)
      (begin_replay c.active c.key p.opened (p.drawn + 1) chain c.inner.turns ∙ ap (λ (z : Option (List ℕ)). let a : Activity = record { active = true; turns = c.inner.turns ++ record { call = p.drawn + 1; chain = z } ∷ [] } in a) (sym same))
      known.from (begin_tidy c.active c.key p.opened (p.drawn + 1) chain) (begin_at c.active c.key p.opened (p.drawn + 1) chain) in
      admit_cases c.inner (p.drawn + 1) chain may (λ (a : AskStep). StepReplays e p (asked_step p c chain a.cell a.answer))
      (λ o room. begun)
      (stays_replay e p)
      (λ free m. begun)
      (λ o busy. quiet_replays e p c (record c { inner = with_waiter c.inner (p.drawn + 1) kept }) (p.drawn + 1) known refl refl refl refl)
      (stays_replay e p)

  ask_cell_replays : (e : PartEvent) (p : PartState) (c : ActorCell) (chain : Option (List ℕ)) (full may : Bool) → IsKnown e p c → kept_chain c.inner chain ≡ chain → StepReplays e p (ask_cell full p c chain may)
  ask_cell_replays e p c chain full may known same = cond_both full _ _ (λ (s : PartStep). StepReplays e p s) (λ _. stays_replay e p) (λ _. asked_replays e p c chain may known same)

  ask_here_replays : (e : PartEvent) (p : PartState) (c : ActorCell) (chain : Option (List ℕ)) (full : Bool) → IsKnown e p c → kept_chain c.inner chain ≡ chain → StepReplays e p (Part.ask_here owner full p c chain)
  ask_here_replays e p c chain full known same =
      cond_both (is_open_chain c.inner chain) _ _ (λ (s : PartStep). StepReplays e p s)
      (λ _. ask_cell_replays e p c chain full false known same)
      (λ _. cond_both (is_open p.stage) _ _ (λ (s : PartStep). StepReplays e p s) (λ _. go (owner p.table c.key)) (λ _. ask_cell_replays e p c chain full false known same))
    where
      go : (o : Option HostInfo) → StepReplays e p (ask_owned full p c chain o)
      go None = stays_replay e p
      go (Some host) = cond_both (same_member host.member p.member) _ _ (λ (s : PartStep). StepReplays e p s) (λ _. ask_cell_replays e p c chain full (not c.closing) known same) (λ _. stays_replay e p)

  pub ask_replays : (e : PartEvent) (p : PartState) (key : ActorKey) (chain : Option (List ℕ)) (least : ℕ) → IsAsked e key → IsPartSound owner p → StepReplays e p (Part.ask_part owner p key chain least)
  ask_replays e p key chain least asks s =
      cond_both (is_spent p) _ _ (λ (x : PartStep). StepReplays e p x) (λ _. stays_replay e p)
      (λ _. cond_both (nat_lt p.seen least) _ _ (λ (x : PartStep). StepReplays e p x) (λ _. stays_replay e p)
      (λ _. ask_here_replays e p (found_or_first p key (cell_at p.cells key)) _ _ (known_found_or_first e p key (cell_at p.cells key) refl asks s)
      (call_chain-kept p (found_or_first p key (cell_at p.cells key)).inner chain)))

  -- ---- polls and ends

  pub poll_replays : (e : PartEvent) (p : PartState) (call : ℕ) (found : Option ActorCell) → cell_of_call p.cells call ≡ found → IsPartSound owner p → StepReplays e p (Part.poll_cell owner p call found)
  poll_replays e p call None f s = stays_replay e p
  poll_replays e p call (Some c) f s =
      let known = known_found e p c s (In-cell_of_call p.cells call c f) in
      cond_both (has_turn call c.inner.turns) _ _ (λ (a : PollStep). StepReplays e p (Part.polled_step owner p c call a.cell a.answer)) (λ _. stays_replay e p) (λ _. go known (waiter_of call c.inner.queue))
    where
      go : IsKnown e p c → (w : Option Waiter) → StepReplays e p (Part.polled_step owner p c call (poll_waiter c.inner call w).cell (poll_waiter c.inner call w).answer)
      go known None = stays_replay e p
      go known (Some w) =
          cond_both w.moved _ _ (λ (a : PollStep). StepReplays e p (Part.polled_step owner p c call a.cell a.answer))
          (λ _. quiet_replays e p c (record c { inner = record (c.inner) { queue = without_waiter call c.inner.queue } }) p.drawn known refl refl refl refl)
          (λ _. stays_replay e p)

  pub end_replays : (e : PartEvent) (p : PartState) (call now : ℕ) (found : Option ActorCell) → cell_of_call p.cells call ≡ found → IsPartSound owner p → StepReplays e p (Part.end_cell owner p call now found)
  end_replays e p call now None f s = stays_replay e p
  end_replays e p call now (Some c) f s =
      let known = known_found e p c s (In-cell_of_call p.cells call c f) in
      cond_both (has_turn call c.inner.turns) _ _ (λ (a : EndStep). StepReplays e p (Part.ended_step owner p c call now a.cell a.answer))
      (λ t. let h = In-has_turn call c.inner.turns t in ends known (known.sound.open_active h.0 h.1))
      (λ _. go (waiter_of call c.inner.queue))
    where
      go : (w : Option Waiter) → StepReplays e p (Part.ended_step owner p c call now c.inner (not_open w))
      go None = stays_replay e p
      go (Some w) = stays_replay e p

      ends : IsKnown e p c → c.active ≡ true → Replays e p (with_cell p (record c { inner = begun_next (without_call c.inner call) (next_call (may_begin owner p c) (without_call c.inner call)); last = max c.last now }))
          (TurnEnded c.key call ∷ marks_of_next c.active c.key p.opened (next_call (may_begin owner p c) (without_call c.inner call)))
      ends known a =
          let less = without_call c.inner call in
          next_cases (may_begin owner p c) less (λ (n : Option Waiter). Replays e p (with_cell p (record c { inner = begun_next less n; last = max c.last now })) (TurnEnded c.key call ∷ marks_of_next c.active c.key p.opened n))
          (λ why. one_cell_replays e p (record c { inner = less; last = max c.last now }) p.drawn (TurnEnded c.key call ∷ []) (activity_in c) (λ n. absurd (true≢false (sym a ∙ n))) known.was (refl, tt) refl known.from (tt, tt) (tt, tt))
          (λ m z w n. one_cell_replays e p (record c { inner = begun_next less (Some w); last = max c.last now }) p.drawn (TurnEnded c.key call ∷ marks_of_begin c.active c.key p.opened w.call w.chain) (activity_in c)
          (λ n. absurd (true≢false (sym a ∙ n))) known.was (refl, begin_of c.active c.key p.opened w.call w.chain)
          (begin_replay c.active c.key p.opened w.call w.chain less.turns ∙ ap (λ (b : Bool). let h : Activity = record { active = b; turns = less.turns ++ record { call = w.call; chain = w.chain } ∷ [] } in h) (sym a))
          known.from (tt, begin_tidy c.active c.key p.opened w.call w.chain) (tt, begin_at c.active c.key p.opened w.call w.chain))

  -- ---- holds and deactivation

  pub hold_replays : (e : PartEvent) (p : PartState) (key : ActorKey) (found : Option ActorCell) → cell_at p.cells key ≡ found → IsPartSound owner p → StepReplays e p (Part.hold_cell owner p found)
  hold_replays e p key None f s = stays_replay e p
  hold_replays e p key (Some c) f s =
      let known = known_found e p c s (In-cell_at p.cells key c f) in
      cond_both (c.active && not c.closing) _ _ (λ (x : PartStep). StepReplays e p x)
      (λ _. cond_both (is_spent p) _ _ (λ (x : PartStep). StepReplays e p x) (λ _. stays_replay e p)
      (λ _. quiet_replays e p c (record c { inner = with_hold c.inner }) (p.drawn + 1) known refl refl refl refl))
      (λ _. stays_replay e p)

  pub release_replays : (e : PartEvent) (p : PartState) (key : ActorKey) (now : ℕ) (found : Option ActorCell) → cell_at p.cells key ≡ found → IsPartSound owner p → StepReplays e p (Part.release_cell owner p now found)
  release_replays e p key now None f s = stays_replay e p
  release_replays e p key now (Some c) f s =
      let known = known_found e p c s (In-cell_at p.cells key c f) in
      cond_both (c.inner.holds == 0) _ _ (λ (x : PartStep). StepReplays e p x) (λ _. stays_replay e p)
      (λ _. quiet_replays e p c (record c { inner = without_hold c.inner; last = max c.last now }) p.drawn known refl refl refl refl)

  pub take_replays : (e : PartEvent) (p : PartState) (now : ℕ) (found : Option ActorCell) → Part.first_to_close owner p now p.cells ≡ found → IsPartSound owner p → StepReplays e p (Part.close_cell owner p found)
  take_replays e p now None f s = stays_replay e p
  take_replays e p now (Some c) f s =
      let known = known_found e p c s (In-first_to_close owner p now p.cells c f).0 in
      quiet_replays e p c (record c { closing = true }) p.drawn known refl refl refl refl

  pub closed_replays : (e : PartEvent) (p : PartState) (key : ActorKey) (found : Option ActorCell) → cell_at p.cells key ≡ found → IsPartSound owner p → StepReplays e p (Part.closed_cell owner p found)
  closed_replays e p key None f s = stays_replay e p
  closed_replays e p key (Some c) f s =
      let known = known_found e p c s (In-cell_at p.cells key c f) in
      cond_both c.closing _ _ (λ (x : PartStep). StepReplays e p x)
      (λ k.
      next_cases (is_open p.stage && is_own owner p c.key) c.inner (λ (n : Option Waiter). StepReplays e p (Part.closed_with owner p c n))
      (λ why. one_cell_replays e p (record c { active = false; closing = false }) p.drawn (BecameInactive c.key ∷ []) (activity_in c) (λ _. known.sound.closing_free k) known.was (refl, tt) refl known.from (tt, tt) (tt, tt))
      (λ m z w n. one_cell_replays e p (record c { inner = begun_next c.inner (Some w); active = true; closing = false }) p.drawn (BecameInactive c.key ∷ marks_of_begin false c.key p.opened w.call w.chain) (activity_in c)
      (λ n. absurd (true≢false n)) known.was (refl, begin_of false c.key p.opened w.call w.chain) refl known.from (tt, begin_tidy false c.key p.opened w.call w.chain) (tt, begin_at false c.key p.opened w.call w.chain)))
      (λ _. stays_replay e p)
