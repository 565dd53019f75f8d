-- What holds of every call of a part: of those that are open or wait in its cells, and of those whose turns a step
-- begins. A step adds no call but the one that it makes.
use Rattle.std.proofs.Common.{◌≡◌, ℕ, Bool, true, false, not, ◌&&◌, ◌+◌, List, [], ◌∷◌, ◌++◌, Option, None, Some, refl, sym, ap, ◌∙◌, subst, inl, inr}
use Rattle.std.specs.Prelude.{zero, suc, nat_lt, ◌==◌, max, is_some, option_map}
use Rattle.std.specs.declared.result.Result.TheVariants.{Ok}
use Rattle.std.proofs.lemmas.Bool.{cond_both}
use Rattle.actor_names.specs.declared.actor_key.ActorKey.{ActorKey}
use Rattle.place_table.specs.declared.host.HostInfo.{HostInfo}
use Rattle.place_table.specs.Hosts.{PlacementTable}
use Rattle.turn_core.specs.declared.cell.Turn.{Turn}
use Rattle.turn_core.specs.declared.cell.Waiter.{Waiter}
use Rattle.turn_core.specs.declared.answer.Asked.TheVariants as asked
use Rattle.turn_core.specs.declared.answer.CellEnd.TheVariants as ending
use Rattle.turn_core.specs.Cell.{CellState, AskStep, EndStep, PollStep, kept_chain, admit_call, with_turn, with_waiter, begun_next, next_call, without_call, has_turn, waiter_of, not_open, poll_waiter, is_free, is_open_chain, without_waiter, call_of, with_hold, without_hold, all_moved, with_queue_moved}
use Rattle.turn_core.specs.CellSound.{In}
use Rattle.turn_core.proofs.Elements.{In-push, In-without_turn, In-without_waiter, In-without_first}
use Rattle.turn_core.proofs.CellSteps.{In-first_unmoved}
use Rattle.part_model.specs.declared.actor_cell.ActorCell.{ActorCell}
use Rattle.part_model.specs.Cells.{cell_at, cell_of_call, keep_cell}
use Rattle.part_model.proofs.Elements.{In-cell_at, key-cell_at, In-keep_cell}
use Rattle.part_model.specs.declared.stage.Stage.{Stage}
use Rattle.part_model.specs.declared.stage.Stage.TheVariants.{Locked, Updated, Open, Stopped}
use Rattle.part_model.specs.declared.event.PartEvent.{PartEvent}
use Rattle.part_model.specs.declared.event.PartEvent.TheVariants as events
use Rattle.part_model.specs.Receipts.{PartReply}
use Rattle.part_model.specs.Activity.{IsAsked, Replays}
use Rattle.actor_names.specs.Same.{same_member}
use Rattle.part_model.specs.Marks.{PartMark, TurnBegan, TurnEnded, BecameInactive, PartOpened, marks_of_begin, marks_of_next, marks_of_ends, marks_of_inactive, marks_of_stop}
use Rattle.part_model.specs.Part
use Rattle.part_model.specs.Part.{PartState, PartStep, CellStep, asked_step, ask_cell, ask_owned, found_or_first, call_chain, is_full, is_spent, is_open, is_own, is_foreign, is_locked, is_updated, is_drained, each_cell, part_step}
use Rattle.part_model.specs.Settings.{settings_of}
use Rattle.part_model.specs.declared.settings.TypeSettings.{TypeSettings}
use Rattle.part_model.proofs.CallReplays.{call_chain-kept}
use Rattle.part_model.proofs.CellLaws.{admit_cases, In-cell_of_call}
use Rattle.part_model.proofs.PartSteps.{In-first_to_close}
use Rattle.cluster_model.specs.World.{CallPlace, place_of_call, ask_of}
use Rattle.cluster_model.proofs.Basics.{In-append}

-- each cell has the depth of its type in the part
abbrev pub HaveTypesDepth : PartState → Type 0
HaveTypesDepth p = (c : ActorCell) → In c p.cells → (settings_of p.kinds c.key.kind).depth ≡ c.inner.depth

-- a step keeps it
pub types_depth_kept : (e : PartEvent) (p q : PartState) (marks : List PartMark) → q.kinds ≡ p.kinds → Replays e p q marks → HaveTypesDepth p → HaveTypesDepth q
types_depth_kept e p q marks kinds r h c i =
    ap (λ (ts : List TypeSettings). (settings_of ts c.key.kind).depth) kinds
    ∙ elim (r.cells c i) [
      | inl f ↦ ap (λ (k : ActorKey). (settings_of p.kinds k.kind).depth) (sym f.2) ∙ h f.0 f.1 ∙ f.3
      | inr f ↦ f.1
    ]

module _ (owner : PlacementTable → ActorKey → Option HostInfo) (Q : ActorKey → ℕ → Option (List ℕ) → Type 0) where
  -- it holds for each call of a cell, of each cell, and of each turn that begins in these marks
  pub record HasCalls (k : ActorKey) (c : CellState) : Type 0 where
    pub turns : (t : Turn) → In t c.turns → Q k t.call t.chain
    pub queue : (v : Waiter) → In v c.queue → Q k v.call v.chain

  abbrev pub AllHave : List ActorCell → Type 0
  AllHave cs = (c : ActorCell) → In c cs → HasCalls c.key c.inner

  abbrev pub BeginSo : List PartMark → Type 0
  BeginSo marks = (k : ActorKey) (call : ℕ) (chain : Option (List ℕ)) → In (TurnBegan k call chain) marks → Q k call chain

  pub record StepHas (s : PartStep) : Type 0 where
    pub cells : AllHave s.part.cells
    pub began : BeginSo s.marks

  -- ---- marks

  none_begin : BeginSo []
  none_begin k call chain i = absurd i

  same_began : (k l : ActorKey) (a b : ℕ) (x y : Option (List ℕ)) → TurnBegan k a x ≡ TurnBegan l b y → Q l b y → Q k a x
  same_began k l a b x y e q = let p : k ≡ l = cc in let r : a ≡ b = cc in let s : x ≡ y = cc in rw p (rw r (rw s q))

  begin_so : (a : Bool) (key : ActorKey) (v call : ℕ) (chain : Option (List ℕ)) → Q key call chain → BeginSo (marks_of_begin a key v call chain)
  begin_so true key v call chain q k n x i = elim i [ inl e ↦ same_began k key n call x chain e q | inr j ↦ absurd j ]
  begin_so false key v call chain q k n x i = elim i [ inl e ↦ absurd (cc) | inr j ↦ elim j [ inl e ↦ same_began k key n call x chain e q | inr l ↦ absurd l ] ]

  next_so : (a : Bool) (key : ActorKey) (v : ℕ) (next : Option Waiter) → ((w : Waiter) → next ≡ Some w → Q key w.call w.chain) → BeginSo (marks_of_next a key v next)
  next_so a key v None q = none_begin
  next_so a key v (Some w) q = begin_so a key v w.call w.chain (q w refl)

  both_so : (xs ys : List PartMark) → BeginSo xs → BeginSo ys → BeginSo (xs ++ ys)
  both_so xs ys a b k call chain i = elim (In-append xs ys (TurnBegan k call chain) i) [ inl j ↦ a k call chain j | inr j ↦ b k call chain j ]

  ends_so : (key : ActorKey) (ts : List Turn) → BeginSo (marks_of_ends key ts)
  ends_so key [] k call chain i = absurd i
  ends_so key (t ∷ ts) k call chain i = let more = ends_so key ts k call chain in elim i [ inl e ↦ absurd (cc) | inr j ↦ more j ]

  inactive_so : (a : Bool) (key : ActorKey) → BeginSo (marks_of_inactive a key)
  inactive_so true key k call chain i = elim i [ inl e ↦ absurd (cc) | inr j ↦ absurd j ]
  inactive_so false key k call chain i = absurd i

  stop_so : (cs : List ActorCell) → BeginSo (marks_of_stop cs)
  stop_so [] = none_begin
  stop_so (c ∷ cs) =
      both_so (marks_of_ends c.key c.inner.turns ++ marks_of_inactive c.active c.key) (marks_of_stop cs)
      (both_so (marks_of_ends c.key c.inner.turns) (marks_of_inactive c.active c.key) (ends_so c.key c.inner.turns) (inactive_so c.active c.key)) (stop_so cs)

  -- ---- cells

  has_begun : (k : ActorKey) (c : CellState) (next : Option Waiter) → ((w : Waiter) → next ≡ Some w → In w c.queue) → HasCalls k c → HasCalls k (begun_next c next)
  has_begun k c None here h = h
  has_begun k c (Some w) here h =
      record {
        turns = λ t i. elim (In-push c.turns _ t i) [
          | inl old ↦ h.turns t old
          | inr new ↦ (let a = ap (λ (z : Turn). z.call) new in let b = ap (λ (z : Turn). z.chain) new in rw a (rw b (h.queue w (here w refl))))
        ];
        queue = λ v i. h.queue v (In-without_first c.queue v i);
      }

  in_queue : (b : Bool) (c : CellState) (w : Waiter) → next_call b c ≡ Some w → In w c.queue
  in_queue b c w e = cond_both (b && is_free c) _ _ (λ (r : Option Waiter). r ≡ Some w → In w c.queue) (λ _ q. In-first_unmoved c.queue w q) (λ _ q. absurd (cc)) e

  next_has : (b : Bool) (k : ActorKey) (c : CellState) → HasCalls k c → (w : Waiter) → next_call b c ≡ Some w → Q k w.call w.chain
  next_has b k c h w e = h.queue w (in_queue b c w e)

  less_has : (k : ActorKey) (c : CellState) (call : ℕ) → HasCalls k c → HasCalls k (without_call c call)
  less_has k c call h = record { turns = λ t i. h.turns t (In-without_turn call c.turns t i); queue = h.queue }

  moved : (ws : List Waiter) (w : Waiter) → In w (all_moved ws) → (v : Waiter) × In v ws × (v.call ≡ w.call) × (v.chain ≡ w.chain)
  moved [] w i = absurd i
  moved (v ∷ ws) w (inl e) = (v, inl refl, (let q = ap (λ (z : Waiter). z.call) e in sym q), (let q = ap (λ (z : Waiter). z.chain) e in sym q))
  moved (v ∷ ws) w (inr i) = let m = moved ws w i in (m.0, inr m.1, m.2, m.3)

  moved_has : (k : ActorKey) (c : CellState) → HasCalls k c → HasCalls k (with_queue_moved c)
  moved_has k c h =
      record { turns = h.turns; queue = λ v i. let m = moved c.queue v i in subst (λ (n : ℕ). Q k n v.chain) m.2 (subst (λ (x : Option (List ℕ)). Q k m.0.call x) m.3 (h.queue m.0 m.1)) }

  found_or_first_has : (p : PartState) (key : ActorKey) (found : Option ActorCell) → cell_at p.cells key ≡ found → AllHave p.cells → HasCalls (found_or_first p key found).key (found_or_first p key found).inner
  found_or_first_has p key None f h = record { turns = λ t i. absurd i; queue = λ v i. absurd i }
  found_or_first_has p key (Some c) f h = h c (In-cell_at p.cells key c f)

  keep_has : (cs : List ActorCell) (c : ActorCell) → HasCalls c.key c.inner → AllHave cs → AllHave (keep_cell cs c)
  keep_has cs c n h x i = elim (In-keep_cell cs c x i) [ inl s ↦ subst (λ (z : ActorCell). HasCalls z.key z.inner) (sym s.0) n | inr j ↦ h x j.0 ]

  stays_has : (p : PartState) (reply : PartReply) → AllHave p.cells → StepHas (Part.refused p reply)
  stays_has p reply h = record { cells = h; began = none_begin }

  each_has : (f : ActorCell → CellStep) (cs : List ActorCell) → ((c : ActorCell) → HasCalls c.key c.inner → HasCalls (f c).cell.key (f c).cell.inner × BeginSo (f c).marks) → AllHave cs
      → AllHave (each_cell f cs).cells × BeginSo (each_cell f cs).marks
  each_has f [] step h = (λ c i. absurd i, none_begin)
  each_has f (c ∷ cs) step h =
      let more = each_has f cs step (λ x i. h x (inr i)) in
      let now = step c (h c (inl refl)) in (
        λ x i. elim i [ inl e ↦ subst (λ (z : ActorCell). HasCalls z.key z.inner) (sym e) now.0 | inr j ↦ more.0 x j ],
        both_so (f c).marks (each_cell f cs).marks now.1 more.1,
      )

  -- ---- a call is asked

  -- If the reply takes the call, the call has the next number; and if it holds for that call, it holds for each.
  pub record TakesCall (at : ℕ) (p : PartState) (k : ActorKey) (chain : Option (List ℕ)) (s : PartStep) : Type 0 where
    pub taken : (x : CallPlace) → place_of_call at s.reply ≡ Some x → (x ≡ record { place = at; call = p.drawn + 1 }) × (s.part.drawn ≡ p.drawn + 1)
    pub has : ((x : CallPlace) → place_of_call at s.reply ≡ Some x → Q k (p.drawn + 1) chain) → StepHas s

  refuses : (at : ℕ) (p : PartState) (k : ActorKey) (chain : Option (List ℕ)) (reply : PartReply) → place_of_call at reply ≡ None → AllHave p.cells → TakesCall at p k chain (Part.refused p reply)
  refuses at p k chain reply none h = record { taken = λ x e. absurd (let q = sym none ∙ e in cc); has = λ _. stays_has p reply h }

  one_place : (at n : ℕ) (x : CallPlace) → Some (let y : CallPlace = record { place = at; call = n } in y) ≡ Some x → x ≡ record { place = at; call = n }
  one_place at n x e = cc

  asked_takes : (at : ℕ) (p : PartState) (c : ActorCell) (chain : Option (List ℕ)) (may : Bool) → kept_chain c.inner chain ≡ chain → HasCalls c.key c.inner → AllHave p.cells
      → TakesCall at p c.key chain (asked_step p c chain (admit_call c.inner (p.drawn + 1) chain may).cell (admit_call c.inner (p.drawn + 1) chain may).answer)
  asked_takes at p c chain may same n h =
      let kept = kept_chain c.inner chain in
      let begun : TakesCall at p c.key chain (asked_step p c chain (with_turn c.inner (p.drawn + 1) kept) (Ok asked.Begun)) =
      record {
        taken = λ x e. (one_place at (p.drawn + 1) x e, refl);
        has = λ q. record {
          cells = keep_has p.cells (record c { inner = with_turn c.inner (p.drawn + 1) kept; active = true })
              (record {
                turns = λ t i. elim (In-push c.inner.turns _ t i) [
                  | inl old ↦ n.turns t old
                  | inr new ↦ (let a = ap (λ (z : Turn). z.call) new in let b = ap (λ (z : Turn). z.chain) new ∙ same in rw a (rw b (q _ refl)))
                ];
                queue = n.queue;
              })
              h;
          began = begin_so c.active c.key p.opened (p.drawn + 1) chain (q _ refl);
        };
      } in
      admit_cases c.inner (p.drawn + 1) chain may (λ (a : AskStep). TakesCall at p c.key chain (asked_step p c chain a.cell a.answer))
      (λ _ _. begun)
      (refuses at p c.key chain _ refl h)
      (λ _ _. begun)
      (λ _ _. record {
        taken = λ x e. (one_place at (p.drawn + 1) x e, refl);
        has = λ q. record {
          cells = keep_has p.cells (record c { inner = with_waiter c.inner (p.drawn + 1) kept })
              (record {
                turns = n.turns;
                queue = λ v i. elim (In-push c.inner.queue _ v i) [
                  | inl old ↦ n.queue v old
                  | inr new ↦ (let a = ap (λ (z : Waiter). z.call) new in let b = ap (λ (z : Waiter). z.chain) new ∙ same in rw a (rw b (q _ refl)))
                ];
              })
              h;
          began = none_begin;
        };
      })
      (refuses at p c.key chain _ refl h)

  ask_cell_takes : (at : ℕ) (full : Bool) (p : PartState) (c : ActorCell) (chain : Option (List ℕ)) (may : Bool) → kept_chain c.inner chain ≡ chain → HasCalls c.key c.inner → AllHave p.cells
      → TakesCall at p c.key chain (ask_cell full p c chain may)
  ask_cell_takes at full p c chain may same n h =
      cond_both full _ _ (λ (s : PartStep). TakesCall at p c.key chain s) (λ _. refuses at p c.key chain _ refl h) (λ _. asked_takes at p c chain may same n h)

  ask_owned_takes : (at : ℕ) (full : Bool) (p : PartState) (c : ActorCell) (chain : Option (List ℕ)) (found : Option HostInfo) → kept_chain c.inner chain ≡ chain → HasCalls c.key c.inner → AllHave p.cells
      → TakesCall at p c.key chain (ask_owned full p c chain found)
  ask_owned_takes at full p c chain None same n h = refuses at p c.key chain _ refl h
  ask_owned_takes at full p c chain (Some host) same n h =
      cond_both (same_member host.member p.member) _ _ (λ (s : PartStep). TakesCall at p c.key chain s) (λ _. ask_cell_takes at full p c chain (not c.closing) same n h) (λ _. refuses at p c.key chain _ refl h)

  ask_here_takes : (at : ℕ) (full : Bool) (p : PartState) (c : ActorCell) (chain : Option (List ℕ)) → kept_chain c.inner chain ≡ chain → HasCalls c.key c.inner → AllHave p.cells
      → TakesCall at p c.key chain (Part.ask_here owner full p c chain)
  ask_here_takes at full p c chain same n h =
      cond_both (is_open_chain c.inner chain) _ _ (λ (s : PartStep). TakesCall at p c.key chain s) (λ _. ask_cell_takes at full p c chain false same n h)
      (λ _. cond_both (is_open p.stage) _ _ (λ (s : PartStep). TakesCall at p c.key chain s) (λ _. ask_owned_takes at full p c chain (owner p.table c.key) same n h)
      (λ _. ask_cell_takes at full p c chain false same n h))

  found_or_first_is : (p : PartState) (key : ActorKey) (found : Option ActorCell) → cell_at p.cells key ≡ found → HaveTypesDepth p
      → ((found_or_first p key found).key ≡ key) × ((found_or_first p key found).inner.depth ≡ (settings_of p.kinds key.kind).depth)
  found_or_first_is p key None f deep = (refl, refl)
  found_or_first_is p key (Some c) f deep =
      let k = key-cell_at p.cells key c f in
      (k, sym (deep c (In-cell_at p.cells key c f)) ∙ ap (λ (z : ActorKey). (settings_of p.kinds z.kind).depth) k)

  ask_part_takes : (at : ℕ) (p : PartState) (key : ActorKey) (chain : Option (List ℕ)) (least : ℕ) → HaveTypesDepth p → AllHave p.cells
      → TakesCall at p key (call_chain p (settings_of p.kinds key.kind).depth chain) (Part.ask_part owner p key chain least)
  ask_part_takes at p key chain least deep h =
      let c = found_or_first p key (cell_at p.cells key) in
      let new = call_chain p (settings_of p.kinds key.kind).depth chain in
      let is = found_or_first_is p key (cell_at p.cells key) refl deep in
      let asks = ask_here_takes at (is_full p (cell_at p.cells key)) p c (call_chain p c.inner.depth chain) (call_chain-kept p c.inner chain) (found_or_first_has p key (cell_at p.cells key) refl h) h in
      let step : PartStep = Part.ask_found owner p key chain (cell_at p.cells key) in
      cond_both (is_spent p) _ _ (λ (s : PartStep). TakesCall at p key new s) (λ _. refuses at p key new _ refl h)
      (λ _. cond_both (nat_lt p.seen least) _ _ (λ (s : PartStep). TakesCall at p key new s) (λ _. refuses at p key new _ refl h)
      (λ _. subst (λ (k : ActorKey). TakesCall at p k new step) is.0 (subst (λ (n : ℕ). TakesCall at p c.key (call_chain p n chain) step) is.1 asks)))

  pub ask_takes : (at : ℕ) (p : PartState) (key : ActorKey) (least : ℕ) (chain : Option (List ℕ)) (now : ℕ) → HaveTypesDepth p → AllHave p.cells
      → TakesCall at p key (call_chain p (settings_of p.kinds key.kind).depth chain) (part_step owner p (ask_of key least chain now))
  ask_takes at p key least chain now deep h = go p.stage least
    where
      new : Option (List ℕ)
      new = call_chain p (settings_of p.kinds key.kind).depth chain

      go : (stage : Stage) (least : ℕ) → TakesCall at p key new (Part.step_at owner p stage (ask_of key least chain now))
      go Stopped zero = refuses at p key new _ refl h
      go Stopped (suc n) = refuses at p key new _ refl h
      go Locked zero = ask_part_takes at p key chain 0 deep h
      go Locked (suc n) = ask_part_takes at p key chain (suc n) deep h
      go Updated zero = ask_part_takes at p key chain 0 deep h
      go Updated (suc n) = ask_part_takes at p key chain (suc n) deep h
      go Open zero = ask_part_takes at p key chain 0 deep h
      go Open (suc n) = ask_part_takes at p key chain (suc n) deep h

  -- ---- all else

  poll_has : (p : PartState) (call : ℕ) (found : Option ActorCell) → cell_of_call p.cells call ≡ found → AllHave p.cells → StepHas (Part.poll_cell owner p call found)
  poll_has p call None f h = stays_has p _ h
  poll_has p call (Some c) f h =
      cond_both (has_turn call c.inner.turns) _ _ (λ (a : PollStep). StepHas (Part.polled_step owner p c call a.cell a.answer)) (λ _. stays_has p _ h) (λ _. go (waiter_of call c.inner.queue))
    where
      go : (w : Option Waiter) → StepHas (Part.polled_step owner p c call (poll_waiter c.inner call w).cell (poll_waiter c.inner call w).answer)
      go None = stays_has p _ h
      go (Some w) =
          cond_both w.moved _ _ (λ (a : PollStep). StepHas (Part.polled_step owner p c call a.cell a.answer))
          (λ _.
          let n = h c (In-cell_of_call p.cells call c f) in
          record {
            cells = keep_has p.cells (record c { inner = record (c.inner) { queue = without_waiter call c.inner.queue } })
                (record { turns = n.turns; queue = λ v i. n.queue v (In-without_waiter call c.inner.queue v i) }) h;
            began = none_begin;
          })
          (λ _. stays_has p _ h)

  end_has : (p : PartState) (call now : ℕ) (found : Option ActorCell) → cell_of_call p.cells call ≡ found → AllHave p.cells → StepHas (Part.end_cell owner p call now found)
  end_has p call now None f h = stays_has p _ h
  end_has p call now (Some c) f h =
      cond_both (has_turn call c.inner.turns) _ _ (λ (a : EndStep). StepHas (Part.ended_step owner p c call now a.cell a.answer)) (λ _. ends) (λ _. go (waiter_of call c.inner.queue))
    where
      go : (w : Option Waiter) → StepHas (Part.ended_step owner p c call now c.inner (not_open w))
      go None = stays_has p _ h
      go (Some w) = stays_has p _ h

      less : CellState
      less = without_call c.inner call

      next : Option Waiter
      next = next_call (Part.may_begin owner p c) less

      less_so : HasCalls c.key less
      less_so = less_has c.key c.inner call (h c (In-cell_of_call p.cells call c f))

      ends : StepHas (Part.ended_step owner p c call now (begun_next less next) (ending.Ended (option_map call_of next)))
      ends =
          record {
            cells = keep_has p.cells (record c { inner = begun_next less next; last = max c.last now }) (has_begun c.key less next (in_queue (Part.may_begin owner p c) less) less_so) h;
            began = both_so (TurnEnded c.key call ∷ []) (marks_of_next c.active c.key p.opened next) (λ k n x i. elim i [ inl e ↦ absurd (cc) | inr j ↦ absurd j ])
                (next_so c.active c.key p.opened next (next_has (Part.may_begin owner p c) c.key less less_so));
          }

  hold_has : (p : PartState) (key : ActorKey) (found : Option ActorCell) → cell_at p.cells key ≡ found → AllHave p.cells → StepHas (Part.hold_cell owner p found)
  hold_has p key None f h = stays_has p _ h
  hold_has p key (Some c) f h =
      let n = h c (In-cell_at p.cells key c f) in
      cond_both (c.active && not c.closing) _ _ StepHas
      (λ _. cond_both (is_spent p) _ _ StepHas (λ _. stays_has p _ h)
      (λ _. record { cells = keep_has p.cells (record c { inner = with_hold c.inner }) (record { turns = n.turns; queue = n.queue }) h; began = none_begin }))
      (λ _. stays_has p _ h)

  release_has : (p : PartState) (key : ActorKey) (now : ℕ) (found : Option ActorCell) → cell_at p.cells key ≡ found → AllHave p.cells → StepHas (Part.release_cell owner p now found)
  release_has p key now None f h = stays_has p _ h
  release_has p key now (Some c) f h =
      let n = h c (In-cell_at p.cells key c f) in
      cond_both (c.inner.holds == 0) _ _ StepHas (λ _. stays_has p _ h)
      (λ _. record { cells = keep_has p.cells (record c { inner = without_hold c.inner; last = max c.last now }) (record { turns = n.turns; queue = n.queue }) h; began = none_begin })

  unlock_has : (p : PartState) (version : ℕ) → AllHave p.cells → StepHas (Part.unlock_part owner p version)
  unlock_has p version h =
      let q = Part.as_open owner p in
      let each = each_has (Part.open_cell owner q) p.cells
      (λ c n. cond_both (is_own owner q c.key) _ _ (λ (s : CellStep). HasCalls s.cell.key s.cell.inner × BeginSo s.marks)
      (λ _. (has_begun c.key c.inner (next_call (not c.closing) c.inner) (in_queue (not c.closing) c.inner) n, next_so c.active c.key q.opened (next_call (not c.closing) c.inner) (next_has (not c.closing) c.key c.inner n)))
      (λ _. (moved_has c.key c.inner n, none_begin)))
      h in
      cond_both (is_updated p.stage && (version == p.seen)) _ _ StepHas
      (λ _. cond_both (is_drained owner p) _ _ StepHas
      (λ _. record { cells = each.0; began = both_so (PartOpened p.number p.seen ∷ []) (each_cell (Part.open_cell owner q) p.cells).marks (λ k n x i. elim i [ inl e ↦ absurd (cc) | inr j ↦ absurd j ]) each.1 })
      (λ _. stays_has p _ h))
      (λ _. stays_has p _ h)

  tick_has : (p : PartState) (now : ℕ) → AllHave p.cells → StepHas (Part.tick_part owner p now)
  tick_has p now h =
      let each = each_has (Part.tick_cell owner p now) p.cells
      (λ c n. cond_both (not (is_free c.inner) && (is_foreign owner p c.key && Part.is_overdue owner p now c)) _ _ (λ (s : CellStep). HasCalls s.cell.key s.cell.inner × BeginSo s.marks)
      (λ _. (record { turns = λ t i. absurd i; queue = n.queue }, ends_so c.key c.inner.turns))
      (λ _. (n, none_begin)))
      h in
      cond_both (is_updated p.stage) _ _ StepHas (λ _. record { cells = each.0; began = each.1 }) (λ _. stays_has p _ h)

  take_has : (p : PartState) (now : ℕ) (found : Option ActorCell) → Part.first_to_close owner p now p.cells ≡ found → AllHave p.cells → StepHas (Part.close_cell owner p found)
  take_has p now None f h = stays_has p _ h
  take_has p now (Some c) f h =
      record { cells = keep_has p.cells (record c { closing = true }) (h c (In-first_to_close owner p now p.cells c f).0) h; began = none_begin }

  closed_has : (p : PartState) (key : ActorKey) (found : Option ActorCell) → cell_at p.cells key ≡ found → AllHave p.cells → StepHas (Part.closed_cell owner p found)
  closed_has p key None f h = stays_has p _ h
  closed_has p key (Some c) f h =
      let may : Bool = is_open p.stage && is_own owner p c.key in
      let next : Option Waiter = next_call (is_open p.stage && is_own owner p c.key) c.inner in
      let n = h c (In-cell_at p.cells key c f) in
      cond_both c.closing _ _ StepHas
      (λ _. record {
        cells = keep_has p.cells (record c { inner = begun_next c.inner next; active = is_some next; closing = false }) (has_begun c.key c.inner next (in_queue may c.inner) n) h;
        began = both_so (BecameInactive c.key ∷ []) (marks_of_next false c.key p.opened next) (λ k a x i. elim i [ inl e ↦ absurd (cc) | inr j ↦ absurd j ])
            (next_so false c.key p.opened next (next_has may c.key c.inner n));
      })
      (λ _. stays_has p _ h)

  running_has : (p : PartState) (e : PartEvent) → ((k : ActorKey) → IsAsked e k → ⊥) → AllHave p.cells → StepHas (Part.running_step owner p e)
  running_has p (events.Ask key chain now) quiet h = absurd (quiet key refl)
  running_has p (events.AskAt key chain least now) quiet h = absurd (quiet key refl)
  running_has p events.Draw quiet h = cond_both (is_spent p) _ _ StepHas (λ _. stays_has p _ h) (λ _. record { cells = h; began = none_begin })
  running_has p (events.Poll call) quiet h = poll_has p call (cell_of_call p.cells call) refl h
  running_has p (events.End call now) quiet h = end_has p call now (cell_of_call p.cells call) refl h
  running_has p (events.Hold key) quiet h = hold_has p key (cell_at p.cells key) refl h
  running_has p (events.Release key now) quiet h = release_has p key now (cell_at p.cells key) refl h
  running_has p (events.Lock version) quiet h = cond_both (nat_lt p.seen version) _ _ StepHas (λ _. record { cells = h; began = none_begin }) (λ _. stays_has p _ h)
  running_has p (events.Update table now) quiet h = cond_both (is_locked p.stage && (table.version == p.seen)) _ _ StepHas (λ _. record { cells = h; began = none_begin }) (λ _. stays_has p _ h)
  running_has p (events.Unlock version) quiet h = unlock_has p version h
  running_has p (events.Tick now) quiet h = tick_has p now h
  running_has p (events.TakeClosing now) quiet h = take_has p now (Part.first_to_close owner p now p.cells) refl h
  running_has p (events.Closed key) quiet h = closed_has p key (cell_at p.cells key) refl h
  running_has p events.StopPart quiet h = record { cells = λ c i. absurd i; began = stop_so p.cells }

  stopped_has : (p : PartState) (e : PartEvent) → AllHave p.cells → StepHas (Part.stopped_step owner p e)
  stopped_has p events.StopPart h = stays_has p _ h
  stopped_has p e h = stays_has p _ h

  has_at : (p : PartState) (stage : Stage) (e : PartEvent) → ((k : ActorKey) → IsAsked e k → ⊥) → AllHave p.cells → StepHas (Part.step_at owner p stage e)
  has_at p Stopped e quiet h = stopped_has p e h
  has_at p stage e quiet h = running_has p e quiet h

  -- a step that makes no call
  pub step_has : (p : PartState) (e : PartEvent) → ((k : ActorKey) → IsAsked e k → ⊥) → AllHave p.cells → StepHas (part_step owner p e)
  step_has p e quiet h = has_at p p.stage e quiet h
