-- What each call of a part keeps: asks, polls, ends, holds and deactivations.
use Rattle.std.proofs.Common.{◌≡◌, ◌⊎◌, ℕ, Bool, true, false, not, ◌&&◌, ◌+◌, ◌-◌, ◌<◌, List, [], ◌∷◌, length, Option, None, Some, IsSome, refl, sym, ap, ◌∙◌, subst, inl, inr, arith}
use Rattle.std.specs.Prelude.{nat_lt, ◌==◌, max}
use Rattle.std.proofs.lemmas.Bool.{and_parts, and_from, eqb-true, leb-false, cond_both, false≢true, true≢false, not-true, cases_Bool}
use Rattle.actor_names.specs.declared.actor_key.ActorKey.{ActorKey}
use Rattle.place_table.specs.declared.host.HostInfo.{HostInfo}
use Rattle.place_table.specs.Hosts.{PlacementTable}
use Rattle.turn_core.specs.declared.cell.Turn.{Turn}
use Rattle.turn_core.specs.declared.cell.Waiter.{Waiter}
use Rattle.turn_core.specs.Cell.{CellState, AskStep, EndStep, PollStep, is_free, is_first_chain, is_open_chain, kept_chain, has_turn, is_in_cell, waiter_of, without_waiter, first_unmoved, without_call, begun_next, next_call, admit_call, poll_waiter, not_open, with_turn, with_waiter, with_hold, without_hold}
use Rattle.turn_core.specs.CellSound.{In, FitsDepth}
use Rattle.turn_core.proofs.Elements.{In-without_waiter}
use Rattle.turn_core.proofs.CellSteps.{free_turns, first_chain, kept_chain-fits}
use Rattle.turn_core.proofs.CellKeeps.{queue_sound, without_call_sound, turn_begins, enters_free, enters_beside, waits_sound, holds_keep}
use Rattle.part_model.specs.declared.stage.Stage.TheVariants.{Open, Stopped}
use Rattle.part_model.specs.declared.event.PartEvent.{PartEvent}
use Rattle.part_model.specs.declared.actor_cell.ActorCell.{ActorCell}
use Rattle.actor_names.specs.Same.{same_member}
use Rattle.part_model.specs.Settings.{settings_of}
use Rattle.part_model.specs.Cells.{cell_at, cell_of_call, drop_cell, keep_cell}
use Rattle.part_model.specs.Part
use Rattle.part_model.specs.Part.{PartState, PartStep, CellStep, refused, with_cell, asked_step, ask_cell, ask_owned, found_or_first, call_chain, chain_or, made_chain, is_full, is_spent, is_open, is_updated, is_locked, is_own, is_foreign, is_owned_by, is_drained, may_begin, each_cell, most_cells, most_drawn}
use Rattle.part_model.specs.Sound.{HasNoWaiter, IsWithinLimits, IsPartSound}
use Rattle.part_model.specs.PartMoves.{Stepped}
use Rattle.part_model.proofs.Elements.{In-cell_at}
use Rattle.part_model.proofs.CellLaws.{In-cell_of_call, In-has_turn, moved_of_none, not_nil_after, free_of_nil, is_open_chain-kept, admit_cases, next_cases, open_sound, less_sound, closing_facts, not_closing, begun_sound, begun_waiters}
use Rattle.part_model.proofs.CellCalls.{turn_joins, waiter_joins, ended_gets, polled_gets, begun_gets}
use Rattle.part_model.proofs.Limits.{HadCall, AddsNoCall, cell_within, found_within, more_within}
use Rattle.part_model.proofs.PartWrites.{open_stage, stays, one_cell, IsAt, at_found, at_found_or_first, HasRoom, room_for}

module _ (owner : PlacementTable → ActorKey → Option HostInfo) where
  -- ---- limits

  -- a cell that was found, and gets no call
  less_within : (p : PartState) (c x : ActorCell) → IsPartSound owner p → In c p.cells → AddsNoCall c x → IsWithinLimits p.kinds p.drawn (keep_cell p.cells x)
  less_within p c x s i adds = found_within p.kinds p.drawn p.cells s.limits c x i s.in_order adds

  -- a cell with the call that is asked
  joins_within : (p : PartState) (c x : ActorCell) → IsPartSound owner p → IsAt owner p c → HasRoom owner p c → x.key ≡ c.key → x.inner.depth ≡ c.inner.depth
      → ((n : ℕ) → is_in_cell n x.inner ≡ true → (is_in_cell n c.inner ≡ true) ⊎ (n ≡ p.drawn + 1)) → IsWithinLimits p.kinds (p.drawn + 1) (keep_cell p.cells x)
  joins_within p c x s at room key depth joins =
      let l = room.number in
      cell_within p.kinds p.drawn p.cells s.limits x (p.drawn + 1) (record {
        room = subst (λ (z : ActorKey). length (drop_cell p.cells z) < most_cells) (sym key) room.cell;
        more = omega arith;
        within = omega arith;
        calls = λ n h. elim (joins n h) [
          | inl old ↦ inl (subst (λ (z : ActorKey). HadCall p.cells z n) (sym key) (at.calls n old))
          | inr new ↦ inr (new, omega arith)
        ];
        depth = ap (λ (z : ActorKey). (settings_of p.kinds z.kind).depth) key ∙ at.depth ∙ sym depth;
      })

  -- ---- a call is asked

  pub asked_stepped : (p : PartState) (e : PartEvent) (c : ActorCell) (chain : Option (List ℕ)) (may : Bool) → IsPartSound owner p → (p.stage ≡ Stopped → ⊥) → IsAt owner p c → HasRoom owner p c
      → (0 < c.inner.depth → IsSome chain)
      → (may ≡ true → (p.stage ≡ Open) × (is_own owner p c.key ≡ true) × (c.closing ≡ false))
      → (is_open_chain c.inner (kept_chain c.inner chain) ≡ false → p.stage ≡ Open → (is_own owner p c.key ≡ true) × (may ≡ not c.closing))
      → Stepped owner p e (asked_step p c chain (admit_call c.inner (p.drawn + 1) chain may).cell (admit_call c.inner (p.drawn + 1) chain may).answer).part
  asked_stepped p e c chain may s running at room given begins waits =
      let kept = kept_chain c.inner chain in
      let fits : FitsDepth c.inner.depth kept = kept_chain-fits c.inner chain given in
      let begun = joins_within p c (record c { inner = with_turn c.inner (p.drawn + 1) kept; active = true }) s at room refl refl (turn_joins c.inner (p.drawn + 1) kept) in
      admit_cases c.inner (p.drawn + 1) chain may (λ (a : AskStep). Stepped owner p e (asked_step p c chain a.cell a.answer).part)
      (λ o few.
      let h = and_parts (nat_lt 0 c.inner.depth) (is_first_chain c.inner.turns kept) o in
      let f = first_chain c.inner.turns kept h.1 in
      one_cell owner p e (record c { inner = with_turn c.inner (p.drawn + 1) kept; active = true }) (p.drawn + 1) s running
      (record {
        sound = open_sound _ (turn_begins c.inner (p.drawn + 1) kept at.sound.sound fits (enters_beside c.inner kept at.sound.sound fits o few)).sound refl (not_closing c at.sound f.0 f.1);
        comes = λ _. inl (at.had (at.sound.open_active f.0 f.1));
        done = λ q. record { foreign = (at.done q).foreign; free = λ z. absurd (not_nil_after c.inner.turns _ z) };
        limits = begun;
        held = (let k = at.held in omega arith);
        drawn = omega arith;
      }))
      (stays owner p e s)
      (λ free m.
      let b = begins m in
      one_cell owner p e (record c { inner = with_turn c.inner (p.drawn + 1) kept; active = true }) (p.drawn + 1) s running
      (record {
        sound = open_sound _ (turn_begins c.inner (p.drawn + 1) kept at.sound.sound fits (enters_free c.inner.depth c.inner.turns kept free)).sound refl (λ k. true≢false (sym k ∙ b.2));
        comes = λ _. inr (b.0, b.1);
        done = λ q. record { foreign = (at.done q).foreign; free = λ z. absurd (not_nil_after c.inner.turns _ z) };
        limits = begun;
        held = (let k = at.held in omega arith);
        drawn = omega arith;
      }))
      (λ o busy.
      one_cell owner p e (record c { inner = with_waiter c.inner (p.drawn + 1) kept }) (p.drawn + 1) s running
      (record {
        sound = less_sound c _ at.sound (waits_sound c.inner (p.drawn + 1) kept at.sound.sound fits) (λ t i. i) refl (closing_facts c at.sound);
        comes = λ a. inl (at.had a);
        done = λ q. record {
          foreign = λ f. absurd (true≢false (sym (waits o q).0 ∙ f));
          free = λ z k. absurd (true≢false (sym (and_from (is_free c.inner) may (free_of_nil c.inner z) ((waits o q).1 ∙ ap not k)) ∙ busy));
        };
        limits = joins_within p c (record c { inner = with_waiter c.inner (p.drawn + 1) kept }) s at room refl refl (waiter_joins c.inner (p.drawn + 1) kept);
        held = (let k = at.held in omega arith);
        drawn = omega arith;
      }))
      (stays owner p e s)

  pub ask_cell_stepped : (p : PartState) (e : PartEvent) (c : ActorCell) (chain : Option (List ℕ)) (full may : Bool) → IsPartSound owner p → (p.stage ≡ Stopped → ⊥) → IsAt owner p c → (full ≡ false → HasRoom owner p c)
      → (0 < c.inner.depth → IsSome chain)
      → (may ≡ true → (p.stage ≡ Open) × (is_own owner p c.key ≡ true) × (c.closing ≡ false))
      → (is_open_chain c.inner (kept_chain c.inner chain) ≡ false → p.stage ≡ Open → (is_own owner p c.key ≡ true) × (may ≡ not c.closing))
      → Stepped owner p e (ask_cell full p c chain may).part
  ask_cell_stepped p e c chain full may s running at room given begins waits =
      cond_both full _ _ (λ (x : PartStep). Stepped owner p e x.part) (λ _. stays owner p e s) (λ f. asked_stepped p e c chain may s running at (room f) given begins waits)

  pub ask_owned_stepped : (p : PartState) (e : PartEvent) (c : ActorCell) (chain : Option (List ℕ)) (full : Bool) (found : Option HostInfo) → owner p.table c.key ≡ found → IsPartSound owner p → (p.stage ≡ Stopped → ⊥) → IsAt owner p c → (full ≡ false → HasRoom owner p c)
      → (0 < c.inner.depth → IsSome chain) → p.stage ≡ Open → Stepped owner p e (ask_owned full p c chain found).part
  ask_owned_stepped p e c chain full None f s running at room given o = stays owner p e s
  ask_owned_stepped p e c chain full (Some host) f s running at room given o =
      cond_both (same_member host.member p.member) _ _ (λ (x : PartStep). Stepped owner p e x.part)
      (λ t.
      let own : is_own owner p c.key ≡ true = ap (λ (h : Option HostInfo). is_owned_by p.member h) f ∙ t in
      ask_cell_stepped p e c chain full (not c.closing) s running at room given (λ m. (o, own, not-true _ m)) (λ _ _. (own, refl)))
      (λ _. stays owner p e s)

  pub ask_here_stepped : (p : PartState) (e : PartEvent) (c : ActorCell) (chain : Option (List ℕ)) (full : Bool) → IsPartSound owner p → (p.stage ≡ Stopped → ⊥) → IsAt owner p c → (full ≡ false → HasRoom owner p c)
      → (0 < c.inner.depth → IsSome chain) → Stepped owner p e (Part.ask_here owner full p c chain).part
  ask_here_stepped p e c chain full s running at room given =
      cond_both (is_open_chain c.inner chain) _ _ (λ (x : PartStep). Stepped owner p e x.part)
      (λ o. ask_cell_stepped p e c chain full false s running at room given (λ m. absurd (false≢true m)) (λ f _. absurd (true≢false (sym (is_open_chain-kept c.inner chain ∙ o) ∙ f))))
      (λ _. cond_both (is_open p.stage) _ _ (λ (x : PartStep). Stepped owner p e x.part)
      (λ o. ask_owned_stepped p e c chain full (owner p.table c.key) refl s running at room given (open_stage p.stage o))
      (λ n. ask_cell_stepped p e c chain full false s running at room given (λ m. absurd (false≢true m)) (λ _ o. absurd (true≢false (sym (ap is_open o) ∙ n)))))

  chain_or-some : (chain : Option (List ℕ)) (made : List ℕ) → IsSome (chain_or chain made)
  chain_or-some None made = refl
  chain_or-some (Some chain) made = refl

  call_chain-some : (p : PartState) (depth : ℕ) (chain : Option (List ℕ)) → 0 < depth → IsSome (call_chain p depth chain)
  call_chain-some p depth chain l =
      cond_both (depth == 0) _ _ (λ (r : Option (List ℕ)). IsSome r) (λ z. (let k = eqb-true depth 0 z in absurd (omega arith))) (λ _. chain_or-some chain _)

  pub ask_stepped : (p : PartState) (e : PartEvent) (key : ActorKey) (chain : Option (List ℕ)) (least : ℕ) → IsPartSound owner p → (p.stage ≡ Stopped → ⊥) → Stepped owner p e (Part.ask_part owner p key chain least).part
  ask_stepped p e key chain least s running =
      cond_both (is_spent p) _ _ (λ (x : PartStep). Stepped owner p e x.part) (λ _. stays owner p e s)
      (λ u. cond_both (nat_lt p.seen least) _ _ (λ (x : PartStep). Stepped owner p e x.part) (λ _. stays owner p e s)
      (λ _. ask_here_stepped p e (found_or_first p key (cell_at p.cells key)) _ (is_full p (cell_at p.cells key)) s running (at_found_or_first owner p key (cell_at p.cells key) refl s)
      (room_for owner p key (cell_at p.cells key) refl s (leb-false most_drawn p.drawn u))
      (call_chain-some p (found_or_first p key (cell_at p.cells key)).inner.depth chain)))

  -- ---- polls and ends

  pub poll_stepped : (p : PartState) (e : PartEvent) (call : ℕ) (found : Option ActorCell) → cell_of_call p.cells call ≡ found → IsPartSound owner p → (p.stage ≡ Stopped → ⊥) → Stepped owner p e (Part.poll_cell owner p call found).part
  poll_stepped p e call None f s running = stays owner p e s
  poll_stepped p e call (Some c) f s running =
      let at = at_found owner p c s (In-cell_of_call p.cells call c f) in
      cond_both (has_turn call c.inner.turns) _ _ (λ (a : PollStep). Stepped owner p e (Part.polled_step owner p c call a.cell a.answer).part) (λ _. stays owner p e s)
      (λ _. go at (waiter_of call c.inner.queue))
    where
      go : IsAt owner p c → (w : Option Waiter) → Stepped owner p e (Part.polled_step owner p c call (poll_waiter c.inner call w).cell (poll_waiter c.inner call w).answer).part
      go at None = stays owner p e s
      go at (Some w) =
          cond_both w.moved _ _ (λ (a : PollStep). Stepped owner p e (Part.polled_step owner p c call a.cell a.answer).part)
          (λ _. one_cell owner p e (record c { inner = record (c.inner) { queue = without_waiter call c.inner.queue } }) p.drawn s running
          (record {
            sound = less_sound c _ at.sound (queue_sound c.inner _ at.sound.sound (λ v i. at.sound.sound.queue_fit v (In-without_waiter call c.inner.queue v i))) (λ t i. i) refl (closing_facts c at.sound);
            comes = λ a. inl (at.had a);
            done = λ q. record {
              foreign = λ n v i. (at.done q).foreign n v (In-without_waiter call c.inner.queue v i);
              free = λ z k v i. (at.done q).free z k v (In-without_waiter call c.inner.queue v i);
            };
            limits = less_within p c (record c { inner = record (c.inner) { queue = without_waiter call c.inner.queue } }) s (In-cell_of_call p.cells call c f) (record { key = refl; depth = refl; calls = polled_gets c.inner call });
            held = at.held;
            drawn = omega arith;
          }))
          (λ _. stays owner p e s)

  -- when a call may begin in a cell in which none is open
  pub begins_where : (p : PartState) (c : ActorCell) → may_begin owner p c ≡ true → (p.stage ≡ Open) × (is_own owner p c.key ≡ true) × (c.closing ≡ false)
  begins_where p c m =
      let h = and_parts (is_open p.stage && is_own owner p c.key) (not c.closing) m in
      let k = and_parts (is_open p.stage) (is_own owner p c.key) h.0 in
      (open_stage p.stage k.0, k.1, not-true _ h.1)

  -- no call begins in a free own cell of an open part, so none waits
  pub none_waits : (p : PartState) (key : ActorKey) (b : Bool) (x : CellState) → (is_own owner p key ≡ true → b ≡ true) → (is_own owner p key ≡ false → HasNoWaiter x)
      → ((b && is_free x) ≡ false ⊎ (first_unmoved x.queue ≡ None)) → x.turns ≡ [] → HasNoWaiter x
  none_waits p key b x may foreign why z =
      elim (cases_Bool (is_own owner p key)) [
        | inl own ↦ elim why [
          | inl n ↦ absurd (true≢false (sym (and_from b (is_free x) (may own) (free_of_nil x z)) ∙ n))
          | inr n ↦ moved_of_none x.queue n
        ]
        | inr f ↦ foreign f
      ]

  pub end_stepped : (p : PartState) (e : PartEvent) (call now : ℕ) (found : Option ActorCell) → cell_of_call p.cells call ≡ found → IsPartSound owner p → (p.stage ≡ Stopped → ⊥) → Stepped owner p e (Part.end_cell owner p call now found).part
  end_stepped p e call now None f s running = stays owner p e s
  end_stepped p e call now (Some c) f s running =
      let at = at_found owner p c s (In-cell_of_call p.cells call c f) in
      cond_both (has_turn call c.inner.turns) _ _ (λ (a : EndStep). Stepped owner p e (Part.ended_step owner p c call now a.cell a.answer).part)
      (λ t. ends at (In-has_turn call c.inner.turns t))
      (λ _. go (waiter_of call c.inner.queue))
    where
      go : (w : Option Waiter) → Stepped owner p e (Part.ended_step owner p c call now c.inner (not_open w)).part
      go None = stays owner p e s
      go (Some w) = stays owner p e s

      ends : IsAt owner p c → (t : Turn) × In t c.inner.turns → Stepped owner p e (with_cell p (record c { inner = begun_next (without_call c.inner call) (next_call (may_begin owner p c) (without_call c.inner call)); last = max c.last now }))
      ends at t =
          let there = In-cell_of_call p.cells call c f in
          let less = without_call c.inner call in
          let less_well = without_call_sound c.inner call at.sound.sound in
          let a : c.active ≡ true = at.sound.open_active t.0 t.1 in
          let no_close = not_closing c at.sound t.0 t.1 in
          next_cases (may_begin owner p c) less (λ (n : Option Waiter). Stepped owner p e (with_cell p (record c { inner = begun_next less n; last = max c.last now })))
          (λ why. one_cell owner p e (record c { inner = less; last = max c.last now }) p.drawn s running
          (record {
            sound = open_sound _ less_well a no_close;
            comes = λ _. inl (at.had a);
            done = λ q. record {
              foreign = (at.done q).foreign;
              free = λ z k. none_waits p c.key (may_begin owner p c) less (λ own. and_from _ _ (and_from _ _ (ap is_open q) own) (ap not k)) (at.done q).foreign why z;
            };
            limits = less_within p c (record c { inner = less; last = max c.last now }) s there (record { key = refl; depth = refl; calls = ended_gets c.inner call });
            held = at.held;
            drawn = omega arith;
          }))
          (λ m z w n. one_cell owner p e (record c { inner = begun_next less (Some w); last = max c.last now }) p.drawn s running
          (record {
            sound = open_sound _ (begun_sound less w less_well z n) a no_close;
            comes = λ _. inl (at.had a);
            done = λ q. record {
              foreign = λ o. begun_waiters less w ((at.done q).foreign o);
              free = λ y. absurd (not_nil_after less.turns _ y);
            };
            limits = less_within p c (record c { inner = begun_next less (Some w); last = max c.last now }) s there
                (record { key = refl; depth = refl; calls = λ m h. ended_gets c.inner call m (begun_gets less w n m h) });
            held = at.held;
            drawn = omega arith;
          }))

  -- ---- holds

  pub hold_stepped : (p : PartState) (e : PartEvent) (key : ActorKey) (found : Option ActorCell) → cell_at p.cells key ≡ found → IsPartSound owner p → (p.stage ≡ Stopped → ⊥) → Stepped owner p e (Part.hold_cell owner p found).part
  hold_stepped p e key None f s running = stays owner p e s
  hold_stepped p e key (Some c) f s running =
      let there = In-cell_at p.cells key c f in
      let at = at_found owner p c s there in
      let x : ActorCell = record c { inner = with_hold c.inner } in
      let same = less_within p c x s there (record { key = refl; depth = refl; calls = λ n h. h }) in
      cond_both (c.active && not c.closing) _ _ (λ (x : PartStep). Stepped owner p e x.part)
      (λ awake. cond_both (is_spent p) _ _ (λ (x : PartStep). Stepped owner p e x.part) (λ _. stays owner p e s)
      (λ u.
      let opened = not-true c.closing (and_parts c.active (not c.closing) awake).1 in
      let more = leb-false most_drawn p.drawn u in
      one_cell owner p e x (p.drawn + 1) s running
      (record {
        sound = less_sound c _ at.sound (holds_keep c.inner (c.inner.holds + 1) at.sound.sound).sound (λ t i. i) refl (λ k. absurd (true≢false (sym k ∙ opened)));
        comes = λ a. inl (at.had a);
        done = λ q. record { foreign = (at.done q).foreign; free = (at.done q).free };
        limits = more_within p.kinds p.drawn (keep_cell p.cells x) same (p.drawn + 1) (omega arith) (omega arith);
        held = (let k = at.held in omega arith);
        drawn = omega arith;
      })))
      (λ _. stays owner p e s)

  pub release_stepped : (p : PartState) (e : PartEvent) (key : ActorKey) (now : ℕ) (found : Option ActorCell) → cell_at p.cells key ≡ found → IsPartSound owner p → (p.stage ≡ Stopped → ⊥) → Stepped owner p e (Part.release_cell owner p now found).part
  release_stepped p e key now None f s running = stays owner p e s
  release_stepped p e key now (Some c) f s running =
      let there = In-cell_at p.cells key c f in
      let at = at_found owner p c s there in
      cond_both (c.inner.holds == 0) _ _ (λ (x : PartStep). Stepped owner p e x.part)
      (λ _. stays owner p e s)
      (λ _. one_cell owner p e (record c { inner = without_hold c.inner; last = max c.last now }) p.drawn s running
      (record {
        sound = less_sound c _ at.sound (holds_keep c.inner (c.inner.holds - 1) at.sound.sound).sound (λ t i. i) refl
            (λ k. (let g = closing_facts c at.sound k in (g.0, g.1, (let z = g.2 in omega arith))));
        comes = λ a. inl (at.had a);
        done = λ q. record { foreign = (at.done q).foreign; free = (at.done q).free };
        limits = less_within p c (record c { inner = without_hold c.inner; last = max c.last now }) s there (record { key = refl; depth = refl; calls = λ n h. h });
        held = (let k = at.held in omega arith);
        drawn = omega arith;
      }))

  -- ---- deactivation

  pub In-first_to_close : (p : PartState) (now : ℕ) (cs : List ActorCell) (c : ActorCell) → Part.first_to_close owner p now cs ≡ Some c → In c cs × (Part.may_close owner p now c ≡ true)
  In-first_to_close p now [] c e = absurd (cc)
  In-first_to_close p now (d ∷ cs) c e =
      let more = In-first_to_close p now cs c in
      cond_both (Part.may_close owner p now d) _ _ (λ r. r ≡ Some c → In c (d ∷ cs) × (Part.may_close owner p now c ≡ true))
      (λ m q. let same : d ≡ c = cc in (inl (sym same), subst (λ (z : ActorCell). Part.may_close owner p now z ≡ true) same m))
      (λ _ q. let k = more q in (inr k.0, k.1)) e

  pub take_stepped : (p : PartState) (e : PartEvent) (now : ℕ) (found : Option ActorCell) → Part.first_to_close owner p now p.cells ≡ found → IsPartSound owner p → (p.stage ≡ Stopped → ⊥) → Stepped owner p e (Part.close_cell owner p found).part
  take_stepped p e now None f s running = stays owner p e s
  take_stepped p e now (Some c) f s running =
      let found = In-first_to_close p now p.cells c f in
      let at = at_found owner p c s found.0 in
      let h = and_parts (c.active && not c.closing) _ found.1 in
      let a = and_parts c.active (not c.closing) h.0 in
      let k = and_parts (is_free c.inner && (c.inner.holds == 0)) _ h.1 in
      let free = and_parts (is_free c.inner) (c.inner.holds == 0) k.0 in
      one_cell owner p e (record c { closing = true }) p.drawn s running
      (record {
        sound = less_sound c _ at.sound at.sound.sound (λ t i. i) refl (λ _. (a.0, free_turns c.inner free.0, eqb-true c.inner.holds 0 free.1));
        comes = λ x. inl (at.had x);
        done = λ q. record { foreign = (at.done q).foreign; free = λ z n. absurd (true≢false n) };
        limits = less_within p c (record c { closing = true }) s found.0 (record { key = refl; depth = refl; calls = λ n h. h });
        held = at.held;
        drawn = omega arith;
      })

  pub closed_stepped : (p : PartState) (e : PartEvent) (key : ActorKey) (found : Option ActorCell) → cell_at p.cells key ≡ found → IsPartSound owner p → (p.stage ≡ Stopped → ⊥) → Stepped owner p e (Part.closed_cell owner p found).part
  closed_stepped p e key None f s running = stays owner p e s
  closed_stepped p e key (Some c) f s running =
      let there = In-cell_at p.cells key c f in
      let at = at_found owner p c s there in
      cond_both c.closing _ _ (λ (x : PartStep). Stepped owner p e x.part)
      (λ k.
      let was = at.sound.closing_free k in
      next_cases (is_open p.stage && is_own owner p c.key) c.inner (λ (n : Option Waiter). Stepped owner p e (Part.closed_with owner p c n).part)
      (λ why. one_cell owner p e (record c { active = false; closing = false }) p.drawn s running
      (record {
        sound = record {
          sound = at.sound.sound;
          open_active = λ t i. absurd (subst (λ (ts : List Turn). In t ts) was i);
          closing_active = λ x. absurd (false≢true x);
          closing_free = λ x. absurd (false≢true x);
          closing_unheld = λ x. absurd (false≢true x);
        };
        comes = λ a. absurd (false≢true a);
        done = λ q. record {
          foreign = (at.done q).foreign;
          free = λ z _. none_waits p c.key (is_open p.stage && is_own owner p c.key) c.inner (λ own. and_from _ _ (ap is_open q) own) (at.done q).foreign why z;
        };
        limits = less_within p c (record c { active = false; closing = false }) s there (record { key = refl; depth = refl; calls = λ n h. h });
        held = at.held;
        drawn = omega arith;
      }))
      (λ m z w n.
      let b = and_parts (is_open p.stage) (is_own owner p c.key) m in
      one_cell owner p e (record c { inner = begun_next c.inner (Some w); active = true; closing = false }) p.drawn s running
      (record {
        sound = open_sound _ (begun_sound c.inner w at.sound.sound z n) refl (λ x. false≢true x);
        comes = λ _. inr (open_stage p.stage b.0, b.1);
        done = λ q. record {
          foreign = λ o. begun_waiters c.inner w ((at.done q).foreign o);
          free = λ y. absurd (not_nil_after c.inner.turns _ y);
        };
        limits = less_within p c (record c { inner = begun_next c.inner (Some w); active = true; closing = false }) s there (record { key = refl; depth = refl; calls = begun_gets c.inner w n });
        held = at.held;
        drawn = omega arith;
      })))
      (λ _. stays owner p e s)
