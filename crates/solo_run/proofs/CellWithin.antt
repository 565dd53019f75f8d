-- A cell of a world keeps within the numbers of the calls and the events so far.
use Rattle.std.proofs.Common.{◌≡◌, ◌≤◌, ◌+◌, ℕ, Bool, true, false, eqb, ◌&&◌, List, [], ◌∷◌, ◌++◌, length, Option, None, Some, is_some, refl, arith}
use Rattle.std.proofs.lemmas.Bool.{ne_eqb, cond_both, or_parts}
use Rattle.turn_core.specs.declared.cell.Turn.{Turn}
use Rattle.turn_core.specs.declared.cell.Waiter.{Waiter}
use Rattle.turn_core.specs.Cell.{CellState, AskStep, EndStep, PollStep, new_cell, has_turn, without_turn, waiter_of, without_waiter, first_unmoved, without_first_unmoved, is_in_cell, kept_chain, with_turn, admit_call, begun_next, next_call, without_call, cell_end, poll_waiter, cell_poll, with_hold, without_hold}
use Rattle.turn_core.proofs.CellSteps.{ask_cases}
use Rattle.solo_run.specs.WorldTold.{IsCellWithin}
use Rattle.solo_run.specs.World.{ask_at, chain_for}

-- a call is neither open nor in the queue
record IsAbsent (call : ℕ) (turns : List Turn) (queue : List Waiter) : Type 0 where
  no_turn : has_turn call turns ≡ false
  no_waiter : is_some (waiter_of call queue) ≡ false

absent : (call : ℕ) (c : CellState) → is_in_cell call c ≡ false → IsAbsent call c.turns c.queue
absent call c h = let p = or_parts (has_turn call c.turns) (is_some (waiter_of call c.queue)) h in record { no_turn = p.0; no_waiter = p.1 }

not_in : (call : ℕ) (c : CellState) → IsAbsent call c.turns c.queue → is_in_cell call c ≡ false
not_in call c a = rw (a.no_turn, a.no_waiter)

-- ---- turns

turn_push : (call : ℕ) (ts : List Turn) (t : Turn) → has_turn call ts ≡ false → eqb call t.call ≡ false → has_turn call (ts ++ t ∷ []) ≡ false
turn_push call [] t h e = rw e
turn_push call (u ∷ ts) t h e =
    let p = or_parts (eqb call u.call) (has_turn call ts) h in
    rw (p.0, turn_push call ts t p.1 e)

turn_less : (call gone : ℕ) (ts : List Turn) → has_turn call ts ≡ false → has_turn call (without_turn gone ts) ≡ false
turn_less call gone [] h = refl
turn_less call gone (t ∷ ts) h =
    let p = or_parts (eqb call t.call) (has_turn call ts) h in
    cond_both (eqb gone t.call) ts (t ∷ without_turn gone ts) (λ (us : List Turn). has_turn call us ≡ false)
    (λ e. p.1)
    (λ e. rw (p.0, turn_less call gone ts p.1))

-- ---- the queue

waiter_here : (call : ℕ) (w : Waiter) (ws : List Waiter) → is_some (waiter_of call (w ∷ ws)) ≡ false → (eqb call w.call ≡ false) × (is_some (waiter_of call ws) ≡ false)
waiter_here call w ws h = by (eqb call w.call) refl
  where
    by : (b : Bool) → eqb call w.call ≡ b → (eqb call w.call ≡ false) × (is_some (waiter_of call ws) ≡ false)
    by true e = let found : true ≡ false = rw e at h in absurd (cc)
    by false e = (e, rw e at h)

waiter_push : (call : ℕ) (ws : List Waiter) (w : Waiter) → is_some (waiter_of call ws) ≡ false → eqb call w.call ≡ false → is_some (waiter_of call (ws ++ w ∷ [])) ≡ false
waiter_push call [] w h e = rw e
waiter_push call (v ∷ ws) w h e = let p = waiter_here call v ws h in rw (p.0, waiter_push call ws w p.1 e)

waiter_next : (call : ℕ) (ws : List Waiter) → is_some (waiter_of call ws) ≡ false → is_some (waiter_of call (without_first_unmoved ws)) ≡ false
waiter_next call [] h = refl
waiter_next call (w ∷ ws) h =
    let p = waiter_here call w ws h in
    cond_both w.moved (w ∷ without_first_unmoved ws) ws (λ (vs : List Waiter). is_some (waiter_of call vs) ≡ false)
    (λ e. rw (p.0, waiter_next call ws p.1))
    (λ e. p.1)

waiter_less : (call gone : ℕ) (ws : List Waiter) → is_some (waiter_of call ws) ≡ false → is_some (waiter_of call (without_waiter gone ws)) ≡ false
waiter_less call gone [] h = refl
waiter_less call gone (w ∷ ws) h =
    let p = waiter_here call w ws h in
    cond_both (eqb gone w.call) ws (w ∷ without_waiter gone ws) (λ (vs : List Waiter). is_some (waiter_of call vs) ≡ false)
    (λ e. p.1)
    (λ e. rw (p.0, waiter_less call gone ws p.1))

first_other : (call : ℕ) (ws : List Waiter) (w : Waiter) → is_some (waiter_of call ws) ≡ false → first_unmoved ws ≡ Some w → eqb call w.call ≡ false
first_other call [] w h e = absurd (cc)
first_other call (v ∷ ws) w h e =
    let p = waiter_here call v ws h in
    let more = first_other call ws w p.1 in
    cond_both v.moved _ _ (λ r. r ≡ Some w → eqb call w.call ≡ false) (λ _ q. more q) (λ _ q. let same : v ≡ w = cc in rw (← same) p.0) e

-- ---- the steps of a cell

begun_absent : (call : ℕ) (c : CellState) (next : Option Waiter) → IsAbsent call c.turns c.queue → ((w : Waiter) → next ≡ Some w → eqb call w.call ≡ false) → is_in_cell call (begun_next c next) ≡ false
begun_absent call c None a other = not_in call c a
begun_absent call c (Some w) a other =
    rw (turn_push call c.turns (record { call = w.call; chain = w.chain }) a.no_turn (other w refl), waiter_next call c.queue a.no_waiter)

next_other : (call : ℕ) (c : CellState) (may_begin : Bool) (w : Waiter) → IsAbsent call c.turns c.queue → next_call may_begin c ≡ Some w → eqb call w.call ≡ false
next_other call c may_begin w a e = by (may_begin && eqb (length c.turns) 0) refl
  where
    by : (b : Bool) → (may_begin && eqb (length c.turns) 0) ≡ b → eqb call w.call ≡ false
    by true f = first_other call c.queue w a.no_waiter (rw f at e)
    by false f = let found : ◌≡◌ {A = Option Waiter} None (Some w) = rw f at e in absurd (cc)

pub end_absent : (call ended : ℕ) (may_begin : Bool) (c : CellState) → is_in_cell call c ≡ false → is_in_cell call (cell_end c ended may_begin).cell ≡ false
end_absent call ended may_begin c h =
    let a = absent call c h in
    let less : IsAbsent call (without_call c ended).turns (without_call c ended).queue = record { no_turn = turn_less call ended c.turns a.no_turn; no_waiter = a.no_waiter } in
    cond_both (has_turn ended c.turns) _ _ (λ (s : EndStep). is_in_cell call s.cell ≡ false)
    (λ e. begun_absent call (without_call c ended) (next_call may_begin (without_call c ended)) less (λ w f. next_other call (without_call c ended) may_begin w less f))
    (λ e. h)

pub poll_absent : (call polled : ℕ) (c : CellState) → is_in_cell call c ≡ false → is_in_cell call (cell_poll c polled).cell ≡ false
poll_absent call polled c h =
    cond_both (has_turn polled c.turns) _ _ (λ (s : PollStep). is_in_cell call s.cell ≡ false)
    (λ e. h)
    (λ e. by (waiter_of polled c.queue))
  where
    by : (next : Option Waiter) → is_in_cell call (poll_waiter c polled next).cell ≡ false
    by None = h
    by (Some w) =
        let a = absent call c h in
        cond_both w.moved _ _ (λ (s : PollStep). is_in_cell call s.cell ≡ false)
        (λ e. rw (a.no_turn, waiter_less call polled c.queue a.no_waiter))
        (λ e. h)

pub ask_absent : (call number : ℕ) (chain : Option (List ℕ)) (may_begin : Bool) (c : CellState) → is_in_cell call c ≡ false → eqb call number ≡ false → is_in_cell call (admit_call c number chain may_begin).cell ≡ false
ask_absent call number chain may_begin c h other =
    let a = absent call c h in
    let begun : is_in_cell call (with_turn c number (kept_chain c chain)) ≡ false = rw (turn_push call c.turns (record { call = number; chain = kept_chain c chain }) a.no_turn other, a.no_waiter) in
    ask_cases c number chain may_begin (λ (s : AskStep). is_in_cell call s.cell ≡ false)
    (λ _ _. begun)
    h
    (λ _ _. begun)
    (λ _. rw (a.no_turn, waiter_push call c.queue (record { call = number; chain = kept_chain c chain; moved = false }) a.no_waiter other))
    h

-- ---- holds

end_holds : (c : CellState) (call : ℕ) (may_begin : Bool) → (cell_end c call may_begin).cell.holds ≡ c.holds
end_holds c call may_begin =
    cond_both (has_turn call c.turns) _ _ (λ (s : EndStep). s.cell.holds ≡ c.holds) (λ e. by (next_call may_begin (without_call c call))) (λ e. refl)
  where
    by : (next : Option Waiter) → (begun_next (without_call c call) next).holds ≡ c.holds
    by None = refl
    by (Some w) = refl

poll_holds : (c : CellState) (call : ℕ) → (cell_poll c call).cell.holds ≡ c.holds
poll_holds c call =
    cond_both (has_turn call c.turns) _ _ (λ (s : PollStep). s.cell.holds ≡ c.holds) (λ e. refl) (λ e. by (waiter_of call c.queue))
  where
    by : (next : Option Waiter) → (poll_waiter c call next).cell.holds ≡ c.holds
    by None = refl
    by (Some w) = cond_both w.moved _ _ (λ (s : PollStep). s.cell.holds ≡ c.holds) (λ e. refl) (λ e. refl)

ask_holds : (c : CellState) (call : ℕ) (chain : Option (List ℕ)) (may_begin : Bool) → (admit_call c call chain may_begin).cell.holds ≡ c.holds
ask_holds c call chain may_begin =
    ask_cases c call chain may_begin (λ (s : AskStep). s.cell.holds ≡ c.holds) (λ _ _. refl) refl (λ _ _. refl) (λ _. refl) refl

-- ---- a cell within its world's counts

pub ended_within : (calls events call : ℕ) (c : CellState) → IsCellWithin calls events c → IsCellWithin calls (events + 1) (cell_end c call true).cell
ended_within calls events call c w =
    record {
      numbered = λ n h. end_absent n call true c (w.numbered n h);
      held = rw (end_holds c call true) (let h = w.held in omega arith);
    }

pub polled_within : (calls events call : ℕ) (c : CellState) → IsCellWithin calls events c → IsCellWithin calls (events + 1) (cell_poll c call).cell
polled_within calls events call c w =
    record {
      numbered = λ n h. poll_absent n call c (w.numbered n h);
      held = rw (poll_holds c call) (let h = w.held in omega arith);
    }

pub held_within : (calls events : ℕ) (c : CellState) → IsCellWithin calls events c → IsCellWithin calls (events + 1) (with_hold c)
held_within calls events c w = record { numbered = w.numbered; held = let h = w.held in omega arith }

pub released_within : (calls events : ℕ) (c : CellState) → IsCellWithin calls events c → IsCellWithin calls (events + 1) (without_hold c)
released_within calls events c w = record { numbered = w.numbered; held = let h = w.held in omega arith }

pub asked_within : (calls events : ℕ) (chain : Option (List ℕ)) (c : CellState) → IsCellWithin calls events c → IsCellWithin (calls + 1) (events + 1) (ask_at c (calls + 1) chain).cell
asked_within calls events chain c w =
    record {
      numbered = λ n h. ask_absent n (calls + 1) (chain_for c.depth (calls + 1) chain) true c (w.numbered n (omega arith)) (ne_eqb n (calls + 1) (λ e. omega arith));
      held = rw (ask_holds c (calls + 1) (chain_for c.depth (calls + 1) chain) true) (let h = w.held in omega arith);
    }

pub new_within : (calls events depth : ℕ) → IsCellWithin calls events (new_cell depth)
new_within calls events depth = record { numbered = λ n h. refl; held = omega arith }

-- a cell within some counts is within greater ones
pub later_within : (calls events calls' events' : ℕ) (c : CellState) → calls ≤ calls' → events ≤ events' → IsCellWithin calls events c → IsCellWithin calls' events' c
later_within calls events calls' events' c more most w = record { numbered = λ n h. w.numbered n (omega arith); held = let h = w.held in omega arith }
