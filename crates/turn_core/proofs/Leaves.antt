-- Which calls leave a cell at an end, at a poll and where every turn ends, and which stay where a call begins or is moved.
use Rattle.std.proofs.Common.{◌≡◌, ◌⊎◌, ℕ, ◌+◌, Bool, true, false, ◌&&◌, ◌||◌, List, [], ◌∷◌, ◌++◌, length, Option, Some, None, is_some, refl, sym, ap, ◌∙◌, inl, inr, arith, length-append}
use Rattle.std.specs.Prelude.{◌==◌, option_map}
use Rattle.std.proofs.lemmas.Bool.{cond_both, cond-true, cond-false, or_cases, eqb-true, true≢false}
use Rattle.turn_core.specs.declared.cell.Turn.{Turn}
use Rattle.turn_core.specs.declared.cell.Waiter.{Waiter}
use Rattle.turn_core.specs.declared.answer.CellEnd.TheVariants as ending
use Rattle.turn_core.specs.declared.answer.CellPoll.TheVariants as polled
use Rattle.turn_core.specs.Cell.{CellState, EndStep, PollStep, has_turn, without_turn, waiter_of, without_waiter, first_unmoved, without_first_unmoved, all_moved, is_free, next_call, begun_next, call_of, without_call, not_open, cell_end, poll_waiter, cell_poll, is_in_cell, without_turns, with_queue_moved}
use Rattle.turn_core.specs.CellSound.{turns_of, waiters_of, times_in, HasCallsOnce}
use Rattle.turn_core.proofs.Once.{one_of, turns_of-push, waiters_of-first, waiters_of-all_moved}
use Rattle.turn_core.proofs.Presence.{calls_of, LeavesCell, KeepsCalls, open_only}

-- ---- the next call begins

length-first : (ws : List Waiter) (w : Waiter) → first_unmoved ws ≡ Some w → length (without_first_unmoved ws) + 1 ≡ length ws
length-first [] w e = absurd (cc)
length-first (v ∷ ws) w e =
    let more = length-first ws w in
    cond_both v.moved (first_unmoved ws) (Some v) (λ r. r ≡ Some w → length (without_first_unmoved (v ∷ ws)) + 1 ≡ length (v ∷ ws))
    (λ t q. (let step' : without_first_unmoved (v ∷ ws) ≡ v ∷ without_first_unmoved ws = cond-true v.moved _ _ t in rw step' (let h = more q in omega arith)))
    (λ f q. (let step' : without_first_unmoved (v ∷ ws) ≡ ws = cond-false v.moved _ _ f in rw step' (omega arith)))
    e

pub next_keeps : (c : CellState) (next : Option Waiter) → (next ≡ None) ⊎ (next ≡ first_unmoved c.queue) → KeepsCalls c (begun_next c next)
next_keeps c None h = record { times = λ n. refl; as_many = refl }
next_keeps c (Some w) (inl e) = absurd (cc)
next_keeps c (Some w) (inr e) =
    record {
      times = λ n. (
          let p = turns_of-push n c.turns (record { call = w.call; chain = w.chain }) in
          let q = waiters_of-first n c.queue w (sym e) in
          omega arith
          );
      as_many = (
          let l = length-first c.queue w (sym e) in
          let t : length (c.turns ++ record { call = w.call; chain = w.chain } ∷ []) ≡ length c.turns + 1 = simp length-append in
          omega arith
          );
    }

next_cases : (b : Bool) (c : CellState) → (next_call b c ≡ None) ⊎ (next_call b c ≡ first_unmoved c.queue)
next_cases b c = cond_both (b && is_free c) _ _ (λ (r : Option Waiter). (r ≡ None) ⊎ (r ≡ first_unmoved c.queue)) (λ _. inr refl) (λ _. inl refl)

pub begins_keeps : (b : Bool) (c : CellState) → KeepsCalls c (begun_next c (next_call b c))
begins_keeps b c = next_keeps c (next_call b c) (next_cases b c)

-- ---- waiting calls are moved

length-all_moved : (ws : List Waiter) → length (all_moved ws) ≡ length ws
length-all_moved [] = refl
length-all_moved (w ∷ ws) = let more = length-all_moved ws in omega arith

pub moved_keeps : (c : CellState) → KeepsCalls c (with_queue_moved c)
moved_keeps c =
    record {
      times = λ n. (let p = waiters_of-all_moved n c.queue in omega arith);
      as_many = (let l = length-all_moved c.queue in omega arith);
    }

-- ---- an end

turns_of-ended : (n call : ℕ) (ts : List Turn) → has_turn call ts ≡ true → turns_of n (without_turn call ts) + one_of n call ≡ turns_of n ts
turns_of-ended n call [] h = absurd (true≢false (sym h))
turns_of-ended n call (t ∷ ts) h =
    cond_both (call == t.call) _ _ (λ r. turns_of n r + one_of n call ≡ one_of n t.call + turns_of n ts)
    (λ s. (let q : one_of n call ≡ one_of n t.call = ap (one_of n) (eqb-true call t.call s) in omega arith))
    (λ f. (let more = turns_of-ended n call ts (elim (or_cases (call == t.call) _ h) [ inl l ↦ absurd (true≢false (sym l ∙ f)) | inr r ↦ r ]) in omega arith))

length-ended : (call : ℕ) (ts : List Turn) → has_turn call ts ≡ true → length (without_turn call ts) + 1 ≡ length ts
length-ended call [] h = absurd (true≢false (sym h))
length-ended call (t ∷ ts) h =
    cond_both (call == t.call) _ _ (λ r. length r + 1 ≡ length (t ∷ ts)) (λ _. omega arith)
    (λ f. (let more = length-ended call ts (elim (or_cases (call == t.call) _ h) [ inl l ↦ absurd (true≢false (sym l ∙ f)) | inr r ↦ r ]) in omega arith))

not_ended : (found : Option Waiter) (next : Option ℕ) → not_open found ≡ ending.Ended next → ⊥
not_ended None next e = cc
not_ended (Some w) next e = cc

module _ (c : CellState) (call : ℕ) (b : Bool) (next : Option ℕ) (e : (cell_end c call b).answer ≡ ending.Ended next) where
  -- the turn was open
  pub ended_open : has_turn call c.turns ≡ true
  ended_open = cond_both (has_turn call c.turns) _ _ (λ (s : EndStep). s.answer ≡ ending.Ended next → has_turn call c.turns ≡ true) (λ h _. h) (λ _ q. absurd (not_ended (waiter_of call c.queue) next q)) e

  step : cell_end c call b ≡ record { cell = begun_next (without_call c call) (next_call b (without_call c call)); answer = ending.Ended (option_map call_of (next_call b (without_call c call))) }
  step = cond-true (has_turn call c.turns) _ _ ended_open

  pub ended_leaves : LeavesCell call c (cell_end c call b).cell
  ended_leaves =
      let m = begins_keeps b (without_call c call) in
      record {
        times = λ n. (
            let t = m.times n in
            let l = turns_of-ended n call c.turns ended_open in
            let q = ap (λ (s : EndStep). times_in n s.cell) step in
            omega arith
            );
        fewer = (
            let t = m.as_many in
            let l = length-ended call c.turns ended_open in
            let q = ap (λ (s : EndStep). calls_of s.cell) step in
            omega arith
            );
      }

-- an end that ended nothing changes nothing
pub end_not : (c : CellState) (call : ℕ) (b : Bool) → ((next : Option ℕ) → (cell_end c call b).answer ≡ ending.Ended next → ⊥) → (cell_end c call b).cell ≡ c
end_not c call b h =
    cond_both (has_turn call c.turns) _ _ (λ (s : EndStep). ((next : Option ℕ) → s.answer ≡ ending.Ended next → ⊥) → s.cell ≡ c)
    (λ _ q. absurd (q _ refl)) (λ _ _. refl) h

pub waits_not : (next : Option ℕ) → ending.StillWaiting ≡ ending.Ended next → ⊥
waits_not next e = cc

pub gone_not : (next : Option ℕ) → ending.AlreadyEnded ≡ ending.Ended next → ⊥
gone_not next e = cc

-- ---- a moved call is polled

waiters_of-polled : (n call : ℕ) (ws : List Waiter) (w : Waiter) → waiter_of call ws ≡ Some w → waiters_of n (without_waiter call ws) + one_of n call ≡ waiters_of n ws
waiters_of-polled n call [] w e = absurd (cc)
waiters_of-polled n call (v ∷ ws) w e =
    let more = waiters_of-polled n call ws w in
    cond_both (call == v.call) (Some v) (waiter_of call ws) (λ r. r ≡ Some w → waiters_of n (without_waiter call (v ∷ ws)) + one_of n call ≡ one_of n v.call + waiters_of n ws)
    (λ s _. (let q : one_of n call ≡ one_of n v.call = ap (one_of n) (eqb-true call v.call s) in let rest = ap (λ (us : List Waiter). waiters_of n us) (cond-true (call == v.call) ws (v ∷ without_waiter call ws) s) in omega arith))
    (λ f q. (let rest = ap (λ (us : List Waiter). waiters_of n us) (cond-false (call == v.call) ws (v ∷ without_waiter call ws) f) in let m = more q in omega arith)) e

length-polled : (call : ℕ) (ws : List Waiter) (w : Waiter) → waiter_of call ws ≡ Some w → length (without_waiter call ws) + 1 ≡ length ws
length-polled call [] w e = absurd (cc)
length-polled call (v ∷ ws) w e =
    let more = length-polled call ws w in
    cond_both (call == v.call) (Some v) (waiter_of call ws) (λ r. r ≡ Some w → length (without_waiter call (v ∷ ws)) + 1 ≡ length (v ∷ ws))
    (λ s _. (let rest = ap (λ (us : List Waiter). length us) (cond-true (call == v.call) ws (v ∷ without_waiter call ws) s) in omega arith))
    (λ f q. (let rest = ap (λ (us : List Waiter). length us) (cond-false (call == v.call) ws (v ∷ without_waiter call ws) f) in let m = more q in omega arith)) e

polled_at : (c : CellState) (call : ℕ) (found : Option Waiter) → waiter_of call c.queue ≡ found → (poll_waiter c call found).answer ≡ polled.Moved → (w : Waiter) × (waiter_of call c.queue ≡ Some w) × ((poll_waiter c call found).cell ≡ record c { queue = without_waiter call c.queue })
polled_at c call None e h = absurd (cc)
polled_at c call (Some w) e h =
    cond_both w.moved (record { cell = record c { queue = without_waiter call c.queue }; answer = polled.Moved }) _
    (λ (s : PollStep). s.answer ≡ polled.Moved → (v : Waiter) × (waiter_of call c.queue ≡ Some v) × (s.cell ≡ record c { queue = without_waiter call c.queue }))
    (λ _ _. (w, e, refl)) (λ _ q. absurd (cc)) h

module _ (c : CellState) (call : ℕ) (e : (cell_poll c call).answer ≡ polled.Moved) where
  -- the call waited, and the queue is shorter by it
  pub polled_waits : (w : Waiter) × (waiter_of call c.queue ≡ Some w) × ((cell_poll c call).cell ≡ record c { queue = without_waiter call c.queue })
  polled_waits =
      cond_both (has_turn call c.turns) (record { cell = c; answer = polled.Begun }) (poll_waiter c call (waiter_of call c.queue))
      (λ (s : PollStep). s.answer ≡ polled.Moved → (w : Waiter) × (waiter_of call c.queue ≡ Some w) × (s.cell ≡ record c { queue = without_waiter call c.queue }))
      (λ _ q. absurd (cc)) (λ _ q. polled_at c call (waiter_of call c.queue) refl q) e

  pub polled_leaves : LeavesCell call c (cell_poll c call).cell
  polled_leaves =
      let p = polled_waits in
      record {
        times = λ n. (
            let l = waiters_of-polled n call c.queue p.0 p.1 in
            let q = ap (λ (d : CellState). times_in n d) p.2 in
            omega arith
            );
        fewer = (
            let l = length-polled call c.queue p.0 p.1 in
            let q = ap (λ (d : CellState). calls_of d) p.2 in
            omega arith
            );
      }

  pub turns-polled : (cell_poll c call).cell.turns ≡ c.turns
  turns-polled = let p = polled_waits in ap (λ (d : CellState). d.turns) p.2

-- ---- every turn ends

pub stopped_queue : (n : ℕ) (c : CellState) → HasCallsOnce c → has_turn n c.turns ≡ true → is_in_cell n (without_turns c) ≡ false
stopped_queue n c once h = open_only n c once h

pub stopped_others : (n : ℕ) (c : CellState) → has_turn n c.turns ≡ false → is_in_cell n (without_turns c) ≡ is_in_cell n c
stopped_others n c f = λ i. sym f i || is_some (waiter_of n c.queue)
