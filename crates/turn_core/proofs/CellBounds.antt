-- The bodies of a cell's calls agree with the rule: the cell that each leaves, and that it keeps its ranges.
use Rattle.std.proofs.Common.{◌≡◌, ℕ, Bool, true, false, ◌&&◌, ◌+◌, ◌<◌, ◌≤◌, List, [], ◌∷◌, ◌++◌, length, get_or, Option, None, Some, IsSome, refl, sym, ap, subst, ◌∙◌, arith, position, length-append}
use Rattle.std.specs.Prelude.{◌==◌, remove, option_map}
use Rattle.std.proofs.lemmas.Bool.{cond_both, cond-true, cond-false, or_parts}
use Rattle.std.proofs.lemmas.List.{append-nil}
use Rattle.turn_core.specs.declared.cell.Turn.{Turn}
use Rattle.turn_core.specs.declared.cell.Waiter.{Waiter}
use Rattle.std.specs.declared.result.Result.TheVariants.{Ok}
use Rattle.turn_core.specs.declared.answer.Asked.TheVariants as asked
use Rattle.turn_core.specs.declared.answer.CellEnd.TheVariants as ending
use Rattle.turn_core.specs.declared.answer.CellPoll.TheVariants as polled
use Rattle.turn_core.specs.Cell.{CellState, AskStep, admit_call, EndStep, PollStep, longest_queue, is_in_cell, is_free, is_open_chain, kept_chain, has_turn, without_turn, waiter_of, without_waiter, first_unmoved, without_first_unmoved, all_moved, begun_turns, begun_next, next_call, call_of, without_call, not_open, cell_end, poll_waiter, cell_poll}
use Rattle.turn_core.specs.CellSound.{FitsDepth, IsCellSound, IsCellKept}
use Rattle.turn_core.proofs.Elements.{In-without_waiter}
use Rattle.turn_core.proofs.CellSteps.{kept_chain-fits, ask_cases}
use Rattle.turn_core.proofs.CellKeeps.{queue_sound, turn_begins, enters_beside, enters_free, waits_sound, without_call_sound, next_begins, moves_keep}
use Rattle.turn_core.proofs.Once.{begun_once, waits_once, ended_once, taken_once, next_once, moved_once}
use Rattle.turn_core.proofs.Places.{of_waiter, waiter_of-found, waiter_of-missed, without_waiter-found, place_of-found}

-- ---- the first call in the queue begins

without_first-none : (ws : List Waiter) → first_unmoved ws ≡ None → without_first_unmoved ws ≡ ws
without_first-none [] e = refl
without_first-none (w ∷ ws) e =
    let more = without_first-none ws in
    cond_both w.moved _ _ (λ r. r ≡ None → without_first_unmoved (w ∷ ws) ≡ w ∷ ws)
    (λ m q. cond-true w.moved _ _ m ∙ ap (λ (vs : List Waiter). w ∷ vs) (more q))
    (λ m q. absurd (cc)) e

length-without_first : (ws : List Waiter) → length (without_first_unmoved ws) ≤ length ws
length-without_first [] = omega arith
length-without_first (w ∷ ws) =
    let more = length-without_first ws in
    cond_both w.moved _ _ (λ r. length r ≤ length (w ∷ ws)) (λ _. omega arith) (λ _. omega arith)

length-without_waiter : (call : ℕ) (ws : List Waiter) → length (without_waiter call ws) ≤ length ws
length-without_waiter call [] = omega arith
length-without_waiter call (w ∷ ws) =
    let more = length-without_waiter call ws in
    cond_both (call == w.call) _ _ (λ r. length r ≤ length (w ∷ ws)) (λ _. omega arith) (λ _. omega arith)

length-all_moved : (ws : List Waiter) → length (all_moved ws) ≡ length ws
length-all_moved [] = refl
length-all_moved (w ∷ ws) = let more = length-all_moved ws in omega arith

begun_parts : (c : CellState) (next : Option Waiter) → first_unmoved c.queue ≡ next
    → record c { turns = c.turns ++ begun_turns next; queue = without_first_unmoved c.queue } ≡ begun_next c next
begun_parts c None e =
    let p = append-nil c.turns in
    let q = without_first-none c.queue e in
    λ i. record c { turns = p i; queue = q i }
begun_parts c (Some w) e = refl

pub begun_cell : (c : CellState) (turns : List Turn) (queue : List Waiter) → turns ≡ c.turns ++ begun_turns (first_unmoved c.queue) → queue ≡ without_first_unmoved c.queue
    → record c { turns = turns; queue = queue } ≡ begun_next c (first_unmoved c.queue)
begun_cell c turns queue p q =
    let whole : record c { turns = turns; queue = queue } ≡ record c { turns = c.turns ++ begun_turns (first_unmoved c.queue); queue = without_first_unmoved c.queue } = λ i. record c { turns = p i; queue = q i } in
    whole ∙ begun_parts c (first_unmoved c.queue) refl

queue-begun_next : (c : CellState) (next : Option Waiter) → length (begun_next c next).queue ≤ length c.queue
queue-begun_next c None = omega arith
queue-begun_next c (Some w) = length-without_first c.queue

holds-begun_next : (c : CellState) (next : Option Waiter) → (begun_next c next).holds ≡ c.holds
holds-begun_next c None = refl
holds-begun_next c (Some w) = refl

depth-begun_next : (c : CellState) (next : Option Waiter) → (begun_next c next).depth ≡ c.depth
depth-begun_next c None = refl
depth-begun_next c (Some w) = refl

pub begun_kept : (c : CellState) (turns : List Turn) (queue : List Waiter) → IsCellKept c → c.turns ≡ [] → turns ≡ c.turns ++ begun_turns (first_unmoved c.queue) → queue ≡ without_first_unmoved c.queue
    → IsCellKept (record c { turns = turns; queue = queue })
begun_kept c turns queue k free p q =
    let d : CellState = begun_next c (first_unmoved c.queue) in
    let b = queue-begun_next c (first_unmoved c.queue) in
    let h = holds-begun_next c (first_unmoved c.queue) in
    let e = depth-begun_next c (first_unmoved c.queue) in
    let kept : IsCellKept d = record {
      sound = (next_begins c (first_unmoved c.queue) k.sound free refl).sound;
      once = next_once c (first_unmoved c.queue) refl k.once;
      depth_fits = (let l = k.depth_fits in omega arith);
      queue_fits = (let l = k.queue_fits in omega arith);
      holds_fit = (let l = k.holds_fit in omega arith);
    } in
    subst (λ (s : CellState). IsCellKept s) (sym (begun_cell c turns queue p q)) kept

-- ---- ask

asked_kept : (c : CellState) (call : ℕ) (chain kept : Option (List ℕ)) (turns : List Turn) → IsCellKept c → is_in_cell call c ≡ false → (0 < c.depth → IsSome chain) → kept ≡ kept_chain c chain
    → is_open_chain c kept ≡ true → length c.turns < c.depth → turns ≡ c.turns ++ record { call = call; chain = kept } ∷ [] → IsCellKept (record c { turns = turns })
asked_kept c call chain kept turns k absent given same o l p =
    let fits : FitsDepth c.depth kept = subst (λ (z : Option (List ℕ)). FitsDepth c.depth z) (sym same) (kept_chain-fits c chain given) in
    let begun = turn_begins c call kept k.sound fits (enters_beside c kept k.sound fits o l) in
    subst (λ (ts : List Turn). IsCellKept (record c { turns = ts })) (sym p)
    (record { sound = begun.sound; once = begun_once c call kept k.once absent; depth_fits = k.depth_fits; queue_fits = k.queue_fits; holds_fit = k.holds_fit })

-- the same for a call that begins in a free cell
freed_kept : (c : CellState) (call : ℕ) (chain kept : Option (List ℕ)) (turns : List Turn) → IsCellKept c → is_in_cell call c ≡ false → (0 < c.depth → IsSome chain) → kept ≡ kept_chain c chain
    → c.turns ≡ [] → turns ≡ c.turns ++ record { call = call; chain = kept } ∷ [] → IsCellKept (record c { turns = turns })
freed_kept c call chain kept turns k absent given same free p =
    let fits : FitsDepth c.depth kept = subst (λ (z : Option (List ℕ)). FitsDepth c.depth z) (sym same) (kept_chain-fits c chain given) in
    let begun = turn_begins c call kept k.sound fits (enters_free c.depth c.turns kept free) in
    subst (λ (ts : List Turn). IsCellKept (record c { turns = ts })) (sym p)
    (record { sound = begun.sound; once = begun_once c call kept k.once absent; depth_fits = k.depth_fits; queue_fits = k.queue_fits; holds_fit = k.holds_fit })

waits_kept : (c : CellState) (call : ℕ) (chain kept : Option (List ℕ)) (queue : List Waiter) → IsCellKept c → is_in_cell call c ≡ false → (0 < c.depth → IsSome chain) → kept ≡ kept_chain c chain
    → length c.queue < longest_queue → queue ≡ c.queue ++ record { call = call; chain = kept; moved = false } ∷ [] → IsCellKept (record c { queue = queue })
waits_kept c call chain kept queue k absent given same l p =
    let fits : FitsDepth c.depth kept = subst (λ (z : Option (List ℕ)). FitsDepth c.depth z) (sym same) (kept_chain-fits c chain given) in
    subst (λ (ws : List Waiter). IsCellKept (record c { queue = ws })) (sym p)
    (record {
      sound = waits_sound c call kept k.sound fits;
      once = waits_once c call kept k.once absent;
      depth_fits = k.depth_fits;
      queue_fits = (let q : length (c.queue ++ record { call = call; chain = kept; moved = false } ∷ []) ≡ length c.queue + 1 = simp length-append in omega arith);
      holds_fit = k.holds_fit;
    })

-- the call begins, as it may
pub begins_kept : (c : CellState) (call : ℕ) (chain kept : Option (List ℕ)) (may_begin : Bool) (turns : List Turn) → IsCellKept c → is_in_cell call c ≡ false → (0 < c.depth → IsSome chain) → kept ≡ kept_chain c chain
    → (admit_call c call chain may_begin).answer ≡ Ok asked.Begun → turns ≡ c.turns ++ record { call = call; chain = kept } ∷ [] → IsCellKept (record c { turns = turns })
begins_kept c call chain kept may_begin turns k absent given same begun p =
    ask_cases c call chain may_begin (λ (s : AskStep). s.answer ≡ Ok asked.Begun → IsCellKept (record c { turns = turns }))
    (λ o l e. asked_kept c call chain kept turns k absent given same (ap (λ (z : Option (List ℕ)). is_open_chain c z) same ∙ o) l p)
    (λ e. absurd (cc))
    (λ free m e. freed_kept c call chain kept turns k absent given same free p)
    (λ l e. absurd (cc))
    (λ e. absurd (cc))
    begun

-- the call joins the queue, as it may
pub joins_kept : (c : CellState) (call : ℕ) (chain kept : Option (List ℕ)) (may_begin : Bool) (queue : List Waiter) (place : ℕ) → IsCellKept c → is_in_cell call c ≡ false → (0 < c.depth → IsSome chain) → kept ≡ kept_chain c chain
    → (admit_call c call chain may_begin).answer ≡ Ok (asked.Waits place) → queue ≡ c.queue ++ record { call = call; chain = kept; moved = false } ∷ [] → IsCellKept (record c { queue = queue })
joins_kept c call chain kept may_begin queue place k absent given same waits p =
    ask_cases c call chain may_begin (λ (s : AskStep). s.answer ≡ Ok (asked.Waits place) → IsCellKept (record c { queue = queue }))
    (λ o l e. absurd (cc))
    (λ e. absurd (cc))
    (λ free m e. absurd (cc))
    (λ l e. waits_kept c call chain kept queue k absent given same l p)
    (λ e. absurd (cc))
    waits

-- ---- end

without_turn-absent : (call : ℕ) (ts : List Turn) → has_turn call ts ≡ false → without_turn call ts ≡ ts
without_turn-absent call [] e = refl
without_turn-absent call (t ∷ ts) e =
    let h = or_parts (call == t.call) (has_turn call ts) e in
    cond-false (call == t.call) _ _ h.0 ∙ ap (λ (us : List Turn). t ∷ us) (without_turn-absent call ts h.1)

pub ended_kept : (c : CellState) (call : ℕ) (turns : List Turn) → IsCellKept c → turns ≡ without_turn call c.turns → IsCellKept (record c { turns = turns })
ended_kept c call turns k p =
    subst (λ (ts : List Turn). IsCellKept (record c { turns = ts })) (sym p)
    (record { sound = without_call_sound c call k.sound; once = ended_once c call k.once; depth_fits = k.depth_fits; queue_fits = k.queue_fits; holds_fit = k.holds_fit })

end_of_absent : (c : CellState) (call : ℕ) (may_begin : Bool) → has_turn call c.turns ≡ false → cell_end c call may_begin ≡ record { cell = c; answer = not_open (waiter_of call c.queue) }
end_of_absent c call may_begin e = cond-false (has_turn call c.turns) _ _ e

pub absent_cell : (c : CellState) (call : ℕ) (may_begin : Bool) (turns : List Turn) → has_turn call c.turns ≡ false → turns ≡ without_turn call c.turns → record c { turns = turns } ≡ (cell_end c call may_begin).cell
absent_cell c call may_begin turns e p =
    let q = p ∙ without_turn-absent call c.turns e in
    ap (λ (ts : List Turn). record c { turns = ts }) q ∙ sym (ap (λ (s : EndStep). s.cell) (end_of_absent c call may_begin e))

-- the step of an end with the call that begins after it
end_of_open : (c : CellState) (call : ℕ) (may_begin : Bool) (next : Option Waiter) → has_turn call c.turns ≡ true → next_call may_begin (without_call c call) ≡ next
    → cell_end c call may_begin ≡ record { cell = begun_next (without_call c call) next; answer = ending.Ended (option_map call_of next) }
end_of_open c call may_begin next e n =
    cond-true (has_turn call c.turns) _ _ e
    ∙ ap (λ (r : Option Waiter). let s : EndStep = record { cell = begun_next (without_call c call) r; answer = ending.Ended (option_map call_of r) } in s) n

next_first : (c : CellState) (call : ℕ) (may_begin : Bool) → may_begin ≡ true → without_turn call c.turns ≡ [] → next_call may_begin (without_call c call) ≡ first_unmoved c.queue
next_first c call may_begin m free =
    let t = ap (λ (b : Bool). b && is_free (without_call c call)) m in
    let f = ap (λ (ts : List Turn). length ts == 0) free in
    cond-true (may_begin && is_free (without_call c call)) _ _ (t ∙ f)

pub next_cell : (c : CellState) (call : ℕ) (may_begin : Bool) (ended turns : List Turn) (queue : List Waiter) → has_turn call c.turns ≡ true → may_begin ≡ true → ended ≡ without_turn call c.turns → ended ≡ []
    → turns ≡ ended ++ begun_turns (first_unmoved c.queue) → queue ≡ without_first_unmoved c.queue
    → record c { turns = turns; queue = queue } ≡ (cell_end c call may_begin).cell
next_cell c call may_begin ended turns queue e m same free p q =
    begun_cell (without_call c call) turns queue (p ∙ ap (λ (ts : List Turn). ts ++ begun_turns (first_unmoved c.queue)) same) q
    ∙ sym (ap (λ (s : EndStep). s.cell) (end_of_open c call may_begin (first_unmoved c.queue) e (next_first c call may_begin m (sym same ∙ free))))

-- ---- poll

poll_in_queue : (c : CellState) (call : ℕ) (found : Option Waiter) → has_turn call c.turns ≡ false → waiter_of call c.queue ≡ found → cell_poll c call ≡ poll_waiter c call found
poll_in_queue c call found e w = cond-false (has_turn call c.turns) _ _ e ∙ ap (λ (r : Option Waiter). poll_waiter c call r) w

pub poll_gone : (c : CellState) (call : ℕ) → has_turn call c.turns ≡ false → position (of_waiter call) c.queue ≡ None → cell_poll c call ≡ record { cell = c; answer = polled.Gone }
poll_gone c call e p = poll_in_queue c call None e (waiter_of-missed call c.queue p)

pub poll_moved : (c : CellState) (call i : ℕ) (w : Waiter) → has_turn call c.turns ≡ false → position (of_waiter call) c.queue ≡ Some i → w ≡ get_or c.queue i w → w.moved ≡ true
    → cell_poll c call ≡ record { cell = record c { queue = remove c.queue i }; answer = polled.Moved }
poll_moved c call i w e p read m =
    poll_in_queue c call (Some w) e (waiter_of-found call c.queue i w p ∙ ap (λ (z : Waiter). Some z) (sym read))
    ∙ cond-true w.moved _ _ m
    ∙ ap (λ (ws : List Waiter). let s : PollStep = record { cell = record c { queue = ws }; answer = polled.Moved } in s) (without_waiter-found call c.queue i p)

pub poll_waits : (c : CellState) (call i : ℕ) (w : Waiter) → has_turn call c.turns ≡ false → position (of_waiter call) c.queue ≡ Some i → w ≡ get_or c.queue i w → w.moved ≡ false
    → cell_poll c call ≡ record { cell = c; answer = polled.Waits (i + 1) }
poll_waits c call i w e p read m =
    poll_in_queue c call (Some w) e (waiter_of-found call c.queue i w p ∙ ap (λ (z : Waiter). Some z) (sym read))
    ∙ cond-false w.moved _ _ m
    ∙ ap (λ (n : ℕ). let s : PollStep = record { cell = c; answer = polled.Waits n } in s) (place_of-found call c.queue i p)

pub polled_kept : (c : CellState) (call i : ℕ) (queue : List Waiter) → IsCellKept c → position (of_waiter call) c.queue ≡ Some i → queue ≡ remove c.queue i → IsCellKept (record c { queue = queue })
polled_kept c call i queue k p q =
    let same = q ∙ sym (without_waiter-found call c.queue i p) in
    subst (λ (ws : List Waiter). IsCellKept (record c { queue = ws })) (sym same)
    (record {
      sound = taken_sound;
      once = taken_once c call k.once;
      depth_fits = k.depth_fits;
      queue_fits = (let l = length-without_waiter call c.queue in let m = k.queue_fits in omega arith);
      holds_fit = k.holds_fit;
    })
  where
    taken_sound : IsCellSound (record c { queue = without_waiter call c.queue })
    taken_sound = queue_sound c _ k.sound (λ w j. k.sound.queue_fit w (In-without_waiter call c.queue w j))

-- ---- the queue is moved

pub moved_kept : (c : CellState) (queue : List Waiter) → IsCellKept c → queue ≡ all_moved c.queue → IsCellKept (record c { queue = queue })
moved_kept c queue k p =
    subst (λ (ws : List Waiter). IsCellKept (record c { queue = ws })) (sym p)
    (record {
      sound = (moves_keep c k.sound).sound;
      once = moved_once c k.once;
      depth_fits = k.depth_fits;
      queue_fits = (let l = length-all_moved c.queue in let m = k.queue_fits in omega arith);
      holds_fit = k.holds_fit;
    })
