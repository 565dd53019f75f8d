-- Each call of a cell keeps it sound, and the turns that it begins enter beside those that are open.
use Rattle.std.proofs.Common.{◌≡◌, ℕ, Bool, true, false, if◌then◌else◌, ◌&&◌, ◌<◌, List, [], ◌∷◌, ◌++◌, length, Option, None, Some, IsSome, refl, sym, ap, subst, ◌∙◌, inl, inr, arith, length-append}
use Rattle.std.specs.Prelude.{nat_lt, ◌==◌, option_map}
use Rattle.std.proofs.lemmas.Bool.{and_parts, eq-eqb, ltb-true, cond_both, cond-true}
use Rattle.turn_core.specs.declared.cell.Turn.{Turn}
use Rattle.turn_core.specs.declared.cell.Waiter.{Waiter}
use Rattle.turn_core.specs.declared.answer.CellEnd.TheVariants as ending
use Rattle.turn_core.specs.Cell.{CellState, AskStep, EndStep, PollStep, new_cell, is_free, is_first_chain, is_open_chain, kept_chain, has_turn, without_turn, waiter_of, first_unmoved, without_first_unmoved, with_turn, with_waiter, admit_call, begun_next, cell_begin_next, next_call, call_of, without_call, not_open, cell_end, poll_waiter, cell_poll, with_queue_moved, without_turns}
use Rattle.turn_core.specs.CellMarks.{TurnMark, Began, Ended, open_after, asked_marks, ask_marks, next_marks, end_marks, begin_marks, ended_marks, end_all_marks}
use Rattle.turn_core.specs.CellSound.{In, FitsDepth, IsCellSound}
use Rattle.turn_core.proofs.Elements.{In-push, In-without_turn, In-without_waiter, In-without_first, chain-all_moved, length-without_turn}
use Rattle.turn_core.proofs.Overlaps.{Enters, EntersAll}
use Rattle.turn_core.proofs.CellSteps.{free_turns, first_chain, kept_chain-fits, ask_cases, In-first_unmoved}

-- From these open turns, at this depth, a call left the cell `after` and added these marks.
pub record KeepsTurns (depth : ℕ) (turns : List Turn) (after : CellState) (marks : List TurnMark) : Type 0 where
  pub same_depth : after.depth ≡ depth
  pub sound : IsCellSound after
  pub enters : EntersAll depth turns marks
  pub opens : open_after turns marks ≡ after.turns

pub new_cell_sound : (depth : ℕ) → IsCellSound (new_cell depth)
new_cell_sound depth = record { one_chain = λ t u i j. absurd i; within = omega arith; turns_fit = λ t i. absurd i; queue_fit = λ w i. absurd i }

-- ---- soundness by parts

pub queue_sound : (c : CellState) (queue : List Waiter) → IsCellSound c → ((w : Waiter) → In w queue → FitsDepth c.depth w.chain) → IsCellSound (record c { queue = queue })
queue_sound c queue s fits = record { one_chain = s.one_chain; within = s.within; turns_fit = s.turns_fit; queue_fit = fits }

holds_sound : (c : CellState) (holds : ℕ) → IsCellSound c → IsCellSound (record c { holds = holds })
holds_sound c holds s = record { one_chain = s.one_chain; within = s.within; turns_fit = s.turns_fit; queue_fit = s.queue_fit }

pub without_call_sound : (c : CellState) (call : ℕ) → IsCellSound c → IsCellSound (without_call c call)
without_call_sound c call s =
    record {
      one_chain = λ t u i j. s.one_chain t u (In-without_turn call c.turns t i) (In-without_turn call c.turns u j);
      within = (let l = length-without_turn call c.turns in let h = s.within in omega arith);
      turns_fit = λ t i. s.turns_fit t (In-without_turn call c.turns t i);
      queue_fit = s.queue_fit;
    }

without_first-fits : (c : CellState) → IsCellSound c → (w : Waiter) → In w (without_first_unmoved c.queue) → FitsDepth c.depth w.chain
without_first-fits c s w i = s.queue_fit w (In-without_first c.queue w i)

-- ---- a turn begins, or nothing happens to the turns

pub stays : (c : CellState) → IsCellSound c → KeepsTurns c.depth c.turns c []
stays c s = record { same_depth = refl; sound = s; enters = tt; opens = refl }

pub turn_begins : (c : CellState) (call : ℕ) (chain : Option (List ℕ)) → IsCellSound c → FitsDepth c.depth chain → Enters c.depth c.turns chain
    → KeepsTurns c.depth c.turns (with_turn c call chain) (Began call chain ∷ [])
turn_begins c call chain s fits e =
    let new : Turn = record { call = call; chain = chain } in
    let of_chain : (t : Turn) → In t (c.turns ++ new ∷ []) → t.chain ≡ chain =
    λ t i. elim (In-push c.turns new t i) [ inl l ↦ (e.same t l).0 | inr r ↦ ap (λ (z : Turn). z.chain) r ] in
    record {
      same_depth = refl;
      sound = record {
        one_chain = λ t u i j. of_chain t i ∙ sym (of_chain u j);
        within = (let h = e.few in simp length-append (omega arith));
        turns_fit = λ t i. subst (λ (z : Option (List ℕ)). FitsDepth c.depth z) (sym (of_chain t i)) fits;
        queue_fit = s.queue_fit;
      };
      enters = (e, tt);
      opens = refl;
    }

-- any turn may begin if none is open
pub enters_free : (depth : ℕ) (turns : List Turn) (chain : Option (List ℕ)) → turns ≡ [] → Enters depth turns chain
enters_free depth turns chain free =
    subst (λ (ts : List Turn). Enters depth ts chain) (sym free) (record { same = λ t i. absurd i; few = omega arith })

-- ---- the calls

-- a call enters beside the turns of its own chain, if the depth allows it
pub enters_beside : (c : CellState) (chain : Option (List ℕ)) → IsCellSound c → FitsDepth c.depth chain → is_open_chain c chain ≡ true → length c.turns < c.depth → Enters c.depth c.turns chain
enters_beside c chain s fits o l =
    let h = and_parts (nat_lt 0 c.depth) (is_first_chain c.turns chain) o in
    let first = first_chain c.turns chain h.1 in
    record {
      same = λ t i. (s.one_chain t first.0 i first.1 ∙ first.2, fits ∙ h.0, ltb-true 0 c.depth h.0);
      few = omega arith;
    }

pub waits_sound : (c : CellState) (call : ℕ) (chain : Option (List ℕ)) → IsCellSound c → FitsDepth c.depth chain → IsCellSound (with_waiter c call chain)
waits_sound c call chain s fits =
    queue_sound c _ s (λ w i. elim (In-push c.queue _ w i) [ inl old ↦ s.queue_fit w old | inr new ↦ subst (λ (z : Option (List ℕ)). FitsDepth c.depth z) (sym (ap (λ (z : Waiter). z.chain) new)) fits ])

pub ask_keeps : (c : CellState) (call : ℕ) (chain : Option (List ℕ)) (may_begin : Bool) → IsCellSound c → (0 < c.depth → IsSome chain)
    → KeepsTurns c.depth c.turns (admit_call c call chain may_begin).cell (ask_marks c call chain may_begin)
ask_keeps c call chain may_begin s given =
    let kept = kept_chain c chain in
    let fits = kept_chain-fits c chain given in
    ask_cases c call chain may_begin (λ (a : AskStep). KeepsTurns c.depth c.turns a.cell (asked_marks call (kept_chain c chain) a.answer))
    (λ o l. turn_begins c call kept s fits (enters_beside c kept s fits o l))
    (stays c s)
    (λ free m. turn_begins c call kept s fits (enters_free c.depth c.turns kept free))
    (λ l. record { same_depth = refl; sound = waits_sound c call kept s fits; enters = tt; opens = refl })
    (stays c s)

-- the next call begins in a free cell
pub next_begins : (c : CellState) (next : Option Waiter) → IsCellSound c → c.turns ≡ [] → first_unmoved c.queue ≡ next
    → KeepsTurns c.depth c.turns (begun_next c next) (next_marks next)
next_begins c None s free e = stays c s
next_begins c (Some w) s free e =
    turn_begins (record c { queue = without_first_unmoved c.queue }) w.call w.chain
    (queue_sound c (without_first_unmoved c.queue) s (without_first-fits c s))
    (s.queue_fit w (In-first_unmoved c.queue w e))
    (enters_free c.depth c.turns w.chain free)

pub begin_keeps : (c : CellState) → IsCellSound c → c.turns ≡ [] → KeepsTurns c.depth c.turns (cell_begin_next c) (begin_marks c)
begin_keeps c s free = next_begins c (first_unmoved c.queue) s free refl

next_keeps : (c : CellState) (may_begin : Bool) → IsCellSound c → KeepsTurns c.depth c.turns (begun_next c (next_call may_begin c)) (next_marks (next_call may_begin c))
next_keeps c may_begin s =
    cond_both (may_begin && is_free c) _ _ (λ r. KeepsTurns c.depth c.turns (begun_next c r) (next_marks r))
    (λ b. begin_keeps c s (free_turns c (and_parts may_begin (is_free c) b).1))
    (λ _. stays c s)

pub end_keeps : (c : CellState) (call : ℕ) (may_begin : Bool) → IsCellSound c → KeepsTurns c.depth c.turns (cell_end c call may_begin).cell (end_marks c call may_begin)
end_keeps c call may_begin s =
    let k = next_keeps (without_call c call) may_begin (without_call_sound c call s) in
    elim (has_turn call c.turns) as (λ (open_turn : Bool).
    let ended : EndStep = record { cell = begun_next (without_call c call) (next_call may_begin (without_call c call)); answer = ending.Ended (option_map call_of (next_call may_begin (without_call c call))) } in
    let kept : EndStep = record { cell = c; answer = not_open (waiter_of call c.queue) } in
    let step : EndStep = if open_turn then ended else kept in
    KeepsTurns c.depth c.turns step.cell (if open_turn then Ended call ∷ next_marks (next_call may_begin (without_call c call)) else [])) [
      | true ↦ record { same_depth = k.same_depth; sound = k.sound; enters = k.enters; opens = k.opens }
      | false ↦ stays c s
    ]

pub poll_keeps : (c : CellState) (call : ℕ) → IsCellSound c → KeepsTurns c.depth c.turns (cell_poll c call).cell []
poll_keeps c call s =
    cond_both (has_turn call c.turns) _ _ (λ (p : PollStep). KeepsTurns c.depth c.turns p.cell []) (λ _. stays c s) (λ _. go (waiter_of call c.queue))
  where
    go : (found : Option Waiter) → KeepsTurns c.depth c.turns (poll_waiter c call found).cell []
    go None = stays c s
    go (Some w) =
        cond_both w.moved _ _ (λ (p : PollStep). KeepsTurns c.depth c.turns p.cell [])
        (λ _. record { same_depth = refl; sound = queue_sound c _ s (λ v i. s.queue_fit v (In-without_waiter call c.queue v i)); enters = tt; opens = refl })
        (λ _. stays c s)

pub holds_keep : (c : CellState) (holds : ℕ) → IsCellSound c → KeepsTurns c.depth c.turns (record c { holds = holds }) []
holds_keep c holds s = record { same_depth = refl; sound = holds_sound c holds s; enters = tt; opens = refl }

pub moves_keep : (c : CellState) → IsCellSound c → KeepsTurns c.depth c.turns (with_queue_moved c) []
moves_keep c s =
    record {
      same_depth = refl;
      sound = queue_sound c _ s (λ w i. let m = chain-all_moved c.queue w i in subst (λ (z : Option (List ℕ)). FitsDepth c.depth z) m.2 (s.queue_fit m.0 m.1));
      enters = tt;
      opens = refl;
    }

-- ---- every open turn ends

ended_enter : (depth : ℕ) (turns ended : List Turn) → EntersAll depth turns (ended_marks ended)
ended_enter depth turns [] = tt
ended_enter depth turns (t ∷ ended) = ended_enter depth (without_turn t.call turns) ended

ended_open : (turns : List Turn) → open_after turns (ended_marks turns) ≡ []
ended_open [] = refl
ended_open (t ∷ turns) =
    let first : without_turn t.call (t ∷ turns) ≡ turns = cond-true (t.call == t.call) _ _ (eq-eqb t.call t.call refl) in
    ap (λ (ts : List Turn). open_after ts (ended_marks turns)) first ∙ ended_open turns

pub end_all_keeps : (c : CellState) → IsCellSound c → KeepsTurns c.depth c.turns (without_turns c) (end_all_marks c)
end_all_keeps c s =
    record {
      same_depth = refl;
      sound = record { one_chain = λ t u i j. absurd i; within = omega arith; turns_fit = λ t i. absurd i; queue_fit = s.queue_fit };
      enters = ended_enter c.depth c.turns c.turns;
      opens = ended_open c.turns;
    }
