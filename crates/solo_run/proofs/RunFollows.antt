-- The state of a run against its log: its counts, its calls, and what each actor's cell holds.
use Rattle.std.proofs.Common.{◌≡◌, inl, inr, ◌<◌, ◌+◌, ◌-◌, ◌^◌, ◌==◌, eqb, ℕ, Bool, true, false, List, [], ◌∷◌, ◌++◌, length, Option, None, Some, Result, Ok, Err, refl, sym, ap, subst, ◌∙◌, arith, append_assoc, append-nil}
use Rattle.std.proofs.lemmas.Bool.{cond_both, eqb-true}
use Rattle.std.proofs.lemmas.List.{length_push}
use Rattle.turn_core.specs.declared.answer.Asked.{Asked}
use Rattle.turn_core.specs.declared.answer.CellError.{CellError}
use Rattle.actor_names.specs.Names.{before_slash}
use Rattle.turn_core.specs.Cell.{CellState, new_cell, cell_end, cell_poll, with_hold, without_hold}
use Rattle.world_events.specs.Solo.{SoloEvent, Call, End, Poll, Hold, Release}
use Rattle.world_events.specs.declared.outcome.TurnOutcome.{TurnOutcome}
use Rattle.world_events.specs.declared.outcome.TurnOutcome.TheVariants as out
use Rattle.world_events.specs.declared.error.WorldError.{WorldError}
use Rattle.solo_run.specs.World.{SoloState, Actor, WorldStep, TypeDepth, cell_at, put_cell, cell_for, key_of_call, ask_at, asked_key, depth_of, call_step, unchanged, end_at, poll_at, at_cell, at_key, at_call, hold_step, release_step, solo_step, refusal_of}
use Rattle.solo_run.specs.Runs.{Said, said_of, after_event, run_from, log_from, state_with, solo_run, solo_log}
use Rattle.solo_run.specs.TurnsTold.{call_in, asked_call, number_in, numbers_of, CountsFromOne, NoIdleWaiter}
use Rattle.solo_run.proofs.LogLemmas.{asked-found, asked-later, call_in-own, call_in-other, numbers_of-push, counts-push, key-push}
use Rattle.solo_run.proofs.Actors.{EachCell, each_at, each_put, each_for}
use Rattle.solo_run.proofs.CellFollows.{CellFollows, new_follows, ask_follows, end_follows, poll_follows, holds_follow, longer_follows}

-- a call that isn't refused has the next number
pub next_number : (w : SoloState) (n : ℕ) (key : List ℕ) (chain : Option (List ℕ)) → refusal_of w (Call n key chain) ≡ None → n ≡ length w.calls + 1
next_number w n key chain h = by (eqb w.events (2 ^ 62)) refl (eqb n (length w.calls + 1)) refl
  where
    by : (spent : Bool) → eqb w.events (2 ^ 62) ≡ spent → (next : Bool) → eqb n (length w.calls + 1) ≡ next → n ≡ length w.calls + 1
    by true e next p = let refused = rw e at h in absurd (cc)
    by false e true p = eqb-true n (length w.calls + 1) p
    by false e false p = let refused = rw (e, p) at h in absurd (cc)

-- an event at the cell of a call, if there is one
pub at_call_cases : (w : SoloState) (step : List ℕ → CellState → WorldStep) (call : ℕ) (P : WorldStep → Type 0) → P (unchanged w out.NotThere)
    → ((key : List ℕ) (cell : CellState) → key_of_call call w.calls ≡ Some key → cell_at key w.actors ≡ Some cell → P (step key cell)) → P (at_call w step call)
at_call_cases w step call P none each = by_key (key_of_call call w.calls) refl
  where
    by_cell : (key : List ℕ) (found : Option CellState) → key_of_call call w.calls ≡ Some key → cell_at key w.actors ≡ found → P (at_cell w step key found)
    by_cell key None k e = none
    by_cell key (Some cell) k e = each key cell k e

    by_key : (found : Option (List ℕ)) → key_of_call call w.calls ≡ found → P (at_key w step found)
    by_key None k = none
    by_key (Some key) k = by_cell key (cell_at key w.actors) k refl

-- the log has this call of this actor
pub record AsksOf (log : List Said) (n : ℕ) (key : List ℕ) : Type 0 where
  pub chain : Option (List ℕ)
  pub asked : asked_call n log ≡ Some (record { key = key; chain = chain })

pub record Follows (depths : List TypeDepth) (log : List Said) (w : SoloState) : Type 0 where
  pub same_depths : w.depths ≡ depths
  pub cells : EachCell (CellFollows depths log) w.actors
  pub later : (n : ℕ) → length w.calls < n → asked_call n log ≡ None
  pub asked : (n : ℕ) (key : List ℕ) → key_of_call n w.calls ≡ Some key → AsksOf log n key
  pub counted : w.events ≡ length log
  pub each_call : length (numbers_of log) ≡ length w.calls
  pub numbered : CountsFromOne (numbers_of log)

module _ (depths : List TypeDepth) (log : List Said) (w : SoloState) (f : Follows depths log w) where
  -- the cells are as before, under a longer log
  longer : (more : List Said) → EachCell (CellFollows depths (log ++ more)) w.actors
  longer more a i = longer_follows depths log a.key more a.cell (f.cells a i)

  put : (more : List Said) (key : List ℕ) (cell : CellState) → CellFollows depths (log ++ more) key cell → EachCell (CellFollows depths (log ++ more)) (put_cell key cell w.actors)
  put more key cell here = each_put (CellFollows depths (log ++ more)) key cell w.actors (longer more) here

  -- the cell of an actor, under a longer log
  here : (more : List Said) (key : List ℕ) (cell : CellState) → cell_at key w.actors ≡ Some cell → CellFollows depths (log ++ more) key cell
  here more key cell e = each_at (CellFollows depths (log ++ more)) key cell w.actors (longer more) e

  -- ---- an event that asks no call

  quiet : (event : SoloEvent) (outcome : TurnOutcome) (actors : List Actor) → ((n : ℕ) → call_in n event ≡ None) → number_in event ≡ []
      → EachCell (CellFollows depths (log ++ record { event = event; outcome = outcome } ∷ [])) actors
      → Follows depths (log ++ record { event = event; outcome = outcome } ∷ []) (record w { actors = actors; events = w.events + 1 })
  quiet event outcome actors silent no_number cells =
      let said : Said = record { event = event; outcome = outcome } in
      let same : numbers_of (log ++ said ∷ []) ≡ numbers_of log = numbers_of-push log said ∙ ap (λ (ns : List ℕ). numbers_of log ++ ns) no_number ∙ append-nil (numbers_of log) in
      let counted = f.counted in
      record {
        same_depths = f.same_depths;
        cells = cells;
        later = λ n h. asked-later n log (said ∷ []) (f.later n h) ∙ none n;
        asked = λ n key h. (let a = f.asked n key h in record { chain = a.chain; asked = asked-found n (record { key = key; chain = a.chain }) log (said ∷ []) a.asked });
        counted = omega (arith, length_push log said);
        each_call = ap length same ∙ f.each_call;
        numbered = subst (λ (ns : List ℕ). CountsFromOne ns) (sym same) f.numbered;
      }
    where
      none : (n : ℕ) → asked_call n (record { event = event; outcome = outcome } ∷ []) ≡ None
      none n = rw (silent n)

  -- the event came, and its step was this one
  abbrev pub After : SoloEvent → WorldStep → Type 0
  After event step = Follows depths (log ++ record { event = event; outcome = step.outcome } ∷ []) step.world

  end_after : (call : ℕ) → After (End call) (at_call w (end_at w call) call)
  end_after call =
      at_call_cases w (end_at w call) call (After (End call))
      (quiet (End call) out.NotThere w.actors (λ n. refl) refl (longer _))
      (λ key cell k e. quiet (End call) _ (put_cell key (cell_end cell call true).cell w.actors) (λ n. refl) refl (put _ key (cell_end cell call true).cell (end_follows depths _ key cell call (here _ key cell e))))

  poll_after : (call : ℕ) → After (Poll call) (at_call w (poll_at w call) call)
  poll_after call =
      at_call_cases w (poll_at w call) call (After (Poll call))
      (quiet (Poll call) out.NotThere w.actors (λ n. refl) refl (longer _))
      (λ key cell k e. quiet (Poll call) _ (put_cell key (cell_poll cell call).cell w.actors) (λ n. refl) refl (put _ key (cell_poll cell call).cell (poll_follows depths _ key cell call (here _ key cell e))))

  hold_after : (key : List ℕ) (found : Option CellState) → cell_at key w.actors ≡ found → After (Hold key) (hold_step w key found)
  hold_after key None e = quiet (Hold key) out.NotActive w.actors (λ n. refl) refl (longer _)
  hold_after key (Some cell) e =
      quiet (Hold key) out.Held (put_cell key (with_hold cell) w.actors) (λ n. refl) refl (put _ key (with_hold cell) (holds_follow depths _ key cell (cell.holds + 1) (here _ key cell e)))

  release_after : (key : List ℕ) (found : Option CellState) → cell_at key w.actors ≡ found → After (Release key) (release_step w key found)
  release_after key None e = quiet (Release key) out.NotHeld w.actors (λ n. refl) refl (longer _)
  release_after key (Some cell) e =
      cond_both (cell.holds == 0) _ _ (After (Release key))
      (λ _. quiet (Release key) out.NotHeld w.actors (λ n. refl) refl (longer _))
      (λ _. quiet (Release key) out.Released (put_cell key (without_hold cell) w.actors) (λ n. refl) refl (put _ key (without_hold cell) (holds_follow depths _ key cell (cell.holds - 1) (here _ key cell e))))

  -- ---- a call

  module _ (n : ℕ) (key : List ℕ) (chain : Option (List ℕ)) (next : n ≡ length w.calls + 1) where
    -- the log has the call from its event on
    pub asked_now : (outcome : TurnOutcome) (more : List Said) → asked_call n (log ++ record { event = Call n key chain; outcome = outcome } ∷ more) ≡ Some (record { key = key; chain = chain })
    asked_now outcome more =
        asked-later n log (record { event = Call n key chain; outcome = outcome } ∷ more) (f.later n (omega (arith, next))) ∙ first
      where
        first : asked_call n (record { event = Call n key chain; outcome = outcome } ∷ more) ≡ Some (record { key = key; chain = chain })
        first = rw (call_in-own n key chain)

    call_after : After (Call n key chain) (call_step w n key chain)
    call_after =
        let cell = cell_for w.depths key w.actors in
        let answer = (ask_at cell n chain).answer in
        let step = call_step w n key chain in
        let said : Said = record { event = Call n key chain; outcome = step.outcome } in
        let found : CellFollows depths (log ++ said ∷ []) key cell =
        each_for (CellFollows depths (log ++ said ∷ [])) w.depths key w.actors (longer (said ∷ [])) new in
        let counted = f.counted in
        let each_call = f.each_call in
        record {
          same_depths = f.same_depths;
          cells = put (said ∷ []) key (ask_at cell n chain).cell (ask_follows depths (log ++ said ∷ []) key cell n chain found (asked_now step.outcome []));
          later = λ m h. later_still step.outcome m (omega (arith, length_push w.calls (asked_key key answer), h));
          asked = λ m k h. asked_still step.outcome answer m k h;
          counted = omega (arith, length_push log said);
          each_call = ap length (numbers_of-push log said) ∙ omega (arith, length_push (numbers_of log) n, length_push w.calls (asked_key key answer));
          numbered = subst (λ (ns : List ℕ). CountsFromOne ns) (sym (numbers_of-push log said)) (counts-push (numbers_of log) n f.numbered (omega (arith, next)));
        }
      where
        new : CellFollows depths (log ++ record { event = Call n key chain; outcome = (call_step w n key chain).outcome } ∷ []) key (new_cell (depth_of (before_slash key) w.depths))
        new = subst (λ (ds : List TypeDepth). CellFollows depths (log ++ record { event = Call n key chain; outcome = (call_step w n key chain).outcome } ∷ []) key (new_cell (depth_of (before_slash key) ds))) (sym f.same_depths) (new_follows depths _ key)

        later_still : (outcome : TurnOutcome) (m : ℕ) → length w.calls + 1 < m → asked_call m (log ++ record { event = Call n key chain; outcome = outcome } ∷ []) ≡ None
        later_still outcome m h = asked-later m log (record { event = Call n key chain; outcome = outcome } ∷ []) (f.later m (omega arith)) ∙ none
          where
            none : asked_call m (record { event = Call n key chain; outcome = outcome } ∷ []) ≡ None
            none = rw (call_in-other m n key chain (λ e. omega (arith, next, e)))

        asked_still : (outcome : TurnOutcome) (answer : Result Asked CellError) (m : ℕ) (k : List ℕ) → key_of_call m (w.calls ++ asked_key key answer ∷ []) ≡ Some k
            → AsksOf (log ++ record { event = Call n key chain; outcome = outcome } ∷ []) m k
        asked_still outcome answer m k h =
            elim (key-push m w.calls (asked_key key answer) k h) [
              | inl before ↦ (let a = f.asked m k before in record { chain = a.chain; asked = asked-found m (record { key = k; chain = a.chain }) log (record { event = Call n key chain; outcome = outcome } ∷ []) a.asked })
              | inr last ↦ now answer (last.0 ∙ sym next) last.1
            ]
          where
            now : (r : Result Asked CellError) → m ≡ n → asked_key key r ≡ Some k → AsksOf (log ++ record { event = Call n key chain; outcome = outcome } ∷ []) m k
            now (Ok a) is e =
                let same : key ≡ k = cc in
                record { chain = chain; asked = rw (is, ← same) (asked_now outcome []) }
            now (Err e) is none = absurd (cc)

  pub step_after : (event : SoloEvent) → refusal_of w event ≡ None → After event (solo_step w event)
  step_after (Call n key chain) allowed = call_after n key chain (next_number w n key chain allowed)
  step_after (End call) allowed = end_after call
  step_after (Poll call) allowed = poll_after call
  step_after (Hold key) allowed = hold_after key (cell_at key w.actors) refl
  step_after (Release key) allowed = release_after key (cell_at key w.actors) refl

-- ---- a list of events

-- one event, then those that follow
one_follows : (depths : List TypeDepth) (log : List Said) (w : SoloState) (event : SoloEvent) (events : List SoloEvent) (refusal : Option WorldError) → refusal_of w event ≡ refusal → Follows depths log w
    → ((l : List Said) (v : SoloState) → Follows depths l v → Follows depths (l ++ log_from v events) (run_from v events))
    → Follows depths (log ++ (said_of w event refusal ++ log_from (after_event w event refusal) events)) (run_from (after_event w event refusal) events)
one_follows depths log w event events None allowed f rest =
    let said : Said = record { event = event; outcome = (solo_step w event).outcome } in
    let next = (solo_step w event).world in
    subst (λ (l : List Said). Follows depths l (run_from next events)) (append_assoc log (said ∷ []) (log_from next events))
    (rest (log ++ said ∷ []) next (step_after depths log w f event allowed))
one_follows depths log w event events (Some error) refused f rest = rest log w f

pub run_follows : (depths : List TypeDepth) (log : List Said) (w : SoloState) (events : List SoloEvent) → Follows depths log w → Follows depths (log ++ log_from w events) (run_from w events)
run_follows depths log w [] f = subst (λ (l : List Said). Follows depths l w) (sym (append-nil log)) f
run_follows depths log w (event ∷ events) f = one_follows depths log w event events (refusal_of w event) refl f (λ l v g. run_follows depths l v events g)

pub opening_follows : (depths : List TypeDepth) → Follows depths [] (state_with depths)
opening_follows depths =
    record {
      same_depths = refl;
      cells = λ a i. absurd i;
      later = λ n h. refl;
      asked = λ n key h. absurd (no_call n key h);
      counted = refl;
      each_call = refl;
      numbered = λ place number h. absurd (cc);
    }
  where
    no_call : (n : ℕ) (key : List ℕ) → key_of_call n [] ≡ Some key → ⊥
    no_call n key = cond_both (n == 0) _ _ (λ (r : Option (List ℕ)). r ≡ Some key → ⊥) (λ _ e. absurd (cc)) (λ _ e. absurd (cc))

pub solo_follows : (depths : List TypeDepth) (events : List SoloEvent) → Follows depths (solo_log depths events) (solo_run depths events)
solo_follows depths events = run_follows depths [] (state_with depths) events (opening_follows depths)

pub solo_busy : (depths : List TypeDepth) (events : List SoloEvent) → NoIdleWaiter (solo_run depths events)
solo_busy depths events a i = ((solo_follows depths events).cells a i).busy
