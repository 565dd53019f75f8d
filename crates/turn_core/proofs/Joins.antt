-- Which calls a cell has after an ask.
use Rattle.std.proofs.Common.{◌≡◌, ℕ, ◌+◌, Bool, false, List, [], ◌∷◌, ◌++◌, length, Option, refl, sym, ◌∙◌, arith, length-append}
use Rattle.std.specs.declared.result.Result.TheVariants.{Ok, Err}
use Rattle.turn_core.specs.declared.answer.Asked.{Asked}
use Rattle.turn_core.specs.declared.answer.CellError.{CellError}
use Rattle.turn_core.specs.declared.answer.CellError.TheVariants as deny
use Rattle.turn_core.specs.Cell.{CellState, AskStep, admit_call, kept_chain, GivesStep}
use Rattle.turn_core.specs.CellSound.{times_in}
use Rattle.turn_core.proofs.Once.{one_of, turns_of-push, waiters_of-push}
use Rattle.turn_core.proofs.CellSteps.{ask_cases}
use Rattle.turn_core.proofs.Presence.{calls_of, JoinsCell}

module _ (c : CellState) (call : ℕ) (chain : Option (List ℕ)) (may_begin : Bool) where
  asked_times : (n : ℕ) (a : Asked) → (admit_call c call chain may_begin).answer ≡ Ok a → times_in n (admit_call c call chain may_begin).cell ≡ times_in n c + one_of n call
  asked_times n =
      ask_cases c call chain may_begin (λ (s : AskStep). (a : Asked) → s.answer ≡ Ok a → times_in n s.cell ≡ times_in n c + one_of n call)
      (λ _ _ a e. (let p = turns_of-push n c.turns (record { call = call; chain = kept_chain c chain }) in omega arith))
      (λ a e. absurd (cc))
      (λ _ _ a e. (let p = turns_of-push n c.turns (record { call = call; chain = kept_chain c chain }) in omega arith))
      (λ _ a e. (let p = waiters_of-push n c.queue (record { call = call; chain = kept_chain c chain; moved = false }) in omega arith))
      (λ a e. absurd (cc))

  asked_calls : (a : Asked) → (admit_call c call chain may_begin).answer ≡ Ok a → calls_of (admit_call c call chain may_begin).cell ≡ calls_of c + 1
  asked_calls =
      ask_cases c call chain may_begin (λ (s : AskStep). (a : Asked) → s.answer ≡ Ok a → calls_of s.cell ≡ calls_of c + 1)
      (λ _ _ a e. (let p : length (c.turns ++ record { call = call; chain = kept_chain c chain } ∷ []) ≡ length c.turns + 1 = simp length-append in omega arith))
      (λ a e. absurd (cc))
      (λ _ _ a e. (let p : length (c.turns ++ record { call = call; chain = kept_chain c chain } ∷ []) ≡ length c.turns + 1 = simp length-append in omega arith))
      (λ _ a e. (let p : length (c.queue ++ record { call = call; chain = kept_chain c chain; moved = false } ∷ []) ≡ length c.queue + 1 = simp length-append in omega arith))
      (λ a e. absurd (cc))

  -- an accepted call joins the cell
  pub asked_joins : (a : Asked) → (admit_call c call chain may_begin).answer ≡ Ok a → JoinsCell call c (admit_call c call chain may_begin).cell
  asked_joins a e = record { times = λ n. asked_times n a e; more = asked_calls a e }

  -- and one that is refused changes nothing
  pub refused_same : (x : CellError) → (admit_call c call chain may_begin).answer ≡ Err x → (admit_call c call chain may_begin).cell ≡ c
  refused_same =
      ask_cases c call chain may_begin (λ (s : AskStep). (x : CellError) → s.answer ≡ Err x → s.cell ≡ c)
      (λ _ _ x e. absurd (cc)) (λ x e. refl) (λ _ _ x e. absurd (cc)) (λ _ x e. absurd (cc)) (λ x e. refl)

  pub gives_same : (x : CellError) (new : CellState) → GivesStep (Err x) c new (admit_call c call chain may_begin) → new ≡ c
  gives_same (deny.Depth n) new g = g.1 ∙ refused_same (deny.Depth n) (sym g.0)
  gives_same (deny.QueueFull n) new g = g.1 ∙ refused_same (deny.QueueFull n) (sym g.0)
  gives_same deny.OutOfMemory new g = g
