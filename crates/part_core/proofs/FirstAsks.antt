-- The cell of an actor that was never called, after its first call.
use Rattle.std.proofs.Common.{◌≡◌, ℕ, ◌+◌, Bool, true, false, not, ◌&&◌, List, [], ◌∷◌, ◌++◌, length, Option, refl, sym, ap, subst, arith, length-append}
use Rattle.std.specs.declared.result.Result.{Result}
use Rattle.std.specs.declared.result.Result.TheVariants.{Ok}
use Rattle.turn_core.specs.declared.answer.Asked.{Asked}
use Rattle.turn_core.specs.declared.answer.Asked.TheVariants as asked
use Rattle.turn_core.specs.declared.answer.CellError.{CellError}
use Rattle.turn_core.specs.Cell.{CellState, AskStep, kept_chain, with_waiter, admit_call, GivesStep}
use Rattle.turn_core.proofs.CellSteps.{ask_cases}
use Rattle.turn_core.proofs.Presence.{JoinsCell}
use Rattle.turn_core.proofs.Joins.{asked_joins}
use Rattle.part_model.specs.declared.actor_cell.ActorCell.{ActorCell}
use Rattle.part_cells.specs.Slots.{IsSettled}
use Rattle.part_cells.proofs.Settled.{awake_settled, queue_kept}
use Rattle.part_core.specs.Actors.{IsFirstCell, IsNumbered, is_begun}
use Rattle.part_core.proofs.Numbers.{numbered_new, numbered_asked}

pub and_true : (b : Bool) → (b && true) ≡ b
and_true true = refl
and_true false = refl

abbrev accepts : Asked → Result Asked CellError
accepts a = Ok a

-- the cell and its answer, for each way in which the call is accepted
settled_by : (cell : ActorCell) (call : ℕ) (chain : Option (List ℕ)) (b : Bool) (a : Asked) → IsFirstCell cell → (admit_call cell.inner call chain b).answer ≡ Ok a
    → IsSettled (record cell { inner = (admit_call cell.inner call chain b).cell; active = is_begun a })
settled_by cell call chain b a first =
    ask_cases cell.inner call chain b (λ (s : AskStep). s.answer ≡ Ok a → IsSettled (record cell { inner = s.cell; active = is_begun a }))
    (λ _ _ e. begun _ a e)
    (λ e. absurd (cc))
    (λ _ _ e. begun _ a e)
    (λ _ e. waits a e)
    (λ e. absurd (cc))
  where
    begun : (i : CellState) (a : Asked) → accepts asked.Begun ≡ accepts a → IsSettled (record cell { inner = i; active = is_begun a })
    begun i asked.Begun e = awake_settled (record cell { inner = i; active = true }) (ap not first.closing)
    begun i (asked.Waits n) e = absurd (cc)

    free : cell.inner.turns ≡ []
    free = ap (λ (i : CellState). i.turns) first.inner

    waits : (a : Asked) → accepts (asked.Waits (length cell.inner.queue + 1)) ≡ accepts a → IsSettled (record cell { inner = with_waiter cell.inner call (kept_chain cell.inner chain); active = is_begun a })
    waits asked.Begun e = absurd (cc)
    waits (asked.Waits n) e =
        record {
          kept = queue_kept (record cell { inner = with_waiter cell.inner call (kept_chain cell.inner chain); active = false })
              (let l : length (cell.inner.queue ++ record { call = call; chain = kept_chain cell.inner chain; moved = false } ∷ []) ≡ length cell.inner.queue + 1 = simp length-append in omega arith);
          awake = λ _. free;
        }

module _ (cell : ActorCell) (call : ℕ) (chain : Option (List ℕ)) (b : Bool) (first : IsFirstCell cell) (a : Asked) (new : CellState) (g : GivesStep (Ok a) cell.inner new (admit_call cell.inner call chain b)) where
  -- it is kept, and active if the call has begun
  pub first_settled : (active : Bool) → active ≡ is_begun a → IsSettled (record cell { inner = new; active = active })
  first_settled active e = rw (e, g.1) (settled_by cell call chain b a first (sym g.0))

  joins : JoinsCell call cell.inner new
  joins = rw g.1 (asked_joins cell.inner call chain b a (sym g.0))

  -- it has this call and no other
  pub first_one : length new.turns + length new.queue ≡ 1
  first_one =
      let m = joins.more in
      let t = ap (λ (i : CellState). length i.turns + length i.queue) first.inner in
      omega arith

-- and its number is the one drawn
pub first_numbered : (drawn : ℕ) (cell : ActorCell) (chain : Option (List ℕ)) (b : Bool) (a : Asked) (new : CellState) → IsFirstCell cell → GivesStep (Ok a) cell.inner new (admit_call cell.inner (drawn + 1) chain b) → IsNumbered (drawn + 1) new
first_numbered drawn cell chain b a new first g =
    rw g.1 (numbered_asked drawn cell.inner chain b (subst (IsNumbered drawn) (sym first.inner) (numbered_new drawn cell.inner.depth)))
