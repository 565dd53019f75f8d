-- A payload that a journal gives to a batch.
use Rattle.std.proofs.Common.{◌≡◌, ℕ, List, [], ◌∷◌, ◌++◌, Option, Some, None, Result, Ok, Err, refl, subst}
use Rattle.tx_journal.specs.declared.error.JournalError.{JournalError}
use Rattle.tx_journal.specs.declared.staged.Staged.{Staged}
use Rattle.tx_journal.specs.declared.staged.Staged.TheVariants.{Added, NoRoom}
use Rattle.tx_journal.specs.Batches.{stage_refusal, Stages}
use Rattle.tx_journal.specs.Calls.{JournalState}

-- what `Journal::stage` ensures
pub record StageMoves (j : JournalState) (payload : List ℕ) (result : Result Staged JournalError) (old new : List (List ℕ)) : Type 0 where
  pub refused : (e : JournalError) → stage_refusal j old payload ≡ Some e → (result ≡ Err e) × (new ≡ old)
  pub taken : stage_refusal j old payload ≡ None → Stages payload result old new

-- a payload that is given to a batch wasn't refused
given_is_free : (j : JournalState) (payload : List ℕ) (s : Staged) (old new : List (List ℕ)) → StageMoves j payload (Ok s) old new → stage_refusal j old payload ≡ None
given_is_free j payload s old new moves = go (stage_refusal j old payload) refl
  where
    go : (o : Option JournalError) → stage_refusal j old payload ≡ o → stage_refusal j old payload ≡ None
    go None is = is
    go (Some e) is = absurd (let q : Ok s ≡ Err e = (moves.refused e is).0 in cc)

-- one that is added is the last of the batch
pub added_is :
    (j : JournalState) (payload : List ℕ) (result : Result Staged JournalError) (old new : List (List ℕ))
    → result ≡ Ok Added → StageMoves j payload result old new → (stage_refusal j old payload ≡ None) × (new ≡ old ++ payload ∷ [])
added_is j payload result old new is moves =
    let here : StageMoves j payload (Ok Added) old new = subst (λ (r : Result Staged JournalError). StageMoves j payload r old new) is moves in
    let free = given_is_free j payload Added old new here in
    (free, (here.taken free).0)

-- one that has no room leaves it as it was
pub no_room_keeps :
    (j : JournalState) (payload : List ℕ) (result : Result Staged JournalError) (old new : List (List ℕ)) → result ≡ Ok NoRoom → StageMoves j payload result old new → new ≡ old
no_room_keeps j payload result old new is moves =
    let here : StageMoves j payload (Ok NoRoom) old new = subst (λ (r : Result Staged JournalError). StageMoves j payload r old new) is moves in
    (here.taken (given_is_free j payload NoRoom old new here)).0
