-- What stands after a batch.
use Rattle.std.proofs.Common.{◌≡◌, ℕ, ◌+◌, Bool, true, false, cond, List, [], ◌∷◌, length, Option, Some, None, Ok, Err, refl, sym, ◌∙◌, ap, subst}
use Rattle.std.specs.Prelude.{OnOk, nat_lt}
use Rattle.disk_model.specs.Disk.{Tells}
use Rattle.tx_journal.specs.declared.error.JournalError.{JournalError}
use Rattle.tx_journal.specs.declared.error.JournalError.TheVariants.{DiskFault, Damaged, TooLong, Full, Reopen, NotStarted, OneDisk, Spent, OutOfMemory}
use Rattle.tx_journal.specs.File.{most_bytes, records}
use Rattle.tx_journal.specs.Pair.{LeavesOpened, Holds, IsEither}
use Rattle.tx_journal.specs.Calls.{JournalState, told}
use Rattle.tx_journal.specs.Batches.{batch_refusal, AppendsAll, with_payloads, CommitsAll, CommittedAll}
use Rattle.tx_journal.specs.Runs.{AppendAll, Answer, AppendAllMoves, Ledger, outcome_of, ledger_after, Stands}
use Rattle.tx_journal.proofs.Claims.{opened_now}
use Rattle.tx_journal.proofs.Standing.{stands_settled, stands_broken, no_rows, from_before, same_after}

no_batch_fault : (a b : Bool) (len : ℕ) → cond a (Some Reopen) (cond b (Some (Full len)) None) ≡ Some DiskFault → ⊥
no_batch_fault true b len is = let e : Some Reopen ≡ Some DiskFault = is in cc
no_batch_fault false true len is = let e : Some (Full len) ≡ Some DiskFault = is in cc
no_batch_fault false false len is = let e : None ≡ Some DiskFault = is in cc

given_all : (l : Ledger) (n : ℕ) (payloads : List (List ℕ)) (e : JournalError) → (e ≡ DiskFault → ⊥) → ledger_after n (AppendAll payloads) (outcome_of (Err e)) l ≡ l
given_all l n [] e other = same_after l n (AppendAll []) e refl other
given_all l n (first ∷ rest) e other = same_after l n (AppendAll (first ∷ rest)) e refl other

module _ (l : Ledger) (n : ℕ) (old new : JournalState) (stands : Stands l old) (works : old.is_broken ≡ false) where
  taken : (payloads : List (List ℕ)) (answer : Answer) → AppendsAll payloads answer old new → Tells (CommitsAll payloads) (told old) (told new) → OnOk answer (Tells (CommittedAll payloads) (told old) (told new)) → Stands (ledger_after n (AppendAll payloads) (outcome_of answer) l) new
  taken [] (Ok x) appends crash done = subst (Stands l) (sym appends) stands
  taken [] (Err e) appends crash done = absurd appends
  taken (first ∷ rest) (Ok x) appends crash done =
      let batch = first ∷ rest in
      let staged : new.staged ≡ None = ap (λ (j : JournalState). j.staged) appends.0 in
      stands_settled (with_payloads batch l.held) None new (ap (λ (j : JournalState). j.is_broken) appends.0 ∙ works)
      (from_before (CommittedAll batch) (Holds (with_payloads batch l.held)) old new done (λ f g is committed. committed l.held (stands.holds works f is)))
      (λ more is. absurd (let e : None ≡ Some more = is in cc))
      (no_rows new staged)
  taken (first ∷ rest) (Err DiskFault) appends crash done =
      let after = with_payloads (first ∷ rest) l.held in
      stands_broken l.held after new (ap (λ (j : JournalState). j.is_broken) appends.0)
      (from_before (CommitsAll (first ∷ rest)) (LeavesOpened (IsEither l.held after)) old new crash
      (λ f g is commits. opened_now (IsEither l.held after) f.first f.second g.first g.second (commits l.held (stands.holds works f is))))
  taken (first ∷ rest) (Err (Damaged offset)) appends crash done = absurd appends
  taken (first ∷ rest) (Err (TooLong k)) appends crash done = absurd appends
  taken (first ∷ rest) (Err (Full len)) appends crash done = absurd appends
  taken (first ∷ rest) (Err Reopen) appends crash done = absurd appends
  taken (first ∷ rest) (Err NotStarted) appends crash done = absurd appends
  taken (first ∷ rest) (Err OneDisk) appends crash done = absurd appends
  taken (first ∷ rest) (Err (Spent count)) appends crash done = absurd appends
  taken (first ∷ rest) (Err OutOfMemory) appends crash done = absurd appends

  pub append_all_stands : (payloads : List (List ℕ)) (answer : Answer) → AppendAllMoves payloads answer old new → Stands (ledger_after n (AppendAll payloads) (outcome_of answer) l) new
  append_all_stands payloads answer moves = go (batch_refusal old payloads) refl
    where
      go : (r : Option JournalError) → batch_refusal old payloads ≡ r → Stands (ledger_after n (AppendAll payloads) (outcome_of answer) l) new
      go None is = taken payloads answer (moves.taken is) moves.crash moves.done
      go (Some e) is =
          let refused = moves.refused e is in
          let other = λ (fault : e ≡ DiskFault). no_batch_fault old.is_broken (nat_lt most_bytes (old.end + length (records payloads))) old.end (is ∙ ap (λ (x : JournalError). Some x) fault) in
          subst (λ (a : Answer). Stands (ledger_after n (AppendAll payloads) (outcome_of a) l) new) (sym refused.0)
          (subst (λ (m : Ledger). Stands m new) (sym (given_all l n payloads e other)) (subst (Stands l) (sym refused.1) stands))
