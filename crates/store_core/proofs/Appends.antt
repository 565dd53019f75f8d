-- How an append is answered by a journal that has met no fault.
use Rattle.std.proofs.Common.{◌≡◌, ◌⊎◌, inl, inr, ℕ, ◌+◌, Bool, true, false, cond, List, length, Option, Some, None, Result, Ok, Err, refl, sym, ap, ◌∙◌}
use Rattle.std.specs.Prelude.{OnOk, nat_lt}
use Rattle.disk_model.specs.Disk.{Tells}
use Rattle.frame_wire.specs.declared.store_refusal.StoreRefusal.TheVariants as refusals
use Rattle.tx_journal.specs.declared.error.JournalError.{JournalError}
use Rattle.tx_journal.specs.declared.error.JournalError.TheVariants.{DiskFault, Damaged, TooLong, Full, Reopen, NotStarted, OneDisk, Spent, OutOfMemory}
use Rattle.tx_journal.specs.File.{longest, most_bytes}
use Rattle.tx_journal.specs.Calls.{JournalState, told, append_refusal, Appends, Commits, Committed}
use Rattle.store_core.specs.Store.{refusal_by, Written}

-- what an append ensures
pub record AppendEnsures {T : Type 0} (payload : List ℕ) (result : Result T JournalError) (old new : JournalState) : Type 0 where
  pub refused : (e : JournalError) → append_refusal old payload ≡ Some e → (result ≡ Err e) × (new ≡ old)
  pub taken : append_refusal old payload ≡ None → Appends payload result old new
  pub crash : Tells (Commits payload) (told old) (told new)
  pub done : OnOk result (Tells (Committed payload) (told old) (told new))

-- the two causes of a refusal
kinds : (a b c : Bool) (n len : ℕ) (e : JournalError) → a ≡ false → cond a (Some Reopen) (cond b (Some (TooLong n)) (cond c (Some (Full len)) None)) ≡ Some e → (e ≡ TooLong n) ⊎ (e ≡ Full len)
kinds true b c n len e works is = absurd (let f : true ≡ false = works in cc)
kinds false true c n len e works is = inl cc
kinds false false true n len e works is = inr cc
kinds false false false n len e works is = absurd (let f : None ≡ Some e = is in cc)

module _ {T : Type 0} (payload : List ℕ) (old new : JournalState) (works : old.is_broken ≡ false) where
  pub written : (x : T) → AppendEnsures payload (Ok x) old new → Written payload None old new
  written x ensures_ = go (append_refusal old payload) refl
    where
      go : (r : Option JournalError) → append_refusal old payload ≡ r → Written payload None old new
      go None is = (is, (ensures_.taken is).0, ensures_.crash, ensures_.done)
      go (Some e) is = absurd (let clash : Ok x ≡ Err e = (ensures_.refused e is).0 in cc)

  refused_is : (r : Result T JournalError) (e d : JournalError) → r ≡ Err e → r ≡ Err d → d ≡ e
  refused_is r e d one is = cc

  pub long : (n : ℕ) → AppendEnsures {T = T} payload (Err (TooLong n)) old new → Written payload (Some (refusals.CommandTooLong n)) old new
  long n ensures_ = go (append_refusal old payload) refl
    where
      go : (r : Option JournalError) → append_refusal old payload ≡ r → Written payload (Some (refusals.CommandTooLong n)) old new
      go None is = absurd (ensures_.taken is)
      go (Some d) is = (is ∙ ap (λ (x : JournalError). Some x) (refused_is (Err (TooLong n)) (TooLong n) d refl (ensures_.refused d is).0), (ensures_.refused d is).1)

  pub full : (len : ℕ) → AppendEnsures {T = T} payload (Err (Full len)) old new → Written payload (Some (refusals.Full len)) old new
  full len ensures_ = go (append_refusal old payload) refl
    where
      go : (r : Option JournalError) → append_refusal old payload ≡ r → Written payload (Some (refusals.Full len)) old new
      go None is = absurd (ensures_.taken is)
      go (Some d) is = (is ∙ ap (λ (x : JournalError). Some x) (refused_is (Err (Full len)) (Full len) d refl (ensures_.refused d is).0), (ensures_.refused d is).1)

  -- any other error is that of the disk
  taken_fault : (e : JournalError) → append_refusal old payload ≡ None → AppendEnsures {T = T} payload (Err e) old new → Appends {T = T} payload (Err e) old new → Written payload (Some refusals.DiskFault) old new
  taken_fault DiskFault is ensures_ appends = (is, appends.0, appends.1, ensures_.crash)
  taken_fault (Damaged offset) is ensures_ appends = absurd appends
  taken_fault (TooLong n) is ensures_ appends = absurd appends
  taken_fault (Full len) is ensures_ appends = absurd appends
  taken_fault Reopen is ensures_ appends = absurd appends
  taken_fault NotStarted is ensures_ appends = absurd appends
  taken_fault OneDisk is ensures_ appends = absurd appends
  taken_fault (Spent count) is ensures_ appends = absurd appends
  taken_fault OutOfMemory is ensures_ appends = absurd appends

  pub fault : (e : JournalError) → ((n : ℕ) → e ≡ TooLong n → ⊥) → ((len : ℕ) → e ≡ Full len → ⊥) → AppendEnsures {T = T} payload (Err e) old new → Written payload (Some refusals.DiskFault) old new
  fault e not_long not_full ensures_ = go (append_refusal old payload) refl
    where
      go : (r : Option JournalError) → append_refusal old payload ≡ r → Written payload (Some refusals.DiskFault) old new
      go None is = taken_fault e is ensures_ (ensures_.taken is)
      go (Some d) is =
          let same : d ≡ e = refused_is (Err e) e d refl (ensures_.refused d is).0 in
          absurd (elim (kinds old.is_broken (nat_lt longest (length payload)) (nat_lt most_bytes (old.end + 5 + length payload)) (length payload) old.end d works is) [
            | inl l ↦ not_long (length payload) (sym same ∙ l)
            | inr f ↦ not_full old.end (sym same ∙ f)
          ])

  -- whatever the error is
  pub refused_written : (e : JournalError) → AppendEnsures {T = T} payload (Err e) old new → Written payload (Some (refusal_by e)) old new
  refused_written (TooLong n) ensures_ = long n ensures_
  refused_written (Full len) ensures_ = full len ensures_
  refused_written DiskFault ensures_ = fault DiskFault (λ n is. cc) (λ len is. cc) ensures_
  refused_written (Damaged offset) ensures_ = fault (Damaged offset) (λ n is. cc) (λ len is. cc) ensures_
  refused_written Reopen ensures_ = fault Reopen (λ n is. cc) (λ len is. cc) ensures_
  refused_written NotStarted ensures_ = fault NotStarted (λ n is. cc) (λ len is. cc) ensures_
  refused_written OneDisk ensures_ = fault OneDisk (λ n is. cc) (λ len is. cc) ensures_
  refused_written (Spent count) ensures_ = fault (Spent count) (λ n is. cc) (λ len is. cc) ensures_
  refused_written OutOfMemory ensures_ = fault OutOfMemory (λ n is. cc) (λ len is. cc) ensures_
