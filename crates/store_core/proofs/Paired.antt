-- Both files of a store stay there.
use Rattle.std.proofs.Common.{◌≡◌, ℕ, List, Option, Some, None, Result, Ok, Err, false, refl, sym, ap, ◌∙◌, subst}
use Rattle.frame_wire.specs.declared.store_refusal.StoreRefusal.{StoreRefusal}
use Rattle.frame_wire.specs.declared.store_refusal.StoreRefusal.TheVariants as refusals
use Rattle.store_tables.specs.Tables.{Tables}
use Rattle.tx_journal.specs.declared.error.JournalError.{JournalError}
use Rattle.tx_journal.specs.declared.error.JournalError.TheVariants as errors
use Rattle.tx_journal.specs.Calls.{JournalState, is_alone, start_refusal, end_refusal, Starts, Turns}
use Rattle.store_core.specs.Store.{Written}
use Rattle.store_core.specs.Compacts.{Misses}
use Rattle.store_core.proofs.Adding.{paired_hit}
use Rattle.store_core.proofs.Compacting.{StartEnsures, EndEnsures}

abbrev HasBoth : JournalState → Type 0
HasBoth j = is_alone j.other ≡ false

same_both : (old new : JournalState) → new ≡ old → HasBoth old → HasBoth new
same_both old new same both = subst HasBoth (sym same) both

-- a payload is written to the live file
pub written_paired : (payload : List ℕ) (r : Option StoreRefusal) (old new : JournalState) → HasBoth old → Written payload r old new → HasBoth new
written_paired payload None old new both w = ap (λ (j : JournalState). is_alone j.other) w.1 ∙ both
written_paired payload (Some (refusals.CommandTooLong n)) old new both w = same_both old new w.1 both
written_paired payload (Some (refusals.Full len)) old new both w = same_both old new w.1 both
written_paired payload (Some refusals.DiskFault) old new both w = ap (λ (j : JournalState). is_alone j.other) w.1 ∙ both
written_paired payload (Some (refusals.OtherBoot greatest)) old new both w = absurd w
written_paired payload (Some (refusals.OldSeq floor)) old new both w = absurd w
written_paired payload (Some (refusals.NodesFull nodes)) old new both w = absurd w
written_paired payload (Some refusals.Spent) old new both w = absurd w
written_paired payload (Some (refusals.TooManyOps n)) old new both w = absurd w
written_paired payload (Some (refusals.KeyTooLong op n)) old new both w = absurd w
written_paired payload (Some (refusals.ValueTooLong op n)) old new both w = absurd w
written_paired payload (Some (refusals.OtherMoment m)) old new both w = absurd w
written_paired payload (Some refusals.Reopen) old new both w = absurd w
written_paired payload (Some refusals.OutOfMemory) old new both w = absurd w
written_paired payload (Some (refusals.StaleEpoch seen)) old new both w = absurd w
written_paired payload (Some (refusals.ReservedKey op)) old new both w = absurd w
written_paired payload (Some refusals.Unfenced) old new both w = absurd w

-- a compaction isn't started
start_fault : (T : Type 0) (e : JournalError) (old new : JournalState) → Starts {T = T} (Err e) old new → HasBoth new
start_fault T errors.DiskFault old new starts = paired_hit old.other new.other starts.1
start_fault T (errors.Damaged offset) old new starts = absurd starts
start_fault T (errors.TooLong n) old new starts = absurd starts
start_fault T (errors.Full len) old new starts = absurd starts
start_fault T errors.Reopen old new starts = absurd starts
start_fault T errors.NotStarted old new starts = absurd starts
start_fault T errors.OneDisk old new starts = absurd starts
start_fault T (errors.Spent count) old new starts = absurd starts
start_fault T errors.OutOfMemory old new starts = absurd starts

pub start_paired : {T : Type 0} (e : JournalError) (old new : JournalState) → HasBoth old → StartEnsures {T = T} (Err e) old new → HasBoth new
start_paired {T} e old new both ensures_ = go (start_refusal old) refl
  where
    go : (r : Option JournalError) → start_refusal old ≡ r → HasBoth new
    go None is = start_fault T e old new (ensures_.taken is)
    go (Some d) is = same_both old new (ensures_.refused d is).1 both

-- its rows aren't all added
pub missed_paired : (t : Tables) (rows : List (List ℕ)) (e : JournalError) (old new : JournalState) → Misses t rows e old new → HasBoth new
missed_paired t rows errors.DiskFault old new is = is.paired
missed_paired t rows errors.OutOfMemory old new is = is.paired
missed_paired t rows (errors.TooLong n) old new is = is.stopped.paired
missed_paired t rows (errors.Full len) old new is = is.stopped.paired
missed_paired t rows (errors.Damaged offset) old new is = absurd is
missed_paired t rows errors.Reopen old new is = absurd is
missed_paired t rows errors.NotStarted old new is = absurd is
missed_paired t rows errors.OneDisk old new is = absurd is
missed_paired t rows (errors.Spent count) old new is = absurd is

-- it ends, made or not
turned_paired : (T : Type 0) (r : Result T JournalError) (old new : JournalState) → Turns r old new → HasBoth new
turned_paired T (Ok x) old new turns = ap (λ (j : JournalState). is_alone j.other) turns.0
turned_paired T (Err errors.DiskFault) old new turns = paired_hit old.other new.other turns.1
turned_paired T (Err (errors.Damaged offset)) old new turns = absurd turns
turned_paired T (Err (errors.TooLong n)) old new turns = absurd turns
turned_paired T (Err (errors.Full len)) old new turns = absurd turns
turned_paired T (Err errors.Reopen) old new turns = absurd turns
turned_paired T (Err errors.NotStarted) old new turns = absurd turns
turned_paired T (Err errors.OneDisk) old new turns = absurd turns
turned_paired T (Err (errors.Spent count)) old new turns = absurd turns
turned_paired T (Err errors.OutOfMemory) old new turns = absurd turns

pub end_paired : {T : Type 0} (r : Result T JournalError) (old new : JournalState) → HasBoth old → EndEnsures r old new → HasBoth new
end_paired {T} r old new both ensures_ = go (end_refusal old) refl
  where
    go : (d : Option JournalError) → end_refusal old ≡ d → HasBoth new
    go None is = turned_paired T r old new (ensures_.taken is)
    go (Some d) is = same_both old new (ensures_.refused d is).1 both
