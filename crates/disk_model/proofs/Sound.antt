-- The bytes that a disk reads are among those that a crash may leave.
use Rattle.std.proofs.Common.{◌≡◌, inl, inr, ℕ, ◌≤◌, List, [], ◌∷◌, ◌++◌, length, take, Result, Ok, Err, Vec, refl, sym, subst, arith}
use Rattle.std.specs.Prelude.{IfOk}
use Rattle.actor_ports.specs.declared.port.PortError.{PortError}
use Rattle.actor_ports.specs.declared.port.PortError.TheVariants.{Failed, OutOfMemory}
use Rattle.disk_model.specs.Disk.{DiskState, MayMake, MayLead, fresh, overwritten, changed, Writes, Cuts, Syncs}
use Rattle.disk_model.specs.Memory.{torn_by, torn_by_all}
use Rattle.disk_model.specs.Crash.{ReadsAnImage}
use Rattle.disk_model.specs.declared.change.Change.{Change}
use Rattle.disk_model.specs.declared.change.Change.TheVariants.{Over, CutTo}
use Rattle.disk_model.proofs.Stages.{torn_overwritten}

pub lead_push : (changes : List Change) (change : Change) (old mid new : List ℕ) → MayLead changes old mid → MayMake change mid new → MayLead (changes ++ change ∷ []) old new
lead_push [] change old mid new led made = (new, subst (λ (m : List ℕ). MayMake change m new) led made, refl)
lead_push (first ∷ changes) change old mid new led made = (led.0, led.1, lead_push changes change led.0 mid new led.2 made)

changed_reads : (d e : DiskState) (change : Change) (bytes : List ℕ) → ReadsAnImage d → MayMake change d.bytes bytes → e ≡ changed d change bytes → ReadsAnImage e
changed_reads d e change bytes reads made is = subst ReadsAnImage (sym is) (lead_push d.instant.pending change d.instant.synced d.bytes bytes reads made)

-- perhaps no change has done anything
pub nothing_made : (changes : List Change) (bytes : List ℕ) → MayLead changes bytes bytes
nothing_made [] bytes = refl
nothing_made (Over at n ∷ changes) bytes = (bytes, record { before = refl; after = refl; no_shorter = omega arith; no_longer = omega arith }, nothing_made changes bytes)
nothing_made (CutTo len ∷ changes) bytes = (bytes, inl refl, nothing_made changes bytes)

-- what holds of the bytes that a crash leaves holds of a result that has them
pub left_as : {Z E : Type 0} (r : Result (Vec ℕ Z) E) (P : List ℕ → Type 0) (bytes : List ℕ) → P bytes → IfOk r (λ v. v.items ≡ bytes) → IfOk r (λ v. P v.items)
left_as (Ok v) P bytes here same = subst P (sym same) here
left_as (Err e) P bytes here same = tt

pub fresh_reads : (bytes : List ℕ) → ReadsAnImage (fresh bytes)
fresh_reads bytes = refl

pub writes_reads : {T : Type 0} (at : ℕ) (new : List ℕ) (r : Result T PortError) (d e : DiskState) → at ≤ length d.bytes → ReadsAnImage d → Writes at new r d e → ReadsAnImage e
writes_reads at new (Ok x) d e within reads writes = changed_reads d e (Over at (length new)) (overwritten d.bytes at new) reads (torn_overwritten d.bytes new at within) writes
writes_reads at new (Err Failed) d e within reads (inl same) = subst ReadsAnImage (sym same) reads
writes_reads at new (Err Failed) d e within reads (inr writes) = changed_reads d e (Over at (length new)) writes.0 reads writes.1 writes.2
writes_reads at new (Err OutOfMemory) d e within reads same = subst ReadsAnImage (sym same) reads

pub cuts_reads : {T : Type 0} (len : ℕ) (r : Result T PortError) (d e : DiskState) → ReadsAnImage d → Cuts len r d e → ReadsAnImage e
cuts_reads len (Ok x) d e reads cuts = changed_reads d e (CutTo len) (take len d.bytes) reads (inr refl) cuts
cuts_reads len (Err Failed) d e reads (inl same) = subst ReadsAnImage (sym same) reads
cuts_reads len (Err Failed) d e reads (inr cuts) = changed_reads d e (CutTo len) cuts.0 reads cuts.1 cuts.2
cuts_reads len (Err OutOfMemory) d e reads same = subst ReadsAnImage (sym same) reads

pub syncs_reads : {T : Type 0} (r : Result T PortError) (d e : DiskState) → ReadsAnImage d → Syncs r d e → ReadsAnImage e
syncs_reads (Ok x) d e reads syncs = subst ReadsAnImage (sym syncs) refl
syncs_reads (Err Failed) d e reads (inl same) = subst ReadsAnImage (sym same) reads
syncs_reads (Err Failed) d e reads (inr syncs) = subst ReadsAnImage (sym syncs) refl
syncs_reads (Err OutOfMemory) d e reads same = subst ReadsAnImage (sym same) reads

-- one more change by the choice
pub torn_push : (choice : ℕ) (changes : List Change) (last : Change) (bytes : List ℕ) → torn_by_all choice (changes ++ last ∷ []) bytes ≡ torn_by choice last (torn_by_all choice changes bytes)
torn_push choice [] last bytes = refl
torn_push choice (change ∷ changes) last bytes = torn_push choice changes last (torn_by choice change bytes)
