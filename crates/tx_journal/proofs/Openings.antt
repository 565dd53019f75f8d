-- An opening, whichever way it went.
use Rattle.std.proofs.Common.{◌≡◌, ◌≤◌, inl, inr, ℕ, Bool, true, false, List, [], ◌∷◌, length, take, Option, Some, Result, Ok, Err, refl, sym, ◌∙◌, ap, subst}
use Rattle.std.specs.Prelude.{IfOk, IfErr, not, ◌&&◌, is_err}
use Rattle.actor_ports.specs.declared.port.PortError.{PortError}
use Rattle.actor_ports.specs.declared.port.PortError.TheVariants.{Failed, OutOfMemory as port_memory}
use Rattle.disk_model.specs.Disk.{DiskState, Syncs, Tells}
use Rattle.disk_model.specs.Crash.{IsDurable, Later}
use Rattle.disk_model.proofs.Moments.{later_here, later_then}
use Rattle.disk_model.proofs.Stages.{Then, tells_map_at, tells_same, stage_synced, synced_bytes}
use Rattle.tx_journal.specs.declared.error.JournalError.{JournalError}
use Rattle.tx_journal.specs.declared.error.JournalError.TheVariants.{DiskFault, Damaged, TooLong, Full, Reopen, NotStarted, OneDisk, Spent, OutOfMemory}
use Rattle.tx_journal.specs.declared.format.Format.{Format}
use Rattle.tx_journal.specs.File.{most_bytes, head, is_made, image, file_payloads, file_image}
use Rattle.tx_journal.specs.Journal.{Scans, is_to_make, MayBeLeft, KeepsFile, OpensAs, Opens, Refuses, Creates, IsCreated}
use Rattle.tx_journal.proofs.Rests.{rest_image, rest_stands}

to_make : (create : Bool) (bytes : List ℕ) → create ≡ true → is_made bytes ≡ false → is_to_make create bytes ≡ true
to_make create bytes bidden unmade = ap (λ (b : Bool). b && not (is_made bytes)) bidden ∙ ap not unmade

not_bidden : (create : Bool) (bytes : List ℕ) → create ≡ false → is_to_make create bytes ≡ false
not_bidden create bytes bidden = ap (λ (b : Bool). b && not (is_made bytes)) bidden

and_false : (create : Bool) → (create && false) ≡ false
and_false true = refl
and_false false = refl

pub to_read : (create : Bool) (bytes : List ℕ) → is_made bytes ≡ true → is_to_make create bytes ≡ false
to_read create bytes made = ap (λ (b : Bool). create && not b) made ∙ and_false create

pub head_made : (format : Format) (bytes : List ℕ) → take 8 bytes ≡ head format → is_made bytes ≡ true
head_made format [] front = absurd cc
head_made format (a ∷ []) front = absurd cc
head_made format (a ∷ b ∷ rest) front = let one : 1 ≡ a = cc in subst (λ (k : ℕ). is_made (k ∷ b ∷ rest) ≡ true) one refl

pub keeps_nothing : (newest : Format) (create : Bool) (d : DiskState) → KeepsFile newest create d d
keeps_nothing newest create d = later_here (MayBeLeft newest (is_to_make create d.bytes) d.bytes) d

pub keeps_made : (newest : Format) (create : Bool) (d e : DiskState) → create ≡ true → is_made d.bytes ≡ false → IsDurable d → Creates newest d e → KeepsFile newest create d e
keeps_made newest create d e bidden unmade durable creates =
    subst (λ (b : Bool). Later (MayBeLeft newest b d.bytes) d e) (sym (to_make create d.bytes bidden unmade)) (creates durable unmade)

pub opens_made : (newest : Format) (create : Bool) (d e : DiskState) → create ≡ true → is_made d.bytes ≡ false → IsDurable d → length d.bytes ≤ most_bytes → IsCreated newest d e → Opens newest create (9, newest) d e
opens_made newest create d e bidden unmade durable room created =
    let is = created durable unmade room in
    ((λ reads. absurd (let e : true ≡ false = sym (to_make create d.bytes bidden unmade) ∙ reads in cc)), [], subst (λ (b : Bool). OpensAs newest b d.bytes []) (sym (to_make create d.bytes bidden unmade)) refl, is.0, is.1, room)

opens_read : (newest format : Format) (create : Bool) (end : ℕ) (d : DiskState) → is_made d.bytes ≡ true → IsDurable d → Scans newest format (Ok end) d → Opens newest create (end, format) d d
opens_read newest format create end d made durable scans =
    ((λ reads. refl), scans.0, subst (λ (b : Bool). OpensAs newest b d.bytes scans.0) (sym (to_read create d.bytes made)) (rest_image scans.0 end d.bytes scans.1), scans.1, durable, scans.1.small)

-- a file that is only read stood for what it stands for then
pub opened_stands : (newest : Format) (create : Bool) (found : ℕ × Format) (d e : DiskState) (opens : Opens newest create found d e) → is_to_make create d.bytes ≡ false → file_image newest d.bytes ≡ Ok (image found.1 opens.1)
opened_stands newest create found d e opens reads = ap (file_image newest) (sym (opens.0 reads)) ∙ rest_stands opens.1 found.0 e.bytes opens.3

module _ (newest format : Format) (create : Bool) (told after : Option DiskState) (same : after ≡ told) (front : (d : DiskState) → told ≡ Some d → take 8 d.bytes ≡ head format) (durable : (d : DiskState) → told ≡ Some d → IsDurable d) where
  pub scan_opens : (r : Result ℕ JournalError) → ((d : DiskState) → told ≡ Some d → Scans newest format r d) → IfOk r (λ end. Tells (Opens newest create (end, format)) told after)
  scan_opens (Ok end) scans = tells_map_at (λ d e. d ≡ e) (Opens newest create (end, format)) told after
      (λ d e tells is. subst (Opens newest create (end, format) d) is (opens_read newest format create end d (head_made format d.bytes (front d tells)) (durable d tells) (scans d tells)))
      (tells_same (λ d e. d ≡ e) told after (λ d. refl) same)
  scan_opens (Err e) scans = tt

  pub scan_refuses : (r : Result ℕ JournalError) → ((d : DiskState) → told ≡ Some d → Scans newest format r d) → IfErr r (λ e. (d : DiskState) → told ≡ Some d → Refuses newest create e d)
  scan_refuses (Ok end) scans = tt
  scan_refuses (Err DiskFault) scans = λ d tells. tt
  scan_refuses (Err OutOfMemory) scans = λ d tells. tt
  scan_refuses (Err (Damaged offset)) scans = λ d tells. (to_read create d.bytes (head_made format d.bytes (front d tells)), scans d tells)
  scan_refuses (Err (TooLong n)) scans = λ d tells. scans d tells
  scan_refuses (Err (Full len)) scans = λ d tells. absurd (scans d tells)
  scan_refuses (Err Reopen) scans = λ d tells. scans d tells
  scan_refuses (Err NotStarted) scans = λ d tells. scans d tells
  scan_refuses (Err OneDisk) scans = λ d tells. scans d tells
  scan_refuses (Err (Spent count)) scans = λ d tells. scans d tells

-- the first sync, and what follows it
pub synced_keeps : {T : Type 0} (newest : Format) (create : Bool) (d e : DiskState) (x : T) → Syncs (Ok x) d e → KeepsFile newest create d e
synced_keeps newest create d e x syncs = (stage_synced (MayBeLeft newest (is_to_make create d.bytes) d.bytes) d e x syncs (here (is_to_make create d.bytes) refl)).later
  where
    unmade_of : (create made : Bool) → (create && not made) ≡ true → made ≡ false
    unmade_of true true is = absurd cc
    unmade_of true false is = refl
    unmade_of false made is = absurd cc

    here : (b : Bool) → is_to_make create d.bytes ≡ b → MayBeLeft newest b d.bytes d.bytes
    here true is = (inl (unmade_of create (is_made d.bytes) is), λ room. room)
    here false is = refl

pub keeps_on : {T : Type 0} (newest : Format) (create : Bool) (x : T) (d f : DiskState) → Then (Syncs (Ok x)) (KeepsFile newest create) d f → KeepsFile newest create d f
keeps_on newest create x d f calls =
    let same : calls.0.bytes ≡ d.bytes = synced_bytes x d calls.0 calls.1 in
    later_then (MayBeLeft newest (is_to_make create d.bytes) d.bytes) d calls.0 f (synced_keeps newest create d calls.0 x calls.1)
    (subst (λ (b : List ℕ). Later (MayBeLeft newest (is_to_make create b) b) calls.0 f) same calls.2)

pub opens_on : {T : Type 0} (newest : Format) (create : Bool) (found : ℕ × Format) (x : T) (d f : DiskState) → Then (Syncs (Ok x)) (Opens newest create found) d f → Opens newest create found d f
opens_on newest create found x d f calls =
    let same = synced_bytes x d calls.0 calls.1 in (
      (λ reads. calls.2.0 (ap (is_to_make create) same ∙ reads) ∙ same),
      calls.2.1,
      subst (λ (b : List ℕ). OpensAs newest (is_to_make create b) b calls.2.1) same calls.2.2,
      calls.2.3,
      calls.2.4,
      subst (λ (b : List ℕ). length b ≤ most_bytes) same calls.2.5,
    )

pub refuses_on : {T : Type 0} (newest : Format) (create : Bool) (e : JournalError) (x : T) (d a : DiskState) → Syncs (Ok x) d a → Refuses newest create e a → Refuses newest create e d
refuses_on newest create DiskFault x d a syncs refuses = tt
refuses_on newest create OutOfMemory x d a syncs refuses = tt
refuses_on newest create (TooLong n) x d a syncs refuses = refuses
refuses_on newest create Reopen x d a syncs refuses = refuses
refuses_on newest create NotStarted x d a syncs refuses = refuses
refuses_on newest create OneDisk x d a syncs refuses = refuses
refuses_on newest create (Spent count) x d a syncs refuses = refuses
refuses_on newest create (Damaged offset) x d a syncs refuses = subst (λ (b : List ℕ). (is_to_make create b ≡ false) × (file_payloads newest b ≡ Err offset)) (synced_bytes x d a syncs) refuses
refuses_on newest create (Full len) x d a syncs refuses = (refuses.0 ∙ ap length (synced_bytes x d a syncs), refuses.1)

pub sync_failed : {T : Type 0} (newest : Format) (create : Bool) (r : Result T PortError) (d e : DiskState) → is_err r ≡ true → Syncs r d e → KeepsFile newest create d e
sync_failed newest create (Ok x) d e failed syncs = absurd cc
sync_failed newest create (Err Failed) d e failed (inl same) = subst (KeepsFile newest create d) (sym same) (keeps_nothing newest create d)
sync_failed newest create (Err Failed) d e failed (inr syncs) = synced_keeps {T = Unit {0}} newest create d e tt syncs
sync_failed newest create (Err port_memory) d e failed syncs = subst (KeepsFile newest create d) (sym syncs) (keeps_nothing newest create d)

-- a sync that is done
pub synced_ok : {T : Type 0} (r : Result T PortError) (a b : Option DiskState) → is_err r ≡ false → Tells (Syncs r) a b → (x : T) × Tells (Syncs (Ok x)) a b
synced_ok (Ok x) a b done tells = (x, tells)
synced_ok (Err e) a b done tells = absurd cc
