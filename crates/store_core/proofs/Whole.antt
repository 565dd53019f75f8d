-- Payloads that lead to contents have no fault, so files with contents are read.
use Rattle.std.proofs.Common.{◌≡◌, ◌⊎◌, inl, inr, ℕ, ◌+◌, ◌≤◌, Bool, List, [], ◌∷◌, length, Option, Some, None, Ok, Err, refl, sym, ◌∙◌, subst, arith}
use Rattle.std.specs.Prelude.{is_some}
use Rattle.store_payloads.specs.FirstForm.{reading_in}
use Rattle.store_payloads.specs.Folds.{Folded, folded, fold_from, start}
use Rattle.tx_journal.specs.declared.error.JournalError.{JournalError}
use Rattle.tx_journal.specs.declared.error.JournalError.TheVariants.{DiskFault, Damaged, TooLong, Full, Reopen, NotStarted, OneDisk, Spent, OutOfMemory}
use Rattle.tx_journal.specs.File.{most_bytes, Image}
use Rattle.tx_journal.specs.Pair.{Files, first_generation, live_bytes, without_generation, read_files}
use Rattle.store_tables.specs.Tables.{Tables}
use Rattle.store_core.specs.Contents.{is_old, OpensWith}
use Rattle.store_core.specs.Opens.{payloads_fault, fault_by, fault_from, first_place, FindsOld, RefusesMigration, RefusesPayload, RefusesStore, HaveReadings, MayRefuse, RefusesContents, RefusesToday}
use Rattle.store_core.proofs.Foldings.{folded-in}
use Rattle.store_core.proofs.Openings.{fault-is}

no_fault : (is_first : Bool) (at : ℕ) (ps : List (List ℕ)) (f g : Folded) → fold_from is_first (Some f) ps ≡ Some g → fault_from is_first at ps f ≡ None
no_fault is_first at [] f g is = refl
no_fault is_first at (p ∷ ps) f g is = go (λ h more. no_fault is_first (at + 5 + length p) ps h g more) (folded (reading_in is_first p) f) is
  where
    go : ((h : Folded) → fold_from is_first (Some h) ps ≡ Some g → fault_from is_first (at + 5 + length p) ps h ≡ None) → (o : Option Folded) → fold_from is_first o ps ≡ Some g → fault_by o at (λ h. fault_from is_first (at + 5 + length p) ps h) ≡ None
    go ih None none = absurd (let no : None ≡ Some g = none in cc)
    go ih (Some h) more = ih h more

pub have_readings : HaveReadings
have_readings held t is =
    let b = is_old held.format in
    let snapshot = is_some (first_generation held.payloads) in
    let leads = folded-in (fold_from b (Some (start snapshot)) (without_generation held.payloads)) t is in
    fault-is b held refl ∙ no_fault b (first_place snapshot) (without_generation held.payloads) (start snapshot) leads.0 leads.1

module _ (t : Tables) (create : Bool) (files : Files) (opens : OpensWith t (read_files files)) where
  no_damage : (offset : ℕ) → read_files files ≡ Err offset → ⊥
  no_damage offset reads = let no : Err offset ≡ Ok opens.0 = sym reads ∙ opens.1 in cc

  no_payload : (offset : ℕ) → RefusesPayload create offset files → ⊥
  no_payload offset fault =
      let both : Ok opens.0 ≡ Ok fault.1 = sym opens.1 ∙ fault.2 in
      let same : opens.0 ≡ fault.1 = cc in
      let none : payloads_fault fault.1 ≡ None = subst (λ (i : Image). payloads_fault i ≡ None) same (have_readings opens.0 t opens.2) in
      let no : None ≡ Some offset = sym none ∙ fault.3 in
      cc

pub refuses_contents : RefusesContents
refuses_contents t create e files opens small = go e
  where
    go : (x : JournalError) → RefusesStore create x files → MayRefuse create x files
    go DiskFault refuses = tt
    go OutOfMemory refuses = tt
    go (Damaged offset) (inl journal) = absurd (no_damage t create files opens offset journal.1)
    go (Damaged offset) (inr (inl payload)) = absurd (no_payload t create files opens offset payload)
    go (Damaged offset) (inr (inr migration)) = migration
    go (TooLong n) migration = migration
    go (Full len) (inl journal) = absurd (omega (arith, journal.0, journal.1, small))
    go (Full len) (inr migration) = migration
    go Reopen refuses = absurd refuses
    go NotStarted refuses = absurd refuses
    go OneDisk refuses = absurd refuses
    go (Spent count) refuses = absurd refuses

pub refuses_today : RefusesToday
refuses_today t create e files opens small = go e
  where
    aged : (x : JournalError) → RefusesMigration create x files → FindsOld create files
    aged x why = (why.reads, why.found, why.is, why.old)

    go : (x : JournalError) → RefusesStore create x files → (x ≡ DiskFault) ⊎ (x ≡ OutOfMemory) ⊎ FindsOld create files
    go DiskFault refuses = inl refl
    go OutOfMemory refuses = inr (inl refl)
    go (Damaged offset) (inl journal) = absurd (no_damage t create files opens offset journal.1)
    go (Damaged offset) (inr (inl payload)) = absurd (no_payload t create files opens offset payload)
    go (Damaged offset) (inr (inr migration)) = inr (inr (aged (Damaged offset) migration))
    go (TooLong n) migration = inr (inr (aged (TooLong n) migration))
    go (Full len) (inl journal) = absurd (omega (arith, journal.0, journal.1, small))
    go (Full len) (inr migration) = inr (inr (aged (Full len) migration))
    go Reopen refuses = absurd refuses
    go NotStarted refuses = absurd refuses
    go OneDisk refuses = absurd refuses
    go (Spent count) refuses = absurd refuses
