-- An opening that is done, and one that is refused for a payload.
use Rattle.std.proofs.Common.{◌≡◌, ◌⊎◌, inl, inr, ℕ, ◌≤◌, Bool, true, false, List, Option, Some, None, Ok, refl, sym, ap, subst, ◌∙◌}
use Rattle.disk_model.specs.Disk.{Tells}
use Rattle.disk_model.proofs.Stages.{Both, tells_on, tells_map, told_before}
use Rattle.store_tables.specs.Tables.{Tables, no_tables}
use Rattle.tx_journal.specs.declared.error.JournalError.{JournalError}
use Rattle.tx_journal.specs.declared.error.JournalError.TheVariants.{DiskFault, Damaged, TooLong, Full, Reopen, NotStarted, OneDisk, Spent, OutOfMemory}
use Rattle.tx_journal.specs.Journal.{Rises, IsOpenError}
use Rattle.tx_journal.specs.Calls.{Side, JournalState, told, tell_both, tell_sides, first_of, second_of, first_side, second_side, is_alone, is_making, FindsIn, HoldsFormat, OpensFiles, RefusesFiles, KeepsCount}
use Rattle.tx_journal.specs.declared.format.Format.TheVariants.{Two}
use Rattle.tx_journal.specs.File.{Image}
use Rattle.tx_journal.specs.Pair.{Files, IsJust, first_generation, read_files}
use Rattle.store_core.specs.Contents.{contents_of, contents_in, is_old, OpensWith}
use Rattle.store_core.specs.Opens.{FindsTables, OpensStore, fault_behind, payloads_fault, IsStoreOpenError, RefusesStore, IsFolded, IsFoldFault}
use Rattle.store_core.specs.Store.{IsConsistent, IsCurrent}
use Rattle.store_core.proofs.Claims.{at_told, leaves_weaker}
use Rattle.store_core.proofs.Openings.{rises_from}

finds : (making : Bool) (old : Files) (held : Image) (t : Tables) → FindsIn making old held → contents_of held ≡ Some t → FindsTables making old t
finds true old held t none is = let e : Some no_tables ≡ Some t = ap (contents_in (is_old held.format)) (sym none) ∙ is in cc
finds false old held t reads is = (held, reads, is)

-- what the opened files hold leads to these tables
pub opens-store : (create : Bool) (old new : Files) (j : JournalState) (t : Tables) → told j ≡ Some new → IsFolded t j → OpensFiles create old new → OpensStore create t old new
opens-store create old new j t tells folded opens =
    let is : contents_of opens.0 ≡ Some t = folded new tells opens.0 opens.2 in
    (finds (is_making create old.first old.second) old opens.0 t opens.1 is, leaves_weaker (IsJust opens.0) (OpensWith t) new (λ r e. (opens.0, e, is)) opens.2.leaves, opens.3)

-- a file that is made has no payload, and so no fault
faulted : (making : Bool) (old : Files) (held : Image) (offset : ℕ) → FindsIn making old held → payloads_fault held ≡ Some offset → (making ≡ false) × (found : Image) × (read_files old ≡ Ok found) × (payloads_fault found ≡ Some offset)
faulted true old held offset none is = absurd (let e : None ≡ Some offset = ap (λ (ps : List (List ℕ)). fault_behind (is_old held.format) (first_generation ps) ps) (sym none) ∙ is in cc)
faulted false old held offset reads is = (refl, held, reads, is)

pub refuses-store : (create : Bool) (old new : Files) (j : JournalState) (e : JournalError) → told j ≡ Some new → IsFoldFault e j → OpensFiles create old new → RefusesStore create e old
refuses-store create old new j (Damaged offset) tells fault opens = inr (inl (faulted (is_making create old.first old.second) old opens.0 offset opens.1 (fault new tells opens.0 opens.2)))
refuses-store create old new j DiskFault tells fault opens = tt
refuses-store create old new j OutOfMemory tells fault opens = tt
refuses-store create old new j (TooLong n) tells fault opens = absurd fault
refuses-store create old new j (Full len) tells fault opens = absurd fault
refuses-store create old new j Reopen tells fault opens = absurd fault
refuses-store create old new j NotStarted tells fault opens = absurd fault
refuses-store create old new j OneDisk tells fault opens = absurd fault
refuses-store create old new j (Spent count) tells fault opens = absurd fault

-- ---- the same of what the disks report

module _ (create : Bool) (before : Option Files) (j : JournalState) (opens : Tells (OpensFiles create) before (told j)) where
  pub opened_tells : (t : Tables) (k : JournalState) → told k ≡ told j → IsFolded t j → Tells (OpensStore create t) before (told k)
  opened_tells t k same folded =
      subst (Tells (OpensStore create t) before) (sym same)
      (tells_map (Both (OpensFiles create) (λ f g. told j ≡ Some g)) (OpensStore create t) before (told j)
      (λ f g both. opens-store create f g j t both.1 folded both.0)
      (at_told (OpensFiles create) before (told j) opens))

  pub opened_consistent : (t : Tables) (k : JournalState) → told k ≡ told j → IsFolded t j → IsConsistent k t
  opened_consistent t k same folded works files is =
      let here : told j ≡ Some files = sym same ∙ is in
      let from = told_before (OpensFiles create) before (told j) files opens here in
      let held = from.2 in
      (held.0, held.2, folded files here held.0 held.2)

  -- it is of the second format
  pub opened_current : (t : Tables) (k : JournalState) → told k ≡ told j → IsFolded t j → HoldsFormat k → k.format ≡ Two → IsCurrent k t
  opened_current t k same folded of_ two works files is =
      let here : told j ≡ Some files = sym same ∙ is in
      let from = told_before (OpensFiles create) before (told j) files opens here in
      let held = from.2 in
      (held.0, held.2, folded files here held.0 held.2, of_ works files is held.0 held.2 ∙ two)

  pub refused_tells : (e : JournalError) → IsFoldFault e j → (files : Files) → before ≡ Some files → RefusesStore create e files
  refused_tells e fault files is =
      let on = tells_on (OpensFiles create) before (told j) files opens is in
      refuses-store create files on.0 j e on.1 fault on.2

-- the journal's own refusal
pub as_store : (create : Bool) (e : JournalError) (files : Files) → RefusesFiles create e files → RefusesStore create e files
as_store create (Damaged offset) files is = inl is
as_store create DiskFault files is = is
as_store create OutOfMemory files is = is
as_store create (TooLong n) files is = absurd is
as_store create (Full len) files is = inl is
as_store create Reopen files is = is
as_store create NotStarted files is = is
as_store create OneDisk files is = is
as_store create (Spent count) files is = is

pub as_store_error : (e : JournalError) → IsOpenError e → IsStoreOpenError e
as_store_error (Damaged offset) is = tt
as_store_error DiskFault is = tt
as_store_error OutOfMemory is = tt
as_store_error (TooLong n) is = absurd is
as_store_error (Full len) is = tt
as_store_error Reopen is = is
as_store_error NotStarted is = is
as_store_error OneDisk is = is
as_store_error (Spent count) is = is

pub open_error : (e : JournalError) (j : JournalState) → IsFoldFault e j → IsStoreOpenError e
open_error (Damaged offset) j fault = tt
open_error DiskFault j fault = tt
open_error OutOfMemory j fault = tt
open_error (TooLong n) j fault = absurd fault
open_error (Full len) j fault = absurd fault
open_error Reopen j fault = fault
open_error NotStarted j fault = fault
open_error OneDisk j fault = fault
open_error (Spent count) j fault = fault

-- ---- the disks that are handed back

pub has_second : (s : Bool) (live : Side) (other : Option Side) → is_alone other ≡ false → second_of s live other ≡ None → ⊥
has_second s live None paired none = let e : true ≡ false = paired in cc
has_second true live (Some x) paired none = let e : Some live ≡ None = none in cc
has_second false live (Some x) paired none = let e : Some x ≡ None = none in cc

pub told_closed : (k : JournalState) (a b : Side) → a ≡ first_side k → Some b ≡ second_side k → told k ≡ tell_both a.told b.told
told_closed k a b one two = ap (λ (x : Side). tell_sides x (second_side k)) (sym one) ∙ ap (tell_sides a) (sym two)

-- a fault in the live file is one of the first disk or of the second
pub risen : (s : Bool) (live new : Side) (other : Option Side) (first second : ℕ) (a b : Side) → is_alone other ≡ false → first ≤ (first_of s live other).faults → KeepsCount second (second_of s live other) → Rises live.faults new.faults
    → a ≡ first_of s new other → Some b ≡ second_of s new other → Rises first a.faults ⊎ Rises second b.faults
risen s live new None first second a b paired one two rises is also = absurd (let e : true ≡ false = paired in cc)
risen true live new (Some x) first second a b paired one two rises is also =
    let same : new ≡ b = cc in
    inr (subst (λ (y : Side). Rises second y.faults) same (rises_from second live.faults new.faults two rises))
risen false live new (Some x) first second a b paired one two rises is also =
    inl (subst (λ (y : Side). Rises first y.faults) (sym is) (rises_from first live.faults new.faults one rises))
