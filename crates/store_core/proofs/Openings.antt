-- What an opening reads, one payload after another.
use Rattle.std.proofs.Common.{◌≡◌, inl, inr, Result, Err, subst, ℕ, zero, suc, ◌+◌, ◌≤◌, Bool, true, false, List, [], ◌∷◌, length, drop, Option, Some, None, refl, sym, ap, ◌∙◌, arith}
use Rattle.std.specs.Prelude.{Ok, Vec, slice_get, is_some, ◌==◌, ◌&&◌}
use Rattle.std.proofs.lemmas.Bool.Decides.{nat_tests}
use Rattle.store_tables.specs.Tables.{Tables}
use Rattle.store_payloads.specs.FirstForm.{reading_in}
use Rattle.store_payloads.specs.Folds.{Folded, folded, fold_from, start, tables_in}
use Rattle.tx_journal.specs.declared.error.JournalError.{JournalError}
use Rattle.tx_journal.specs.declared.error.JournalError.TheVariants.{DiskFault, Damaged, TooLong, Full, Reopen, NotStarted, OneDisk, Spent, OutOfMemory}
use Rattle.tx_journal.specs.Journal.{Costs, Rises, IsPortFault, Replays}
use Rattle.tx_journal.specs.Calls.{Side, JournalState, told, first_of, second_of, tell_sides, is_alone, rows_in}
use Rattle.tx_journal.specs.declared.format.Format.{Format}
use Rattle.tx_journal.specs.declared.format.Format.TheVariants.{One, Two}
use Rattle.tx_journal.specs.File.{Image}
use Rattle.tx_journal.specs.Pair.{Files, Holds, is_generation, first_generation, without_generation}
use Rattle.store_core.specs.Contents.{contents_of, contents_in, is_old}
use Rattle.store_core.specs.Migrations.{HasNumber}
use Rattle.store_core.specs.Opens.{fault_by, fault_from, fault_behind, payloads_fault, first_place, HasForm, IsFolded, IsFoldFault}

-- what is left to read leads where all rows lead, and has their fault
pub record IsRead (is_first is_snapshot : Bool) (rows : List (List ℕ)) (index at : ℕ) (f : Folded) : Type 0 where
  pub whole : fold_from is_first (Some (start is_snapshot)) rows ≡ fold_from is_first (Some f) (drop index rows)
  pub fault : fault_from is_first (first_place is_snapshot) rows (start is_snapshot) ≡ fault_from is_first at (drop index rows) f

pub read-none : (is_first is_snapshot : Bool) (rows : List (List ℕ)) → IsRead is_first is_snapshot rows 0 (first_place is_snapshot) (start is_snapshot)
read-none is_first is_snapshot rows = record { whole = refl; fault = refl }

drop-get : (rows : List (List ℕ)) (index : ℕ) (p : List ℕ) → slice_get rows index ≡ Some p → drop index rows ≡ p ∷ drop (suc index) rows
drop-get [] zero p is = absurd (let e : None ≡ Some p = is in cc)
drop-get [] (suc index) p is = absurd (let e : None ≡ Some p = is in cc)
drop-get (x ∷ rows) zero p is = let same : x ≡ p = cc in ap (λ (y : List ℕ). y ∷ rows) same
drop-get (x ∷ rows) (suc index) p is = drop-get rows index p is

drop-past : (rows : List (List ℕ)) (index : ℕ) → length rows ≤ index → drop index rows ≡ []
drop-past [] zero within = refl
drop-past [] (suc index) within = refl
drop-past (x ∷ rows) zero within = absurd (omega (arith, within))
drop-past (x ∷ rows) (suc index) within = drop-past rows index (omega (arith, within))

-- one more payload was taken
pub read-more : (is_first is_snapshot : Bool) (rows : List (List ℕ)) (index at : ℕ) (p : List ℕ) (f g : Folded) → slice_get rows index ≡ Some p → folded (reading_in is_first p) f ≡ Some g → IsRead is_first is_snapshot rows index at f → IsRead is_first is_snapshot rows (suc index) (at + 5 + length p) g
read-more is_first is_snapshot rows index at p f g here taken is =
    let split = drop-get rows index p here in
    record {
      whole = is.whole ∙ ap (fold_from is_first (Some f)) split ∙ ap (λ o. fold_from is_first o (drop (suc index) rows)) taken;
      fault = is.fault ∙ ap (λ rs. fault_from is_first at rs f) split ∙ ap (λ o. fault_by o at (λ h. fault_from is_first (at + 5 + length p) (drop (suc index) rows) h)) taken;
    }

-- one was refused
pub read-fault : (is_first is_snapshot : Bool) (rows : List (List ℕ)) (index at : ℕ) (p : List ℕ) (f : Folded) → slice_get rows index ≡ Some p → folded (reading_in is_first p) f ≡ None → IsRead is_first is_snapshot rows index at f → fault_from is_first (first_place is_snapshot) rows (start is_snapshot) ≡ Some at
read-fault is_first is_snapshot rows index at p f here refused is =
    let split = drop-get rows index p here in
    is.fault ∙ ap (λ rs. fault_from is_first at rs f) split ∙ ap (λ o. fault_by o at (λ h. fault_from is_first (at + 5 + length p) (drop (suc index) rows) h)) refused

-- there is none left
pub read-all : (is_first is_snapshot : Bool) (rows : List (List ℕ)) (index at : ℕ) (f : Folded) → length rows ≤ index → IsRead is_first is_snapshot rows index at f → tables_in (fold_from is_first (Some (start is_snapshot)) rows) ≡ Some f.tables
read-all is_first is_snapshot rows index at f past is = ap tables_in (is.whole ∙ ap (fold_from is_first (Some f)) (drop-past rows index past))

-- ---- the Generation

and-first : (a b : Bool) → (a && b) ≡ true → a ≡ true
and-first true b is = refl
and-first false b is = is

generation-long : (p : List ℕ) → is_generation p ≡ true → length p ≡ 17
generation-long p is = let long : (length p == 17) ≡ true = and-first (length p == 17) _ is in grind (arith, nat_tests)

-- the offset of a fault, by whether there is a Generation
fault-behind : (is_first : Bool) (payloads : List (List ℕ)) → fault_behind is_first (first_generation payloads) payloads ≡ fault_from is_first (first_place (is_some (first_generation payloads))) (without_generation payloads) (start (is_some (first_generation payloads)))
fault-behind is_first [] = refl
fault-behind is_first (p ∷ ps) = go (is_generation p) refl
  where
    go : (b : Bool) → is_generation p ≡ b → fault_behind is_first (first_generation (p ∷ ps)) (p ∷ ps) ≡ fault_from is_first (first_place (is_some (first_generation (p ∷ ps)))) (without_generation (p ∷ ps)) (start (is_some (first_generation (p ∷ ps))))
    go false apart = rw apart refl
    go true is =
        let place : 18 + length p ≡ 35 = omega (arith, generation-long p is) in
        rw is (ap (λ n. fault_from is_first n ps (start true)) place)

pub fault-is : (is_first : Bool) (held : Image) → is_old held.format ≡ is_first → payloads_fault held ≡ fault_from is_first (first_place (is_some (first_generation held.payloads))) (without_generation held.payloads) (start (is_some (first_generation held.payloads)))
fault-is is_first held form = ap (λ b. fault_behind b (first_generation held.payloads) held.payloads) form ∙ fault-behind is_first held.payloads

-- ---- the form

-- the number of the format tells it
pub form_is : (format : Format) (n : ℕ) → (format ≡ One → n ≡ 1) → (format ≡ Two → n ≡ 2) → is_old format ≡ (n == 1)
form_is One n one two = sym (ap (λ m. m == 1) (one refl))
form_is Two n one two = sym (ap (λ m. m == 1) (two refl))

-- ---- what an opened journal holds

pub rows-paired : (other : Option Side) (payloads : List (List ℕ)) → is_alone other ≡ false → rows_in other payloads ≡ without_generation payloads
rows-paired None payloads paired = absurd (let e : true ≡ false = paired in cc)
rows-paired (Some side) payloads paired = refl

-- all payloads are folded
pub folded-all :
    (is_first is_snapshot : Bool) (held : Image) (index at : ℕ) (f : Folded) (t : Tables) → is_old held.format ≡ is_first → is_snapshot ≡ is_some (first_generation held.payloads) → length (without_generation held.payloads) ≤ index → IsRead is_first is_snapshot (without_generation held.payloads) index at f → t ≡ f.tables
    → contents_of held ≡ Some t
folded-all is_first is_snapshot held index at f t form begun past is same =
    ap (λ b. contents_in b held.payloads) form ∙ ap (λ b. tables_in (fold_from is_first (Some (start b)) (without_generation held.payloads))) (sym begun) ∙ read-all is_first is_snapshot (without_generation held.payloads) index at f past is ∙ ap (λ (u : Tables). Some u) (sym same)

-- the first one that isn't
pub folded-fault :
    (is_first is_snapshot : Bool) (held : Image) (index at : ℕ) (p : List ℕ) (f : Folded) → is_old held.format ≡ is_first → is_snapshot ≡ is_some (first_generation held.payloads) → slice_get (without_generation held.payloads) index ≡ Some p → folded (reading_in is_first p) f ≡ None → IsRead is_first is_snapshot (without_generation held.payloads) index at f
    → payloads_fault held ≡ Some at
folded-fault is_first is_snapshot held index at p f form begun here refused is =
    fault-is is_first held form ∙ ap (λ b. fault_from is_first (first_place b) (without_generation held.payloads) (start b)) (sym begun) ∙ read-fault is_first is_snapshot (without_generation held.payloads) index at p f here refused is

-- ---- what a reading does to the journal

-- the count of faults says nothing of what the disks report
pub told_counts : (j : JournalState) (faults : ℕ) (broken : Bool) → told (record j { live = record { told = j.live.told; faults = faults }; is_broken = broken }) ≡ told j
told_counts j faults broken = go j.is_second_live j.other
  where
    go : (s : Bool) (o : Option Side) → tell_sides (first_of s (record { told = j.live.told; faults = faults }) o) (second_of s (record { told = j.live.told; faults = faults }) o) ≡ tell_sides (first_of s j.live o) (second_of s j.live o)
    go true None = refl
    go true (Some x) = refl
    go false None = refl
    go false (Some x) = refl

pub rises_from : (a b c : ℕ) → a ≤ b → Rises b c → Rises a c
rises_from a b c within (inl more) = inl (omega (arith, within, more))
rises_from a b c within (inr spent) = inr spent

kept : (T : Type 0) (b c : ℕ) (e : JournalError) → (e ≡ DiskFault → ⊥) → Costs {T = T} b c (Err e) → b ≤ c
kept T b c DiskFault other costs = absurd (other refl)
kept T b c (Damaged offset) other costs = costs
kept T b c (TooLong n) other costs = costs
kept T b c (Full len) other costs = costs
kept T b c Reopen other costs = costs
kept T b c NotStarted other costs = costs
kept T b c OneDisk other costs = costs
kept T b c (Spent count) other costs = costs
kept T b c OutOfMemory other costs = costs

memory_apart : (f : JournalError) → f ≡ OutOfMemory → f ≡ DiskFault → ⊥
memory_apart f memory fault = let e : OutOfMemory ≡ DiskFault = sym memory ∙ fault in cc

pub costs_port : (T U : Type 0) (a b c : ℕ) (e f : JournalError) → a ≤ b → Costs {T = T} b c (Err e) → IsPortFault f → (f ≡ DiskFault → e ≡ DiskFault) → (e ≡ DiskFault → f ≡ DiskFault) → Costs {T = U} a c (Err f)
costs_port T U a b c e f within costs (inl fault) there back =
    subst (λ x. Costs {T = U} a c (Err x)) (sym fault) (rises_from a b c within (subst (λ x. Costs {T = T} b c (Err x)) (there fault) costs))
costs_port T U a b c e f within costs (inr memory) there back =
    let more : b ≤ c = kept T b c e (λ is. memory_apart f memory (back is)) costs in
    subst (λ x. Costs {T = U} a c (Err x)) (sym memory) (omega (arith, within, more))

pub port_fault : (e : JournalError) (j : JournalState) → IsPortFault e → IsFoldFault e j
port_fault e j (inl fault) = subst (λ x. IsFoldFault x j) (sym fault) tt
port_fault e j (inr memory) = subst (λ x. IsFoldFault x j) (sym memory) tt

-- ---- a reading between two payloads

-- all that a reading leaves of the journal
abbrev read_of : JournalState → ℕ → JournalState
read_of j faults = record j { live = record { told = j.live.told; faults = faults } }

-- one reading after another
pub read_on : (j mid new : JournalState) → mid ≡ read_of j mid.live.faults → new ≡ record mid { live = record { told = mid.live.told; faults = new.live.faults }; is_broken = new.is_broken } → j.is_broken ≡ false → new.is_broken ≡ false → new ≡ read_of j new.live.faults
read_on j mid new same more whole works =
    more ∙ ap (λ (k : JournalState). record k { live = record { told = k.live.told; faults = new.live.faults }; is_broken = new.is_broken }) same ∙ ap (λ b. record (read_of j new.live.faults) { is_broken = b }) (works ∙ sym whole)

module _ (j mid : JournalState) (same : mid ≡ read_of j mid.live.faults) (paired : is_alone j.other ≡ false) where
  told_mid : told mid ≡ told j
  told_mid = ap told same ∙ told_counts j mid.live.faults j.is_broken

  rows_mid : (payloads : List (List ℕ)) → rows_in mid.other payloads ≡ without_generation payloads
  rows_mid payloads = ap (λ (k : JournalState). rows_in k.other payloads) same ∙ rows-paired j.other payloads paired

  module _ (is_first : Bool) (form : HasForm is_first j) (g : Option ℕ) (first : (files : Files) → told j ≡ Some files → (held : Image) → Holds held files → g ≡ first_generation held.payloads) where
    abbrev pub Read : ℕ → ℕ → Folded → Type 0
    Read index at f = (files : Files) → told j ≡ Some files → (held : Image) → Holds held files → IsRead is_first (is_some g) (without_generation held.payloads) index at f

    module _ (Z : Type 0) (index at : ℕ) (f : Folded) (read : Read index at f) where
      abbrev pub Found : Option (Vec ℕ Z) → Type 0
      Found o = (files : Files) → told mid ≡ Some files → (held : Image) → Holds held files → Replays {Z = Z} (rows_in mid.other held.payloads) index (Ok o)

      -- there is no further payload
      pub all_folded : Found None → IsFolded f.tables j
      all_folded found files tells held holds =
          let past : length (without_generation held.payloads) ≤ index = subst (λ (l : List (List ℕ)). length l ≤ index) (rows_mid held.payloads) (found files (told_mid ∙ tells) held holds) in
          folded-all is_first (is_some g) held index at f f.tables (form files tells held holds) (ap is_some (first files tells held holds)) past (read files tells held holds) refl

      module _ (v : Vec ℕ Z) (p : List ℕ) (is : p ≡ v.items) (found : Found (Some v)) where
        here : (files : Files) → told j ≡ Some files → (held : Image) → Holds held files → slice_get (without_generation held.payloads) index ≡ Some p
        here files tells held holds =
            subst (λ (l : List (List ℕ)). slice_get l index ≡ Some p) (rows_mid held.payloads) (found files (told_mid ∙ tells) held holds ∙ ap (λ (q : List ℕ). Some q) (sym is))

        -- the next one has no reading
        pub fault_folded : folded (reading_in is_first p) f ≡ None → IsFoldFault (Damaged at) j
        fault_folded refused files tells held holds =
            folded-fault is_first (is_some g) held index at p f (form files tells held holds) (ap is_some (first files tells held holds)) (here files tells held holds) refused (read files tells held holds)

        -- it has one
        pub more_folded : (next : Folded) (after : ℕ) → folded (reading_in is_first p) f ≡ Some next → after ≡ at + 5 + length p → Read (index + 1) after next
        more_folded next after taken place files tells held holds =
            subst (λ (n : ℕ). IsRead is_first (is_some g) (without_generation held.payloads) (index + 1) n next) (sym place)
            (subst (λ (i : ℕ). IsRead is_first (is_some g) (without_generation held.payloads) i (at + 5 + length p) next) (let e : suc index ≡ index + 1 = omega arith in e)
            (read-more is_first (is_some g) (without_generation held.payloads) index at p f next (here files tells held holds) taken (read files tells held holds)))

-- the first reading stands behind no payload
pub first_read : (is_first is_snapshot : Bool) (rows : List (List ℕ)) (at : ℕ) (f : Folded) → at ≡ first_place is_snapshot → f ≡ start is_snapshot → IsRead is_first is_snapshot rows 0 at f
first_read is_first is_snapshot rows at f place begun = subst (λ (n : ℕ). IsRead is_first is_snapshot rows 0 n f) (sym place) (subst (IsRead is_first is_snapshot rows 0 (first_place is_snapshot)) (sym begun) (read-none is_first is_snapshot rows))

-- a reading reports what the journal did
pub told_read : (j new : JournalState) → new ≡ record j { live = record { told = j.live.told; faults = new.live.faults }; is_broken = new.is_broken } → told new ≡ told j
told_read j new same = ap told same ∙ told_counts j new.live.faults new.is_broken

-- what the disks report tells which tables and which fault there are
pub folded_told : (t : Tables) (j k : JournalState) → told k ≡ told j → IsFolded t k → IsFolded t j
folded_told t j k same folded = λ files tells. folded files (same ∙ tells)

pub fault_told : (e : JournalError) (j k : JournalState) → told k ≡ told j → IsFoldFault e k → IsFoldFault e j
fault_told (Damaged offset) j k same fault = λ files tells. fault files (same ∙ tells)
fault_told DiskFault j k same fault = tt
fault_told OutOfMemory j k same fault = tt
fault_told (TooLong n) j k same fault = fault
fault_told (Full len) j k same fault = fault
fault_told Reopen j k same fault = fault
fault_told NotStarted j k same fault = fault
fault_told OneDisk j k same fault = fault
fault_told (Spent count) j k same fault = fault

pub paired_read : (j new : JournalState) → new ≡ record j { live = record { told = j.live.told; faults = new.live.faults }; is_broken = new.is_broken } → is_alone j.other ≡ false → is_alone new.other ≡ false
paired_read j new same paired = ap (λ (k : JournalState). is_alone k.other) same ∙ paired

pub number_read : (j new : JournalState) → new ≡ record j { live = record { told = j.live.told; faults = new.live.faults }; is_broken = new.is_broken } → HasNumber j → HasNumber new
number_read j new same has files tells held holds = ap (λ (k : JournalState). k.generation) same ∙ has files (sym (told_read j new same) ∙ tells) held holds
