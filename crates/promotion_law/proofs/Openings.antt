-- At each moment of an opening a standby's file is one that a crash of the placement's own disk might have left then.
use Rattle.std.proofs.Common.{◌≡◌, ◌∙◌, inl, inr, sym, ap, subst, ℕ, ◌≤◌, Bool, List, [], ◌∷◌, ◌++◌, length, Option, None, Some, append_assoc}
use Rattle.std.proofs.lemmas.List.{append_cancel_left}
use Rattle.std.specs.List.{AllByRecursion}
use Rattle.disk_model.specs.Disk.{Instant, DiskState, moments}
use Rattle.disk_model.specs.Crash.{LeavesOnly, Later, Since}
use Rattle.disk_model.proofs.Moments.{Facts, later_weaker}
use Rattle.standby_session.specs.Images.{UnderWayCovers}
use Rattle.tx_journal.specs.declared.format.Format.TheVariants.{One}
use Rattle.tx_journal.specs.File.{most_bytes}
use Rattle.tx_journal.specs.Pair.{Files, Claim, live_bytes, read_both, read_files, ReadsAs}
use Rattle.tx_journal.specs.Calls.{LaterBoth}
use Rattle.round_core.specs.Runs.{RunEvent, Steps as Stepped, Restarts}
use Rattle.placement_node.specs.Openings.{MayBeLeftBy}
use Rattle.placement_node.specs.Runs.{RunFits, LeftByEither, with_restart}
use Rattle.placement_node.specs.Crashes.{IsShortEnough, OpensAtLeft, RefusesLeft, OpeningLeaves}
use Rattle.promotion_law.specs.UnderWay.{GoesOn, IsFileWithin}
use Rattle.promotion_law.specs.Openings.{IsNext, IsFileOpening, IsCutOpening, PromotesOpening, RefusesOpening}
use Rattle.promotion_law.proofs.Moments.{goes_then}
use Rattle.promotion_law.proofs.Promoting.{opens_either, refuses_either}
use Rattle.promotion_law.proofs.UnderWay.{within_holds, reads_alone}

-- ---- moments behind the first

since_next : (P : Facts) (first next last : DiskState) → IsNext first next → GoesOn next last → Later P first last → Since P next last
since_next P first next last is on later =
    let grows : moments last ≡ moments first ++ (next.instant ∷ on.0) = on.1 ∙ ap (λ (l : List Instant). l ++ on.0) is ∙ append_assoc (moments first) (next.instant ∷ []) on.0 in
    let same : later.recent ≡ next.instant ∷ on.0 = append_cancel_left (moments first) later.recent (next.instant ∷ on.0) (sym later.grows ∙ grows) in
    let all : AllByRecursion (LeavesOnly P) (next.instant ∷ on.0) = subst (AllByRecursion (LeavesOnly P)) same later.each in
    record { start = all.0; later = record { recent = on.0; grows = on.1; each = all.1 } }

-- what holds of all that a crash may leave behind the first call of an opening holds of the file
opening_holds : UnderWayCovers → (P : Facts) (first last : DiskState) (bytes : List ℕ) → P first.bytes → Later P first last → IsFileOpening first last bytes → P bytes
opening_holds covered P first last bytes reads later (inl same) = subst P (sym same) reads
opening_holds covered P first last bytes reads later (inr f) =
    let next : DiskState = f.0 in
    let w : IsFileWithin next last bytes = f.2 in
    within_holds covered P next last bytes (since_next P first next last f.1 (goes_then next w.disk last w.begins w.ends) later) w

-- ---- the opening

later_alone : (P : List ℕ → Option (List ℕ) → Type 0) (first : DiskState) (second : Option DiskState) (last : DiskState) (second_last : Option DiskState) → second ≡ None → LaterBoth P first second last second_last → Later (λ f. P f None) first last
later_alone P first None last None alone later = later
later_alone P first None last (Some e) alone later = absurd later
later_alone P first (Some d) last second_last alone later = absurd (let no : Some d ≡ None = alone in cc)

-- the file that was found
found_alone : (P : Claim) (first : DiskState) (second : Option DiskState) → second ≡ None → P (read_both first second) → length (live_bytes first second) ≤ most_bytes → ReadsAs P One first.bytes
found_alone P first None alone reads short = (reads, short)
found_alone P first (Some d) alone reads short = absurd (let no : Some d ≡ None = alone in cc)

fits_restart : (run : List RunEvent) (now : ℕ) → RunFits run → RunFits (with_restart run now)
fits_restart [] now fits = tt
fits_restart (Stepped event at ∷ run) now fits = (fits.0, fits_restart run now fits.1)
fits_restart (Restarts at ∷ run) now fits = fits_restart run now fits

copy_reads : UnderWayCovers → OpeningLeaves → (run : List RunEvent) (create : Bool) (now : ℕ) (old new copy : Files) → IsCutOpening run create now old new copy → LeftByEither run (with_restart run now) (read_files copy) × IsShortEnough copy
copy_reads covered opening run create now old new copy c =
    let P : Claim = LeftByEither run (with_restart run now) in
    let later = later_alone (MayBeLeftBy create now old) old.first old.second new.first new.second c.alone c.keeps in
    let all : Later (ReadsAs P One) old.first new.first =
    later_weaker (λ f. MayBeLeftBy create now old f None) (ReadsAs P One) old.first new.first (λ left may. opening run create now old left c.alone c.fits c.left c.short may) later in
    let found : ReadsAs P One old.first.bytes = found_alone P old.first old.second c.alone (inl c.left) c.short in
    reads_alone P copy.first copy.second c.copy_alone (opening_holds covered (ReadsAs P One) old.first new.first copy.first.bytes found all c.file)

pub promotes_opening : UnderWayCovers → OpeningLeaves → OpensAtLeft → PromotesOpening
promotes_opening covered opening opens run m old new copy create again now later c rooms works opened =
    let left = copy_reads covered opening run create now old new copy c in
    opens_either opens run (with_restart run now) m copy again later (c.fits, fits_restart run now c.fits) left.0 rooms works opened

pub refuses_opening : UnderWayCovers → OpeningLeaves → RefusesLeft → RefusesOpening
refuses_opening covered opening refuses run old new copy create again now later e c refused =
    let left = copy_reads covered opening run create now old new copy c in
    refuses_either refuses run (with_restart run now) copy again later e left.0 left.1 refused
