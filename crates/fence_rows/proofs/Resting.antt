-- A step that changes nothing risks nothing.
use Rattle.std.proofs.Common.{◌≡◌, inl, ℕ, List, Option, Some, None, refl, sym, ap, subst}
use Rattle.std.specs.Prelude.{Result}
use Rattle.disk_model.specs.Disk.{DiskState}
use Rattle.disk_model.specs.Crash.{Since}
use Rattle.disk_model.proofs.Moments.{later_here}
use Rattle.disk_model.proofs.Stages.{tells_map_at, tells_same}
use Rattle.tx_journal.specs.declared.format.Format.TheVariants.{One, Two}
use Rattle.tx_journal.specs.File.{Image, file_image}
use Rattle.tx_journal.specs.Calls.{told}
use Rattle.tx_journal.specs.Pair.{Files, Claim, live_file, ReadsAs, LeavesBoth, LeavesOpened, SinceBoth, SinceOpened}
use Rattle.store_tables.specs.Tables.{Tables}
use Rattle.store_core.specs.Contents.{OpensWith, OpensWithEither}
use Rattle.store_core.specs.Store.{StoreState, Leaves, Risks}

leaves_both : (P Q : Claim) (first : DiskState) (second : Option DiskState) → ((r : Result Image ℕ) → P r → Q r) → LeavesBoth P first second → LeavesBoth Q first second
leaves_both P Q first None f leaves = λ x image. let l = leaves x image in (f (file_image One x) l.0, l.1)
leaves_both P Q first (Some second) f leaves = λ x image y other. let l = leaves x image y other in (f (file_image Two (live_file x y)) l.0, l.1)

since_both : (P : Claim) (d : DiskState) (second : Option DiskState) → LeavesBoth P d second → SinceBoth P d second d second
since_both P d None leaves = record { start = leaves; later = later_here (ReadsAs P One) d }
since_both P d (Some e) leaves = record {
  start = λ x image. record { start = λ y other. leaves x image y other; later = later_here (λ y. ReadsAs P Two (live_file x y)) e };
  later = later_here (λ x. Since (λ y. ReadsAs P Two (live_file x y)) e e) d;
}

since_same : (after t : Tables) (files : Files) → LeavesOpened (OpensWith t) files → SinceOpened (OpensWithEither t after) files files
since_same after t files leaves =
    since_both (OpensWithEither t after) files.first files.second (leaves_both (OpensWith t) (OpensWithEither t after) files.first files.second (λ r is. inl is) leaves)

-- if whatever a crash leaves opens with the contents, so it does at any moment of such a step
pub rest_risks : (after : Tables) (old new : StoreState) → new ≡ old → Leaves old.contents old → Risks after old new
rest_risks after old new same leaves =
    tells_map_at (λ f g. g ≡ f) (SinceOpened (OpensWithEither old.contents after)) (told old.journal) (told new.journal)
    (λ f g tells is. subst (λ h. SinceOpened (OpensWithEither old.contents after) f h) (sym is) (since_same after old.contents f (leaves f tells)))
    (tells_same (λ f g. g ≡ f) (told old.journal) (told new.journal) (λ f. refl) (ap (λ (s : StoreState). told s.journal) same))
