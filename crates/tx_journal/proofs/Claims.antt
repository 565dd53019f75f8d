-- What follows from claims about what a crash leaves of files.
use Rattle.std.proofs.Common.{ℕ, List, Option, Some, None, Result}
use Rattle.disk_model.specs.Disk.{DiskState}
use Rattle.disk_model.specs.Crash.{Since}
use Rattle.disk_model.proofs.Moments.{later_here, since_now, since_weaker}
use Rattle.tx_journal.specs.declared.format.Format.{Format}
use Rattle.tx_journal.specs.declared.format.Format.TheVariants.{One, Two}
use Rattle.tx_journal.specs.File.{Image, file_image}
use Rattle.tx_journal.specs.Pair.{Claim, live_file, ReadsAs, LeavesBoth, SinceBoth}

-- claims that follow from claims
pub reads_weaker : (P Q : Claim) (newest : Format) (file : List ℕ) → ((r : Result Image ℕ) → P r → Q r) → ReadsAs P newest file → ReadsAs Q newest file
reads_weaker P Q newest file f reads = (f (file_image newest file) reads.0, reads.1)

pub leaves_weaker : (P Q : Claim) (first : DiskState) (second : Option DiskState) → ((r : Result Image ℕ) → P r → Q r) → LeavesBoth P first second → LeavesBoth Q first second
leaves_weaker P Q first None f leaves = λ x image. reads_weaker P Q One x f (leaves x image)
leaves_weaker P Q first (Some second) f leaves = λ x image y other. reads_weaker P Q Two (live_file x y) f (leaves x image y other)

pub since_opened_weaker : (P Q : Claim) (a : DiskState) (b : Option DiskState) (a_new : DiskState) (b_new : Option DiskState) → ((r : Result Image ℕ) → P r → Q r) → SinceBoth P a b a_new b_new → SinceBoth Q a b a_new b_new
since_opened_weaker P Q a None a_new None f since = since_weaker (ReadsAs P One) (ReadsAs Q One) a a_new (λ x. reads_weaker P Q One x f) since
since_opened_weaker P Q a None a_new (Some e) f since = since
since_opened_weaker P Q a (Some d) a_new None f since = since
since_opened_weaker P Q a (Some d) a_new (Some e) f since =
    since_weaker (λ x. Since (λ y. ReadsAs P Two (live_file x y)) d e) (λ x. Since (λ y. ReadsAs Q Two (live_file x y)) d e) a a_new
    (λ x. since_weaker (λ y. ReadsAs P Two (live_file x y)) (λ y. ReadsAs Q Two (live_file x y)) d e (λ y. reads_weaker P Q Two (live_file x y) f)) since

-- this moment is one of those since an earlier one
pub opened_now : (P : Claim) (a : DiskState) (b : Option DiskState) (a_new : DiskState) (b_new : Option DiskState) → SinceBoth P a b a_new b_new → LeavesBoth P a_new b_new
opened_now P a None a_new None since = since_now (ReadsAs P One) a a_new since
opened_now P a None a_new (Some e) since = absurd since
opened_now P a (Some d) a_new None since = absurd since
opened_now P a (Some d) a_new (Some e) since =
    λ x image. since_now (λ y. ReadsAs P Two (live_file x y)) d e (since_now (λ x. Since (λ y. ReadsAs P Two (live_file x y)) d e) a a_new since x image)

-- nothing was called
pub opened_here : (P : Claim) (a : DiskState) (b : Option DiskState) → LeavesBoth P a b → SinceBoth P a b a b
opened_here P a None leaves = record { start = leaves; later = later_here (ReadsAs P One) a }
opened_here P a (Some b) leaves = record {
  start = λ x image. record { start = leaves x image; later = later_here (λ y. ReadsAs P Two (live_file x y)) b };
  later = later_here (λ x. Since (λ y. ReadsAs P Two (live_file x y)) b b) a;
}
