-- Claims about what a crash leaves that follow from others.
use Rattle.std.proofs.Common.{◌≡◌, ℕ, List, Option, Some, None, Result, sym, subst, ◌∙◌}
use Rattle.disk_model.specs.Disk.{DiskState, MayLeave, Tells}
use Rattle.disk_model.specs.Crash.{LeavesOnly, Since}
use Rattle.disk_model.proofs.Stages.{Both}
use Rattle.disk_model.proofs.Moments.{later_here, later_then, since_weaker}
use Rattle.tx_journal.specs.declared.format.Format.TheVariants.{One, Two}
use Rattle.tx_journal.specs.File.{Image}
use Rattle.tx_journal.specs.Pair.{Files, Claim, live_file, ReadsAs, LeavesOpened, SinceBoth, SinceOpened}
use Rattle.tx_journal.proofs.Claims.{leaves_weaker as both_weaker, since_opened_weaker as since_both_weaker, opened_here}

pub leaves_weaker : (P Q : Claim) (files : Files) → ((r : Result Image ℕ) → P r → Q r) → LeavesOpened P files → LeavesOpened Q files
leaves_weaker P Q files f leaves = both_weaker P Q files.first files.second f leaves

pub since_opened_weaker : (P Q : Claim) (old new : Files) → ((r : Result Image ℕ) → P r → Q r) → SinceOpened P old new → SinceOpened Q old new
since_opened_weaker P Q old new f since = since_both_weaker P Q old.first old.second new.first new.second f since

-- nothing was done
pub since_same : (P : Claim) (files : Files) → LeavesOpened P files → SinceOpened P files files
since_same P files leaves = opened_here P files.first files.second leaves

-- a step, with what is reported after it at hand
pub at_told : {S : Type 0} (step : S → S → Type 0) (a b : Option S) → Tells step a b → Tells (Both step (λ d e. b ≡ Some e)) a b
at_told step None b tells = tells
at_told step (Some d) b tells = (tells.0, tells.1, (tells.2, tells.1))

-- ---- steps that write one disk alone

abbrev Facts : Type 1
Facts = List ℕ → Type 0

-- on a disk that stays as it is, what holds now holds since then
now_same : (P : Facts) (d e : DiskState) → e ≡ d → LeavesOnly P d.instant → Since P d e
now_same P d e same leaves = subst (λ (f : DiskState). Since P d f) (sym same) (record { start = leaves; later = later_here P d })

since_then : (P : Facts) (a b c : DiskState) → Since P a b → Since P b c → Since P a c
since_then P a b c first second = record { start = first.start; later = later_then P a b c first.later second.later }

-- two steps, in both of which the first file stays as it is
pub opened_then_second : (P : Claim) (a b c : Files) → b.first ≡ a.first → c.first ≡ b.first → SinceOpened P a b → SinceOpened P b c → SinceOpened P a c
opened_then_second P a b c one two first second = go a.second b.second c.second first second
  where
    go : (x y z : Option DiskState) → SinceBoth P a.first x b.first y → SinceBoth P b.first y c.first z → SinceBoth P a.first x c.first z
    go None None None l r = now_same (ReadsAs P One) a.first c.first (two ∙ one) l.start
    go None None (Some z) l r = absurd r
    go None (Some y) z l r = absurd l
    go (Some x) None z l r = absurd l
    go (Some x) (Some y) None l r = absurd r
    go (Some x) (Some y) (Some z) l r =
        now_same (λ f. Since (λ g. ReadsAs P Two (live_file f g)) x z) a.first c.first (two ∙ one)
        (λ f image.
        since_then (λ g. ReadsAs P Two (live_file f g)) x y z (l.start f image)
        (r.start f (subst (λ (d : DiskState). MayLeave d.instant f) (sym one) image)))

-- two steps, in both of which the second file stays as it is
pub opened_then_first : (P : Claim) (a b c : Files) → b.second ≡ a.second → c.second ≡ b.second → SinceOpened P a b → SinceOpened P b c → SinceOpened P a c
opened_then_first P a b c one two first second = go a.second b.second c.second one two first second
  where
    go : (x y z : Option DiskState) → y ≡ x → z ≡ y → SinceBoth P a.first x b.first y → SinceBoth P b.first y c.first z → SinceBoth P a.first x c.first z
    go None None None ey ez l r = since_then (ReadsAs P One) a.first b.first c.first l r
    go None None (Some z) ey ez l r = absurd r
    go None (Some y) z ey ez l r = absurd l
    go (Some x) None z ey ez l r = absurd l
    go (Some x) (Some y) None ey ez l r = absurd r
    go (Some x) (Some y) (Some z) ey ez l r =
        let same_y : y ≡ x = cc in
        let same_z : z ≡ y = cc in
        let Q : Facts = λ f. Since (λ g. ReadsAs P Two (live_file f g)) x z in
        since_then Q a.first b.first c.first
        (since_weaker (λ f. Since (λ g. ReadsAs P Two (live_file f g)) x y) Q a.first b.first (λ f s. now_same (λ g. ReadsAs P Two (live_file f g)) x z (same_z ∙ same_y) s.start) l)
        (since_weaker (λ f. Since (λ g. ReadsAs P Two (live_file f g)) y z) Q b.first c.first (λ f s. now_same (λ g. ReadsAs P Two (live_file f g)) x z (same_z ∙ same_y) (subst (λ (d : DiskState). LeavesOnly (λ g. ReadsAs P Two (live_file f g)) d.instant) same_y s.start)) r)
