-- An opening of one file, seen as an opening of a journal.
use Rattle.std.proofs.Common.{◌≡◌, ℕ, Bool, true, false, List, Option, Some, None, refl, ap, subst, arith}
use Rattle.disk_model.specs.Disk.{DiskState, Tells}
use Rattle.disk_model.proofs.Moments.{later_weaker, leaves_durable}
use Rattle.disk_model.proofs.Stages.{told_before}
use Rattle.tx_journal.specs.declared.error.JournalError.{JournalError}
use Rattle.tx_journal.specs.declared.error.JournalError.TheVariants.{DiskFault, Damaged, TooLong, Full, Reopen, NotStarted, OneDisk, Spent, OutOfMemory}
use Rattle.tx_journal.specs.declared.format.Format.{Format}
use Rattle.tx_journal.specs.declared.format.Format.TheVariants.{One, Two}
use Rattle.tx_journal.specs.File.{image}
use Rattle.tx_journal.specs.Pair.{Files, ReadsAs, IsJust}
use Rattle.tx_journal.specs.Journal.{is_to_make, MayBeLeft, KeepsFile, OpensAs, Opens, Refuses}
use Rattle.tx_journal.specs.Calls.{tell_one, FindsIn, OpensFiles, MayBeLeftIn, KeepsFiles, RefusesFiles}
use Rattle.tx_journal.specs.Found.{at_first}
use Rattle.tx_journal.specs.Sound.{IsLive}
use Rattle.tx_journal.proofs.Openings.{opened_stands}
use Rattle.tx_journal.proofs.Rests.{rest_stands, damaged}

abbrev alone : DiskState → Files
alone d = record { first = d; second = None }

opens_one : (create : Bool) (found : ℕ × Format) (d e : DiskState) → Opens One create found d e → OpensFiles create (alone d) (alone e)
opens_one create found d e opens =
    let stands = rest_stands opens.1 found.0 e.bytes opens.3 in (
      image found.1 opens.1,
      finds (is_to_make create d.bytes) refl opens.2,
      record { reads = stands; small = opens.3.small; leaves = leaves_durable (ReadsAs (IsJust (image found.1 opens.1)) One) e opens.4 (stands, opens.3.small) },
      opens.5,
    )
  where
    finds : (b : Bool) → is_to_make create d.bytes ≡ b → OpensAs One b d.bytes opens.1 → FindsIn b (alone d) (image found.1 opens.1)
    finds true is as_ = as_
    finds false is as_ = opened_stands One create found d e opens is

left_one : (b : Bool) (d : DiskState) (f : List ℕ) → MayBeLeft One b d.bytes f → MayBeLeftIn b d None f None
left_one true d f left = left
left_one false d f left = left

keeps_one : (create : Bool) (d e : DiskState) → KeepsFile One create d e → KeepsFiles create (alone d) (alone e)
keeps_one create d e keeps = later_weaker (MayBeLeft One (is_to_make create d.bytes) d.bytes) (λ f. MayBeLeftIn (is_to_make create d.bytes) d None f None) d e (λ f. left_one (is_to_make create d.bytes) d f) keeps

-- from what one disk reports to what a journal on it reports
tells_alone : (step : Files → Files → Type 0) (R : DiskState → DiskState → Type 0) (a b : Option DiskState) → ((d e : DiskState) → R d e → step (alone d) (alone e)) → Tells R a b → Tells step (tell_one a) (tell_one b)
tells_alone step R None b f tells = ap tell_one tells
tells_alone step R (Some d) b f tells = (alone tells.0, ap tell_one tells.1, f d tells.0 tells.2)

pub one_opened : (create : Bool) (found : ℕ × Format) (a b : Option DiskState) → Tells (Opens One create found) a b → Tells (OpensFiles create) (tell_one a) (tell_one b)
one_opened create found a b tells = tells_alone (OpensFiles create) (Opens One create found) a b (opens_one create found) tells

pub one_kept : (create : Bool) (a b : Option DiskState) → Tells (KeepsFile One create) a b → Tells (KeepsFiles create) (tell_one a) (tell_one b)
one_kept create a b tells = tells_alone (KeepsFiles create) (KeepsFile One create) a b (keeps_one create) tells

refuses_alone : (create : Bool) (e : JournalError) (d : DiskState) → Refuses One create e d → RefusesFiles create e (alone d)
refuses_alone create DiskFault d refuses = tt
refuses_alone create (Damaged offset) d refuses = (refuses.0, damaged One d.bytes offset refuses.1)
refuses_alone create (TooLong n) d refuses = refuses
refuses_alone create (Full len) d refuses = refuses
refuses_alone create Reopen d refuses = refuses
refuses_alone create NotStarted d refuses = refuses
refuses_alone create OneDisk d refuses = refuses
refuses_alone create (Spent count) d refuses = refuses
refuses_alone create OutOfMemory d refuses = tt

pub one_refused : (create : Bool) (e : JournalError) (a : Option DiskState) → ((d : DiskState) → a ≡ Some d → Refuses One create e d) → (files : Files) → tell_one a ≡ Some files → RefusesFiles create e files
one_refused create e None refuses files is = absurd (let no : None ≡ Some files = is in cc)
one_refused create e (Some d) refuses files is = let same : alone d ≡ files = cc in subst (RefusesFiles create e) same (refuses_alone create e d (refuses d refl))

pub one_live : (create : Bool) (found : ℕ × Format) (a b : Option DiskState) (e : DiskState) → Tells (Opens One create found) a b → b ≡ Some e → IsLive One found.1 None found.0 at_first e
one_live create found a b e tells is =
    let before = told_before (Opens One create found) a b e tells is in
    record {
      payloads = before.2.1;
      settled = record { file = before.2.3; durable = before.2.4; gate = record { within = omega arith; place = refl } };
      numbered = λ two. absurd (let no : One ≡ Two = two in cc);
    }
