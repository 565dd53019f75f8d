-- A node that is opened on what a crash left of one.
use Rattle.std.proofs.Common.{◌≡◌, inl, inr, ℕ, suc, ◌≤◌, Bool, true, false, cond, List, ◌++◌, length, take, drop, Option, Some, None, Result, Ok, Err, refl, sym, ap, ◌∙◌, subst, arith}
use Rattle.std.specs.Prelude.{not, ◌&&◌, ◌||◌, nat_lt}
use Rattle.disk_model.specs.Disk.{DiskState}
use Rattle.tx_journal.specs.declared.error.JournalError.TheVariants as faults
use Rattle.tx_journal.specs.declared.format.Format.{Format}
use Rattle.tx_journal.specs.declared.format.Format.TheVariants.{One, Two}
use Rattle.tx_journal.specs.File.{most_bytes, Image, is_made, is_known, payloads_from, file_payloads, file_image}
use Rattle.tx_journal.specs.Pair.{Files, number, file_generation, live_file, live_bytes, read_both, read_files, ReadsAs, LeavesBoth, IsEither}
use Rattle.tx_journal.specs.Calls.{is_making, FindsIn, MayBeLeftIn}
use Rattle.tx_journal.proofs.Claims.{reads_weaker}
use Rattle.tx_journal.proofs.Rests.{damaged}
use Rattle.round_core.specs.Runs.{RunEvent}
use Rattle.placement_core.specs.Placement.{placement_restarted}
use Rattle.placement_node.specs.declared.error.PlacementOpenError.{PlacementOpenError}
use Rattle.placement_node.specs.declared.error.PlacementOpenError.TheVariants.{Journal, BadRecord}
use Rattle.placement_node.specs.Openings.{Finds, HasFault, MayBeLeftBy, RefusesNode, with_restart_record}
use Rattle.placement_node.specs.Runs.{reached, RunFits, AreOfRun, LeftBy, LeftByEither, with_restart}
use Rattle.placement_node.specs.Crashes.{CrashLeaves, OpensAtLeft, MayRefuse, RefusesLeft, OpeningLeaves}
use Rattle.placement_node.proofs.Opens.{restart_pushed, opens_at_end}
use Rattle.placement_node.proofs.Pushes.{Restores, found_run}

-- ---- a file that is read isn't made anew

read_unmade : (newest : Format) (file : List ℕ) (held : Image) → is_made file ≡ false → file_image newest file ≡ Ok held → ⊥
read_unmade newest file held unmade reads =
    let none : file_payloads newest file ≡ Err 0 = ap (λ (b : Bool). cond b (cond (is_known newest (take 7 (drop 1 file))) (payloads_from (suc (length file)) 8 (drop 8 file)) (Err 1)) (Err 0)) unmade in
    let no : Err 0 ≡ Ok held = sym (damaged newest file 0 none) ∙ reads in
    cc

not_made : (create m : Bool) → (create && not m) ≡ true → m ≡ false
not_made true true is = absurd (let no : false ≡ true = is in cc)
not_made true false is = refl
not_made false m is = absurd (let no : false ≡ true = is in cc)

neither : (create m n : Bool) → (create && not m && not n) ≡ true → (m ≡ false) × (n ≡ false)
neither true false false is = (refl, refl)
neither true false true is = absurd (let no : false ≡ true = is in cc)
neither true true n is = absurd (let no : false ≡ true = is in cc)
neither false m n is = absurd (let no : false ≡ true = is in cc)

making_unread : (create : Bool) (d : DiskState) (second : Option DiskState) (held : Image) → is_making create d second ≡ true → read_both d second ≡ Ok held → ⊥
making_unread create d None held making reads = read_unmade One d.bytes held (not_made create (is_made d.bytes) making) reads
making_unread create d (Some e) held making reads =
    let both = neither create (is_made d.bytes) (is_made e.bytes) making in
    let first : live_file d.bytes e.bytes ≡ d.bytes = ap (λ (b : Bool). cond (b && (not (is_made d.bytes) || nat_lt (number (file_generation d.bytes)) (number (file_generation e.bytes)))) e.bytes d.bytes) both.1 in
    read_unmade Two d.bytes held both.0 (ap (file_image Two) (sym first) ∙ reads)

-- what an opening finds in it are the records of the run
found_left : (run : List RunEvent) (create : Bool) (files : Files) (found : Image) → LeftBy run (read_files files) → Finds create files found → AreOfRun run found.payloads
found_left run create files found left finds = go (is_making create files.first files.second) refl finds
  where
    go : (b : Bool) → is_making create files.first files.second ≡ b → FindsIn b files found → AreOfRun run found.payloads
    go true making none = absurd (making_unread create files.first files.second left.0 making left.1)
    go false making reads =
        let both : Ok left.0 ≡ Ok found = sym left.1 ∙ reads in
        let same : left.0 ≡ found = cc in
        subst (λ (i : Image). AreOfRun run i.payloads) same left.2

pub opens_left : Restores → OpensAtLeft
opens_left restored run create now n files fits left rooms whole tells = opens_at_end restored run create now n files fits rooms whole (λ found finds. found_left run create files found left finds) tells

-- ---- what a crash leaves

pub crash_leaves : CrashLeaves
crash_leaves run maybe n files left stands is of = go files.second left.second of.alone of.alone_left (stands.leaves files is)
  where
    go : (a b : Option DiskState) → a ≡ None → b ≡ None → LeavesBoth (LeftByEither run maybe) files.first a → LeftByEither run maybe (read_both left.first b) × (length (live_bytes left.first b) ≤ most_bytes)
    go None None alone also leaves = leaves left.first.bytes of.image
    go None (Some e) alone also leaves = absurd (let no : Some e ≡ None = also in cc)
    go (Some d) b alone also leaves = absurd (let no : Some d ≡ None = alone in cc)

module _ (restored : Restores) (run : List RunEvent) (create : Bool) (now : ℕ) where
  restarting : RunFits run → (found : Image) → AreOfRun run found.payloads → (r : Result Image ℕ) → IsEither found (with_restart_record now found) r → LeftByEither run (with_restart run now) r
  restarting fits found reads r (inl is) = inl (found, is, reads)
  restarting fits found reads r (inr is) = inr (with_restart_record now found, is, restart_pushed restored run found.payloads now fits reads)

  left_at : (d : DiskState) (second : Option DiskState) (left : List ℕ) → second ≡ None → RunFits run → LeftBy run (read_both d second) → length (live_bytes d second) ≤ most_bytes
      → MayBeLeftBy create now (record { first = d; second = second }) left None → ReadsAs (LeftByEither run (with_restart run now)) One left
  left_at d (Some e) left alone fits reads small may = absurd (let no : Some e ≡ None = alone in cc)
  left_at d None left alone fits reads small (inl kept) = go (is_making create d None) refl kept
    where
      go : (b : Bool) → is_making create d None ≡ b → MayBeLeftIn b d None left None → ReadsAs (LeftByEither run (with_restart run now)) One left
      go true making kept = absurd (making_unread create d None reads.0 making reads.1)
      go false making kept = subst (ReadsAs (LeftByEither run (with_restart run now)) One) (sym kept) (inl reads, small)
  left_at d None left alone fits reads small (inr more) =
      let old : Files = record { first = d; second = None } in
      reads_weaker (IsEither more.0 (with_restart_record now more.0)) (LeftByEither run (with_restart run now)) One left
      (restarting fits more.0 (found_left run create old more.0 reads more.1)) more.2

pub opening_leaves : Restores → OpeningLeaves
opening_leaves restored run create now files left alone fits reads small may = left_at restored run create now files.first files.second left alone fits reads small may

-- ---- why it may be refused

pub refuses_left : Restores → RefusesLeft
refuses_left restored run create now e files left small = go e
  where
    no_fault : (x : PlacementOpenError) → HasFault create now x files → ⊥
    no_fault x fault =
        let found = found_run restored run fault.0.payloads now (found_left run create files fault.0 left fault.1) in
        let no : Err x ≡ Ok (placement_restarted (reached run) now) = sym fault.2 ∙ found in
        cc

    no_damage : (offset : ℕ) → read_files files ≡ Err offset → ⊥
    no_damage offset reads = let no : Err offset ≡ Ok left.0 = sym reads ∙ left.1 in cc

    go : (x : PlacementOpenError) → RefusesNode create now x files → MayRefuse create now x files
    go (Journal faults.DiskFault) refuses = tt
    go (Journal faults.OutOfMemory) refuses = tt
    go (Journal (faults.Damaged offset)) (inl journal) = absurd (no_damage offset journal.1)
    go (Journal (faults.Damaged offset)) (inr fault) = absurd (no_fault (Journal (faults.Damaged offset)) fault)
    go (Journal (faults.Full len)) (inl journal) = absurd (let short : length (live_bytes files.first files.second) ≤ most_bytes = small in omega (arith, journal.0, journal.1, short))
    go (Journal (faults.Full len)) (inr room) = room
    go (Journal (faults.TooLong n)) refuses = absurd refuses
    go (Journal faults.Reopen) refuses = absurd refuses
    go (Journal faults.NotStarted) refuses = absurd refuses
    go (Journal faults.OneDisk) refuses = absurd refuses
    go (Journal (faults.Spent count)) refuses = absurd refuses
    go (BadRecord index offset) fault = absurd (no_fault (BadRecord index offset) fault)
