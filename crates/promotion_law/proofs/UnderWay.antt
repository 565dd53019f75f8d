-- At each moment of a step a standby's file is one that a crash of the placement's own disk might have left then.
use Rattle.std.proofs.Common.{◌≡◌, ◌⊎◌, ◌∙◌, inl, inr, refl, sym, ap, subst, ℕ, ◌≤◌, Bool, true, false, List, [], ◌∷◌, ◌++◌, length, Option, None, Some}
use Rattle.disk_model.specs.Disk.{DiskState, MayLeave}
use Rattle.disk_model.specs.Crash.{Since}
use Rattle.disk_model.proofs.Moments.{Facts}
use Rattle.disk_model.proofs.Stages.{tells_on}
use Rattle.frame_wire.specs.declared.mirror.MirrorCommand.{MirrorCommand}
use Rattle.standby_core.specs.Replicas.{disk_after, disk_after_all}
use Rattle.standby_core.proofs.Replicated.{after_more}
use Rattle.standby_session.specs.Images.{Covers, MightLeave, AnsweredCovers, UnderWayCovers}
use Rattle.tx_journal.specs.declared.format.Format.TheVariants.{One}
use Rattle.tx_journal.specs.File.{most_bytes}
use Rattle.tx_journal.specs.Pair.{Files, Claim, live_bytes, read_both, read_files, ReadsAs, SinceBoth, SinceOpened}
use Rattle.tx_journal.specs.Calls.{told}
use Rattle.tx_journal.proofs.Claims.{opened_here}
use Rattle.round_core.specs.Runs.{RunEvent}
use Rattle.placement_node.specs.declared.reply.NodeEvent.{NodeEvent}
use Rattle.placement_node.specs.declared.reply.NodeReply.{NodeReply}
use Rattle.placement_node.specs.Node.{NodeState}
use Rattle.placement_node.specs.Runs.{with_step, RunFits, LeftByEither, StepsAtEnd}
use Rattle.placement_node.specs.Crashes.{IsShortEnough, OpensAtLeft, RefusesLeft}
use Rattle.placement_node.proofs.Laws.{fits_push}
use Rattle.promotion_law.specs.Promotions.{IsFileOf}
use Rattle.promotion_law.specs.UnderWay.{GoesOn, IsFileAmid, IsFileFailed, IsFileAt, IsFileWithin, CallsAreWithin, IsCutOff, other_run, PromotesWithin, RefusesWithin}
use Rattle.promotion_law.proofs.Moments.{goes_then, goes_call, goes_calls, leaves_within}
use Rattle.promotion_law.proofs.Failing.{calls_image, fails_image, fails_leaves, begins_less}
use Rattle.promotion_law.proofs.Promoting.{image_of, opens_either, refuses_either}

-- ---- the file at a moment

-- a call is under way
amid_leaves : UnderWayCovers → (disk last standby : DiskState) (bytes : List ℕ) → Covers disk standby → (f : IsFileAmid disk last standby bytes) → MightLeave disk f.call bytes
amid_leaves covered disk last standby bytes covers f =
    let might = covered disk standby f.call f.sent covers f.within f.begins in
    go might.0 might.1 f.file
  where
    go : ((left : List ℕ) → MayLeave (disk_after_all standby f.sent).instant left → MightLeave disk f.call left) → MightLeave disk f.call (disk_after_all standby f.sent).bytes → IsFileOf (disk_after_all standby f.sent) bytes → MightLeave disk f.call bytes
    go leaves here (inl reads) = subst (MightLeave disk f.call) (sym reads) here
    go leaves here (inr left) = leaves bytes left

-- the standby's disk fails at it
failed_leaves : UnderWayCovers → (disk last standby : DiskState) (bytes : List ℕ) → Covers disk standby → (f : IsFileFailed disk last standby bytes) → MightLeave disk f.call bytes
failed_leaves covered disk last standby bytes covers f = go (fails_leaves f.failed f.error (disk_after_all standby f.sent) f.after f.made.1 bytes (file_left f.file))
  where
    file_left : IsFileOf f.after bytes → MayLeave f.after.instant bytes
    file_left (inl reads) =
        let before = calls_image standby f.sent f.made.0 f.image in
        subst (MayLeave f.after.instant) (sym reads) (fails_image f.failed f.error (disk_after_all standby f.sent) f.after f.made.1 before)
    file_left (inr left) = left

    go : MayLeave (disk_after_all standby f.sent).instant bytes ⊎ MayLeave (disk_after (disk_after_all standby f.sent) f.failed).instant bytes → MightLeave disk f.call bytes
    go (inl before) = (covered disk standby f.call f.sent covers f.within (begins_less f.call f.sent f.failed f.begins)).0 bytes before
    go (inr behind) =
        (covered disk standby f.call (f.sent ++ f.failed ∷ []) covers f.within f.begins).0 bytes
        (subst (λ (d : DiskState). MayLeave d.instant bytes) (sym (after_more standby f.sent (f.failed ∷ []))) behind)

-- what holds of all that a crash may leave on the way holds of the file
pub within_holds : UnderWayCovers → (P : Facts) (first last : DiskState) (bytes : List ℕ) → Since P first last → IsFileWithin first last bytes → P bytes
within_holds covered P first last bytes since w = go w.file
  where
    at_call : (call : MirrorCommand) → GoesOn (disk_after w.disk call) last → MightLeave w.disk call bytes → P bytes
    at_call call ends (inl before) = leaves_within P first w.disk last w.begins w.ends since bytes before
    at_call call ends (inr behind) = leaves_within P first (disk_after w.disk call) last (goes_then first w.disk (disk_after w.disk call) w.begins (goes_call w.disk call)) ends since bytes behind

    go : IsFileAt w.disk last w.standby bytes → P bytes
    go (inl file) = leaves_within P first w.disk last w.begins w.ends since bytes (image_of w.disk w.standby bytes w.covers file)
    go (inr (inl f)) = at_call f.call f.ends (amid_leaves covered w.disk last w.standby bytes w.covers f)
    go (inr (inr f)) = at_call f.call f.ends (failed_leaves covered w.disk last w.standby bytes w.covers f)

pub calls_within : AnsweredCovers → CallsAreWithin
calls_within answered first last standby bytes covers b = record {
  disk = disk_after_all first b.calls;
  standby = disk_after_all standby b.sent;
  covers = answered first standby b.calls b.sent covers b.within b.all_sent;
  begins = goes_calls first b.calls;
  ends = b.ends;
  file = b.file;
}

-- what is read of one file
pub reads_alone : (P : Claim) (first : DiskState) (second : Option DiskState) → second ≡ None → ReadsAs P One first.bytes → P (read_both first second) × (length (live_bytes first second) ≤ most_bytes)
reads_alone P first None alone reads = reads
reads_alone P first (Some d) alone reads = absurd (let no : Some d ≡ None = alone in cc)

-- ---- the step

-- of a journal with one file
since_alone : (P : Claim) (first : DiskState) (second : Option DiskState) (last : DiskState) (second_last : Option DiskState) → second ≡ None → SinceBoth P first second last second_last → Since (ReadsAs P One) first last
since_alone P first None last None alone since = since
since_alone P first None last (Some e) alone since = absurd since
since_alone P first (Some d) last second_last alone since = absurd (let no : Some d ≡ None = alone in cc)

module _ (steps : StepsAtEnd) (run maybe : List RunEvent) (event : NodeEvent) (reply : NodeReply) (old new : NodeState) (files later copy : Files) (c : IsCutOff run maybe event reply old new files later copy) where
  abbrev Leaves : Bool → Claim
  Leaves broken = LeftByEither run (other_run broken maybe (with_step run event))

  -- at each moment of the step
  step_since : (broken : Bool) → old.journal.is_broken ≡ broken → SinceOpened (Leaves broken) files later
  step_since false works =
      let holds = steps run event reply old new c.fits (c.stands.works works) c.moves in
      let on = tells_on (SinceOpened (Leaves false)) (told old.journal) (told new.journal) files holds.risks c.before in
      let both : Some on.0 ≡ Some later = sym on.1 ∙ c.behind in
      let same : on.0 ≡ later = cc in
      subst (SinceOpened (Leaves false) files) same on.2
  step_since true broken =
      let still : told new.journal ≡ told old.journal = ap (λ (n : NodeState). told n.journal) (c.moves.shut broken).1 in
      let both : Some files ≡ Some later = sym c.before ∙ sym still ∙ c.behind in
      let same : files ≡ later = cc in
      subst (SinceOpened (Leaves true) files) same (opened_here (Leaves true) files.first files.second (c.stands.leaves files c.before))

  other_fits : (broken : Bool) → RunFits (other_run broken maybe (with_step run event))
  other_fits true = c.stands.fits.1
  other_fits false = fits_push run event c.stands.fits.0 c.fits

  copy_reads : UnderWayCovers → Leaves old.journal.is_broken (read_files copy) × IsShortEnough copy
  copy_reads covered =
      let since = since_alone (Leaves old.journal.is_broken) files.first files.second later.first later.second c.alone (step_since old.journal.is_broken refl) in
      reads_alone (Leaves old.journal.is_broken) copy.first copy.second c.copy_alone
      (within_holds covered (ReadsAs (Leaves old.journal.is_broken) One) files.first later.first copy.first.bytes since c.file)

pub promotes_within : UnderWayCovers → StepsAtEnd → OpensAtLeft → PromotesWithin
promotes_within covered steps opens run maybe event reply old new m files later copy create now c rooms works opened =
    let left = copy_reads steps run maybe event reply old new files later copy c covered in
    let fits : RunFits run × RunFits (other_run old.journal.is_broken maybe (with_step run event)) = (c.stands.fits.0, other_fits steps run maybe event reply old new files later copy c old.journal.is_broken) in
    opens_either opens run (other_run old.journal.is_broken maybe (with_step run event)) m copy create now fits left.0 rooms works opened

pub refuses_within : UnderWayCovers → StepsAtEnd → RefusesLeft → RefusesWithin
refuses_within covered steps refuses run maybe event reply old new files later copy create now e c refused =
    let left = copy_reads steps run maybe event reply old new files later copy c covered in
    refuses_either refuses run (other_run old.journal.is_broken maybe (with_step run event)) copy create now e left.0 left.1 refused
