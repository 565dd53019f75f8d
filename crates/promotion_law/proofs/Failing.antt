-- What a call leaves at which a standby's disk failed.
use Rattle.std.proofs.Common.{◌≡◌, ◌⊎◌, inl, inr, refl, sym, subst, ℕ, ◌+◌, List, [], ◌∷◌, ◌++◌, length, take}
use Rattle.actor_ports.specs.declared.port.PortError.{PortError}
use Rattle.actor_ports.specs.declared.port.PortError.TheVariants as ports
use Rattle.disk_model.specs.Disk.{DiskState, MayLeave, overwritten}
use Rattle.disk_model.specs.Crash.{ReadsAnImage}
use Rattle.disk_model.specs.declared.change.Change.TheVariants.{Over, CutTo}
use Rattle.disk_model.proofs.Sound.{lead_push}
use Rattle.disk_model.proofs.Stages.{torn_overwritten}
use Rattle.frame_wire.specs.declared.mirror.MirrorCommand.{MirrorCommand}
use Rattle.frame_wire.specs.declared.mirror.MirrorCommand.TheVariants.{Write, Cut, Sync}
use Rattle.standby_core.specs.Replicas.{IsWithin, AreWithin, ArePieces, disk_after, disk_after_all}
use Rattle.standby_session.specs.Sessions.{FailsCall}
use Rattle.standby_session.specs.Images.{BeginFor}

-- ---- a disk reads as a crash might leave it

call_image : (d : DiskState) (call : MirrorCommand) → IsWithin d.bytes call → ReadsAnImage d → ReadsAnImage (disk_after d call)
call_image d (Write at new) within image = lead_push d.instant.pending (Over at (length new)) d.instant.synced d.bytes (overwritten d.bytes at new) image (torn_overwritten d.bytes new at within)
call_image d (Cut len) within image = lead_push d.instant.pending (CutTo len) d.instant.synced d.bytes (take len d.bytes) image (inr refl)
call_image d Sync within image = refl

pub calls_image : (d : DiskState) (calls : List MirrorCommand) → AreWithin d.bytes calls → ReadsAnImage d → ReadsAnImage (disk_after_all d calls)
calls_image d [] within image = image
calls_image d (Write at new ∷ calls) within image = calls_image (disk_after d (Write at new)) calls within.1 (call_image d (Write at new) within.0 image)
calls_image d (Cut len ∷ calls) within image = calls_image (disk_after d (Cut len)) calls within.1 (call_image d (Cut len) within.0 image)
calls_image d (Sync ∷ calls) within image = calls_image (disk_after d Sync) calls within.1 (call_image d Sync within.0 image)

-- so it does behind a call that failed
pub fails_image : (call : MirrorCommand) (error : PortError) (d e : DiskState) → FailsCall call error d e → ReadsAnImage d → ReadsAnImage e
fails_image (Write at new) ports.Failed d e (inl same) image = subst ReadsAnImage (sym same) image
fails_image (Write at new) ports.Failed d e (inr torn) image =
    subst ReadsAnImage (sym torn.2) (lead_push d.instant.pending (Over at (length new)) d.instant.synced d.bytes torn.0 image torn.1)
fails_image (Write at new) ports.OutOfMemory d e same image = subst ReadsAnImage (sym same) image
fails_image (Cut len) ports.Failed d e (inl same) image = subst ReadsAnImage (sym same) image
fails_image (Cut len) ports.Failed d e (inr cut) image =
    subst ReadsAnImage (sym cut.2) (lead_push d.instant.pending (CutTo len) d.instant.synced d.bytes cut.0 image cut.1)
fails_image (Cut len) ports.OutOfMemory d e same image = subst ReadsAnImage (sym same) image
fails_image Sync ports.Failed d e (inl same) image = subst ReadsAnImage (sym same) image
fails_image Sync ports.Failed d e (inr synced) image = subst ReadsAnImage (sym synced) refl
fails_image Sync ports.OutOfMemory d e same image = subst ReadsAnImage (sym same) image

-- ---- what a crash may leave behind a call that failed

-- it might have left that before the call, or behind it
pub fails_leaves : (call : MirrorCommand) (error : PortError) (d e : DiskState) → FailsCall call error d e → (left : List ℕ) → MayLeave e.instant left → MayLeave d.instant left ⊎ MayLeave (disk_after d call).instant left
fails_leaves (Write at new) ports.Failed d e (inl same) left may = inl (subst (λ (s : DiskState). MayLeave s.instant left) same may)
fails_leaves (Write at new) ports.Failed d e (inr torn) left may = inr (subst (λ (s : DiskState). MayLeave s.instant left) torn.2 may)
fails_leaves (Write at new) ports.OutOfMemory d e same left may = inl (subst (λ (s : DiskState). MayLeave s.instant left) same may)
fails_leaves (Cut len) ports.Failed d e (inl same) left may = inl (subst (λ (s : DiskState). MayLeave s.instant left) same may)
fails_leaves (Cut len) ports.Failed d e (inr cut) left may = inr (subst (λ (s : DiskState). MayLeave s.instant left) cut.2 may)
fails_leaves (Cut len) ports.OutOfMemory d e same left may = inl (subst (λ (s : DiskState). MayLeave s.instant left) same may)
fails_leaves Sync ports.Failed d e (inl same) left may = inl (subst (λ (s : DiskState). MayLeave s.instant left) same may)
fails_leaves Sync ports.Failed d e (inr synced) left may = inr (subst (λ (s : DiskState). MayLeave s.instant left) synced may)
fails_leaves Sync ports.OutOfMemory d e same left may = inl (subst (λ (s : DiskState). MayLeave s.instant left) same may)

-- ---- the first of what is sent for a call, without the last of these

pieces_less : (at : ℕ) (new : List ℕ) (sent : List MirrorCommand) (last : MirrorCommand) (rest : List ℕ) → ArePieces at new (sent ++ last ∷ []) rest → (more : List ℕ) × ArePieces at new sent more
pieces_less at new [] last rest is = (new, refl)
pieces_less at new (Write place b ∷ sent) last rest is =
    let less = pieces_less (at + length b) is.2.0 sent last rest is.2.2 in
    (less.0, (is.0, is.1, (is.2.0, is.2.1, less.1)))
pieces_less at new (Cut len ∷ sent) last rest is = absurd is
pieces_less at new (Sync ∷ sent) last rest is = absurd is

only_less : (call : MirrorCommand) (sent : List MirrorCommand) (last : MirrorCommand) → (sent ++ last ∷ [] ≡ []) ⊎ (sent ++ last ∷ [] ≡ call ∷ []) → (sent ≡ []) ⊎ (sent ≡ call ∷ [])
only_less call [] last is = inl refl
only_less call (first ∷ sent) last (inl is) = absurd (let no : first ∷ sent ++ last ∷ [] ≡ [] = is in cc)
only_less call (first ∷ []) last (inr is) = absurd (let no : first ∷ last ∷ [] ≡ call ∷ [] = is in cc)
only_less call (first ∷ second ∷ sent) last (inr is) = absurd (let no : first ∷ second ∷ sent ++ last ∷ [] ≡ call ∷ [] = is in cc)

pub begins_less : (call : MirrorCommand) (sent : List MirrorCommand) (last : MirrorCommand) → BeginFor call (sent ++ last ∷ []) → BeginFor call sent
begins_less (Write at new) sent last is = pieces_less at new sent last is.0 is.1
begins_less (Cut len) sent last is = only_less (Cut len) sent last is
begins_less Sync sent last is = only_less Sync sent last is
