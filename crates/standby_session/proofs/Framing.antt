-- Calls whose places and lengths are numbers of 64 bits, and whose writes fit a frame, are frames.
use Rattle.std.proofs.Common.{◌≡◌, ◌∙◌, ℕ, ◌+◌, ◌≤◌, ◌<◌, true, List, [], ◌∷◌, ◌++◌, length, drop, sym, ap, subst, arith, length-append, length-drop}
use Rattle.std.specs.Prelude.{nat_le}
use Rattle.std.proofs.lemmas.Bool.Decides.{nat_tests}
use Rattle.wire_fields.specs.Fields.{number32, number64}
use Rattle.frame_wire.specs.declared.frame.Frame.TheVariants.{Mirror}
use Rattle.frame_wire.specs.declared.mirror.MirrorCommand.{MirrorCommand}
use Rattle.frame_wire.specs.declared.mirror.MirrorCommand.TheVariants as commands
use Rattle.frame_wire.specs.Frames.{payload, IsFrame}
use Rattle.frame_wire.specs.Mirrors.{most_piece, piece}
use Rattle.standby_core.specs.declared.call.MirrorCall.{MirrorCall}
use Rattle.standby_core.specs.declared.call.MirrorCall.TheVariants.{Write, Cut, Sync}
use Rattle.standby_core.specs.Replicas.{ArePieces, first_of, first_call}
use Rattle.standby_core.specs.Attaching.{IsAttach}
use Rattle.standby_session.specs.Sessions.{AreFrames}
use Rattle.standby_session.specs.Standbys.{commands_of, AreShort, HaveNumbers}

-- ---- one call

few : (n : ℕ) → n ≤ 1048576 → nat_le n 1048576 ≡ true
few n short = grind (arith, nat_tests)

write_frame : (at : ℕ) (new : List ℕ) → at < 18446744073709551616 → length new ≤ most_piece → IsFrame (Mirror (commands.Write at new))
unfolding payload number32 number64 piece
write_frame at new place short =
    let size : length new < 4294967296 = omega (arith, short) in
    ((place, (size, few (length new) short)), omega (arith, short))

cut_frame : (len : ℕ) → len < 18446744073709551616 → IsFrame (Mirror (commands.Cut len))
unfolding payload number64
cut_frame len fits = (fits, omega arith)

sync_frame : IsFrame (Mirror commands.Sync)
unfolding payload
sync_frame = (tt, omega arith)

-- ---- several

pub frames_more : (cs ds : List MirrorCommand) → AreFrames cs → AreFrames ds → AreFrames (cs ++ ds)
frames_more [] ds a b = b
frames_more (c ∷ cs) ds a b = (a.0, frames_more cs ds a.1 b)

pub frames_of : (calls : List MirrorCall) → AreShort calls → HaveNumbers (commands_of calls) → AreFrames (commands_of calls)
frames_of [] short fit = tt
frames_of (Write at bytes ∷ calls) short fit = (write_frame at bytes.items fit.0 short.0, frames_of calls short.1 fit.1)
frames_of (Cut len ∷ calls) short fit = (cut_frame len fit.0, frames_of calls short fit.1)
frames_of (Sync ∷ calls) short fit = (sync_frame, frames_of calls short fit)

pieces_frames : (at : ℕ) (new : List ℕ) (calls : List MirrorCommand) (rest : List ℕ) → at + length new < 18446744073709551616 → ArePieces at new calls rest → AreFrames calls
pieces_frames at new [] rest below is = tt
pieces_frames at new (commands.Write place b ∷ calls) rest below is =
    let size : length new ≡ length b + length is.2.0 = ap length is.2.1 ∙ length-append b is.2.0 in
    let here : place ≡ at = is.0 in
    (write_frame place b (omega (arith, here, below)) is.1, pieces_frames (at + length b) is.2.0 calls rest (omega (arith, below, size)) is.2.2)
pieces_frames at new (commands.Cut len ∷ calls) rest below is = absurd is
pieces_frames at new (commands.Sync ∷ calls) rest below is = absurd is

first_frames : (bytes : List ℕ) → AreFrames (commands.Sync ∷ first_call (first_of bytes) ∷ commands.Sync ∷ [])
first_frames [] = (sync_frame, (cut_frame 0 (omega arith), (sync_frame, tt)))
first_frames (b ∷ bytes) = (sync_frame, (write_frame 0 (b ∷ []) (omega arith) (omega arith), (sync_frame, tt)))

-- those of an attach, for a disk whose length is such a number
pub attach_frames : (bytes : List ℕ) (attach : List MirrorCommand) → length bytes < 18446744073709551616 → IsAttach bytes attach → AreFrames attach
attach_frames bytes attach below is =
    let pieces : List MirrorCommand = is.0 in
    let within : 1 + length (drop 1 bytes) < 18446744073709551616 = omega (arith, below, length-drop 1 bytes) in
    let behind : AreFrames (pieces ++ commands.Sync ∷ first_call (first_of bytes) ∷ commands.Sync ∷ []) = frames_more pieces (commands.Sync ∷ first_call (first_of bytes) ∷ commands.Sync ∷ []) (pieces_frames 1 (drop 1 bytes) pieces [] within is.1) (first_frames bytes) in
    subst AreFrames (sym is.2) (cut_frame 0 (omega arith), (write_frame 0 (0 ∷ []) (omega arith) (omega arith), (sync_frame, behind)))
