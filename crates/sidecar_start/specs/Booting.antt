-- A boot asked of the store: what its answer comes to. Own.
use Rattle.std.specs.Prelude.{◌≡◌, ◌<◌, ℕ, List, Option, Some, None, Result, Ok, Err}
use Rattle.http_edge.specs.Carry.{Carried}
use Rattle.frame_wire.specs.declared.frame.Frame.{Frame}
use Rattle.frame_wire.specs.declared.frame.Frame.TheVariants.{Command, Answer}
use Rattle.frame_wire.specs.declared.store_command.StoreCommand.TheVariants.{Boot}
use Rattle.frame_wire.specs.declared.store_answer.StoreAnswer.TheVariants.{Booted, Refused}
use Rattle.frame_wire.specs.Frames.{frame_bytes, IsFrame}
use Rattle.frame_wire.specs.StoreParts.{store_refusal_tag}
use Rattle.exchanges.specs.declared.frame_end.FrameEnd.{FrameEnd}
use Rattle.exchanges.specs.declared.frame_end.FrameEnd.TheVariants.{NoFrame, ConnFault, OutOfMemory}
use Rattle.exchanges.specs.FrameExchanges.{ExchangesFrame}
use Rattle.sidecar_start.specs.declared.end.StartEnd.{StartEnd}
use Rattle.sidecar_start.specs.declared.end.StartEnd.TheVariants as ends
use Rattle.sidecar_start.specs.declared.words.StartWords.{StartWords}

-- the frame that asks for a boot of this node
abbrev pub boot_frame : StartWords → Frame
boot_frame w = Command (Boot w.space w.node)

-- What the store's frame says, or that none was read: a boot, a refusal by its code; else nothing, and then the
-- store is asked again.
abbrev pub boot_in : Result Frame FrameEnd → Result (Option ℕ) StartEnd
boot_in (Ok (Answer (Booted n))) = Ok (Some n)
boot_in (Ok (Answer (Refused r))) = Err (ends.StoreRefused (store_refusal_tag r))
boot_in (Ok f) = Ok None
boot_in (Err (NoFrame at)) = Ok None
boot_in (Err ConnFault) = Ok None
boot_in (Err OutOfMemory) = Err ends.OutOfMemory

-- the bytes are the spelling of no other frame
abbrev pub FrameSettles : List ℕ → Result Frame FrameEnd → Type 0
FrameSettles bytes (Ok f) = (g : Frame) → IsFrame g → bytes ≡ frame_bytes g → g ≡ f
FrameSettles bytes (Err (NoFrame at)) = (g : Frame) → IsFrame g → bytes ≡ frame_bytes g → ⊥
FrameSettles bytes (Err ConnFault) = Unit {0}
FrameSettles bytes (Err OutOfMemory) = Unit {0}

-- The frame was written, and the bytes read are the spelling of a frame, or of none. After a fault of the link, with
-- which the count rose, or OutOfMemory both may be cut short.
pub record BootCarries (asked : Frame) (c : Carried) (rise : ℕ) (got : Result (Option ℕ) StartEnd) : Type 0 where
  pub read : Result Frame FrameEnd
  pub gives : ExchangesFrame (frame_bytes asked) c None None read
  pub settles : FrameSettles c.read read
  pub faults : read ≡ Err ConnFault → 0 < rise
  pub comes : got ≡ boot_in read
