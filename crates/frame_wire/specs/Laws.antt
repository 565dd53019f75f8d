-- What the definitions of frames and streams mean.
use Rattle.std.specs.Prelude.{◌≡◌, ◌++◌, ◌+◌, ◌<◌, ℕ, List, length, slice_index, Option, Some, None, Ok}
use Rattle.frame_wire.specs.declared.error.FrameError.{FrameError}
use Rattle.frame_wire.specs.declared.frame.Frame.{Frame}
use Rattle.frame_wire.specs.declared.look.Found.TheVariants.{Whole}
use Rattle.frame_wire.specs.Frames.{frame_bytes, IsFrame}
use Rattle.actor_names.specs.declared.actor_key.ActorKey.{ActorKey}
use Rattle.state_rows.specs.declared.op.StateOp.{StateOp}
use Rattle.frame_wire.specs.declared.store_answer.StoreAnswer.{StoreAnswer}
use Rattle.frame_wire.specs.declared.store_command.Stamp.{Stamp}
use Rattle.frame_wire.specs.declared.store_command.StoreCommand.{StoreCommand}
use Rattle.frame_wire.specs.declared.store_command.StoreCommand.TheVariants.{Tx}
use Rattle.frame_wire.specs.Store.{command, command_reading, is_reading_of, is_reading_of_tx}
use Rattle.frame_wire.specs.Streams.{look, place, frames_bytes, StreamOf}

-- a frame that is spelled is read again, whatever follows it
abbrev pub ReadsSpelling : Type 0
ReadsSpelling = (at : ℕ) (f : Frame) (rest : List ℕ) → IsFrame f → look at (frame_bytes f ++ rest) ≡ Whole f (length (frame_bytes f))

-- two frames whose spellings begin the same bytes are equal, and so is what follows them
abbrev pub NoPrefix : Type 0
NoPrefix = (f g : Frame) (x y : List ℕ) → IsFrame f → IsFrame g → frame_bytes f ++ x ≡ frame_bytes g ++ y → (f ≡ g) × (x ≡ y)

-- a stream gives its frames, its rest and its fault in only one way
abbrev pub OneReading : Type 0
OneReading =
    (at : ℕ) (stream : List ℕ) (fs gs : List Frame) (x y : List ℕ) (d e : Option FrameError)
    → StreamOf at stream fs x d → StreamOf at stream gs y e → (fs ≡ gs) × (x ≡ y) × (d ≡ e)

-- what comes in two pieces gives the same as what comes in one
abbrev pub JoinsPieces : Type 0
JoinsPieces =
    (at : ℕ) (stream piece : List ℕ) (fs gs : List Frame) (x y : List ℕ) (e : Option FrameError)
    → StreamOf at stream fs x None → StreamOf (place at (length (frames_bytes fs))) (x ++ piece) gs y e → StreamOf at (stream ++ piece) (fs ++ gs) y e

-- ---- a command's frame without its length

abbrev pub IsBytes : List ℕ → Type 0
IsBytes bytes = (i : ℕ) → slice_index bytes i < 256

-- a command that is spelled is read again
abbrev pub ReadsCommand : Type 0
ReadsCommand = (c : StoreCommand) → command.Fits c → command_reading (command.spell c) ≡ Ok c

-- bytes that are read are the spelling of what they give, which fits
abbrev pub SpellsCommand : Type 0
SpellsCommand = (bytes : List ℕ) (c : StoreCommand) → IsBytes bytes → command_reading bytes ≡ Ok c → (bytes ≡ command.spell c) × command.Fits c

-- an answer has a reading to a transaction exactly if it has one to the same transaction with an epoch
abbrev pub ReadsAsTransaction : Type 0
ReadsAsTransaction = (s : Stamp) (actor : ActorKey) (ops : List StateOp) (a : StoreAnswer) → is_reading_of (Tx s actor ops) a ≡ is_reading_of_tx a
