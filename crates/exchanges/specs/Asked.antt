-- An exchange with the store: a command's frame, and the answer that the bytes read are. Own.
use Rattle.std.specs.Prelude.{◌≡◌, ◌⊎◌, ℕ, Bool, true, false, if◌then◌else◌, List, None, Result, Ok, Err}
use Rattle.actor_ports.specs.Traffic.{Place}
use Rattle.http_edge.specs.Carry.{Carried}
use Rattle.frame_wire.specs.declared.frame.Frame.{Frame}
use Rattle.actor_names.specs.declared.actor_key.ActorKey.{ActorKey}
use Rattle.state_rows.specs.declared.op.StateOp.{StateOp}
use Rattle.frame_wire.specs.declared.frame.Frame.TheVariants.{Command, FencedTx, Answer}
use Rattle.frame_wire.specs.declared.store_command.Stamp.{Stamp}
use Rattle.frame_wire.specs.declared.store_command.StoreCommand.{StoreCommand}
use Rattle.frame_wire.specs.declared.store_answer.StoreAnswer.{StoreAnswer}
use Rattle.frame_wire.specs.Frames.{frame_bytes, IsFrame}
use Rattle.frame_wire.specs.Store.{is_reading_of, is_reading_of_tx}
use Rattle.exchanges.specs.declared.frame_end.FrameEnd.{FrameEnd}
use Rattle.exchanges.specs.declared.frame_end.FrameEnd.TheVariants as ends
use Rattle.exchanges.specs.FrameExchanges.{IsNoFrame, IsCut}
use Rattle.exchanges.specs.Exchanges.{Exchange, IsExchange}
use Rattle.exchanges.specs.declared.store_end.StoreEnd.{StoreEnd}
use Rattle.exchanges.specs.declared.store_end.StoreEnd.TheVariants.{Fault, Unreadable, OutOfMemory}

-- what an exchange comes to: an answer, or why there is none
abbrev pub Got : Type 0
Got = Result StoreAnswer StoreEnd

-- whether an answer fits what was sent
abbrev pub answers : Frame → StoreAnswer → Bool
answers (Command q) a = is_reading_of q a
answers (FencedTx epoch s actor ops) a = is_reading_of_tx a
answers f a = false

-- the bytes are the spelling of this answer, which fits what was sent
pub record HasAnswer (asked : Frame) (bytes : List ℕ) (a : StoreAnswer) : Type 0 where
  pub frame : IsFrame (Answer a)
  pub is : bytes ≡ frame_bytes (Answer a)
  pub fits : answers asked a ≡ true

abbrev pub HasNoAnswer : Frame → List ℕ → Type 0
HasNoAnswer asked bytes = (a : StoreAnswer) → ¬ (HasAnswer asked bytes a)

-- no more had to be read: the bytes are a frame, or they have a fault, or the input ended inside a frame
abbrev pub IsReadWhole : List ℕ → Type 0
IsReadWhole bytes = ((f : Frame) × IsFrame f × (bytes ≡ frame_bytes f)) ⊎ ((at : ℕ) × IsNoFrame bytes None None at)

-- The frame was written, and the bytes read are the answer, or no answer. After a fault or OutOfMemory both may be cut
-- short.
abbrev pub FrameCarries : Frame → Carried → Got → Type 0
FrameCarries asked c (Ok a) = (c.written ≡ frame_bytes asked) × HasAnswer asked c.read a
FrameCarries asked c (Err Unreadable) = (c.written ≡ frame_bytes asked) × IsReadWhole c.read × HasNoAnswer asked c.read
FrameCarries asked c (Err Fault) = IsCut (frame_bytes asked) c
FrameCarries asked c (Err OutOfMemory) = IsCut (frame_bytes asked) c

-- one exchange of this frame with that place; with none, memory ran out before the dial
abbrev pub IsFrameAsked : Frame → Place → List Exchange → Got → Type 0
IsFrameAsked asked at xs got = IsExchange (Err Fault) (Err OutOfMemory) (FrameCarries asked) at xs got

-- one exchange of this command with the store at that place
abbrev pub IsStoreExchange : StoreCommand → Place → List Exchange → Got → Type 0
IsStoreExchange q at xs got = IsFrameAsked (Command q) at xs got

-- one exchange of this transaction of an epoch with the store at that place
abbrev pub IsFencedExchange : ℕ → Stamp → ActorKey → List StateOp → Place → List Exchange → Got → Type 0
IsFencedExchange epoch s actor ops at xs got = IsFrameAsked (FencedTx epoch s actor ops) at xs got

-- what an answer comes to
abbrev pub fitting : Bool → StoreAnswer → Got
fitting fits a = if fits then Ok a else Err Unreadable

-- what the frame that was read comes to, or the cause for which none was
abbrev pub answer_in : Frame → Result Frame FrameEnd → Got
answer_in asked (Ok (Answer a)) = fitting (answers asked a) a
answer_in asked (Ok f) = Err Unreadable
answer_in asked (Err (ends.NoFrame at)) = Err Unreadable
answer_in asked (Err ends.ConnFault) = Err Fault
answer_in asked (Err ends.OutOfMemory) = Err OutOfMemory
