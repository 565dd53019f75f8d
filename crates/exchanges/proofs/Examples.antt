-- Worked examples of what an exchange with the store comes to.
use Rattle.std.proofs.Common.{◌≡◌, ℕ, List, None, Ok, Err, true, false, refl}
use Rattle.actor_names.specs.declared.actor_key.ActorKey.{ActorKey}
use Rattle.state_rows.specs.declared.op.StateOp.{StateOp}
use Rattle.frame_wire.specs.declared.frame.Frame.TheVariants.{Command, FencedTx, Answer, Idle}
use Rattle.frame_wire.specs.declared.store_command.Stamp.{Stamp}
use Rattle.frame_wire.specs.declared.store_refusal.StoreRefusal.TheVariants.{StaleEpoch}
use Rattle.frame_wire.specs.declared.store_command.StoreCommand.TheVariants.{Get, Due}
use Rattle.frame_wire.specs.declared.store_answer.StoreAnswer.TheVariants.{Value, NotThere, Done, Refused}
use Rattle.exchanges.specs.declared.frame_end.FrameEnd.TheVariants.{NoFrame, ConnFault}
use Rattle.exchanges.specs.declared.store_end.StoreEnd.TheVariants.{Fault, Unreadable}
use Rattle.exchanges.specs.Asked.{answer_in}

-- a value, and that there is none, answer a Get
value_is_read : (a : ActorKey) (key value : List ℕ) → answer_in (Command (Get a key)) (Ok (Answer (Value value))) ≡ Ok (Value value)
value_is_read a key value = refl

absence_is_read : (a : ActorKey) (key : List ℕ) → answer_in (Command (Get a key)) (Ok (Answer NotThere)) ≡ Ok NotThere
absence_is_read a key = refl

-- Done doesn't, and nothing is never an answer to a Due
done_has_no_reading : (a : ActorKey) (key : List ℕ) → answer_in (Command (Get a key)) (Ok (Answer (Done false))) ≡ Err Unreadable
done_has_no_reading a key = refl

nothing_has_no_reading : answer_in (Command (Due None 1)) (Ok (Answer NotThere)) ≡ Err Unreadable
nothing_has_no_reading = refl

-- a transaction of an epoch is answered as one without
done_answers_an_epoch : (s : Stamp) (a : ActorKey) (ops : List StateOp) → answer_in (FencedTx 3 s a ops) (Ok (Answer (Done true))) ≡ Ok (Done true)
done_answers_an_epoch s a ops = refl

later_epoch_is_told : (s : Stamp) (a : ActorKey) (ops : List StateOp) → answer_in (FencedTx 2 s a ops) (Ok (Answer (Refused (StaleEpoch 3)))) ≡ Ok (Refused (StaleEpoch 3))
later_epoch_is_told s a ops = refl

value_has_no_reading_to_an_epoch : (s : Stamp) (a : ActorKey) (ops : List StateOp) (value : List ℕ) → answer_in (FencedTx 3 s a ops) (Ok (Answer (Value value))) ≡ Err Unreadable
value_has_no_reading_to_an_epoch s a ops value = refl

-- a frame of the placement is no answer of the store
idle_has_no_reading : (a : ActorKey) (key : List ℕ) → answer_in (Command (Get a key)) (Ok Idle) ≡ Err Unreadable
idle_has_no_reading a key = refl

cut_frame_has_no_reading : (a : ActorKey) (key : List ℕ) → answer_in (Command (Get a key)) (Err (NoFrame 3)) ≡ Err Unreadable
cut_frame_has_no_reading a key = refl

fault_is_told : (a : ActorKey) (key : List ℕ) → answer_in (Command (Get a key)) (Err ConnFault) ≡ Err Fault
fault_is_told a key = refl
