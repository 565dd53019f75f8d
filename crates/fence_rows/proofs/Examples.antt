-- Worked examples of the definitions.
use Rattle.std.proofs.Common.{◌≡◌, ℕ, true, false, List, [], ◌∷◌, Some, None, refl}
use Rattle.std.specs.Prelude.{codes}
use Rattle.std.specs.Fmt.{digits}
use Rattle.actor_names.specs.Names.{default_space}
use Rattle.actor_names.specs.declared.actor_key.ActorKey.{ActorKey}
use Rattle.state_rows.specs.declared.op.StateOp.TheVariants.{Upsert, Delete}
use Rattle.frame_wire.specs.declared.store_command.StoreCommand.{StoreCommand}
use Rattle.frame_wire.specs.declared.store_command.StoreCommand.TheVariants.{Boot, Tx, Get}
use Rattle.frame_wire.specs.declared.store_answer.StoreAnswer.TheVariants.{Done, NotThere, Refused}
use Rattle.frame_wire.specs.declared.store_refusal.StoreRefusal.TheVariants.{Reopen}
use Rattle.store_tables.specs.Tables.{Tables, Told, no_tables, store_outcome}
use Rattle.store_tables.specs.Contents.{Timed}
use Rattle.store_tables.specs.Runs.{after_calls}
use Rattle.fence_rows.specs.declared.event.FencedAnswer.TheVariants.{Answer, StaleEpoch, ReservedKey, Unfenced}
use Rattle.fence_rows.specs.Epochs.{epoch_key, epoch_in, actor_epoch, fenced_transaction}
use Rattle.fence_rows.specs.Fences.{plain_answer, tx_answer}

-- ---- the text of an epoch

number_is_an_epoch : epoch_in (Some (codes "3")) ≡ 3
number_is_an_epoch = refl

last_number_is_an_epoch : epoch_in (Some (codes "18446744073709551615")) ≡ 18446744073709551615
last_number_is_an_epoch = refl

number_above_it_is_none : epoch_in (Some (codes "18446744073709551616")) ≡ 0
number_above_it_is_none = refl

leading_zero_is_no_number : epoch_in (Some (codes "03")) ≡ 0
leading_zero_is_no_number = refl

no_value_is_epoch_0 : epoch_in None ≡ 0
no_value_is_epoch_0 = refl

-- ---- an actor's epoch

a : List ℕ
a = codes "a"

cart : ActorKey
cart = record { space = default_space; kind = codes "cart"; id = codes "1" }

other : ActorKey
other = record { space = default_space; kind = codes "cart"; id = codes "10" }

-- a transaction with this number
tx : ℕ → StoreCommand
tx number = Tx (record { member = record { space = default_space; node = a; boot = 1 }; part = 0; number = number }) cart (Upsert a (1 ∷ []) None ∷ [])

at : ℕ → StoreCommand → Timed
at now command = record { now = now; command = command }

written : Tables
written = after_calls (at 0 (Boot default_space a) ∷ at 5 (fenced_transaction 3 (tx 1)) ∷ []) no_tables

-- a transaction of epoch 3 sets it
written_epoch_is_told : actor_epoch cart 9 written ≡ 3
unfolding written tx at cart a store_outcome digits
written_epoch_is_told = refl

other_actor_has_none : actor_epoch other 9 written ≡ 0
unfolding written tx at cart other a store_outcome digits
other_actor_has_none = refl

-- with its stamp it is told its answer
repeat_is_told_its_answer : store_outcome written (fenced_transaction 3 (tx 1)) 9 ≡ Told (Done true)
unfolding written tx at cart a store_outcome digits
repeat_is_told_its_answer = refl

-- ---- the refusals in order

earlier_epoch_is_refused : tx_answer 2 [] false (actor_epoch cart 9 written) ≡ Some (StaleEpoch 3)
unfolding written tx at cart a store_outcome digits
earlier_epoch_is_refused = refl

equal_epoch_is_not_refused : tx_answer 3 [] false 3 ≡ None
equal_epoch_is_not_refused = refl

later_epoch_is_not_refused : tx_answer 4 (Upsert (codes "b") (2 ∷ []) None ∷ []) false 3 ≡ None
later_epoch_is_not_refused = refl

epoch_key_is_reserved : tx_answer 3 (Upsert (codes "b") (2 ∷ []) None ∷ Upsert epoch_key (codes "4") None ∷ []) false 3 ≡ Some (ReservedKey 1)
epoch_key_is_reserved = refl

removal_of_the_key_is_reserved : tx_answer 3 (Delete epoch_key ∷ Delete epoch_key ∷ []) false 3 ≡ Some (ReservedKey 0)
removal_of_the_key_is_reserved = refl

earlier_epoch_comes_before_its_operations : tx_answer 2 (Delete epoch_key ∷ []) false 3 ≡ Some (StaleEpoch 3)
earlier_epoch_comes_before_its_operations = refl

fault_comes_before_the_epoch : tx_answer 2 [] true 3 ≡ Some (Answer (Refused Reopen))
fault_comes_before_the_epoch = refl

-- ---- without an epoch

plain_transaction_is_refused : plain_answer (tx 1) ≡ Some Unfenced
unfolding tx
plain_transaction_is_refused = refl

key_is_not_there : plain_answer (Get cart epoch_key) ≡ Some (Answer NotThere)
key_is_not_there = refl

other_key_is_the_stores : plain_answer (Get cart (codes "actors.epochs")) ≡ None
other_key_is_the_stores = refl
