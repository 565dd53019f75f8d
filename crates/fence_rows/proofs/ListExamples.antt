-- Worked examples of events that a fenced store is given together.
use Rattle.std.proofs.Common.{◌≡◌, ℕ, true, false, List, [], ◌∷◌, Some, None, refl}
use Rattle.std.specs.Prelude.{codes}
use Rattle.std.specs.Fmt.{digits}
use Rattle.actor_names.specs.Names.{default_space}
use Rattle.actor_names.specs.declared.actor_key.ActorKey.{ActorKey}
use Rattle.state_rows.specs.declared.op.StateOp.TheVariants.{Upsert}
use Rattle.frame_wire.specs.declared.store_command.StoreCommand.{StoreCommand}
use Rattle.frame_wire.specs.declared.store_command.StoreCommand.TheVariants.{Boot, Tx, Get}
use Rattle.frame_wire.specs.declared.store_answer.StoreAnswer.TheVariants.{Done, NotThere, Refused}
use Rattle.frame_wire.specs.declared.store_refusal.StoreRefusal.TheVariants.{Reopen}
use Rattle.store_tables.specs.Tables.{Tables, no_tables, store_outcome}
use Rattle.store_tables.specs.Contents.{Timed}
use Rattle.store_tables.specs.Runs.{after_calls}
use Rattle.store_core.specs.Store.{StoreState}
use Rattle.fence_rows.specs.declared.event.FencedAnswer.TheVariants as fence
use Rattle.fence_rows.specs.declared.event.FencedCommand.TheVariants as fenced
use Rattle.fence_rows.specs.declared.event.FencedEvent.{FencedEvent}
use Rattle.fence_rows.specs.declared.event.FencedEvent.TheVariants.{Command, Compact}
use Rattle.fence_rows.specs.declared.event.FencedOutcome.TheVariants.{Answer}
use Rattle.fence_rows.specs.Epochs.{epoch_key, fenced_transaction}
use Rattle.fence_rows.specs.Together.{are_commands, given_of, fence_rules, OneByOne, Shares, AllowsAll}

a : List ℕ
a = codes "a"

cart : ActorKey
cart = record { space = default_space; kind = codes "cart"; id = codes "1" }

-- a transaction with this number
tx : ℕ → StoreCommand
tx number = Tx (record { member = record { space = default_space; node = a; boot = 1 }; part = 0; number = number }) cart (Upsert a (1 ∷ []) None ∷ [])

at : ℕ → StoreCommand → Timed
at now command = record { now = now; command = command }

-- a transaction of an epoch with this number, as an event
write : ℕ → ℕ → FencedEvent
write epoch number = Command (fenced.Tx epoch (tx number)) 9

read : FencedEvent
read = Command (fenced.Plain (Get cart a)) 9

-- ---- which events share syncs

no_event_is_a_compaction : are_commands [] ≡ true
no_event_is_a_compaction = refl

writes_and_reads_are_commands : are_commands (write 3 1 ∷ read ∷ write 3 2 ∷ []) ≡ true
unfolding write read
writes_and_reads_are_commands = refl

compaction_among_them_is_none : are_commands (write 3 1 ∷ Compact 0 9 ∷ read ∷ []) ≡ false
unfolding write read
compaction_among_them_is_none = refl

-- ---- the fence before the store

store_is_given_the_fenced_transaction : given_of (write 3 1) ≡ at 9 (fenced_transaction 3 (tx 1))
unfolding write at
store_is_given_the_fenced_transaction = refl

transaction_may_want_memory : fence_rules.memory (write 3 1) ≡ true
unfolding write
transaction_may_want_memory = refl

read_wants_none_of_the_fence : fence_rules.memory read ≡ false
unfolding read
read_wants_none_of_the_fence = refl

-- what a store contains once a transaction of epoch 3 was accepted
written : Tables
written = after_calls (at 0 (Boot default_space a) ∷ at 5 (fenced_transaction 3 (tx 1)) ∷ []) no_tables

module _ (s : StoreState) where
  -- the contents that the commands before it in a list leave, and whether a fault was met
  ahead : StoreState
  ahead = record { contents = written; journal = record s.journal { is_broken = false } }

  broken : StoreState
  broken = record { contents = written; journal = record s.journal { is_broken = true } }

  epoch_is_read_behind_those_before : fence_rules.refusal (write 2 2) ahead ≡ Some (Answer (fence.StaleEpoch 3))
  unfolding ahead write written tx at cart a store_outcome digits
  epoch_is_read_behind_those_before = refl

  equal_epoch_is_passed_on : fence_rules.refusal (write 3 2) ahead ≡ None
  unfolding ahead write written tx at cart a store_outcome digits
  equal_epoch_is_passed_on = refl

  fault_is_told_first : fence_rules.refusal (write 2 2) broken ≡ Some (Answer (fence.Answer (Refused Reopen)))
  unfolding broken write tx
  fault_is_told_first = refl

  read_is_passed_on_after_a_fault : fence_rules.refusal read broken ≡ None
  unfolding read a
  read_is_passed_on_after_a_fault = refl

  key_is_not_there : fence_rules.refusal (Command (fenced.Plain (Get cart epoch_key)) 9) s ≡ Some (Answer (fence.Answer NotThere))
  key_is_not_there = refl

  answer_is_told_as_it_is : fence_rules.told (Done true) ≡ Answer (fence.Answer (Done true))
  answer_is_told_as_it_is = refl

  -- ---- lists

  empty_list_changes_nothing : OneByOne s [] [] s
  empty_list_changes_nothing = refl

  empty_list_may_be_shared : Shares s [] [] s
  empty_list_may_be_shared = record { all = ([], refl, refl, ([], (refl, refl))); may = tt; short = tt; fits = tt }
