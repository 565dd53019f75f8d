-- Worked examples of the definitions.
use Rattle.std.proofs.Common.{◌≡◌, ℕ, true, false, List, [], ◌∷◌, Some, None, refl}
use Rattle.std.specs.Prelude.{codes}
use Rattle.actor_names.specs.Names.{default_space}
use Rattle.actor_names.specs.declared.actor_key.ActorKey.{ActorKey}
use Rattle.schedule_text.specs.declared.advance.Next.TheVariants.{At}
use Rattle.schedule_text.specs.Firing.{add_period, sum_of, first_after}
use Rattle.stamp_lanes.specs.Stamps.{bare_node}
use Rattle.state_rows.specs.Entries.{new_entry}
use Rattle.state_rows.specs.declared.op.StateOp.TheVariants.{Upsert, Delete}
use Rattle.reminder_rows.specs.declared.reminder.Reminder.{Reminder}
use Rattle.frame_wire.specs.declared.store_command.StoreCommand.{StoreCommand}
use Rattle.frame_wire.specs.declared.store_command.StoreCommand.TheVariants as commands
use Rattle.frame_wire.specs.declared.store_command.Stamp.{Stamp}
use Rattle.frame_wire.specs.declared.store_answer.StoreAnswer.TheVariants.{Booted, Done, Value, NextIs, Refused}
use Rattle.frame_wire.specs.declared.store_refusal.StoreRefusal.TheVariants.{OtherBoot, OldSeq, OtherMoment, KeyTooLong}
use Rattle.store_tables.specs.Tables.{Tables, no_tables, Told, Accepted, store_outcome}
use Rattle.store_tables.specs.Contents.{Timed, contents}
use Rattle.store_tables.specs.Runs.{after_calls}

a : List ℕ
a = codes "a"

b : List ℕ
b = codes "b"

cart : ActorKey
cart = record { space = default_space; kind = codes "cart"; id = codes "1" }

stamp : ℕ → Stamp
stamp number = record { member = record { space = default_space; node = a; boot = 1 }; part = 0; number = number }

at : ℕ → StoreCommand → Timed
at now command = record { now = now; command = command }

boot : StoreCommand
boot = commands.Boot default_space a

booted : Tables
booted = after_calls (at 0 boot ∷ []) no_tables

first_boot_is_1 : store_outcome no_tables boot 0 ≡ Accepted (Booted 1) (record no_tables { nodes = bare_node default_space a 1 ∷ [] })
unfolding store_outcome boot a
first_boot_is_1 = refl

-- ---- transactions

-- upsert a, delete a, upsert b
tx : ℕ → StoreCommand
tx number = commands.Tx (stamp number) cart (Upsert a (1 ∷ []) None ∷ Delete a ∷ Upsert b (2 ∷ []) None ∷ [])

written : Tables
written = after_calls (at 0 boot ∷ at 5 (tx 1) ∷ []) no_tables

transaction_applies_in_order : written.rows ≡ new_entry cart 5 b (2 ∷ []) None ∷ []
unfolding written boot tx stamp at cart a b store_outcome
transaction_applies_in_order = refl

repeated_transaction_is_told_its_answer : store_outcome written (tx 1) 9 ≡ Told (Done true)
unfolding written boot tx stamp at cart a b store_outcome
repeated_transaction_is_told_its_answer = refl

value_is_told : store_outcome written (commands.Get cart b) 9 ≡ Told (Value (2 ∷ []))
unfolding written boot tx stamp at cart a b store_outcome
value_is_told = refl

-- the stamp comes before the operations
number_0_is_old : store_outcome written (commands.Tx (stamp 0) cart (Delete [] ∷ [])) 9 ≡ Told (Refused (OldSeq 0))
unfolding written boot tx stamp at cart a b store_outcome
number_0_is_old = refl

fresh_stamp_comes_to_its_operations : store_outcome written (commands.Tx (stamp 2) cart (Delete [] ∷ [])) 9 ≡ Told (Refused (KeyTooLong 0 0))
unfolding written boot tx stamp at cart a b store_outcome
fresh_stamp_comes_to_its_operations = refl

old_boot_is_refused : store_outcome (after_calls (at 6 boot ∷ []) written) (tx 1) 9 ≡ Told (Refused (OtherBoot 2))
unfolding written boot tx stamp at cart a b store_outcome
old_boot_is_refused = refl

-- ---- reminders

-- first due after 10 ms, then every 10 ms, five times
every_ten : Reminder
every_ten =
    record {
      schedule = record { first = Some 10000000; period = Some (record { months = 0; nanos = 10000000 }); left = Some 5; «end» = None };
      due = [];
      period = [];
      ttl = [];
      payload = None;
    }

put : Timed
put = at 0 (commands.PutReminder (stamp 1) cart a every_ten)

fire : ℕ → StoreCommand
fire number = commands.Fired (stamp number) cart a 10000000

-- the reminder of the moment 10 ms fired at 45 ms
fired : Tables
fired = after_calls (at 0 boot ∷ put ∷ at 45 (fire 2) ∷ []) no_tables

fired_repeats_kept_answer : store_outcome fired (fire 2) 99 ≡ Told (NextIs (At 50000000 (Some 4)))
unfolding fired put fire boot every_ten stamp at cart a store_outcome add_period sum_of first_after
fired_repeats_kept_answer = refl

fired_compares_moment : store_outcome fired (fire 3) 99 ≡ Told (Refused (OtherMoment 50000000))
unfolding fired put fire boot every_ten stamp at cart a store_outcome add_period sum_of first_after
fired_compares_moment = refl

firing_of_nothing_is_not_kept : after_calls (at 0 (fire 7) ∷ []) booted ≡ booted
unfolding booted fire boot stamp at cart a store_outcome
firing_of_nothing_is_not_kept = refl

delete_of_nothing_is_accepted : store_outcome written (commands.DeleteReminder (stamp 2) cart a) 9 ≡ Accepted (Done false) (after_calls (at 9 (commands.DeleteReminder (stamp 2) cart a) ∷ []) written)
unfolding written boot tx stamp at cart a b store_outcome
delete_of_nothing_is_accepted = refl

-- ---- contents

contents_are_those_of_accepted_commands : contents (at 0 boot ∷ at 5 (tx 1) ∷ []) ≡ Some written
unfolding written boot tx stamp at cart a b store_outcome
contents_are_those_of_accepted_commands = refl

repeat_is_no_content : contents (at 0 boot ∷ at 5 (tx 1) ∷ at 6 (tx 1) ∷ []) ≡ None
unfolding boot tx stamp at cart a b store_outcome
repeat_is_no_content = refl
