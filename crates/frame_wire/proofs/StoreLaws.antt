-- The commands and the answers of the store are read as they are spelled.
use Rattle.std.proofs.Common.{◌≡◌, ℕ, suc, ◌<◌, ◌≤◌, Bool, true, false, cond, List, [], ◌∷◌, ◌++◌, length, get_or, Option, Some, None, option_map, Result, Ok, Err, refl, sym, ap, subst, ◌∙◌, arith}
use Rattle.std.specs.Prelude.{◌^◌, ◌/◌, ◌%◌, nat_le}
use Rattle.std.proofs.lemmas.Bool.{leb-true}
use Rattle.std.proofs.lemmas.List.{append-nil}
use Rattle.std.proofs.lemmas.Nat.{div-add-mod', div-mul-add, mod-mul-add}
use Rattle.wire_fields.specs.Fields.{Reading, byte, number16, number64, both, row_of, by_row, whole}
use Rattle.wire_fields.specs.Parts.{counter, fixed, small, at_most}
use Rattle.wire_fields.proofs.FieldLaws.{IsBytes, IsBytes-rest, IsField, Takes, ok_is, byte_law, number16_law, number64_law, nothing_law, both_law, seen_law, only_law, counted_law, maybe_law, row_takes, row_again, RowTakes, AllTake, RowsAgain, rows_take, tagged_law, whole_takes, whole_again}
use Rattle.wire_fields.proofs.PartLaws.{counter_law, fixed_law, small_law, boot_law, flag_law, node_place_law, member_law, actor_law, record_name_law}
use Rattle.wire_fields.proofs.RecordLaws.{text_law, blob_law, moment_law, next_law, reminder_law, due_key_law, ops_law}
use Rattle.frame_wire.specs.declared.store_command.StoreCommand.{StoreCommand}
use Rattle.frame_wire.specs.declared.store_command.StoreCommand.TheVariants.{Boot, Tx, Get, PutReminder, GetReminder, DeleteReminder, Due, Fired}
use Rattle.frame_wire.specs.declared.store_answer.StoreAnswer.{StoreAnswer}
use Rattle.frame_wire.specs.declared.store_answer.StoreAnswer.TheVariants.{Booted, Done, Value, NotThere, ReminderIs, DueList, NextIs, Refused}
use Rattle.frame_wire.specs.declared.store_kind.CommandKind.{CommandKind}
use Rattle.frame_wire.specs.declared.store_kind.CommandKind.TheVariants as commands
use Rattle.frame_wire.specs.declared.store_kind.AnswerKind.{AnswerKind}
use Rattle.frame_wire.specs.declared.store_kind.AnswerKind.TheVariants as answers
use Rattle.frame_wire.specs.declared.store_refusal.StoreRefusal.TheVariants as refusals
use Rattle.frame_wire.specs.Kinds.{command_kinds, command_kind_of, command_byte, answer_byte}
use Rattle.frame_wire.specs.StoreParts.{stamp_parts, stamp_of, stamp, due_limit, due_entry_parts, due_entry_of, due_entry, due_entries, and_zero, no_numbers, two_numbers, clock_parts, clock_moment, clock, store_refusal_tag, store_refusal_fields, StoreRefusalFits, store_refusal_rows, store_refusal}
use Rattle.frame_wire.specs.Store.{command_kind, command_fields, CommandFits, command_row, command_tag, command, located, reading_of_kind, command_reading, answer_kind, answer_fields, AnswerFits, answer_row}
use Rattle.frame_wire.specs.Laws.{ReadsCommand, SpellsCommand, ReadsAsTransaction}
use Rattle.frame_wire.proofs.KindLaws.{some_is, command_kind_of-byte, byte_of-command}

pub stamp_law : IsField stamp
unfolding stamp
stamp_law = seen_law stamp_parts stamp_of (both_law member_law (both_law byte_law number64_law)) (λ p h. refl) (λ s. refl)

pub due_limit_law : IsField due_limit
unfolding due_limit
due_limit_law = only_law _ number16_law

pub due_entry_law : IsField due_entry
unfolding due_entry
due_entry_law = seen_law due_entry_parts due_entry_of (both_law due_key_law (both_law text_law (both_law text_law (maybe_law blob_law)))) (λ p h. refl) (λ e. refl)

pub due_entries_law : IsField due_entries
unfolding due_entries
due_entries_law = counted_law number16_law (λ b. due_entry_law) (λ b e. refl)

-- ---- why the store refuses

zero_counter : IsField (both counter (fixed 0))
zero_counter = both_law counter_law (fixed_law 0)

zero_64 : IsField (and_zero number64)
zero_64 = both_law number64_law (fixed_law 0)

zero_small : IsField (and_zero small)
zero_small = both_law small_law (fixed_law 0)

spent_law : IsField (both (fixed (2 ^ 62)) (fixed 0))
spent_law = both_law (fixed_law (2 ^ 62)) (fixed_law 0)

none_law : IsField no_numbers
none_law = both_law (fixed_law 0) (fixed_law 0)

two_law : IsField two_numbers
two_law = both_law number64_law number64_law

clock_parts-moment : (p : ℕ × ℕ) → p.1 < 1000000000 → clock_parts (clock_moment p) ≡ p
clock_parts-moment p lt =
    ap (λ (n : ℕ). (n, clock_moment p % 1000000000)) (div-mul-add p.0 1000000000 p.1 lt)
    ∙ ap (λ (n : ℕ). (p.0, n)) (mod-mul-add p.0 1000000000 p.1 lt)

below_second : (n : ℕ) → nat_le n 999999999 ≡ true → n < 1000000000
below_second n e = omega (arith, leb-true n 999999999 e)

clock_law : IsField clock
unfolding clock
clock_law =
    seen_law clock_parts clock_moment (both_law (only_law _ number64_law) (only_law _ number64_law)) (λ p h. clock_parts-moment p (below_second p.1 h.1.1)) (λ n. div-add-mod' n 1000000000)

store_refusal_takes : AllTake store_refusal_tag store_refusal_fields StoreRefusalFits store_refusal_rows
store_refusal_takes = (
  row_takes store_refusal_tag store_refusal_fields StoreRefusalFits 1 (λ p. refusals.OtherBoot p.0) zero_counter (λ p. refl) (λ p. refl) (λ p h. h),
  (
    row_takes store_refusal_tag store_refusal_fields StoreRefusalFits 2 (λ p. refusals.OldSeq p.0) zero_64 (λ p. refl) (λ p. refl) (λ p h. h),
    (
      row_takes store_refusal_tag store_refusal_fields StoreRefusalFits 3 (λ p. refusals.NodesFull p.0) zero_small (λ p. refl) (λ p. refl) (λ p h. h),
      (
        row_takes store_refusal_tag store_refusal_fields StoreRefusalFits 4 (λ u. refusals.Spent) spent_law (λ u. refl) (λ u. refl) (λ u h. h),
        (
          row_takes store_refusal_tag store_refusal_fields StoreRefusalFits 5 (λ p. refusals.TooManyOps p.0) zero_64 (λ p. refl) (λ p. refl) (λ p h. h),
          (
            row_takes store_refusal_tag store_refusal_fields StoreRefusalFits 6 (λ p. refusals.KeyTooLong p.0 p.1) two_law (λ p. refl) (λ p. refl) (λ p h. h),
            (
              row_takes store_refusal_tag store_refusal_fields StoreRefusalFits 7 (λ p. refusals.ValueTooLong p.0 p.1) two_law (λ p. refl) (λ p. refl) (λ p h. h),
              (
                row_takes store_refusal_tag store_refusal_fields StoreRefusalFits 8 (λ m. refusals.OtherMoment m) clock_law (λ m. refl) (λ m. refl) (λ m h. h),
                (
                  row_takes store_refusal_tag store_refusal_fields StoreRefusalFits 9 (λ p. refusals.Full p.0) zero_64 (λ p. refl) (λ p. refl) (λ p h. h),
                  (
                    row_takes store_refusal_tag store_refusal_fields StoreRefusalFits 10 (λ u. refusals.DiskFault) none_law (λ u. refl) (λ u. refl) (λ u h. h),
                    (
                      row_takes store_refusal_tag store_refusal_fields StoreRefusalFits 11 (λ u. refusals.Reopen) none_law (λ u. refl) (λ u. refl) (λ u h. h),
                      (
                        row_takes store_refusal_tag store_refusal_fields StoreRefusalFits 12 (λ u. refusals.OutOfMemory) none_law (λ u. refl) (λ u. refl) (λ u h. h),
                        (
                          row_takes store_refusal_tag store_refusal_fields StoreRefusalFits 13 (λ p. refusals.CommandTooLong p.0) zero_64 (λ p. refl) (λ p. refl) (λ p h. h),
                          (
                            row_takes store_refusal_tag store_refusal_fields StoreRefusalFits 14 (λ p. refusals.StaleEpoch p.0) zero_64 (λ p. refl) (λ p. refl) (λ p h. h),
                            (
                              row_takes store_refusal_tag store_refusal_fields StoreRefusalFits 15 (λ p. refusals.ReservedKey p.0) zero_64 (λ p. refl) (λ p. refl) (λ p h. h),
                              (
                                row_takes store_refusal_tag store_refusal_fields StoreRefusalFits 16 (λ u. refusals.Unfenced) none_law (λ u. refl) (λ u. refl) (λ u h. h),
                                tt,
                              ),
                            ),
                          ),
                        ),
                      ),
                    ),
                  ),
                ),
              ),
            ),
          ),
        ),
      ),
    ),
  ),
)

store_refusal_again : RowsAgain store_refusal_tag store_refusal_fields StoreRefusalFits (row_of store_refusal_rows)
store_refusal_again (refusals.OtherBoot greatest) rest h = row_again (λ p. refusals.OtherBoot p.0) zero_counter (greatest, tt) rest h
store_refusal_again (refusals.OldSeq floor) rest h = row_again (λ p. refusals.OldSeq p.0) zero_64 (floor, tt) rest h
store_refusal_again (refusals.NodesFull nodes) rest h = row_again (λ p. refusals.NodesFull p.0) zero_small (nodes, tt) rest h
store_refusal_again refusals.Spent rest h = row_again (λ u. refusals.Spent) spent_law (tt, tt) rest h
store_refusal_again (refusals.TooManyOps n) rest h = row_again (λ p. refusals.TooManyOps p.0) zero_64 (n, tt) rest h
store_refusal_again (refusals.KeyTooLong op n) rest h = row_again (λ p. refusals.KeyTooLong p.0 p.1) two_law (op, n) rest h
store_refusal_again (refusals.ValueTooLong op n) rest h = row_again (λ p. refusals.ValueTooLong p.0 p.1) two_law (op, n) rest h
store_refusal_again (refusals.OtherMoment m) rest h = row_again (λ m. refusals.OtherMoment m) clock_law m rest h
store_refusal_again (refusals.Full len) rest h = row_again (λ p. refusals.Full p.0) zero_64 (len, tt) rest h
store_refusal_again refusals.DiskFault rest h = row_again (λ u. refusals.DiskFault) none_law (tt, tt) rest h
store_refusal_again refusals.Reopen rest h = row_again (λ u. refusals.Reopen) none_law (tt, tt) rest h
store_refusal_again refusals.OutOfMemory rest h = row_again (λ u. refusals.OutOfMemory) none_law (tt, tt) rest h
store_refusal_again (refusals.CommandTooLong n) rest h = row_again (λ p. refusals.CommandTooLong p.0) zero_64 (n, tt) rest h
store_refusal_again (refusals.StaleEpoch seen) rest h = row_again (λ p. refusals.StaleEpoch p.0) zero_64 (seen, tt) rest h
store_refusal_again (refusals.ReservedKey op) rest h = row_again (λ p. refusals.ReservedKey p.0) zero_64 (op, tt) rest h
store_refusal_again refusals.Unfenced rest h = row_again (λ u. refusals.Unfenced) none_law (tt, tt) rest h

pub store_refusal_law : IsField store_refusal
unfolding store_refusal
store_refusal_law = tagged_law store_refusal_tag store_refusal_fields StoreRefusalFits (row_of store_refusal_rows) (rows_take store_refusal_tag store_refusal_fields StoreRefusalFits store_refusal_rows store_refusal_takes) store_refusal_again

-- ---- commands and answers by their kinds

pub command_takes : (k : CommandKind) → RowTakes command_tag command_fields CommandFits (command_byte k) (command_row k)
command_takes commands.Boot = row_takes command_tag command_fields CommandFits 32 (λ p. Boot p.0 p.1) node_place_law (λ p. refl) (λ p. refl) (λ p h. h)
command_takes commands.Tx = row_takes command_tag command_fields CommandFits 33 (λ p. Tx p.0 p.1.0 p.1.1) (both_law stamp_law (both_law actor_law ops_law)) (λ p. refl) (λ p. refl) (λ p h. h)
command_takes commands.Get = row_takes command_tag command_fields CommandFits 34 (λ p. Get p.0 p.1) (both_law actor_law text_law) (λ p. refl) (λ p. refl) (λ p h. h)
command_takes commands.PutReminder = row_takes command_tag command_fields CommandFits 35 (λ p. PutReminder p.0 p.1.0 p.1.1.0 p.1.1.1) (both_law stamp_law (both_law actor_law (both_law record_name_law reminder_law))) (λ p. refl) (λ p. refl) (λ p h. h)
command_takes commands.GetReminder = row_takes command_tag command_fields CommandFits 36 (λ p. GetReminder p.0 p.1) (both_law actor_law record_name_law) (λ p. refl) (λ p. refl) (λ p h. h)
command_takes commands.DeleteReminder = row_takes command_tag command_fields CommandFits 37 (λ p. DeleteReminder p.0 p.1.0 p.1.1) (both_law stamp_law (both_law actor_law record_name_law)) (λ p. refl) (λ p. refl) (λ p h. h)
command_takes commands.Due = row_takes command_tag command_fields CommandFits 38 (λ p. Due p.0 p.1) (both_law (maybe_law due_key_law) due_limit_law) (λ p. refl) (λ p. refl) (λ p h. h)
command_takes commands.Fired = row_takes command_tag command_fields CommandFits 39 (λ p. Fired p.0 p.1.0 p.1.1.0 p.1.1.1) (both_law stamp_law (both_law actor_law (both_law record_name_law moment_law))) (λ p. refl) (λ p. refl) (λ p h. h)

pub command_again : (c : StoreCommand) (rest : List ℕ) → CommandFits c → command_row (command_kind c) (command_fields c ++ rest) ≡ Ok (c, rest)
command_again (Boot space node) rest h = row_again (λ p. Boot p.0 p.1) node_place_law (space, node) rest h
command_again (Tx s a ops) rest h = row_again (λ p. Tx p.0 p.1.0 p.1.1) (both_law stamp_law (both_law actor_law ops_law)) (s, (a, ops)) rest h
command_again (Get a key) rest h = row_again (λ p. Get p.0 p.1) (both_law actor_law text_law) (a, key) rest h
command_again (PutReminder s a name r) rest h = row_again (λ p. PutReminder p.0 p.1.0 p.1.1.0 p.1.1.1) (both_law stamp_law (both_law actor_law (both_law record_name_law reminder_law))) (s, (a, (name, r))) rest h
command_again (GetReminder a name) rest h = row_again (λ p. GetReminder p.0 p.1) (both_law actor_law record_name_law) (a, name) rest h
command_again (DeleteReminder s a name) rest h = row_again (λ p. DeleteReminder p.0 p.1.0 p.1.1) (both_law stamp_law (both_law actor_law record_name_law)) (s, (a, name)) rest h
command_again (Due after limit) rest h = row_again (λ p. Due p.0 p.1) (both_law (maybe_law due_key_law) due_limit_law) (after, limit) rest h
command_again (Fired s a name m) rest h = row_again (λ p. Fired p.0 p.1.0 p.1.1.0 p.1.1.1) (both_law stamp_law (both_law actor_law (both_law record_name_law moment_law))) (s, (a, (name, m))) rest h

abbrev pub answer_tag : StoreAnswer → ℕ
answer_tag a = answer_byte (answer_kind a)

pub answer_takes : (k : AnswerKind) → RowTakes answer_tag answer_fields AnswerFits (answer_byte k) (answer_row k)
answer_takes answers.Booted = row_takes answer_tag answer_fields AnswerFits 48 (λ n. Booted n) boot_law (λ n. refl) (λ n. refl) (λ n h. h)
answer_takes answers.Done = row_takes answer_tag answer_fields AnswerFits 49 (λ existed. Done existed) flag_law (λ existed. refl) (λ existed. refl) (λ existed h. h)
answer_takes answers.Value = row_takes answer_tag answer_fields AnswerFits 50 (λ v. Value v) blob_law (λ v. refl) (λ v. refl) (λ v h. h)
answer_takes answers.NotThere = row_takes answer_tag answer_fields AnswerFits 51 (λ u. NotThere) nothing_law (λ u. refl) (λ u. refl) (λ u h. h)
answer_takes answers.ReminderIs = row_takes answer_tag answer_fields AnswerFits 52 (λ p. ReminderIs p.0 p.1.0 p.1.1.0 p.1.1.1) (both_law text_law (both_law text_law (both_law text_law (maybe_law blob_law)))) (λ p. refl) (λ p. refl) (λ p h. h)
answer_takes answers.DueList = row_takes answer_tag answer_fields AnswerFits 53 (λ entries. DueList entries) due_entries_law (λ entries. refl) (λ entries. refl) (λ entries h. h)
answer_takes answers.NextIs = row_takes answer_tag answer_fields AnswerFits 54 (λ n. NextIs n) next_law (λ n. refl) (λ n. refl) (λ n h. h)
answer_takes answers.Refused = row_takes answer_tag answer_fields AnswerFits 55 (λ r. Refused r) store_refusal_law (λ r. refl) (λ r. refl) (λ r h. h)

pub answer_again : (c : StoreAnswer) (rest : List ℕ) → AnswerFits c → answer_row (answer_kind c) (answer_fields c ++ rest) ≡ Ok (c, rest)
answer_again (Booted n) rest h = row_again (λ n. Booted n) boot_law n rest h
answer_again (Done existed) rest h = row_again (λ existed. Done existed) flag_law existed rest h
answer_again (Value v) rest h = row_again (λ v. Value v) blob_law v rest h
answer_again NotThere rest h = row_again (λ u. NotThere) nothing_law tt rest h
answer_again (ReminderIs due period ttl payload) rest h = row_again (λ p. ReminderIs p.0 p.1.0 p.1.1.0 p.1.1.1) (both_law text_law (both_law text_law (both_law text_law (maybe_law blob_law)))) (due, (period, (ttl, payload))) rest h
answer_again (DueList entries) rest h = row_again (λ entries. DueList entries) due_entries_law entries rest h
answer_again (NextIs n) rest h = row_again (λ n. NextIs n) next_law n rest h
answer_again (Refused r) rest h = row_again (λ r. Refused r) store_refusal_law r rest h

-- ---- commands

from_kind : (t : ℕ) (found : Option CommandKind) (r : Reading StoreCommand) → command_kind_of t ≡ found → option_map command_row found ≡ Some r → RowTakes command_tag command_fields CommandFits t r
from_kind t None r is e = absurd cc
from_kind t (Some k) r is e =
    subst (λ (q : Reading StoreCommand). RowTakes command_tag command_fields CommandFits t q) (some_is (command_row k) r e) (subst (λ (n : ℕ). RowTakes command_tag command_fields CommandFits n (command_row k)) (command_kind_of-byte t k is) (command_takes k))

rows_again : RowsAgain command_tag command_fields CommandFits (λ b. option_map command_row (command_kind_of b))
rows_again c rest fits =
    ap (λ (found : Option CommandKind). by_row (command_tag c) (option_map command_row found) (command_fields c ++ rest)) (byte_of-command (command_kind c)) ∙ command_again c rest fits

pub command_law : IsField command
unfolding command
command_law = tagged_law command_tag command_fields CommandFits (λ b. option_map command_row (command_kind_of b)) (λ t r e. from_kind t (command_kind_of t) r refl e) rows_again

-- ---- a command's frame without its length

not_located : {A : Type 0} (n : ℕ) (r : Result A ℕ) (x : A) → located n r ≡ Ok x → r ≡ Ok x
not_located n (Ok y) x e = cc
not_located n (Err left) x e = absurd cc

behind_kind : (n b : ℕ) (rest : List ℕ) (found : Option CommandKind) (c : StoreCommand) → command_kind_of b ≡ found → reading_of_kind n b rest found ≡ Ok c → whole command.at (b ∷ rest) ≡ Ok c
unfolding command
behind_kind n b rest None c is e = absurd cc
behind_kind n b rest (Some k) c is e = ap (λ (found : Option CommandKind). whole (λ (bytes : List ℕ). by_row b (option_map command_row found) rest) (b ∷ rest)) is ∙ not_located n (whole (command_row k) rest) c e

whole_reading : (bytes : List ℕ) (c : StoreCommand) → command_reading bytes ≡ Ok c → whole command.at bytes ≡ Ok c
whole_reading [] c e = absurd cc
whole_reading (b ∷ rest) c e = behind_kind (suc (length rest)) b rest (command_kind_of b) c refl e

pub spells_command : SpellsCommand
spells_command bytes c fits e = whole_takes command_law bytes c fits (whole_reading bytes c e)

read_by_kind : (n b : ℕ) (rest : List ℕ) (found : Option CommandKind) (k : CommandKind) (c : StoreCommand) → found ≡ Some k → whole (command_row k) rest ≡ Ok c → reading_of_kind n b rest found ≡ Ok c
read_by_kind n b rest None k c is e = absurd cc
read_by_kind n b rest (Some l) k c is e = ap (located n) (ap (λ (m : CommandKind). whole (command_row m) rest) (some_is l k is) ∙ e)

pub reads_command : ReadsCommand
unfolding command
reads_command c fits =
    let all : command_row (command_kind c) (command_fields c) ≡ Ok (c, []) = ap (command_row (command_kind c)) (sym (append-nil (command_fields c))) ∙ command_again c [] fits in
    let read : whole (command_row (command_kind c)) (command_fields c) ≡ Ok c = rw all refl in
    read_by_kind (suc (length (command_fields c))) (command_tag c) (command_fields c) (command_kind_of (command_tag c)) (command_kind c) c (byte_of-command (command_kind c)) read

-- ---- answers to a transaction with an epoch

pub reads_as_transaction : ReadsAsTransaction
reads_as_transaction s actor ops (Booted n) = refl
reads_as_transaction s actor ops (Done existed) = refl
reads_as_transaction s actor ops (Value v) = refl
reads_as_transaction s actor ops NotThere = refl
reads_as_transaction s actor ops (ReminderIs due period ttl payload) = refl
reads_as_transaction s actor ops (DueList entries) = refl
reads_as_transaction s actor ops (NextIs n) = refl
reads_as_transaction s actor ops (Refused r) = refl
