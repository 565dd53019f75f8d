-- The commands and the answers of the store: the fields of each kind, their spelling, and how one is read. Own.
use Rattle.std.specs.Prelude.{◌≡◌, ℕ, ◌-◌, Bool, true, false, ◌==◌, List, [], ◌∷◌, length, Option, Some, None, option_map, Result, Ok, Err, suc}
use Rattle.wire_fields.specs.Fields.{Reading, Field, nothing, both, row, tagged, maybe, whole}
use Rattle.wire_fields.specs.Parts.{boot, flag, node_place, actor, record_name}
use Rattle.wire_fields.specs.Records.{text, blob, moment, next, reminder, due_key, ops_list}
use Rattle.frame_wire.specs.declared.error.FrameError.{FrameError}
use Rattle.frame_wire.specs.declared.error.FrameError.TheVariants as errors
use Rattle.frame_wire.specs.declared.store_command.StoreCommand.{StoreCommand}
use Rattle.frame_wire.specs.declared.store_command.StoreCommand.TheVariants.{Boot, Tx, Get, PutReminder, GetReminder, DeleteReminder, Due, Fired}
use Rattle.frame_wire.specs.declared.store_answer.StoreAnswer.{StoreAnswer}
use Rattle.frame_wire.specs.declared.store_answer.StoreAnswer.TheVariants.{Booted, Done, Value, NotThere, ReminderIs, DueList, NextIs, Refused}
use Rattle.frame_wire.specs.declared.store_kind.CommandKind.{CommandKind}
use Rattle.frame_wire.specs.declared.store_kind.CommandKind.TheVariants as commands
use Rattle.frame_wire.specs.declared.store_kind.AnswerKind.{AnswerKind}
use Rattle.frame_wire.specs.declared.store_kind.AnswerKind.TheVariants as answers
use Rattle.frame_wire.specs.Kinds.{command_kind_of, command_byte, answer_kind_of, answer_byte}
use Rattle.frame_wire.specs.StoreParts.{stamp, due_limit, due_entries, store_refusal}

-- ---- commands

abbrev pub command_kind : StoreCommand → CommandKind
command_kind (Boot space node) = commands.Boot
command_kind (Tx s a ops) = commands.Tx
command_kind (Get a key) = commands.Get
command_kind (PutReminder s a name r) = commands.PutReminder
command_kind (GetReminder a name) = commands.GetReminder
command_kind (DeleteReminder s a name) = commands.DeleteReminder
command_kind (Due after limit) = commands.Due
command_kind (Fired s a name m) = commands.Fired

-- the spelling of its fields
abbrev pub command_fields : StoreCommand → List ℕ
command_fields (Boot space node) = node_place.spell (space, node)
command_fields (Tx s a ops) = (both stamp (both actor ops_list)).spell (s, (a, ops))
command_fields (Get a key) = (both actor text).spell (a, key)
command_fields (PutReminder s a name r) = (both stamp (both actor (both record_name reminder))).spell (s, (a, (name, r)))
command_fields (GetReminder a name) = (both actor record_name).spell (a, name)
command_fields (DeleteReminder s a name) = (both stamp (both actor record_name)).spell (s, (a, name))
command_fields (Due after limit) = (both (maybe due_key) due_limit).spell (after, limit)
command_fields (Fired s a name m) = (both stamp (both actor (both record_name moment))).spell (s, (a, (name, m)))

-- its fields have their forms and ranges, and fit their lengths and counts
abbrev pub CommandFits : StoreCommand → Type 0
CommandFits (Boot space node) = node_place.Fits (space, node)
CommandFits (Tx s a ops) = (both stamp (both actor ops_list)).Fits (s, (a, ops))
CommandFits (Get a key) = (both actor text).Fits (a, key)
CommandFits (PutReminder s a name r) = (both stamp (both actor (both record_name reminder))).Fits (s, (a, (name, r)))
CommandFits (GetReminder a name) = (both actor record_name).Fits (a, name)
CommandFits (DeleteReminder s a name) = (both stamp (both actor record_name)).Fits (s, (a, name))
CommandFits (Due after limit) = (both (maybe due_key) due_limit).Fits (after, limit)
CommandFits (Fired s a name m) = (both stamp (both actor (both record_name moment))).Fits (s, (a, (name, m)))

-- the fields of each kind, as they are read
abbrev pub command_row : CommandKind → Reading StoreCommand
command_row commands.Boot = row node_place (λ p. Boot p.0 p.1)
command_row commands.Tx = row (both stamp (both actor ops_list)) (λ p. Tx p.0 p.1.0 p.1.1)
command_row commands.Get = row (both actor text) (λ p. Get p.0 p.1)
command_row commands.PutReminder = row (both stamp (both actor (both record_name reminder))) (λ p. PutReminder p.0 p.1.0 p.1.1.0 p.1.1.1)
command_row commands.GetReminder = row (both actor record_name) (λ p. GetReminder p.0 p.1)
command_row commands.DeleteReminder = row (both stamp (both actor record_name)) (λ p. DeleteReminder p.0 p.1.0 p.1.1)
command_row commands.Due = row (both (maybe due_key) due_limit) (λ p. Due p.0 p.1)
command_row commands.Fired = row (both stamp (both actor (both record_name moment))) (λ p. Fired p.0 p.1.0 p.1.1.0 p.1.1.1)

abbrev pub command_tag : StoreCommand → ℕ
command_tag c = command_byte (command_kind c)

-- a kind, and then its fields: a command's frame without its length
unfoldable pub command : Field StoreCommand
command = tagged command_tag command_fields CommandFits (λ b. option_map command_row (command_kind_of b))

-- ---- bytes that are a command's frame without its length

-- the place of a fault in n bytes
abbrev pub located : {A : Type 0} → ℕ → Result A ℕ → Result A FrameError
located n (Ok c) = Ok c
located n (Err left) = Err (errors.BadField (n - left))

abbrev pub reading_of_kind : ℕ → ℕ → List ℕ → Option CommandKind → Result StoreCommand FrameError
reading_of_kind n b rest None = Err (errors.BadKind 0 b)
reading_of_kind n b rest (Some k) = located n (whole (command_row k) rest)

-- the command whose kind and fields are exactly these bytes; a fault is at its place in them
abbrev pub command_reading : List ℕ → Result StoreCommand FrameError
command_reading [] = Err (errors.BadField 0)
command_reading (b ∷ rest) = reading_of_kind (suc (length rest)) b rest (command_kind_of b)

-- what was read is what the reading gives; memory may run out at any time
abbrev pub GivesCommand : Result StoreCommand FrameError → Result StoreCommand FrameError → Type 0
GivesCommand (Ok c) read = read ≡ Ok c
GivesCommand (Err errors.OutOfMemory) read = Unit {0}
GivesCommand (Err (errors.BadKind at k)) read = read ≡ Err (errors.BadKind at k)
GivesCommand (Err (errors.BadField at)) read = read ≡ Err (errors.BadField at)
GivesCommand (Err (errors.TooLong n)) read = ⊥

-- ---- answers

abbrev pub answer_kind : StoreAnswer → AnswerKind
answer_kind (Booted n) = answers.Booted
answer_kind (Done existed) = answers.Done
answer_kind (Value v) = answers.Value
answer_kind NotThere = answers.NotThere
answer_kind (ReminderIs due period ttl payload) = answers.ReminderIs
answer_kind (DueList entries) = answers.DueList
answer_kind (NextIs n) = answers.NextIs
answer_kind (Refused r) = answers.Refused

abbrev pub answer_fields : StoreAnswer → List ℕ
answer_fields (Booted n) = boot.spell n
answer_fields (Done existed) = flag.spell existed
answer_fields (Value v) = blob.spell v
answer_fields NotThere = []
answer_fields (ReminderIs due period ttl payload) = (both text (both text (both text (maybe blob)))).spell (due, (period, (ttl, payload)))
answer_fields (DueList entries) = due_entries.spell entries
answer_fields (NextIs n) = next.spell n
answer_fields (Refused r) = store_refusal.spell r

abbrev pub AnswerFits : StoreAnswer → Type 0
AnswerFits (Booted n) = boot.Fits n
AnswerFits (Done existed) = flag.Fits existed
AnswerFits (Value v) = blob.Fits v
AnswerFits NotThere = Unit {0}
AnswerFits (ReminderIs due period ttl payload) = (both text (both text (both text (maybe blob)))).Fits (due, (period, (ttl, payload)))
AnswerFits (DueList entries) = due_entries.Fits entries
AnswerFits (NextIs n) = next.Fits n
AnswerFits (Refused r) = store_refusal.Fits r

abbrev pub answer_row : AnswerKind → Reading StoreAnswer
answer_row answers.Booted = row boot (λ n. Booted n)
answer_row answers.Done = row flag (λ existed. Done existed)
answer_row answers.Value = row blob (λ v. Value v)
answer_row answers.NotThere = row nothing (λ u. NotThere)
answer_row answers.ReminderIs = row (both text (both text (both text (maybe blob)))) (λ p. ReminderIs p.0 p.1.0 p.1.1.0 p.1.1.1)
answer_row answers.DueList = row due_entries (λ entries. DueList entries)
answer_row answers.NextIs = row next (λ n. NextIs n)
answer_row answers.Refused = row store_refusal (λ r. Refused r)

-- ---- which answers fit a command

-- the answer that a command asks for
abbrev pub own_answer : CommandKind → AnswerKind
own_answer commands.Boot = answers.Booted
own_answer commands.Tx = answers.Done
own_answer commands.Get = answers.Value
own_answer commands.PutReminder = answers.Done
own_answer commands.GetReminder = answers.ReminderIs
own_answer commands.DeleteReminder = answers.Done
own_answer commands.Due = answers.DueList
own_answer commands.Fired = answers.NextIs

-- whether there may be nothing to answer it with
abbrev pub may_miss : CommandKind → Bool
may_miss commands.Boot = false
may_miss commands.Tx = false
may_miss commands.Get = true
may_miss commands.PutReminder = false
may_miss commands.GetReminder = true
may_miss commands.DeleteReminder = false
may_miss commands.Due = false
may_miss commands.Fired = true

-- To its asker an answer has a reading only if it is the one that the command asks for, or that there is nothing, if
-- that may be, or a refusal.
abbrev pub is_reading_of : StoreCommand → StoreAnswer → Bool
is_reading_of c (Booted n) = answer_byte answers.Booted == answer_byte (own_answer (command_kind c))
is_reading_of c (Done existed) = answer_byte answers.Done == answer_byte (own_answer (command_kind c))
is_reading_of c (Value v) = answer_byte answers.Value == answer_byte (own_answer (command_kind c))
is_reading_of c NotThere = may_miss (command_kind c)
is_reading_of c (ReminderIs due period ttl payload) = answer_byte answers.ReminderIs == answer_byte (own_answer (command_kind c))
is_reading_of c (DueList entries) = answer_byte answers.DueList == answer_byte (own_answer (command_kind c))
is_reading_of c (NextIs n) = answer_byte answers.NextIs == answer_byte (own_answer (command_kind c))
is_reading_of c (Refused r) = true

abbrev pub IsReadingOf : StoreCommand → StoreAnswer → Type 0
IsReadingOf c a = is_reading_of c a ≡ true

-- whether an answer has a reading to the one who sent a transaction, with an epoch or without one
abbrev pub is_reading_of_tx : StoreAnswer → Bool
is_reading_of_tx (Done existed) = true
is_reading_of_tx (Refused r) = true
is_reading_of_tx a = false
