-- The parts of the store's frames: stamps, reminders that are due, why a command is refused. Own.
use Rattle.std.specs.Prelude.{ℕ, ◌*◌, ◌+◌, ◌/◌, ◌%◌, ◌^◌, List, [], ◌∷◌, Option}
use Rattle.actor_names.specs.declared.member.Member.{Member}
use Rattle.reminder_rows.specs.declared.row.DueKey.{DueKey}
use Rattle.wire_fields.specs.Fields.{Reading, Field, byte, number16, number64, both, seen, counted, in_any_order, row, row_of, tagged, maybe}
use Rattle.wire_fields.specs.Parts.{counter, fixed, small, at_most, within, member}
use Rattle.wire_fields.specs.Records.{text, blob, due_key}
use Rattle.frame_wire.specs.declared.store_command.Stamp.{Stamp}
use Rattle.frame_wire.specs.declared.store_answer.DueEntry.{DueEntry}
use Rattle.frame_wire.specs.declared.store_refusal.StoreRefusal.{StoreRefusal}
use Rattle.frame_wire.specs.declared.store_refusal.StoreRefusal.TheVariants as refusals

abbrev pub stamp_parts : Stamp → Member × (ℕ × ℕ)
stamp_parts s = (s.member, (s.part, s.number))

abbrev pub stamp_of : Member × (ℕ × ℕ) → Stamp
stamp_of p = record { member = p.0; part = p.1.0; number = p.1.1 }

-- member, part, number
unfoldable pub stamp : Field Stamp
stamp = seen (both member (both byte number64)) stamp_parts stamp_of

-- how many reminders are asked for
unfoldable pub due_limit : Field ℕ
due_limit = within 1 256 number16

abbrev pub due_entry_parts : DueEntry → DueKey × (List ℕ × (List ℕ × Option (List ℕ)))
due_entry_parts e = (e.key, (e.due, (e.period, e.payload)))

abbrev pub due_entry_of : DueKey × (List ℕ × (List ℕ × Option (List ℕ))) → DueEntry
due_entry_of p = record { key = p.0; due = p.1.0; period = p.1.1.0; payload = p.1.1.1 }

-- moment, actor, name, text of due, of period, payload
unfoldable pub due_entry : Field DueEntry
due_entry = seen (both due_key (both text (both text (maybe blob)))) due_entry_parts due_entry_of

-- a count of two bytes, and then the entries
unfoldable pub due_entries : Field (List DueEntry)
due_entries = counted number16 (in_any_order due_entry)

-- ---- why the store refuses

-- a number, and then 0
abbrev pub and_zero : Field ℕ → Field (ℕ × Unit {0})
and_zero f = both f (fixed 0)

abbrev pub no_numbers : Field (Unit {0} × Unit {0})
no_numbers = both (fixed 0) (fixed 0)

abbrev pub two_numbers : Field (ℕ × ℕ)
two_numbers = both number64 number64

-- a moment as whole seconds since 1970, before 9999, and the nanoseconds behind them
abbrev pub clock_parts : ℕ → ℕ × ℕ
clock_parts n = (n / 1000000000, n % 1000000000)

abbrev pub clock_moment : ℕ × ℕ → ℕ
clock_moment p = p.0 * 1000000000 + p.1

unfoldable pub clock : Field ℕ
clock = seen (both (at_most 253370764799 number64) (at_most 999999999 number64)) clock_parts clock_moment

abbrev pub store_refusal_tag : StoreRefusal → ℕ
store_refusal_tag (refusals.OtherBoot greatest) = 1
store_refusal_tag (refusals.OldSeq floor) = 2
store_refusal_tag (refusals.NodesFull nodes) = 3
store_refusal_tag refusals.Spent = 4
store_refusal_tag (refusals.TooManyOps n) = 5
store_refusal_tag (refusals.KeyTooLong op n) = 6
store_refusal_tag (refusals.ValueTooLong op n) = 7
store_refusal_tag (refusals.OtherMoment m) = 8
store_refusal_tag (refusals.Full len) = 9
store_refusal_tag refusals.DiskFault = 10
store_refusal_tag refusals.Reopen = 11
store_refusal_tag refusals.OutOfMemory = 12
store_refusal_tag (refusals.CommandTooLong n) = 13
store_refusal_tag (refusals.StaleEpoch seen) = 14
store_refusal_tag (refusals.ReservedKey op) = 15
store_refusal_tag refusals.Unfenced = 16

abbrev pub store_refusal_fields : StoreRefusal → List ℕ
store_refusal_fields (refusals.OtherBoot greatest) = (and_zero counter).spell (greatest, tt)
store_refusal_fields (refusals.OldSeq floor) = (and_zero number64).spell (floor, tt)
store_refusal_fields (refusals.NodesFull nodes) = (and_zero small).spell (nodes, tt)
store_refusal_fields refusals.Spent = (both (fixed (2 ^ 62)) (fixed 0)).spell (tt, tt)
store_refusal_fields (refusals.TooManyOps n) = (and_zero number64).spell (n, tt)
store_refusal_fields (refusals.KeyTooLong op n) = two_numbers.spell (op, n)
store_refusal_fields (refusals.ValueTooLong op n) = two_numbers.spell (op, n)
store_refusal_fields (refusals.OtherMoment m) = clock.spell m
store_refusal_fields (refusals.Full len) = (and_zero number64).spell (len, tt)
store_refusal_fields refusals.DiskFault = no_numbers.spell (tt, tt)
store_refusal_fields refusals.Reopen = no_numbers.spell (tt, tt)
store_refusal_fields refusals.OutOfMemory = no_numbers.spell (tt, tt)
store_refusal_fields (refusals.CommandTooLong n) = (and_zero number64).spell (n, tt)
store_refusal_fields (refusals.StaleEpoch seen) = (and_zero number64).spell (seen, tt)
store_refusal_fields (refusals.ReservedKey op) = (and_zero number64).spell (op, tt)
store_refusal_fields refusals.Unfenced = no_numbers.spell (tt, tt)

abbrev pub StoreRefusalFits : StoreRefusal → Type 0
StoreRefusalFits (refusals.OtherBoot greatest) = (and_zero counter).Fits (greatest, tt)
StoreRefusalFits (refusals.OldSeq floor) = (and_zero number64).Fits (floor, tt)
StoreRefusalFits (refusals.NodesFull nodes) = (and_zero small).Fits (nodes, tt)
StoreRefusalFits refusals.Spent = (both (fixed (2 ^ 62)) (fixed 0)).Fits (tt, tt)
StoreRefusalFits (refusals.TooManyOps n) = (and_zero number64).Fits (n, tt)
StoreRefusalFits (refusals.KeyTooLong op n) = two_numbers.Fits (op, n)
StoreRefusalFits (refusals.ValueTooLong op n) = two_numbers.Fits (op, n)
StoreRefusalFits (refusals.OtherMoment m) = clock.Fits m
StoreRefusalFits (refusals.Full len) = (and_zero number64).Fits (len, tt)
StoreRefusalFits refusals.DiskFault = no_numbers.Fits (tt, tt)
StoreRefusalFits refusals.Reopen = no_numbers.Fits (tt, tt)
StoreRefusalFits refusals.OutOfMemory = no_numbers.Fits (tt, tt)
StoreRefusalFits (refusals.CommandTooLong n) = (and_zero number64).Fits (n, tt)
StoreRefusalFits (refusals.StaleEpoch seen) = (and_zero number64).Fits (seen, tt)
StoreRefusalFits (refusals.ReservedKey op) = (and_zero number64).Fits (op, tt)
StoreRefusalFits refusals.Unfenced = no_numbers.Fits (tt, tt)

abbrev pub store_refusal_rows : List (ℕ × Reading StoreRefusal)
store_refusal_rows =
    (1, row (and_zero counter) (λ p. refusals.OtherBoot p.0))
    ∷ (2, row (and_zero number64) (λ p. refusals.OldSeq p.0))
    ∷ (3, row (and_zero small) (λ p. refusals.NodesFull p.0))
    ∷ (4, row (both (fixed (2 ^ 62)) (fixed 0)) (λ u. refusals.Spent))
    ∷ (5, row (and_zero number64) (λ p. refusals.TooManyOps p.0))
    ∷ (6, row two_numbers (λ p. refusals.KeyTooLong p.0 p.1))
    ∷ (7, row two_numbers (λ p. refusals.ValueTooLong p.0 p.1))
    ∷ (8, row clock (λ m. refusals.OtherMoment m))
    ∷ (9, row (and_zero number64) (λ p. refusals.Full p.0))
    ∷ (10, row no_numbers (λ u. refusals.DiskFault))
    ∷ (11, row no_numbers (λ u. refusals.Reopen))
    ∷ (12, row no_numbers (λ u. refusals.OutOfMemory))
    ∷ (13, row (and_zero number64) (λ p. refusals.CommandTooLong p.0))
    ∷ (14, row (and_zero number64) (λ p. refusals.StaleEpoch p.0))
    ∷ (15, row (and_zero number64) (λ p. refusals.ReservedKey p.0))
    ∷ (16, row no_numbers (λ u. refusals.Unfenced))
    ∷ []

-- a code, and then the two numbers that belong to it
unfoldable pub store_refusal : Field StoreRefusal
store_refusal = tagged store_refusal_tag store_refusal_fields StoreRefusalFits (row_of store_refusal_rows)
