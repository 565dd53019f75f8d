-- How many bytes the parts of an entry have in a frame.
use Rattle.std.proofs.Common.{◌≡◌, ℕ, ◌+◌, List, ◌++◌, length, Some, arith, length-append}
use Rattle.std.specs.Int.{w16, w32, to_be_bytes}
use Rattle.reminder_rows.specs.declared.reminder.Reminder.{Reminder}
use Rattle.reminder_rows.specs.declared.row.DueKey.{DueKey}
use Rattle.wire_fields.specs.Fields.{byte, number16, number32, number64, number128, maybe}
use Rattle.wire_fields.specs.Parts.{space_name, type_name, id_name, record_name, actor}
use Rattle.wire_fields.specs.Records.{text, blob, moment, due_key}
use Rattle.frame_wire.specs.StoreParts.{due_entry}
use Rattle.store_tables.specs.Dues.{entry_of, entry_size}

pub blob-size : (bytes : List ℕ) → length ((maybe blob).spell (Some bytes)) ≡ 5 + length bytes
unfolding blob number32
blob-size bytes = omega (arith, length-append (to_be_bytes w32 (length bytes)) bytes)

pub key-size : (k : DueKey) → length (due_key.spell k) ≡ 20 + (length k.actor.space + length k.actor.kind + length k.actor.id) + length k.name
unfolding due_key moment number128 number64 actor space_name type_name id_name record_name byte
key-size k = simp length-append (omega arith)

text-size : (t : List ℕ) → length (text.spell t) ≡ 2 + length t
unfolding text number16
text-size t = omega (arith, length-append (to_be_bytes w16 (length t)) t)

pub entry-size : (k : DueKey) (r : Reminder) → entry_size (entry_of k r) ≡ length (due_key.spell k) + 4 + (length r.due + length r.period) + length ((maybe blob).spell r.payload)
unfolding due_entry
entry-size k r =
    let a = length-append (due_key.spell k) (text.spell r.due ++ (text.spell r.period ++ (maybe blob).spell r.payload)) in
    let b = length-append (text.spell r.due) (text.spell r.period ++ (maybe blob).spell r.payload) in
    let c = length-append (text.spell r.period) ((maybe blob).spell r.payload) in
    omega (arith, a, b, c, text-size r.due, text-size r.period)
