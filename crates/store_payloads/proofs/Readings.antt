-- Payloads are read as they are spelled.
use Rattle.std.proofs.Common.{◌≡◌, ℕ, ◌<◌, ◌≤◌, ◌^◌, Bool, true, false, List, [], ◌∷◌, ◌++◌, length, take, drop, Option, Some, None, Result, Ok, refl, sym, ap, ◌∙◌, arith, length-append}
use Rattle.std.specs.Prelude.{nat_lt, if◌then◌else◌}
use Rattle.std.specs.Int.{w64, from_be_bytes, to_be_bytes}
use Rattle.std.proofs.lemmas.List.{take_at, drop_at}
use Rattle.std.proofs.lemmas.Nat.{from_be_bytes-to_be_bytes_8}
use Rattle.std.proofs.lemmas.Bool.Decides.{nat_tests}
use Rattle.frame_wire.specs.declared.store_command.StoreCommand.{StoreCommand}
use Rattle.frame_wire.specs.declared.store_command.StoreCommand.TheVariants.{Boot, Tx, Get, PutReminder, GetReminder, DeleteReminder, Due, Fired}
use Rattle.frame_wire.specs.Kinds.{command_byte}
use Rattle.frame_wire.specs.Laws.{ReadsCommand}
use Rattle.frame_wire.specs.Store.{command, command_kind, command_fields, command_reading}
use Rattle.store_tables.specs.declared.row.TableRow.{TableRow}
use Rattle.store_tables.specs.declared.row.TableRow.TheVariants as rows
use Rattle.wire_fields.specs.Fields.{whole}
use Rattle.wire_fields.proofs.FieldLaws.{whole_again}
use Rattle.store_payloads.specs.declared.payload.PayloadBody.{PayloadBody}
use Rattle.store_payloads.specs.declared.payload.PayloadBody.TheVariants.{Command, Row}
use Rattle.store_payloads.specs.Fields.{row_tag, row_fields, table_row}
use Rattle.store_payloads.specs.Payloads.{end_of_moments, row_body, body_reading, at_moment, payload_reading}
use Rattle.store_payloads.specs.Laws.{MayCome, ReadsCommands, ReadsRows}
use Rattle.store_payloads.proofs.RowLaws.{table_row_law}

-- a body behind its moment is read at that moment
at_its_moment : (now : ℕ) (spelled : List ℕ) (body : PayloadBody) → now < end_of_moments → body_reading spelled ≡ Some body → payload_reading (to_be_bytes w64 now ++ spelled) ≡ Some (record { now = now; body = body })
unfolding payload_reading
at_its_moment now spelled body below is =
    let head = to_be_bytes w64 now in
    let long : nat_lt (length (head ++ spelled)) 8 ≡ false = (let l = length-append head spelled in grind (arith, nat_tests)) in
    let moment : from_be_bytes w64 head ≡ now = from_be_bytes-to_be_bytes_8 now (omega arith) in
    let early : nat_lt now end_of_moments ≡ true = grind (arith, nat_tests) in
    let bytes = head ++ spelled in
    ap (λ (b : Bool). if b then None else at_moment (from_be_bytes w64 (take 8 bytes)) (body_reading (drop 8 bytes))) long
    ∙ ap (λ (l : List ℕ). at_moment (from_be_bytes w64 l) (body_reading (drop 8 bytes))) (take_at head spelled 8 refl)
    ∙ ap (λ (l : List ℕ). at_moment (from_be_bytes w64 head) (body_reading l)) (drop_at head spelled 8 refl)
    ∙ ap (λ (n : ℕ). at_moment n (body_reading spelled)) moment
    ∙ ap (at_moment now) is
    ∙ ap (λ (b : Bool). if b then Some (record { now = now; body = body }) else None) early

-- ---- commands

kind_low : (c : StoreCommand) → nat_lt (command_byte (command_kind c)) 128 ≡ true
kind_low (Boot space node) = refl
kind_low (Tx s actor ops) = refl
kind_low (Get actor key) = refl
kind_low (PutReminder s actor name reminder) = refl
kind_low (GetReminder actor name) = refl
kind_low (DeleteReminder s actor name) = refl
kind_low (Due after limit) = refl
kind_low (Fired s actor name moment) = refl

command_begun : (bytes rest : List ℕ) (kind : ℕ) (c : StoreCommand) → bytes ≡ kind ∷ rest → nat_lt kind 128 ≡ true → command_reading bytes ≡ Ok c → body_reading bytes ≡ Some (Command c)
command_begun [] rest kind c is low read = absurd cc
command_begun (b ∷ bytes) rest kind c is low read =
    let first : nat_lt b 128 ≡ true = let e : b ≡ kind = cc in ap (λ n. nat_lt n 128) e ∙ low in
    rw (first, read) refl

command_front : (c : StoreCommand) → command.spell c ≡ command_byte (command_kind c) ∷ command_fields c
unfolding command
command_front c = refl

pub reads_commands : ReadsCommand → ReadsCommands
reads_commands reads c may =
    at_its_moment c.now (command.spell c.command) (Command c.command) may.now
    (command_begun (command.spell c.command) (command_fields c.command) (command_byte (command_kind c.command)) c.command (command_front c.command) (kind_low c.command) (reads c.command may.command))

-- ---- rows

row_high : (r : TableRow) → nat_lt (row_tag r) 128 ≡ false
row_high (rows.Boot space node n) = refl
row_high (rows.Lane m part floor kept) = refl
row_high (rows.State e) = refl
row_high (rows.Reminder a name r) = refl

row_begun : (bytes rest : List ℕ) (kind : ℕ) (r : TableRow) → bytes ≡ kind ∷ rest → nat_lt kind 128 ≡ false → whole table_row.at bytes ≡ Ok r → body_reading bytes ≡ Some (Row r)
row_begun [] rest kind r is high read = absurd cc
row_begun (b ∷ bytes) rest kind r is high read =
    let first : nat_lt b 128 ≡ false = let e : b ≡ kind = cc in ap (λ n. nat_lt n 128) e ∙ high in
    rw (first, read) refl

row_front : (r : TableRow) → table_row.spell r ≡ row_tag r ∷ row_fields r
unfolding table_row
row_front r = refl

pub reads_rows : ReadsRows
reads_rows now r below fits =
    at_its_moment now (table_row.spell r) (Row r) below
    (row_begun (table_row.spell r) (row_fields r) (row_tag r) r (row_front r) (row_high r) (whole_again table_row_law r fits))
