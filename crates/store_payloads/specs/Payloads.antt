-- The payloads of the store's journal: a moment, and then a command or a row of a snapshot. Own.
use Rattle.std.specs.Prelude.{ℕ, nat_lt, if◌then◌else◌, List, [], ◌∷◌, ◌++◌, length, take, drop, map, Option, None, Some, Result, Ok, Err}
use Rattle.std.specs.Int.{w64, from_be_bytes, to_be_bytes}
use Rattle.frame_wire.specs.declared.error.FrameError.{FrameError}
use Rattle.frame_wire.specs.declared.store_command.StoreCommand.{StoreCommand}
use Rattle.frame_wire.specs.Store.{command, command_reading}
use Rattle.store_tables.specs.declared.row.TableRow.{TableRow}
use Rattle.store_tables.specs.Contents.{Timed}
use Rattle.wire_fields.specs.Fields.{whole}
use Rattle.store_payloads.specs.declared.payload.PayloadBody.{PayloadBody}
use Rattle.store_payloads.specs.declared.payload.PayloadBody.TheVariants.{Command, Row}
use Rattle.store_payloads.specs.declared.payload.StorePayload.{StorePayload}
use Rattle.store_payloads.specs.Fields.{table_row}

-- moments are before 9999, in milliseconds since 1970
abbrev pub end_of_moments : ℕ
end_of_moments = 253370764800000

-- ---- how they are spelled

-- the moment, and the command's frame without its length
abbrev pub command_payload : Timed → List ℕ
command_payload c = to_be_bytes w64 c.now ++ command.spell c.command

-- the moment of the compaction, and the row
abbrev pub row_payload : ℕ → TableRow → List ℕ
row_payload now r = to_be_bytes w64 now ++ table_row.spell r

-- ---- how they are read

abbrev pub command_body : Result StoreCommand FrameError → Option PayloadBody
command_body (Ok c) = Some (Command c)
command_body (Err e) = None

abbrev pub row_body : Result TableRow ℕ → Option PayloadBody
row_body (Ok r) = Some (Row r)
row_body (Err left) = None

-- rows have kinds from 128 on, commands have lower ones
abbrev pub body_reading : List ℕ → Option PayloadBody
body_reading [] = None
body_reading (kind ∷ rest) = if nat_lt kind 128 then command_body (command_reading (kind ∷ rest)) else row_body (whole table_row.at (kind ∷ rest))

abbrev pub at_moment : ℕ → Option PayloadBody → Option StorePayload
at_moment now None = None
at_moment now (Some body) = if nat_lt now end_of_moments then Some (record { now = now; body = body }) else None

-- what a payload says, if it has a reading
unfoldable pub payload_reading : List ℕ → Option StorePayload
payload_reading payload = if nat_lt (length payload) 8 then None else at_moment (from_be_bytes w64 (take 8 payload)) (body_reading (drop 8 payload))
