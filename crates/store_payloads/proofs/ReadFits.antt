-- What is read fits its fields.
use Rattle.std.proofs.Common.{◌≡◌, ◌<◌, ℕ, Bool, true, false, List, [], ◌∷◌, length, take, drop, Option, Some, None, Result, Ok, Err, refl, subst, arith}
use Rattle.std.specs.Prelude.{nat_lt, if◌then◌else◌, IfOk}
use Rattle.std.specs.Int.{w64, from_be_bytes}
use Rattle.std.proofs.lemmas.Bool.Decides.{nat_tests}
use Rattle.frame_wire.specs.declared.error.FrameError.{FrameError}
use Rattle.frame_wire.specs.declared.store_command.StoreCommand.{StoreCommand}
use Rattle.frame_wire.specs.Laws.{IsBytes, SpellsCommand}
use Rattle.frame_wire.specs.Store.{command_reading}
use Rattle.store_tables.specs.declared.row.TableRow.{TableRow}
use Rattle.wire_fields.specs.Fields.{whole}
use Rattle.wire_fields.proofs.FieldLaws.{IsBytes-drop, whole_takes}
use Rattle.store_payloads.specs.declared.error.PayloadError.{PayloadError}
use Rattle.store_payloads.specs.declared.payload.PayloadBody.{PayloadBody}
use Rattle.store_payloads.specs.declared.payload.PayloadBody.TheVariants.{Command, Row}
use Rattle.store_payloads.specs.declared.payload.StorePayload.{StorePayload}
use Rattle.store_payloads.specs.Fields.{table_row}
use Rattle.store_payloads.specs.Fits.{BodyFits, PayloadFits}
use Rattle.store_payloads.specs.Gives.{GivesPart}
use Rattle.store_payloads.specs.Payloads.{end_of_moments, command_body, row_body, body_reading, at_moment, payload_reading}
use Rattle.store_payloads.proofs.RowLaws.{table_row_law}

command_fits : SpellsCommand → (bytes : List ℕ) (r : Result StoreCommand FrameError) (body : PayloadBody) → IsBytes bytes → command_reading bytes ≡ r → command_body r ≡ Some body → BodyFits body
command_fits spells bytes (Ok c) body fits read is = let here : Command c ≡ body = cc in subst BodyFits here ((spells bytes c fits read).1)
command_fits spells bytes (Err e) body fits read is = absurd (cc)

row_fits : (bytes : List ℕ) (r : Result TableRow ℕ) (body : PayloadBody) → IsBytes bytes → whole table_row.at bytes ≡ r → row_body r ≡ Some body → BodyFits body
row_fits bytes (Ok r) body fits read is = let here : Row r ≡ body = cc in subst BodyFits here ((whole_takes table_row_law bytes r fits read).1)
row_fits bytes (Err left) body fits read is = absurd (cc)

body_fits : SpellsCommand → (bytes : List ℕ) (body : PayloadBody) → IsBytes bytes → body_reading bytes ≡ Some body → BodyFits body
body_fits spells [] body fits is = absurd (cc)
body_fits spells (kind ∷ rest) body fits is = go (nat_lt kind 128) is
  where
    go : (b : Bool) → (if b then command_body (command_reading (kind ∷ rest)) else row_body (whole table_row.at (kind ∷ rest))) ≡ Some body → BodyFits body
    go true same = command_fits spells (kind ∷ rest) (command_reading (kind ∷ rest)) body fits refl same
    go false same = row_fits (kind ∷ rest) (whole table_row.at (kind ∷ rest)) body fits refl same

-- what a payload says fits, at a moment that may be
payload_fits : SpellsCommand → (bytes : List ℕ) (p : StorePayload) → IsBytes bytes → payload_reading bytes ≡ Some p → PayloadFits p
unfolding payload_reading
payload_fits spells bytes p fits is = by_length (nat_lt (length bytes) 8) is
  where
    now : ℕ
    now = from_be_bytes w64 (take 8 bytes)

    by_moment : (body : PayloadBody) (b : Bool) → nat_lt now end_of_moments ≡ b → BodyFits body → (if b then Some (record { now = now; body = body }) else None) ≡ Some p → PayloadFits p
    by_moment body true low all same =
        let here : record { now = now; body = body } ≡ p = cc in
        let below : now < end_of_moments = grind (arith, nat_tests) in
        subst PayloadFits here (record { now = below; body = all })
    by_moment body false low all same = absurd (cc)

    by_body : (o : Option PayloadBody) → body_reading (drop 8 bytes) ≡ o → at_moment now o ≡ Some p → PayloadFits p
    by_body None read same = absurd (cc)
    by_body (Some body) read same = by_moment body (nat_lt now end_of_moments) refl (body_fits spells (drop 8 bytes) body (IsBytes-drop 8 bytes fits) read) same

    by_length : (b : Bool) → (if b then None else at_moment now (body_reading (drop 8 bytes))) ≡ Some p → PayloadFits p
    by_length true same = absurd (cc)
    by_length false same = by_body (body_reading (drop 8 bytes)) refl same

pub read_fits : SpellsCommand → (bytes : List ℕ) (r : Result StorePayload PayloadError) → IsBytes bytes → GivesPart r (payload_reading bytes) → IfOk r (λ p. PayloadFits p)
read_fits spells bytes (Ok p) fits read = payload_fits spells bytes p fits read
read_fits spells bytes (Err e) fits read = tt
