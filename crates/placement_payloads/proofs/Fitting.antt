-- What fits a payload.
use Rattle.std.proofs.Common.{◌≡◌, ◌<◌, ◌≤◌, ℕ, List, length, get_or, None, Some, subst, arith}
use Rattle.std.proofs.lemmas.Bool.{leb-true}
use Rattle.std.proofs.lemmas.List.{length-map, get_or-map}
use Rattle.wire_fields.specs.Fields.{in_any_order}
use Rattle.wire_fields.proofs.Loops.{fits_at}
use Rattle.placement_payloads.specs.declared.entry.RoomEntry.{RoomEntry}
use Rattle.placement_payloads.specs.Gives.{entry_of, entries_of}
use Rattle.placement_payloads.specs.Laws.{IsBytes}
use Rattle.placement_payloads.specs.Payloads.{Entry, entry, entries, payload, payload_reading}
use Rattle.placement_payloads.proofs.PayloadLaws.{fits_again}

-- at most 64 entries
pub fits_few : (es : List Entry) → payload.Fits es → length es ≤ 64
unfolding payload entries
fits_few es fits = leb-true (length es) 64 fits.0.1

pub fits_each : (es : List RoomEntry) (i : ℕ) (d : RoomEntry) → payload.Fits (entries_of es) → i < length es → entry.Fits (entry_of (get_or es i d))
unfolding payload entries
fits_each es i d fits lt =
    let at_place = fits_at (in_any_order entry) entry.Fits (λ b a h. h) None (entries_of es) i (entry_of d) fits.1 (omega (arith, length-map es entry_of)) in
    subst entry.Fits (get_or-map entry_of es i d (entry_of d) lt) at_place

-- the entries that were read
pub read_few : (bytes : List ℕ) (es : List RoomEntry) → IsBytes bytes → payload_reading bytes ≡ Some (entries_of es) → length es ≤ 64
read_few bytes es fits read = omega (arith, fits_few (entries_of es) (fits_again bytes (entries_of es) fits read), length-map es entry_of)

pub read_each : (bytes : List ℕ) (es : List RoomEntry) (i : ℕ) (d : RoomEntry) → IsBytes bytes → payload_reading bytes ≡ Some (entries_of es) → i < length es → entry.Fits (entry_of (get_or es i d))
read_each bytes es i d fits read lt = fits_each es i d (fits_again bytes (entries_of es) fits read) lt
