-- What the definitions of payloads mean.
use Rattle.std.specs.Prelude.{◌≡◌, ◌<◌, ◌⊎◌, ◌++◌, ℕ, List, length, slice_index, Some}
use Rattle.round_core.specs.Records.{RecordOf}
use Rattle.wire_fields.specs.Fields.{spell_all}
use Rattle.placement_payloads.specs.Payloads.{Entry, entry, payload, payload_start, old_form, in_default, payload_reading}

abbrev pub IsBytes : List ℕ → Type 0
IsBytes bytes = (i : ℕ) → slice_index bytes i < 256

-- a payload that is spelled is read again
abbrev pub ReadsPayload : Type 0
ReadsPayload = (es : List Entry) → payload.Fits es → payload_reading (payload.spell es) ≡ Some es

-- and so is one of the old form
abbrev pub ReadsOldForm : Type 0
ReadsOldForm = (r : RecordOf) → old_form.Fits r → payload_reading (old_form.spell r) ≡ Some (in_default r)

abbrev pub IsOldForm : List ℕ → List Entry → Type 0
IsOldForm bytes es = (r : RecordOf) × ((es ≡ in_default r) × (bytes ≡ old_form.spell r) × old_form.Fits r)

-- bytes that are read are the spelling of what they give, in the new form or in the old one
abbrev pub SpellsPayload : Type 0
SpellsPayload = (bytes : List ℕ) (es : List Entry) → IsBytes bytes → payload_reading bytes ≡ Some es → ((bytes ≡ payload.spell es) × payload.Fits es) ⊎ IsOldForm bytes es

-- what is read may be written, also what was read in the old form
abbrev pub FitsAgain : Type 0
FitsAgain = (bytes : List ℕ) (es : List Entry) → IsBytes bytes → payload_reading bytes ≡ Some es → payload.Fits es

-- no two lists of entries have one spelling
abbrev pub SpellsOne : Type 0
SpellsOne = (es fs : List Entry) → payload.Fits es → payload.Fits fs → payload.spell es ≡ payload.spell fs → es ≡ fs

-- a payload is its start and its entries, one after another
abbrev pub BeginsEntries : Type 0
BeginsEntries = (es : List Entry) → payload.spell es ≡ payload_start (length es) ++ spell_all entry.spell es
