-- Bytes that are UTF-8, and the value that they have.
use Rattle.std.proofs.Common.{◌≡◌, ℕ, Bool, true, false, if◌then◌else◌, List, None, Ok, Err, refl}
use Rattle.std.specs.Str.{is_utf8}
use Rattle.std.proofs.lemmas.Str.{IsUtf8-from_is_utf8, is_utf8-from_IsUtf8}
use Rattle.json_text.specs.Values.{JsonValue}
use Rattle.json_text.specs.Reading.{reading, Reads, HasNoReading}
use Rattle.api_bodies.specs.declared.error.BodyError.TheVariants.{Malformed}
use Rattle.api_bodies.specs.Records.{formed, body_reading}

-- what was read is the reading
pub body_read : (body : List ℕ) (v : JsonValue) → Reads body v → body_reading body ≡ Ok v
unfolding body_reading
body_read body v reads = rw (is_utf8-from_IsUtf8 body reads.0, reads.1) refl

unread : (body : List ℕ) (test : Bool) → is_utf8 body ≡ test → HasNoReading body → formed (if test then reading body else None) ≡ Err Malformed
unread body true is none = rw (none (IsUtf8-from_is_utf8 body is)) refl
unread body false is none = refl

pub body_not_read : (body : List ℕ) → HasNoReading body → body_reading body ≡ Err Malformed
unfolding body_reading
body_not_read body none = unread body (is_utf8 body) refl none
