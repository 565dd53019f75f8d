-- What the fields of a head say of its message: where it ends, and whether it is the last (RFC 9112, sections 6 and
-- 9.6). A field is a pair of name and value; names are compared without regard to case.
use Rattle.std.specs.Prelude.{ℕ, ◌+◌, ◌-◌, ◌*◌, nat_le, nat_lt, Bool, ◌&&◌, if◌then◌else◌, List, [], ◌∷◌, length, map, Option, Some, None, Result, Ok, Err, codes}
use Rattle.std.specs.Char.{to_ascii_lowercase, is_ascii_digit}
use Rattle.std.specs.List.{list_any}
use Rattle.std.specs.Str.{bytes_eq}
use Rattle.http_edge.specs.declared.error.EdgeError.{EdgeError}
use Rattle.http_edge.specs.declared.error.EdgeError.TheVariants.{Chunked, BadLength, BodyTooLong}

-- the most bytes of a head, the most fields of one, the most bytes of a body
abbrev pub most_head : ℕ
most_head = 16384

abbrev pub most_fields : ℕ
most_fields = 64

abbrev pub most_body : ℕ
most_body = 4194304

-- equal except for the case of ASCII letters
abbrev pub is_same_word : List ℕ → List ℕ → Bool
is_same_word a b = bytes_eq (map to_ascii_lowercase a) (map to_ascii_lowercase b)

-- the values of the fields with this name, in their order
abbrev pub values_of : List ℕ → List (List ℕ × List ℕ) → List (List ℕ)
values_of name [] = []
values_of name (f ∷ fs) = if is_same_word f.0 name then f.1 ∷ values_of name fs else values_of name fs

-- the number, below 10^18, that these decimal digits spell after those of n
abbrev pub number_from : ℕ → List ℕ → Option ℕ
number_from n [] = Some n
number_from n (b ∷ bs) = if is_ascii_digit b && nat_lt n 100000000000000000 then number_from (n * 10 + (b - 48)) bs else None

-- a length is 1 to 18 decimal digits
abbrev pub length_of : List ℕ → Option ℕ
length_of text = if nat_le 1 (length text) && nat_le (length text) 18 then number_from 0 text else None

-- the length that the field Content-Length gives, which may occur once; 0 if there is none
abbrev pub length_told : List (List ℕ) → Option ℕ
length_told [] = Some 0
length_told (v ∷ []) = length_of v
length_told (v ∷ w ∷ vs) = None

-- a body that is too long is refused
abbrev pub at_most_body : Option ℕ → Result ℕ EdgeError
at_most_body None = Err BadLength
at_most_body (Some n) = if nat_le n most_body then Ok n else Err (BodyTooLong n)

-- the length of a request's body, from the values of Transfer-Encoding and of Content-Length, or why there is none
abbrev pub body_by : List (List ℕ) → List (List ℕ) → Result ℕ EdgeError
body_by [] lengths = at_most_body (length_told lengths)
body_by (v ∷ vs) lengths = Err Chunked

-- the length of a request's body, from its fields, or why there is none
abbrev pub body_told : List (List ℕ × List ℕ) → Result ℕ EdgeError
body_told fields = body_by (values_of (codes "Transfer-Encoding") fields) (values_of (codes "Content-Length") fields)

-- some field Connection has the value `close`
abbrev pub says_close : List (List ℕ × List ℕ) → Bool
says_close fields = list_any (λ v. is_same_word v (codes "close")) (values_of (codes "Connection") fields)
