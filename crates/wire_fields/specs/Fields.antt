-- Fields of bytes: how the values of each are spelled, and how one is read from the start of some bytes. Own; numbers
-- have their highest byte first (network byte order, RFC 1700).
use Rattle.std.specs.Prelude.{◌≡◌, ℕ, ◌+◌, ◌<◌, ◌^◌, ◌/◌, ◌%◌, ◌*◌, zero, suc, Bool, true, nat_lt, ◌==◌, if◌then◌else◌, List, [], ◌∷◌, ◌++◌, length, take, drop, Option, Some, None, Result, Ok, Err}
use Rattle.std.specs.Int.{Width, w16, w32, w64, byte_len, from_be_bytes, to_be_bytes}

-- a reading answers the value and the bytes behind it, or the number of bytes from the first field that fails to the
-- end
abbrev pub Reading : Type 0 → Type 0
Reading A = List ℕ → Result (A × List ℕ) ℕ

-- the spelling of each value, the values that fit the field, and its reading
pub record Field (A : Type 0) : Type 1 where
  pub spell : A → List ℕ
  pub Fits : A → Type 0
  pub at : List ℕ → Result (A × List ℕ) ℕ

infixl 10 ◌>>=◌
abbrev pub ◌>>=◌ : {A B : Type 0} → Result A ℕ → (A → Result B ℕ) → Result B ℕ
(Ok x) >>= f = f x
(Err left) >>= f = Err left

-- the field that begins here fails
abbrev pub fails_here : {A : Type 0} → List ℕ → Result A ℕ
fails_here bytes = Err (length bytes)

-- ---- numbers

abbrev pub byte_at : Reading ℕ
byte_at [] = Err 0
byte_at (b ∷ bytes) = Ok (b, bytes)

unfoldable pub byte : Field ℕ
byte = record { spell = λ n. n ∷ []; Fits = λ n. n < 256; at = byte_at }

abbrev pub number : Width → ℕ → Field ℕ
number w limit = record {
  spell = to_be_bytes w;
  Fits = λ n. n < limit;
  at = λ bytes. if nat_lt (length bytes) (byte_len w) then fails_here bytes else Ok (from_be_bytes w (take (byte_len w) bytes), drop (byte_len w) bytes);
}

unfoldable pub number16 : Field ℕ
number16 = number w16 (2 ^ 16)

unfoldable pub number32 : Field ℕ
number32 = number w32 (2 ^ 32)

unfoldable pub number64 : Field ℕ
number64 = number w64 (2 ^ 64)

-- ---- fields of fields

-- a field of no bytes
abbrev pub nothing : Field (Unit {0})
nothing = record { spell = λ u. []; Fits = λ u. Unit {0}; at = λ bytes. Ok (tt, bytes) }

-- one field after the other
abbrev pub both : {A B : Type 0} → Field A → Field B → Field (A × B)
both f g = record {
  spell = λ p. f.spell p.0 ++ g.spell p.1;
  Fits = λ p. f.Fits p.0 × g.Fits p.1;
  at = λ bytes. f.at bytes >>= λ x. g.at x.1 >>= λ y. Ok ((x.0, y.0), y.1);
}

-- the same bytes for other values
abbrev pub seen : {A B : Type 0} → Field A → (B → A) → (A → B) → Field B
seen f parts made = record {
  spell = λ b. f.spell (parts b);
  Fits = λ b. f.Fits (parts b);
  at = λ bytes. f.at bytes >>= λ x. Ok (made x.0, x.1);
}

-- only the values that pass a test
abbrev pub only : {A : Type 0} → Field A → (A → Bool) → Field A
only f test = record {
  spell = f.spell;
  Fits = λ a. f.Fits a × (test a ≡ true);
  at = λ bytes. f.at bytes >>= λ x. if test x.0 then Ok x else fails_here bytes;
}

-- its parts as one field: if a part fails, the whole fails at its first byte
abbrev pub as_one_at : {A : Type 0} → ℕ → Result A ℕ → Result A ℕ
as_one_at left (Ok x) = Ok x
as_one_at left (Err part) = Err left

abbrev pub as_one : {A : Type 0} → Field A → Field A
as_one f = record { spell = f.spell; Fits = f.Fits; at = λ bytes. as_one_at (length bytes) (f.at bytes) }

-- a number of 16 bytes: its high half, and then its low half
abbrev pub halves : ℕ → ℕ × ℕ
halves n = (n / 18446744073709551616, n % 18446744073709551616)

abbrev pub joined : ℕ × ℕ → ℕ
joined p = p.0 * 18446744073709551616 + p.1

unfoldable pub number128 : Field ℕ
number128 = seen (as_one (both number64 number64)) halves joined

-- a number of bytes, and then these bytes
abbrev pub bytes_of : ℕ → ℕ → Reading (List ℕ)
bytes_of n left bytes = if nat_lt (length bytes) n then Err left else Ok (take n bytes, drop n bytes)

abbrev pub sized : Field ℕ → Field (List ℕ)
sized size = record {
  spell = λ text. size.spell (length text) ++ text;
  Fits = λ text. size.Fits (length text);
  at = λ bytes. size.at bytes >>= λ n. bytes_of n.0 (length bytes) n.1;
}

-- ---- lists

-- the spellings of the values, one after another
abbrev pub spell_all : {A : Type 0} → (A → List ℕ) → List A → List ℕ
spell_all spell [] = []
spell_all spell (x ∷ xs) = spell x ++ spell_all spell xs

-- each value fits the field that it has behind the value before it
abbrev pub AllFit : {A : Type 0} → (Option A → Field A) → Option A → List A → Type 0
AllFit f before [] = Unit {0}
AllFit f before (x ∷ xs) = (f before).Fits x × AllFit f (Some x) xs

-- that many values, each of which has the field that belongs behind the value before it
unfoldable pub many_at : {A : Type 0} → (Option A → Field A) → Option A → ℕ → Reading (List A)
many_at f before zero bytes = Ok ([], bytes)
many_at f before (suc n) bytes = (f before).at bytes >>= λ x. many_at f (Some x.0) n x.1 >>= λ xs. Ok (x.0 ∷ xs.0, xs.1)

-- a number of values, and then these values; their fields spell alike
abbrev pub counted : {A : Type 0} → Field ℕ → (Option A → Field A) → Field (List A)
counted count f = record {
  spell = λ xs. count.spell (length xs) ++ spell_all (f None).spell xs;
  Fits = λ xs. count.Fits (length xs) × AllFit f None xs;
  at = λ bytes. count.at bytes >>= λ n. many_at f None n.0 n.1;
}

-- values in any order
abbrev pub in_any_order : {A : Type 0} → Field A → Option A → Field A
in_any_order f before = f

-- ---- a first byte that tells the fields behind it

-- what a reading gives, put into other values
abbrev pub made_of : {A B : Type 0} → Reading A → (A → B) → Reading B
made_of read made = λ bytes. read bytes >>= λ x. Ok (made x.0, x.1)

abbrev pub row : {A B : Type 0} → Field A → (A → B) → Reading B
row f made = made_of f.at made

-- what a table has at a tag
abbrev pub row_of : {X : Type 0} → List (ℕ × X) → ℕ → Option X
row_of [] t = None
row_of (r ∷ rs) t = if t == r.0 then Some r.1 else row_of rs t

abbrev pub by_row : {B : Type 0} → ℕ → Option (Reading B) → Reading B
by_row t None bytes = Err (suc (length bytes))
by_row t (Some r) bytes = r bytes

abbrev pub tagged_at : {B : Type 0} → (ℕ → Option (Reading B)) → Reading B
tagged_at rows [] = Err 0
tagged_at rows (t ∷ bytes) = by_row t (rows t) bytes

abbrev pub tagged : {B : Type 0} → (B → ℕ) → (B → List ℕ) → (B → Type 0) → (ℕ → Option (Reading B)) → Field B
tagged tag fields Fits rows = record { spell = λ b. tag b ∷ fields b; Fits = Fits; at = tagged_at rows }

-- ---- a value that may be missing

abbrev pub maybe_tag : {A : Type 0} → Option A → ℕ
maybe_tag None = 0
maybe_tag (Some a) = 1

abbrev pub maybe_fields : {A : Type 0} → (A → List ℕ) → Option A → List ℕ
maybe_fields spell None = []
maybe_fields spell (Some a) = spell a

abbrev pub MaybeFits : {A : Type 0} → (A → Type 0) → Option A → Type 0
MaybeFits Fits None = Unit {0}
MaybeFits Fits (Some a) = Fits a

abbrev pub maybe_rows : {A : Type 0} → Field A → List (ℕ × Reading (Option A))
maybe_rows f = (0, row nothing (λ u. None)) ∷ (1, row f (λ a. Some a)) ∷ []

abbrev pub maybe : {A : Type 0} → Field A → Field (Option A)
maybe f = tagged maybe_tag (maybe_fields f.spell) (MaybeFits f.Fits) (row_of (maybe_rows f))

-- ---- bytes that are one field and nothing else

-- the value that a reading gives if it takes all bytes
abbrev pub whole : {A : Type 0} → Reading A → List ℕ → Result A ℕ
whole read bytes = read bytes >>= λ x. if length x.1 == 0 then Ok x.0 else fails_here x.1
