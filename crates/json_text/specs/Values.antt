-- What a JSON text says (RFC 8259), and look-ups in it. Own.
use Rattle.std.specs.Prelude.{ℕ, zero, suc, ℤ, pos, ◌^◌, ◌||◌, List, Bool, true, false, nat_lt, if◌then◌else◌, Option, None, Some}
use Rattle.std.specs.Str.{bytes_eq}

mutual
  -- A number is a 64-bit integer, `natural` from 0 to 2^64 - 1 or `negative` from -2^63 to -1, or another number, of
  -- which nothing more is kept: no text is made of it. Texts and keys are their bytes, without escapes.
  pub data JsonValue : Type 0 where
    null : JsonValue
    truth : Bool → JsonValue
    natural : ℕ → JsonValue
    negative : ℤ → JsonValue
    other_number : JsonValue
    text : List ℕ → JsonValue
    array : Items → JsonValue
    object : Members → JsonValue

  pub data Items : Type 0 where
    no_items : Items
    item : JsonValue → Items → Items

  pub data Members : Type 0 where
    no_members : Members
    member : List ℕ → JsonValue → Members → Members

abbrev pub is_null : JsonValue → Bool
is_null null = true
is_null _ = false

abbrev pub is_array : JsonValue → Bool
is_array (array xs) = true
is_array _ = false

abbrev pub is_object : JsonValue → Bool
is_object (object ms) = true
is_object _ = false

abbrev pub truth_in : JsonValue → Option Bool
truth_in (truth b) = Some b
truth_in _ = None

abbrev pub text_in : JsonValue → Option (List ℕ)
text_in (text s) = Some s
text_in _ = None

-- the number, if it is a `u64`
abbrev pub natural_in : JsonValue → Option ℕ
natural_in (natural n) = Some n
natural_in _ = None

-- the number, if it is an `i64`
abbrev pub integer_in : JsonValue → Option ℤ
integer_in (natural n) = if nat_lt n (2 ^ 63) then Some (pos n) else None
integer_in (negative z) = Some z
integer_in _ = None

abbrev pub count_of : Items → ℕ
count_of no_items = 0
count_of (item v vs) = suc (count_of vs)

-- how many items the array has
abbrev pub count_in : JsonValue → Option ℕ
count_in (array vs) = Some (count_of vs)
count_in _ = None

abbrev pub item_of : ℕ → Items → Option JsonValue
item_of n no_items = None
item_of zero (item v vs) = Some v
item_of (suc n) (item v vs) = item_of n vs

-- the item of an array at an index, counted from 0
abbrev pub item_at : ℕ → JsonValue → Option JsonValue
item_at n (array vs) = item_of n vs
item_at n _ = None

abbrev pub member_of : List ℕ → Members → Option JsonValue
member_of k no_members = None
member_of k (member l v ms) = if bytes_eq k l then Some v else member_of k ms

-- the value of an object's member with this key
abbrev pub member_at : List ℕ → JsonValue → Option JsonValue
member_at k (object ms) = member_of k ms
member_at k _ = None

-- whether some number in the value isn't a 64-bit integer
abbrev mutual
  pub has_other_number : JsonValue → Bool
  has_other_number null = false
  has_other_number (truth b) = false
  has_other_number (natural n) = false
  has_other_number (negative z) = false
  has_other_number other_number = true
  has_other_number (text s) = false
  has_other_number (array vs) = items_have_other_number vs
  has_other_number (object ms) = members_have_other_number ms

  pub items_have_other_number : Items → Bool
  items_have_other_number no_items = false
  items_have_other_number (item v vs) = has_other_number v || items_have_other_number vs

  pub members_have_other_number : Members → Bool
  members_have_other_number no_members = false
  members_have_other_number (member k v ms) = has_other_number v || members_have_other_number ms
