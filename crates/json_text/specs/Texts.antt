-- The text of a value: no space, the shortest escapes, integers in decimal, members in the value's order. Own.
use Rattle.std.specs.Prelude.{ℕ, List, [], ◌∷◌, ◌++◌, true, false, decimal, codes}
use Rattle.std.specs.Fmt.{signed_decimal}
use Rattle.json.specs.Print.{quoted}
use Rattle.json_text.specs.Values.{JsonValue, null, truth, natural, negative, other_number, text, array, object, Items, no_items, item, Members, no_members, member}

-- each text with a comma before it
abbrev pub after_commas : List (List ℕ) → List ℕ
after_commas [] = []
after_commas (t ∷ ts) = 44 ∷ (t ++ after_commas ts)

-- the texts with commas between them
abbrev pub between_commas : List (List ℕ) → List ℕ
between_commas [] = []
between_commas (t ∷ ts) = t ++ after_commas ts

abbrev pub in_brackets : List (List ℕ) → List ℕ
in_brackets ts = 91 ∷ (between_commas ts ++ 93 ∷ [])

abbrev pub in_braces : List (List ℕ) → List ℕ
in_braces ts = 123 ∷ (between_commas ts ++ 125 ∷ [])

-- a quoted key, a colon and the text of the value
abbrev pub at_key : List ℕ → List ℕ → List ℕ
at_key k t = quoted k ++ 58 ∷ t

-- No text is made of a number that isn't a 64-bit integer.
abbrev mutual
  pub text_of : JsonValue → List ℕ
  text_of null = codes "null"
  text_of (truth false) = codes "false"
  text_of (truth true) = codes "true"
  text_of (natural n) = decimal n
  text_of (negative z) = signed_decimal z
  text_of other_number = []
  text_of (text s) = quoted s
  text_of (array vs) = in_brackets (item_texts vs)
  text_of (object ms) = in_braces (member_texts ms)

  pub item_texts : Items → List (List ℕ)
  item_texts no_items = []
  item_texts (item v vs) = text_of v ∷ item_texts vs

  pub member_texts : Members → List (List ℕ)
  member_texts no_members = []
  member_texts (member k v ms) = at_key k (text_of v) ∷ member_texts ms
