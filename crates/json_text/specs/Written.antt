-- The texts of arrays and objects that are put together from pieces. Own.
use Rattle.std.specs.Prelude.{◌≡◌, ℕ, List, [], ◌∷◌, decimal, codes}
use Rattle.json.specs.Print.{quoted}
use Rattle.json_text.specs.Texts.{text_of, at_key}
use Rattle.json_text.specs.Values.{Items, no_items, item, Members, no_members, member}
use Rattle.json_text.specs.declared.writing.Piece.{Piece}
use Rattle.json_text.specs.declared.writing.Piece.TheVariants.{Kept, Text, Natural, Null}
use Rattle.json_text.specs.declared.writing.Member.{Member}

abbrev pub piece_text : Piece → List ℕ
piece_text (Kept t) = t.now
piece_text (Text s) = quoted s.now
piece_text (Natural n) = decimal n
piece_text Null = codes "null"

abbrev pub member_text : Member → List ℕ
member_text m = at_key m.key.now (piece_text m.value)

-- each piece is the text of the item at its place
abbrev pub AreItems : List Piece → Items → Type 0
AreItems [] no_items = Unit {0}
AreItems [] (item v vs) = ⊥
AreItems (p ∷ ps) no_items = ⊥
AreItems (p ∷ ps) (item v vs) = (piece_text p ≡ text_of v) × AreItems ps vs

-- each has the key of the member at its place, and is the text of that member's value
abbrev pub AreMembers : List Member → Members → Type 0
AreMembers [] no_members = Unit {0}
AreMembers [] (member k v vs) = ⊥
AreMembers (m ∷ ms) no_members = ⊥
AreMembers (m ∷ ms) (member k v vs) = (m.key.now ≡ k) × (piece_text m.value ≡ text_of v) × AreMembers ms vs
