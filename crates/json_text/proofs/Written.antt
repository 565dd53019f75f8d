-- Pieces that are the texts of items or members make up the text of the array or object.
use Rattle.std.proofs.Common.{◌≡◌, List, [], ◌∷◌, map, refl}
use Rattle.json_text.specs.Texts.{item_texts, member_texts}
use Rattle.json_text.specs.Values.{Items, no_items, item, Members, no_members, member}
use Rattle.json_text.specs.Written.{AreItems, AreMembers, piece_text, member_text}
use Rattle.json_text.specs.declared.writing.Piece.{Piece}
use Rattle.json_text.specs.declared.writing.Member.{Member}

pub texts_of_items : (ps : List Piece) (vs : Items) → AreItems ps vs → map piece_text ps ≡ item_texts vs
texts_of_items [] no_items h = refl
texts_of_items [] (item v vs) h = absurd h
texts_of_items (p ∷ ps) no_items h = absurd h
texts_of_items (p ∷ ps) (item v vs) h = rw (h.0, texts_of_items ps vs h.1)

pub texts_of_members : (ms : List Member) (vs : Members) → AreMembers ms vs → map member_text ms ≡ member_texts vs
texts_of_members [] no_members h = refl
texts_of_members [] (member k v vs) h = absurd h
texts_of_members (m ∷ ms) no_members h = absurd h
texts_of_members (m ∷ ms) (member k v vs) h = rw (h.0, h.1, texts_of_members ms vs h.2)
