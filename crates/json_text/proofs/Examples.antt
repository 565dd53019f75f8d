-- Worked examples, proved by computation.
use Rattle.std.proofs.Common.{◌≡◌, [], ◌∷◌, false, Some, None, codes, refl}
use Rattle.std.specs.Prelude.{negsuc}
use Rattle.json.specs.Print.{escape_byte}
use Rattle.serde_json.proofs.OnLiterals.{serde_json_on_literals}
use Rattle.json_text.specs.Reading.{reading}
use Rattle.json_text.specs.Texts.{text_of}
use Rattle.json_text.specs.Values.{null, truth, natural, negative, other_number, text, array, object, no_items, item, no_members, member, member_at}

-- the last of two members with the same key counts, and members are in byte order of key
pub last_of_two_counts : reading (codes "{\"b\":1,\"a\":2,\"b\":[]}") ≡ Some (object (member (codes "a") (natural 2) (member (codes "b") (array no_items) no_members)))
unfolding reading serde_json_on_literals
last_of_two_counts = refl

pub integers_of_64_bits : reading (codes "[18446744073709551615,-1]") ≡ Some (array (item (natural 18446744073709551615) (item (negative (negsuc 0)) no_items)))
unfolding reading serde_json_on_literals
integers_of_64_bits = refl

pub other_numbers : reading (codes "[1.5,-0,18446744073709551616]") ≡ Some (array (item other_number (item other_number (item other_number no_items))))
unfolding reading serde_json_on_literals
other_numbers = refl

pub trailing_comma_has_no_reading : reading (codes "[1,]") ≡ None
unfolding reading serde_json_on_literals
trailing_comma_has_no_reading = refl

pub too_large_has_no_reading : reading (codes "1e999") ≡ None
unfolding reading serde_json_on_literals
too_large_has_no_reading = refl

pub compact : text_of (object (member (codes "a") (array (item (truth false) (item null no_items))) (member (codes "b") (text (34 ∷ 10 ∷ 1 ∷ [])) no_members))) ≡ codes "{\"a\":[false,null],\"b\":\"\\\"\\n\\u0001\"}"
unfolding escape_byte
compact = refl

pub found : member_at (codes "b") (object (member (codes "a") null (member (codes "b") (natural 7) no_members))) ≡ Some (natural 7)
found = refl
