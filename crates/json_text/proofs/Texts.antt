-- The text that serde_json writes is the text of the value for which its value stands.
use Rattle.std.proofs.Common.{◌≡◌, ℕ, List, [], ◌∷◌, ◌++◌, true, false, refl, ap, append_assoc}
use Rattle.json.specs.Print.{quoted}
use Rattle.serde_json.specs.Data.{unsigned, negative, float, Data, null, boolean, number, string, array, object, Items, no_items, item, Members, no_members, member}
use Rattle.serde_json.specs.Written.{compact_text, items_text, members_text}
use Rattle.json_text.specs.Texts.{text_of, item_texts, member_texts, after_commas, between_commas}
use Rattle.json_text.specs.Views.{json_of, items_of, members_of}

keyed : (q t a e : List ℕ) → q ++ 58 ∷ (t ++ (a ++ e)) ≡ ((q ++ 58 ∷ t) ++ a) ++ e
keyed q t a e = simp append_assoc

mutual
  pub text_written : (d : Data) → compact_text d ≡ text_of (json_of d)
  text_written null = refl
  text_written (boolean true) = refl
  text_written (boolean false) = refl
  text_written (number (unsigned n)) = refl
  text_written (number (negative z)) = refl
  text_written (number (float x)) = refl
  text_written (string s) = refl
  text_written (array ds) = ap (λ t. 91 ∷ t) (items_first ds)
  text_written (object ms) = ap (λ t. 123 ∷ t) (members_first ms)

  items_first : (ds : Items) → items_text false ds ≡ between_commas (item_texts (items_of ds)) ++ 93 ∷ []
  items_first no_items = refl
  items_first (item d ds) = rw (text_written d, items_more ds) (simp append_assoc)

  items_more : (ds : Items) → items_text true ds ≡ after_commas (item_texts (items_of ds)) ++ 93 ∷ []
  items_more no_items = refl
  items_more (item d ds) = rw (text_written d, items_more ds) (simp append_assoc)

  members_first : (ms : Members) → members_text false ms ≡ between_commas (member_texts (members_of ms)) ++ 125 ∷ []
  members_first no_members = refl
  members_first (member k d ms) =
      rw (text_written d, members_more ms) (keyed (quoted k) (text_of (json_of d)) (after_commas (member_texts (members_of ms))) (125 ∷ []))

  members_more : (ms : Members) → members_text true ms ≡ after_commas (member_texts (members_of ms)) ++ 125 ∷ []
  members_more no_members = refl
  members_more (member k d ms) =
      rw (text_written d, members_more ms) (ap (λ t. 44 ∷ t) (keyed (quoted k) (text_of (json_of d)) (after_commas (member_texts (members_of ms))) (125 ∷ [])))
