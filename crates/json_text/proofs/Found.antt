-- What serde_json finds in its value is what this crate finds in the value for which that one stands.
use Rattle.std.proofs.Common.{◌≡◌, ◌≤◌, ℕ, zero, suc, List, [], ◌∷◌, length, Option, Some, None, option_map, Ordering, Less, Equal, Greater, refl, sym, ap, ◌∙◌, arith}
use Rattle.std.specs.Prelude.{is_some, max, if◌then◌else◌, option_and_then}
use Rattle.std.specs.Ordering.{nat_cmp, is_eq, match_ordering}
use Rattle.std.specs.Cmp.Lexicographic.{slice_cmp}
use Rattle.std.proofs.lemmas.Map.Text.{is_eq-slice_cmp}
use Rattle.serde_json.specs.Data.{unsigned, negative, float, Data, null, boolean, number, string, array, object, Items, no_items, item, Members, no_members, member, depth, items_depth, members_depth}
use Rattle.serde_json.specs.Find.{get, get_member, get_item, at, as_null, as_bool, as_number, as_str, as_array, as_object, as_u64, as_i64}
use Rattle.serde_json.specs.View.{items_view}
use Rattle.serde_json.specs.Written.{has_float, items_have_float, members_have_float}
use Rattle.serde_json.specs.declared.value.Value.{Value}
use Rattle.json_text.specs.Values as own
use Rattle.json_text.specs.Views.{json_of, items_of, members_of}

pub null_found : (d : Data) → is_some (as_null d) ≡ own.is_null (json_of d)
null_found null = refl
null_found (boolean b) = refl
null_found (number (unsigned n)) = refl
null_found (number (negative z)) = refl
null_found (number (float x)) = refl
null_found (string s) = refl
null_found (array ds) = refl
null_found (object ms) = refl

pub array_found : (d : Data) → is_some (as_array d) ≡ own.is_array (json_of d)
array_found null = refl
array_found (boolean b) = refl
array_found (number (unsigned n)) = refl
array_found (number (negative z)) = refl
array_found (number (float x)) = refl
array_found (string s) = refl
array_found (array ds) = refl
array_found (object ms) = refl

pub object_found : (d : Data) → is_some (as_object d) ≡ own.is_object (json_of d)
object_found null = refl
object_found (boolean b) = refl
object_found (number (unsigned n)) = refl
object_found (number (negative z)) = refl
object_found (number (float x)) = refl
object_found (string s) = refl
object_found (array ds) = refl
object_found (object ms) = refl

pub truth_found : (d : Data) → as_bool d ≡ own.truth_in (json_of d)
truth_found null = refl
truth_found (boolean b) = refl
truth_found (number (unsigned n)) = refl
truth_found (number (negative z)) = refl
truth_found (number (float x)) = refl
truth_found (string s) = refl
truth_found (array ds) = refl
truth_found (object ms) = refl

pub text_found : (d : Data) → as_str d ≡ own.text_in (json_of d)
text_found null = refl
text_found (boolean b) = refl
text_found (number (unsigned n)) = refl
text_found (number (negative z)) = refl
text_found (number (float x)) = refl
text_found (string s) = refl
text_found (array ds) = refl
text_found (object ms) = refl

pub natural_found : (d : Data) → option_and_then as_u64 (as_number d) ≡ own.natural_in (json_of d)
natural_found null = refl
natural_found (boolean b) = refl
natural_found (number (unsigned n)) = refl
natural_found (number (negative z)) = refl
natural_found (number (float x)) = refl
natural_found (string s) = refl
natural_found (array ds) = refl
natural_found (object ms) = refl

pub integer_found : (d : Data) → option_and_then as_i64 (as_number d) ≡ own.integer_in (json_of d)
integer_found null = refl
integer_found (boolean b) = refl
integer_found (number (unsigned n)) = refl
integer_found (number (negative z)) = refl
integer_found (number (float x)) = refl
integer_found (string s) = refl
integer_found (array ds) = refl
integer_found (object ms) = refl

pub count_found : (d : Data) → option_map (λ ds. own.count_of (items_of ds)) (as_array d) ≡ own.count_in (json_of d)
count_found null = refl
count_found (boolean b) = refl
count_found (number (unsigned n)) = refl
count_found (number (negative z)) = refl
count_found (number (float x)) = refl
count_found (string s) = refl
count_found (array ds) = refl
count_found (object ms) = refl

pub count_of_view : (vs : List Value) → own.count_of (items_of (items_view vs)) ≡ length vs
count_of_view [] = refl
count_of_view (v ∷ vs) = ap suc (count_of_view vs)

found_in : (n : ℕ) (ds : Items) → option_map json_of (get_item n ds) ≡ own.item_of n (items_of ds)
found_in n no_items = refl
found_in zero (item d ds) = refl
found_in (suc n) (item d ds) = found_in n ds

-- the item at an index
pub item_found : (i : ℕ) (d : Data) → option_map json_of (at i d) ≡ own.item_at i (json_of d)
item_found i null = refl
item_found i (boolean b) = refl
item_found i (number (unsigned n)) = refl
item_found i (number (negative z)) = refl
item_found i (number (float x)) = refl
item_found i (string s) = refl
item_found i (array ds) = found_in i ds
item_found i (object ms) = refl

chosen : (o : Ordering) (r : Option Data) (e : Data) (m : Option own.JsonValue) → option_map json_of r ≡ m
    → option_map json_of (match_ordering o r (Some e) r) ≡ (if is_eq o then Some (json_of e) else m)
chosen Less r e m h = h
chosen Equal r e m h = refl
chosen Greater r e m h = h

found_of : (k : List ℕ) (ms : Members) → option_map json_of (get_member k ms) ≡ own.member_of k (members_of ms)
found_of k no_members = refl
found_of k (member l e ms) =
    chosen (slice_cmp nat_cmp k l) (get_member k ms) e (own.member_of k (members_of ms)) (found_of k ms)
    ∙ ap (λ b. if b then Some (json_of e) else own.member_of k (members_of ms)) (is_eq-slice_cmp k l)

-- the member with a key
pub member_found : (k : List ℕ) (d : Data) → option_map json_of (get k d) ≡ own.member_at k (json_of d)
member_found k null = refl
member_found k (boolean b) = refl
member_found k (number (unsigned n)) = refl
member_found k (number (negative z)) = refl
member_found k (number (float x)) = refl
member_found k (string s) = refl
member_found k (array ds) = refl
member_found k (object ms) = found_of k ms

-- what is found in a value nests no deeper than the value
depth_in : (n : ℕ) (ds : Items) (e : Data) → get_item n ds ≡ Some e → depth e ≤ items_depth ds
depth_in n no_items e h = absurd (cc)
depth_in zero (item d ds) e h = let same : d ≡ e = cc in let deep : depth d ≡ depth e = ap depth same in omega arith
depth_in (suc n) (item d ds) e h = let below : depth e ≤ items_depth ds = depth_in n ds e h in omega arith

depth_chosen : (o : Ordering) (r : Option Data) (d e : Data) (m : ℕ) → (r ≡ Some e → depth e ≤ m) → match_ordering o r (Some d) r ≡ Some e → depth e ≤ max (depth d) m
depth_chosen Less r d e m later h = let below : depth e ≤ m = later h in omega arith
depth_chosen Equal r d e m later h = let same : d ≡ e = cc in let deep : depth d ≡ depth e = ap depth same in omega arith
depth_chosen Greater r d e m later h = let below : depth e ≤ m = later h in omega arith

depth_of : (k : List ℕ) (ms : Members) (e : Data) → get_member k ms ≡ Some e → depth e ≤ members_depth ms
depth_of k no_members e h = absurd (cc)
depth_of k (member l d ms) e h = depth_chosen (slice_cmp nat_cmp k l) (get_member k ms) d e (members_depth ms) (depth_of k ms e) h

pub item_depth : (i : ℕ) (d e : Data) → at i d ≡ Some e → depth e ≤ depth d
item_depth i null e h = absurd (cc)
item_depth i (boolean b) e h = absurd (cc)
item_depth i (number (unsigned n)) e h = absurd (cc)
item_depth i (number (negative z)) e h = absurd (cc)
item_depth i (number (float x)) e h = absurd (cc)
item_depth i (string s) e h = absurd (cc)
item_depth i (array ds) e h = let below : depth e ≤ items_depth ds = depth_in i ds e h in omega arith
item_depth i (object ms) e h = absurd (cc)

pub member_depth : (k : List ℕ) (d e : Data) → get k d ≡ Some e → depth e ≤ depth d
member_depth k null e h = absurd (cc)
member_depth k (boolean b) e h = absurd (cc)
member_depth k (number (unsigned n)) e h = absurd (cc)
member_depth k (number (negative z)) e h = absurd (cc)
member_depth k (number (float x)) e h = absurd (cc)
member_depth k (string s) e h = absurd (cc)
member_depth k (array ds) e h = absurd (cc)
member_depth k (object ms) e h = let below : depth e ≤ members_depth ms = depth_of k ms e h in omega arith

mutual
  pub float_found : (d : Data) → has_float d ≡ own.has_other_number (json_of d)
  float_found null = refl
  float_found (boolean b) = refl
  float_found (number (unsigned n)) = refl
  float_found (number (negative z)) = refl
  float_found (number (float x)) = refl
  float_found (string s) = refl
  float_found (array ds) = float_found_in ds
  float_found (object ms) = float_found_of ms

  float_found_in : (ds : Items) → items_have_float ds ≡ own.items_have_other_number (items_of ds)
  float_found_in no_items = refl
  float_found_in (item d ds) = rw (float_found d, float_found_in ds)

  float_found_of : (ms : Members) → members_have_float ms ≡ own.members_have_other_number (members_of ms)
  float_found_of no_members = refl
  float_found_of (member k d ms) = rw (float_found d, float_found_of ms)

pub some_item : (i : ℕ) (d e : Data) → Some e ≡ at i d → Some (json_of e) ≡ own.item_at i (json_of d)
some_item i d e h = ap (option_map json_of) h ∙ item_found i d

pub no_item : (i : ℕ) (d : Data) → None ≡ at i d → None ≡ own.item_at i (json_of d)
no_item i d h = ap (option_map json_of) h ∙ item_found i d

pub some_member : (k : List ℕ) (d e : Data) → Some e ≡ get k d → Some (json_of e) ≡ own.member_at k (json_of d)
some_member k d e h = ap (option_map json_of) h ∙ member_found k d

pub no_member : (k : List ℕ) (d : Data) → None ≡ get k d → None ≡ own.member_at k (json_of d)
no_member k d h = ap (option_map json_of) h ∙ member_found k d

pub some_count : (d : Data) (vs : List Value) → Some (items_view vs) ≡ as_array d → Some (length vs) ≡ own.count_in (json_of d)
some_count d vs h = ap Some (sym (count_of_view vs)) ∙ ap (option_map (λ ds. own.count_of (items_of ds))) h ∙ count_found d
