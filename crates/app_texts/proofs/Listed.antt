-- The items of an array, read one after the other.
use Rattle.std.proofs.Common.{◌≡◌, ◌∙◌, ◌+◌, add-one, refl, ap, sym, subst, ℕ, zero, suc, List, [], ◌∷◌, ◌++◌, append_assoc, Option, Some, None, Result, Ok, Err}
use Rattle.std.proofs.lemmas.List.{append-nil}
use Rattle.schedule_text.specs.Reading.{◌>>=◌}
use Rattle.json_text.specs.Values.{JsonValue, null, truth, natural, negative, other_number, text, array, object, Items, no_items, item, item_of, item_at, count_of, count_in}
use Rattle.app_texts.specs.declared.config_key.ConfigKey.{ConfigKey}
use Rattle.app_texts.specs.declared.config_error.KeyFault.{KeyFault}
use Rattle.app_texts.specs.declared.config_error.KeyFault.TheVariants.{Form, Memory}
use Rattle.app_texts.specs.Answers.{Fails}
use Rattle.app_texts.specs.Groups.{each_reading, list_reading}

abbrev pub items_in : JsonValue → Items
items_in (array vs) = vs
items_in _ = no_items

-- what is left behind the first n items
abbrev pub items_from : ℕ → Items → Items
items_from zero vs = vs
items_from (suc n) no_items = no_items
items_from (suc n) (item v vs) = items_from n vs

-- a reading behind what was read before
abbrev pub prepended : {A : Type 0} → List A → Result (List A) ConfigKey → Result (List A) ConfigKey
prepended xs (Ok ys) = Ok (xs ++ ys)
prepended xs (Err key) = Err key

-- what is read of the items from i on, behind what was read before
abbrev pub read_from : {A : Type 0} → (JsonValue → Result A ConfigKey) → List A → ℕ → JsonValue → Result (List A) ConfigKey
read_from read xs i v = prepended xs (each_reading read (items_from i (items_in v)))

from_item : (n : ℕ) (vs : Items) (w : JsonValue) → item_of n vs ≡ Some w → items_from n vs ≡ item w (items_from (suc n) vs)
from_item zero no_items w e = cc
from_item (suc n) no_items w e = cc
from_item zero (item v vs) w e = cc
from_item (suc n) (item v vs) w e = from_item n vs w e

from_none : (n : ℕ) (vs : Items) → item_of n vs ≡ None → items_from n vs ≡ no_items
from_none zero no_items e = refl
from_none (suc n) no_items e = refl
from_none zero (item v vs) e = cc
from_none (suc n) (item v vs) e = from_none n vs e

from_end : (vs : Items) → items_from (count_of vs) vs ≡ no_items
from_end no_items = refl
from_end (item v vs) = from_end vs

joined : {A : Type 0} (x : A) (xs : List A) (r : Result (List A) ConfigKey) → prepended xs (r >>= λ ys. Ok (x ∷ ys)) ≡ prepended (xs ++ x ∷ []) r
joined x xs (Ok ys) = ap (λ zs. Ok zs) (sym (append_assoc xs (x ∷ []) ys))
joined x xs (Err key) = refl

one_more : {A : Type 0} (read : JsonValue → Result A ConfigKey) (xs : List A) (x : A) (w : JsonValue) (vs : Items) → read w ≡ Ok x → prepended xs (each_reading read (item w vs)) ≡ prepended (xs ++ x ∷ []) (each_reading read vs)
one_more read xs x w vs e = rw e (joined x xs (each_reading read vs))

one_wrong : {A : Type 0} (read : JsonValue → Result A ConfigKey) (xs : List A) (key : ConfigKey) (w : JsonValue) (vs : Items) → read w ≡ Err key → prepended xs (each_reading read (item w vs)) ≡ Err key
one_wrong read xs key w vs e = rw e refl

same_again : {A : Type 0} (r : Result (List A) ConfigKey) → prepended [] r ≡ r
same_again (Ok xs) = refl
same_again (Err key) = refl

pub starts : {A : Type 0} (key : ConfigKey) (read : JsonValue → Result A ConfigKey) (v : JsonValue) (n : ℕ) → count_in v ≡ Some n → read_from read [] 0 v ≡ list_reading key read v
starts key read (array vs) n e = same_again (each_reading read vs)
starts key read v n e = cc

pub goes_on : {A : Type 0} (read : JsonValue → Result A ConfigKey) (v w : JsonValue) (i : ℕ) (xs : List A) (x : A) → item_at i v ≡ Some w → read w ≡ Ok x → read_from read xs i v ≡ read_from read (xs ++ x ∷ []) (i + 1) v
goes_on read (array vs) w i xs x e f = rw (add-one, from_item i vs w e) (one_more read xs x w (items_from (suc i) vs) f)
goes_on read v w i xs x e f = cc

pub stops : {A : Type 0} (read : JsonValue → Result A ConfigKey) (v w : JsonValue) (i : ℕ) (xs : List A) (key : ConfigKey) → item_at i v ≡ Some w → read w ≡ Err key → read_from read xs i v ≡ Err key
stops read (array vs) w i xs key e f = rw (from_item i vs w e) (one_wrong read xs key w (items_from (suc i) vs) f)
stops read v w i xs key e f = cc

none_left : {A : Type 0} (read : JsonValue → Result A ConfigKey) (xs : List A) (vs : Items) → vs ≡ no_items → prepended xs (each_reading read vs) ≡ Ok xs
none_left read xs vs e = rw e (ap (λ zs. Ok zs) (append-nil xs))

from_no_items : (n : ℕ) → items_from n no_items ≡ no_items
from_no_items zero = refl
from_no_items (suc n) = refl

pub ends_early : {A : Type 0} (read : JsonValue → Result A ConfigKey) (v : JsonValue) (i : ℕ) (xs : List A) → item_at i v ≡ None → read_from read xs i v ≡ Ok xs
ends_early read (array vs) i xs e = none_left read xs (items_from i vs) (from_none i vs e)
ends_early read v i xs e = none_left read xs (items_from i no_items) (from_no_items i)

pub ends : {A : Type 0} (read : JsonValue → Result A ConfigKey) (v : JsonValue) (n : ℕ) (xs : List A) → count_in v ≡ Some n → read_from read xs n v ≡ Ok xs
ends read (array vs) n xs e = let same : count_of vs ≡ n = cc in subst (λ (m : ℕ). read_from read xs m (array vs) ≡ Ok xs) same (none_left read xs (items_from (count_of vs) vs) (from_end vs))
ends read v n xs e = cc

-- a fault of an item is the fault of the whole
pub fails_on : {A : Type 0} (read : JsonValue → Result A ConfigKey) (v w : JsonValue) (i : ℕ) (xs : List A) (whole : Result (List A) ConfigKey) (fault : KeyFault) → read_from read xs i v ≡ whole → item_at i v ≡ Some w → Fails (read w) fault → Fails whole fault
fails_on read v w i xs whole Memory e there fails = tt
fails_on read v w i xs whole (Form key) e there fails = sym e ∙ stops read v w i xs key there fails
