-- Lanes and calls that compare as equal are the same.
use Rattle.std.proofs.Common.{◌≡◌, ℕ, Bool, true, false, ◌&&◌, ◌==◌, List, [], ◌∷◌, arith, refl, sym, ap, subst, ◌∙◌}
use Rattle.std.specs.Prelude.{bytes_eq}
use Rattle.std.specs.declared.cmp.Ordering.{Ordering}
use Rattle.std.specs.declared.cmp.Ordering.TheVariants.{Less, Equal, Greater}
use Rattle.std.specs.Ordering.{nat_cmp, is_eq, ordering_then}
use Rattle.std.specs.Cmp.Lexicographic.{slice_cmp}
use Rattle.std.proofs.lemmas.Bool.Decides.{nat_tests}
use Rattle.std.proofs.lemmas.Cmp.{tied_itself}
use Rattle.std.proofs.lemmas.Map.Text.{is_eq-slice_cmp}
use Rattle.actor_names.specs.declared.member.Member.{Member}
use Rattle.lists_and_limits.proofs.Maps.{eq-is}
use Rattle.call_book.specs.declared.lane.LaneName.{LaneName}
use Rattle.call_book.specs.declared.entry.CallEntry.{CallEntry}
use Rattle.call_book.specs.Lanes.{lane_of, lane_cmp}
use Rattle.call_book.specs.Entries.{is_at}
use Rattle.call_book.specs.Histories.{is_call}
use Rattle.call_book.specs.Orders.{names_total}

numbers_same : (x y : ℕ) → nat_cmp x y ≡ Equal → x ≡ y
numbers_same x y is = grind (arith, nat_tests)

pub is_eq-nat_cmp : (x y : ℕ) → is_eq (nat_cmp x y) ≡ (x == y)
is_eq-nat_cmp x y = grind (arith, nat_tests)

both_equal : (first rest : Ordering) → ordering_then first rest ≡ Equal → (first ≡ Equal) × (rest ≡ Equal)
both_equal Less rest is = absurd (cc)
both_equal Equal rest is = (refl, is)
both_equal Greater rest is = absurd (cc)

pub is_eq-then : (first rest : Ordering) → is_eq (ordering_then first rest) ≡ (is_eq first && is_eq rest)
is_eq-then Less rest = refl
is_eq-then Equal rest = refl
is_eq-then Greater rest = refl

pair_same : (x y : ℕ) (xs ys : List ℕ) → x ≡ y → xs ≡ ys → x ∷ xs ≡ y ∷ ys
pair_same x y xs ys first rest = rw (first, rest) refl

lists_same : (xs ys : List ℕ) → slice_cmp nat_cmp xs ys ≡ Equal → xs ≡ ys
lists_same [] [] is = refl
lists_same [] (y ∷ ys) is = absurd (cc)
lists_same (x ∷ xs) [] is = absurd (cc)
lists_same (x ∷ xs) (y ∷ ys) is =
    let parts = both_equal (nat_cmp x y) (slice_cmp nat_cmp xs ys) is in
    pair_same x y xs ys (numbers_same x y parts.0) (lists_same xs ys parts.1)

abbrev name_of : List ℕ → List ℕ → ℕ → LaneName
name_of space node part = record { space = space; node = node; part = part }

fields_same : (a b : LaneName) → a.space ≡ b.space → a.node ≡ b.node → a.part ≡ b.part → a ≡ b
fields_same a b space node part = ap (λ (s : List ℕ). name_of s a.node a.part) space ∙ ap (λ (n : List ℕ). name_of b.space n a.part) node ∙ ap (λ (p : ℕ). name_of b.space b.node p) part

-- lanes that compare as equal have one name
pub same_name : (a b : LaneName) → is_eq (lane_cmp a b) ≡ true → a ≡ b
same_name a b is =
    let first = both_equal (slice_cmp nat_cmp a.space b.space) (ordering_then (slice_cmp nat_cmp a.node b.node) (nat_cmp a.part b.part)) (eq-is (lane_cmp a b) is) in
    let rest = both_equal (slice_cmp nat_cmp a.node b.node) (nat_cmp a.part b.part) first.1 in
    fields_same a b (lists_same a.space b.space first.0) (lists_same a.node b.node rest.0) (numbers_same a.part b.part rest.1)

pub itself : (name : LaneName) → is_eq (lane_cmp name name) ≡ true
itself name = ap is_eq (tied_itself names_total name)

-- the other way round
pub tie_back : (a b : LaneName) → is_eq (lane_cmp a b) ≡ is_eq (lane_cmp b a)
tie_back a b = go (is_eq (lane_cmp a b)) (is_eq (lane_cmp b a)) refl refl
  where
    go : (s t : Bool) → is_eq (lane_cmp a b) ≡ s → is_eq (lane_cmp b a) ≡ t → s ≡ t
    go true true e f = refl
    go true false e f = absurd (let k : is_eq (lane_cmp b a) ≡ true = subst (λ (z : LaneName). is_eq (lane_cmp b z) ≡ true) (sym (same_name a b e)) (itself b) in cc)
    go false true e f = absurd (let k : is_eq (lane_cmp a b) ≡ true = subst (λ (z : LaneName). is_eq (lane_cmp a z) ≡ true) (sym (same_name b a f)) (itself a) in cc)
    go false false e f = refl

pub number_back : (x y : ℕ) → (x == y) ≡ (y == x)
number_back x y = grind (arith, nat_tests)

-- a call that is found under a lane and a number is of that lane and has that number
pub at_call-is : (name : LaneName) (number : ℕ) (e : CallEntry) → is_at name number e ≡ true → (e.lane ≡ name) × (e.number ≡ number)
at_call-is name number e is =
    let parts = both_equal (lane_cmp e.lane name) (nat_cmp e.number number) (eq-is (ordering_then (lane_cmp e.lane name) (nat_cmp e.number number)) is) in
    (same_name e.lane name (ap is_eq parts.0), numbers_same e.number number parts.1)

-- ---- whether two calls are the same, by lane, number and boot

all_five : (s m b p n : Bool) → (((s && (m && b)) && p) && n) ≡ (((s && (m && p)) && n) && b)
all_five false m b p n = refl
all_five true false b p n = refl
all_five true true true true true = refl
all_five true true true true false = refl
all_five true true true false n = refl
all_five true true false true true = refl
all_five true true false true false = refl
all_five true true false false n = refl

pub is_call-tie : (origin : Member) (part number : ℕ) (other : Member) (its_part its_number : ℕ) → is_call origin part number other its_part its_number ≡ ((is_eq (lane_cmp (lane_of other its_part) (lane_of origin part)) && (its_number == number)) && (other.boot == origin.boot))
is_call-tie origin part number other its_part its_number =
    rw (
      is_eq-then (slice_cmp nat_cmp other.space origin.space) (ordering_then (slice_cmp nat_cmp other.node origin.node) (nat_cmp its_part part)),
      is_eq-then (slice_cmp nat_cmp other.node origin.node) (nat_cmp its_part part),
      is_eq-slice_cmp other.space origin.space,
      is_eq-slice_cmp other.node origin.node,
      is_eq-nat_cmp its_part part,
    ) (all_five (bytes_eq other.space origin.space) (bytes_eq other.node origin.node) (other.boot == origin.boot) (its_part == part) (its_number == number))

both_true : (a b : Bool) → (a && b) ≡ true → (a ≡ true) × (b ≡ true)
both_true true true h = (refl, refl)
both_true true false h = absurd (cc)
both_true false b h = absurd (cc)

number_of : (x y : ℕ) → (x == y) ≡ true → x ≡ y
number_of x y h = grind (arith, nat_tests)

-- the same call has one lane, one number and one boot
pub is_call-same : (origin : Member) (part number : ℕ) (other : Member) (its_part its_number : ℕ) → is_call origin part number other its_part its_number ≡ true → (lane_of other its_part ≡ lane_of origin part) × (its_number ≡ number) × (other.boot ≡ origin.boot)
is_call-same origin part number other its_part its_number h =
    let name : LaneName = lane_of origin part in
    let its : LaneName = lane_of other its_part in
    let all = both_true (is_eq (lane_cmp its name) && (its_number == number)) (other.boot == origin.boot) (sym (is_call-tie origin part number other its_part its_number) ∙ h) in
    let place = both_true (is_eq (lane_cmp its name)) (its_number == number) all.0 in
    (same_name its name place.0, number_of its_number number place.1, number_of other.boot origin.boot all.1)
