-- Calls in order of their turns: what each change of the rows does to them.
use Rattle.std.proofs.Common.{◌≡◌, ℕ, suc, ◌<◌, ◌≤◌, Bool, true, false, nat_le, if◌then◌else◌, List, [], ◌∷◌, ◌++◌, length, map, filter, Option, Some, None, refl, sym, ap, ◌∙◌, arith}
use Rattle.std.specs.Prelude.{option_map}
use Rattle.std.specs.List.{AllByRecursion}
use Rattle.std.specs.declared.cmp.Ordering.{Ordering}
use Rattle.std.specs.Ordering.{is_eq}
use Rattle.std.proofs.lemmas.Bool.{cond_both}
use Rattle.std.proofs.lemmas.Bool.Decides.{nat_tests}
use Rattle.lists_and_limits.specs.Lists.{found}
use Rattle.lists_and_limits.proofs.Each.{each_weaker, each_filter}
use Rattle.call_book.specs.declared.entry.CallEntry.{CallEntry}
use Rattle.call_book.specs.declared.row.Row.{Row}
use Rattle.call_book.specs.Entries.{is_done, first_done}
use Rattle.call_book.specs.Turns.{put_turn, by_turn, entries_of, first_in, done_row, first_row}

abbrev entry_in : Row → CallEntry
entry_in r = r.entry

-- none of them has an earlier turn
abbrev NotBefore : ℕ → List Row → Type 0
NotBefore turn rows = AllByRecursion (λ (r : Row). turn ≤ r.turn) rows

abbrev Rises : List Row → Type 0
Rises [] = Unit {0}
Rises (x ∷ xs) = NotBefore x.turn xs × Rises xs

le_is : (m n : ℕ) → nat_le m n ≡ true → m ≤ n
le_is m n h = grind (arith, nat_tests)

lt_is : (m n : ℕ) → nat_le m n ≡ false → n ≤ m
lt_is m n h = grind (arith, nat_tests)

is_le : (m n : ℕ) → m ≤ n → nat_le m n ≡ true
is_le m n h = grind (arith, nat_tests)

is_gt : (m n : ℕ) → n < m → nat_le m n ≡ false
is_gt m n h = grind (arith, nat_tests)

-- ---- what holds of each row holds of each in their order

module _ (P : Row → Type 0) where
  pub each_put_turn : (r : Row) (xs : List Row) → P r → AllByRecursion P xs → AllByRecursion P (put_turn r xs)
  each_put_turn r [] p h = (p, tt)
  each_put_turn r (x ∷ xs) p h =
      let more = each_put_turn r xs p h.1 in
      cond_both (nat_le r.turn x.turn) _ _ (AllByRecursion P) (λ _. (p, h)) (λ _. (h.0, more))

  pub each_by_turn : (xs : List Row) → AllByRecursion P xs → AllByRecursion P (by_turn xs)
  each_by_turn [] h = tt
  each_by_turn (x ∷ xs) h = each_put_turn x (by_turn xs) h.0 (each_by_turn xs h.1)

le_trans : (a b c : ℕ) → a ≤ b → b ≤ c → a ≤ c
le_trans a b c h k = omega arith

rises_put : (r : Row) (xs : List Row) → Rises xs → Rises (put_turn r xs)
rises_put r [] h = (tt, tt)
rises_put r (x ∷ xs) h = go (nat_le r.turn x.turn) refl (rises_put r xs h.1)
  where
    go : (b : Bool) → nat_le r.turn x.turn ≡ b → Rises (put_turn r xs) → Rises (if b then r ∷ x ∷ xs else x ∷ put_turn r xs)
    go true e ih =
        let le = le_is r.turn x.turn e in
        ((le, each_weaker (λ (y : Row). x.turn ≤ y.turn) (λ (y : Row). r.turn ≤ y.turn) (λ y k. le_trans r.turn x.turn y.turn le k) xs h.0), h)
    go false e ih = (each_put_turn (λ (y : Row). x.turn ≤ y.turn) r xs (lt_is r.turn x.turn e) h.0, ih)

pub rises_by_turn : (xs : List Row) → Rises (by_turn xs)
rises_by_turn [] = tt
rises_by_turn (x ∷ xs) = rises_put x (by_turn xs) (rises_by_turn xs)

-- a row that is not after any stands before all
put_front : (r : Row) (xs : List Row) → NotBefore r.turn xs → put_turn r xs ≡ r ∷ xs
put_front r [] h = refl
put_front r (x ∷ xs) h = rw (is_le r.turn x.turn h.0) refl

-- ---- how many

length-put_turn : (r : Row) (xs : List Row) → length (put_turn r xs) ≡ suc (length xs)
length-put_turn r [] = refl
length-put_turn r (x ∷ xs) =
    let more = length-put_turn r xs in
    cond_both (nat_le r.turn x.turn) _ _ (λ (ys : List Row). length ys ≡ suc (suc (length xs))) (λ _. refl) (λ _. ap suc more)

length-by_turn : (xs : List Row) → length (by_turn xs) ≡ length xs
length-by_turn [] = refl
length-by_turn (x ∷ xs) = length-put_turn x (by_turn xs) ∙ ap suc (length-by_turn xs)

length-entries : (xs : List Row) → length (map entry_in xs) ≡ length xs
length-entries [] = refl
length-entries (x ∷ xs) = ap suc (length-entries xs)

pub length-entries_of : (rows : List Row) → length (entries_of rows) ≡ length rows
length-entries_of rows = length-entries (by_turn rows) ∙ length-by_turn rows

-- ---- rows that go

module _ (test : Row → Bool) where
  filter-put_turn : (r : Row) (xs : List Row) → Rises xs → filter test (put_turn r xs) ≡ (if test r then put_turn r (filter test xs) else filter test xs)
  filter-put_turn r [] h = refl
  filter-put_turn r (x ∷ xs) h = go (nat_le r.turn x.turn) (test r) (test x) refl refl refl (filter-put_turn r xs h.1)
    where
      go : (le a b : Bool) → nat_le r.turn x.turn ≡ le → test r ≡ a → test x ≡ b → filter test (put_turn r xs) ≡ (if test r then put_turn r (filter test xs) else filter test xs) → filter test (if le then r ∷ x ∷ xs else x ∷ put_turn r xs) ≡ (if a then put_turn r (filter test (x ∷ xs)) else filter test (x ∷ xs))
      go true true true e f g ih = rw (f, g, e) refl
      go true true false e f g ih =
          let below = each_filter (λ (y : Row). r.turn ≤ y.turn) test xs (each_weaker (λ (y : Row). x.turn ≤ y.turn) (λ (y : Row). r.turn ≤ y.turn) (λ y k. le_trans r.turn x.turn y.turn (le_is r.turn x.turn e) k) xs h.0) in
          rw (f, g) (sym (put_front r (filter test xs) below))
      go true false b e f g ih = rw f refl
      go false true true e f g ih = rw (g, e, ih, f) refl
      go false true false e f g ih = rw (g, ih, f) refl
      go false false true e f g ih = rw (g, ih, f) refl
      go false false false e f g ih = rw (g, ih, f) refl

  filter-by_turn : (xs : List Row) → filter test (by_turn xs) ≡ by_turn (filter test xs)
  filter-by_turn [] = refl
  filter-by_turn (x ∷ xs) = filter-put_turn x (by_turn xs) (rises_by_turn xs) ∙ go (test x) (filter-by_turn xs)
    where
      go : (b : Bool) → filter test (by_turn xs) ≡ by_turn (filter test xs) → (if b then put_turn x (filter test (by_turn xs)) else filter test (by_turn xs)) ≡ by_turn (if b then x ∷ filter test xs else filter test xs)
      go true ih = rw ih refl
      go false ih = ih

filter-entries : (test : CallEntry → Bool) (xs : List Row) → filter test (map entry_in xs) ≡ map entry_in (filter (λ (r : Row). test r.entry) xs)
filter-entries test [] = refl
filter-entries test (x ∷ xs) = go (test x.entry) (filter-entries test xs)
  where
    go : (b : Bool) → filter test (map entry_in xs) ≡ map entry_in (filter (λ (r : Row). test r.entry) xs) → (if b then x.entry ∷ filter test (map entry_in xs) else filter test (map entry_in xs)) ≡ map entry_in (if b then x ∷ filter (λ (r : Row). test r.entry) xs else filter (λ (r : Row). test r.entry) xs)
    go true ih = rw ih refl
    go false ih = ih

-- the calls that stay are those of the rows that stay
pub filter-entries_of : (test : CallEntry → Bool) (rows : List Row) → filter test (entries_of rows) ≡ entries_of (filter (λ (r : Row). test r.entry) rows)
filter-entries_of test rows = filter-entries test (by_turn rows) ∙ ap (map entry_in) (filter-by_turn (λ (r : Row). test r.entry) rows)

-- ---- a change of each row that keeps its turn

module _ (g : Row → Row) (f : CallEntry → CallEntry) (same : (r : Row) → (g r).turn ≡ r.turn) (is : (r : Row) → (g r).entry ≡ f r.entry) where
  map-put_turn : (r : Row) (xs : List Row) → map g (put_turn r xs) ≡ put_turn (g r) (map g xs)
  map-put_turn r [] = refl
  map-put_turn r (x ∷ xs) =
      let test : nat_le r.turn x.turn ≡ nat_le (g r).turn (g x).turn = ap (λ (n : ℕ). nat_le n x.turn) (sym (same r)) ∙ ap (λ (n : ℕ). nat_le (g r).turn n) (sym (same x)) in
      go (nat_le r.turn x.turn) (map-put_turn r xs) ∙ ap (λ (b : Bool). if b then g r ∷ g x ∷ map g xs else g x ∷ put_turn (g r) (map g xs)) test
    where
      go : (b : Bool) → map g (put_turn r xs) ≡ put_turn (g r) (map g xs) → map g (if b then r ∷ x ∷ xs else x ∷ put_turn r xs) ≡ (if b then g r ∷ g x ∷ map g xs else g x ∷ put_turn (g r) (map g xs))
      go true ih = refl
      go false ih = rw ih refl

  map-by_turn : (xs : List Row) → map g (by_turn xs) ≡ by_turn (map g xs)
  map-by_turn [] = refl
  map-by_turn (x ∷ xs) = map-put_turn x (by_turn xs) ∙ ap (put_turn (g x)) (map-by_turn xs)

  entries-map : (xs : List Row) → map f (map entry_in xs) ≡ map entry_in (map g xs)
  entries-map [] = refl
  entries-map (x ∷ xs) = rw (is x, entries-map xs) refl

  pub entries_of-map : (rows : List Row) → entries_of (map g rows) ≡ map f (entries_of rows)
  entries_of-map rows = sym (entries-map (by_turn rows) ∙ ap (map entry_in) (map-by_turn rows))

-- ---- a row with the last turn

-- the turn of each is before this one
abbrev AreBefore : ℕ → List Row → Type 0
AreBefore turn rows = AllByRecursion (λ (r : Row). r.turn < turn) rows

put-last : (r : Row) (xs : List Row) → AreBefore r.turn xs → put_turn r xs ≡ xs ++ r ∷ []
put-last r [] h = refl
put-last r (x ∷ xs) h = rw (is_gt r.turn x.turn h.0) (ap (λ (ys : List Row). x ∷ ys) (put-last r xs h.1))

put-before_last : (x r : Row) (xs : List Row) → x.turn < r.turn → put_turn x (xs ++ r ∷ []) ≡ put_turn x xs ++ r ∷ []
put-before_last x r [] h = let le : x.turn ≤ r.turn = omega arith in rw (is_le x.turn r.turn le) refl
put-before_last x r (y ∷ ys) h = go (nat_le x.turn y.turn) (put-before_last x r ys h)
  where
    go : (b : Bool) → put_turn x (ys ++ r ∷ []) ≡ put_turn x ys ++ r ∷ [] → (if b then x ∷ y ∷ (ys ++ r ∷ []) else y ∷ put_turn x (ys ++ r ∷ [])) ≡ (if b then x ∷ y ∷ ys else y ∷ put_turn x ys) ++ r ∷ []
    go true ih = refl
    go false ih = rw ih refl

by_turn-last : (a : List Row) (r : Row) (b : List Row) → AreBefore r.turn (a ++ b) → by_turn (a ++ r ∷ b) ≡ by_turn (a ++ b) ++ r ∷ []
by_turn-last [] r b h = put-last r (by_turn b) (each_by_turn (λ (x : Row). x.turn < r.turn) b h)
by_turn-last (x ∷ a) r b h = ap (put_turn x) (by_turn-last a r b h.1) ∙ put-before_last x r (by_turn (a ++ b)) h.0

entries-last : (xs : List Row) (r : Row) → map entry_in (xs ++ r ∷ []) ≡ map entry_in xs ++ r.entry ∷ []
entries-last [] r = refl
entries-last (x ∷ xs) r = ap (λ (ys : List CallEntry). x.entry ∷ ys) (entries-last xs r)

-- wherever it is put among the rows, its call is the last one
pub entries_of-last : (a : List Row) (r : Row) (b : List Row) → AreBefore r.turn (a ++ b) → entries_of (a ++ r ∷ b) ≡ entries_of (a ++ b) ++ r.entry ∷ []
entries_of-last a r b h = ap (map entry_in) (by_turn-last a r b h) ∙ entries-last (by_turn (a ++ b)) r

-- ---- what is found

module _ (at : CallEntry → Ordering) where
  abbrev row : Row → Ordering
  row r = at r.entry

  abbrev NoneAt : List Row → Type 0
  NoneAt rows = AllByRecursion (λ (r : Row). is_eq (at r.entry) ≡ false) rows

  found-put_turn_other : (r : Row) (xs : List Row) → is_eq (at r.entry) ≡ false → found row (put_turn r xs) ≡ found row xs
  found-put_turn_other r [] apart = rw apart refl
  found-put_turn_other r (x ∷ xs) apart =
      let more = found-put_turn_other r xs apart in
      cond_both (nat_le r.turn x.turn) _ _ (λ (ys : List Row). found row ys ≡ found row (x ∷ xs)) (λ _. rw apart refl) (λ _. rw more refl)

  found-put_turn : (r : Row) (xs : List Row) → is_eq (at r.entry) ≡ true → NoneAt xs → found row (put_turn r xs) ≡ Some r
  found-put_turn r [] is none = rw is refl
  found-put_turn r (x ∷ xs) is none =
      let more = found-put_turn r xs is none.1 in
      let first : is_eq (at x.entry) ≡ false = none.0 in
      cond_both (nat_le r.turn x.turn) _ _ (λ (ys : List Row). found row ys ≡ Some r) (λ _. rw is refl) (λ _. rw (first, more) refl)

  -- of rows of which at most one matches
  abbrev AtMostOne : List Row → Type 0
  AtMostOne [] = Unit {0}
  AtMostOne (x ∷ xs) = (is_eq (at x.entry) ≡ true → NoneAt xs) × AtMostOne xs

  found-by_turn : (xs : List Row) → AtMostOne xs → found row (by_turn xs) ≡ found row xs
  found-by_turn [] one = refl
  found-by_turn (x ∷ xs) one = go (is_eq (at x.entry)) refl (found-by_turn xs one.1)
    where
      go : (b : Bool) → is_eq (at x.entry) ≡ b → found row (by_turn xs) ≡ found row xs → found row (by_turn (x ∷ xs)) ≡ found row (x ∷ xs)
      go true e ih = found-put_turn x (by_turn xs) e (each_by_turn (λ (r : Row). is_eq (at r.entry) ≡ false) xs (one.0 e)) ∙ rw e refl
      go false e ih = found-put_turn_other x (by_turn xs) e ∙ ih ∙ rw e refl

  found-entries : (xs : List Row) → found at (map entry_in xs) ≡ option_map entry_in (found row xs)
  found-entries [] = refl
  found-entries (x ∷ xs) = go (is_eq (at x.entry)) (found-entries xs)
    where
      go : (b : Bool) → found at (map entry_in xs) ≡ option_map entry_in (found row xs) → (if b then Some x.entry else found at (map entry_in xs)) ≡ option_map entry_in (if b then Some x else found row xs)
      go true ih = refl
      go false ih = ih

  pub found-entries_of : (rows : List Row) → AtMostOne rows → found at (entries_of rows) ≡ option_map entry_in (found row rows)
  found-entries_of rows one = found-entries (by_turn rows) ∙ ap (option_map entry_in) (found-by_turn rows one)

-- ---- the first one that is done

-- the first row of a list whose call is done
abbrev first_in_order : List Row → Option Row
first_in_order [] = None
first_in_order (x ∷ xs) = if is_done x.entry.stage then Some x else first_in_order xs

none_before : (turn : ℕ) (xs : List Row) (r : Row) → NotBefore turn xs → first_in_order xs ≡ Some r → turn ≤ r.turn
none_before turn [] r h is = absurd (cc)
none_before turn (x ∷ xs) r h is = go (is_done x.entry.stage) is (none_before turn xs r h.1)
  where
    go : (b : Bool) → (if b then Some x else first_in_order xs) ≡ Some r → (first_in_order xs ≡ Some r → turn ≤ r.turn) → turn ≤ r.turn
    go true is ih = let same : x ≡ r = cc in let t : x.turn ≡ r.turn = ap (λ (z : Row). z.turn) same in let le = h.0 in omega arith
    go false is ih = ih is

first_front : (r : Row) (xs : List Row) → NotBefore r.turn xs → first_in (Some r) (first_in_order xs) ≡ Some r
first_front r xs h = go (first_in_order xs) refl
  where
    go : (o : Option Row) → first_in_order xs ≡ o → first_in (Some r) o ≡ Some r
    go None is = refl
    go (Some x) is = rw (is_le r.turn x.turn (none_before r.turn xs x h is)) refl

first_later : (x r : Row) → nat_le r.turn x.turn ≡ false → first_in (Some r) (Some x) ≡ Some x
first_later x r h = rw h refl

first-put_turn : (r : Row) (xs : List Row) → Rises xs → first_in_order (put_turn r xs) ≡ first_in (done_row r) (first_in_order xs)
first-put_turn r [] h = go (is_done r.entry.stage)
  where
    go : (b : Bool) → (if b then Some r else None) ≡ first_in (if b then Some r else None) None
    go true = refl
    go false = refl
first-put_turn r (x ∷ xs) h = go (nat_le r.turn x.turn) (is_done r.entry.stage) (is_done x.entry.stage) refl refl refl (first-put_turn r xs h.1)
  where
    go : (le a b : Bool) → nat_le r.turn x.turn ≡ le → is_done r.entry.stage ≡ a → is_done x.entry.stage ≡ b → first_in_order (put_turn r xs) ≡ first_in (done_row r) (first_in_order xs) → first_in_order (if le then r ∷ x ∷ xs else x ∷ put_turn r xs) ≡ first_in (if a then Some r else None) (if b then Some x else first_in_order xs)
    go true true b e f g ih =
        let le = le_is r.turn x.turn e in
        let below : NotBefore r.turn (x ∷ xs) = (le, each_weaker (λ (y : Row). x.turn ≤ y.turn) (λ (y : Row). r.turn ≤ y.turn) (λ y k. le_trans r.turn x.turn y.turn le k) xs h.0) in
        rw f (sym (rw g at (first_front r (x ∷ xs) below)))
    go true false b e f g ih = rw (f, g) refl
    go false true true e f g ih = rw g (sym (first_later x r e))
    go false true false e f g ih = rw (g, ih, f) refl
    go false false true e f g ih = rw g refl
    go false false false e f g ih = rw (g, ih, f) refl

first-by_turn : (xs : List Row) → first_in_order (by_turn xs) ≡ first_row xs
first-by_turn [] = refl
first-by_turn (x ∷ xs) = first-put_turn x (by_turn xs) (rises_by_turn xs) ∙ ap (first_in (done_row x)) (first-by_turn xs)

first-entries : (xs : List Row) → first_done (map entry_in xs) ≡ option_map entry_in (first_in_order xs)
first-entries [] = refl
first-entries (x ∷ xs) = go (is_done x.entry.stage) (first-entries xs)
  where
    go : (b : Bool) → first_done (map entry_in xs) ≡ option_map entry_in (first_in_order xs) → (if b then Some x.entry else first_done (map entry_in xs)) ≡ option_map entry_in (if b then Some x else first_in_order xs)
    go true ih = refl
    go false ih = ih

pub first-entries_of : (rows : List Row) → first_done (entries_of rows) ≡ option_map entry_in (first_row rows)
first-entries_of rows = first-entries (by_turn rows) ∙ ap (option_map entry_in) (first-by_turn rows)
