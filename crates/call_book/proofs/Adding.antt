-- A call that is added to the rows, and the room for it.
use Rattle.std.proofs.Common.{◌≡◌, ℕ, suc, ◌+◌, ◌<◌, ◌≤◌, Bool, true, false, not, ◌==◌, nat_lt, if◌then◌else◌, List, [], ◌∷◌, ◌++◌, length, Option, Some, None, refl, sym, ap, subst, ◌∙◌, arith}
use Rattle.std.specs.Prelude.{option_map}
use Rattle.std.specs.Ordering.{nat_cmp}
use Rattle.std.proofs.lemmas.Bool.Decides.{nat_tests}
use Rattle.lists_and_limits.specs.Lists.{count_at, without_all, with_put}
use Rattle.lists_and_limits.proofs.Each.{each_filter, each_put, each_weaker}
use Rattle.lists_and_limits.proofs.Orders.{ascends_filter}
use Rattle.lists_and_limits.proofs.Maps.{put-new, length_filter}
use Rattle.call_book.specs.declared.lane.LaneName.{LaneName}
use Rattle.call_book.specs.declared.entry.CallStage.{CallStage}
use Rattle.call_book.specs.declared.entry.CallEntry.{CallEntry}
use Rattle.call_book.specs.declared.row.Row.{Row}
use Rattle.call_book.specs.declared.standing.Room.{Room}
use Rattle.call_book.specs.declared.standing.Room.TheVariants as rooms
use Rattle.call_book.specs.Lanes.{lane_cmp}
use Rattle.call_book.specs.Entries.{is_done, at_call, is_at, is_in, entry_at, new_entry, without_call, without_lane, first_done, at_stage, with_stage}
use Rattle.call_book.specs.Book.{most_calls}
use Rattle.call_book.specs.Turns.{place, place_cmp, row_cmp, in_lane, entries_of, first_row, row_at, at_row, rows_without, rows_with_stage, base_rows, cleared, AreEarlier, room_by, room_of, base_of, added}
use Rattle.call_book.specs.Orders.{places_total}
use Rattle.call_book.proofs.Ties.{itself, is_eq-then, is_eq-nat_cmp}
use Rattle.call_book.proofs.Finds.{filter-none}
use Rattle.call_book.proofs.Sorted.{length-entries_of, filter-entries_of, first-entries_of, found-entries_of, entries_of-map, entries_of-last}
use Rattle.call_book.proofs.Placed.{AreInOrder, is_once, length-without_all, without_all-none, each_map, moved}

-- the call of a lane and a number is that of its row
pub entry_at-entries_of : (name : LaneName) (number : ℕ) (rows : List Row) → AreInOrder rows → entry_at name number (entries_of rows) ≡ option_map (λ (r : Row). r.entry) (row_at name number rows)
entry_at-entries_of name number rows a = found-entries_of (at_call name number) rows (is_once name number rows a)

none_is : (o : Option Row) → option_map (λ (r : Row). r.entry) o ≡ None → o ≡ None
none_is None h = refl
none_is (Some r) h = absurd (cc)

pub row_at-none : (name : LaneName) (number : ℕ) (rows : List Row) → AreInOrder rows → entry_at name number (entries_of rows) ≡ None → row_at name number rows ≡ None
row_at-none name number rows a h = none_is (row_at name number rows) (sym (entry_at-entries_of name number rows a) ∙ h)

-- ---- the room

-- fewer rows than the limit leave room
pub room-free : (rows : List Row) → length rows < 4096 → room_of (entries_of rows) ≡ rooms.Free
room-free rows h =
    let test : nat_lt (length (entries_of rows)) most_calls ≡ true = rw (length-entries_of rows) (grind (arith, nat_tests)) in
    rw test refl

-- or else the first row whose call is done makes it
pub room-first : (rows : List Row) → 4096 ≤ length rows → room_of (entries_of rows) ≡ room_by (option_map (λ (r : Row). r.entry) (first_row rows))
room-first rows h =
    let test : nat_lt (length (entries_of rows)) most_calls ≡ false = rw (length-entries_of rows) (grind (arith, nat_tests)) in
    rw test (ap room_by (first-entries_of rows))

pub entries_of-base : (bare : Bool) (name : LaneName) (rows : List Row) → entries_of (base_rows bare name rows) ≡ base_of bare name (entries_of rows)
entries_of-base true name rows = sym (filter-entries_of (λ (e : CallEntry). not (is_in name e)) rows)
entries_of-base false name rows = refl

-- a lane that has calls leaves room when they go
pub room-lane : (name : LaneName) (rows : List Row) → length rows ≤ 4096 → 0 < count_at (in_lane name) rows → room_of (without_lane name (entries_of rows)) ≡ rooms.Free
room-lane name rows limit some =
    let count = length-without_all (in_lane name) rows in
    let fewer : length (without_all (in_lane name) rows) < 4096 = omega arith in
    ap room_of (filter-entries_of (λ (e : CallEntry). not (is_in name e)) rows) ∙ room-free (without_all (in_lane name) rows) fewer

-- one that has none leaves the calls as they are
pub base-none : (name : LaneName) (rows : List Row) → count_at (in_lane name) rows ≡ 0 → without_lane name (entries_of rows) ≡ entries_of rows
base-none name rows none = filter-entries_of (λ (e : CallEntry). not (is_in name e)) rows ∙ ap entries_of (without_all-none (in_lane name) rows none)

-- ---- fewer after the first that is done went

at_itself : (e : CallEntry) → is_at e.lane e.number e ≡ true
at_itself e =
    let same : (e.number == e.number) ≡ true = grind (arith, nat_tests) in
    is_eq-then (lane_cmp e.lane e.lane) (nat_cmp e.number e.number) ∙ rw (itself e.lane, is_eq-nat_cmp e.number e.number, same) refl

fewer_done : (e : CallEntry) (xs : List CallEntry) → first_done xs ≡ Some e → length (without_call e.lane e.number xs) < length xs
fewer_done e [] h = absurd (cc)
fewer_done e (x ∷ xs) h = go (is_done x.stage) h (fewer_done e xs)
  where
    go : (b : Bool) → (if b then Some x else first_done xs) ≡ Some e → (first_done xs ≡ Some e → length (without_call e.lane e.number xs) < length xs) → length (without_call e.lane e.number (x ∷ xs)) < suc (length xs)
    go true k ih =
        let same : x ≡ e = cc in
        let gone : is_at e.lane e.number x ≡ true = subst (λ (z : CallEntry). is_at e.lane e.number z ≡ true) (sym same) (at_itself e) in
        let less = length_filter (λ (y : CallEntry). not (is_at e.lane e.number y)) xs in
        rw gone (omega arith)
    go false k ih = step (is_at e.lane e.number x) (ih k)
      where
        step : (b : Bool) → length (without_call e.lane e.number xs) < length xs → length (if not b then x ∷ without_call e.lane e.number xs else without_call e.lane e.number xs) < suc (length xs)
        step true less = omega arith
        step false less = omega arith

-- the entry that makes room
room_is : (entries : List CallEntry) (lane : LaneName) (number : ℕ) → rooms.Dropping lane number ≡ room_of entries → (e : CallEntry) × (first_done entries ≡ Some e) × (e.lane ≡ lane) × (e.number ≡ number)
room_is entries lane number h = go (nat_lt (length entries) most_calls) (first_done entries) refl h
  where
    go : (b : Bool) (o : Option CallEntry) → first_done entries ≡ o → rooms.Dropping lane number ≡ (if b then rooms.Free else room_by o) → (e : CallEntry) × (first_done entries ≡ Some e) × (e.lane ≡ lane) × (e.number ≡ number)
    go true o is k = absurd (cc)
    go false None is k = absurd (cc)
    go false (Some e) is k = (e, is, cc, cc)

free_is : (entries : List CallEntry) → rooms.Free ≡ room_of entries → length entries < 4096
free_is entries h = go (nat_lt (length entries) most_calls) (first_done entries) refl h
  where
    go : (b : Bool) (o : Option CallEntry) → nat_lt (length entries) most_calls ≡ b → rooms.Free ≡ (if b then rooms.Free else room_by o) → length entries < 4096
    go true o is k = grind (arith, nat_tests)
    go false None is k = absurd (cc)
    go false (Some e) is k = absurd (cc)

-- after room was made there are fewer than the limit
pub cleared_room : (room : Room) (rows : List Row) → length rows ≤ 4096 → room ≡ room_of (entries_of rows) → (room ≡ rooms.Full → ⊥) → length (cleared room rows) < 4096
cleared_room rooms.Full rows limit h full = absurd (full refl)
cleared_room rooms.Free rows limit h full = let less = free_is (entries_of rows) h in let count = length-entries_of rows in omega arith
cleared_room (rooms.Dropping lane number) rows limit h full =
    let e = room_is (entries_of rows) lane number h in
    let less : length (without_call lane number (entries_of rows)) < length (entries_of rows) = subst (λ (z : LaneName). length (without_call z number (entries_of rows)) < length (entries_of rows)) e.2 (subst (λ (k : ℕ). length (without_call e.0.lane k (entries_of rows)) < length (entries_of rows)) e.3 (fewer_done e.0 (entries_of rows) e.1)) in
    let count = length-entries_of rows in
    let same : length (without_call lane number (entries_of rows)) ≡ length (rows_without (is_at lane number) rows) = ap length (filter-entries_of (λ (x : CallEntry). not (is_at lane number x)) rows) ∙ length-entries_of (rows_without (is_at lane number) rows) in
    omega arith

pub cleared_none : (room : Room) (name : LaneName) (number : ℕ) (rows : List Row) → row_at name number rows ≡ None → row_at name number (cleared room rows) ≡ None
cleared_none rooms.Full name number rows h = h
cleared_none rooms.Free name number rows h = h
cleared_none (rooms.Dropping lane its) name number rows h = filter-none (at_row name number) (λ (r : Row). not (is_at lane its r.entry)) rows h

pub earlier_base : (bare : Bool) (name : LaneName) (turn : ℕ) (rows : List Row) → AreEarlier turn rows → AreEarlier turn (base_rows bare name rows)
earlier_base true name turn rows h = each_filter (λ (r : Row). r.turn < turn) (λ (r : Row). not (is_in name r.entry)) rows h
earlier_base false name turn rows h = h

pub earlier_cleared : (room : Room) (turn : ℕ) (rows : List Row) → AreEarlier turn rows → AreEarlier turn (cleared room rows)
earlier_cleared rooms.Full turn rows h = h
earlier_cleared rooms.Free turn rows h = h
earlier_cleared (rooms.Dropping lane number) turn rows h = each_filter (λ (r : Row). r.turn < turn) (λ (r : Row). not (is_at lane number r.entry)) rows h

pub length_base : (bare : Bool) (name : LaneName) (rows : List Row) → length (base_rows bare name rows) ≤ length rows
length_base true name rows = length_filter (λ (r : Row). not (is_in name r.entry)) rows
length_base false name rows = omega arith

-- ---- the call that is added is the last one

pub entries_of-put : (r : Row) (rows : List Row) → row_at r.entry.lane r.entry.number rows ≡ None → AreEarlier r.turn rows → entries_of (with_put row_cmp r rows) ≡ entries_of rows ++ r.entry ∷ []
entries_of-put r rows none earlier =
    let s = put-new place place_cmp places_total r rows none in
    let before = subst (λ (xs : List Row). AreEarlier r.turn xs) s.2 earlier in
    ap entries_of s.3 ∙ (entries_of-last s.0 r s.1 before ∙ ap (λ (xs : List Row). entries_of xs ++ r.entry ∷ []) (sym s.2))

pub entries_of-added : (room : Room) (r : Row) (rows : List Row) (old : List CallEntry) → (room ≡ rooms.Full → ⊥) → row_at r.entry.lane r.entry.number rows ≡ None → AreEarlier r.turn rows → r.entry ≡ new_entry r.entry.lane r.entry.number → entries_of (with_put row_cmp r (cleared room rows)) ≡ added room r.entry.lane r.entry.number (entries_of rows) old
entries_of-added rooms.Full r rows old full none earlier new = absurd (full refl)
entries_of-added rooms.Free r rows old full none earlier new = entries_of-put r rows none earlier ∙ ap (λ (e : CallEntry). entries_of rows ++ e ∷ []) new
entries_of-added (rooms.Dropping lane number) r rows old full none earlier new =
    entries_of-put r (rows_without (is_at lane number) rows) (cleared_none (rooms.Dropping lane number) r.entry.lane r.entry.number rows none) (earlier_cleared (rooms.Dropping lane number) r.turn rows earlier)
    ∙ ap (λ (es : List CallEntry). es ++ r.entry ∷ []) (sym (filter-entries_of (λ (e : CallEntry). not (is_at lane number e)) rows))
    ∙ ap (λ (e : CallEntry). without_call lane number (entries_of rows) ++ e ∷ []) new

-- ---- all of an addition

abbrev pub new_row : LaneName → ℕ → ℕ → Row
new_row name number turn = record { entry = new_entry name number; turn = turn }

ascends_base : (bare : Bool) (name : LaneName) (rows : List Row) → AreInOrder rows → AreInOrder (base_rows bare name rows)
ascends_base true name rows a = ascends_filter place place_cmp (λ (r : Row). not (is_in name r.entry)) rows a
ascends_base false name rows a = a

module _ (bare : Bool) (room : Room) (name : LaneName) (number : ℕ) (rows : List Row) where
  abbrev left : List Row
  left = cleared room (base_rows bare name rows)

  module _ (a : AreInOrder rows) (none : entry_at name number (base_of bare name (entries_of rows)) ≡ None) where
    base_none : row_at name number (base_rows bare name rows) ≡ None
    base_none = row_at-none name number (base_rows bare name rows) (ascends_base bare name rows a) (ap (entry_at name number) (entries_of-base bare name rows) ∙ none)

    -- the call isn't there yet
    pub add_new : row_at name number left ≡ None
    add_new = cleared_none room name number (base_rows bare name rows) base_none

    -- it is the last one then
    pub add_entries : (turn : ℕ) → AreEarlier turn rows → (room ≡ rooms.Full → ⊥) → entries_of (with_put row_cmp (new_row name number turn) left) ≡ added room name number (base_of bare name (entries_of rows)) (entries_of rows)
    add_entries turn earlier full =
        entries_of-added room (new_row name number turn) (base_rows bare name rows) (entries_of rows) full base_none (earlier_base bare name turn rows earlier) refl
        ∙ ap (λ (es : List CallEntry). added room name number es (entries_of rows)) (entries_of-base bare name rows)

  -- there is room
  pub add_room : length rows ≤ 4096 → room ≡ room_of (base_of bare name (entries_of rows)) → (room ≡ rooms.Full → ⊥) → length left < 4096
  add_room limit is full =
      let fewer = length_base bare name rows in
      let low : length (base_rows bare name rows) ≤ 4096 = omega arith in
      cleared_room room (base_rows bare name rows) low (is ∙ ap room_of (sym (entries_of-base bare name rows))) full

  next_turn : (n turn : ℕ) → n < turn → n < turn + 1
  next_turn n turn h = omega arith

  -- and its turn is before the next one
  pub add_earlier : (turn : ℕ) → AreEarlier turn rows → AreEarlier (turn + 1) (with_put row_cmp (new_row name number turn) left)
  add_earlier turn earlier =
      let still = each_weaker (λ (r : Row). r.turn < turn) (λ (r : Row). r.turn < turn + 1) (λ r h. next_turn r.turn turn h) left (earlier_cleared room turn (base_rows bare name rows) (earlier_base bare name turn rows earlier)) in
      each_put (λ (r : Row). r.turn < turn + 1) row_cmp (new_row name number turn) left (omega arith) still

-- the row that is put, and the rows in which it is put
module _ (bare : Bool) (room : Room) (name : LaneName) (number : ℕ) (rows : List Row) (row : Row) (turn : ℕ) (is : row ≡ new_row name number turn) (after : List Row) (left_is : after ≡ cleared room (base_rows bare name rows)) where
  pub put_new : AreInOrder rows → entry_at name number (base_of bare name (entries_of rows)) ≡ None → row_at row.entry.lane row.entry.number after ≡ None
  put_new a none =
      subst (λ (r : Row). row_at r.entry.lane r.entry.number after ≡ None) (sym is)
      (subst (λ (xs : List Row). row_at name number xs ≡ None) (sym left_is) (add_new bare room name number rows a none))

  pub put_room : length rows ≤ 4096 → room ≡ room_of (base_of bare name (entries_of rows)) → (room ≡ rooms.Full → ⊥) → length after < 4096
  put_room limit there full = subst (λ (xs : List Row). length xs < 4096) (sym left_is) (add_room bare room name number rows limit there full)

  same_put : with_put row_cmp row after ≡ with_put row_cmp (new_row name number turn) (cleared room (base_rows bare name rows))
  same_put = ap (λ (r : Row). with_put row_cmp r after) is ∙ ap (λ (xs : List Row). with_put row_cmp (new_row name number turn) xs) left_is

  pub put_entries : AreInOrder rows → entry_at name number (base_of bare name (entries_of rows)) ≡ None → AreEarlier turn rows → (room ≡ rooms.Full → ⊥) → entries_of (with_put row_cmp row after) ≡ added room name number (base_of bare name (entries_of rows)) (entries_of rows)
  put_entries a none earlier full = ap entries_of same_put ∙ add_entries bare room name number rows a none turn earlier full

  pub put_earlier : AreEarlier turn rows → AreEarlier (turn + 1) (with_put row_cmp row after)
  put_earlier earlier = subst (λ (xs : List Row). AreEarlier (turn + 1) xs) (sym same_put) (add_earlier bare room name number rows turn earlier)

-- ---- a call at another stage

module _ (name : LaneName) (number : ℕ) (stage : CallStage) where
  pub earlier_moved : (turn : ℕ) (rows : List Row) → AreEarlier turn rows → AreEarlier turn (rows_with_stage name number stage rows)
  earlier_moved turn rows h = each_map (λ (r : Row). r.turn < turn) (λ (r : Row). r.turn < turn) (moved name number stage) (λ r k. k) rows h

  pub entries_of-moved : (rows : List Row) → entries_of (rows_with_stage name number stage rows) ≡ with_stage name number stage (entries_of rows)
  entries_of-moved rows = entries_of-map (moved name number stage) (at_stage name number stage) (λ r. refl) (λ r. refl) rows
