-- The number that makes room: 4,096 calls of one lane, begun and finished one after another, and then one more.
use Rattle.std.proofs.Common.{◌≡◌, ℕ, zero, suc, ◌<◌, ◌≤◌, Bool, true, false, ◌==◌, nat_lt, nat_le, if◌then◌else◌, List, [], ◌∷◌, ◌++◌, length, Some, None, refl, ap, ◌∙◌, arith, length-append}
use Rattle.std.specs.Ordering.{nat_cmp}
use Rattle.std.proofs.lemmas.Bool.Decides.{nat_tests}
use Rattle.http_edge.specs.declared.message.HttpResponse.{HttpResponse}
use Rattle.actor_names.specs.declared.member.Member.{Member}
use Rattle.call_book.specs.declared.lane.LaneName.{LaneName}
use Rattle.call_book.specs.declared.lane.CallLane.{CallLane}
use Rattle.call_book.specs.declared.entry.CallStage.{CallStage}
use Rattle.call_book.specs.declared.entry.CallStage.TheVariants as stages
use Rattle.call_book.specs.declared.entry.CallEntry.{CallEntry}
use Rattle.call_book.specs.declared.standing.Room.TheVariants as rooms
use Rattle.call_book.specs.declared.event.BookEvent.{BookEvent}
use Rattle.call_book.specs.declared.event.BookEvent.TheVariants as events
use Rattle.call_book.specs.declared.event.BookReply.{BookReply}
use Rattle.call_book.specs.declared.event.BookReply.TheVariants as replies
use Rattle.call_book.specs.Lanes.{lane_of, lane_cmp, lane_at, bare_lane, risen, raise_lane, has_boot, floor_of}
use Rattle.call_book.specs.Entries.{stage_of, is_done, at_call, is_at, new_entry, entry_at, without_call, first_done, with_stage}
use Rattle.call_book.specs.Book.{CallBookState, new_book, most_calls, with_room, with_call, runs, call_book_step}
use Rattle.call_book.specs.Turns.{room_of}
use Rattle.call_book.proofs.Ties.{itself, is_eq-then, is_eq-nat_cmp}
use Rattle.call_book.proofs.Finds.{found-last, found-last_other}
use Rattle.call_book.proofs.Lasts.{lane_at-raise, entry_at-without}
use Rattle.call_book.proofs.Steps.{new_step, old_step, bare_step, current_step, finished_step, IsBare, IsCurrent}

-- the replies to some events, and the book after them
abbrev replies_to : CallBookState → List BookEvent → List BookReply
replies_to book [] = []
replies_to book (e ∷ es) = (call_book_step book e).0 ∷ replies_to (call_book_step book e).1 es

abbrev book_after : CallBookState → List BookEvent → CallBookState
book_after book [] = book
book_after book (e ∷ es) = book_after (call_book_step book e).1 es

book_after-append : (book : CallBookState) (xs ys : List BookEvent) → book_after book (xs ++ ys) ≡ book_after (book_after book xs) ys
book_after-append book [] ys = refl
book_after-append book (x ∷ xs) ys = book_after-append (call_book_step book x).1 xs ys

two_events : (book next last : CallBookState) (d e : BookEvent) → (call_book_step book d).1 ≡ next → (call_book_step next e).1 ≡ last → book_after book (d ∷ e ∷ []) ≡ last
two_events book next last d e first second = ap (λ (b : CallBookState). (call_book_step b e).1) first ∙ second

two_replies : (book next : CallBookState) (d e : BookEvent) (a b : BookReply) → ◌≡◌ {A = BookReply × CallBookState} (call_book_step book d) (a, next) → (call_book_step next e).0 ≡ b → replies_to book (d ∷ e ∷ []) ≡ a ∷ b ∷ []
two_replies book next d e a b first second =
    ap (λ (s : BookReply × CallBookState). s.0 ∷ (call_book_step s.1 e).0 ∷ []) first ∙ ap (λ (r : BookReply). a ∷ r ∷ []) second

-- ---- calls of one list

first_done-append : (xs ys : List CallEntry) (e : CallEntry) → first_done xs ≡ Some e → first_done (xs ++ ys) ≡ Some e
first_done-append [] ys e h = absurd (cc)
first_done-append (x ∷ xs) ys e h = go (is_done x.stage) h (first_done-append xs ys e)
  where
    go : (b : Bool) → (if b then Some x else first_done xs) ≡ Some e → (first_done xs ≡ Some e → first_done (xs ++ ys) ≡ Some e) → (if b then Some x else first_done (xs ++ ys)) ≡ Some e
    go true k ih = k
    go false k ih = ih k

-- the last call is finished, and the others are of another lane or number
stage-last : (name : LaneName) (number : ℕ) (stage : CallStage) (xs : List CallEntry) (e : CallEntry) → entry_at name number xs ≡ None → is_at name number e ≡ true → with_stage name number stage (xs ++ e ∷ []) ≡ xs ++ record e { stage = stage } ∷ []
stage-last name number stage [] e none is = rw is refl
stage-last name number stage (x ∷ xs) e none is = go (is_at name number x) none (stage-last name number stage xs e)
  where
    go : (b : Bool) → (if b then Some x else entry_at name number xs) ≡ None → (entry_at name number xs ≡ None → is_at name number e ≡ true → with_stage name number stage (xs ++ e ∷ []) ≡ xs ++ record e { stage = stage } ∷ []) → (if b then record x { stage = stage } else x) ∷ with_stage name number stage (xs ++ e ∷ []) ≡ x ∷ (xs ++ record e { stage = stage } ∷ [])
    go true k ih = absurd (cc)
    go false k ih = ap (λ (ys : List CallEntry). x ∷ ys) (ih k is)

is_same : (n : ℕ) → (n == n) ≡ true
is_same n = grind (arith, nat_tests)

is_apart : (m n : ℕ) → m < n → (m == n) ≡ false
is_apart m n h = grind (arith, nat_tests)

is_apart_back : (m n : ℕ) → m < n → (n == m) ≡ false
is_apart_back m n h = grind (arith, nat_tests)

not_less : (n : ℕ) → nat_lt n n ≡ false
not_less n = grind (arith, nat_tests)

is_above : (m n : ℕ) → m < n → nat_le n m ≡ false
is_above m n h = grind (arith, nat_tests)

is_fewer : (m n : ℕ) → m < n → nat_lt m n ≡ true
is_fewer m n h = grind (arith, nat_tests)

at_number : (name : LaneName) (number its : ℕ) (stage : CallStage) → is_at name number (record { lane = name; number = its; stage = stage }) ≡ (its == number)
at_number name number its stage = is_eq-then (lane_cmp name name) (nat_cmp its number) ∙ rw (itself name, is_eq-nat_cmp its number) refl

module _ (origin : Member) (part : ℕ) (response : HttpResponse) where
  abbrev name : LaneName
  name = lane_of origin part

  abbrev lane : CallLane
  lane = bare_lane name origin.boot

  abbrev done : ℕ → CallEntry
  done number = record { lane = name; number = number; stage = stage_of response }

  -- the calls 1 to n, all of them done
  done_to : ℕ → List CallEntry
  done_to zero = []
  done_to (suc n) = done_to n ++ done (suc n) ∷ []

  -- each of them begun and finished, one after another
  calls_to : ℕ → List BookEvent
  calls_to zero = []
  calls_to (suc n) = calls_to n ++ events.Begin origin part (suc n) ∷ events.Finish origin part (suc n) response ∷ []

  -- the lane once a call began
  lanes_after : ℕ → List CallLane
  lanes_after zero = []
  lanes_after (suc n) = lane ∷ []

  abbrev filled : ℕ → CallBookState
  filled n = record { lanes = lanes_after n; entries = done_to n }

  -- the book while a call of the lane runs
  abbrev running : ℕ → CallBookState
  running n = record { lanes = lane ∷ []; entries = done_to n ++ new_entry name (suc n) ∷ [] }

  length-done_to : (n : ℕ) → length (done_to n) ≡ n
  unfolding done_to
  length-done_to zero = refl
  length-done_to (suc n) = let less = length-done_to n in let more = length-append (done_to n) (done (suc n) ∷ []) in omega arith

  done_to-none : (n m : ℕ) → n < m → entry_at name m (done_to n) ≡ None
  unfolding done_to
  done_to-none zero m h = refl
  done_to-none (suc n) m h =
      let less : n < m = omega arith in
      found-last_other (at_call name m) (done (suc n)) (done_to n) (at_number name m (suc n) (stage_of response) ∙ is_apart (suc n) m h) ∙ done_to-none n m less

  stage_done : is_done (stage_of response) ≡ true
  stage_done = go (nat_lt 65536 (length response.body))
    where
      go : (b : Bool) → is_done (if b then stages.Gone response.status else stages.Kept response) ≡ true
      go true = refl
      go false = refl

  -- the call 1 makes room
  first_done-done_to : (n : ℕ) → first_done (done_to (suc n)) ≡ Some (done 1)
  unfolding done_to
  first_done-done_to zero = rw stage_done refl
  first_done-done_to (suc n) = first_done-append (done_to (suc n)) (done (suc (suc n)) ∷ []) (done 1) (first_done-done_to n)

  lane-there : lane_at name (lane ∷ []) ≡ Some lane
  lane-there = rw (itself name) refl

  is_current : IsCurrent (lane_at name (lane ∷ [])) 1 origin.boot 0
  is_current = rw lane-there (record { allowed = rw (not_less origin.boot) refl; same = is_same origin.boot; floor_is = refl })

  -- ---- one call

  room_free : (n : ℕ) → n < 4096 → rooms.Free ≡ room_of (done_to n)
  room_free n h =
      let test : nat_lt (length (done_to n)) most_calls ≡ true = rw (length-done_to n) (is_fewer n 4096 h) in
      rw test refl

  begins : (n : ℕ) → n < 4096 → (call_book_step (filled n) (events.Begin origin part (suc n))).1 ≡ running n
  unfolding done_to lanes_after
  begins zero h =
      let bare : IsBare None 0 origin.boot = record { allowed = refl; other = refl; room = λ _. h } in
      let above : nat_le 1 (floor_of (lane_at name (lane ∷ []))) ≡ false = rw lane-there refl in
      ap (λ (s : BookReply × CallBookState). s.1)
      (bare_step new_book origin part 1 bare ∙ new_step (record { lanes = lane ∷ []; entries = [] }) name 1 new_book rooms.Free refl above refl)
  begins (suc n) h =
      let above : nat_le (suc (suc n)) (floor_of (lane_at name (lane ∷ []))) ≡ false = rw lane-there (is_above 0 (suc (suc n)) (omega arith)) in
      ap (λ (s : BookReply × CallBookState). s.1)
      (current_step (filled (suc n)) origin part (suc (suc n)) 0 is_current ∙ new_step (filled (suc n)) name (suc (suc n)) (filled (suc n)) rooms.Free (done_to-none (suc n) (suc (suc n)) (omega arith)) above (room_free (suc n) h))

  finishes : (n : ℕ) → (call_book_step (running n) (events.Finish origin part (suc n) response)).1 ≡ filled (suc n)
  unfolding done_to lanes_after
  finishes n =
      let none = done_to-none n (suc n) (omega arith) in
      let here : is_at name (suc n) (new_entry name (suc n)) ≡ true = at_number name (suc n) (suc n) stages.Running ∙ is_same (suc n) in
      let there : entry_at name (suc n) (running n).entries ≡ Some (new_entry name (suc n)) = found-last (at_call name (suc n)) (new_entry name (suc n)) (done_to n) none here in
      let has : has_boot (lane_at name (lane ∷ [])) origin.boot ≡ true = rw lane-there (is_same origin.boot) in
      let runs_now : runs (entry_at name (suc n) (running n).entries) ≡ true = rw there refl in
      ap (λ (s : BookReply × CallBookState). s.1) (finished_step (running n) origin part (suc n) response has runs_now)
      ∙ ap (λ (es : List CallEntry). record { lanes = lane ∷ []; entries = es }) (stage-last name (suc n) (stage_of response) (done_to n) (new_entry name (suc n)) none here)

  -- ---- all of them

  fills : (n : ℕ) → n ≤ 4096 → book_after new_book (calls_to n) ≡ filled n
  unfolding calls_to done_to lanes_after
  fills zero h = refl
  fills (suc n) h =
      let less : n ≤ 4096 = omega arith in
      let below : n < 4096 = omega arith in
      book_after-append new_book (calls_to n) (events.Begin origin part (suc n) ∷ events.Finish origin part (suc n) response ∷ [])
      ∙ ap (λ (b : CallBookState). book_after b (events.Begin origin part (suc n) ∷ events.Finish origin part (suc n) response ∷ [])) (fills n less)
      ∙ two_events (filled n) (running n) (filled (suc n)) (events.Begin origin part (suc n)) (events.Finish origin part (suc n) response) (begins n below) (finishes n)

  -- ---- one more than there is room for

  module _ (n : ℕ) (full : suc n ≡ 4096) where
    abbrev next : ℕ
    next = suc (suc n)

    -- the book after the call 1 was dropped
    abbrev dropped_one : CallBookState
    dropped_one = record { lanes = raise_lane name 1 (lane ∷ []); entries = without_call name 1 (done_to (suc n)) }

    room_one : rooms.Dropping name 1 ≡ room_of (done_to (suc n))
    room_one =
        let test : nat_lt (length (done_to (suc n))) most_calls ≡ false = rw (length-done_to (suc n), full) refl in
        rw (test, first_done-done_to n) refl

    one_more : call_book_step (filled (suc n)) (events.Begin origin part next) ≡ (replies.New, with_call name next dropped_one)
    unfolding lanes_after
    one_more =
        let above : nat_le next (floor_of (lane_at name (lane ∷ []))) ≡ false = rw lane-there (is_above 0 next (omega arith)) in
        current_step (filled (suc n)) origin part next 0 is_current ∙ new_step (filled (suc n)) name next (filled (suc n)) (rooms.Dropping name 1) (done_to-none (suc n) next (omega arith)) above room_one

    lane_risen : lane_at name dropped_one.lanes ≡ Some (risen 1 lane)
    lane_risen = lane_at-raise name 1 (lane ∷ []) ∙ rw lane-there refl

    is_current_still : IsCurrent (lane_at name dropped_one.lanes) (length dropped_one.lanes) origin.boot 1
    is_current_still = rw lane_risen (record { allowed = rw (not_less origin.boot) refl; same = is_same origin.boot; floor_is = refl })

    too_old : (call_book_step (with_call name next dropped_one) (events.Begin origin part 1)).0 ≡ replies.TooOld 1
    too_old =
        let last : is_at name 1 (new_entry name next) ≡ false = at_number name 1 next stages.Running ∙ is_apart_back 1 next (omega arith) in
        let none : entry_at name 1 (with_call name next dropped_one).entries ≡ None = found-last_other (at_call name 1) (new_entry name next) dropped_one.entries last ∙ entry_at-without name 1 (done_to (suc n)) in
        let floor : 1 ≡ floor_of (lane_at name dropped_one.lanes) = rw lane_risen refl in
        ap (λ (s : BookReply × CallBookState). s.0)
        (current_step (with_call name next dropped_one) origin part 1 1 is_current_still ∙ old_step (with_call name next dropped_one) name 1 (with_call name 1 (with_room (with_call name next dropped_one))) (with_call name next dropped_one) 1 none floor refl)

  -- The numbers 1 to 4,096 of one lane, begun and finished; then 4,097 is new, and 1 is too old.
  dropped_number_is_too_old : replies_to (book_after new_book (calls_to 4096)) (events.Begin origin part 4097 ∷ events.Begin origin part 1 ∷ []) ≡ replies.New ∷ replies.TooOld 1 ∷ []
  dropped_number_is_too_old =
      ap (λ (b : CallBookState). replies_to b (events.Begin origin part 4097 ∷ events.Begin origin part 1 ∷ [])) (fills 4096 (omega arith))
      ∙ two_replies (filled 4096) (with_call name 4097 (dropped_one 4095 refl)) (events.Begin origin part 4097) (events.Begin origin part 1) replies.New (replies.TooOld 1) (one_more 4095 refl) (too_old 4095 refl)
