-- The steps of a book by how its lane stands and by the room that there is.
use Rattle.std.proofs.Common.{◌≡◌, ℕ, ◌<◌, Bool, true, false, ◌&&◌, ◌==◌, nat_lt, nat_le, if◌then◌else◌, List, length, Option, Some, None, refl, sym, ap, subst, ◌∙◌, arith}
use Rattle.std.specs.Prelude.{is_some}
use Rattle.std.proofs.lemmas.Bool.Decides.{nat_tests}
use Rattle.http_edge.specs.declared.message.HttpResponse.{HttpResponse}
use Rattle.actor_names.specs.declared.member.Member.{Member}
use Rattle.call_book.specs.declared.lane.LaneName.{LaneName}
use Rattle.call_book.specs.declared.lane.CallLane.{CallLane}
use Rattle.call_book.specs.declared.entry.CallStage.{CallStage}
use Rattle.call_book.specs.declared.entry.CallStage.TheVariants as stages
use Rattle.call_book.specs.declared.entry.CallEntry.{CallEntry}
use Rattle.call_book.specs.declared.standing.Standing.{Standing}
use Rattle.call_book.specs.declared.standing.Standing.TheVariants as standings
use Rattle.call_book.specs.declared.standing.Room.{Room}
use Rattle.call_book.specs.declared.standing.Room.TheVariants as rooms
use Rattle.call_book.specs.declared.event.BookEvent.TheVariants as events
use Rattle.call_book.specs.declared.event.BookReply.{BookReply}
use Rattle.call_book.specs.declared.event.BookReply.TheVariants as replies
use Rattle.call_book.specs.Lanes.{lane_of, lane_at, bare_lane, put_lane, raise_lane, has_boot, floor_of}
use Rattle.call_book.specs.Entries.{entry_at, without_call, without_lane, first_done}
use Rattle.call_book.specs.Replies.{stage_reply, TakesMemory, IsAnswer}
use Rattle.call_book.specs.Book.{CallBookState, most_lanes, most_calls, lane_refusal, renewed, room_reply, number_reply, call_reply, begin_reply, dropped, with_room, with_call, begin_step, runs, finished, call_book_step}
use Rattle.call_book.specs.Machine.{IsStepOf}
use Rattle.call_book.specs.Turns.{standing_of, room_by, room_of, added}
use Rattle.call_book.proofs.Lasts.{lane_at-put, entry_at-without_lane}

-- ---- a call that is kept

stage_step : (stage : CallStage) (after old : CallBookState) → begin_step (stage_reply stage) after old ≡ (stage_reply stage, old)
stage_step stages.Running after old = refl
stage_step (stages.Kept response) after old = refl
stage_step (stages.Gone code) after old = refl

answer_step : (expected reply : BookReply) (old : CallBookState) → IsAnswer expected reply → IsStepOf (expected, old) old reply old
answer_step expected replies.New old h = (h, refl)
answer_step expected replies.Running old h = (h, refl)
answer_step expected (replies.Kept response) old h = (h, refl)
answer_step expected (replies.Gone code) old h = (h, refl)
answer_step expected (replies.TooOld floor) old h = (h, refl)
answer_step expected (replies.OldBoot greatest) old h = (h, refl)
answer_step expected (replies.LanesFull n) old h = (h, refl)
answer_step expected (replies.BookFull running) old h = (h, refl)
answer_step expected replies.Finished old h = (h, refl)
answer_step expected replies.NotBegun old h = (h, refl)
answer_step expected replies.OutOfMemory old h = (h, refl)

-- the step of a call that has an entry
pub repeat_step : (book : CallBookState) (name : LaneName) (number : ℕ) (after : CallBookState) (e : CallEntry) (reply : BookReply) → entry_at name number book.entries ≡ Some e → IsAnswer (stage_reply e.stage) reply → IsStepOf (begin_step (call_reply book name number) after book) book reply book
repeat_step book name number after e reply is h =
    let answer : call_reply book name number ≡ stage_reply e.stage = rw is refl in
    subst (λ (s : BookReply × CallBookState). IsStepOf s book reply book) (sym (ap (λ (r : BookReply). begin_step r after book) answer ∙ stage_step e.stage after book)) (answer_step (stage_reply e.stage) reply book h)

-- the step of a number at or below the floor
pub old_step : (book : CallBookState) (name : LaneName) (number : ℕ) (after old : CallBookState) (floor : ℕ) → entry_at name number book.entries ≡ None → floor ≡ floor_of (lane_at name book.lanes) → nat_le number floor ≡ true → begin_step (call_reply book name number) after old ≡ (replies.TooOld floor, old)
old_step book name number after old floor none is below = rw (none, ← is, below) refl

-- ---- a new call, by the room

abbrev pub room_answer : Room → BookReply
room_answer rooms.Full = replies.BookFull most_calls
room_answer rooms.Free = replies.New
room_answer (rooms.Dropping lane number) = replies.New

abbrev pub roomy : Room → CallBookState → CallBookState
roomy rooms.Full book = book
roomy rooms.Free book = book
roomy (rooms.Dropping lane number) book = record { lanes = raise_lane lane number book.lanes; entries = without_call lane number book.entries }

number_reply-room : (floor number : ℕ) (entries : List CallEntry) → nat_le number floor ≡ false → number_reply floor number entries ≡ room_answer (room_of entries)
number_reply-room floor number entries above = rw above (go (nat_lt (length entries) most_calls) (first_done entries))
  where
    go : (b : Bool) (o : Option CallEntry) → (if b then replies.New else room_reply o) ≡ room_answer (if b then rooms.Free else room_by o)
    go true o = refl
    go false None = refl
    go false (Some e) = refl

with_room-roomy : (book : CallBookState) → with_room book ≡ roomy (room_of book.entries) book
with_room-roomy book = go (nat_lt (length book.entries) most_calls) (first_done book.entries)
  where
    go : (b : Bool) (o : Option CallEntry) → (if b then book else dropped o book) ≡ roomy (if b then rooms.Free else room_by o) book
    go true o = refl
    go false None = refl
    go false (Some e) = refl

-- the step of a number above the floor that has no entry
pub new_step : (book : CallBookState) (name : LaneName) (number : ℕ) (old : CallBookState) (room : Room) → entry_at name number book.entries ≡ None → nat_le number (floor_of (lane_at name book.lanes)) ≡ false → room ≡ room_of book.entries → begin_step (call_reply book name number) (with_call name number (with_room book)) old ≡ begin_step (room_answer room) (with_call name number (roomy room book)) old
new_step book name number old room none above is =
    let answer : call_reply book name number ≡ room_answer (room_of book.entries) = rw none (number_reply-room (floor_of (lane_at name book.lanes)) number book.entries above) in
    ap (λ (r : BookReply). begin_step r (with_call name number (with_room book)) old) answer
    ∙ ap (λ (b : CallBookState). begin_step (room_answer (room_of book.entries)) (with_call name number b) old) (with_room-roomy book)
    ∙ ap (λ (r : Room). begin_step (room_answer r) (with_call name number (roomy r book)) old) (sym is)

-- a room that isn't full takes memory
pub room_wants : (room : Room) (after old : CallBookState) → (room ≡ rooms.Full → ⊥) → TakesMemory (begin_step (room_answer room) after old).0
room_wants rooms.Full after old full = absurd (full refl)
room_wants rooms.Free after old full = tt
room_wants (rooms.Dropping lane number) after old full = tt

-- ---- a lane that is new or gets a greater boot

pub bare_none : (book : CallBookState) (name : LaneName) (boot number : ℕ) → entry_at name number (renewed book name boot).entries ≡ None
bare_none book name boot number = entry_at-without_lane name number book.entries

pub bare_floor : (book : CallBookState) (name : LaneName) (boot : ℕ) → floor_of (lane_at name (renewed book name boot).lanes) ≡ 0
bare_floor book name boot = ap floor_of (lane_at-put (bare_lane name boot) book.lanes)

abbrev pub book_of : List CallLane → List CallEntry → CallBookState
book_of lanes entries = record { lanes = lanes; entries = entries }

abbrev pub lanes_after : Room → List CallLane → List CallLane
lanes_after rooms.Full lanes = lanes
lanes_after rooms.Free lanes = lanes
lanes_after (rooms.Dropping lane number) lanes = raise_lane lane number lanes

abbrev new_in : CallBookState → BookReply × CallBookState
new_in book = (replies.New, book)

both_same : (lanes its : List CallLane) (entries others : List CallEntry) → lanes ≡ its → entries ≡ others → book_of lanes entries ≡ book_of its others
both_same lanes its entries others first second = ap (λ (ls : List CallLane). book_of ls entries) first ∙ ap (λ (es : List CallEntry). book_of its es) second

-- the steps of a number that is not 0, in the first moment of the boot
module _ (book : CallBookState) (name : LaneName) (boot number : ℕ) where
  abbrev fresh : CallBookState
  fresh = renewed book name boot

  abbrev pub BareStep : BookReply → CallBookState → Type 0
  BareStep reply next = IsStepOf (begin_step (call_reply fresh name number) (with_call name number (with_room fresh)) book) book reply next

  pub bare_zero : number ≡ 0 → BareStep (replies.TooOld 0) book
  bare_zero zero =
      let below : nat_le number 0 ≡ true = rw zero refl in
      let e = old_step fresh name number (with_call name number (with_room fresh)) book 0 (bare_none book name boot number) (sym (bare_floor book name boot)) below in
      subst (λ (s : BookReply × CallBookState). IsStepOf s book (replies.TooOld 0) book) (sym e) (refl, refl)

  above_none : (number ≡ 0 → ⊥) → nat_le number (floor_of (lane_at name fresh.lanes)) ≡ false
  above_none other =
      let above : nat_le number 0 ≡ false = grind (arith, nat_tests) in
      ap (λ (f : ℕ). nat_le number f) (bare_floor book name boot) ∙ above

  module _ (other : number ≡ 0 → ⊥) (room : Room) (is : room ≡ room_of (without_lane name book.entries)) where
    step_is : begin_step (call_reply fresh name number) (with_call name number (with_room fresh)) book ≡ begin_step (room_answer room) (with_call name number (roomy room fresh)) book
    step_is = new_step fresh name number book room (bare_none book name boot number) (above_none other) is

    pub bare_full : room ≡ rooms.Full → BareStep (replies.BookFull most_calls) book
    bare_full full =
        let e = step_is ∙ ap (λ (r : Room). begin_step (room_answer r) (with_call name number (roomy r fresh)) book) full in
        subst (λ (s : BookReply × CallBookState). IsStepOf s book (replies.BookFull most_calls) book) (sym e) (refl, refl)

    pub bare_wants : (room ≡ rooms.Full → ⊥) → BareStep replies.OutOfMemory book
    bare_wants full =
        subst (λ (s : BookReply × CallBookState). IsStepOf s book replies.OutOfMemory book) (sym step_is) (room_wants room (with_call name number (roomy room fresh)) book full, refl)

    roomy_is : (r : Room) → (r ≡ rooms.Full → ⊥) → begin_step (room_answer r) (with_call name number (roomy r fresh)) book ≡ new_in (book_of (lanes_after r fresh.lanes) (added r name number (without_lane name book.entries) book.entries))
    roomy_is rooms.Full full = absurd (full refl)
    roomy_is rooms.Free full = refl
    roomy_is (rooms.Dropping lane its) full = refl

    pub bare_new : (room ≡ rooms.Full → ⊥) → (lanes : List CallLane) (entries : List CallEntry) → lanes ≡ lanes_after room (put_lane (bare_lane name boot) book.lanes) → entries ≡ added room name number (without_lane name book.entries) book.entries → BareStep replies.New (record { lanes = lanes; entries = entries })
    bare_new full lanes entries first second =
        let e = step_is ∙ roomy_is room full in
        subst (λ (s : BookReply × CallBookState). IsStepOf s book replies.New (book_of lanes entries)) (sym e) (refl, both_same lanes (lanes_after room fresh.lanes) entries (added room name number (without_lane name book.entries) book.entries) first second)

-- ---- how a lane stands

pub record IsBare (lane : Option CallLane) (count boot : ℕ) : Type 0 where
  pub allowed : lane_refusal lane count boot ≡ None
  pub other : has_boot lane boot ≡ false
  pub room : is_some lane ≡ false → count < 4096

pub record IsCurrent (lane : Option CallLane) (count boot floor : ℕ) : Type 0 where
  pub allowed : lane_refusal lane count boot ≡ None
  pub same : has_boot lane boot ≡ true
  pub floor_is : floor ≡ floor_of lane

abbrev pub Says : Standing → Option CallLane → ℕ → ℕ → Type 0
Says (standings.Old greatest) lane count boot = (lane_refusal lane count boot ≡ Some (replies.OldBoot greatest)) × (has_boot lane boot ≡ false)
Says standings.LanesFull lane count boot = (lane_refusal lane count boot ≡ Some (replies.LanesFull most_lanes)) × (has_boot lane boot ≡ false)
Says standings.Bare lane count boot = IsBare lane count boot
Says (standings.Current floor) lane count boot = IsCurrent lane count boot floor

lesser : (its boot : ℕ) → nat_lt boot its ≡ true → (its == boot) ≡ false
lesser its boot h = grind (arith, nat_tests)

pub says : (lane : Option CallLane) (count boot : ℕ) → Says (standing_of lane count boot) lane count boot
says None count boot = go (nat_lt count most_lanes) refl
  where
    go : (b : Bool) → nat_lt count most_lanes ≡ b → Says (if b then standings.Bare else standings.LanesFull) None count boot
    go true e = record { allowed = rw e refl; other = refl; room = λ h. grind (arith, nat_tests) }
    go false e = (rw e refl, refl)
says (Some l) count boot = go (nat_lt boot l.boot) (l.boot == boot) refl refl
  where
    go : (b s : Bool) → nat_lt boot l.boot ≡ b → (l.boot == boot) ≡ s → Says (if b then standings.Old l.boot else (if s then standings.Current l.floor else standings.Bare)) (Some l) count boot
    go true s e f = (rw e refl, lesser l.boot boot e)
    go false true e f = record { allowed = rw e refl; same = f; floor_is = refl }
    go false false e f = record { allowed = rw e refl; other = f; room = λ h. absurd (cc) }

-- a lane that refuses the boot
pub refused_step : (book : CallBookState) (origin : Member) (part number : ℕ) (refusal : BookReply) → lane_refusal (lane_at (lane_of origin part) book.lanes) (length book.lanes) origin.boot ≡ Some refusal → begin_reply book origin part number ≡ refusal
refused_step book origin part number refusal h = rw h refl

pub bare_step : (book : CallBookState) (origin : Member) (part number : ℕ) → IsBare (lane_at (lane_of origin part) book.lanes) (length book.lanes) origin.boot → call_book_step book (events.Begin origin part number) ≡ begin_step (call_reply (renewed book (lane_of origin part) origin.boot) (lane_of origin part) number) (with_call (lane_of origin part) number (with_room (renewed book (lane_of origin part) origin.boot))) book
bare_step book origin part number h = rw (h.allowed, h.other) refl

pub current_step : (book : CallBookState) (origin : Member) (part number floor : ℕ) → IsCurrent (lane_at (lane_of origin part) book.lanes) (length book.lanes) origin.boot floor → call_book_step book (events.Begin origin part number) ≡ begin_step (call_reply book (lane_of origin part) number) (with_call (lane_of origin part) number (with_room book)) book
current_step book origin part number floor h = rw (h.allowed, h.same) refl

-- ---- a Finish

pub finished_step : (book : CallBookState) (origin : Member) (part number : ℕ) (response : HttpResponse) → has_boot (lane_at (lane_of origin part) book.lanes) origin.boot ≡ true → runs (entry_at (lane_of origin part) number book.entries) ≡ true → call_book_step book (events.Finish origin part number response) ≡ (replies.Finished, finished book origin part number response)
finished_step book origin part number response h k = rw (h, k) refl

pub idle_step : (book : CallBookState) (origin : Member) (part number : ℕ) (response : HttpResponse) → runs (entry_at (lane_of origin part) number book.entries) ≡ false → call_book_step book (events.Finish origin part number response) ≡ (replies.NotBegun, book)
idle_step book origin part number response k = rw k (go (has_boot (lane_at (lane_of origin part) book.lanes) origin.boot))
  where
    go : (b : Bool) → ◌≡◌ {A = BookReply × CallBookState} (if b && false then (replies.Finished, finished book origin part number response) else (replies.NotBegun, book)) (replies.NotBegun, book)
    go true = refl
    go false = refl

pub else_step : (book : CallBookState) (origin : Member) (part number : ℕ) (response : HttpResponse) → has_boot (lane_at (lane_of origin part) book.lanes) origin.boot ≡ false → call_book_step book (events.Finish origin part number response) ≡ (replies.NotBegun, book)
else_step book origin part number response h = rw h refl
