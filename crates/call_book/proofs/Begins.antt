-- A Begin that is answered New.
use Rattle.std.proofs.Common.{◌≡◌, ℕ, suc, Bool, true, false, not, ◌&&◌, ◌==◌, nat_lt, nat_le, if◌then◌else◌, List, length, Option, Some, None, refl, sym, ap, subst, ◌∙◌, arith}
use Rattle.std.specs.Ordering.{is_eq, nat_cmp}
use Rattle.std.proofs.lemmas.Bool.Decides.{nat_tests}
use Rattle.http_edge.specs.declared.message.HttpResponse.{HttpResponse}
use Rattle.actor_names.specs.declared.member.Member.{Member}
use Rattle.call_book.specs.declared.lane.LaneName.{LaneName}
use Rattle.call_book.specs.declared.lane.CallLane.{CallLane}
use Rattle.call_book.specs.declared.entry.CallStage.{CallStage}
use Rattle.call_book.specs.declared.entry.CallStage.TheVariants as stages
use Rattle.call_book.specs.declared.entry.CallEntry.{CallEntry}
use Rattle.call_book.specs.declared.event.BookReply.{BookReply}
use Rattle.call_book.specs.declared.event.BookReply.TheVariants as replies
use Rattle.call_book.specs.Lanes.{lane_of, lane_cmp, lane_at, bare_lane, has_boot, floor_of}
use Rattle.call_book.specs.Entries.{at_call, is_at, new_entry, entry_at, first_done}
use Rattle.call_book.specs.Replies.{stage_reply}
use Rattle.call_book.specs.Book.{CallBookState, most_lanes, most_calls, lane_refusal, renewed, at_boot, number_reply, entry_reply, call_reply, refused_or, begin_reply, dropped, with_room, begun}
use Rattle.call_book.specs.Histories.{is_call, stage_by}
use Rattle.call_book.proofs.Ties.{same_name, itself, is_eq-then, is_eq-nat_cmp, is_call-tie, is_call-same}
use Rattle.call_book.proofs.Finds.{filter-none, found-last_other, found-last}
use Rattle.call_book.proofs.Status.{Status, Fresh, Has, status, Weaker, weaker_trans, Tells, tells_weaker, lane_has, lane_fresh, lane_else, same_status}
use Rattle.call_book.proofs.Lasts.{lane_at-put, has_boot-raise, at_boot_weaker, room_weaker}

-- ---- what the answer says

not_refused : (lane : Option CallLane) (count boot : ℕ) (reply : BookReply) → refused_or (lane_refusal lane count boot) reply ≡ replies.New → (lane_refusal lane count boot ≡ None) × (reply ≡ replies.New)
not_refused None count boot reply h = go (nat_lt count most_lanes) h
  where
    go : (b : Bool) → refused_or (if b then None else Some (replies.LanesFull most_lanes)) reply ≡ replies.New → ((if b then None else Some (replies.LanesFull most_lanes)) ≡ None) × (reply ≡ replies.New)
    go true k = (refl, k)
    go false k = absurd (cc)
not_refused (Some lane) count boot reply h = go (nat_lt boot lane.boot) h
  where
    go : (b : Bool) → refused_or (if b then Some (replies.OldBoot lane.boot) else None) reply ≡ replies.New → ((if b then Some (replies.OldBoot lane.boot) else None) ≡ None) × (reply ≡ replies.New)
    go true k = absurd (cc)
    go false k = (refl, k)

not_there : (e : Option CallEntry) (fresh : BookReply) → entry_reply e fresh ≡ replies.New → (e ≡ None) × (fresh ≡ replies.New)
not_there None fresh h = (refl, h)
not_there (Some e) fresh h = absurd (go e.stage h)
  where
    go : (stage : CallStage) → stage_reply stage ≡ replies.New → ⊥
    go stages.Running k = cc
    go (stages.Kept response) k = cc
    go (stages.Gone status) k = cc

above_floor : (floor number : ℕ) (entries : List CallEntry) → number_reply floor number entries ≡ replies.New → nat_le number floor ≡ false
above_floor floor number entries h = go (nat_le number floor) refl
  where
    go : (b : Bool) → nat_le number floor ≡ b → nat_le number floor ≡ false
    go true e = absurd (let k = rw e at h in cc)
    go false e = e

-- the lane isn't refused; in its boot the call has no entry, and its number is above the floor
pub record IsFresh (book : CallBookState) (name : LaneName) (boot number : ℕ) : Type 0 where
  pub lane : lane_refusal (lane_at name book.lanes) (length book.lanes) boot ≡ None
  pub entry : entry_at name number (at_boot book name boot).entries ≡ None
  pub floor : nat_le number (floor_of (lane_at name (at_boot book name boot).lanes)) ≡ false

pub new_is_fresh : (book : CallBookState) (origin : Member) (part number : ℕ) → begin_reply book origin part number ≡ replies.New → IsFresh book (lane_of origin part) origin.boot number
new_is_fresh book origin part number h =
    let name : LaneName = lane_of origin part in
    let after : CallBookState = at_boot book name origin.boot in
    let first = not_refused (lane_at name book.lanes) (length book.lanes) origin.boot (call_reply after name number) h in
    let second = not_there (entry_at name number after.entries) (number_reply (floor_of (lane_at name after.lanes)) number after.entries) first.1 in
    record { lane = first.0; entry = second.0; floor = above_floor (floor_of (lane_at name after.lanes)) number after.entries second.1 }

-- ---- the lane has the boot

same_itself : (n : ℕ) → (n == n) ≡ true
same_itself n = grind (arith, nat_tests)

pub at_boot-has : (book : CallBookState) (name : LaneName) (boot : ℕ) → has_boot (lane_at name (at_boot book name boot).lanes) boot ≡ true
at_boot-has book name boot = go (has_boot (lane_at name book.lanes) boot) refl
  where
    go : (b : Bool) → has_boot (lane_at name book.lanes) boot ≡ b → has_boot (lane_at name (if b then book else renewed book name boot).lanes) boot ≡ true
    go true h = h
    go false h = rw (lane_at-put (bare_lane name boot) book.lanes) (same_itself boot)

dropped-has : (book : CallBookState) (done : Option CallEntry) (name : LaneName) (boot : ℕ) → has_boot (lane_at name (dropped done book).lanes) boot ≡ has_boot (lane_at name book.lanes) boot
dropped-has book None name boot = refl
dropped-has book (Some d) name boot = has_boot-raise d.lane d.number boot name book.lanes

room-has : (book : CallBookState) (name : LaneName) (boot : ℕ) → has_boot (lane_at name (with_room book).lanes) boot ≡ has_boot (lane_at name book.lanes) boot
room-has book name boot = go (nat_lt (length book.entries) most_calls)
  where
    go : (b : Bool) → has_boot (lane_at name (if b then book else dropped (first_done book.entries) book).lanes) boot ≡ has_boot (lane_at name book.lanes) boot
    go true = refl
    go false = dropped-has book (first_done book.entries) name boot

dropped-none : (book : CallBookState) (done : Option CallEntry) (name : LaneName) (number : ℕ) → entry_at name number book.entries ≡ None → entry_at name number (dropped done book).entries ≡ None
dropped-none book None name number h = h
dropped-none book (Some d) name number h = filter-none (at_call name number) (λ (e : CallEntry). not (is_at d.lane d.number e)) book.entries h

room-none : (book : CallBookState) (name : LaneName) (number : ℕ) → entry_at name number book.entries ≡ None → entry_at name number (with_room book).entries ≡ None
room-none book name number h = go (nat_lt (length book.entries) most_calls)
  where
    go : (b : Bool) → entry_at name number (if b then book else dropped (first_done book.entries) book).entries ≡ None
    go true = h
    go false = dropped-none book (first_done book.entries) name number h

-- ---- the call itself, and every other

is_at-new : (name : LaneName) (number : ℕ) → is_at name number (new_entry name number) ≡ true
is_at-new name number = is_eq-then (lane_cmp name name) (nat_cmp number number) ∙ rw (itself name, is_eq-nat_cmp number number, same_itself number) refl

-- the call that begins was fresh, and runs now
fresh_runs : (book : CallBookState) (origin : Member) (part number : ℕ) → IsFresh book (lane_of origin part) origin.boot number → (status (at_boot book (lane_of origin part) origin.boot) origin part number ≡ Fresh) × (status (begun book origin part number) origin part number ≡ Has stages.Running)
fresh_runs book origin part number f =
    let name : LaneName = lane_of origin part in
    let b : CallBookState = at_boot book name origin.boot in
    let has : has_boot (lane_at name b.lanes) origin.boot ≡ true = at_boot-has book name origin.boot in
    let still : has_boot (lane_at name (with_room b).lanes) origin.boot ≡ true = room-has b name origin.boot ∙ has in
    let there : entry_at name number (begun book origin part number).entries ≡ Some (new_entry name number) = found-last (at_call name number) (new_entry name number) (with_room b).entries (room-none b name number f.entry) (is_at-new name number) in (
      lane_fresh origin.boot number (lane_at name b.lanes) (entry_at name number b.entries) has f.entry f.floor,
      lane_has origin.boot number (lane_at name (with_room b).lanes) (entry_at name number (begun book origin part number).entries) (new_entry name number) still there,
    )

module _ (origin : Member) (part number : ℕ) (book : CallBookState) (other : Member) (its_part its_number : ℕ) where
  abbrev mine : LaneName
  mine = lane_of origin part

  abbrev its : LaneName
  its = lane_of other its_part

  abbrev after_boot : CallBookState
  after_boot = at_boot book its other.boot

  -- another call in the same place, of another boot
  else_boot : its ≡ mine → (other.boot == origin.boot) ≡ false → status (begun book other its_part its_number) origin part number ≡ status (with_room after_boot) origin part number
  else_boot same apart =
      let has : has_boot (lane_at mine (with_room after_boot).lanes) other.boot ≡ true = subst (λ (z : LaneName). has_boot (lane_at z (with_room after_boot).lanes) other.boot ≡ true) same (room-has after_boot its other.boot ∙ at_boot-has book its other.boot) in
      lane_else origin.boot other.boot number (lane_at mine (with_room after_boot).lanes) (entry_at mine number (begun book other its_part its_number).entries) (entry_at mine number (with_room after_boot).entries) has apart

  -- a call in another place
  else_place : is_at mine number (new_entry its its_number) ≡ false → status (begun book other its_part its_number) origin part number ≡ status (with_room after_boot) origin part number
  else_place apart = rw (found-last_other (at_call mine number) (new_entry its its_number) (with_room after_boot).entries apart) refl

  other_same : is_call origin part number other its_part its_number ≡ false → status (begun book other its_part its_number) origin part number ≡ status (with_room after_boot) origin part number
  other_same apart = go (is_eq (lane_cmp its mine)) (its_number == number) (other.boot == origin.boot) refl refl refl
    where
      place : is_at mine number (new_entry its its_number) ≡ (is_eq (lane_cmp its mine) && (its_number == number))
      place = is_eq-then (lane_cmp its mine) (nat_cmp its_number number) ∙ rw (is_eq-nat_cmp its_number number) refl

      go : (t n b : Bool) → is_eq (lane_cmp its mine) ≡ t → (its_number == number) ≡ n → (other.boot == origin.boot) ≡ b → status (begun book other its_part its_number) origin part number ≡ status (with_room after_boot) origin part number
      go false n b e f g = else_place (place ∙ rw e refl)
      go true false b e f g = else_place (place ∙ rw (e, f) refl)
      go true true false e f g = else_boot (same_name its mine e) g
      go true true true e f g = absurd (let k : is_call origin part number other its_part its_number ≡ true = is_call-tie origin part number other its_part its_number ∙ rw (e, f, g) refl in cc)

  pub begin_tells : begin_reply book other its_part its_number ≡ replies.New → (n : ℕ) (r : Option HttpResponse) → Tells (status book origin part number) n r → Tells (status (begun book other its_part its_number) origin part number) (if is_call origin part number other its_part its_number then suc n else n) r
  begin_tells new n r h = go (is_call origin part number other its_part its_number) refl
    where
      f : IsFresh book its other.boot its_number
      f = new_is_fresh book other its_part its_number new

      first : Weaker (status book origin part number) (status after_boot origin part number)
      first = at_boot_weaker origin part number book its other.boot f.lane

      -- the call that begins is this one
      this : is_call origin part number other its_part its_number ≡ true → Tells (status (begun book other its_part its_number) origin part number) (suc n) r
      this c =
          let same = is_call-same origin part number other its_part its_number c in
          let runs = fresh_runs book other its_part its_number f in
          let before : status after_boot origin part number ≡ Fresh = sym (same_status after_boot mine its origin.boot other.boot number its_number same.0 same.2 same.1) ∙ runs.0 in
          let after : status (begun book other its_part its_number) origin part number ≡ Has stages.Running = sym (same_status (begun book other its_part its_number) mine its origin.boot other.boot number its_number same.0 same.2 same.1) ∙ runs.1 in
          let told = subst (λ (z : Status). Tells z n r) before (tells_weaker (status book origin part number) (status after_boot origin part number) n r first h) in
          let once : suc n ≡ 1 = ap suc told.0 in
          let stage : stages.Running ≡ stage_by r = sym (ap stage_by told.1) in
          subst (λ (z : Status). Tells z (suc n) r) (sym after) (once, stage)

      go : (c : Bool) → is_call origin part number other its_part its_number ≡ c → Tells (status (begun book other its_part its_number) origin part number) (if c then suc n else n) r
      go false c =
          let all = weaker_trans (status book origin part number) (status after_boot origin part number) (status (with_room after_boot) origin part number) first (room_weaker origin part number after_boot) in
          rw (other_same c) (tells_weaker (status book origin part number) (status (with_room after_boot) origin part number) n r all h)
      go true c = this c
