-- How a book stands to one call, and what the history before it says of that call.
use Rattle.std.proofs.Common.{◌≡◌, ℕ, ◌≤◌, Bool, true, false, ◌==◌, nat_lt, nat_le, if◌then◌else◌, ◌⊎◌, inl, inr, Option, Some, None, refl, sym, ap, subst, ◌∙◌, arith}
use Rattle.http_edge.specs.declared.message.HttpResponse.{HttpResponse}
use Rattle.actor_names.specs.declared.member.Member.{Member}
use Rattle.call_book.specs.declared.lane.LaneName.{LaneName}
use Rattle.call_book.specs.declared.lane.CallLane.{CallLane}
use Rattle.call_book.specs.declared.entry.CallStage.{CallStage}
use Rattle.call_book.specs.declared.entry.CallEntry.{CallEntry}
use Rattle.call_book.specs.Lanes.{lane_of, lane_at, has_boot, floor_of}
use Rattle.call_book.specs.Entries.{entry_at}
use Rattle.call_book.specs.Book.{CallBookState}
use Rattle.call_book.specs.Histories.{stage_by}
use Rattle.std.proofs.lemmas.Bool.Decides.{nat_tests}

-- A call may still begin; or its entry is kept; or it never begins again.
pub data Status : Type 0 where
  Fresh : Status
  Has : (stage : CallStage) → Status
  Past : Status

abbrev pub by_entry : ℕ → ℕ → Option CallEntry → Status
by_entry floor number None = if nat_le number floor then Past else Fresh
by_entry floor number (Some e) = Has e.stage

abbrev pub by_boot : ℕ → ℕ → Status → Status
by_boot boot its here = if nat_lt its boot then Fresh else (if its == boot then here else Past)

abbrev pub by_lane : ℕ → ℕ → Option CallLane → Option CallEntry → Status
by_lane boot number None e = Fresh
by_lane boot number (Some lane) e = by_boot boot lane.boot (by_entry lane.floor number e)

abbrev pub status_at : CallBookState → LaneName → ℕ → ℕ → Status
status_at book name boot number = by_lane boot number (lane_at name book.lanes) (entry_at name number book.entries)

abbrev pub status : CallBookState → Member → ℕ → ℕ → Status
status book origin part number = status_at book (lane_of origin part) origin.boot number

-- how often the call was answered New, and with which response it was finished
abbrev pub Tells : Status → ℕ → Option HttpResponse → Type 0
Tells Fresh n r = (n ≡ 0) × (r ≡ None)
Tells (Has stage) n r = (n ≡ 1) × (stage ≡ stage_by r)
Tells Past n r = n ≤ 1

pub tells_most : (s : Status) (n : ℕ) (r : Option HttpResponse) → Tells s n r → n ≤ 1
tells_most Fresh n r h = omega (arith, h.0)
tells_most (Has stage) n r h = omega (arith, h.0)
tells_most Past n r h = h

-- the same, or past
abbrev pub Weaker : Status → Status → Type 0
Weaker s t = (t ≡ s) ⊎ (t ≡ Past)

pub weaker_trans : (s t u : Status) → Weaker s t → Weaker t u → Weaker s u
weaker_trans s t u (inl e) (inl f) = inl (f ∙ e)
weaker_trans s t u (inl e) (inr f) = inr f
weaker_trans s t u (inr e) (inl f) = inr (f ∙ e)
weaker_trans s t u (inr e) (inr f) = inr f

pub tells_weaker : (s t : Status) (n : ℕ) (r : Option HttpResponse) → Weaker s t → Tells s n r → Tells t n r
tells_weaker s t n r (inl e) h = subst (λ (z : Status). Tells z n r) (sym e) h
tells_weaker s t n r (inr e) h = subst (λ (z : Status). Tells z n r) (sym e) (tells_most s n r h)

pub fresh_weaker : (a b c : Bool) → Weaker Fresh (if a then Fresh else (if b then (if c then Past else Fresh) else Past))
fresh_weaker true b c = inl refl
fresh_weaker false true true = inr refl
fresh_weaker false true false = inl refl
fresh_weaker false false c = inr refl

-- ---- a lane of this boot, or of another

pub same_boot : (boot its : ℕ) (here : Status) → (its == boot) ≡ true → by_boot boot its here ≡ here
same_boot boot its here is =
    let not_less : nat_lt its boot ≡ false = grind (arith, nat_tests) in
    rw (not_less, is) refl

pub other_boot : (boot its : ℕ) (here there : Status) → (its == boot) ≡ false → by_boot boot its here ≡ by_boot boot its there
other_boot boot its here there is = rw is refl

-- if the lane has this boot, the entry decides, or the floor if there is none
pub lane_has : (boot number : ℕ) (lane : Option CallLane) (e : Option CallEntry) (x : CallEntry) → has_boot lane boot ≡ true → e ≡ Some x → by_lane boot number lane e ≡ Has x.stage
lane_has boot number None e x h is = absurd (cc)
lane_has boot number (Some l) e x h is = same_boot boot l.boot (by_entry l.floor number e) h ∙ rw is refl

pub lane_fresh : (boot number : ℕ) (lane : Option CallLane) (e : Option CallEntry) → has_boot lane boot ≡ true → e ≡ None → nat_le number (floor_of lane) ≡ false → by_lane boot number lane e ≡ Fresh
lane_fresh boot number None e h none above = absurd (cc)
lane_fresh boot number (Some l) e h none above = same_boot boot l.boot (by_entry l.floor number e) h ∙ rw (none, above) refl

pub same_number : (x y : ℕ) → (x == y) ≡ true → x ≡ y
same_number x y h = grind (arith, nat_tests)

-- if the lane has another boot, the entry doesn't matter
pub lane_else : (boot its number : ℕ) (lane : Option CallLane) (e f : Option CallEntry) → has_boot lane its ≡ true → (its == boot) ≡ false → by_lane boot number lane e ≡ by_lane boot number lane f
lane_else boot its number None e f h apart = absurd (cc)
lane_else boot its number (Some l) e f h apart =
    let same : l.boot ≡ its = same_number l.boot its h in
    let other : (l.boot == boot) ≡ false = rw same apart in
    other_boot boot l.boot (by_entry l.floor number e) (by_entry l.floor number f) other

-- one call under two names
pub same_status : (book : CallBookState) (name other : LaneName) (boot its number its_number : ℕ) → other ≡ name → its ≡ boot → its_number ≡ number → status_at book other its its_number ≡ status_at book name boot number
same_status book name other boot its number its_number e f g =
    ap (λ (z : LaneName). status_at book z its its_number) e
    ∙ ap (λ (b : ℕ). status_at book name b its_number) f
    ∙ ap (λ (k : ℕ). status_at book name boot k) g
