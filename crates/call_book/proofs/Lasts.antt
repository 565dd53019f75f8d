-- What a lane in a new boot, and a call that is dropped, do to the other calls.
use Rattle.std.proofs.Common.{◌≡◌, ℕ, Bool, true, false, not, ◌&&◌, ◌==◌, nat_lt, nat_le, max, if◌then◌else◌, inl, inr, List, length, Option, Some, None, refl, sym, ap, subst, ◌∙◌, arith}
use Rattle.std.specs.Prelude.{option_map}
use Rattle.std.specs.Ordering.{is_eq, nat_cmp}
use Rattle.std.proofs.lemmas.Bool.Decides.{nat_tests}
use Rattle.lists_and_limits.proofs.Maps.{put-there, put-others, filter-gone, filter-others}
use Rattle.actor_names.specs.declared.member.Member.{Member}
use Rattle.call_book.specs.declared.lane.LaneName.{LaneName}
use Rattle.call_book.specs.declared.lane.CallLane.{CallLane}
use Rattle.call_book.specs.declared.entry.CallEntry.{CallEntry}
use Rattle.call_book.specs.Lanes.{lane_of, lane_cmp, at_lane, lane_at, put_lane, bare_lane, risen, raise_lane, has_boot}
use Rattle.call_book.specs.Entries.{at_call, is_at, is_in, entry_at, without_call, without_lane, first_done}
use Rattle.call_book.specs.Book.{CallBookState, lane_refusal, renewed, at_boot, dropped, with_room, most_calls}
use Rattle.call_book.specs.Orders.{names_total}
use Rattle.call_book.proofs.Ties.{same_name, itself, tie_back, at_call-is, is_eq-then, is_eq-nat_cmp}
use Rattle.call_book.proofs.Finds.{found-changed, found-changed_other}
use Rattle.call_book.proofs.Status.{Fresh, Past, by_entry, by_lane, status, Weaker, fresh_weaker}

-- ---- lanes

-- a lane of another name
apart_lane : (its name : LaneName) → is_eq (lane_cmp its name) ≡ false → (x : CallLane) → is_eq (at_lane its x) ≡ true → is_eq (at_lane name x) ≡ false
apart_lane its name apart x h = subst (λ (z : LaneName). is_eq (lane_cmp z name) ≡ false) (sym (same_name x.name its h)) apart

pub lane_at-put_other : (lane : CallLane) (name : LaneName) (lanes : List CallLane) → is_eq (lane_cmp lane.name name) ≡ false → lane_at name (put_lane lane lanes) ≡ lane_at name lanes
lane_at-put_other lane name lanes apart = put-others (λ (l : CallLane). l.name) lane_cmp names_total lane name lanes apart

pub lane_at-put : (lane : CallLane) (lanes : List CallLane) → lane_at lane.name (put_lane lane lanes) ≡ Some lane
lane_at-put lane lanes = put-there (λ (l : CallLane). l.name) lane_cmp names_total lane lanes

pub lane_at-raise_other : (its : LaneName) (number : ℕ) (name : LaneName) (lanes : List CallLane) → is_eq (lane_cmp its name) ≡ false → lane_at name (raise_lane its number lanes) ≡ lane_at name lanes
lane_at-raise_other its number name lanes apart = found-changed_other (at_lane name) (at_lane its) (risen number) lanes (λ x. refl) (apart_lane its name apart)

pub lane_at-raise : (name : LaneName) (number : ℕ) (lanes : List CallLane) → lane_at name (raise_lane name number lanes) ≡ option_map (risen number) (lane_at name lanes)
lane_at-raise name number lanes = found-changed (at_lane name) (risen number) lanes (λ x. refl)

has_boot-risen : (number boot : ℕ) (lane : Option CallLane) → has_boot (option_map (risen number) lane) boot ≡ has_boot lane boot
has_boot-risen number boot None = refl
has_boot-risen number boot (Some l) = refl

-- a dropped call changes no boot
pub has_boot-raise : (its : LaneName) (number boot : ℕ) (name : LaneName) (lanes : List CallLane) → has_boot (lane_at name (raise_lane its number lanes)) boot ≡ has_boot (lane_at name lanes) boot
has_boot-raise its number boot name lanes = go (is_eq (lane_cmp its name)) refl
  where
    go : (tie : Bool) → is_eq (lane_cmp its name) ≡ tie → has_boot (lane_at name (raise_lane its number lanes)) boot ≡ has_boot (lane_at name lanes) boot
    go false t = ap (λ (o : Option CallLane). has_boot o boot) (lane_at-raise_other its number name lanes t)
    go true t =
        subst (λ (z : LaneName). has_boot (lane_at name (raise_lane z number lanes)) boot ≡ has_boot (lane_at name lanes) boot) (sym (same_name its name t))
        (ap (λ (o : Option CallLane). has_boot o boot) (lane_at-raise name number lanes) ∙ has_boot-risen number boot (lane_at name lanes))

-- ---- entries

-- a call of another lane or number
apart_call : (its : LaneName) (its_number : ℕ) (name : LaneName) (number : ℕ) → (is_eq (lane_cmp name its) && (number == its_number)) ≡ false → (x : CallEntry) → is_at name number x ≡ true → not (is_at its its_number x) ≡ true
apart_call its its_number name number apart x h =
    let same = at_call-is name number x h in
    let test : is_at its its_number x ≡ false = is_eq-then (lane_cmp x.lane its) (nat_cmp x.number its_number) ∙ rw (same.0, same.1, is_eq-nat_cmp number its_number) apart in
    ap not test

pub entry_at-without_other : (its : LaneName) (its_number : ℕ) (name : LaneName) (number : ℕ) (entries : List CallEntry) → (is_eq (lane_cmp name its) && (number == its_number)) ≡ false → entry_at name number (without_call its its_number entries) ≡ entry_at name number entries
entry_at-without_other its its_number name number entries apart = filter-others (at_call name number) (λ (e : CallEntry). not (is_at its its_number e)) entries (apart_call its its_number name number apart)

pub entry_at-without : (name : LaneName) (number : ℕ) (entries : List CallEntry) → entry_at name number (without_call name number entries) ≡ None
entry_at-without name number entries = filter-gone (at_call name number) (λ (e : CallEntry). not (is_at name number e)) entries (λ x h. ap not h)

pub entry_at-without_lane_other : (its name : LaneName) (number : ℕ) (entries : List CallEntry) → is_eq (lane_cmp name its) ≡ false → entry_at name number (without_lane its entries) ≡ entry_at name number entries
entry_at-without_lane_other its name number entries apart =
    filter-others (at_call name number) (λ (e : CallEntry). not (is_in its e)) entries
    (λ x h. let test : is_in its x ≡ false = subst (λ (z : LaneName). is_eq (lane_cmp z its) ≡ false) (sym (at_call-is name number x h).0) apart in ap not test)

pub entry_at-without_lane : (name : LaneName) (number : ℕ) (entries : List CallEntry) → entry_at name number (without_lane name entries) ≡ None
entry_at-without_lane name number entries =
    filter-gone (at_call name number) (λ (e : CallEntry). not (is_in name e)) entries
    (λ x h. let test : is_in name x ≡ true = subst (λ (z : LaneName). is_eq (lane_cmp z name) ≡ true) (sym (at_call-is name number x h).0) (itself name) in ap not test)

-- ---- a lane in a new boot

refusal_none : (boot its : ℕ) (lane : CallLane) (count : ℕ) → lane_refusal (Some lane) count boot ≡ None → nat_lt boot lane.boot ≡ false
refusal_none boot its lane count h = go (nat_lt boot lane.boot) refl
  where
    go : (b : Bool) → nat_lt boot lane.boot ≡ b → nat_lt boot lane.boot ≡ false
    go true e = absurd (let k = rw e at h in cc)
    go false e = e

later : (its boot mine : ℕ) → nat_lt boot its ≡ false → (its == boot) ≡ false → nat_lt its mine ≡ false → (nat_lt boot mine ≡ false) × ((boot == mine) ≡ false)
later its boot mine a b c = (grind (arith, nat_tests), grind (arith, nat_tests))

bare_weaker : (name : LaneName) (mine number : ℕ) (lane : Option CallLane) (e : Option CallEntry) (count boot : ℕ) → lane_refusal lane count boot ≡ None → has_boot lane boot ≡ false → Weaker (by_lane mine number lane e) (by_lane mine number (Some (bare_lane name boot)) None)
bare_weaker name mine number None e count boot r h = fresh_weaker (nat_lt boot mine) (boot == mine) (nat_le number 0)
bare_weaker name mine number (Some l) e count boot r h = go (nat_lt l.boot mine) refl
  where
    go : (b : Bool) → nat_lt l.boot mine ≡ b → Weaker (by_lane mine number (Some l) e) (by_lane mine number (Some (bare_lane name boot)) None)
    go true t = rw t (fresh_weaker (nat_lt boot mine) (boot == mine) (nat_le number 0))
    go false t = let both = later l.boot boot mine (refusal_none boot boot l count r) h t in inr (rw (both.0, both.1) refl)

module _ (origin : Member) (part number : ℕ) where
  abbrev name : LaneName
  name = lane_of origin part

  renewed_weaker : (book : CallBookState) (its : LaneName) (boot : ℕ) → lane_refusal (lane_at its book.lanes) (length book.lanes) boot ≡ None → has_boot (lane_at its book.lanes) boot ≡ false → Weaker (status book origin part number) (status (renewed book its boot) origin part number)
  renewed_weaker book its boot r h = go (is_eq (lane_cmp its name)) refl
    where
      go : (tie : Bool) → is_eq (lane_cmp its name) ≡ tie → Weaker (status book origin part number) (status (renewed book its boot) origin part number)
      go false t = inl (rw (lane_at-put_other (bare_lane its boot) name book.lanes t, entry_at-without_lane_other its name number book.entries (tie_back name its ∙ t)) refl)
      go true t =
          let same : its ≡ name = same_name its name t in
          let refused : lane_refusal (lane_at name book.lanes) (length book.lanes) boot ≡ None = subst (λ (z : LaneName). lane_refusal (lane_at z book.lanes) (length book.lanes) boot ≡ None) same r in
          let other : has_boot (lane_at name book.lanes) boot ≡ false = subst (λ (z : LaneName). has_boot (lane_at z book.lanes) boot ≡ false) same h in
          subst (λ (z : LaneName). Weaker (status book origin part number) (status (renewed book z boot) origin part number)) (sym same)
          (rw (lane_at-put (bare_lane name boot) book.lanes, entry_at-without_lane name number book.entries) (bare_weaker name origin.boot number (lane_at name book.lanes) (entry_at name number book.entries) (length book.lanes) boot refused other))

  pub at_boot_weaker : (book : CallBookState) (its : LaneName) (boot : ℕ) → lane_refusal (lane_at its book.lanes) (length book.lanes) boot ≡ None → Weaker (status book origin part number) (status (at_boot book its boot) origin part number)
  at_boot_weaker book its boot r = go (has_boot (lane_at its book.lanes) boot) refl
    where
      go : (b : Bool) → has_boot (lane_at its book.lanes) boot ≡ b → Weaker (status book origin part number) (status (if b then book else renewed book its boot) origin part number)
      go true h = inl refl
      go false h = renewed_weaker book its boot r h

  -- ---- a call that is dropped

  le_max : (floor : ℕ) → nat_le number (max floor number) ≡ true
  le_max floor = grind (arith, nat_tests)

  still_past : (floor n : ℕ) → nat_le number floor ≡ true → nat_le number (max floor n) ≡ true
  still_past floor n h = grind (arith, nat_tests)

  gone_weaker : (mine : ℕ) (lane : Option CallLane) (e : Option CallEntry) → Weaker (by_lane mine number lane e) (by_lane mine number (option_map (risen number) lane) None)
  gone_weaker mine None e = inl refl
  gone_weaker mine (Some l) e = go (nat_lt l.boot mine) (l.boot == mine)
    where
      go : (a b : Bool) → Weaker (if a then Fresh else (if b then by_entry l.floor number e else Past)) (if a then Fresh else (if b then by_entry (max l.floor number) number None else Past))
      go true b = inl refl
      go false true = inr (rw (le_max l.floor) refl)
      go false false = inl refl

  floor_weaker : (floor n : ℕ) (e : Option CallEntry) → Weaker (by_entry floor number e) (by_entry (max floor n) number e)
  floor_weaker floor n (Some e) = inl refl
  floor_weaker floor n None = go (nat_le number floor) (nat_le number (max floor n)) refl refl
    where
      go : (a b : Bool) → nat_le number floor ≡ a → nat_le number (max floor n) ≡ b → Weaker (if a then Past else Fresh) (if b then Past else Fresh)
      go true true h k = inl refl
      go true false h k = absurd (let m = still_past floor n h in cc)
      go false true h k = inr refl
      go false false h k = inl refl

  risen_weaker : (mine n : ℕ) (lane : Option CallLane) (e : Option CallEntry) → Weaker (by_lane mine number lane e) (by_lane mine number (option_map (risen n) lane) e)
  risen_weaker mine n None e = inl refl
  risen_weaker mine n (Some l) e = go (nat_lt l.boot mine) (l.boot == mine)
    where
      go : (a b : Bool) → Weaker (if a then Fresh else (if b then by_entry l.floor number e else Past)) (if a then Fresh else (if b then by_entry (max l.floor n) number e else Past))
      go true b = inl refl
      go false true = floor_weaker l.floor n e
      go false false = inl refl

  pub dropped_weaker : (book : CallBookState) (done : Option CallEntry) → Weaker (status book origin part number) (status (dropped done book) origin part number)
  dropped_weaker book None = inl refl
  dropped_weaker book (Some d) = go (is_eq (lane_cmp d.lane name)) (number == d.number) refl refl
    where
      and_false : (a : Bool) → (a && false) ≡ false
      and_false true = refl
      and_false false = refl

      of_number : (n : ℕ) → (number == n) ≡ true → number ≡ n
      of_number n h = grind (arith, nat_tests)

      go : (tie here : Bool) → is_eq (lane_cmp d.lane name) ≡ tie → (number == d.number) ≡ here → Weaker (status book origin part number) (status (dropped (Some d) book) origin part number)
      go false here t n =
          let apart : (is_eq (lane_cmp name d.lane) && (number == d.number)) ≡ false = rw (tie_back name d.lane ∙ t) refl in
          inl (rw (lane_at-raise_other d.lane d.number name book.lanes t, entry_at-without_other d.lane d.number name number book.entries apart) refl)
      go true true t n =
          let same : d.lane ≡ name = same_name d.lane name t in
          let m : number ≡ d.number = of_number d.number n in
          subst (λ (z : LaneName). Weaker (status book origin part number) (status (record { lanes = raise_lane z d.number book.lanes; entries = without_call z d.number book.entries }) origin part number)) (sym same)
          (subst (λ (k : ℕ). Weaker (status book origin part number) (status (record { lanes = raise_lane name k book.lanes; entries = without_call name k book.entries }) origin part number)) m
          (rw (lane_at-raise name number book.lanes, entry_at-without name number book.entries) (gone_weaker origin.boot (lane_at name book.lanes) (entry_at name number book.entries))))
      go true false t n =
          let same : d.lane ≡ name = same_name d.lane name t in
          let apart : (is_eq (lane_cmp name d.lane) && (number == d.number)) ≡ false = rw n (and_false (is_eq (lane_cmp name d.lane))) in
          rw (entry_at-without_other d.lane d.number name number book.entries apart)
          (subst (λ (z : LaneName). Weaker (status book origin part number) (by_lane origin.boot number (lane_at name (raise_lane z d.number book.lanes)) (entry_at name number book.entries))) (sym same)
          (rw (lane_at-raise name d.number book.lanes) (risen_weaker origin.boot d.number (lane_at name book.lanes) (entry_at name number book.entries))))

  pub room_weaker : (book : CallBookState) → Weaker (status book origin part number) (status (with_room book) origin part number)
  room_weaker book = go (nat_lt (length book.entries) most_calls)
    where
      go : (b : Bool) → Weaker (status book origin part number) (status (if b then book else dropped (first_done book.entries) book) origin part number)
      go true = inl refl
      go false = dropped_weaker book (first_done book.entries)
