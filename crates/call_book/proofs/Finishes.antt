-- A Finish that is answered Finished.
use Rattle.std.proofs.Common.{◌≡◌, ℕ, Bool, true, false, not, ◌&&◌, ◌==◌, nat_lt, if◌then◌else◌, List, length, Option, Some, None, refl, sym, ap, subst, ◌∙◌}
use Rattle.std.specs.Prelude.{option_map}
use Rattle.std.specs.Ordering.{is_eq, nat_cmp}
use Rattle.http_edge.specs.declared.message.HttpResponse.{HttpResponse}
use Rattle.actor_names.specs.declared.member.Member.{Member}
use Rattle.call_book.specs.declared.lane.LaneName.{LaneName}
use Rattle.call_book.specs.declared.entry.CallStage.{CallStage}
use Rattle.call_book.specs.declared.entry.CallStage.TheVariants as stages
use Rattle.call_book.specs.declared.entry.CallEntry.{CallEntry}
use Rattle.call_book.specs.Lanes.{lane_of, lane_cmp, lane_at, has_boot}
use Rattle.call_book.specs.Entries.{stage_of, is_done, at_call, is_at, entry_at, at_stage, with_stage}
use Rattle.call_book.specs.Book.{CallBookState, runs, is_running, finished}
use Rattle.call_book.specs.Histories.{is_call, first_of, stage_by}
use Rattle.call_book.proofs.Ties.{same_name, tie_back, number_back, at_call-is, is_eq-then, is_eq-nat_cmp, is_call-tie, is_call-same}
use Rattle.call_book.proofs.Finds.{found-map}
use Rattle.lists_and_limits.proofs.Maps.{found-is}
use Rattle.call_book.proofs.Status.{Status, Has, status, Tells, lane_has, lane_else, same_status}

pub both_true : (a b : Bool) → (a && b) ≡ true → (a ≡ true) × (b ≡ true)
both_true true true h = (refl, refl)
both_true true false h = absurd (cc)
both_true false b h = absurd (cc)

keeps_place : (name its : LaneName) (number its_number : ℕ) (stage : CallStage) (x : CallEntry) → is_eq (at_call name number (at_stage its its_number stage x)) ≡ is_eq (at_call name number x)
keeps_place name its number its_number stage x = go (is_at its its_number x)
  where
    go : (b : Bool) → is_eq (at_call name number (if b then record x { stage = stage } else x)) ≡ is_eq (at_call name number x)
    go true = refl
    go false = refl

pub entry_at-stage : (name its : LaneName) (number its_number : ℕ) (stage : CallStage) (entries : List CallEntry) → entry_at name number (with_stage its its_number stage entries) ≡ option_map (at_stage its its_number stage) (entry_at name number entries)
entry_at-stage name its number its_number stage entries = found-map (at_call name number) (at_stage its its_number stage) entries (keeps_place name its number its_number stage)

running_stage : (stage : CallStage) → not (is_done stage) ≡ true → stage ≡ stages.Running
running_stage stages.Running h = refl
running_stage (stages.Kept response) h = absurd (cc)
running_stage (stages.Gone status) h = absurd (cc)

-- the entry that runs
runs_is : (e : Option CallEntry) → runs e ≡ true → (x : CallEntry) × (e ≡ Some x) × (x.stage ≡ stages.Running)
runs_is None h = absurd (cc)
runs_is (Some x) h = (x, refl, running_stage x.stage h)

-- a call without a response isn't done
never : (b : Bool) (response : HttpResponse) → stages.Running ≡ (if b then stages.Gone response.status else stages.Kept response) → ⊥
never true response k = cc
never false response k = cc

not_done : (r : Option HttpResponse) → stages.Running ≡ stage_by r → r ≡ None
not_done None h = refl
not_done (Some response) h = absurd (never (nat_lt 65536 (length response.body)) response h)

module _ (origin : Member) (part number : ℕ) (book : CallBookState) (other : Member) (its_part its_number : ℕ) (response : HttpResponse) where
  abbrev mine : LaneName
  mine = lane_of origin part

  abbrev its : LaneName
  its = lane_of other its_part

  abbrev stage : CallStage
  stage = stage_of response

  abbrev after : CallBookState
  after = finished book other its_part its_number response

  -- the call that is finished ran, and is done now
  this_done : is_running book other its_part its_number ≡ true → (status book other its_part its_number ≡ Has stages.Running) × (status after other its_part its_number ≡ Has stage)
  this_done h =
      let both = both_true (has_boot (lane_at its book.lanes) other.boot) (runs (entry_at its its_number book.entries)) h in
      let e = runs_is (entry_at its its_number book.entries) both.1 in
      let at : is_at its its_number e.0 ≡ true = found-is (at_call its its_number) e.0 book.entries e.1 in
      let changed : entry_at its its_number after.entries ≡ Some (at_stage its its_number stage e.0) = entry_at-stage its its its_number its_number stage book.entries ∙ ap (option_map (at_stage its its_number stage)) e.1 in
      let now : (at_stage its its_number stage e.0).stage ≡ stage = rw at refl in (
        lane_has other.boot its_number (lane_at its book.lanes) (entry_at its its_number book.entries) e.0 both.0 e.1 ∙ ap Has e.2,
        lane_has other.boot its_number (lane_at its book.lanes) (entry_at its its_number after.entries) (at_stage its its_number stage e.0) both.0 changed ∙ ap Has now,
      )

  -- a call in another place is as it was
  else_place : (is_eq (lane_cmp mine its) && (number == its_number)) ≡ false → status after origin part number ≡ status book origin part number
  else_place apart = rw (entry_at-stage mine its number its_number stage book.entries, go (entry_at mine number book.entries) refl) refl
    where
      go : (e : Option CallEntry) → entry_at mine number book.entries ≡ e → option_map (at_stage its its_number stage) e ≡ e
      go None h = refl
      go (Some x) h =
          let same = at_call-is mine number x (found-is (at_call mine number) x book.entries h) in
          let test : is_at its its_number x ≡ false = is_eq-then (lane_cmp x.lane its) (nat_cmp x.number its_number) ∙ rw (same.0, same.1, is_eq-nat_cmp number its_number) apart in
          rw test refl

  -- nor does it matter to one of another boot
  else_boot : has_boot (lane_at mine book.lanes) other.boot ≡ true → (other.boot == origin.boot) ≡ false → status after origin part number ≡ status book origin part number
  else_boot has apart = lane_else origin.boot other.boot number (lane_at mine book.lanes) (entry_at mine number after.entries) (entry_at mine number book.entries) has apart

  other_same : is_running book other its_part its_number ≡ true → is_call origin part number other its_part its_number ≡ false → status after origin part number ≡ status book origin part number
  other_same runs_now apart = go (is_eq (lane_cmp its mine)) (its_number == number) (other.boot == origin.boot) refl refl refl
    where
      has : has_boot (lane_at its book.lanes) other.boot ≡ true
      has = (both_true (has_boot (lane_at its book.lanes) other.boot) (runs (entry_at its its_number book.entries)) runs_now).0

      go : (t n b : Bool) → is_eq (lane_cmp its mine) ≡ t → (its_number == number) ≡ n → (other.boot == origin.boot) ≡ b → status after origin part number ≡ status book origin part number
      go false n b e f g = else_place (rw (tie_back mine its, e) refl)
      go true false b e f g = else_place (rw (tie_back mine its, e, number_back number its_number, f) refl)
      go true true false e f g = else_boot (subst (λ (z : LaneName). has_boot (lane_at z book.lanes) other.boot ≡ true) (same_name its mine e) has) g
      go true true true e f g = absurd (let k : is_call origin part number other its_part its_number ≡ true = is_call-tie origin part number other its_part its_number ∙ rw (e, f, g) refl in cc)

  pub finish_tells : is_running book other its_part its_number ≡ true → (n : ℕ) (r : Option HttpResponse) → Tells (status book origin part number) n r → Tells (status after origin part number) n (first_of origin part number r (if is_call origin part number other its_part its_number then Some response else None))
  finish_tells h n r told = go (is_call origin part number other its_part its_number) refl
    where
      none_after : (o : Option HttpResponse) → first_of origin part number o None ≡ o
      none_after None = refl
      none_after (Some x) = refl

      go : (c : Bool) → is_call origin part number other its_part its_number ≡ c → Tells (status after origin part number) n (first_of origin part number r (if c then Some response else None))
      go false c = rw (other_same h c, none_after r) told
      go true c =
          let same = is_call-same origin part number other its_part its_number c in
          let done = this_done h in
          let before : status book origin part number ≡ Has stages.Running = sym (same_status book mine its origin.boot other.boot number its_number same.0 same.2 same.1) ∙ done.0 in
          let now : status after origin part number ≡ Has stage = sym (same_status after mine its origin.boot other.boot number its_number same.0 same.2 same.1) ∙ done.1 in
          let was = subst (λ (z : Status). Tells z n r) before told in
          let none : r ≡ None = not_done r was.1 in
          rw none (subst (λ (z : Status). Tells z n (Some response)) (sym now) (was.0, refl))
