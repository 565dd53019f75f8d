-- What each legal history of a book says of one call.
use Rattle.std.proofs.Common.{◌≡◌, ℕ, suc, ◌+◌, ◌≤◌, Bool, true, false, ◌&&◌, ◌==◌, nat_lt, nat_le, if◌then◌else◌, [], ◌∷◌, ◌++◌, length, Option, Some, None, refl, sym, ap, subst, ◌∙◌, arith}
use Rattle.std.specs.Prelude.{is_some}
use Rattle.http_edge.specs.declared.message.HttpResponse.{HttpResponse}
use Rattle.actor_names.specs.declared.member.Member.{Member}
use Rattle.step_gate.specs.declared.view.HistoryEntry.{HistoryEntry}
use Rattle.step_gate.specs.History.{HistoryLeadsTo}
use Rattle.call_book.specs.declared.lane.CallLane.{CallLane}
use Rattle.call_book.specs.declared.entry.CallStage.{CallStage}
use Rattle.call_book.specs.declared.entry.CallEntry.{CallEntry}
use Rattle.call_book.specs.declared.event.BookEvent.{BookEvent}
use Rattle.call_book.specs.declared.event.BookEvent.TheVariants as events
use Rattle.call_book.specs.declared.event.BookReply.{BookReply}
use Rattle.call_book.specs.declared.event.BookReply.TheVariants as replies
use Rattle.call_book.specs.Lanes.{lane_of, lane_at, has_boot, floor_of}
use Rattle.call_book.specs.Entries.{entry_at}
use Rattle.call_book.specs.Replies.{stage_reply, TakesMemory, IsAnswer}
use Rattle.call_book.specs.Book.{CallBookState, new_book, lane_refusal, begin_reply, begun, begin_step, is_running, finished, call_book_step, is_kept}
use Rattle.call_book.specs.Machine.{IsStepOf, BookMoves}
use Rattle.call_book.specs.Histories.{BookHistory, LeadsTo, is_new, times_new, response_in, first_of, response_of, stage_by, repeat_reply, IsTooLate}
use Rattle.call_book.proofs.Status.{Status, Fresh, Has, Past, by_lane, status, Tells, tells_most, lane_has}
use Rattle.call_book.proofs.Begins.{begin_tells}
use Rattle.call_book.proofs.Finishes.{finish_tells, both_true}
use Rattle.std.proofs.lemmas.Bool.Decides.{nat_tests}

-- ---- one step, by its answer

says_new : BookReply → Bool
says_new replies.New = true
says_new reply = false

-- the answer and the book are those of the step, or nothing changed and nothing was told
data Comes (step : BookReply × CallBookState) (old : CallBookState) (reply : BookReply) (next : CallBookState) : Type 0 where
  Wants : (reply ≡ replies.OutOfMemory) → (next ≡ old) → Comes step old reply next
  Gives : (reply ≡ step.0) → (next ≡ step.1) → Comes step old reply next

comes : (step : BookReply × CallBookState) (old : CallBookState) (reply : BookReply) (next : CallBookState) → IsStepOf step old reply next → Comes step old reply next
comes step old replies.New next h = Gives h.0 h.1
comes step old replies.Running next h = Gives h.0 h.1
comes step old (replies.Kept response) next h = Gives h.0 h.1
comes step old (replies.Gone code) next h = Gives h.0 h.1
comes step old (replies.TooOld floor) next h = Gives h.0 h.1
comes step old (replies.OldBoot greatest) next h = Gives h.0 h.1
comes step old (replies.LanesFull n) next h = Gives h.0 h.1
comes step old (replies.BookFull running) next h = Gives h.0 h.1
comes step old replies.Finished next h = Gives h.0 h.1
comes step old replies.NotBegun next h = Gives h.0 h.1
comes step old replies.OutOfMemory next h = Wants refl h.1

-- a Begin gives its answer, and changes the book only if that is New
data Begins (r : BookReply) (after old : CallBookState) : Type 0 where
  Begun : (r ≡ replies.New) → (begin_step r after old ≡ (replies.New, after)) → Begins r after old
  Stays : (says_new r ≡ false) → (begin_step r after old ≡ (r, old)) → Begins r after old

begins : (r : BookReply) (after old : CallBookState) → Begins r after old
unfolding says_new
begins replies.New after old = Begun refl refl
begins replies.Running after old = Stays refl refl
begins (replies.Kept response) after old = Stays refl refl
begins (replies.Gone code) after old = Stays refl refl
begins (replies.TooOld floor) after old = Stays refl refl
begins (replies.OldBoot greatest) after old = Stays refl refl
begins (replies.LanesFull n) after old = Stays refl refl
begins (replies.BookFull running) after old = Stays refl refl
begins replies.Finished after old = Stays refl refl
begins replies.NotBegun after old = Stays refl refl
begins replies.OutOfMemory after old = Stays refl refl

module _ (origin : Member) (part number : ℕ) where
  none_after : (r : Option HttpResponse) → first_of origin part number r None ≡ r
  none_after None = refl
  none_after (Some x) = refl

  first_assoc : (a b c : Option HttpResponse) → first_of origin part number (first_of origin part number a b) c ≡ first_of origin part number a (first_of origin part number b c)
  first_assoc None b c = refl
  first_assoc (Some x) b c = refl

  not_new : (event : BookEvent) (reply : BookReply) → says_new reply ≡ false → is_new origin part number event reply ≡ false
  unfolding says_new
  not_new (events.Begin other its_part its_number) replies.New h = absurd (cc)
  not_new (events.Begin other its_part its_number) replies.Running h = refl
  not_new (events.Begin other its_part its_number) (replies.Kept response) h = refl
  not_new (events.Begin other its_part its_number) (replies.Gone code) h = refl
  not_new (events.Begin other its_part its_number) (replies.TooOld floor) h = refl
  not_new (events.Begin other its_part its_number) (replies.OldBoot greatest) h = refl
  not_new (events.Begin other its_part its_number) (replies.LanesFull n) h = refl
  not_new (events.Begin other its_part its_number) (replies.BookFull running) h = refl
  not_new (events.Begin other its_part its_number) replies.Finished h = refl
  not_new (events.Begin other its_part its_number) replies.NotBegun h = refl
  not_new (events.Begin other its_part its_number) replies.OutOfMemory h = refl
  not_new (events.Finish other its_part its_number response) reply h = refl

  -- what is told after a step
  abbrev TellsAfter : CallBookState → BookEvent → BookReply → ℕ → Option HttpResponse → Type 0
  TellsAfter next event reply n r = Tells (status next origin part number) (if is_new origin part number event reply then suc n else n) (first_of origin part number r (response_in origin part number event reply))

  module _ (book : CallBookState) (n : ℕ) (r : Option HttpResponse) (told : Tells (status book origin part number) n r) where
    -- a step that isn't answered New or Finished changes nothing
    begin_stays : (other : Member) (its_part its_number : ℕ) (reply : BookReply) (next : CallBookState) → says_new reply ≡ false → next ≡ book → TellsAfter next (events.Begin other its_part its_number) reply n r
    begin_stays other its_part its_number reply next silent same =
        let quiet : is_new origin part number (events.Begin other its_part its_number) reply ≡ false = not_new (events.Begin other its_part its_number) reply silent in
        rw (same, quiet, none_after r) told

    begin_step_tells : (other : Member) (its_part its_number : ℕ) (reply : BookReply) (next : CallBookState) → BookMoves book (events.Begin other its_part its_number) reply next → TellsAfter next (events.Begin other its_part its_number) reply n r
    unfolding says_new
    begin_step_tells other its_part its_number reply next h = go (begins answer after book) (comes (begin_step answer after book) book reply next h)
      where
        answer : BookReply
        answer = begin_reply book other its_part its_number

        after : CallBookState
        after = begun book other its_part its_number

        go : Begins (begin_reply book other its_part its_number) (begun book other its_part its_number) book → Comes (begin_step (begin_reply book other its_part its_number) (begun book other its_part its_number) book) book reply next → TellsAfter next (events.Begin other its_part its_number) reply n r
        go b (Wants said same) = begin_stays other its_part its_number reply next (ap says_new said) same
        go (Stays silent is) (Gives said same) = begin_stays other its_part its_number reply next (ap says_new (said ∙ ap (λ (p : BookReply × CallBookState). p.0) is) ∙ silent) (same ∙ ap (λ (p : BookReply × CallBookState). p.1) is)
        go (Begun new is) (Gives said same) =
            let told_new : reply ≡ replies.New = said ∙ ap (λ (p : BookReply × CallBookState). p.0) is in
            let next_is : next ≡ begun book other its_part its_number = same ∙ ap (λ (p : BookReply × CallBookState). p.1) is in
            rw (told_new, next_is, none_after r) (begin_tells origin part number book other its_part its_number new n r told)

    finish_step_tells : (other : Member) (its_part its_number : ℕ) (response : HttpResponse) (reply : BookReply) (next : CallBookState) → BookMoves book (events.Finish other its_part its_number response) reply next → TellsAfter next (events.Finish other its_part its_number response) reply n r
    finish_step_tells other its_part its_number response reply next h = go (is_running book other its_part its_number) refl (comes (call_book_step book (events.Finish other its_part its_number response)) book reply next h)
      where
        go : (b : Bool) → is_running book other its_part its_number ≡ b → Comes (if b then (replies.Finished, finished book other its_part its_number response) else (replies.NotBegun, book)) book reply next → TellsAfter next (events.Finish other its_part its_number response) reply n r
        go b e (Wants said same) = rw (said, same, none_after r) told
        go false e (Gives said same) = rw (said, same, none_after r) told
        go true e (Gives said same) = rw (said, same) (finish_tells origin part number book other its_part its_number response e n r told)

    step_tells : (event : BookEvent) (reply : BookReply) (next : CallBookState) → BookMoves book event reply next → TellsAfter next event reply n r
    step_tells (events.Begin other its_part its_number) reply next h = begin_step_tells other its_part its_number reply next h
    step_tells (events.Finish other its_part its_number response) reply next h = finish_step_tells other its_part its_number response reply next h

  -- ---- a whole history

  count_more : (b : Bool) (n t : ℕ) → (if b then suc n else n) + t ≡ n + (if b then suc t else t)
  count_more true n t = omega arith
  count_more false n t = refl

  run_tells : (es : BookHistory) (book last : CallBookState) (n : ℕ) (r : Option HttpResponse) → Tells (status book origin part number) n r → HistoryLeadsTo BookMoves book es last → Tells (status last origin part number) (n + times_new origin part number es) (first_of origin part number r (response_of origin part number es))
  run_tells [] book last n r told same =
      let zero_more : n + 0 ≡ n = omega arith in
      rw (← same, zero_more, none_after r) told
  run_tells (e ∷ es) book last n r told h =
      let more = run_tells es h.0 last (if is_new origin part number e.event e.reply then suc n else n) (first_of origin part number r (response_in origin part number e.event e.reply)) (step_tells book n r told e.event e.reply h.0 h.1) h.2 in
      let counted = count_more (is_new origin part number e.event e.reply) n (times_new origin part number es) in
      let answered = first_assoc r (response_in origin part number e.event e.reply) (response_of origin part number es) in
      subst (λ (k : ℕ). Tells (status last origin part number) k (first_of origin part number r (first_of origin part number (response_in origin part number e.event e.reply) (response_of origin part number es)))) counted
      (subst (λ (o : Option HttpResponse). Tells (status last origin part number) ((if is_new origin part number e.event e.reply then suc n else n) + times_new origin part number es) o) answered more)

  -- what a history from the empty book says of the call
  pub history_tells : (es : BookHistory) (book : CallBookState) → LeadsTo es book → Tells (status book origin part number) (times_new origin part number es) (response_of origin part number es)
  history_tells es book h =
      let none_before : 0 + times_new origin part number es ≡ times_new origin part number es = omega arith in
      subst (λ (k : ℕ). Tells (status book origin part number) k (response_of origin part number es)) none_before (run_tells es new_book book 0 None (refl, refl) h)

  -- ---- the promise

  pub new_once : (es : BookHistory) (book : CallBookState) → LeadsTo es book → times_new origin part number es ≤ 1
  new_once es book h = tells_most (status book origin part number) (times_new origin part number es) (response_of origin part number es) (history_tells es book h)

  -- the entry of a call that is kept
  kept_is : (book : CallBookState) → is_kept book origin part number ≡ true → (e : CallEntry) × (entry_at (lane_of origin part) number book.entries ≡ Some e) × (has_boot (lane_at (lane_of origin part) book.lanes) origin.boot ≡ true)
  kept_is book h = let both = both_true (has_boot (lane_at (lane_of origin part) book.lanes) origin.boot) (is_some (entry_at (lane_of origin part) number book.entries)) h in go (entry_at (lane_of origin part) number book.entries) refl both.1 both.0
    where
      go : (o : Option CallEntry) → entry_at (lane_of origin part) number book.entries ≡ o → is_some o ≡ true → has_boot (lane_at (lane_of origin part) book.lanes) origin.boot ≡ true → (e : CallEntry) × (entry_at (lane_of origin part) number book.entries ≡ Some e) × (has_boot (lane_at (lane_of origin part) book.lanes) origin.boot ≡ true)
      go None is there has = absurd (cc)
      go (Some e) is there has = (e, is, has)

  kept_status : (book : CallBookState) (e : CallEntry) → entry_at (lane_of origin part) number book.entries ≡ Some e → has_boot (lane_at (lane_of origin part) book.lanes) origin.boot ≡ true → status book origin part number ≡ Has e.stage
  kept_status book e is has = lane_has origin.boot number (lane_at (lane_of origin part) book.lanes) (entry_at (lane_of origin part) number book.entries) e has is

  kept_tells : (es : BookHistory) (book : CallBookState) → LeadsTo es book → (e : CallEntry) → entry_at (lane_of origin part) number book.entries ≡ Some e → has_boot (lane_at (lane_of origin part) book.lanes) origin.boot ≡ true → (times_new origin part number es ≡ 1) × (e.stage ≡ stage_by (response_of origin part number es))
  kept_tells es book h e is has = subst (λ (z : Status). Tells z (times_new origin part number es) (response_of origin part number es)) (kept_status book e is has) (history_tells es book h)

  pub kept_begun : (es : BookHistory) (book : CallBookState) → LeadsTo es book → is_kept book origin part number ≡ true → times_new origin part number es ≡ 1
  kept_begun es book h kept = let k = kept_is book kept in (kept_tells es book h k.0 k.1 k.2).0

  not_less : (its : ℕ) → (its == origin.boot) ≡ true → nat_lt origin.boot its ≡ false
  not_less its is = grind (arith, nat_tests)

  not_refused : (lane : Option CallLane) (count : ℕ) → has_boot lane origin.boot ≡ true → lane_refusal lane count origin.boot ≡ None
  not_refused None count has = absurd (cc)
  not_refused (Some l) count has = rw (not_less l.boot has) refl

  -- a Begin of a call whose entry is kept is answered by its stage
  kept_reply : (book : CallBookState) (e : CallEntry) → entry_at (lane_of origin part) number book.entries ≡ Some e → has_boot (lane_at (lane_of origin part) book.lanes) origin.boot ≡ true → begin_reply book origin part number ≡ stage_reply e.stage
  kept_reply book e is has = rw (not_refused (lane_at (lane_of origin part) book.lanes) (length book.lanes) has, has, is) refl

  answer_is : (r : BookReply) (after old : CallBookState) → (begin_step r after old).0 ≡ r
  answer_is r after old = go (begins r after old)
    where
      go : Begins r after old → (begin_step r after old).0 ≡ r
      go (Begun new is) = ap (λ (p : BookReply × CallBookState). p.0) is ∙ sym new
      go (Stays silent is) = ap (λ (p : BookReply × CallBookState). p.0) is

  answers : (step : BookReply × CallBookState) (old : CallBookState) (reply : BookReply) (next : CallBookState) → IsStepOf step old reply next → IsAnswer step.0 reply
  answers step old replies.New next h = h.0
  answers step old replies.Running next h = h.0
  answers step old (replies.Kept response) next h = h.0
  answers step old (replies.Gone code) next h = h.0
  answers step old (replies.TooOld floor) next h = h.0
  answers step old (replies.OldBoot greatest) next h = h.0
  answers step old (replies.LanesFull n) next h = h.0
  answers step old (replies.BookFull running) next h = h.0
  answers step old replies.Finished next h = h.0
  answers step old replies.NotBegun next h = h.0
  answers step old replies.OutOfMemory next h = h.0

  pub kept_answer : (es : BookHistory) (book next : CallBookState) (reply : BookReply) → LeadsTo es book → is_kept book origin part number ≡ true → BookMoves book (events.Begin origin part number) reply next → IsAnswer (repeat_reply (response_of origin part number es)) reply
  kept_answer es book next reply h kept moved =
      let k = kept_is book kept in
      let told = kept_tells es book h k.0 k.1 k.2 in
      let expected : (call_book_step book (events.Begin origin part number)).0 ≡ repeat_reply (response_of origin part number es) = answer_is (begin_reply book origin part number) (begun book origin part number) book ∙ kept_reply book k.0 k.1 k.2 ∙ ap stage_reply told.1 in
      subst (λ (z : BookReply). IsAnswer z reply) expected (answers (call_book_step book (events.Begin origin part number)) book reply next moved)

  -- ---- a call whose entry is gone

  late_answer : (step : BookReply × CallBookState) (old : CallBookState) (reply : BookReply) (next : CallBookState) → IsTooLate step.0 → IsStepOf step old reply next → IsTooLate reply
  late_answer step old reply next late h = go (comes step old reply next h) h
    where
      wants : (answer : BookReply) → IsTooLate answer → TakesMemory answer → ⊥
      wants (replies.TooOld floor) l m = m
      wants (replies.OldBoot greatest) l m = m
      wants replies.New l m = l
      wants replies.Running l m = l
      wants (replies.Kept response) l m = l
      wants (replies.Gone code) l m = l
      wants (replies.LanesFull n) l m = l
      wants (replies.BookFull running) l m = l
      wants replies.Finished l m = l
      wants replies.NotBegun l m = l
      wants replies.OutOfMemory l m = l

      go : Comes step old reply next → IsStepOf step old reply next → IsTooLate reply
      go (Wants said same) moved =
          let at : IsStepOf step old replies.OutOfMemory next = subst (λ (z : BookReply). IsStepOf step old z next) said moved in
          absurd (wants step.0 late at.0)
      go (Gives said same) moved = subst IsTooLate (sym said) late

  -- a call that never begins again, by its lane
  past_late : (book : CallBookState) → status book origin part number ≡ Past → IsTooLate (begin_reply book origin part number)
  past_late book h = go (lane_at (lane_of origin part) book.lanes) refl
    where
      fresh_past : Fresh ≡ Past → ⊥
      fresh_past e = cc

      has_past : (e : CallEntry) → Has e.stage ≡ Past → ⊥
      has_past e k = cc

      greater : (its mine : ℕ) → nat_lt its mine ≡ false → (its == mine) ≡ false → nat_lt mine its ≡ true
      greater its mine a b = grind (arith, nat_tests)

      go : (lane : Option CallLane) → lane_at (lane_of origin part) book.lanes ≡ lane → IsTooLate (begin_reply book origin part number)
      go None is = absurd (fresh_past (rw is at h))
      go (Some l) is = step (nat_lt l.boot origin.boot) (l.boot == origin.boot) (entry_at (lane_of origin part) number book.entries) (nat_le number l.floor) refl refl refl refl (rw is at h)
        where
          step : (less same : Bool) (e : Option CallEntry) (low : Bool) → nat_lt l.boot origin.boot ≡ less → (l.boot == origin.boot) ≡ same → entry_at (lane_of origin part) number book.entries ≡ e → nat_le number l.floor ≡ low → by_lane origin.boot number (Some l) (entry_at (lane_of origin part) number book.entries) ≡ Past → IsTooLate (begin_reply book origin part number)
          step true same e low a b d f k = absurd (fresh_past (rw a at k))
          step false true (Some e) low a b d f k = absurd (has_past e (rw (a, b, d) at k))
          step false true None false a b d f k = absurd (fresh_past (rw (a, b, d, f) at k))
          step false true None true a b d f k =
              let has : has_boot (lane_at (lane_of origin part) book.lanes) origin.boot ≡ true = rw is b in
              let below : nat_le number (floor_of (lane_at (lane_of origin part) book.lanes)) ≡ true = rw is f in
              rw (not_refused (lane_at (lane_of origin part) book.lanes) (length book.lanes) has, has, d, below) tt
          step false false e low a b d f k =
              let refused : lane_refusal (lane_at (lane_of origin part) book.lanes) (length book.lanes) origin.boot ≡ Some (replies.OldBoot l.boot) = rw (is, greater l.boot origin.boot a b) refl in
              rw refused tt

  past_if_gone : (book : CallBookState) (r : Option HttpResponse) → is_kept book origin part number ≡ false → (n : ℕ) → n ≡ 1 → Tells (status book origin part number) n r → status book origin part number ≡ Past
  past_if_gone book r gone n once told = go (status book origin part number) refl told
    where
      kept_has : (lane : Option CallLane) (e : Option CallEntry) (stage : CallStage) → by_lane origin.boot number lane e ≡ Has stage → (has_boot lane origin.boot && is_some e) ≡ true
      kept_has None e stage k = absurd (cc)
      kept_has (Some l) e stage k = step (nat_lt l.boot origin.boot) (l.boot == origin.boot) e (nat_le number l.floor) refl refl refl k
        where
          step : (less same : Bool) (o : Option CallEntry) (low : Bool) → nat_lt l.boot origin.boot ≡ less → (l.boot == origin.boot) ≡ same → nat_le number l.floor ≡ low → by_lane origin.boot number (Some l) o ≡ Has stage → ((l.boot == origin.boot) && is_some o) ≡ true
          step true same o low a b f k = absurd (let m : Fresh ≡ Has stage = rw a at k in cc)
          step false false o low a b f k = absurd (let m : Past ≡ Has stage = rw (a, b) at k in cc)
          step false true None true a b f k = absurd (let m : Past ≡ Has stage = rw (a, b, f) at k in cc)
          step false true None false a b f k = absurd (let m : Fresh ≡ Has stage = rw (a, b, f) at k in cc)
          step false true (Some e) low a b f k = rw b refl

      go : (s : Status) → status book origin part number ≡ s → Tells s n r → status book origin part number ≡ Past
      go Fresh is t = absurd (let z = t.0 in omega arith)
      go (Has stage) is t = absurd (let k = kept_has (lane_at (lane_of origin part) book.lanes) (entry_at (lane_of origin part) number book.entries) stage is in cc)
      go Past is t = is

  pub gone_answer : (es : BookHistory) (book next : CallBookState) (reply : BookReply) → LeadsTo es book → times_new origin part number es ≡ 1 → is_kept book origin part number ≡ false → BookMoves book (events.Begin origin part number) reply next → IsTooLate reply
  gone_answer es book next reply h once gone moved =
      let past = past_if_gone book (response_of origin part number es) gone (times_new origin part number es) once (history_tells es book h) in
      let late : IsTooLate (call_book_step book (events.Begin origin part number)).0 = subst IsTooLate (sym (answer_is (begin_reply book origin part number) (begun book origin part number) book)) (past_late book past) in
      late_answer (call_book_step book (events.Begin origin part number)) book reply next late moved

-- a history and one more step
pub leads_snoc : (es : BookHistory) (from book next : CallBookState) (e : HistoryEntry BookEvent BookReply) → HistoryLeadsTo BookMoves from es book → BookMoves book e.event e.reply next → HistoryLeadsTo BookMoves from (es ++ e ∷ []) next
leads_snoc [] from book next e same moved = (next, subst (λ (z : CallBookState). BookMoves z e.event e.reply next) (sym same) moved, refl)
leads_snoc (x ∷ es) from book next e h moved = (h.0, h.1, leads_snoc es h.0 book next e h.2 moved)
