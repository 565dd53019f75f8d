-- A store over a list of events.
use Rattle.std.proofs.Common.{◌≡◌, inl, inr, ℕ, Bool, true, false, List, [], ◌∷◌, Option, Some, None, refl, sym, ◌∙◌, ap, subst}
use Rattle.std.specs.Prelude.{if◌then◌else◌, option_and_then}
use Rattle.disk_model.proofs.Stages.{told_before, tells_map_at, tells_map, tells_same}
use Rattle.frame_wire.specs.declared.store_answer.StoreAnswer.{StoreAnswer}
use Rattle.frame_wire.specs.declared.store_answer.StoreAnswer.TheVariants.{Refused}
use Rattle.frame_wire.specs.declared.store_refusal.StoreRefusal.{StoreRefusal}
use Rattle.frame_wire.specs.declared.store_refusal.StoreRefusal.TheVariants as refusals
use Rattle.store_tables.specs.Tables.{Tables, Outcome, Told, Accepted}
use Rattle.store_tables.specs.Contents.{Timed, outcome_of, accepted_in, after_accepted}
use Rattle.store_payloads.specs.Payloads.{command_payload}
use Rattle.tx_journal.specs.declared.error.JournalError.{JournalError}
use Rattle.tx_journal.specs.declared.error.JournalError.TheVariants as errors
use Rattle.tx_journal.specs.Pair.{Files, LeavesOpened, SinceOpened}
use Rattle.tx_journal.specs.Calls.{told, append_refusal}
use Rattle.store_core.specs.declared.events.CompactEnd.{CompactEnd}
use Rattle.store_core.specs.declared.events.CompactEnd.TheVariants.{Failed}
use Rattle.store_core.specs.declared.events.StoreEvent.{StoreEvent}
use Rattle.store_core.specs.declared.events.StoreEvent.TheVariants.{Command, Compact}
use Rattle.store_core.specs.declared.events.StoreOutcome.{StoreOutcome}
use Rattle.store_core.specs.declared.events.StoreOutcome.TheVariants.{Answer, CompactIs}
use Rattle.store_core.specs.Contents.{OpensWith, OpensWithEither}
use Rattle.store_core.specs.Store.{StoreState, Leaves, Risks, Rests, IsDone, HasFailed, Writes, Goes, Moves}
use Rattle.store_core.specs.Compacts.{RisksNothing, EndsAs, compact_refusal, Compacts}
use Rattle.store_core.specs.Events.{Allows}
use Rattle.store_core.specs.Runs.{Entry, is_refusal, acknowledged_by, acknowledged_in, acknowledged, or_same, after_all, under_way, is_fault, maybe_left, Stands, RisksOne, RisksEach, KeepsAcknowledged}
use Rattle.store_core.proofs.Claims.{leaves_weaker, since_opened_weaker, since_same}
use Rattle.tx_journal.proofs.Claims.{opened_now}
use Rattle.store_core.proofs.Accepted.{accepted_plain, append_led, below_or}

true_or_false : (b : Bool) → (P : Type 0) → (b ≡ true → P) → (b ≡ false → P) → P
true_or_false true P t f = t refl
true_or_false false P t f = f refl

-- a step that changes nothing, on files that open with the contents
rest_risks : (after : Tables) (old new : StoreState) → Rests old new → Risks after old new
rest_risks after old new rests =
    tells_map_at (λ f g. g ≡ f) (SinceOpened (OpensWithEither old.contents after)) (told old.journal) (told new.journal)
    (λ f g tells same.
    subst (λ h. SinceOpened (OpensWithEither old.contents after) f h) (sym same)
    (since_same (OpensWithEither old.contents after) f (leaves_weaker (OpensWith old.contents) (OpensWithEither old.contents after) f (λ r is. inl is) (rests.1 f tells))))
    (tells_same (λ f g. g ≡ f) (told old.journal) (told new.journal) (λ f. refl) (ap (λ (s : StoreState). told s.journal) rests.0))

-- ---- one command

writes_risks : (r : Option JournalError) (payload : List ℕ) (given : StoreAnswer) (after : Tables) (old : StoreState) (answer : StoreAnswer) (new : StoreState) → Writes r payload given after old answer new → Risks after old new
writes_risks None payload given after old answer new (inl done) = done.risks
writes_risks None payload given after old answer new (inr failed) = failed.risks
writes_risks (Some (errors.TooLong n)) payload given after old answer new w = rest_risks after old new w.1
writes_risks (Some (errors.Full len)) payload given after old answer new w = rest_risks after old new w.1
writes_risks (Some errors.Reopen) payload given after old answer new w = absurd w
writes_risks (Some errors.DiskFault) payload given after old answer new w = absurd w
writes_risks (Some (errors.Damaged offset)) payload given after old answer new w = absurd w
writes_risks (Some errors.NotStarted) payload given after old answer new w = absurd w
writes_risks (Some errors.OneDisk) payload given after old answer new w = absurd w
writes_risks (Some (errors.Spent count)) payload given after old answer new w = absurd w
writes_risks (Some errors.OutOfMemory) payload given after old answer new w = absurd w

-- what an outcome is about to leave
abbrev leaving : Tables → Outcome → Tables
leaving t o = or_same t (accepted_in o)

goes_risks : (o : Outcome) (c : Timed) (old : StoreState) (answer : StoreAnswer) (new : StoreState) → Goes o c old answer new → Risks (leaving old.contents o) old new
goes_risks (Told given) c old answer new goes = rest_risks old.contents old new goes.1
goes_risks (Accepted given after) c old answer new goes = writes_risks (append_refusal old.journal (command_payload c)) (command_payload c) given after old answer new goes

pub moves_risks : (c : Timed) (old : StoreState) (answer : StoreAnswer) (new : StoreState) → Moves old c answer new → old.journal.is_broken ≡ false → Risks (leaving old.contents (outcome_of old.contents c)) old new
moves_risks c old answer new moves works = elim (moves.works works) [
  | inl ran ↦ rest_risks (leaving old.contents (outcome_of old.contents c)) old new ran.2
  | inr goes ↦ goes_risks (outcome_of old.contents c) c old answer new goes
]

-- ---- one compaction

nothing_risks : (old new : StoreState) → RisksNothing old new → Risks old.contents old new
nothing_risks old new risks =
    tells_map (SinceOpened (OpensWith old.contents)) (SinceOpened (OpensWithEither old.contents old.contents)) (told old.journal) (told new.journal)
    (λ f g since. since_opened_weaker (OpensWith old.contents) (OpensWithEither old.contents old.contents) f g (λ r is. inl is) since) risks

ends_risks : (r : Option JournalError) (now : ℕ) (old : StoreState) (end : CompactEnd) (new : StoreState) → EndsAs r now old end new → Risks old.contents old new
ends_risks None now old end new is = nothing_risks old new is.2.risks
ends_risks (Some e) now old end new is = nothing_risks old new is.1.risks

compacts_risks : (least now : ℕ) (old : StoreState) (end : CompactEnd) (new : StoreState) → Compacts least now old end new → old.journal.is_broken ≡ false → Risks old.contents old new
compacts_risks least now old end new compacts works = elim (below_or old.journal.end least) [
  | inl short ↦ rest_risks old.contents old new (compacts.short works short).1
  | inr long ↦ elim (compacts.works works long) [
    | inl ends ↦ ends_risks (compact_refusal now old) now old end new ends
    | inr other ↦ elim other [
      | inl fault ↦ nothing_risks old new fault.1.risks
      | inr ran ↦ nothing_risks old new ran.1.risks
    ]
  ]
]

-- ---- every step of a run

allows_risks : (old : StoreState) (event : StoreEvent) (outcome : StoreOutcome) (new : StoreState) → Allows old event outcome new → RisksOne old event new
allows_risks old (Command command now) (Answer answer) new allows works = moves_risks (record { now = now; command = command }) old answer new allows.0 works
allows_risks old (Command command now) (CompactIs end) new allows works = absurd allows
allows_risks old (Compact least now) (Answer answer) new allows works = absurd allows
allows_risks old (Compact least now) (CompactIs end) new allows works = compacts_risks least now old end new allows works

pub risks_each : (old : StoreState) (entries : List Entry) → RisksEach old entries
risks_each old [] = tt
risks_each old (entry ∷ entries) = λ mid allows. (allows_risks old entry.0 entry.1 mid allows, risks_each mid entries)

-- ---- what a store stands for

unbroken : (b : Bool) → b ≡ false → b ≡ true → ⊥
unbroken b f t = let e : false ≡ true = sym f ∙ t in cc

stands_whole : (maybe : Tables) (s : StoreState) → s.journal.is_broken ≡ false → Leaves s.contents s → Stands maybe s
stands_whole maybe s works leaves = record { whole = λ same. leaves; fault = λ broken. absurd (unbroken s.journal.is_broken works broken) }

stands_fault : (maybe : Tables) (s : StoreState) → s.journal.is_broken ≡ true → ((files : Files) → told s.journal ≡ Some files → LeavesOpened (OpensWithEither s.contents maybe) files) → Stands maybe s
stands_fault maybe s broken leaves = record { whole = λ works. absurd (unbroken s.journal.is_broken works broken); fault = λ same. leaves }

-- after a fault too, whatever a crash leaves now it may have left since the start
now_risks : (after : Tables) (old new : StoreState) → new.contents ≡ old.contents → Risks after old new → (files : Files) → told new.journal ≡ Some files → LeavesOpened (OpensWithEither new.contents after) files
now_risks after old new same risks files tells =
    let before = told_before (SinceOpened (OpensWithEither old.contents after)) (told old.journal) (told new.journal) files risks tells in
    subst (λ (t : Tables). LeavesOpened (OpensWithEither t after) files) (sym same)
    (opened_now (OpensWithEither old.contents after) before.0.first before.0.second files.first files.second before.2)

-- the commands that an entry acknowledges lead from the contents before to those after
abbrev Leads : Tables → StoreEvent → StoreOutcome → StoreState → Type 0
Leads t event outcome new = after_accepted (acknowledged_in t event outcome) t ≡ Some new.contents

abbrev maybe_by : Tables → StoreEvent → StoreOutcome → Tables → Tables
maybe_by t event outcome maybe = if is_fault outcome then under_way t event else maybe

abbrev Steps : Tables → StoreState → StoreEvent → StoreOutcome → StoreState → Type 0
Steps maybe old event outcome new = Stands (maybe_by old.contents event outcome maybe) new × Leads old.contents event outcome new

module _ (maybe : Tables) (old : StoreState) (stands : Stands maybe old) where
  -- an answer that acknowledges nothing
  nothing_acked : (o : Outcome) (c : Timed) (r : StoreRefusal) → acknowledged_by o c (Refused r) ≡ []
  nothing_acked (Told given) c r = refl
  nothing_acked (Accepted given after) c r = refl

  same_state : (m : Tables) (new : StoreState) → new ≡ old → old.journal.is_broken ≡ false → Stands m new
  same_state m new same works = subst (Stands m) (sym same) (stands_whole m old works (stands.whole works))

  led_same : (cs : List Timed) (new : StoreState) → cs ≡ [] → new.contents ≡ old.contents → after_accepted cs old.contents ≡ Some new.contents
  led_same cs new none same = ap (λ (l : List Timed). after_accepted l old.contents) none ∙ ap (λ (t : Tables). Some t) (sym same)

  module _ (c : Timed) (answer : StoreAnswer) (new : StoreState) where
    abbrev here : StoreEvent
    here = Command c.command c.now

    acked_told : (given : StoreAnswer) (o : Outcome) → o ≡ Told given → acknowledged_by o c answer ≡ []
    acked_told given o is = ap (λ (x : Outcome). acknowledged_by x c answer) is

    step_same : (r : StoreRefusal) → answer ≡ Refused r → new ≡ old → old.journal.is_broken ≡ false → Steps maybe old here (Answer answer) new
    step_same r is same works = (
      same_state (maybe_by old.contents here (Answer answer) maybe) new same works,
      led_same (acknowledged_by (outcome_of old.contents c) c answer) new (ap (acknowledged_by (outcome_of old.contents c) c) is ∙ nothing_acked (outcome_of old.contents c) c r) (ap (λ (s : StoreState). s.contents) same),
    )

    step_reopen : answer ≡ Refused refusals.Reopen → new ≡ old → Steps maybe old here (Answer answer) new
    step_reopen is same = (
      subst (λ (a : StoreAnswer). Stands (maybe_by old.contents here (Answer a) maybe) new) (sym is) (subst (Stands maybe) (sym same) stands),
      led_same (acknowledged_by (outcome_of old.contents c) c answer) new (ap (acknowledged_by (outcome_of old.contents c) c) is ∙ nothing_acked (outcome_of old.contents c) c refusals.Reopen) (ap (λ (s : StoreState). s.contents) same),
    )

    step_told : (given : StoreAnswer) → outcome_of old.contents c ≡ Told given → new ≡ old → old.journal.is_broken ≡ false → Steps maybe old here (Answer answer) new
    step_told given o same works = (
      same_state (maybe_by old.contents here (Answer answer) maybe) new same works,
      led_same (acknowledged_by (outcome_of old.contents c) c answer) new (acked_told given (outcome_of old.contents c) o) (ap (λ (s : StoreState). s.contents) same),
    )

    step_done : (given : StoreAnswer) (after : Tables) → outcome_of old.contents c ≡ Accepted given after → IsDone (command_payload c) given after old answer new → Steps maybe old here (Answer answer) new
    step_done given after o done =
        let acked : acknowledged_by (outcome_of old.contents c) c answer ≡ c ∷ [] =
        ap (λ (x : Outcome). acknowledged_by x c answer) o ∙ ap (λ (a : StoreAnswer). if is_refusal a then [] else c ∷ []) done.answer_ ∙ ap (λ (b : Bool). if b then [] else c ∷ []) (accepted_plain old.contents c given after o) in (
          stands_whole (maybe_by old.contents here (Answer answer) maybe) new done.works (subst (λ (t : Tables). Leaves t new) (sym done.contents) done.leaves),
          ap (λ (l : List Timed). after_accepted l old.contents) acked
              ∙ ap (λ (x : Outcome). option_and_then (λ (u : Tables). Some u) (accepted_in x)) o
              ∙ ap (λ (t : Tables). Some t) (sym done.contents),
        )

    step_failed : (given : StoreAnswer) (after : Tables) → outcome_of old.contents c ≡ Accepted given after → HasFailed after old answer new → Steps maybe old here (Answer answer) new
    step_failed given after o failed =
        let left : after ≡ under_way old.contents here = ap (λ (x : Outcome). or_same old.contents (accepted_in x)) (sym o) in (
          subst (λ (a : StoreAnswer). Stands (maybe_by old.contents here (Answer a) maybe) new) (sym failed.answer_)
              (subst (λ (t : Tables). Stands t new) left (stands_fault after new failed.broken (now_risks after old new failed.contents failed.risks))),
          led_same (acknowledged_by (outcome_of old.contents c) c answer) new (ap (acknowledged_by (outcome_of old.contents c) c) failed.answer_ ∙ nothing_acked (outcome_of old.contents c) c refusals.DiskFault) failed.contents,
        )

    step_writes : (r : Option JournalError) (given : StoreAnswer) (after : Tables) → outcome_of old.contents c ≡ Accepted given after → old.journal.is_broken ≡ false → Writes r (command_payload c) given after old answer new → Steps maybe old here (Answer answer) new
    step_writes None given after o works (inl done) = step_done given after o done
    step_writes None given after o works (inr failed) = step_failed given after o failed
    step_writes (Some (errors.TooLong n)) given after o works w = step_same (refusals.CommandTooLong n) w.0 w.1.0 works
    step_writes (Some (errors.Full len)) given after o works w = step_same (refusals.Full len) w.0 w.1.0 works
    step_writes (Some errors.Reopen) given after o works w = absurd w
    step_writes (Some errors.DiskFault) given after o works w = absurd w
    step_writes (Some (errors.Damaged offset)) given after o works w = absurd w
    step_writes (Some errors.NotStarted) given after o works w = absurd w
    step_writes (Some errors.OneDisk) given after o works w = absurd w
    step_writes (Some (errors.Spent count)) given after o works w = absurd w
    step_writes (Some errors.OutOfMemory) given after o works w = absurd w

    step_goes : (o : Outcome) → outcome_of old.contents c ≡ o → old.journal.is_broken ≡ false → Goes o c old answer new → Steps maybe old here (Answer answer) new
    step_goes (Told given) is works goes = step_told given is goes.1.0 works
    step_goes (Accepted given after) is works goes = step_writes (append_refusal old.journal (command_payload c)) given after is works goes

    step_moves : Moves old c answer new → Steps maybe old here (Answer answer) new
    step_moves moves = true_or_false old.journal.is_broken (Steps maybe old here (Answer answer) new)
        (λ broken. step_reopen (moves.broken broken).0 (moves.broken broken).1)
        (λ works. elim (moves.works works) [
          | inl ran ↦ step_same refusals.OutOfMemory ran.0 ran.2.0 works
          | inr goes ↦ step_goes (outcome_of old.contents c) refl works goes
        ])

  module _ (least now : ℕ) (end : CompactEnd) (new : StoreState) where
    abbrev compact : StoreEvent
    compact = Compact least now

    -- the contents stay, and a crash leaves them
    step_kept : new.contents ≡ old.contents → Leaves old.contents new → Steps maybe old compact (CompactIs end) new
    step_kept same leaves =
        let m = maybe_by old.contents compact (CompactIs end) maybe in
        let either : (files : Files) → told new.journal ≡ Some files → LeavesOpened (OpensWithEither new.contents m) files =
        λ files tells. subst (λ (t : Tables). LeavesOpened (OpensWithEither t m) files) (sym same) (leaves_weaker (OpensWith old.contents) (OpensWithEither old.contents m) files (λ r is. inl is) (leaves files tells)) in (
          record { whole = λ works. subst (λ (t : Tables). Leaves t new) (sym same) leaves; fault = λ broken. either },
          ap (λ (t : Tables). Some t) (sym same),
        )

    step_rests : Rests old new → old.journal.is_broken ≡ false → Steps maybe old compact (CompactIs end) new
    step_rests rests works = (same_state (maybe_by old.contents compact (CompactIs end) maybe) new rests.0 works, ap (λ (s : StoreState). Some s.contents) (sym rests.0))

    step_ends : (r : Option JournalError) → EndsAs r now old end new → Steps maybe old compact (CompactIs end) new
    step_ends None is = step_kept is.2.contents is.2.leaves
    step_ends (Some e) is = step_kept is.1.contents is.1.leaves

    step_broken : end ≡ Failed errors.Reopen → new ≡ old → Steps maybe old compact (CompactIs end) new
    step_broken is same = (
      subst (λ (x : CompactEnd). Stands (maybe_by old.contents compact (CompactIs x) maybe) new) (sym is) (subst (Stands maybe) (sym same) stands),
      ap (λ (s : StoreState). Some s.contents) (sym same),
    )

    step_compacts : Compacts least now old end new → Steps maybe old compact (CompactIs end) new
    step_compacts compacts = true_or_false old.journal.is_broken (Steps maybe old compact (CompactIs end) new)
        (λ broken. step_broken (compacts.broken broken).0 (compacts.broken broken).1)
        (λ works. elim (below_or old.journal.end least) [
          | inl short ↦ step_rests (compacts.short works short).1 works
          | inr long ↦ elim (compacts.works works long) [
            | inl ends ↦ step_ends (compact_refusal now old) ends
            | inr other ↦ elim other [
              | inl fault ↦ step_kept fault.1.contents fault.1.leaves
              | inr ran ↦ step_kept ran.1.contents ran.1.leaves
            ]
          ]
        ])

step_allows : (maybe : Tables) (old : StoreState) (event : StoreEvent) (outcome : StoreOutcome) (new : StoreState) → Stands maybe old → Allows old event outcome new → Steps maybe old event outcome new
step_allows maybe old (Command command now) (Answer answer) new stands allows = step_moves maybe old stands (record { now = now; command = command }) answer new allows.0
step_allows maybe old (Command command now) (CompactIs end) new stands allows = absurd allows
step_allows maybe old (Compact least now) (Answer answer) new stands allows = absurd allows
step_allows maybe old (Compact least now) (CompactIs end) new stands allows = step_compacts maybe old stands least now end new allows

-- ---- runs

pub keeps_acknowledged : KeepsAcknowledged
keeps_acknowledged maybe old new [] stands runs = (subst (Stands maybe) (sym runs) stands, ap (λ (s : StoreState). Some s.contents) (sym runs))
keeps_acknowledged maybe old new (entry ∷ entries) stands runs =
    let step = step_allows maybe old entry.0 entry.1 runs.0 stands runs.1 in
    let after : after_all (acknowledged_in old.contents entry.0 entry.1) old.contents ≡ runs.0.contents = ap (or_same old.contents) step.1 in
    let rest = keeps_acknowledged (maybe_by old.contents entry.0 entry.1 maybe) runs.0 new entries step.0 runs.2 in (
      subst (λ (t : Tables). Stands (maybe_left entries t (maybe_by old.contents entry.0 entry.1 maybe)) new) (sym after) rest.0,
      append_led (acknowledged_in old.contents entry.0 entry.1) (acknowledged entries (after_all (acknowledged_in old.contents entry.0 entry.1) old.contents)) old.contents runs.0.contents new.contents step.1
          (subst (λ (t : Tables). after_accepted (acknowledged entries t) runs.0.contents ≡ Some new.contents) (sym after) rest.1),
    )
