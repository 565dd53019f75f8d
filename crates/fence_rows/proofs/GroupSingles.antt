-- What one event comes to on a store that has met no fault.
use Rattle.std.proofs.Common.{◌≡◌, inl, inr, ℕ, false, [], ◌∷◌, Option, Some, None, refl, sym, ◌∙◌, ap, subst}
use Rattle.std.proofs.lemmas.Bool.{cases_lt}
use Rattle.frame_wire.specs.declared.store_answer.StoreAnswer.{StoreAnswer}
use Rattle.step_gate.specs.History.{entry}
use Rattle.store_tables.specs.Tables.{Tables, Outcome, Told, Accepted}
use Rattle.store_tables.specs.Contents.{outcome_of}
use Rattle.store_payloads.specs.Payloads.{command_payload}
use Rattle.tx_journal.specs.declared.error.JournalError.{JournalError}
use Rattle.tx_journal.specs.declared.error.JournalError.TheVariants as errors
use Rattle.tx_journal.specs.Calls.{append_refusal}
use Rattle.store_core.specs.declared.events.CompactEnd.{CompactEnd}
use Rattle.store_core.specs.Compacts.{IsKept, EndsAs, compact_refusal, Compacts}
use Rattle.store_core.specs.Lists.{ahead_by}
use Rattle.store_core.specs.Store.{StoreState, Leaves, Risks, Writes, Goes, Moves}
use Rattle.fence_rows.specs.declared.event.FencedAnswer.{FencedAnswer}
use Rattle.fence_rows.specs.declared.event.FencedAnswer.TheVariants as answers
use Rattle.fence_rows.specs.declared.event.FencedCommand.{FencedCommand}
use Rattle.fence_rows.specs.declared.event.FencedCommand.TheVariants as fenced
use Rattle.fence_rows.specs.declared.event.FencedEvent.{FencedEvent}
use Rattle.fence_rows.specs.declared.event.FencedEvent.TheVariants.{Command, Compact}
use Rattle.fence_rows.specs.declared.event.FencedOutcome.{FencedOutcome}
use Rattle.fence_rows.specs.declared.event.FencedOutcome.TheVariants.{Answer, CompactIs}
use Rattle.fence_rows.specs.Fences.{given_at, fence_answer, RunsOut, IsOfStore, Follows}
use Rattle.fence_rows.specs.Events.{Allows}
use Rattle.fence_rows.specs.Runs.{RisksOneCommand}
use Rattle.fence_rows.specs.Groups.{quiet}
use Rattle.fence_rows.proofs.Resting.{rest_risks}
use Rattle.fence_rows.proofs.GroupTurns.{unbroken, done_moves}
use Rattle.fence_rows.proofs.GroupDone.{PartDone, leaves_at, one_goes_on, one_faulted, one_missed}

module _ (old : StoreState) (works : old.journal.is_broken ≡ false) (leaves : Leaves old.contents old) (by : ℕ) (new : StoreState) where
  -- an event that changes nothing
  rested : (event : FencedEvent) (reply : FencedOutcome) → Allows old event reply new → new ≡ old → PartDone old (entry by event reply ∷ []) new
  rested event reply allows same =
      one_goes_on old (entry by event reply) new allows (ap (λ (s : StoreState). s.journal.is_broken) same ∙ works) (rest_risks new.contents old new same leaves)
      (subst (λ (s : StoreState). Leaves s.contents s) (sym same) leaves)

  -- ---- a command

  module _ (command : FencedCommand) (now : ℕ) (none : fence_answer command now old ≡ None) (given : StoreAnswer) (allows : Allows old (Command command now) (Answer (answers.Answer given)) new) where
    abbrev Done : Type 0
    Done = PartDone old (entry by (Command command now) (Answer (answers.Answer given)) ∷ []) new

    stayed : new ≡ old → Done
    stayed same = rested (Command command now) (Answer (answers.Answer given)) allows same

    written : (r : Option JournalError) (said : StoreAnswer) (after : Tables) → append_refusal old.journal (command_payload (given_at command now)) ≡ r → outcome_of old.contents (given_at command now) ≡ Accepted said after
        → Writes r (command_payload (given_at command now)) said after old given new → Done
    written None said after fits o (inl done) =
        one_goes_on old (entry by (Command command now) (Answer (answers.Answer given))) new allows done.works (subst (λ (t : Tables). Risks t old new) (sym done.contents) done.risks)
        (leaves_at new.contents after new done.contents done.leaves)
    written None said after fits o (inr failed) =
        one_missed old (entry by (Command command now) (Answer (answers.Answer given))) new allows failed.broken failed.contents (inl (ap (λ (a : StoreAnswer). Answer (answers.Answer a)) failed.answer_))
        (entry by (Command command now) (Answer (answers.Answer said))) refl (hushed_ahead said after)
        (done_moves old works command now said after none fits o old.journal.live.faults old.journal.live.faults, allows.2) failed.risks
      where
        hushed_ahead : StoreAnswer → Tables → StoreState
        hushed_ahead said after = quiet (ahead_by (command_payload (given_at command now)) after old)
    written (Some (errors.TooLong n)) said after fits o w = stayed w.1.0
    written (Some (errors.Full len)) said after fits o w = stayed w.1.0
    written (Some errors.Reopen) said after fits o w = absurd w
    written (Some errors.DiskFault) said after fits o w = absurd w
    written (Some (errors.Damaged offset)) said after fits o w = absurd w
    written (Some errors.NotStarted) said after fits o w = absurd w
    written (Some errors.OneDisk) said after fits o w = absurd w
    written (Some (errors.Spent count)) said after fits o w = absurd w
    written (Some errors.OutOfMemory) said after fits o w = absurd w

    gone : (o : Outcome) → outcome_of old.contents (given_at command now) ≡ o → Goes o (given_at command now) old given new → Done
    gone (Told said) is goes = stayed goes.1.0
    gone (Accepted said after) is goes = written (append_refusal old.journal (command_payload (given_at command now))) said after refl is goes

    moved : Moves old (given_at command now) given new → Done
    moved moves = elim (moves.works works) [
      | inl ran ↦ stayed ran.2.0
      | inr goes ↦ gone (outcome_of old.contents (given_at command now)) refl goes
    ]

  module _ (command : FencedCommand) (now : ℕ) where
    ran_same : (command_ : FencedCommand) (answer : FencedAnswer) → RunsOut command_ old answer new → new ≡ old
    ran_same (fenced.Plain c) answer ran = absurd ran
    ran_same (fenced.Tx epoch c) answer ran = ran.1

    by_store : (answer : FencedAnswer) → fence_answer command now old ≡ None → Allows old (Command command now) (Answer answer) new → IsOfStore (given_at command now) old answer new → PartDone old (entry by (Command command now) (Answer answer) ∷ []) new
    by_store (answers.Answer given) none allows moves = moved command now none given allows moves
    by_store answer none allows moves = absurd moves

    by_fence : (answer : FencedAnswer) (o : Option FencedAnswer) → fence_answer command now old ≡ o → Allows old (Command command now) (Answer answer) new → Follows o (given_at command now) old answer new → PartDone old (entry by (Command command now) (Answer answer) ∷ []) new
    by_fence answer (Some given) is allows follows = rested (Command command now) (Answer answer) allows follows.1
    by_fence answer None is allows follows = by_store answer is allows follows

    by_command : (answer : FencedAnswer) → Allows old (Command command now) (Answer answer) new → PartDone old (entry by (Command command now) (Answer answer) ∷ []) new
    by_command answer allows = elim allows.0 [
      | inl ran ↦ rested (Command command now) (Answer answer) allows (ran_same command answer ran)
      | inr follows ↦ by_fence answer (fence_answer command now old) refl allows follows
    ]

  -- ---- a compaction

  module _ (risks : RisksOneCommand) (least now : ℕ) (end : CompactEnd) (compacts : Compacts least now old end new) where
    abbrev Compacted : Type 0
    Compacted = PartDone old (entry by (Compact least now) (CompactIs end) ∷ []) new

    compact_risks : new.contents ≡ old.contents → Risks new.contents old new
    compact_risks same =
        subst (λ (t : Tables). Risks t old new) (sym same)
        (risks old.contents old old new [] (Compact least now) (CompactIs end) (record { whole = λ same. leaves; fault = λ broken. absurd (unbroken old.journal.is_broken works broken) }) refl compacts works)

    went_on : new.journal.is_broken ≡ false → new.contents ≡ old.contents → Leaves old.contents new → Compacted
    went_on works same left = one_goes_on old (entry by (Compact least now) (CompactIs end)) new compacts works (compact_risks same) (leaves_at new.contents old.contents new same left)

    stopped : IsKept old new → Compacted
    stopped kept = went_on (ap (λ j. j.is_broken) kept.journal ∙ works) kept.contents kept.leaves

    ended : (r : Option JournalError) → EndsAs r now old end new → Compacted
    ended None is = went_on (ap (λ j. j.is_broken) is.2.journal) is.2.contents is.2.leaves
    ended (Some e) is = stopped is.1

    compacted : Compacted
    compacted = elim (cases_lt old.journal.end least) [
      | inl short ↦ rested (Compact least now) (CompactIs end) compacts (compacts.short works short).1.0
      | inr long ↦ elim (compacts.works works long) [
        | inl is ↦ ended (compact_refusal now old) is
        | inr other ↦ elim other [
          | inl fault ↦ one_faulted old (entry by (Compact least now) (CompactIs end)) new compacts (ap (λ j. j.is_broken) fault.1.journal) fault.1.contents (compact_risks fault.1.contents) (inr (ap (λ (x : CompactEnd). CompactIs x) fault.0))
          | inr ran ↦ stopped ran.1
        ]
      ]
    ]

  -- ---- an event

  pub single_done : RisksOneCommand → (event : FencedEvent) (reply : FencedOutcome) → Allows old event reply new → PartDone old (entry by event reply ∷ []) new
  single_done risks (Command command now) (Answer answer) allows = by_command command now answer allows
  single_done risks (Command command now) (CompactIs end) allows = absurd allows
  single_done risks (Compact least now) (Answer answer) allows = absurd allows
  single_done risks (Compact least now) (CompactIs end) allows = compacted risks least now end allows
