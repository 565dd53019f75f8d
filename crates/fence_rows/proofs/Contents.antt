-- What a step of the store makes of its contents.
use Rattle.std.proofs.Common.{◌≡◌, inl, inr, ℕ, Bool, true, false, Option, Some, None, refl, sym, ◌∙◌, ap}
use Rattle.std.proofs.lemmas.Bool.{cases_lt}
use Rattle.frame_wire.specs.declared.store_answer.StoreAnswer.{StoreAnswer}
use Rattle.frame_wire.specs.declared.store_answer.StoreAnswer.TheVariants.{Refused}
use Rattle.frame_wire.specs.declared.store_refusal.StoreRefusal.{StoreRefusal}
use Rattle.frame_wire.specs.declared.store_refusal.StoreRefusal.TheVariants as refusals
use Rattle.store_tables.specs.Tables.{Tables, Outcome, Told, Accepted}
use Rattle.store_tables.specs.Contents.{Timed, outcome_of}
use Rattle.store_tables.specs.Runs.{IsAccepted}
use Rattle.store_payloads.specs.Payloads.{command_payload}
use Rattle.tx_journal.specs.declared.error.JournalError.{JournalError}
use Rattle.tx_journal.specs.declared.error.JournalError.TheVariants as errors
use Rattle.tx_journal.specs.Calls.{append_refusal}
use Rattle.store_core.specs.declared.events.CompactEnd.{CompactEnd}
use Rattle.store_core.specs.Store.{StoreState, Writes, Goes, Moves}
use Rattle.store_core.specs.Compacts.{EndsAs, compact_refusal, Compacts}
use Rattle.store_core.specs.Runs.{is_refusal}

-- The contents stay, and the command isn't written; or they are those that it leaves.
pub data Made (c : Timed) (old : StoreState) (given : StoreAnswer) (new : StoreState) : Type 0 where
  Same : new.contents ≡ old.contents → (IsAccepted old.contents c → is_refusal given ≡ false → ⊥) → Made c old given new
  Taken : (said : StoreAnswer) → (after : Tables) → outcome_of old.contents c ≡ Accepted said after → new.contents ≡ after → Made c old given new

module _ (c : Timed) (old : StoreState) (given : StoreAnswer) (new : StoreState) where
  made_refused : (r : StoreRefusal) → given ≡ Refused r → new.contents ≡ old.contents → Made c old given new
  made_refused r is same = Same same (λ taken plain. let e : true ≡ false = sym (ap is_refusal is) ∙ plain in absurd (cc))

  made_written : (r : Option JournalError) (said : StoreAnswer) (after : Tables) → outcome_of old.contents c ≡ Accepted said after → Writes r (command_payload c) said after old given new → Made c old given new
  made_written None said after is (inl done) = Taken said after is done.contents
  made_written None said after is (inr failed) = made_refused refusals.DiskFault failed.answer_ failed.contents
  made_written (Some (errors.TooLong n)) said after is w = made_refused (refusals.CommandTooLong n) w.0 (ap (λ (s : StoreState). s.contents) w.1.0)
  made_written (Some (errors.Full len)) said after is w = made_refused (refusals.Full len) w.0 (ap (λ (s : StoreState). s.contents) w.1.0)
  made_written (Some errors.Reopen) said after is w = absurd w
  made_written (Some errors.DiskFault) said after is w = absurd w
  made_written (Some (errors.Damaged offset)) said after is w = absurd w
  made_written (Some errors.NotStarted) said after is w = absurd w
  made_written (Some errors.OneDisk) said after is w = absurd w
  made_written (Some (errors.Spent count)) said after is w = absurd w
  made_written (Some errors.OutOfMemory) said after is w = absurd w

  made_by : (o : Outcome) → outcome_of old.contents c ≡ o → Goes o c old given new → Made c old given new
  made_by (Told said) is goes = Same (ap (λ (s : StoreState). s.contents) goes.1.0) (λ taken plain. let e : Told said ≡ Accepted taken.0 taken.1 = sym is ∙ taken.2 in absurd (cc))
  made_by (Accepted said after) is goes = made_written (append_refusal old.journal (command_payload c)) said after is goes

  pub made_of : Moves old c given new → Made c old given new
  made_of moves = go old.journal.is_broken refl
    where
      go : (b : Bool) → old.journal.is_broken ≡ b → Made c old given new
      go true broken = made_refused refusals.Reopen (moves.broken broken).0 (ap (λ (s : StoreState). s.contents) (moves.broken broken).1)
      go false works = elim (moves.works works) [
        | inl ran ↦ made_refused refusals.OutOfMemory ran.0 (ap (λ (s : StoreState). s.contents) ran.2.0)
        | inr goes ↦ made_by (outcome_of old.contents c) refl goes
      ]

-- ---- compactions

ended_same : (r : Option JournalError) (now : ℕ) (old : StoreState) (end : CompactEnd) (new : StoreState) → EndsAs r now old end new → new.contents ≡ old.contents
ended_same None now old end new is = is.2.contents
ended_same (Some e) now old end new is = is.1.contents

-- a compaction keeps the contents
pub compacted_same : (least now : ℕ) (old : StoreState) (end : CompactEnd) (new : StoreState) → Compacts least now old end new → new.contents ≡ old.contents
compacted_same least now old end new compacts = go old.journal.is_broken refl
  where
    go : (b : Bool) → old.journal.is_broken ≡ b → new.contents ≡ old.contents
    go true broken = ap (λ (s : StoreState). s.contents) (compacts.broken broken).1
    go false works = elim (cases_lt old.journal.end least) [
      | inl short ↦ ap (λ (s : StoreState). s.contents) (compacts.short works short).1.0
      | inr long ↦ elim (compacts.works works long) [
        | inl ends ↦ ended_same (compact_refusal now old) now old end new ends
        | inr other ↦ elim other [
          | inl fault ↦ fault.1.contents
          | inr ran ↦ ran.1.contents
        ]
      ]
    ]
