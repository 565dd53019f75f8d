-- A step of a fenced store, over disks that report nothing.
use Rattle.std.proofs.Common.{◌≡◌, inl, inr, ℕ, Bool, true, false, List, [], ◌∷◌, Option, Some, None, refl, sym, ◌∙◌, ap, subst}
use Rattle.std.specs.Prelude.{if◌then◌else◌}
use Rattle.disk_model.specs.Disk.{Tells}
use Rattle.frame_wire.specs.declared.store_answer.StoreAnswer.{StoreAnswer}
use Rattle.frame_wire.specs.declared.store_command.StoreCommand.TheVariants.{Tx}
use Rattle.store_tables.specs.Tables.{Tables, Outcome, Told, Accepted}
use Rattle.store_tables.specs.Contents.{Timed, outcome_of}
use Rattle.store_payloads.specs.Laws.{snapshot_payloads}
use Rattle.store_payloads.specs.Payloads.{command_payload}
use Rattle.tx_journal.specs.declared.error.JournalError.{JournalError}
use Rattle.tx_journal.specs.declared.error.JournalError.TheVariants as errors
use Rattle.tx_journal.specs.Calls.{Side, JournalState, first_of, second_of, tell_sides, told, append_refusal, start_refusal, is_alone, is_last, OtherRises, Kept}
use Rattle.tx_journal.specs.Pair.{number, SinceOpened}
use Rattle.store_core.specs.declared.events.CompactEnd.{CompactEnd}
use Rattle.store_core.specs.Contents.{OpensWith, OpensWithEither}
use Rattle.store_core.specs.Store.{StoreState, Leaves, Risks, Rests, IsDone, HasFailed, Writes, Goes, Moves}
use Rattle.store_core.specs.Compacts.{RisksNothing, refused_or, rows_refusal, compact_refusal, IsKept, IsCompacted, HasFaulted, EndsAs, Compacts}
use Rattle.store_core.specs.Runs.{Stands}
use Rattle.fence_rows.specs.declared.event.FencedAnswer.{FencedAnswer}
use Rattle.fence_rows.specs.declared.event.FencedAnswer.TheVariants as answers
use Rattle.fence_rows.specs.declared.event.FencedCommand.{FencedCommand}
use Rattle.fence_rows.specs.declared.event.FencedCommand.TheVariants as fenced
use Rattle.fence_rows.specs.declared.event.FencedEvent.{FencedEvent}
use Rattle.fence_rows.specs.declared.event.FencedEvent.TheVariants.{Command, Compact}
use Rattle.fence_rows.specs.declared.event.FencedOutcome.{FencedOutcome}
use Rattle.fence_rows.specs.declared.event.FencedOutcome.TheVariants.{Answer, CompactIs}
use Rattle.fence_rows.specs.Fences.{given_at, fence_answer, RunsOut, IsOfStore, Follows, FencedMoves}
use Rattle.fence_rows.specs.Events.{Allows}
use Rattle.fence_rows.specs.Runs.{FencedHistory, Runs}
use Rattle.fence_rows.specs.Groups.{quiet_other, quiet_journal, quiet, AllowsUntold, RunsUntold}

-- ---- what such disks tell

-- a store over disks that report nothing, of which the live one has failed so often
abbrev pub hushed : ℕ → StoreState → StoreState
hushed n s = record { contents = s.contents; journal = record s.journal { live = record { told = None; faults = n }; other = quiet_other s.journal.other } }

sides_quiet : (b : Bool) (n : ℕ) (other : Option Side) → tell_sides (first_of b (record { told = None; faults = n }) (quiet_other other)) (second_of b (record { told = None; faults = n }) (quiet_other other)) ≡ None
sides_quiet true n (Some o) = refl
sides_quiet true n None = refl
sides_quiet false n (Some o) = refl
sides_quiet false n None = refl

pub told_hushed : (n : ℕ) (s : StoreState) → told (hushed n s).journal ≡ None
told_hushed n s = sides_quiet s.journal.is_second_live n s.journal.other

pub told_quiet : (s : StoreState) → told (quiet s).journal ≡ None
told_quiet s = told_hushed s.journal.live.faults s

pub none_tells : {S : Type 0} (step : S → S → Type 0) (a b : Option S) → a ≡ None → b ≡ None → Tells step a b
none_tells {S} step a b first second = subst (λ (x : Option S). Tells step x b) (sym first) second

pub none_leaves : (t : Tables) (s : StoreState) → told s.journal ≡ None → Leaves t s
none_leaves t s none files tells = absurd (let e : None ≡ Some files = sym none ∙ tells in cc)

pub none_risks : (t : Tables) (old new : StoreState) → told old.journal ≡ None → told new.journal ≡ None → Risks t old new
none_risks t old new first second = none_tells (SinceOpened (OpensWithEither old.contents t)) (told old.journal) (told new.journal) first second

pub none_stands : (t : Tables) (s : StoreState) → told s.journal ≡ None → Stands t s
none_stands t s none = record { whole = λ works. none_leaves s.contents s none; fault = λ broken files tells. absurd (let e : None ≡ Some files = sym none ∙ tells in cc) }

-- ---- what the fence answers

pub fence_hushed : (n : ℕ) (s : StoreState) (command : FencedCommand) (now : ℕ) → fence_answer command now (hushed n s) ≡ fence_answer command now s
fence_hushed n s (fenced.Plain c) now = refl
fence_hushed n s (fenced.Tx epoch (Tx r actor ops)) now = refl
fence_hushed n s (fenced.Tx epoch c) now = refl

-- ---- a command

module _ (c : Timed) (old : StoreState) (given : StoreAnswer) (new : StoreState) where
  rests_quiet : Rests old new → Rests (quiet old) (quiet new)
  rests_quiet rests = (ap quiet rests.0, none_leaves old.contents (quiet old) (told_quiet old))

  done_quiet : (payload : List ℕ) (said : StoreAnswer) (after : Tables) → IsDone payload said after old given new → IsDone payload said after (quiet old) given (quiet new)
  done_quiet payload said after done = record {
    answer_ = done.answer_;
    contents = done.contents;
    journal = ap quiet_journal done.journal;
    works = done.works;
    leaves = none_leaves after (quiet new) (told_quiet new);
    risks = none_risks after (quiet old) (quiet new) (told_quiet old) (told_quiet new);
  }

  failed_quiet : (after : Tables) → HasFailed after old given new → HasFailed after (quiet old) given (quiet new)
  failed_quiet after failed = record {
    answer_ = failed.answer_;
    contents = failed.contents;
    journal = ap quiet_journal failed.journal;
    broken = failed.broken;
    rises = failed.rises;
    risks = none_risks after (quiet old) (quiet new) (told_quiet old) (told_quiet new);
  }

  writes_quiet : (r : Option JournalError) (payload : List ℕ) (said : StoreAnswer) (after : Tables) → Writes r payload said after old given new → Writes r payload said after (quiet old) given (quiet new)
  writes_quiet None payload said after (inl done) = inl (done_quiet payload said after done)
  writes_quiet None payload said after (inr failed) = inr (failed_quiet after failed)
  writes_quiet (Some (errors.TooLong n)) payload said after w = (w.0, rests_quiet w.1)
  writes_quiet (Some (errors.Full len)) payload said after w = (w.0, rests_quiet w.1)
  writes_quiet (Some errors.Reopen) payload said after w = absurd w
  writes_quiet (Some errors.DiskFault) payload said after w = absurd w
  writes_quiet (Some (errors.Damaged offset)) payload said after w = absurd w
  writes_quiet (Some errors.NotStarted) payload said after w = absurd w
  writes_quiet (Some errors.OneDisk) payload said after w = absurd w
  writes_quiet (Some (errors.Spent count)) payload said after w = absurd w
  writes_quiet (Some errors.OutOfMemory) payload said after w = absurd w

  goes_quiet : (o : Outcome) → Goes o c old given new → Goes o c (quiet old) given (quiet new)
  goes_quiet (Told said) goes = (goes.0, rests_quiet goes.1)
  goes_quiet (Accepted said after) goes = writes_quiet (append_refusal old.journal (command_payload c)) (command_payload c) said after goes

  moves_quiet : Moves old c given new → Moves (quiet old) c given (quiet new)
  moves_quiet moves = record {
    broken = λ broken. ((moves.broken broken).0, ap quiet (moves.broken broken).1);
    works = λ works. elim (moves.works works) [
      | inl ran ↦ inl (ran.0, ran.1, rests_quiet ran.2)
      | inr goes ↦ inr (goes_quiet (outcome_of old.contents c) goes)
    ];
  }

store_quiet : (c : Timed) (old : StoreState) (answer : FencedAnswer) (new : StoreState) → IsOfStore c old answer new → IsOfStore c (quiet old) answer (quiet new)
store_quiet c old (answers.Answer given) new moves = moves_quiet c old given new moves
store_quiet c old answer new moves = absurd moves

follows_quiet : (o : Option FencedAnswer) (c : Timed) (old : StoreState) (answer : FencedAnswer) (new : StoreState) → Follows o c old answer new → Follows o c (quiet old) answer (quiet new)
follows_quiet (Some given) c old answer new follows = (follows.0, ap quiet follows.1)
follows_quiet None c old answer new moves = store_quiet c old answer new moves

ran_quiet : (command : FencedCommand) (old : StoreState) (answer : FencedAnswer) (new : StoreState) → RunsOut command old answer new → RunsOut command (quiet old) answer (quiet new)
ran_quiet (fenced.Plain c) old answer new ran = ran
ran_quiet (fenced.Tx epoch c) old answer new ran = (ran.0, ap quiet ran.1)

fenced_quiet : (old : StoreState) (command : FencedCommand) (now : ℕ) (answer : FencedAnswer) (new : StoreState) → FencedMoves old command now answer new → FencedMoves (quiet old) command now answer (quiet new)
fenced_quiet old command now answer new (inl ran) = inl (ran_quiet command old answer new ran)
fenced_quiet old command now answer new (inr follows) =
    inr (subst (λ (o : Option FencedAnswer). Follows o (given_at command now) (quiet old) answer (quiet new)) (sym (fence_hushed old.journal.live.faults old command now))
    (follows_quiet (fence_answer command now old) (given_at command now) old answer new follows))

-- ---- a compaction

alone_quiet : (other : Option Side) → is_alone (quiet_other other) ≡ is_alone other
alone_quiet None = refl
alone_quiet (Some side) = refl

start_quiet : (j : JournalState) → start_refusal (quiet_journal j) ≡ start_refusal j
start_quiet j =
    ap (λ (alone : Bool).
    if j.is_broken then Some errors.Reopen else if alone then Some errors.OneDisk else if is_last (number j.generation) then Some (errors.Spent (number j.generation)) else None)
    (alone_quiet j.other)

refusal_quiet : (now : ℕ) (s : StoreState) → compact_refusal now (quiet s) ≡ compact_refusal now s
refusal_quiet now s = ap (λ (r : Option JournalError). refused_or r (rows_refusal 31 (snapshot_payloads now s.contents))) (start_quiet s.journal)

rises_quiet : (old new : Option Side) → OtherRises old new → OtherRises (quiet_other old) (quiet_other new)
rises_quiet None new rises = absurd rises
rises_quiet (Some old) None rises = absurd rises
rises_quiet (Some old) (Some new) rises = rises

module _ (least now : ℕ) (old : StoreState) (end : CompactEnd) (new : StoreState) where
  nothing_quiet : RisksNothing (quiet old) (quiet new)
  nothing_quiet = none_tells (SinceOpened (OpensWith old.contents)) (told (quiet old).journal) (told (quiet new).journal) (told_quiet old) (told_quiet new)

  kept_quiet : IsKept old new → IsKept (quiet old) (quiet new)
  kept_quiet kept = record {
    contents = kept.contents;
    journal = ap quiet_journal kept.journal;
    holds = none_tells Kept (told (quiet old).journal) (told (quiet new).journal) (told_quiet old) (told_quiet new);
    leaves = none_leaves old.contents (quiet new) (told_quiet new);
    risks = nothing_quiet;
  }

  compacted_quiet : (rows : ℕ) → IsCompacted now rows old new → IsCompacted now rows (quiet old) (quiet new)
  compacted_quiet rows done = record {
    count = done.count;
    contents = done.contents;
    journal = ap quiet_journal done.journal;
    holds = λ files tells. absurd (let e : None ≡ Some files = sym (told_quiet new) ∙ tells in cc);
    leaves = none_leaves old.contents (quiet new) (told_quiet new);
    risks = nothing_quiet;
  }

  hit_quiet : HasFaulted old new → HasFaulted (quiet old) (quiet new)
  hit_quiet hit = record {
    contents = hit.contents;
    journal = ap quiet_journal hit.journal;
    rises = rises_quiet old.journal.other new.journal.other hit.rises;
    leaves = none_leaves old.contents (quiet new) (told_quiet new);
    risks = nothing_quiet;
  }

  ends_quiet : (r : Option JournalError) → EndsAs r now old end new → EndsAs r now (quiet old) end (quiet new)
  ends_quiet None ends = (ends.0, ends.1, compacted_quiet ends.0 ends.2)
  ends_quiet (Some e) ends = (ends.0, kept_quiet ends.1)

  compacts_quiet : Compacts least now old end new → Compacts least now (quiet old) end (quiet new)
  compacts_quiet compacts = record {
    broken = λ broken. ((compacts.broken broken).0, ap quiet (compacts.broken broken).1);
    short = λ works short. let s = compacts.short works short in (s.0, (ap quiet s.1.0, none_leaves old.contents (quiet old) (told_quiet old)));
    works = λ works long. elim (compacts.works works long) [
      | inl ends ↦ inl (subst (λ (r : Option JournalError). EndsAs r now (quiet old) end (quiet new)) (sym (refusal_quiet now old)) (ends_quiet (compact_refusal now old) ends))
      | inr other ↦ inr (elim other [
        | inl fault ↦ inl (fault.0, hit_quiet fault.1)
        | inr ran ↦ inr (ran.0, kept_quiet ran.1)
      ])
    ];
  }

-- ---- a step

pub allows_quiet : (old : StoreState) (event : FencedEvent) (outcome : FencedOutcome) (new : StoreState) → Allows old event outcome new → Allows (quiet old) event outcome (quiet new)
allows_quiet old (Command command now) (Answer answer) new allows = (fenced_quiet old command now answer new allows.0, allows.1, allows.2)
allows_quiet old (Command command now) (CompactIs end) new allows = absurd allows
allows_quiet old (Compact least now) (Answer answer) new allows = absurd allows
allows_quiet old (Compact least now) (CompactIs end) new allows = compacts_quiet least now old end new allows

pub untold : (old : StoreState) (event : FencedEvent) (outcome : FencedOutcome) (new : StoreState) → Allows old event outcome new → AllowsUntold old event outcome new
untold old (Command command now) (Answer answer) new allows = (allows.0, allows.2)
untold old (Command command now) (CompactIs end) new allows = absurd allows
untold old (Compact least now) (Answer answer) new allows = absurd allows
untold old (Compact least now) (CompactIs end) new allows = allows

pub runs_untold : (old : StoreState) (entries : FencedHistory) (new : StoreState) → Runs old entries new → RunsUntold old entries new
runs_untold old [] new is = is
runs_untold old (e ∷ es) new runs = (runs.0, untold old e.event e.reply runs.0 runs.1, runs_untold runs.0 es new runs.2)
