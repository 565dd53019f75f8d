-- A list of events is one of the store's, with the commands that it was given.
use Rattle.std.proofs.Common.{◌≡◌, inl, inr, ℕ, Bool, true, false, List, [], ◌∷◌, Option, Some, None, refl, sym, ap, subst}
use Rattle.std.specs.Prelude.{if◌then◌else◌}
use Rattle.frame_wire.specs.declared.store_answer.StoreAnswer.TheVariants.{NotThere, Refused}
use Rattle.frame_wire.specs.declared.store_command.StoreCommand.{StoreCommand}
use Rattle.frame_wire.specs.declared.store_command.StoreCommand.TheVariants.{Tx, Get}
use Rattle.store_tables.specs.Tables.{Tables}
use Rattle.store_core.specs.declared.events.StoreEvent.TheVariants as store
use Rattle.store_core.specs.declared.events.StoreOutcome.TheVariants as outcomes
use Rattle.store_core.specs.Store.{StoreState, Risks}
use Rattle.store_core.specs.Events.{Allows as StoreAllows}
use Rattle.store_core.specs.Runs.{Entry as StoreEntry, Runs as StoreRuns, under_way, KeepsAcknowledged as StoreKeeps, RisksOneCommand as StoreRisks, AcknowledgesOnce as StoreOnce}
use Rattle.fence_rows.specs.declared.event.FencedAnswer.{FencedAnswer}
use Rattle.fence_rows.specs.declared.event.FencedAnswer.TheVariants as answers
use Rattle.fence_rows.specs.declared.event.FencedCommand.{FencedCommand}
use Rattle.fence_rows.specs.declared.event.FencedCommand.TheVariants as fenced
use Rattle.fence_rows.specs.declared.event.FencedEvent.{FencedEvent}
use Rattle.fence_rows.specs.declared.event.FencedEvent.TheVariants.{Command, Compact}
use Rattle.fence_rows.specs.declared.event.FencedOutcome.{FencedOutcome}
use Rattle.fence_rows.specs.declared.event.FencedOutcome.TheVariants.{Answer, CompactIs}
use Rattle.fence_rows.specs.Epochs.{is_epoch_key, actor_epoch}
use Rattle.fence_rows.specs.Fences.{given_command, given_at, plain_answer, epoch_answer, fence_answer, RunsOut, IsOfStore, Follows, FencedAnswerFits}
use Rattle.fence_rows.specs.Events.{Allows}
use Rattle.fence_rows.specs.Runs.{FencedHistory, Runs, leaves_of, about_to_leave, IsOfFence, IsGiven, AreGiven, Keeps, KeepsAcknowledged, RisksOneCommand}
use Rattle.fence_rows.proofs.Writes.{Refuses, AllRefuse, tx_refuses}
use Rattle.fence_rows.proofs.Resting.{rest_risks}

-- ---- what the fence answers

abbrev AllOfFence : Option FencedAnswer → Type 0
AllOfFence None = Unit {0}
AllOfFence (Some answer) = IsOfFence answer

refuses_of : (answer : FencedAnswer) → Refuses answer → IsOfFence answer
refuses_of (answers.Answer (Refused r)) refuses = tt
refuses_of (answers.Answer NotThere) refuses = tt
refuses_of (answers.Answer given) refuses = refuses
refuses_of answer refuses = tt

all_refuse_of : (o : Option FencedAnswer) → AllRefuse o → AllOfFence o
all_refuse_of None refuse = tt
all_refuse_of (Some answer) refuse = refuses_of answer refuse

by_test : (b : Bool) → AllOfFence (if b then Some (answers.Answer NotThere) else None)
by_test true = tt
by_test false = tt

plain_of : (c : StoreCommand) → AllOfFence (plain_answer c)
plain_of (Get actor key) = by_test (is_epoch_key key)
plain_of c = tt

epoch_of : (epoch : ℕ) (c : StoreCommand) (now : ℕ) (s : StoreState) → AllOfFence (epoch_answer epoch c now s)
epoch_of epoch (Tx r actor ops) now s = all_refuse_of _ (tx_refuses epoch ops s.journal.is_broken (actor_epoch actor now s.contents))
epoch_of epoch c now s = tt

fence_of : (command : FencedCommand) (now : ℕ) (s : StoreState) → AllOfFence (fence_answer command now s)
fence_of (fenced.Plain c) now s = plain_of c
fence_of (fenced.Tx epoch c) now s = epoch_of epoch c now s

-- ---- one step

-- A step is no step of the store, or this one; then the event is about to leave what the store's is.
data StepsOf (old : StoreState) (event : FencedEvent) (outcome : FencedOutcome) (new : StoreState) : Type 0 where
  Rests : new ≡ old → ((rest : List StoreEntry) → IsGiven event outcome rest rest) → StepsOf old event outcome new
  Steps : (e : StoreEntry) → StoreAllows old e.0 e.1 new → ((rest : List StoreEntry) → IsGiven event outcome rest (e ∷ rest)) → leaves_of old event ≡ under_way old.contents e.0 → StepsOf old event outcome new

module _ (old new : StoreState) (command : FencedCommand) (now : ℕ) where
  by_fence : (answer : FencedAnswer) → IsOfFence answer → new ≡ old → StepsOf old (Command command now) (Answer answer) new
  by_fence answer of same = Rests same (λ rest. inl (of, refl))

  by_store : (answer : FencedAnswer) → fence_answer command now old ≡ None → IsOfStore (given_at command now) old answer new → FencedAnswerFits answer → StepsOf old (Command command now) (Answer answer) new
  by_store (answers.Answer given) none moves fits =
      Steps (store.Command (given_command command) now, outcomes.Answer given) (moves, fits) (λ rest. inr (given, refl, refl))
      (ap (λ (o : Option FencedAnswer). about_to_leave o (given_at command now) old.contents) none)
  by_store answer none moves fits = absurd moves

  by_answer : (answer : FencedAnswer) → FencedAnswerFits answer → (o : Option FencedAnswer) → fence_answer command now old ≡ o → AllOfFence o → Follows o (given_at command now) old answer new → StepsOf old (Command command now) (Answer answer) new
  by_answer answer fits (Some given) is of follows = by_fence answer (subst IsOfFence (sym follows.0) of) follows.1
  by_answer answer fits None is of follows = by_store answer is follows fits

by_memory : (old new : StoreState) (command : FencedCommand) (now : ℕ) (answer : FencedAnswer) → RunsOut command old answer new → StepsOf old (Command command now) (Answer answer) new
by_memory old new (fenced.Plain c) now answer ran = absurd ran
by_memory old new (fenced.Tx epoch c) now answer ran = by_fence old new (fenced.Tx epoch c) now answer (subst IsOfFence (sym ran.0) tt) ran.1

steps_of : (old new : StoreState) (event : FencedEvent) (outcome : FencedOutcome) → Allows old event outcome new → StepsOf old event outcome new
steps_of old new (Command command now) (Answer answer) allows = elim allows.0 [
  | inl ran ↦ by_memory old new command now answer ran
  | inr follows ↦ by_answer old new command now answer allows.1 (fence_answer command now old) refl (fence_of command now old) follows
]
steps_of old new (Command command now) (CompactIs end) allows = absurd allows
steps_of old new (Compact least now) (Answer answer) allows = absurd allows
steps_of old new (Compact least now) (CompactIs end) allows = Steps (store.Compact least now, outcomes.CompactIs end) allows (λ rest. refl) refl

-- ---- a run

abbrev IsRun : StoreState → FencedHistory → StoreState → Type 0
IsRun old entries new = (given : List StoreEntry) × AreGiven entries given × StoreRuns old given new

is_run : (old new : StoreState) (entries : FencedHistory) → Runs old entries new → IsRun old entries new
is_run old new [] is = ([], refl, sym is)
is_run old new (entry ∷ entries) runs = go (steps_of old runs.0 entry.event entry.reply runs.1) (is_run runs.0 new entries runs.2)
  where
    go : StepsOf old entry.event entry.reply runs.0 → IsRun runs.0 entries new → IsRun old (entry ∷ entries) new
    go (Rests same is) rest = (rest.0, (rest.0, is rest.0, rest.1), subst (λ (s : StoreState). StoreRuns s rest.0 new) same rest.2)
    go (Steps e allows is leaves) rest = (e ∷ rest.0, (rest.0, is rest.0, rest.1), (runs.0, allows, rest.2))

pub keeps_acknowledged : StoreKeeps → StoreOnce → KeepsAcknowledged
keeps_acknowledged keeps once maybe old new entries stands runs =
    let run = is_run old new entries runs in
    let kept = keeps maybe old new run.0 stands run.2 in
    record {
      given = run.0;
      are = run.1;
      runs = run.2;
      stands = kept.0;
      led = kept.1;
      once = λ s c d before between behind is first second. once maybe old new run.0 s c d before between behind stands run.2 is first second;
    }

-- ---- what a crash may leave

pub risks_one : StoreKeeps → StoreOnce → StoreRisks → RisksOneCommand
risks_one keeps once risks maybe old mid new entries event outcome stands runs allows works = go (steps_of mid new event outcome allows)
  where
    go : StepsOf mid event outcome new → Risks (leaves_of mid event) mid new
    go (Rests same is) =
        let kept : Keeps maybe old entries mid = keeps_acknowledged keeps once maybe old mid entries stands runs in
        rest_risks (leaves_of mid event) mid new same (kept.stands.whole works)
    go (Steps e allowed is leaves) = subst (λ (t : Tables). Risks t mid new) (sym leaves) ((risks mid (e ∷ []) new allowed).0 works)
