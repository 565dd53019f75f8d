-- A batch of commands, as single steps over disks that report nothing.
use Rattle.std.proofs.Common.{◌≡◌, inl, inr, ℕ, true, false, List, [], ◌∷◌, ◌++◌, None, refl, sym, ◌∙◌, ap, subst}
use Rattle.std.specs.List.{AllByRecursion}
use Rattle.frame_wire.specs.declared.store_answer.StoreAnswer.TheVariants.{Refused}
use Rattle.frame_wire.specs.declared.store_refusal.StoreRefusal.TheVariants as refusals
use Rattle.step_gate.specs.History.{entry}
use Rattle.store_tables.specs.Tables.{Tables}
use Rattle.store_tables.specs.Contents.{Timed}
use Rattle.tx_journal.specs.Journal.{Rises}
use Rattle.tx_journal.specs.Calls.{told}
use Rattle.store_core.specs.Store.{StoreState, HasFailed}
use Rattle.store_core.specs.Lists.{Guards, InTurn}
use Rattle.fence_rows.specs.declared.event.FencedAnswer.{FencedAnswer}
use Rattle.fence_rows.specs.declared.event.FencedAnswer.TheVariants as answers
use Rattle.fence_rows.specs.declared.event.FencedCommand.{FencedCommand}
use Rattle.fence_rows.specs.declared.event.FencedEvent.{FencedEvent}
use Rattle.fence_rows.specs.declared.event.FencedEvent.TheVariants.{Command, Compact}
use Rattle.fence_rows.specs.declared.event.FencedOutcome.{FencedOutcome}
use Rattle.fence_rows.specs.declared.event.FencedOutcome.TheVariants.{Answer, CompactIs}
use Rattle.fence_rows.specs.Fences.{FencedMoves, HasShortEpoch}
use Rattle.fence_rows.specs.Events.{Allows}
use Rattle.fence_rows.specs.Runs.{FencedHistory, Runs}
use Rattle.fence_rows.specs.Together.{MayShare, SharesShort, SharedFits, fence_rules}
use Rattle.fence_rows.specs.Groups.{disk_failed, FlatOf, AllowsUntold, RunsUntold}
use Rattle.fence_rows.proofs.GroupQuiet.{hushed, told_hushed, none_risks}
use Rattle.fence_rows.proofs.GroupTurns.{Turn, Still, Taken, turn_of, done_moves, failed_moves}
use Rattle.fence_rows.proofs.GroupEntries.{Single, pairs_of, MayBe, FitsFrame, failed_of}

abbrev Commands : Type 0
Commands = List Timed

-- an answer that was foreseen
untold_so : (old new : StoreState) (command : FencedCommand) (now : ℕ) (given : FencedAnswer) (answer : FencedOutcome) → answer ≡ Answer given → FencedMoves old command now given new → HasShortEpoch command → AllowsUntold old (Command command now) answer new
untold_so old new command now given answer is moves short = subst (λ (r : FencedOutcome). AllowsUntold old (Command command now) r new) (sym is) (moves, short)

nothing_taken : (taken rest batch : Commands) → taken ≡ [] → batch ≡ taken ++ rest → batch ≡ [] → rest ≡ []
nothing_taken taken rest batch none is empty = ap (λ (l : Commands). l ++ rest) (sym none) ∙ sym is ∙ empty

-- ---- foreseen

-- Commands in turn are single steps. The live disk may have failed more often once one of them joined the batch.
module _ (s : StoreState) (works : s.journal.is_broken ≡ false) (n m : ℕ) (reply : FencedOutcome) (taken : Commands) (mid : StoreState) where
  pub data Step (event : FencedEvent) : Type 0 where
    Same : taken ≡ [] → mid ≡ s → AllowsUntold (hushed n s) event reply (hushed n mid) → Step event
    More : (c : Timed) → taken ≡ c ∷ [] → mid.journal.is_broken ≡ false → AllowsUntold (hushed n s) event reply (hushed m mid) → Step event

  by_turn : (command : FencedCommand) (now : ℕ) → HasShortEpoch command → Turn s command now reply taken mid → Step (Command command now)
  by_turn command now short (Still given is none same moves) = Same none same (untold_so (hushed n s) (hushed n mid) command now given reply is (subst (λ (t : StoreState). FencedMoves (hushed n s) command now given (hushed n t)) (sym same) (moves n)) short)
  by_turn command now short (Taken given after is takes next none fits o) =
      More _ takes (ap (λ (t : StoreState). t.journal.is_broken) next ∙ works)
      (untold_so (hushed n s) (hushed m mid) command now (answers.Answer given) reply is
      (subst (λ (t : StoreState). FencedMoves (hushed n s) command now (answers.Answer given) (hushed m t)) (sym next) (done_moves s works command now given after none fits o n m)) short)

  step_of : (event : FencedEvent) → MayShare event → SharesShort event → Guards fence_rules s event reply taken mid → Step event
  step_of (Command command now) may short guards = by_turn command now short (turn_of s works command now reply taken mid guards)
  step_of (Compact least now) may short guards = absurd may

pub turns_run : (es : FencedHistory) (s : StoreState) (n m : ℕ) (batch : Commands) (ahead : StoreState) → s.journal.is_broken ≡ false → AllByRecursion MayBe es → InTurn fence_rules s (pairs_of es) batch ahead
    → (batch ≡ [] → m ≡ n) → RunsUntold (hushed n s) es (hushed m ahead)
turns_run [] s n m batch ahead works may is same = ap (λ (k : ℕ). hushed k s) (sym (same is.0)) ∙ ap (hushed m) (sym is.1)
turns_run (e ∷ es) s n m batch ahead works may is same =
    go (step_of s works n m e.reply is.1 is.0 e.event may.0.0 may.0.1 is.3) (λ k on end. turns_run es is.0 k m is.2 ahead on may.1 is.4 end)
  where
    go : Step s works n m e.reply is.1 is.0 e.event → ((k : ℕ) → is.0.journal.is_broken ≡ false → (is.2 ≡ [] → m ≡ k) → RunsUntold (hushed k is.0) es (hushed m ahead)) → RunsUntold (hushed n s) (e ∷ es) (hushed m ahead)
    go (Same none stays allows) rest =
        (hushed n is.0, allows, rest n (ap (λ (t : StoreState). t.journal.is_broken) stays ∙ works) (λ empty. same (is.5 ∙ ap (λ (l : Commands). l ++ is.2) none ∙ empty)))
    go (More c takes next allows) rest = (hushed m is.0, allows, rest m next (λ empty. refl))

-- if none joins a batch, nothing changes
pub turns_still : (es : FencedHistory) (s : StoreState) (batch : Commands) (ahead : StoreState) → s.journal.is_broken ≡ false → AllByRecursion MayBe es → InTurn fence_rules s (pairs_of es) batch ahead → batch ≡ [] → ahead ≡ s
turns_still [] s batch ahead works may is none = is.1
turns_still (e ∷ es) s batch ahead works may is none =
    go (step_of s works 0 0 e.reply is.1 is.0 e.event may.0.0 may.0.1 is.3) (λ on empty. turns_still es is.0 is.2 ahead on may.1 is.4 empty)
  where
    go : Step s works 0 0 e.reply is.1 is.0 e.event → (is.0.journal.is_broken ≡ false → is.2 ≡ [] → ahead ≡ is.0) → ahead ≡ s
    go (Same nothing stays allows) rest = rest (ap (λ (t : StoreState). t.journal.is_broken) stays ∙ works) (nothing_taken is.1 is.2 batch nothing is.5 none) ∙ stays
    go (More c takes next allows) rest = absurd (let e : [] ≡ c ∷ is.2 = sym none ∙ is.5 ∙ ap (λ (l : Commands). l ++ is.2) takes in cc)

-- with answers that fit their frames they are told
told_run : (old new : StoreState) (es : FencedHistory) → AllByRecursion FitsFrame es → RunsUntold old es new → Runs old es new
told_run old new [] fits runs = runs
told_run old new (e ∷ es) fits runs = (runs.0, told_step e.event e.reply fits.0 runs.1, told_run runs.0 new es fits.1 runs.2)
  where
    told_step : (event : FencedEvent) (reply : FencedOutcome) → SharedFits reply → AllowsUntold old event reply runs.0 → Allows old event reply runs.0
    told_step (Command command now) (Answer answer) fit allows = (allows.0, fit, allows.1)
    told_step (Command command now) (CompactIs end) fit allows = absurd allows
    told_step (Compact least now) (Answer answer) fit allows = absurd allows
    told_step (Compact least now) (CompactIs end) fit allows = allows

pub turns_told : (es : FencedHistory) (s : StoreState) (n m : ℕ) (batch : Commands) (ahead : StoreState) → s.journal.is_broken ≡ false → AllByRecursion MayBe es → AllByRecursion FitsFrame es → InTurn fence_rules s (pairs_of es) batch ahead
    → (batch ≡ [] → m ≡ n) → Runs (hushed n s) es (hushed m ahead)
turns_told es s n m batch ahead works may fits is same = told_run (hushed n s) (hushed m ahead) es fits (turns_run es s n m batch ahead works may is same)

-- ---- the disk failed

-- the disk failed in a step from this state
pub record Fails (s : StoreState) (n : ℕ) (new : StoreState) : Type 0 where
  pub contents : new.contents ≡ s.contents
  pub journal : new.journal ≡ record (hushed n s).journal { live = new.journal.live; staged = None; is_broken = true }
  pub broken : new.journal.is_broken ≡ true
  pub rises : Rises n new.journal.live.faults
  pub silent : told new.journal ≡ None

has_failed : (s : StoreState) (n : ℕ) (new : StoreState) → Fails s n new → (t : Tables) → HasFailed t (hushed n s) (Refused refusals.DiskFault) new
has_failed s n new fails t = record {
  answer_ = refl;
  contents = fails.contents;
  journal = fails.journal;
  broken = fails.broken;
  rises = fails.rises;
  risks = none_risks t (hushed n s) new (told_hushed n s) fails.silent;
}

-- all are left out
all_out : (es : FencedHistory) → FlatOf (failed_of es) []
all_out [] = refl
all_out (e ∷ es) = inl (refl, all_out es)

abbrev pub FailsAs : StoreState → ℕ → FencedHistory → StoreState → Type 0
FailsAs s n es new = (flat : FencedHistory) × FlatOf (failed_of es) flat × Runs (hushed n s) flat new

module _ (s : StoreState) (works : s.journal.is_broken ≡ false) (n : ℕ) (new : StoreState) (fails : Fails s n new) (e : Single) (es : FencedHistory) (taken : Commands) (mid : StoreState) where
  -- it is left out, or the disk failed in it
  data Failing (event : FencedEvent) : Type 0 where
    Out : taken ≡ [] → mid ≡ s → Failing event
    Hit : AllowsUntold (hushed n s) event disk_failed new → Failing event

  by_fault : (command : FencedCommand) (now : ℕ) → HasShortEpoch command → Turn s command now e.reply taken mid → Failing (Command command now)
  by_fault command now short (Still given is none same moves) = Out none same
  by_fault command now short (Taken given after is takes next none fits o) = Hit (failed_moves s works command now given after none fits o n new (has_failed s n new fails), short)

  failing_of : (event : FencedEvent) → MayShare event → SharesShort event → Guards fence_rules s event e.reply taken mid → Failing event
  failing_of (Command command now) may short guards = by_fault command now short (turn_of s works command now e.reply taken mid guards)
  failing_of (Compact least now) may short guards = absurd may

pub turns_fail : (es : FencedHistory) (s : StoreState) (n : ℕ) (new : StoreState) (batch : Commands) (ahead : StoreState) → s.journal.is_broken ≡ false → Fails s n new → AllByRecursion MayBe es → AllByRecursion FitsFrame (failed_of es) → InTurn fence_rules s (pairs_of es) batch ahead
    → (batch ≡ [] → ⊥) → FailsAs s n es new
turns_fail [] s n new batch ahead works fails may fits is begins = absurd (begins is.0)
turns_fail (e ∷ es) s n new batch ahead works fails may fits is begins =
    go (failing_of s works n new fails e es is.1 is.0 e.event may.0.0 may.0.1 is.3) (λ turns on. turns_fail es s n new is.2 ahead works fails may.1 fits.1 turns on)
  where
    go : Failing s works n new fails e es is.1 is.0 e.event → (InTurn fence_rules s (pairs_of es) is.2 ahead → (is.2 ≡ [] → ⊥) → FailsAs s n es new) → FailsAs s n (e ∷ es) new
    go (Out none stays) more =
        let rest : FailsAs s n es new =
        more (subst (λ (t : StoreState). InTurn fence_rules t (pairs_of es) is.2 ahead) stays is.4) (λ empty. begins (is.5 ∙ ap (λ (l : Commands). l ++ is.2) none ∙ empty)) in
        (rest.0, inl (refl, rest.1), rest.2)
    go (Hit allows) more =
        let hit : FencedHistory = entry e.by e.event disk_failed ∷ [] in
        (hit, inr ([], refl, all_out es), told_run (hushed n s) new hit (fits.0, tt) (new, allows, refl))
