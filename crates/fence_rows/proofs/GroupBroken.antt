-- Stores that met a fault answer all alike, whatever they contain, and nothing changes.
use Rattle.std.proofs.Common.{◌≡◌, inl, inr, ℕ, Bool, true, false, List, [], ◌∷◌, ◌++◌, Option, Some, None, refl, sym, ◌∙◌, ap, subst}
use Rattle.std.specs.List.{AllByRecursion}
use Rattle.frame_wire.specs.declared.store_answer.StoreAnswer.{StoreAnswer}
use Rattle.frame_wire.specs.declared.store_answer.StoreAnswer.TheVariants.{Refused}
use Rattle.frame_wire.specs.declared.store_command.StoreCommand.TheVariants.{Tx}
use Rattle.frame_wire.specs.declared.store_refusal.StoreRefusal.TheVariants as refusals
use Rattle.store_tables.specs.Contents.{Timed}
use Rattle.store_core.specs.Store.{StoreState, Moves}
use Rattle.store_core.specs.Compacts.{Compacts}
use Rattle.store_core.specs.Lists.{Passes, Guards, InTurn, IsPut, Begins, MovesBatch}
use Rattle.store_core.specs.declared.events.CompactEnd.{CompactEnd}
use Rattle.fence_rows.specs.declared.event.FencedAnswer.{FencedAnswer}
use Rattle.fence_rows.specs.declared.event.FencedAnswer.TheVariants as answers
use Rattle.fence_rows.specs.declared.event.FencedCommand.{FencedCommand}
use Rattle.fence_rows.specs.declared.event.FencedCommand.TheVariants as fenced
use Rattle.fence_rows.specs.declared.event.FencedEvent.{FencedEvent}
use Rattle.fence_rows.specs.declared.event.FencedEvent.TheVariants.{Command, Compact}
use Rattle.fence_rows.specs.declared.event.FencedOutcome.{FencedOutcome}
use Rattle.fence_rows.specs.declared.event.FencedOutcome.TheVariants.{Answer, CompactIs}
use Rattle.fence_rows.specs.Epochs.{actor_epoch}
use Rattle.fence_rows.specs.Fences.{given_at, tx_answer, fence_answer, IsOfStore, Follows, FencedMoves, HasShortEpoch}
use Rattle.fence_rows.specs.Events.{Allows}
use Rattle.fence_rows.specs.Runs.{FencedHistory, Runs}
use Rattle.fence_rows.specs.Together.{MayShare, SharesShort, SharedFits, is_fenced, outcome_in, fence_rules}
use Rattle.fence_rows.proofs.GroupEntries.{pairs_of, MayBe, FitsFrame}
use Rattle.fence_rows.proofs.GroupTurns.{unbroken}

-- an answer as it is told
pub told_allows : (old new : StoreState) (command : FencedCommand) (now : ℕ) (given : FencedAnswer) (answer : FencedOutcome) → answer ≡ Answer given → FencedMoves old command now given new → SharedFits answer → HasShortEpoch command
    → Allows old (Command command now) answer new
told_allows old new command now given answer is moves fits short = subst (λ (r : FencedOutcome). Allows old (Command command now) r new) (sym is) (moves, subst SharedFits is fits, short)

module _ (s b : StoreState) (broken : s.journal.is_broken ≡ true) (other : b.journal.is_broken ≡ true) where
  fence_alike : (command : FencedCommand) (now : ℕ) → fence_answer command now b ≡ fence_answer command now s
  fence_alike (fenced.Plain c) now = refl
  fence_alike (fenced.Tx epoch (Tx r actor ops)) now =
      ap (λ (x : Bool). tx_answer epoch ops x (actor_epoch actor now b.contents)) other ∙ sym (ap (λ (x : Bool). tx_answer epoch ops x (actor_epoch actor now s.contents)) broken)
  fence_alike (fenced.Tx epoch c) now = refl

  -- ---- a single step

  reopens : (c : Timed) (given : StoreAnswer) → given ≡ Refused refusals.Reopen → Moves b c given b
  reopens c given is = record { broken = λ same. (is, refl); works = λ works. absurd (unbroken b.journal.is_broken works other) }

  module _ (new : StoreState) where
    store_alike : (c : Timed) (answer : FencedAnswer) → IsOfStore c s answer new → (new ≡ s) × IsOfStore c b answer b
    store_alike c (answers.Answer given) moves = let m = moves.broken broken in (m.1, reopens c given m.0)
    store_alike c answer moves = absurd moves

    follows_alike : (o : Option FencedAnswer) (c : Timed) (answer : FencedAnswer) → Follows o c s answer new → (new ≡ s) × Follows o c b answer b
    follows_alike (Some given) c answer follows = (follows.1, (follows.0, refl))
    follows_alike None c answer moves = store_alike c answer moves

    fenced_alike : (command : FencedCommand) (now : ℕ) (answer : FencedAnswer) → FencedMoves s command now answer new → (new ≡ s) × FencedMoves b command now answer b
    fenced_alike (fenced.Plain c) now answer (inl ran) = absurd ran
    fenced_alike (fenced.Tx epoch c) now answer (inl ran) = (ran.1, inl (ran.0, refl))
    fenced_alike command now answer (inr follows) =
        let alike = follows_alike (fence_answer command now s) (given_at command now) answer follows in
        (alike.0, inr (subst (λ (o : Option FencedAnswer). Follows o (given_at command now) b answer b) (sym (fence_alike command now)) alike.1))

    compacts_alike : (least now : ℕ) (end : CompactEnd) → Compacts least now s end new → (new ≡ s) × Compacts least now b end b
    compacts_alike least now end compacts =
        let c = compacts.broken broken in (
          c.1,
          record {
            broken = λ same. (c.0, refl);
            short = λ works short. absurd (unbroken b.journal.is_broken works other);
            works = λ works long. absurd (unbroken b.journal.is_broken works other);
          },
        )

    pub allows_alike : (event : FencedEvent) (outcome : FencedOutcome) → Allows s event outcome new → (new ≡ s) × Allows b event outcome b
    allows_alike (Command command now) (Answer answer) allows = let alike = fenced_alike command now answer allows.0 in (alike.0, (alike.1, allows.1, allows.2))
    allows_alike (Command command now) (CompactIs end) allows = absurd allows
    allows_alike (Compact least now) (Answer answer) allows = absurd allows
    allows_alike (Compact least now) (CompactIs end) allows = compacts_alike least now end allows

  -- ---- a command of a list

  module _ (answer : FencedOutcome) (taken : List Timed) (mid : StoreState) where
    abbrev IsAlike : FencedEvent → Type 0
    IsAlike event = (taken ≡ []) × (mid ≡ s) × Allows b event answer b

    by_memory : (command : FencedCommand) (now : ℕ) → SharesShort (Command command now) → SharedFits answer → is_fenced command ≡ true → answer ≡ Answer (answers.Answer (Refused refusals.OutOfMemory)) → taken ≡ [] → mid ≡ s → IsAlike (Command command now)
    by_memory (fenced.Plain c) now short fits is answered none same = absurd (let e : false ≡ true = is in cc)
    by_memory (fenced.Tx epoch c) now short fits is answered none same =
        (none, same, told_allows b b (fenced.Tx epoch c) now (answers.Answer (Refused refusals.OutOfMemory)) answer answered (inl (refl, refl)) fits short)

    by_rules : (command : FencedCommand) (now : ℕ) → SharesShort (Command command now) → SharedFits answer → (o : Option FencedAnswer) → fence_answer command now s ≡ o → Passes fence_rules (outcome_in o) (Command command now) s answer taken mid
        → IsAlike (Command command now)
    by_rules command now short fits (Some given) is stays =
        (stays.1, stays.2, told_allows b b command now given answer stays.0 (inr (subst (λ (o : Option FencedAnswer). Follows o (given_at command now) b given b) (sym (fence_alike command now ∙ is)) (refl, refl))) fits short)
    by_rules command now short fits None is passes =
        let stays = passes.2.broken broken in (
          stays.1,
          stays.2,
          told_allows b b command now (answers.Answer passes.0) answer passes.1
              (inr (subst (λ (o : Option FencedAnswer). Follows o (given_at command now) b (answers.Answer passes.0) b) (sym (fence_alike command now ∙ is)) (reopens (given_at command now) passes.0 stays.0))) fits short,
        )

    guards_alike : (event : FencedEvent) → MayShare event → SharesShort event → SharedFits answer → Guards fence_rules s event answer taken mid → IsAlike event
    guards_alike (Command command now) may short fits (inl ran) = by_memory command now short fits ran.0 ran.1.0 ran.1.1 ran.1.2
    guards_alike (Command command now) may short fits (inr passes) = by_rules command now short fits (fence_answer command now s) refl passes
    guards_alike (Compact least now) may short fits guards = absurd may

-- ---- commands of a list

module _ (s : StoreState) (broken : s.journal.is_broken ≡ true) where
  passes_none : (o : Option FencedOutcome) (event : FencedEvent) (answer : FencedOutcome) (taken : List Timed) (mid : StoreState) → Passes fence_rules o event s answer taken mid → (taken ≡ []) × (mid ≡ s)
  passes_none (Some refused) event answer taken mid stays = (stays.1, stays.2)
  passes_none None event answer taken mid passes = let stays = passes.2.broken broken in (stays.1, stays.2)

  guards_none : (event : FencedEvent) (answer : FencedOutcome) (taken : List Timed) (mid : StoreState) → Guards fence_rules s event answer taken mid → (taken ≡ []) × (mid ≡ s)
  guards_none event answer taken mid (inl ran) = (ran.1.1, ran.1.2)
  guards_none event answer taken mid (inr passes) = passes_none (fence_rules.refusal event s) event answer taken mid passes

-- no batch begins
turns_none : (s : StoreState) → s.journal.is_broken ≡ true → (pairs : List (FencedEvent × FencedOutcome)) (batch : List Timed) (ahead : StoreState) → InTurn fence_rules s pairs batch ahead → batch ≡ []
turns_none s broken [] batch ahead is = is.0
turns_none s broken (p ∷ ps) batch ahead is =
    let none = guards_none s broken p.0 p.1 is.1 is.0 is.3 in
    let works : is.0.journal.is_broken ≡ true = ap (λ (t : StoreState). t.journal.is_broken) none.1 ∙ broken in
    is.5 ∙ ap (λ (l : List Timed). l ++ is.2) none.0 ∙ turns_none is.0 works ps is.2 ahead is.4

turns_alike : (s b : StoreState) → s.journal.is_broken ≡ true → b.journal.is_broken ≡ true → (es : FencedHistory) (batch : List Timed) (ahead : StoreState) → AllByRecursion MayBe es → AllByRecursion FitsFrame es
    → InTurn fence_rules s (pairs_of es) batch ahead → Runs b es b
turns_alike s b broken other [] batch ahead may fits is = refl
turns_alike s b broken other (e ∷ es) batch ahead may fits is =
    let alike = guards_alike s b broken other e.reply is.1 is.0 e.event may.0.0 may.0.1 fits.0 is.3 in
    (b, alike.2, turns_alike is.0 b (ap (λ (t : StoreState). t.journal.is_broken) alike.1 ∙ broken) other es is.2 ahead may.1 fits.1 is.4)

pub batch_alike : (s b : StoreState) → s.journal.is_broken ≡ true → b.journal.is_broken ≡ true → (es : FencedHistory) (new : StoreState) → AllByRecursion MayBe es → AllByRecursion FitsFrame es → MovesBatch fence_rules s (pairs_of es) new
    → (new ≡ s) × Runs b es b
batch_alike s b broken other es new may fits moves =
    let none : moves.batch ≡ [] = turns_none s broken moves.foreseen moves.batch moves.ahead moves.in_turn in
    elim moves.ends [
      | inl put ↦ (
        (subst (λ (l : List Timed). IsPut l moves.ahead s new) none put.1).0,
        turns_alike s b broken other es moves.batch moves.ahead may fits (subst (λ (l : List (FencedEvent × FencedOutcome)). InTurn fence_rules s l moves.batch moves.ahead) (sym put.0) moves.in_turn),
      )
      | inr failed ↦ absurd (begins_none moves.foreseen (subst (Begins fence_rules moves.foreseen) none failed.1))
    ]
  where
    begins_none : (pairs : List (FencedEvent × FencedOutcome)) → Begins fence_rules pairs [] → ⊥
    begins_none [] begins = begins
    begins_none (p ∷ ps) begins = let e : [] ≡ fence_rules.given p.0 ∷ begins.0 = begins.1 in cc
