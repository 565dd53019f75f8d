-- What the fence decides of a command in a list.
use Rattle.std.proofs.Common.{◌≡◌, inl, inr, ℕ, Bool, true, false, if◌then◌else◌, List, Option, Some, None, refl, sym, ap, subst, ◌∙◌}
use Rattle.actor_names.specs.declared.actor_key.ActorKey.{ActorKey}
use Rattle.state_rows.specs.declared.op.StateOp.{StateOp}
use Rattle.state_rows.specs.Entries.{value_at}
use Rattle.frame_wire.specs.declared.store_answer.StoreAnswer.{StoreAnswer}
use Rattle.frame_wire.specs.declared.store_answer.StoreAnswer.TheVariants.{NotThere, Refused}
use Rattle.frame_wire.specs.declared.store_command.Stamp.{Stamp}
use Rattle.frame_wire.specs.declared.store_command.StoreCommand.{StoreCommand}
use Rattle.frame_wire.specs.declared.store_command.StoreCommand.TheVariants.{Tx, Get}
use Rattle.frame_wire.specs.declared.store_refusal.StoreRefusal.TheVariants.{Reopen, OutOfMemory}
use Rattle.store_tables.specs.Tables.{Tables, told_in, value_answer, store_outcome}
use Rattle.store_payloads.specs.Laws.{MayCome}
use Rattle.store_core.specs.declared.guard.Guarded.{Guarded}
use Rattle.store_core.specs.declared.guard.Guarded.TheVariants.{Pass, Answer}
use Rattle.store_core.specs.Store.{StoreState}
use Rattle.store_core.specs.Lists.{Decides}
use Rattle.fence_rows.specs.declared.event.FencedAnswer.{FencedAnswer}
use Rattle.fence_rows.specs.declared.event.FencedAnswer.TheVariants as answers
use Rattle.fence_rows.specs.declared.event.FencedCommand.TheVariants as fenced
use Rattle.fence_rows.specs.declared.event.FencedEvent.{FencedEvent}
use Rattle.fence_rows.specs.declared.event.FencedEvent.TheVariants.{Command}
use Rattle.fence_rows.specs.declared.event.FencedOutcome.{FencedOutcome}
use Rattle.fence_rows.specs.declared.event.FencedOutcome.TheVariants as outcomes
use Rattle.fence_rows.specs.Epochs.{epoch_key, is_epoch_key, epoch_in, epoch_told, actor_epoch, fenced_ops}
use Rattle.fence_rows.specs.Fences.{plain_answer, tx_answer, FencedAnswerFits}
use Rattle.fence_rows.specs.Together.{outcome_in, fence_rules, SharedFits}
use Rattle.fence_rows.proofs.Fitting.{memory_fits, reopen_fits, tx_comes}

-- ---- the epoch, as tables tell it

told_value : (v : Option (List ℕ)) → epoch_told (Some (value_answer v)) ≡ epoch_in v
told_value None = refl
told_value (Some value) = refl

by_tables : (t : Tables) (actor : ActorKey) (now : ℕ) → epoch_told (told_in (store_outcome t (Get actor epoch_key) now)) ≡ actor_epoch actor now t
unfolding store_outcome
by_tables t actor now = told_value (value_at actor epoch_key now t.rows)

-- the same for a question that was made of copies
pub tables_tell : (t : Tables) (actor a : ActorKey) (key : List ℕ) (now : ℕ) (answer : Option StoreAnswer) → a ≡ actor → key ≡ epoch_key → answer ≡ told_in (store_outcome t (Get a key) now) → epoch_told answer ≡ actor_epoch actor now t
tables_tell t actor a key now answer copied is said =
    let one = subst (λ (b : ActorKey). answer ≡ told_in (store_outcome t (Get b key) now)) copied said in
    let two = subst (λ (k : List ℕ). answer ≡ told_in (store_outcome t (Get actor k) now)) is one in
    ap epoch_told two ∙ by_tables t actor now

-- ---- a command without an epoch

module _ (s : StoreState) (command : StoreCommand) (now : ℕ) where
  abbrev DecidesPlain : Guarded FencedOutcome → Type 0
  DecidesPlain result = Decides fence_rules SharedFits s (Command (fenced.Plain command) now) result

  pub plain_answered : (answer : FencedAnswer) → FencedAnswerFits answer → plain_answer command ≡ Some answer → DecidesPlain (Answer (outcomes.Answer answer))
  plain_answered answer fits is = (fits, inr (ap outcome_in is))

  pub plain_passed : MayCome (record { now = now; command = command }) → plain_answer command ≡ None → DecidesPlain (Pass command now)
  plain_passed may none = (ap outcome_in none, refl, may)

key_fits : (own : Bool) (answer : FencedAnswer) → (if own then Some (answers.Answer NotThere) else None) ≡ Some answer → FencedAnswerFits answer
key_fits true answer is = let e : answers.Answer NotThere ≡ answer = cc in subst FencedAnswerFits e tt
key_fits false answer is = absurd (cc)

-- what is answered without an epoch can be written as a frame
pub plain_fits : (command : StoreCommand) (answer : FencedAnswer) → plain_answer command ≡ Some answer → FencedAnswerFits answer
plain_fits (Tx s actor ops) answer is = let e : answers.Unfenced ≡ answer = cc in subst FencedAnswerFits e tt
plain_fits (Get actor key) answer is = key_fits (is_epoch_key key) answer is
plain_fits command answer is = absurd (cc)

-- ---- a transaction of an epoch

module _ (s : StoreState) (epoch : ℕ) (r : Stamp) (actor : ActorKey) (ops : List StateOp) (now : ℕ) where
  abbrev pub DecidesTx : Guarded FencedOutcome → Type 0
  DecidesTx result = Decides fence_rules SharedFits s (Command (fenced.Tx epoch (Tx r actor ops)) now) result

  abbrev pub answered : FencedAnswer → Guarded FencedOutcome
  answered answer = Answer (outcomes.Answer answer)

  -- there was no memory
  pub decides_out : DecidesTx (answered (answers.Answer (Refused OutOfMemory)))
  decides_out = (memory_fits, inl (refl, refl))

  -- the store met a fault
  pub decides_broken : s.journal.is_broken ≡ true → DecidesTx (answered (answers.Answer (Refused Reopen)))
  decides_broken broken = (reopen_fits, inr (ap (λ (b : Bool). outcome_in (tx_answer epoch ops b (actor_epoch actor now s.contents))) broken))

  module _ (t : Tables) (seen : ℕ) (is : seen ≡ actor_epoch actor now t) (same : s.contents ≡ t) (works : s.journal.is_broken ≡ false) where
    said_as : tx_answer epoch ops s.journal.is_broken (actor_epoch actor now s.contents) ≡ tx_answer epoch ops false seen
    said_as = ap (λ (b : Bool). tx_answer epoch ops b (actor_epoch actor now s.contents)) works ∙ ap (λ (u : Tables). tx_answer epoch ops false (actor_epoch actor now u)) same ∙ ap (tx_answer epoch ops false) (sym is)

    pub decides_refused : (answer : FencedAnswer) → FencedAnswerFits answer → tx_answer epoch ops false seen ≡ Some answer → DecidesTx (answered answer)
    decides_refused answer fits said = (fits, inr (ap outcome_in (said_as ∙ said)))

    pub decides_passed : (given : List StateOp) → given ≡ fenced_ops epoch ops → MayCome (record { now = now; command = Tx r actor (fenced_ops epoch ops) }) → tx_answer epoch ops false seen ≡ None → DecidesTx (Pass (Tx r actor given) now)
    decides_passed given made may none =
        subst (λ (g : List StateOp). DecidesTx (Pass (Tx r actor g) now)) (sym made) (ap outcome_in (said_as ∙ none), refl, may)

-- ---- what was asked, as its parts

pub decides_at : (s : StoreState) (asked event : FencedEvent) (result : Guarded FencedOutcome) → asked ≡ event → Decides fence_rules SharedFits s event result → Decides fence_rules SharedFits s asked result
decides_at s asked event result is decides = subst (λ (e : FencedEvent). Decides fence_rules SharedFits s e result) (sym is) decides
