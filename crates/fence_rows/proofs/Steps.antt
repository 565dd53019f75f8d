-- No step lowers the epoch of an actor.
use Rattle.std.proofs.Common.{◌≡◌, inl, inr, ℕ, ◌≤◌, ◌<◌, ◌^◌, Bool, List, [], ◌∷◌, Option, None, Some, length, refl, sym, ap, subst, ◌∙◌, arith}
use Rattle.std.proofs.lemmas.Bool.Decides.{nat_tests}
use Rattle.actor_names.specs.declared.actor_key.ActorKey.{ActorKey}
use Rattle.state_rows.specs.declared.entry.StateEntry.{StateEntry}
use Rattle.state_rows.specs.declared.op.StateOp.{StateOp}
use Rattle.frame_wire.specs.declared.store_answer.StoreAnswer.{StoreAnswer}
use Rattle.frame_wire.specs.declared.store_command.StoreCommand.{StoreCommand}
use Rattle.frame_wire.specs.declared.store_command.StoreCommand.TheVariants.{Tx}
use Rattle.store_tables.specs.Tables.{Tables, Outcome, Told, Accepted}
use Rattle.store_tables.specs.Contents.{outcome_of, accepted_in}
use Rattle.store_core.specs.Store.{StoreState}
use Rattle.store_core.specs.Runs.{or_same}
use Rattle.fence_rows.specs.declared.event.FencedAnswer.{FencedAnswer}
use Rattle.fence_rows.specs.declared.event.FencedAnswer.TheVariants as answers
use Rattle.fence_rows.specs.declared.event.FencedCommand.{FencedCommand}
use Rattle.fence_rows.specs.declared.event.FencedCommand.TheVariants as fenced
use Rattle.fence_rows.specs.declared.event.FencedEvent.{FencedEvent}
use Rattle.fence_rows.specs.declared.event.FencedEvent.TheVariants.{Command, Compact}
use Rattle.fence_rows.specs.declared.event.FencedOutcome.{FencedOutcome}
use Rattle.fence_rows.specs.declared.event.FencedOutcome.TheVariants.{Answer, CompactIs}
use Rattle.fence_rows.specs.Epochs.{epoch_entry, actor_epoch}
use Rattle.fence_rows.specs.Fences.{given_at, first_answer, reopen_answer, stale_answer, reserved_from, reserved_answer, many_answer, tx_answer, fence_answer, RunsOut, IsOfStore, Follows, FencedMoves, HasShortEpoch}
use Rattle.fence_rows.specs.Events.{Allows}
use Rattle.fence_rows.specs.Runs.{IsLasting, FencedHistory, Runs, EpochNeverFalls, about_to_leave, leaves_of, CrashKeepsEpoch}
use Rattle.fence_rows.proofs.Seeing.{none_or}
use Rattle.fence_rows.proofs.Settings.{at_key, epoch_at, Leaves, Own, Other, leaves_at, epoch_set, lasts}
use Rattle.fence_rows.proofs.Contents.{Made, Same, Taken, made_of, compacted_same}
use Rattle.fence_rows.proofs.Outcomes.{rows_after, accepted_rows}

-- the epoch of an actor, where it lasts, lasts on and isn't lower afterwards
abbrev pub Raises : ActorKey → Option StateEntry → Option StateEntry → Type 0
Raises b e f = (before : ℕ) → IsLasting before e → IsLasting before f × (epoch_at before e ≤ epoch_at before f)

raises_same : (b : ActorKey) (e f : Option StateEntry) → f ≡ e → Raises b e f
raises_same b e f same = subst (Raises b e) (sym same) (λ before lasting. (lasting, omega arith))

pub raises_then : (b : ActorKey) (e f g : Option StateEntry) → Raises b e f → Raises b f g → Raises b e g
raises_then b e f g first second before lasting =
    let one : IsLasting before f × (epoch_at before e ≤ epoch_at before f) = first before lasting in
    let two : IsLasting before g × (epoch_at before f ≤ epoch_at before g) = second before one.0 in
    let low : epoch_at before e ≤ epoch_at before f = one.1 in
    let high : epoch_at before f ≤ epoch_at before g = two.1 in (two.0, omega arith)

-- a transaction of an epoch that isn't below the actor's
raises_set : (a b : ActorKey) (now epoch : ℕ) (ops : List StateOp) (t u : Tables) → epoch < 2 ^ 64 → actor_epoch a now t ≤ epoch → Leaves a b now epoch t.rows u.rows → Raises b (epoch_entry b t) (epoch_entry b u)
raises_set a b now epoch ops t u short least (Own own set) before lasting =
    let low : epoch_at before (epoch_entry b t) ≤ epoch_at now (epoch_entry b t) = lasts before now (epoch_entry b t) lasting in
    let there : epoch_at now (epoch_entry b t) ≡ actor_epoch a now t = ap (epoch_at now) own in
    let here : epoch_at before (epoch_entry b u) ≡ epoch = ap (epoch_at before) set ∙ epoch_set a now epoch before short in
    (subst (IsLasting before) (sym set) (inr refl), omega arith)
raises_set a b now epoch ops t u short least (Other kept) before lasting = raises_same b (epoch_entry b t) (epoch_entry b u) kept before lasting

-- ---- a transaction that isn't refused

fresh_or : (epoch seen : ℕ) → stale_answer epoch seen ≡ None → seen ≤ epoch
fresh_or epoch seen is = grind (arith, nat_tests)

pub not_stale : (epoch : ℕ) (ops : List StateOp) (is_broken : Bool) (seen : ℕ) → tx_answer epoch ops is_broken seen ≡ None → seen ≤ epoch
not_stale epoch ops is_broken seen is =
    let later = none_or (reopen_answer is_broken) (first_answer (stale_answer epoch seen) (first_answer (reserved_answer (reserved_from 0 ops)) (many_answer (length ops)))) is in
    let stale = none_or (stale_answer epoch seen) (first_answer (reserved_answer (reserved_from 0 ops)) (many_answer (length ops))) later.1 in
    fresh_or epoch seen stale.0

-- ---- a command that is the store's

module _ (b : ActorKey) (s : StoreState) (now : ℕ) (said : StoreAnswer) (after : Tables) where
  abbrev RaisesTo : Type 0
  RaisesTo = Raises b (epoch_entry b s.contents) (epoch_entry b after)

  by_rows : (c : StoreCommand) → rows_after s.contents c now ≡ s.contents.rows → outcome_of s.contents (record { now = now; command = c }) ≡ Accepted said after → RaisesTo
  by_rows c same is = raises_same b (epoch_entry b s.contents) (epoch_entry b after) (ap (at_key b) (accepted_rows s.contents (record { now = now; command = c }) said after is ∙ same))

  pub raises_taken : (command : FencedCommand) → fence_answer command now s ≡ None → HasShortEpoch command → outcome_of s.contents (given_at command now) ≡ Accepted said after → RaisesTo
  raises_taken (fenced.Plain (Tx r actor ops)) none short is = absurd (let e : Some answers.Unfenced ≡ None = none in cc)
  raises_taken (fenced.Plain c) none short is = by_rows c refl is
  raises_taken (fenced.Tx epoch (Tx r actor ops)) none short is =
      raises_set actor b now epoch ops s.contents after short (not_stale epoch ops s.journal.is_broken (actor_epoch actor now s.contents) none)
      (subst (Leaves actor b now epoch s.contents.rows) (sym (accepted_rows s.contents (given_at (fenced.Tx epoch (Tx r actor ops)) now) said after is)) (leaves_at actor b now epoch ops s.contents.rows))
  raises_taken (fenced.Tx epoch c) none short is = by_rows c refl is

-- ---- a step

module _ (b : ActorKey) (old new : StoreState) where
  abbrev pub RaisesOn : Type 0
  RaisesOn = Raises b (epoch_entry b old.contents) (epoch_entry b new.contents)

  by_contents : new.contents ≡ old.contents → RaisesOn
  by_contents same = raises_same b (epoch_entry b old.contents) (epoch_entry b new.contents) (ap (epoch_entry b) same)

  by_made : (command : FencedCommand) (now : ℕ) (given : StoreAnswer) → fence_answer command now old ≡ None → HasShortEpoch command → Made (given_at command now) old given new → RaisesOn
  by_made command now given none short (Same same refused) = by_contents same
  by_made command now given none short (Taken said after is made) =
      subst (λ (t : Tables). Raises b (epoch_entry b old.contents) (epoch_entry b t)) (sym made) (raises_taken b old now said after command none short is)

  by_store : (command : FencedCommand) (now : ℕ) (answer : FencedAnswer) → fence_answer command now old ≡ None → HasShortEpoch command → IsOfStore (given_at command now) old answer new → RaisesOn
  by_store command now (answers.Answer given) none short moves = by_made command now given none short (made_of (given_at command now) old given new moves)
  by_store command now answer none short moves = absurd moves

  by_fence : (command : FencedCommand) (now : ℕ) (answer : FencedAnswer) → HasShortEpoch command → (o : Option FencedAnswer) → fence_answer command now old ≡ o → Follows o (given_at command now) old answer new → RaisesOn
  by_fence command now answer short (Some given) is follows = by_contents (ap (λ (s : StoreState). s.contents) follows.1)
  by_fence command now answer short None is follows = by_store command now answer is short follows

  ran_same : (command : FencedCommand) (answer : FencedAnswer) → RunsOut command old answer new → new ≡ old
  ran_same (fenced.Plain c) answer ran = absurd ran
  ran_same (fenced.Tx epoch c) answer ran = ran.1

  pub moves_raises : (command : FencedCommand) (now : ℕ) (answer : FencedAnswer) → FencedMoves old command now answer new → HasShortEpoch command → RaisesOn
  moves_raises command now answer moves short = elim moves [
    | inl ran ↦ by_contents (ap (λ (s : StoreState). s.contents) (ran_same command answer ran))
    | inr follows ↦ by_fence command now answer short (fence_answer command now old) refl follows
  ]

  pub allows_raises : (event : FencedEvent) (outcome : FencedOutcome) → Allows old event outcome new → RaisesOn
  allows_raises (Command command now) (Answer answer) allows = moves_raises command now answer allows.0 allows.2
  allows_raises (Command command now) (CompactIs end) allows = absurd allows
  allows_raises (Compact least now) (Answer answer) allows = absurd allows
  allows_raises (Compact least now) (CompactIs end) allows = by_contents (compacted_same least now old end new allows)

-- ---- a run

pub runs_raise : (b : ActorKey) (old new : StoreState) (entries : FencedHistory) → Runs old entries new → RaisesOn b old new
runs_raise b old new [] is = by_contents b old new (ap (λ (s : StoreState). s.contents) (sym is))
runs_raise b old new (entry ∷ entries) runs =
    raises_then b (epoch_entry b old.contents) (epoch_entry b runs.0.contents) (epoch_entry b new.contents) (allows_raises b old runs.0 entry.event entry.reply runs.1) (runs_raise b runs.0 new entries runs.2)

-- from one moment to another
pub raised : (b : ActorKey) (t u : Tables) (before after : ℕ) → Raises b (epoch_entry b t) (epoch_entry b u) → IsLasting before (epoch_entry b t) → actor_epoch b before t ≤ actor_epoch b after u
raised b t u before after raises lasting =
    let one : IsLasting before (epoch_entry b u) × (actor_epoch b before t ≤ actor_epoch b before u) = raises before lasting in
    let low : actor_epoch b before t ≤ actor_epoch b before u = one.1 in
    let high : actor_epoch b before u ≤ actor_epoch b after u = lasts before after (epoch_entry b u) one.0 in omega arith

pub never_falls : EpochNeverFalls
never_falls old new entries actor before after lasting runs = raised actor old.contents new.contents before after (runs_raise actor old new entries runs) lasting

-- ---- what a crash may leave

raises_left : (b : ActorKey) (s : StoreState) (command : FencedCommand) (now : ℕ) → fence_answer command now s ≡ None → HasShortEpoch command
    → (o : Outcome) → outcome_of s.contents (given_at command now) ≡ o → Raises b (epoch_entry b s.contents) (epoch_entry b (or_same s.contents (accepted_in o)))
raises_left b s command now none short (Told given) is = raises_same b (epoch_entry b s.contents) (epoch_entry b s.contents) refl
raises_left b s command now none short (Accepted given after) is = raises_taken b s now given after command none short is

raises_about : (b : ActorKey) (s : StoreState) (command : FencedCommand) (now : ℕ) → HasShortEpoch command
    → (o : Option FencedAnswer) → fence_answer command now s ≡ o → Raises b (epoch_entry b s.contents) (epoch_entry b (about_to_leave o (given_at command now) s.contents))
raises_about b s command now short (Some answer) is = raises_same b (epoch_entry b s.contents) (epoch_entry b s.contents) refl
raises_about b s command now short None is = raises_left b s command now is short (outcome_of s.contents (given_at command now)) refl

raises_leaving : (b : ActorKey) (old new : StoreState) (event : FencedEvent) (outcome : FencedOutcome) → Allows old event outcome new → Raises b (epoch_entry b old.contents) (epoch_entry b (leaves_of old event))
raises_leaving b old new (Command command now) (Answer answer) allows = raises_about b old command now allows.2 (fence_answer command now old) refl
raises_leaving b old new (Command command now) (CompactIs end) allows = absurd allows
raises_leaving b old new (Compact least now) (Answer answer) allows = absurd allows
raises_leaving b old new (Compact least now) (CompactIs end) allows = raises_same b (epoch_entry b old.contents) (epoch_entry b old.contents) refl

pub crash_keeps : CrashKeepsEpoch
crash_keeps old new event outcome actor before after lasting allows = raised actor old.contents (leaves_of old event) before after (raises_leaving actor old new event outcome allows) lasting
