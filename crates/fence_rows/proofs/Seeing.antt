-- Reading the epoch of an actor, and what its transaction is answered then.
use Rattle.std.proofs.Common.{◌≡◌, inl, inr, ℕ, ◌<◌, ◌≤◌, Bool, true, false, List, Option, Some, None, length, refl, sym, ap, subst, ◌∙◌, arith}
use Rattle.std.specs.Prelude.{Err}
use Rattle.std.proofs.lemmas.Bool.Decides.{nat_tests}
use Rattle.actor_names.specs.declared.actor_key.ActorKey.{ActorKey}
use Rattle.state_rows.specs.declared.op.StateOp.{StateOp}
use Rattle.state_rows.specs.Entries.{value_at}
use Rattle.frame_wire.specs.declared.store_answer.StoreAnswer.{StoreAnswer}
use Rattle.frame_wire.specs.declared.store_answer.StoreAnswer.TheVariants.{Value, NotThere, Refused}
use Rattle.frame_wire.specs.declared.store_command.Stamp.{Stamp}
use Rattle.frame_wire.specs.declared.store_command.StoreCommand.TheVariants.{Tx, Get}
use Rattle.frame_wire.specs.declared.store_refusal.StoreRefusal.{StoreRefusal}
use Rattle.frame_wire.specs.declared.store_refusal.StoreRefusal.TheVariants.{Reopen, TooManyOps, OutOfMemory}
use Rattle.store_tables.specs.Tables.{Tables, Outcome, Told, value_answer, store_outcome}
use Rattle.store_tables.specs.Contents.{Timed, outcome_of}
use Rattle.store_core.specs.Store.{StoreState, Goes, Moves}
use Rattle.fence_rows.specs.declared.event.FencedAnswer.{FencedAnswer}
use Rattle.fence_rows.specs.declared.event.FencedAnswer.TheVariants as answers
use Rattle.fence_rows.specs.declared.event.FencedCommand.TheVariants as fenced
use Rattle.fence_rows.specs.Epochs.{epoch_key, epoch_in, actor_epoch}
use Rattle.fence_rows.specs.Fences.{given_at, first_answer, stale_answer, reserved_from, reserved_answer, many_answer, tx_answer, Follows, FencedMoves, SeesEpoch}

-- ---- the store's answer for the key

abbrev Question : ActorKey → ℕ → Timed
Question actor now = record { now = now; command = Get actor epoch_key }

-- what the answer tells of the epoch
abbrev pub Tells : StoreState → ActorKey → ℕ → StoreAnswer → Type 0
Tells s actor now (Value value) = (s.journal.is_broken ≡ false) × (epoch_in (Some value) ≡ actor_epoch actor now s.contents)
Tells s actor now NotThere = (s.journal.is_broken ≡ false) × (0 ≡ actor_epoch actor now s.contents)
Tells s actor now (Refused r) = SeesEpoch s actor now (Err r)
Tells s actor now answer = ⊥

told_is : (t : Tables) (actor : ActorKey) (now : ℕ) → outcome_of t (Question actor now) ≡ Told (value_answer (value_at actor epoch_key now t.rows))
unfolding store_outcome
told_is t actor now = refl

by_value : (s : StoreState) (actor : ActorKey) (now : ℕ) (v : Option (List ℕ)) → s.journal.is_broken ≡ false → value_at actor epoch_key now s.contents.rows ≡ v → Tells s actor now (value_answer v)
by_value s actor now None works is = (works, ap epoch_in (sym is))
by_value s actor now (Some value) works is = (works, ap epoch_in (sym is))

pub tells : (old new : StoreState) (actor : ActorKey) (now : ℕ) (answer : StoreAnswer) → Moves old (Question actor now) answer new → Tells old actor now answer × (new ≡ old)
tells old new actor now answer moves = go old.journal.is_broken refl
  where
    go : (b : Bool) → old.journal.is_broken ≡ b → Tells old actor now answer × (new ≡ old)
    go true broken = (subst (Tells old actor now) (sym (moves.broken broken).0) broken, (moves.broken broken).1)
    go false works = elim (moves.works works) [
      | inl ran ↦ (subst (Tells old actor now) (sym ran.0) tt, ran.2.0)
      | inr goes ↦
          let told = subst (λ (o : Outcome). Goes o (Question actor now) old answer new) (told_is old.contents actor now) goes in
          (subst (Tells old actor now) (sym told.0) (by_value old actor now (value_at actor epoch_key now old.contents.rows) works refl), told.1.0)
    ]

-- the same for a question that was made of copies
pub tells_at : (old st new : StoreState) (actor a : ActorKey) (key : List ℕ) (now : ℕ) (answer : StoreAnswer) → st ≡ old → a ≡ actor → key ≡ epoch_key
    → Moves st (record { now = now; command = Get a key }) answer new → Tells old actor now answer × (new ≡ old)
tells_at old st new actor a key now answer same copied is moves =
    let one = subst (λ (s : StoreState). Moves s (record { now = now; command = Get a key }) answer new) same moves in
    let two = subst (λ (b : ActorKey). Moves old (record { now = now; command = Get b key }) answer new) copied one in
    tells old new actor now answer (subst (λ (k : List ℕ). Moves old (record { now = now; command = Get actor k }) answer new) is two)

-- no other answer tells of it
pub none_else : (s : StoreState) (actor : ActorKey) (now : ℕ) (answer : StoreAnswer) → Tells s actor now answer
    → ((value : List ℕ) → answer ≡ Value value → ⊥) → (answer ≡ NotThere → ⊥) → ((r : StoreRefusal) → answer ≡ Refused r → ⊥) → ⊥
none_else s actor now (Value value) told one two three = one value refl
none_else s actor now NotThere told one two three = two refl
none_else s actor now (Refused r) told one two three = three r refl
none_else s actor now answer told one two three = told

-- ---- the refusals

stale_is : (epoch seen : ℕ) → epoch < seen → stale_answer epoch seen ≡ Some (answers.StaleEpoch seen)
stale_is epoch seen low = grind (arith, nat_tests)

-- one of an epoch below the actor's
pub stale_said : (epoch seen : ℕ) (ops : List StateOp) → epoch < seen → tx_answer epoch ops false seen ≡ Some (answers.StaleEpoch seen)
stale_said epoch seen ops low = ap (λ (o : Option FencedAnswer). first_answer o (first_answer (reserved_answer (reserved_from 0 ops)) (many_answer (length ops)))) (stale_is epoch seen low)

pub none_or : (first later : Option FencedAnswer) → first_answer first later ≡ None → (first ≡ None) × (later ≡ None)
none_or None later is = (refl, is)
none_or (Some answer) later is = absurd (let e : Some answer ≡ None = is in cc)

few_in : (n : ℕ) → many_answer n ≡ None → n ≤ 999
few_in n is = grind (arith, nat_tests)

-- one that is the store's has room for the operation that sets the epoch
pub not_many : (epoch seen : ℕ) (ops : List StateOp) → tx_answer epoch ops false seen ≡ None → length ops ≤ 999
not_many epoch seen ops is =
    let later = none_or (stale_answer epoch seen) (first_answer (reserved_answer (reserved_from 0 ops)) (many_answer (length ops))) is in
    few_in (length ops) (none_or (reserved_answer (reserved_from 0 ops)) (many_answer (length ops)) later.1).1

-- ---- the step of a transaction

module _ (old : StoreState) (now epoch : ℕ) (s : Stamp) (actor : ActorKey) (ops : List StateOp) where
  abbrev MovesTo : FencedAnswer → StoreState → Type 0
  MovesTo answer new = FencedMoves old (fenced.Tx epoch (Tx s actor ops)) now answer new

  by_fence : (answer : FencedAnswer) → tx_answer epoch ops old.journal.is_broken (actor_epoch actor now old.contents) ≡ Some answer → MovesTo answer old
  by_fence answer is = inr (subst (λ (o : Option FencedAnswer). Follows o (given_at (fenced.Tx epoch (Tx s actor ops)) now) old answer old) (sym is) (refl, refl))

  -- the store doesn't tell the epoch
  pub moves_unseen : (r : StoreRefusal) → SeesEpoch old actor now (Err r) → MovesTo (answers.Answer (Refused r)) old
  moves_unseen Reopen broken = by_fence (answers.Answer (Refused Reopen)) (ap (λ (b : Bool). tx_answer epoch ops b (actor_epoch actor now old.contents)) broken)
  moves_unseen OutOfMemory u = inl (refl, refl)
  moves_unseen r none = absurd none

  pub moves_out : MovesTo (answers.Answer (Refused OutOfMemory)) old
  moves_out = inl (refl, refl)

  module _ (seen : ℕ) (works : old.journal.is_broken ≡ false) (is : seen ≡ actor_epoch actor now old.contents) where
    said_at : tx_answer epoch ops old.journal.is_broken (actor_epoch actor now old.contents) ≡ tx_answer epoch ops false seen
    said_at = ap (λ (b : Bool). tx_answer epoch ops b (actor_epoch actor now old.contents)) works ∙ ap (tx_answer epoch ops false) (sym is)

    pub moves_refused : (answer : FencedAnswer) → tx_answer epoch ops false seen ≡ Some answer → MovesTo answer old
    moves_refused answer is = by_fence answer (said_at ∙ is)

    pub moves_given : tx_answer epoch ops false seen ≡ None → (given : StoreAnswer) (new : StoreState) → Moves old (given_at (fenced.Tx epoch (Tx s actor ops)) now) given new → MovesTo (answers.Answer given) new
    moves_given none given new moves =
        inr (subst (λ (o : Option FencedAnswer). Follows o (given_at (fenced.Tx epoch (Tx s actor ops)) now) old (answers.Answer given) new) (sym (said_at ∙ none)) moves)
