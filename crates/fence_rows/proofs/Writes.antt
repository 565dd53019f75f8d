-- Which writes are accepted, and which are refused.
use Rattle.std.proofs.Common.{◌≡◌, inl, inr, ℕ, ◌≤◌, ◌<◌, Bool, true, false, List, Option, None, Some, length, refl, sym, ap, subst, ◌∙◌, arith}
use Rattle.std.specs.Prelude.{nat_lt, if◌then◌else◌}
use Rattle.actor_names.specs.declared.actor_key.ActorKey.{ActorKey}
use Rattle.state_rows.specs.declared.op.StateOp.{StateOp}
use Rattle.frame_wire.specs.declared.store_answer.StoreAnswer.{StoreAnswer}
use Rattle.frame_wire.specs.declared.store_answer.StoreAnswer.TheVariants.{Refused}
use Rattle.frame_wire.specs.declared.store_command.Stamp.{Stamp}
use Rattle.frame_wire.specs.declared.store_command.StoreCommand.{StoreCommand}
use Rattle.frame_wire.specs.declared.store_command.StoreCommand.TheVariants.{Tx}
use Rattle.frame_wire.specs.declared.store_refusal.StoreRefusal.TheVariants.{Reopen, TooManyOps}
use Rattle.store_tables.specs.Tables.{Tables}
use Rattle.store_tables.specs.Contents.{Timed}
use Rattle.store_core.specs.Store.{StoreState}
use Rattle.fence_rows.specs.declared.event.FencedAnswer.{FencedAnswer}
use Rattle.fence_rows.specs.declared.event.FencedAnswer.TheVariants as answers
use Rattle.fence_rows.specs.declared.event.FencedCommand.TheVariants as fenced
use Rattle.fence_rows.specs.Epochs.{epoch_entry, actor_epoch}
use Rattle.fence_rows.specs.Fences.{given_at, first_answer, reopen_answer, stale_answer, reserved_from, reserved_answer, many_answer, tx_answer, plain_answer, IsOfStore, Follows, FencedMoves}
use Rattle.fence_rows.specs.Runs.{IsLasting, IsWritten, AcceptsAtLeast, IsRefusedBelow, RefusesEarlier}
use Rattle.fence_rows.proofs.Settings.{at_key, epoch_at, set_entry, own_entry, epoch_set}
use Rattle.fence_rows.proofs.Contents.{Made, Same, Taken, made_of}
use Rattle.fence_rows.proofs.Outcomes.{accepted_rows}
use Rattle.fence_rows.proofs.Seeing.{stale_said}
use Rattle.fence_rows.proofs.Steps.{not_stale, runs_raise}

-- ---- what the fence answers acknowledges no write

abbrev pub Refuses : FencedAnswer → Type 0
Refuses (answers.Answer (Refused r)) = Unit {0}
Refuses (answers.Answer given) = ⊥
Refuses answer = Unit {0}

not_written : (t : Tables) (c : Timed) (answer : FencedAnswer) → Refuses answer → IsWritten t c answer → ⊥
not_written t c (answers.Answer (Refused r)) refuses written = let e : true ≡ false = written.1 in absurd (cc)
not_written t c (answers.Answer given) refuses written = refuses
not_written t c answer refuses written = written

abbrev pub AllRefuse : Option FencedAnswer → Type 0
AllRefuse None = Unit {0}
AllRefuse (Some answer) = Refuses answer

first_refuses : (first later : Option FencedAnswer) → AllRefuse first → AllRefuse later → AllRefuse (first_answer first later)
first_refuses None later one two = two
first_refuses (Some answer) later one two = one

reopen_refuses : (b : Bool) → AllRefuse (reopen_answer b)
reopen_refuses true = tt
reopen_refuses false = tt

by_test : (b : Bool) (answer : FencedAnswer) → Refuses answer → AllRefuse (if b then Some answer else None)
by_test true answer refuses = refuses
by_test false answer refuses = tt

reserved_refuses : (op : Option ℕ) → AllRefuse (reserved_answer op)
reserved_refuses None = tt
reserved_refuses (Some op) = tt

pub tx_refuses : (epoch : ℕ) (ops : List StateOp) (is_broken : Bool) (seen : ℕ) → AllRefuse (tx_answer epoch ops is_broken seen)
tx_refuses epoch ops is_broken seen =
    first_refuses (reopen_answer is_broken) (first_answer (stale_answer epoch seen) (first_answer (reserved_answer (reserved_from 0 ops)) (many_answer (length ops)))) (reopen_refuses is_broken)
    (first_refuses (stale_answer epoch seen) (first_answer (reserved_answer (reserved_from 0 ops)) (many_answer (length ops))) (by_test (nat_lt epoch seen) (answers.StaleEpoch seen) tt)
    (first_refuses (reserved_answer (reserved_from 0 ops)) (many_answer (length ops)) (reserved_refuses (reserved_from 0 ops))
    (by_test (nat_lt 999 (length ops)) (answers.Answer (Refused (TooManyOps (length ops)))) tt)))

-- ---- a write that is accepted

-- a transaction of an epoch that is written wasn't refused by the fence
module _ (old new : StoreState) (epoch now : ℕ) (s : Stamp) (actor : ActorKey) (ops : List StateOp) (answer : FencedAnswer) where
  abbrev Here : Timed
  Here = given_at (fenced.Tx epoch (Tx s actor ops)) now

  abbrev Said : Option FencedAnswer
  Said = tx_answer epoch ops old.journal.is_broken (actor_epoch actor now old.contents)

  -- it is a step of the store
  pub written_moves : FencedMoves old (fenced.Tx epoch (Tx s actor ops)) now answer new → IsWritten old.contents Here answer → (Said ≡ None) × IsOfStore Here old answer new
  written_moves moves written = elim moves [
    | inl ran ↦ absurd (not_written old.contents Here answer (subst Refuses (sym ran.0) tt) written)
    | inr follows ↦ go Said refl (tx_refuses epoch ops old.journal.is_broken (actor_epoch actor now old.contents)) follows
  ]
    where
      go : (o : Option FencedAnswer) → Said ≡ o → AllRefuse o → Follows o Here old answer new → (Said ≡ None) × IsOfStore Here old answer new
      go (Some given) is refuses follows = absurd (not_written old.contents Here answer (subst Refuses (sym follows.0) refuses) written)
      go None is refuses follows = (is, follows)

  -- then it has set the epoch of its actor
  pub written_sets : FencedMoves old (fenced.Tx epoch (Tx s actor ops)) now answer new → IsWritten old.contents Here answer → epoch_entry actor new.contents ≡ Some (set_entry actor now epoch)
  written_sets moves written = by_answer answer written (written_moves moves written).1
    where
      by_made : (given : StoreAnswer) → IsWritten old.contents Here (answers.Answer given) → Made Here old given new → epoch_entry actor new.contents ≡ Some (set_entry actor now epoch)
      by_made given written (Same same refused) = absurd (refused written.0 written.1)
      by_made given written (Taken said after is made) =
          ap (epoch_entry actor) made ∙ ap (at_key actor) (accepted_rows old.contents Here said after is) ∙ own_entry actor now epoch ops old.contents.rows

      by_answer : (a : FencedAnswer) → IsWritten old.contents Here a → IsOfStore Here old a new → epoch_entry actor new.contents ≡ Some (set_entry actor now epoch)
      by_answer (answers.Answer given) written moves = by_made given written (made_of Here old given new moves)
      by_answer a written moves = absurd moves

-- ---- at least the actor's epoch

plain_write : (old new : StoreState) (c : StoreCommand) (now : ℕ) (answer : FencedAnswer) (s : Stamp) (actor : ActorKey) (ops : List StateOp)
    → c ≡ Tx s actor ops → FencedMoves old (fenced.Plain c) now answer new → IsWritten old.contents (given_at (fenced.Plain c) now) answer → ⊥
plain_write old new c now answer s actor ops is moves written = elim moves [
  | inl ran ↦ ran
  | inr follows ↦
      let said : plain_answer c ≡ Some answers.Unfenced = ap plain_answer is in
      let unfenced : (answer ≡ answers.Unfenced) × (new ≡ old) = subst (λ (o : Option FencedAnswer). Follows o (given_at (fenced.Plain c) now) old answer new) said follows in
      not_written old.contents (given_at (fenced.Plain c) now) answer (subst Refuses (sym unfenced.0) tt) written
]

fenced_write : (old new : StoreState) (epoch : ℕ) (c : StoreCommand) (now : ℕ) (answer : FencedAnswer) (s : Stamp) (actor : ActorKey) (ops : List StateOp)
    → c ≡ Tx s actor ops → FencedMoves old (fenced.Tx epoch c) now answer new → IsWritten old.contents (given_at (fenced.Tx epoch c) now) answer → actor_epoch actor now old.contents ≤ epoch
fenced_write old new epoch c now answer s actor ops is =
    subst (λ (d : StoreCommand). FencedMoves old (fenced.Tx epoch d) now answer new → IsWritten old.contents (given_at (fenced.Tx epoch d) now) answer → actor_epoch actor now old.contents ≤ epoch) (sym is)
    (λ moves written. not_stale epoch ops old.journal.is_broken (actor_epoch actor now old.contents) (written_moves old new epoch now s actor ops answer moves written).0)

pub accepts_at_least : AcceptsAtLeast
accepts_at_least old new (fenced.Plain c) now answer s actor ops is allows written = absurd (plain_write old new c now answer s actor ops is allows.0 written)
accepts_at_least old new (fenced.Tx epoch c) now answer s actor ops is allows written = fenced_write old new epoch c now answer s actor ops is allows.0 written

-- ---- an earlier epoch

below_is : (epoch earlier : ℕ) (ops : List StateOp) (is_broken : Bool) (seen : ℕ) → earlier < epoch → epoch ≤ seen → (o : FencedAnswer) × (tx_answer earlier ops is_broken seen ≡ Some o) × IsRefusedBelow epoch o
below_is epoch earlier ops true seen low high = (answers.Answer (Refused Reopen), refl, tt)
below_is epoch earlier ops false seen low high =
    (answers.StaleEpoch seen, stale_said earlier seen ops (omega arith), high)

pub refuses_earlier : RefusesEarlier
refuses_earlier old mid last new between actor epoch earlier s r ops more now later answer given first written runs second low =
    let set : epoch_entry actor mid.contents ≡ Some (set_entry actor now epoch) = written_sets old mid epoch now s actor ops answer first.0 written in
    let raised : epoch_at later (epoch_entry actor mid.contents) ≤ epoch_at later (epoch_entry actor last.contents) =
    (runs_raise actor mid last between runs later (subst (λ e. IsLasting later e) (sym set) (inr refl))).1 in
    let there : epoch_at later (epoch_entry actor mid.contents) ≡ epoch = ap (epoch_at later) set ∙ epoch_set actor now epoch later first.2 in
    let refused = below_is epoch earlier more last.journal.is_broken (actor_epoch actor later last.contents) low (omega arith) in
    elim second.0 [
      | inl ran ↦ (subst (IsRefusedBelow epoch) (sym ran.0) tt, ran.1)
      | inr follows ↦
          let is : (given ≡ refused.0) × (new ≡ last) = subst (λ (o : Option FencedAnswer). Follows o (given_at (fenced.Tx earlier (Tx r actor more)) later) last given new) refused.1 follows in
          (subst (IsRefusedBelow epoch) (sym is.0) refused.2, is.1)
    ]
