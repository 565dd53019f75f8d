-- What a command of a list is answered, as a single step over disks that report nothing.
use Rattle.std.proofs.Common.{◌≡◌, inl, inr, ℕ, Bool, true, false, List, [], ◌∷◌, Option, Some, None, refl, sym, ◌∙◌, ap, subst}
use Rattle.frame_wire.specs.declared.store_answer.StoreAnswer.{StoreAnswer}
use Rattle.frame_wire.specs.declared.store_answer.StoreAnswer.TheVariants.{Refused}
use Rattle.frame_wire.specs.declared.store_refusal.StoreRefusal.TheVariants as refusals
use Rattle.store_tables.specs.Tables.{Tables, Outcome, Told, Accepted}
use Rattle.store_tables.specs.Contents.{Timed, outcome_of}
use Rattle.store_payloads.specs.Payloads.{command_payload}
use Rattle.tx_journal.specs.declared.error.JournalError.{JournalError}
use Rattle.tx_journal.specs.declared.error.JournalError.TheVariants as errors
use Rattle.tx_journal.specs.Calls.{append_refusal}
use Rattle.store_core.specs.Store.{StoreState, Rests, HasFailed, Writes, Goes, Moves}
use Rattle.store_core.specs.Lists.{ahead_by, Joins, Comes, Foresees, Passes, Guards}
use Rattle.fence_rows.specs.declared.event.FencedAnswer.{FencedAnswer}
use Rattle.fence_rows.specs.declared.event.FencedAnswer.TheVariants as answers
use Rattle.fence_rows.specs.declared.event.FencedCommand.{FencedCommand}
use Rattle.fence_rows.specs.declared.event.FencedCommand.TheVariants as fenced
use Rattle.fence_rows.specs.declared.event.FencedEvent.TheVariants.{Command}
use Rattle.fence_rows.specs.declared.event.FencedOutcome.{FencedOutcome}
use Rattle.fence_rows.specs.declared.event.FencedOutcome.TheVariants.{Answer}
use Rattle.fence_rows.specs.Fences.{given_at, fence_answer, Follows, FencedMoves}
use Rattle.fence_rows.specs.Together.{is_fenced, outcome_in, fence_rules}
use Rattle.fence_rows.proofs.GroupQuiet.{hushed, told_hushed, none_leaves, none_risks, fence_hushed}

pub unbroken : (b : Bool) → b ≡ false → b ≡ true → ⊥
unbroken b f t = let e : false ≡ true = sym f ∙ t in cc

module _ (s : StoreState) (works : s.journal.is_broken ≡ false) where
  rests : (n : ℕ) → Rests (hushed n s) (hushed n s)
  rests n = (refl, none_leaves s.contents (hushed n s) (told_hushed n s))

  module _ (c : Timed) (given : StoreAnswer) (taken : List Timed) (mid : StoreState) where
    -- it changes nothing, or it joins the batch
    data Foreseen : Type 0 where
      Stayed : taken ≡ [] → mid ≡ s → ((n : ℕ) → Moves (hushed n s) c given (hushed n s)) → Foreseen
      Joined : (after : Tables) → taken ≡ c ∷ [] → mid ≡ ahead_by (command_payload c) after s → append_refusal s.journal (command_payload c) ≡ None → outcome_of s.contents c ≡ Accepted given after → Foreseen

    stay_moves : ((n : ℕ) → Goes (outcome_of s.contents c) c (hushed n s) given (hushed n s)) → (n : ℕ) → Moves (hushed n s) c given (hushed n s)
    stay_moves goes n = record { broken = λ broken. absurd (unbroken s.journal.is_broken works broken); works = λ same. inr (goes n) }

    module _ (said : StoreAnswer) (after : Tables) (o : outcome_of s.contents c ≡ Accepted said after) where
      refused_goes : (e : JournalError) → append_refusal s.journal (command_payload c) ≡ Some e
          → ((n : ℕ) → Writes (Some e) (command_payload c) said after (hushed n s) given (hushed n s)) → (n : ℕ) → Goes (outcome_of s.contents c) c (hushed n s) given (hushed n s)
      refused_goes e is writes n =
          subst (λ (x : Outcome). Goes x c (hushed n s) given (hushed n s)) (sym o)
          (subst (λ (r : Option JournalError). Writes r (command_payload c) said after (hushed n s) given (hushed n s)) (sym is) (writes n))

      joins_of : (r : Option JournalError) → append_refusal s.journal (command_payload c) ≡ r → Joins r c said after s given taken mid → Foreseen
      joins_of None is joins = Joined after joins.1 joins.2 is (o ∙ ap (λ (a : StoreAnswer). Accepted a after) (sym joins.0))
      joins_of (Some (errors.TooLong n)) is stays = Stayed stays.1 stays.2 (stay_moves (refused_goes (errors.TooLong n) is (λ m. (stays.0, rests m))))
      joins_of (Some (errors.Full len)) is stays = Stayed stays.1 stays.2 (stay_moves (refused_goes (errors.Full len) is (λ m. (stays.0, rests m))))
      joins_of (Some errors.Reopen) is joins = absurd joins
      joins_of (Some errors.DiskFault) is joins = absurd joins
      joins_of (Some (errors.Damaged offset)) is joins = absurd joins
      joins_of (Some errors.NotStarted) is joins = absurd joins
      joins_of (Some errors.OneDisk) is joins = absurd joins
      joins_of (Some (errors.Spent count)) is joins = absurd joins
      joins_of (Some errors.OutOfMemory) is joins = absurd joins

    comes_of : (o : Outcome) → outcome_of s.contents c ≡ o → Comes o c s given taken mid → Foreseen
    comes_of (Told said) is stays = Stayed stays.1 stays.2 (stay_moves (λ n. subst (λ (x : Outcome). Goes x c (hushed n s) given (hushed n s)) (sym is) (stays.0, rests n)))
    comes_of (Accepted said after) is joins = joins_of said after is (append_refusal s.journal (command_payload c)) refl joins

    foreseen_of : Foresees s c given taken mid → Foreseen
    foreseen_of foresees = elim (foresees.works works) [
      | inl ran ↦ Stayed ran.1.1 ran.1.2 (λ n. record { broken = λ broken. absurd (unbroken s.journal.is_broken works broken); works = λ same. inl (ran.1.0, ran.0, rests n) })
      | inr comes ↦ comes_of (outcome_of s.contents c) refl comes
    ]

-- ---- behind the fence

-- a command changes nothing, or it joins the batch
pub data Turn (s : StoreState) (command : FencedCommand) (now : ℕ) (answer : FencedOutcome) (taken : List Timed) (mid : StoreState) : Type 0 where
  Still : (given : FencedAnswer) → answer ≡ Answer given → taken ≡ [] → mid ≡ s → ((n : ℕ) → FencedMoves (hushed n s) command now given (hushed n s)) → Turn s command now answer taken mid
  Taken :
      (given : StoreAnswer) → (after : Tables) → answer ≡ Answer (answers.Answer given) → taken ≡ given_at command now ∷ [] → mid ≡ ahead_by (command_payload (given_at command now)) after s
      → fence_answer command now s ≡ None → append_refusal s.journal (command_payload (given_at command now)) ≡ None → outcome_of s.contents (given_at command now) ≡ Accepted given after → Turn s command now answer taken mid

module _ (s : StoreState) (works : s.journal.is_broken ≡ false) (command : FencedCommand) (now : ℕ) where
  -- a step that the fence decides, or lets pass
  by_fence : (n : ℕ) (o : Option FencedAnswer) (given : FencedAnswer) (new : StoreState) → fence_answer command now s ≡ o → Follows o (given_at command now) (hushed n s) given new → FencedMoves (hushed n s) command now given new
  by_fence n o given new is follows = inr (subst (λ (x : Option FencedAnswer). Follows x (given_at command now) (hushed n s) given new) (sym (fence_hushed n s command now ∙ is)) follows)

  module _ (answer : FencedOutcome) (taken : List Timed) (mid : StoreState) where
    by_memory : (command_ : FencedCommand) → command_ ≡ command → is_fenced command_ ≡ true → answer ≡ Answer (answers.Answer (Refused refusals.OutOfMemory)) → taken ≡ [] → mid ≡ s → Turn s command now answer taken mid
    by_memory (fenced.Plain c) same is answered none stays = absurd (let e : false ≡ true = is in cc)
    by_memory (fenced.Tx epoch c) same is answered none stays =
        Still (answers.Answer (Refused refusals.OutOfMemory)) answered none stays
        (λ n. subst (λ (x : FencedCommand). FencedMoves (hushed n s) x now (answers.Answer (Refused refusals.OutOfMemory)) (hushed n s)) same (inl (refl, refl)))

    by_store : fence_answer command now s ≡ None → (given : StoreAnswer) → answer ≡ Answer (answers.Answer given) → Foreseen s works (given_at command now) given taken mid → Turn s command now answer taken mid
    by_store none given is (Stayed nothing same moves) = Still (answers.Answer given) is nothing same (λ n. by_fence n None (answers.Answer given) (hushed n s) none (moves n))
    by_store none given is (Joined after taken mid fits o) = Taken given after is taken mid none fits o

    by_rules : (o : Option FencedAnswer) → fence_answer command now s ≡ o → Passes fence_rules (outcome_in o) (Command command now) s answer taken mid → Turn s command now answer taken mid
    by_rules (Some given) is stays = Still given stays.0 stays.1 stays.2 (λ n. by_fence n (Some given) given (hushed n s) is (refl, refl))
    by_rules None is passes = by_store is passes.0 passes.1 (foreseen_of s works (given_at command now) passes.0 taken mid passes.2)

    pub turn_of : Guards fence_rules s (Command command now) answer taken mid → Turn s command now answer taken mid
    turn_of (inl ran) = by_memory command refl ran.0 ran.1.0 ran.1.1 ran.1.2
    turn_of (inr passes) = by_rules (fence_answer command now s) refl passes

  -- ---- one that joins the batch

  module _ (given : StoreAnswer) (after : Tables) (none : fence_answer command now s ≡ None) (fits : append_refusal s.journal (command_payload (given_at command now)) ≡ None) (o : outcome_of s.contents (given_at command now) ≡ Accepted given after) where
    writes_moves : (n : ℕ) (said : StoreAnswer) (new : StoreState) → Writes None (command_payload (given_at command now)) given after (hushed n s) said new → FencedMoves (hushed n s) command now (answers.Answer said) new
    writes_moves n said new writes = by_fence n None (answers.Answer said) new none (record {
      broken = λ broken. absurd (unbroken s.journal.is_broken works broken);
      works = λ same. inr (subst (λ (x : Outcome). Goes x (given_at command now) (hushed n s) said new) (sym o)
          (subst (λ (r : Option JournalError). Writes r (command_payload (given_at command now)) given after (hushed n s) said new) (sym fits) writes));
    })

    -- it is on the disk
    pub done_moves : (n m : ℕ) → FencedMoves (hushed n s) command now (answers.Answer given) (hushed m (ahead_by (command_payload (given_at command now)) after s))
    done_moves n m =
        let new : StoreState = hushed m (ahead_by (command_payload (given_at command now)) after s) in
        writes_moves n given new (inl (record {
          answer_ = refl;
          contents = refl;
          journal = refl;
          works = works;
          leaves = none_leaves after new (told_hushed m (ahead_by (command_payload (given_at command now)) after s));
          risks = none_risks after (hushed n s) new (told_hushed n s) (told_hushed m (ahead_by (command_payload (given_at command now)) after s));
        }))

    -- the disk failed
    pub failed_moves : (n : ℕ) (new : StoreState) → ((t : Tables) → HasFailed t (hushed n s) (Refused refusals.DiskFault) new) → FencedMoves (hushed n s) command now (answers.Answer (Refused refusals.DiskFault)) new
    failed_moves n new failed = writes_moves n (Refused refusals.DiskFault) new (inr (failed after))
