-- A step of the store, from what its tables and its journal did.
use Rattle.std.proofs.Common.{◌≡◌, ◌⊎◌, inl, inr, ℕ, ◌+◌, Bool, true, false, List, [], ◌∷◌, ◌++◌, length, Some, None, Result, refl, sym, ap, subst, ◌∙◌}
use Rattle.disk_model.specs.Disk.{Tells}
use Rattle.disk_model.proofs.Stages.{tells_map_at, told_before}
use Rattle.frame_wire.specs.declared.store_answer.StoreAnswer.{StoreAnswer}
use Rattle.frame_wire.specs.declared.store_answer.StoreAnswer.TheVariants.{Refused}
use Rattle.frame_wire.specs.Store.{AnswerFits}
use Rattle.frame_wire.specs.declared.store_refusal.StoreRefusal.{StoreRefusal}
use Rattle.frame_wire.specs.declared.store_refusal.StoreRefusal.TheVariants as refusals
use Rattle.store_tables.specs.Tables.{Tables, Outcome, Told, Accepted, told_in, TakesMemory}
use Rattle.store_tables.specs.Contents.{Timed, outcome_of}
use Rattle.tx_journal.specs.declared.error.JournalError.TheVariants.{TooLong, Full}
use Rattle.tx_journal.specs.Journal.{Rises}
use Rattle.tx_journal.specs.Calls.{JournalState, told, append_refusal, Commits, Committed}
use Rattle.tx_journal.specs.Pair.{IsJust, IsEither, SinceOpened}
use Rattle.store_payloads.specs.Payloads.{command_payload}
use Rattle.store_payloads.specs.Laws.{MayCome, ReadsCommands, OutcomeFits}
use Rattle.tx_journal.specs.declared.format.Format.TheVariants.{Two}
use Rattle.tx_journal.specs.File.{Image, with_payload}
use Rattle.store_core.specs.Contents.{contents_of, OpensWith, OpensWithEither}
use Rattle.store_core.specs.Store.{StoreState, IsCurrent, Leaves, Rests, IsDone, HasFailed, Writes, Goes, RanOut, Moves, IsLonger, IsFaulted, Written}
use Rattle.store_core.proofs.Claims.{leaves_weaker, since_opened_weaker}
use Rattle.store_core.proofs.Foldings.{no-generation, generation-same, contents-more}

clash : (b : Bool) → b ≡ true → b ≡ false → ⊥
clash b t f = let e : true ≡ false = sym t ∙ f in cc

-- what is accepted takes memory
pub takes : (o : Outcome) → told_in o ≡ None → TakesMemory o
takes (Told a) h = absurd (cc)
takes (Accepted a after) h = tt

-- a store that met a fault
pub moves-broken : (s : StoreState) (c : Timed) (answer : StoreAnswer) → s.journal.is_broken ≡ true → answer ≡ Refused refusals.Reopen → Moves s c answer s
moves-broken s c answer broken is = record { broken = λ same. (is, refl); works = λ works. absurd (clash s.journal.is_broken broken works) }

-- it has an answer, and leaves tables
pub accepted_is : (o : Outcome) → told_in o ≡ None → (given : StoreAnswer) × (after : Tables) × (o ≡ Accepted given after)
accepted_is (Told a) h = absurd (cc)
accepted_is (Accepted a after) h = (a, after, refl)

pub answer_fits : (o : Outcome) (given : StoreAnswer) (after : Tables) → o ≡ Accepted given after → OutcomeFits o → AnswerFits given
answer_fits o given after is fits = subst OutcomeFits is fits

pub told_fits : (o : Outcome) (given : StoreAnswer) → told_in o ≡ Some given → OutcomeFits o → AnswerFits given
told_fits (Told a) given is fits = let same : a ≡ given = cc in subst AnswerFits same fits
told_fits (Accepted a after) given is fits = absurd (cc)

module _ (t : Tables) (j : JournalState) (current : IsCurrent j t) (works : j.is_broken ≡ false) where
  abbrev here : StoreState
  here = record { contents = t; journal = j }

  rests : Rests here here
  rests = (
    refl,
    λ files is.
        let held = current works files is in
        leaves_weaker (IsJust held.0) (OpensWith t) files (λ r e. (held.0, e, held.2)) held.1.leaves,
  )

  whole : (c : Timed) (answer : StoreAnswer) (new : StoreState) → RanOut (outcome_of t c) here answer new ⊎ Goes (outcome_of t c) c here answer new → Moves here c answer new
  whole c answer new w = record { broken = λ broken. absurd (clash j.is_broken broken works); works = λ _. w }

  pub moves-told : (c : Timed) (answer : StoreAnswer) → told_in (outcome_of t c) ≡ Some answer → Moves here c answer here
  moves-told c answer h = whole c answer here (inr (go (outcome_of t c) h))
    where
      go : (o : Outcome) → told_in o ≡ Some answer → Goes o c here answer here
      go (Told a) k = (let e : answer ≡ a = cc in e, rests)
      go (Accepted a after) k = absurd (cc)

  pub moves-ran-out : (c : Timed) → TakesMemory (outcome_of t c) → Moves here c (Refused refusals.OutOfMemory) here
  moves-ran-out c m = whole c (Refused refusals.OutOfMemory) here (inl (refl, m, rests))

  module _ (c : Timed) (reads : ReadsCommands) (may : MayCome c) (given : StoreAnswer) (after : Tables) (o : outcome_of t c ≡ Accepted given after) where
    -- what stands before and after an append opens with the contents before and after the command
    either : (held : Image) → contents_of held ≡ Some t → held.format ≡ Two → (r : Result Image ℕ) → IsEither held (with_payload (command_payload c) held) r → OpensWithEither t after r
    either held is two r (inl e) = inl (held, e, is)
    either held is two r (inr e) = inr (with_payload (command_payload c) held, e, contents-more held c t after given reads may two is o)

    risks : (new : JournalState) → Tells (Commits (command_payload c)) (told j) (told new) → Tells (SinceOpened (OpensWithEither t after)) (told j) (told new)
    risks new tells = tells_map_at (Commits (command_payload c)) (SinceOpened (OpensWithEither t after)) (told j) (told new)
        (λ f g is commits.
        let held = current works f is in
        since_opened_weaker (IsEither held.0 (with_payload (command_payload c) held.0)) (OpensWithEither t after) f g (either held.0 held.2 held.3) (commits held.0 held.1))
        tells

    pub current-on : (new : JournalState) → Tells (Committed (command_payload c)) (told j) (told new) → IsCurrent new after
    current-on new tells unbroken files is =
        let before = told_before (Committed (command_payload c)) (told j) (told new) files tells is in
        let held = current works before.0 before.1 in
        (with_payload (command_payload c) held.0, before.2 held.0 held.1, contents-more held.0 c t after given reads may held.3 held.2 o, held.3)

    leaves-after : (new : JournalState) → new.is_broken ≡ false → Tells (Committed (command_payload c)) (told j) (told new) → Leaves after (record { contents = after; journal = new })
    leaves-after new unbroken tells files is =
        let held = current-on new tells unbroken files is in
        leaves_weaker (IsJust held.0) (OpensWith after) files (λ r e. (held.0, e, held.2)) held.1.leaves

    abbrev Went : StoreAnswer → StoreState → Type 0
    Went answer new = Writes (append_refusal j (command_payload c)) (command_payload c) given after here answer new

    goes : (answer : StoreAnswer) (new : StoreState) → Went answer new → Moves here c answer new
    goes answer new w = whole c answer new (inr (subst (λ (x : Outcome). Goes x c here answer new) (sym o) w))

    pub moves-done : (new : JournalState) → append_refusal j (command_payload c) ≡ None → IsLonger (command_payload c) j new → Tells (Commits (command_payload c)) (told j) (told new) → Tells (Committed (command_payload c)) (told j) (told new) → Moves here c given (record { contents = after; journal = new })
    moves-done new free longer commits committed =
        let s : StoreState = record { contents = after; journal = new } in
        let unbroken : new.is_broken ≡ false = ap (λ (k : JournalState). k.is_broken) longer ∙ works in
        let journal : new ≡ record j { live = new.live; end = j.end + 5 + length (command_payload c); staged = None } =
        longer ∙ ap (λ g. record j { live = new.live; end = j.end + 5 + length (command_payload c); generation = g; staged = None }) (generation-same j.end j.generation (command_payload c) (no-generation c)) in
        let done : IsDone (command_payload c) given after here given s = record { answer_ = refl; contents = refl; journal = journal; works = unbroken; leaves = leaves-after new unbroken committed; risks = risks new commits } in
        goes given s (subst (λ r. Writes r (command_payload c) given after here given s) (sym free) (inl done))

    -- refused for the length of the command, or for that of the file
    pub moves-long : (n : ℕ) → append_refusal j (command_payload c) ≡ Some (TooLong n) → Moves here c (Refused (refusals.CommandTooLong n)) here
    moves-long n h = goes (Refused (refusals.CommandTooLong n)) here (subst (λ r. Writes r (command_payload c) given after here (Refused (refusals.CommandTooLong n)) here) (sym h) (refl, rests))

    pub moves-full : (len : ℕ) → append_refusal j (command_payload c) ≡ Some (Full len) → Moves here c (Refused (refusals.Full len)) here
    moves-full len h = goes (Refused (refusals.Full len)) here (subst (λ r. Writes r (command_payload c) given after here (Refused (refusals.Full len)) here) (sym h) (refl, rests))

    -- the disk failed
    pub moves-failed :
        (new : JournalState) → append_refusal j (command_payload c) ≡ None → IsFaulted j new → Rises j.live.faults new.live.faults → Tells (Commits (command_payload c)) (told j) (told new)
        → Moves here c (Refused refusals.DiskFault) (record { contents = t; journal = new })
    moves-failed new free faulted rises commits =
        let s : StoreState = record { contents = t; journal = new } in
        let broken : new.is_broken ≡ true = ap (λ (k : JournalState). k.is_broken) faulted in
        let failed : HasFailed after here (Refused refusals.DiskFault) s = record { answer_ = refl; contents = refl; journal = faulted; broken = broken; rises = rises; risks = risks new commits } in
        goes (Refused refusals.DiskFault) s (subst (λ r. Writes r (command_payload c) given after here (Refused refusals.DiskFault) s) (sym free) (inr failed))

    -- what the journal refused
    pub moves-refused : (refusal : StoreRefusal) (new : JournalState) → Written (command_payload c) (Some refusal) j new → Moves here c (Refused refusal) (record { contents = t; journal = new })
    moves-refused (refusals.CommandTooLong n) new w = subst (λ (k : JournalState). Moves here c (Refused (refusals.CommandTooLong n)) (record { contents = t; journal = k })) (sym w.1) (moves-long n w.0)
    moves-refused (refusals.Full len) new w = subst (λ (k : JournalState). Moves here c (Refused (refusals.Full len)) (record { contents = t; journal = k })) (sym w.1) (moves-full len w.0)
    moves-refused refusals.DiskFault new w = moves-failed new w.0 w.1 w.2 w.3
    moves-refused (refusals.OtherBoot greatest) new w = absurd w
    moves-refused (refusals.OldSeq floor) new w = absurd w
    moves-refused (refusals.NodesFull nodes) new w = absurd w
    moves-refused refusals.Spent new w = absurd w
    moves-refused (refusals.TooManyOps n) new w = absurd w
    moves-refused (refusals.KeyTooLong op n) new w = absurd w
    moves-refused (refusals.ValueTooLong op n) new w = absurd w
    moves-refused (refusals.OtherMoment m) new w = absurd w
    moves-refused refusals.Reopen new w = absurd w
    moves-refused refusals.OutOfMemory new w = absurd w
    moves-refused (refusals.StaleEpoch seen) new w = absurd w
    moves-refused (refusals.ReservedKey op) new w = absurd w
    moves-refused refusals.Unfenced new w = absurd w

    -- then the journal holds what it held, or a fault was met
    pub current-refused : (refusal : StoreRefusal) (new : JournalState) → Written (command_payload c) (Some refusal) j new → IsCurrent new t
    current-refused (refusals.CommandTooLong n) new w = subst (λ (k : JournalState). IsCurrent k t) (sym w.1) current
    current-refused (refusals.Full len) new w = subst (λ (k : JournalState). IsCurrent k t) (sym w.1) current
    current-refused refusals.DiskFault new w = λ same files tells. absurd (clash new.is_broken (ap (λ (k : JournalState). k.is_broken) w.1) same)
    current-refused (refusals.OtherBoot greatest) new w = absurd w
    current-refused (refusals.OldSeq floor) new w = absurd w
    current-refused (refusals.NodesFull nodes) new w = absurd w
    current-refused refusals.Spent new w = absurd w
    current-refused (refusals.TooManyOps n) new w = absurd w
    current-refused (refusals.KeyTooLong op n) new w = absurd w
    current-refused (refusals.ValueTooLong op n) new w = absurd w
    current-refused (refusals.OtherMoment m) new w = absurd w
    current-refused refusals.Reopen new w = absurd w
    current-refused refusals.OutOfMemory new w = absurd w
    current-refused (refusals.StaleEpoch seen) new w = absurd w
    current-refused (refusals.ReservedKey op) new w = absurd w
    current-refused refusals.Unfenced new w = absurd w

    pub moves-written : (new : JournalState) → Written (command_payload c) None j new → Moves here c given (record { contents = after; journal = new })
    moves-written new w = moves-done new w.0 w.1 w.2 w.3

    pub current-written : (new : JournalState) → Written (command_payload c) None j new → IsCurrent new after
    current-written new w = current-on new w.3
