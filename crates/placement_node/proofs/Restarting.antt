-- The opening of a node, from what the journal and the restart did.
use Rattle.std.proofs.Common.{◌≡◌, inl, inr, ℕ, ◌+◌, ◌<◌, ◌≤◌, Bool, true, false, List, [], ◌∷◌, ◌++◌, length, Option, Some, None, Result, Ok, Err, refl, sym, ap, ◌∙◌, subst, arith}
use Rattle.std.specs.Prelude.{cond, nat_lt, option_map}
use Rattle.std.proofs.lemmas.Bool.{ltb-true}
use Rattle.std.proofs.lemmas.List.{append-nil, length-map}
use Rattle.disk_model.specs.Disk.{DiskState, Tells}
use Rattle.disk_model.proofs.Moments.{later_then, later_weaker}
use Rattle.disk_model.proofs.Stages.{Then, Both, tells_on, tells_then, tells_both, tells_map, tells_map_at, tells_same}
use Rattle.tx_journal.specs.declared.error.JournalError.{JournalError}
use Rattle.tx_journal.specs.declared.error.JournalError.TheVariants as faults
use Rattle.tx_journal.specs.File.{Image, image, most_bytes, longest}
use Rattle.tx_journal.specs.Journal.{Rises, IsOpenError}
use Rattle.tx_journal.specs.Pair.{Files, Holds, IsJust, IsEither, ReadsAs, SinceOpened}
use Rattle.tx_journal.proofs.Claims.{leaves_weaker, opened_here}
use Rattle.tx_journal.specs.declared.format.Format.TheVariants.{One}
use Rattle.tx_journal.specs.Calls.{Side, JournalState, first_of, first_side, second_of, second_side, told, tell_one, append_refusal, Commits, Committed, is_making, MayBeLeftIn, OpensFiles, KeepsFiles, RefusesFiles, IsMeasured}
use Rattle.placement_core.specs.Entries.{EntryOf, placement_restart_record}
use Rattle.placement_core.specs.Placement.{SpaceRoom, PlacementState, new_placement, each_room, restarted, placement_restarted}
use Rattle.placement_core.specs.Restores.{after_entries}
use Rattle.placement_node.specs.declared.error.PlacementOpenError.{PlacementOpenError}
use Rattle.placement_node.specs.declared.error.PlacementOpenError.TheVariants.{Journal, BadRecord}
use Rattle.placement_node.specs.declared.written.Kept.{Kept}
use Rattle.placement_node.specs.declared.written.Kept.TheVariants.{Done, NoMemory, NoRoom, Failed}
use Rattle.placement_node.specs.Found.{after_record, after_payload, go_on, first_offset, rooms_found, all_found, restarted_of, restart_entries, placement_found, restart_payloads, IsFault, IsPayloadError}
use Rattle.placement_node.specs.Openings.{Finds, with_restart_record, OpensNode, MayBeLeftBy, KeepsNode, RefusesNode, IsNodeError, CommitsRestart, CommittedRestart, RefusesRestart, NodeCosts, write_error}
use Rattle.placement_node.specs.Records.{payload_of, payloads_of, record_in}
use Rattle.placement_node.specs.Writes.{AllWritten}
use Rattle.placement_node.proofs.Reading.{told_alone}

-- ---- the record of a restart

-- nothing was written
since_held : (held other : Image) (files : Files) → Holds held files → SinceOpened (IsEither held other) files files
since_held held other files holds = opened_here (IsEither held other) files.first files.second (leaves_weaker (IsJust held) (IsEither held other) files.first files.second (λ r is. inl is) holds.leaves)

pub rests : (now : ℕ) (old new : JournalState) → told new ≡ told old → Tells (CommitsRestart now) (told old) (told new)
rests now old new same = tells_same (CommitsRestart now) (told old) (told new) (λ files held holds. since_held held (with_restart_record now held) files holds) same

-- what the restart has to write is this record
abbrev pub RestartIs : ℕ → List EntryOf → JournalState → Type 0
RestartIs now recent old = (files : Files) → told old ≡ Some files → (held : Image) → Holds held files → restart_payloads held.payloads now ≡ payloads_of recent

pub commits_done : (now : ℕ) (recent : List EntryOf) (old new : JournalState) → RestartIs now recent old → AllWritten (payloads_of recent) Done old new → Tells (CommitsRestart now) (told old) (told new)
commits_done now [] old new is written = rests now old new (ap told written)
commits_done now (e ∷ es) old new is written = tells_map_at (Commits (payload_of (e ∷ es))) (CommitsRestart now) (told old) (told new)
    (λ f g at commits held holds. subst (λ (ps : List (List ℕ)). SinceOpened (IsEither held (image held.format (held.payloads ++ ps))) f g) (sym (is f at held holds)) (commits held holds))
    written.crash

pub commits_failed : (now : ℕ) (recent : List EntryOf) (old new : JournalState) → RestartIs now recent old → AllWritten (payloads_of recent) Failed old new → Tells (CommitsRestart now) (told old) (told new)
commits_failed now recent old new is written = tells_map_at (Commits written.0) (CommitsRestart now) (told old) (told new)
    (λ f g at commits held holds. subst (λ (ps : List (List ℕ)). SinceOpened (IsEither held (image held.format (held.payloads ++ ps))) f g) (sym (is f at held holds ∙ written.1)) (commits held holds))
    written.2.crash

pub committed_done : (now : ℕ) (recent : List EntryOf) (old new : JournalState) → RestartIs now recent old → AllWritten (payloads_of recent) Done old new → Tells (CommittedRestart now) (told old) (told new)
committed_done now [] old new is written = tells_map_at (λ f g. f ≡ g) (CommittedRestart now) (told old) (told new)
    (λ f g at same held holds. subst (λ (ps : List (List ℕ)). Holds (image held.format (held.payloads ++ ps)) g) (sym (is f at held holds)) (subst (λ (ps : List (List ℕ)). Holds (image held.format ps) g) (sym (append-nil held.payloads)) (subst (Holds held) same holds)))
    (tells_same (λ f g. f ≡ g) (told old) (told new) (λ f. refl) (ap told written))
committed_done now (e ∷ es) old new is written = tells_map_at (Committed (payload_of (e ∷ es))) (CommittedRestart now) (told old) (told new)
    (λ f g at committed held holds. subst (λ (ps : List (List ℕ)). Holds (image held.format (held.payloads ++ ps)) g) (sym (is f at held holds)) (committed held holds))
    written.done

-- ---- what was found in the payloads

record_error : (index offset : ℕ) (o : Option (List SpaceRoom)) (e : PlacementOpenError) → after_record index offset o ≡ Err e → IsPayloadError e
record_error index offset None e is = let same : BadRecord index offset ≡ e = cc in subst IsPayloadError same tt
record_error index offset (Some rooms) e is = absurd (let no : Ok rooms ≡ Err e = is in cc)

after_error : (index offset : ℕ) (rooms : List SpaceRoom) (o : Option (List EntryOf)) (e : PlacementOpenError) → after_payload index offset rooms o ≡ Err e → IsPayloadError e
after_error index offset rooms None e is = let same : Journal (faults.Damaged offset) ≡ e = cc in subst IsPayloadError same tt
after_error index offset rooms (Some r) e is = record_error index offset (after_entries rooms r) e is

found_error : (index offset : ℕ) (rooms : List SpaceRoom) (payloads : List (List ℕ)) (e : PlacementOpenError) → rooms_found index offset rooms payloads ≡ Err e → IsPayloadError e
found_error index offset rooms [] e is = absurd (let no : Ok rooms ≡ Err e = is in cc)
found_error index offset rooms (bytes ∷ payloads) e is =
    go (λ more here. found_error (index + 1) (offset + 5 + length bytes) more payloads e here) (after_payload index offset rooms (record_in bytes)) (λ f one. after_error index offset rooms (record_in bytes) f one) is
  where
    go : ((more : List SpaceRoom) → rooms_found (index + 1) (offset + 5 + length bytes) more payloads ≡ Err e → IsPayloadError e) → (r : Result (List SpaceRoom) PlacementOpenError) → ((f : PlacementOpenError) → r ≡ Err f → IsPayloadError f)
        → go_on r (λ more. rooms_found (index + 1) (offset + 5 + length bytes) more payloads) ≡ Err e → IsPayloadError e
    go ih (Ok more) one is = ih more is
    go ih (Err f) one is = let same : f ≡ e = cc in subst IsPayloadError same (one f refl)

-- an error of the reading is why the journal isn't restarted
fault_refuses : (now : ℕ) (e : PlacementOpenError) (payloads : List (List ℕ)) → IsNodeError e → IsFault e (all_found payloads) → RefusesRestart now e payloads
fault_refuses now (BadRecord index offset) payloads is fault = ap (λ (r : Result (List SpaceRoom) PlacementOpenError). restarted_of r now) fault
fault_refuses now (Journal faults.DiskFault) payloads is fault = tt
fault_refuses now (Journal (faults.Damaged offset)) payloads is fault = ap (λ (r : Result (List SpaceRoom) PlacementOpenError). restarted_of r now) fault
fault_refuses now (Journal (faults.TooLong n)) payloads is fault = absurd is
fault_refuses now (Journal (faults.Full len)) payloads is fault = absurd (found_error 0 first_offset new_placement.rooms payloads (Journal (faults.Full len)) fault)
fault_refuses now (Journal faults.Reopen) payloads is fault = absurd is
fault_refuses now (Journal faults.NotStarted) payloads is fault = absurd is
fault_refuses now (Journal faults.OneDisk) payloads is fault = absurd is
fault_refuses now (Journal (faults.Spent count)) payloads is fault = absurd is
fault_refuses now (Journal faults.OutOfMemory) payloads is fault = tt

pub start_refused : (now : ℕ) (e : PlacementOpenError) (start : List SpaceRoom) (payloads : List (List ℕ)) → start ≡ new_placement.rooms → IsNodeError e → IsFault e (rooms_found 0 first_offset start payloads) → RefusesRestart now e payloads
start_refused now e start payloads begins is fault = fault_refuses now e payloads is (subst (λ (rooms : List SpaceRoom). IsFault e (rooms_found 0 first_offset rooms payloads)) begins fault)

-- ---- a restart whose payloads were read

pub restart_few : (s t : PlacementState) (now : ℕ) → t ≡ placement_restarted s now → length t.rooms ≤ 64 → length s.rooms ≤ 64
restart_few s t now is few = subst (λ (k : ℕ). k ≤ 64) (ap (λ (u : PlacementState). length u.rooms) is ∙ length-map s.rooms (each_room (restarted now))) few

-- why an append had no room
full_is : (shut long over : Bool) (n end len : ℕ) → cond shut (Some faults.Reopen) (cond long (Some (faults.TooLong n)) (cond over (Some (faults.Full end)) None)) ≡ Some (faults.Full len) → (over ≡ true) × (end ≡ len)
full_is true long over n end len is = absurd (let no : Some faults.Reopen ≡ Some (faults.Full len) = is in cc)
full_is false true over n end len is = absurd (let no : Some (faults.TooLong n) ≡ Some (faults.Full len) = is in cc)
full_is false false true n end len is = (refl, cc)
full_is false false false n end len is = absurd (let no : None ≡ Some (faults.Full len) = is in cc)

pub full_refusal : (j : JournalState) (payload : List ℕ) (len : ℕ) → append_refusal j payload ≡ Some (faults.Full len) → (most_bytes < j.end + 5 + length payload) × (j.end ≡ len)
full_refusal j payload len is =
    let full = full_is j.is_broken (nat_lt longest (length payload)) (nat_lt most_bytes (j.end + 5 + length payload)) (length payload) j.end len is in
    (ltb-true most_bytes (j.end + 5 + length payload) full.0, full.1)

module _ (now : ℕ) (old mid new : JournalState) (start rooms : List SpaceRoom) (recent : List EntryOf)
    (begins : start ≡ new_placement.rooms) (found : (files : Files) → told old ≡ Some files → (held : Image) → Holds held files → rooms_found 0 first_offset start held.payloads ≡ Ok rooms)
    (recent_is : recent ≡ placement_restart_record (record { rooms = rooms }) now) (here : told mid ≡ told old) where
  pub all_are : (files : Files) → told old ≡ Some files → (held : Image) → Holds held files → all_found held.payloads ≡ Ok rooms
  all_are files is held holds = ap (λ (s : List SpaceRoom). rooms_found 0 first_offset s held.payloads) (sym begins) ∙ found files is held holds

  record_is : RestartIs now recent mid
  record_is files is held holds = ap payloads_of (ap (λ (r : Result (List SpaceRoom) PlacementOpenError). restart_entries r now) (all_are files (sym here ∙ is) held holds) ∙ sym recent_is)

  commits_by : (kept : Kept) → AllWritten (payloads_of recent) kept mid new → Tells (CommitsRestart now) (told mid) (told new)
  commits_by Done written = commits_done now recent mid new record_is written
  commits_by NoMemory written = rests now mid new (ap told written)
  commits_by (NoRoom len) written = rests now mid new (ap told written.3)
  commits_by Failed written = commits_failed now recent mid new record_is written

  pub restart_commits : (kept : Kept) → AllWritten (payloads_of recent) kept mid new → Tells (CommitsRestart now) (told old) (told new)
  restart_commits kept written = subst (λ (x : Option Files). Tells (CommitsRestart now) x (told new)) here (commits_by kept written)

  committed_by : (kept : Kept) (u : Unit {0}) → write_error kept ≡ Ok u → AllWritten (payloads_of recent) kept mid new → Tells (CommittedRestart now) (told mid) (told new)
  committed_by Done u is written = committed_done now recent mid new record_is written
  committed_by NoMemory u is written = absurd (let no : Err (Journal faults.OutOfMemory) ≡ Ok u = is in cc)
  committed_by (NoRoom len) u is written = absurd (let no : Err (Journal (faults.Full len)) ≡ Ok u = is in cc)
  committed_by Failed u is written = absurd (let no : Err (Journal faults.DiskFault) ≡ Ok u = is in cc)

  pub restart_committed : (kept : Kept) (u : Unit {0}) → write_error kept ≡ Ok u → AllWritten (payloads_of recent) kept mid new → Tells (CommittedRestart now) (told old) (told new)
  restart_committed kept u is written = subst (λ (x : Option Files). Tells (CommittedRestart now) x (told new)) here (committed_by kept u is written)

  abbrev Refused : PlacementOpenError → Type 0
  Refused e = IsNodeError e × ((files : Files) → told old ≡ Some files → (held : Image) → Holds held files → RefusesRestart now e held.payloads)

  no_room : (len : ℕ) → AllWritten (payloads_of recent) (NoRoom len) mid new → IsMeasured mid → mid.is_broken ≡ false → Refused (Journal (faults.Full len))
  no_room len written measured whole =
      let full = full_refusal mid written.0 len written.2 in (
        tt,
        λ files is held holds.
            let at : told mid ≡ Some files = here ∙ is in
            (written.0, record_is files at held holds ∙ written.1, sym full.1 ∙ measured whole files at held holds, subst (λ (n : ℕ). most_bytes < n + 5 + length written.0) full.1 full.0),
      )

  pub restart_unwritten : (kept : Kept) (e : PlacementOpenError) → write_error kept ≡ Err e → AllWritten (payloads_of recent) kept mid new → IsMeasured mid → mid.is_broken ≡ false → Refused e
  restart_unwritten Done e is written measured whole = absurd (let no : Ok tt ≡ Err e = is in cc)
  restart_unwritten NoMemory e is written measured whole = let same : Journal faults.OutOfMemory ≡ e = cc in subst Refused same (tt, λ files is held holds. tt)
  restart_unwritten (NoRoom len) e is written measured whole = let same : Journal (faults.Full len) ≡ e = cc in subst Refused same (no_room len written measured whole)
  restart_unwritten Failed e is written measured whole = let same : Journal faults.DiskFault ≡ e = cc in subst Refused same (tt, λ files is held holds. tt)

-- ---- the opening

alone_second : (a : Option DiskState) (files : Files) → tell_one a ≡ Some files → files.second ≡ None
alone_second None files is = absurd (let no : None ≡ Some files = is in cc)
alone_second (Some d) files is = let same : record { first = d; second = None } ≡ files = cc in sym (ap (λ (f : Files). f.second) same)

keeps_in : (create : Bool) (now : ℕ) (d : DiskState) (ds : Option DiskState) (e : DiskState) (es : Option DiskState) (f : DiskState) (fs : Option DiskState) → ds ≡ None
    → OpensFiles create (record { first = d; second = ds }) (record { first = e; second = es }) → KeepsFiles create (record { first = d; second = ds }) (record { first = e; second = es })
    → CommitsRestart now (record { first = e; second = es }) (record { first = f; second = fs }) → KeepsNode create now (record { first = d; second = ds }) (record { first = f; second = fs })
keeps_in create now d (Some x) e es f fs alone opened keeps commits = absurd (let no : Some x ≡ None = alone in cc)
keeps_in create now d None e (Some x) f fs alone opened keeps commits = absurd keeps
keeps_in create now d None e None f (Some x) alone opened keeps commits = absurd (commits opened.0 opened.2)
keeps_in create now d None e None f None alone opened keeps commits =
    let old : Files = record { first = d; second = None } in
    later_then (λ x. MayBeLeftBy create now old x None) d e f
    (later_weaker (λ x. MayBeLeftIn (is_making create d None) d None x None) (λ x. MayBeLeftBy create now old x None) d e (λ x left. inl left) keeps)
    (later_weaker (ReadsAs (IsEither opened.0 (with_restart_record now opened.0)) One) (λ x. MayBeLeftBy create now old x None) e f (λ x reads. inr (opened.0, opened.1, reads)) (commits opened.0 opened.2).later)

-- what a crash leaves of an opening that read the journal
pub keeps_node : (create : Bool) (now : ℕ) (a : Option DiskState) (b c : Option Files) → Tells (OpensFiles create) (tell_one a) b → Tells (KeepsFiles create) (tell_one a) b → Tells (CommitsRestart now) b c → Tells (KeepsNode create now) (tell_one a) c
keeps_node create now a b c opened keeps commits =
    tells_map_at (Then (Both (OpensFiles create) (KeepsFiles create)) (CommitsRestart now)) (KeepsNode create now) (tell_one a) c
    (λ d f at calls. keeps_in create now d.first d.second calls.0.first calls.0.second f.first f.second (alone_second a d at) calls.1.0 calls.1.1 calls.2)
    (tells_then (Both (OpensFiles create) (KeepsFiles create)) (CommitsRestart now) (tell_one a) b c (tells_both (OpensFiles create) (KeepsFiles create) (tell_one a) b opened keeps) commits)

left_in : (create : Bool) (now : ℕ) (d : DiskState) (ds : Option DiskState) (e : DiskState) (es : Option DiskState) → ds ≡ None
    → KeepsFiles create (record { first = d; second = ds }) (record { first = e; second = es }) → KeepsNode create now (record { first = d; second = ds }) (record { first = e; second = es })
left_in create now d (Some x) e es alone keeps = absurd (let no : Some x ≡ None = alone in cc)
left_in create now d None e (Some x) alone keeps = absurd keeps
left_in create now d None e None alone keeps =
    later_weaker (λ x. MayBeLeftIn (is_making create d None) d None x None) (λ x. MayBeLeftBy create now (record { first = d; second = None }) x None) d e (λ x left. inl left) keeps

-- what it leaves of one whose journal was refused
pub keeps_refused : (create : Bool) (now : ℕ) (a : Option DiskState) (b : Option Files) → Tells (KeepsFiles create) (tell_one a) b → Tells (KeepsNode create now) (tell_one a) b
keeps_refused create now a b keeps = tells_map_at (KeepsFiles create) (KeepsNode create now) (tell_one a) b (λ d e at kept. left_in create now d.first d.second e.first e.second (alone_second a d at) kept) keeps

pub opens_node : (create : Bool) (now : ℕ) (s : PlacementState) (a : Option DiskState) (b c : Option Files) → Tells (OpensFiles create) (tell_one a) b → ((files : Files) → b ≡ Some files → (held : Image) → Holds held files → placement_found held.payloads now ≡ Ok s) → Tells (CommittedRestart now) b c → Tells (OpensNode create now s) (tell_one a) c
opens_node create now s a b c opened found committed =
    tells_map (Then (Both (OpensFiles create) (λ f g. b ≡ Some g)) (CommittedRestart now)) (OpensNode create now s) (tell_one a) c
    (λ d f calls. (calls.1.0.0, calls.1.0.1, found calls.0 calls.1.1 calls.1.0.0 calls.1.0.2, calls.2 calls.1.0.0 calls.1.0.2, calls.1.0.3))
    (tells_then (Both (OpensFiles create) (λ f g. b ≡ Some g)) (CommittedRestart now) (tell_one a) b c (at_b (tell_one a) opened) committed)
  where
    at_b : (x : Option Files) → Tells (OpensFiles create) x b → Tells (Both (OpensFiles create) (λ f g. b ≡ Some g)) x b
    at_b None tells = tells
    at_b (Some d) tells = (tells.0, tells.1, (tells.2, tells.1))

-- ---- why it is refused

pub journal_error : (e : JournalError) → IsOpenError e → IsNodeError (Journal e)
journal_error faults.DiskFault is = tt
journal_error (faults.Damaged offset) is = tt
journal_error (faults.TooLong n) is = absurd is
journal_error (faults.Full len) is = tt
journal_error faults.Reopen is = absurd is
journal_error faults.NotStarted is = absurd is
journal_error faults.OneDisk is = absurd is
journal_error (faults.Spent count) is = absurd is
journal_error faults.OutOfMemory is = tt

pub journal_refused : (create : Bool) (now : ℕ) (e : JournalError) (files : Files) → RefusesFiles create e files → RefusesNode create now (Journal e) files
journal_refused create now faults.DiskFault files refuses = tt
journal_refused create now (faults.Damaged offset) files refuses = inl refuses
journal_refused create now (faults.TooLong n) files refuses = refuses
journal_refused create now (faults.Full len) files refuses = inl refuses
journal_refused create now faults.Reopen files refuses = refuses
journal_refused create now faults.NotStarted files refuses = refuses
journal_refused create now faults.OneDisk files refuses = refuses
journal_refused create now (faults.Spent count) files refuses = refuses
journal_refused create now faults.OutOfMemory files refuses = tt

restart_cause : (create : Bool) (now : ℕ) (e : PlacementOpenError) (files : Files) (found : Image) → Finds create files found → RefusesRestart now e found.payloads → RefusesNode create now e files
restart_cause create now (BadRecord index offset) files found finds refuses = (found, finds, refuses)
restart_cause create now (Journal faults.DiskFault) files found finds refuses = tt
restart_cause create now (Journal (faults.Damaged offset)) files found finds refuses = inr (found, finds, refuses)
restart_cause create now (Journal (faults.TooLong n)) files found finds refuses = refuses
restart_cause create now (Journal (faults.Full len)) files found finds refuses = inr (found, refuses.0, finds, refuses.1, refuses.2, refuses.3)
restart_cause create now (Journal faults.Reopen) files found finds refuses = refuses
restart_cause create now (Journal faults.NotStarted) files found finds refuses = refuses
restart_cause create now (Journal faults.OneDisk) files found finds refuses = refuses
restart_cause create now (Journal (faults.Spent count)) files found finds refuses = refuses
restart_cause create now (Journal faults.OutOfMemory) files found finds refuses = tt

pub restart_refused : (create : Bool) (now : ℕ) (e : PlacementOpenError) (a : Option DiskState) (b : Option Files) → Tells (OpensFiles create) (tell_one a) b → ((files : Files) → b ≡ Some files → (held : Image) → Holds held files → RefusesRestart now e held.payloads) → (files : Files) → tell_one a ≡ Some files → RefusesNode create now e files
restart_refused create now e a b opened refuses files is =
    let mid = tells_on (OpensFiles create) (tell_one a) b files opened is in
    restart_cause create now e files mid.2.0 mid.2.1 (refuses mid.0 mid.1 mid.2.0 mid.2.2)

-- a count that rises from a later one on
pub rises_from : (a b c : ℕ) → a ≤ b → Rises b c → Rises a c
rises_from a b c le (inl lt) = inl (omega arith)
rises_from a b c le (inr spent) = inr spent

-- ---- the end of a node

-- a journal of one disk has no second one
pub no_second : (j : JournalState) → j.other ≡ None → second_side j ≡ None
no_second j alone = rw alone (go j.is_second_live)
  where
    go : (b : Bool) → second_of b j.live None ≡ None
    go true = refl
    go false = refl

pub mapped_none : {A B : Type 0} (f : A → B) (o : Option A) → option_map f o ≡ None → o ≡ None
mapped_none f None is = refl
mapped_none f (Some x) is = absurd (let no : Some (f x) ≡ None = is in cc)

pub some_none : {A : Type 0} (o : Option A) (x : A) → o ≡ Some x → o ≡ None → ⊥
some_none o x some none = let no : Some x ≡ None = sym some ∙ none in cc

-- its first one is the live one
pub first_alone : (j : JournalState) → j.other ≡ None → first_side j ≡ j.live
first_alone j alone = rw alone (go j.is_second_live)
  where
    go : (b : Bool) → first_of b j.live None ≡ j.live
    go true = refl
    go false = refl

pub told_first : (j : JournalState) (side : Side) → j.other ≡ None → side ≡ first_side j → told j ≡ tell_one side.told
told_first j side alone is = told_alone j alone ∙ ap (λ (s : Side). tell_one s.told) (sym (is ∙ first_alone j alone))

-- a restart that a disk fault ended
pub fault_costs : (T : Type 0) (e : PlacementOpenError) (a b c d : ℕ) → a ≤ b → NodeCosts {T = T} b c (Err e) → e ≡ Journal faults.DiskFault → d ≡ c → Rises a d
fault_costs T e a b c d le costs is same = subst (Rises a) (sym same) (rises_from a b c le (subst (λ (f : PlacementOpenError). NodeCosts {T = T} b c (Err f)) is costs))
