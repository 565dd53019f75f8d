-- A journal over a list of calls.
use Rattle.std.proofs.Common.{◌≡◌, inl, ℕ, ◌+◌, Bool, true, false, cond, List, [], ◌∷◌, ◌++◌, length, Option, Some, None, Ok, Err, refl, sym, ◌∙◌, ap, subst}
use Rattle.std.specs.Prelude.{OnOk, nat_lt, ◌||◌}
use Rattle.disk_model.specs.Disk.{Tells}
use Rattle.disk_model.proofs.Stages.{tells_map_at, tells_same}
use Rattle.tx_journal.specs.declared.error.JournalError.{JournalError}
use Rattle.tx_journal.specs.declared.error.JournalError.TheVariants.{DiskFault, Damaged, TooLong, Full, Reopen, NotStarted, OneDisk, Spent, OutOfMemory}
use Rattle.tx_journal.specs.declared.format.Format.TheVariants.{Two}
use Rattle.tx_journal.specs.File.{longest, most_bytes, image, with_payload}
use Rattle.tx_journal.specs.Pair.{Files, Claim, generation_row, number, LeavesOpened, SinceOpened, Holds, IsJust, IsEither}
use Rattle.tx_journal.specs.Journal.{is_fault}
use Rattle.tx_journal.specs.Calls.{Side, JournalState, first_of, second_of, tell_sides, told, append_refusal, Appends, Commits, Committed, is_alone, is_last, is_none, next_number, start_refusal, Starts, Keeps, Kept, HasBegun, row_refusal, add_refusal, given_up, Adds, HasRow, end_refusal, Turns, Replaces, Replaced, staged_payloads}
use Rattle.tx_journal.proofs.Claims.{since_opened_weaker, opened_now, opened_here}
use Rattle.tx_journal.proofs.Standing.{held_leaves, stands_settled, stands_broken, no_rows, from_before, broken_first, stands_refused, same_after}
use Rattle.tx_journal.proofs.Batched.{append_all_stands}
use Rattle.tx_journal.specs.Batches.{with_payloads, CommitsAll}
use Rattle.tx_journal.specs.Runs.{JournalCall, Append, AppendAll, Begin, Add, Turn, Look, Answer, AppendMoves, BeginMoves, AddMoves, TurnMoves, LookMoves, Moves, Ledger, settled, outcome_of, with_row, rows_or, ledger_after, Stands, Runs, RisksOne, RisksEach}

no_append_fault : (a b c : Bool) (n len : ℕ) → cond a (Some Reopen) (cond b (Some (TooLong n)) (cond c (Some (Full len)) None)) ≡ Some DiskFault → ⊥
no_append_fault true b c n len is = let e : Some Reopen ≡ Some DiskFault = is in cc
no_append_fault false true c n len is = let e : Some (TooLong n) ≡ Some DiskFault = is in cc
no_append_fault false false true n len is = let e : Some (Full len) ≡ Some DiskFault = is in cc
no_append_fault false false false n len is = let e : None ≡ Some DiskFault = is in cc

module _ (l : Ledger) (n : ℕ) (old new : JournalState) (stands : Stands l old) (works : old.is_broken ≡ false) where
  append_taken : (payload : List ℕ) (answer : Answer) → Appends payload answer old new → Tells (Commits payload) (told old) (told new) → OnOk answer (Tells (Committed payload) (told old) (told new)) → Stands (ledger_after n (Append payload) (outcome_of answer) l) new
  append_taken payload (Ok x) appends crash done =
      let staged : new.staged ≡ None = ap (λ (j : JournalState). j.staged) appends.0 in
      stands_settled (with_payload payload l.held) None new (ap (λ (j : JournalState). j.is_broken) appends.0 ∙ works)
      (from_before (Committed payload) (Holds (with_payload payload l.held)) old new done (λ f g is committed. committed l.held (stands.holds works f is)))
      (λ more is. absurd (let e : None ≡ Some more = is in cc))
      (no_rows new staged)
  append_taken payload (Err DiskFault) appends crash done =
      stands_broken l.held (with_payload payload l.held) new (ap (λ (j : JournalState). j.is_broken) appends.0)
      (from_before (Commits payload) (LeavesOpened (IsEither l.held (with_payload payload l.held))) old new crash
      (λ f g is commits. opened_now (IsEither l.held (with_payload payload l.held)) f.first f.second g.first g.second (commits l.held (stands.holds works f is))))
  append_taken payload (Err (Damaged offset)) appends crash done = absurd appends
  append_taken payload (Err (TooLong k)) appends crash done = absurd appends
  append_taken payload (Err (Full len)) appends crash done = absurd appends
  append_taken payload (Err Reopen) appends crash done = absurd appends
  append_taken payload (Err NotStarted) appends crash done = absurd appends
  append_taken payload (Err OneDisk) appends crash done = absurd appends
  append_taken payload (Err (Spent count)) appends crash done = absurd appends
  append_taken payload (Err OutOfMemory) appends crash done = absurd appends

  append_stands : (payload : List ℕ) (answer : Answer) → AppendMoves payload answer old new → Stands (ledger_after n (Append payload) (outcome_of answer) l) new
  append_stands payload answer moves = go (append_refusal old payload) refl
    where
      go : (r : Option JournalError) → append_refusal old payload ≡ r → Stands (ledger_after n (Append payload) (outcome_of answer) l) new
      go None is = append_taken payload answer (moves.taken is) moves.crash moves.done
      go (Some e) is =
          let refused = moves.refused e is in
          let other = λ (fault : e ≡ DiskFault). no_append_fault old.is_broken (nat_lt longest (length payload)) (nat_lt most_bytes (old.end + 5 + length payload)) (length payload) old.end (is ∙ ap (λ (x : JournalError). Some x) fault) in
          subst (λ (a : Answer). Stands (ledger_after n (Append payload) (outcome_of a) l) new) (sym refused.0)
          (subst (λ (m : Ledger). Stands m new) (sym (same_after l n (Append payload) e refl other)) (subst (Stands l) (sym refused.1) stands))

  -- a crash in a call that keeps the payloads
  keeps_either : (files_old files_new : Files) → Keeps files_old files_new → told old ≡ Some files_old → SinceOpened (IsEither l.held l.held) files_old files_new
  keeps_either f g keeps is = since_opened_weaker (IsJust l.held) (IsEither l.held l.held) f.first f.second g.first g.second (λ r same. inl same) (keeps l.held (stands.holds works f is))

  keeps_fault : Tells Keeps (told old) (told new) → new.is_broken ≡ true → Stands (record { held = l.held; maybe = l.held; rows = None }) new
  keeps_fault crash broken = stands_broken l.held l.held new broken
      (from_before Keeps (LeavesOpened (IsEither l.held l.held)) old new crash (λ f g is keeps. opened_now (IsEither l.held l.held) f.first f.second g.first g.second (keeps_either f g keeps is)))

  kept_holds : Tells Kept (told old) (told new) → (files : Files) → told new ≡ Some files → Holds l.held files
  kept_holds kept = from_before Kept (Holds l.held) old new kept (λ f g is keeps. keeps l.held (stands.holds works f is))

  -- the start of a compaction
  begin_taken : (answer : Answer) → Starts answer old new → Tells Keeps (told old) (told new) → OnOk answer (Tells Kept (told old) (told new)) → OnOk answer (Tells (HasBegun old.is_second_live n) (told old) (told new)) → Stands (ledger_after n Begin (outcome_of answer) l) new
  begin_taken (Ok x) starts crash kept begun =
      let first = generation_row n ∷ [] in
      stands_settled l.held (Some first) new (ap (λ (j : JournalState). j.is_broken) starts ∙ works) (kept_holds kept)
      (λ more is files tells.
      let same : first ≡ more = cc in
      ap (λ (s : Bool). staged_payloads s files) (ap (λ (j : JournalState). j.is_second_live) starts)
      ∙ from_before (HasBegun old.is_second_live n) (λ files. staged_payloads old.is_second_live files ≡ Ok first) old new begun (λ f g is has. has) files tells ∙ ap (λ (m : List (List ℕ)). Ok m) same)
      (λ at is. (first, refl))
  begin_taken (Err DiskFault) starts crash kept begun = keeps_fault crash (ap (λ (j : JournalState). j.is_broken) starts.0)
  begin_taken (Err (Damaged offset)) starts crash kept begun = absurd starts
  begin_taken (Err (TooLong k)) starts crash kept begun = absurd starts
  begin_taken (Err (Full len)) starts crash kept begun = absurd starts
  begin_taken (Err Reopen) starts crash kept begun = absurd starts
  begin_taken (Err NotStarted) starts crash kept begun = absurd starts
  begin_taken (Err OneDisk) starts crash kept begun = absurd starts
  begin_taken (Err (Spent count)) starts crash kept begun = absurd starts
  begin_taken (Err OutOfMemory) starts crash kept begun = absurd starts

  begin_stands : n ≡ next_number old.generation → (answer : Answer) → BeginMoves answer old new → Stands (ledger_after n Begin (outcome_of answer) l) new
  begin_stands is_next answer moves = go (start_refusal old) refl
    where
      no_fault : (a b c : Bool) (k : ℕ) → cond a (Some Reopen) (cond b (Some OneDisk) (cond c (Some (Spent k)) None)) ≡ Some DiskFault → ⊥
      no_fault true b c k is = let e : Some Reopen ≡ Some DiskFault = is in cc
      no_fault false true c k is = let e : Some OneDisk ≡ Some DiskFault = is in cc
      no_fault false false true k is = let e : Some (Spent k) ≡ Some DiskFault = is in cc
      no_fault false false false k is = let e : None ≡ Some DiskFault = is in cc

      go : (r : Option JournalError) → start_refusal old ≡ r → Stands (ledger_after n Begin (outcome_of answer) l) new
      go None is = begin_taken answer (moves.taken is) moves.crash moves.kept (subst (λ k. OnOk answer (Tells (HasBegun old.is_second_live k) (told old) (told new))) (sym is_next) moves.begun)
      go (Some e) is =
          let refused = moves.refused e is in
          let other = λ (fault : e ≡ DiskFault). no_fault old.is_broken (is_alone old.other) (is_last (number old.generation)) (number old.generation) (is ∙ ap (λ (x : JournalError). Some x) fault) in
          subst (λ (a : Answer). Stands (ledger_after n Begin (outcome_of a) l) new) (sym refused.0)
          (subst (λ (m : Ledger). Stands m new) (sym (same_after l n Begin e refl other)) (subst (Stands l) (sym refused.1) stands))

  -- a row of a compaction
  row_of : (payload : List ℕ) (staged : Option ℕ) → row_refusal payload staged ≡ None → (at : ℕ) × (staged ≡ Some at)
  row_of payload None is = absurd (let e : Some NotStarted ≡ None = is in cc)
  row_of payload (Some at) is = (at, refl)

  add_taken : (payload : List ℕ) (answer : Answer) (at : ℕ) → old.staged ≡ Some at → Adds payload answer old new → Tells Keeps (told old) (told new) → OnOk answer (Tells Kept (told old) (told new)) → OnOk answer (Tells (HasRow old.is_second_live payload) (told old) (told new)) → Stands (ledger_after n (Add payload) (outcome_of answer) l) new
  add_taken payload (Ok x) at staged adds crash kept added =
      let rows = stands.begun works at staged in
      let next : with_row payload l.rows ≡ Some (rows.0 ++ payload ∷ []) = ap (with_row payload) rows.1 in
      stands_settled l.held (with_row payload l.rows) new (ap (λ (j : JournalState). j.is_broken) adds ∙ works) (kept_holds kept)
      (λ more is files tells.
      let same : rows.0 ++ payload ∷ [] ≡ more = let e : Some (rows.0 ++ payload ∷ []) ≡ Some more = sym next ∙ is in cc in
      ap (λ (s : Bool). staged_payloads s files) (ap (λ (j : JournalState). j.is_second_live) adds)
      ∙ from_before (HasRow old.is_second_live payload) (λ files. staged_payloads old.is_second_live files ≡ Ok (rows.0 ++ payload ∷ [])) old new added (λ f g is has. has rows.0 (stands.rows works rows.0 rows.1 f is)) files tells ∙ ap (λ (m : List (List ℕ)). Ok m) same)
      (λ place is. (rows.0 ++ payload ∷ [], next))
  add_taken payload (Err DiskFault) at staged adds crash kept added = keeps_fault crash (ap (λ (j : JournalState). j.is_broken) adds.0)
  add_taken payload (Err (Damaged offset)) at staged adds crash kept added = absurd adds
  add_taken payload (Err (TooLong k)) at staged adds crash kept added = absurd adds
  add_taken payload (Err (Full len)) at staged adds crash kept added = absurd adds
  add_taken payload (Err Reopen) at staged adds crash kept added = absurd adds
  add_taken payload (Err NotStarted) at staged adds crash kept added = absurd adds
  add_taken payload (Err OneDisk) at staged adds crash kept added = absurd adds
  add_taken payload (Err (Spent count)) at staged adds crash kept added = absurd adds
  add_taken payload (Err OutOfMemory) at staged adds crash kept added = absurd adds

  given_stands : (j : JournalState) → j ≡ record old { staged = None } → Stands (settled l.held None) j
  given_stands j is = stands_settled l.held None j (ap (λ (x : JournalState). x.is_broken) is ∙ works)
      (λ files tells. stands.holds works files (ap told (sym is) ∙ tells))
      (λ more same. absurd (let e : None ≡ Some more = same in cc))
      (no_rows j (ap (λ (x : JournalState). x.staged) is))

  add_refused : (payload : List ℕ) (e : JournalError) → (e ≡ DiskFault → ⊥) → new ≡ given_up e old → Stands (ledger_after n (Add payload) (outcome_of (Err e)) l) new
  add_refused payload DiskFault other is = absurd (other refl)
  add_refused payload (TooLong k) other is = given_stands new is
  add_refused payload (Full len) other is = given_stands new is
  add_refused payload (Damaged offset) other is = subst (Stands l) (sym is) stands
  add_refused payload Reopen other is = subst (Stands l) (sym is) stands
  add_refused payload NotStarted other is = subst (Stands l) (sym is) stands
  add_refused payload OneDisk other is = subst (Stands l) (sym is) stands
  add_refused payload (Spent count) other is = subst (Stands l) (sym is) stands
  add_refused payload OutOfMemory other is = subst (Stands l) (sym is) stands

  add_stands : (payload : List ℕ) (answer : Answer) → AddMoves payload answer old new → Stands (ledger_after n (Add payload) (outcome_of answer) l) new
  add_stands payload answer moves = go (add_refusal old payload) refl
    where
      row_fault : (staged : Option ℕ) → row_refusal payload staged ≡ Some DiskFault → ⊥
      row_fault None is = let e : Some NotStarted ≡ Some DiskFault = is in cc
      row_fault (Some at) is = no_append_fault false (nat_lt longest (length payload)) (nat_lt most_bytes (at + 5 + length payload)) (length payload) at is

      no_fault : (b : Bool) → cond b (Some Reopen) (row_refusal payload old.staged) ≡ Some DiskFault → ⊥
      no_fault true is = let e : Some Reopen ≡ Some DiskFault = is in cc
      no_fault false is = row_fault old.staged is

      row_none : (b : Bool) → cond b (Some Reopen) (row_refusal payload old.staged) ≡ None → row_refusal payload old.staged ≡ None
      row_none true is = absurd (let e : Some Reopen ≡ None = is in cc)
      row_none false is = is

      go : (r : Option JournalError) → add_refusal old payload ≡ r → Stands (ledger_after n (Add payload) (outcome_of answer) l) new
      go None is =
          let at = row_of payload old.staged (row_none old.is_broken is) in
          add_taken payload answer at.0 at.1 (moves.taken is) moves.crash moves.kept moves.added
      go (Some e) is =
          let refused = moves.refused e is in
          subst (λ (a : Answer). Stands (ledger_after n (Add payload) (outcome_of a) l) new) (sym refused.0)
          (add_refused payload e (λ fault. no_fault old.is_broken (is ∙ ap (λ (x : JournalError). Some x) fault)) refused.1)

  -- the end of a compaction
  staged_of : (staged : Option ℕ) → is_none staged ≡ false → (at : ℕ) × (staged ≡ Some at)
  staged_of None is = absurd (let e : true ≡ false = is in cc)
  staged_of (Some at) is = (at, refl)

  turn_taken : (answer : Answer) (at : ℕ) → old.staged ≡ Some at → Turns answer old new → Tells (Replaces old.is_second_live) (told old) (told new) → OnOk answer (Tells (Replaced old.is_second_live) (told old) (told new)) → Stands (ledger_after n Turn (outcome_of answer) l) new
  turn_taken (Ok x) at staged turns crash done =
      let rows = stands.begun works at staged in
      let is_rows : rows_or l.rows l.held ≡ image Two rows.0 = ap (λ (r : Option (List (List ℕ))). rows_or r l.held) rows.1 in
      stands_settled (rows_or l.rows l.held) None new (ap (λ (j : JournalState). j.is_broken) turns.0)
      (from_before (Replaced old.is_second_live) (Holds (rows_or l.rows l.held)) old new done (λ f g is replaced. subst (λ m. Holds m g) (sym is_rows) (replaced rows.0 (stands.rows works rows.0 rows.1 f is))))
      (λ more is. absurd (let e : None ≡ Some more = is in cc))
      (no_rows new (ap (λ (j : JournalState). j.staged) turns.0))
  turn_taken (Err DiskFault) at staged turns crash done =
      let rows = stands.begun works at staged in
      let is_rows : rows_or l.rows l.held ≡ image Two rows.0 = ap (λ (r : Option (List (List ℕ))). rows_or r l.held) rows.1 in
      subst (λ m. Stands (record { held = l.held; maybe = m; rows = None }) new) (sym is_rows)
      (stands_broken l.held (image Two rows.0) new (ap (λ (j : JournalState). j.is_broken) turns.0)
      (from_before (Replaces old.is_second_live) (LeavesOpened (IsEither l.held (image Two rows.0))) old new crash
      (λ f g is replaces. opened_now (IsEither l.held (image Two rows.0)) f.first f.second g.first g.second (replaces l.held rows.0 (stands.holds works f is) (stands.rows works rows.0 rows.1 f is)))))
  turn_taken (Err (Damaged offset)) at staged turns crash done = absurd turns
  turn_taken (Err (TooLong k)) at staged turns crash done = absurd turns
  turn_taken (Err (Full len)) at staged turns crash done = absurd turns
  turn_taken (Err Reopen) at staged turns crash done = absurd turns
  turn_taken (Err NotStarted) at staged turns crash done = absurd turns
  turn_taken (Err OneDisk) at staged turns crash done = absurd turns
  turn_taken (Err (Spent count)) at staged turns crash done = absurd turns
  turn_taken (Err OutOfMemory) at staged turns crash done = absurd turns

  turn_stands : (answer : Answer) → TurnMoves answer old new → Stands (ledger_after n Turn (outcome_of answer) l) new
  turn_stands answer moves = go (end_refusal old) refl
    where
      no_fault : (a b : Bool) → cond a (Some Reopen) (cond b (Some NotStarted) None) ≡ Some DiskFault → ⊥
      no_fault true b is = let e : Some Reopen ≡ Some DiskFault = is in cc
      no_fault false true is = let e : Some NotStarted ≡ Some DiskFault = is in cc
      no_fault false false is = let e : None ≡ Some DiskFault = is in cc

      not_none : (a b : Bool) → cond a (Some Reopen) (cond b (Some NotStarted) None) ≡ None → b ≡ false
      not_none true b is = absurd (let e : Some Reopen ≡ None = is in cc)
      not_none false true is = absurd (let e : Some NotStarted ≡ None = is in cc)
      not_none false false is = refl

      go : (r : Option JournalError) → end_refusal old ≡ r → Stands (ledger_after n Turn (outcome_of answer) l) new
      go None is =
          let at = staged_of old.staged (not_none old.is_broken (is_none old.staged) is) in
          turn_taken answer at.0 at.1 (moves.taken is) moves.crash moves.done
      go (Some e) is =
          let refused = moves.refused e is in
          let other = λ (fault : e ≡ DiskFault). no_fault old.is_broken (is_none old.staged) (is ∙ ap (λ (x : JournalError). Some x) fault) in
          subst (λ (a : Answer). Stands (ledger_after n Turn (outcome_of a) l) new) (sym refused.0)
          (subst (λ (m : Ledger). Stands m new) (sym (same_after l n Turn e refl other)) (subst (Stands l) (sym refused.1) stands))

-- a count of faults doesn't change what the disks report
told_looked : (j : JournalState) (faults : ℕ) (broken : Bool) → told (record j { live = record { told = j.live.told; faults = faults }; is_broken = broken }) ≡ told j
told_looked j faults broken = go j.is_second_live j.other
  where
    go : (s : Bool) (o : Option Side) → tell_sides (first_of s (record { told = j.live.told; faults = faults }) o) (second_of s (record { told = j.live.told; faults = faults }) o) ≡ tell_sides (first_of s j.live o) (second_of s j.live o)
    go true None = refl
    go true (Some side) = refl
    go false None = refl
    go false (Some side) = refl

module _ (l : Ledger) (n : ℕ) (old new : JournalState) (stands : Stands l old) (works : old.is_broken ≡ false) (answer : Answer) (moves : LookMoves answer old new) where
  looked : told new ≡ told old
  looked = ap told moves.same ∙ told_looked old new.live.faults new.is_broken

  look_kept : Stands l new
  look_kept = record {
    leaves = λ files tells. stands.leaves files (sym looked ∙ tells);
    holds = λ still files tells. stands.holds works files (sym looked ∙ tells);
    rows = λ still rows is files tells. ap (λ (s : Bool). staged_payloads s files) (ap (λ (j : JournalState). j.is_second_live) moves.same) ∙ stands.rows works rows is files (sym looked ∙ tells);
    begun = λ still at is. stands.begun works at (sym (ap (λ (j : JournalState). j.staged) moves.same) ∙ is);
  }

  look_broken : is_fault answer ≡ true → Stands (record { held = l.held; maybe = l.held; rows = None }) new
  look_broken fault = stands_broken l.held l.held new (moves.broken ∙ ap (λ (b : Bool). b || is_fault answer) works ∙ fault)
      (λ files tells. held_leaves l.held l.held files (stands.holds works files (sym looked ∙ tells)))

look_stands : (l : Ledger) (n : ℕ) (old new : JournalState) (stands : Stands l old) (works : old.is_broken ≡ false) (answer : Answer) (moves : LookMoves answer old new) → Stands (ledger_after n Look (outcome_of answer) l) new
look_stands l n old new stands works (Ok x) moves = look_kept l n old new stands works (Ok x) moves
look_stands l n old new stands works (Err DiskFault) moves = look_broken l n old new stands works (Err DiskFault) moves refl
look_stands l n old new stands works (Err (Damaged offset)) moves = look_kept l n old new stands works (Err (Damaged offset)) moves
look_stands l n old new stands works (Err (TooLong k)) moves = look_kept l n old new stands works (Err (TooLong k)) moves
look_stands l n old new stands works (Err (Full len)) moves = look_kept l n old new stands works (Err (Full len)) moves
look_stands l n old new stands works (Err Reopen) moves = look_kept l n old new stands works (Err Reopen) moves
look_stands l n old new stands works (Err NotStarted) moves = look_kept l n old new stands works (Err NotStarted) moves
look_stands l n old new stands works (Err OneDisk) moves = look_kept l n old new stands works (Err OneDisk) moves
look_stands l n old new stands works (Err (Spent count)) moves = look_kept l n old new stands works (Err (Spent count)) moves
look_stands l n old new stands works (Err OutOfMemory) moves = look_kept l n old new stands works (Err OutOfMemory) moves

-- one call
step_broken : (l : Ledger) (n : ℕ) (call : JournalCall) (answer : Answer) (old new : JournalState) → Stands l old → old.is_broken ≡ true → Moves call answer old new → Stands (ledger_after n call (outcome_of answer) l) new
step_broken l n (Append payload) answer old new stands broken moves = stands_refused l n (Append payload) answer old new stands (moves.refused Reopen (broken_first old.is_broken _ broken))
step_broken l n (AppendAll payloads) answer old new stands broken moves = stands_refused l n (AppendAll payloads) answer old new stands (moves.refused Reopen (broken_first old.is_broken _ broken))
step_broken l n Begin answer old new stands broken moves = stands_refused l n Begin answer old new stands (moves.refused Reopen (broken_first old.is_broken _ broken))
step_broken l n (Add payload) answer old new stands broken moves = stands_refused l n (Add payload) answer old new stands (moves.refused Reopen (broken_first old.is_broken _ broken))
step_broken l n Turn answer old new stands broken moves = stands_refused l n Turn answer old new stands (moves.refused Reopen (broken_first old.is_broken _ broken))
step_broken l n Look answer old new stands broken moves = stands_refused l n Look answer old new stands (moves.reopen broken)

step_works : (l : Ledger) (call : JournalCall) (answer : Answer) (old new : JournalState) → Stands l old → old.is_broken ≡ false → Moves call answer old new → Stands (ledger_after (next_number old.generation) call (outcome_of answer) l) new
step_works l (Append payload) answer old new stands works moves = append_stands l (next_number old.generation) old new stands works payload answer moves
step_works l (AppendAll payloads) answer old new stands works moves = append_all_stands l (next_number old.generation) old new stands works payloads answer moves
step_works l Begin answer old new stands works moves = begin_stands l (next_number old.generation) old new stands works refl answer moves
step_works l (Add payload) answer old new stands works moves = add_stands l (next_number old.generation) old new stands works payload answer moves
step_works l Turn answer old new stands works moves = turn_stands l (next_number old.generation) old new stands works answer moves
step_works l Look answer old new stands works moves = look_stands l (next_number old.generation) old new stands works answer moves

step : (l : Ledger) (call : JournalCall) (answer : Answer) (old new : JournalState) → Stands l old → Moves call answer old new → Stands (ledger_after (next_number old.generation) call (outcome_of answer) l) new
step l call answer old new stands moves = go old.is_broken refl
  where
    go : (b : Bool) → old.is_broken ≡ b → Stands (ledger_after (next_number old.generation) call (outcome_of answer) l) new
    go true is = step_broken l (next_number old.generation) call answer old new stands is moves
    go false is = step_works l call answer old new stands is moves

pub runs_stand : (l m : Ledger) (old new : JournalState) (entries : List (JournalCall × Answer)) → Stands l old → Runs l old entries m new → Stands m new
runs_stand l m old new [] stands runs = subst (λ (x : Ledger). Stands x new) (sym runs.0) (subst (Stands l) (sym runs.1) stands)
runs_stand l m old new (entry ∷ entries) stands runs =
    runs_stand (ledger_after (next_number old.generation) entry.0 (outcome_of entry.1) l) m runs.0 new entries (step l entry.0 entry.1 old runs.0 stands runs.1) runs.2

-- what a crash leaves within one call
still : (P : Claim) (old new : JournalState) → told new ≡ told old → ((files : Files) → told old ≡ Some files → LeavesOpened P files) → Tells (SinceOpened P) (told old) (told new)
still P old new same leaves = tells_map_at (λ f g. g ≡ f) (SinceOpened P) (told old) (told new)
    (λ f g is also. subst (SinceOpened P f) (sym also) (opened_here P f.first f.second (leaves f is)))
    (tells_same (λ f g. g ≡ f) (told old) (told new) (λ f. refl) same)

risks_one : (l : Ledger) (call : JournalCall) (answer : Answer) (old new : JournalState) → Stands l old → Moves call answer old new → RisksOne l call old new
risks_one l (Append payload) answer old new stands moves works =
    tells_map_at (Commits payload) (SinceOpened (IsEither l.held (with_payload payload l.held))) (told old) (told new) (λ f g is commits. commits l.held (stands.holds works f is)) moves.crash
risks_one l (AppendAll payloads) answer old new stands moves works =
    tells_map_at (CommitsAll payloads) (SinceOpened (IsEither l.held (with_payloads payloads l.held))) (told old) (told new) (λ f g is commits. commits l.held (stands.holds works f is)) moves.crash
risks_one l Begin answer old new stands moves works =
    tells_map_at Keeps (SinceOpened (IsEither l.held l.held)) (told old) (told new) (λ f g is keeps. keeps_either l 0 old new stands works f g keeps is) moves.crash
risks_one l (Add payload) answer old new stands moves works =
    tells_map_at Keeps (SinceOpened (IsEither l.held l.held)) (told old) (told new) (λ f g is keeps. keeps_either l 0 old new stands works f g keeps is) moves.crash
risks_one l Look answer old new stands moves works =
    still (IsEither l.held l.held) old new (looked l 0 old new stands works answer moves) (λ files is. held_leaves l.held l.held files (stands.holds works files is))
risks_one l Turn answer old new stands moves works = go l.rows refl
  where
    started : (rows : List (List ℕ)) → l.rows ≡ Some rows → Tells (SinceOpened (IsEither l.held (image Two rows))) (told old) (told new)
    started rows is = tells_map_at (Replaces old.is_second_live) (SinceOpened (IsEither l.held (image Two rows))) (told old) (told new)
        (λ f g tells replaces. replaces l.held rows (stands.holds works f tells) (stands.rows works rows is f tells)) moves.crash

    refused : (staged : Option ℕ) → old.staged ≡ staged → l.rows ≡ None → new ≡ old
    refused (Some at) is none = absurd (let rows = stands.begun works at is in let e : None ≡ Some rows.0 = sym none ∙ rows.1 in cc)
    refused None is none = (moves.refused NotStarted (ap (λ (b : Bool). cond b (Some Reopen) (cond (is_none old.staged) (Some NotStarted) None)) works ∙ ap (λ (s : Option ℕ). cond (is_none s) (Some NotStarted) None) is)).1

    go : (r : Option (List (List ℕ))) → l.rows ≡ r → Tells (SinceOpened (IsEither l.held (rows_or l.rows l.held))) (told old) (told new)
    go (Some rows) is = subst (λ r. Tells (SinceOpened (IsEither l.held (rows_or r l.held))) (told old) (told new)) (sym is) (started rows is)
    go None is = subst (λ r. Tells (SinceOpened (IsEither l.held (rows_or r l.held))) (told old) (told new)) (sym is)
        (still (IsEither l.held l.held) old new (ap told (refused old.staged refl is)) (λ files tells. held_leaves l.held l.held files (stands.holds works files tells)))

pub runs_risk : (l : Ledger) (old : JournalState) (entries : List (JournalCall × Answer)) → Stands l old → RisksEach l old entries
runs_risk l old [] stands = tt
runs_risk l old (entry ∷ entries) stands =
    λ mid moves. (risks_one l entry.0 entry.1 old mid stands moves, runs_risk (ledger_after (next_number old.generation) entry.0 (outcome_of entry.1) l) mid entries (step l entry.0 entry.1 old mid stands moves))
