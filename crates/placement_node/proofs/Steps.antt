-- A step of a node, from what the placement and the journal did.
use Rattle.std.proofs.Common.{◌≡◌, inl, inr, ℕ, ◌≤◌, length, Bool, true, false, List, [], ◌∷◌, Option, Some, None, Ok, Err, refl, sym, ap, ◌∙◌, subst}
use Rattle.frame_wire.specs.declared.refusal.Refusal.TheVariants as refusals
use Rattle.tx_journal.specs.declared.error.JournalError.{JournalError}
use Rattle.tx_journal.specs.declared.error.JournalError.TheVariants as faults
use Rattle.tx_journal.specs.Calls.{JournalState, append_refusal, Appends}
use Rattle.tx_journal.specs.Runs.{Answer, AppendMoves}
use Rattle.round_core.specs.declared.event.PlaceEvent.{PlaceEvent}
use Rattle.round_core.specs.declared.event.PlaceEvent.TheVariants as events
use Rattle.round_core.specs.declared.event.PlaceReply.{PlaceReply}
use Rattle.round_core.specs.declared.event.PlaceReply.TheVariants as replies
use Rattle.placement_core.specs.Entries.{EntryOf, placement_record}
use Rattle.placement_core.specs.Placement.{PlacementState, placement_step}
use Rattle.placement_core.specs.Runs.{AreRooms}
use Rattle.placement_core.specs.Views.{PlacementView, Gives, GivesInMemory, GivesStep, LeavesInMemory, LeavesAny, LeavesRecord}
use Rattle.placement_node.specs.declared.reply.NodeEvent.{NodeEvent}
use Rattle.placement_node.specs.declared.reply.NodeReply.{NodeReply}
use Rattle.placement_node.specs.declared.written.Kept.{Kept}
use Rattle.placement_node.specs.declared.written.Kept.TheVariants.{Done, NoMemory, NoRoom, Failed}
use Rattle.placement_node.specs.Node.{NodeState, payloads_for, Appended, Steps, Works, NodeMoves}
use Rattle.placement_node.specs.Records.{payloads_of}
use Rattle.placement_node.specs.Ranges.{EventFits, StateFits, RecordFits, ReplyFits}
use Rattle.placement_node.specs.Replies.{event_space, refused, reply_of, LooksAt, Outcome, Done as is_done, outcome_of}
use Rattle.placement_node.specs.Trials.{Tries}
use Rattle.placement_node.proofs.Rooms.{state_fits, record_fits}
use Rattle.placement_node.proofs.Sent.{memory_sent}
use Rattle.placement_node.specs.Writes.{kept_of, Written, AllWritten, Keeps, answered}

-- ---- what the journal did

-- an append that was refused, or failed
pub written_else : (e : JournalError) (payload : List ℕ) (old new : JournalState) → AppendMoves payload (Err e) old new → Written payload (kept_of e) old new
written_else e payload old new moves = go e (append_refusal old payload) refl moves
  where
    same : (e : JournalError) (r : Option JournalError) → append_refusal old payload ≡ r → AppendMoves payload (Err e) old new → (r ≡ None → ⊥) → (append_refusal old payload ≡ Some e) × (new ≡ old)
    same e None is moves none = absurd (none refl)
    same e (Some f) is moves none =
        let refused = moves.refused f is in
        let equal : f ≡ e = cc (refused.0) in
        (is ∙ ap (λ (x : JournalError). Some x) equal, refused.1)

    go : (e : JournalError) (r : Option JournalError) → append_refusal old payload ≡ r → AppendMoves payload (Err e) old new → Written payload (kept_of e) old new
    go faults.DiskFault r is moves = moves
    go (faults.Damaged offset) None is moves = absurd (moves.taken is)
    go (faults.Damaged offset) (Some f) is moves = (moves.refused f is).1
    go (faults.TooLong n) None is moves = absurd (moves.taken is)
    go (faults.TooLong n) (Some f) is moves = (moves.refused f is).1
    go (faults.Full len) None is moves = absurd (moves.taken is)
    go (faults.Full len) (Some f) is moves = same (faults.Full len) (Some f) is moves (λ none. let e : Some f ≡ None = none in cc)
    go faults.Reopen None is moves = absurd (moves.taken is)
    go faults.Reopen (Some f) is moves = (moves.refused f is).1
    go faults.NotStarted None is moves = absurd (moves.taken is)
    go faults.NotStarted (Some f) is moves = (moves.refused f is).1
    go faults.OneDisk None is moves = absurd (moves.taken is)
    go faults.OneDisk (Some f) is moves = (moves.refused f is).1
    go (faults.Spent count) None is moves = absurd (moves.taken is)
    go (faults.Spent count) (Some f) is moves = (moves.refused f is).1
    go faults.OutOfMemory None is moves = absurd (moves.taken is)
    go faults.OutOfMemory (Some f) is moves = (moves.refused f is).1

-- one payload was written
pub one_written : (kept : Kept) (payloads : List (List ℕ)) (payload : List ℕ) (old new : JournalState) → payloads ≡ payload ∷ [] → Written payload kept old new → AllWritten payloads kept old new
one_written Done payloads payload old new is written = subst (λ (ps : List (List ℕ)). Appended ps (Ok tt) old new) (sym is) written
one_written NoMemory payloads payload old new is written = written
one_written (NoRoom len) payloads payload old new is written = (payload, is, written.0, written.1)
one_written Failed payloads payload old new is written = (payload, is, written)

-- nothing was to be written
pub none_written : (payloads : List (List ℕ)) (old : JournalState) → payloads ≡ [] → AllWritten payloads Done old old
none_written payloads old is = subst (λ (ps : List (List ℕ)). Appended ps (Ok tt) old old) (sym is) refl

-- ---- what the placement did, if memory didn't run out

had_memory : (event : PlaceEvent) (now : ℕ) (reply : PlaceReply) (s t : PlacementState) → (reply ≡ replies.OutOfMemory → ⊥) → GivesInMemory event now reply s t → Gives event now reply s t
had_memory event now (replies.Lock version) s t other gives = gives
had_memory event now (replies.Update version) s t other gives = gives
had_memory event now (replies.Unlock version) s t other gives = gives
had_memory event now replies.Idle s t other gives = gives
had_memory event now replies.Gone s t other gives = gives
had_memory event now (replies.Ticked dropped) s t other gives = gives
had_memory event now replies.Looked s t other gives = gives
had_memory event now (replies.StaleBoot greatest) s t other gives = gives
had_memory event now (replies.NodeBusy boot) s t other gives = gives
had_memory event now (replies.NotMember greatest) s t other gives = gives
had_memory event now (replies.SpacesFull spaces) s t other gives = gives
had_memory event now (replies.Full members nodes) s t other gives = gives
had_memory event now replies.OutOfMemory s t other gives = absurd (other refl)

pub gives_done : (event : PlaceEvent) (now : ℕ) (reply : PlaceReply) (s t : PlacementState) → (reply ≡ replies.OutOfMemory → ⊥) → GivesStep event now reply s t → Gives event now reply s t
gives_done (events.Register host) now reply s t other gives = had_memory (events.Register host) now reply s t other gives
gives_done (events.Beat m) now reply s t other gives = gives
gives_done (events.Ack m stage version) now reply s t other gives = gives
gives_done (events.Leave m) now reply s t other gives = gives
gives_done (events.Lost m) now reply s t other gives = gives
gives_done events.Tick now reply s t other gives = gives
gives_done events.Look now reply s t other gives = gives

left_memory : (reply : PlaceReply) (entries recent : List EntryOf) → (reply ≡ replies.OutOfMemory → ⊥) → LeavesInMemory reply entries recent → recent ≡ entries
left_memory (replies.Lock version) entries recent other leaves = leaves
left_memory (replies.Update version) entries recent other leaves = leaves
left_memory (replies.Unlock version) entries recent other leaves = leaves
left_memory replies.Idle entries recent other leaves = leaves
left_memory replies.Gone entries recent other leaves = leaves
left_memory (replies.Ticked dropped) entries recent other leaves = leaves
left_memory replies.Looked entries recent other leaves = leaves
left_memory (replies.StaleBoot greatest) entries recent other leaves = leaves
left_memory (replies.NodeBusy boot) entries recent other leaves = leaves
left_memory (replies.NotMember greatest) entries recent other leaves = leaves
left_memory (replies.SpacesFull spaces) entries recent other leaves = leaves
left_memory (replies.Full members nodes) entries recent other leaves = leaves
left_memory replies.OutOfMemory entries recent other leaves = absurd (other refl)

left_any : (event : PlaceEvent) (reply : PlaceReply) (entries recent : List EntryOf) → (reply ≡ replies.OutOfMemory → ⊥) → LeavesAny event reply entries recent → recent ≡ entries
left_any (events.Register host) reply entries recent other leaves = left_memory reply entries recent other leaves
left_any (events.Beat m) reply entries recent other leaves = leaves
left_any (events.Ack m stage version) reply entries recent other leaves = leaves
left_any (events.Leave m) reply entries recent other leaves = leaves
left_any (events.Lost m) reply entries recent other leaves = leaves
left_any events.Tick reply entries recent other leaves = leaves
left_any events.Look reply entries recent other leaves = leaves

pub leaves_done : (event : PlaceEvent) (now : ℕ) (reply : PlaceReply) (s : PlacementState) (recent : List EntryOf) → (reply ≡ replies.OutOfMemory → ⊥) → LeavesRecord event now reply s recent → recent ≡ placement_record s event now
leaves_done event now reply s recent other leaves = left_any event reply (placement_record s event now) recent other leaves

-- ---- the reply

outcome_done : (s : PlacementState) (space : List ℕ) (reply : PlaceReply) → (reply ≡ replies.OutOfMemory → ⊥) → outcome_of (reply_of s space reply) ≡ is_done
outcome_done s space (replies.Lock version) other = refl
outcome_done s space (replies.Update version) other = refl
outcome_done s space (replies.Unlock version) other = refl
outcome_done s space replies.Idle other = refl
outcome_done s space replies.Gone other = refl
outcome_done s space (replies.Ticked dropped) other = refl
outcome_done s space replies.Looked other = refl
outcome_done s space (replies.StaleBoot greatest) other = refl
outcome_done s space (replies.NodeBusy boot) other = refl
outcome_done s space (replies.NotMember greatest) other = refl
outcome_done s space (replies.SpacesFull spaces) other = refl
outcome_done s space (replies.Full members nodes) other = refl
outcome_done s space replies.OutOfMemory other = absurd (other refl)

clash : (b : Bool) → b ≡ true → b ≡ false → ⊥
clash b t f = let e : true ≡ false = sym t ∙ f in cc

-- memory ran out
pub memory_moves : (old : NodeState) (event : NodeEvent) → old.journal.is_broken ≡ false → NodeMoves old event (refused refusals.OutOfMemory) old
memory_moves old event whole = record { shut = λ broken. absurd (clash old.journal.is_broken broken whole); works = λ same. refl }

-- a step that was tried
pub tries_done : (event : PlaceEvent) (now : ℕ) (s : PlacementState) (trial : PlacementView) (reply : PlaceReply) (answer : NodeReply) → EventFits event → StateFits s → length s.rooms ≤ 64 → (reply ≡ replies.OutOfMemory → ⊥)
    → GivesStep event now reply s trial.state → LeavesRecord event now reply s trial.recent → answer ≡ reply_of trial.state (event_space event) reply → ReplyFits answer → AreRooms trial.state.rooms → Tries event now s trial answer
tries_done event now s trial reply answer sent kept few other gives leaves is fits rooms =
    let given = gives_done event now reply s trial.state other gives in
    let recent_is = leaves_done event now reply s trial.recent other leaves in
    let step = placement_step s event now in
    record {
      state = given.1;
      recent = recent_is;
      answers = is ∙ ap (λ (t : PlacementState). reply_of t (event_space event) reply) given.1 ∙ ap (λ (r : PlaceReply). reply_of step.state (event_space event) r) given.0;
      done = ap outcome_of is ∙ outcome_done trial.state (event_space event) reply other;
      rooms = rooms;
      kept = subst StateFits (sym given.1) (state_fits s event now sent kept);
      record_fits = subst RecordFits (sym recent_is) (record_fits s event now sent kept few);
      sent = fits;
    }

-- all that a Look is answered may be sent
pub look_fits : (s : PlacementState) (reply : NodeReply) → LooksAt s reply → ReplyFits reply
look_fits s reply (inl is) = subst ReplyFits (sym is) tt
look_fits s reply (inr is) = subst ReplyFits (sym is) memory_sent

-- a journal of one disk stays one
append_alone : (payload : List ℕ) (answer : Answer) (j k : JournalState) → j.other ≡ None → AppendMoves payload answer j k → k.other ≡ None
append_alone payload answer j k alone moves = go (append_refusal j payload) refl
  where
    taken : (a : Answer) → Appends payload a j k → k.other ≡ None
    taken (Ok x) appends = ap (λ (i : JournalState). i.other) appends.0 ∙ alone
    taken (Err faults.DiskFault) appends = ap (λ (i : JournalState). i.other) appends.0 ∙ alone
    taken (Err (faults.Damaged offset)) appends = absurd appends
    taken (Err (faults.TooLong n)) appends = absurd appends
    taken (Err (faults.Full len)) appends = absurd appends
    taken (Err faults.Reopen) appends = absurd appends
    taken (Err faults.NotStarted) appends = absurd appends
    taken (Err faults.OneDisk) appends = absurd appends
    taken (Err (faults.Spent count)) appends = absurd appends
    taken (Err faults.OutOfMemory) appends = absurd appends

    go : (r : Option JournalError) → append_refusal j payload ≡ r → k.other ≡ None
    go None is = taken answer (moves.taken is)
    go (Some e) is = ap (λ (i : JournalState). i.other) (moves.refused e is).1 ∙ alone

pub written_alone : (payloads : List (List ℕ)) (kept : Kept) (j k : JournalState) → j.other ≡ None → AllWritten payloads kept j k → k.other ≡ None
written_alone [] Done j k alone written = ap (λ (i : JournalState). i.other) written ∙ alone
written_alone (payload ∷ payloads) Done j k alone written = append_alone payload (Ok tt) j k alone written
written_alone payloads NoMemory j k alone written = ap (λ (i : JournalState). i.other) written ∙ alone
written_alone payloads (NoRoom len) j k alone written = ap (λ (i : JournalState). i.other) written.3 ∙ alone
written_alone payloads Failed j k alone written = append_alone written.0 (Err faults.DiskFault) j k alone written.2

-- a placement that was tried out, by what came of its record
module _ (trial : PlacementView) (old : NodeState) (s : PlacementState) (j k : JournalState) (view_is : record { state = s; journal = j } ≡ old) where
  from_old : (kept : Kept) → AllWritten (payloads_of trial.recent) kept j k → AllWritten (payloads_of trial.recent) kept old.journal k
  from_old kept written = subst (λ (i : JournalState). AllWritten (payloads_of trial.recent) kept i k) (ap (λ (n : NodeState). n.journal) view_is) written

  pub keeps_done : AllWritten (payloads_of trial.recent) Done j k → Keeps trial Done old (record { state = trial.state; journal = k })
  keeps_done written = (refl, from_old Done written)

  pub keeps_memory : AllWritten (payloads_of trial.recent) NoMemory j k → Keeps trial NoMemory old (record { state = s; journal = k })
  keeps_memory written = ap (λ (i : JournalState). record { state = s; journal = i }) written ∙ view_is

  pub keeps_room : (len : ℕ) → AllWritten (payloads_of trial.recent) (NoRoom len) j k → Keeps trial (NoRoom len) old (record { state = s; journal = k })
  keeps_room len written = (ap (λ (n : NodeState). n.state) view_is, from_old (NoRoom len) written)

  pub keeps_fault : AllWritten (payloads_of trial.recent) Failed j k → Keeps trial Failed old (record { state = s; journal = k })
  keeps_fault written = (ap (λ (n : NodeState). n.state) view_is, from_old Failed written)

module _ (old new : NodeState) (event : PlaceEvent) (now : ℕ) (trial : PlacementView) (answer : NodeReply)
    (whole : old.journal.is_broken ≡ false) (tries : Tries event now old.state trial answer) where
  abbrev here : NodeEvent
  here = record { event = event; now = now }

  recent_is : payloads_of trial.recent ≡ payloads_for old here
  recent_is = ap payloads_of tries.recent

  pub done_moves : Keeps trial Done old new → NodeMoves old here answer new
  done_moves keeps =
      let steps : Steps old here answer new = record {
        replies = tries.answers;
        state = keeps.0 ∙ tries.state;
        written = subst (λ (ps : List (List ℕ)). Appended ps (Ok tt) old.journal new.journal) recent_is keeps.1;
        rooms = subst (λ (s : PlacementState). AreRooms s.rooms) (sym keeps.0) tries.rooms;
      } in
      record {
        shut = λ broken. absurd (clash old.journal.is_broken broken whole);
        works = λ same. subst (λ (o : Outcome). Works old here answer new o) (sym tries.done) steps;
      }

  same_node : (new.state ≡ old.state) → new.journal ≡ old.journal → new ≡ old
  same_node state journal = ap (λ (s : PlacementState). record { state = s; journal = new.journal }) state ∙ ap (λ (j : JournalState). record { state = old.state; journal = j }) journal

  pub full_moves : (len : ℕ) → Keeps trial (NoRoom len) old new → NodeMoves old here (refused (refusals.JournalFull len)) new
  full_moves len keeps = record {
    shut = λ broken. absurd (clash old.journal.is_broken broken whole);
    works = λ same. (record { payload = keeps.1.0; is = sym recent_is ∙ keeps.1.1; full = keeps.1.2 }, same_node keeps.0 keeps.1.3);
  }

  pub fault_moves : Keeps trial Failed old new → NodeMoves old here (refused refusals.DiskFault) new
  fault_moves keeps = record {
    shut = λ broken. absurd (clash old.journal.is_broken broken whole);
    works = λ same. record { payload = keeps.1.0; is = sym recent_is ∙ keeps.1.1; state = keeps.0; written = keeps.1.2 };
  }

  pub forgotten_moves : Keeps trial NoMemory old new → NodeMoves old here (refused refusals.OutOfMemory) new
  forgotten_moves keeps = record { shut = λ broken. absurd (clash old.journal.is_broken broken whole); works = λ same. keeps }

  pub kept_moves : (kept : Kept) → Keeps trial kept old new → NodeMoves old here (answered kept answer) new
  kept_moves Done keeps = done_moves keeps
  kept_moves NoMemory keeps = forgotten_moves keeps
  kept_moves (NoRoom len) keeps = full_moves len keeps
  kept_moves Failed keeps = fault_moves keeps
