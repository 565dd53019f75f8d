-- A Beat that is made in place: its answer, and the step of the node.
use Rattle.std.proofs.Common.{◌≡◌, ℕ, ◌≤◌, length, List, [], Result, Ok, Err, refl, sym, ap, ◌∙◌, subst}
use Rattle.std.specs.Prelude.{IfOk}
use Rattle.actor_names.specs.declared.member.Member.{Member}
use Rattle.round_core.specs.Beats.{IsTold}
use Rattle.round_core.specs.declared.event.PlaceEvent.{PlaceEvent}
use Rattle.round_core.specs.declared.event.PlaceEvent.TheVariants as events
use Rattle.round_core.specs.declared.event.PlaceReply.{PlaceReply}
use Rattle.round_core.specs.declared.event.PlaceReply.TheVariants as replies
use Rattle.placement_core.specs.Beats.{IsQuietBeat}
use Rattle.placement_core.specs.Placement.{PlacementState, placement_step, room_of}
use Rattle.placement_core.specs.Runs.{AreRooms}
use Rattle.placement_core.specs.Views.{GivesStep}
use Rattle.placement_node.specs.declared.reply.NodeReply.{NodeReply}
use Rattle.placement_node.specs.Ranges.{EventFits, StateFits, RecordFits, NumbersFit, ReplyFits}
use Rattle.placement_node.specs.Replies.{reply_of, Done as is_done, outcome_of}
use Rattle.placement_node.specs.Trials.{IsQuiet, Tries}
use Rattle.placement_node.proofs.Rooms.{state_fits, record_fits}
use Rattle.placement_node.proofs.Sent.{numbers_fit}

-- ---- what a member is told depends on the table alone

told_same : (s t : PlacementState) (space : List ℕ) (reply : PlaceReply) → IsTold reply → (room_of t space).table ≡ (room_of s space).table → reply_of t space reply ≡ reply_of s space reply
told_same s t space (replies.Lock version) told e = refl
told_same s t space (replies.Update version) told e = rw e refl
told_same s t space (replies.Unlock version) told e = refl
told_same s t space replies.Idle told e = refl
told_same s t space reply told e = absurd told

told_done : (s : PlacementState) (space : List ℕ) (reply : PlaceReply) → IsTold reply → outcome_of (reply_of s space reply) ≡ is_done
told_done s space (replies.Lock version) told = refl
told_done s space (replies.Update version) told = refl
told_done s space (replies.Unlock version) told = refl
told_done s space replies.Idle told = refl
told_done s space reply told = absurd told

-- ---- the answer

module _ (s : PlacementState) (m : Member) (reply : PlaceReply) (quiet : IsQuietBeat s m reply) where
  pub quiet_numbers : EventFits (events.Beat m) → StateFits s → length s.rooms ≤ 64 → NumbersFit reply
  quiet_numbers sent fits few = subst NumbersFit (quiet.replies 0) (numbers_fit s (events.Beat m) 0 sent fits few)

  quiet_answered : (answer : NodeReply) → answer ≡ reply_of s m.space reply → ReplyFits answer → IsQuiet s (events.Beat m) answer
  quiet_answered answer is fits = record {
    member = m;
    is = refl;
    answers = λ now.
        let step = placement_step s (events.Beat m) now in
        is ∙ sym (ap (λ (r : PlaceReply). reply_of step.state m.space r) (quiet.replies now) ∙ told_same s step.state m.space reply quiet.told (quiet.table now));
    unrecorded = quiet.unrecorded;
    done = ap outcome_of is ∙ told_done s m.space reply quiet.told;
    sent = fits;
  }

  beat_made : {E : Type 0} (made : Result NodeReply E) → IfOk made (λ a. a ≡ reply_of s m.space reply) → IfOk made ReplyFits → IfOk made (λ a. IsQuiet s (events.Beat m) a)
  beat_made (Ok answer) is fits = quiet_answered answer is fits
  beat_made (Err e) is fits = tt

pub quiet_made : {E : Type 0} (s : PlacementState) (event : PlaceEvent) (m : Member) (reply : PlaceReply) (made : Result NodeReply E) → event ≡ events.Beat m → IsQuietBeat s m reply
    → IfOk made (λ a. a ≡ reply_of s m.space reply) → IfOk made ReplyFits → IfOk made (λ a. IsQuiet s event a)
quiet_made s event m reply made e quiet is fits = subst (λ (x : PlaceEvent). IfOk made (λ a. IsQuiet s x a)) (sym e) (beat_made s m reply quiet made is fits)

-- ---- the step

-- a Beat needs no memory
beat_gives : (event : PlaceEvent) (m : Member) (now : ℕ) (reply : PlaceReply) (s t : PlacementState) → event ≡ events.Beat m → GivesStep event now reply s t → t ≡ (placement_step s event now).state
beat_gives event m now reply s t e gives = go (subst (λ (x : PlaceEvent). GivesStep x now reply s t) e gives)
  where
    go : GivesStep (events.Beat m) now reply s t → t ≡ (placement_step s event now).state
    go given = rw e given.1

module _ (s : PlacementState) (event : PlaceEvent) (now : ℕ) (answer : NodeReply) (t : PlacementState) (reply : PlaceReply)
    (sent : EventFits event) (fits : StateFits s) (quiet : IsQuiet s event answer) (gives : GivesStep event now reply s t) where
  pub quiet_fits : StateFits t
  quiet_fits = subst StateFits (sym (beat_gives event quiet.member now reply s t quiet.is gives)) (state_fits s event now sent fits)

  pub quiet_tries : length s.rooms ≤ 64 → AreRooms t.rooms → Tries event now s (record { state = t; recent = [] }) answer
  quiet_tries few rooms = record {
    state = beat_gives event quiet.member now reply s t quiet.is gives;
    recent = sym (quiet.unrecorded now);
    answers = quiet.answers now;
    done = quiet.done;
    rooms = rooms;
    kept = quiet_fits;
    record_fits = subst RecordFits (quiet.unrecorded now) (record_fits s event now sent fits few);
    sent = quiet.sent;
  }
