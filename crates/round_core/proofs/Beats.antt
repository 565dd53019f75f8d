-- A member that is heard while rounds rest changes nothing else.
use Rattle.std.proofs.Common.{◌≡◌, ◌⊎◌, inl, inr, ℕ, Bool, true, false, ◌||◌, cond, List, [], ◌∷◌, Some, refl, ap, ◌∙◌}
use Rattle.std.specs.Prelude.{bytes_eq}
use Rattle.std.proofs.lemmas.Bool.{cond_both}
use Rattle.actor_names.specs.declared.member.Member.{Member}
use Rattle.round_core.specs.declared.event.PlaceEvent.TheVariants as events
use Rattle.round_core.specs.declared.event.PlaceReply.TheVariants as replies
use Rattle.place_table.specs.declared.ack_stage.AckStage.TheVariants as stages
use Rattle.round_core.specs.declared.phase.RoundPhase.{RoundPhase}
use Rattle.round_core.specs.declared.phase.RoundPhase.TheVariants.{Quiet, Running}
use Rattle.member_roster.specs.Members.{Joined, hosts_of, joined_node, any_pending, of_node, is_here, is_pending, is_pending_in, with_node, heard_at}
use Rattle.round_core.specs.Room.{RoomState, next_stage, advance_round, may_start, start_round, advance_fully, settle_round, reply_for, phase_reply, last_version, room_step}
use Rattle.round_core.specs.Beats.{IsResting, IsTold, IsQuietBeat}
use Rattle.round_core.proofs.Durable.{hosts_with, recorded_durable}
use Rattle.round_core.proofs.Settling.{waits_fully}

-- ---- who is pending stays so

pending_heard : (now : ℕ) (node : List ℕ) (js : List Joined) → any_pending (with_node js node (heard_at now)) ≡ any_pending js
pending_heard now node [] = refl
pending_heard now node (j ∷ js) = go (bytes_eq node (joined_node j)) (pending_heard now node js)
  where
    go : (b : Bool) → any_pending (with_node js node (heard_at now)) ≡ any_pending js → any_pending (cond b (heard_at now j ∷ js) (j ∷ with_node js node (heard_at now))) ≡ any_pending (j ∷ js)
    go true ih = refl
    go false ih = ap (λ (p : Bool). j.pending || p) ih

one_heard : (now : ℕ) (node : List ℕ) (js : List Joined) → is_pending_in (of_node (with_node js node (heard_at now)) node) ≡ is_pending_in (of_node js node)
one_heard now node [] = refl
one_heard now node (j ∷ js) = go (bytes_eq node (joined_node j)) refl (one_heard now node js)
  where
    go : (b : Bool) → bytes_eq node (joined_node j) ≡ b → is_pending_in (of_node (with_node js node (heard_at now)) node) ≡ is_pending_in (of_node js node)
        → is_pending_in (of_node (cond b (heard_at now j ∷ js) (j ∷ with_node js node (heard_at now))) node) ≡ is_pending_in (cond b (Some j) (of_node js node))
    go true e ih = rw e refl
    go false e ih = rw e ih

-- ---- so nothing goes on

abbrev heard : RoomState → Member → ℕ → RoomState
heard s m now = record s { members = with_node s.members m.node (heard_at now) }

heard_waits : (s : RoomState) (m : Member) (now : ℕ) → (any_pending s.members ≡ true) ⊎ (s.phase ≡ Quiet) → advance_round (heard s m now) ≡ heard s m now
heard_waits s m now (inl e) = rw (pending_heard now m.node s.members, e) refl
heard_waits s m now (inr e) = go (any_pending (heard s m now).members)
  where
    go : (b : Bool) → cond b (heard s m now) (next_stage (heard s m now) s.phase) ≡ heard s m now
    go true = refl
    go false = rw e refl

heard_settled : (s : RoomState) (m : Member) (now : ℕ) → IsResting s → settle_round (heard s m now) ≡ heard s m now
heard_settled s m now r =
    let h = heard s m now in
    let waits = waits_fully h (heard_waits s m now r.waits) in
    let idles : may_start h ≡ false = r.idles in
    let starts : start_round h ≡ h = rw idles refl in
    ap (λ (t : RoomState). advance_fully (start_round t)) waits ∙ ap advance_fully starts ∙ waits

-- ---- a Beat

stage_told : (p : RoundPhase) (v : ℕ) → IsTold (phase_reply p v)
stage_told Quiet v = tt
stage_told (Running stages.Lock) v = tt
stage_told (Running stages.Update) v = tt
stage_told (Running stages.Unlock) v = tt

is_told : (s : RoomState) (m : Member) → IsTold (reply_for s m)
is_told s m = cond_both (is_pending s.members m) (phase_reply s.phase (last_version s)) replies.Idle IsTold (λ _. stage_told s.phase (last_version s)) (λ _. tt)

module _ (s : RoomState) (m : Member) (here : is_here s.members m ≡ true) (r : IsResting s) where
  beat_state : (now : ℕ) → (room_step s (events.Beat m) now).state ≡ heard s m now
  beat_state now = rw here (heard_settled s m now r)

  beat_reply : (now : ℕ) → (room_step s (events.Beat m) now).reply ≡ reply_for s m
  beat_reply now =
      let told : (room_step s (events.Beat m) now).reply ≡ reply_for (settle_round (heard s m now)) m = rw here refl in
      told ∙ ap (λ (t : RoomState). reply_for t m) (heard_settled s m now r) ∙ ap (λ (b : Bool). cond b (phase_reply s.phase (last_version s)) replies.Idle) (one_heard now m.node s.members)

  pub quiet_beat : IsQuietBeat s m (reply_for s m)
  quiet_beat = record {
    told = is_told s m;
    replies = beat_reply;
    unrecorded = λ now.
        let e = beat_state now in
        (recorded_durable s (events.Beat m) now).1 (record {
          next_version = ap (λ (t : RoomState). t.next_version) e;
          boots = ap (λ (t : RoomState). t.boots) e;
          members = ap (λ (t : RoomState). hosts_of t.members) e ∙ hosts_with s.members m.node (heard_at now) (λ j. refl);
        });
    table = λ now. ap (λ (t : RoomState). t.table) (beat_state now);
  }
