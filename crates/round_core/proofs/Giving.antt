-- A step of the placement from the steps of its parts.
use Rattle.std.proofs.Common.{◌≡◌, ℕ, ◌+◌, ◌<◌, ◌≤◌, Bool, true, false, not, ◌||◌, cond, List, [], ◌∷◌, length, Option, None, Some, refl, sym, ap, ◌∙◌, arith}
use Rattle.std.specs.Prelude.{◌==◌, nat_lt, nat_le, is_some, option_map}
use Rattle.std.proofs.lemmas.Bool.{lt-ltb, leb-true}
use Rattle.actor_names.specs.declared.member.Member.{Member}
use Rattle.place_table.specs.declared.host.HostInfo.{HostInfo}
use Rattle.round_core.specs.declared.event.PlaceEvent.{PlaceEvent}
use Rattle.round_core.specs.declared.event.PlaceReply.{PlaceReply}
use Rattle.round_core.specs.declared.event.PlaceReply.TheVariants as replies
use Rattle.place_table.specs.declared.ack_stage.AckStage.TheVariants as stages
use Rattle.round_core.specs.declared.phase.RoundPhase.{RoundPhase}
use Rattle.round_core.specs.declared.phase.RoundPhase.TheVariants.{Quiet, Running}
use Rattle.round_core.specs.declared.record.RoomRecord as declared
use Rattle.member_roster.specs.Members.{Joined, boot_of, is_here, is_pending, is_late, heard_of, late_of}
use Rattle.round_core.specs.Room.{RoomState, Membership, Conclusion, apply_membership, conclude, settle_round, room_restarted, reply_for, phase_reply, last_version}
use Rattle.round_core.specs.Records.{record_of, changes_record, restart_record}
use Rattle.round_core.specs.Views.{RoundState, with_state, RoomView, Gives, GivesInMemory}

gives : (event : PlaceEvent) (now : ℕ) (old new : RoomView) (reply : PlaceReply) (t : Membership) → apply_membership old.state event now ≡ t → reply ≡ (conclude t.state t.conclusion).reply → new.state ≡ (conclude t.state t.conclusion).state → new.recent ≡ changes_record t.joined t.removed old.state.next_version (conclude t.state t.conclusion).state.next_version → Gives event now reply old new
gives event now old new reply t e a b c = rw e (a, rw (← c, ← b) refl)

-- a step after which rounds go on
pub settled_gives : (old : RoomView) (event : PlaceEvent) (now : ℕ) (changed rounds : RoundState) (t : RoomState) (before after : declared.RoomRecord) (b : Bool) (reply : PlaceReply) (joined : Option HostInfo) (removed : List Member) (k : Conclusion)
    → apply_membership old.state event now ≡ record { state = t; joined = joined; removed = removed; conclusion = k }
    → t.next_version ≡ old.state.next_version
    → (conclude t k).state ≡ settle_round t
    → changed.state ≡ t
    → rounds ≡ with_state changed (settle_round changed.state)
    → before.joined ≡ joined
    → before.removed.members ≡ removed
    → after ≡ record before { next_version = (settle_round changed.state).next_version }
    → b ≡ (is_some before.joined || (nat_lt 0 (length before.removed.members) || not ((settle_round changed.state).next_version == changed.state.next_version)))
    → reply ≡ (conclude t k).reply
    → Gives event now reply old (record { state = rounds.state; recent = cond b (Some (record_of after)) None })
settled_gives old event now changed rounds t before after b reply joined removed k e next conc ch rs bj br ar be rp =
    gives event now old (record { state = rounds.state; recent = cond b (Some (record_of after)) None }) reply (record { state = t; joined = joined; removed = removed; conclusion = k }) e rp
    (ap (λ (r : RoundState). r.state) rs ∙ ap settle_round ch ∙ sym conc)
    (rw (be, ar, bj, br, ch, conc, ← next) refl)

pub counted : (js : List Joined) (now : ℕ) → length (heard_of js now) + length (late_of js now) ≡ length js
counted [] now = refl
counted (j ∷ js) now = go (is_late now j) (counted js now)
  where
    go : (b : Bool) → length (heard_of js now) + length (late_of js now) ≡ length js → length (cond b (heard_of js now) (j ∷ heard_of js now)) + length (cond b (j.host.member ∷ late_of js now) (late_of js now)) ≡ length (j ∷ js)
    go true ih = omega arith
    go false ih = omega arith

pub dirty_more : (d : Bool) (n : ℕ) → 0 < n → true ≡ d || nat_lt 0 n
dirty_more true n l = refl
dirty_more false n l = sym (lt-ltb 0 n l)

pub dirty_same : (d : Bool) (n : ℕ) → n ≡ 0 → d ≡ d || nat_lt 0 n
dirty_same true n e = refl
dirty_same false n e = rw e refl

-- if a member is here, there is at least one member
pub here_some : (js : List Joined) (m : Member) → is_here js m ≡ true → 0 < length js
here_some [] m e = absurd (cc)
here_some (j ∷ js) m e = omega arith

-- ---- a Register that had memory

pub told_memory : (s : RoomState) (m : Member) → reply_for s m ≡ replies.OutOfMemory → ⊥
told_memory s m = go (is_pending s.members m) s.phase
  where
    go : (b : Bool) (phase : RoundPhase) → cond b (phase_reply phase (last_version s)) replies.Idle ≡ replies.OutOfMemory → ⊥
    go false phase e = absurd (cc)
    go true Quiet e = absurd (cc)
    go true (Running stages.Lock) e = absurd (cc)
    go true (Running stages.Update) e = absurd (cc)
    go true (Running stages.Unlock) e = absurd (cc)

pub had_memory : (event : PlaceEvent) (now : ℕ) (reply : PlaceReply) (old new : RoomView) → (reply ≡ replies.OutOfMemory → ⊥) → Gives event now reply old new → GivesInMemory event now reply old new
had_memory event now (replies.Lock v) old new off g = g
had_memory event now (replies.Update v) old new off g = g
had_memory event now (replies.Unlock v) old new off g = g
had_memory event now replies.Idle old new off g = g
had_memory event now replies.Gone old new off g = g
had_memory event now (replies.Ticked n) old new off g = g
had_memory event now replies.Looked old new off g = g
had_memory event now (replies.StaleBoot n) old new off g = g
had_memory event now (replies.NodeBusy n) old new off g = g
had_memory event now (replies.NotMember n) old new off g = g
had_memory event now (replies.SpacesFull n) old new off g = g
had_memory event now (replies.Full n m) old new off g = g
had_memory event now replies.OutOfMemory old new off g = absurd (off refl)

pub not_at_most : (a b : ℕ) → b < a → nat_le a b ≡ false
not_at_most a b l = go (nat_le a b) refl
  where
    go : (t : Bool) → nat_le a b ≡ t → nat_le a b ≡ false
    go true e = let h : a ≤ b = leb-true a b e in absurd (omega arith)
    go false e = e

pub no_boot : (o : Option Joined) → option_map boot_of o ≡ None → o ≡ None
no_boot None e = refl
no_boot (Some j) e = absurd (cc)

-- ---- a restart

pub restarted_gives : (s : RoomState) (now : ℕ) (before after : declared.RoomRecord) (b : Bool) → after ≡ record before { next_version = (room_restarted s now).next_version } → before.joined ≡ None → before.removed.members ≡ [] → b ≡ not ((room_restarted s now).next_version == s.next_version) → cond b (Some (record_of after)) None ≡ restart_record s now
restarted_gives s now before after b ar bj br be = rw (be, ar, bj, br) refl
