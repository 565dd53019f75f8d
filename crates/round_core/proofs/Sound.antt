-- A room is sound in every state: opening, steps, restarts and records keep it so.
use Rattle.std.proofs.Common.{◌≡◌, ℕ, ◌<◌, ◌≤◌, ◌+◌, ◌^◌, Bool, true, false, not, cond, List, [], ◌∷◌, length, map, Option, None, Some, refl, sym, subst, arith}
use Rattle.std.specs.Prelude.{◌==◌, nat_lt, nat_le, is_some}
use Rattle.std.specs.List.{AllByRecursion}
use Rattle.std.proofs.lemmas.Bool.{cond_both, and_parts, or_parts, leb-false, ltb-true}
use Rattle.actor_names.specs.declared.member.Member.{Member}
use Rattle.place_table.specs.declared.host.HostInfo.{HostInfo}
use Rattle.place_table.specs.declared.ack_stage.AckStage.{AckStage}
use Rattle.place_table.specs.declared.ack_stage.AckStage.TheVariants as stages
use Rattle.round_core.specs.declared.event.PlaceEvent.{PlaceEvent}
use Rattle.round_core.specs.declared.event.PlaceEvent.TheVariants as events
use Rattle.round_core.specs.declared.event.PlaceReply.{PlaceReply}
use Rattle.round_core.specs.declared.event.PlaceReply.TheVariants as replies
use Rattle.round_core.specs.declared.phase.RoundPhase.{RoundPhase}
use Rattle.round_core.specs.declared.phase.RoundPhase.TheVariants.{Quiet, Running}
use Rattle.member_roster.specs.Members.{Joined, greatest_boot, of_node, is_here, any_pending, entered, targeted, heard_at, acked_at, restarted_at, new_joined, with_node, without_node, heard_of, removed_until, target_hosts}
use Rattle.member_roster.specs.Places.{Ascends, host_node}
use Rattle.round_core.specs.Records.{may_join}
use Rattle.round_core.specs.Room.{RoomState, Membership, Conclusion, Stays, Says, Tells, new_room, next_stage, advance_round, may_start, is_quiet, start_round, advance_fully, settle_round, is_full, with_joined, not_member, with_member, join_node, ack_change, remove_member, apply_membership, conclude, room_step, awoken, room_restarted}
use Rattle.round_core.specs.Runs.{RunEvent, Steps, Restarts, run_state}
use Rattle.round_core.specs.Sound.{HasKnownBoot, IsPendingTarget, IsNotPending, MakesTable, IsRoomSound}
use Rattle.round_core.specs.Views.{RoomView, Gives, GivesInMemory}
use Rattle.round_core.proofs.Books.{put_known_ascends, put_known_few, new_boot_known, boot_stays_known}
use Rattle.round_core.proofs.Durable.{put_longer}
use Rattle.round_core.proofs.Parts.{IsPart, each_on, without_part, heard_part, part_each, part_few, part_ascends, map_each, map_few, with_each, with_few, host_on, map_ascends, with_ascends, put_each, put_ascends, targets_few, targets_ascend}
use Rattle.round_core.proofs.Tables.{table_made}
use Rattle.round_core.proofs.Versions.{below_limit}

pub new_sound : IsRoomSound new_room
new_sound =
    record {
      ascend = tt;
      few = omega arith;
      known_ascend = tt;
      known = omega arith;
      first = omega arith;
      last = omega arith;
      boots = tt;
      targets = tt;
      quiet = λ _. tt;
      table_ascends = tt;
      table_is_made = λ space types e. refl;
    }

-- ---- rounds

-- the marks of all members change, and a round runs
abbrev turned : RoomState → (Joined → Joined) → AckStage → List HostInfo → ℕ → Bool → RoomState
turned s f stage table next dirty = record { next_version = next; boots = s.boots; members = map f s.members; phase = Running stage; dirty = dirty; table = table }

turned_sound : (s : RoomState) (f : Joined → Joined) (stage : AckStage) (table : List HostInfo) (next : ℕ) (dirty : Bool) → ((j : Joined) → (f j).host ≡ j.host) → ((j : Joined) → IsPendingTarget (f j)) → Ascends host_node table → MakesTable table → 1 ≤ next → next ≤ 2 ^ 62 → IsRoomSound s → IsRoomSound (turned s f stage table next dirty)
turned_sound s f stage table next dirty same target order made low high r =
    record {
      ascend = map_ascends f same s.members r.ascend;
      few = (let e = map_few f s.members in let l = r.few in omega arith);
      known_ascend = r.known_ascend;
      known = r.known;
      first = low;
      last = high;
      boots = map_each (HasKnownBoot s.boots) f s.members (λ j. host_on f same (λ (h : HostInfo). h.member.boot ≤ greatest_boot s.boots h.member.node) j) r.boots;
      targets = map_each IsPendingTarget f s.members (λ j _. target j) r.targets;
      quiet = λ e. absurd (cc);
      table_ascends = order;
      table_is_made = made;
    }

entered_target : (j : Joined) → IsPendingTarget (entered j)
entered_target j = λ t. t

targeted_target : (j : Joined) → IsPendingTarget (targeted j)
targeted_target j = λ _. refl

none_pending : (js : List Joined) → any_pending js ≡ false → AllByRecursion IsNotPending js
none_pending [] e = tt
none_pending (j ∷ js) e = let p = or_parts j.pending (any_pending js) e in (p.0, none_pending js p.1)

next_sound : (s : RoomState) (p : RoundPhase) → any_pending s.members ≡ false → IsRoomSound s → IsRoomSound (next_stage s p)
next_sound s Quiet e r = r
next_sound s (Running stages.Lock) e r =
    let hosts = target_hosts s.members in
    let order = targets_ascend s.members r.ascend in
    let few = targets_few s.members in
    let least = r.few in
    turned_sound s entered stages.Update hosts s.next_version s.dirty (λ j. refl) entered_target order
    (table_made hosts (omega arith) order)
    r.first r.last r
next_sound s (Running stages.Update) e r = turned_sound s entered stages.Unlock s.table s.next_version s.dirty (λ j. refl) entered_target r.table_ascends r.table_is_made r.first r.last r
next_sound s (Running stages.Unlock) e r =
    record {
      ascend = r.ascend;
      few = r.few;
      known_ascend = r.known_ascend;
      known = r.known;
      first = r.first;
      last = r.last;
      boots = r.boots;
      targets = r.targets;
      quiet = λ _. none_pending s.members e;
      table_ascends = r.table_ascends;
      table_is_made = r.table_is_made;
    }

advance_sound : (s : RoomState) → IsRoomSound s → IsRoomSound (advance_round s)
advance_sound s r = cond_both (any_pending s.members) s (next_stage s s.phase) IsRoomSound (λ _. r) (λ e. next_sound s s.phase e r)

start_sound : (s : RoomState) → IsRoomSound s → IsRoomSound (start_round s)
start_sound s r =
    cond_both (may_start s) (turned s targeted stages.Lock s.table (s.next_version + 1) false) s IsRoomSound
    (λ e.
    let l = below_limit (is_quiet s.phase) s.dirty s.next_version e in
    turned_sound s targeted stages.Lock s.table (s.next_version + 1) false (λ j. refl) targeted_target r.table_ascends r.table_is_made (omega arith) (omega arith) r)
    (λ _. r)

fully_sound : (s : RoomState) → IsRoomSound s → IsRoomSound (advance_fully s)
fully_sound s r = advance_sound (advance_round (advance_round s)) (advance_sound (advance_round s) (advance_sound s r))

pub settle_sound : (s : RoomState) → IsRoomSound s → IsRoomSound (settle_round s)
settle_sound s r = fully_sound (start_round (advance_fully s)) (start_sound (advance_fully s) (fully_sound s r))

-- ---- changes of the members

-- a member is heard, or acknowledges
pub told_sound : (s : RoomState) (node : List ℕ) (f : Joined → Joined) → ((j : Joined) → (f j).host ≡ j.host) → ((j : Joined) → IsPendingTarget j → IsPendingTarget (f j)) → ((j : Joined) → IsNotPending j → IsNotPending (f j)) → IsRoomSound s → IsRoomSound (record s { members = with_node s.members node f })
told_sound s node f same target rest r =
    record {
      ascend = with_ascends f same node s.members r.ascend;
      few = (let e = with_few f node s.members in let l = r.few in omega arith);
      known_ascend = r.known_ascend;
      known = r.known;
      first = r.first;
      last = r.last;
      boots = with_each (HasKnownBoot s.boots) f node s.members (λ j. host_on f same (λ (h : HostInfo). h.member.boot ≤ greatest_boot s.boots h.member.node) j) r.boots;
      targets = with_each IsPendingTarget f node s.members target r.targets;
      quiet = λ e. with_each IsNotPending f node s.members rest (r.quiet e);
      table_ascends = r.table_ascends;
      table_is_made = r.table_is_made;
    }

pub heard_sound : (s : RoomState) (node : List ℕ) (now : ℕ) → IsRoomSound s → IsRoomSound (record s { members = with_node s.members node (heard_at now) })
heard_sound s node now = told_sound s node (heard_at now) (λ j. refl) (λ j p. p) (λ j p. p)

pub acked_sound : (s : RoomState) (node : List ℕ) (stage : AckStage) (version now : ℕ) → IsRoomSound s → IsRoomSound (record s { members = with_node s.members node (ack_change s stage version now) })
acked_sound s node stage version now r =
    cond_both _ (acked_at now) (heard_at now) (λ (f : Joined → Joined). IsRoomSound (record s { members = with_node s.members node f }))
    (λ _. told_sound s node (acked_at now) (λ j. refl) (λ j p e. absurd (cc)) (λ j p. refl) r)
    (λ _. heard_sound s node now r)

-- some members are left out
pub part_sound : (s : RoomState) (ks : List Joined) (dirty : Bool) → IsPart ks s.members → IsRoomSound s → IsRoomSound (record s { members = ks; dirty = dirty })
part_sound s ks dirty p r =
    record {
      ascend = part_ascends ks s.members p r.ascend;
      few = (let e = part_few ks s.members p in let l = r.few in omega arith);
      known_ascend = r.known_ascend;
      known = r.known;
      first = r.first;
      last = r.last;
      boots = part_each (HasKnownBoot s.boots) ks s.members p r.boots;
      targets = part_each IsPendingTarget ks s.members p r.targets;
      quiet = λ e. part_each IsNotPending ks s.members p (r.quiet e);
      table_ascends = r.table_ascends;
      table_is_made = r.table_is_made;
    }

pub removed_sound : (s : RoomState) (node : List ℕ) → IsRoomSound s → IsRoomSound (record s { members = without_node s.members node; dirty = true })
removed_sound s node = part_sound s (without_node s.members node) true (without_part s.members node)

pub dropped_sound : (s : RoomState) (now : ℕ) (dirty : Bool) → IsRoomSound s → IsRoomSound (record s { members = heard_of s.members now; dirty = dirty })
dropped_sound s now dirty = part_sound s (heard_of s.members now) dirty (heard_part s.members now)

pub until_sound : (s : RoomState) (ms : List Member) → IsRoomSound s → IsRoomSound (record s { members = removed_until s.members ms })
until_sound s [] r = r
until_sound s (m ∷ ms) r =
    cond_both (is_here s.members m) (removed_until (without_node s.members m.node) ms) s.members (λ (ks : List Joined). IsRoomSound (record s { members = ks }))
    (λ _. until_sound (record s { members = without_node s.members m.node }) ms (part_sound s (without_node s.members m.node) s.dirty (without_part s.members m.node) r))
    (λ _. r)

pub joined_sound : (s : RoomState) (host : HostInfo) (now : ℕ) → of_node s.members host.member.node ≡ None → is_full s host.member.node ≡ false → greatest_boot s.boots host.member.node < host.member.boot → IsRoomSound s → IsRoomSound (with_joined s host now)
joined_sound s host now free places higher r =
    let x = new_joined host now in
    let m = host.member in
    let p = or_parts (nat_le 256 (length s.members)) _ places in
    let less : length s.members < 256 = leb-false 256 (length s.members) p.0 in
    record {
      ascend = put_ascends x s.members free r.ascend;
      few = (let e = put_longer s.members x in omega arith);
      known_ascend = put_known_ascends s.boots m r.known_ascend;
      known = put_known_few s.boots m r.known_ascend r.known p.1;
      first = r.first;
      last = r.last;
      boots = put_each (HasKnownBoot _) x s.members (new_boot_known s.boots x) (each_on (HasKnownBoot s.boots) (HasKnownBoot _) s.members (boot_stays_known s.boots m higher) r.boots);
      targets = put_each IsPendingTarget x s.members (λ e. absurd (cc)) r.targets;
      quiet = λ e. put_each IsNotPending x s.members refl (r.quiet e);
      table_ascends = r.table_ascends;
      table_is_made = r.table_is_made;
    }

pub version_sound : (s : RoomState) (next : ℕ) → 1 ≤ next → next ≤ 2 ^ 62 → IsRoomSound s → IsRoomSound (record s { next_version = next })
version_sound s next low high r =
    record {
      ascend = r.ascend;
      few = r.few;
      known_ascend = r.known_ascend;
      known = r.known;
      first = low;
      last = high;
      boots = r.boots;
      targets = r.targets;
      quiet = r.quiet;
      table_ascends = r.table_ascends;
      table_is_made = r.table_is_made;
    }

-- ---- the step

abbrev Sounds : Membership → Type 0
Sounds t = IsRoomSound t.state

node_sound : (s : RoomState) (host : HostInfo) (now : ℕ) → greatest_boot s.boots host.member.node < host.member.boot → IsRoomSound s → (o : Option Joined) → of_node s.members host.member.node ≡ o → Sounds (join_node s host now o)
node_sound s host now higher r (Some j) e = r
node_sound s host now higher r None e =
    cond_both (is_full s host.member.node) _ _ Sounds (λ _. r) (λ f. joined_sound s host now e f higher r)

heard_any : (s : RoomState) (m : Member) (now : ℕ) (b : Bool) → IsRoomSound s → Sounds (cond b (with_member s m (heard_at now)) (not_member s m))
heard_any s m now true r = heard_sound s m.node now r
heard_any s m now false r = r

acked_any : (s : RoomState) (m : Member) (stage : AckStage) (version now : ℕ) (b : Bool) → IsRoomSound s → Sounds (cond b (with_member s m (ack_change s stage version now)) (not_member s m))
acked_any s m stage version now true r = acked_sound s m.node stage version now r
acked_any s m stage version now false r = r

remove_any : (s : RoomState) (m : Member) → IsRoomSound s → Sounds (remove_member s m)
remove_any s m r = cond_both (is_here s.members m) _ _ Sounds (λ _. removed_sound s m.node r) (λ _. r)

membership_sound : (s : RoomState) (event : PlaceEvent) (now : ℕ) → IsRoomSound s → Sounds (apply_membership s event now)
membership_sound s (events.Register host) now r =
    cond_both (is_here s.members host.member) _ _ Sounds
    (λ _. heard_sound s host.member.node now r)
    (λ _. cond_both (nat_le host.member.boot (greatest_boot s.boots host.member.node)) _ _ Sounds
    (λ _. r)
    (λ e. node_sound s host now (leb-false _ _ e) r (of_node s.members host.member.node) refl))
membership_sound s (events.Beat m) now r = heard_any s m now _ r
membership_sound s (events.Ack m stage version) now r = acked_any s m stage version now _ r
membership_sound s (events.Leave m) now r = remove_any s m r
membership_sound s (events.Lost m) now r = remove_any s m r
membership_sound s events.Tick now r = dropped_sound s now _ r
membership_sound s events.Look now r = r

conclude_sound : (s : RoomState) (k : Conclusion) → IsRoomSound s → IsRoomSound (conclude s k).state
conclude_sound s (Stays reply) r = r
conclude_sound s (Says reply) r = settle_sound s r
conclude_sound s (Tells m) r = settle_sound s r

pub step_sound : (s : RoomState) (event : PlaceEvent) (now : ℕ) → IsRoomSound s → IsRoomSound (room_step s event now).state
step_sound s event now r =
    let t = apply_membership s event now in
    conclude_sound t.state t.conclusion (membership_sound s event now r)

-- ---- the restart

none_awake : (js : List Joined) (now : ℕ) → AllByRecursion IsNotPending (map (restarted_at now) js)
none_awake [] now = tt
none_awake (j ∷ js) now = (refl, none_awake js now)

awoken_sound : (s : RoomState) (now : ℕ) → IsRoomSound s → IsRoomSound (awoken s now)
awoken_sound s now r =
    let f = restarted_at now in
    record {
      ascend = map_ascends f (λ j. refl) s.members r.ascend;
      few = (let e = map_few f s.members in let l = r.few in omega arith);
      known_ascend = r.known_ascend;
      known = r.known;
      first = r.first;
      last = r.last;
      boots = map_each (HasKnownBoot s.boots) f s.members (λ j l. l) r.boots;
      targets = map_each IsPendingTarget f s.members (λ j _ e. absurd (cc)) r.targets;
      quiet = λ _. none_awake s.members now;
      table_ascends = tt;
      table_is_made = λ space types e. refl;
    }

pub restart_sound : (s : RoomState) (now : ℕ) → IsRoomSound s → IsRoomSound (room_restarted s now)
restart_sound s now r = cond_both (s.next_version == 1) new_room (settle_round (awoken s now)) IsRoomSound (λ _. new_sound) (λ _. settle_sound (awoken s now) (awoken_sound s now r))

-- ---- each state that a run reaches

pub run_sound : (s : RoomState) (run : List RunEvent) → IsRoomSound s → IsRoomSound (run_state s run)
run_sound s [] r = r
run_sound s (Steps event now ∷ run) r = run_sound (room_step s event now).state run (step_sound s event now r)
run_sound s (Restarts now ∷ run) r = run_sound (room_restarted s now) run (restart_sound s now r)

-- ---- what a call gives

pub gives_sound : (event : PlaceEvent) (now : ℕ) (reply : PlaceReply) (old new : RoomView) → IsRoomSound old.state → Gives event now reply old new → IsRoomSound new.state
gives_sound event now reply old new r g = subst (λ (v : RoomView). IsRoomSound v.state) (sym g.1) (step_sound old.state event now r)

pub memory_sound : (event : PlaceEvent) (now : ℕ) (reply : PlaceReply) (old new : RoomView) → IsRoomSound old.state → GivesInMemory event now reply old new → IsRoomSound new.state
memory_sound event now replies.OutOfMemory old new r g = subst (λ (v : RoomView). IsRoomSound v.state) (sym g) r
memory_sound event now (replies.Lock v) old new r g = gives_sound event now (replies.Lock v) old new r g
memory_sound event now (replies.Update v) old new r g = gives_sound event now (replies.Update v) old new r g
memory_sound event now (replies.Unlock v) old new r g = gives_sound event now (replies.Unlock v) old new r g
memory_sound event now replies.Idle old new r g = gives_sound event now replies.Idle old new r g
memory_sound event now replies.Gone old new r g = gives_sound event now replies.Gone old new r g
memory_sound event now (replies.Ticked n) old new r g = gives_sound event now (replies.Ticked n) old new r g
memory_sound event now replies.Looked old new r g = gives_sound event now replies.Looked old new r g
memory_sound event now (replies.StaleBoot n) old new r g = gives_sound event now (replies.StaleBoot n) old new r g
memory_sound event now (replies.NodeBusy n) old new r g = gives_sound event now (replies.NodeBusy n) old new r g
memory_sound event now (replies.NotMember n) old new r g = gives_sound event now (replies.NotMember n) old new r g
memory_sound event now (replies.SpacesFull n) old new r g = gives_sound event now (replies.SpacesFull n) old new r g
memory_sound event now (replies.Full n m) old new r g = gives_sound event now (replies.Full n m) old new r g

-- ---- a host that joins by a record

not_false : (b : Bool) → not b ≡ true → b ≡ false
not_false true e = absurd (cc)
not_false false e = refl

nobody : (o : Option Joined) → is_some o ≡ false → o ≡ None
nobody None e = refl
nobody (Some j) e = absurd (cc)

pub again_sound : (s : RoomState) (host : HostInfo) → may_join s host ≡ true → IsRoomSound s → IsRoomSound (with_joined s host 0)
again_sound s host e r =
    let p = and_parts (not (is_some (of_node s.members host.member.node))) _ e in
    let q = and_parts (nat_lt (greatest_boot s.boots host.member.node) host.member.boot) _ p.1 in
    joined_sound s host 0
    (nobody (of_node s.members host.member.node) (not_false (is_some (of_node s.members host.member.node)) p.0))
    (not_false (is_full s host.member.node) q.1)
    (ltb-true (greatest_boot s.boots host.member.node) host.member.boot q.0)
    r
