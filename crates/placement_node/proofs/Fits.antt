-- What a placement keeps stays in the ranges of frames and payloads.
use Rattle.std.proofs.Common.{◌≡◌, ℕ, ◌+◌, ◌<◌, ◌≤◌, ◌^◌, Bool, true, false, not, ◌&&◌, cond, List, [], ◌∷◌, length, map, Option, None, Some, refl, sym, subst, arith}
use Rattle.std.specs.Prelude.{bytes_eq, nat_le, nat_lt, ◌==◌}
use Rattle.std.specs.List.{AllByRecursion}
use Rattle.std.proofs.lemmas.Bool.{leb-true, leb-false, le-leb, ltb-true, and_parts, or_parts, cond_both}
use Rattle.std.proofs.lemmas.List.{length-map}
use Rattle.actor_names.specs.declared.member.Member.{Member}
use Rattle.place_table.specs.declared.host.HostInfo.{HostInfo}
use Rattle.place_table.specs.declared.ack_stage.AckStage.TheVariants as stages
use Rattle.member_roster.specs.declared.book.Known.{Known}
use Rattle.member_roster.specs.Members.{Joined, greatest_boot, is_known, joined_node, of_node, is_here, is_before, is_late, put_boot, with_node, without_node, put_joined, late_of, heard_of, any_pending, entered, targeted, target_hosts, heard_at, restarted_at, new_joined}
use Rattle.round_core.specs.declared.event.PlaceEvent.{PlaceEvent}
use Rattle.round_core.specs.declared.event.PlaceEvent.TheVariants as events
use Rattle.round_core.specs.declared.event.PlaceReply.TheVariants as replies
use Rattle.round_core.specs.declared.phase.RoundPhase.{RoundPhase}
use Rattle.round_core.specs.declared.phase.RoundPhase.TheVariants.{Quiet, Running}
use Rattle.round_core.specs.Room.{RoomState, most_members, most_nodes, is_quiet, Membership, Conclusion, Stays, Says, Tells, new_room, next_stage, advance_round, may_start, start_round, advance_fully, settle_round, conclude, unchanged, not_member, with_member, with_joined, is_full, join_free, join_node, register, ack_change, remove_member, drop_late, apply_membership, room_step, awoken, room_restarted}
use Rattle.round_core.proofs.Durable.{ack_same}
use Rattle.wire_fields.specs.Fields.{number64}
use Rattle.wire_fields.specs.Parts.{space_name, boot, counter, node_place, member, host}
use Rattle.placement_payloads.specs.Payloads.{local_place, local_member, local_app, local_host}
use Rattle.placement_node.specs.Ranges.{RoomFits}

-- ---- hosts, members, numbers

-- a host that fits a frame is a host of its space
pub host_is_local : (h : HostInfo) → host.Fits h → space_name.Fits h.member.space × (local_host h.member.space).Fits h
unfolding host member node_place local_host local_app local_place
host_is_local h fits = (fits.0.0.0, (((fits.0.0.1, fits.0.1), fits.1), refl))

-- and so is a member
pub member_is_local : (m : Member) → member.Fits m → space_name.Fits m.space × (local_member m.space).Fits m
unfolding member node_place local_member local_place
member_is_local m fits = (fits.0.0, ((fits.0.1, fits.1), refl))

-- the member of a host
pub host_member_fits : (space : List ℕ) (h : HostInfo) → (local_host space).Fits h → (local_member space).Fits h.member
unfolding local_host local_app local_member local_place
host_member_fits space h fits = (fits.0.0, fits.1)

boot_counts : (n : ℕ) → boot.Fits n → counter.Fits n
unfolding boot counter
boot_counts n fits = (fits.0, (and_parts (nat_le 1 n) (nat_le n (2 ^ 62)) fits.1).1)

-- the boot of a host
pub host_boot : (space : List ℕ) (h : HostInfo) → (local_host space).Fits h → counter.Fits h.member.boot
unfolding local_host local_app local_place
host_boot space h fits = boot_counts h.member.boot fits.0.0.1

pub counter_small : (n : ℕ) → n ≤ 2 ^ 62 → counter.Fits n
unfolding counter number64
counter_small n few = (omega arith, le-leb n (2 ^ 62) few)

pub counter_most : (n : ℕ) → counter.Fits n → n ≤ 2 ^ 62
unfolding counter number64
counter_most n fits = leb-true n (2 ^ 62) fits.1

-- ---- members

abbrev pub IsOf : List ℕ → Joined → Type 0
IsOf space j = (local_host space).Fits j.host

abbrev pub BootFits : Known → Type 0
BootFits k = counter.Fits k.greatest

map_of : (space : List ℕ) (f : Joined → Joined) (js : List Joined) → ((j : Joined) → (f j).host ≡ j.host) → AllByRecursion (IsOf space) js → AllByRecursion (IsOf space) (map f js)
map_of space f [] same all = tt
map_of space f (j ∷ js) same all = (subst (local_host space).Fits (sym (same j)) all.0, map_of space f js same all.1)

with_of : (space : List ℕ) (js : List Joined) (node : List ℕ) (f : Joined → Joined) → ((j : Joined) → (f j).host ≡ j.host) → AllByRecursion (IsOf space) js → AllByRecursion (IsOf space) (with_node js node f)
with_of space [] node f same all = tt
with_of space (j ∷ js) node f same all = cond_both (bytes_eq node (joined_node j)) (f j ∷ js) (j ∷ with_node js node f) (AllByRecursion (IsOf space))
    (λ e. (subst (local_host space).Fits (sym (same j)) all.0, all.1))
    (λ e. (all.0, with_of space js node f same all.1))

with_length : (js : List Joined) (node : List ℕ) (f : Joined → Joined) → length (with_node js node f) ≡ length js
with_length [] node f = refl
with_length (j ∷ js) node f = let ih = with_length js node f in cond_both (bytes_eq node (joined_node j)) (f j ∷ js) (j ∷ with_node js node f) (λ (ks : List Joined). length ks ≡ length (j ∷ js))
    (λ e. omega arith)
    (λ e. omega arith)

put_of : (space : List ℕ) (js : List Joined) (x : Joined) → IsOf space x → AllByRecursion (IsOf space) js → AllByRecursion (IsOf space) (put_joined js x)
put_of space [] x here all = (here, tt)
put_of space (j ∷ js) x here all = cond_both (is_before (joined_node x) (joined_node j)) (x ∷ j ∷ js) (j ∷ put_joined js x) (AllByRecursion (IsOf space))
    (λ e. (here, all))
    (λ e. (all.0, put_of space js x here all.1))

put_length : (js : List Joined) (x : Joined) → length (put_joined js x) ≡ length js + 1
put_length [] x = refl
put_length (j ∷ js) x = let ih = put_length js x in cond_both (is_before (joined_node x) (joined_node j)) (x ∷ j ∷ js) (j ∷ put_joined js x) (λ (ks : List Joined). length ks ≡ length (j ∷ js) + 1)
    (λ e. omega arith)
    (λ e. omega arith)

pub without_of : (space : List ℕ) (js : List Joined) (node : List ℕ) → AllByRecursion (IsOf space) js → AllByRecursion (IsOf space) (without_node js node)
without_of space [] node all = tt
without_of space (j ∷ js) node all = cond_both (bytes_eq node (joined_node j)) js (j ∷ without_node js node) (AllByRecursion (IsOf space))
    (λ e. all.1)
    (λ e. (all.0, without_of space js node all.1))

pub without_few : (js : List Joined) (node : List ℕ) → length (without_node js node) ≤ length js
without_few [] node = omega arith
without_few (j ∷ js) node = let ih = without_few js node in cond_both (bytes_eq node (joined_node j)) js (j ∷ without_node js node) (λ (ks : List Joined). length ks ≤ length (j ∷ js))
    (λ e. omega arith)
    (λ e. omega arith)

heard_fit : (space : List ℕ) (js : List Joined) (now : ℕ) → AllByRecursion (IsOf space) js → AllByRecursion (IsOf space) (heard_of js now)
heard_fit space [] now all = tt
heard_fit space (j ∷ js) now all = cond_both (is_late now j) (heard_of js now) (j ∷ heard_of js now) (AllByRecursion (IsOf space))
    (λ e. heard_fit space js now all.1)
    (λ e. (all.0, heard_fit space js now all.1))

heard_few : (js : List Joined) (now : ℕ) → length (heard_of js now) ≤ length js
heard_few [] now = omega arith
heard_few (j ∷ js) now = let ih = heard_few js now in cond_both (is_late now j) (heard_of js now) (j ∷ heard_of js now) (λ (ks : List Joined). length ks ≤ length (j ∷ js))
    (λ e. omega arith)
    (λ e. omega arith)

late_fit : (space : List ℕ) (js : List Joined) (now : ℕ) → AllByRecursion (IsOf space) js → AllByRecursion (local_member space).Fits (late_of js now)
late_fit space [] now all = tt
late_fit space (j ∷ js) now all = cond_both (is_late now j) (j.host.member ∷ late_of js now) (late_of js now) (AllByRecursion (local_member space).Fits)
    (λ e. (host_member_fits space j.host all.0, late_fit space js now all.1))
    (λ e. late_fit space js now all.1)

late_few : (js : List Joined) (now : ℕ) → length (late_of js now) ≤ length js
late_few [] now = omega arith
late_few (j ∷ js) now = let ih = late_few js now in cond_both (is_late now j) (j.host.member ∷ late_of js now) (late_of js now) (λ (ms : List Member). length ms ≤ length (j ∷ js))
    (λ e. omega arith)
    (λ e. omega arith)

target_fit : (space : List ℕ) (js : List Joined) → AllByRecursion (IsOf space) js → AllByRecursion (local_host space).Fits (target_hosts js)
target_fit space [] all = tt
target_fit space (j ∷ js) all = cond_both j.target (j.host ∷ target_hosts js) (target_hosts js) (AllByRecursion (local_host space).Fits)
    (λ e. (all.0, target_fit space js all.1))
    (λ e. target_fit space js all.1)

target_few : (js : List Joined) → length (target_hosts js) ≤ length js
target_few [] = omega arith
target_few (j ∷ js) = let ih = target_few js in cond_both j.target (j.host ∷ target_hosts js) (target_hosts js) (λ (hs : List HostInfo). length hs ≤ length (j ∷ js))
    (λ e. omega arith)
    (λ e. omega arith)

boots_fit : (ks : List Known) (m : Member) → counter.Fits m.boot → AllByRecursion BootFits ks → AllByRecursion BootFits (put_boot ks m)
boots_fit [] m here all = (here, tt)
boots_fit (k ∷ ks) m here all = cond_both (bytes_eq m.node k.node) (record { node = m.node; greatest = m.boot } ∷ ks) (cond (is_before m.node k.node) (record { node = m.node; greatest = m.boot } ∷ k ∷ ks) (k ∷ put_boot ks m)) (AllByRecursion BootFits)
    (λ e. (here, all.1))
    (λ e. cond_both (is_before m.node k.node) (record { node = m.node; greatest = m.boot } ∷ k ∷ ks) (k ∷ put_boot ks m) (AllByRecursion BootFits)
    (λ f. (here, all))
    (λ f. (all.0, boots_fit ks m here all.1)))

-- ---- rounds

next_fits : (space : List ℕ) (s : RoomState) (phase : RoundPhase) → RoomFits space s → RoomFits space (next_stage s phase)
next_fits space s Quiet fits = fits
next_fits space s (Running stages.Lock) fits = record {
  members = map_of space entered s.members (λ j. refl) fits.members;
  few = omega (arith, length-map s.members entered);
  table = target_fit space s.members fits.members;
  few_hosts = omega (arith, target_few s.members);
  boots = fits.boots;
  version = fits.version;
}
next_fits space s (Running stages.Update) fits = record {
  members = map_of space entered s.members (λ j. refl) fits.members;
  few = omega (arith, length-map s.members entered);
  table = fits.table;
  few_hosts = fits.few_hosts;
  boots = fits.boots;
  version = fits.version;
}
next_fits space s (Running stages.Unlock) fits = record { members = fits.members; few = fits.few; table = fits.table; few_hosts = fits.few_hosts; boots = fits.boots; version = fits.version }

advance_fits : (space : List ℕ) (s : RoomState) → RoomFits space s → RoomFits space (advance_round s)
advance_fits space s fits = cond_both (any_pending s.members) s (next_stage s s.phase) (RoomFits space) (λ e. fits) (λ e. next_fits space s s.phase fits)

fully_fits : (space : List ℕ) (s : RoomState) → RoomFits space s → RoomFits space (advance_fully s)
fully_fits space s fits = advance_fits space (advance_round (advance_round s)) (advance_fits space (advance_round s) (advance_fits space s fits))

below_limit : (a b : Bool) (n : ℕ) → a && (b && nat_lt n (2 ^ 62)) ≡ true → n < 2 ^ 62
below_limit a b n is =
    let p = and_parts a (b && nat_lt n (2 ^ 62)) is in
    let q = and_parts b (nat_lt n (2 ^ 62)) p.1 in
    ltb-true n (2 ^ 62) q.1

start_fits : (space : List ℕ) (s : RoomState) → RoomFits space s → RoomFits space (start_round s)
start_fits space s fits =
    cond_both (may_start s) (record s { next_version = s.next_version + 1; members = map targeted s.members; phase = Running stages.Lock; dirty = false }) s (RoomFits space)
    (λ e. let below = below_limit (is_quiet s.phase) s.dirty s.next_version e in record {
      members = map_of space targeted s.members (λ j. refl) fits.members;
      few = omega (arith, length-map s.members targeted);
      table = fits.table;
      few_hosts = fits.few_hosts;
      boots = fits.boots;
      version = counter_small (s.next_version + 1) (omega arith);
    })
    (λ e. fits)

pub settle_fits : (space : List ℕ) (s : RoomState) → RoomFits space s → RoomFits space (settle_round s)
settle_fits space s fits = fully_fits space (start_round (advance_fully s)) (start_fits space (advance_fully s) (fully_fits space s fits))

conclude_fits : (space : List ℕ) (s : RoomState) (c : Conclusion) → RoomFits space s → RoomFits space (conclude s c).state
conclude_fits space s (Stays reply) fits = fits
conclude_fits space s (Says reply) fits = settle_fits space s fits
conclude_fits space s (Tells m) fits = settle_fits space s fits

-- ---- changes of the members

abbrev pub JoinFits : List ℕ → Option HostInfo → Type 0
JoinFits space None = Unit {0}
JoinFits space (Some h) = (local_host space).Fits h

-- a change of the members, and the members that it removes
pub record ChangeFits (space : List ℕ) (change : Membership) : Type 0 where
  pub room : RoomFits space change.state
  pub joined : JoinFits space change.joined
  pub removed : AllByRecursion (local_member space).Fits change.removed
  pub few : length change.removed ≤ 256

-- the host or the member of an event is of this space
abbrev pub EventIn : List ℕ → PlaceEvent → Type 0
EventIn space (events.Register h) = (local_host space).Fits h
EventIn space (events.Beat m) = Unit {0}
EventIn space (events.Ack m stage version) = Unit {0}
EventIn space (events.Leave m) = (local_member space).Fits m
EventIn space (events.Lost m) = (local_member space).Fits m
EventIn space events.Tick = Unit {0}
EventIn space events.Look = Unit {0}

module _ (space : List ℕ) (s : RoomState) (fits : RoomFits space s) where
  stays_fit : (c : Conclusion) → ChangeFits space (record { state = s; joined = None; removed = []; conclusion = c })
  stays_fit c = record { room = fits; joined = tt; removed = tt; few = omega arith }

  with_fits : (m : Member) (f : Joined → Joined) → ((j : Joined) → (f j).host ≡ j.host) → ChangeFits space (with_member s m f)
  with_fits m f same = record {
    room = record {
      members = with_of space s.members m.node f same fits.members;
      few = omega (arith, with_length s.members m.node f);
      table = fits.table;
      few_hosts = fits.few_hosts;
      boots = fits.boots;
      version = fits.version;
    };
    joined = tt;
    removed = tt;
    few = omega arith;
  }

  pub joined_fits : (h : HostInfo) (now : ℕ) → (local_host space).Fits h → length s.members < 256 → RoomFits space (with_joined s h now)
  joined_fits h now here few = record {
    members = put_of space s.members (new_joined h now) here fits.members;
    few = omega (arith, put_length s.members (new_joined h now));
    table = fits.table;
    few_hosts = fits.few_hosts;
    boots = boots_fit s.boots h.member (host_boot space h here) fits.boots;
    version = fits.version;
  }

  pub room_left : (node : List ℕ) → is_full s node ≡ false → length s.members < 256
  room_left node is = leb-false 256 (length s.members) (or_parts (nat_le most_members (length s.members)) (not (is_known s.boots node) && nat_le most_nodes (length s.boots)) is).0

  free_fits : (h : HostInfo) (now : ℕ) → (local_host space).Fits h → ChangeFits space (join_free s h now)
  free_fits h now here = cond_both (is_full s h.member.node) (unchanged s (replies.Full (length s.members) (length s.boots))) (record { state = with_joined s h now; joined = Some h; removed = []; conclusion = Tells h.member }) (ChangeFits space)
      (λ e. stays_fit (Stays (replies.Full (length s.members) (length s.boots))))
      (λ e. record { room = joined_fits h now here (room_left h.member.node e); joined = here; removed = tt; few = omega arith })

  node_fits : (h : HostInfo) (now : ℕ) (o : Option Joined) → (local_host space).Fits h → ChangeFits space (join_node s h now o)
  node_fits h now (Some j) here = stays_fit (Stays (replies.NodeBusy j.host.member.boot))
  node_fits h now None here = free_fits h now here

  register_fits : (h : HostInfo) (now : ℕ) → (local_host space).Fits h → ChangeFits space (register s h now)
  register_fits h now here = go (is_here s.members h.member) (nat_le h.member.boot (greatest_boot s.boots h.member.node))
    where
      go : (a b : Bool) → ChangeFits space (cond a (with_member s h.member (heard_at now)) (cond b (unchanged s (replies.StaleBoot (greatest_boot s.boots h.member.node))) (join_node s h now (of_node s.members h.member.node))))
      go true b = with_fits h.member (heard_at now) (λ j. refl)
      go false true = stays_fit (Stays (replies.StaleBoot (greatest_boot s.boots h.member.node)))
      go false false = node_fits h now (of_node s.members h.member.node) here

  stranger_fits : (m : Member) → ChangeFits space (not_member s m)
  stranger_fits m = stays_fit (Stays (replies.NotMember (greatest_boot s.boots m.node)))

  remove_fits : (m : Member) → (local_member space).Fits m → ChangeFits space (remove_member s m)
  remove_fits m here = go (is_here s.members m)
    where
      go : (b : Bool) → ChangeFits space (cond b (record { state = record s { members = without_node s.members m.node; dirty = true }; joined = None; removed = m ∷ []; conclusion = Says replies.Gone }) (not_member s m))
      go true = record {
        room = record {
          members = without_of space s.members m.node fits.members;
          few = omega (arith, without_few s.members m.node);
          table = fits.table;
          few_hosts = fits.few_hosts;
          boots = fits.boots;
          version = fits.version;
        };
        joined = tt;
        removed = (here, tt);
        few = omega arith;
      }
      go false = stranger_fits m

  drop_fits : (now : ℕ) → ChangeFits space (drop_late s now)
  drop_fits now = record {
    room = record {
      members = heard_fit space s.members now fits.members;
      few = omega (arith, heard_few s.members now);
      table = fits.table;
      few_hosts = fits.few_hosts;
      boots = fits.boots;
      version = fits.version;
    };
    joined = tt;
    removed = late_fit space s.members now fits.members;
    few = omega (arith, late_few s.members now);
  }

  pub apply_fits : (event : PlaceEvent) (now : ℕ) → EventIn space event → ChangeFits space (apply_membership s event now)
  apply_fits (events.Register h) now here = register_fits h now here
  apply_fits (events.Beat m) now here = cond_both (is_here s.members m) (with_member s m (heard_at now)) (not_member s m) (ChangeFits space)
      (λ e. with_fits m (heard_at now) (λ j. refl))
      (λ e. stranger_fits m)
  apply_fits (events.Ack m stage version) now here = cond_both (is_here s.members m) (with_member s m (ack_change s stage version now)) (not_member s m) (ChangeFits space)
      (λ e. with_fits m (ack_change s stage version now) (λ j. ack_same now _ j))
      (λ e. stranger_fits m)
  apply_fits (events.Leave m) now here = remove_fits m here
  apply_fits (events.Lost m) now here = remove_fits m here
  apply_fits events.Tick now here = drop_fits now
  apply_fits events.Look now here = stays_fit (Stays replies.Looked)

  -- ---- the step of a room, and its restart

  pub step_fits : (event : PlaceEvent) (now : ℕ) → EventIn space event → RoomFits space (room_step s event now).state
  step_fits event now here = let change = apply_membership s event now in conclude_fits space change.state change.conclusion (apply_fits event now here).room

  pub awoken_fits : (now : ℕ) → RoomFits space (awoken s now)
  awoken_fits now = record {
    members = map_of space (restarted_at now) s.members (λ j. refl) fits.members;
    few = omega (arith, length-map s.members (restarted_at now));
    table = tt;
    few_hosts = omega arith;
    boots = fits.boots;
    version = fits.version;
  }

pub new_fits : (space : List ℕ) → RoomFits space new_room
new_fits space = record { members = tt; few = omega arith; table = tt; few_hosts = omega arith; boots = tt; version = counter_small 1 (omega arith) }

pub restarted_fits : (space : List ℕ) (s : RoomState) (now : ℕ) → RoomFits space s → RoomFits space (room_restarted s now)
restarted_fits space s now fits = cond_both (s.next_version == 1) new_room (settle_round (awoken s now)) (RoomFits space) (λ e. new_fits space) (λ e. settle_fits space (awoken s now) (awoken_fits space s fits now))
