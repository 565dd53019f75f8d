-- What holds in each state that a run reaches.
use Rattle.std.proofs.Common.{◌≡◌, ℕ, Bool, true, false, cond, List, [], ◌∷◌, Option, None, Some, refl, sym, ap, ◌∙◌, subst, arith}
use Rattle.std.specs.Prelude.{◌==◌, is_some, nat_le}
use Rattle.std.proofs.lemmas.Bool.{eqb-true, cond_both}
use Rattle.actor_names.specs.declared.member.Member.{Member}
use Rattle.place_table.specs.declared.host.HostInfo.{HostInfo}
use Rattle.round_core.specs.declared.event.PlaceEvent.{PlaceEvent}
use Rattle.round_core.specs.declared.event.PlaceEvent.TheVariants as events
use Rattle.member_roster.specs.Members.{Joined, hosts_of, of_node, is_here, greatest_boot, heard_at, new_joined}
use Rattle.round_core.specs.Openings.{IsNewOrUsed}
use Rattle.round_core.specs.Room.{RoomState, Membership, new_room, settle_round, conclude, not_member, with_member, join_node, is_full, ack_change, remove_member, apply_membership, room_step, room_restarted, awoken}
use Rattle.round_core.specs.Reached.{Distinct, IsReached}
use Rattle.round_core.specs.Runs.{RunEvent, Steps, Restarts, ForgetsNothing, state_after, run_state}
use Rattle.round_core.proofs.Durable.{Keeps, keeps_all, hosts_with, conclude_keeps, ack_same}
use Rattle.round_core.proofs.Hosts.{of_node-host, put_distinct, without_distinct, heard_distinct}
use Rattle.round_core.proofs.Memory.{forgets_self, forgets_on, step_forgets, awoken_keeps, awoken_rises}
use Rattle.round_core.proofs.Openings.{new_kept, used_kept, by_use, restart_kept}
use Rattle.round_core.proofs.Versions.{Rises, rises_all, rises_on, conclude_rises}

-- ---- nodes that differ

abbrev Differs : Membership → Type 0
Differs t = Distinct (hosts_of t.state.members)

node_differs : (s : RoomState) (host : HostInfo) (now : ℕ) → Distinct (hosts_of s.members) → (o : Option Joined) → of_node s.members host.member.node ≡ o → Differs (join_node s host now o)
node_differs s host now d (Some j) e = d
node_differs s host now d None e =
    cond_both (is_full s host.member.node) _ _ Differs
    (λ _. d)
    (λ _. put_distinct s.members (new_joined host now) (sym (of_node-host s.members host.member.node) ∙ ap (λ (o : Option Joined). is_some o) e) d)

heard_differs : (s : RoomState) (m : Member) (f : Joined → Joined) (b : Bool) → ((j : Joined) → (f j).host ≡ j.host) → Distinct (hosts_of s.members) → Differs (cond b (with_member s m f) (not_member s m))
heard_differs s m f true same d = subst (λ (hs : List HostInfo). Distinct hs) (sym (hosts_with s.members m.node f same)) d
heard_differs s m f false same d = d

remove_differs : (s : RoomState) (m : Member) → Distinct (hosts_of s.members) → Differs (remove_member s m)
remove_differs s m d = cond_both (is_here s.members m) _ _ Differs (λ _. without_distinct s.members m.node d) (λ _. d)

differs : (s : RoomState) (event : PlaceEvent) (now : ℕ) → Distinct (hosts_of s.members) → Differs (apply_membership s event now)
differs s (events.Register host) now d =
    cond_both (is_here s.members host.member) _ _ Differs
    (λ _. heard_differs s host.member (heard_at now) true (λ j. refl) d)
    (λ _. cond_both (nat_le host.member.boot (greatest_boot s.boots host.member.node)) _ _ Differs
    (λ _. d)
    (λ _. node_differs s host now d (of_node s.members host.member.node) refl))
differs s (events.Beat m) now d = heard_differs s m (heard_at now) _ (λ j. refl) d
differs s (events.Ack m stage version) now d = heard_differs s m (ack_change s stage version now) _ (ack_same now _) d
differs s (events.Leave m) now d = remove_differs s m d
differs s (events.Lost m) now d = remove_differs s m d
differs s events.Tick now d = heard_distinct s.members now d
differs s events.Look now d = d

-- ---- versions

-- a change of the members uses no version
abbrev Same : RoomState → Membership → Type 0
Same s t = t.state.next_version ≡ s.next_version

node_version : (s : RoomState) (host : HostInfo) (now : ℕ) (o : Option Joined) → Same s (join_node s host now o)
node_version s host now (Some j) = refl
node_version s host now None = cond_both (is_full s host.member.node) _ _ (Same s) (λ _. refl) (λ _. refl)

membership_version : (s : RoomState) (event : PlaceEvent) (now : ℕ) → Same s (apply_membership s event now)
membership_version s (events.Register host) now =
    cond_both (is_here s.members host.member) _ _ (Same s)
    (λ _. refl)
    (λ _. cond_both (nat_le host.member.boot (greatest_boot s.boots host.member.node)) _ _ (Same s) (λ _. refl) (λ _. node_version s host now (of_node s.members host.member.node)))
membership_version s (events.Beat m) now = cond_both (is_here s.members m) _ _ (Same s) (λ _. refl) (λ _. refl)
membership_version s (events.Ack m stage version) now = cond_both (is_here s.members m) _ _ (Same s) (λ _. refl) (λ _. refl)
membership_version s (events.Leave m) now = cond_both (is_here s.members m) _ _ (Same s) (λ _. refl) (λ _. refl)
membership_version s (events.Lost m) now = cond_both (is_here s.members m) _ _ (Same s) (λ _. refl) (λ _. refl)
membership_version s events.Tick now = refl
membership_version s events.Look now = refl

pub step_rises : (s : RoomState) (event : PlaceEvent) (now : ℕ) → Rises s (room_step s event now).state
step_rises s event now =
    let t = apply_membership s event now in
    rises_on s t.state (conclude t.state t.conclusion).state (rises_all s t.state (membership_version s event now)) (conclude_rises t.state t.conclusion)

-- ---- before the first round it is the opening state

abbrev Unused : RoomState → Type 0
Unused s = s.next_version ≡ 1 → s ≡ new_room

first_unused : (event : PlaceEvent) (now : ℕ) → Unused (room_step new_room event now).state
first_unused (events.Register host) now =
    cond_both (nat_le host.member.boot 0) _ _ (λ (t : Membership). Unused (conclude t.state t.conclusion).state) (λ _ _. refl) (λ _ z. absurd (cc))
first_unused (events.Beat m) now = λ _. refl
first_unused (events.Ack m stage version) now = λ _. refl
first_unused (events.Leave m) now = λ _. refl
first_unused (events.Lost m) now = λ _. refl
first_unused events.Tick now = λ _. refl
first_unused events.Look now = λ _. refl

step_kept : (s : RoomState) (event : PlaceEvent) (now : ℕ) → IsNewOrUsed s → IsNewOrUsed (room_step s event now).state
step_kept s event now k =
    by_use (λ (t : RoomState). IsNewOrUsed (room_step t event now).state) s k
    (record { used = (step_rises new_room event now).low; unused = first_unused event now })
    (λ l. used_kept s (room_step s event now).state l (step_rises s event now))

-- ---- each state that a run reaches

pub new_reached : IsReached new_room
new_reached = record { distinct = tt; kept = new_kept; within = omega arith }

step_reached : (s : RoomState) (event : PlaceEvent) (now : ℕ) → IsReached s → IsReached (room_step s event now).state
step_reached s event now r =
    let t = apply_membership s event now in
    let v = step_rises s event now in
    record {
      distinct = subst (λ (hs : List HostInfo). Distinct hs) (sym (conclude_keeps t.state t.conclusion).hosts) (differs s event now r.distinct);
      kept = step_kept s event now r.kept;
      within = v.high r.within;
    }

-- the restart of a reached state
pub restart_keeps : (s : RoomState) (now : ℕ) → IsNewOrUsed s → Keeps s (room_restarted s now)
restart_keeps s now k =
    cond_both (s.next_version == 1) new_room (settle_round (awoken s now)) (λ (t : RoomState). Keeps s t)
    (λ e. subst (λ (t : RoomState). Keeps t new_room) (sym (k.unused (eqb-true s.next_version 1 e))) (keeps_all new_room))
    (λ _. awoken_keeps s now)

pub restart_rises : (s : RoomState) (now : ℕ) → Rises s (room_restarted s now)
restart_rises s now =
    cond_both (s.next_version == 1) new_room (settle_round (awoken s now)) (λ (t : RoomState). Rises s t)
    (λ e. let z = eqb-true s.next_version 1 e in rises_all s new_room (sym z))
    (λ _. awoken_rises s now)

restart_reached : (s : RoomState) (now : ℕ) → IsReached s → IsReached (room_restarted s now)
restart_reached s now r =
    record {
      distinct = subst (λ (hs : List HostInfo). Distinct hs) (sym (restart_keeps s now r.kept).hosts) r.distinct;
      kept = restart_kept s now r.kept.used;
      within = (restart_rises s now).high r.within;
    }

pub event_reached : (s : RoomState) (e : RunEvent) → IsReached s → IsReached (state_after s e)
event_reached s (Steps event now) r = step_reached s event now r
event_reached s (Restarts now) r = restart_reached s now r

pub run_reached : (s : RoomState) (run : List RunEvent) → IsReached s → IsReached (run_state s run)
run_reached s [] r = r
run_reached s (e ∷ es) r = run_reached (state_after s e) es (event_reached s e r)

-- ---- no event of a run forgets anything

pub restart_forgets : (s : RoomState) (now : ℕ) → IsNewOrUsed s → ForgetsNothing s (room_restarted s now)
restart_forgets s now k = forgets_on s s (room_restarted s now) (forgets_self s) (restart_keeps s now k) (restart_rises s now)

pub event_forgets : (s : RoomState) (e : RunEvent) → IsReached s → ForgetsNothing s (state_after s e)
event_forgets s (Steps event now) r = step_forgets s event now
event_forgets s (Restarts now) r = restart_forgets s now r.kept
