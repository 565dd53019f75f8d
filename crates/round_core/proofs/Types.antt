-- Hosts that all are of one kind stay so, if each that joins is of it.
use Rattle.std.proofs.Common.{◌≡◌, ℕ, Bool, true, false, cond, List, [], ◌∷◌, Option, None, Some, refl, sym, subst}
use Rattle.std.specs.Prelude.{◌==◌, nat_le}
use Rattle.std.proofs.lemmas.Bool.{cond_both}
use Rattle.actor_names.specs.declared.member.Member.{Member}
use Rattle.place_table.specs.declared.host.HostInfo.{HostInfo}
use Rattle.place_table.specs.declared.ack_stage.AckStage.TheVariants as stages
use Rattle.round_core.specs.declared.event.PlaceEvent.{PlaceEvent}
use Rattle.round_core.specs.declared.event.PlaceEvent.TheVariants as events
use Rattle.round_core.specs.declared.event.PlaceReply.{PlaceReply}
use Rattle.round_core.specs.declared.event.PlaceReply.TheVariants as replies
use Rattle.round_core.specs.declared.phase.RoundPhase.{RoundPhase}
use Rattle.round_core.specs.declared.phase.RoundPhase.TheVariants.{Quiet, Running}
use Rattle.member_roster.specs.Members.{Joined, greatest_boot, of_node, is_here, any_pending, entered, targeted, heard_at, restarted_at, new_joined, without_node, heard_of}
use Rattle.round_core.specs.Room.{RoomState, Membership, Conclusion, Stays, Says, Tells, new_room, next_stage, advance_round, may_start, start_round, advance_fully, settle_round, is_full, not_member, with_member, join_node, ack_change, remove_member, apply_membership, conclude, room_step, awoken, room_restarted}
use Rattle.round_core.specs.Runs.{RunEvent, Steps, Restarts, run_state}
use Rattle.round_core.specs.Sound.{HasFewTypes, BringsFewTypes, RunsFewTypes, HostsAre, HaveFewTypes}
use Rattle.round_core.specs.Views.{RoomView, Gives, GivesInMemory}
use Rattle.round_core.proofs.Durable.{ack_same}
use Rattle.round_core.proofs.Parts.{without_part, heard_part, part_each, map_each, with_each, host_on, put_each, targets_each}

-- what a Register brings is one of these
abbrev pub Brings : (HostInfo → Type 0) → PlaceEvent → Type 0
Brings P (events.Register host) = P host
Brings P event = Unit {0}

module _ (P : HostInfo → Type 0) where
  abbrev Of : Joined → Type 0
  Of j = P j.host

  pub new_hosts : HostsAre P new_room
  new_hosts = record { members = tt; table = tt }

  next_hosts : (s : RoomState) (p : RoundPhase) → HostsAre P s → HostsAre P (next_stage s p)
  next_hosts s Quiet h = h
  next_hosts s (Running stages.Lock) h = record { members = map_each Of entered s.members (λ j p. p) h.members; table = targets_each P s.members h.members }
  next_hosts s (Running stages.Update) h = record { members = map_each Of entered s.members (λ j p. p) h.members; table = h.table }
  next_hosts s (Running stages.Unlock) h = record { members = h.members; table = h.table }

  advance_hosts : (s : RoomState) → HostsAre P s → HostsAre P (advance_round s)
  advance_hosts s h = cond_both (any_pending s.members) s (next_stage s s.phase) (HostsAre P) (λ _. h) (λ _. next_hosts s s.phase h)

  start_hosts : (s : RoomState) → HostsAre P s → HostsAre P (start_round s)
  start_hosts s h = cond_both (may_start s) _ s (HostsAre P) (λ _. record { members = map_each Of targeted s.members (λ j p. p) h.members; table = h.table }) (λ _. h)

  fully_hosts : (s : RoomState) → HostsAre P s → HostsAre P (advance_fully s)
  fully_hosts s h = advance_hosts (advance_round (advance_round s)) (advance_hosts (advance_round s) (advance_hosts s h))

  settle_hosts : (s : RoomState) → HostsAre P s → HostsAre P (settle_round s)
  settle_hosts s h = fully_hosts (start_round (advance_fully s)) (start_hosts (advance_fully s) (fully_hosts s h))

  abbrev Keep : Membership → Type 0
  Keep t = HostsAre P t.state

  node_hosts : (s : RoomState) (host : HostInfo) (now : ℕ) → P host → HostsAre P s → (o : Option Joined) → Keep (join_node s host now o)
  node_hosts s host now p h (Some j) = h
  node_hosts s host now p h None =
      cond_both (is_full s host.member.node) _ _ Keep (λ _. h) (λ _. record { members = put_each Of (new_joined host now) s.members p h.members; table = h.table })

  told_hosts : (s : RoomState) (m : Member) (f : Joined → Joined) (b : Bool) → ((j : Joined) → (f j).host ≡ j.host) → HostsAre P s → Keep (cond b (with_member s m f) (not_member s m))
  told_hosts s m f true same h = record { members = with_each Of f m.node s.members (host_on f same P) h.members; table = h.table }
  told_hosts s m f false same h = h

  remove_hosts : (s : RoomState) (m : Member) → HostsAre P s → Keep (remove_member s m)
  remove_hosts s m h =
      cond_both (is_here s.members m) _ _ Keep
      (λ _. record { members = part_each Of (without_node s.members m.node) s.members (without_part s.members m.node) h.members; table = h.table })
      (λ _. h)

  membership_hosts : (s : RoomState) (event : PlaceEvent) (now : ℕ) → Brings P event → HostsAre P s → Keep (apply_membership s event now)
  membership_hosts s (events.Register host) now p h =
      cond_both (is_here s.members host.member) _ _ Keep
      (λ _. told_hosts s host.member (heard_at now) true (λ j. refl) h)
      (λ _. cond_both (nat_le host.member.boot (greatest_boot s.boots host.member.node)) _ _ Keep
      (λ _. h)
      (λ _. node_hosts s host now p h (of_node s.members host.member.node)))
  membership_hosts s (events.Beat m) now p h = told_hosts s m (heard_at now) _ (λ j. refl) h
  membership_hosts s (events.Ack m stage version) now p h = told_hosts s m (ack_change s stage version now) _ (ack_same now _) h
  membership_hosts s (events.Leave m) now p h = remove_hosts s m h
  membership_hosts s (events.Lost m) now p h = remove_hosts s m h
  membership_hosts s events.Tick now p h = record { members = part_each Of (heard_of s.members now) s.members (heard_part s.members now) h.members; table = h.table }
  membership_hosts s events.Look now p h = h

  conclude_hosts : (s : RoomState) (k : Conclusion) → HostsAre P s → HostsAre P (conclude s k).state
  conclude_hosts s (Stays reply) h = h
  conclude_hosts s (Says reply) h = settle_hosts s h
  conclude_hosts s (Tells m) h = settle_hosts s h

  pub step_hosts : (s : RoomState) (event : PlaceEvent) (now : ℕ) → Brings P event → HostsAre P s → HostsAre P (room_step s event now).state
  step_hosts s event now p h =
      let t = apply_membership s event now in
      conclude_hosts t.state t.conclusion (membership_hosts s event now p h)

  pub restart_hosts : (s : RoomState) (now : ℕ) → HostsAre P s → HostsAre P (room_restarted s now)
  restart_hosts s now h =
      cond_both (s.next_version == 1) new_room (settle_round (awoken s now)) (HostsAre P)
      (λ _. new_hosts)
      (λ _. settle_hosts (awoken s now) (record { members = map_each Of (restarted_at now) s.members (λ j p. p) h.members; table = tt }))

-- ---- hosts of at most 32 types

pub new_types : HaveFewTypes new_room
new_types = new_hosts HasFewTypes

brings_few : (event : PlaceEvent) → BringsFewTypes event → Brings HasFewTypes event
brings_few (events.Register host) t = t
brings_few (events.Beat m) t = tt
brings_few (events.Ack m stage version) t = tt
brings_few (events.Leave m) t = tt
brings_few (events.Lost m) t = tt
brings_few events.Tick t = tt
brings_few events.Look t = tt

pub step_types : (s : RoomState) (event : PlaceEvent) (now : ℕ) → BringsFewTypes event → HaveFewTypes s → HaveFewTypes (room_step s event now).state
step_types s event now t h = step_hosts HasFewTypes s event now (brings_few event t) h

pub restart_types : (s : RoomState) (now : ℕ) → HaveFewTypes s → HaveFewTypes (room_restarted s now)
restart_types s now h = restart_hosts HasFewTypes s now h

pub run_types : (s : RoomState) (run : List RunEvent) → RunsFewTypes run → HaveFewTypes s → HaveFewTypes (run_state s run)
run_types s [] t h = h
run_types s (Steps event now ∷ run) t h = run_types (room_step s event now).state run t.1 (step_types s event now t.0 h)
run_types s (Restarts now ∷ run) t h = run_types (room_restarted s now) run t (restart_types s now h)

pub gives_types : (event : PlaceEvent) (now : ℕ) (reply : PlaceReply) (old new : RoomView) → BringsFewTypes event → HaveFewTypes old.state → Gives event now reply old new → HaveFewTypes new.state
gives_types event now reply old new t h g = subst (λ (v : RoomView). HaveFewTypes v.state) (sym g.1) (step_types old.state event now t h)

pub memory_types : (event : PlaceEvent) (now : ℕ) (reply : PlaceReply) (old new : RoomView) → BringsFewTypes event → HaveFewTypes old.state → GivesInMemory event now reply old new → HaveFewTypes new.state
memory_types event now replies.OutOfMemory old new t h g = subst (λ (v : RoomView). HaveFewTypes v.state) (sym g) h
memory_types event now (replies.Lock v) old new t h g = gives_types event now (replies.Lock v) old new t h g
memory_types event now (replies.Update v) old new t h g = gives_types event now (replies.Update v) old new t h g
memory_types event now (replies.Unlock v) old new t h g = gives_types event now (replies.Unlock v) old new t h g
memory_types event now replies.Idle old new t h g = gives_types event now replies.Idle old new t h g
memory_types event now replies.Gone old new t h g = gives_types event now replies.Gone old new t h g
memory_types event now (replies.Ticked n) old new t h g = gives_types event now (replies.Ticked n) old new t h g
memory_types event now replies.Looked old new t h g = gives_types event now replies.Looked old new t h g
memory_types event now (replies.StaleBoot n) old new t h g = gives_types event now (replies.StaleBoot n) old new t h g
memory_types event now (replies.NodeBusy n) old new t h g = gives_types event now (replies.NodeBusy n) old new t h g
memory_types event now (replies.NotMember n) old new t h g = gives_types event now (replies.NotMember n) old new t h g
memory_types event now (replies.SpacesFull n) old new t h g = gives_types event now (replies.SpacesFull n) old new t h g
memory_types event now (replies.Full n m) old new t h g = gives_types event now (replies.Full n m) old new t h g
