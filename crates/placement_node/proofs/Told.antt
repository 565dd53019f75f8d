-- The versions that a node tells, and that the last one of a space never falls.
use Rattle.std.proofs.Common.{◌≡◌, ℕ, ◌≤◌, Bool, true, false, cond, List, [], ◌∷◌, ◌++◌, length, map, Option, Some, None, refl, sym, ap, ◌∙◌, subst, arith}
use Rattle.std.specs.Prelude.{bytes_eq, nat_le, unwrap_or, ◌==◌}
use Rattle.std.proofs.lemmas.Bool.{cond_both}
use Rattle.std.proofs.lemmas.Slice.Eq.{bytes_eq-Decides}
use Rattle.actor_names.specs.declared.member.Member.{Member}
use Rattle.place_table.specs.declared.host.HostInfo.{HostInfo}
use Rattle.place_table.specs.declared.ack_stage.AckStage.TheVariants as stages
use Rattle.member_roster.specs.Members.{Joined, greatest_boot, heard_at, is_here, is_pending, of_node, without_node}
use Rattle.round_core.specs.declared.event.PlaceEvent.{PlaceEvent}
use Rattle.round_core.specs.declared.event.PlaceEvent.TheVariants as events
use Rattle.round_core.specs.declared.event.PlaceReply.{PlaceReply}
use Rattle.round_core.specs.declared.event.PlaceReply.TheVariants as replies
use Rattle.round_core.specs.declared.phase.RoundPhase.{RoundPhase}
use Rattle.round_core.specs.declared.phase.RoundPhase.TheVariants.{Quiet, Running}
use Rattle.round_core.specs.Room.{RoomState, new_room, last_version, phase_reply, reply_for, Conclusion, Stays, Says, Tells, Membership, unchanged, not_member, with_member, with_joined, is_full, join_node, register, remove_member, apply_membership, conclude, room_step}
use Rattle.round_core.specs.Runs.{RunEvent, Steps as Stepped, Restarts}
use Rattle.round_core.proofs.Memory.{step_forgets}
use Rattle.frame_wire.specs.declared.frame.Frame.TheVariants as frames
use Rattle.placement_core.specs.Placement.{SpaceRoom, PlacementState, new_placement, most_spaces, room_at, room_of, put_room, each_room, ticked, restarted, in_room, joins_room, refused, room_stepped, placement_step}
use Rattle.placement_core.specs.Runs.{run_state, state_after}
use Rattle.placement_node.specs.declared.reply.NodeReply.{NodeReply}
use Rattle.placement_node.specs.declared.reply.NodeReply.TheVariants.{Message, Seen, Ticked}
use Rattle.placement_node.specs.Node.{Steps, Works}
use Rattle.placement_node.specs.Replies.{event_space, reply_of, Done, outcome_of}
use Rattle.placement_node.specs.Runs.{reached, with_step, version_told, TellsLast, VersionsRise}
use Rattle.placement_node.proofs.Pushes.{state_push}
use Rattle.placement_node.proofs.Rising.{at_put, restart_rises}

-- ---- the version in a reply of a room

abbrev pub version_in : PlaceReply → Option ℕ
version_in (replies.Lock version) = Some version
version_in (replies.Update version) = Some version
version_in (replies.Unlock version) = Some version
version_in reply = None

abbrev pub IsSilent : Conclusion → Type 0
IsSilent (Stays reply) = version_in reply ≡ None
IsSilent (Says reply) = version_in reply ≡ None
IsSilent (Tells m) = Unit {0}

pub no_version : (version : ℕ) (Q : Type 0) → None ≡ Some version → Q
no_version version Q is = absurd cc

for_member : (s : RoomState) (m : Member) (version : ℕ) → version_in (reply_for s m) ≡ Some version → version ≡ last_version s
for_member s m version = go (is_pending s.members m) s.phase
  where
    go : (b : Bool) (phase : RoundPhase) → version_in (cond b (phase_reply phase (last_version s)) replies.Idle) ≡ Some version → version ≡ last_version s
    go false phase is = no_version version (version ≡ last_version s) is
    go true Quiet is = no_version version (version ≡ last_version s) is
    go true (Running stages.Lock) is = let e : Some (last_version s) ≡ Some version = is in cc
    go true (Running stages.Update) is = let e : Some (last_version s) ≡ Some version = is in cc
    go true (Running stages.Unlock) is = let e : Some (last_version s) ≡ Some version = is in cc

concluded : (s : RoomState) (c : Conclusion) (version : ℕ) → IsSilent c → version_in (conclude s c).reply ≡ Some version → version ≡ last_version (conclude s c).state
concluded s (Stays reply) version silent is = no_version version (version ≡ last_version s) (sym silent ∙ is)
concluded s (Says reply) version silent is = no_version version (version ≡ last_version (conclude s (Says reply)).state) (sym silent ∙ is)
concluded s (Tells m) version silent is = for_member (conclude s (Tells m)).state m version is

abbrev pub Silent : Membership → Type 0
Silent change = IsSilent change.conclusion

here_or_not : (s : RoomState) (m : Member) (f : Joined → Joined) → Silent (cond (is_here s.members m) (with_member s m f) (not_member s m))
here_or_not s m f = cond_both (is_here s.members m) (with_member s m f) (not_member s m) Silent (λ e. tt) (λ e. refl)

free_silent : (s : RoomState) (host : HostInfo) (now : ℕ) (o : Option Joined) → Silent (join_node s host now o)
free_silent s host now (Some j) = refl
free_silent s host now None = cond_both (is_full s host.member.node) (unchanged s (replies.Full (length s.members) (length s.boots))) (record { state = with_joined s host now; joined = Some host; removed = []; conclusion = Tells host.member }) Silent (λ e. refl) (λ e. tt)

removed_silent : (s : RoomState) (m : Member) → Silent (remove_member s m)
removed_silent s m = go (is_here s.members m)
  where
    go : (b : Bool) → Silent (cond b (record { state = record s { members = without_node s.members m.node; dirty = true }; joined = None; removed = m ∷ []; conclusion = Says replies.Gone }) (not_member s m))
    go true = refl
    go false = refl

register_silent : (s : RoomState) (host : HostInfo) (now : ℕ) → Silent (register s host now)
register_silent s host now = go (is_here s.members host.member) (nat_le host.member.boot (greatest_boot s.boots host.member.node)) (of_node s.members host.member.node)
  where
    go : (a b : Bool) (o : Option Joined) → Silent (cond a (with_member s host.member (heard_at now)) (cond b (unchanged s (replies.StaleBoot (greatest_boot s.boots host.member.node))) (join_node s host now o)))
    go true b o = tt
    go false true o = refl
    go false false o = free_silent s host now o

pub silent : (s : RoomState) (event : PlaceEvent) (now : ℕ) → Silent (apply_membership s event now)
silent s (events.Register host) now = register_silent s host now
silent s (events.Beat m) now = here_or_not s m _
silent s (events.Ack m stage version) now = here_or_not s m _
silent s (events.Leave m) now = removed_silent s m
silent s (events.Lost m) now = removed_silent s m
silent s events.Tick now = refl
silent s events.Look now = refl

step_told : (s : RoomState) (event : PlaceEvent) (now version : ℕ) → version_in (room_step s event now).reply ≡ Some version → version ≡ last_version (room_step s event now).state
step_told s event now version is = let change = apply_membership s event now in concluded change.state change.conclusion version (silent s event now) is

-- ---- in a reply of the placement

put_is : (rs : List SpaceRoom) (space : List ℕ) (room : RoomState) → unwrap_or (room_at (put_room rs space room) space) new_room ≡ room
put_is rs space room = ap (λ (o : Option RoomState). unwrap_or o new_room) (at_put rs space room space ∙ ap (λ (b : Bool). cond b (Some room) (room_at rs space)) ((bytes_eq-Decides space space).1 refl))

put_told : (s : PlacementState) (space : List ℕ) (room : RoomState) (event : PlaceEvent) (now version : ℕ) → version_in (room_step room event now).reply ≡ Some version → version ≡ last_version (room_of (room_stepped s space (room_step room event now)).state space)
put_told s space room event now version is = step_told room event now version is ∙ ap last_version (sym (put_is s.rooms space (room_step room event now).state))

in_told : (s : PlacementState) (space : List ℕ) (event : PlaceEvent) (now version : ℕ) (o : Option RoomState) → version_in (in_room s space event now o).reply ≡ Some version → version ≡ last_version (room_of (in_room s space event now o).state space)
in_told s space event now version None is = no_version version (version ≡ last_version (room_of s space)) is
in_told s space event now version (Some room) is = put_told s space room event now version is

joins_told : (s : PlacementState) (host : HostInfo) (now version : ℕ) (o : Option RoomState) → version_in (joins_room s host now o).reply ≡ Some version → version ≡ last_version (room_of (joins_room s host now o).state host.member.space)
joins_told s host now version (Some room) is = put_told s host.member.space room (events.Register host) now version is
joins_told s host now version None is = go (nat_le most_spaces (length s.rooms)) (host.member.boot == 0) is
  where
    go : (full zero : Bool) → version_in (cond full (refused s (replies.SpacesFull (length s.rooms))) (cond zero (refused s (replies.StaleBoot 0)) (room_stepped s host.member.space (room_step new_room (events.Register host) now)))).reply ≡ Some version → version ≡ last_version (room_of (cond full (refused s (replies.SpacesFull (length s.rooms))) (cond zero (refused s (replies.StaleBoot 0)) (room_stepped s host.member.space (room_step new_room (events.Register host) now)))).state host.member.space)
    go true zero told = no_version version (version ≡ last_version (room_of s host.member.space)) told
    go false true told = no_version version (version ≡ last_version (room_of s host.member.space)) told
    go false false told = put_told s host.member.space new_room (events.Register host) now version told

placement_told : (s : PlacementState) (event : PlaceEvent) (now version : ℕ) → version_in (placement_step s event now).reply ≡ Some version → version ≡ last_version (room_of (placement_step s event now).state (event_space event))
placement_told s (events.Register host) now version is = joins_told s host now version (room_at s.rooms host.member.space) is
placement_told s (events.Beat m) now version is = in_told s m.space (events.Beat m) now version (room_at s.rooms m.space) is
placement_told s (events.Ack m stage at) now version is = in_told s m.space (events.Ack m stage at) now version (room_at s.rooms m.space) is
placement_told s (events.Leave m) now version is = in_told s m.space (events.Leave m) now version (room_at s.rooms m.space) is
placement_told s (events.Lost m) now version is = in_told s m.space (events.Lost m) now version (room_at s.rooms m.space) is
placement_told s events.Tick now version is = no_version version (version ≡ last_version (room_of (placement_step s events.Tick now).state (event_space events.Tick))) is
placement_told s events.Look now version is = no_version version (version ≡ last_version (room_of s (event_space events.Look))) is

-- ---- in a reply of the node

pub reply_told : (s : PlacementState) (space : List ℕ) (reply : PlaceReply) (version : ℕ) → version_told (reply_of s space reply) ≡ Some version → version_in reply ≡ Some version
reply_told s space (replies.Lock at) version is = is
reply_told s space (replies.Update at) version is = is
reply_told s space (replies.Unlock at) version is = is
reply_told s space reply version is = is

pub told_done : (reply : NodeReply) (version : ℕ) → version_told reply ≡ Some version → outcome_of reply ≡ Done
told_done (Message (frames.Lock at)) version is = refl
told_done (Message (frames.Update at hosts)) version is = refl
told_done (Message (frames.Unlock at)) version is = refl
told_done (Message frame) version is = no_version version (outcome_of (Message frame) ≡ Done) is
told_done (Seen rooms) version is = refl
told_done (Ticked dropped) version is = refl

pub tells_last : TellsLast
tells_last run event reply old new version at moves is =
    let steps : Steps old event reply new = subst (Works old event reply new) (told_done reply version is) (moves.works at.works) in
    let step = placement_step old.state event.event event.now in
    let told : version_in step.reply ≡ Some version = reply_told step.state (event_space event.event) step.reply version (ap version_told (sym steps.replies) ∙ is) in
    let next : step.state ≡ reached (with_step run event) = ap (λ (s : PlacementState). (placement_step s event.event event.now).state) at.state ∙ sym (state_push new_placement run (Stepped event.event event.now)) in
    placement_told old.state event.event event.now version told ∙ ap (λ (s : PlacementState). last_version (room_of s (event_space event.event))) next

-- ---- versions never fall

abbrev next_in : Option RoomState → ℕ
next_in o = (unwrap_or o new_room).next_version

put_rises : (rs : List SpaceRoom) (space : List ℕ) (room : RoomState) (q : List ℕ) → next_in (room_at rs space) ≤ room.next_version → next_in (room_at rs q) ≤ next_in (room_at (put_room rs space room) q)
put_rises rs space room q rises = subst (λ (o : Option RoomState). next_in (room_at rs q) ≤ next_in o) (sym (at_put rs space room q)) (go (bytes_eq q space) refl)
  where
    go : (b : Bool) → bytes_eq q space ≡ b → next_in (room_at rs q) ≤ next_in (cond b (Some room) (room_at rs q))
    go false is = omega arith
    go true is = subst (λ (p : List ℕ). next_in (room_at rs p) ≤ room.next_version) (sym ((bytes_eq-Decides q space).0 is)) rises

in_rises : (s : PlacementState) (space : List ℕ) (event : PlaceEvent) (now : ℕ) (o : Option RoomState) (q : List ℕ) → room_at s.rooms space ≡ o → next_in (room_at s.rooms q) ≤ next_in (room_at (in_room s space event now o).state.rooms q)
in_rises s space event now None q at = omega arith
in_rises s space event now (Some room) q at = put_rises s.rooms space (room_step room event now).state q (subst (λ (o : Option RoomState). next_in o ≤ (room_step room event now).state.next_version) (sym at) (step_forgets room event now).versions)

joins_rises : (s : PlacementState) (host : HostInfo) (now : ℕ) (o : Option RoomState) (q : List ℕ) → room_at s.rooms host.member.space ≡ o → next_in (room_at s.rooms q) ≤ next_in (room_at (joins_room s host now o).state.rooms q)
joins_rises s host now (Some room) q at = in_rises s host.member.space (events.Register host) now (Some room) q at
joins_rises s host now None q at = go (nat_le most_spaces (length s.rooms)) (host.member.boot == 0)
  where
    go : (full zero : Bool) → next_in (room_at s.rooms q) ≤ next_in (room_at (cond full (refused s (replies.SpacesFull (length s.rooms))) (cond zero (refused s (replies.StaleBoot 0)) (room_stepped s host.member.space (room_step new_room (events.Register host) now)))).state.rooms q)
    go true zero = omega arith
    go false true = omega arith
    go false false = put_rises s.rooms host.member.space (room_step new_room (events.Register host) now).state q (subst (λ (o : Option RoomState). next_in o ≤ (room_step new_room (events.Register host) now).state.next_version) (sym at) (step_forgets new_room (events.Register host) now).versions)

each_rises : (g : RoomState → RoomState) → ((room : RoomState) → room.next_version ≤ (g room).next_version) → (rs : List SpaceRoom) (q : List ℕ) → next_in (room_at rs q) ≤ next_in (room_at (map (each_room g) rs) q)
each_rises g rises [] q = omega arith
each_rises g rises (r ∷ rs) q = go (bytes_eq q r.space) (each_rises g rises rs q)
  where
    go : (b : Bool) → next_in (room_at rs q) ≤ next_in (room_at (map (each_room g) rs) q) → next_in (cond b (Some r.room) (room_at rs q)) ≤ next_in (cond b (Some (g r.room)) (room_at (map (each_room g) rs) q))
    go true ih = rises r.room
    go false ih = ih

event_rises : (s : PlacementState) (e : RunEvent) (q : List ℕ) → next_in (room_at s.rooms q) ≤ next_in (room_at (state_after s e).rooms q)
event_rises s (Stepped (events.Register host) now) q = joins_rises s host now (room_at s.rooms host.member.space) q refl
event_rises s (Stepped (events.Beat m) now) q = in_rises s m.space (events.Beat m) now (room_at s.rooms m.space) q refl
event_rises s (Stepped (events.Ack m stage version) now) q = in_rises s m.space (events.Ack m stage version) now (room_at s.rooms m.space) q refl
event_rises s (Stepped (events.Leave m) now) q = in_rises s m.space (events.Leave m) now (room_at s.rooms m.space) q refl
event_rises s (Stepped (events.Lost m) now) q = in_rises s m.space (events.Lost m) now (room_at s.rooms m.space) q refl
event_rises s (Stepped events.Tick now) q = each_rises (ticked now) (λ room. (step_forgets room events.Tick now).versions) s.rooms q
event_rises s (Stepped events.Look now) q = omega arith
event_rises s (Restarts now) q = each_rises (restarted now) (λ room. restart_rises room now) s.rooms q

pub run_rises : (s : PlacementState) (run : List RunEvent) (q : List ℕ) → next_in (room_at s.rooms q) ≤ next_in (room_at (run_state s run).rooms q)
run_rises s [] q = omega arith
run_rises s (e ∷ run) q = let first = event_rises s e q in let rest = run_rises (state_after s e) run q in omega arith

pub state_append : (s : PlacementState) (run more : List RunEvent) → run_state s (run ++ more) ≡ run_state (run_state s run) more
state_append s [] more = refl
state_append s (e ∷ run) more = state_append (state_after s e) run more

pub versions_rise : VersionsRise
versions_rise run more space =
    let rises = subst (λ (s : PlacementState). next_in (room_at (reached run).rooms space) ≤ next_in (room_at s.rooms space)) (sym (state_append new_placement run more)) (run_rises (reached run) more space) in
    omega arith
