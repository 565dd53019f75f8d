-- A version that is told after a restart is above every one that was told before it.
use Rattle.std.proofs.Common.{◌≡◌, ◌⊎◌, inl, inr, ℕ, ◌+◌, ◌<◌, ◌≤◌, Bool, true, false, cond, List, [], ◌∷◌, ◌++◌, length, map, Option, Some, None, refl, sym, ap, ◌∙◌, subst, arith}
use Rattle.std.specs.Prelude.{bytes_eq, nat_le, unwrap_or, ◌==◌}
use Rattle.std.proofs.lemmas.Bool.{eqb-true, cond_both}
use Rattle.std.proofs.lemmas.Slice.Eq.{bytes_eq-Decides}
use Rattle.actor_names.specs.Names.{default_space}
use Rattle.actor_names.specs.declared.member.Member.{Member}
use Rattle.place_table.specs.declared.host.HostInfo.{HostInfo}
use Rattle.place_table.specs.declared.ack_stage.AckStage.TheVariants as stages
use Rattle.member_roster.specs.Members.{Joined, any_pending, targeted, greatest_boot, heard_at, is_here, is_pending, of_node, without_node}
use Rattle.round_core.specs.declared.event.PlaceEvent.{PlaceEvent}
use Rattle.round_core.specs.declared.event.PlaceEvent.TheVariants as events
use Rattle.round_core.specs.declared.event.PlaceReply.TheVariants as replies
use Rattle.round_core.specs.declared.phase.RoundPhase.{RoundPhase}
use Rattle.round_core.specs.declared.phase.RoundPhase.TheVariants.{Quiet, Running}
use Rattle.round_core.specs.Room.{RoomState, new_room, last_version, next_stage, advance_round, may_start, start_round, advance_fully, settle_round, phase_reply, reply_for, Conclusion, Stays, Says, Tells, Membership, unchanged, not_member, with_member, with_joined, is_full, join_node, register, remove_member, apply_membership, conclude, room_step, awoken, room_restarted}
use Rattle.round_core.specs.Runs.{RunEvent, Steps as Stepped, Restarts}
use Rattle.placement_core.specs.Placement.{SpaceRoom, PlacementState, new_placement, most_spaces, room_at, room_of, put_room, each_room, ticked, restarted, in_room, joins_room, refused, room_stepped, placement_step, placement_restarted}
use Rattle.placement_core.specs.Runs.{run_state, state_after}
use Rattle.placement_node.specs.Node.{Steps, Works}
use Rattle.placement_node.specs.Replies.{event_space}
use Rattle.placement_node.specs.Runs.{reached, with_step, with_restart, version_told, VersionsAbove}
use Rattle.placement_node.proofs.Pushes.{state_push}
use Rattle.placement_node.proofs.Rising.{at_put}
use Rattle.placement_node.proofs.Told.{version_in, IsSilent, silent, no_version, reply_told, told_done, tells_last, run_rises, state_append}

-- The room's next version is this one or above; while a round is running it is above, since the round took one.
record Newer (n : ℕ) (s : RoomState) : Type 0 where
  low : n ≤ s.next_version
  running : (s.phase ≡ Quiet) ⊎ (n < s.next_version)

-- ---- rounds

newer_next : (n : ℕ) (s : RoomState) (phase : RoundPhase) → s.phase ≡ phase → Newer n s → Newer n (next_stage s phase)
newer_next n s Quiet is newer = newer
newer_next n s (Running stages.Unlock) is newer = record { low = newer.low; running = inl refl }
newer_next n s (Running stages.Lock) is newer = record { low = newer.low; running = inr (taken newer.running) }
  where
    taken : (s.phase ≡ Quiet) ⊎ (n < s.next_version) → n < s.next_version
    taken (inl quiet) = absurd (let no : Running stages.Lock ≡ Quiet = sym is ∙ quiet in cc)
    taken (inr less) = less
newer_next n s (Running stages.Update) is newer = record { low = newer.low; running = inr (taken newer.running) }
  where
    taken : (s.phase ≡ Quiet) ⊎ (n < s.next_version) → n < s.next_version
    taken (inl quiet) = absurd (let no : Running stages.Update ≡ Quiet = sym is ∙ quiet in cc)
    taken (inr less) = less

newer_advance : (n : ℕ) (s : RoomState) → Newer n s → Newer n (advance_round s)
newer_advance n s newer = go (any_pending s.members)
  where
    go : (b : Bool) → Newer n (cond b s (next_stage s s.phase))
    go true = newer
    go false = newer_next n s s.phase refl newer

newer_start : (n : ℕ) (s : RoomState) → Newer n s → Newer n (start_round s)
newer_start n s newer =
    cond_both (may_start s) (record s { next_version = s.next_version + 1; members = map targeted s.members; phase = Running stages.Lock; dirty = false }) s (Newer n)
    (λ e. let low = newer.low in record { low = omega arith; running = inr (omega arith) })
    (λ e. newer)

newer_fully : (n : ℕ) (s : RoomState) → Newer n s → Newer n (advance_fully s)
newer_fully n s newer = newer_advance n (advance_round (advance_round s)) (newer_advance n (advance_round s) (newer_advance n s newer))

newer_settle : (n : ℕ) (s : RoomState) → Newer n s → Newer n (settle_round s)
newer_settle n s newer = newer_fully n (start_round (advance_fully s)) (newer_start n (advance_fully s) (newer_fully n s newer))

-- ---- a change of the members keeps round and version

abbrev KeepsRound : RoomState → Membership → Type 0
KeepsRound s change = (change.state.phase ≡ s.phase) × (change.state.next_version ≡ s.next_version)

here_or_not : (s : RoomState) (m : Member) (f : Joined → Joined) → KeepsRound s (cond (is_here s.members m) (with_member s m f) (not_member s m))
here_or_not s m f = cond_both (is_here s.members m) (with_member s m f) (not_member s m) (KeepsRound s) (λ e. (refl, refl)) (λ e. (refl, refl))

free_keeps : (s : RoomState) (host : HostInfo) (now : ℕ) (o : Option Joined) → KeepsRound s (join_node s host now o)
free_keeps s host now (Some j) = (refl, refl)
free_keeps s host now None = cond_both (is_full s host.member.node) (unchanged s (replies.Full (length s.members) (length s.boots))) (record { state = with_joined s host now; joined = Some host; removed = []; conclusion = Tells host.member }) (KeepsRound s) (λ e. (refl, refl)) (λ e. (refl, refl))

register_keeps : (s : RoomState) (host : HostInfo) (now : ℕ) → KeepsRound s (register s host now)
register_keeps s host now = go (is_here s.members host.member) (nat_le host.member.boot (greatest_boot s.boots host.member.node)) (of_node s.members host.member.node)
  where
    go : (a b : Bool) (o : Option Joined) → KeepsRound s (cond a (with_member s host.member (heard_at now)) (cond b (unchanged s (replies.StaleBoot (greatest_boot s.boots host.member.node))) (join_node s host now o)))
    go true b o = (refl, refl)
    go false true o = (refl, refl)
    go false false o = free_keeps s host now o

removed_keeps : (s : RoomState) (m : Member) → KeepsRound s (remove_member s m)
removed_keeps s m = go (is_here s.members m)
  where
    go : (b : Bool) → KeepsRound s (cond b (record { state = record s { members = without_node s.members m.node; dirty = true }; joined = None; removed = m ∷ []; conclusion = Says replies.Gone }) (not_member s m))
    go true = (refl, refl)
    go false = (refl, refl)

keeps_round : (s : RoomState) (event : PlaceEvent) (now : ℕ) → KeepsRound s (apply_membership s event now)
keeps_round s (events.Register host) now = register_keeps s host now
keeps_round s (events.Beat m) now = here_or_not s m _
keeps_round s (events.Ack m stage version) now = here_or_not s m _
keeps_round s (events.Leave m) now = removed_keeps s m
keeps_round s (events.Lost m) now = removed_keeps s m
keeps_round s events.Tick now = (refl, refl)
keeps_round s events.Look now = (refl, refl)

newer_change : (n : ℕ) (s : RoomState) (change : Membership) → KeepsRound s change → Newer n s → Newer n change.state
newer_change n s change keeps newer = record { low = omega (arith, newer.low, keeps.1); running = go newer.running }
  where
    go : (s.phase ≡ Quiet) ⊎ (n < s.next_version) → (change.state.phase ≡ Quiet) ⊎ (n < change.state.next_version)
    go (inl quiet) = inl (keeps.0 ∙ quiet)
    go (inr less) = inr (omega (arith, less, keeps.1))

newer_conclude : (n : ℕ) (s : RoomState) (c : Conclusion) → Newer n s → Newer n (conclude s c).state
newer_conclude n s (Stays reply) newer = newer
newer_conclude n s (Says reply) newer = newer_settle n s newer
newer_conclude n s (Tells m) newer = newer_settle n s newer

newer_step : (n : ℕ) (s : RoomState) (event : PlaceEvent) (now : ℕ) → Newer n s → Newer n (room_step s event now).state
newer_step n s event now newer =
    let change = apply_membership s event now in
    newer_conclude n change.state change.conclusion (newer_change n s change (keeps_round s event now) newer)

newer_restart : (n : ℕ) (s : RoomState) (now : ℕ) → n ≤ s.next_version → Newer n (room_restarted s now)
newer_restart n s now low =
    cond_both (s.next_version == 1) new_room (settle_round (awoken s now)) (Newer n)
    (λ e. let one = eqb-true s.next_version 1 e in record { low = omega arith; running = inl refl })
    (λ e. newer_settle n (awoken s now) (record { low = low; running = inl refl }))

-- ---- what is told in such a room

told_running : (n version : ℕ) (s : RoomState) (m : Member) → Newer n s → version_in (reply_for s m) ≡ Some version → n ≤ version
told_running n version s m newer = go (is_pending s.members m) s.phase newer.running
  where
    took : n < s.next_version → Some (last_version s) ≡ Some version → n ≤ version
    took less is = let e : last_version s ≡ version = cc in omega (arith, less, e)

    go : (b : Bool) (phase : RoundPhase) → (phase ≡ Quiet) ⊎ (n < s.next_version) → version_in (cond b (phase_reply phase (last_version s)) replies.Idle) ≡ Some version → n ≤ version
    go false phase running is = no_version version (n ≤ version) is
    go true Quiet running is = no_version version (n ≤ version) is
    go true (Running stage) (inl quiet) is = absurd (let no : Running stage ≡ Quiet = quiet in cc)
    go true (Running stages.Lock) (inr less) is = took less is
    go true (Running stages.Update) (inr less) is = took less is
    go true (Running stages.Unlock) (inr less) is = took less is

told_concluded : (n version : ℕ) (s : RoomState) (c : Conclusion) → Newer n s → IsSilent c → version_in (conclude s c).reply ≡ Some version → n ≤ version
told_concluded n version s (Stays reply) newer quiet is = no_version version (n ≤ version) (sym quiet ∙ is)
told_concluded n version s (Says reply) newer quiet is = no_version version (n ≤ version) (sym quiet ∙ is)
told_concluded n version s (Tells m) newer quiet is = told_running n version (settle_round s) m (newer_settle n s newer) is

told_stepped : (n version : ℕ) (s : RoomState) (event : PlaceEvent) (now : ℕ) → Newer n s → version_in (room_step s event now).reply ≡ Some version → n ≤ version
told_stepped n version s event now newer is =
    let change = apply_membership s event now in
    told_concluded n version change.state change.conclusion (newer_change n s change (keeps_round s event now) newer) (silent s event now) is

-- ---- the rooms of a placement

abbrev room_in : Option RoomState → RoomState
room_in o = unwrap_or o new_room

module _ (n : ℕ) where
  newer_put : (rs : List SpaceRoom) (space : List ℕ) (room : RoomState) (q : List ℕ) → (Newer n (room_in (room_at rs space)) → Newer n room) → Newer n (room_in (room_at rs q)) → Newer n (room_in (room_at (put_room rs space room) q))
  newer_put rs space room q stays newer = subst (λ (o : Option RoomState). Newer n (room_in o)) (sym (at_put rs space room q)) (go (bytes_eq q space) refl)
    where
      go : (b : Bool) → bytes_eq q space ≡ b → Newer n (room_in (cond b (Some room) (room_at rs q)))
      go false is = newer
      go true is = stays (subst (λ (p : List ℕ). Newer n (room_in (room_at rs p))) ((bytes_eq-Decides q space).0 is) newer)

  newer_in : (s : PlacementState) (space : List ℕ) (event : PlaceEvent) (now : ℕ) (o : Option RoomState) (q : List ℕ) → room_at s.rooms space ≡ o → Newer n (room_in (room_at s.rooms q)) → Newer n (room_in (room_at (in_room s space event now o).state.rooms q))
  newer_in s space event now None q at newer = newer
  newer_in s space event now (Some room) q at newer =
      newer_put s.rooms space (room_step room event now).state q (λ here. newer_step n room event now (subst (λ (o : Option RoomState). Newer n (room_in o)) at here)) newer

  newer_joins : (s : PlacementState) (host : HostInfo) (now : ℕ) (o : Option RoomState) (q : List ℕ) → room_at s.rooms host.member.space ≡ o → Newer n (room_in (room_at s.rooms q)) → Newer n (room_in (room_at (joins_room s host now o).state.rooms q))
  newer_joins s host now (Some room) q at newer = newer_in s host.member.space (events.Register host) now (Some room) q at newer
  newer_joins s host now None q at newer = go (nat_le most_spaces (length s.rooms)) (host.member.boot == 0)
    where
      go : (full zero : Bool) → Newer n (room_in (room_at (cond full (refused s (replies.SpacesFull (length s.rooms))) (cond zero (refused s (replies.StaleBoot 0)) (room_stepped s host.member.space (room_step new_room (events.Register host) now)))).state.rooms q))
      go true zero = newer
      go false true = newer
      go false false = newer_put s.rooms host.member.space (room_step new_room (events.Register host) now).state q (λ here. newer_step n new_room (events.Register host) now (subst (λ (o : Option RoomState). Newer n (room_in o)) at here)) newer

  newer_each : (g : RoomState → RoomState) → ((room : RoomState) → Newer n room → Newer n (g room)) → (rs : List SpaceRoom) (q : List ℕ) → Newer n (room_in (room_at rs q)) → Newer n (room_in (room_at (map (each_room g) rs) q))
  newer_each g stays [] q newer = newer
  newer_each g stays (r ∷ rs) q newer = go (bytes_eq q r.space) newer (newer_each g stays rs q)
    where
      go : (b : Bool) → Newer n (room_in (cond b (Some r.room) (room_at rs q))) → (Newer n (room_in (room_at rs q)) → Newer n (room_in (room_at (map (each_room g) rs) q))) → Newer n (room_in (cond b (Some (g r.room)) (room_at (map (each_room g) rs) q)))
      go true here ih = stays r.room here
      go false here ih = ih here

  newer_event : (s : PlacementState) (e : RunEvent) (q : List ℕ) → Newer n (room_in (room_at s.rooms q)) → Newer n (room_in (room_at (state_after s e).rooms q))
  newer_event s (Stepped (events.Register host) now) q newer = newer_joins s host now (room_at s.rooms host.member.space) q refl newer
  newer_event s (Stepped (events.Beat m) now) q newer = newer_in s m.space (events.Beat m) now (room_at s.rooms m.space) q refl newer
  newer_event s (Stepped (events.Ack m stage version) now) q newer = newer_in s m.space (events.Ack m stage version) now (room_at s.rooms m.space) q refl newer
  newer_event s (Stepped (events.Leave m) now) q newer = newer_in s m.space (events.Leave m) now (room_at s.rooms m.space) q refl newer
  newer_event s (Stepped (events.Lost m) now) q newer = newer_in s m.space (events.Lost m) now (room_at s.rooms m.space) q refl newer
  newer_event s (Stepped events.Tick now) q newer = newer_each (ticked now) (λ room. newer_step n room events.Tick now) s.rooms q newer
  newer_event s (Stepped events.Look now) q newer = newer
  newer_event s (Restarts now) q newer = newer_each (restarted now) (λ room here. newer_restart n room now here.low) s.rooms q newer

  newer_run : (s : PlacementState) (run : List RunEvent) (q : List ℕ) → Newer n (room_in (room_at s.rooms q)) → Newer n (room_in (room_at (run_state s run).rooms q))
  newer_run s [] q newer = newer
  newer_run s (e ∷ run) q newer = newer_run (state_after s e) run q (newer_event s e q newer)

  -- what is told in the room of a space
  told_in : (s : PlacementState) (space : List ℕ) (event : PlaceEvent) (now version : ℕ) (o : Option RoomState) → room_at s.rooms space ≡ o → Newer n (room_in (room_at s.rooms space)) → version_in (in_room s space event now o).reply ≡ Some version → n ≤ version
  told_in s space event now version None at newer is = no_version version (n ≤ version) is
  told_in s space event now version (Some room) at newer is = told_stepped n version room event now (subst (λ (o : Option RoomState). Newer n (room_in o)) at newer) is

  told_joining : (s : PlacementState) (host : HostInfo) (now version : ℕ) (o : Option RoomState) → room_at s.rooms host.member.space ≡ o → Newer n (room_in (room_at s.rooms host.member.space)) → version_in (joins_room s host now o).reply ≡ Some version → n ≤ version
  told_joining s host now version (Some room) at newer is = told_in s host.member.space (events.Register host) now version (Some room) at newer is
  told_joining s host now version None at newer is = go (nat_le most_spaces (length s.rooms)) (host.member.boot == 0) is
    where
      go : (full zero : Bool) → version_in (cond full (refused s (replies.SpacesFull (length s.rooms))) (cond zero (refused s (replies.StaleBoot 0)) (room_stepped s host.member.space (room_step new_room (events.Register host) now)))).reply ≡ Some version → n ≤ version
      go true zero told = no_version version (n ≤ version) told
      go false true told = no_version version (n ≤ version) told
      go false false told = told_stepped n version new_room (events.Register host) now (subst (λ (o : Option RoomState). Newer n (room_in o)) at newer) told

  told_newer : (s : PlacementState) (event : PlaceEvent) (now version : ℕ) → Newer n (room_in (room_at s.rooms (event_space event))) → version_in (placement_step s event now).reply ≡ Some version → n ≤ version
  told_newer s (events.Register host) now version newer is = told_joining s host now version (room_at s.rooms host.member.space) refl newer is
  told_newer s (events.Beat m) now version newer is = told_in s m.space (events.Beat m) now version (room_at s.rooms m.space) refl newer is
  told_newer s (events.Ack m stage at) now version newer is = told_in s m.space (events.Ack m stage at) now version (room_at s.rooms m.space) refl newer is
  told_newer s (events.Leave m) now version newer is = told_in s m.space (events.Leave m) now version (room_at s.rooms m.space) refl newer is
  told_newer s (events.Lost m) now version newer is = told_in s m.space (events.Lost m) now version (room_at s.rooms m.space) refl newer is
  told_newer s events.Tick now version newer is = no_version version (n ≤ version) is
  told_newer s events.Look now version newer is = no_version version (n ≤ version) is

-- every room has a next version of 1 or more
some_version : (run : List RunEvent) (q : List ℕ) → 1 ≤ (room_of (reached run) q).next_version
some_version run q = let low : 1 ≤ (room_of new_placement q).next_version = first (bytes_eq q default_space) in let rises = run_rises new_placement run q in omega (arith, low, rises)
  where
    first : (b : Bool) → 1 ≤ (room_in (cond b (Some new_room) None)).next_version
    first true = omega arith
    first false = omega arith

-- the rooms just after a restart
restart_newer : (now : ℕ) (rs : List SpaceRoom) (q : List ℕ) → Newer (room_in (room_at rs q)).next_version (room_in (room_at (map (each_room (restarted now)) rs) q))
restart_newer now [] q = record { low = omega arith; running = inl refl }
restart_newer now (r ∷ rs) q = go (bytes_eq q r.space) (restart_newer now rs q)
  where
    go : (b : Bool) → Newer (room_in (room_at rs q)).next_version (room_in (room_at (map (each_room (restarted now)) rs) q)) → Newer (room_in (cond b (Some r.room) (room_at rs q))).next_version (room_in (cond b (Some (restarted now r.room)) (room_at (map (each_room (restarted now)) rs) q)))
    go true ih = newer_restart r.room.next_version r.room now (omega arith)
    go false ih = ih

pub versions_above : VersionsAbove
versions_above run between more now first later before after a b c d v w at_a moves_a told_a at_c moves_c told_c same =
    let q = event_space first.event in
    let till = with_step run first ++ between in
    let n = (room_of (reached till) q).next_version in
    let some = some_version till q in
    let v_is : v ≡ last_version (room_of (reached (with_step run first)) q) = tells_last run first before a b v at_a moves_a told_a in
    let rises : (room_of (reached (with_step run first)) q).next_version ≤ n = subst (λ (s : PlacementState). (room_of (reached (with_step run first)) q).next_version ≤ (room_of s q).next_version) (sym (state_append new_placement (with_step run first) between)) (run_rises (reached (with_step run first)) between q) in
    let restarted_is : reached (with_restart till now) ≡ placement_restarted (reached till) now = state_push new_placement till (Restarts now) in
    let fresh : Newer n (room_of (reached (with_restart till now)) q) = subst (λ (s : PlacementState). Newer n (room_of s q)) (sym restarted_is) (restart_newer now (reached till).rooms q) in
    let newer : Newer n (room_of c.state q) =
    subst (λ (s : PlacementState). Newer n (room_of s q)) (sym (at_c.state ∙ state_append new_placement (with_restart till now) more)) (newer_run n (reached (with_restart till now)) more q fresh) in
    let steps : Steps c later after d = subst (Works c later after d) (told_done after w told_c) (moves_c.works at_c.works) in
    let step = placement_step c.state later.event later.now in
    let told : version_in step.reply ≡ Some w = reply_told step.state (event_space later.event) step.reply w (ap version_told (sym steps.replies) ∙ told_c) in
    let above : n ≤ w = told_newer n c.state later.event later.now w (subst (λ (p : List ℕ). Newer n (room_of c.state p)) (sym same) newer) told in
    omega (arith, v_is, rises, some, above)
