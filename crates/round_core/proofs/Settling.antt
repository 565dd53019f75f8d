-- After a step or a restart, rounds have nothing left to do; a refused event changes nothing.
use Rattle.std.proofs.Common.{◌≡◌, ◌⊎◌, inl, inr, ℕ, suc, ◌+◌, ◌≤◌, Bool, true, false, ◌&&◌, cond, List, [], ◌∷◌, map, Option, None, Some, refl, sym, ap, subst, ◌∙◌, arith}
use Rattle.std.specs.Prelude.{nat_lt, nat_le, ◌==◌}
use Rattle.std.proofs.lemmas.Bool.{cond_both}
use Rattle.place_table.specs.declared.host.HostInfo.{HostInfo}
use Rattle.actor_names.specs.declared.member.Member.{Member}
use Rattle.place_table.specs.declared.ack_stage.AckStage.TheVariants as stages
use Rattle.round_core.specs.declared.event.PlaceEvent.{PlaceEvent}
use Rattle.round_core.specs.declared.event.PlaceEvent.TheVariants as events
use Rattle.round_core.specs.declared.event.PlaceReply.{PlaceReply}
use Rattle.round_core.specs.declared.event.PlaceReply.TheVariants as replies
use Rattle.round_core.specs.declared.phase.RoundPhase.{RoundPhase}
use Rattle.round_core.specs.declared.phase.RoundPhase.TheVariants.{Quiet, Running}
use Rattle.member_roster.specs.Members.{Joined, any_pending, targeted, greatest_boot, of_node, is_here, is_pending, heard_at}
use Rattle.round_core.specs.Room.{RoomState, Membership, Conclusion, Stays, Says, Tells, new_room, version_limit, is_quiet, next_stage, advance_round, may_start, start_round, advance_fully, settle_round, reply_for, phase_reply, last_version, apply_membership, with_member, not_member, join_node, remove_member, is_full, ack_change, conclude, room_step, awoken, room_restarted}
use Rattle.round_core.specs.Runs.{RunEvent, Steps, Restarts, state_after, run_state}
use Rattle.round_core.specs.Settled.{IsSettled, IsRefusal}

-- ---- how far a round is from its end

abbrev rank : RoundPhase → ℕ
rank Quiet = 0
rank (Running stages.Unlock) = 1
rank (Running stages.Update) = 2
rank (Running stages.Lock) = 3

-- somebody is pending, or the round has at most n stages to its end
abbrev Nears : ℕ → RoomState → Type 0
Nears n s = (any_pending s.members ≡ true) ⊎ (rank s.phase ≤ n)

next_rank : (n : ℕ) (s : RoomState) (p : RoundPhase) → s.phase ≡ p → rank p ≤ suc n → rank (next_stage s p).phase ≤ n
next_rank n s Quiet e l = rw e (omega arith)
next_rank n s (Running stages.Lock) e l = let h : 3 ≤ suc n = l in let g : 2 ≤ n = omega arith in g
next_rank n s (Running stages.Update) e l = let h : 2 ≤ suc n = l in let g : 1 ≤ n = omega arith in g
next_rank n s (Running stages.Unlock) e l = let g : 0 ≤ n = omega arith in g

advance_nears : (n : ℕ) (s : RoomState) → Nears (suc n) s → Nears n (advance_round s)
advance_nears n s h = go (any_pending s.members) refl h
  where
    go : (b : Bool) → any_pending s.members ≡ b → Nears (suc n) s → Nears n (cond b s (next_stage s s.phase))
    go true e h = inl e
    go false e (inl p) = absurd (cc)
    go false e (inr l) = inr (next_rank n s s.phase refl l)

rank_most : (p : RoundPhase) → rank p ≤ 3
rank_most Quiet = let g : 0 ≤ 3 = omega arith in g
rank_most (Running stages.Lock) = let g : 3 ≤ 3 = omega arith in g
rank_most (Running stages.Update) = let g : 2 ≤ 3 = omega arith in g
rank_most (Running stages.Unlock) = let g : 1 ≤ 3 = omega arith in g

fully_nears : (s : RoomState) → Nears 0 (advance_fully s)
fully_nears s = advance_nears 0 (advance_round (advance_round s)) (advance_nears 1 (advance_round s) (advance_nears 2 s (inr (rank_most s.phase))))

quiet_at : (p : RoundPhase) → rank p ≤ 0 → p ≡ Quiet
quiet_at Quiet l = refl
quiet_at (Running stages.Lock) l = let h : 3 ≤ 0 = l in absurd (omega arith)
quiet_at (Running stages.Update) l = let h : 2 ≤ 0 = l in absurd (omega arith)
quiet_at (Running stages.Unlock) l = let h : 1 ≤ 0 = l in absurd (omega arith)

near_waits : (s : RoomState) → Nears 0 s → advance_round s ≡ s
near_waits s (inl e) = rw e refl
near_waits s (inr l) = go (any_pending s.members)
  where
    go : (b : Bool) → cond b s (next_stage s s.phase) ≡ s
    go true = refl
    go false = rw (quiet_at s.phase l) refl

fully_waits : (s : RoomState) → advance_round (advance_fully s) ≡ advance_fully s
fully_waits s = near_waits (advance_fully s) (fully_nears s)

pub waits_fully : (s : RoomState) → advance_round s ≡ s → advance_fully s ≡ s
waits_fully s e = ap (λ (t : RoomState). advance_round (advance_round t)) e ∙ ap advance_round e ∙ e

-- ---- no round can start

next_dirty : (s : RoomState) (p : RoundPhase) → (next_stage s p).dirty ≡ s.dirty
next_dirty s Quiet = refl
next_dirty s (Running stages.Lock) = refl
next_dirty s (Running stages.Update) = refl
next_dirty s (Running stages.Unlock) = refl

advance_dirty : (s : RoomState) → (advance_round s).dirty ≡ s.dirty
advance_dirty s = cond_both (any_pending s.members) s (next_stage s s.phase) (λ (t : RoomState). t.dirty ≡ s.dirty) (λ _. refl) (λ _. next_dirty s s.phase)

fully_dirty : (s : RoomState) → (advance_fully s).dirty ≡ s.dirty
fully_dirty s =
    let t = advance_round s in
    let u = advance_round t in
    advance_dirty u ∙ advance_dirty t ∙ advance_dirty s

not_dirty : (a b c : Bool) → b ≡ false → a && (b && c) ≡ false
not_dirty true b c e = rw e refl
not_dirty false b c e = refl

abbrev started : RoomState → RoomState
started s = record s { next_version = s.next_version + 1; members = map targeted s.members; phase = Running stages.Lock; dirty = false }

started_idles : (t : RoomState) → advance_round t ≡ t → may_start (advance_fully (start_round t)) ≡ false
started_idles t waits = go (may_start t) refl
  where
    go : (b : Bool) → may_start t ≡ b → may_start (advance_fully (cond b (started t) t)) ≡ false
    go true e = let u = advance_fully (started t) in not_dirty (is_quiet u.phase) u.dirty (nat_lt u.next_version version_limit) (fully_dirty (started t))
    go false e = ap may_start (waits_fully t waits) ∙ e

settle_idles : (s : RoomState) → may_start (settle_round s) ≡ false
settle_idles s = started_idles (advance_fully s) (fully_waits s)

pub settle_settled : (s : RoomState) → IsSettled (settle_round s)
settle_settled s = record { waits = fully_waits (start_round (advance_fully s)); idles = settle_idles s }

-- ---- what a refusal leaves

-- nothing has changed, or it isn't a refusal
abbrev Rests : RoomState → RoomState → Conclusion → Type 0
Rests s t (Stays reply) = t ≡ s
Rests s t (Says reply) = IsRefusal reply → ⊥
Rests s t (Tells m) = Unit {0}

abbrev MayRest : RoomState → Membership → Type 0
MayRest s t = Rests s t.state t.conclusion

node_rests : (s : RoomState) (host : HostInfo) (now : ℕ) (o : Option Joined) → MayRest s (join_node s host now o)
node_rests s host now (Some j) = refl
node_rests s host now None = cond_both (is_full s host.member.node) _ _ (MayRest s) (λ _. refl) (λ _. tt)

remove_rests : (s : RoomState) (m : Member) → MayRest s (remove_member s m)
remove_rests s m = cond_both (is_here s.members m) _ _ (MayRest s) (λ _. λ r. r) (λ _. refl)

heard_rests : (s : RoomState) (m : Member) (f : Joined → Joined) (b : Bool) → MayRest s (cond b (with_member s m f) (not_member s m))
heard_rests s m f true = tt
heard_rests s m f false = refl

rests : (s : RoomState) (event : PlaceEvent) (now : ℕ) → MayRest s (apply_membership s event now)
rests s (events.Register host) now =
    cond_both (is_here s.members host.member) _ _ (MayRest s)
    (λ _. tt)
    (λ _. cond_both (nat_le host.member.boot (greatest_boot s.boots host.member.node)) _ _ (MayRest s)
    (λ _. refl)
    (λ e. node_rests s host now (of_node s.members host.member.node)))
rests s (events.Beat m) now = heard_rests s m (heard_at now) (is_here s.members m)
rests s (events.Ack m stage version) now = heard_rests s m (ack_change s stage version now) (is_here s.members m)
rests s (events.Leave m) now = remove_rests s m
rests s (events.Lost m) now = remove_rests s m
rests s events.Tick now = λ r. r
rests s events.Look now = refl

stage_told : (p : RoundPhase) (v : ℕ) → IsRefusal (phase_reply p v) → ⊥
stage_told Quiet v r = r
stage_told (Running stages.Lock) v r = r
stage_told (Running stages.Update) v r = r
stage_told (Running stages.Unlock) v r = r

told_rests : (s : RoomState) (m : Member) → IsRefusal (reply_for s m) → ⊥
told_rests s m = cond_both (is_pending s.members m) (phase_reply s.phase (last_version s)) replies.Idle (λ (r : PlaceReply). IsRefusal r → ⊥) (λ _. stage_told s.phase (last_version s)) (λ _. λ r. r)

conclude_rests : (s t : RoomState) (k : Conclusion) → Rests s t k → IsRefusal (conclude t k).reply → (conclude t k).state ≡ s
conclude_rests s t (Stays reply) h r = h
conclude_rests s t (Says reply) h r = absurd (h r)
conclude_rests s t (Tells m) h r = absurd (told_rests (settle_round t) m r)

pub refused_stays : (s : RoomState) (event : PlaceEvent) (now : ℕ) → IsRefusal (room_step s event now).reply → (room_step s event now).state ≡ s
refused_stays s event now r = let m = apply_membership s event now in conclude_rests s m.state m.conclusion (rests s event now) r

-- ---- each state that a run reaches

conclude_settled : (s t : RoomState) (k : Conclusion) → IsSettled s → Rests s t k → IsSettled (conclude t k).state
conclude_settled s t (Stays reply) k h = subst IsSettled (sym h) k
conclude_settled s t (Says reply) k h = settle_settled t
conclude_settled s t (Tells m) k h = settle_settled t

pub new_settled : IsSettled new_room
new_settled = record { waits = refl; idles = refl }

pub step_settled : (s : RoomState) (event : PlaceEvent) (now : ℕ) → IsSettled s → IsSettled (room_step s event now).state
step_settled s event now k = let m = apply_membership s event now in conclude_settled s m.state m.conclusion k (rests s event now)

pub restart_settled : (s : RoomState) (now : ℕ) → IsSettled (room_restarted s now)
restart_settled s now = cond_both (s.next_version == 1) new_room (settle_round (awoken s now)) IsSettled (λ _. new_settled) (λ _. settle_settled (awoken s now))

event_settled : (s : RoomState) (e : RunEvent) → IsSettled s → IsSettled (state_after s e)
event_settled s (Steps event now) k = step_settled s event now k
event_settled s (Restarts now) k = restart_settled s now

pub run_settled : (s : RoomState) (run : List RunEvent) → IsSettled s → IsSettled (run_state s run)
run_settled s [] k = k
run_settled s (e ∷ es) k = run_settled (state_after s e) es (event_settled s e k)
