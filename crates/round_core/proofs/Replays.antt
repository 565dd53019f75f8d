-- The records of a run lead to what a restart keeps of its last state.
use Rattle.std.proofs.Common.{◌≡◌, ℕ, ◌+◌, ◌<◌, ◌≤◌, ◌^◌, Bool, true, false, cond, List, [], ◌∷◌, length, map, Option, None, Some, refl, sym, ap, ◌∙◌, subst, arith}
use Rattle.std.specs.Prelude.{◌==◌, is_some, nat_lt, nat_le, bytes_eq}
use Rattle.std.specs.declared.result.Result.TheVariants.{Ok, Err}
use Rattle.std.proofs.lemmas.Bool.{or_parts, leb-false, lt-ltb, ltb-true, eq-eqb, eqb-true, cond_both}
use Rattle.actor_names.specs.declared.member.Member.{Member}
use Rattle.place_table.specs.declared.host.HostInfo.{HostInfo}
use Rattle.round_core.specs.declared.event.PlaceEvent.{PlaceEvent}
use Rattle.round_core.specs.declared.event.PlaceEvent.TheVariants as events
use Rattle.round_core.specs.declared.event.PlaceReply.TheVariants as replies
use Rattle.round_core.specs.declared.restore.RestoreError.{RestoreError}
use Rattle.round_core.specs.declared.restore.RestoreError.TheVariants.{BadRecord, OutOfMemory}
use Rattle.member_roster.specs.Members.{Joined, joined_node, hosts_of, of_node, is_here, is_late, greatest_boot, put_boot, without_node, late_of, heard_of, heard_at, new_joined, restarted_at, removes_all}
use Rattle.round_core.specs.Room.{RoomState, Membership, new_room, version_limit, settle_round, conclude, unchanged, not_member, with_member, with_joined, join_node, is_full, ack_change, remove_member, drop_late, apply_membership, room_restarted, awoken, SameDurableState}
use Rattle.round_core.specs.Records.{RecordOf, may_join, after_removal, after_record, after_records, room_restored, IsBadAt}
use Rattle.round_core.specs.Runs.{RunEvent, Steps, Restarts, state_after, record_after, and_then, run_state, run_records}
use Rattle.round_core.proofs.Durable.{Keeps, hosts_with, hosts_length, conclude_keeps, ack_same, none_parts, recorded_durable}
use Rattle.round_core.specs.Reached.{has_host, Distinct, IsReached}
use Rattle.round_core.proofs.Hosts.{same_bytes, flip_bytes, of_node-host, put_same, without_same, here_same}
use Rattle.round_core.proofs.Reached.{new_reached, event_reached, step_rises, restart_keeps, restart_rises}
use Rattle.round_core.proofs.Versions.{Rises}

-- ---- members that are dropped are removed one by one

-- no member is of this node
abbrev AllOff : List ℕ → List Member → Type 0
AllOff node [] = Unit {0}
AllOff node (m ∷ ms) = (bytes_eq m.node node ≡ false) × AllOff node ms

late_off : (js : List Joined) (now : ℕ) (node : List ℕ) → has_host (hosts_of js) node ≡ false → AllOff node (late_of js now)
late_off [] now node h = tt
late_off (j ∷ js) now node h =
    let p = or_parts (bytes_eq node (joined_node j)) (has_host (hosts_of js) node) h in
    go (is_late now j) (flip_bytes node (joined_node j) p.0) (late_off js now node p.1)
  where
    go : (b : Bool) → bytes_eq (joined_node j) node ≡ false → AllOff node (late_of js now) → AllOff node (cond b (j.host.member ∷ late_of js now) (late_of js now))
    go true e ih = (e, ih)
    go false e ih = ih

-- members of other nodes are removed after the first one, which stays
removes_behind : (k : Joined) (ms : List Member) (ks ls : List Joined) → AllOff (joined_node k) ms → removes_all ks ms ≡ Some ls → removes_all (k ∷ ks) ms ≡ Some (k ∷ ls)
removes_behind k [] ks ls o e = let f : ks ≡ ls = cc in rw f refl
removes_behind k (m ∷ ms) ks ls o e = rw o.0 (go (is_here ks m) (λ f. removes_behind k ms (without_node ks m.node) ls o.1 f) e)
  where
    go : (b : Bool) → (removes_all (without_node ks m.node) ms ≡ Some ls → removes_all (k ∷ without_node ks m.node) ms ≡ Some (k ∷ ls)) → cond b (removes_all (without_node ks m.node) ms) None ≡ Some ls → cond b (removes_all (k ∷ without_node ks m.node) ms) None ≡ Some (k ∷ ls)
    go true ih f = ih f
    go false ih f = absurd (cc)

-- what remains after the removals has the same hosts as `js`
record IsRemoved (js ks : List Joined) (ms : List Member) : Type 0 where
  rest : List Joined
  removed : removes_all ks ms ≡ Some rest
  hosts : hosts_of rest ≡ hosts_of js

first_host : (h k : HostInfo) (hs ks : List HostInfo) → h ∷ hs ≡ k ∷ ks → (h ≡ k) × (hs ≡ ks)
first_host h k hs ks e = (cc, cc)

late_removed : (js ks : List Joined) (now : ℕ) → hosts_of ks ≡ hosts_of js → Distinct (hosts_of js) → IsRemoved (heard_of js now) ks (late_of js now)
late_removed [] [] now e d = record { rest = []; removed = refl; hosts = refl }
late_removed [] (k ∷ ks) now e d = absurd (cc)
late_removed (j ∷ js) [] now e d = absurd (cc)
late_removed (j ∷ js) (k ∷ ks) now e d =
    let p = first_host k.host j.host (hosts_of ks) (hosts_of js) e in
    go (is_late now j) p.0 (late_removed js ks now p.1 d.1)
  where
    go : (b : Bool) → k.host ≡ j.host → IsRemoved (heard_of js now) ks (late_of js now) → IsRemoved (cond b (heard_of js now) (j ∷ heard_of js now)) (k ∷ ks) (cond b (j.host.member ∷ late_of js now) (late_of js now))
    go true h ih =
        let same : bytes_eq j.host.member.node (joined_node k) ≡ true = subst (λ (x : HostInfo). bytes_eq j.host.member.node x.member.node ≡ true) (sym h) (same_bytes j.host.member.node) in
        let space : bytes_eq j.host.member.space k.host.member.space ≡ true = subst (λ (x : HostInfo). bytes_eq j.host.member.space x.member.space ≡ true) (sym h) (same_bytes j.host.member.space) in
        let boot : (j.host.member.boot == k.host.member.boot) ≡ true = eq-eqb j.host.member.boot k.host.member.boot (ap (λ (x : HostInfo). x.member.boot) (sym h)) in
        record { rest = ih.rest; removed = rw (same, space, same, boot) ih.removed; hosts = ih.hosts }
    go false h ih =
        record {
          rest = k ∷ ih.rest;
          removed = removes_behind k (late_of js now) ks ih.rest (subst (λ (x : HostInfo). AllOff x.member.node (late_of js now)) (sym h) (late_off js now j.host.member.node d.0)) ih.removed;
          hosts = ap (λ (x : HostInfo). x ∷ hosts_of ih.rest) h ∙ ap (λ (hs : List HostInfo). j.host ∷ hs) ih.hosts;
        }

-- ---- a change of the members, replayed from its record

-- from a state of which a restart keeps the same, the removals and the join lead to the same boots and hosts
record Replays (t : RoomState) (m : Membership) : Type 0 where
  after : RoomState
  is : after_removal t m.joined (removes_all t.members m.removed) ≡ Some after
  boots : after.boots ≡ m.state.boots
  hosts : hosts_of after.members ≡ hosts_of m.state.members

module _ (s t : RoomState) (d : SameDurableState s t) where
  unchanged_replays : (m : Membership) → m.joined ≡ None → m.removed ≡ [] → m.state.boots ≡ s.boots → hosts_of m.state.members ≡ hosts_of s.members → Replays t m
  unchanged_replays m j r b h = record { after = t; is = rw (j, r) refl; boots = d.boots ∙ sym b; hosts = d.members ∙ sym h }

  full_same : (node : List ℕ) → is_full t node ≡ is_full s node
  full_same node =
      let l : length t.members ≡ length s.members = sym (hosts_length t.members) ∙ ap (λ (hs : List HostInfo). length hs) d.members ∙ hosts_length s.members in
      rw (l, d.boots) refl

  free_same : (node : List ℕ) → is_some (of_node t.members node) ≡ is_some (of_node s.members node)
  free_same node =
      of_node-host t.members node ∙ ap (λ (hs : List HostInfo). has_host hs node) d.members ∙ sym (of_node-host s.members node)

  may_join-true : (host : HostInfo) → is_some (of_node s.members host.member.node) ≡ false → greatest_boot s.boots host.member.node < host.member.boot → is_full s host.member.node ≡ false → may_join t host ≡ true
  may_join-true host free higher places =
      rw (free_same host.member.node, free, full_same host.member.node, places, d.boots, lt-ltb _ _ higher) refl

  joined_replays : (host : HostInfo) (now : ℕ) (m : Membership) → m ≡ record { state = with_joined s host now; joined = Some host; removed = []; conclusion = m.conclusion } → may_join t host ≡ true → Replays t m
  joined_replays host now m e j =
      record {
        after = with_joined t host 0;
        is = rw e (rw j refl);
        boots = rw e (ap (λ ks. put_boot ks host.member) d.boots);
        hosts = rw e (put_same t.members s.members (new_joined host 0) (new_joined host now) d.members refl);
      }

  node_replays : (host : HostInfo) (now : ℕ) → greatest_boot s.boots host.member.node < host.member.boot → (o : Option Joined) → of_node s.members host.member.node ≡ o → Replays t (join_node s host now o)
  node_replays host now higher (Some j) e = unchanged_replays _ refl refl refl refl
  node_replays host now higher None e =
      cond_both (is_full s host.member.node) _ _ (λ (m : Membership). Replays t m)
      (λ _. unchanged_replays _ refl refl refl refl)
      (λ f. joined_replays host now _ refl (may_join-true host (ap (λ (o : Option Joined). is_some o) e) higher f))

  heard_replays : (m : Member) (f : Joined → Joined) (b : Bool) → ((j : Joined) → (f j).host ≡ j.host) → Replays t (cond b (with_member s m f) (not_member s m))
  heard_replays m f true same = unchanged_replays _ refl refl refl (hosts_with s.members m.node f same)
  heard_replays m f false same = unchanged_replays _ refl refl refl refl

  remove_replays : (m : Member) → Replays t (remove_member s m)
  remove_replays m =
      cond_both (is_here s.members m) _ _ (λ (x : Membership). Replays t x)
      (λ e.
      let h : is_here t.members m ≡ true = here_same t.members s.members m d.members ∙ e in
      record { after = record t { members = without_node t.members m.node }; is = rw h refl; boots = d.boots; hosts = without_same t.members s.members m.node d.members })
      (λ _. unchanged_replays _ refl refl refl refl)

  late_replays : (now : ℕ) → Distinct (hosts_of s.members) → Replays t (drop_late s now)
  late_replays now f =
      let r = late_removed s.members t.members now d.members f in
      record { after = record t { members = r.rest }; is = rw r.removed refl; boots = d.boots; hosts = r.hosts }

  replays : (event : PlaceEvent) (now : ℕ) → Distinct (hosts_of s.members) → Replays t (apply_membership s event now)
  replays (events.Register host) now f =
      cond_both (is_here s.members host.member) _ _ (λ (m : Membership). Replays t m)
      (λ _. heard_replays host.member (heard_at now) true (λ j. refl))
      (λ _. cond_both (nat_le host.member.boot (greatest_boot s.boots host.member.node)) _ _ (λ (m : Membership). Replays t m)
      (λ _. unchanged_replays _ refl refl refl refl)
      (λ e. node_replays host now (leb-false _ _ e) (of_node s.members host.member.node) refl))
  replays (events.Beat m) now f = heard_replays m (heard_at now) _ (λ j. refl)
  replays (events.Ack m stage version) now f = heard_replays m (ack_change s stage version now) _ (ack_same now _)
  replays (events.Leave m) now f = remove_replays m
  replays (events.Lost m) now f = remove_replays m
  replays events.Tick now f = late_replays now f
  replays events.Look now f = unchanged_replays _ refl refl refl refl

  -- the record of the change, at the version that the step leaves
  recorded : (m : Membership) (u : RoomState) (r : Replays t m) → Keeps m.state u → Rises s u → s.next_version ≤ 2 ^ 62 → (v : RoomState) × (after_record t (record { joined = m.joined; removed = m.removed; next_version = u.next_version }) ≡ Some v) × SameDurableState u v
  recorded m u r k rise within =
      let low : nat_lt u.next_version t.next_version ≡ false = at_most u.next_version t.next_version (let a = rise.low in let b = d.next_version in omega arith) in
      let high : nat_lt version_limit u.next_version ≡ false = at_most version_limit u.next_version (rise.high within) in (
        record r.after { next_version = u.next_version },
        rw (low, high, r.is) refl,
        record { next_version = refl; boots = r.boots ∙ sym k.boots; members = r.hosts ∙ sym k.hosts },
      )
    where
      at_most : (a b : ℕ) → b ≤ a → nat_lt a b ≡ false
      at_most a b l = go (nat_lt a b) refl
        where
          go : (x : Bool) → nat_lt a b ≡ x → nat_lt a b ≡ false
          go true e = let h : a < b = ltb-true a b e in absurd (omega arith)
          go false e = e

-- ---- an event of a run, replayed from its record

-- if there is a record, it is that of the change
record_is : (b : Bool) (x r : RecordOf) → cond b (Some x) None ≡ Some r → r ≡ x
record_is true x r e = cc
record_is false x r e = absurd (cc)

pub same_on : (s t u : RoomState) → SameDurableState s t → SameDurableState s u → SameDurableState u t
same_on s t u a b =
    record { next_version = a.next_version ∙ sym b.next_version; boots = a.boots ∙ sym b.boots; members = a.members ∙ sym b.members }

-- if there is no record, nothing that a restart keeps has changed
pub event_kept : (s : RoomState) (e : RunEvent) → IsReached s → record_after s e ≡ None → SameDurableState s (state_after s e)
event_kept s (Steps event now) r n = (recorded_durable s event now).0 n
event_kept s (Restarts now) r n =
    let u = room_restarted s now in
    let k = restart_keeps s now r.kept in
    let p = none_parts (record { joined = None; removed = []; next_version = u.next_version }) false false (u.next_version == s.next_version) n in
    record { next_version = eqb-true u.next_version s.next_version p.2; boots = k.boots; members = k.hosts }

-- the state after the record is the same as after the event in what a restart keeps
pub record Follows (t u : RoomState) (r : RecordOf) : Type 0 where
  pub after : RoomState
  pub is : after_record t r ≡ Some after
  pub same : SameDurableState u after

pub event_replayed : (s t : RoomState) (e : RunEvent) (r : RecordOf) → IsReached s → SameDurableState s t → record_after s e ≡ Some r → Follows t (state_after s e) r
event_replayed s t (Steps event now) r reached d e =
    let m = apply_membership s event now in
    let u = (conclude m.state m.conclusion).state in
    let is = record_is _ (record { joined = m.joined; removed = m.removed; next_version = u.next_version }) r e in
    let f = recorded s t d m u (replays s t d event now reached.distinct) (conclude_keeps m.state m.conclusion) (step_rises s event now) reached.within in
    record { after = f.0; is = rw is f.1; same = f.2 }
event_replayed s t (Restarts now) r reached d e =
    let u = room_restarted s now in
    let m = unchanged s replies.Looked in
    let is = record_is _ (record { joined = None; removed = []; next_version = u.next_version }) r e in
    let f = recorded s t d m u (unchanged_replays s t d m refl refl refl refl) (restart_keeps s now reached.kept) (restart_rises s now) reached.within in
    record { after = f.0; is = rw is f.1; same = f.2 }

-- ---- a run

record Leads (at : ℕ) (t u : RoomState) (rs : List RecordOf) : Type 0 where
  after : RoomState
  is : after_records at t rs ≡ Ok after
  same : SameDurableState u after

run_replayed : (s t : RoomState) (run : List RunEvent) (at : ℕ) → IsReached s → SameDurableState s t → Leads at t (run_state s run) (run_records s run)
run_replayed s t [] at r d = record { after = t; is = refl; same = d }
run_replayed s t (e ∷ es) at r d =
    go (λ v n h. run_replayed (state_after s e) v es n (event_reached s e r) h) (record_after s e) refl
  where
    go : ((v : RoomState) (n : ℕ) → SameDurableState (state_after s e) v → Leads n v (run_state (state_after s e) es) (run_records (state_after s e) es)) → (o : Option RecordOf) → record_after s e ≡ o → Leads at t (run_state (state_after s e) es) (and_then o (run_records (state_after s e) es))
    go ih None f = ih t at (same_on s t (state_after s e) d (event_kept s e r f))
    go ih (Some x) f =
        let h = event_replayed s t e x r d f in
        let l = ih h.after (at + 1) h.same in
        record { after = l.after; is = rw h.is l.is; same = l.same }

-- ---- the restart

awake_hosts : (js : List Joined) (now : ℕ) → map (restarted_at now) js ≡ map (λ h. new_joined h now) (hosts_of js)
awake_hosts [] now = refl
awake_hosts (j ∷ js) now = ap (λ (xs : List Joined). new_joined j.host now ∷ xs) (awake_hosts js now)

pub restarted_same : (s t : RoomState) (now : ℕ) → SameDurableState s t → room_restarted t now ≡ room_restarted s now
restarted_same s t now d =
    let m : map (restarted_at now) t.members ≡ map (restarted_at now) s.members = awake_hosts t.members now ∙ ap (λ (hs : List HostInfo). map (λ h. new_joined h now) hs) d.members ∙ sym (awake_hosts s.members now) in
    let a : awoken t now ≡ awoken s now = rw (d.next_version, d.boots, m) refl in
    let f : ℕ → RoomState → RoomState = λ n v. cond (n == 1) new_room (settle_round v) in
    ap (λ (n : ℕ). f n (awoken t now)) d.next_version ∙ ap (λ (v : RoomState). f s.next_version v) a

pub run_restored : (run : List RunEvent) (now : ℕ) → room_restored (run_records new_room run) now ≡ Ok (room_restarted (run_state new_room run) now)
run_restored run now =
    let l = run_replayed new_room new_room run 0 new_reached (record { next_version = refl; boots = refl; members = refl }) in
    rw l.is (ap (λ (s : RoomState). Ok s) (restarted_same (run_state new_room run) l.after now l.same))

-- no record of a run is bad
pub run_is_good : (error : RestoreError) (run : List RunEvent) → IsBadAt error (after_records 0 new_room (run_records new_room run)) → error ≡ OutOfMemory
run_is_good (BadRecord index) run b =
    let l = run_replayed new_room new_room run 0 new_reached (record { next_version = refl; boots = refl; members = refl }) in
    let e : after_records 0 new_room (run_records new_room run) ≡ Ok l.after = l.is in
    let f : after_records 0 new_room (run_records new_room run) ≡ Err index = b in
    absurd (cc)
run_is_good OutOfMemory run b = refl

-- the state after the records of a run restarts as the last state of the run does
pub run_restarts : (run : List RunEvent) (now : ℕ) (t : RoomState) → after_records 0 new_room (run_records new_room run) ≡ Ok t → room_restarted t now ≡ room_restarted (run_state new_room run) now
run_restarts run now t e =
    let l = run_replayed new_room new_room run 0 new_reached (record { next_version = refl; boots = refl; members = refl }) in
    let f : after_records 0 new_room (run_records new_room run) ≡ Ok l.after = l.is in
    let same : l.after ≡ t = cc in
    ap (λ (s : RoomState). room_restarted s now) (sym same) ∙ restarted_same (run_state new_room run) l.after now l.same
