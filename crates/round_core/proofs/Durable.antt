-- The record of a step is absent exactly if nothing that a restart keeps has changed.
use Rattle.std.proofs.Common.{◌≡◌, ℕ, suc, zero, ◌+◌, Bool, true, false, not, ◌||◌, cond, List, [], ◌∷◌, length, map, Option, None, Some, refl, sym, ap, ◌∙◌, subst, arith}
use Rattle.std.specs.Prelude.{◌↔◌, ◌==◌, nat_lt, is_some, bytes_eq}
use Rattle.std.proofs.lemmas.Bool.{lt-ltb, eq-eqb, eqb-true}
use Rattle.actor_names.specs.declared.member.Member.{Member}
use Rattle.place_table.specs.declared.host.HostInfo.{HostInfo}
use Rattle.place_table.specs.declared.ack_stage.AckStage.TheVariants as stages
use Rattle.round_core.specs.declared.event.PlaceEvent.{PlaceEvent}
use Rattle.round_core.specs.declared.event.PlaceEvent.TheVariants as events
use Rattle.round_core.specs.declared.event.PlaceReply.{PlaceReply}
use Rattle.round_core.specs.declared.event.PlaceReply.TheVariants as replies
use Rattle.round_core.specs.declared.phase.RoundPhase.{RoundPhase}
use Rattle.round_core.specs.declared.phase.RoundPhase.TheVariants.{Quiet, Running}
use Rattle.member_roster.specs.Members.{Joined, joined_node, hosts_of, of_node, is_the, is_here, is_before, is_late, with_node, without_node, put_joined, late_of, heard_of, any_pending, entered, targeted, heard_at, acked_at, new_joined}
use Rattle.round_core.specs.Room.{RoomState, Membership, Conclusion, Stays, Says, Tells, SameDurableState, next_stage, advance_round, may_start, start_round, advance_fully, settle_round, conclude, unchanged, not_member, with_member, with_joined, join_node, ack_change, remove_member, drop_late, apply_membership, room_step}
use Rattle.round_core.specs.Records.{RecordOf, changes_record, step_record}
use Rattle.round_core.specs.Views.{RoomView, Gives, GivesInMemory}
use Rattle.round_core.proofs.Giving.{counted}

-- greatest boots and members are the same
pub record Keeps (s t : RoomState) : Type 0 where
  pub boots : t.boots ≡ s.boots
  pub hosts : hosts_of t.members ≡ hosts_of s.members

pub keeps_all : (s : RoomState) → Keeps s s
keeps_all s = record { boots = refl; hosts = refl }

pub keeps_on : (s t u : RoomState) → Keeps s t → Keeps t u → Keeps s u
keeps_on s t u a b = record { boots = b.boots ∙ a.boots; hosts = b.hosts ∙ a.hosts }

-- ---- hosts through a change of marks

pub hosts_map : (f : Joined → Joined) (js : List Joined) → ((j : Joined) → (f j).host ≡ j.host) → hosts_of (map f js) ≡ hosts_of js
hosts_map f [] same = refl
hosts_map f (j ∷ js) same = ap (λ (h : HostInfo). h ∷ hosts_of (map f js)) (same j) ∙ ap (λ (hs : List HostInfo). j.host ∷ hs) (hosts_map f js same)

pub hosts_with : (js : List Joined) (node : List ℕ) (f : Joined → Joined) → ((j : Joined) → (f j).host ≡ j.host) → hosts_of (with_node js node f) ≡ hosts_of js
hosts_with [] node f same = refl
hosts_with (j ∷ js) node f same = go (bytes_eq node (joined_node j)) (hosts_with js node f same)
  where
    go : (b : Bool) → hosts_of (with_node js node f) ≡ hosts_of js → hosts_of (cond b (f j ∷ js) (j ∷ with_node js node f)) ≡ hosts_of (j ∷ js)
    go true ih = ap (λ (h : HostInfo). h ∷ hosts_of js) (same j)
    go false ih = ap (λ (hs : List HostInfo). j.host ∷ hs) ih

pub hosts_length : (js : List Joined) → length (hosts_of js) ≡ length js
hosts_length [] = refl
hosts_length (j ∷ js) = let e = hosts_length js in omega arith

-- ---- rounds

next_keeps : (s : RoomState) (phase : RoundPhase) → Keeps s (next_stage s phase)
next_keeps s Quiet = keeps_all s
next_keeps s (Running stages.Lock) = record { boots = refl; hosts = hosts_map entered s.members (λ j. refl) }
next_keeps s (Running stages.Update) = record { boots = refl; hosts = hosts_map entered s.members (λ j. refl) }
next_keeps s (Running stages.Unlock) = record { boots = refl; hosts = refl }

advance_keeps : (s : RoomState) → Keeps s (advance_round s)
advance_keeps s = go (any_pending s.members)
  where
    go : (b : Bool) → Keeps s (cond b s (next_stage s s.phase))
    go true = keeps_all s
    go false = next_keeps s s.phase

start_keeps : (s : RoomState) → Keeps s (start_round s)
start_keeps s = go (may_start s)
  where
    go : (b : Bool) → Keeps s (cond b (record s { next_version = s.next_version + 1; members = map targeted s.members; phase = Running stages.Lock; dirty = false }) s)
    go true = record { boots = refl; hosts = hosts_map targeted s.members (λ j. refl) }
    go false = keeps_all s

fully_keeps : (s : RoomState) → Keeps s (advance_fully s)
fully_keeps s =
    let t = advance_round s in
    let u = advance_round t in
    keeps_on s t (advance_round u) (advance_keeps s) (keeps_on t u (advance_round u) (advance_keeps t) (advance_keeps u))

pub settle_keeps : (s : RoomState) → Keeps s (settle_round s)
settle_keeps s =
    let t = advance_fully s in
    let u = start_round t in
    keeps_on s t (advance_fully u) (fully_keeps s) (keeps_on t u (advance_fully u) (start_keeps t) (fully_keeps u))

pub conclude_keeps : (s : RoomState) (k : Conclusion) → Keeps s (conclude s k).state
conclude_keeps s (Stays reply) = keeps_all s
conclude_keeps s (Says reply) = settle_keeps s
conclude_keeps s (Tells m) = settle_keeps s

-- ---- how many members there are

none_of : (n : ℕ) → nat_lt 0 n ≡ false → n ≡ 0
none_of zero e = refl
none_of (suc n) e = let t = lt-ltb 0 (suc n) (omega arith) in absurd (cc)

of_none : (n : ℕ) → n ≡ 0 → nat_lt 0 n ≡ false
of_none n e = rw e refl

pub put_longer : (js : List Joined) (x : Joined) → length (put_joined js x) ≡ suc (length js)
put_longer [] x = omega arith
put_longer (j ∷ js) x = go (is_before (joined_node x) (joined_node j)) (put_longer js x)
  where
    go : (b : Bool) → length (put_joined js x) ≡ suc (length js) → length (cond b (x ∷ j ∷ js) (j ∷ put_joined js x)) ≡ suc (length (j ∷ js))
    go true ih = omega arith
    go false ih = omega arith

without_shorter : (js : List Joined) (node : List ℕ) → is_some (of_node js node) ≡ true → suc (length (without_node js node)) ≡ length js
without_shorter [] node e = absurd (cc)
without_shorter (j ∷ js) node e = go (bytes_eq node (joined_node j)) (without_shorter js node) e
  where
    go : (b : Bool) → (is_some (of_node js node) ≡ true → suc (length (without_node js node)) ≡ length js) → is_some (cond b (Some j) (of_node js node)) ≡ true → suc (length (cond b js (j ∷ without_node js node))) ≡ length (j ∷ js)
    go true ih e = omega arith
    go false ih e = let h = ih e in omega arith

here_node : (m : Member) (o : Option Joined) → is_the m o ≡ true → is_some o ≡ true
here_node m None e = absurd (cc)
here_node m (Some j) e = refl

heard_all : (js : List Joined) (now : ℕ) → length (late_of js now) ≡ 0 → heard_of js now ≡ js
heard_all [] now e = refl
heard_all (j ∷ js) now e = go (is_late now j) (heard_all js now) e
  where
    go : (b : Bool) → (length (late_of js now) ≡ 0 → heard_of js now ≡ js) → length (cond b (j.host.member ∷ late_of js now) (late_of js now)) ≡ 0 → cond b (heard_of js now) (j ∷ heard_of js now) ≡ j ∷ js
    go true ih e = absurd (omega arith)
    go false ih e = ap (λ (xs : List Joined). j ∷ xs) (ih e)

-- ---- the change of the members

-- if nobody joined or was removed, it keeps what a restart keeps; otherwise the count of members differs
record IsNoted (s : RoomState) (t : Membership) : Type 0 where
  kept : is_some t.joined ≡ false → nat_lt 0 (length t.removed) ≡ false → Keeps s t.state
  told : length t.state.members ≡ length s.members → (is_some t.joined ≡ false) × (nat_lt 0 (length t.removed) ≡ false)

unchanged_noted : (s : RoomState) (reply : PlaceReply) → IsNoted s (unchanged s reply)
unchanged_noted s reply = record { kept = λ a b. keeps_all s; told = λ e. (refl, refl) }

with_noted : (s : RoomState) (m : Member) (f : Joined → Joined) → ((j : Joined) → (f j).host ≡ j.host) → IsNoted s (with_member s m f)
with_noted s m f same = record { kept = λ a b. record { boots = refl; hosts = hosts_with s.members m.node f same }; told = λ e. (refl, refl) }

join_noted : (s : RoomState) (host : HostInfo) (now : ℕ) (full : PlaceReply) (b : Bool) → IsNoted s (cond b (unchanged s full) (record { state = with_joined s host now; joined = Some host; removed = []; conclusion = Tells host.member }))
join_noted s host now full true = unchanged_noted s full
join_noted s host now full false = record { kept = λ a b. absurd (cc); told = λ e. let l = put_longer s.members (new_joined host now) in absurd (omega arith) }

node_noted : (s : RoomState) (host : HostInfo) (now : ℕ) (o : Option Joined) → IsNoted s (join_node s host now o)
node_noted s host now None = join_noted s host now _ _
node_noted s host now (Some j) = unchanged_noted s (replies.NodeBusy j.host.member.boot)

register_noted : (s : RoomState) (host : HostInfo) (now : ℕ) (stale : PlaceReply) (here old : Bool) → IsNoted s (cond here (with_member s host.member (heard_at now)) (cond old (unchanged s stale) (join_node s host now (of_node s.members host.member.node))))
register_noted s host now stale true old = with_noted s host.member (heard_at now) (λ j. refl)
register_noted s host now stale false true = unchanged_noted s stale
register_noted s host now stale false false = node_noted s host now (of_node s.members host.member.node)

heard_noted : (s : RoomState) (m : Member) (f : Joined → Joined) (b : Bool) → ((j : Joined) → (f j).host ≡ j.host) → IsNoted s (cond b (with_member s m f) (not_member s m))
heard_noted s m f true same = with_noted s m f same
heard_noted s m f false same = unchanged_noted s _

pub ack_same : (now : ℕ) (b : Bool) (j : Joined) → (cond b (acked_at now) (heard_at now) j).host ≡ j.host
ack_same now true j = refl
ack_same now false j = refl

remove_noted : (s : RoomState) (m : Member) → IsNoted s (remove_member s m)
remove_noted s m = go (is_here s.members m) refl
  where
    go : (b : Bool) → is_here s.members m ≡ b → IsNoted s (cond b (record { state = record s { members = without_node s.members m.node; dirty = true }; joined = None; removed = m ∷ []; conclusion = Says replies.Gone }) (not_member s m))
    go true h = record { kept = λ a b. absurd (cc); told = λ e. let l = without_shorter s.members m.node (here_node m (of_node s.members m.node) h) in absurd (omega arith) }
    go false h = unchanged_noted s _

late_noted : (s : RoomState) (now : ℕ) → IsNoted s (drop_late s now)
late_noted s now =
    record {
      kept = λ a b. record { boots = refl; hosts = ap hosts_of (heard_all s.members now (none_of (length (late_of s.members now)) b)) };
      told = λ e. let l = counted s.members now in (refl, of_none (length (late_of s.members now)) (omega arith));
    }

noted : (s : RoomState) (event : PlaceEvent) (now : ℕ) → IsNoted s (apply_membership s event now)
noted s (events.Register host) now = register_noted s host now _ _ _
noted s (events.Beat m) now = heard_noted s m (heard_at now) _ (λ j. refl)
noted s (events.Ack m stage version) now = heard_noted s m (ack_change s stage version now) _ (ack_same now _)
noted s (events.Leave m) now = remove_noted s m
noted s (events.Lost m) now = remove_noted s m
noted s events.Tick now = late_noted s now
noted s events.Look now = unchanged_noted s replies.Looked

-- ---- the record

pub none_parts : (r : RecordOf) (a b c : Bool) → cond (a || (b || not c)) (Some r) None ≡ None → (a ≡ false) × (b ≡ false) × (c ≡ true)
none_parts r true b c e = absurd (cc)
none_parts r false true c e = absurd (cc)
none_parts r false false true e = (refl, refl, refl)
none_parts r false false false e = absurd (cc)

parts_none : (r : RecordOf) (a b c : Bool) → a ≡ false → b ≡ false → c ≡ true → cond (a || (b || not c)) (Some r) None ≡ None
parts_none r a b c x y z = rw (x, y, z) refl

noted_durable : (s : RoomState) (t : Membership) → IsNoted s t → (changes_record t.joined t.removed s.next_version (conclude t.state t.conclusion).state.next_version ≡ None) ↔ SameDurableState s (conclude t.state t.conclusion).state
noted_durable s t n =
    let u = (conclude t.state t.conclusion).state in
    let k = conclude_keeps t.state t.conclusion in
    let r : RecordOf = record { joined = t.joined; removed = t.removed; next_version = u.next_version } in (
      λ e.
          let p = none_parts r (is_some t.joined) (nat_lt 0 (length t.removed)) (u.next_version == s.next_version) e in
          let h = n.kept p.0 p.1 in
          record { next_version = eqb-true u.next_version s.next_version p.2; boots = k.boots ∙ h.boots; members = k.hosts ∙ h.hosts },
      λ d.
          let p = n.told (sym (hosts_length t.state.members) ∙ ap (λ (hs : List HostInfo). length hs) (sym k.hosts ∙ d.members) ∙ hosts_length s.members) in
          parts_none r (is_some t.joined) (nat_lt 0 (length t.removed)) (u.next_version == s.next_version) p.0 p.1 (eq-eqb u.next_version s.next_version d.next_version),
    )

pub recorded_durable : (s : RoomState) (event : PlaceEvent) (now : ℕ) → (step_record s event now ≡ None) ↔ SameDurableState s (room_step s event now).state
recorded_durable s event now = noted_durable s (apply_membership s event now) (noted s event now)

pub gives_durable : (event : PlaceEvent) (now : ℕ) (reply : PlaceReply) (old new : RoomView) → Gives event now reply old new → (new.recent ≡ None) ↔ SameDurableState old.state new.state
gives_durable event now reply old new g = subst (λ (v : RoomView). (v.recent ≡ None) ↔ SameDurableState old.state v.state) (sym g.1) (recorded_durable old.state event now)

pub memory_durable : (event : PlaceEvent) (now : ℕ) (reply : PlaceReply) (old new : RoomView) → GivesInMemory event now reply old new → (new.recent ≡ None) ↔ SameDurableState old.state new.state
memory_durable event now (replies.Lock v) old new g = gives_durable event now (replies.Lock v) old new g
memory_durable event now (replies.Update v) old new g = gives_durable event now (replies.Update v) old new g
memory_durable event now (replies.Unlock v) old new g = gives_durable event now (replies.Unlock v) old new g
memory_durable event now replies.Idle old new g = gives_durable event now replies.Idle old new g
memory_durable event now replies.Gone old new g = gives_durable event now replies.Gone old new g
memory_durable event now (replies.Ticked n) old new g = gives_durable event now (replies.Ticked n) old new g
memory_durable event now replies.Looked old new g = gives_durable event now replies.Looked old new g
memory_durable event now (replies.StaleBoot n) old new g = gives_durable event now (replies.StaleBoot n) old new g
memory_durable event now (replies.NodeBusy n) old new g = gives_durable event now (replies.NodeBusy n) old new g
memory_durable event now (replies.NotMember n) old new g = gives_durable event now (replies.NotMember n) old new g
memory_durable event now (replies.SpacesFull n) old new g = gives_durable event now (replies.SpacesFull n) old new g
memory_durable event now (replies.Full n m) old new g = gives_durable event now (replies.Full n m) old new g
memory_durable event now replies.OutOfMemory old new g =
    subst (λ (v : RoomView). (v.recent ≡ None) ↔ SameDurableState old.state v.state) (sym g) (λ e. record { next_version = refl; boots = refl; members = refl }, λ d. refl)
