-- A step forgets nothing: greatest boots never fall, new members are fresh, versions never fall.
use Rattle.std.proofs.Common.{◌≡◌, ℕ, ◌<◌, ◌≤◌, Bool, true, false, cond, List, [], ◌∷◌, Option, None, Some, refl, sym, ◌∙◌, subst, inl, inr, arith}
use Rattle.std.specs.Prelude.{nat_le, bytes_eq}
use Rattle.std.proofs.lemmas.Bool.{leb-false, cond_both}
use Rattle.std.proofs.lemmas.Slice.Eq.{bytes_eq-Decides}
use Rattle.actor_names.specs.declared.member.Member.{Member}
use Rattle.place_table.specs.declared.host.HostInfo.{HostInfo}
use Rattle.member_roster.specs.declared.book.Known.{Known}
use Rattle.round_core.specs.declared.event.PlaceEvent.{PlaceEvent}
use Rattle.round_core.specs.declared.event.PlaceEvent.TheVariants as events
use Rattle.round_core.specs.declared.event.PlaceReply.{PlaceReply}
use Rattle.round_core.specs.declared.event.PlaceReply.TheVariants as replies
use Rattle.member_roster.specs.Members.{Joined, of_node, is_here, is_before, greatest_boot, put_boot, heard_at, new_joined}
use Rattle.round_core.specs.Room.{RoomState, Membership, settle_round, conclude, not_member, with_member, with_joined, join_node, is_full, ack_change, remove_member, apply_membership, room_step, awoken}
use Rattle.round_core.specs.Views.{RoomView, Gives, GivesInMemory}
use Rattle.round_core.specs.Runs.{HasMember, ForgetsNothing}
use Rattle.round_core.proofs.Durable.{Keeps, hosts_map, hosts_with, settle_keeps, conclude_keeps, ack_same}
use Rattle.round_core.proofs.Hosts.{put_member, without_member, heard_member}
use Rattle.round_core.proofs.Versions.{Rises, settle_rises, conclude_rises}

-- ---- greatest boots

new_boot : (node : List ℕ) (m : Member) (rest : List Known) (n : ℕ) → greatest_boot rest node ≡ n → (node ≡ m.node → n < m.boot) → n ≤ greatest_boot (record { node = m.node; greatest = m.boot } ∷ rest) node
new_boot node m rest n same higher =
    cond_both (bytes_eq node m.node) m.boot (greatest_boot rest node) (λ (k : ℕ). n ≤ k)
    (λ e. let h = higher ((bytes_eq-Decides node m.node).0 e) in omega arith)
    (λ _. omega arith)

pub boots_rise : (ks : List Known) (m : Member) (node : List ℕ) → greatest_boot ks m.node < m.boot → greatest_boot ks node ≤ greatest_boot (put_boot ks m) node
boots_rise [] m node h = omega arith
boots_rise (k ∷ ks) m node h =
    cond_both (bytes_eq m.node k.node) (record { node = m.node; greatest = m.boot } ∷ ks) (cond (is_before m.node k.node) (record { node = m.node; greatest = m.boot } ∷ k ∷ ks) (k ∷ put_boot ks m)) (λ (bs : List Known). greatest_boot (k ∷ ks) node ≤ greatest_boot bs node)
    (λ e. at_node ((bytes_eq-Decides m.node k.node).0 e))
    (λ e. cond_both (is_before m.node k.node) (record { node = m.node; greatest = m.boot } ∷ k ∷ ks) (k ∷ put_boot ks m) (λ (bs : List Known). greatest_boot (k ∷ ks) node ≤ greatest_boot bs node)
    (λ _. new_boot node m (k ∷ ks) (greatest_boot (k ∷ ks) node) refl (λ f. subst (λ (x : List ℕ). greatest_boot (k ∷ ks) x < m.boot) (sym f) h))
    (λ _. later (boots_rise ks m node (past (bytes_eq m.node k.node) e h))))
  where
    past : (b : Bool) → b ≡ false → cond b k.greatest (greatest_boot ks m.node) < m.boot → greatest_boot ks m.node < m.boot
    past true e l = absurd (cc)
    past false e l = l

    later : greatest_boot ks node ≤ greatest_boot (put_boot ks m) node → greatest_boot (k ∷ ks) node ≤ greatest_boot (k ∷ put_boot ks m) node
    later ih = go (bytes_eq node k.node)
      where
        go : (b : Bool) → cond b k.greatest (greatest_boot ks node) ≤ cond b k.greatest (greatest_boot (put_boot ks m) node)
        go true = omega arith
        go false = ih

    at_node : m.node ≡ k.node → greatest_boot (k ∷ ks) node ≤ greatest_boot (record { node = m.node; greatest = m.boot } ∷ ks) node
    at_node e = rw e (go (bytes_eq node k.node) (low (bytes_eq m.node k.node) ((bytes_eq-Decides m.node k.node).1 e) h))
      where
        low : (b : Bool) → b ≡ true → cond b k.greatest (greatest_boot ks m.node) < m.boot → k.greatest < m.boot
        low true e l = l
        low false e l = absurd (cc)

        go : (b : Bool) → k.greatest < m.boot → cond b k.greatest (greatest_boot ks node) ≤ cond b m.boot (greatest_boot ks node)
        go true l = omega arith
        go false l = omega arith

-- ---- a change of the members

pub forgets_self : (s : RoomState) → ForgetsNothing s s
forgets_self s = record { greatest = λ node. omega arith; fresh = λ m i. inl i; versions = omega arith }

-- boots and members stay, and no version falls
pub forgets_on : (s t u : RoomState) → ForgetsNothing s t → Keeps t u → Rises t u → ForgetsNothing s u
forgets_on s t u a k r =
    record {
      greatest = λ node. rw k.boots (a.greatest node);
      fresh = λ m i. a.fresh m (subst (λ (hs : List HostInfo). HasMember hs m) k.hosts i);
      versions = (let x = a.versions in let y = r.low in omega arith);
    }

with_forgets : (s : RoomState) (m : Member) (f : Joined → Joined) → ((j : Joined) → (f j).host ≡ j.host) → ForgetsNothing s (with_member s m f).state
with_forgets s m f same =
    record {
      greatest = λ node. omega arith;
      fresh = λ x i. inl (subst (λ (hs : List HostInfo). HasMember hs x) (hosts_with s.members m.node f same) i);
      versions = omega arith;
    }

joined_forgets : (s : RoomState) (host : HostInfo) (now : ℕ) → greatest_boot s.boots host.member.node < host.member.boot → ForgetsNothing s (with_joined s host now)
joined_forgets s host now higher =
    record {
      greatest = λ node. boots_rise s.boots host.member node higher;
      fresh = λ x i. elim (put_member s.members (new_joined host now) x i) [
        | inl k ↦ inl k
        | inr e ↦ inr (subst (λ (y : Member). greatest_boot s.boots y.node < y.boot) (sym e) higher)
      ];
      versions = omega arith;
    }

-- a change of the members forgets nothing
abbrev Remembers : RoomState → Membership → Type 0
Remembers s t = ForgetsNothing s t.state

node_remembers : (s : RoomState) (host : HostInfo) (now : ℕ) → greatest_boot s.boots host.member.node < host.member.boot → (o : Option Joined) → Remembers s (join_node s host now o)
node_remembers s host now higher (Some j) = forgets_self s
node_remembers s host now higher None =
    cond_both (is_full s host.member.node) _ _ (Remembers s) (λ _. forgets_self s) (λ _. joined_forgets s host now higher)

remove_remembers : (s : RoomState) (m : Member) → Remembers s (remove_member s m)
remove_remembers s m =
    cond_both (is_here s.members m) _ _ (Remembers s)
    (λ _. record { greatest = λ node. omega arith; fresh = λ x i. inl (without_member s.members m.node x i); versions = omega arith })
    (λ _. forgets_self s)

heard_remembers : (s : RoomState) (m : Member) (f : Joined → Joined) (b : Bool) → ((j : Joined) → (f j).host ≡ j.host) → Remembers s (cond b (with_member s m f) (not_member s m))
heard_remembers s m f true same = with_forgets s m f same
heard_remembers s m f false same = forgets_self s

remembers : (s : RoomState) (event : PlaceEvent) (now : ℕ) → Remembers s (apply_membership s event now)
remembers s (events.Register host) now =
    cond_both (is_here s.members host.member) _ _ (Remembers s)
    (λ _. with_forgets s host.member (heard_at now) (λ j. refl))
    (λ _. cond_both (nat_le host.member.boot (greatest_boot s.boots host.member.node)) _ _ (Remembers s)
    (λ _. forgets_self s)
    (λ e. node_remembers s host now (leb-false _ _ e) (of_node s.members host.member.node)))
remembers s (events.Beat m) now = heard_remembers s m (heard_at now) _ (λ j. refl)
remembers s (events.Ack m stage version) now = heard_remembers s m (ack_change s stage version now) _ (ack_same now _)
remembers s (events.Leave m) now = remove_remembers s m
remembers s (events.Lost m) now = remove_remembers s m
remembers s events.Tick now =
    record { greatest = λ node. omega arith; fresh = λ x i. inl (heard_member s.members now x i); versions = omega arith }
remembers s events.Look now = forgets_self s

-- ---- the step

pub step_forgets : (s : RoomState) (event : PlaceEvent) (now : ℕ) → ForgetsNothing s (room_step s event now).state
step_forgets s event now =
    let t = apply_membership s event now in
    forgets_on s t.state (conclude t.state t.conclusion).state (remembers s event now) (conclude_keeps t.state t.conclusion) (conclude_rises t.state t.conclusion)

pub gives_forgets : (event : PlaceEvent) (now : ℕ) (reply : PlaceReply) (old new : RoomView) → Gives event now reply old new → ForgetsNothing old.state new.state
gives_forgets event now reply old new g = subst (λ (v : RoomView). ForgetsNothing old.state v.state) (sym g.1) (step_forgets old.state event now)

pub memory_forgets : (event : PlaceEvent) (now : ℕ) (reply : PlaceReply) (old new : RoomView) → GivesInMemory event now reply old new → ForgetsNothing old.state new.state
memory_forgets event now (replies.Lock v) old new g = gives_forgets event now (replies.Lock v) old new g
memory_forgets event now (replies.Update v) old new g = gives_forgets event now (replies.Update v) old new g
memory_forgets event now (replies.Unlock v) old new g = gives_forgets event now (replies.Unlock v) old new g
memory_forgets event now replies.Idle old new g = gives_forgets event now replies.Idle old new g
memory_forgets event now replies.Gone old new g = gives_forgets event now replies.Gone old new g
memory_forgets event now (replies.Ticked n) old new g = gives_forgets event now (replies.Ticked n) old new g
memory_forgets event now replies.Looked old new g = gives_forgets event now replies.Looked old new g
memory_forgets event now (replies.StaleBoot n) old new g = gives_forgets event now (replies.StaleBoot n) old new g
memory_forgets event now (replies.NodeBusy n) old new g = gives_forgets event now (replies.NodeBusy n) old new g
memory_forgets event now (replies.NotMember n) old new g = gives_forgets event now (replies.NotMember n) old new g
memory_forgets event now (replies.SpacesFull n) old new g = gives_forgets event now (replies.SpacesFull n) old new g
memory_forgets event now (replies.Full n m) old new g = gives_forgets event now (replies.Full n m) old new g
memory_forgets event now replies.OutOfMemory old new g = subst (λ (v : RoomView). ForgetsNothing old.state v.state) (sym g) (forgets_self old.state)

-- ---- the restart, where a round was ever started

pub awoken_keeps : (s : RoomState) (now : ℕ) → Keeps s (settle_round (awoken s now))
awoken_keeps s now =
    let k = settle_keeps (awoken s now) in
    record { boots = k.boots; hosts = k.hosts ∙ hosts_map _ s.members (λ j. refl) }

pub awoken_rises : (s : RoomState) (now : ℕ) → Rises s (settle_round (awoken s now))
awoken_rises s now = let r = settle_rises (awoken s now) in record { low = r.low; high = r.high }
