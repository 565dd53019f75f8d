-- What holds of a leased cluster after every list of events: a lease counts from a moment that the placement can't have
-- heard of later, so whoever is late has a lease that has ended, and has stopped.
use Rattle.std.proofs.Common.{◌≡◌, ◌⊎◌, ℕ, zero, suc, ◌+◌, ◌-◌, ◌*◌, ◌<◌, ◌≤◌, max, Bool, true, false, List, [], ◌∷◌, ◌++◌, length, Option, None, Some, refl, sym, ap, ◌∙◌, subst, inl, inr, arith}
use Rattle.std.specs.Prelude.{nat_le, nat_lt, slice_get, bytes_eq}
use Rattle.std.proofs.lemmas.Bool.{cond_both, leb-true, le-leb}
use Rattle.actor_names.specs.declared.member.Member.{Member}
use Rattle.actor_names.specs.declared.actor_key.ActorKey.{ActorKey}
use Rattle.place_table.specs.declared.host.HostInfo.{HostInfo}
use Rattle.place_table.specs.Hosts.{PlacementTable}
use Rattle.turn_core.specs.CellSound.{In}
use Rattle.part_model.specs.declared.stage.Stage.TheVariants.{Stopped}
use Rattle.part_model.specs.Part.{PartState}
use Rattle.member_roster.specs.Members.{Joined, is_late}
use Rattle.round_core.specs.declared.event.PlaceEvent.{PlaceEvent}
use Rattle.placement_core.specs.Placement.{SpaceRoom, PlacementState, late_in}
use Rattle.world_events.specs.declared.settings.WorldSettings.{WorldSettings}
use Rattle.cluster_model.specs.Messages.{Request, Answer, Message, Asks, Tells, named_in, asker_of}
use Rattle.cluster_model.specs.World as world
use Rattle.cluster_model.specs.World.{ClusterState}
use Rattle.cluster_model.specs.Invariant.{AllStopped}
use Rattle.cluster_model.proofs.Runs.{IsToldWorld}
use Rattle.cluster_model.proofs.SpaceParts.{backed}
use Rattle.lease_core.specs.declared.book.MemberClock.{MemberClock}
use Rattle.lease_core.specs.declared.book.Sent.{Sent}
use Rattle.lease_core.specs.Lease.{has_ended}
use Rattle.lease_core.specs.Book.{LeaseBook, member_at}
use Rattle.lease_core.specs.Leased.{LeasedCluster, LateAreStopped}
use Rattle.lease_core.proofs.Lists.{IsKnown, one_known, one_member, get_pushed, get_low, length_pushed, some_same}
use Rattle.lease_core.proofs.Follows.{IsPlaced, Came}
use Rattle.lease_core.proofs.Rooms.{Entry, late_entry}

-- what is kept of a message: it is of the member that the message names, and was sent by that member's clock as it was
pub record IsSent (ms : List MemberClock) (m : Member) (s : Sent) : Type 0 where
  pub boot : s.boot ≡ m.boot
  pub known : IsKnown ms m
  pub past : s.moment ≤ known.entry.clock

-- A moment of the member's clock can't be earlier, by the placement's clock, than the moment at which the placement heard
-- the member: the placement has gone forward since by at most twice what the member has.
abbrev pub IsCovered : ℕ → ℕ → ℕ → ℕ → Type 0
IsCovered clock heard now moment = clock + 2 * moment ≤ heard + 2 * now

-- the member's lease, and each of its requests that was answered, is covered
pub record IsHeardSince (c : LeasedCluster) (m : Member) (heard : ℕ) : Type 0 where
  pub known : IsKnown c.book.members m
  pub lease : IsCovered c.book.clock heard known.entry.clock known.entry.lease
  pub told : (k : ℕ) (n : Member) (a : Answer) (s : Sent) → slice_get c.world.messages k ≡ Some (Tells n a) → slice_get c.book.sent k ≡ Some s → n.boot ≡ m.boot → IsCovered c.book.clock heard known.entry.clock s.moment

module _ (owner : PlacementTable → ActorKey → Option HostInfo) (part_of : ActorKey → ℕ → ℕ) where
  -- what holds of the book, whatever the placement is
  pub record IsBookSound (w : ClusterState) (b : LeaseBook) : Type 0 where
    pub many : length b.members ≡ w.boots
    pub boots : (k : ℕ) (m : MemberClock) → slice_get b.members k ≡ Some m → m.member.boot ≡ suc k
    pub within : (k : ℕ) (m : MemberClock) → slice_get b.members k ≡ Some m → m.lease ≤ m.clock
    pub parts : (p : PartState) → In p w.parts → IsKnown b.members p.member
    pub numbers : (p : PartState) → In p w.parts → p.number < w.settings.parts
    pub counted : length b.sent ≡ length w.messages
    pub sent : (k : ℕ) (x : Message) (s : Sent) → slice_get w.messages k ≡ Some x → slice_get b.sent k ≡ Some s → IsSent b.members (named_in x) s
    pub over : (p : PartState) (m : MemberClock) → In p w.parts → member_at b.members p.member.boot ≡ Some m → has_ended m.lease m.clock ≡ true → p.stage ≡ Stopped

  pub record IsLeased (c : LeasedCluster) : Type 0 where
    pub told : IsToldWorld owner part_of c.world
    pub placed : IsPlaced c.world.placement
    pub book : IsBookSound c.world c.book
    pub heard : (j : Joined) → Entry c.world.placement.rooms j → IsHeardSince c j.host.member j.heard

  within_at : (b : LeaseBook) → ((k : ℕ) (m : MemberClock) → slice_get b.members k ≡ Some m → m.lease ≤ m.clock) → (boot : ℕ) (m : MemberClock) → member_at b.members boot ≡ Some m → m.lease ≤ m.clock
  within_at b h zero m e = absurd (cc)
  within_at b h (suc k) m e = h k m e

  -- ---- whoever is late has stopped

  -- a lease that isn't ended covers less than the placement's patience
  ended_lease : (clock heard now lease : ℕ) → IsCovered clock heard now lease → 10000 ≤ clock - heard → 5000 ≤ now - lease
  ended_lease clock heard now lease c l = omega arith

  pub late_stopped : (c : LeasedCluster) → IsLeased c → LateAreStopped c
  late_stopped c l m i p j same =
      let h = late_entry c.world.placement.rooms c.book.clock m i in
      let s = l.heard h.0 h.1 in
      let late : 10000 ≤ c.book.clock - h.0.heard = leb-true _ _ h.3 in
      let over : has_ended s.known.entry.lease s.known.entry.clock ≡ true = le-leb _ _ (ended_lease c.book.clock h.0.heard s.known.entry.clock s.known.entry.lease s.lease late) in
      l.book.over p s.known.entry j (ap (λ (x : Member). member_at c.book.members x.boot) (same ∙ h.2) ∙ s.known.at) over

  -- ---- a member that the placement hears now

  pub heard_now : (c : LeasedCluster) → IsBookSound c.world c.book → (m : Member) → IsKnown c.book.members m → IsHeardSince c m c.book.clock
  heard_now c b m known =
      record {
        known = known;
        lease = (let h = within_at c.book b.within m.boot known.entry known.at in omega arith);
        told = λ k n a s x y same.
            let t = b.sent k (Tells n a) s x y in
            let e : t.known.entry ≡ known.entry = one_known c.book.members n m t.known known same in
            let h : s.moment ≤ known.entry.clock = subst (λ (z : MemberClock). s.moment ≤ z.clock) e t.past in
            omega arith;
      }

  -- ---- an event that no placement's step brings

  -- the parts that follow others are of members that are known
  came_known : (ms : List MemberClock) (p : PartState) (ps : List PartState) → Came ps p → ((q : PartState) → In q ps → IsKnown ms q.member) → IsKnown ms p.member
  came_known ms p ps c known = subst (IsKnown ms) (sym c.member) (known c.old c.here)

  -- The book after an event that changes no clock and boots nobody: the messages may be more.
  pub book_on : (w u : ClusterState) (b : LeaseBook) (sent : List Sent) (askers : List ℕ) → IsBookSound w b → ((p : PartState) → In p u.parts → Came w.parts p) → u.boots ≡ w.boots → u.settings ≡ w.settings → length sent ≡ length u.messages →
      ((k : ℕ) (x : Message) (s : Sent) → slice_get u.messages k ≡ Some x → slice_get sent k ≡ Some s → IsSent b.members (named_in x) s) → IsBookSound u (record b { sent = sent; askers = askers })
  book_on w u b sent askers s came boots settings counted all =
      record {
        many = s.many ∙ sym boots;
        boots = s.boots;
        within = s.within;
        parts = λ p i. came_known b.members p w.parts (came p i) s.parts;
        numbers = λ p i.
            let c = came p i in
            let low = s.numbers c.old c.here in
            let e = c.number in
            let f : u.settings.parts ≡ w.settings.parts = ap (λ (z : WorldSettings). z.parts) settings in
            omega arith;
        counted = counted;
        sent = all;
        over = λ p m i at over.
            let c = came p i in
            c.stopped (s.over c.old m c.here (ap (λ (z : Member). member_at b.members z.boot) (sym c.member) ∙ at) over);
      }

  -- one more message
  pub sent_more : (ms : List MemberClock) (messages : List Message) (sent : List Sent) (x : Message) (s : Sent) → length sent ≡ length messages → IsSent ms (named_in x) s →
      ((k : ℕ) (y : Message) (t : Sent) → slice_get messages k ≡ Some y → slice_get sent k ≡ Some t → IsSent ms (named_in y) t) →
      (k : ℕ) (y : Message) (t : Sent) → slice_get (messages ++ x ∷ []) k ≡ Some y → slice_get (sent ++ s ∷ []) k ≡ Some t → IsSent ms (named_in y) t
  sent_more ms messages sent x s counted new all k y t e f = elim (get_pushed messages x k y e) [
    | inl a ↦ elim (get_pushed sent s k t f) [
      | inl b ↦ all k y t a b
      | inr b ↦ absurd (let low = get_low messages k y a in let at = b.0 in omega arith)
    ]
    | inr a ↦ elim (get_pushed sent s k t f) [
      | inl b ↦ absurd (let low = get_low sent k t b in let at = a.0 in omega arith)
      | inr b ↦ subst (λ (z : Sent). IsSent ms (named_in y) z) (sym b.1) (subst (λ (z : Message). IsSent ms (named_in z) s) (sym a.1) new)
    ]
  ]

  -- a message and what is kept of it, among those with one more
  pub told_more : (messages : List Message) (sent : List Sent) (x : Message) (s : Sent) → length sent ≡ length messages → (k : ℕ) (y : Message) (t : Sent) → slice_get (messages ++ x ∷ []) k ≡ Some y → slice_get (sent ++ s ∷ []) k ≡ Some t →
      ((slice_get messages k ≡ Some y) × (slice_get sent k ≡ Some t)) ⊎ ((y ≡ x) × (t ≡ s))
  told_more messages sent x s counted k y t e f = elim (get_pushed messages x k y e) [
    | inl a ↦ elim (get_pushed sent s k t f) [
      | inl b ↦ inl (a, b)
      | inr b ↦ absurd (let low = get_low messages k y a in let at = b.0 in omega arith)
    ]
    | inr a ↦ elim (get_pushed sent s k t f) [
      | inl b ↦ absurd (let low = get_low sent k t b in let at = a.0 in omega arith)
      | inr b ↦ inr (a.1, b.1)
    ]
  ]

  asks_tells : (r : Request) (n : Member) (a : Answer) → Tells n a ≡ Asks r → ⊥
  asks_tells r n a e = cc

  -- the answers among the messages are old ones
  abbrev pub NoneTold : LeasedCluster → LeasedCluster → Type 0
  NoneTold c d = (k : ℕ) (n : Member) (a : Answer) (s : Sent) → slice_get d.world.messages k ≡ Some (Tells n a) → slice_get d.book.sent k ≡ Some s → (slice_get c.world.messages k ≡ Some (Tells n a)) × (slice_get c.book.sent k ≡ Some s)

  pub heard_on : (c d : LeasedCluster) → d.book.clock ≡ c.book.clock → d.book.members ≡ c.book.members → NoneTold c d → (m : Member) (heard : ℕ) → IsHeardSince c m heard → IsHeardSince d m heard
  heard_on c d clock members none m heard h =
      let known : IsKnown d.book.members m = record { entry = h.known.entry; at = ap (λ (z : List MemberClock). member_at z m.boot) members ∙ h.known.at; same = h.known.same } in
      record {
        known = known;
        lease = (let a = h.lease in omega arith);
        told = λ k n a s x y same. (let t = none k n a s x y in let b = h.told k n a s t.0 t.1 same in omega arith);
      }
