-- A pass and an answer keep what holds of a leased cluster.
use Rattle.std.proofs.Common.{◌≡◌, ◌⊎◌, ℕ, zero, suc, ◌+◌, ◌-◌, ◌*◌, ◌<◌, ◌≤◌, max, Bool, true, false, List, [], ◌∷◌, ◌++◌, length, Option, None, Some, refl, sym, ap, ◌∙◌, subst, inl, inr, arith}
use Rattle.std.specs.Prelude.{nat_le, nat_lt, slice_get, ◌||◌, option_map}
use Rattle.std.proofs.lemmas.Bool.{cond_both, leb-true, le-leb, ltb-false}
use Rattle.actor_names.specs.declared.member.Member.{Member}
use Rattle.actor_names.specs.declared.actor_key.ActorKey.{ActorKey}
use Rattle.place_table.specs.declared.host.HostInfo.{HostInfo}
use Rattle.place_table.specs.Hosts.{PlacementTable}
use Rattle.turn_core.specs.CellSound.{In}
use Rattle.part_model.specs.declared.stage.Stage.TheVariants.{Stopped}
use Rattle.part_model.specs.Part.{PartState}
use Rattle.placement_core.specs.Placement.{PlacementState}
use Rattle.world_events.specs.declared.settings.WorldSettings.{WorldSettings}
use Rattle.world_events.specs.declared.event.WorldEvent.{WorldEvent}
use Rattle.world_events.specs.declared.event.WorldEvent.TheVariants as lines
use Rattle.cluster_model.specs.Messages.{Request, Answer, Message, Asks, Tells, named_in}
use Rattle.cluster_model.specs.Spaces.{KeepsToSpace}
use Rattle.cluster_model.specs.World as world
use Rattle.cluster_model.specs.World.{ClusterState, most_events}
use Rattle.world_run.specs.Looks.{asks, asks_at}
use Rattle.lease_core.specs.declared.book.MemberClock.{MemberClock}
use Rattle.lease_core.specs.declared.book.Sent.{Sent}
use Rattle.lease_core.specs.Lease.{has_ended, bad_rate}
use Rattle.lease_core.specs.Book.{LeaseBook, member_at, sent_at, sent_in, moved, is_past, any_past, stops_for, extended_at, extended_of, leases_extended}
use Rattle.lease_core.specs.Leased.{LeasedCluster, LeasedStep, refuse, is_reply, answered, passed, passes}
use Rattle.lease_core.proofs.Lists.{AreRated, IsKnown, get_some, get_low, member_in, some_same, HasMoved, moved_at, moved_from, moved_length, rates_hold, HasExtended, extended_get, extended_from, extended_length, in_stops, stops_are}
use Rattle.lease_core.proofs.Follows.{IsPlaced, Came}
use Rattle.lease_core.proofs.Rooms.{Entry}
use Rattle.lease_core.proofs.Stops.{stops_go, run_follows, all_stop}
use Rattle.lease_core.proofs.Leases.{IsSent, IsHeardSince, IsBookSound, IsLeased}
use Rattle.lease_core.proofs.Steps.{all_came}

-- the entry of a boot after a pass, and the one before
module _ (placement : ℕ) (steps : List ℕ) (ms : List MemberClock) (rated : AreRated placement steps) (lengths : length steps ≡ length ms) where
  moved_member : (boot : ℕ) (m : MemberClock) → member_at ms boot ≡ Some m → (n : MemberClock) × (member_at (moved steps ms) boot ≡ Some n) × HasMoved placement m n
  moved_member zero m e = absurd (cc)
  moved_member (suc k) m e = moved_at placement steps ms k m rated lengths e

  record MovedKnown (m : Member) (old : IsKnown ms m) : Type 0 where
    pub known : IsKnown (moved steps ms) m
    pub moves : HasMoved placement old.entry known.entry

  moved_known : (m : Member) (old : IsKnown ms m) → MovedKnown m old
  moved_known m old =
      let h = moved_member m.boot old.entry old.at in
      record { known = record { entry = h.0; at = h.1; same = h.2.member ∙ old.same }; moves = h.2 }

-- the same after an answer
module _ (place sent : ℕ) (ms : List MemberClock) where
  record ExtendedKnown (m : Member) (old : IsKnown ms m) : Type 0 where
    pub known : IsKnown (extended_at ms place sent) m
    pub lease : (known.entry.lease ≡ old.entry.lease) ⊎ ((m.boot ≡ suc place) × (known.entry.lease ≡ max old.entry.lease sent))
    pub clock : known.entry.clock ≡ old.entry.clock

  extended_member : (boot : ℕ) (m : MemberClock) → member_at ms boot ≡ Some m → (n : MemberClock) × (member_at (extended_at ms place sent) boot ≡ Some n) × ((n.lease ≡ m.lease) ⊎ ((boot ≡ suc place) × (n.lease ≡ max m.lease sent))) × (n.clock ≡ m.clock) × (n.member ≡ m.member)
  extended_member zero m e = absurd (cc)
  extended_member (suc k) m e =
      let h = extended_get ms place sent k m e in
      (h.0, h.1, elim h.2.lease [ inl q ↦ inl q | inr q ↦ inr (ap suc q.0, q.1) ], h.2.clock, h.2.member)

  extended_known : (m : Member) (old : IsKnown ms m) → ExtendedKnown m old
  extended_known m old =
      let h = extended_member m.boot old.entry old.at in
      record { known = record { entry = h.0; at = h.1; same = h.4 ∙ old.same }; lease = h.2; clock = h.3 }

module _ (owner : PlacementTable → ActorKey → Option HostInfo) (part_of : ActorKey → ℕ → ℕ) (keeps : KeepsToSpace owner) where
  abbrev Sound : LeasedCluster → Type 0
  Sound c = IsLeased owner part_of c

  -- ---- a pass

  pass_leased : (c : LeasedCluster) (placement : ℕ) (steps : List ℕ) → Sound c → AreRated placement steps → length steps ≡ length c.book.members →
      c.world.events + length (stops_for c.world.settings.parts (moved steps c.book.members)) ≤ most_events → Sound (passed owner part_of c placement steps).cluster
  pass_leased c placement steps l rated lengths few =
      let ms = moved steps c.book.members in
      let es = stops_for c.world.settings.parts ms in
      let u = world.cluster_run owner part_of c.world es in
      let are = stops_are c.world.settings.parts ms in
      let go = stops_go owner part_of c.world es are in
      let f = run_follows owner part_of keeps c.world es l.told l.placed in
      let came = all_came owner part_of keeps c.world u f go.boots in
      let parts : u.settings.parts ≡ c.world.settings.parts = ap (λ (z : WorldSettings). z.parts) go.settings in
      let known : (p : PartState) → In p u.parts → IsKnown ms p.member = λ p i.
      (let e = came p i in subst (IsKnown ms) (sym e.member) (moved_known placement steps c.book.members rated lengths e.old.member (l.book.parts e.old e.here)).known) in
      let number : (p : PartState) → In p u.parts → p.number < c.world.settings.parts = λ p i.
      (let e = came p i in let low = l.book.numbers e.old e.here in let same = e.number in omega arith) in
      record {
        told = f.told;
        placed = f.placed;
        book = record {
          many = moved_length steps c.book.members lengths ∙ l.book.many ∙ sym go.boots;
          boots = λ k m e. (let h = moved_from placement steps c.book.members k m rated lengths e in ap (λ (z : Member). z.boot) h.2.member ∙ l.book.boots k h.0 h.1);
          within = λ k m e. (
              let h = moved_from placement steps c.book.members k m rated lengths e in
              let low = l.book.within k h.0 h.1 in
              let clock = h.2.clock in
              let lease = h.2.lease in
              omega arith);
          parts = known;
          numbers = λ p i. (let low = number p i in omega arith);
          counted = l.book.counted ∙ ap length (sym go.messages);
          sent = λ k x s e g. (
              let t = l.book.sent k x s (ap (λ (z : List Message). slice_get z k) (sym go.messages) ∙ e) g in
              let n = moved_known placement steps c.book.members rated lengths (named_in x) t.known in
              record { boot = t.boot; known = n.known; past = (let low = t.past in let clock = n.moves.clock in omega arith) });
          over = λ p m i at over. (
              let k = known p i in
              let same : k.entry ≡ m = some_same k.entry m (sym k.at ∙ at) in
              let there : In m ms = member_in ms p.member.boot m at in
              let stop : In (lines.Stop p.member p.number) es = subst (λ (z : Member). In (lines.Stop z p.number) es) (ap (λ (z : MemberClock). z.member) (sym same) ∙ k.same) (in_stops c.world.settings.parts ms m p.number there over (number p i)) in
              all_stop owner part_of keeps c.world es are l.told l.placed few p.member p.number stop p i refl refl);
        };
        heard = λ j i. (
            let h = l.heard j (subst (λ (z : PlacementState). Entry z.rooms j) go.placement i) in
            let n = moved_known placement steps c.book.members rated lengths j.host.member h.known in
            let rate = n.moves.rate in
            let clock = n.moves.clock in
            let lease = n.moves.lease in
            record {
              known = n.known;
              lease = (let low = h.lease in omega arith);
              told = λ k m a s e g q. (let low = h.told k m a s (ap (λ (z : List Message). slice_get z k) (sym go.messages) ∙ e) g q in omega arith);
            });
      }

  passes_leased : (c : LeasedCluster) (placement : ℕ) (steps : List ℕ) → Sound c → (o : Option ℕ) → bad_rate placement steps (length c.book.members) ≡ o → Sound (passes owner part_of c placement steps o).cluster
  passes_leased c placement steps l (Some at) e = l
  passes_leased c placement steps l None e =
      let h = rates_hold placement steps (length c.book.members) e in
      cond_both (is_past c.book.clock placement || any_past steps c.book.members) _ _ (λ (s : LeasedStep). Sound s.cluster)
      (λ _. l)
      (λ _. cond_both (nat_lt most_events (c.world.events + length (stops_for c.world.settings.parts (moved steps c.book.members)))) _ _ (λ (s : LeasedStep). Sound s.cluster)
      (λ _. l)
      (λ few. pass_leased c placement steps l h.1 h.0 (ltb-false most_events _ few)))

  pub pass_kept : (c : LeasedCluster) (placement : ℕ) (steps : List ℕ) → Sound c → Sound (passes owner part_of c placement steps (bad_rate placement steps (length c.book.members))).cluster
  pass_kept c placement steps l = passes_leased c placement steps l (bad_rate placement steps (length c.book.members)) refl

  -- ---- an answer

  extend_leased : (c : LeasedCluster) (k : ℕ) (n : Member) (a : Answer) (s : Sent) (place : ℕ) → Sound c → slice_get c.world.messages k ≡ Some (Tells n a) → slice_get c.book.sent k ≡ Some s → s.boot ≡ suc place →
      Sound (record { world = c.world; book = record (c.book) { members = extended_at c.book.members place s.moment } })
  extend_leased c k n a s place l told kept boot =
      let ms = extended_at c.book.members place s.moment in
      let own = l.book.sent k (Tells n a) s told kept in
      let grown : (m : Member) (old : IsKnown c.book.members m) → ExtendedKnown place s.moment c.book.members m old = extended_known place s.moment c.book.members in
      record {
        told = l.told;
        placed = l.placed;
        book = record {
          many = extended_length c.book.members place s.moment ∙ l.book.many;
          boots = λ i m e. (let h = extended_from c.book.members place s.moment i m e in ap (λ (z : Member). z.boot) h.2.member ∙ l.book.boots i h.0 h.1);
          within = λ i m e. (
              let h = extended_from c.book.members place s.moment i m e in
              let low = l.book.within i h.0 h.1 in
              let clock = h.2.clock in
              elim h.2.lease [
                | inl q ↦ omega arith
                | inr q ↦ (
                    let at : member_at c.book.members n.boot ≡ Some h.0 = ap (member_at c.book.members) (sym own.boot ∙ boot ∙ ap suc (sym q.0)) ∙ h.1 in
                    let same : own.known.entry ≡ h.0 = some_same own.known.entry h.0 (sym own.known.at ∙ at) in
                    let past : s.moment ≤ h.0.clock = subst (λ (z : MemberClock). s.moment ≤ z.clock) same own.past in
                    let lease = q.1 in
                    omega arith)
              ]);
          parts = λ p i. (grown p.member (l.book.parts p i)).known;
          numbers = l.book.numbers;
          counted = l.book.counted;
          sent = λ i x t e g. (
              let old = l.book.sent i x t e g in
              let new = grown (named_in x) old.known in
              record { boot = old.boot; known = new.known; past = (let low = old.past in let clock = new.clock in omega arith) });
          over = λ p m i at over. (
              let old = l.book.parts p i in
              let new = grown p.member old in
              let same : new.known.entry ≡ m = some_same new.known.entry m (sym new.known.at ∙ at) in
              let late : 5000 ≤ new.known.entry.clock - new.known.entry.lease = leb-true _ _ (subst (λ (z : MemberClock). has_ended z.lease z.clock ≡ true) (sym same) over) in
              let clock = new.clock in
              l.book.over p old.entry i old.at (le-leb _ _ (elim new.lease [ inl q ↦ omega arith | inr q ↦ (let lease = q.1 in omega arith) ])));
        };
        heard = λ j i. (
            let h = l.heard j i in
            let new = grown j.host.member h.known in
            let clock = new.clock in
            let low = h.lease in
            record {
              known = new.known;
              lease = elim new.lease [
                | inl q ↦ omega arith
                | inr q ↦ (let told = h.told k n a s told kept (sym own.boot ∙ boot ∙ sym q.0) in let lease = q.1 in omega arith)
              ];
              told = λ x m b t e g q. (let told = h.told x m b t e g q in omega arith);
            });
      }

  -- the message that is a reply
  reply_is : (x : Message) → is_reply (Some (asks x)) ≡ true → (n : Member) × (a : Answer) × (x ≡ Tells n a)
  reply_is (Asks r) e = absurd (cc)
  reply_is (Tells n a) e = (n, a, refl)

  answer_at : (c : LeasedCluster) (k : ℕ) (o : Option Message) → slice_get c.world.messages k ≡ o → Sound c → is_reply (option_map asks o) ≡ true → Sound (record { world = c.world; book = record (c.book) { members = leases_extended c.book.members (sent_at c.book.sent (suc k)) } })
  answer_at c k None e l r = absurd (cc)
  answer_at c k (Some x) e l r =
      let h = reply_is x r in
      let told : slice_get c.world.messages k ≡ Some (Tells h.0 h.1) = e ∙ ap Some h.2 in
      let s = get_some c.book.sent k (let low = get_low c.world.messages k x e in let n = l.book.counted in omega arith) in
      subst (λ (z : Sent). Sound (record { world = c.world; book = record (c.book) { members = leases_extended c.book.members z } })) (sym (ap sent_in s.1)) (go s.0 s.1 s.0.boot refl)
    where
      told' : slice_get c.world.messages k ≡ Some (Tells (reply_is x r).0 (reply_is x r).1)
      told' = e ∙ ap Some (reply_is x r).2

      go : (s : Sent) → slice_get c.book.sent k ≡ Some s → (boot : ℕ) → s.boot ≡ boot → Sound (record { world = c.world; book = record (c.book) { members = extended_of c.book.members boot s.moment } })
      go s kept zero b = l
      go s kept (suc place) b = extend_leased c k (reply_is x r).0 (reply_is x r).1 s place l told' kept b

  pub answer_kept : (c : LeasedCluster) (k : ℕ) → Sound c → Sound (answered c k).cluster
  answer_kept c k l = cond_both (is_reply (asks_at c.world.messages k)) _ _ (λ (s : LeasedStep). Sound s.cluster) (λ r. go k r) (λ _. l)
    where
      go : (k : ℕ) → is_reply (asks_at c.world.messages k) ≡ true → Sound (record c { book = record (c.book) { members = leases_extended c.book.members (sent_at c.book.sent k) } })
      go zero r = absurd (cc)
      go (suc k) r = answer_at c k (slice_get c.world.messages k) refl l r
