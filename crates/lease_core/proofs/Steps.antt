-- Each event keeps what holds of a leased cluster.
use Rattle.std.proofs.Common.{◌≡◌, ◌⊎◌, ℕ, zero, suc, ◌+◌, ◌-◌, ◌*◌, ◌<◌, ◌≤◌, max, Bool, true, false, cond, List, [], ◌∷◌, ◌++◌, length, Option, None, Some, refl, sym, ap, ◌∙◌, subst, inl, inr, arith}
use Rattle.std.specs.Prelude.{nat_le, nat_lt, slice_get, ◌==◌, ◌||◌, Result, Ok, Err}
use Rattle.std.proofs.lemmas.Bool.{cond_both, cond-true, cond-false, le-ltb, lt-ltb, ltb-false, true≢false, false≢true}
use Rattle.actor_names.specs.declared.member.Member.{Member}
use Rattle.actor_names.specs.declared.actor_key.ActorKey.{ActorKey}
use Rattle.place_table.specs.declared.host.HostInfo.{HostInfo}
use Rattle.place_table.specs.Hosts.{PlacementTable}
use Rattle.turn_core.specs.CellSound.{In}
use Rattle.part_model.specs.declared.stage.Stage.TheVariants.{Stopped}
use Rattle.part_model.specs.declared.settings.TypeSettings.{TypeSettings}
use Rattle.part_model.specs.Part.{PartState, new_part}
use Rattle.part_model.specs.declared.ack.Ack as declared
use Rattle.part_model.specs.Acks.{collected, are_stopped}
use Rattle.member_roster.specs.Members.{Joined, hosts_of}
use Rattle.round_core.specs.declared.event.PlaceEvent.{PlaceEvent}
use Rattle.round_core.specs.declared.event.PlaceEvent.TheVariants as changes
use Rattle.round_core.specs.Room.{RoomState}
use Rattle.placement_core.specs.Placement.{SpaceRoom, PlacementState, room_of, late_in, placement_step, placement_restarted}
use Rattle.world_events.specs.declared.settings.WorldSettings.{WorldSettings}
use Rattle.world_events.specs.declared.event.WorldEvent.{WorldEvent}
use Rattle.world_events.specs.declared.event.WorldEvent.TheVariants as lines
use Rattle.world_events.specs.declared.outcome.Outcome.{Outcome}
use Rattle.world_events.specs.declared.error.WorldError.{WorldError}
use Rattle.cluster_model.specs.Messages.{Request, Register, Beat, Ack, Leave, Answer, Message, Asks, Tells, named_in, change_of, asker_of}
use Rattle.cluster_model.specs.Spaces.{KeepsToSpace}
use Rattle.cluster_model.specs.World as world
use Rattle.cluster_model.specs.World.{ClusterState, WorldStep, most_events}
use Rattle.cluster_model.proofs.Basics.{In-append, In-right, In-slice_get}
use Rattle.turn_core.proofs.Elements.{In-left}
use Rattle.cluster_model.proofs.Boots.{In-new_parts, number-new_parts}
use Rattle.cluster_model.proofs.Lines.{line_kept}
use Rattle.cluster_model.proofs.Named.{booted_part}
use Rattle.cluster_model.proofs.Runs.{IsToldWorld, told_kept}
use Rattle.cluster_model.proofs.SpaceParts.{backed}
use Rattle.lease_core.specs.declared.book.MemberClock.{MemberClock}
use Rattle.lease_core.specs.declared.book.Sent.{Sent}
use Rattle.lease_core.specs.Lease.{has_ended, bad_rate}
use Rattle.lease_core.specs.Book.{LeaseBook, member_at, clock_in, clock_of, sent_at, sent_in, place_of, moment_of, sent_by, begun_by, with_begun, noted, moved, is_past, any_past, stops_for, extended_at, extended_of, leases_extended}
use Rattle.lease_core.specs.Leased.{LeasedCluster, LeasedStep, refuse, is_at, is_reply, answered, step_noted, stepped, passed, passes, leased_step}
use Rattle.lease_core.proofs.Lists.{IsKnown, one_known, one_member, get_pushed, get_kept, get_last, get_low, get_some, length_pushed, member_kept, member_in, some_same, HasMoved, moved_at, moved_from, moved_length, rates_hold, HasExtended, extended_get, extended_from, extended_length, in_stops, stops_are}
use Rattle.lease_core.proofs.Quiet.{IsQuiet, quiet_rests, refused_rests}
use Rattle.lease_core.proofs.Follows.{IsPlaced, Came, came_self, Follows, follows_self, follows_kept}
use Rattle.lease_core.proofs.Rooms.{Entry, WasMember, WasHeard, Registers, Heard, step_heard, IsRestarted, restart_heard, asker_heard, only_room, of_space}
use Rattle.lease_core.proofs.Stops.{GoesOn, stops_go, run_follows, all_stop}
use Rattle.lease_core.proofs.Leases.{IsSent, IsCovered, IsHeardSince, IsBookSound, IsLeased, heard_now, book_on, sent_more, told_more, NoneTold, heard_on}

-- the sent moments after an event: one more if there is one more message
pub sent_same : (sent : List Sent) (s : Sent) (messages : List Message) → length sent ≡ length messages → cond (nat_lt (length sent) (length messages)) (sent ++ s ∷ []) sent ≡ sent
sent_same sent s messages e = cond-false _ _ _ (le-ltb (length sent) (length messages) (omega arith))

pub sent_pushed : (sent : List Sent) (s : Sent) (messages : List Message) (x : Message) → length sent ≡ length messages → cond (nat_lt (length sent) (length (messages ++ x ∷ []))) (sent ++ s ∷ []) sent ≡ sent ++ s ∷ []
sent_pushed sent s messages x e = cond-true _ _ _ (lt-ltb (length sent) (length (messages ++ x ∷ [])) (let l = length_pushed messages x in omega arith))

module _ (owner : PlacementTable → ActorKey → Option HostInfo) (part_of : ActorKey → ℕ → ℕ) (keeps : KeepsToSpace owner) where
  abbrev pub Sound : LeasedCluster → Type 0
  Sound c = IsLeased owner part_of c

  -- ---- the world after an event, whatever is counted

  -- the world that follows, with another moment and count of events
  pub follows_on : (w u : ClusterState) (now events : ℕ) → Follows owner part_of w u → Follows owner part_of w (record u { now = now; events = events })
  follows_on w u now events f = record { told = (told_kept owner part_of keeps).other u now u.calls events f.told; placed = f.placed; parts = f.parts; boots = f.boots }

  -- nobody has booted: the parts are those before
  pub all_came : (w u : ClusterState) → Follows owner part_of w u → u.boots ≡ w.boots → (p : PartState) → In p u.parts → Came w.parts p
  all_came w u f boots p i = elim (f.parts p i) [
    | inl c ↦ c
    | inr l ↦ absurd (let k = (backed owner u f.told.safe p i).booted in omega arith)
  ]

  -- what a leased cluster is after an event
  abbrev pub next : LeasedCluster → ClusterState → List Sent → List ℕ → LeasedCluster
  next c u sent askers = record { world = u; book = record (c.book) { sent = sent; askers = askers } }

  -- no message is added
  pub same_leased : (c : LeasedCluster) (u : ClusterState) (askers : List ℕ) → Sound c → Follows owner part_of c.world u → u.placement ≡ c.world.placement → u.messages ≡ c.world.messages → u.boots ≡ c.world.boots → u.settings ≡ c.world.settings →
      Sound (next c u c.book.sent askers)
  same_leased c u askers l f placement messages boots settings =
      let d = next c u c.book.sent askers in
      record {
        told = f.told;
        placed = f.placed;
        book = book_on owner part_of c.world u c.book c.book.sent askers l.book (all_came c.world u f boots) boots settings
            (l.book.counted ∙ ap length (sym messages))
            (λ k x s e g. l.book.sent k x s (ap (λ (z : List Message). slice_get z k) (sym messages) ∙ e) g);
        heard = λ j i.
            heard_on owner part_of c d refl refl (λ k n a s e g. (ap (λ (z : List Message). slice_get z k) (sym messages) ∙ e, g)) j.host.member j.heard
            (l.heard j (subst (λ (z : PlacementState). Entry z.rooms j) placement i));
      }

  -- a member that was booted is known
  pub known_booted : (c : LeasedCluster) → Sound c → (m : Member) → world.was_booted c.world.parts m ≡ true → IsKnown c.book.members m
  known_booted c l m b = let h = booted_part c.world.parts m b in subst (IsKnown c.book.members) h.2 (l.book.parts h.0 h.1)

  clock_is : (ms : List MemberClock) (boot : ℕ) (m : MemberClock) → member_at ms boot ≡ Some m → clock_of ms boot ≡ m.clock
  clock_is ms boot m e = ap clock_in e

  pub own_sent : (c : LeasedCluster) (m : Member) → IsKnown c.book.members m → IsSent c.book.members m (record { boot = m.boot; moment = clock_of c.book.members m.boot })
  own_sent c m known = record { boot = refl; known = known; past = (let e = clock_is c.book.members m.boot known.entry known.at in omega arith) }

  -- a request is added
  pub asked_leased : (c : LeasedCluster) (u : ClusterState) (r : Request) (s : Sent) (askers : List ℕ) → Sound c → Follows owner part_of c.world u → u.placement ≡ c.world.placement → u.messages ≡ c.world.messages ++ Asks r ∷ [] → u.boots ≡ c.world.boots →
      u.settings ≡ c.world.settings → IsSent c.book.members (asker_of r) s → Sound (next c u (c.book.sent ++ s ∷ []) askers)
  asked_leased c u r s askers l f placement messages boots settings own =
      let d = next c u (c.book.sent ++ s ∷ []) askers in
      record {
        told = f.told;
        placed = f.placed;
        book = book_on owner part_of c.world u c.book (c.book.sent ++ s ∷ []) askers l.book (all_came c.world u f boots) boots settings
            (length_pushed c.book.sent s ∙ ap suc l.book.counted ∙ sym (length_pushed c.world.messages (Asks r)) ∙ ap length (sym messages))
            (λ k x t e g. sent_more owner part_of c.book.members c.world.messages c.book.sent (Asks r) s l.book.counted own l.book.sent k x t (ap (λ (z : List Message). slice_get z k) (sym messages) ∙ e) g);
        heard = λ j i.
            heard_on owner part_of c d refl refl
            (λ k n a t e g. elim (told_more owner part_of c.world.messages c.book.sent (Asks r) s l.book.counted k (Tells n a) t (ap (λ (z : List Message). slice_get z k) (sym messages) ∙ e) g) [
              | inl h ↦ h
              | inr h ↦ absurd (tells_asks n a r h.0)
            ]) j.host.member j.heard
            (l.heard j (subst (λ (z : PlacementState). Entry z.rooms j) placement i));
      }
    where
      tells_asks : (n : Member) (a : Answer) (r : Request) → Tells n a ≡ Asks r → ⊥
      tells_asks n a r e = cc

  -- ---- a boot

  get_none : {A : Type 0} (xs : List A) → slice_get xs (length xs) ≡ None
  get_none [] = refl
  get_none (x ∷ xs) = get_none xs

  -- who boots, as the world and as the book have it
  abbrev pub booted : LeasedCluster → List ℕ → List ℕ → Member
  booted c space node = record { space = space; node = node; boot = suc c.world.boots }

  abbrev pub fresh : LeasedCluster → List ℕ → List ℕ → MemberClock
  fresh c space node = record { member = record { space = space; node = node; boot = suc (length c.book.members) }; clock = 0; lease = 0 }

  abbrev known_kept : (ms : List MemberClock) (y : MemberClock) (m : Member) → IsKnown ms m → IsKnown (ms ++ y ∷ []) m
  known_kept ms y m k = record { entry = k.entry; at = member_kept ms y m.boot k.entry k.at; same = k.same }

  sent_kept : (ms : List MemberClock) (y : MemberClock) (m : Member) (s : Sent) → IsSent ms m s → IsSent (ms ++ y ∷ []) m s
  sent_kept ms y m s t = record { boot = t.boot; known = known_kept ms y m t.known; past = t.past }

  module _ (c : LeasedCluster) (l : Sound c) (space node : List ℕ) where
    abbrev pub M : Member
    M = booted c space node

    abbrev pub grown : List MemberClock
    grown = c.book.members ++ fresh c space node ∷ []

    numbered : suc (length c.book.members) ≡ suc c.world.boots
    numbered = ap suc l.book.many

    fresh_at : member_at grown (suc c.world.boots) ≡ Some (fresh c space node)
    fresh_at = ap (member_at grown) (sym numbered) ∙ get_last c.book.members (fresh c space node)

    fresh_known : IsKnown grown M
    fresh_known = record { entry = fresh c space node; at = fresh_at; same = λ i. record { space = space; node = node; boot = numbered i } }

    fresh_sent : IsSent grown M (record { boot = suc (length c.book.members); moment = clock_of c.book.members (suc (length c.book.members)) })
    fresh_sent =
        record {
          boot = numbered;
          known = fresh_known;
          past = (let e : clock_of c.book.members (suc (length c.book.members)) ≡ 0 = ap clock_in (get_none c.book.members) in omega arith);
        }

    pub boot_leased : (u : ClusterState) (kinds : List (List ℕ)) (settings : List TypeSettings) (askers : List ℕ) → Follows owner part_of c.world u → u.placement ≡ c.world.placement → u.messages ≡ c.world.messages ++ Asks (Register (world.host_of M kinds)) ∷ [] →
        u.parts ≡ c.world.parts ++ world.new_parts M settings 0 c.world.settings.parts → u.boots ≡ suc c.world.boots → u.settings ≡ c.world.settings →
        Sound (record {
          world = u;
          book = record {
            clock = c.book.clock;
            members = grown;
            sent = c.book.sent ++ record { boot = suc (length c.book.members); moment = clock_of c.book.members (suc (length c.book.members)) } ∷ [];
            askers = askers;
          };
        })
    boot_leased u kinds settings askers f placement messages parts boots same =
        let s : Sent = record { boot = suc (length c.book.members); moment = clock_of c.book.members (suc (length c.book.members)) } in
        let x : Message = Asks (Register (world.host_of M kinds)) in
        let which : (p : PartState) → In p u.parts → In p c.world.parts ⊎ ((p.member ≡ M) × (p.number < c.world.settings.parts)) = λ p i.
        (elim (In-append c.world.parts (world.new_parts M settings 0 c.world.settings.parts) p (subst (λ (z : List PartState). In p z) parts i)) [
          | inl j ↦ inl j
          | inr j ↦ (
              let h = In-new_parts M settings 0 c.world.settings.parts p j in
              let n = number-new_parts M settings 0 c.world.settings.parts p j in
              inr (ap (λ (z : PartState). z.member) h.1, omega arith))
        ]) in
        record {
          told = f.told;
          placed = f.placed;
          book = record {
            many = length_pushed c.book.members (fresh c space node) ∙ ap suc l.book.many ∙ sym boots;
            boots = λ k m e. elim (get_pushed c.book.members (fresh c space node) k m e) [
              | inl a ↦ l.book.boots k m a
              | inr a ↦ ap (λ (z : MemberClock). z.member.boot) a.1 ∙ ap suc (sym a.0)
            ];
            within = λ k m e. elim (get_pushed c.book.members (fresh c space node) k m e) [
              | inl a ↦ l.book.within k m a
              | inr a ↦ subst (λ (z : MemberClock). z.lease ≤ z.clock) (sym a.1) (omega arith)
            ];
            parts = λ p i. elim (which p i) [
              | inl j ↦ known_kept c.book.members (fresh c space node) p.member (l.book.parts p j)
              | inr j ↦ subst (IsKnown grown) (sym j.0) fresh_known
            ];
            numbers = λ p i. (
                let e : u.settings.parts ≡ c.world.settings.parts = ap (λ (z : WorldSettings). z.parts) same in
                elim (which p i) [ inl j ↦ (let low = l.book.numbers p j in omega arith) | inr j ↦ (let low = j.1 in omega arith) ]);
            counted = length_pushed c.book.sent s ∙ ap suc l.book.counted ∙ sym (length_pushed c.world.messages x) ∙ ap length (sym messages);
            sent = λ k y t e g. sent_more owner part_of grown c.world.messages c.book.sent x s l.book.counted fresh_sent
                (λ k y t e g. sent_kept c.book.members (fresh c space node) (named_in y) t (l.book.sent k y t e g)) k y t (ap (λ (z : List Message). slice_get z k) (sym messages) ∙ e) g;
            over = λ p m i at over. elim (which p i) [
              | inl j ↦ (
                  let known = l.book.parts p j in
                  let e : known.entry ≡ m = some_same known.entry m (sym (member_kept c.book.members (fresh c space node) p.member.boot known.entry known.at) ∙ at) in
                  l.book.over p m j (subst (λ (z : MemberClock). member_at c.book.members p.member.boot ≡ Some z) e known.at) over)
              | inr j ↦ (
                  let e : fresh c space node ≡ m = some_same (fresh c space node) m (sym fresh_at ∙ ap (λ (z : Member). member_at grown z.boot) (sym j.0) ∙ at) in
                  absurd (false≢true (subst (λ (z : MemberClock). has_ended z.lease z.clock ≡ true) (sym e) over)))
            ];
          };
          heard = λ j i.
              let h = l.heard j (subst (λ (z : PlacementState). Entry z.rooms j) placement i) in
              record {
                known = known_kept c.book.members (fresh c space node) j.host.member h.known;
                lease = h.lease;
                told = λ k n a t e g q. elim (told_more owner part_of c.world.messages c.book.sent x s l.book.counted k (Tells n a) t (ap (λ (z : List Message). slice_get z k) (sym messages) ∙ e) g) [
                  | inl b ↦ h.told k n a t b.0 b.1 q
                  | inr b ↦ absurd (let z = b.0 in cc)
                ];
              };
        }

  -- ---- the placement takes a step

  same_heard : (c : LeasedCluster) (m n : Member) (a b : ℕ) → m ≡ n → a ≡ b → IsHeardSince c n b → IsHeardSince c m a
  same_heard c m n a b e f h = subst (λ (z : Member). IsHeardSince c z a) (sym e) (subst (λ (z : ℕ). IsHeardSince c n z) (sym f) h)

  was_known : (c : LeasedCluster) → Sound c → (m : Member) → WasMember c.world.placement.rooms m → IsKnown c.book.members m
  was_known c l m w = subst (IsKnown c.book.members) (sym w.member) (l.heard w.entry w.there).known

  registers : (r : Request) (h : HostInfo) → change_of r ≡ changes.Register h → asker_of r ≡ h.member
  registers (Register host) h e = (let q : host ≡ h = cc in ap (λ (z : HostInfo). z.member) q)
  registers r h e = absurd (cc)

  -- a `lost`, and a Tick
  pub change_leased : (c : LeasedCluster) (u : ClusterState) (e : PlaceEvent) (askers : List ℕ) → Sound c → Follows owner part_of c.world u → u.placement ≡ (placement_step c.world.placement e c.book.clock).state → ((h : HostInfo) → e ≡ changes.Register h → ⊥) →
      u.messages ≡ c.world.messages → u.boots ≡ c.world.boots → u.settings ≡ c.world.settings → Sound (next c u c.book.sent askers)
  change_leased c u e askers l f placement none messages boots settings =
      let d = next c u c.book.sent askers in
      let sound : IsBookSound owner part_of u d.book = book_on owner part_of c.world u c.book c.book.sent askers l.book (all_came c.world u f boots) boots settings
      (l.book.counted ∙ ap length (sym messages))
      (λ k x s e g. l.book.sent k x s (ap (λ (z : List Message). slice_get z k) (sym messages) ∙ e) g) in
      record {
        told = f.told;
        placed = f.placed;
        book = sound;
        heard = λ j i.
            let there : Entry (placement_step c.world.placement e c.book.clock).state.rooms j = subst (λ (z : PlacementState). Entry z.rooms j) placement i in
            let h = step_heard c.world.placement e c.book.clock there.room j there.here there.inside in
            elim h.when [
              | inl w ↦ same_heard d j.host.member w.entry.host.member j.heard w.entry.heard w.member w.heard
                  (heard_on owner part_of c d refl refl (λ k n a s x g. (ap (λ (z : List Message). slice_get z k) (sym messages) ∙ x, g)) w.entry.host.member w.entry.heard (l.heard w.entry w.there))
              | inr w ↦ same_heard d j.host.member j.host.member j.heard c.book.clock refl w
                  (heard_now owner part_of d sound j.host.member (elim h.who [ inl m ↦ was_known c l j.host.member m | inr m ↦ absurd (none m.0 m.1) ]))
            ];
      }

  pub restart_leased : (c : LeasedCluster) (u : ClusterState) (askers : List ℕ) → Sound c → Follows owner part_of c.world u → u.placement ≡ placement_restarted c.world.placement c.book.clock → u.messages ≡ c.world.messages → u.boots ≡ c.world.boots →
      u.settings ≡ c.world.settings → Sound (next c u c.book.sent askers)
  restart_leased c u askers l f placement messages boots settings =
      let d = next c u c.book.sent askers in
      let sound : IsBookSound owner part_of u d.book = book_on owner part_of c.world u c.book c.book.sent askers l.book (all_came c.world u f boots) boots settings
      (l.book.counted ∙ ap length (sym messages))
      (λ k x s e g. l.book.sent k x s (ap (λ (z : List Message). slice_get z k) (sym messages) ∙ e) g) in
      record {
        told = f.told;
        placed = f.placed;
        book = sound;
        heard = λ j i.
            let there : Entry (placement_restarted c.world.placement c.book.clock).rooms j = subst (λ (z : PlacementState). Entry z.rooms j) placement i in
            let h = restart_heard c.world.placement c.book.clock there.room j there.here there.inside in
            same_heard d j.host.member j.host.member j.heard c.book.clock refl h.heard (heard_now owner part_of d sound j.host.member (was_known c l j.host.member h.who));
      }

  tells_member : (m n : Member) (a b : Answer) → Tells m a ≡ Tells n b → m ≡ n
  tells_member m n a b e = cc

  -- a request is delivered: who asks is heard, and the answer is the next message
  pub deliver_leased : (c : LeasedCluster) (u : ClusterState) (r : Request) (a : Answer) (s : Sent) (askers : List ℕ) → Sound c → Follows owner part_of c.world u → u.placement ≡ (placement_step c.world.placement (change_of r) c.book.clock).state →
      u.messages ≡ c.world.messages ++ Tells (asker_of r) a ∷ [] → u.boots ≡ c.world.boots → u.settings ≡ c.world.settings → IsSent c.book.members (asker_of r) s → Sound (next c u (c.book.sent ++ s ∷ []) askers)
  deliver_leased c u r a s askers l f placement messages boots settings own =
      let d = next c u (c.book.sent ++ s ∷ []) askers in
      let e : PlaceEvent = change_of r in
      let after : PlacementState = (placement_step c.world.placement e c.book.clock).state in
      let sound : IsBookSound owner part_of u d.book = book_on owner part_of c.world u c.book (c.book.sent ++ s ∷ []) askers l.book (all_came c.world u f boots) boots settings
      (length_pushed c.book.sent s ∙ ap suc l.book.counted ∙ sym (length_pushed c.world.messages (Tells (asker_of r) a)) ∙ ap length (sym messages))
      (λ k x t q g. sent_more owner part_of c.book.members c.world.messages c.book.sent (Tells (asker_of r) a) s l.book.counted own l.book.sent k x t (ap (λ (z : List Message). slice_get z k) (sym messages) ∙ q) g) in
      let placed : IsPlaced after = subst IsPlaced placement f.placed in
      record {
        told = f.told;
        placed = f.placed;
        book = sound;
        heard = λ j i.
            let there : Entry after.rooms j = subst (λ (z : PlacementState). Entry z.rooms j) placement i in
            let h = step_heard c.world.placement e c.book.clock there.room j there.here there.inside in
            let known : IsKnown c.book.members j.host.member = elim h.who [
              | inl m ↦ was_known c l j.host.member m
              | inr m ↦ subst (IsKnown c.book.members) (registers r m.0 m.1 ∙ sym m.2) own.known
            ] in
            let asked : j.host.member ≡ asker_of r → j.heard ≡ c.book.clock = λ same.
            (let home : there.room.space ≡ (asker_of r).space = sym (of_space after placed there.room j there.here there.inside) ∙ ap (λ (z : Member). z.space) same in
            asker_heard c.world.placement r c.book.clock ((l.told.safe.spaces (asker_of r).space).reached.distinct) j
            (subst (λ (z : List ℕ). In j (room_of after z).members) home (subst (λ (z : RoomState). In j z.members) (sym (only_room after placed there.room there.here)) there.inside)) same) in
            elim h.when [
              | inl w ↦ (
                  let base = same_heard c j.host.member w.entry.host.member j.heard w.entry.heard w.member w.heard (l.heard w.entry w.there) in
                  record {
                    known = base.known;
                    lease = base.lease;
                    told = λ k n x t q g same. elim (told_more owner part_of c.world.messages c.book.sent (Tells (asker_of r) a) s l.book.counted k (Tells n x) t (ap (λ (z : List Message). slice_get z k) (sym messages) ∙ q) g) [
                      | inl b ↦ base.told k n x t b.0 b.1 same
                      | inr b ↦ (
                          let m : n ≡ asker_of r = tells_member n (asker_of r) x a b.0 in
                          let boot : (asker_of r).boot ≡ j.host.member.boot = ap (λ (z : Member). z.boot) (sym m) ∙ same in
                          let one : j.host.member ≡ asker_of r = sym (one_member c.book.members (asker_of r) j.host.member own.known base.known boot) in
                          let now : j.heard ≡ c.book.clock = asked one in
                          let entry : own.known.entry ≡ base.known.entry = one_known c.book.members (asker_of r) j.host.member own.known base.known boot in
                          let past : t.moment ≤ base.known.entry.clock = subst (λ (z : Sent). z.moment ≤ base.known.entry.clock) (sym b.1) (subst (λ (z : MemberClock). s.moment ≤ z.clock) entry own.past) in
                          omega arith)
                    ];
                  })
              | inr w ↦ same_heard d j.host.member j.host.member j.heard c.book.clock refl w (heard_now owner part_of d sound j.host.member known)
            ];
      }
