-- The book has, for each call, the boot of the member that it asks.
use Rattle.std.proofs.Common.{◌≡◌, ◌⊎◌, ℕ, zero, suc, ◌+◌, ◌<◌, ◌≤◌, Bool, true, false, cond, List, [], ◌∷◌, ◌++◌, length, set, Option, None, Some, refl, sym, ap, ◌∙◌, subst, inl, inr, arith}
use Rattle.std.specs.Prelude.{nat_le, nat_lt, slice_get, ◌==◌, ◌||◌, Result, Ok, Err}
use Rattle.std.proofs.lemmas.Bool.{cond_both, cond-true, cond-false, le-ltb, lt-ltb}
use Rattle.actor_names.specs.declared.member.Member.{Member}
use Rattle.actor_names.specs.declared.actor_key.ActorKey.{ActorKey}
use Rattle.place_table.specs.declared.host.HostInfo.{HostInfo}
use Rattle.place_table.specs.Hosts.{PlacementTable}
use Rattle.turn_core.specs.CellSound.{In}
use Rattle.part_model.specs.declared.event.PartEvent.{PartEvent}
use Rattle.part_model.specs.Receipts.{PartReply}
use Rattle.part_model.specs.declared.event.Reply.TheVariants as replies
use Rattle.part_model.specs.Part.{PartState, PartStep, part_step}
use Rattle.part_model.proofs.PartTables.{part_stepped}
use Rattle.world_events.specs.declared.event.WorldEvent.{WorldEvent}
use Rattle.world_events.specs.declared.event.WorldEvent.TheVariants as lines
use Rattle.world_events.specs.declared.outcome.Outcome.{Outcome}
use Rattle.world_events.specs.declared.error.WorldError.{WorldError}
use Rattle.world_events.specs.declared.settings.WorldSettings.{WorldSettings}
use Rattle.cluster_model.specs.Invariant.{IsSafeWorld}
use Rattle.cluster_model.specs.Spaces.{KeepsToSpace}
use Rattle.cluster_model.specs.World as world
use Rattle.cluster_model.specs.World.{ClusterState, WorldStep, CallPlace, most_events, place_of_call, ask_of, the_call, call_at}
use Rattle.cluster_model.proofs.Basics.{In-slice_get}
use Rattle.cluster_model.proofs.Lines.{AreQuietKept, IsNoCall, quiet_line}
use Rattle.cluster_model.proofs.Named.{same_place}
use Rattle.cluster_model.proofs.Runs.{get-left}
use Rattle.cluster_model.proofs.SpaceParts.{backed}
use Rattle.cluster_model.proofs.Worlds.{safe_kept}
use Rattle.lease_core.specs.declared.event.LeaseEvent.{LeaseEvent}
use Rattle.lease_core.specs.declared.event.LeaseEvent.TheVariants as events
use Rattle.lease_core.specs.Lease.{bad_rate}
use Rattle.lease_core.specs.Book.{LeaseBook, asked_at, boot_in, place_of, moment_of, is_past, any_past, moved, stops_for}
use Rattle.lease_core.specs.Leased.{LeasedCluster, LeasedStep, opening_leased, is_at, is_reply, answered, step_noted, stepped, passed, passes, leased_step, leased_run, IsBookOf}
use Rattle.world_run.specs.Looks.{asks_at}
use Rattle.lease_core.proofs.Lists.{AreStops, stops_are, some_same, get_pushed, get_kept, get_last, get_low, length_pushed}
use Rattle.lease_core.proofs.Leases.{IsLeased}
use Rattle.lease_core.proofs.Quiet.{refused_rests}
use Rattle.lease_core.proofs.Laws.{step_leased, opening_sound, reached_leased}

-- a part that takes a step stays where it is, and the others do
get_set_member : (ps : List PartState) (n : ℕ) (p q : PartState) → slice_get ps n ≡ Some p → q.member ≡ p.member → (k : ℕ) (x : PartState) → slice_get ps k ≡ Some x → (y : PartState) × (slice_get (set ps n q) k ≡ Some y) × (y.member ≡ x.member)
get_set_member [] n p q at same k x e = absurd (cc)
get_set_member (z ∷ ps) zero p q at same zero x e = (q, refl, same ∙ ap (λ (y : PartState). y.member) (sym (some_same z p at) ∙ some_same z x e))
get_set_member (z ∷ ps) zero p q at same (suc k) x e = (x, e, refl)
get_set_member (z ∷ ps) (suc n) p q at same zero x e = (x, e, refl)
get_set_member (z ∷ ps) (suc n) p q at same (suc k) x e = get_set_member ps n p q at same k x e

module _ (owner : PlacementTable → ActorKey → Option HostInfo) (part_of : ActorKey → ℕ → ℕ) where
  -- the calls are the same, and each part stands where it stood
  pub record KeepsPlaces (u w : ClusterState) : Type 0 where
    pub safe : IsSafeWorld owner w
    pub calls : w.calls ≡ u.calls
    pub places : (n : ℕ) (p : PartState) → slice_get u.parts n ≡ Some p → (q : PartState) × (slice_get w.parts n ≡ Some q) × (q.member ≡ p.member)

  places_self : (w : ClusterState) → IsSafeWorld owner w → KeepsPlaces w w
  places_self w safe = record { safe = safe; calls = refl; places = λ n p e. (p, e, refl) }

  places_kept : (u : ClusterState) → AreQuietKept owner part_of (KeepsPlaces u)
  places_kept u =
      let kept = safe_kept owner part_of in
      record {
        safe = λ w t. t.safe;
        other = λ w now events t. record { safe = kept.other w now w.calls events t.safe; calls = t.calls; places = t.places };
        step = λ w n p e t at heard quiet.
            let st = part_stepped owner p e (backed owner w t.safe p (In-slice_get w.parts n p at)).sound in
            record {
              safe = kept.step w n p e t.safe at heard (λ k a. absurd (quiet k a));
              calls = t.calls;
              places = λ k x g. (
                  let h = t.places k x g in
                  let y = get_set_member w.parts n p (part_step owner p e).part at st.member k h.0 h.1 in
                  (y.0, y.1, y.2 ∙ h.2));
            };
        ask = λ w r t may booted. record { safe = kept.ask w r t.safe may booted; calls = t.calls; places = t.places };
        answer = λ w r t i. record { safe = kept.answer w r t.safe i; calls = t.calls; places = t.places };
        change = λ w e t h. record { safe = kept.change w e t.safe h; calls = t.calls; places = t.places };
        restart = λ w t. record { safe = kept.restart w t.safe; calls = t.calls; places = t.places };
        boot = λ w m kinds fresh t. record {
          safe = kept.boot w m kinds fresh t.safe;
          calls = t.calls;
          places = λ k x g. (let h = t.places k x g in (h.0, get-left w.parts (world.new_parts m (world.settings_for w.settings kinds) 0 w.settings.parts) k h.0 h.1, h.2));
        };
      }

  -- each call that was taken stands at a part, and the book has the boot of the part's member
  pub record IsAsked (w : ClusterState) (askers : List ℕ) : Type 0 where
    pub counted : length askers ≡ length w.calls
    pub asked : (k : ℕ) (x : CallPlace) → slice_get w.calls k ≡ Some (Some x) → (p : PartState) × (slice_get w.parts x.place ≡ Some p) × (slice_get askers k ≡ Some p.member.boot)

  asked_on : (u w : ClusterState) (askers : List ℕ) → IsAsked u askers → KeepsPlaces u w → IsAsked w askers
  asked_on u w askers a t =
      record {
        counted = a.counted ∙ ap length (sym t.calls);
        asked = λ k x e. (
            let h = a.asked k x (ap (λ (cs : List (Option CallPlace)). slice_get cs k) (sym t.calls) ∙ e) in
            let q = t.places x.place h.0 h.1 in
            (q.0, q.1, h.2 ∙ ap (λ (m : Member). Some m.boot) (sym q.2)));
      }

  askers_same : (askers : List ℕ) (boot : ℕ) (calls : List (Option CallPlace)) → length askers ≡ length calls → cond (nat_lt (length askers) (length calls)) (askers ++ boot ∷ []) askers ≡ askers
  askers_same askers boot calls e = cond-false _ _ _ (le-ltb (length askers) (length calls) (omega arith))

  -- the book's calls after an event that leads to a world
  abbrev askers_after : ClusterState → List ℕ → ℕ → List ℕ
  askers_after w askers boot = cond (nat_lt (length askers) (length w.calls)) (askers ++ boot ∷ []) askers

  same_asked : (u w : ClusterState) (askers : List ℕ) (boot : ℕ) → IsAsked u askers → KeepsPlaces u w → IsAsked w (askers_after w askers boot)
  same_asked u w askers boot a t =
      let b = asked_on u w askers a t in subst (IsAsked w) (sym (askers_same askers boot w.calls b.counted)) b

  -- a call that was taken
  took_place : (n : ℕ) (r : PartReply) (x : CallPlace) → place_of_call n r ≡ Some x → x.place ≡ n
  took_place n (replies.Begun call chain) x e = (let s = some_same _ x e in ap (λ (z : CallPlace). z.place) (sym s))
  took_place n (replies.Waits call place) x e = (let s = some_same _ x e in ap (λ (z : CallPlace). z.place) (sym s))
  took_place n r x e = absurd (cc)

  call_asked : (w : ClusterState) (askers : List ℕ) (number n : ℕ) (m : Member) (e : PartEvent) (i : ℕ) → IsSafeWorld owner w → IsAsked w askers → world.place_of_part w.parts m i ≡ Some n → (found : Option PartState) → slice_get w.parts n ≡ found →
      let u = (world.call_of_part owner part_of w number n e found).world in IsAsked u (askers_after u askers m.boot)
  call_asked w askers number n m e i safe a is None at = same_asked w w askers m.boot a (places_self w safe)
  call_asked w askers number n m e i safe a is (Some p) at =
      let q : PartStep = part_step owner p e in
      let st = part_stepped owner p e (backed owner w safe p (In-slice_get w.parts n p at)).sound in
      let member : q.part.member ≡ m = st.member ∙ (same_place w.parts m i n p is at).0 in
      let u = (world.call_of_part owner part_of w number n e (Some p)).world in
      let more : length u.calls ≡ suc (length w.calls) = length_pushed w.calls (place_of_call n q.reply) in
      let grown : askers_after u askers m.boot ≡ askers ++ m.boot ∷ [] = cond-true _ _ _ (lt-ltb (length askers) (length u.calls) (let c = a.counted in omega arith)) in
      let keep : (k : ℕ) (x : PartState) → slice_get w.parts k ≡ Some x → (y : PartState) × (slice_get u.parts k ≡ Some y) × (y.member ≡ x.member) = get_set_member w.parts n p q.part at st.member in
      subst (IsAsked u) (sym grown)
      (record {
        counted = length_pushed askers m.boot ∙ ap suc a.counted ∙ sym more;
        asked = λ k x g. elim (get_pushed w.calls (place_of_call n q.reply) k (Some x) g) [
          | inl old ↦ (
              let h = a.asked k x old in
              let y = keep x.place h.0 h.1 in
              (y.0, y.1, get_kept askers m.boot k h.0.member.boot h.2 ∙ ap (λ (z : Member). Some z.boot) (sym y.2)))
          | inr new ↦ (
              let place : x.place ≡ n = took_place n q.reply x (sym new.1) in
              let y = keep n p at in
              let last : slice_get (askers ++ m.boot ∷ []) k ≡ Some m.boot = (let s : k ≡ length askers = new.0 ∙ sym a.counted in ap (λ (j : ℕ). slice_get (askers ++ m.boot ∷ []) j) s ∙ get_last askers m.boot) in
              (y.0, ap (slice_get u.parts) place ∙ y.1, last ∙ ap (λ (z : Member). Some z.boot) (sym (y.2 ∙ sym st.member ∙ member))))
        ];
      })

  call_event : (w : ClusterState) (askers : List ℕ) (number : ℕ) (m : Member) (key : ActorKey) (least : ℕ) (chain : Option (List ℕ)) → IsSafeWorld owner w → IsAsked w askers →
      let u = (world.happens owner part_of w (lines.Call number m key least chain)).world in IsAsked u (askers_after u askers m.boot)
  call_event w askers number m key least chain safe a =
      cond_both (number == suc (length w.calls)) _ _ (λ (s : WorldStep). IsAsked s.world (askers_after s.world askers m.boot))
      (λ _. go (world.key_place_of owner part_of w m key) refl)
      (λ _. same_asked w w askers m.boot a (places_self w safe))
    where
      go : (o : Option ℕ) → world.key_place_of owner part_of w m key ≡ o → let u = (world.call_at_place owner part_of w number (ask_of key least chain w.now) o).world in IsAsked u (askers_after u askers m.boot)
      go None is = same_asked w w askers m.boot a (places_self w safe)
      go (Some n) is = call_asked w askers number n m (ask_of key least chain w.now) (part_of key w.settings.parts) safe a is (slice_get w.parts n) refl

  plain_event : (w : ClusterState) (askers : List ℕ) (boot : ℕ) (e : WorldEvent) → IsNoCall owner part_of e → IsSafeWorld owner w → IsAsked w askers → let u = (world.happens owner part_of w e).world in IsAsked u (askers_after u askers boot)
  plain_event w askers boot e plain safe a = same_asked w (world.happens owner part_of w e).world askers boot a (quiet_line owner part_of (KeepsPlaces w) (places_kept w) w e plain (places_self w safe))

  -- what happens at an event, by the boot that the book has for it
  event_asked : (w : ClusterState) (b : LeaseBook) (e : WorldEvent) → IsSafeWorld owner w → IsAsked w b.askers → let u = (world.happens owner part_of w e).world in IsAsked u (askers_after u b.askers (place_of b e))
  event_asked w b (lines.Call number m key least chain) safe a = call_event w b.askers number m key least chain safe a
  event_asked w b e safe a = plain_event w b.askers (place_of b e) e tt safe a

  stops_keep : (w : ClusterState) (es : List WorldEvent) → AreStops es → (u : ClusterState) → KeepsPlaces u w → KeepsPlaces u (world.cluster_run owner part_of w es)
  stops_keep w [] are u t = t
  stops_keep w (e ∷ es) are u t =
      let s = are e (inl refl) in
      stops_keep (world.cluster_step owner part_of w e).world es (λ x i. are x (inr i)) u
      (subst (λ (x : WorldEvent). KeepsPlaces u (world.cluster_step owner part_of w x).world) (sym s.2)
      (cond_both (nat_le most_events w.events) _ _ (λ (x : WorldStep). KeepsPlaces u x.world)
      (λ _. t)
      (λ _.
      let line : WorldEvent = lines.Stop s.0 s.1 in
      let h = world.happens owner part_of w line in
      (places_kept u).other h.world h.world.now (h.world.events + world.weight_of h.outcome) (quiet_line owner part_of (KeepsPlaces u) (places_kept u) w line tt t))))

  module _ (keeps : KeepsToSpace owner) where
    abbrev Asked : LeasedCluster → Type 0
    Asked c = IsAsked c.world c.book.askers

    -- another moment and another count of events change nothing of it
    recounted : (w : ClusterState) (askers : List ℕ) (now events : ℕ) → IsAsked w askers → IsAsked (record w { now = now; events = events }) askers
    recounted w askers now events a = record { counted = a.counted; asked = a.asked }

    -- the world at the moment of an event
    abbrev at : LeasedCluster → WorldEvent → ClusterState
    at c e = record (c.world) { now = moment_of c.book e }

    at_safe : (c : LeasedCluster) (e : WorldEvent) → IsSafeWorld owner c.world → IsSafeWorld owner (at c e)
    at_safe c e safe = (safe_kept owner part_of).other c.world (moment_of c.book e) c.world.calls c.world.events safe

    noted_asked : (c : LeasedCluster) (e : WorldEvent) → IsSafeWorld owner c.world → Asked c → (r : Result Outcome WorldError) → (world.happens owner part_of (at c e) e).outcome ≡ r → (events : ℕ) →
        Asked (step_noted c e (record ((world.happens owner part_of (at c e) e).world) { now = c.world.now; events = events }) r).cluster
    noted_asked c e safe a (Ok o) is events =
        let h = world.happens owner part_of (at c e) e in
        recounted h.world (askers_after h.world c.book.askers (place_of c.book e)) c.world.now events (event_asked (at c e) c.book e (at_safe c e safe) (recounted c.world c.book.askers (moment_of c.book e) c.world.events a))
    noted_asked c e safe a (Err x) is events =
        subst (λ (z : ClusterState). IsAsked (record z { now = c.world.now; events = events }) c.book.askers) (sym (refused_rests owner part_of (at c e) e x is).0) (recounted c.world c.book.askers c.world.now events a)

    stepped_asked : (c : LeasedCluster) (e : WorldEvent) → IsSafeWorld owner c.world → Asked c → Asked (stepped owner part_of c e).cluster
    stepped_asked c e safe a =
        cond_both (is_at e) _ _ (λ (s : LeasedStep). Asked s.cluster)
        (λ _. a)
        (λ _. cond_both (nat_le most_events c.world.events) _ _ (λ (s : WorldStep). Asked (step_noted c e (record (s.world) { now = c.world.now }) s.outcome).cluster)
        (λ _. a)
        (λ _. let h = world.happens owner part_of (at c e) e in noted_asked c e safe a h.outcome refl (h.world.events + world.weight_of h.outcome)))

    passes_asked : (c : LeasedCluster) (placement : ℕ) (steps : List ℕ) → IsSafeWorld owner c.world → Asked c → (o : Option ℕ) → Asked (passes owner part_of c placement steps o).cluster
    passes_asked c placement steps safe a (Some k) = a
    passes_asked c placement steps safe a None =
        let es = stops_for c.world.settings.parts (moved steps c.book.members) in
        cond_both (is_past c.book.clock placement || any_past steps c.book.members) _ _ (λ (s : LeasedStep). Asked s.cluster)
        (λ _. a)
        (λ _. cond_both (nat_lt most_events (c.world.events + length es)) _ _ (λ (s : LeasedStep). Asked s.cluster)
        (λ _. a)
        (λ _. asked_on c.world (world.cluster_run owner part_of c.world es) c.book.askers a (stops_keep c.world es (stops_are c.world.settings.parts (moved steps c.book.members)) c.world (places_self c.world safe))))

    step_asked : (c : LeasedCluster) (e : LeaseEvent) → IsSafeWorld owner c.world → Asked c → Asked (leased_step owner part_of c e).cluster
    step_asked c (events.Pass placement steps) safe a = passes_asked c placement steps safe a (bad_rate placement steps (length c.book.members))
    step_asked c (events.Step e) safe a = stepped_asked c e safe a
    step_asked c (events.Answer k) safe a = cond_both (is_reply (asks_at c.world.messages k)) _ _ (λ (s : LeasedStep). Asked s.cluster) (λ _. a) (λ _. a)

    run_asked : (c : LeasedCluster) → IsLeased owner part_of c → Asked c → (es : List LeaseEvent) → Asked (leased_run owner part_of c es)
    run_asked c l a [] = a
    run_asked c l a (e ∷ es) = run_asked (leased_step owner part_of c e).cluster (step_leased owner part_of keeps c l e) (step_asked c e l.told.safe a) es

    -- the book is that of the world
    pub run_book : (settings : WorldSettings) (es : List LeaseEvent) → IsBookOf (leased_run owner part_of (opening_leased settings) es).world (leased_run owner part_of (opening_leased settings) es).book
    run_book settings es =
        let c = leased_run owner part_of (opening_leased settings) es in
        let l = reached_leased owner part_of keeps settings es in
        let a = run_asked (opening_leased settings) (opening_sound owner part_of keeps settings) (record { counted = refl; asked = λ k x e. absurd (cc) }) es in
        record {
          members = l.book.many;
          boots = l.book.boots;
          sent = l.book.counted;
          senders = λ k x s e g. (l.book.sent k x s e g).boot;
          calls = a.counted;
          asked = λ call x e. by_number c a call x e;
        }
      where
        by_number : (c : LeasedCluster) → Asked c → (call : ℕ) (x : CallPlace) → call_at c.world.calls call ≡ Some x → (p : PartState) × (slice_get c.world.parts x.place ≡ Some p) × (asked_at c.book.askers call ≡ p.member.boot)
        by_number c a zero x e = absurd (cc)
        by_number c a (suc k) x e = go (slice_get c.world.calls k) refl e
          where
            go : (o : Option (Option CallPlace)) → slice_get c.world.calls k ≡ o → the_call o ≡ Some x → (p : PartState) × (slice_get c.world.parts x.place ≡ Some p) × (asked_at c.book.askers (suc k) ≡ p.member.boot)
            go None is e = absurd (cc)
            go (Some None) is e = absurd (cc)
            go (Some (Some y)) is e =
                let same : y ≡ x = some_same y x e in
                let h = a.asked k x (is ∙ ap (λ (z : CallPlace). Some (Some z)) same) in
                (h.0, h.1, ap boot_in h.2)
