-- Over every list of events of a leased cluster.
use Rattle.std.proofs.Common.{◌≡◌, ◌⊎◌, ℕ, zero, suc, ◌+◌, ◌<◌, ◌≤◌, Bool, true, false, not, cond, List, [], ◌∷◌, ◌++◌, length, Option, None, Some, refl, sym, ap, ◌∙◌, subst, inl, inr, arith}
use Rattle.std.specs.Prelude.{nat_le, nat_lt, slice_get, ◌==◌, ◌||◌, Result, Ok, Err}
use Rattle.std.proofs.lemmas.Bool.{cond_both, cond-false, true≢false, and_from}
use Rattle.actor_names.specs.declared.member.Member.{Member}
use Rattle.actor_names.specs.declared.actor_key.ActorKey.{ActorKey}
use Rattle.actor_names.specs.Same.{same_member}
use Rattle.place_table.specs.declared.host.HostInfo.{HostInfo}
use Rattle.place_table.specs.Hosts.{PlacementTable}
use Rattle.turn_core.specs.CellSound.{In}
use Rattle.part_model.specs.declared.stage.Stage.{Stage}
use Rattle.part_model.specs.declared.stage.Stage.TheVariants.{Stopped}
use Rattle.part_model.specs.Part.{PartState, is_stopped}
use Rattle.part_model.specs.declared.ack.Ack as declared
use Rattle.part_model.specs.Acks.{collected, are_stopped}
use Rattle.round_core.specs.declared.event.PlaceEvent.{PlaceEvent}
use Rattle.round_core.specs.declared.event.PlaceEvent.TheVariants as changes
use Rattle.round_core.specs.declared.event.PlaceReply.{PlaceReply}
use Rattle.placement_core.specs.Placement.{SpaceRoom, PlacementState, late_in, placement_step, new_placement}
use Rattle.world_events.specs.declared.settings.WorldSettings.{WorldSettings}
use Rattle.world_events.specs.declared.event.WorldEvent.{WorldEvent}
use Rattle.world_events.specs.declared.event.WorldEvent.TheVariants as lines
use Rattle.world_events.specs.declared.outcome.Outcome.{Outcome}
use Rattle.world_events.specs.declared.error.WorldError.{WorldError}
use Rattle.world_events.specs.declared.error.WorldError.TheVariants as refused
use Rattle.cluster_model.specs.Cluster.{ClusterInvariant}
use Rattle.cluster_model.specs.Invariant.{AllStopped, IsActiveOnce}
use Rattle.cluster_model.specs.Messages.{Request, Register, Beat, Ack, Leave, Message, Asks, Tells, answer_of, change_of, asker_of}
use Rattle.cluster_model.specs.Spaces.{KeepsToSpace}
use Rattle.cluster_model.specs.World as world
use Rattle.cluster_model.specs.World.{ClusterState, WorldStep, most_events, all_stopped, running_among}
use Rattle.cluster_model.proofs.Basics.{same_member-true}
use Rattle.cluster_model.proofs.Clusters.{cluster_invariant}
use Rattle.cluster_model.proofs.Lines.{line_kept}
use Rattle.cluster_model.proofs.Runs.{IsToldWorld}
use Rattle.cluster_model.proofs.SpaceParts.{world_once}
use Rattle.world_run.specs.Moments.{event_at}
use Rattle.lease_core.specs.declared.book.MemberClock.{MemberClock}
use Rattle.lease_core.specs.declared.book.Sent.{Sent}
use Rattle.lease_core.specs.declared.error.LeaseError.{LeaseError}
use Rattle.lease_core.specs.declared.error.LeaseError.TheVariants as errors
use Rattle.lease_core.specs.declared.event.LeaseEvent.{LeaseEvent}
use Rattle.lease_core.specs.declared.event.LeaseEvent.TheVariants as events
use Rattle.lease_core.specs.Causes.{cause_of}
use Rattle.lease_core.specs.Lease.{bad_rate}
use Rattle.lease_core.specs.Book.{LeaseBook, sent_at, sent_in, place_of, moment_of, sent_by, begun_by, with_begun, noted, is_past, any_past, moved, stops_for}
use Rattle.lease_core.specs.Leased.{LeasedCluster, LeasedStep, opening_leased, refuse, is_at, is_reply, answered, step_noted, stepped, passes, leased_step, leased_run, LateAreStopped, OnlyLostIsDishonest}
use Rattle.world_run.specs.Looks.{asks_at}
use Rattle.lease_core.proofs.Lists.{IsKnown, get_some, get_low, some_same}
use Rattle.lease_core.proofs.Quiet.{IsQuiet, quiet_rests, refused_rests}
use Rattle.lease_core.proofs.Follows.{IsPlaced, Follows, follows_self, follows_kept, opening_told}
use Rattle.lease_core.proofs.Leases.{IsSent, IsLeased, late_stopped}
use Rattle.lease_core.proofs.Steps.{sent_same, sent_pushed, next, follows_on, same_leased, asked_leased, own_sent, known_booted, booted, boot_leased, change_leased, restart_leased, deliver_leased}
use Rattle.lease_core.proofs.Passes.{pass_kept, answer_kept}

module _ (owner : PlacementTable → ActorKey → Option HostInfo) (part_of : ActorKey → ℕ → ℕ) (keeps : KeepsToSpace owner) where
  abbrev Sound : LeasedCluster → Type 0
  Sound c = IsLeased owner part_of c

  module _ (c : LeasedCluster) (l : Sound c) (now events : ℕ) where
    -- the world at the moment of an event
    abbrev at : WorldEvent → ClusterState
    at e = record (c.world) { now = moment_of c.book e }

    abbrev ends : ClusterState → ClusterState
    ends u = record u { now = now; events = events }

    -- what the leased cluster is after an event that leads to a world
    abbrev after : WorldEvent → ClusterState → LeasedCluster
    after e u = record { world = ends u; book = noted c.book (begun_by c.book e) (sent_by c.book e) (place_of c.book e) (length u.messages) (length u.calls) }

    abbrev askers_of : WorldEvent → ClusterState → List ℕ
    askers_of e u = cond (nat_lt (length c.book.askers) (length u.calls)) (c.book.askers ++ place_of c.book e ∷ []) c.book.askers

    abbrev Goes : WorldEvent → WorldStep → Type 0
    Goes e s = Follows owner part_of c.world s.world → Sound (after e s.world)

    -- an event that adds no message and boots nobody
    none_after : (e : WorldEvent) (u : ClusterState) → begun_by c.book e ≡ None → u.messages ≡ c.world.messages → Sound (next owner part_of keeps c (ends u) c.book.sent (askers_of e u)) → Sound (after e u)
    none_after e u begun messages h =
        let sent : cond (nat_lt (length c.book.sent) (length u.messages)) (c.book.sent ++ sent_by c.book e ∷ []) c.book.sent ≡ c.book.sent = sent_same c.book.sent (sent_by c.book e) u.messages (l.book.counted ∙ ap length (sym messages)) in
        subst Sound (λ i. record { world = ends u; book = record { clock = c.book.clock; members = with_begun c.book.members (sym begun i); sent = sym sent i; askers = askers_of e u } }) h

    -- one that adds one message
    one_after : (e : WorldEvent) (u : ClusterState) (x : Message) → begun_by c.book e ≡ None → u.messages ≡ c.world.messages ++ x ∷ [] → Sound (next owner part_of keeps c (ends u) (c.book.sent ++ sent_by c.book e ∷ []) (askers_of e u)) → Sound (after e u)
    one_after e u x begun messages h =
        let sent : cond (nat_lt (length c.book.sent) (length u.messages)) (c.book.sent ++ sent_by c.book e ∷ []) c.book.sent ≡ c.book.sent ++ sent_by c.book e ∷ [] =
        ap (λ (ms : List Message). cond (nat_lt (length c.book.sent) (length ms)) (c.book.sent ++ sent_by c.book e ∷ []) c.book.sent) messages ∙ sent_pushed c.book.sent (sent_by c.book e) c.world.messages x l.book.counted in
        subst Sound (λ i. record { world = ends u; book = record { clock = c.book.clock; members = with_begun c.book.members (sym begun i); sent = sym sent i; askers = askers_of e u } }) h

    follows : (u : ClusterState) → Follows owner part_of c.world u → Follows owner part_of c.world (ends u)
    follows u f = follows_on owner part_of keeps c.world u now events f

    same_after : (e : WorldEvent) (u : ClusterState) → begun_by c.book e ≡ None → u.placement ≡ c.world.placement → u.messages ≡ c.world.messages → u.boots ≡ c.world.boots → u.settings ≡ c.world.settings → Follows owner part_of c.world u → Sound (after e u)
    same_after e u begun placement messages boots settings f =
        none_after e u begun messages (same_leased owner part_of keeps c (ends u) (askers_of e u) l (follows u f) placement messages boots settings)

    asked_after : (e : WorldEvent) (r : Request) → begun_by c.book e ≡ None → IsSent c.book.members (asker_of r) (sent_by c.book e) → Goes e (world.added (at e) r)
    asked_after e r begun own f =
        let u = world.with_message (at e) (Asks r) in
        one_after e u (Asks r) begun refl (asked_leased owner part_of keeps c (ends u) r (sent_by c.book e) (askers_of e u) l (follows u f) refl refl refl refl own)

    quiet_after : (e : WorldEvent) → IsQuiet e → begun_by c.book e ≡ None → Goes e (world.happens owner part_of (at e) e)
    quiet_after e q begun f =
        let r = quiet_rests owner part_of (at e) e q in same_after e (world.happens owner part_of (at e) e).world begun r.placement r.messages r.boots r.settings f

    beat_after : (m : Member) → Goes (lines.Beat m) (world.happens owner part_of (at (lines.Beat m)) (lines.Beat m))
    beat_after m =
        cond_both (world.was_booted c.world.parts m) _ _ (Goes (lines.Beat m))
        (λ b. asked_after (lines.Beat m) (Beat m) refl (own_sent owner part_of keeps c m (known_booted owner part_of keeps c l m b)))
        (λ _. same_after (lines.Beat m) (at (lines.Beat m)) refl refl refl refl refl)

    acks_after : (m : Member) (o : Option declared.Ack) → IsKnown c.book.members m → Goes (lines.Collect m) (world.add_ack owner part_of (at (lines.Collect m)) m o)
    acks_after m None known = same_after (lines.Collect m) (at (lines.Collect m)) refl refl refl refl refl
    acks_after m (Some a) known = asked_after (lines.Collect m) (Ack m a.stage a.version) refl (own_sent owner part_of keeps c m known)

    collect_after : (m : Member) → Goes (lines.Collect m) (world.happens owner part_of (at (lines.Collect m)) (lines.Collect m))
    collect_after m =
        cond_both (world.was_booted c.world.parts m) _ _ (Goes (lines.Collect m))
        (λ b. acks_after m (collected (world.receipts_of owner part_of c.world.parts m)) (known_booted owner part_of keeps c l m b))
        (λ _. same_after (lines.Collect m) (at (lines.Collect m)) refl refl refl refl refl)

    leave_after : (m : Member) → Goes (lines.Leave m) (world.happens owner part_of (at (lines.Leave m)) (lines.Leave m))
    leave_after m =
        cond_both (world.was_booted c.world.parts m) _ _ (Goes (lines.Leave m))
        (λ b. cond_both (are_stopped (world.receipts_of owner part_of c.world.parts m)) _ _ (Goes (lines.Leave m))
        (λ _. asked_after (lines.Leave m) (Leave m) refl (own_sent owner part_of keeps c m (known_booted owner part_of keeps c l m b)))
        (λ _. same_after (lines.Leave m) (at (lines.Leave m)) refl refl refl refl refl))
        (λ _. same_after (lines.Leave m) (at (lines.Leave m)) refl refl refl refl refl)

    -- a request is delivered; messages are numbered from 1
    to_after : (k : ℕ) (o : Option Message) → slice_get c.world.messages k ≡ o → Goes (lines.To (suc k)) (world.deliver (at (lines.To (suc k))) o)
    to_after k None e f = same_after (lines.To (suc k)) (at (lines.To (suc k))) refl refl refl refl refl f
    to_after k (Some (Tells m a)) e f = same_after (lines.To (suc k)) (at (lines.To (suc k))) refl refl refl refl refl f
    to_after k (Some (Asks r)) e f =
        let line : WorldEvent = lines.To (suc k) in
        let step = placement_step c.world.placement (change_of r) c.book.clock in
        let u = (world.answers (at line) r step).world in
        let a = answer_of (asker_of r).space (world.table_in step.state (asker_of r).space) step.reply in
        let s = get_some c.book.sent k (let low = get_low c.world.messages k (Asks r) e in let n = l.book.counted in omega arith) in
        let own : IsSent c.book.members (asker_of r) (sent_by c.book line) = subst (IsSent c.book.members (asker_of r)) (sym (ap sent_in s.1)) (l.book.sent k (Asks r) s.0 e s.1) in
        one_after line u (Tells (asker_of r) a) refl refl (deliver_leased owner part_of keeps c (ends u) r a (sent_by c.book line) (askers_of line u) l (follows u f) refl refl refl refl own)

    change_after : (e : WorldEvent) (x : PlaceEvent) (says : PlaceReply → Outcome) → begun_by c.book e ≡ None → moment_of c.book e ≡ c.book.clock → ((h : HostInfo) → x ≡ changes.Register h → ⊥) → Goes e (world.placement_does (at e) x says)
    change_after e x says begun moment none f =
        let u = (world.placement_does (at e) x says).world in
        none_after e u begun refl
        (change_leased owner part_of keeps c (ends u) x (askers_of e u) l (follows u f) (ap (λ (n : ℕ). (placement_step c.world.placement x n).state) moment) none refl refl refl)

    lost_none : (m : Member) (h : HostInfo) → changes.Lost m ≡ changes.Register h → ⊥
    lost_none m h e = cc

    tick_none : (h : HostInfo) → changes.Tick ≡ changes.Register h → ⊥
    tick_none h e = cc

    lost_after : (m : Member) → Goes (lines.Lost m) (world.happens owner part_of (at (lines.Lost m)) (lines.Lost m))
    lost_after m =
        cond_both (world.was_booted c.world.parts m) _ _ (Goes (lines.Lost m))
        (λ _. cond_both (all_stopped c.world.parts m) _ _ (Goes (lines.Lost m))
        (λ _. change_after (lines.Lost m) (changes.Lost m) (world.lost_outcome m) refl refl (lost_none m))
        (λ _. same_after (lines.Lost m) (at (lines.Lost m)) refl refl refl refl refl))
        (λ _. same_after (lines.Lost m) (at (lines.Lost m)) refl refl refl refl refl)

    tick_after : (o : Option Member) → Goes lines.PlacementTick (world.honest_tick (at lines.PlacementTick) o)
    tick_after None = change_after lines.PlacementTick changes.Tick world.dropped_outcome refl refl tick_none
    tick_after (Some m) = same_after lines.PlacementTick (at lines.PlacementTick) refl refl refl refl refl

    restart_after : Goes lines.Restart (world.happens owner part_of (at lines.Restart) lines.Restart)
    restart_after f =
        let u = (world.happens owner part_of (at lines.Restart) lines.Restart).world in
        none_after lines.Restart u refl refl (restart_leased owner part_of keeps c (ends u) (askers_of lines.Restart u) l (follows u f) refl refl refl refl)

    boot_after : (space node : List ℕ) (kinds : List (List ℕ)) → Goes (lines.Boot space node kinds) (world.happens owner part_of (at (lines.Boot space node kinds)) (lines.Boot space node kinds))
    boot_after space node kinds f =
        let e : WorldEvent = lines.Boot space node kinds in
        let u = (world.happens owner part_of (at e) e).world in
        let x : Message = Asks (Register (world.host_of (booted owner part_of keeps c space node) kinds)) in
        let h = boot_leased owner part_of keeps c l space node (ends u) kinds (world.settings_for c.world.settings kinds) (askers_of e u) (follows u f) refl refl refl refl refl in
        let sent = sent_pushed c.book.sent (sent_by c.book e) c.world.messages x l.book.counted in
        subst Sound (λ i. record { world = ends u; book = record { clock = c.book.clock; members = with_begun c.book.members (begun_by c.book e); sent = sym sent i; askers = askers_of e u } }) h

    -- each event but `at`
    event_after : (e : WorldEvent) → is_at e ≡ false → Goes e (world.happens owner part_of (at e) e)
    event_after (lines.At moment) other = absurd (true≢false other)
    event_after (lines.Boot space node kinds) other = boot_after space node kinds
    event_after (lines.Beat m) other = beat_after m
    event_after (lines.Collect m) other = collect_after m
    event_after (lines.Leave m) other = leave_after m
    event_after (lines.To zero) other = same_after (lines.To zero) (at (lines.To zero)) refl refl refl refl refl
    event_after (lines.To (suc k)) other = to_after k (slice_get c.world.messages k) refl
    event_after (lines.Part k i) other = quiet_after (lines.Part k i) tt refl
    event_after (lines.Call number m key least chain) other = quiet_after (lines.Call number m key least chain) tt refl
    event_after (lines.Poll number) other = quiet_after (lines.Poll number) tt refl
    event_after (lines.End number) other = quiet_after (lines.End number) tt refl
    event_after (lines.Hold m key) other = quiet_after (lines.Hold m key) tt refl
    event_after (lines.Release m key) other = quiet_after (lines.Release m key) tt refl
    event_after (lines.Tick m) other = quiet_after (lines.Tick m) tt refl
    event_after (lines.Closing m i) other = quiet_after (lines.Closing m i) tt refl
    event_after (lines.Closed m key) other = quiet_after (lines.Closed m key) tt refl
    event_after (lines.Stop m i) other = quiet_after (lines.Stop m i) tt refl
    event_after (lines.Lost m) other = lost_after m
    event_after lines.PlacementTick other = tick_after (running_among c.world.parts (late_in c.world.placement.rooms c.book.clock))
    event_after lines.Restart other = restart_after

  -- ---- the step

  -- the cluster at another moment, and with another count of events
  recounted : (c : LeasedCluster) (u : ClusterState) → Sound c → Follows owner part_of c.world u → u.placement ≡ c.world.placement → u.messages ≡ c.world.messages → u.boots ≡ c.world.boots → u.settings ≡ c.world.settings → Sound (record c { world = u })
  recounted c u l f placement messages boots settings = same_leased owner part_of keeps c u c.book.askers l f placement messages boots settings

  moment_follows : (c : LeasedCluster) → Sound c → (now : ℕ) → Follows owner part_of c.world (record (c.world) { now = now })
  moment_follows c l now = follows_on owner part_of keeps c.world c.world now c.world.events (follows_self owner part_of c.world l.told l.placed)

  happened : (c : LeasedCluster) → Sound c → (e : WorldEvent) → Follows owner part_of c.world (world.happens owner part_of (record (c.world) { now = moment_of c.book e }) e).world
  happened c l e = line_kept owner part_of (Follows owner part_of c.world) (follows_kept owner part_of keeps c.world) (record (c.world) { now = moment_of c.book e }) e (moment_follows c l (moment_of c.book e))

  noted_leased : (c : LeasedCluster) → Sound c → (e : WorldEvent) → is_at e ≡ false → (r : Result Outcome WorldError) → let h = world.happens owner part_of (record (c.world) { now = moment_of c.book e }) e in
      h.outcome ≡ r → Sound (step_noted c e (record (h.world) { now = c.world.now; events = h.world.events + world.weight_of h.outcome }) r).cluster
  noted_leased c l e other (Ok o) same =
      let h = world.happens owner part_of (record (c.world) { now = moment_of c.book e }) e in
      event_after c l c.world.now (h.world.events + world.weight_of h.outcome) e other (happened c l e)
  noted_leased c l e other (Err x) same =
      let u : ClusterState = record (c.world) { now = moment_of c.book e } in
      let h = world.happens owner part_of u e in
      let rests : h.world ≡ u = (refused_rests owner part_of u e x same).0 in
      recounted c (record (h.world) { now = c.world.now; events = h.world.events + world.weight_of h.outcome }) l
      (follows_on owner part_of keeps c.world h.world c.world.now (h.world.events + world.weight_of h.outcome) (happened c l e))
      (ap (λ (z : ClusterState). z.placement) rests) (ap (λ (z : ClusterState). z.messages) rests) (ap (λ (z : ClusterState). z.boots) rests) (ap (λ (z : ClusterState). z.settings) rests)

  stepped_leased : (c : LeasedCluster) → Sound c → (e : WorldEvent) → Sound (stepped owner part_of c e).cluster
  stepped_leased c l e =
      cond_both (is_at e) _ _ (λ (s : LeasedStep). Sound s.cluster)
      (λ _. l)
      (λ other. cond_both (nat_le most_events c.world.events) _ _ (λ (s : WorldStep). Sound (step_noted c e (record (s.world) { now = c.world.now }) s.outcome).cluster)
      (λ _. l)
      (λ _. noted_leased c l e other (world.happens owner part_of (record (c.world) { now = moment_of c.book e }) e).outcome refl))

  pub step_leased : (c : LeasedCluster) → Sound c → (e : LeaseEvent) → Sound (leased_step owner part_of c e).cluster
  step_leased c l (events.Pass placement steps) = pass_kept owner part_of keeps c placement steps l
  step_leased c l (events.Step e) = stepped_leased c l e
  step_leased c l (events.Answer k) = answer_kept owner part_of keeps c k l

  pub opening_sound : (settings : WorldSettings) → Sound (opening_leased settings)
  opening_sound settings =
      record {
        told = opening_told owner part_of settings;
        placed = record { run = []; leads = refl };
        book = record {
          many = refl;
          boots = λ k m e. absurd (cc);
          within = λ k m e. absurd (cc);
          parts = λ p i. absurd i;
          numbers = λ p i. absurd i;
          counted = refl;
          sent = λ k x s e g. absurd (cc);
          over = λ p m i. absurd i;
        };
        heard = λ j i. absurd (elim i.here [ inl e ↦ subst (λ (z : SpaceRoom). In j z.room.members) e i.inside | inr n ↦ absurd n ]);
      }

  pub run_leased : (c : LeasedCluster) → Sound c → (es : List LeaseEvent) → Sound (leased_run owner part_of c es)
  run_leased c l [] = l
  run_leased c l (e ∷ es) = run_leased (leased_step owner part_of c e).cluster (step_leased c l e) es

  pub reached_leased : (settings : WorldSettings) (es : List LeaseEvent) → Sound (leased_run owner part_of (opening_leased settings) es)
  reached_leased settings es = run_leased (opening_leased settings) (opening_sound settings) es

  -- ---- what it gives

  pub run_stopped : (settings : WorldSettings) (es : List LeaseEvent) → LateAreStopped (leased_run owner part_of (opening_leased settings) es)
  run_stopped settings es = late_stopped owner part_of (leased_run owner part_of (opening_leased settings) es) (reached_leased settings es)

  pub run_invariant : (settings : WorldSettings) (es : List LeaseEvent) → ClusterInvariant owner part_of (leased_run owner part_of (opening_leased settings) es).world
  run_invariant settings es = cluster_invariant owner part_of _ (reached_leased settings es).told

  pub run_once : (settings : WorldSettings) (es : List LeaseEvent) → IsActiveOnce (leased_run owner part_of (opening_leased settings) es).world.parts
  run_once settings es = world_once owner keeps _ (reached_leased settings es).told.safe

  -- ---- refusals

  stopped-true : (s : Stage) → s ≡ Stopped → is_stopped s ≡ true
  stopped-true s e = rw e refl

  all_stopped-from : (ps : List PartState) (m : Member) → AllStopped ps m → all_stopped ps m ≡ true
  all_stopped-from [] m h = refl
  all_stopped-from (x ∷ ps) m h = and_from _ _ (here (same_member m x.member) refl) (all_stopped-from ps m (λ p i e. h p (inr i) e))
    where
      here : (b : Bool) → same_member m x.member ≡ b → (not b || is_stopped x.stage) ≡ true
      here false e = refl
      here true e = stopped-true x.stage (h x (inl refl) (sym (same_member-true m x.member e)))

  nobody_runs : (ps : List PartState) (ms : List Member) → ((m : Member) → In m ms → AllStopped ps m) → running_among ps ms ≡ None
  nobody_runs ps [] h = refl
  nobody_runs ps (m ∷ ms) h = ap (λ (b : Bool). cond b (running_among ps ms) (Some m)) (all_stopped-from ps m (h m (inl refl))) ∙ nobody_runs ps ms (λ n i. h n (inr i))

  -- a world's refusal that becomes that of a member that runs
  dishonest_cause : (x : WorldError) (m : Member) → cause_of x ≡ errors.Dishonest m → x ≡ refused.Dishonest m
  dishonest_cause (refused.Dishonest n) m e = (let same : n ≡ m = cc in ap (λ (z : Member). refused.Dishonest z) same)
  dishonest_cause x m e = absurd (cc)

  err_same : (a b : LeaseError) → ◌≡◌ {A = Result (Option Outcome) LeaseError} (Err a) (Err b) → a ≡ b
  err_same a b e = cc

  abbrev OnlyLost : LeaseEvent → LeasedStep → Type 0
  OnlyLost e s = OnlyLostIsDishonest e s.outcome

  noted_honest : (c : LeasedCluster) → Sound c → (e : WorldEvent) → (r : Result Outcome WorldError) → let h = world.happens owner part_of (record (c.world) { now = moment_of c.book e }) e in
      h.outcome ≡ r → (w : ClusterState) → OnlyLost (events.Step e) (step_noted c e w r)
  noted_honest c l e (Ok o) same w m q = absurd (cc)
  noted_honest c l e (Err x) same w m q =
      let u : ClusterState = record (c.world) { now = moment_of c.book e } in
      let cause : x ≡ refused.Dishonest m = dishonest_cause x m (err_same (cause_of x) (errors.Dishonest m) q) in
      let why = (refused_rests owner part_of u e (refused.Dishonest m) (same ∙ ap (λ (z : WorldError). Err z) cause)).1 in
      elim why [
        | inl lost ↦ ap (λ (z : WorldEvent). events.Step z) lost
        | inr tick ↦ absurd (
            let moment : moment_of c.book e ≡ c.book.clock = ap (λ (z : WorldEvent). moment_of c.book z) tick.0 in
            let none = nobody_runs c.world.parts (late_in c.world.placement.rooms c.book.clock) (late_stopped owner part_of c l) in
            let some : running_among c.world.parts (late_in c.world.placement.rooms c.book.clock) ≡ Some m = ap (λ (n : ℕ). running_among c.world.parts (late_in c.world.placement.rooms n)) (sym moment) ∙ tick.1 in
            cc
            )
      ]

  stepped_honest : (c : LeasedCluster) → Sound c → (e : WorldEvent) → OnlyLost (events.Step e) (stepped owner part_of c e)
  stepped_honest c l e =
      cond_both (is_at e) _ _ (OnlyLost (events.Step e))
      (λ _ m q. absurd (cc))
      (λ other. cond_both (nat_le most_events c.world.events) _ _ (λ (s : WorldStep). OnlyLost (events.Step e) (step_noted c e (record (s.world) { now = c.world.now }) s.outcome))
      (λ _ m q. absurd (cc))
      (λ _.
      let h = world.happens owner part_of (record (c.world) { now = moment_of c.book e }) e in
      noted_honest c l e h.outcome refl (record (h.world) { now = c.world.now; events = h.world.events + world.weight_of h.outcome })))

  step_honest : (c : LeasedCluster) → Sound c → (e : LeaseEvent) → OnlyLost e (leased_step owner part_of c e)
  step_honest c l (events.Pass placement steps) = go (bad_rate placement steps (length c.book.members))
    where
      go : (o : Option ℕ) → OnlyLost (events.Pass placement steps) (passes owner part_of c placement steps o)
      go (Some k) m q = absurd (cc)
      go None m q =
          cond_both (is_past c.book.clock placement || any_past steps c.book.members) _ _ (OnlyLost (events.Pass placement steps))
          (λ _ m q. absurd (cc))
          (λ _. cond_both (nat_lt most_events (c.world.events + length (stops_for c.world.settings.parts (moved steps c.book.members)))) _ _ (OnlyLost (events.Pass placement steps)) (λ _ m q. absurd (cc)) (λ _ m q. absurd (cc))) m q
  step_honest c l (events.Step e) = stepped_honest c l e
  step_honest c l (events.Answer k) = cond_both (is_reply (asks_at c.world.messages k)) _ _ (OnlyLost (events.Answer k)) (λ _ m q. absurd (cc)) (λ _ m q. absurd (cc))

  pub run_honest : (settings : WorldSettings) (es : List LeaseEvent) (e : LeaseEvent) → OnlyLostIsDishonest e (leased_step owner part_of (leased_run owner part_of (opening_leased settings) es) e).outcome
  run_honest settings es e = step_honest (leased_run owner part_of (opening_leased settings) es) (reached_leased settings es) e

-- ---- a refused event changes nothing

module _ (owner : PlacementTable → ActorKey → Option HostInfo) (part_of : ActorKey → ℕ → ℕ) (c : LeasedCluster) (error : LeaseError) where
  abbrev Rests : LeasedStep → Type 0
  Rests s = s.outcome ≡ Err error → s.cluster ≡ c

  noted_rests : (e : WorldEvent) (r : Result Outcome WorldError) → let h = world.happens owner part_of (record (c.world) { now = moment_of c.book e }) e in
      h.outcome ≡ r → Rests (step_noted c e (record (h.world) { now = c.world.now; events = h.world.events + world.weight_of r }) r)
  noted_rests e (Ok o) same q = absurd (cc)
  noted_rests e (Err x) same q =
      let u : ClusterState = record (c.world) { now = moment_of c.book e } in
      let rests : (world.happens owner part_of u e).world ≡ u = (refused_rests owner part_of u e x same).0 in
      let count : c.world.events + 0 ≡ c.world.events = omega arith in
      ap (λ (z : ClusterState). let d : LeasedCluster = record c { world = record z { now = c.world.now; events = z.events + 0 } } in d) rests
      ∙ ap (λ (n : ℕ). let d : LeasedCluster = record c { world = record (c.world) { events = n } } in d) count

  stepped_rests : (e : WorldEvent) → Rests (stepped owner part_of c e)
  stepped_rests e =
      cond_both (is_at e) _ _ Rests
      (λ _ q. refl)
      (λ other. cond_both (nat_le most_events c.world.events) _ _ (λ (s : WorldStep). Rests (step_noted c e (record (s.world) { now = c.world.now }) s.outcome))
      (λ _ q. refl)
      (λ _. noted_rests e (world.happens owner part_of (record (c.world) { now = moment_of c.book e }) e).outcome refl))

  pub step_rests : (e : LeaseEvent) → Rests (leased_step owner part_of c e)
  step_rests (events.Pass placement steps) = go (bad_rate placement steps (length c.book.members))
    where
      go : (o : Option ℕ) → Rests (passes owner part_of c placement steps o)
      go (Some k) q = refl
      go None q =
          cond_both (is_past c.book.clock placement || any_past steps c.book.members) _ _ Rests
          (λ _ q. refl)
          (λ _. cond_both (nat_lt most_events (c.world.events + length (stops_for c.world.settings.parts (moved steps c.book.members)))) _ _ Rests (λ _ q. refl) (λ _ q. absurd (cc))) q
  step_rests (events.Step e) = stepped_rests e
  step_rests (events.Answer k) = cond_both (is_reply (asks_at c.world.messages k)) _ _ Rests (λ _ q. absurd (cc)) (λ _ q. refl)

-- ---- one event more

pub run-pushed : (owner : PlacementTable → ActorKey → Option HostInfo) (part_of : ActorKey → ℕ → ℕ) (c : LeasedCluster) (es : List LeaseEvent) (e : LeaseEvent) → leased_run owner part_of c (es ++ e ∷ []) ≡ (leased_step owner part_of (leased_run owner part_of c es) e).cluster
run-pushed owner part_of c [] e = refl
run-pushed owner part_of c (x ∷ es) e = run-pushed owner part_of (leased_step owner part_of c x).cluster es e
