-- Each way in which a step of a world with leases ends, as the definitions have it.
use Rattle.std.proofs.Common.{◌≡◌, ◌⊎◌, ℕ, zero, suc, ◌+◌, ◌-◌, ◌<◌, ◌≤◌, Bool, true, false, cond, List, [], ◌∷◌, ◌++◌, length, get_or, drop, Option, None, Some, refl, sym, ap, ◌∙◌, subst, inl, inr, arith}
use Rattle.std.specs.Prelude.{nat_lt, ◌||◌, Result, Ok, Err}
use Rattle.std.proofs.lemmas.Bool.{cond-true, cond-false}
use Rattle.lease_core.specs.Lease.{bad_rate, has_ended}
use Rattle.actor_names.specs.declared.member.Member.{Member}
use Rattle.turn_core.specs.CellSound.{In}
use Rattle.part_model.specs.Part.{ring_owner}
use Rattle.placement_core.specs.Placement.{late_in}
use Rattle.cluster_model.specs.Invariant.{AllStopped}
use Rattle.world_events.specs.declared.event.WorldEvent.{WorldEvent}
use Rattle.world_events.specs.declared.event.WorldEvent.TheVariants as lines
use Rattle.world_events.specs.declared.outcome.Outcome.{Outcome}
use Rattle.world_events.specs.declared.error.WorldError.{WorldError}
use Rattle.world_events.specs.declared.error.WorldError.TheVariants as refused
use Rattle.cluster_model.proofs.Lines.{cluster_run-append}
use Rattle.cluster_model.specs.World as world
use Rattle.cluster_model.specs.World.{ClusterState, WorldStep, key_part, most_events, cluster_run}
use Rattle.world_run.specs.Looks.{asks_at}
use Rattle.world_run.specs.Moments.{event_at}
use Rattle.world_run.specs.Worlds.{WorldView, view_of, GivesStep, IsStep}
use Rattle.lease_core.specs.declared.book.MemberClock.{MemberClock}
use Rattle.lease_core.specs.declared.error.LeaseError.{LeaseError}
use Rattle.lease_core.specs.declared.error.LeaseError.TheVariants as errors
use Rattle.lease_core.specs.declared.event.LeaseEvent.{LeaseEvent}
use Rattle.lease_core.specs.declared.event.LeaseEvent.TheVariants as events
use Rattle.lease_core.specs.Causes.{cause_of}
use Rattle.lease_core.specs.Book.{LeaseBook, sent_at, place_of, moment_of, sent_by, begun_by, noted, moved, is_past, any_past, stops_of, stops_if_ended, stops_for, leases_extended}
use Rattle.lease_core.specs.Leased.{LeasedCluster, LeasedStep, LeaseView, leased_view, refuse, is_at, is_reply, answered, step_noted, stepped, passed, passes, leased_step, leased_run, opening_leased, GivesLeased, IsLeasedStep, IsReachedLease, OnlyLostIsDishonest}
use Rattle.world_run.proofs.RingSpaces.{ring_keeps}
use Rattle.lease_core.proofs.Loops.{drop_at}
use Rattle.lease_core.proofs.Laws.{run_stopped, run_honest, run-pushed}

-- what a world and a book show
abbrev pub shown : WorldView → LeaseBook → LeaseView
shown v b = record { world = v; book = b }

module _ (c : LeasedCluster) (v : WorldView) (b : LeaseBook) (same : leased_view c ≡ shown v b) where
  world_is : view_of c.world ≡ v
  world_is = ap (λ (z : LeaseView). z.world) same

  book_is : c.book ≡ b
  book_is = ap (λ (z : LeaseView). z.book) same

  -- a step that is refused at once
  refusal_given : (e : LeaseEvent) (x : LeaseError) → leased_step ring_owner key_part c e ≡ refuse c x → IsLeasedStep (Err x) (leased_step ring_owner key_part c e) (shown v b)
  refusal_given e x is = subst (λ (s : LeasedStep). IsLeasedStep (Err x) s (shown v b)) (sym is) (refl, sym same)

  -- ---- an event of the world

  pub at_given : (e : WorldEvent) → is_at e ≡ true → GivesLeased (Err errors.HasAt) (shown v b) (leased_step ring_owner key_part c (events.Step e)) (shown v b)
  at_given e t = inr (refusal_given (events.Step e) errors.HasAt (cond-true (is_at e) _ _ t))

  stepped_is : (e : WorldEvent) (r : Result Outcome WorldError) → is_at e ≡ false → (event_at ring_owner key_part c.world e (moment_of c.book e)).outcome ≡ r →
      leased_step ring_owner key_part c (events.Step e) ≡ step_noted c e (event_at ring_owner key_part c.world e (moment_of c.book e)).world r
  stepped_is e r f is = cond-false (is_at e) _ _ f ∙ ap (λ (z : Result Outcome WorldError). step_noted c e (event_at ring_owner key_part c.world e (moment_of c.book e)).world z) is

  -- what the world gives, at the moment that the book gives
  at_moment : (e : WorldEvent) (r : Result Outcome WorldError) (u : WorldView) → ((w : ClusterState) → view_of w ≡ v → GivesStep r v (event_at ring_owner key_part w e (moment_of b e)) u) → GivesStep r v (event_at ring_owner key_part c.world e (moment_of c.book e)) u
  at_moment e r u did = subst (λ (z : LeaseBook). GivesStep r v (event_at ring_owner key_part c.world e (moment_of z e)) u) (sym book_is) (did c.world world_is)

  err_ok : (o : Outcome) (x : WorldError) (r : Result Outcome WorldError) → r ≡ Ok o → r ≡ Err x → ⊥
  err_ok o x r e f = (let g : ◌≡◌ {A = Result Outcome WorldError} (Ok o) (Err x) = sym e ∙ f in cc)

  err_same : (x y : WorldError) (r : Result Outcome WorldError) → r ≡ Err x → r ≡ Err y → x ≡ y
  err_same x y r e f = (let g : ◌≡◌ {A = Result Outcome WorldError} (Err x) (Err y) = sym e ∙ f in cc)

  pub err_given : (e : WorldEvent) (r : Result Outcome WorldError) (x : WorldError) (u : WorldView) → is_at e ≡ false → ((w : ClusterState) → view_of w ≡ v → GivesStep r v (event_at ring_owner key_part w e (moment_of b e)) u) → r ≡ Err x →
      GivesLeased (Err (cause_of x)) (shown v b) (leased_step ring_owner key_part c (events.Step e)) (shown u b)
  err_given e r x u f did is = elim (at_moment e r u did) [
    | inl k ↦ inl (ap (λ (z : WorldError). let q : Result (Option Outcome) LeaseError = Err (cause_of z) in q) (err_same x refused.OutOfMemory r is k.0), ap (λ (z : WorldView). shown z b) k.1)
    | inr k ↦ (
        let s = event_at ring_owner key_part c.world e (moment_of c.book e) in
        let step = stepped_is e (Err x) f (sym k.0 ∙ is) in
        inr (subst (λ (z : LeasedStep). IsLeasedStep (Err (cause_of x)) z (shown u b)) (sym step) (refl, (λ i. shown (k.1 i) (sym book_is i)))))
  ]

  pub ok_given : (e : WorldEvent) (r : Result Outcome WorldError) (o : Outcome) (u : WorldView) → is_at e ≡ false → ((w : ClusterState) → view_of w ≡ v → GivesStep r v (event_at ring_owner key_part w e (moment_of b e)) u) → r ≡ Ok o →
      GivesLeased (Ok (Some o)) (shown v b) (leased_step ring_owner key_part c (events.Step e)) (shown u (noted b (begun_by b e) (sent_by b e) (place_of b e) (length u.messages) (length u.calls)))
  ok_given e r o u f did is = elim (at_moment e r u did) [
    | inl k ↦ absurd (err_ok o refused.OutOfMemory r is k.0)
    | inr k ↦ (
        let s = event_at ring_owner key_part c.world e (moment_of c.book e) in
        let step = stepped_is e (Ok o) f (sym k.0 ∙ is) in
        inr (subst (λ (z : LeasedStep). IsLeasedStep (Ok (Some o)) z (shown u (noted b (begun_by b e) (sent_by b e) (place_of b e) (length u.messages) (length u.calls)))) (sym step)
        (refl, (λ i. shown (k.1 i) (let z : LeaseBook = sym book_is i in noted z (begun_by z e) (sent_by z e) (place_of z e) (length (k.1 i).messages) (length (k.1 i).calls))))))
  ]

  -- ---- a pass

  pub rate_given : (placement : ℕ) (steps : List ℕ) (at : ℕ) → bad_rate placement steps (length b.members) ≡ Some at → IsLeasedStep (Err (errors.BadRate at)) (leased_step ring_owner key_part c (events.Pass placement steps)) (shown v b)
  rate_given placement steps at e =
      refusal_given (events.Pass placement steps) (errors.BadRate at)
      (ap (λ (o : Option ℕ). passes ring_owner key_part c placement steps o) (ap (λ (z : LeaseBook). bad_rate placement steps (length z.members)) book_is ∙ e))

  within : (placement : ℕ) (steps : List ℕ) → bad_rate placement steps (length b.members) ≡ None → leased_step ring_owner key_part c (events.Pass placement steps) ≡ passes ring_owner key_part c placement steps None
  within placement steps e = ap (λ (o : Option ℕ). passes ring_owner key_part c placement steps o) (ap (λ (z : LeaseBook). bad_rate placement steps (length z.members)) book_is ∙ e)

  pub clock_given : (placement : ℕ) (steps : List ℕ) → bad_rate placement steps (length b.members) ≡ None → (is_past b.clock placement || any_past steps b.members) ≡ true →
      IsLeasedStep (Err errors.Clock) (leased_step ring_owner key_part c (events.Pass placement steps)) (shown v b)
  clock_given placement steps e past =
      refusal_given (events.Pass placement steps) errors.Clock
      (within placement steps e ∙ cond-true (is_past c.book.clock placement || any_past steps c.book.members) _ _ (ap (λ (z : LeaseBook). is_past z.clock placement || any_past steps z.members) book_is ∙ past))

  -- how many events there are with the stops of a pass
  abbrev pub counted : WorldView → LeaseBook → List ℕ → ℕ
  counted w z steps = w.events + length (stops_for w.settings.parts (moved steps z.members))

  clocks : (placement : ℕ) (steps : List ℕ) → bad_rate placement steps (length b.members) ≡ None → (is_past b.clock placement || any_past steps b.members) ≡ false →
      leased_step ring_owner key_part c (events.Pass placement steps) ≡ cond (nat_lt most_events (c.world.events + length (stops_for c.world.settings.parts (moved steps c.book.members)))) (refuse c (errors.Spent c.world.events)) (passed ring_owner key_part c placement steps)
  clocks placement steps e past =
      within placement steps e ∙ cond-false (is_past c.book.clock placement || any_past steps c.book.members) _ _ (ap (λ (z : LeaseBook). is_past z.clock placement || any_past steps z.members) book_is ∙ past)

  count_is : (steps : List ℕ) → nat_lt most_events (c.world.events + length (stops_for c.world.settings.parts (moved steps c.book.members))) ≡ nat_lt most_events (counted v b steps)
  count_is steps = λ i. nat_lt most_events (counted (world_is i) (book_is i) steps)

  pub spent_given : (placement : ℕ) (steps : List ℕ) → bad_rate placement steps (length b.members) ≡ None → (is_past b.clock placement || any_past steps b.members) ≡ false → nat_lt most_events (counted v b steps) ≡ true →
      IsLeasedStep (Err (errors.Spent v.events)) (leased_step ring_owner key_part c (events.Pass placement steps)) (shown v b)
  spent_given placement steps e past spent =
      subst (λ (n : ℕ). IsLeasedStep (Err (errors.Spent n)) (leased_step ring_owner key_part c (events.Pass placement steps)) (shown v b)) (ap (λ (z : WorldView). z.events) world_is)
      (refusal_given (events.Pass placement steps) (errors.Spent c.world.events) (clocks placement steps e past ∙ cond-true _ _ _ (count_is steps ∙ spent)))

  pub passed_given : (placement : ℕ) (steps : List ℕ) (u : WorldView) → bad_rate placement steps (length b.members) ≡ None → (is_past b.clock placement || any_past steps b.members) ≡ false → nat_lt most_events (counted v b steps) ≡ false →
      ((w : ClusterState) → view_of w ≡ v → view_of (cluster_run ring_owner key_part w (stops_for v.settings.parts (moved steps b.members))) ≡ u) →
      IsLeasedStep (Ok None) (leased_step ring_owner key_part c (events.Pass placement steps)) (shown u (record b { clock = b.clock + placement; members = moved steps b.members }))
  passed_given placement steps u e past few did =
      let d = record b { clock = b.clock + placement; members = moved steps b.members } in
      subst (λ (z : LeasedStep). IsLeasedStep (Ok None) z (shown u d)) (sym (clocks placement steps e past ∙ cond-false _ _ _ (count_is steps ∙ few))) (
        refl,
        (λ i. shown
            ((sym (did c.world world_is) ∙ (λ j. view_of (cluster_run ring_owner key_part c.world (stops_for (sym world_is j).settings.parts (moved steps (sym book_is j).members))))) i)
            (let z : LeaseBook = sym book_is i in record z { clock = z.clock + placement; members = moved steps z.members })),
      )

  -- ---- an answer

  pub no_reply_given : (k : ℕ) → is_reply (asks_at v.messages k) ≡ false → IsLeasedStep (Err errors.NoReply) (leased_step ring_owner key_part c (events.Answer k)) (shown v b)
  no_reply_given k f = refusal_given (events.Answer k) errors.NoReply (cond-false (is_reply (asks_at c.world.messages k)) _ _ (ap (λ (z : WorldView). is_reply (asks_at z.messages k)) world_is ∙ f))

  pub answer_given : (k : ℕ) → is_reply (asks_at v.messages k) ≡ true → IsLeasedStep (Ok None) (leased_step ring_owner key_part c (events.Answer k)) (shown v (record b { members = leases_extended b.members (sent_at b.sent k) }))
  answer_given k t =
      let d = record b { members = leases_extended b.members (sent_at b.sent k) } in
      subst (λ (z : LeasedStep). IsLeasedStep (Ok None) z (shown v d)) (sym (cond-true (is_reply (asks_at c.world.messages k)) _ _ (ap (λ (z : WorldView). is_reply (asks_at z.messages k)) world_is ∙ t)))
      (refl, (λ i. shown (sym world_is i) (let z : LeaseBook = sym book_is i in record z { members = leases_extended z.members (sent_at z.sent k) })))

-- ---- reached

-- what a step gives is reached if what was before is
pub reached_on : (v u : LeaseView) (e : LeaseEvent) (r : Result (Option Outcome) LeaseError) → IsReachedLease v → ((c : LeasedCluster) → leased_view c ≡ v → GivesLeased r v (leased_step ring_owner key_part c e) u) → IsReachedLease u
reached_on v u e r h did =
    let c = leased_run ring_owner key_part (opening_leased h.settings) h.events in
    elim (did c (sym h.leads)) [
      | inl k ↦ subst IsReachedLease (sym k.1) h
      | inr k ↦ record {
        settings = h.settings;
        events = h.events ++ e ∷ [];
        leads = k.1 ∙ ap leased_view (sym (run-pushed ring_owner key_part (opening_leased h.settings) h.events e));
      }
    ]

-- each member that a Tick of the placement would drop has stopped
pub late_shown : (v : LeaseView) → IsReachedLease v → (m : Member) → In m (late_in v.world.placement.rooms v.book.clock) → AllStopped v.world.parts m
late_shown v h =
    subst (λ (z : LeaseView). (m : Member) → In m (late_in z.world.placement.rooms z.book.clock) → AllStopped z.world.parts m) (sym h.leads) (run_stopped ring_owner key_part ring_keeps h.settings h.events)

memory_honest : (m : Member) → ◌≡◌ {A = Result (Option Outcome) LeaseError} (Err errors.OutOfMemory) (Err (errors.Dishonest m)) → ⊥
memory_honest m e = cc

-- only a `lost` is refused because its member runs
pub honest_shown : (v u : LeaseView) (e : LeaseEvent) (r : Result (Option Outcome) LeaseError) → IsReachedLease v → ((c : LeasedCluster) → leased_view c ≡ v → GivesLeased r v (leased_step ring_owner key_part c e) u) → OnlyLostIsDishonest e r
honest_shown v u e r h did m q =
    elim (did (leased_run ring_owner key_part (opening_leased h.settings) h.events) (sym h.leads)) [
      | inl k ↦ absurd (memory_honest m (sym k.0 ∙ q))
      | inr k ↦ run_honest ring_owner key_part ring_keeps h.settings h.events e m (sym k.0 ∙ q)
    ]

-- ---- stops

pub stops-next : (m : Member) (part count : ℕ) → (count ≡ 0 → ⊥) → stops_of m part count ≡ lines.Stop m part ∷ stops_of m (part + 1) (count - 1)
stops-next m part zero some = absurd (some refl)
stops-next m part (suc n) some =
    let a : suc part ≡ part + 1 = omega arith in
    let b : n ≡ suc n - 1 = omega arith in
    λ i. lines.Stop m part ∷ stops_of m (a i) (b i)

-- the stops of the member at a place, and of those after it
pub stops_from : (parts : ℕ) (ms : List MemberClock) (i : ℕ) (d : MemberClock) (w : ClusterState) → i < length ms →
    cluster_run ring_owner key_part w (stops_for parts (drop i ms)) ≡ cluster_run ring_owner key_part (cluster_run ring_owner key_part w (stops_if_ended parts (get_or ms i d))) (stops_for parts (drop (i + 1) ms))
stops_from parts ms i d w l =
    ap (λ (zs : List MemberClock). cluster_run ring_owner key_part w (stops_for parts zs)) (drop_at ms i d l) ∙ cluster_run-append ring_owner key_part w (stops_if_ended parts (get_or ms i d)) (stops_for parts (drop (i + 1) ms))

-- ---- the code's own steps

-- no stop
pub stops_over : (m : Member) (part count : ℕ) (w : ClusterState) (v : WorldView) → count ≡ 0 → view_of w ≡ v → view_of (cluster_run ring_owner key_part w (stops_of m part count)) ≡ v
stops_over m part count w v none e = ap (λ (n : ℕ). view_of (cluster_run ring_owner key_part w (stops_of m part n))) none ∙ e

-- one stop, and those after it
pub stops_more : (m : Member) (part count : ℕ) (w : ClusterState) (u x : WorldView) (r : Result Outcome WorldError) → (count ≡ 0 → ⊥) → IsStep r (world.cluster_step ring_owner key_part w (lines.Stop m part)) u →
    ((z : ClusterState) → view_of z ≡ u → view_of (cluster_run ring_owner key_part z (stops_of m (part + 1) (count - 1))) ≡ x) → view_of (cluster_run ring_owner key_part w (stops_of m part count)) ≡ x
stops_more m part count w u x r some step rest =
    ap (λ (es : List WorldEvent). view_of (cluster_run ring_owner key_part w es)) (stops-next m part count some) ∙ rest (world.cluster_step ring_owner key_part w (lines.Stop m part)).world (sym step.1)

-- a lease that hasn't ended, and one that has
pub lasts_given : (parts : ℕ) (m : MemberClock) (w : ClusterState) (v : WorldView) → has_ended m.lease m.clock ≡ false → view_of w ≡ v → view_of (cluster_run ring_owner key_part w (stops_if_ended parts m)) ≡ v
lasts_given parts m w v f e = ap (λ (es : List WorldEvent). view_of (cluster_run ring_owner key_part w es)) (cond-false (has_ended m.lease m.clock) (stops_of m.member 0 parts) [] f) ∙ e

pub ended_given : (parts : ℕ) (m : MemberClock) (w : ClusterState) (x : WorldView) → has_ended m.lease m.clock ≡ true → view_of (cluster_run ring_owner key_part w (stops_of m.member 0 parts)) ≡ x → view_of (cluster_run ring_owner key_part w (stops_if_ended parts m)) ≡ x
ended_given parts m w x t e = ap (λ (es : List WorldEvent). view_of (cluster_run ring_owner key_part w es)) (cond-true (has_ended m.lease m.clock) (stops_of m.member 0 parts) [] t) ∙ e

-- a step keeps what is promised of it
pub record IsPromised (v u : LeaseView) (e : LeaseEvent) (r : Result (Option Outcome) LeaseError) : Type 0 where
  pub reached : IsReachedLease u
  pub stopped : (m : Member) → In m (late_in u.world.placement.rooms u.book.clock) → AllStopped u.world.parts m
  pub honest : OnlyLostIsDishonest e r

pub promised : (v u : LeaseView) (e : LeaseEvent) (r : Result (Option Outcome) LeaseError) → IsReachedLease v → ((c : LeasedCluster) → leased_view c ≡ v → GivesLeased r v (leased_step ring_owner key_part c e) u) → IsPromised v u e r
promised v u e r h did = let reached = reached_on v u e r h did in record { reached = reached; stopped = late_shown u reached; honest = honest_shown v u e r h did }

-- the stops of an element, and of those after it
pub stops_here : (parts : ℕ) (ms : List MemberClock) (i : ℕ) (d : MemberClock) (w : ClusterState) → i < length ms → d ≡ get_or ms i d →
    cluster_run ring_owner key_part w (stops_for parts (drop i ms)) ≡ cluster_run ring_owner key_part (cluster_run ring_owner key_part w (stops_if_ended parts d)) (stops_for parts (drop (i + 1) ms))
stops_here parts ms i d w l e =
    stops_from parts ms i d w l ∙ ap (λ (z : MemberClock). cluster_run ring_owner key_part (cluster_run ring_owner key_part w (stops_if_ended parts z)) (stops_for parts (drop (i + 1) ms))) (sym e)
