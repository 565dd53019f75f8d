use Rattle.std.proofs.Common.{◌≡◌, ◌+◌, ℕ, true, false, Bool, List, length, Option, refl, sym, ap, ◌∙◌, subst, None}
use Rattle.std.specs.Prelude.{◌||◌, nat_lt, Result, Ok, Err}
use Rattle.std.proofs.lemmas.Bool.{or_parts}
use Rattle.part_model.specs.Part.{ring_owner}
use Rattle.cluster_model.specs.World.{ClusterState, key_part, most_events, cluster_run}
use Rattle.world_events.specs.declared.outcome.Outcome.{Outcome}
use Rattle.world_events.specs.declared.settings.WorldSettings.{WorldSettings}
use Rattle.world_run.specs.Worlds.{WorldView, view_of}
use Rattle.lease_core.specs.declared.book.MemberClock.{MemberClock}
use Rattle.lease_core.specs.declared.error.LeaseError.{LeaseError}
use Rattle.lease_core.specs.declared.error.LeaseError.TheVariants as errors
use Rattle.lease_core.specs.declared.event.LeaseEvent.TheVariants as events
use Rattle.lease_core.specs.Book.{LeaseBook, is_past, any_past, moved, stops_for}
use Rattle.lease_core.specs.Books.{book_of}
use Rattle.lease_core.specs.Leased.{LeasedStep, leased_step, IsLeasedStep}
use Rattle.lease_core.proofs.Lists.{rates_hold}
use Rattle.lease_core.proofs.Givings.{shown, clock_given, spent_given, passed_given}
use Rattle.lease_core.proofs.passing.pass_rated.Goals as goal

pub reaches_bound-requires : goal.reaches_bound-requires
reaches_bound-requires c = (rates_hold c.args.placement c.args.steps.now (length c.args.book.now.members.items) c.requires).0

pub returns-then-reaches_bound : goal.returns-then-reaches_bound
returns-then-reaches_bound c k same =
    clock_given k c.args.world.now (book_of c.args.book.now) same c.args.placement c.args.steps.now c.requires (sym c.reaches_bound.ensures ∙ c.if-reaches_bound.true)

pub stops_after-stops-requires : goal.stops_after-stops-requires
stops_after-stops-requires c =
    let b = c.args.book.now in
    let here = or_parts (is_past b.clock c.args.placement) (any_past c.args.steps.now b.members.items) (sym c.reaches_bound.ensures ∙ c.if-reaches_bound.false) in
    let lengths : length c.args.steps.now ≡ length b.members.items = (rates_hold c.args.placement c.args.steps.now (length b.members.items) c.requires).0 in
    record {
      lengths = lengths ∙ ap (λ (ms : List MemberClock). length ms) (sym c.as_slice.ensures.value);
      within = ap (λ (ms : List MemberClock). any_past c.args.steps.now ms) c.as_slice.ensures.value ∙ here.1;
    }

pub move_book-requires : goal.move_book-requires
move_book-requires c =
    let b = c.args.book.now in
    record {
      lengths = (rates_hold c.args.placement c.args.steps.now (length b.members.items) c.requires).0;
      within = sym c.reaches_bound.ensures ∙ c.if-reaches_bound.false;
    }

pub returns-then-are_too_many : goal.returns-then-are_too_many
returns-then-are_too_many c k same =
    let v = c.args.world.now in
    let b = book_of c.args.book.now in
    let ss = c.args.steps.now in
    let past : (is_past b.clock c.args.placement || any_past ss b.members) ≡ false = sym c.reaches_bound.ensures ∙ c.if-reaches_bound.false in
    let many : c.are_too_many.result ≡ nat_lt most_events (c.events-count.result + length (stops_for c.settings.result.now.parts (moved ss c.as_slice.result.now))) =
    c.are_too_many.ensures (length (stops_for c.settings.result.now.parts (moved ss c.as_slice.result.now))) c.stops_after-stops.ensures in
    let count : nat_lt most_events (v.events + length (stops_for v.settings.parts (moved ss b.members))) ≡ true =
    (λ i. nat_lt most_events (sym c.events-count.ensures i + length (stops_for (sym c.settings.ensures i).parts (moved ss (sym c.as_slice.ensures.value i))))) ∙ sym many ∙ c.if-are_too_many.true in
    subst (λ (n : ℕ). IsLeasedStep (Err (errors.Spent n)) (leased_step ring_owner key_part k (events.Pass c.args.placement ss)) (shown v b)) (sym c.events-count.ensures)
    (spent_given k v b same c.args.placement ss c.requires past count)

pub returns : goal.returns
returns c k same =
    let v = c.args.world.now in
    let b = book_of c.args.book.now in
    let ss = c.args.steps.now in
    let u = c.stop_ended.new.world in
    let past : (is_past b.clock c.args.placement || any_past ss b.members) ≡ false = sym c.reaches_bound.ensures ∙ c.if-reaches_bound.false in
    let many : c.are_too_many.result ≡ nat_lt most_events (c.events-count.result + length (stops_for c.settings.result.now.parts (moved ss c.as_slice.result.now))) =
    c.are_too_many.ensures (length (stops_for c.settings.result.now.parts (moved ss c.as_slice.result.now))) c.stops_after-stops.ensures in
    let count : nat_lt most_events (v.events + length (stops_for v.settings.parts (moved ss b.members))) ≡ false =
    (λ i. nat_lt most_events (sym c.events-count.ensures i + length (stops_for (sym c.settings.ensures i).parts (moved ss (sym c.as_slice.ensures.value i))))) ∙ sym many ∙ c.if-are_too_many.false in
    let members : c.as_slice-2.result.now ≡ moved ss b.members = c.as_slice-2.ensures.value ∙ ap (λ (z : LeaseBook). z.members) c.move_book.ensures in
    let did : (w : ClusterState) → view_of w ≡ v → view_of (cluster_run ring_owner key_part w (stops_for v.settings.parts (moved ss b.members))) ≡ u =
    λ w e. (λ i. view_of (cluster_run ring_owner key_part w (stops_for (sym c.settings.ensures i).parts (sym members i)))) ∙ c.stop_ended.ensures w e in
    subst (λ (z : LeaseBook). IsLeasedStep (Ok None) (leased_step ring_owner key_part k (events.Pass c.args.placement ss)) (shown u z)) (sym c.move_book.ensures)
    (passed_given k v b same c.args.placement ss u c.requires past count did)
