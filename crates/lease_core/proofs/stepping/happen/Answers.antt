use Rattle.std.proofs.Common.{◌≡◌, ℕ, true, false, length, Option, Some, sym, ap, ◌∙◌, subst, inl}
use Rattle.std.specs.Prelude.{Result, Ok, Err}
use Rattle.std.proofs.lemmas.Result.{err_from_is_err_and}
use Rattle.part_model.specs.Part.{ring_owner}
use Rattle.cluster_model.specs.World.{ClusterState, key_part}
use Rattle.world_events.specs.declared.outcome.Outcome.{Outcome}
use Rattle.world_run.specs.Moments.{event_at}
use Rattle.world_run.specs.Worlds.{WorldView, view_of, GivesStep}
use Rattle.lease_core.specs.declared.error.LeaseError.{LeaseError}
use Rattle.lease_core.specs.declared.event.LeaseEvent.TheVariants as events
use Rattle.lease_core.specs.Book.{LeaseBook, place_of, moment_of, sent_by, begun_by, noted}
use Rattle.lease_core.specs.Books.{book_of}
use Rattle.lease_core.specs.Causes.{cause_of}
use Rattle.lease_core.specs.Leased.{is_at, leased_step, GivesLeased}
use Rattle.lease_core.proofs.Givings.{shown, at_given, err_given, ok_given}
use Rattle.lease_core.proofs.stepping.happen.Goals as goal

pub returns-then-is_at : goal.returns-then-is_at
returns-then-is_at c k same = at_given k c.args.world.now (book_of c.args.book.now) same c.args.event (sym c.is_at.ensures ∙ c.if-is_at.true)

pub returns-in_err-reserve : goal.returns-in_err-reserve
returns-in_err-reserve c k same =
    let p = err_from_is_err_and c.from_residual.result c.from_residual.ensures.1 in
    inl (p.1 ∙ ap (λ (x : LeaseError). let q : Result (Option Outcome) LeaseError = Err x in q) p.2, ap (λ (z : LeaseBook). shown c.args.world.now z) c.reserve.ensures.same)

pub returns-in_err-outcome : goal.returns-in_err-outcome
returns-in_err-outcome c k same =
    let v = c.args.world.now in
    let b = book_of c.args.book.now in
    let e = c.args.event in
    let u = c.step_at.new.self in
    let r = c.step_at.result in
    let x = c.in_err-outcome.field-0.0 in
    let p = err_from_is_err_and c.from_residual-in_err-outcome.result c.from_residual-in_err-outcome.ensures.1 in
    let other : is_at e ≡ false = sym c.is_at.ensures ∙ c.if-is_at.false in
    let did : (w : ClusterState) → view_of w ≡ v → GivesStep r v (event_at ring_owner key_part w e (moment_of b e)) u =
    subst (λ (n : ℕ). (w : ClusterState) → view_of w ≡ v → GivesStep r v (event_at ring_owner key_part w e n) u) c.moment_of-moment.ensures c.step_at.ensures.given in
    let is : c.from_residual-in_err-outcome.result ≡ Err (cause_of x) = p.1 ∙ ap (λ (y : LeaseError). let q : Result (Option Outcome) LeaseError = Err y in q) p.2 in
    subst (λ (q : Result (Option Outcome) LeaseError). GivesLeased q (shown v b) (leased_step ring_owner key_part k (events.Step e)) (shown u (book_of c.reserve.new.self))) (sym is)
    (subst (λ (z : LeaseBook). GivesLeased (Err (cause_of x)) (shown v b) (leased_step ring_owner key_part k (events.Step e)) (shown u z)) (sym c.reserve.ensures.same) (err_given k v b same e r x u other did c.in_err-outcome.was))

pub note-requires : goal.note-requires
note-requires c = c.in_ok-reserve.ensures.room

pub returns : goal.returns
returns c k same =
    let v = c.args.world.now in
    let b = book_of c.args.book.now in
    let e = c.args.event in
    let u = c.step_at.new.self in
    let r = c.step_at.result in
    let o = c.in_ok-outcome.outcome in
    let other : is_at e ≡ false = sym c.is_at.ensures ∙ c.if-is_at.false in
    let did : (w : ClusterState) → view_of w ≡ v → GivesStep r v (event_at ring_owner key_part w e (moment_of b e)) u =
    subst (λ (n : ℕ). (w : ClusterState) → view_of w ≡ v → GivesStep r v (event_at ring_owner key_part w e n) u) c.moment_of-moment.ensures c.step_at.ensures.given in
    let made : book_of c.note.new.self ≡ noted b (begun_by b e) (sent_by b e) (place_of b e) (length u.messages) (length u.calls) =
    c.note.ensures ∙ (λ i. noted (c.reserve.ensures.same i) (c.begun_by-begun.ensures i) (c.sent_by-sent.ensures i) (c.place_of-boot.ensures i) (length u.messages) (length u.calls)) in
    subst (λ (z : LeaseBook). GivesLeased (Ok (Some o)) (shown v b) (leased_step ring_owner key_part k (events.Step e)) (shown u z)) (sym made) (ok_given k v b same e r o u other did c.in_ok-outcome.was)
