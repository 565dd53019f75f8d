use Rattle.std.proofs.Common.{◌≡◌, true, false, Option, None, sym, ap, ◌∙◌, subst}
use Rattle.std.specs.Prelude.{Result, Ok}
use Rattle.part_model.specs.Part.{ring_owner}
use Rattle.cluster_model.specs.World.{key_part}
use Rattle.lease_core.specs.declared.book.Sent.{Sent}
use Rattle.lease_core.specs.declared.event.LeaseEvent.TheVariants as events
use Rattle.lease_core.specs.Book.{LeaseBook, sent_at, leases_extended}
use Rattle.lease_core.specs.Books.{book_of}
use Rattle.lease_core.specs.Leased.{leased_step, IsLeasedStep}
use Rattle.lease_core.proofs.Givings.{shown, no_reply_given, answer_given}
use Rattle.lease_core.proofs.stepping.answer.Goals as goal

pub returns-then-not-is_reply : goal.returns-then-not-is_reply
returns-then-not-is_reply c k same = no_reply_given k c.args.world.now (book_of c.args.book.now) same c.args.message (sym c.is_reply.ensures ∙ c.if-not-is_reply.true)

pub returns : goal.returns
returns c k same =
    let v = c.args.world.now in
    let b = book_of c.args.book.now in
    let made : book_of c.extend_in.new.book ≡ record b { members = leases_extended b.members (sent_at b.sent c.args.message) } =
    c.extend_in.ensures ∙ ap (λ (s : Sent). record b { members = leases_extended b.members s }) c.sent_at-sent.ensures in
    subst (λ (z : LeaseBook). IsLeasedStep (Ok None) (leased_step ring_owner key_part k (events.Answer c.args.message)) (shown v z)) (sym made)
    (answer_given k v b same c.args.message (sym c.is_reply.ensures ∙ c.if-not-is_reply.false))
