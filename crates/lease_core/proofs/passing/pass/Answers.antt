use Rattle.std.proofs.Common.{◌≡◌, ℕ, length, sym, ap, ◌∙◌, rules}
use Rattle.lease_core.specs.Lease.{bad_rate}
use Rattle.lease_core.specs.Books.{book_of}
use Rattle.lease_core.proofs.Givings.{rate_given}
use Rattle.lease_core.proofs.passing.pass.Goals as goal

pub returns-in-Some : goal.returns-in-Some
returns-in-Some c k same =
    let many : length c.args.book.now.members.items ≡ c.len.result = search rules in
    rate_given k c.args.world.now (book_of c.args.book.now) same c.args.placement c.args.steps.now c.in-Some.at (ap (bad_rate c.args.placement c.args.steps.now) many ∙ sym c.bad_rate.ensures ∙ c.in-Some.is)

pub pass_rated-requires : goal.pass_rated-requires
pass_rated-requires c =
    let many : length c.args.book.now.members.items ≡ c.len.result = search rules in
    ap (bad_rate c.args.placement c.args.steps.now) many ∙ sym c.bad_rate.ensures ∙ c.in-None.is

pub returns-in-None : goal.returns-in-None
returns-in-None c = c.pass_rated.ensures
