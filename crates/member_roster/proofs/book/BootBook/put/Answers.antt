use Rattle.std.proofs.Common.{ap, ◌∙◌}
use Rattle.member_roster.specs.Book.{known_in}
use Rattle.member_roster.proofs.Boots.{few_at, put_at}
use Rattle.member_roster.proofs.book.BootBook.put.Goals as goal

pub invariant_of-self-2 : goal.invariant_of-self-2
invariant_of-self-2 c =
    few_at c.args.member.node c.self.inside.boots.entries c.insert.new.self.entries c.in_ok-_before._before c.in_ok-_before.ensures.old c.in_ok-_before.ensures.len c.self.invariant
    (rw (← c.self.view_is) at c.requires)

pub returns-clause-ok : goal.returns-clause-ok
returns-clause-ok c =
    rw (← c.self.view_is) (ap known_in c.in_ok-_before.ensures.entries ∙ put_at c.args.member c.self.inside.boots.entries)
