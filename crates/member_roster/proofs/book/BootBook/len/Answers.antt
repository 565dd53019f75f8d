use Rattle.std.proofs.Common.{sym, ◌∙◌}
use Rattle.member_roster.proofs.Boots.{known_count}
use Rattle.member_roster.proofs.book.BootBook.len.Goals as goal

pub returns-clause-count : goal.returns-clause-count
returns-clause-count c = rw (← c.self.view_is) (c.len.ensures.len ∙ sym (known_count c.self.inside.boots.entries))
