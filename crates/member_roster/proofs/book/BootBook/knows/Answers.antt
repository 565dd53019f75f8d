use Rattle.std.proofs.Common.{◌∙◌}
use Rattle.member_roster.proofs.Boots.{known_at}
use Rattle.member_roster.proofs.book.BootBook.knows.Goals as goal

pub returns : goal.returns
returns c = rw (← c.self.view_is) (c.contains_key.ensures ∙ known_at c.args.node.now c.self.inside.boots.entries)
