use Rattle.std.proofs.Common.{Some, None}
use Rattle.member_roster.proofs.Boots.{greatest_at}
use Rattle.member_roster.proofs.book.BootBook.greatest.Goals as goal

pub returns-in-Some : goal.returns-in-Some
returns-in-Some c = rw (← c.self.view_is) (greatest_at c.args.node.now c.self.inside.boots.entries (Some c.in-Some.greatest.now) c.in-Some.ensures.value)

pub returns-in-None : goal.returns-in-None
returns-in-None c = rw (← c.self.view_is) (greatest_at c.args.node.now c.self.inside.boots.entries None c.in-None.ensures.value)
